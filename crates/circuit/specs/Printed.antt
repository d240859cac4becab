-- A gate as text: its name, then its lines in base ten, controls first.
use Rattle.std.specs.Prelude.{ℕ, List, ◌++◌, codes, decimal}
use Rattle.circuit.specs.declared.Gate.{Gate}
use Rattle.circuit.specs.declared.Gate.TheVariants.{Not, Cnot, And, Unand}

abbrev pub printed : Gate → List ℕ
printed (Not t) = codes "not " ++ decimal t
printed (Cnot a t) = codes "cnot " ++ (decimal a ++ (codes " " ++ decimal t))
printed (And a b t) = codes "and " ++ (decimal a ++ (codes " " ++ (decimal b ++ (codes " " ++ decimal t))))
printed (Unand a b t) = codes "unand " ++ (decimal a ++ (codes " " ++ (decimal b ++ (codes " " ++ decimal t))))
