-- A run of accepted offers: from s, the gates in order, to t.
use Rattle.std.specs.Prelude.{List, [], ◌∷◌}
use Rattle.circuit.specs.declared.Gate.{Gate}

pub data Chain {S : Type 0} (took : S → Gate → S → Type 0) : S → List Gate → S → Type 0 where
  done : {s : S} → Chain took s [] s
  then : {s t u : S} {g : Gate} {gs : List Gate} → took s g t → Chain took t gs u → Chain took s (g ∷ gs) u
