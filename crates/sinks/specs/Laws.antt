-- What every sink keeps to.
use Rattle.std.specs.Prelude.{◌≡◌, Ok}
use Rattle.circuit.specs.declared.Gate.{Gate}
use Rattle.sinks.specs.Meaning.{Meaning, Appended, Closed, Bounded, answer}

pub record Laws {S : Type 0} (meaning : S → Meaning) (took : S → Gate → S → Type 0) (shut : S → S → Type 0) : Type 0 where
  pub bounded : (s : S) → Bounded (meaning s)
  pub appended : (s : S) (g : Gate) (t : S) → answer g (meaning s) ≡ Ok tt → took s g t → Appended (meaning s) g (meaning t)
  pub again : (s t u : S) → shut s t → shut t u → u ≡ t
  pub closed : (s t : S) → shut s t → Closed (meaning s) (meaning t)
