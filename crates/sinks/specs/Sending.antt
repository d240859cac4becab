-- What offering a list of gates does to a sink.
use Rattle.std.specs.Prelude.{◌≡◌, ◌≤◌, true, List, length, Ok}
use Rattle.circuit.specs.declared.Gate.{Gate}
use Rattle.circuit.specs.Gates.{fitting}
use Rattle.sinks.specs.Meaning.{Meaning, answer}
use Rattle.sinks.specs.Chain.{Chain}

-- t is s after a gate that it accepted
pub record Accepted {S : Type 0} (meaning : S → Meaning) (took : S → Gate → S → Type 0) (s : S) (g : Gate) (t : S) : Type 0 where
  pub yes : answer g (meaning s) ≡ Ok tt
  pub taken : took s g t

-- t is s after some more gates, each accepted in its turn, and has its width
pub record Kept {S : Type 0} (meaning : S → Meaning) (took : S → Gate → S → Type 0) (s t : S) : Type 0 where
  pub width : (meaning t).width ≡ (meaning s).width
  pub gates : List Gate
  pub taken : Chain (Accepted meaning took) s gates t

-- every gate is taken, in order, where there are places enough and the gates fit the width
unfoldable pub Taken : {S : Type 0} (meaning : S → Meaning) (took : S → Gate → S → Type 0) (s : S) (gates : List Gate) (t : S) → Type 0
Taken meaning took s gates t = length gates ≤ (meaning s).free → fitting (meaning s).width gates ≡ true → Chain took s gates t
