-- The sink that a session hands back.
use Rattle.std.specs.Prelude.{◌≡◌, Ok, Result}
use Rattle.circuit.specs.declared.Gate.{Gate}
use Rattle.sinks.specs.Meaning.{Meaning}
use Rattle.sinks.specs.Sending.{Kept}
use Rattle.refusals.specs.declared.session.SessionRefusal.{SessionRefusal}

-- t is s, closed after what winding back sent; and where the answer is yes, nothing was sent
pub record HandedBack {X : Type 0} (meaning : X → Meaning) (took : X → Gate → X → Type 0) (shut : X → X → Type 0) (s : X) (answer : Result (Unit {0}) SessionRefusal) (t : X) : Type 0 where
  pub last : X
  pub kept : Kept meaning took s last
  pub unsent : answer ≡ Ok tt → last ≡ s
  pub closed : shut last t

-- t is s, closed after some more gates, and takes none after them
pub record ClosedFull {X : Type 0} (meaning : X → Meaning) (took : X → Gate → X → Type 0) (shut : X → X → Type 0) (s t : X) : Type 0 where
  pub last : X
  pub kept : Kept meaning took s last
  pub closed : shut last t
  pub full : (meaning t).free ≡ 0
