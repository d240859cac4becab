-- What a sink means, and how an accepted offer and a close change it.
use Rattle.std.specs.Prelude.{◌≡◌, ℕ, ◌+◌, ◌*◌, ◌^◌, ◌<◌, ◌≤◌, Bool, List, length, Some, Option, Result}
use Rattle.circuit.specs.declared.Gate.{Gate}
use Rattle.circuit.specs.Gates.{after, tcost}
use Rattle.refusals.specs.declared.offer.OfferRefusal.{OfferRefusal}
use Rattle.sinks.specs.Questions.{judged}

-- the action gives the end state of each start state, or None, a fault
pub record Meaning : Type 0 where
  pub width : ℕ
  pub action : List Bool → Option (List Bool)
  pub tcount : ℕ
  pub free : ℕ

-- the answer to an offer
abbrev pub answer : Gate → Meaning → Result (Unit {0}) OfferRefusal
answer g m = judged g m.width m.free

-- n is m with one gate more
pub record Appended (m : Meaning) (g : Gate) (n : Meaning) : Type 0 where
  pub width : n.width ≡ m.width
  pub action : (s : List Bool) → length s ≡ m.width → n.action s ≡ after (m.action s) g
  pub tcount : n.tcount ≡ m.tcount + tcost g
  pub free : m.free ≤ n.free + 1

-- n is m closed
pub record Closed (m n : Meaning) : Type 0 where
  pub width : n.width ≡ m.width
  pub action : (s : List Bool) → length s ≡ m.width → n.action s ≡ m.action s
  pub tcount : n.tcount ≡ m.tcount
  pub free : n.free ≡ 0

-- nothing was taken yet: every state is left unchanged
pub record Fresh (m : Meaning) : Type 0 where
  pub action : (s : List Bool) → length s ≡ m.width → m.action s ≡ Some s
  pub tcount : m.tcount ≡ 0

-- the T-count fits 64 bits, now and after any offers
abbrev pub Bounded : Meaning → Type 0
Bounded m = m.tcount + 4 * m.free < 2 ^ 64
