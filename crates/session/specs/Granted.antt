-- A move that a session's questions grant, with its gates, or the refusal of the first no.
use Rattle.std.specs.Prelude.{◌≡◌, ◌<◌, ◌≤◌, List, length, Ok, Err, Result}
use Rattle.sinks.specs.Meaning.{Meaning}
use Rattle.moves.specs.Spelled.{spelled}
use Rattle.ledger.specs.Ledgers.{standing}
use Rattle.ledger.specs.declared.moves.Move.{Move}
use Rattle.session.specs.Questions.{Question, first_no}
use Rattle.session.specs.State.{sent_now}
use Rattle.refusals.specs.declared.session.SessionRefusal.{SessionRefusal}
use Rattle.session.specs.declared.session.Plan.{Plan}
use Rattle.session.specs.declared.session.Session.{Session}

pub record Grant {X : Type 0} (meaning : X → Meaning) (s : Session X) (move : Move) (p : Plan) : Type 0 where
  pub made : p.made ≡ move
  pub gates : spelled p.gates ≡ sent_now s move
  pub log : standing s.ledger < 1024
  pub places : length (sent_now s move) ≤ (meaning s.sink).free

abbrev pub Granted : {X : Type 0} → (X → Meaning) → Session X → Move → List Question → Result Plan SessionRefusal → Type 0
Granted meaning s move questions (Ok p) = (first_no questions ≡ Ok tt) × Grant meaning s move p
Granted meaning s move questions (Err e) = first_no questions ≡ Err e
