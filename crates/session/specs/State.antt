-- The questions of each call, put to a session; and what a session is after a move.
use Rattle.std.specs.Prelude.{◌≡◌, ℕ, true, false, List, [], length, replicate, None, Result, OnOk, OnErr, slice_index_or}
use Rattle.std.specs.Borrow.{Bor}
use Rattle.circuit.specs.declared.Gate.{Gate}
use Rattle.network.specs.Wires.{Net}
use Rattle.network.specs.Networks.{sealed}
use Rattle.network.specs.declared.network.Network.{Network}
use Rattle.circuit.specs.Gates.{fitting}
use Rattle.sinks.specs.Chain.{Chain}
use Rattle.sinks.specs.Meaning.{Meaning}
use Rattle.ledger.specs.Ledgers.{Noted, line_in, past}
use Rattle.ledger.specs.declared.moves.Move.{Move}
use Rattle.ledger.specs.declared.moves.Move.TheVariants.{Release}
use Rattle.session.specs.Questions.{Question, first_no, compute_questions, release_questions, copy_questions, end_questions, move_room, sent}
use Rattle.sinks.specs.Sending.{Kept}
use Rattle.refusals.specs.declared.session.SessionRefusal.{SessionRefusal}
use Rattle.session.specs.declared.session.Session.{Session}

module _ {X : Type 0} where
  abbrev pub net_of : Session X → Net
  net_of s = sealed s.network.now

  -- the gates that are sent for a move made now
  abbrev pub sent_now : Session X → Move → List Gate
  sent_now s made = sent (net_of s) s.ledger.held made

  -- node i released from the line that it is held on
  abbrev pub release_move : Session X → ℕ → Move
  release_move s i = Release i (line_in (slice_index_or s.ledger.held i None))

  module _ (meaning : X → Meaning) (s : Session X) where
    abbrev pub room_asked : Move → List Question
    room_asked made = move_room (net_of s) (meaning s.sink).width (meaning s.sink).free s.ledger made

    abbrev pub compute_asked : ℕ → ℕ → List Question
    compute_asked i l = compute_questions (net_of s) (meaning s.sink).width (meaning s.sink).free s.ledger i l

    abbrev pub release_asked : ℕ → List Question
    release_asked i = release_questions (net_of s) (meaning s.sink).width (meaning s.sink).free s.ledger i

    abbrev pub copy_asked : ℕ → List Question
    copy_asked j = copy_questions (net_of s) (meaning s.sink).width (meaning s.sink).free s.ledger j

    abbrev pub end_asked : List Question
    end_asked = end_questions (net_of s) (meaning s.sink).width (meaning s.sink).free s.ledger

  -- a session opened on a network and a sink: nothing is held or stands
  pub record Opened (network : Bor Network) (sink : X) (s : Session X) : Type 0 where
    pub on_network : s.network ≡ network
    pub on_sink : s.sink ≡ sink
    pub stands : past s.ledger ≡ []
    pub holds : s.ledger.held ≡ replicate 192 None
    pub copies : s.ledger.odd ≡ replicate 64 false
    pub undo : s.ledger.undo ≡ 0

  -- t has the network of s, and its sink after some more gates
  pub record Steady (meaning : X → Meaning) (took : X → Gate → X → Type 0) (s t : Session X) : Type 0 where
    pub network : t.network ≡ s.network
    pub sink : Kept meaning took s.sink t.sink

  -- t is s after an accepted move: it stands, and its gates were taken in order if they fit the width
  pub record Moved (meaning : X → Meaning) (took : X → Gate → X → Type 0) (s : Session X) (made : Move) (t : Session X) : Type 0 where
    pub ledger : Noted s.ledger made (length (sent_now s made)) t.ledger
    pub taken : fitting (meaning s.sink).width (sent_now s made) ≡ true → Chain took s.sink (sent_now s made) t.sink

  -- how a call that asks for a move answers, and what it leaves
  pub record Called (meaning : X → Meaning) (took : X → Gate → X → Type 0) (s : Session X) (made : Move) (questions : List Question) (answer : Result (Unit {0}) SessionRefusal) (t : Session X) : Type 0 where
    pub answers_first_no : answer ≡ first_no questions
    pub refused_changes_nothing : OnErr answer (t ≡ s)
    pub keeps_network_and_only_adds_gates : Steady meaning took s t
    pub accepted_makes_the_move : OnOk answer (Moved meaning took s made t)
