-- The questions of a session's calls, each call's in its order: the first no is the answer.
use Rattle.std.specs.Prelude.{ℕ, ◌+◌, ◌*◌, Bool, cond, not, ◌&&◌, List, [], ◌∷◌, length, take, is_some, None, Ok, Err, Option, Result, nat_le, nat_lt, slice_index_or}
use Rattle.circuit.specs.declared.Gate.{Gate}
use Rattle.network.specs.Wires.{Net, NodeShape, node_at, output_form, node_count, output_count}
use Rattle.ledger.specs.declared.ledger.Ledger.{Ledger}
use Rattle.ledger.specs.declared.moves.Move.{Move}
use Rattle.ledger.specs.declared.moves.Move.TheVariants.{Compute, Release, Copy}
use Rattle.moves.specs.Fans.{joined}
use Rattle.ledger.specs.Ledgers.{standing, all_ready, free_line, any_held, all_true, line_in}
use Rattle.moves.specs.Spelling.{around_of, core_of}
use Rattle.refusals.specs.declared.session.SessionRefusal.{SessionRefusal}
use Rattle.refusals.specs.declared.session.SessionRefusal.TheVariants.{NoPlaces, Width, NoSuchNode, NodeHeld, OperandNotHeld, LineNotFree, LogFull, NodeNotHeld, NoSuchOutput, StillHeld, EvenCopies}

-- what is asked, and the refusal of its no
pub record Question : Type 0 where
  pub holds : Bool
  pub refusal : SessionRefusal

abbrev pub ask : Bool → SessionRefusal → Question
ask b e = record { holds = b; refusal = e }

abbrev pub first_no : List Question → Result (Unit {0}) SessionRefusal
first_no [] = Ok tt
first_no (q ∷ qs) = cond q.holds (first_no qs) (Err q.refusal)

-- the gates that are sent for a move: of the gates around its core a session keeps the first 512
abbrev pub sent : Net → List (Option ℕ) → Move → List Gate
sent net held made = joined (take 512 (around_of net held made)) (core_of net held made)

abbrev pub width_fits : Net → ℕ → Bool
width_fits net w = nat_le (net.inputs + output_count net) w && nat_le w 320

abbrev pub operands_held : Net → List (Option ℕ) → NodeShape → Bool
operands_held net held d = all_ready net.inputs held d.first.set && all_ready net.inputs held d.second.set

abbrev pub free_ancilla : Net → ℕ → List (Option ℕ) → ℕ → Bool
free_ancilla net w held l = nat_le (net.inputs + output_count net) l && (nat_lt l w && free_line l held)

-- a move of so many gates, where so many places are free: it, its undoing and that of all that stands fit
abbrev pub room_questions : Ledger → ℕ → ℕ → List Question
room_questions L free cost = ask (nat_lt (standing L) 1024) LogFull ∷ (ask (nat_le (L.undo + 2 * cost) free) NoPlaces ∷ [])

-- a network, a sink's width and free places, and a session's ledger
module _ (net : Net) (w free : ℕ) (L : Ledger) where
  abbrev pub move_room : Move → List Question
  move_room made = room_questions L free (length (sent net L.held made))

  abbrev pub compute_questions : ℕ → ℕ → List Question
  compute_questions i l =
      ask (width_fits net w) Width
      ∷ (ask (nat_lt i (node_count net)) NoSuchNode
      ∷ (ask (not (is_some (slice_index_or L.held i None))) NodeHeld
      ∷ (ask (operands_held net L.held (node_at net i)) OperandNotHeld
      ∷ (ask (free_ancilla net w L.held l) LineNotFree
      ∷ move_room (Compute i l)))))

  abbrev pub release_questions : ℕ → List Question
  release_questions i =
      ask (width_fits net w) Width
      ∷ (ask (nat_lt i (node_count net)) NoSuchNode
      ∷ (ask (is_some (slice_index_or L.held i None)) NodeNotHeld
      ∷ (ask (operands_held net L.held (node_at net i)) OperandNotHeld
      ∷ move_room (Release i (line_in (slice_index_or L.held i None))))))

  abbrev pub copy_questions : ℕ → List Question
  copy_questions j =
      ask (width_fits net w) Width
      ∷ (ask (nat_lt j (output_count net)) NoSuchOutput
      ∷ (ask (all_ready net.inputs L.held (output_form net j).set) OperandNotHeld
      ∷ move_room (Copy j)))

  abbrev pub end_questions : List Question
  end_questions =
      ask (width_fits net w) Width
      ∷ (ask (not (any_held L.held)) StillHeld
      ∷ (ask (all_true (take (output_count net) L.odd)) EvenCopies
      ∷ []))
