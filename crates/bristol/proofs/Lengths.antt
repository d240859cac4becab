-- No question about the pieces of a text has the number 30, which is that of its length.
use Rattle.std.proofs.Common.{◌≡◌, ℕ, zero, suc, ◌+◌, Bool, false, eqb, List, [], ◌∷◌, Some, None, Ok, Err, Option, Result, refl, arith}
use Rattle.scan.specs.Cuts.{Piece}
use Rattle.network.specs.Wires.{Net}
use Rattle.bristol.specs.Answers.{and_then, Answered}
use Rattle.bristol.specs.Building.{Building, opened, added, marked, finished}
use Rattle.bristol.specs.Reading.{Reading, then_read, worth_or_no, number_first, operation_first, sum_first, width_first, header_first, line_first, end_first}
use Rattle.bristol.specs.Refusals.{is_too_long}
use Rattle.bristol.specs.Texts.{gates_first, read_pieces}
use Rattle.bristol.specs.declared.gate.GateLine.{GateLine}
use Rattle.refusals.specs.declared.draft.DraftRefusal.TheVariants.{OutOfMemory}
use Rattle.refusals.specs.declared.text.TextRefusal.{TextRefusal}
use Rattle.refusals.specs.declared.text.TextRefusal.TheVariants.{TooLong, Draft}

abbrev is_30 : {Y : Type 0} → Result Y ℕ → Bool
is_30 (Ok y) = false
is_30 (Err n) = eqb n 30

record Other {Y : Type 0} (m : Result Y ℕ) : Type 0 where
  pub other : is_30 m ≡ false

other_then : {X Y : Type 0} (m : Result X ℕ) (f : X → Result Y ℕ) → Other m → ((x : X) → Other (f x)) → Other (and_then m f)
other_then (Ok x) f p q = q x
other_then (Err n) f p q = record { other = p.other }

other_read : {X Y : Type 0} (m : Reading X) (f : X → List Piece → Result Y ℕ) → Other m → ((x : X) (ps : List Piece) → Other (f x ps)) → Other (then_read m f)
other_read (Ok (x, ps)) f p q = q x ps
other_read (Err n) f p q = record { other = p.other }

other_worth : (o : Option ℕ) (ps : List Piece) → Other (worth_or_no o ps)
other_worth None ps = record { other = refl }
other_worth (Some n) ps = record { other = refl }

other_number : (ps : List Piece) → Other (number_first ps)
other_number ps = record { other = grind arith }

other_operation : (ps : List Piece) → Other (operation_first ps)
other_operation ps = record { other = grind arith }

other_sum : (k s : ℕ) (ps : List Piece) → Other (sum_first k s ps)
other_sum zero s ps = record { other = refl }
other_sum (suc k) s ps = other_read (number_first ps) _ (other_number ps) (λ n rest. other_sum k (s + n) rest)

other_width : (ps : List Piece) → Other (width_first ps)
other_width ps = other_read (number_first ps) _ (other_number ps) (λ k rest. other_sum k 0 rest)

other_header : (ps : List Piece) → Other (header_first ps)
other_header ps =
    other_read (number_first ps) _ (other_number ps)
    (λ g ps1. other_read (number_first ps1) _ (other_number ps1)
    (λ w ps2. other_read (width_first ps2) _ (other_width ps2)
    (λ i ps3. other_read (width_first ps3) _ (other_width ps3) (λ o ps4. record { other = grind arith }))))

other_line : (ps : List Piece) → Other (line_first ps)
other_line ps = record { other = grind arith }

other_end : (ps : List Piece) → Other (end_first ps)
other_end [] = record { other = refl }
other_end (p ∷ ps) = record { other = refl }

other_added : (b : Building) (line : GateLine) → Other (added b line)
other_added b line = record { other = grind arith }

other_gates : (k : ℕ) (b : Building) (ps : List Piece) → Other (gates_first k b ps)
other_gates zero b ps = record { other = refl }
other_gates (suc k) b ps =
    other_read (line_first ps) _ (other_line ps)
    (λ line rest. other_then (added b line) _ (other_added b line) (λ c. other_gates k c rest))

other_marked : (s : Net) (ws : List (Option ℕ)) → is_30 (marked s ws) ≡ false
other_marked s [] = refl
other_marked s (None ∷ ws) = refl
other_marked s (Some w ∷ ws) = let ih : (t : Net) → is_30 (marked t ws) ≡ false = λ t. other_marked t ws in grind (arith, ih)

other_finished : (m : ℕ) (b : Building) → Other (finished m b)
other_finished m b = record { other = grind (arith, other_marked) }

other_pieces : (ps : List Piece) → Other (read_pieces ps)
other_pieces ps =
    other_read (header_first ps) _ (other_header ps)
    (λ h ps1. other_then (opened h.inputs h.wires) _ (record { other = grind arith })
    (λ b. other_read (gates_first h.gates b ps1) _ (other_gates h.gates b ps1)
    (λ c ps2. other_read (end_first ps2) _ (other_end ps2) (λ _ _. other_finished h.outputs c))))

never : TooLong ≡ Draft OutOfMemory → ⊥
never e = cc

answered : {X Y : Type 0} (f : X → Y) (r : Result X TextRefusal) (m : Result Y ℕ) → Other m → Answered f r m → is_too_long r ≡ false
answered f r m p h = grind (arith, p.other)

-- a text that is read is not refused as too long
pub not_too_long : {X : Type 0} (f : X → Net) (r : Result X TextRefusal) (ps : List Piece) → Answered f r (read_pieces ps) → is_too_long r ≡ false
not_too_long f r ps h = answered f r (read_pieces ps) (other_pieces ps) h
