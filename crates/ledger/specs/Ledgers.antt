-- The standing moves of a ledger, and what a move does to what is held.
use Rattle.std.specs.Prelude.{◌≡◌, ℕ, ◌+◌, ◌-◌, ◌^◌, ◌<◌, Bool, false, cond, not, ◌||◌, List, ◌∷◌, reverse, take, is_some, Some, None, Option, ◌==◌, nat_lt, slice_index_or, slice_set}
use Rattle.std.specs.List.{list_all, list_any}
use Rattle.ledger.specs.declared.moves.Move.{Move}
use Rattle.ledger.specs.declared.moves.Move.TheVariants.{Compute, Release, Copy}
use Rattle.ledger.specs.declared.ledger.Ledger.{Ledger}

-- the standing moves, the newest first
abbrev pub past : Ledger → List Move
past L = reverse (take L.standing L.log)

-- how many moves stand
abbrev pub standing : Ledger → ℕ
standing L = L.standing

-- the move that takes another back
abbrev pub undoing : Move → Move
undoing (Compute i l) = Release i l
undoing (Release i l) = Compute i l
undoing (Copy j) = Copy j

-- the lines of the held nodes after a move, and with that move taken back
abbrev pub held_after : List (Option ℕ) → Move → List (Option ℕ)
held_after held (Compute i l) = slice_set held i (Some l)
held_after held (Release i l) = slice_set held i None
held_after held (Copy j) = held

abbrev pub held_before : List (Option ℕ) → Move → List (Option ℕ)
held_before held made = held_after held (undoing made)

-- a copy turns the parity of its output's copies, forwards and backwards alike
abbrev pub odd_after : List Bool → Move → List Bool
odd_after odd (Compute i l) = odd
odd_after odd (Release i l) = odd
odd_after odd (Copy j) = slice_set odd j (not (slice_index_or odd j false))

-- the line that a node is held on
abbrev pub line_in : Option ℕ → ℕ
line_in None = 0
line_in (Some l) = l

-- the line of a basis element: an input's own, or the one that its node is held on
abbrev pub line_of : ℕ → List (Option ℕ) → ℕ → ℕ
line_of n held e = cond (nat_lt e n) e (line_in (slice_index_or held (e - n) None))

-- an element is at hand if it is an input or a held node
abbrev pub ready : ℕ → List (Option ℕ) → ℕ → Bool
ready n held e = nat_lt e n || is_some (slice_index_or held (e - n) None)

abbrev pub all_ready : ℕ → List (Option ℕ) → List ℕ → Bool
all_ready n held es = list_all (ready n held) es

-- a node is held on line l
abbrev pub on_line : Option ℕ → ℕ → Bool
on_line None l = false
on_line (Some k) l = k == l

-- no node is held on line l
abbrev pub free_line : ℕ → List (Option ℕ) → Bool
free_line l held = list_all (λ o. not (on_line o l)) held

abbrev pub any_held : List (Option ℕ) → Bool
any_held held = list_any is_some held

abbrev pub all_true : List Bool → Bool
all_true bs = list_all (λ b. b) bs

-- M is L with one more move, of so many gates
pub record Noted (L : Ledger) (made : Move) (cost : ℕ) (M : Ledger) : Type 0 where
  pub stands : past M ≡ made ∷ past L
  pub holds : M.held ≡ held_after L.held made
  pub turns : M.odd ≡ odd_after L.odd made
  pub charges : L.undo + cost < 2 ^ 64 → M.undo ≡ L.undo + cost

-- M is L with its last move taken off
pub record TookOff (L : Ledger) (made : Move) (M : Ledger) : Type 0 where
  pub stood : past L ≡ made ∷ past M
  pub fewer : standing M + 1 ≡ standing L
  pub holds : M.held ≡ held_before L.held made
  pub turns : M.odd ≡ odd_after L.odd made
  pub owes : M.undo ≡ L.undo

abbrev pub TakenBack : Ledger → Option Move → Ledger → Type 0
TakenBack L None M = (standing L ≡ 0) × (M ≡ L)
TakenBack L (Some made) M = TookOff L made M

-- M is L with so many gates fewer to undo
pub record Undone (L : Ledger) (cost : ℕ) (M : Ledger) : Type 0 where
  pub log : M.log ≡ L.log
  pub standing : M.standing ≡ L.standing
  pub held : M.held ≡ L.held
  pub odd : M.odd ≡ L.odd
  pub undo : M.undo ≡ L.undo - cost
