-- The wires of a text, each with the draft's wire that it became once it is given.
use Rattle.std.specs.Prelude.{ℕ, Bool, cond, not, ◌&&◌, List, length, map, is_some, Some, None, Ok, Err, Option, Result, nat_lt, slice_index_or}
use Rattle.std.specs.List.{range_with_len}
use Rattle.network.specs.declared.wire.Gate.{Gate}
use Rattle.network.specs.declared.wire.Gate.TheVariants.{Xor, And, Inv}
use Rattle.refusals.specs.declared.text.TextRefusal.{TextRefusal}
use Rattle.refusals.specs.declared.text.TextRefusal.TheVariants.{Wiring}

-- k wires, of which the first n are given
abbrev pub inputs_given : ℕ → ℕ → List (Option ℕ)
inputs_given n k = map (λ w. cond (nat_lt w n) (Some w) None) (range_with_len 0 k)

-- the draft's wire, if the text's wire w is given
abbrev pub given_at : List (Option ℕ) → ℕ → Option ℕ
given_at wires w = slice_index_or wires w None

-- the wire w is below the count and not yet given
abbrev pub open_at : List (Option ℕ) → ℕ → Bool
open_at wires w = nat_lt w (length wires) && not (is_some (slice_index_or wires w None))

abbrev pub both_given : (ℕ → ℕ → Gate) → Option ℕ → Option ℕ → Result Gate TextRefusal
both_given gate None b = Err Wiring
both_given gate (Some a) None = Err Wiring
both_given gate (Some a) (Some b) = Ok (gate a b)

abbrev pub one_given : (ℕ → Gate) → Option ℕ → Result Gate TextRefusal
one_given gate None = Err Wiring
one_given gate (Some a) = Ok (gate a)

-- a gate over the draft's wires, if the wires that it reads are given
abbrev pub resolved_gate : List (Option ℕ) → Gate → Result Gate TextRefusal
resolved_gate wires (Xor a b) = both_given Xor (given_at wires a) (given_at wires b)
resolved_gate wires (And a b) = both_given And (given_at wires a) (given_at wires b)
resolved_gate wires (Inv a) = one_given Inv (given_at wires a)
