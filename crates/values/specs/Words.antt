-- Words of bits, counted from the lowest.
use Rattle.std.specs.Prelude.{ℕ, ◌+◌, ◌*◌, Bool, cond, List, [], ◌∷◌, ◌==◌}
use Rattle.std.specs.Int.{bit_at}

-- bit i of n
abbrev pub bit : ℕ → ℕ → Bool
bit n i = bit_at n i == 1

-- the number that has these bits, the lowest first
abbrev pub word_of : List Bool → ℕ
word_of [] = 0
word_of (b ∷ bs) = cond b 1 0 + 2 * word_of bs
