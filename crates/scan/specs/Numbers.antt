-- What a text of decimal digits is worth.
use Rattle.std.specs.Prelude.{ℕ, ◌+◌, ◌-◌, ◌*◌, Bool, true, cond, ◌&&◌, List, [], ◌∷◌, Some, None, Option, nat_le}

-- 0 to 9
abbrev pub digit : ℕ → Bool
digit b = nat_le 48 b && nat_le b 57

abbrev pub all_digits : List ℕ → Bool
all_digits [] = true
all_digits (b ∷ bs) = digit b && all_digits bs

-- the digits bs after digits that are worth v
abbrev pub worth : ℕ → List ℕ → ℕ
worth v [] = v
worth v (b ∷ bs) = worth (v * 10 + (b - 48)) bs

-- digits worth at most 65,535
abbrev pub number_of : List ℕ → Option ℕ
number_of bs = cond (all_digits bs && nat_le (worth 0 bs) 65535) (Some (worth 0 bs)) None
