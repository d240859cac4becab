-- A linear congruential generator of 64 bits; its numbers are made of the high 31.
use Rattle.std.specs.Prelude.{cond, ℕ, ◌+◌, ◌*◌, ◌/◌, ◌%◌, ◌^◌, eqb}

abbrev pub after : ℕ → ℕ
after s = ((s * 6364136223846793005) % 2 ^ 64 + 1442695040888963407) % 2 ^ 64

-- the number below n that a state gives; 0 where n is 0
abbrev pub below_of : ℕ → ℕ → ℕ
below_of s n = cond (eqb n 0) 0 (s / 2 ^ 33 % n)
