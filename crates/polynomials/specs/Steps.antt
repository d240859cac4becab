-- How subset sums are computed: one variable after the other. Only contracts of private functions name these.
use Rattle.std.specs.Prelude.{ℕ, zero, suc, Bool, false, cond, ◌&&◌, ◌==◌}
use Rattle.values.specs.Bits.{xor}
use Rattle.polynomials.specs.Polynomials.{VariableSet, Coefficients}

-- whether variable v is in a set
abbrev pub contains : (k : ℕ) → ℕ → VariableSet k → Bool
contains zero v s = false
contains (suc k) v s = cond (v == k) s.0 (contains k v s.1)

-- the set without variable v
abbrev pub without : (k : ℕ) → ℕ → VariableSet k → VariableSet k
without zero v s = s
without (suc k) v s = cond (v == k) (false, s.1) (s.0, without k v s.1)

-- adds, to the coefficient of each set with variable v, that of the set without it
abbrev pub add_without : (k : ℕ) → ℕ → Coefficients k → Coefficients k
add_without k v a s = xor (a s) (contains k v s && a (without k v s))
