-- Polynomials over the field of two elements in k variables, in which a variable times itself is itself.
-- So a term is the product of a set of variables, and the product of two terms is that of the union of their sets.
use Rattle.std.specs.Prelude.{ℕ, zero, suc, ◌+◌, ◌^◌, Bool, true, false, cond, not, ◌&&◌, ◌||◌}
use Rattle.values.specs.Bits.{xor, equal}
use Rattle.values.specs.Words.{bit}

-- a set of variables: whether the last one is in it, and the set of the others
abbrev pub VariableSet : ℕ → Type 0
VariableSet zero = Unit {0}
VariableSet (suc k) = Bool × VariableSet k

abbrev pub union : (k : ℕ) → VariableSet k → VariableSet k → VariableSet k
union zero s t = tt
union (suc k) s t = (s.0 || t.0, union k s.1 t.1)

abbrev pub is_empty : (k : ℕ) → VariableSet k → Bool
is_empty zero s = true
is_empty (suc k) s = not s.0 && is_empty k s.1

abbrev pub is_subset : (k : ℕ) → VariableSet k → VariableSet k → Bool
is_subset zero s t = true
is_subset (suc k) s t = (not s.0 || t.0) && is_subset k s.1 t.1

abbrev pub same_set : (k : ℕ) → VariableSet k → VariableSet k → Bool
same_set zero s t = true
same_set (suc k) s t = equal s.0 t.0 && same_set k s.1 t.1

-- the sum of f over all sets: over those without the last variable, and over those with it
abbrev pub sum_over : (k : ℕ) → (VariableSet k → Bool) → Bool
sum_over zero f = f tt
sum_over (suc k) f = xor (sum_over k (λ s. f (false, s))) (sum_over k (λ s. f (true, s)))

-- whether f holds of every set
abbrev pub every : (k : ℕ) → (VariableSet k → Bool) → Bool
every zero f = f tt
every (suc k) f = every k (λ s. f (false, s)) && every k (λ s. f (true, s))

-- a polynomial: the coefficient of the product of the variables in each set
abbrev pub Coefficients : ℕ → Type 0
Coefficients k = VariableSet k → Bool

-- no term at all
abbrev pub zero_polynomial : (k : ℕ) → Coefficients k
zero_polynomial k s = false

-- the empty product alone
abbrev pub one_polynomial : (k : ℕ) → Coefficients k
one_polynomial k s = is_empty k s

-- coefficient by coefficient, in the field of two elements
abbrev pub plus : (k : ℕ) → Coefficients k → Coefficients k → Coefficients k
plus k a b s = xor (a s) (b s)

-- the coefficient of u in a product is the sum over the pairs of sets whose union is u
abbrev pub times : (k : ℕ) → Coefficients k → Coefficients k → Coefficients k
times k a b u = sum_over k (λ s. sum_over k (λ t. same_set k (union k s t) u && (a s && b t)))

-- the test of equality: in every coefficient
abbrev pub same_coefficients : (k : ℕ) → Coefficients k → Coefficients k → Bool
same_coefficients k a b = every k (λ s. equal (a s) (b s))

-- the sum of the coefficients of the subsets of p: the value of the polynomial where just the variables in p are 1
abbrev pub subset_sums : (k : ℕ) → Coefficients k → Coefficients k
subset_sums k a p = sum_over k (λ s. is_subset k s p && a s)

-- the number that a set is in binary
abbrev pub number_of : (k : ℕ) → VariableSet k → ℕ
number_of zero s = 0
number_of (suc k) s = cond s.0 (2 ^ k) 0 + number_of k s.1

-- a polynomial as a number: bit s is the coefficient of the product of the variables in the binary set s
abbrev pub coefficients : (k : ℕ) → ℕ → Coefficients k
coefficients k n s = bit n (number_of k s)
