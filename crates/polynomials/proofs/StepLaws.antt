-- Adding variable by variable gives the subset sums.
use Rattle.std.proofs.Common.{◌≡◌, ℕ, zero, suc, ◌≤◌, Bool, true, false, cond, ◌&&◌, eqb, sym, refl, ap, ◌∙◌, ap₂, arith}
use Rattle.std.proofs.lemmas.Bool.{eq-eqb, ne_eqb}
use Rattle.values.specs.Bits.{xor, xor_zero, xor_comm}
use Rattle.polynomials.specs.Polynomials.{VariableSet, Coefficients, subset_sums}
use Rattle.polynomials.specs.Steps.{contains, without, add_without}
use Rattle.polynomials.specs.PolynomialLaws.{low, high, sums_low}

-- the step for each variable below n
abbrev pub add_subsets : (k : ℕ) → ℕ → Coefficients k → Coefficients k
add_subsets k zero a = a
add_subsets k (suc n) a = add_without k n (add_subsets k n a)

-- a step at another variable than the last keeps the halves apart
steps_inside : (k n : ℕ) → n ≤ k → (a : Coefficients (suc k)) (b : Bool) (s : VariableSet k)
    → add_subsets (suc k) n a (b, s) ≡ add_subsets k n (λ t. a (b, t)) s
steps_inside k zero h a b s = refl
steps_inside k (suc n) h a b s =
    let f : Coefficients (suc k) = add_subsets (suc k) n a in
    let other : eqb n k ≡ false = ne_eqb n k (λ e. omega arith) in
    let inside : (t : VariableSet k) → f (b, t) ≡ add_subsets k n (λ t. a (b, t)) t = steps_inside k n (omega arith) a b in
    ap (λ (x : Bool). xor (f (b, s)) (cond x b (contains k n s) && f (cond x (false, s) (b, without k n s)))) other
    ∙ ap₂ (λ (x y : Bool). xor x (contains k n s && y)) (inside s) (inside (without k n s))

-- the step at the last variable adds the half without it to the half with it
step_last : (k : ℕ) (a f : Coefficients (suc k)) (b : Bool) (s : VariableSet k) → ((c : Bool) → f (c, s) ≡ subset_sums k (λ t. a (c, t)) s)
    → add_without (suc k) k f (b, s) ≡ subset_sums (suc k) a (b, s)
step_last k a f b s half =
    ap (λ (x : Bool). xor (f (b, s)) (cond x b (contains k k s) && f (cond x (false, s) (b, without k k s)))) (eq-eqb k k refl)
    ∙ ap₂ (λ (x y : Bool). xor x (b && y)) (half b) (half false) ∙ at b
  where
    at : (c : Bool) → xor (subset_sums k (λ t. a (c, t)) s) (c && subset_sums k (low k a) s) ≡ subset_sums (suc k) a (c, s)
    at false = xor_zero (subset_sums k (low k a) s) ∙ sym (sums_low k a s)
    at true = xor_comm (subset_sums k (high k a) s) (subset_sums k (low k a) s)

pub steps_sum : (k : ℕ) (a : Coefficients k) (s : VariableSet k) → add_subsets k k a s ≡ subset_sums k a s
steps_sum zero a s = refl
steps_sum (suc k) a (b, s) =
    step_last k a (add_subsets (suc k) k a) b s
    (λ (c : Bool). steps_inside k k (omega arith) a c s ∙ steps_sum k (λ t. a (c, t)) s)
