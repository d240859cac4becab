-- The coefficients of a sum and of a product.
use Rattle.std.proofs.Common.{◌≡◌, ℕ, false, ◌&&◌, sym, refl, ap, ◌∙◌, ap₂}
use mathlib.Core.Path.{fun_ext}
use lib.Bits.{bit_and, bit_xor}
use Rattle.values.specs.Words.{bit}
use Rattle.polynomials.specs.Polynomials.{VariableSet, Coefficients, number_of, coefficients, plus, times, zero_polynomial, one_polynomial, subset_sums, is_empty}
use Rattle.polynomials.specs.PolynomialLaws.{every_yes, sums_back, sums_times}
use Rattle.values.specs.Bits.{equal, equal_yes}
use Rattle.values.proofs.WordLaws.{bit_of_xor, bit_of_and}

pub sum_coefficients : (k a b : ℕ) → coefficients k (bit_xor a b) ≡ plus k (coefficients k a) (coefficients k b)
sum_coefficients k a b = fun_ext (λ (s : VariableSet k). bit_of_xor a b (number_of k s))

-- the same of a word known to be the sum
pub is_the_sum : (n a b : ℕ) → n ≡ bit_xor a b → coefficients 6 n ≡ plus 6 (coefficients 6 a) (coefficients 6 b)
is_the_sum n a b e = ap (coefficients 6) e ∙ sum_coefficients 6 a b

pub zero_coefficients : coefficients 6 0 ≡ zero_polynomial 6
zero_coefficients = fun_ext (λ (s : VariableSet 6). equal_yes (bit 0 (number_of 6 s)) false (every_yes 6 (λ s. equal (bit 0 (number_of 6 s)) false) refl s))

-- only the empty set is the number 0
pub one_coefficients : coefficients 6 1 ≡ one_polynomial 6
one_coefficients =
    fun_ext (λ (s : VariableSet 6).
    equal_yes (bit 1 (number_of 6 s)) (is_empty 6 s) (every_yes 6 (λ s. equal (bit 1 (number_of 6 s)) (is_empty 6 s)) refl s))

-- the subset sums of the product are the products of the subset sums
pub product_sums : (k : ℕ) (a b : Coefficients k) (x y : ℕ) → coefficients k x ≡ subset_sums k a → coefficients k y ≡ subset_sums k b
    → subset_sums k (coefficients k (bit_and x y)) ≡ times k a b
product_sums k a b x y p q =
    let both : Coefficients k → Coefficients k → Coefficients k = λ f g s. f s && g s in
    ap (subset_sums k)
    (fun_ext (λ (s : VariableSet k). bit_of_and x y (number_of k s)) ∙ ap₂ both p q ∙ sym (fun_ext (sums_times k a b)))
    ∙ fun_ext (sums_back k (times k a b))
