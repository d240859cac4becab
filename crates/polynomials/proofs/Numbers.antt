-- A number below 2 ^ (2 ^ k) is known by its coefficients.
use Rattle.std.proofs.Common.{◌≡◌, ℕ, zero, suc, ◌+◌, ◌*◌, ◌/◌, ◌%◌, ◌^◌, ◌<◌, Bool, true, false, eqb, sym, refl, ap, ◌∙◌, subst, ap₂, true≢false, mod-lt, div-lt_iff_lt-mul, pow-suc, div-add-mod', zero-add, arith, pow_pos, pow-add}
use mathlib.Core.Path.{fun_ext}
use mathlib.Core.Bool.{false≢true}
use Rattle.std.proofs.lemmas.Bool.{eqb-true, eqb-false}
use Rattle.values.specs.Words.{bit}
use Rattle.polynomials.specs.Polynomials.{VariableSet, Coefficients, number_of, coefficients, same_coefficients}
use Rattle.polynomials.specs.PolynomialLaws.{same_yes, same_if}
use Rattle.values.proofs.WordLaws.{bit_right, bit_below}

pub number_lt : (k : ℕ) (s : VariableSet k) → number_of k s < 2 ^ k
number_lt zero s = omega arith
number_lt (suc k) (false, s) = let h = number_lt k s in let e = pow-suc 2 k in omega arith
number_lt (suc k) (true, s) = let h = number_lt k s in let e = pow-suc 2 k in omega arith

-- the half without the last variable, and the half with it

coefficients_low : (k a : ℕ) (s : VariableSet k) → coefficients (suc k) a (false, s) ≡ coefficients k (a % 2 ^ (2 ^ k)) s
coefficients_low k a s = ap (bit a) (zero-add (number_of k s)) ∙ sym (bit_below a (2 ^ k) (number_of k s) (number_lt k s))

coefficients_high : (k a : ℕ) (s : VariableSet k) → coefficients (suc k) a (true, s) ≡ coefficients k (a / 2 ^ (2 ^ k)) s
coefficients_high k a s = sym (bit_right a (2 ^ k) (number_of k s))

square : (k : ℕ) → 2 ^ (2 ^ suc k) ≡ 2 ^ (2 ^ k) * 2 ^ (2 ^ k)
square k =
    let e : 2 ^ suc k ≡ 2 ^ k + 2 ^ k = let p = pow-suc 2 k in omega arith in
    ap (λ (n : ℕ). 2 ^ n) e ∙ pow-add 2 (2 ^ k) (2 ^ k)

high_lt : (k a : ℕ) → a < 2 ^ (2 ^ suc k) → a / 2 ^ (2 ^ k) < 2 ^ (2 ^ k)
high_lt k a l = (div-lt_iff_lt-mul (pow_pos (2 ^ k))).1 (subst (λ (n : ℕ). a < n) (square k) l)

one_bit : (a b : ℕ) → a < 2 → b < 2 → bit a 0 ≡ bit b 0 → a ≡ b
one_bit zero zero l m e = refl
one_bit zero (suc zero) l m e = absurd (false≢true e)
one_bit zero (suc (suc b)) l m e = absurd (omega arith)
one_bit (suc zero) zero l m e = absurd (true≢false e)
one_bit (suc zero) (suc zero) l m e = refl
one_bit (suc zero) (suc (suc b)) l m e = absurd (omega arith)
one_bit (suc (suc a)) b l m e = absurd (omega arith)

known_by_coefficients : (k a b : ℕ) → a < 2 ^ (2 ^ k) → b < 2 ^ (2 ^ k) → coefficients k a ≡ coefficients k b → a ≡ b
known_by_coefficients zero a b la lb e = one_bit a b la lb (ap (λ (f : Coefficients zero). f tt) e)
known_by_coefficients (suc k) a b la lb e =
    let m : ℕ = 2 ^ (2 ^ k) in
    let low : a % m ≡ b % m =
    known_by_coefficients k (a % m) (b % m) (mod-lt a (pow_pos (2 ^ k))) (mod-lt b (pow_pos (2 ^ k)))
    (fun_ext (λ (s : VariableSet k).
    sym (coefficients_low k a s) ∙ ap (λ (f : Coefficients (suc k)). f (false, s)) e ∙ coefficients_low k b s)) in
    let high : a / m ≡ b / m =
    known_by_coefficients k (a / m) (b / m) (high_lt k a la) (high_lt k b lb)
    (fun_ext (λ (s : VariableSet k).
    sym (coefficients_high k a s) ∙ ap (λ (f : Coefficients (suc k)). f (true, s)) e ∙ coefficients_high k b s)) in
    sym (div-add-mod' a m) ∙ ap₂ (λ (x y : ℕ). x * m + y) high low ∙ div-add-mod' b m

-- two numbers are equal exactly if their coefficients are
pub same_numbers : (k a b : ℕ) → a < 2 ^ (2 ^ k) → b < 2 ^ (2 ^ k)
    → eqb a b ≡ same_coefficients k (coefficients k a) (coefficients k b)
same_numbers k a b la lb = at (eqb a b) (same_coefficients k (coefficients k a) (coefficients k b)) refl refl
  where
    at : (x y : Bool) → eqb a b ≡ x → same_coefficients k (coefficients k a) (coefficients k b) ≡ y
        → eqb a b ≡ same_coefficients k (coefficients k a) (coefficients k b)
    at true y e f = e ∙ sym (same_if k (coefficients k a) (coefficients k b) (ap (coefficients k) (eqb-true a b e)))
    at false false e f = e ∙ sym f
    at false true e f =
        absurd (eqb-false a b e (known_by_coefficients k a b la lb (same_yes k (coefficients k a) (coefficients k b) f)))

-- the same of a test known to be that of the numbers
pub tells_same_coefficients : (t : Bool) (a b : ℕ) → a < 2 ^ 64 → b < 2 ^ 64 → t ≡ eqb a b → t ≡ same_coefficients 6 (coefficients 6 a) (coefficients 6 b)
tells_same_coefficients t a b la lb e = e ∙ same_numbers 6 a b la lb
