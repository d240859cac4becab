-- A masked shift adds, to the coefficient of each set with a variable, that of the set without it.
use Rattle.std.proofs.Common.{◌≡◌, ℕ, zero, suc, ◌+◌, ◌*◌, ◌%◌, ◌^◌, ◌<◌, Bool, true, false, cond, ◌&&◌, eqb, List, [], ◌∷◌, length, get_or, sym, refl, ap, ◌∙◌, subst, add-zero, zero-add, arith}
use mathlib.Core.Path.{fun_ext}
use mathlib.Core.Bool.{and-false, and-true, false≢true}
use lib.Bits.{bit_and, bit_xor}
use Rattle.std.proofs.lemmas.Bool.{and_parts, eqb-true}
use Rattle.values.specs.Bits.{xor}
use Rattle.values.specs.Words.{bit}
use Rattle.polynomials.specs.Polynomials.{VariableSet, Coefficients, number_of, coefficients, same_coefficients}
use Rattle.polynomials.specs.Steps.{contains, without, add_without}
use Rattle.polynomials.specs.PolynomialLaws.{same_yes}
use Rattle.values.proofs.WordLaws.{bit_of_xor, bit_of_and, bit_left, bit_below}
use Rattle.polynomials.proofs.Numbers.{number_lt}

-- variable v counts 2 ^ v in the number of a set
number_with : (k v : ℕ) (s : VariableSet k) → contains k v s ≡ true → number_of k s ≡ 2 ^ v + number_of k (without k v s)
number_with zero v s e = absurd (false≢true e)
number_with (suc k) v (b, s) e = at (eqb v k) refl (number_with k v s) e
  where
    at : (t : Bool) → eqb v k ≡ t → (contains k v s ≡ true → number_of k s ≡ 2 ^ v + number_of k (without k v s))
        → cond t b (contains k v s) ≡ true
        → number_of (suc k) (b, s) ≡ 2 ^ v + number_of (suc k) (cond t (false, s) (b, without k v s))
    at true q ih h =
        let e : 2 ^ k ≡ 2 ^ v = ap (λ (n : ℕ). 2 ^ n) (sym (eqb-true v k q)) in
        ap (λ (c : Bool). cond c (2 ^ k) 0 + number_of k s) h ∙ omega arith
    at false q ih h = let e = ih h in omega arith

module _ (v mask a : ℕ) (sets : same_coefficients 6 (coefficients 6 mask) (contains 6 v) ≡ true) where
  shifted : ℕ
  shifted = (a * 2 ^ (2 ^ v)) % 2 ^ 64

  masked_bit : (s : VariableSet 6) (t : Bool) → contains 6 v s ≡ t → bit mask (number_of 6 s) ≡ t
      → (bit shifted (number_of 6 s) && bit mask (number_of 6 s)) ≡ (t && bit a (number_of 6 (without 6 v s)))
  unfolding shifted
  masked_bit s false p e =
      ap (λ (x : Bool). bit shifted (number_of 6 s) && x) e ∙ and-false (bit shifted (number_of 6 s))
  masked_bit s true p e =
      ap (λ (x : Bool). bit shifted (number_of 6 s) && x) e ∙ and-true (bit shifted (number_of 6 s))
      ∙ bit_below (a * 2 ^ (2 ^ v)) 64 (number_of 6 s) (number_lt 6 s)
      ∙ ap (bit (a * 2 ^ (2 ^ v))) (number_with 6 v s p) ∙ bit_left a (2 ^ v) (number_of 6 (without 6 v s))

  pub masked_step : coefficients 6 (bit_xor a (bit_and ((a * 2 ^ (2 ^ v)) % 2 ^ 64) mask)) ≡ add_without 6 v (coefficients 6 a)
  unfolding shifted
  masked_step =
      fun_ext (λ (s : VariableSet 6).
      bit_of_xor a (bit_and shifted mask) (number_of 6 s)
      ∙ ap (xor (bit a (number_of 6 s)))
      (bit_of_and shifted mask (number_of 6 s)
      ∙ masked_bit s (contains 6 v s) refl
      (ap (λ (f : Coefficients 6). f s) (same_yes 6 (coefficients 6 mask) (contains 6 v) sets))))

-- whether each row has the sets with its variable, the first with variable v
abbrev pub have_their_sets : ℕ → List ℕ → Bool
have_their_sets v [] = true
have_their_sets v (mask ∷ masks) = same_coefficients 6 (coefficients 6 mask) (contains 6 v) && have_their_sets (v + 1) masks

row_has_its_sets_from : (masks : List ℕ) (v i : ℕ) → have_their_sets v masks ≡ true → i < length masks
    → same_coefficients 6 (coefficients 6 (get_or masks i 0)) (contains 6 (v + i)) ≡ true
row_has_its_sets_from [] v i h l = absurd (omega arith)
row_has_its_sets_from (mask ∷ masks) v zero h l =
    subst (λ n. same_coefficients 6 (coefficients 6 mask) (contains 6 n) ≡ true) (sym (add-zero v))
    (and_parts (same_coefficients 6 (coefficients 6 mask) (contains 6 v)) (have_their_sets (v + 1) masks) h).0
row_has_its_sets_from (mask ∷ masks) v (suc i) h l =
    let e : (v + 1) + i ≡ v + suc i = omega arith in
    subst (λ n. same_coefficients 6 (coefficients 6 (get_or masks i 0)) (contains 6 n) ≡ true) e
    (row_has_its_sets_from masks (v + 1) i (and_parts (same_coefficients 6 (coefficients 6 mask) (contains 6 v)) (have_their_sets (v + 1) masks) h).1 (omega arith))

pub row_has_its_sets : (masks : List ℕ) (v : ℕ) → have_their_sets 0 masks ≡ true → v < length masks
    → same_coefficients 6 (coefficients 6 (get_or masks v 0)) (contains 6 v) ≡ true
row_has_its_sets masks v h l =
    subst (λ n. same_coefficients 6 (coefficients 6 (get_or masks v 0)) (contains 6 n) ≡ true) (zero-add v) (row_has_its_sets_from masks 0 v h l)
