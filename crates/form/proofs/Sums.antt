-- The sum over a symmetric difference.
use Rattle.std.proofs.Common.{◌≡◌, ℕ, ◌<◌, true, eqb, ltb, List, [], ◌∷◌, sym, refl, ap, ◌∙◌}
use Rattle.std.proofs.lemmas.Bool.{eqb-true, ltb-true, and_parts, cond_both}
use Rattle.values.specs.Rings.{BooleanRing}
use Rattle.values.proofs.RingLaws.{zero_sum, sum_twice, sum_swap}
use Rattle.form.specs.Sets.{all_below, toggle, symmetric_difference}
use Rattle.form.specs.Values.{sum_of}

module _ {V : Type 0} (R : BooleanRing V) where
  pub sum_toggle : (at : ℕ → V) (x : ℕ) (ys : List ℕ) → sum_of R at (toggle x ys) ≡ R.sum (at x) (sum_of R at ys)
  sum_toggle at x [] = refl
  sum_toggle at x (y ∷ ys) =
      cond_both (ltb x y) _ _ (λ l. sum_of R at l ≡ R.sum (at x) (R.sum (at y) (sum_of R at ys))) (λ _. refl)
      (λ _. cond_both (eqb x y) _ _ (λ l. sum_of R at l ≡ R.sum (at x) (R.sum (at y) (sum_of R at ys)))
      (λ e. sym (sum_twice R (at x) (sum_of R at ys)) ∙ ap (λ z. R.sum (at x) (R.sum (at z) (sum_of R at ys))) (eqb-true x y e))
      (λ _. ap (R.sum (at y)) (sum_toggle at x ys) ∙ sum_swap R (at y) (at x) (sum_of R at ys)))

  pub sum_difference : (at : ℕ → V) (xs ys : List ℕ) → sum_of R at (symmetric_difference xs ys) ≡ R.sum (sum_of R at xs) (sum_of R at ys)
  sum_difference at [] ys = sym (zero_sum R (sum_of R at ys))
  sum_difference at (x ∷ xs) ys =
      sum_toggle at x (symmetric_difference xs ys) ∙ ap (R.sum (at x)) (sum_difference at xs ys) ∙ sym (R.sum_assoc (at x) (sum_of R at xs) (sum_of R at ys))

  -- two assignments that agree below m
  pub sum_alike : (m : ℕ) (at at' : ℕ → V) → ((k : ℕ) → k < m → at k ≡ at' k) → (xs : List ℕ) → all_below xs m ≡ true → sum_of R at xs ≡ sum_of R at' xs
  sum_alike m at at' h [] u = refl
  sum_alike m at at' h (x ∷ xs) u =
      let t = and_parts (ltb x m) (all_below xs m) u in
      (λ i. R.sum (h x (ltb-true x m t.0) i) (sum_alike m at at' h xs t.1 i))
