-- Sets whose elements lie below a bound.
use Rattle.std.proofs.Common.{◌≡◌, ℕ, zero, suc, ◌<◌, ◌≤◌, true, eqb, ltb, List, [], ◌∷◌, ◌++◌, length, get_or, refl, arith}
use Rattle.std.proofs.lemmas.Bool.{and_parts, and_from, lt-ltb, ltb-true, cond_both}
use Rattle.form.specs.Sets.{all_below, toggle, symmetric_difference}

pub below_more : (xs : List ℕ) (m k : ℕ) → m ≤ k → all_below xs m ≡ true → all_below xs k ≡ true
below_more [] m k h b = refl
below_more (x ∷ xs) m k h b =
    let t = and_parts (ltb x m) (all_below xs m) b in
    and_from (ltb x k) (all_below xs k) (lt-ltb x k (omega (arith, ltb-true x m t.0))) (below_more xs m k h t.1)

pub below_push : (xs : List ℕ) (x m : ℕ) → x < m → all_below xs m ≡ true → all_below (xs ++ x ∷ []) m ≡ true
below_push [] x m h b = and_from (ltb x m) true (lt-ltb x m h) refl
below_push (y ∷ xs) x m h b =
    let t = and_parts (ltb y m) (all_below xs m) b in
    and_from (ltb y m) _ t.0 (below_push xs x m h t.1)

pub below_at : (xs : List ℕ) (m i d : ℕ) → all_below xs m ≡ true → i < length xs → get_or xs i d < m
below_at [] m i d b h = absurd (omega arith)
below_at (x ∷ xs) m zero d b h = ltb-true x m (and_parts (ltb x m) (all_below xs m) b).0
below_at (x ∷ xs) m (suc i) d b h = below_at xs m i d (and_parts (ltb x m) (all_below xs m) b).1 (omega arith)

below_toggle : (x : ℕ) (ys : List ℕ) (m : ℕ) → x < m → all_below ys m ≡ true → all_below (toggle x ys) m ≡ true
below_toggle x [] m h b = and_from (ltb x m) true (lt-ltb x m h) refl
below_toggle x (y ∷ ys) m h b =
    let t = and_parts (ltb y m) (all_below ys m) b in
    cond_both (ltb x y) _ _ (λ l. all_below l m ≡ true) (λ _. and_from (ltb x m) (all_below (y ∷ ys) m) (lt-ltb x m h) b)
    (λ _. cond_both (eqb x y) _ _ (λ l. all_below l m ≡ true) (λ _. t.1) (λ _. and_from (ltb y m) _ t.0 (below_toggle x ys m h t.1)))

pub below_difference : (xs ys : List ℕ) (m : ℕ) → all_below xs m ≡ true → all_below ys m ≡ true → all_below (symmetric_difference xs ys) m ≡ true
below_difference [] ys m h k = k
below_difference (x ∷ xs) ys m h k =
    let t = and_parts (ltb x m) (all_below xs m) h in
    below_toggle x (symmetric_difference xs ys) m (ltb-true x m t.0) (below_difference xs ys m t.1 k)
