-- Sets as ascending lists: how a merge goes on.
use Rattle.std.proofs.Common.{◌≡◌, ℕ, zero, suc, ◌<◌, ◌≤◌, true, eqb, ltb, ◌+◌, ◌⊎◌, List, [], ◌∷◌, ◌++◌, length, drop, sym, refl, ap, ◌∙◌, subst, inl, inr, ⊎_elim, append_assoc, append-nil, arith}
use Rattle.std.proofs.lemmas.Bool.{ltb-true, lt-ltb, le-ltb, eq-eqb, ne_eqb, and_parts, and_from, cond-true, cond-false, cases_order}
use Rattle.form.specs.Sets.{below_first, ascending, toggle, symmetric_difference}

abbrev pub Asc : List ℕ → Type 0
Asc xs = ascending xs ≡ true

-- the rest of an ascending list
pub asc_rest : (x : ℕ) (xs : List ℕ) → Asc (x ∷ xs) → Asc xs
asc_rest x xs h = (and_parts (below_first x xs) (ascending xs) h).1

pub asc_first : (x y : ℕ) (ys : List ℕ) → Asc (x ∷ (y ∷ ys)) → x < y
asc_first x y ys h = ltb-true x y (and_parts (ltb x y) (ascending (y ∷ ys)) h).0

pub asc_cons : (x y : ℕ) (ys : List ℕ) → x < y → Asc (y ∷ ys) → Asc (x ∷ (y ∷ ys))
asc_cons x y ys h k = and_from (ltb x y) (ascending (y ∷ ys)) (lt-ltb x y h) k

-- a smaller first
pub asc_lower : (x y : ℕ) (ys : List ℕ) → x ≤ y → Asc (y ∷ ys) → Asc (x ∷ ys)
asc_lower x y [] h k = refl
asc_lower x y (z ∷ ys) h k = asc_cons x z ys (omega (arith, asc_first y z ys k)) (asc_rest y (z ∷ ys) k)

-- without the second
pub asc_skip : (x y : ℕ) (ys : List ℕ) → Asc (x ∷ (y ∷ ys)) → Asc (x ∷ ys)
asc_skip x y ys h = let l = asc_first x y ys h in asc_lower x y ys (omega arith) (asc_rest x (y ∷ ys) h)

toggle_below : (x y : ℕ) (ys : List ℕ) → x < y → toggle x (y ∷ ys) ≡ x ∷ (y ∷ ys)
toggle_below x y ys h = cond-true (ltb x y) _ _ (lt-ltb x y h)

toggle_at : (x y : ℕ) (ys : List ℕ) → x ≡ y → toggle x (y ∷ ys) ≡ ys
toggle_at x y ys h = cond-false (ltb x y) _ _ (le-ltb x y (omega arith)) ∙ cond-true (eqb x y) _ _ (eq-eqb x y h)

toggle_above : (x y : ℕ) (ys : List ℕ) → y < x → toggle x (y ∷ ys) ≡ y ∷ toggle x ys
toggle_above x y ys h = cond-false (ltb x y) _ _ (le-ltb x y (omega arith)) ∙ cond-false (eqb x y) _ _ (ne_eqb x y (λ e. omega arith))

toggle_low : (x : ℕ) (ys : List ℕ) → Asc (x ∷ ys) → toggle x ys ≡ x ∷ ys
toggle_low x [] h = refl
toggle_low x (y ∷ ys) h = toggle_below x y ys (asc_first x y ys h)

asc_toggle : (z x : ℕ) (ys : List ℕ) → z < x → Asc (z ∷ ys) → Asc (z ∷ toggle x ys)
asc_toggle z x [] l h = asc_cons z x [] l refl
asc_toggle z x (y ∷ ys) l h =
    ⊎_elim
    (λ e. subst (λ ts. Asc (z ∷ ts)) (sym (toggle_at x y ys e)) (asc_skip z y ys h))
    (⊎_elim
    (λ k. subst (λ ts. Asc (z ∷ ts)) (sym (toggle_below x y ys k)) (asc_cons z x (y ∷ ys) l (asc_cons x y ys k (asc_rest z (y ∷ ys) h))))
    (λ k. subst (λ ts. Asc (z ∷ ts)) (sym (toggle_above x y ys k)) (asc_cons z y (toggle x ys) (asc_first z y ys h) (asc_toggle y x ys k (asc_rest z (y ∷ ys) h)))))
    (cases_order x y)

asc_over : (z : ℕ) (xs ys : List ℕ) → Asc (z ∷ xs) → Asc (z ∷ ys) → Asc (z ∷ symmetric_difference xs ys)
asc_over z [] ys h k = k
asc_over z (x ∷ xs) ys h k = asc_toggle z x (symmetric_difference xs ys) (asc_first z x xs h) (asc_over z xs ys (asc_skip z x xs h) k)

-- an ascending list toggled
asc_plain : (x : ℕ) (ys : List ℕ) → Asc ys → Asc (toggle x ys)
asc_plain x [] h = refl
asc_plain x (y ∷ ys) h =
    ⊎_elim
    (λ e. subst Asc (sym (toggle_at x y ys e)) (asc_rest y ys h))
    (⊎_elim
    (λ k. subst Asc (sym (toggle_below x y ys k)) (asc_cons x y ys k h))
    (λ k. subst Asc (sym (toggle_above x y ys k)) (asc_toggle y x ys k h)))
    (cases_order x y)

pub asc_difference : (xs ys : List ℕ) → Asc ys → Asc (symmetric_difference xs ys)
asc_difference [] ys h = h
asc_difference (x ∷ xs) ys h = asc_plain x (symmetric_difference xs ys) (asc_difference xs ys h)

-- the four steps of a merge
pub merge_left : (x y : ℕ) (xs ys : List ℕ) → x < y → Asc (x ∷ xs) → Asc (y ∷ ys) → symmetric_difference (x ∷ xs) (y ∷ ys) ≡ x ∷ symmetric_difference xs (y ∷ ys)
merge_left x y xs ys l h k = toggle_low x (symmetric_difference xs (y ∷ ys)) (asc_over x xs (y ∷ ys) h (asc_cons x y ys l k))

merge_low : (y : ℕ) (xs ys : List ℕ) → Asc (y ∷ xs) → symmetric_difference xs (y ∷ ys) ≡ y ∷ symmetric_difference xs ys
merge_low y [] ys h = refl
merge_low y (x ∷ xs) ys h =
    ap (toggle x) (merge_low y xs ys (asc_skip y x xs h)) ∙ toggle_above x y (symmetric_difference xs ys) (asc_first y x xs h)

pub merge_right : (x y : ℕ) (xs ys : List ℕ) → y < x → Asc (x ∷ xs) → symmetric_difference (x ∷ xs) (y ∷ ys) ≡ y ∷ symmetric_difference (x ∷ xs) ys
merge_right x y xs ys l h = merge_low y (x ∷ xs) ys (asc_cons y x xs l h)

pub merge_both : (x y : ℕ) (xs ys : List ℕ) → x ≡ y → Asc (x ∷ xs) → symmetric_difference (x ∷ xs) (y ∷ ys) ≡ symmetric_difference xs ys
merge_both x y xs ys e h =
    ap (toggle x) (merge_low y xs ys (subst (λ z. Asc (z ∷ xs)) e h)) ∙ toggle_at x y (symmetric_difference xs ys) e

pub merge_none : (xs : List ℕ) → Asc xs → symmetric_difference xs [] ≡ xs
merge_none [] h = refl
merge_none (x ∷ xs) h = ap (toggle x) (merge_none xs (asc_rest x xs h)) ∙ toggle_low x xs h

pub asc_drop : (i : ℕ) (xs : List ℕ) → Asc xs → Asc (drop i xs)
asc_drop zero xs h = h
asc_drop (suc i) [] h = refl
asc_drop (suc i) (x ∷ xs) h = asc_drop i xs (asc_rest x xs h)

pushed : (out more whole rest end : List ℕ) (x : ℕ) → more ≡ out ++ x ∷ [] → whole ≡ x ∷ rest → out ++ whole ≡ end → more ++ rest ≡ end
pushed out more whole rest end x p w h = ap (λ l. l ++ rest) p ∙ append_assoc out (x ∷ []) rest ∙ ap (λ l. out ++ l) (sym w) ∙ h

-- out is merged so far, a and b are left, and all is to come of it
pub record Merging (out a b all : List ℕ) : Type 0 where
  pub left : Asc a
  pub right : Asc b
  pub merged : out ++ symmetric_difference a b ≡ all

-- and there is room for all that is left
pub record MergingInto (len capacity : ℕ) (out a b all : List ℕ) : Type 0 where
  pub merging : Merging out a b all
  pub room : len + length a + length b ≤ capacity

-- a is x and a', and b is y and b'
module _ (out a b a' b' all : List ℕ) (x y : ℕ) (p : a ≡ x ∷ a') (q : b ≡ y ∷ b') (h : Merging out a b all) where
  asc_a : Asc (x ∷ a')
  asc_a = subst Asc p h.left

  asc_b : Asc (y ∷ b')
  asc_b = subst Asc q h.right

  pub takes_left : (more : List ℕ) → x < y → more ≡ out ++ x ∷ [] → Merging more a' b all
  takes_left more l m = record {
    left = asc_rest x a' asc_a;
    right = h.right;
    merged = pushed out more _ _ all x m (rw (p, q) (merge_left x y a' b' l asc_a asc_b)) h.merged;
  }

  pub takes_right : (more : List ℕ) → y < x → more ≡ out ++ y ∷ [] → Merging more a b' all
  takes_right more l m = record {
    left = h.left;
    right = asc_rest y b' asc_b;
    merged = pushed out more _ _ all y m (rw (p, q) (merge_right x y a' b' l asc_a)) h.merged;
  }

  pub takes_none : x ≡ y → Merging out a' b' all
  takes_none l = record {
    left = asc_rest x a' asc_a;
    right = asc_rest y b' asc_b;
    merged = ap (λ s. out ++ s) (sym (rw (p, q) (merge_both x y a' b' l asc_a))) ∙ h.merged;
  }

-- one side is used up
rest_plain : (a b : List ℕ) → Asc a → (length a ≡ 0) ⊎ (length b ≡ 0) → symmetric_difference a b ≡ a ++ b
rest_plain [] b h u = refl
rest_plain (x ∷ a) [] h u = merge_none (x ∷ a) h ∙ sym (append-nil (x ∷ a))
rest_plain (x ∷ a) (y ∷ b) h (inl u) = absurd (omega arith)
rest_plain (x ∷ a) (y ∷ b) h (inr u) = absurd (omega arith)

pub merge_ends : (out mid end a b all : List ℕ) → (length a ≡ 0) ⊎ (length b ≡ 0) → mid ≡ out ++ a → end ≡ mid ++ b → Merging out a b all → end ≡ all
merge_ends out mid end a b all u p q h = q ∙ ap (λ l. l ++ b) p ∙ append_assoc out a b ∙ ap (λ l. out ++ l) (sym (rest_plain a b h.left u)) ∙ h.merged

pub asc_merged : (v xs ys : List ℕ) → v ≡ symmetric_difference xs ys → Asc ys → Asc v
asc_merged v xs ys e h = subst Asc (sym e) (asc_difference xs ys h)
