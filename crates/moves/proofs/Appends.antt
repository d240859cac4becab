-- What `extend` leaves in a list of fixed size.
use Rattle.std.proofs.Common.{◌≡◌, ℕ, ◌+◌, ◌≤◌, List, [], ◌∷◌, ◌++◌, length, take, Option, refl, ap, sym, ◌∙◌, arith, append-nil, length-append}
use Rattle.std.proofs.lemmas.List.{nil_from_length, length-take}
use Rattle.std.proofs.Math.Seq.{take-append-add}
use Rattle.std.specs.Prelude.{Result, Ok, Err, OnErr, MatchResult}
use Rattle.std.specs.Iterator.{AlwaysYields, Yields, Drains}
use Rattle.std.proofs.lemmas.Iterator.{YieldsList}
use Rattle.std.proofs.lemmas.Iterator.Adapters.{items_from_extend}
use Rattle.std.proofs.lemmas.Iterator.Consumers.{YieldsList-at}

module _ {T A : Type 0} (steps : T → Option A → T → Type 0) where
  -- the first items of a run are the first of all that it gives
  are_first : (s t : T) (xs all : List A) → AlwaysYields steps (λ x. x) s all → Yields steps s xs t → (rest : List A) × (all ≡ xs ++ rest)
  are_first s t [] all k y = (all, refl)
  are_first s t (x ∷ xs) [] k y = absurd (k x y.0 y.1)
  are_first s t (x ∷ xs) (z ∷ zs) k y =
      let m = k.1 x y.0 y.1 in
      let r = are_first y.0 t xs zs m.1 y.2 in
      (r.0, cc)

module _ {T A : Type 0} {steps : T → Option A → T → Type 0} where
  -- all items went in, if there was room for them
  pub extended : {E : Type 0} (n : ℕ) (old new : List A) {s : T} {all : List A} (r : Result (Unit {0}) E)
      → ((it : T) × (xs : List A) × (it ≡ s) × (new ≡ old ++ xs) × MatchResult r (λ _. Drains steps it xs) (λ _. (t : T) × Yields steps it xs t))
      → OnErr r (length new ≡ n) → YieldsList steps (λ x. x) s all → length old + length all ≤ n → new ≡ old ++ all
  extended {E} n old new (Ok u) ran full road h = items_from_extend {E = E} {P = λ xs. new ≡ old ++ xs} (Ok u) ran road
  extended n old new {all = all} (Err e) ran full road h =
      let (rest, p) = are_first steps ran.0 ran.4.0 ran.1 all (YieldsList-at ran.2 road).runs ran.4.1 in
      let none : rest ≡ [] = nil_from_length rest (omega (arith, full, ap length ran.3, ap length p, length-append {A = A})) in
      ran.3 ∙ ap (λ xs. old ++ xs) (sym (p ∙ ap (λ ys. ran.1 ++ ys) none ∙ append-nil ran.1))

module _ {A : Type 0} where
  -- what there is room for is what stands in the whole, cut at n
  pub cut_at_room : (n room : ℕ) (xs ys : List A) → room + length xs ≡ n → xs ++ take room ys ≡ take n (xs ++ ys)
  cut_at_room n room xs ys h = sym (take-append-add xs ys room) ∙ ap (λ k. take k (xs ++ ys)) (let e : length xs + room ≡ n = omega arith in e)

  pub room_for : (n room : ℕ) (xs ys : List A) → room + length xs ≡ n → length xs + length (take room ys) ≤ n
  room_for n room xs ys h = omega (arith, length-take room ys)
