-- Sets of numbers as ascending lists.
use Rattle.std.specs.Prelude.{ℕ, Bool, true, false, cond, not, ◌&&◌, List, [], ◌∷◌, Option, ◌==◌, nat_eq, nat_lt}
use Rattle.std.specs.Cmp.Lexicographic.{pointwise}
use Rattle.std.specs.List.{find, list_any}

-- x is below the first of the list
abbrev pub below_first : ℕ → List ℕ → Bool
below_first x [] = true
below_first x (y ∷ ys) = nat_lt x y

abbrev pub ascending : List ℕ → Bool
ascending [] = true
ascending (x ∷ xs) = below_first x xs && ascending xs

-- every element is below m
abbrev pub all_below : List ℕ → ℕ → Bool
all_below [] m = true
all_below (x ∷ xs) m = nat_lt x m && all_below xs m

-- x goes into the set, or out of it where it is there
abbrev pub toggle : ℕ → List ℕ → List ℕ
toggle x [] = x ∷ []
toggle x (y ∷ ys) = cond (nat_lt x y) (x ∷ (y ∷ ys)) (cond (x == y) ys (y ∷ toggle x ys))

-- the elements in just one of the two sets
abbrev pub symmetric_difference : List ℕ → List ℕ → List ℕ
symmetric_difference [] ys = ys
symmetric_difference (x ∷ xs) ys = toggle x (symmetric_difference xs ys)

abbrev pub is_empty : List ℕ → Bool
is_empty [] = true
is_empty (x ∷ xs) = false

abbrev pub member : ℕ → List ℕ → Bool
member x xs = list_any (λ y. y == x) xs

-- the lowest element of the first set that is not in the second
abbrev pub lowest_outside : List ℕ → List ℕ → Option ℕ
lowest_outside xs ys = find (λ x. not (member x ys)) xs

abbrev pub same_set : List ℕ → List ℕ → Bool
same_set xs ys = pointwise nat_eq xs ys
