-- The value of a form in a Boolean ring: the sum of its elements' values and of its constant.
use Rattle.std.specs.Prelude.{ℕ, Bool, cond, List, [], ◌∷◌}
use Rattle.values.specs.Rings.{BooleanRing}
use Rattle.form.specs.Shapes.{Shape}

module _ {V : Type 0} (R : BooleanRing V) where
  -- the sum of the elements' values, where element e has the value at e
  abbrev pub sum_of : (ℕ → V) → List ℕ → V
  sum_of at [] = R.zero
  sum_of at (e ∷ es) = R.sum (at e) (sum_of at es)

  abbrev pub bit_value : Bool → V
  bit_value b = cond b R.one R.zero

  abbrev pub value : (ℕ → V) → Shape → V
  value at f = R.sum (bit_value f.constant) (sum_of at f.set)
