-- What the laws of a Boolean ring give.
use Rattle.std.proofs.Common.{◌≡◌, sym, ap, ◌∙◌}
use Rattle.values.specs.Rings.{BooleanRing}

module _ {V : Type 0} (R : BooleanRing V) where
  pub zero_sum : (x : V) → R.sum R.zero x ≡ x
  zero_sum x = R.sum_comm R.zero x ∙ R.sum_zero x

  -- x + (x + y) is y
  pub sum_twice : (x y : V) → R.sum x (R.sum x y) ≡ y
  sum_twice x y = sym (R.sum_assoc x x y) ∙ ap (λ z. R.sum z y) (R.sum_self x) ∙ zero_sum y

  pub sum_swap : (x y z : V) → R.sum x (R.sum y z) ≡ R.sum y (R.sum x z)
  sum_swap x y z = sym (R.sum_assoc x y z) ∙ ap (λ t. R.sum t z) (R.sum_comm x y) ∙ R.sum_assoc y x z

  -- (a + b) + (x + y) is (a + x) + (b + y)
  pub sum_pairs : (a b x y : V) → R.sum (R.sum a b) (R.sum x y) ≡ R.sum (R.sum a x) (R.sum b y)
  sum_pairs a b x y = R.sum_assoc a b (R.sum x y) ∙ ap (R.sum a) (sum_swap b x y) ∙ sym (R.sum_assoc a x (R.sum b y))

  pub product_zero : (x : V) → R.product x R.zero ≡ R.zero
  product_zero x = ap (R.product x) (sym (R.sum_self x)) ∙ R.distributes x x x ∙ R.sum_self (R.product x x)

  pub zero_product : (x : V) → R.product R.zero x ≡ R.zero
  zero_product x = R.product_comm R.zero x ∙ product_zero x

  pub one_product : (x : V) → R.product R.one x ≡ x
  one_product x = R.product_comm R.one x ∙ R.product_one x

  -- a value times its complement
  pub product_complement : (x : V) → R.product x (R.sum R.one x) ≡ R.zero
  product_complement x = R.distributes x R.one x ∙ (λ i. R.sum (R.product_one x i) (R.product_self x i)) ∙ R.sum_self x
