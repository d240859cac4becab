-- Boolean rings: what the values of an algebra mean.
use Rattle.std.specs.Prelude.{◌≡◌, Bool, true}

pub record BooleanRing (V : Type 0) : Type 0 where
  pub zero : V
  pub one : V
  pub sum : V → V → V
  pub product : V → V → V
  -- the test of equality: yes exactly for equal elements
  pub same : V → V → Bool
  pub sum_assoc : (a b c : V) → sum (sum a b) c ≡ sum a (sum b c)
  pub sum_comm : (a b : V) → sum a b ≡ sum b a
  pub sum_zero : (a : V) → sum a zero ≡ a
  pub sum_self : (a : V) → sum a a ≡ zero
  pub product_assoc : (a b c : V) → product (product a b) c ≡ product a (product b c)
  pub product_comm : (a b : V) → product a b ≡ product b a
  pub product_one : (a : V) → product a one ≡ a
  pub product_self : (a : V) → product a a ≡ a
  pub distributes : (a b c : V) → product a (sum b c) ≡ sum (product a b) (product a c)
  pub same_yes : (a b : V) → same a b ≡ true → a ≡ b
  pub same_if : (a b : V) → a ≡ b → same a b ≡ true
