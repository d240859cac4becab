-- The Boolean ring of one bit: sum is XOR, product is AND.
use Rattle.std.specs.Prelude.{◌≡◌, Bool, true, false, not, ◌&&◌, refl}
use Rattle.std.proofs.Common.{sym, ap, ◌∙◌}
use Rattle.std.proofs.Math.Bool.{and_assoc, and_comm, and-true, and_self}
use Rattle.values.specs.Rings.{BooleanRing}

abbrev pub xor : Bool → Bool → Bool
xor true b = not b
xor false b = b

abbrev pub equal : Bool → Bool → Bool
equal true b = b
equal false b = not b

pub xor_assoc : (a b c : Bool) → xor (xor a b) c ≡ xor a (xor b c)
xor_assoc true true true = refl
xor_assoc true true false = refl
xor_assoc true false c = refl
xor_assoc false b c = refl

pub xor_comm : (a b : Bool) → xor a b ≡ xor b a
xor_comm true true = refl
xor_comm true false = refl
xor_comm false true = refl
xor_comm false false = refl

pub xor_zero : (a : Bool) → xor a false ≡ a
xor_zero true = refl
xor_zero false = refl

pub xor_self : (a : Bool) → xor a a ≡ false
xor_self true = refl
xor_self false = refl

pub and_xor : (a b c : Bool) → (a && xor b c) ≡ xor (a && b) (a && c)
and_xor true b c = refl
and_xor false b c = refl

pub equal_yes : (a b : Bool) → equal a b ≡ true → a ≡ b
equal_yes true true e = refl
equal_yes true false e = sym e
equal_yes false true e = e
equal_yes false false e = refl

pub equal_self : (a : Bool) → equal a a ≡ true
equal_self true = refl
equal_self false = refl

abbrev pub bits : BooleanRing Bool
bits = record {
  zero = false;
  one = true;
  sum = xor;
  product = ◌&&◌;
  same = equal;
  sum_assoc = xor_assoc;
  sum_comm = xor_comm;
  sum_zero = xor_zero;
  sum_self = xor_self;
  product_assoc = and_assoc;
  product_comm = and_comm;
  product_one = and-true;
  product_self = and_self;
  distributes = and_xor;
  same_yes = equal_yes;
  same_if = λ a b e. ap (equal a) (sym e) ∙ equal_self a;
}
