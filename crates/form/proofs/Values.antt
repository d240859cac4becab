-- The value of a form under each operation.
use Rattle.std.proofs.Common.{◌≡◌, ℕ, ◌<◌, Bool, true, false, not, List, [], ◌∷◌, sym, refl, ap, ◌∙◌}
use Rattle.std.proofs.lemmas.Bool.{false≢true}
use Rattle.values.specs.Rings.{BooleanRing}
use Rattle.values.specs.Bits.{xor}
use Rattle.values.proofs.RingLaws.{zero_sum, sum_pairs}
use Rattle.form.specs.Sets.{all_below, is_empty}
use Rattle.form.specs.Shapes.{Shape, zero_form, element_form, xor_form, inverted_form}
use Rattle.form.specs.Values.{sum_of, bit_value, value}
use Rattle.form.proofs.Sums.{sum_difference, sum_alike}

pub empty_is : (xs : List ℕ) → is_empty xs ≡ true → xs ≡ []
empty_is [] h = refl
empty_is (x ∷ xs) h = absurd (false≢true h)

module _ {V : Type 0} (R : BooleanRing V) where
  xor_value : (a b : Bool) → bit_value R (xor a b) ≡ R.sum (bit_value R a) (bit_value R b)
  xor_value true true = sym (R.sum_self R.one)
  xor_value true false = sym (R.sum_zero R.one)
  xor_value false b = sym (zero_sum R (bit_value R b))

  not_value : (b : Bool) → bit_value R (not b) ≡ R.sum R.one (bit_value R b)
  not_value true = sym (R.sum_self R.one)
  not_value false = sym (R.sum_zero R.one)

  module _ (at : ℕ → V) where
    pub value_xor : (f g : Shape) → value R at (xor_form f g) ≡ R.sum (value R at f) (value R at g)
    value_xor f g =
        (λ i. R.sum (xor_value f.constant g.constant i) (sum_difference R at f.set g.set i))
        ∙ sum_pairs R (bit_value R f.constant) (bit_value R g.constant) (sum_of R at f.set) (sum_of R at g.set)

    pub value_inverted : (f : Shape) → value R at (inverted_form f) ≡ R.sum R.one (value R at f)
    value_inverted f = ap (λ v. R.sum v (sum_of R at f.set)) (not_value f.constant) ∙ R.sum_assoc R.one (bit_value R f.constant) (sum_of R at f.set)

    pub value_element : (k : ℕ) → value R at (element_form k) ≡ at k
    value_element k = zero_sum R (R.sum (at k) R.zero) ∙ R.sum_zero (at k)

    pub value_zero : value R at zero_form ≡ R.zero
    value_zero = R.sum_zero R.zero

    pub value_empty : (f : Shape) → f.set ≡ [] → value R at f ≡ bit_value R f.constant
    value_empty f e = ap (λ l. R.sum (bit_value R f.constant) (sum_of R at l)) e ∙ R.sum_zero (bit_value R f.constant)

    -- forms with one set: equal constants give one value, others a value and its complement
    pub value_like : (f g : Shape) → f.set ≡ g.set → xor f.constant g.constant ≡ false → value R at g ≡ value R at f
    value_like f g e b = (λ i. R.sum (bit_value R (same_bit f.constant g.constant b i)) (sum_of R at (sym e i)))
      where
        same_bit : (a b : Bool) → xor a b ≡ false → b ≡ a
        same_bit true true h = refl
        same_bit true false h = sym h
        same_bit false b h = h

    pub value_unlike : (f g : Shape) → f.set ≡ g.set → xor f.constant g.constant ≡ true → value R at g ≡ R.sum R.one (value R at f)
    value_unlike f g e b = (λ i. R.sum (bit_value R (other_bit f.constant g.constant b i)) (sum_of R at (sym e i))) ∙ value_inverted f
      where
        other_bit : (a b : Bool) → xor a b ≡ true → b ≡ not a
        other_bit true true h = sym h
        other_bit true false h = refl
        other_bit false b h = h

  -- two assignments that agree below m
  pub value_alike : (m : ℕ) (at at' : ℕ → V) → ((k : ℕ) → k < m → at k ≡ at' k) → (f : Shape) → all_below f.set m ≡ true → value R at f ≡ value R at' f
  value_alike m at at' h f u = ap (R.sum (bit_value R f.constant)) (sum_alike R m at at' h f.set u)
