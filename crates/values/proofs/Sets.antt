-- The elements of a Boolean ring are a set, since its equality is decided.
use Rattle.std.proofs.Common.{◌≡◌, Bool, true, false, sym, refl, ◌∙◌}
use mathlib.Core.HLevel.{Discrete, hedberg}
use Rattle.std.proofs.lemmas.Bool.{false≢true}
use Rattle.values.specs.Rings.{BooleanRing}

decided : {V : Type 0} (R : BooleanRing V) → Discrete V
decided R a b = at (R.same a b) refl
  where
    at : (t : Bool) → R.same a b ≡ t → Dec (a ≡ b)
    at true e = yes (R.same_yes a b e)
    at false e = no (λ p. false≢true (sym e ∙ R.same_if a b p))

pub ring_set : {V : Type 0} → BooleanRing V → IsSet V
ring_set R = hedberg (decided R)
