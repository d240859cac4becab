-- The number of each refusal of an offer.
use Rattle.std.specs.Prelude.{ℕ, ◌≡◌}
use Rattle.std.proofs.Common.{arith}
use Rattle.refusals.specs.declared.offer.OfferRefusal.{OfferRefusal}
use Rattle.refusals.specs.declared.offer.OfferRefusal.TheVariants.{LineOutside, LinesRepeat, NoPlace}

abbrev pub number : OfferRefusal → ℕ
number LineOutside = 7
number LinesRepeat = 8
number NoPlace = 9

-- no two refusals have the same number
pub number_tells : (x y : OfferRefusal) → number x ≡ number y → x ≡ y
number_tells x y same = grind arith
