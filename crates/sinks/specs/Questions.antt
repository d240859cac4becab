-- The questions of an offer.
use Rattle.std.specs.Prelude.{ℕ, cond, Ok, Err, Result, ◌==◌}
use Rattle.circuit.specs.declared.Gate.{Gate}
use Rattle.circuit.specs.Gates.{inside, apart}
use Rattle.refusals.specs.declared.offer.OfferRefusal.{OfferRefusal}
use Rattle.refusals.specs.declared.offer.OfferRefusal.TheVariants.{LineOutside, LinesRepeat, NoPlace}

-- the answer to an offer at a width and a number of free places: the first no decides
abbrev pub judged : Gate → ℕ → ℕ → Result (Unit {0}) OfferRefusal
judged g w free =
    cond (inside g w) (cond (apart g) (cond (free == 0) (Err NoPlace) (Ok tt)) (Err LinesRepeat)) (Err LineOutside)
