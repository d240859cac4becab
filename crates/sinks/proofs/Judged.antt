-- What an accepted offer tells of the gate and of the free places.
use Rattle.std.proofs.Common.{◌≡◌, ℕ, ◌<◌, Bool, true, false, cond, eqb, Ok, Err, Result, refl, arith}
use Rattle.std.proofs.lemmas.Bool.{eqb-false}
use Rattle.circuit.specs.declared.Gate.{Gate}
use Rattle.circuit.specs.Gates.{inside, apart}
use Rattle.refusals.specs.declared.offer.OfferRefusal.{OfferRefusal}
use Rattle.refusals.specs.declared.offer.OfferRefusal.TheVariants.{LineOutside, LinesRepeat, NoPlace}
use Rattle.sinks.specs.Questions.{judged}

never : (x : OfferRefusal) → ◌≡◌ {A = Result (Unit {0}) OfferRefusal} (Err x) (Ok tt) → ⊥
never x e = cc

-- the answer by its three tests
by_parts : (i a z : Bool) → ◌≡◌ {A = Result (Unit {0}) OfferRefusal} (cond i (cond a (cond z (Err NoPlace) (Ok tt)) (Err LinesRepeat)) (Err LineOutside)) (Ok tt)
    → (i ≡ true) × (a ≡ true) × (z ≡ false)
by_parts true true false e = (refl, refl, refl)
by_parts true true true e = cc
by_parts true false z e = cc
by_parts false a z e = cc

pub judged_inside : (g : Gate) (w f : ℕ) → judged g w f ≡ Ok tt → inside g w ≡ true
judged_inside g w f e = (by_parts (inside g w) (apart g) (eqb f 0) e).0

pub judged_apart : (g : Gate) (w f : ℕ) → judged g w f ≡ Ok tt → apart g ≡ true
judged_apart g w f e = (by_parts (inside g w) (apart g) (eqb f 0) e).1

pub judged_free : (g : Gate) (w f : ℕ) → judged g w f ≡ Ok tt → 0 < f
judged_free g w f e =
    let n : f ≡ 0 → ⊥ = eqb-false f 0 (by_parts (inside g w) (apart g) (eqb f 0) e).2 in omega arith
