-- Runs and T-counts of a list with one gate more.
use Rattle.std.proofs.Common.{◌≡◌, ◌+◌, ◌*◌, ◌≤◌, Bool, List, [], ◌∷◌, ◌++◌, length, Option, refl, arith}
use Rattle.circuit.specs.declared.Gate.{Gate}
use Rattle.circuit.specs.Gates.{after, run, tcost, tcosts}

pub run_push : (gs : List Gate) (g : Gate) (o : Option (List Bool)) → run (gs ++ (g ∷ [])) o ≡ after (run gs o) g
run_push [] g o = refl
run_push (h ∷ gs) g o = run_push gs g (after o h)

pub tcosts_push : (gs : List Gate) (g : Gate) → tcosts (gs ++ (g ∷ [])) ≡ tcosts gs + tcost g
tcosts_push [] g = omega arith
tcosts_push (h ∷ gs) g = omega (arith, tcosts_push gs g)

pub tcost_most : (g : Gate) → tcost g ≤ 4
tcost_most g = grind arith

pub tcosts_most : (gs : List Gate) → tcosts gs ≤ 4 * length gs
tcosts_most [] = omega arith
tcosts_most (g ∷ gs) = omega (arith, tcosts_most gs, tcost_most g)
