-- Gates that fit a width, undone.
use Rattle.std.proofs.Common.{◌≡◌, ℕ, true, ◌&&◌, List, [], ◌∷◌, map, refl, ◌∙◌}
use Rattle.std.proofs.lemmas.Bool.{and_parts, and_from}
use Rattle.std.proofs.lemmas.List.{reverse-append}
use Rattle.circuit.specs.declared.Gate.{Gate}
use Rattle.circuit.specs.declared.Gate.TheVariants.{Not, Cnot, And, Unand}
use Rattle.circuit.specs.Gates.{inside, apart, inverse, fitting}
use Rattle.circuit.proofs.Fitting.{fitting_append}
use Rattle.moves.specs.Fans.{undone}

same_fit : (w : ℕ) (g : Gate) → (inside (inverse g) w && apart (inverse g)) ≡ (inside g w && apart g)
same_fit w (Not t) = refl
same_fit w (Cnot a t) = refl
same_fit w (And a b t) = refl
same_fit w (Unand a b t) = refl

pub fitting_undone : (w : ℕ) (gs : List Gate) → fitting w gs ≡ true → fitting w (undone gs) ≡ true
fitting_undone w [] h = refl
fitting_undone w (g ∷ gs) h =
    let p = and_parts (inside g w && apart g) (fitting w gs) h in
    let one : fitting w (inverse g ∷ []) ≡ true = and_from (inside (inverse g) w && apart (inverse g)) true (same_fit w g ∙ p.0) refl in
    rw (reverse-append (inverse g ∷ []) (map inverse gs)) (fitting_append w (undone gs) (inverse g ∷ []) (fitting_undone w gs p.1) one)
