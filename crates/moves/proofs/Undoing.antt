-- The inverses of a list of gates, the last first: how many, and which.
use Rattle.std.proofs.Common.{◌≡◌, ℕ, ◌+◌, ◌-◌, ◌*◌, ◌<◌, List, [], ◌∷◌, ◌++◌, map, reverse, length, get_or, sym, refl, ap, ◌∙◌, arith}
use Rattle.std.proofs.lemmas.List.{append_assoc, map-append, reverse-append, length-append, length-reverse, length-map, get_or-reverse, get_or-map}
use Rattle.circuit.specs.declared.Gate.{Gate}
use Rattle.circuit.specs.declared.Gate.TheVariants.{Not, Cnot, And, Unand}
use Rattle.circuit.specs.Gates.{inverse}
use Rattle.moves.specs.Fans.{undone}

pub length_undone : (gs : List Gate) → length (undone gs) ≡ length gs
length_undone gs = length-reverse (map inverse gs) ∙ length-map gs inverse

pub length_around : (gs : List Gate) (g : Gate) → length (gs ++ (g ∷ undone gs)) ≡ 2 * length gs + 1
length_around gs g = omega (arith, length-append gs (g ∷ undone gs), length_undone gs)

pub get_or_undone : (gs : List Gate) (k : ℕ) (d : Gate) → k < length gs → inverse (get_or gs (length gs - 1 - k) d) ≡ get_or (undone gs) k (inverse d)
get_or_undone gs k d h =
    let n : length (map inverse gs) ≡ length gs = length-map gs inverse in
    let l : k < length (map inverse gs) = omega arith in
    let i : length gs - 1 - k < length gs = omega arith in
    sym (get_or-reverse (map inverse gs) k (inverse d) l ∙ ap (λ m. get_or (map inverse gs) (m - 1 - k) (inverse d)) n ∙ get_or-map inverse gs (length gs - 1 - k) d (inverse d) i)

inverse_twice : (g : Gate) → inverse (inverse g) ≡ g
inverse_twice (Not t) = refl
inverse_twice (Cnot a t) = refl
inverse_twice (And a b t) = refl
inverse_twice (Unand a b t) = refl

undone_append : (xs ys : List Gate) → undone (xs ++ ys) ≡ undone ys ++ undone xs
undone_append xs ys = ap reverse (map-append inverse xs ys) ∙ reverse-append (map inverse xs) (map inverse ys)

undone_twice : (gs : List Gate) → undone (undone gs) ≡ gs
undone_twice [] = refl
undone_twice (g ∷ gs) =
    ap undone (undone_append (g ∷ []) gs) ∙ undone_append (undone gs) (inverse g ∷ [])
    ∙ ap (λ h. h ∷ undone (undone gs)) (inverse_twice g) ∙ ap (λ hs. g ∷ hs) (undone_twice gs)

-- gates around a core, undone, are the same around its inverse
pub undone_around : (gs : List Gate) (g : Gate) → undone (gs ++ (g ∷ undone gs)) ≡ gs ++ (inverse g ∷ undone gs)
undone_around gs g =
    undone_append gs (g ∷ undone gs) ∙ ap (λ hs. hs ++ undone gs) (undone_append (g ∷ []) (undone gs) ∙ ap (λ hs. hs ++ (inverse g ∷ [])) (undone_twice gs))
    ∙ append_assoc gs (inverse g ∷ []) (undone gs)
