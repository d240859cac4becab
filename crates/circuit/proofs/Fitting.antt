-- Lists of gates that fit a width, put together.
use Rattle.std.proofs.Common.{◌≡◌, ℕ, true, ◌&&◌, List, [], ◌∷◌, ◌++◌, refl}
use Rattle.std.proofs.lemmas.Bool.{and_parts, and_from}
use Rattle.circuit.specs.declared.Gate.{Gate}
use Rattle.circuit.specs.Gates.{inside, apart, fitting}

pub fitting_append : (w : ℕ) (a b : List Gate) → fitting w a ≡ true → fitting w b ≡ true → fitting w (a ++ b) ≡ true
fitting_append w [] b p q = q
fitting_append w (g ∷ a) b p q =
    let h = and_parts (inside g w && apart g) (fitting w a) p in
    and_from (inside g w && apart g) (fitting w (a ++ b)) h.0 (fitting_append w a b h.1 q)

pub fitting_parts : (w : ℕ) (a b : List Gate) → fitting w (a ++ b) ≡ true → (fitting w a ≡ true) × (fitting w b ≡ true)
fitting_parts w [] b h = (refl, h)
fitting_parts w (g ∷ a) b h =
    let p = and_parts (inside g w && apart g) (fitting w (a ++ b)) h in
    let q = fitting_parts w a b p.1 in
    (and_from (inside g w && apart g) (fitting w a) p.0 q.0, q.1)
