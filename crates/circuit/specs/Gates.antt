-- Gates: what one does to a state of lines, what it costs, whether it fits a width, and the gate that undoes it.
use Rattle.std.specs.Prelude.{ℕ, ◌+◌, Bool, true, false, cond, not, ◌&&◌, List, [], ◌∷◌, Some, None, Option, ◌==◌, nat_lt, slice_index_or, slice_set}
use Rattle.values.specs.Bits.{xor}
use Rattle.circuit.specs.declared.Gate.{Gate}
use Rattle.circuit.specs.declared.Gate.TheVariants.{Not, Cnot, And, Unand}

-- the value of a line
abbrev pub line : List Bool → ℕ → Bool
line s i = slice_index_or s i false

-- one gate on a state; None is a fault
abbrev pub step : Gate → List Bool → Option (List Bool)
step (Not t) s = Some (slice_set s t (not (line s t)))
step (Cnot a t) s = Some (slice_set s t (xor (line s a) (line s t)))
step (And a b t) s = cond (line s t) None (Some (slice_set s t (line s a && line s b)))
step (Unand a b t) s = cond (xor (line s t) (line s a && line s b)) None (Some (slice_set s t false))

-- one gate more, where there was no fault
abbrev pub after : Option (List Bool) → Gate → Option (List Bool)
after None g = None
after (Some s) g = step g s

-- the gates in order; nothing runs after a fault
abbrev pub run : List Gate → Option (List Bool) → Option (List Bool)
run [] o = o
run (g ∷ gs) o = run gs (after o g)

-- the T gates that a gate costs
abbrev pub tcost : Gate → ℕ
tcost (Not t) = 0
tcost (Cnot a t) = 0
tcost (And a b t) = 4
tcost (Unand a b t) = 0

-- the T-count of a list of gates
abbrev pub tcosts : List Gate → ℕ
tcosts [] = 0
tcosts (g ∷ gs) = tcost g + tcosts gs

-- whether every line lies below the width
abbrev pub inside : Gate → ℕ → Bool
inside (Not t) w = nat_lt t w
inside (Cnot a t) w = nat_lt a w && nat_lt t w
inside (And a b t) w = nat_lt a w && (nat_lt b w && nat_lt t w)
inside (Unand a b t) w = nat_lt a w && (nat_lt b w && nat_lt t w)

-- whether no two lines are the same
abbrev pub apart : Gate → Bool
apart (Not t) = true
apart (Cnot a t) = not (a == t)
apart (And a b t) = not (a == b) && (not (a == t) && not (b == t))
apart (Unand a b t) = not (a == b) && (not (a == t) && not (b == t))

-- whether each gate's lines lie below the width and differ
abbrev pub fitting : ℕ → List Gate → Bool
fitting w [] = true
fitting w (g ∷ gs) = (inside g w && apart g) && fitting w gs

-- the gate that undoes a gate
abbrev pub inverse : Gate → Gate
inverse (Not t) = Not t
inverse (Cnot a t) = Cnot a t
inverse (And a b t) = Unand a b t
inverse (Unand a b t) = And a b t
