-- The questions before a record is made.
use Rattle.std.specs.Prelude.{ℕ, ◌-◌, ◌/◌, cond, ◌||◌, Ok, Err, Result, nat_lt}
use Rattle.refusals.specs.declared.making.MakeRefusal.{MakeRefusal}
use Rattle.refusals.specs.declared.making.MakeRefusal.TheVariants.{Width, Size}

-- the answer at a width and a buffer's size: the first no decides
abbrev pub checked : ℕ → ℕ → Result (Unit {0}) MakeRefusal
checked width size =
    cond (nat_lt width 1 || nat_lt 320 width) (Err Width) (cond (nat_lt size 12 || nat_lt 524292 size) (Err Size) (Ok tt))

-- the places for gates in a buffer of a size, after that answer
abbrev pub places_at : Result (Unit {0}) MakeRefusal → ℕ → ℕ
places_at (Ok u) size = (size - 12) / 8
places_at (Err e) size = 0
