-- Whether bytes hold gates that fit a width.
use Rattle.std.specs.Prelude.{ℕ, zero, suc, Bool, true, false, ◌&&◌, List, Some, None, Option}
use Rattle.circuit.specs.declared.Gate.{Gate}
use Rattle.circuit.specs.Gates.{inside, apart}
use Rattle.record.specs.Bytes.{parsed, block}

-- a gate whose lines lie below the width and differ
abbrev pub fits : ℕ → Option Gate → Bool
fits w None = false
fits w (Some g) = inside g w && apart g

-- each of the first n blocks is such a gate
abbrev pub all_fit : ℕ → ℕ → List ℕ → Bool
all_fit w zero bs = true
all_fit w (suc n) bs = all_fit w n bs && fits w (parsed (block bs n))
