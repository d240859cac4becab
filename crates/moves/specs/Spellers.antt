-- What a speller puts down.
use Rattle.std.specs.Prelude.{◌≡◌, List, ◌++◌, take}
use Rattle.circuit.specs.declared.Gate.{Gate}
use Rattle.moves.specs.declared.speller.Speller.{Speller}

-- the gates follow those that stand, as far as there is room, and the lines stay
abbrev pub Adds : Speller → List Gate → Speller → Type 0
Adds old gates new = (new.gates.items ≡ take 512 (old.gates.items ++ gates)) × (new.lines ≡ old.lines)
