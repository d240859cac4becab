-- The parts of a text, read off the pieces that are ahead.
use Rattle.std.specs.Prelude.{ℕ, zero, suc, ◌+◌, cond, ◌&&◌, ◌==◌, List, [], ◌∷◌, Some, None, Ok, Err, Option, Result}
use Rattle.scan.specs.Cuts.{Piece}
use Rattle.scan.specs.Numbers.{number_of}
use Rattle.scan.specs.Tokens.{left}
use Rattle.bristol.specs.Gates.{operation_of, gate_over}
use Rattle.bristol.specs.Headers.{header_of}
use Rattle.refusals.specs.Texts.{number}
use Rattle.bristol.specs.declared.gate.Operands.{Operands}
use Rattle.bristol.specs.declared.gate.Operands.TheVariants.{One, Two}
use Rattle.bristol.specs.declared.gate.GateLine.{GateLine}
use Rattle.bristol.specs.declared.gate.Operation.{Operation}
use Rattle.bristol.specs.declared.header.Header.{Header}
use Rattle.bristol.specs.declared.reader.Reader.{Reader}
use Rattle.refusals.specs.declared.text.TextRefusal.{TextRefusal}

-- the pieces that a reader has not read
abbrev pub ahead : Reader → List Piece
ahead r = left r.scanner

-- what is read, and the pieces after it; or the number of the question that got a no
abbrev pub Reading : Type 0 → Type 0
Reading X = Result (X × List Piece) ℕ

-- what a call answers, and the pieces that it leaves
abbrev pub answer : {X : Type 0} → Result X TextRefusal → List Piece → Reading X
answer (Ok x) ps = Ok (x, ps)
answer (Err e) ps = Err (number e)

-- one reading, and then what goes on from it and from the pieces that it leaves
abbrev pub then_read : {X Y : Type 0} → Reading X → (X → List Piece → Result Y ℕ) → Result Y ℕ
then_read (Ok (x, ps)) f = f x ps
then_read (Err e) f = Err e

abbrev pub worth_or_no : Option ℕ → List Piece → Reading ℕ
worth_or_no (Some n) ps = Ok (n, ps)
worth_or_no None ps = Err 31

-- a number
abbrev pub number_first : List Piece → Reading ℕ
number_first [] = Err 31
number_first (p ∷ ps) = worth_or_no (number_of p.bytes) ps

-- an operation
abbrev pub operation_first : List Piece → Reading Operation
operation_first [] = Err 31
operation_first (p ∷ ps) = answer (operation_of p.bytes) ps

-- so many numbers, added to a sum
abbrev pub sum_first : ℕ → ℕ → List Piece → Reading ℕ
sum_first zero sum ps = Ok (sum, ps)
sum_first (suc k) sum ps = then_read (number_first ps) (λ n rest. sum_first k (sum + n) rest)

-- how many values there are, and the width of each
abbrev pub width_first : List Piece → Reading ℕ
width_first ps = then_read (number_first ps) (λ count rest. sum_first count 0 rest)

-- gate count, wire count, input values and output values, which fit each other and the limits
abbrev pub header_first : List Piece → Reading Header
header_first ps =
    then_read (number_first ps)
    (λ gates ps1. then_read (number_first ps1)
    (λ wires ps2. then_read (width_first ps2)
    (λ inputs ps3. then_read (width_first ps3)
    (λ outputs ps4. answer (header_of gates wires inputs outputs) ps4))))

-- the wires read by a gate that reads and gives so many: 2 1 or 1 1
abbrev pub operands_first : ℕ → ℕ → List Piece → Reading Operands
operands_first reads gives ps =
    cond (reads == 1 && gives == 1) (then_read (number_first ps) (λ a ps1. Ok (One a, ps1)))
    (cond (reads == 2 && gives == 1) (then_read (number_first ps) (λ a ps1. then_read (number_first ps1) (λ b ps2. Ok (Two a b, ps2))))
    (Err 33))

-- a gate: how many wires it reads and gives, the wires read, the wire given, and the operation
abbrev pub line_first : List Piece → Reading GateLine
line_first ps =
    then_read (number_first ps)
    (λ reads ps1. then_read (number_first ps1)
    (λ count ps2. then_read (operands_first reads count ps2)
    (λ operands ps3. then_read (number_first ps3)
    (λ gives ps4. then_read (operation_first ps4)
    (λ operation ps5. then_read (answer (gate_over operation operands) ps5)
    (λ gate ps6. Ok (record { gate = gate; gives = gives }, ps6)))))))

-- no piece at all
abbrev pub end_first : List Piece → Reading (Unit {0})
end_first [] = Ok (tt, [])
end_first (p ∷ ps) = Err 31
