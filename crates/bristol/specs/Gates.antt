-- What the operation of a gate and the wires that it reads say.
use Rattle.std.specs.Prelude.{ℕ, cond, List, Ok, Err, codes, Result}
use Rattle.std.specs.Str.{bytes_eq}
use Rattle.network.specs.declared.wire.Gate.{Gate}
use Rattle.network.specs.declared.wire.Gate.TheVariants as gates
use Rattle.bristol.specs.declared.gate.Operands.{Operands}
use Rattle.bristol.specs.declared.gate.Operands.TheVariants.{One, Two}
use Rattle.bristol.specs.declared.gate.Operation.{Operation}
use Rattle.bristol.specs.declared.gate.Operation.TheVariants.{Xor, And, Inv}
use Rattle.refusals.specs.declared.text.TextRefusal.{TextRefusal}
use Rattle.refusals.specs.declared.text.TextRefusal.TheVariants.{GateShape}

-- the words XOR, AND and INV
abbrev pub operation_of : List ℕ → Result Operation TextRefusal
operation_of word =
    cond (bytes_eq word (codes "XOR")) (Ok Xor)
    (cond (bytes_eq word (codes "AND")) (Ok And) (cond (bytes_eq word (codes "INV")) (Ok Inv) (Err GateShape)))

-- XOR and AND read two wires, INV reads one
abbrev pub gate_over : Operation → Operands → Result Gate TextRefusal
gate_over Xor (Two a b) = Ok (gates.Xor a b)
gate_over And (Two a b) = Ok (gates.And a b)
gate_over Inv (One a) = Ok (gates.Inv a)
gate_over Xor (One a) = Err GateShape
gate_over And (One a) = Err GateShape
gate_over Inv (Two a b) = Err GateShape
