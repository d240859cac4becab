-- Whether a header's numbers fit each other and the limits.
use Rattle.std.specs.Prelude.{ℕ, ◌+◌, cond, ◌&&◌, Bool, Ok, Err, Result, ◌==◌, nat_le}
use Rattle.bristol.specs.declared.header.Header as headers
use Rattle.refusals.specs.declared.text.TextRefusal.{TextRefusal}
use Rattle.refusals.specs.declared.text.TextRefusal.TheVariants.{Header}

-- 1 to 64 inputs, 1 to 64 outputs, a wire for each input and gate, at most 1,024 wires, and no more outputs than wires
abbrev pub numbers_fit : ℕ → ℕ → ℕ → ℕ → Bool
numbers_fit gates wires inputs outputs =
    (nat_le 1 inputs && nat_le inputs 64) && ((nat_le 1 outputs && nat_le outputs 64) && ((wires == inputs + gates) && (nat_le wires 1024 && nat_le outputs wires)))

abbrev pub header_of : ℕ → ℕ → ℕ → ℕ → Result headers.Header TextRefusal
header_of gates wires inputs outputs =
    cond (numbers_fit gates wires inputs outputs) (Ok (record { gates = gates; wires = wires; inputs = inputs; outputs = outputs })) (Err Header)
