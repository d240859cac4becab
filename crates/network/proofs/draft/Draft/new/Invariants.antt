use Rattle.std.proofs.Common.{◌≡◌, [], replicate, vec_items, vec_len}
use Rattle.network.specs.Wires.{grown, no_wires, steps_of, body_of}
use Rattle.network.specs.declared.wire.Step.TheVariants.{Input}
use Rattle.network.proofs.draft.Draft.new.Given as goal

abbrev pub invariant-loop-i : goal.invariant-loop-i
invariant-loop-i l = (vec_len l.wires ≡ l.i) × (steps_of (vec_items l.wires) ≡ replicate l.i Input) × (grown l.n no_wires (steps_of (vec_items l.wires)) ≡ body_of (vec_items l.wires) [])
