use Rattle.std.proofs.Common.{◌≡◌, drop}
use Rattle.network.specs.Drafts.{drafted}
use Rattle.bristol.specs.Building.{marked}
use Rattle.bristol.proofs.builder.mark.Given as goal

abbrev pub invariant-loop-wire : goal.invariant-loop-wire
invariant-loop-wire l = marked (drafted l.draft) (drop l.wire-index l.wires) ≡ marked (drafted l.initial.draft) l.wires
