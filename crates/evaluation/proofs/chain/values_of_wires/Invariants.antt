use Rattle.std.proofs.Common.{◌≡◌, map, drop, vec_items}
use Rattle.network.specs.Networks.{sealed}
use Rattle.network.specs.Values.{given, steps, chain, wire_values}
use Rattle.evaluation.proofs.chain.values_of_wires.Given as given'

abbrev pub invariant-loop-wire : given'.invariant-loop-wire
invariant-loop-wire g l =
    let R = g.V.Algebra.ring in
    let m = g.V.Algebra.meaning in
    let x = given R (map m l.inputs) in
    chain R x (map m (vec_items l.values)) (drop l.wire-index (steps (sealed l.network))) ≡ wire_values R x (sealed l.network)
