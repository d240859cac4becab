use Rattle.std.proofs.Common.{map, vec_items, ap, ◌∙◌}
use Rattle.std.proofs.lemmas.List.{map_push}
use Rattle.network.specs.Networks.{sealed}
use Rattle.network.specs.Values.{given, step_value}
use Rattle.evaluation.proofs.Runs.{wire_run, all_run}
use Rattle.evaluation.proofs.chain.values_of_wires.Goals as goal

pub loop-wire-preserved : goal.loop-wire-preserved
loop-wire-preserved g c =
    let m = g.V.Algebra.meaning in
    let R = g.V.Algebra.ring in
    let x = given R (map m c.args.inputs.now) in
    let w = c.wire-item.result in
    let vs = vec_items c.loop-wire.values in
    wire_run R x c.wires-wire-items.result.now (sealed c.args.network.now).body.wires c.wires-wire-items.ensures.are_the_wires c.loop-wire.wire-index
    w (map m vs) _ _ (m c.value_of_step.result) c.loop-wire-test.true c.wire-item.is
    (c.value_of_step.ensures.is_value_of_step ∙ ap (λ t. step_value R x (map m t) w.step) c.deref.ensures.value)
    (ap (map m) c.in_ok-push.ensures.items ∙ map_push m vs c.value_of_step.result)
    c.loop-wire.invariant

pub returns : goal.returns
returns g c =
    let m = g.V.Algebra.meaning in
    let R = g.V.Algebra.ring in
    record {
      are_the_wire_values = all_run R (given R (map m c.args.inputs.now)) c.wires-wire-items.result.now (sealed c.args.network.now).body.wires c.wires-wire-items.ensures.are_the_wires c.loop-wire.wire-index
          (map m (vec_items c.loop-wire.values)) _ c.loop-wire-test.false c.loop-wire.invariant;
    }
