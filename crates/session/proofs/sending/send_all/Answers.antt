use Rattle.std.proofs.Common.{[], ◌∷◌, sym, ◌∙◌, subst}
use Rattle.std.proofs.iter.SoFar.{exit_by}
use Rattle.sinks.specs.Sending.{Taken}
use Rattle.sinks.proofs.Chains.{kept_twice, taken_one, taken_twice}
use Rattle.session.proofs.sending.send_all.Goals as goal

pub loop-g-preserved : goal.loop-g-preserved
loop-g-preserved g c =
    let i = c.loop-g.invariant in
    let l = g.S.Sink.laws in
    let s = c.args.sink.now in
    let t = c.loop-g.sink in
    let u = c.send.new.sink in
    record {
      only_adds_gates = kept_twice i.only_adds_gates c.send.ensures.only_adds_gates;
      all_taken = taken_twice l s t u c.loop-g.yielded (c.in-Some.g ∷ []) i.only_adds_gates i.all_taken (taken_one l t u c.in-Some.g c.send.ensures.taken_if_fit);
    }

pub returns-clause-all_taken_in_order : goal.returns-clause-all_taken_in_order
returns-clause-all_taken_in_order g c =
    let k = g.S.Sink in
    let p = exit_by g.I.Iterator.next_gives (c.loop-g.yielded, c.loop-g.yielded_by) c.next.new.self c.in-None.ensures.steps in
    let e = p.1 ∙ c.into_iter-g-iterator.ensures.into_iter_gives in
    (p.0, e, p.2, subst (λ gs. Taken k.meaning k.took c.args.sink.now gs c.loop-g.sink) (sym p.3.0) c.loop-g.invariant.all_taken)
