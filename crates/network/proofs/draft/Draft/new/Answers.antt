use Rattle.std.proofs.Common.{◌≡◌, true, vec_items, sym, subst, arith}
use Rattle.network.specs.Wires.{valid}
use Rattle.network.proofs.Grows.{Built, inputs_step, valid_inputs}
use Rattle.network.proofs.Kept.{forms_kept, nodes_kept}
use Rattle.network.proofs.draft.Draft.new.Goals as goal

pub loop-i-preserved : goal.loop-i-preserved
loop-i-preserved c =
    let inv = c.loop-i.invariant in
    let s = inputs_step c.args.n c.loop-i.i (vec_items c.loop-i.wires) _ c.in_ok-input_wire.field-0 (omega (arith, c.loop-i.wires.ok.0)) c.in_ok-push.ensures.items c.in_ok-input_wire.ensures.is_the_input inv.1 inv.2 in
    (omega (arith, c.in_ok-push.ensures.len), s.0, s.1)

pub invariant_of-result-clause-by_the_rules : goal.invariant_of-result-clause-by_the_rules
invariant_of-result-clause-by_the_rules c =
    ∣ subst (Built c.args.n (vec_items c.loop-i.wires)) (sym c.new-2.ensures.items) c.loop-i.invariant.2 ∣₁

pub invariant_of-result-clause-reads_earlier : goal.invariant_of-result-clause-reads_earlier
invariant_of-result-clause-reads_earlier c =
    let inv = c.loop-i.invariant in subst (λ l. valid c.args.n 0 l ≡ true) (sym inv.1) (valid_inputs c.args.n 0 c.loop-i.i (omega arith))

pub invariant_of-result-clause-forms_in_basis : goal.invariant_of-result-clause-forms_in_basis
invariant_of-result-clause-forms_in_basis c = forms_kept c.args.n _ _ _ c.new-2.result.ok.0 (invariant_of-result-clause-by_the_rules c) (invariant_of-result-clause-reads_earlier c)

pub invariant_of-result-clause-nodes_proper : goal.invariant_of-result-clause-nodes_proper
invariant_of-result-clause-nodes_proper c = nodes_kept c.args.n _ _ (invariant_of-result-clause-by_the_rules c) (invariant_of-result-clause-reads_earlier c)
