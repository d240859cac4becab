use Rattle.std.proofs.Common.{is_ok, vec_items, vec_len, rules}
use Rattle.form.proofs.Below.{below_more}
use Rattle.network.specs.declared.wire.Step.TheVariants.{Gate}
use Rattle.network.specs.declared.wire.Wire.{Wire}
use Rattle.network.proofs.Grows.{built_cases, valid_cases}
use Rattle.network.proofs.Kept.{forms_kept}
use Rattle.network.proofs.draft.Draft.append.Goals as goal

pub invariant_of-self-clause-by_the_rules : goal.invariant_of-self-clause-by_the_rules
invariant_of-self-clause-by_the_rules c =
    let d = c.args.self.now in
    let w : Wire = record { step = Gate c.args.gate; form = c.args.form } in
    built_cases d.inputs (vec_items d.wires) (vec_items d.nodes) w _ (is_ok c.push.result) c.push.ensures.items c.requires.right d.by_the_rules

pub invariant_of-self-clause-reads_earlier : goal.invariant_of-self-clause-reads_earlier
invariant_of-self-clause-reads_earlier c =
    let d = c.args.self.now in
    let w : Wire = record { step = Gate c.args.gate; form = c.args.form } in
    valid_cases d.inputs (vec_items d.wires) w _ (is_ok c.push.result) c.push.ensures.items c.requires.passed.reads d.reads_earlier

pub invariant_of-self-clause-outputs_exist : goal.invariant_of-self-clause-outputs_exist
invariant_of-self-clause-outputs_exist c =
    let d = c.args.self.now in
    below_more (vec_items d.outputs) (vec_len d.wires) (vec_len c.push.new.self) (search rules) d.outputs_exist

pub invariant_of-self-clause-forms_in_basis : goal.invariant_of-self-clause-forms_in_basis
invariant_of-self-clause-forms_in_basis c =
    let d = c.args.self.now in
    forms_kept d.inputs (vec_len d.nodes) _ (vec_items d.nodes) d.nodes.ok.0 (invariant_of-self-clause-by_the_rules c) (invariant_of-self-clause-reads_earlier c)
