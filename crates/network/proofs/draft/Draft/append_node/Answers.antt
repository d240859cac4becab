use Rattle.std.proofs.Common.{◌≡◌, ◌+◌, true, [], ◌∷◌, ◌++◌, vec_items, vec_len, ap, ◌∙◌, arith}
use mathlib.Core.Logic.{∥∥₁_map}
use Rattle.form.specs.Shapes.{element_form}
use Rattle.form.proofs.Below.{below_more}
use Rattle.network.specs.declared.wire.Step.TheVariants.{Gate}
use Rattle.network.specs.declared.wire.Wire.{Wire}
use Rattle.network.proofs.Grows.{built_more, node_added, valid_cases}
use Rattle.network.proofs.Kept.{forms_kept, nodes_kept}
use Rattle.network.proofs.draft.Draft.append_node.Goals as goal
use Rattle.network.proofs.draft.Draft.append_node.Goals.{After-push_reserved}

abbrev wire : After-push_reserved → Wire
wire c = record { step = Gate c.args.gate; form = c.in_ok-form.form }

longer : (c : After-push_reserved) → vec_items c.push_reserved.new.self ≡ vec_items c.args.self.now.wires ++ wire c ∷ []
longer c = c.push_reserved.ensures.items ∙ ap (λ l. l ++ wire c ∷ []) c.reserve.ensures.items

pub invariant_of-self-2-clause-by_the_rules : goal.invariant_of-self-2-clause-by_the_rules
invariant_of-self-2-clause-by_the_rules c =
    let d = c.args.self.now in
    let alone = c.in_ok-form.ensures.is_the_element ∙ ap (λ k. element_form (d.inputs + k)) c.nodes.ensures.is_the_number_of_nodes in
    let more = node_added d.inputs (vec_items d.wires) (vec_items d.nodes) (wire c) _ _ c.args.node (longer c) c.in_ok-push.ensures.items alone c.requires.right in
    ∥∥₁_map d.by_the_rules (built_more d.inputs (vec_items d.wires) (vec_items d.nodes) (wire c) _ _ (longer c) more)

pub invariant_of-self-2-clause-reads_earlier : goal.invariant_of-self-2-clause-reads_earlier
invariant_of-self-2-clause-reads_earlier c =
    let d = c.args.self.now in valid_cases d.inputs (vec_items d.wires) (wire c) _ true (longer c) c.requires.passed.reads d.reads_earlier

pub invariant_of-self-2-clause-outputs_exist : goal.invariant_of-self-2-clause-outputs_exist
invariant_of-self-2-clause-outputs_exist c =
    let d = c.args.self.now in
    below_more (vec_items d.outputs) (vec_len d.wires) _ (omega (arith, c.push_reserved.ensures.len, c.reserve.ensures.len)) d.outputs_exist

pub invariant_of-self-2-clause-forms_in_basis : goal.invariant_of-self-2-clause-forms_in_basis
invariant_of-self-2-clause-forms_in_basis c =
    forms_kept c.args.self.now.inputs _ _ _ c.push.new.self.ok.0 (invariant_of-self-2-clause-by_the_rules c) (invariant_of-self-2-clause-reads_earlier c)

pub invariant_of-self-2-clause-nodes_proper : goal.invariant_of-self-2-clause-nodes_proper
invariant_of-self-2-clause-nodes_proper c = nodes_kept c.args.self.now.inputs _ _ (invariant_of-self-2-clause-by_the_rules c) (invariant_of-self-2-clause-reads_earlier c)
