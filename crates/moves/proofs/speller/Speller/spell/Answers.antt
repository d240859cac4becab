use Rattle.std.proofs.Common.{◌≡◌, ◌+◌, rules, ap, ◌∙◌, sym}
use Rattle.form.specs.Shapes.{shape}
use Rattle.ledger.specs.Ledgers.{line_of}
use Rattle.network.specs.Wires.{node_shape, node_at, output_form}
use Rattle.network.specs.Networks.{sealed}
use Rattle.moves.specs.Fans.{line_by, copied}
use Rattle.moves.specs.Spelling.{prelude, around_of}
use Rattle.moves.proofs.Adding.{adds_same}
use Rattle.moves.proofs.speller.Speller.spell.Goals as goal

pub returns-in_ok-node-in-Compute-clause-adds_around : goal.returns-in_ok-node-in-Compute-clause-adds_around
returns-in_ok-node-in-Compute-clause-adds_around c = λ k.
    let s = c.args.self.now in
    let net = sealed c.args.network.now in
    let held = s.lines.ledger.now.held in
    let d = node_shape c.in_ok-node-in-Compute.field-0.now in
    let is_node : d ≡ node_at net c.in-Compute.node = search rules in
    adds_same s c.spell_node.new.self (prelude (line_by s.lines) d) (around_of net held c.args.made) c.spell_node.ensures.adds_prelude
    (ap (λ n. prelude (line_of n held) d) c.requires.lines_of_network ∙ ap (prelude (line_of net.inputs held)) is_node ∙ sym (ap (around_of net held) c.in-Compute.is))

pub returns-in_ok-node-in-Release-clause-adds_around : goal.returns-in_ok-node-in-Release-clause-adds_around
returns-in_ok-node-in-Release-clause-adds_around c = λ k.
    let s = c.args.self.now in
    let net = sealed c.args.network.now in
    let held = s.lines.ledger.now.held in
    let d = node_shape c.in_ok-node-in-Release.field-0.now in
    let is_node : d ≡ node_at net c.in-Release.node = search rules in
    adds_same s c.spell_node-in-Release.new.self (prelude (line_by s.lines) d) (around_of net held c.args.made) c.spell_node-in-Release.ensures.adds_prelude
    (ap (λ n. prelude (line_of n held) d) c.requires.lines_of_network ∙ ap (prelude (line_of net.inputs held)) is_node ∙ sym (ap (around_of net held) c.in-Release.is))

pub returns-in_ok-output-in-Copy-clause-adds_around : goal.returns-in_ok-output-in-Copy-clause-adds_around
returns-in_ok-output-in-Copy-clause-adds_around c = λ k.
    let s = c.args.self.now in
    let net = sealed c.args.network.now in
    let held = s.lines.ledger.now.held in
    let f = shape c.in_ok-output-in-Copy.field-0.now in
    let t = c.inputs.result + c.in-Copy.output in
    let is_form : f ≡ output_form net c.in-Copy.output = search rules in
    adds_same s c.spell_form.new.self (copied (line_by s.lines) f t) (around_of net held c.args.made) c.spell_form.ensures.adds_copied
    (ap (λ n. copied (line_of n held) f t) c.requires.lines_of_network ∙ ap (λ g. copied (line_of net.inputs held) g t) is_form ∙ ap (λ n. copied (line_of net.inputs held) (output_form net c.in-Copy.output) (n + c.in-Copy.output)) c.inputs.ensures.is_the_number_of_inputs ∙ sym (ap (around_of net held) c.in-Copy.is))
