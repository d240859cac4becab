use Rattle.std.proofs.Common.{arith}
use Rattle.std.proofs.lemmas.Grind.{common_steps}
use Rattle.network.proofs.Lookups.{output_found}
use Rattle.network.proofs.network.Network.output.Goals as goal

pub returns : goal.returns
returns c =
    let d = c.args.self.now.draft in
    let t = output_found d c.args.j c.in_ok-item.field-0.now c.form.result (grind (arith, common_steps)) (grind (arith, common_steps)) c.form.ensures.is_form_of_wire_i in
    record { is_form_of_output_j = t.0; form_is_in_the_basis = t.1 }
