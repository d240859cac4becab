use Rattle.std.proofs.Common.{[], ◌∷◌, arith}
use Rattle.std.proofs.lemmas.Grind.{common_steps}
use Rattle.moves.specs.Fans.{undone}
use Rattle.sinks.specs.Sending.{Taken}
use Rattle.sinks.proofs.Chains.{taken_one, taken_twice}
use Rattle.session.proofs.sending.send_conjugated.Goals as goal

pub returns-clause-all_taken_in_order : goal.returns-clause-all_taken_in_order
returns-clause-all_taken_in_order g c =
    let k = g.S.Sink in
    let s = c.args.sink.now in
    let t = c.send_all.new.sink in
    let u = c.send.new.sink in
    let v = c.send_undone.new.sink in
    let core = c.args.core in
    let around = c.args.around.now in
    let first : Taken k.meaning k.took s around t = grind (arith, common_steps) in
    taken_twice k.laws s t v around (core ∷ undone around) c.send_all.ensures.only_adds_gates first
    (taken_twice k.laws t u v (core ∷ []) (undone around) c.send.ensures.only_adds_gates (taken_one k.laws t u core c.send.ensures.taken_if_fit) c.send_undone.ensures.all_undone_in_order)
