use Rattle.std.proofs.Common.{◌≡◌, [], ◌++◌, ap, sym, ◌∙◌}
use Rattle.std.proofs.lemmas.List.{append_assoc}
use Rattle.network.specs.Wires.{node_shape}
use Rattle.moves.specs.Fans.{line_by, fan, not_if}
use Rattle.moves.specs.Spelling.{first_carrier, second_carrier, formed, sets_formed}
use Rattle.moves.specs.Spellers.{Adds}
use Rattle.moves.proofs.Adding.{adds_both, adds_same}
use Rattle.moves.proofs.speller.Speller.spell_node.Goals as goal

pub returns-clause-adds_prelude : goal.returns-clause-adds_prelude
returns-clause-adds_prelude c =
    let d = node_shape c.args.node.now in
    let k = c.of-carriers in
    let s = c.args.self.now in
    let at = line_by s.lines in
    let f = fan at k.result.leading.carrier k.result.leading.elements.now in
    let g = fan at k.result.other.carrier k.result.other.elements.now in
    let x = not_if d.first.constant (at (first_carrier d)) in
    let y = not_if d.second.constant (at (second_carrier d)) in
    let p = c.add_fan.new.self in
    let q = c.add_fan-2.new.self in
    let t = c.add_constant.new.self in
    let u = c.add_constant-2.new.self in
    let adds_g : Adds p g q = (cc, cc) in
    let adds_x : Adds q x t = (cc, cc) in
    let adds_y : Adds t y u = (cc, cc) in
    let sets : f ++ (g ++ []) ≡ sets_formed at d = ap (formed at) k.ensures.in_order in
    adds_same s u (f ++ (g ++ (x ++ y))) _
    (adds_both s p u f (g ++ (x ++ y)) c.add_fan.ensures.adds_fan (adds_both p q u g (x ++ y) adds_g (adds_both q t u x y adds_x adds_y)))
    (sym (append_assoc f (g ++ []) (x ++ y) ∙ ap (λ gs. f ++ gs) (append_assoc g [] (x ++ y))) ∙ ap (λ gs. gs ++ (x ++ y)) sets)
