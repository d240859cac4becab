use Rattle.form.specs.Shapes.{shape}
use Rattle.moves.specs.Fans.{line_by, adds, not_if}
use Rattle.moves.specs.Spellers.{Adds}
use Rattle.moves.proofs.Adding.{adds_both}
use Rattle.moves.proofs.speller.Speller.spell_form.Goals as goal

pub returns : goal.returns
returns c =
    let f = shape c.args.form.now in
    let s = c.args.self.now in
    let t = c.add_elements.new.self in
    let u = c.add_constant.new.self in
    let xs = adds (line_by s.lines) c.args.t f.set in
    let ys = not_if f.constant c.args.t in
    let adds_xs : Adds s xs t = (cc, cc) in
    let adds_ys : Adds t ys u = (cc, cc) in
    record { adds_copied = adds_both s t u xs ys adds_xs adds_ys }
