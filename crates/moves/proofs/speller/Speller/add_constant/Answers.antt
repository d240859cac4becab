use Rattle.std.proofs.Common.{◌++◌, take, sym, ap, refl, ◌∙◌, arith}
use Rattle.std.proofs.lemmas.Bool.Decides.{nat_tests}
use Rattle.std.proofs.lemmas.List.{append-nil, take_all, take-append-le}
use Rattle.moves.specs.Fans.{not_if}
use Rattle.moves.proofs.speller.Speller.add_constant.Goals as goal
use Rattle.moves.proofs.speller.Speller.add_constant.Goals.{else-not-is_full-via-then-not-is_full+else-constant, else-not-is_full-via-else-not-is_full}

pub returns-then-constant : goal.returns-then-constant
returns-then-constant c =
    let s = c.args.self.now.gates.items in
    record {
      adds_not_if = (c.push.ensures.items ∙ sym (ap (λ v. take 512 (s ++ not_if v c.args.t)) c.if-constant.true ∙ take_all 512 _ (simp (← c.push.ensures.items) (grind (arith, nat_tests)))), refl);
    }

pub returns-else-not-is_full : goal.returns-else-not-is_full
returns-else-not-is_full c =
    let s = c.args.self.now.gates.items in
    record {
      adds_not_if = (
        elim c.else-not-is_full.branch [
          | else-not-is_full-via-then-not-is_full+else-constant w ↦
              sym (ap (λ v. take 512 (s ++ not_if v c.args.t)) w.if-constant.false ∙ ap (take 512) (append-nil s) ∙ take_all 512 s c.is_full.ensures.fits)
          | else-not-is_full-via-else-not-is_full w ↦
              sym (take-append-le 512 s (not_if c.args.constant c.args.t) (grind (arith, nat_tests)) ∙ take_all 512 s c.is_full.ensures.fits)
        ],
        refl,
      );
    }
