use Rattle.std.proofs.Common.{◌≡◌, ℕ, sym, ap, ◌∙◌, add-one, arith}
use mathlib.Core.Path.{fun_ext}
use Rattle.polynomials.specs.Polynomials.{coefficients}
use Rattle.polynomials.specs.Steps.{add_without}
use Rattle.polynomials.proofs.StepLaws.{add_subsets, steps_sum}
use Rattle.polynomials.proofs.words.subset_sums.Goals as goal

pub loop-variable-preserved : goal.loop-variable-preserved
loop-variable-preserved c =
    c.add_without-sums.ensures.adds_the_set_without
    ∙ ap (add_without 6 c.loop-variable.variable) c.loop-variable.invariant
    ∙ ap (λ (n : ℕ). add_subsets 6 n (coefficients 6 c.args.a)) (sym (add-one c.loop-variable.variable))

pub returns : goal.returns
returns c =
    let all : c.loop-variable.variable ≡ 6 = omega arith in
    record {
      are_the_subset_sums =
          c.loop-variable.invariant
          ∙ ap (λ (n : ℕ). add_subsets 6 n (coefficients 6 c.args.a)) all
          ∙ fun_ext (steps_sum 6 (coefficients 6 c.args.a));
    }
