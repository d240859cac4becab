use Rattle.std.proofs.Common.{◌≡◌}
use Rattle.polynomials.specs.Polynomials.{coefficients}
use Rattle.polynomials.proofs.StepLaws.{add_subsets}
use Rattle.polynomials.proofs.words.subset_sums.Given as goal

abbrev pub invariant-loop-variable : goal.invariant-loop-variable
invariant-loop-variable l = coefficients 6 l.sums ≡ add_subsets 6 l.variable (coefficients 6 l.a)
