use Rattle.std.proofs.Common.{ℕ, ◌*◌, ◌%◌, ◌^◌, ◌<◌, ap, ◌∙◌, arith}
use lib.Bits.{bit_and, bit_xor}
use Rattle.std.proofs.lemmas.Nat.{one_shl, pow_below}
use Rattle.polynomials.specs.Polynomials.{coefficients}
use Rattle.polynomials.proofs.Masks.{masked_step}
use Rattle.polynomials.proofs.words.add_without.Goals as goal

pub overflow_shl-result-2 : goal.overflow_shl-result-2
overflow_shl-result-2 c =
    let h : c.args.variable < 32 = omega arith in
    omega (arith, one_shl c.args.variable 32 h, pow_below c.args.variable 6 c.requires.is_a_variable)

pub returns : goal.returns
returns c =
    let a : ℕ = c.args.a in
    let v : ℕ = c.args.variable in
    let mask : ℕ = c.args.sets in
    let h : v < 32 = omega arith in
    record {
      adds_the_set_without =
          ap (λ (n : ℕ). coefficients 6 (bit_xor a (bit_and ((a * 2 ^ n) % 2 ^ 64) mask))) (one_shl v 32 h)
          ∙ masked_step v mask a c.requires.has_the_sets_with_it;
    }
