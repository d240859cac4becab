-- The number of each refusal of making a record.
use Rattle.std.specs.Prelude.{ℕ, ◌≡◌}
use Rattle.std.proofs.Common.{arith}
use Rattle.refusals.specs.declared.making.MakeRefusal.{MakeRefusal}
use Rattle.refusals.specs.declared.making.MakeRefusal.TheVariants.{Width, Size}

abbrev pub number : MakeRefusal → ℕ
number Width = 10
number Size = 11

-- no two refusals have the same number
pub number_tells : (x y : MakeRefusal) → number x ≡ number y → x ≡ y
number_tells x y same = grind arith
