-- The number of each refusal of a draft's calls.
use Rattle.std.specs.Prelude.{ℕ, ◌≡◌}
use Rattle.std.proofs.Common.{arith}
use Rattle.refusals.specs.declared.draft.DraftRefusal.{DraftRefusal}
use Rattle.refusals.specs.declared.draft.DraftRefusal.TheVariants.{Inputs, WireLimit, NoSuchWire, NodeLimit, OutputLimit, NoOutput, OutOfMemory}

-- want of memory has no question's number
abbrev pub number : DraftRefusal → ℕ
number Inputs = 1
number WireLimit = 2
number NoSuchWire = 3
number NodeLimit = 4
number OutputLimit = 5
number NoOutput = 6
number OutOfMemory = 0

-- no two refusals have the same number
pub number_tells : (x y : DraftRefusal) → number x ≡ number y → x ≡ y
number_tells x y same = grind arith
