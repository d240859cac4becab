-- The number of each refusal of reading a record.
use Rattle.std.specs.Prelude.{ℕ, ◌≡◌}
use Rattle.std.proofs.Common.{arith}
use Rattle.refusals.specs.declared.reading.ReadRefusal.{ReadRefusal}
use Rattle.refusals.specs.declared.reading.ReadRefusal.TheVariants.{Short, Trailer, GateForm, TCount}

abbrev pub number : ReadRefusal → ℕ
number Short = 26
number Trailer = 27
number GateForm = 28
number TCount = 29

-- no two refusals have the same number
pub number_tells : (x y : ReadRefusal) → number x ≡ number y → x ≡ y
number_tells x y same = grind arith
