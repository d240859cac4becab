-- The number of the refusal of a table's lookup.
use Rattle.std.specs.Prelude.{ℕ, ◌≡◌}
use Rattle.std.proofs.Common.{arith}
use Rattle.refusals.specs.declared.lookup.LookupRefusal.{LookupRefusal}
use Rattle.refusals.specs.declared.lookup.LookupRefusal.TheVariants.{StateOutside}

abbrev pub number : LookupRefusal → ℕ
number StateOutside = 12

-- no two refusals have the same number
pub number_tells : (x y : LookupRefusal) → number x ≡ number y → x ≡ y
number_tells x y same = grind arith
