-- The number of each refusal of a text.
use Rattle.std.specs.Prelude.{ℕ, ◌≡◌}
use Rattle.std.proofs.Common.{arith}
use Rattle.refusals.specs.Drafts as drafts
use Rattle.refusals.specs.declared.text.TextRefusal.{TextRefusal}
use Rattle.refusals.specs.declared.text.TextRefusal.TheVariants.{TooLong, Malformed, Header, GateShape, Wiring, Draft}

-- the question that got the no; a draft's refusal keeps its own number
abbrev pub number : TextRefusal → ℕ
number TooLong = 30
number Malformed = 31
number Header = 32
number GateShape = 33
number Wiring = 34
number (Draft e) = drafts.number e

-- no two refusals have the same number
pub number_tells : (x y : TextRefusal) → number x ≡ number y → x ≡ y
number_tells x y same = grind arith
