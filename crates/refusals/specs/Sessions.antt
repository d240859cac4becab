-- The number of each refusal of a session's calls.
use Rattle.std.specs.Prelude.{ℕ, ◌≡◌}
use Rattle.std.proofs.Common.{arith}
use Rattle.refusals.specs.declared.session.SessionRefusal.{SessionRefusal}
use Rattle.refusals.specs.declared.session.SessionRefusal.TheVariants.{NoPlaces, Width, NoSuchNode, NodeHeld, OperandNotHeld, LineNotFree, LogFull, NodeNotHeld, NoSuchOutput, StillHeld, EvenCopies}

abbrev pub number : SessionRefusal → ℕ
number NoPlaces = 9
number Width = 13
number NoSuchNode = 14
number NodeHeld = 15
number OperandNotHeld = 16
number LineNotFree = 17
number LogFull = 18
number NodeNotHeld = 19
number NoSuchOutput = 20
number StillHeld = 22
number EvenCopies = 23

-- no two refusals have the same number
pub number_tells : (x y : SessionRefusal) → number x ≡ number y → x ≡ y
number_tells x y same = grind arith
