-- A number more of those that are to be added.
use Rattle.std.proofs.Common.{◌≡◌, ℕ, suc, ◌+◌, ◌-◌, ◌<◌, List, ap, arith}
use Rattle.scan.specs.Cuts.{Piece}
use Rattle.bristol.specs.Reading.{then_read, number_first, sum_first}

pub one_more : (k i s : ℕ) (ps : List Piece) → i < k → sum_first (k - i) s ps ≡ then_read (number_first ps) (λ n rest. sum_first (k - (i + 1)) (s + n) rest)
one_more k i s ps more = let e : k - i ≡ suc (k - (i + 1)) = omega arith in ap (λ m. sum_first m s ps) e
