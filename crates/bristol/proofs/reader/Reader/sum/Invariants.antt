use Rattle.std.proofs.Common.{◌≡◌, ◌-◌, ◌*◌, ◌≤◌}
use Rattle.bristol.specs.Reading.{ahead, sum_first}
use Rattle.bristol.proofs.reader.Reader.sum.Given as goal

abbrev pub invariant-loop : goal.invariant-loop
invariant-loop l = (l.sum ≤ 65535 * l.counter) × (sum_first (l.count - l.counter) l.sum (ahead l.self) ≡ sum_first l.count 0 (ahead l.initial.self))
