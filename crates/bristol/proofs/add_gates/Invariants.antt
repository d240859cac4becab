use Rattle.std.proofs.Common.{◌≡◌, ◌-◌}
use Rattle.bristol.specs.Building.{building}
use Rattle.bristol.specs.Reading.{ahead}
use Rattle.bristol.specs.Texts.{gates_first}
use Rattle.bristol.proofs.add_gates.Given as goal

abbrev pub invariant-loop : goal.invariant-loop
invariant-loop l = gates_first l.count (building l.initial.builder) (ahead l.initial.reader) ≡ gates_first (l.count - l.counter) (building l.builder) (ahead l.reader)
