use Rattle.std.proofs.Common.{◌≡◌, ◌≤◌, drop}
use Rattle.scan.specs.Numbers.{number_of}
use Rattle.scan.proofs.Digits.{judged}
use Rattle.scan.proofs.token.number.Given as goal

abbrev pub invariant-loop-b : goal.invariant-loop-b
invariant-loop-b l = record { fits : l.worth ≤ 65535; read : judged l.worth (drop l.b-index l.text) ≡ number_of l.text }
