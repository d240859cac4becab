use Rattle.session.specs.State.{Steady}
use Rattle.session.proofs.session.Session.make_all.Given as goal

abbrev pub invariant-loop-i : goal.invariant-loop-i
invariant-loop-i g l = Steady g.S.Sink.meaning g.S.Sink.took l.fn.self l.self

abbrev pub invariant-loop-j : goal.invariant-loop-j
invariant-loop-j g l = Steady g.S.Sink.meaning g.S.Sink.took l.fn.self l.self

abbrev pub invariant-loop-i-2 : goal.invariant-loop-i-2
invariant-loop-i-2 g l = Steady g.S.Sink.meaning g.S.Sink.took l.fn.self l.self
