use Rattle.ledger.specs.Ledgers.{standing}
use Rattle.session.specs.State.{Steady}
use Rattle.session.proofs.session.Session.unwind.Given as goal

abbrev pub invariant-loop-made : goal.invariant-loop-made
invariant-loop-made g l = Steady g.S.Sink.meaning g.S.Sink.took l.initial.self l.self

abbrev pub decreases-loop-made : goal.decreases-loop-made
decreases-loop-made g l = standing l.self.ledger
