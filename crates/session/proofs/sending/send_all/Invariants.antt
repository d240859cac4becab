use Rattle.sinks.specs.Sending.{Kept, Taken}
use Rattle.session.proofs.sending.send_all.Given as goal

abbrev pub invariant-loop-g : goal.invariant-loop-g
invariant-loop-g g l = record {
  only_adds_gates : Kept g.S.Sink.meaning g.S.Sink.took l.initial.sink l.sink;
  all_taken : Taken g.S.Sink.meaning g.S.Sink.took l.initial.sink l.yielded l.sink;
}
