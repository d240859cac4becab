use Rattle.std.proofs.Common.{Result, subst}
use Rattle.circuit.specs.declared.Gate.{Gate}
use Rattle.sinks.specs.Meaning.{Meaning}
use Rattle.sinks.specs.Laws.{Laws}
use Rattle.sinks.specs.Sending.{Kept}
use Rattle.sinks.proofs.Chains.{kept_twice}
use Rattle.session.specs.Ending.{HandedBack, ClosedFull}
use Rattle.refusals.specs.declared.session.SessionRefusal.{SessionRefusal}
use Rattle.session.proofs.compiling.compile.Goals as goal

-- a sink that took some gates and was handed back closed
handed : {S : Type 0} {meaning : S → Meaning} {took : S → Gate → S → Type 0} {shut : S → S → Type 0} (laws : Laws meaning took shut)
    (s m t : S) (answer : Result (Unit {0}) SessionRefusal) → Kept meaning took s m → HandedBack meaning took shut m answer t → ClosedFull meaning took shut s t
handed laws s m t answer k h =
    record { last = h.last; kept = kept_twice k h.kept; closed = h.closed; full = (laws.closed h.last t h.closed).free }

pub returns : goal.returns
returns g c =
    let k = g.S.Sink in
    let end = c.end-sink in
    record {
      hands_back_closed = subst (λ s. ClosedFull k.meaning k.took k.shut s end.result.sink) c.open-session.ensures.opens_empty.on_sink
          (handed k.laws c.open-session.result.0.sink c.make_all-made.new.self.sink end.result.sink end.result.answer c.make_all-made.ensures.keeps_network_and_only_adds_gates.sink end.ensures.hands_back_closed);
    }
