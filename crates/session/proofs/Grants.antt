-- A plan that was granted, made.
use Rattle.std.proofs.Common.{◌<◌, length, ap, subst}
use Rattle.circuit.specs.declared.Gate.{Gate}
use Rattle.sinks.specs.Meaning.{Meaning}
use Rattle.sinks.specs.Sending.{Taken}
use Rattle.ledger.specs.Ledgers.{Noted, standing}
use Rattle.ledger.specs.declared.moves.Move.{Move}
use Rattle.moves.specs.Spelled.{spelled}
use Rattle.session.specs.Granted.{Grant}
use Rattle.session.specs.State.{Moved, sent_now}
use Rattle.session.specs.declared.session.Plan.{Plan}
use Rattle.session.specs.declared.session.Session.{Session}

pub moved : {X : Type 0} {meaning : X → Meaning} {took : X → Gate → X → Type 0} (s t : Session X) (made : Move) (p : Plan) → Grant meaning s made p
    → (standing s.ledger < 1024 → Noted s.ledger p.made (length (spelled p.gates)) t.ledger) → Taken meaning took s.sink (spelled p.gates) t.sink → Moved meaning took s made t
unfolding Taken
moved {meaning = meaning} {took = took} s t made p h noted taken =
    let all = subst (λ gs. Taken meaning took s.sink gs t.sink) h.gates taken in
    record {
      ledger = subst (λ m. Noted s.ledger m (length (sent_now s made)) t.ledger) h.made (subst (λ n. Noted s.ledger p.made n t.ledger) (ap length h.gates) (noted h.log));
      taken = all h.places;
    }
