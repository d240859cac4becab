-- Calls that keep a session's network and only add gates to its sink, one after the other.
use Rattle.std.proofs.Common.{refl, ◌∙◌}
use Rattle.circuit.specs.declared.Gate.{Gate}
use Rattle.sinks.specs.Meaning.{Meaning}
use Rattle.sinks.proofs.Chains.{kept_none, kept_twice}
use Rattle.session.specs.State.{Steady}
use Rattle.session.specs.declared.session.Session.{Session}

pub steady_none : {S : Type 0} {meaning : S → Meaning} {took : S → Gate → S → Type 0} (s : Session S) → Steady meaning took s s
steady_none s = record { network = refl; sink = kept_none _ _ s.sink }

pub steady_twice : {S : Type 0} {meaning : S → Meaning} {took : S → Gate → S → Type 0} (s t u : Session S) → Steady meaning took s t → Steady meaning took t u → Steady meaning took s u
steady_twice s t u p q = record { network = q.network ∙ p.network; sink = kept_twice p.sink q.sink }
