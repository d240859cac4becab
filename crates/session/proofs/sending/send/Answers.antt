use Rattle.sinks.proofs.Chains.{kept_offer}
use Rattle.session.proofs.sending.send.Goals as goal

pub returns-clause-only_adds_gates : goal.returns-clause-only_adds_gates
returns-clause-only_adds_gates g c = kept_offer g.S.Sink.laws c.args.sink.now c.offer.new.self c.args.g c.offer.result c.offer.ensures.answers_first_no c.offer.ensures.taken_or_unchanged
