use Rattle.std.proofs.Common.{map, get_or, rules}
use Rattle.std.proofs.lemmas.Iterator.{YieldsList-from_slice, YieldsList-from_map_by}
use Rattle.std.proofs.lemmas.Iterator.Consumers.{map_from_collect}
use Rattle.evaluation.proofs.chain.values_at.Goals as goal

pub returns : goal.returns
returns g c =
    let m = g.V.Algebra.meaning in
    record {
      are_the_values_there = map_from_collect _ c.collect.ensures.ran
          (YieldsList-from_map_by _ m (λ w. get_or (map m c.args.values.now) w g.V.Algebra.ring.zero) (YieldsList-from_slice c.args.places.now (cc)) c.map.ensures.closure (λ x r q k. search rules));
    }
