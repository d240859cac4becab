use Rattle.std.proofs.Common.{◌+◌, ◌*◌, ◌<◌, ap, ◌∙◌, arith}
use Rattle.std.proofs.lemmas.List.{reverse-reverse, length-reverse}
use Rattle.std.proofs.lemmas.Iterator.Adapters.{YieldsList-from_rev_slice}
use Rattle.std.proofs.lemmas.Iterator.Consumers.{YieldsList-turn, YieldsList-end}
use mathlib.Core.List.{reverse}
use Rattle.values.specs.Words.{word_of}
use Rattle.evaluation.proofs.Packing.{bit_packed, packed_fits}
use Rattle.evaluation.proofs.words.packed.Goals as goal
use Rattle.evaluation.proofs.words.packed.Goals.{After-from}

pub loop-flag-preserved : goal.loop-flag-preserved
loop-flag-preserved c = (tt, tt, bit_packed c.loop-flag.yielded c.in-Some.flag _ _ c.from.ensures c.loop-flag.invariant.2)

fits : (c : After-from) → c.from.result + 2 * c.loop-flag.word < 18446744073709551616
fits c =
    let flags = c.args.flags.now in
    let turn = YieldsList-turn (YieldsList-from_rev_slice flags (cc)) c.loop-flag.yielded _ c.loop-flag.yielded_by _ _ c.in-Some.flag c.in-Some.is c.next.ensures.steps in
    packed_fits c.loop-flag.yielded c.in-Some.flag _ _ c.from.ensures c.loop-flag.invariant.2 (omega (arith, turn.0, length-reverse flags, c.requires.one_word))

pub overflow_mul-word : goal.overflow_mul-word
overflow_mul-word c = omega (arith, fits c)

pub overflow_add-word : goal.overflow_add-word
overflow_add-word c = omega (arith, fits c)

pub returns : goal.returns
returns c =
    let flags = c.args.flags.now in
    let all = YieldsList-end (YieldsList-from_rev_slice flags (cc)) c.loop-flag.yielded _ c.loop-flag.yielded_by _ _ c.in-None.is c.next.ensures.steps in
    record { is_their_word = c.loop-flag.invariant.2 ∙ ap (λ l. word_of (reverse l)) all.0 ∙ ap word_of (reverse-reverse flags) }
