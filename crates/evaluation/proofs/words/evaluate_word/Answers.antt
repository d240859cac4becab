use Rattle.std.proofs.Common.{vec_items, sym, ap, ◌∙◌, arith}
use Rattle.values.specs.Words.{bit, word_of}
use Rattle.network.specs.Networks.{sealed}
use Rattle.evaluation.proofs.Packing.{inputs_at, outputs_at}
use Rattle.evaluation.proofs.words.evaluate_word.Goals as goal

pub returns : goal.returns
returns c =
    let its = c.in_ok-inputs.ensures.are_its_bits in
    let ins = c.in_ok-inputs.inputs in
    let given = inputs_at c.args.word (vec_items ins) (omega arith) (sym ins.ok.0 ∙ its.0) its.1 in
    let found = outputs_at (sealed c.args.network.now) (bit c.args.word) c.deref.result.now c.deref-2.result.now _ _ c.deref.ensures.value given c.deref-2.ensures.value c.in_ok-outputs.ensures.are_the_output_values in
    record { is_the_word_of_outputs = c.packed.ensures.is_their_word ∙ ap word_of found }
