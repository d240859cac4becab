use Rattle.std.proofs.Common.{◌+◌, ◌*◌, ◌≤◌, length, arith, refl, ap, sym, ◌∙◌}
use Rattle.circuit.specs.Gates.{tcosts}
use Rattle.circuit.proofs.Runs.{tcosts_most, tcost_most, tcosts_push}
use Rattle.sinks.proofs.Judged.{judged_free, judged_inside, judged_apart}
use Rattle.record.specs.Bytes.{encoded, gates_of}
use Rattle.record.specs.Fitting.{all_fit}
use Rattle.record.specs.Making.{checked, places_at}
use Rattle.record.specs.Blocks.{length_gates, length_encoded, gates_written, fit_written, placed}
use Rattle.record.specs.Records.{gates, bytes}
use Rattle.record.specs.RecordLaws.{places_most, room_for, free_most}
use Rattle.record.proofs.RecordSink.offer.Goals as goal

pub overflow_add-self : goal.overflow_add-self
overflow_add-self c =
    let s = c.args.self.now in
    omega (arith, c.t_cost.ensures.is_t_cost, tcost_most c.args.g, tcosts_most (gates s), length_gates s.count (bytes s), s.exact, s.room, s.placed, places_most s.width (length (bytes s)))

pub invariant_of-self : goal.invariant_of-self
invariant_of-self c =
    let s = c.args.self.now in
    let n = c.args.self.now.count in
    let w = c.args.self.now.width in
    let g = c.args.g in
    let bs = c.args.self.now.buffer.now in
    let f = c.free.result in
    let a = sym (c.in_ok-judge.ensures.is_first_no) in
    let h : 8 * n + 20 ≤ length bs = room_for s (omega (arith, c.free.ensures.free_is_meant, judged_free g w f a)) in
    let p = placed bs c.encode.new.out c.from-at.result n 8 (encoded g) c.from-at.ensures (omega arith) (length_encoded g) c.encode.ensures.writes_the_gate in
    record {
      placed = s.placed ∙ ap (λ m. places_at (checked w m) m) (sym p.size);
      room = omega (arith, free_most s, c.free.ensures.free_is_meant, judged_free g w f a);
      exact = omega (arith, s.exact, c.t_cost.ensures.is_t_cost, tcosts_push (gates s) g, ap (λ xs. tcosts (gates_of (n + 1) xs)) p.bytes, ap tcosts (gates_written bs n g (omega arith)));
      fit = ap (all_fit w (n + 1)) p.bytes ∙ fit_written w bs n g (omega arith) s.fit (judged_inside g w f a) (judged_apart g w f a);
    }

pub returns-clause-taken_or_unchanged : goal.returns-clause-taken_or_unchanged
returns-clause-taken_or_unchanged c =
    let s = c.args.self.now in
    let n = c.args.self.now.count in
    let g = c.args.g in
    let bs = c.args.self.now.buffer.now in
    let a = sym (c.in_ok-judge.ensures.is_first_no) in
    let h : 8 * n + 20 ≤ length bs = room_for s (omega (arith, c.free.ensures.free_is_meant, judged_free g s.width c.free.result a)) in
    let p = placed bs c.encode.new.out c.from-at.result n 8 (encoded g) c.from-at.ensures (omega arith) (length_encoded g) c.encode.ensures.writes_the_gate in
    record {
      gates = ap (gates_of (n + 1)) p.bytes ∙ gates_written bs n g (omega arith);
      bytes = p.bytes;
      place = refl;
      width = refl;
      places = refl;
      count = refl;
      tcount = ap (λ m. s.t_count + m) c.t_cost.ensures.is_t_cost;
      closed = refl;
    }
