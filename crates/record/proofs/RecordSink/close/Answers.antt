use Rattle.std.proofs.Common.{rules, ◌+◌, ◌*◌, ◌≤◌, length, arith, refl, ap, sym, ◌∙◌}
use Rattle.std.proofs.lemmas.Bool.{le-ltb}
use Rattle.circuit.specs.Gates.{tcosts}
use Rattle.record.specs.Bytes.{written, trailer}
use Rattle.record.specs.Making.{checked, places_at}
use Rattle.record.specs.Blocks.{placed, gates_same, fit_same}
use Rattle.record.proofs.RecordSink.close.Goals as goal

pub invariant_of-self-2 : goal.invariant_of-self-2
invariant_of-self-2 c =
    let s = c.args.self.now in
    let n = c.args.self.now.count in
    let w = c.args.self.now.width in
    let bs = c.args.self.now.buffer.now in
    let h : 8 * n + 12 ≤ length bs = search rules in
    let p = placed bs c.write_trailer.new.out c.from-at.result n 12 (trailer (8 * c.from-distance.result) w s.t_count) c.from-at.ensures h refl c.write_trailer.ensures.writes_the_trailer in
    record {
      placed = s.placed ∙ ap (λ m. places_at (checked w m) m) (sym p.size);
      room = s.room;
      exact = s.exact ∙ ap tcosts (sym (gates_same n (8 * n) _ bs (omega arith) p.front));
      fit = fit_same w n (8 * n) _ bs (omega arith) p.front ∙ s.fit;
    }

pub returns : goal.returns
returns c =
    let s = c.args.self.now in
    let n = c.args.self.now.count in
    let bs = c.args.self.now.buffer.now in
    let h : 8 * n + 12 ≤ length bs = search rules in
    let p = placed bs c.write_trailer.new.out c.from-at.result n 12 (trailer (8 * c.from-distance.result) s.width s.t_count) c.from-at.ensures h refl c.write_trailer.ensures.writes_the_trailer in
    record {
      shuts = record {
        gates = gates_same n (8 * n) _ bs (omega arith) p.front;
        bytes = simp (c.if-self.false, le-ltb (length bs) 12 c.if-self-lt12.false) (p.bytes ∙ ap (λ m. written bs (8 * n) (trailer (8 * m) s.width s.t_count)) c.from-distance.ensures);
        place = refl;
        width = refl;
        places = refl;
        count = refl;
        tcount = refl;
        again = λ y. cc (y, c.if-self.false);
        closed = refl;
      };
    }
