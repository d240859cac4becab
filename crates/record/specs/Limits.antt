-- The limits of a record's width and of its buffer's size, and that they last.
use Rattle.std.specs.Prelude.{◌≡◌, ℕ, ◌+◌, ◌-◌, ◌*◌, ◌/◌, ◌≤◌, false, ◌||◌, List, length, take, Ok, nat_lt, refl}
use Rattle.std.proofs.Common.{ap, ◌∙◌, sym, arith}
use Rattle.std.proofs.lemmas.Bool.{cond_both}
use Rattle.std.proofs.lemmas.Bool.Decides.{nat_tests}
use Rattle.circuit.specs.declared.Gate.{Gate}
use Rattle.sinks.specs.Chain.{Chain}
use Rattle.sinks.specs.Chain.Chain.{done, then}
use Rattle.sinks.specs.Sending.{Accepted, Kept}
use Rattle.record.specs.declared.record.Record.{Record}
use Rattle.record.specs.Bytes.{written, encoded, trailer}
use Rattle.record.specs.Blocks.{length_written, length_encoded, take_written}
use Rattle.record.specs.Making.{checked, places_at}
use Rattle.record.specs.Records.{recorded, Taken, Shut, bytes}
use Rattle.record.specs.RecordLaws.{places_end}

-- the width and the buffer's size are such that there can be a record, and the places are all that the buffer has
pub record WithinLimits (s : Record) : Type 0 where
  pub least : 12 ≤ length (bytes s)
  pub most : length (bytes s) ≤ 524292
  pub places : s.places ≡ (length (bytes s) - 12) / 8
  pub wide : 1 ≤ s.width
  pub narrow : s.width ≤ 320

-- s is within the limits, and what becomes of it too: after gates that it took, and after a close behind them
pub record LimitsLast (s : Record) : Type 0 where
  pub now : WithinLimits s
  pub after_gates : (t : Record) → Kept recorded Taken s t → WithinLimits t
  pub after_close : (t u : Record) → Kept recorded Taken s t → Shut t u → WithinLimits u

-- a gate that was taken had a place, and so lies before the trailer
taken_inside : (s : Record) (g : Gate) (t : Record) → Taken s g t → 8 * s.count + 20 ≤ length (bytes s)
taken_inside s g t k =
    omega (arith, places_end s.width (length (bytes s)) (s.count + 1) (omega arith) (omega (arith, t.room, k.count, k.places, s.placed)))

pub same_length : (s : Record) (g : Gate) (t : Record) → Taken s g t → length (bytes t) ≡ length (bytes s)
same_length s g t k =
    ap length k.bytes ∙ length_written (bytes s) (8 * s.count) (encoded g) (omega (arith, taken_inside s g t k, length_encoded g))

trailer_end : (w n k : ℕ) → 12 ≤ n → k ≤ places_at (checked w n) n → 8 * k + 12 ≤ n
trailer_end w n k h l = grind (arith, nat_tests)

-- where a close writes, the trailer has room behind the gates
trailer_inside : (s : Record) → (s.closed || nat_lt (length (bytes s)) 12) ≡ false → 8 * s.count + 12 ≤ length (bytes s)
trailer_inside s e =
    let h : 12 ≤ length (bytes s) = grind (arith, nat_tests) in
    trailer_end s.width (length (bytes s)) s.count h (omega (arith, s.room, s.placed))

pub shut_length : (s t : Record) → Shut s t → length (bytes t) ≡ length (bytes s)
shut_length s t k =
    let xs = trailer (8 * s.count) s.width s.t_count in
    ap length k.bytes
    ∙ cond_both (s.closed || nat_lt (length (bytes s)) 12) (bytes s) (written (bytes s) (8 * s.count) xs) (λ ys. length ys ≡ length (bytes s))
    (λ e. refl) (λ e. length_written (bytes s) (8 * s.count) xs (trailer_inside s e))

-- a close leaves the gates' bytes
pub shut_front : (s t : Record) → Shut s t → take (8 * s.count) (bytes t) ≡ take (8 * s.count) (bytes s)
shut_front s t k =
    let xs = trailer (8 * s.count) s.width s.t_count in
    ap (take (8 * s.count)) k.bytes
    ∙ cond_both (s.closed || nat_lt (length (bytes s)) 12) (bytes s) (written (bytes s) (8 * s.count) xs) (λ ys. take (8 * s.count) ys ≡ take (8 * s.count) (bytes s))
    (λ e. refl) (λ e. take_written (bytes s) (8 * s.count) xs (omega (arith, trailer_inside s e)))

same_limits : (s t : Record) → length (bytes t) ≡ length (bytes s) → t.places ≡ s.places → t.width ≡ s.width → WithinLimits s → WithinLimits t
same_limits s t n p w h = record {
  least = omega (arith, h.least);
  most = omega (arith, h.most);
  places = p ∙ h.places ∙ ap (λ m. (m - 12) / 8) (sym n);
  wide = omega (arith, h.wide);
  narrow = omega (arith, h.narrow);
}

pub took_keeps_limits : (s : Record) (g : Gate) (t : Record) → WithinLimits s → Taken s g t → WithinLimits t
took_keeps_limits s g t h k = same_limits s t (same_length s g t k) k.places k.width h

pub shut_keeps_limits : (s t : Record) → WithinLimits s → Shut s t → WithinLimits t
shut_keeps_limits s t h k = same_limits s t (shut_length s t k) k.places k.width h

chain_keeps_limits : {s t : Record} {gs : List Gate} → WithinLimits s → Chain (Accepted recorded Taken) s gs t → WithinLimits t
chain_keeps_limits h done = h
chain_keeps_limits h (then {s} {t} {u} {g} {gs} q c) = chain_keeps_limits (took_keeps_limits s g t h q.taken) c

pub kept_keeps_limits : (s t : Record) → WithinLimits s → Kept recorded Taken s t → WithinLimits t
kept_keeps_limits s t h k = chain_keeps_limits h k.taken

checked_limits : (w n : ℕ) → checked w n ≡ Ok tt → (12 ≤ n) × (n ≤ 524292) × (1 ≤ w) × (w ≤ 320)
checked_limits w n e =
    (grind (arith, nat_tests), grind (arith, nat_tests), grind (arith, nat_tests), grind (arith, nat_tests))

-- a record that `check` allows is within the limits, and they last
pub limits_last : (s : Record) → checked s.width (length (bytes s)) ≡ Ok tt → LimitsLast s
limits_last s e =
    let p = checked_limits s.width (length (bytes s)) e in
    let h : WithinLimits s = record { least = p.0; most = p.1; places = s.placed ∙ ap (λ a. places_at a (length (bytes s))) e; wide = p.2; narrow = p.3 } in
    record {
      now = h;
      after_gates = λ t k. kept_keeps_limits s t h k;
      after_close = λ t u k l. shut_keeps_limits t u (kept_keeps_limits s t h k) l;
    }
