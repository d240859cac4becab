-- A record keeps to the laws of sinks.
use Rattle.std.specs.Prelude.{◌≡◌, ℕ, ◌+◌, ◌-◌, ◌*◌, ◌<◌, ◌≤◌, Bool, cond, length, Some, Ok, refl}
use Rattle.std.proofs.Common.{sym, ap, ◌∙◌, arith}
use Rattle.std.proofs.lemmas.Bool.Decides.{nat_tests}
use Rattle.circuit.specs.declared.Gate.{Gate}
use Rattle.circuit.specs.Gates.{run, tcosts}
use Rattle.circuit.proofs.Runs.{run_push, tcosts_push, tcosts_most}
use Rattle.sinks.specs.Meaning.{Appended, Closed, Bounded, answer}
use Rattle.sinks.specs.Laws.{Laws}
use Rattle.record.specs.declared.record.Record.{Record}
use Rattle.record.specs.Blocks.{length_gates}
use Rattle.record.specs.Making.{checked, places_at}
use Rattle.record.specs.Records.{recorded, Taken, Shut, gates, bytes, free}

pub places_most : (w n : ℕ) → places_at (checked w n) n ≤ 65535
places_most w n = grind (arith, nat_tests)

-- the places end before the trailer
pub places_end : (w n k : ℕ) → 0 < k → k ≤ places_at (checked w n) n → 8 * k + 12 ≤ n
places_end w n k l h = grind (arith, nat_tests)

pub free_most : (s : Record) → free s + s.count ≤ s.places
free_most s = grind (arith, s.placed, s.room)

-- a record with a free place has room for its gate and the trailer
pub room_for : (s : Record) → 0 < free s → 8 * s.count + 20 ≤ length (bytes s)
room_for s h = omega (arith, places_end s.width (length (bytes s)) (s.count + 1) (omega arith) (omega (arith, free_most s, s.placed, h)))

bounded : (s : Record) → Bounded (recorded s)
bounded s =
    omega (arith, tcosts_most (gates s), length_gates s.count (bytes s), free_most s, s.placed, places_most s.width (length (bytes s)))

free_one_less : (c d : Bool) (p n q m : ℕ) → d ≡ c → q ≡ p → m ≡ n + 1 → cond c 0 (p - n) ≤ cond d 0 (q - m) + 1
free_one_less c d p n q m e f g = grind arith

appended : (s : Record) (g : Gate) (t : Record) → answer g (recorded s) ≡ Ok tt → Taken s g t → Appended (recorded s) g (recorded t)
appended s g t a k =
    record {
      width = k.width;
      action = λ x e. ap (λ gs. run gs (Some x)) k.gates ∙ run_push (gates s) g (Some x);
      tcount = ap tcosts k.gates ∙ tcosts_push (gates s) g;
      free = free_one_less s.closed t.closed _ s.count _ t.count k.closed (sym t.placed ∙ k.places ∙ s.placed) k.count;
    }

closed : (s t : Record) → Shut s t → Closed (recorded s) (recorded t)
closed s t k = record {
  width = k.width;
  action = λ x e. ap (λ gs. run gs (Some x)) k.gates;
  tcount = ap tcosts k.gates;
  free = simp (k.closed) refl;
}

pub record_laws : Laws recorded Taken Shut
record_laws = record { bounded = bounded; appended = appended; again = λ s t u k l. l.again k.closed; closed = closed }
