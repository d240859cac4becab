-- What a record holds and means, and how an accepted offer and a close change it.
use Rattle.std.specs.Prelude.{◌≡◌, ℕ, ◌+◌, ◌-◌, ◌*◌, ◌/◌, ◌≤◌, true, false, cond, ◌||◌, List, [], ◌∷◌, ◌++◌, length, Some, nat_lt}
use Rattle.std.specs.Borrow.{MutBor}
use Rattle.circuit.specs.declared.Gate.{Gate}
use Rattle.circuit.specs.Gates.{run, tcost, tcosts}
use Rattle.sinks.specs.Meaning.{Meaning, Fresh}
use Rattle.record.specs.declared.record.Record.{Record}
use Rattle.record.specs.Bytes.{gates_of, written, encoded, trailer}
use Rattle.record.specs.Making.{checked, places_at}

abbrev pub bytes : Record → List ℕ
bytes s = s.buffer.now

abbrev pub gates : Record → List Gate
gates s = gates_of s.count (bytes s)

-- until a close, the places that the width and the buffer's size allow, less the gates held
abbrev pub free : Record → ℕ
free s = cond s.closed 0 (places_at (checked s.width (length (bytes s))) (length (bytes s)) - s.count)

abbrev pub recorded : Record → Meaning
recorded s = record { width = s.width; action = λ x. run (gates s) (Some x); tcount = tcosts (gates s); free = free s }

-- s is a record with no gate over the buffer b
pub record Empty (b : MutBor (List ℕ)) (w : ℕ) (s : Record) : Type 0 where
  pub buffer : s.buffer ≡ b
  pub width : s.width ≡ w
  pub places : s.places ≡ places_at (checked w (length b.now)) (length b.now)
  pub count : s.count ≡ 0
  pub tcount : s.t_count ≡ 0
  pub closed : s.closed ≡ false

-- the same, where the width and the buffer's size are such that there can be one
pub record Made (b : MutBor (List ℕ)) (w : ℕ) (s : Record) : Type 0 where
  pub empty : Empty b w s
  pub fresh : Fresh (recorded s)
  pub least : 12 ≤ length b.now
  pub most : length b.now ≤ 524292
  pub wide : 1 ≤ w
  pub narrow : w ≤ 320
  pub places : s.places ≡ (length b.now - 12) / 8

-- t is s with one gate more; no byte but the gate's eight is changed
pub record Taken (s : Record) (g : Gate) (t : Record) : Type 0 where
  pub gates : gates t ≡ gates s ++ (g ∷ [])
  pub bytes : bytes t ≡ written (bytes s) (8 * s.count) (encoded g)
  pub place : t.buffer.ghost_name ≡ s.buffer.ghost_name
  pub width : t.width ≡ s.width
  pub places : t.places ≡ s.places
  pub count : t.count ≡ s.count + 1
  pub tcount : t.t_count ≡ s.t_count + tcost g
  pub closed : t.closed ≡ s.closed

-- t is s closed; no byte but the trailer's twelve is changed, and none where they have no room or by a second close
pub record Shut (s t : Record) : Type 0 where
  pub gates : gates t ≡ gates s
  pub bytes : bytes t ≡ cond (s.closed || nat_lt (length (bytes s)) 12) (bytes s) (written (bytes s) (8 * s.count) (trailer (8 * s.count) s.width s.t_count))
  pub place : t.buffer.ghost_name ≡ s.buffer.ghost_name
  pub width : t.width ≡ s.width
  pub places : t.places ≡ s.places
  pub count : t.count ≡ s.count
  pub tcount : t.t_count ≡ s.t_count
  pub again : s.closed ≡ true → t ≡ s
  pub closed : t.closed ≡ true
