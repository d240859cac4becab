-- A network built from the gates of a text.
use Rattle.std.specs.Prelude.{ℕ, ◌-◌, cond, List, [], ◌∷◌, length, drop, Some, None, Ok, Err, vec_items, Option, Result, ◌==◌, slice_set}
use Rattle.network.specs.Drafts.{drafted, start, opening, adding, with_step, marking, with_output, sealing}
use Rattle.network.specs.Wires.{Net, wire_count}
use Rattle.network.specs.declared.wire.Step.TheVariants as steps
use Rattle.bristol.specs.Answers.{numbered, and_then}
use Rattle.bristol.specs.Wires.{inputs_given, open_at, resolved_gate}
use Rattle.bristol.specs.declared.builder.Builder.{Builder}
use Rattle.network.specs.declared.wire.Gate.{Gate}
use Rattle.bristol.specs.declared.gate.GateLine.{GateLine}

-- the draft, and for each wire of the text the draft's wire, once it is given
pub record Building : Type 0 where
  pub draft : Net
  pub wires : List (Option ℕ)

abbrev pub building : Builder → Building
building b = record { draft = drafted b.draft; wires = vec_items b.wires }

-- the value, unless a question of the draft got a no
abbrev pub unless : {X : Type 0} → ℕ → X → Result X ℕ
unless refusal x = cond (refusal == 0) (Ok x) (Err refusal)

-- n inputs of k wires are given, and there is no gate
abbrev pub opened : ℕ → ℕ → Result Building ℕ
opened n k = unless (opening n) (record { draft = start n; wires = inputs_given n k })

-- the gate's wire is the draft's next one
abbrev pub with_gate : Building → Gate → ℕ → Building
with_gate b gate gives =
    record { draft = with_step b.draft (steps.Gate gate); wires = slice_set b.wires gives (Some (wire_count b.draft)) }

-- wires read given, wire given open, and then the draft's questions
abbrev pub added : Building → GateLine → Result Building ℕ
added b line =
    and_then (numbered (resolved_gate b.wires line.gate))
    (λ gate. cond (open_at b.wires line.gives) (unless (adding b.draft (steps.Gate gate)) (with_gate b gate line.gives)) (Err 34))

-- each of these wires is the next output
abbrev pub marked : Net → List (Option ℕ) → Result Net ℕ
marked s [] = Ok s
marked s (None ∷ wires) = Err 34
marked s (Some w ∷ wires) = and_then (unless (marking s w) (with_output s w)) (λ t. marked t wires)

-- the last m wires are the outputs
abbrev pub finished : ℕ → Building → Result Net ℕ
finished m b =
    and_then (marked b.draft (drop (length b.wires - m) b.wires)) (λ s. unless (sealing s) s)
