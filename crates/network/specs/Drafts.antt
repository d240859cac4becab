-- What a draft's calls answer and leave.
use Rattle.std.specs.Prelude.{◌≡◌, ℕ, ◌<◌, Bool, true, false, cond, not, ◌&&◌, [], ◌∷◌, ◌++◌, replicate, is_some, Ok, Err, vec_items, Result, nat_lt}
use Rattle.network.specs.Wires.{Body, Net, body_of, add, grown, no_wires, fits, form_at, and_form, wire_count, node_count, output_count}
use Rattle.refusals.specs.Drafts.{number}
use Rattle.network.specs.declared.wire.Step.{Step}
use Rattle.network.specs.declared.wire.Gate.TheVariants.{Xor, And, Inv}
use Rattle.network.specs.declared.wire.Step.TheVariants.{Input, Gate}
use Rattle.refusals.specs.declared.draft.DraftRefusal.{DraftRefusal}
use Rattle.refusals.specs.declared.draft.DraftRefusal.TheVariants.{NoOutput, OutOfMemory}
use Rattle.network.specs.declared.draft.Draft.{Draft}

abbrev pub drafted : Draft → Net
drafted d = record { inputs = d.inputs; body = body_of (vec_items d.wires) (vec_items d.nodes); outputs = vec_items d.outputs }

-- a draft of n inputs that has nothing else
abbrev pub start : ℕ → Net
start n = record { inputs = n; body = grown n no_wires (replicate n Input); outputs = [] }

-- the first question of opening that is answered no, or 0: from 1 to 64 inputs?
abbrev pub opening : ℕ → ℕ
opening n = cond (nat_lt 0 n && nat_lt n 65) 0 1

abbrev pub Opened : ℕ → Result Draft DraftRefusal → Type 0
Opened n (Ok d) = (opening n ≡ 0) × (drafted d ≡ start n)
Opened n (Err e) = opening n ≡ number e

abbrev pub node_due : Body → Step → Bool
node_due b Input = false
node_due b (Gate (Xor i j)) = false
node_due b (Gate (And i j)) = not (is_some (and_form (form_at b i) (form_at b j)))
node_due b (Gate (Inv i)) = false

-- the first question of adding a step that is answered no, or 0: under 1,024 wires, wires exist, under 192 nodes where one is due?
abbrev pub adding : Net → Step → ℕ
adding s g =
    cond (nat_lt (wire_count s) 1024)
    (cond (fits s.inputs (wire_count s) g)
    (cond (node_due s.body g) (cond (nat_lt (node_count s) 192) 0 4) 0) 3) 2

abbrev pub with_step : Net → Step → Net
with_step s g = record { inputs = s.inputs; body = add s.inputs s.body g; outputs = s.outputs }

-- the first two questions are answered yes
pub record Passed (s : Net) (g : Step) : Type 0 where
  pub room : wire_count s < 1024
  pub reads : fits s.inputs (wire_count s) g ≡ true

-- a step that nothing refuses, unless memory is out
abbrev pub Appended : Net → Step → Result ℕ DraftRefusal → Net → Type 0
Appended s g (Ok w) t = (w ≡ wire_count s) × (t ≡ with_step s g)
Appended s g (Err e) t = (e ≡ OutOfMemory) × (t ≡ s)

-- the new wire's number; or the first no, or no memory where nothing refuses, and no change
abbrev pub Added : Net → Step → Result ℕ DraftRefusal → Net → Type 0
Added s g (Ok w) t = (adding s g ≡ 0) × (w ≡ wire_count s) × (t ≡ with_step s g)
Added s g (Err e) t = (adding s g ≡ number e) × (t ≡ s)

-- the first question of marking an output that is answered no, or 0: wire exists, under 64 outputs?
abbrev pub marking : Net → ℕ → ℕ
marking s w = cond (nat_lt w (wire_count s)) (cond (nat_lt (output_count s) 64) 0 5) 3

abbrev pub with_output : Net → ℕ → Net
with_output s w = record { inputs = s.inputs; body = s.body; outputs = s.outputs ++ (w ∷ []) }

abbrev pub Marked : Net → ℕ → Result ℕ DraftRefusal → Net → Type 0
Marked s w (Ok k) t = (marking s w ≡ 0) × (k ≡ output_count s) × (t ≡ with_output s w)
Marked s w (Err e) t = (marking s w ≡ number e) × (t ≡ s)

-- the question of sealing, or 0: any output?
abbrev pub sealing : Net → ℕ
sealing s = cond (nat_lt 0 (output_count s)) 0 6

abbrev pub Sealable : Net → Result (Unit {0}) DraftRefusal → Type 0
Sealable s (Ok u) = sealing s ≡ 0
Sealable s (Err e) = (sealing s ≡ 6) × (e ≡ NoOutput)
