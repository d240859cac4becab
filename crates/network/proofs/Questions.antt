-- What the questions before a call answer.
use Rattle.std.proofs.Common.{◌≡◌, ℕ, ◌<◌, Bool, true, false, cond, ltb, refl, ◌∙◌}
use Rattle.std.proofs.lemmas.Bool.{cond-true, lt-ltb}
use Rattle.network.specs.Wires.{Net, fits, wire_count, node_count}
use Rattle.network.specs.Drafts.{adding, node_due, Passed}
use Rattle.network.specs.declared.wire.Step.{Step}

-- no question refuses a gate while there is room for a node
pub accepted : (s : Net) (g : Step) → Passed s g → node_count s < 192 → adding s g ≡ 0
accepted s g h l =
    cond-true (ltb (wire_count s) 1024) _ _ (lt-ltb _ _ h.room) ∙ cond-true (fits s.inputs (wire_count s) g) _ _ h.reads ∙ same (node_due s.body g)
  where
    same : (b : Bool) → ◌≡◌ {A = ℕ} (cond b (cond (ltb (node_count s) 192) 0 4) 0) 0
    same true = cond-true (ltb (node_count s) 192) _ _ (lt-ltb _ _ l)
    same false = refl
