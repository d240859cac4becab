-- What the type of a draft, and so of a network, says of its value.
use Rattle.std.proofs.Common.{◌≡◌, ℕ, true, List, [], ◌∷◌, map, vec_items, sym, refl, ap, ◌∙◌, subst}
use mathlib.Core.Logic.{∥∥₁_elim}
use Rattle.std.proofs.lemmas.List.{length-map}
use Rattle.values.specs.Rings.{BooleanRing}
use Rattle.values.proofs.Sets.{ring_set}
use Rattle.form.specs.Sets.{all_below}
use Rattle.network.specs.Wires.{wire_shape, steps_of, grown, no_wires, valid}
use Rattle.network.specs.Drafts.{drafted}
use Rattle.network.specs.Values.{HasValueOfChain}
use Rattle.network.specs.declared.draft.Draft.{Draft}
use Rattle.network.specs.declared.wire.Wire.{Wire}
use Rattle.network.proofs.ChainValues.{has_value_of_chain}

steps_same : (ws : List Wire) → steps_of ws ≡ map (λ w. w.step) (map wire_shape ws)
steps_same [] = refl
steps_same (w ∷ ws) = ap (λ l. w.step ∷ l) (steps_same ws)

module _ {V : Type 0} (R : BooleanRing V) (x : ℕ → V) (d : Draft) where
  from_rules : grown d.inputs no_wires (steps_of (vec_items d.wires)) ≡ (drafted d).body → HasValueOfChain R x (drafted d)
  from_rules built =
      let same = steps_same (vec_items d.wires) in
      let counted = length-map (vec_items d.wires) wire_shape ∙ sym d.wires.ok.0 in
      has_value_of_chain R x (drafted d)
      (subst (λ ss. grown d.inputs no_wires ss ≡ (drafted d).body) same built)
      (subst (λ ss. valid d.inputs 0 ss ≡ true) same d.reads_earlier)
      (subst (λ k. all_below (vec_items d.outputs) k ≡ true) (sym counted) d.outputs_exist)

  pub draft_has_value_of_chain : HasValueOfChain R x (drafted d)
  draft_has_value_of_chain =
      let rules = d.by_the_rules in
      record {
        inputs = λ i l. ∥∥₁_elim rules (ring_set R _ _) (λ b. (from_rules b).inputs i l);
        nodes = λ i l. ∥∥₁_elim rules (ring_set R _ _) (λ b. (from_rules b).nodes i l);
        wires = λ i l. ∥∥₁_elim rules (ring_set R _ _) (λ b. (from_rules b).wires i l);
        outputs = λ j l. ∥∥₁_elim rules (ring_set R _ _) (λ b. (from_rules b).outputs j l);
      }
