-- A chain of steps, one wire more.
use Rattle.std.proofs.Common.{◌≡◌, ℕ, ◌+◌, ◌<◌, ◌≤◌, List, [], ◌∷◌, ◌++◌, map, length, get_or, drop, sym, ap, ◌∙◌, arith}
use Rattle.std.proofs.lemmas.List.{drop_more, drop_all, get_or-map, length-map}
use Rattle.values.specs.Rings.{BooleanRing}
use Rattle.network.specs.Wires.{WireShape, wire_shape}
use Rattle.network.specs.Values.{step_value, chain}
use Rattle.network.specs.declared.wire.Step.{Step}
use Rattle.network.specs.declared.wire.Wire.{Wire}

-- ws holds the wires of shapes ss
module _ {V : Type 0} (R : BooleanRing V) (x : ℕ → V) (ws : List Wire) (ss : List WireShape) (p : map wire_shape ws ≡ ss) (i : ℕ) where
  abbrev rest : ℕ → List Step
  rest k = drop k (map (λ w. w.step) ss)

  step_at : (w : Wire) → i < length ws → w ≡ get_or ws i w → rest i ≡ w.step ∷ rest (i + 1)
  step_at w l is =
      let long = length-map ws wire_shape in
      let size = length-map ss (λ s. s.step) in
      let l' : i < length ss = omega (arith, ap length p) in
      let here : wire_shape w ≡ get_or ss i (wire_shape w) = ap wire_shape is ∙ sym (get_or-map wire_shape ws i w (wire_shape w) l) ∙ ap (λ t. get_or t i (wire_shape w)) p in
      drop_more (map (λ s. s.step) ss) i w.step (omega arith)
      ∙ ap (λ s. s ∷ rest (i + 1)) (get_or-map (λ s. s.step) ss i (wire_shape w) w.step l' ∙ ap (λ s. s.step) (sym here))

  pub wire_run : (w : Wire) (us us' whole : List V) (v : V) → i < length ws → w ≡ get_or ws i w → v ≡ step_value R x us w.step → us' ≡ us ++ v ∷ [] → chain R x us (rest i) ≡ whole → chain R x us' (rest (i + 1)) ≡ whole
  wire_run w us us' whole v l is worth more h =
      ap (λ t. chain R x t (rest (i + 1))) (more ∙ ap (λ y. us ++ y ∷ []) worth) ∙ sym (ap (chain R x us) (step_at w l is)) ∙ h

  pub all_run : (us whole : List V) → length ws ≤ i → chain R x us (rest i) ≡ whole → us ≡ whole
  all_run us whole l h =
      let long = length-map ws wire_shape in
      let size = length-map ss (λ s. s.step) in
      sym (ap (chain R x us) (drop_all i (map (λ s. s.step) ss) (omega (arith, ap length p)))) ∙ h
