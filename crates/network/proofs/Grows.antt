-- Lists of wires, nodes and outputs by one more.
use Rattle.std.proofs.Common.{◌≡◌, ℕ, zero, suc, ◌+◌, ◌<◌, ◌≤◌, Bool, true, false, cond, ltb, List, [], ◌∷◌, ◌++◌, map, length, replicate, sym, refl, ap, ◌∙◌, subst, add-zero, arith}
use mathlib.Core.Logic.{∥∥₁_map}
use Rattle.std.proofs.lemmas.List.{map_push, length-map, replicate_more}
use Rattle.std.proofs.lemmas.Bool.{and_parts, and_from, lt-ltb}
use Rattle.form.specs.Sets.{all_below}
use Rattle.form.specs.Shapes.{shape, element_form}
use Rattle.form.proofs.Below.{below_push}
use Rattle.network.specs.Wires.{Body, body_of, wire_shape, node_shape, steps_of, no_wires, input_wire, add, with_wire, with_node, grown, fits, valid}
use Rattle.network.specs.declared.wire.Step.{Step}
use Rattle.network.specs.declared.wire.Step.TheVariants.{Input}
use Rattle.network.specs.declared.wire.Wire.{Wire}
use Rattle.network.specs.declared.wire.Node.{Node}

grown_push : (n : ℕ) (b : Body) (ss : List Step) (s : Step) → grown n b (ss ++ s ∷ []) ≡ add n (grown n b ss) s
grown_push n b [] s = refl
grown_push n b (x ∷ ss) s = grown_push n (add n b x) ss s

valid_push : (n p : ℕ) (ss : List Step) (s : Step) → valid n p ss ≡ true → fits n (p + length ss) s ≡ true → valid n p (ss ++ s ∷ []) ≡ true
valid_push n p [] s h k = and_from (fits n p s) true (subst (λ q. fits n q s ≡ true) (add-zero p) k) refl
valid_push n p (x ∷ ss) s h k =
    let parts = and_parts (fits n p x) (valid n (p + 1) ss) h in
    let e : p + length (x ∷ ss) ≡ (p + 1) + length ss = omega arith in
    and_from (fits n p x) _ parts.0 (valid_push n (p + 1) ss s parts.1 (subst (λ q. fits n q s ≡ true) e k))

-- the forms and nodes are those that the rules give for the steps
abbrev pub Built : ℕ → List Wire → List Node → Type 0
Built n ws ns = grown n no_wires (steps_of ws) ≡ body_of ws ns

pub body_push : (ws : List Wire) (ns : List Node) (w : Wire) → body_of (ws ++ w ∷ []) ns ≡ with_wire (body_of ws ns) w.step (shape w.form)
body_push ws ns w = ap (λ l. record { wires = l; nodes = map node_shape ns }) (map_push wire_shape ws w)

module _ (n : ℕ) (ws : List Wire) (ns : List Node) (w : Wire) where
  -- one wire more, by the rules
  pub built_more : (ws' : List Wire) (ns' : List Node) → ws' ≡ ws ++ w ∷ [] → body_of ws' ns' ≡ add n (body_of ws ns) w.step → Built n ws ns → Built n ws' ns'
  built_more ws' ns' p e h =
      ap (λ l. grown n no_wires (steps_of l)) p ∙ ap (grown n no_wires) (map_push (λ x. x.step) ws w) ∙ grown_push n no_wires (steps_of ws) w.step ∙ ap (λ b. add n b w.step) h ∙ sym e

  built_push : add n (body_of ws ns) w.step ≡ with_wire (body_of ws ns) w.step (shape w.form) → Built n ws ns → Built n (ws ++ w ∷ []) ns
  built_push right = built_more (ws ++ w ∷ []) ns refl (body_push ws ns w ∙ sym right)

  pub built_cases : (more : List Wire) (ok : Bool) → more ≡ cond ok (ws ++ w ∷ []) ws → add n (body_of ws ns) w.step ≡ with_wire (body_of ws ns) w.step (shape w.form) → ∥ Built n ws ns ∥₁ → ∥ Built n more ns ∥₁
  built_cases more true e right h = ∥∥₁_map h (λ b. subst (λ l. Built n l ns) (sym e) (built_push right b))
  built_cases more false e right h = ∥∥₁_map h (λ b. subst (λ l. Built n l ns) (sym e) b)

  -- the wire's form is a new node m
  pub node_added : (ws' : List Wire) (ns' : List Node) (m : Node) → ws' ≡ ws ++ w ∷ [] → ns' ≡ ns ++ m ∷ [] → shape w.form ≡ element_form (n + length (map node_shape ns)) → add n (body_of ws ns) w.step ≡ with_wire (with_node (body_of ws ns) (shape m.first) (shape m.second)) w.step (element_form (n + length (map node_shape ns))) → body_of ws' ns' ≡ add n (body_of ws ns) w.step
  node_added ws' ns' m p q alone right =
      (λ t. body_of (p t) (q t))
      ∙ (λ t. record { wires = map_push wire_shape ws w t; nodes = map_push node_shape ns m t })
      ∙ ap (λ f. record { wires = map wire_shape ws ++ (record { step = w.step; form = f } ∷ []); nodes = map node_shape ns ++ (node_shape m ∷ []) }) alone
      ∙ sym right

pub valid_cases : (n : ℕ) (ws : List Wire) (w : Wire) (more : List Wire) (ok : Bool) → more ≡ cond ok (ws ++ w ∷ []) ws → fits n (length (map wire_shape ws)) w.step ≡ true → valid n 0 (steps_of ws) ≡ true → valid n 0 (steps_of more) ≡ true
valid_cases n ws w more true e k h =
    let long : length (map wire_shape ws) ≡ 0 + length (steps_of ws) = length-map ws wire_shape ∙ sym (length-map ws (λ x. x.step)) ∙ omega arith in
    subst (λ l. valid n 0 (steps_of l) ≡ true) (sym e)
    (subst (λ l. valid n 0 l ≡ true) (sym (map_push (λ x. x.step) ws w)) (valid_push n 0 (steps_of ws) w.step h (subst (λ q. fits n q w.step ≡ true) long k)))
valid_cases n ws w more false e k h = subst (λ l. valid n 0 (steps_of l) ≡ true) (sym e) h

-- the inputs of a new draft
pub valid_inputs : (n p k : ℕ) → p + k ≤ n → valid n p (replicate k Input) ≡ true
valid_inputs n p zero h = refl
valid_inputs n p (suc k) h = and_from (ltb p n) _ (lt-ltb p n (omega arith)) (valid_inputs n (p + 1) k (omega arith))

pub inputs_step : (n i : ℕ) (ws more : List Wire) (w : Wire) → length ws ≡ i → more ≡ ws ++ w ∷ [] → wire_shape w ≡ input_wire i → steps_of ws ≡ replicate i Input → Built n ws [] → (steps_of more ≡ replicate (i + 1) Input) × Built n more []
inputs_step n i ws more w long e is steps built =
    let right : add n (body_of ws []) w.step ≡ with_wire (body_of ws []) w.step (shape w.form) =
    ap (λ x. add n (body_of ws []) x.step) is
    ∙ ap (λ k. with_wire (body_of ws []) Input (element_form k)) (length-map ws wire_shape ∙ long)
    ∙ sym (ap (λ x. with_wire (body_of ws []) x.step x.form) is) in (
      ap steps_of e ∙ map_push (λ x. x.step) ws w ∙ (λ k. steps k ++ (is k).step ∷ []) ∙ replicate_more i Input,
      subst (λ l. Built n l []) (sym e) (built_push n ws [] w right built),
    )

-- outputs stay below the number of wires
pub below_cases : (ws more : List ℕ) (w m : ℕ) (ok : Bool) → more ≡ cond ok (ws ++ w ∷ []) ws → w < m → all_below ws m ≡ true → all_below more m ≡ true
below_cases ws more w m true e h b = subst (λ l. all_below l m ≡ true) (sym e) (below_push ws w m h b)
below_cases ws more w m false e h b = subst (λ l. all_below l m ≡ true) (sym e) b
