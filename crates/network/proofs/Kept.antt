-- What the rules keep of a whole chain.
use Rattle.std.proofs.Common.{◌≡◌, ℕ, ◌+◌, true, List, [], ◌∷◌, map, length, Some, None, Option, sym, refl, ap, ◌∙◌, subst}
use mathlib.Core.Bool.{Bool-set}
use mathlib.Core.Logic.{∥∥₁_elim}
use Rattle.std.proofs.lemmas.List.{length_push, length-map}
use Rattle.std.proofs.lemmas.Bool.{and_parts}
use Rattle.form.specs.Shapes.{Shape}
use Rattle.network.specs.Wires.{Body, wire_shape, node_shape, body_of, steps_of, no_wires, form_at, and_form, add_and, add, grown, fits, valid, forms_within, proper_nodes}
use Rattle.network.specs.declared.wire.Step.{Step}
use Rattle.network.specs.declared.wire.Gate.TheVariants.{Xor, And, Inv}
use Rattle.network.specs.declared.wire.Step.TheVariants.{Input, Gate}
use Rattle.network.specs.declared.wire.Wire.{Wire}
use Rattle.network.specs.declared.wire.Node.{Node}
use Rattle.network.proofs.Grows.{Built}
use Rattle.network.proofs.Proper.{Proper, proper_add}

-- a step is one wire more
pub add_length : (n : ℕ) (b : Body) (s : Step) → length (add n b s).wires ≡ length b.wires + 1
add_length n b Input = length_push b.wires _
add_length n b (Gate (Xor i j)) = length_push b.wires _
add_length n b (Gate (And i j)) = either (and_form (form_at b i) (form_at b j))
  where
    either : (o : Option Shape) → length (add_and n b (Gate (And i j)) (form_at b i) (form_at b j) o).wires ≡ length b.wires + 1
    either (Some h) = length_push b.wires _
    either None = length_push b.wires _
add_length n b (Gate (Inv i)) = length_push b.wires _

proper_grown : (n p : ℕ) (b : Body) (ss : List Step) → length b.wires ≡ p → Proper n b → valid n p ss ≡ true → Proper n (grown n b ss)
proper_grown n p b [] e h ok = h
proper_grown n p b (s ∷ ss) e h ok =
    let t = and_parts (fits n p s) (valid n (p + 1) ss) ok in
    let next = proper_add n b h s (subst (λ k. fits n k s ≡ true) (sym e) t.0) in
    proper_grown n (p + 1) (add n b s) ss (add_length n b s ∙ ap (λ k. k + 1) e) next t.1

pub proper_chain : (n : ℕ) (ss : List Step) → valid n 0 ss ≡ true → Proper n (grown n no_wires ss)
proper_chain n ss ok = proper_grown n 0 no_wires ss refl (record { forms = refl; nodes = refl }) ok

module _ (n : ℕ) where
  proper_built : (ws : List Wire) (ns : List Node) → Built n ws ns → valid n 0 (steps_of ws) ≡ true → Proper n (body_of ws ns)
  proper_built ws ns built ok = subst (Proper n) built (proper_chain n (steps_of ws) ok)

  pub forms_kept : (k : ℕ) (ws : List Wire) (ns : List Node) → k ≡ length ns → ∥ Built n ws ns ∥₁ → valid n 0 (steps_of ws) ≡ true → forms_within (n + k) (map wire_shape ws) ≡ true
  forms_kept k ws ns e built ok =
      ∥∥₁_elim built (Bool-set _ _) (λ b. subst (λ m. forms_within (n + m) (map wire_shape ws) ≡ true) (length-map ns node_shape ∙ sym e) (proper_built ws ns b ok).forms)

  pub nodes_kept : (ws : List Wire) (ns : List Node) → ∥ Built n ws ns ∥₁ → valid n 0 (steps_of ws) ≡ true → proper_nodes n (map node_shape ns) ≡ true
  nodes_kept ws ns built ok = ∥∥₁_elim built (Bool-set _ _) (λ b. (proper_built ws ns b ok).nodes)
