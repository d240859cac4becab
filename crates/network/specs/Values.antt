-- The value of a network in a Boolean ring: wire by wire, and by its forms and nodes.
use Rattle.std.specs.Prelude.{◌≡◌, ℕ, ◌+◌, ◌-◌, ◌<◌, cond, List, [], ◌∷◌, ◌++◌, map, length, nat_lt, slice_index_or}
use Rattle.values.specs.Rings.{BooleanRing}
use Rattle.form.specs.Shapes.{Shape}
use Rattle.form.specs.Values.{value}
use Rattle.network.specs.Wires.{Net, NodeShape, form_at, node_at, output_form, wire_count, node_count, output_count}
use Rattle.network.specs.declared.wire.Step.{Step}
use Rattle.network.specs.declared.wire.Gate.TheVariants.{Xor, And, Inv}
use Rattle.network.specs.declared.wire.Step.TheVariants.{Input, Gate}

-- how each wire comes to be: the Boolean chain
abbrev pub steps : Net → List Step
steps s = map (λ w. w.step) s.body.wires

-- the inputs' values from a list; missing ones count as zero
abbrev pub given : {V : Type 0} → BooleanRing V → List V → ℕ → V
given R xs i = slice_index_or xs i R.zero

-- input i has the value x i
module _ {V : Type 0} (R : BooleanRing V) (x : ℕ → V) where
  -- the value of one more wire, after wires with the values vs
  abbrev pub step_value : List V → Step → V
  step_value vs Input = x (length vs)
  step_value vs (Gate (Xor i j)) = R.sum (slice_index_or vs i R.zero) (slice_index_or vs j R.zero)
  step_value vs (Gate (And i j)) = R.product (slice_index_or vs i R.zero) (slice_index_or vs j R.zero)
  step_value vs (Gate (Inv i)) = R.sum R.one (slice_index_or vs i R.zero)

  -- the chain, wire by wire
  abbrev pub chain : List V → List Step → List V
  chain vs [] = vs
  chain vs (s ∷ ss) = chain (vs ++ step_value vs s ∷ []) ss

  abbrev pub wire_values : Net → List V
  wire_values s = chain [] (steps s)

  abbrev pub wire_value : Net → ℕ → V
  wire_value s i = slice_index_or (wire_values s) i R.zero

  abbrev pub output_values : Net → List V
  output_values s = map (wire_value s) s.outputs

  -- the values of the basis: n inputs, then the nodes, whose values are us
  abbrev pub basis : ℕ → List V → ℕ → V
  basis n us k = cond (nat_lt k n) (x k) (slice_index_or us (k - n) R.zero)

  -- the value of one more node, after nodes with the values us
  abbrev pub next_node : ℕ → List V → NodeShape → V
  next_node n us d = R.product (value R (basis n us) d.first) (value R (basis n us) d.second)

  abbrev pub node_values : ℕ → List V → List NodeShape → List V
  node_values n us [] = us
  node_values n us (d ∷ ds) = node_values n (us ++ next_node n us d ∷ []) ds

  -- the value of basis element k
  abbrev pub element_value : Net → ℕ → V
  element_value s = basis s.inputs (node_values s.inputs [] s.body.nodes)

  abbrev pub form_value : Net → Shape → V
  form_value s = value R (element_value s)

  -- a network has the value of its Boolean chain
  pub record HasValueOfChain (s : Net) : Type 0 where
    -- an input element has the input's value
    pub inputs : (i : ℕ) → i < s.inputs → element_value s i ≡ x i
    -- a node's value is the product of its two forms' values
    pub nodes : (i : ℕ) → i < node_count s → element_value s (s.inputs + i) ≡ R.product (form_value s (node_at s i).first) (form_value s (node_at s i).second)
    -- each wire's form has the wire's value
    pub wires : (i : ℕ) → i < wire_count s → form_value s (form_at s.body i) ≡ wire_value s i
    -- each output's form has the output's value
    pub outputs : (j : ℕ) → j < output_count s → form_value s (output_form s j) ≡ slice_index_or (output_values s) j R.zero
