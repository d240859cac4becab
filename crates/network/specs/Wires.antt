-- Wires and nodes, the forms that the rules give them, and what a network is made of.
use Rattle.std.specs.Prelude.{ℕ, ◌+◌, Bool, true, cond, not, ◌&&◌, List, [], ◌∷◌, ◌++◌, map, length, get_or, Some, None, Option, nat_lt, slice_index, slice_index_or}
use Rattle.values.specs.Bits.{xor}
use Rattle.form.specs.Sets.{ascending, all_below, is_empty, same_set}
use Rattle.form.specs.Shapes.{Shape, shape, zero_form, element_form, xor_form, inverted_form}
use Rattle.network.specs.declared.wire.Step.{Step}
use Rattle.network.specs.declared.wire.Gate.TheVariants.{Xor, And, Inv}
use Rattle.network.specs.declared.wire.Step.TheVariants.{Input, Gate}
use Rattle.network.specs.declared.wire.Wire.{Wire}
use Rattle.network.specs.declared.wire.Node.{Node}

-- a wire: how it comes to be, and its form
pub record WireShape : Type 0 where
  pub step : Step
  pub form : Shape

-- an AND node: the forms of its operands
pub record NodeShape : Type 0 where
  pub first : Shape
  pub second : Shape

pub record Body : Type 0 where
  pub wires : List WireShape
  pub nodes : List NodeShape

-- what a draft or a network is: the number of inputs, the wires and nodes, the outputs' wires
pub record Net : Type 0 where
  pub inputs : ℕ
  pub body : Body
  pub outputs : List ℕ

abbrev pub wire_shape : Wire → WireShape
wire_shape w = record { step = w.step; form = shape w.form }

abbrev pub node_shape : Node → NodeShape
node_shape n = record { first = shape n.first; second = shape n.second }

abbrev pub body_of : List Wire → List Node → Body
body_of ws ns = record { wires = map wire_shape ws; nodes = map node_shape ns }

abbrev pub steps_of : List Wire → List Step
steps_of ws = map (λ w. w.step) ws

abbrev pub wire_count : Net → ℕ
wire_count s = length s.body.wires

abbrev pub node_count : Net → ℕ
node_count s = length s.body.nodes

abbrev pub output_count : Net → ℕ
output_count s = length s.outputs

abbrev pub no_wires : Body
no_wires = record { wires = []; nodes = [] }

-- the wire of input i
abbrev pub input_wire : ℕ → WireShape
input_wire i = record { step = Input; form = element_form i }

-- what is read past the last wire or node
abbrev pub no_wire : WireShape
no_wire = record { step = Input; form = zero_form }

abbrev pub no_node : NodeShape
no_node = record { first = zero_form; second = zero_form }

-- the form of wire i
abbrev pub form_at : Body → ℕ → Shape
form_at b i = (get_or b.wires i no_wire).form

abbrev pub node_at : Net → ℕ → NodeShape
node_at s i = slice_index_or s.body.nodes i no_node

-- the form of output j's wire
abbrev pub output_form : Net → ℕ → Shape
output_form s j = form_at s.body (slice_index s.outputs j)

-- the form of an AND of two forms, or none where it takes a node
abbrev pub and_form : Shape → Shape → Option Shape
and_form f g =
    cond (is_empty f.set) (Some (cond f.constant g zero_form))
    (cond (is_empty g.set) (Some (cond g.constant f zero_form))
    (cond (same_set f.set g.set) (Some (cond (xor f.constant g.constant) zero_form f)) None))

abbrev pub with_wire : Body → Step → Shape → Body
with_wire b s f = record { wires = b.wires ++ (record { step = s; form = f } ∷ []); nodes = b.nodes }

abbrev pub with_node : Body → Shape → Shape → Body
with_node b f g = record { wires = b.wires; nodes = b.nodes ++ (record { first = f; second = g } ∷ []) }

-- a wire of a known form, or else one that takes a new node and is that node alone
abbrev pub add_and : ℕ → Body → Step → Shape → Shape → Option Shape → Body
add_and n b s f g (Some h) = with_wire b s h
add_and n b s f g None = with_wire (with_node b f g) s (element_form (n + length b.nodes))

-- one wire more, of a network with n inputs
abbrev pub add : ℕ → Body → Step → Body
add n b Input = with_wire b Input (element_form (length b.wires))
add n b (Gate (Xor i j)) = with_wire b (Gate (Xor i j)) (xor_form (form_at b i) (form_at b j))
add n b (Gate (And i j)) = add_and n b (Gate (And i j)) (form_at b i) (form_at b j) (and_form (form_at b i) (form_at b j))
add n b (Gate (Inv i)) = with_wire b (Gate (Inv i)) (inverted_form (form_at b i))

-- a wire more for each step, in order
abbrev pub grown : ℕ → Body → List Step → Body
grown n b [] = b
grown n b (s ∷ ss) = grown n (add n b s) ss

-- a step may stand at wire p of a network with n inputs: a gate reads earlier wires
abbrev pub fits : ℕ → ℕ → Step → Bool
fits n p Input = nat_lt p n
fits n p (Gate (Xor i j)) = nat_lt i p && nat_lt j p
fits n p (Gate (And i j)) = nat_lt i p && nat_lt j p
fits n p (Gate (Inv i)) = nat_lt i p

-- the steps may stand from wire p on
abbrev pub valid : ℕ → ℕ → List Step → Bool
valid n p [] = true
valid n p (s ∷ ss) = fits n p s && valid n (p + 1) ss

-- a form's elements ascend and lie below k
abbrev pub within : ℕ → Shape → Bool
within k f = ascending f.set && all_below f.set k

-- every wire's form lies within the basis
abbrev pub forms_within : ℕ → List WireShape → Bool
forms_within k [] = true
forms_within k (w ∷ ws) = within k w.form && forms_within k ws

-- a node's sets lie within the basis before it, neither is empty, and they differ
abbrev pub proper_node : ℕ → NodeShape → Bool
proper_node k d =
    (within k d.first && within k d.second)
    && (not (is_empty d.first.set) && (not (is_empty d.second.set) && not (same_set d.first.set d.second.set)))

-- each node in turn, where the basis before the first has k elements
abbrev pub proper_nodes : ℕ → List NodeShape → Bool
proper_nodes k [] = true
proper_nodes k (d ∷ ds) = proper_node k d && proper_nodes (k + 1) ds
