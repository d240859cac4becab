-- How many wires and nodes there are, and that outputs are below the number of wires.
use Rattle.std.proofs.Common.{◌≡◌, ℕ, ◌<◌, Bool, true, cond, List, [], ◌∷◌, ◌++◌, vec_items, vec_len, sym, ◌∙◌, arith}
use Rattle.form.specs.Sets.{all_below}
use Rattle.network.proofs.Grows.{below_cases}
use Rattle.std.proofs.lemmas.List.{length-map}
use Rattle.network.specs.Wires.{wire_shape, node_shape, wire_count, node_count}
use Rattle.network.specs.Drafts.{drafted}
use Rattle.network.specs.declared.draft.Draft.{Draft}

pub wires_counted : (d : Draft) → wire_count (drafted d) ≡ vec_len d.wires
wires_counted d = length-map (vec_items d.wires) wire_shape ∙ sym d.wires.ok.0

pub nodes_counted : (d : Draft) → node_count (drafted d) ≡ vec_len d.nodes
nodes_counted d = length-map (vec_items d.nodes) node_shape ∙ sym d.nodes.ok.0

-- with one more output, or none where memory was out
pub outputs_still_exist : (d : Draft) (more : List ℕ) (w : ℕ) (ok : Bool)
    → more ≡ cond ok (vec_items d.outputs ++ (w ∷ [])) (vec_items d.outputs)
    → w < wire_count (drafted d)
    → all_below more (vec_len d.wires) ≡ true
outputs_still_exist d more w ok e h =
    below_cases (vec_items d.outputs) more w (vec_len d.wires) ok e (omega (arith, wires_counted d)) d.outputs_exist
