-- What a look-up finds.
use Rattle.std.proofs.Common.{◌≡◌, ℕ, ◌+◌, ◌<◌, ◌≤◌, true, List, map, length, get_or, IfSome, Some, None, Option, sym, ap, ◌∙◌, subst, arith, vec_len, Bor, MatchOption}
use Rattle.std.specs.Slice.{IsGetResult}
use Rattle.std.proofs.lemmas.List.{get_or-map, length-map}
use Rattle.form.proofs.Below.{below_at}
use Rattle.form.specs.Shapes.{shape}
use Rattle.network.specs.Wires.{NodeShape, node_shape, no_node, form_at, output_form, wire_count, node_count, output_count, within, forms_within, proper_node, proper_nodes}
use Rattle.network.specs.Drafts.{drafted}
use Rattle.network.specs.declared.draft.Draft.{Draft}
use Rattle.form.specs.declared.form.Form.{Form}
use Rattle.network.specs.declared.wire.Node.{Node}
use Rattle.network.proofs.Proper.{forms_at, nodes_at}
use Rattle.network.proofs.Counts.{wires_counted, nodes_counted}

-- vs is the slice that holds the list xs
pub lent_shape : {X Y : Type 0} (f : X → Y) (e : Y) (vs xs : List X) (i : ℕ) (r : Option (Bor X)) → vs ≡ xs → IsGetResult vs i i r → MatchOption r (length (map f xs) ≤ i) (λ d. (i < length (map f xs)) × (f d.now ≡ get_or (map f xs) i e))
lent_shape f e vs xs i None p h = omega (arith, ap length p, length-map xs f, h.3)
lent_shape f e vs xs i (Some d) p h =
    let l : i < length xs = omega (arith, ap length p, h.3.0) in
    (omega (arith, length-map xs f), ap f (h.1 ∙ ap (λ l. get_or l i d.now) p) ∙ sym (get_or-map f xs i d.now e l))

-- a node that was looked up is proper
pub node_found : (n : ℕ) (ds : List NodeShape) (i : ℕ) (r : Option (Bor Node)) → proper_nodes n ds ≡ true → MatchOption r (length ds ≤ i) (λ d. (i < length ds) × (node_shape d.now ≡ get_or ds i no_node)) → IfSome r (λ d. proper_node (n + i) (node_shape d.now) ≡ true)
node_found n ds i None p h = tt
node_found n ds i (Some d) p h = subst (λ s. proper_node (n + i) s ≡ true) (sym h.1) (nodes_at n ds i h.0 p)

-- the form of an output's wire
pub output_found : (d : Draft) (j w : ℕ) (r : Option (Bor Form)) → j < output_count (drafted d) → w ≡ get_or (drafted d).outputs j 0 → MatchOption r (wire_count (drafted d) ≤ w) (λ f. (w < wire_count (drafted d)) × (shape f.now ≡ form_at (drafted d).body w))
    → MatchOption r (output_count (drafted d) ≤ j) (λ f. (j < output_count (drafted d)) × (shape f.now ≡ output_form (drafted d) j)) × IfSome r (λ f. within (d.inputs + node_count (drafted d)) (shape f.now) ≡ true)
output_found d j w None l e h = absurd (omega (arith, wires_counted d, below_at (drafted d).outputs (vec_len d.wires) j 0 d.outputs_exist l))
output_found d j w (Some f) l e h =
    let k = d.inputs + node_count (drafted d) in
    let all = subst (λ m. forms_within (d.inputs + m) (drafted d).body.wires ≡ true) (sym (nodes_counted d)) d.forms_in_basis in
    ((l, h.1 ∙ ap (form_at (drafted d).body) e), subst (λ g. within k g ≡ true) (sym h.1) (forms_at k (drafted d).body.wires w all))
