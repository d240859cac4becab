-- The rules keep forms within the basis, and nodes proper.
use Rattle.std.proofs.Common.{◌≡◌, ℕ, zero, suc, ◌+◌, ◌<◌, ◌≤◌, true, false, cond, not, ◌&&◌, ltb, List, [], ◌∷◌, ◌++◌, length, get_or, Some, None, Option, sym, refl, ap, subst, add-zero, arith}
use Rattle.std.proofs.lemmas.List.{length_push}
use Rattle.std.proofs.lemmas.Bool.{cond_both, lt-ltb, ltb-true, and_parts, and_from}
use Rattle.values.specs.Bits.{xor}
use Rattle.form.specs.Sets.{ascending, all_below, is_empty, same_set, symmetric_difference}
use Rattle.form.specs.Shapes.{Shape, zero_form, element_form, xor_form}
use Rattle.form.proofs.Below.{below_more, below_difference}
use Rattle.form.proofs.Merges.{asc_difference}
use Rattle.network.specs.Wires.{WireShape, NodeShape, Body, no_wire, no_node, form_at, and_form, with_wire, with_node, add_and, add, fits, within, forms_within, proper_node, proper_nodes}
use Rattle.network.specs.declared.wire.Step.{Step}
use Rattle.network.specs.declared.wire.Gate.TheVariants.{Xor, And, Inv}
use Rattle.network.specs.declared.wire.Step.TheVariants.{Input, Gate}

-- the ways of an AND
pub and_cases : (P : Option Shape → Type 0) (f g : Shape)
    → (is_empty f.set ≡ true → P (Some (cond f.constant g zero_form)))
    → (is_empty g.set ≡ true → P (Some (cond g.constant f zero_form)))
    → (same_set f.set g.set ≡ true → P (Some (cond (xor f.constant g.constant) zero_form f)))
    → (is_empty f.set ≡ false → is_empty g.set ≡ false → same_set f.set g.set ≡ false → P None) → P (and_form f g)
and_cases P f g one two three four =
    cond_both (is_empty f.set) _ _ P one (λ a. cond_both (is_empty g.set) _ _ P two (λ b. cond_both (same_set f.set g.set) _ _ P three (λ c. four a b c)))

within_more : (k m : ℕ) (f : Shape) → k ≤ m → within k f ≡ true → within m f ≡ true
within_more k m f l h =
    let t = and_parts (ascending f.set) (all_below f.set k) h in
    and_from (ascending f.set) _ t.0 (below_more f.set k m l t.1)

pub within_below : (k : ℕ) (f : Shape) → within k f ≡ true → all_below f.set k ≡ true
within_below k f h = (and_parts (ascending f.set) (all_below f.set k) h).1

within_element : (k e : ℕ) → e < k → within k (element_form e) ≡ true
within_element k e l = and_from (ltb e k) true (lt-ltb e k l) refl

within_xor : (k : ℕ) (f g : Shape) → within k f ≡ true → within k g ≡ true → within k (xor_form f g) ≡ true
within_xor k f g h i =
    let t = and_parts (ascending f.set) (all_below f.set k) h in
    let u = and_parts (ascending g.set) (all_below g.set k) i in
    and_from (ascending (symmetric_difference f.set g.set)) _ (asc_difference f.set g.set u.0) (below_difference f.set g.set k t.1 u.1)

forms_more : (k m : ℕ) (ws : List WireShape) → k ≤ m → forms_within k ws ≡ true → forms_within m ws ≡ true
forms_more k m [] l h = refl
forms_more k m (w ∷ ws) l h =
    let t = and_parts (within k w.form) (forms_within k ws) h in
    and_from (within m w.form) _ (within_more k m w.form l t.0) (forms_more k m ws l t.1)

forms_push : (k : ℕ) (ws : List WireShape) (w : WireShape) → forms_within k ws ≡ true → within k w.form ≡ true → forms_within k (ws ++ w ∷ []) ≡ true
forms_push k [] w h i = and_from (within k w.form) true i refl
forms_push k (v ∷ ws) w h i =
    let t = and_parts (within k v.form) (forms_within k ws) h in
    and_from (within k v.form) _ t.0 (forms_push k ws w t.1 i)

pub forms_at : (k : ℕ) (ws : List WireShape) (i : ℕ) → forms_within k ws ≡ true → within k (get_or ws i no_wire).form ≡ true
forms_at k [] i h = refl
forms_at k (w ∷ ws) zero h = (and_parts (within k w.form) (forms_within k ws) h).0
forms_at k (w ∷ ws) (suc i) h = forms_at k ws i (and_parts (within k w.form) (forms_within k ws) h).1

nodes_push : (k : ℕ) (ds : List NodeShape) (d : NodeShape) → proper_nodes k ds ≡ true → proper_node (k + length ds) d ≡ true → proper_nodes k (ds ++ d ∷ []) ≡ true
nodes_push k [] d h i = and_from (proper_node k d) true (subst (λ m. proper_node m d ≡ true) (add-zero k) i) refl
nodes_push k (e ∷ ds) d h i =
    let t = and_parts (proper_node k e) (proper_nodes (k + 1) ds) h in
    let m : k + length (e ∷ ds) ≡ (k + 1) + length ds = omega arith in
    and_from (proper_node k e) _ t.0 (nodes_push (k + 1) ds d t.1 (subst (λ q. proper_node q d ≡ true) m i))

pub nodes_at : (k : ℕ) (ds : List NodeShape) (i : ℕ) → i < length ds → proper_nodes k ds ≡ true → proper_node (k + i) (get_or ds i no_node) ≡ true
nodes_at k [] i l h = absurd (omega arith)
nodes_at k (d ∷ ds) zero l h = subst (λ m. proper_node m d ≡ true) (sym (add-zero k)) (and_parts (proper_node k d) (proper_nodes (k + 1) ds) h).0
nodes_at k (d ∷ ds) (suc i) l h =
    let m : (k + 1) + i ≡ k + suc i = omega arith in
    subst (λ q. proper_node q (get_or ds i no_node) ≡ true) m (nodes_at (k + 1) ds i (omega arith) (and_parts (proper_node k d) (proper_nodes (k + 1) ds) h).1)

-- of a network with n inputs
pub record Proper (n : ℕ) (b : Body) : Type 0 where
  pub forms : forms_within (n + length b.nodes) b.wires ≡ true
  pub nodes : proper_nodes n b.nodes ≡ true

pub form_within : (n : ℕ) (b : Body) → Proper n b → (i : ℕ) → within (n + length b.nodes) (form_at b i) ≡ true
form_within n b h i = forms_at (n + length b.nodes) b.wires i h.forms

module _ (n : ℕ) (b : Body) (h : Proper n b) where
  proper_wire : (s : Step) (f : Shape) → within (n + length b.nodes) f ≡ true → Proper n (with_wire b s f)
  proper_wire s f i = record { forms = forms_push (n + length b.nodes) b.wires (record { step = s; form = f }) h.forms i; nodes = h.nodes }

  proper_with_node : (f g : Shape) → proper_node (n + length b.nodes) (record { first = f; second = g }) ≡ true → Proper n (with_node b f g)
  proper_with_node f g i =
      let d : NodeShape = record { first = f; second = g } in
      record {
        forms = forms_more (n + length b.nodes) _ b.wires (omega (arith, length_push b.nodes d)) h.forms;
        nodes = nodes_push n b.nodes d h.nodes i;
      }

  proper_pair : (i j : ℕ) → is_empty (form_at b i).set ≡ false → is_empty (form_at b j).set ≡ false → same_set (form_at b i).set (form_at b j).set ≡ false → proper_node (n + length b.nodes) (record { first = form_at b i; second = form_at b j }) ≡ true
  proper_pair i j e f g =
      let k = n + length b.nodes in
      and_from (within k (form_at b i) && within k (form_at b j)) _ (and_from (within k (form_at b i)) _ (form_within n b h i) (form_within n b h j))
      (and_from (not (is_empty (form_at b i).set)) _ (ap not e) (and_from (not (is_empty (form_at b j).set)) _ (ap not f) (ap not g)))

  proper_and : (s : Step) (i j : ℕ) → Proper n (add_and n b s (form_at b i) (form_at b j) (and_form (form_at b i) (form_at b j)))
  proper_and s i j =
      let k = n + length b.nodes in
      let f = form_at b i in
      let g = form_at b j in
      let fi = form_within n b h i in
      let gi = form_within n b h j in
      and_cases (λ o. Proper n (add_and n b s f g o)) f g
      (λ _. proper_wire s _ (cond_both f.constant _ _ (λ q. within k q ≡ true) (λ _. gi) (λ _. refl)))
      (λ _. proper_wire s _ (cond_both g.constant _ _ (λ q. within k q ≡ true) (λ _. fi) (λ _. refl)))
      (λ _. proper_wire s _ (cond_both (xor f.constant g.constant) _ _ (λ q. within k q ≡ true) (λ _. refl) (λ _. fi)))
      (λ e r q. with_own_node f g (proper_pair i j e r q))
    where
      with_own_node : (f g : Shape) → proper_node (n + length b.nodes) (record { first = f; second = g }) ≡ true → Proper n (with_wire (with_node b f g) s (element_form (n + length b.nodes)))
      with_own_node f g p =
          let d : NodeShape = record { first = f; second = g } in
          let rest = proper_with_node f g p in
          let k = n + length (b.nodes ++ d ∷ []) in
          record {
            forms = forms_push k b.wires (record { step = s; form = element_form (n + length b.nodes) }) rest.forms (within_element k (n + length b.nodes) (omega (arith, length_push b.nodes d)));
            nodes = rest.nodes;
          }

  pub proper_add : (s : Step) → fits n (length b.wires) s ≡ true → Proper n (add n b s)
  proper_add Input e = proper_wire Input _ (within_element _ (length b.wires) (omega (arith, ltb-true (length b.wires) n e)))
  proper_add (Gate (Xor i j)) e = proper_wire (Gate (Xor i j)) _ (within_xor _ (form_at b i) (form_at b j) (form_within n b h i) (form_within n b h j))
  proper_add (Gate (And i j)) e = proper_and (Gate (And i j)) i j
  proper_add (Gate (Inv i)) e = proper_wire (Gate (Inv i)) _ (form_within n b h i)
