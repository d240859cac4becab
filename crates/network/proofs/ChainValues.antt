-- A network has the value of its Boolean chain, in every Boolean ring.
use Rattle.std.proofs.Common.{◌≡◌, ℕ, zero, suc, ◌+◌, ◌-◌, ◌<◌, true, cond, ◌&&◌, ltb, List, [], ◌∷◌, ◌++◌, length, get_or, sym, refl, ap, ◌∙◌, subst, ⊎_elim, arith}
use Rattle.std.proofs.lemmas.List.{length_push, get_or_push, get_or_append_left, get_or-map}
use Rattle.std.proofs.lemmas.Bool.{cond_both, cond-true, cond-false, lt-ltb, le-ltb, ltb-true, and_parts, cases_lt}
use Rattle.values.specs.Rings.{BooleanRing}
use Rattle.values.specs.Bits.{xor}
use Rattle.values.proofs.RingLaws.{zero_product, product_zero, one_product, product_complement}
use Rattle.form.specs.Sets.{all_below, is_empty, same_set}
use Rattle.form.specs.Shapes.{Shape, zero_form, element_form, xor_form, inverted_form}
use Rattle.form.specs.Values.{value}
use Rattle.form.proofs.Below.{below_at}
use Rattle.std.proofs.lemmas.Slice.Eq.{bytes_eq-Decides}
use Rattle.form.proofs.Values.{empty_is, value_xor, value_inverted, value_element, value_zero, value_empty, value_like, value_unlike, value_alike}
use Rattle.network.specs.Wires.{Net, WireShape, NodeShape, Body, no_wire, no_node, no_wires, form_at, and_form, with_wire, with_node, add_and, add, grown, fits, valid, within, proper_node, proper_nodes, wire_count}
use Rattle.network.specs.Values.{steps, step_value, chain, basis, next_node, node_values, wire_value, HasValueOfChain}
use Rattle.network.specs.declared.wire.Step.{Step}
use Rattle.network.specs.declared.wire.Gate.TheVariants.{Xor, And, Inv}
use Rattle.network.specs.declared.wire.Step.TheVariants.{Input, Gate}
use Rattle.network.proofs.Kept.{add_length, proper_chain}
use Rattle.network.proofs.Proper.{Proper, and_cases, within_below, form_within, proper_add}

module _ {V : Type 0} (R : BooleanRing V) where
  -- the three rules of AND that take no node, where basis elements have the values at
  module _ (at : ℕ → V) (f g : Shape) where
    abbrev IsProduct : Shape → Type 0
    IsProduct h = value R at h ≡ R.product (value R at f) (value R at g)

    first_empty : is_empty f.set ≡ true → IsProduct (cond f.constant g zero_form)
    first_empty e =
        let is = value_empty R at f (empty_is f.set e) in
        cond_both f.constant _ _ IsProduct
        (λ b. sym (one_product R _) ∙ ap (λ v. R.product v (value R at g)) (sym (is ∙ cond-true f.constant _ _ b)))
        (λ b. value_zero R at ∙ sym (zero_product R _) ∙ ap (λ v. R.product v (value R at g)) (sym (is ∙ cond-false f.constant _ _ b)))

    second_empty : is_empty g.set ≡ true → IsProduct (cond g.constant f zero_form)
    second_empty e =
        let is = value_empty R at g (empty_is g.set e) in
        cond_both g.constant _ _ IsProduct
        (λ b. sym (R.product_one _) ∙ ap (R.product (value R at f)) (sym (is ∙ cond-true g.constant _ _ b)))
        (λ b. value_zero R at ∙ sym (product_zero R _) ∙ ap (R.product (value R at f)) (sym (is ∙ cond-false g.constant _ _ b)))

    sets_equal : same_set f.set g.set ≡ true → IsProduct (cond (xor f.constant g.constant) zero_form f)
    sets_equal s =
        let e = (bytes_eq-Decides f.set g.set).0 s in
        cond_both (xor f.constant g.constant) _ _ IsProduct
        (λ b. value_zero R at ∙ sym (product_complement R _) ∙ ap (R.product (value R at f)) (sym (value_unlike R at f g e b)))
        (λ b. sym (R.product_self _) ∙ ap (R.product (value R at f)) (sym (value_like R at f g e b)))

  module _ (x : ℕ → V) (n : ℕ) where
    -- the nodes' values, one node more
    values_push : (us : List V) (ds : List NodeShape) (d : NodeShape) → node_values R x n us (ds ++ d ∷ []) ≡ node_values R x n us ds ++ next_node R x n (node_values R x n us ds) d ∷ []
    values_push us [] d = refl
    values_push us (e ∷ ds) d = values_push (us ++ next_node R x n us e ∷ []) ds d

    values_length : (us : List V) (ds : List NodeShape) → length (node_values R x n us ds) ≡ length us + length ds
    values_length us [] = omega arith
    values_length us (d ∷ ds) = omega (arith, values_length (us ++ next_node R x n us d ∷ []) ds, length_push us (next_node R x n us d))

    -- values that are there stay
    values_first : (us : List V) (ds : List NodeShape) (k : ℕ) → k < length us → get_or us k R.zero ≡ get_or (node_values R x n us ds) k R.zero
    values_first us [] k l = refl
    values_first us (d ∷ ds) k l =
        let v = next_node R x n us d in
        sym (get_or_append_left us (v ∷ []) R.zero k l) ∙ values_first (us ++ v ∷ []) ds k (omega (arith, length_push us v))

    -- two lists of node values that agree on the first m nodes
    basis_alike : (us vs : List V) (m : ℕ) → ((k : ℕ) → k < m → get_or us k R.zero ≡ get_or vs k R.zero) → (k : ℕ) → k < n + m → basis R x n us k ≡ basis R x n vs k
    basis_alike us vs m h k l =
        ⊎_elim
        (λ low. let t = lt-ltb k n low in cond-true (ltb k n) _ _ t ∙ sym (cond-true (ltb k n) _ _ t))
        (λ high. let t = le-ltb k n high in cond-false (ltb k n) _ _ t ∙ h (k - n) (omega arith) ∙ sym (cond-false (ltb k n) _ _ t))
        (cases_lt k n)

    -- a node's value over the nodes before it is that over all of them
    node_later : (us vs : List V) (m : ℕ) (d : NodeShape) → ((k : ℕ) → k < m → get_or us k R.zero ≡ get_or vs k R.zero) → proper_node (n + m) d ≡ true → next_node R x n us d ≡ next_node R x n vs d
    node_later us vs m d h p =
        let in-basis = and_parts (within (n + m) d.first) (within (n + m) d.second) (and_parts (within (n + m) d.first && within (n + m) d.second) _ p).0 in
        let alike = basis_alike us vs m h in
        (λ i. R.product (value_alike R (n + m) _ _ alike d.first (within_below (n + m) d.first in-basis.0) i) (value_alike R (n + m) _ _ alike d.second (within_below (n + m) d.second in-basis.1) i))

    -- node i of the nodes ds, which come after nodes with the values us
    node_is : (us : List V) (ds : List NodeShape) (i : ℕ) → i < length ds → proper_nodes (n + length us) ds ≡ true → get_or (node_values R x n us ds) (length us + i) R.zero ≡ next_node R x n (node_values R x n us ds) (get_or ds i no_node)
    node_is us [] i l p = absurd (omega arith)
    node_is us (d ∷ ds) zero l p =
        let v = next_node R x n us d in
        let more = us ++ v ∷ [] in
        let t = and_parts (proper_node (n + length us) d) (proper_nodes (n + length us + 1) ds) p in
        let at : length us + 0 ≡ length us = omega arith in
        ap (λ k. get_or (node_values R x n more ds) k R.zero) at
        ∙ sym (values_first more ds (length us) (omega (arith, length_push us v)))
        ∙ get_or_push us v R.zero (length us) refl
        ∙ node_later us (node_values R x n more ds) (length us) d (λ k low. values_first us (d ∷ ds) k low) t.0
    node_is us (d ∷ ds) (suc i) l p =
        let v = next_node R x n us d in
        let more = us ++ v ∷ [] in
        let t = and_parts (proper_node (n + length us) d) (proper_nodes (n + length us + 1) ds) p in
        let long = length_push us v in
        let at : length us + suc i ≡ length more + i = omega arith in
        let size : n + length us + 1 ≡ n + length more = omega arith in
        ap (λ k. get_or (node_values R x n more ds) k R.zero) at ∙ node_is more ds i (omega arith) (subst (λ k. proper_nodes k ds ≡ true) size t.1)

    -- the values of the basis elements, and of a form
    abbrev elements : Body → ℕ → V
    elements b = basis R x n (node_values R x n [] b.nodes)

    -- each wire's form has its value
    record Faithful (b : Body) (vs : List V) : Type 0 where
      long : length vs ≡ length b.wires
      right : (i : ℕ) → i < length b.wires → value R (elements b) (form_at b i) ≡ get_or vs i R.zero

    module _ (b : Body) (vs : List V) (h : Faithful b vs) where
      wire_more : (s : Step) (f : Shape) (v : V) → value R (elements b) f ≡ v → Faithful (with_wire b s f) (vs ++ v ∷ [])
      wire_more s f v is =
          let w : WireShape = record { step = s; form = f } in
          let more = length_push b.wires w in
          record {
            long = length_push vs v ∙ ap (λ k. k + 1) h.long ∙ sym more;
            right = λ i l. ⊎_elim
                (λ old. ap (λ y. value R (elements b) y.form) (get_or_append_left b.wires (w ∷ []) no_wire i old) ∙ h.right i old ∙ sym (get_or_append_left vs (v ∷ []) R.zero i (omega (arith, h.long))))
                (λ past. ap (λ y. value R (elements b) y.form) (get_or_push b.wires w no_wire i (omega arith)) ∙ is ∙ sym (get_or_push vs v R.zero i (omega (arith, h.long))))
                (cases_lt i (length b.wires));
          }

      same_below : (f g : Shape) (k : ℕ) → k < n + length b.nodes → elements b k ≡ elements (with_node b f g) k
      same_below f g =
          let us = node_values R x n [] b.nodes in
          let d : NodeShape = record { first = f; second = g } in
          let size : length us ≡ length b.nodes = values_length [] b.nodes ∙ omega arith in
          basis_alike us _ (length b.nodes) (λ k low. sym (ap (λ l. get_or l k R.zero) (values_push [] b.nodes d) ∙ get_or_append_left us _ R.zero k (omega arith)))

      node_more : Proper n b → (f g : Shape) → Faithful (with_node b f g) vs
      node_more p f g = record {
        long = h.long;
        right = λ i l. sym (value_alike R (n + length b.nodes) _ _ (same_below f g) (form_at b i) (within_below _ (form_at b i) (form_within n b p i))) ∙ h.right i l;
      }

      -- the value of the new basis element
      node_value : (f g : Shape) → value R (elements (with_node b f g)) (element_form (n + length b.nodes)) ≡ R.product (value R (elements b) f) (value R (elements b) g)
      node_value f g =
          let us = node_values R x n [] b.nodes in
          let d : NodeShape = record { first = f; second = g } in
          let size : length us ≡ length b.nodes = values_length [] b.nodes ∙ omega arith in
          let k = n + length b.nodes in
          value_element R (elements (with_node b f g)) k
          ∙ cond-false (ltb k n) (x k) _ (le-ltb k n (omega arith))
          ∙ ap (λ l. get_or l (k - n) R.zero) (values_push [] b.nodes d)
          ∙ get_or_push us (next_node R x n us d) R.zero (k - n) (omega arith)

      two_reads : (i j : ℕ) → (ltb i (length b.wires) && ltb j (length b.wires)) ≡ true → (i < length b.wires) × (j < length b.wires)
      two_reads i j e = let t = and_parts (ltb i (length b.wires)) (ltb j (length b.wires)) e in (ltb-true i _ t.0, ltb-true j _ t.1)

    and_more : (b : Body) (vs : List V) → Proper n b → Faithful b vs → (s : Step) (i j : ℕ) → i < length b.wires → j < length b.wires → Faithful (add_and n b s (form_at b i) (form_at b j) (and_form (form_at b i) (form_at b j))) (vs ++ R.product (get_or vs i R.zero) (get_or vs j R.zero) ∷ [])
    and_more b vs p h s i j li lj =
        let f = form_at b i in
        let g = form_at b j in
        let v = R.product (get_or vs i R.zero) (get_or vs j R.zero) in
        let both : R.product (value R (elements b) f) (value R (elements b) g) ≡ v = (λ k. R.product (h.right i li k) (h.right j lj k)) in
        and_cases (λ o. Faithful (add_and n b s f g o) (vs ++ v ∷ [])) f g
        (λ e. wire_more b vs h s _ v (first_empty (elements b) f g e ∙ both))
        (λ e. wire_more b vs h s _ v (second_empty (elements b) f g e ∙ both))
        (λ e. wire_more b vs h s _ v (sets_equal (elements b) f g e ∙ both))
        (λ _ _ _. wire_more (with_node b f g) vs (node_more b vs h p f g) s (element_form (n + length b.nodes)) v (node_value b vs h f g ∙ both))

    step_more : (b : Body) (vs : List V) → Proper n b → Faithful b vs → (s : Step) → fits n (length b.wires) s ≡ true → Faithful (add n b s) (vs ++ step_value R x vs s ∷ [])
    step_more b vs p h Input e =
        let k = length b.wires in
        wire_more b vs h Input (element_form k) (x (length vs)) (value_element R (elements b) k ∙ cond-true (ltb k n) _ _ e ∙ ap x (sym h.long))
    step_more b vs p h (Gate (Xor i j)) e =
        let t = two_reads b vs h i j e in
        wire_more b vs h (Gate (Xor i j)) (xor_form (form_at b i) (form_at b j)) _ (value_xor R _ (form_at b i) (form_at b j) ∙ (λ k. R.sum (h.right i t.0 k) (h.right j t.1 k)))
    step_more b vs p h (Gate (And i j)) e = let t = two_reads b vs h i j e in and_more b vs p h (Gate (And i j)) i j t.0 t.1
    step_more b vs p h (Gate (Inv i)) e =
        wire_more b vs h (Gate (Inv i)) (inverted_form (form_at b i)) _ (value_inverted R _ (form_at b i) ∙ ap (R.sum R.one) (h.right i (ltb-true i (length b.wires) e)))

    run_more : (ss : List Step) (b : Body) (vs : List V) (q : ℕ) → length b.wires ≡ q → Proper n b → Faithful b vs → valid n q ss ≡ true → Faithful (grown n b ss) (chain R x vs ss)
    run_more [] b vs q e p h ok = h
    run_more (s ∷ ss) b vs q e p h ok =
        let t = and_parts (fits n q s) (valid n (q + 1) ss) ok in
        let fit = subst (λ k. fits n k s ≡ true) (sym e) t.0 in
        run_more ss (add n b s) (vs ++ step_value R x vs s ∷ []) (q + 1) (add_length n b s ∙ ap (λ k. k + 1) e) (proper_add n b p s fit) (step_more b vs p h s fit) t.1

    faithful : (ss : List Step) → valid n 0 ss ≡ true → Faithful (grown n no_wires ss) (chain R x [] ss)
    faithful ss ok = run_more ss no_wires [] 0 refl (record { forms = refl; nodes = refl }) (record { long = refl; right = λ i l. absurd (omega arith) }) ok

  -- what a draft's or a network's type says of its model
  pub has_value_of_chain : (x : ℕ → V) (s : Net) → grown s.inputs no_wires (steps s) ≡ s.body → valid s.inputs 0 (steps s) ≡ true → all_below s.outputs (wire_count s) ≡ true → HasValueOfChain R x s
  has_value_of_chain x s built ok inside =
      let n = s.inputs in
      let us = node_values R x n [] s.body.nodes in
      let proper = subst (Proper n) built (proper_chain n (steps s) ok) in
      let right = (subst (λ b. Faithful x n b (chain R x [] (steps s))) built (faithful x n (steps s) ok)).right in
      record {
        inputs = λ i l. cond-true (ltb i n) _ _ (lt-ltb i n l);
        nodes = λ i l.
            let size : (n + i) - n ≡ 0 + i = omega arith in
            let first : n ≡ n + 0 = omega arith in
            cond-false (ltb (n + i) n) _ _ (le-ltb (n + i) n (omega arith))
            ∙ ap (λ k. get_or us k R.zero) size
            ∙ node_is x n [] s.body.nodes i l (subst (λ k. proper_nodes k s.body.nodes ≡ true) first proper.nodes);
        wires = right;
        outputs = λ j l. right (get_or s.outputs j 0) (below_at s.outputs (wire_count s) j 0 inside l) ∙ sym (get_or-map (wire_value R x s) s.outputs j 0 R.zero l);
      }
