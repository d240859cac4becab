-- The gate at a place of a record, from its eight bytes.
use Rattle.std.proofs.Common.{◌≡◌, ℕ, zero, suc, ◌+◌, ◌-◌, ◌*◌, ◌<◌, ◌≤◌, true, ◌&&◌, eqb, List, [], ◌∷◌, length, take, drop, get_or, Some, None, Option, sym, refl, ap, ◌∙◌, ⊎_elim, arith}
use Rattle.std.proofs.lemmas.List.{get_or_push, get_or_append_left}
use Rattle.std.proofs.lemmas.Option.{slice_get-get_or, slice_get_past}
use Rattle.std.proofs.lemmas.Bool.{and_parts, cases_lt}
use Rattle.std.proofs.lemmas.Bool.Decides.{nat_tests}
use Rattle.std.specs.List.{slice_get}
use Rattle.circuit.specs.declared.Gate.{Gate}
use Rattle.circuit.specs.declared.Gate.TheVariants.{Not}
use Rattle.record.specs.Bytes.{parsed, parsed_kind, decoded, gate_of, block, gates_of, word}
use Rattle.record.specs.Fitting.{fits, all_fit}
use Rattle.record.specs.Blocks.{length_gates}
use Rattle.record.specs.declared.record.Record.{Record}
use Rattle.record.proofs.Cells.{cond_some}

kind_gate : (k a b t : ℕ) (g : Gate) → parsed_kind k a b t ≡ Some g → gate_of k a b t ≡ g
kind_gate k a b t g e = grind (arith, nat_tests)

parsed_gate : (bs : List ℕ) (g : Gate) → parsed bs ≡ Some g → decoded bs ≡ g
parsed_gate bs g e =
    kind_gate (get_or bs 0 0) (word bs 2) (word bs 4) (word bs 6) g
    (cond_some (eqb (length bs) 8 && eqb (get_or bs 1 0) 0) (parsed_kind (get_or bs 0 0) (word bs 2) (word bs 4) (word bs 6)) g e).1

fits_some : (w : ℕ) (o : Option Gate) → fits w o ≡ true → (g : Gate) × (o ≡ Some g)
fits_some w None e = cc
fits_some w (Some g) e = (g, refl)

fits_parsed : (w : ℕ) (bs : List ℕ) → fits w (parsed bs) ≡ true → parsed bs ≡ Some (decoded bs)
fits_parsed w bs e = let p = fits_some w (parsed bs) e in p.1 ∙ ap Some (sym (parsed_gate bs p.0 p.1))

fits_at : (w n k : ℕ) (bs : List ℕ) → k < n → all_fit w n bs ≡ true → fits w (parsed (block bs k)) ≡ true
fits_at w zero k bs h e = absurd (omega arith)
fits_at w (suc n) k bs h e =
    let p = and_parts (all_fit w n bs) (fits w (parsed (block bs n))) e in
    ⊎_elim (λ l. fits_at w n k bs l p.0) (λ l. let q : k ≡ n = omega arith in cc (q, p.1)) (cases_lt k n)

gate_at : (n k : ℕ) (bs : List ℕ) → k < n → get_or (gates_of n bs) k (Not 0) ≡ decoded (block bs k)
gate_at zero k bs h = absurd (omega arith)
gate_at (suc n) k bs h =
    let e = length_gates n bs in
    let last = get_or_push (gates_of n bs) (decoded (block bs n)) (Not 0) n e in
    ⊎_elim
    (λ l. get_or_append_left (gates_of n bs) (decoded (block bs n) ∷ []) (Not 0) k (omega arith) ∙ gate_at n k bs l)
    (λ l. let q : k ≡ n = omega arith in cc (q, last))
    (cases_lt k n)

-- the block at k of gates that fit is the gate at k
pub held : (w n k : ℕ) (bs : List ℕ) → k < n → all_fit w n bs ≡ true → parsed (block bs k) ≡ slice_get (gates_of n bs) k
held w n k bs h e =
    fits_parsed w (block bs k) (fits_at w n k bs h e) ∙ ap Some (sym (gate_at n k bs h))
    ∙ sym (slice_get-get_or (gates_of n bs) k (Not 0) (omega (arith, length_gates n bs)))

-- there is no gate past the last
pub none_past_the_last : (s : Record) (k : ℕ) → s.count ≤ k → None ≡ slice_get (gates_of s.count s.buffer.now) k
none_past_the_last s k h = sym (slice_get_past (gates_of s.count s.buffer.now) k (omega (arith, length_gates s.count s.buffer.now)))

-- what the eight bytes of a gate held stand for is that gate
pub is_the_gate_held : (s : Record) (k r : ℕ) (o : Option Gate) → k < s.count → r ≡ k
    → o ≡ parsed (take (8 * r + 8 - 8 * r) (drop (8 * r) s.buffer.now))
    → o ≡ slice_get (gates_of s.count s.buffer.now) k
is_the_gate_held s k r o h q e =
    let l : 8 * r + 8 - 8 * r ≡ 8 = omega arith in
    e ∙ ap (λ m. parsed (take m (drop (8 * r) s.buffer.now))) l
    ∙ ap (λ m. parsed (block s.buffer.now m)) q
    ∙ held s.width s.count k s.buffer.now h s.fit
