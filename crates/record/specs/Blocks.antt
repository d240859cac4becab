-- The gates that a record's bytes hold, and what a write past them leaves.
use Rattle.std.specs.Prelude.{◌≡◌, ℕ, zero, suc, ◌+◌, ◌-◌, ◌*◌, ◌/◌, ◌%◌, ◌≤◌, true, List, [], ◌∷◌, ◌++◌, length, take, drop, Some, refl}
use Rattle.std.proofs.Common.{sym, ap, ◌∙◌, append_assoc, arith, add-one}
use borrow.Rule.Slice.PartMut.{put_mid}
use Rattle.std.proofs.lemmas.List.{length-drop, take_rest, drop-drop, drop_all, append-nil, length_push, length-append, length-take-le, take-take, drop-take, take_at, drop_at}
use Rattle.std.proofs.lemmas.Bool.{and_from}
use Rattle.circuit.specs.declared.Gate.{Gate}
use Rattle.circuit.specs.Gates.{inside, apart}
use Rattle.record.specs.Bytes.{encoded, encoded_all, decoded, block, gates_of, written, parsed}
use Rattle.record.specs.Fitting.{all_fit, fits}

pub length_gates : (n : ℕ) (bs : List ℕ) → length (gates_of n bs) ≡ n
length_gates zero bs = refl
length_gates (suc n) bs = length_push (gates_of n bs) (decoded (block bs n)) ∙ omega (arith, length_gates n bs)

pub length_encoded : (g : Gate) → length (encoded g) ≡ 8
length_encoded g = grind arith

joins : (t : ℕ) → t % 256 + 256 * (t / 256) ≡ t
joins t = omega arith

pub decoded_encoded : (g : Gate) → decoded (encoded g) ≡ g
decoded_encoded g = grind (arith, joins)

pub parsed_encoded : (g : Gate) → parsed (encoded g) ≡ Some g
parsed_encoded g = grind (arith, joins)

-- bytes that agree up to m hold the same blocks there
part_same : (k m : ℕ) (xs ys : List ℕ) → k + 8 ≤ m → take m xs ≡ take m ys → take 8 (drop k xs) ≡ take 8 (drop k ys)
part_same k m xs ys h e =
    sym (drop-take k 8 xs) ∙ ap (drop k) (sym (take-take (k + 8) m xs h) ∙ ap (take (k + 8)) e ∙ take-take (k + 8) m ys h)
    ∙ drop-take k 8 ys

pub gates_same : (n m : ℕ) (xs ys : List ℕ) → 8 * n ≤ m → take m xs ≡ take m ys → gates_of n xs ≡ gates_of n ys
gates_same zero m xs ys h e = refl
gates_same (suc n) m xs ys h e =
    let p : block xs n ≡ block ys n = part_same (8 * n) m xs ys (omega arith) e in
    let q : gates_of n xs ≡ gates_of n ys = gates_same n m xs ys (omega arith) e in
    cc

pub take_written : (bs : List ℕ) (at : ℕ) (xs : List ℕ) → at ≤ length bs → take at (written bs at xs) ≡ take at bs
take_written bs at xs h = take_at (take at bs) (xs ++ drop (at + length xs) bs) at (length-take-le at bs h)

pub block_written : (bs : List ℕ) (at : ℕ) (xs : List ℕ) → at ≤ length bs → length xs ≡ 8 → take 8 (drop at (written bs at xs)) ≡ xs
block_written bs at xs h l =
    ap (take 8) (drop_at (take at bs) (xs ++ drop (at + length xs) bs) at (length-take-le at bs h))
    ∙ take_at xs (drop (at + length xs) bs) 8 l

-- bytes up to the end of what is written
pub front_written : (bs : List ℕ) (at n : ℕ) (xs : List ℕ) → at ≤ length bs → length xs ≡ n → take (at + n) (written bs at xs) ≡ take at bs ++ xs
front_written bs at n xs h l =
    let e : take at bs ++ xs ++ drop (at + length xs) bs ≡ written bs at xs = append_assoc (take at bs) xs (drop (at + length xs) bs) in
    ap (take (at + n)) (sym e)
    ∙ take_at (take at bs ++ xs) (drop (at + length xs) bs) (at + n) (length-append (take at bs) xs ∙ omega (arith, length-take-le at bs h))

pub encoded_push : (gs : List Gate) (g : Gate) → encoded_all (gs ++ (g ∷ [])) ≡ encoded_all gs ++ encoded g
encoded_push [] g = append-nil (encoded g)
encoded_push (h ∷ gs) g = ap (λ xs. encoded h ++ xs) (encoded_push gs g) ∙ sym (append_assoc (encoded h) (encoded_all gs) (encoded g))

-- a gate written past the others is the last
pub gates_written : (bs : List ℕ) (n : ℕ) (g : Gate) → 8 * n ≤ length bs → gates_of (n + 1) (written bs (8 * n) (encoded g)) ≡ gates_of n bs ++ (g ∷ [])
gates_written bs n g h =
    let p : gates_of n (written bs (8 * n) (encoded g)) ≡ gates_of n bs
    = gates_same n (8 * n) (written bs (8 * n) (encoded g)) bs (omega arith) (take_written bs (8 * n) (encoded g) h) in
    let q : decoded (block (written bs (8 * n) (encoded g)) n) ≡ g
    = ap decoded (block_written bs (8 * n) (encoded g) h (length_encoded g)) ∙ decoded_encoded g in
    rw add-one (cc)

pub length_written : (bs : List ℕ) (at : ℕ) (xs : List ℕ) → at + length xs ≤ length bs → length (written bs at xs) ≡ length bs
length_written bs at xs h =
    let p : length (take at bs) ≡ at = length-take-le at bs (omega arith) in
    let q : length (drop (at + length xs) bs) ≡ length bs - (at + length xs) = length-drop (at + length xs) bs in
    simp (length-append) (omega arith)

-- what a caller holds after a callee wrote at the front of `&mut b[at..]`
pub part_written : (bs : List ℕ) (at n : ℕ) (xs out : List ℕ) → at ≤ length bs → length xs ≡ n → out ≡ xs ++ drop n (take (length bs - at) (drop at bs)) → put_mid at (length bs - at) bs out ≡ written bs at xs
part_written bs at n xs out h l e =
    let r : take (length bs - at) (drop at bs) ≡ drop at bs = take_rest bs at in
    let d : drop n (drop at bs) ≡ drop (at + length xs) bs = drop-drop n at bs ∙ ap (λ k. drop (at + k) bs) (sym l) in
    let z : drop (length bs - at) (drop at bs) ≡ [] = drop_all (length bs - at) (drop at bs) (omega (arith, length-drop at bs)) in
    let o : out ≡ xs ++ drop (at + length xs) bs = e ∙ ap (λ ys. xs ++ drop n ys) r ∙ ap (λ ys. xs ++ ys) d in
    ap (λ ys. take at bs ++ (out ++ ys)) z ∙ ap (λ ys. take at bs ++ ys) (append-nil out ∙ o)

pub fit_same : (w n m : ℕ) (xs ys : List ℕ) → 8 * n ≤ m → take m xs ≡ take m ys → all_fit w n xs ≡ all_fit w n ys
fit_same w zero m xs ys h e = refl
fit_same w (suc n) m xs ys h e =
    let p : block xs n ≡ block ys n = part_same (8 * n) m xs ys (omega arith) e in
    let q : all_fit w n xs ≡ all_fit w n ys = fit_same w n m xs ys (omega arith) e in
    cc

pub fit_written : (w : ℕ) (bs : List ℕ) (n : ℕ) (g : Gate) → 8 * n ≤ length bs → all_fit w n bs ≡ true → inside g w ≡ true → apart g ≡ true → all_fit w (n + 1) (written bs (8 * n) (encoded g)) ≡ true
fit_written w bs n g h f i a =
    let ys = written bs (8 * n) (encoded g) in
    let p : all_fit w n ys ≡ true = fit_same w n (8 * n) ys bs (omega arith) (take_written bs (8 * n) (encoded g) h) ∙ f in
    let q : parsed (block ys n) ≡ Some g
    = ap parsed (block_written bs (8 * n) (encoded g) h (length_encoded g)) ∙ parsed_encoded g in
    let r : fits w (parsed (block ys n)) ≡ true = ap (fits w) q ∙ and_from (inside g w) (apart g) i a in
    rw add-one (and_from (all_fit w n ys) (fits w (parsed (block ys n))) p r)

-- ys is bs with xs written at the place of gate n
pub record Placed (bs : List ℕ) (n : ℕ) (xs ys : List ℕ) : Type 0 where
  pub bytes : ys ≡ written bs (8 * n) xs
  pub size : length ys ≡ length bs
  pub front : take (8 * n) ys ≡ take (8 * n) bs

-- so it is after a callee wrote xs at the front of `&mut bs[8 * r..]`, where r is n
pub placed : (bs out : List ℕ) (r n k : ℕ) (xs : List ℕ) → r ≡ n → 8 * n + k ≤ length bs → length xs ≡ k
    → out ≡ xs ++ drop k (take (length bs - 8 * r) (drop (8 * r) bs)) → Placed bs n xs (put_mid (8 * r) (length bs - 8 * r) bs out)
placed bs out r n k xs q h l e =
    let w = part_written bs (8 * r) k xs out (omega arith) l e ∙ ap (λ m. written bs (8 * m) xs) q in
    record {
      bytes = w;
      size = ap length w ∙ length_written bs (8 * n) xs (omega arith);
      front = ap (take (8 * n)) w ∙ take_written bs (8 * n) xs (omega arith);
    }
