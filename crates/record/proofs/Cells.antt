-- Bytes of a known number, cell by cell.
use Rattle.std.proofs.Common.{◌≡◌, ℕ, zero, suc, ◌+◌, ◌*◌, ◌/◌, ◌%◌, ◌<◌, Bool, true, false, cond, ◌&&◌, eqb, List, [], ◌∷◌, length, get_or, drop, Some, None, Option, sym, refl, ap, ◌∙◌, arith, MatchOption}
use Rattle.std.proofs.lemmas.List.{drop_more, drop_all}
use Rattle.std.proofs.lemmas.Bool.{and_parts, eqb-true}
use Rattle.std.proofs.lemmas.Bool.Decides.{nat_tests}
use Rattle.circuit.specs.declared.Gate.{Gate}
use Rattle.record.specs.Bytes.{eight, word, encoded, parsed, parsed_kind}

-- each number is a byte
abbrev pub Bytes : List ℕ → Type 0
Bytes bs = (i : ℕ) → get_or bs i 0 < 256

-- n cells from place k on
abbrev pub cells : ℕ → ℕ → List ℕ → List ℕ
cells zero k bs = []
cells (suc n) k bs = get_or bs k 0 ∷ cells n (k + 1) bs

pub rest_cells : (n k : ℕ) (bs : List ℕ) → length bs ≡ k + n → drop k bs ≡ cells n k bs
rest_cells zero k bs e = drop_all k bs (omega arith)
rest_cells (suc n) k bs e =
    drop_more bs k 0 (omega arith) ∙ ap (λ xs. get_or bs k 0 ∷ xs) (rest_cells n (k + 1) bs (omega arith))

pub low : (l h : ℕ) → l < 256 → (l + 256 * h) % 256 ≡ l
low l h p = omega arith

pub high : (l h : ℕ) → l < 256 → (l + 256 * h) / 256 ≡ h
high l h p = omega arith

-- eight bytes are those of their kind and their numbers
eight_cells : (bs : List ℕ) → Bytes bs → length bs ≡ 8 → get_or bs 1 0 ≡ 0 → bs ≡ eight (get_or bs 0 0) (word bs 2) (word bs 4) (word bs 6)
eight_cells bs small e z =
    rest_cells 8 0 bs e ∙ (
    let p = low (get_or bs 2 0) (get_or bs 3 0) (small 2) in
    let q = high (get_or bs 2 0) (get_or bs 3 0) (small 2) in
    let r = low (get_or bs 4 0) (get_or bs 5 0) (small 4) in
    let s = high (get_or bs 4 0) (get_or bs 5 0) (small 4) in
    let u = low (get_or bs 6 0) (get_or bs 7 0) (small 6) in
    let v = high (get_or bs 6 0) (get_or bs 7 0) (small 6) in
    rw (z, p, q, r, s, u, v) refl)

kind_bytes : (k a b t : ℕ) (g : Gate) → parsed_kind k a b t ≡ Some g → eight k a b t ≡ encoded g
kind_bytes k a b t g e = grind (arith, nat_tests)

pub cond_some : (b : Bool) (o : Option Gate) (g : Gate) → cond b o None ≡ Some g → (b ≡ true) × (o ≡ Some g)
cond_some true o g e = (refl, e)
cond_some false o g e = cc

-- what has the form of a gate's bytes is that gate's bytes
pub parsed_bytes : (bs : List ℕ) (g : Gate) → Bytes bs → parsed bs ≡ Some g → bs ≡ encoded g
parsed_bytes bs g small e =
    let p = cond_some (eqb (length bs) 8 && eqb (get_or bs 1 0) 0) (parsed_kind (get_or bs 0 0) (word bs 2) (word bs 4) (word bs 6)) g e in
    let q = and_parts (eqb (length bs) 8) (eqb (get_or bs 1 0) 0) p.0 in
    eight_cells bs small (eqb-true (length bs) 8 q.0) (eqb-true (get_or bs 1 0) 0 q.1)
    ∙ kind_bytes (get_or bs 0 0) (word bs 2) (word bs 4) (word bs 6) g p.1

pub option_bytes : (bs : List ℕ) (o : Option Gate) → Bytes bs → o ≡ parsed bs → MatchOption o (⊥ → ⊥) (λ g. bs ≡ encoded g)
option_bytes bs None small e = λ x. x
option_bytes bs (Some g) small e = parsed_bytes bs g small (sym e)
