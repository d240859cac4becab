-- A number, digit by digit.
use Rattle.std.proofs.Common.{◌≡◌, ℕ, ◌+◌, ◌-◌, ◌*◌, ◌<◌, ◌≤◌, Bool, true, false, cond, ◌&&◌, leb, List, [], ◌∷◌, length, get_or, drop, Some, None, Option, refl, arith}
use Rattle.std.proofs.lemmas.List.{drop_more, drop_all}
use Rattle.std.proofs.lemmas.Bool.{cond-true, cond-false, and_right, lt-leb, le-leb}
use Rattle.scan.specs.Numbers.{all_digits, worth}

-- the number that the digits bs make after digits that are worth v
abbrev pub judged : ℕ → List ℕ → Option ℕ
judged v bs = cond (all_digits bs && leb (worth v bs) 65535) (Some (worth v bs)) None

worth_grows : (v : ℕ) (bs : List ℕ) → v ≤ worth v bs
worth_grows v [] = omega arith
worth_grows v (b ∷ bs) = omega (arith, worth_grows (v * 10 + (b - 48)) bs)

pub too_much : (v : ℕ) (bs : List ℕ) → 65535 < v → judged v bs ≡ None
too_much v bs h = cond-false (all_digits bs && leb (worth v bs) 65535) _ _ (and_right (all_digits bs) _ (lt-leb _ _ (omega (arith, worth_grows v bs))))

none_test : (t : Bool) (x : ℕ) → None ≡ cond t (Some x) None → t ≡ false
none_test true x e = cc
none_test false x e = refl

pub all_read : (s : List ℕ) (i v : ℕ) → length s ≤ i → v ≤ 65535 → judged v (drop i s) ≡ Some v
all_read s i v h k = rw (drop_all i s h) (cond-true (leb v 65535) _ _ (le-leb v 65535 k))

-- the next digit makes it too large
pub too_large : (s : List ℕ) (i v : ℕ) → i < length s → 65535 < v * 10 + (get_or s i 0 - 48) → judged v (drop i s) ≡ None
too_large s i v within h =
    let more : 65535 < worth v (drop i s) = rw (drop_more s i 0 within) (omega (arith, worth_grows (v * 10 + (get_or s i 0 - 48)) (drop (i + 1) s))) in
    cond-false (all_digits (drop i s) && leb (worth v (drop i s)) 65535) _ _ (and_right (all_digits (drop i s)) _ (lt-leb _ _ more))
