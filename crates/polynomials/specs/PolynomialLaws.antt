-- Polynomials are a Boolean ring. Nothing here needs to be believed: all of it is proved from the definitions of Polynomials.
-- A polynomial is known by its subset sums, and the subset sums of a product are the products of the factors' subset sums;
-- so each law holds as it holds of bits.
use Rattle.std.specs.Prelude.{◌≡◌, ℕ, zero, suc, Bool, true, false, ◌&&◌, refl}
use Rattle.std.proofs.Common.{sym, ap, ap₂, ◌∙◌}
use Rattle.std.proofs.Math.Path.{fun_ext}
use Rattle.std.proofs.Math.Bool.{and_assoc, and_comm, and-false, and-true, and_self}
use Rattle.std.proofs.lemmas.Bool.{false≢true}
use Rattle.values.specs.Rings.{BooleanRing}
use Rattle.values.proofs.RingLaws.{sum_twice, sum_pairs}
use Rattle.values.specs.Bits.{xor, equal, bits, xor_assoc, xor_comm, xor_zero, xor_self, and_xor, equal_yes, equal_self}
use Rattle.polynomials.specs.Polynomials.{VariableSet, is_subset, same_set, union, sum_over, every, Coefficients, zero_polynomial, one_polynomial, plus, times, same_coefficients, subset_sums}

-- the parts of a polynomial without and with the last variable
abbrev pub low : (k : ℕ) → Coefficients (suc k) → Coefficients k
low k a s = a (false, s)

abbrev pub high : (k : ℕ) → Coefficients (suc k) → Coefficients k
high k a s = a (true, s)

-- sums over sets

sum_none : (k : ℕ) → sum_over k (λ s. false) ≡ false
sum_none zero = refl
sum_none (suc k) = ap₂ xor (sum_none k) (sum_none k)

sum_xor : (k : ℕ) (f g : VariableSet k → Bool) → sum_over k (λ s. xor (f s) (g s)) ≡ xor (sum_over k f) (sum_over k g)
sum_xor zero f g = refl
sum_xor (suc k) f g =
    ap₂ xor (sum_xor k (λ s. f (false, s)) (λ s. g (false, s))) (sum_xor k (λ s. f (true, s)) (λ s. g (true, s)))
    ∙ sum_pairs bits (sum_over k (λ s. f (false, s))) (sum_over k (λ s. g (false, s))) (sum_over k (λ s. f (true, s))) (sum_over k (λ s. g (true, s)))

-- subset sums by the last variable

pub sums_low : (k : ℕ) (a : Coefficients (suc k)) (p : VariableSet k) → subset_sums (suc k) a (false, p) ≡ subset_sums k (low k a) p
sums_low k a p = ap (xor (subset_sums k (low k a) p)) (sum_none k) ∙ xor_zero (subset_sums k (low k a) p)

pub sums_plus : (k : ℕ) (a b : Coefficients k) (p : VariableSet k) → subset_sums k (plus k a b) p ≡ xor (subset_sums k a p) (subset_sums k b p)
sums_plus k a b p =
    ap (sum_over k) (fun_ext (λ (s : VariableSet k). and_xor (is_subset k s p) (a s) (b s)))
    ∙ sum_xor k (λ s. is_subset k s p && a s) (λ s. is_subset k s p && b s)

sums_zero : (k : ℕ) (p : VariableSet k) → subset_sums k (zero_polynomial k) p ≡ false
sums_zero k p = ap (sum_over k) (fun_ext (λ (s : VariableSet k). and-false (is_subset k s p))) ∙ sum_none k

sums_one : (k : ℕ) (p : VariableSet k) → subset_sums k (one_polynomial k) p ≡ true
sums_one zero p = refl
sums_one (suc k) (false, p) = sums_low k (one_polynomial (suc k)) p ∙ sums_one k p
sums_one (suc k) (true, p) = ap₂ xor (sums_one k p) (sums_zero k p)

-- the subset sums of the subset sums are the coefficients
pub sums_back : (k : ℕ) (a : Coefficients k) (p : VariableSet k) → subset_sums k (subset_sums k a) p ≡ a p
sums_back zero a p = refl
sums_back (suc k) a (false, p) =
    sums_low k (subset_sums (suc k) a) p
    ∙ ap (λ (f : Coefficients k). subset_sums k f p) (fun_ext (sums_low k a))
    ∙ sums_back k (low k a) p
sums_back (suc k) a (true, p) =
    ap₂ xor
    (ap (λ (f : Coefficients k). subset_sums k f p) (fun_ext (sums_low k a)) ∙ sums_back k (low k a) p)
    (sums_plus k (subset_sums k (low k a)) (subset_sums k (high k a)) p
    ∙ ap₂ xor (sums_back k (low k a) p) (sums_back k (high k a) p))
    ∙ sum_twice bits (a (false, p)) (a (true, p))

-- polynomials with the same subset sums are the same
known_by_sums : (k : ℕ) (a b : Coefficients k) → ((p : VariableSet k) → subset_sums k a p ≡ subset_sums k b p) → a ≡ b
known_by_sums k a b e =
    fun_ext (λ (p : VariableSet k). sym (sums_back k a p) ∙ ap (λ (f : Coefficients k). subset_sums k f p) (fun_ext e) ∙ sums_back k b p)

-- products by the last variable

-- the part of the sum at one set s
abbrev pairs_with : (k : ℕ) → Coefficients k → Coefficients k → VariableSet k → VariableSet k → Bool
pairs_with k a b u s = sum_over k (λ t. same_set k (union k s t) u && (a s && b t))

times_low : (k : ℕ) (a b : Coefficients (suc k)) (u : VariableSet k) → times (suc k) a b (false, u) ≡ times k (low k a) (low k b) u
times_low k a b u =
    let at : VariableSet k → Bool = pairs_with k (low k a) (low k b) u in
    ap₂ xor (ap (sum_over k) (fun_ext (λ (s : VariableSet k). ap (xor (at s)) (sum_none k) ∙ xor_zero (at s))))
    (ap (sum_over k) (fun_ext (λ (s : VariableSet k). ap₂ xor (sum_none k) (sum_none k))) ∙ sum_none k)
    ∙ xor_zero (times k (low k a) (low k b) u)

times_high : (k : ℕ) (a b : Coefficients (suc k)) (u : VariableSet k)
    → times (suc k) a b (true, u)
    ≡ xor (times k (low k a) (high k b) u) (xor (times k (high k a) (low k b) u) (times k (high k a) (high k b) u))
times_high k a b u =
    let at : VariableSet k → Bool = pairs_with k (low k a) (high k b) u in
    ap₂ xor (ap (sum_over k) (fun_ext (λ (s : VariableSet k). ap (λ (x : Bool). xor x (at s)) (sum_none k))))
    (sum_xor k (pairs_with k (high k a) (low k b) u) (pairs_with k (high k a) (high k b) u))

four : (a b c d : Bool) → xor (a && c) (xor (a && d) (xor (b && c) (b && d))) ≡ (xor a b && xor c d)
four false false c d = refl
four false true c d = refl
four true false false false = refl
four true false false true = refl
four true false true false = refl
four true false true true = refl
four true true false false = refl
four true true false true = refl
four true true true false = refl
four true true true true = refl

pub sums_times : (k : ℕ) (a b : Coefficients k) (p : VariableSet k)
    → subset_sums k (times k a b) p ≡ (subset_sums k a p && subset_sums k b p)
sums_times zero a b p = refl
sums_times (suc k) a b (false, p) =
    sums_low k (times (suc k) a b) p
    ∙ ap (λ (f : Coefficients k). subset_sums k f p) (fun_ext (times_low k a b))
    ∙ sums_times k (low k a) (low k b) p
    ∙ sym (ap₂ ◌&&◌ (sums_low k a p) (sums_low k b p))
sums_times (suc k) a b (true, p) =
    ap₂ (λ (f g : Coefficients k). xor (subset_sums k f p) (subset_sums k g p)) (fun_ext (times_low k a b)) (fun_ext (times_high k a b))
    ∙ ap₂ xor (sums_times k (low k a) (low k b) p)
    (sums_plus k (times k (low k a) (high k b)) (plus k (times k (high k a) (low k b)) (times k (high k a) (high k b))) p
    ∙ ap₂ xor (sums_times k (low k a) (high k b) p)
    (sums_plus k (times k (high k a) (low k b)) (times k (high k a) (high k b)) p
    ∙ ap₂ xor (sums_times k (high k a) (low k b) p) (sums_times k (high k a) (high k b) p)))
    ∙ four (subset_sums k (low k a) p) (subset_sums k (high k a) p) (subset_sums k (low k b) p) (subset_sums k (high k b) p)

-- the laws of the product

pub times_assoc : (k : ℕ) (a b c : Coefficients k) → times k (times k a b) c ≡ times k a (times k b c)
times_assoc k a b c =
    known_by_sums k (times k (times k a b) c) (times k a (times k b c)) (λ (p : VariableSet k).
    sums_times k (times k a b) c p
    ∙ ap (λ (x : Bool). x && subset_sums k c p) (sums_times k a b p)
    ∙ and_assoc (subset_sums k a p) (subset_sums k b p) (subset_sums k c p)
    ∙ sym (sums_times k a (times k b c) p ∙ ap (λ (x : Bool). subset_sums k a p && x) (sums_times k b c p)))

pub times_comm : (k : ℕ) (a b : Coefficients k) → times k a b ≡ times k b a
times_comm k a b =
    known_by_sums k (times k a b) (times k b a) (λ (p : VariableSet k).
    sums_times k a b p ∙ and_comm (subset_sums k a p) (subset_sums k b p) ∙ sym (sums_times k b a p))

pub times_one : (k : ℕ) (a : Coefficients k) → times k a (one_polynomial k) ≡ a
times_one k a =
    known_by_sums k (times k a (one_polynomial k)) a (λ (p : VariableSet k).
    sums_times k a (one_polynomial k) p
    ∙ ap (λ (x : Bool). subset_sums k a p && x) (sums_one k p)
    ∙ and-true (subset_sums k a p))

pub times_self : (k : ℕ) (a : Coefficients k) → times k a a ≡ a
times_self k a =
    known_by_sums k (times k a a) a (λ (p : VariableSet k). sums_times k a a p ∙ and_self (subset_sums k a p))

pub times_plus : (k : ℕ) (a b c : Coefficients k) → times k a (plus k b c) ≡ plus k (times k a b) (times k a c)
times_plus k a b c =
    known_by_sums k (times k a (plus k b c)) (plus k (times k a b) (times k a c)) (λ (p : VariableSet k).
    sums_times k a (plus k b c) p
    ∙ ap (λ (x : Bool). subset_sums k a p && x) (sums_plus k b c p)
    ∙ and_xor (subset_sums k a p) (subset_sums k b p) (subset_sums k c p)
    ∙ sym (sums_plus k (times k a b) (times k a c) p ∙ ap₂ xor (sums_times k a b p) (sums_times k a c p)))

-- the test of equality

both : (a b : Bool) → (a && b) ≡ true → (a ≡ true) × (b ≡ true)
both true b e = (refl, e)
both false b e = absurd (false≢true e)

pub every_yes : (k : ℕ) (f : VariableSet k → Bool) → every k f ≡ true → (s : VariableSet k) → f s ≡ true
every_yes zero f e s = e
every_yes (suc k) f e (false, s) = every_yes k (λ t. f (false, t)) (both (every k (λ t. f (false, t))) (every k (λ t. f (true, t))) e).0 s
every_yes (suc k) f e (true, s) = every_yes k (λ t. f (true, t)) (both (every k (λ t. f (false, t))) (every k (λ t. f (true, t))) e).1 s

every_if : (k : ℕ) (f : VariableSet k → Bool) → ((s : VariableSet k) → f s ≡ true) → every k f ≡ true
every_if zero f h = h tt
every_if (suc k) f h = ap₂ ◌&&◌ (every_if k (λ s. f (false, s)) (λ s. h (false, s))) (every_if k (λ s. f (true, s)) (λ s. h (true, s)))

pub same_yes : (k : ℕ) (a b : Coefficients k) → same_coefficients k a b ≡ true → a ≡ b
same_yes k a b e = fun_ext (λ (s : VariableSet k). equal_yes (a s) (b s) (every_yes k (λ s. equal (a s) (b s)) e s))

pub same_if : (k : ℕ) (a b : Coefficients k) → a ≡ b → same_coefficients k a b ≡ true
same_if k a b e =
    ap (same_coefficients k a) (sym e) ∙ every_if k (λ s. equal (a s) (a s)) (λ (s : VariableSet k). equal_self (a s))

abbrev pub polynomials : (k : ℕ) → BooleanRing (Coefficients k)
polynomials k = record {
  zero = zero_polynomial k;
  one = one_polynomial k;
  sum = plus k;
  product = times k;
  same = same_coefficients k;
  sum_assoc = λ a b c. fun_ext (λ (s : VariableSet k). xor_assoc (a s) (b s) (c s));
  sum_comm = λ a b. fun_ext (λ (s : VariableSet k). xor_comm (a s) (b s));
  sum_zero = λ a. fun_ext (λ (s : VariableSet k). xor_zero (a s));
  sum_self = λ a. fun_ext (λ (s : VariableSet k). xor_self (a s));
  product_assoc = times_assoc k;
  product_comm = times_comm k;
  product_one = times_one k;
  product_self = times_self k;
  distributes = times_plus k;
  same_yes = same_yes k;
  same_if = same_if k;
}
