-- The bits of a bitwise operation, of a shifted number, and of a number's low and high parts.
use Rattle.std.proofs.Common.{◌≡◌, ℕ, zero, suc, ◌+◌, ◌*◌, ◌/◌, ◌%◌, ◌^◌, ◌<◌, ◌≤◌, min, false, ◌&&◌, eqb, sym, refl, ap, ◌∙◌, div-add-mod', arith, shr-shr}
use Rattle.std.specs.Int.{bit_at}
use Rattle.std.specs.Int.Bits.{bit_and, bit_xor}
use Rattle.std.proofs.lemmas.Nat.Bits.{bit_at_above, bit_at_and, bit_at_cat_low, bit_at_xor, bit_at-lt}
use lib.Pow.{shl-shr}
use Rattle.values.specs.Bits.{xor}
use Rattle.values.specs.Words.{bit}

-- what holds of the digits 0 and 1 holds of all numbers below 2
digits : (P : ℕ → ℕ → Type 0) → P 0 0 → P 0 1 → P 1 0 → P 1 1 → (x y : ℕ) → x < 2 → y < 2 → P x y
digits P p q r s zero zero l m = p
digits P p q r s zero (suc zero) l m = q
digits P p q r s (suc zero) zero l m = r
digits P p q r s (suc zero) (suc zero) l m = s
digits P p q r s zero (suc (suc y)) l m = absurd (omega arith)
digits P p q r s (suc zero) (suc (suc y)) l m = absurd (omega arith)
digits P p q r s (suc (suc x)) y l m = absurd (omega arith)

pub bit_of_xor : (a b i : ℕ) → bit (bit_xor a b) i ≡ xor (bit a i) (bit b i)
bit_of_xor a b i =
    ap (λ (n : ℕ). eqb n 1) (bit_at_xor a b i)
    ∙ digits (λ x y. eqb ((x + y) % 2) 1 ≡ xor (eqb x 1) (eqb y 1)) refl refl refl refl (bit_at a i) (bit_at b i) (bit_at-lt a i) (bit_at-lt b i)

pub bit_of_and : (a b i : ℕ) → bit (bit_and a b) i ≡ (bit a i && bit b i)
bit_of_and a b i =
    ap (λ (n : ℕ). eqb n 1) (bit_at_and a b i)
    ∙ digits (λ x y. eqb (min x y) 1 ≡ (eqb x 1 && eqb y 1)) refl refl refl refl (bit_at a i) (bit_at b i) (bit_at-lt a i) (bit_at-lt b i)

pub bit_right : (a j i : ℕ) → bit (a / 2 ^ j) i ≡ bit a (j + i)
bit_right a j i = ap (λ (n : ℕ). eqb (n % 2) 1) (shr-shr a j i)

pub bit_left : (a j i : ℕ) → bit (a * 2 ^ j) (j + i) ≡ bit a i
bit_left a j i = sym (bit_right (a * 2 ^ j) j i) ∙ ap (λ (n : ℕ). bit n i) (shl-shr a j)

pub bit_below : (a j i : ℕ) → i < j → bit (a % 2 ^ j) i ≡ bit a i
bit_below a j i h =
    ap (λ (n : ℕ). eqb n 1) (sym (bit_at_cat_low (a / 2 ^ j) j (a % 2 ^ j) i h))
    ∙ ap (λ (n : ℕ). bit n i) (div-add-mod' a (2 ^ j))

-- a number of j bits has no other
pub bit_past : (a j i : ℕ) → a < 2 ^ j → j ≤ i → bit a i ≡ false
bit_past a j i h l = ap (λ (n : ℕ). eqb n 1) (bit_at_above a j i h l)
