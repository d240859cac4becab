-- Words of bits, one bit more.
use Rattle.std.proofs.Common.{◌≡◌, ℕ, ◌+◌, ◌*◌, ◌^◌, ◌<◌, ◌≤◌, Bool, true, false, cond, List, [], ◌∷◌, ◌++◌, map, length, get_or, drop, sym, refl, ap, ◌∙◌, ⊎_elim, pow-suc, arith, lit<, length-drop, Bor, pow_mono}
use mathlib.Core.Path.{fun_ext}
use mir.Val.{bool_byte}
use mathlib.Core.List.{reverse}
use Rattle.std.proofs.lemmas.List.{get_or_past, map_push, reverse-append, length-reverse, length-map}
use Rattle.std.proofs.lemmas.Bool.{cases_lt}
use Rattle.values.specs.Bits.{bits}
use Rattle.values.specs.Words.{bit, word_of}
use Rattle.values.proofs.WordLaws.{bit_past}
use Rattle.network.specs.Wires.{Net}
use Rattle.network.specs.Values.{given, output_values}

word_lt : (bs : List Bool) → word_of bs < 2 ^ length bs
word_lt [] = lit< tt
word_lt (b ∷ bs) = omega (arith, bit b, word_lt bs, pow-suc 2 (length bs))
  where
    bit : (b : Bool) → cond b 1 0 ≤ 1
    bit true = omega arith
    bit false = omega arith

pub word_fits : (bs : List Bool) (k : ℕ) → length bs ≤ 64 → word_of (drop k bs) < 18446744073709551616
word_fits bs k l =
    let short : length (drop k bs) ≤ 64 = omega (arith, length-drop k bs) in
    omega (arith, word_lt (drop k bs), pow_mono short)

-- r and w are a further bit and the word of those before it
module _ (ys : List (Bor Bool)) (y : Bor Bool) (r w : ℕ) (is : r ≡ bool_byte y.now) (h : w ≡ word_of (reverse (map (λ b. b.now) ys))) where
  further : reverse (map (λ b. b.now) (ys ++ y ∷ [])) ≡ y.now ∷ reverse (map (λ b. b.now) ys)
  further = ap reverse (map_push (λ b. b.now) ys y) ∙ reverse-append (map (λ b. b.now) ys) (y.now ∷ [])

  pub bit_packed : r + 2 * w ≡ word_of (reverse (map (λ b. b.now) (ys ++ y ∷ [])))
  bit_packed = (λ k. is k + 2 * h k) ∙ ap (λ c. c + 2 * word_of (reverse (map (λ b. b.now) ys))) (byte y.now) ∙ sym (ap word_of further)
    where
      byte : (b : Bool) → bool_byte b ≡ cond b 1 0
      byte true = refl
      byte false = refl

  pub packed_fits : length ys < 64 → r + 2 * w < 18446744073709551616
  packed_fits l =
      let long : length (y.now ∷ reverse (map (λ b. b.now) ys)) ≤ 64 = omega (arith, length-reverse (map (λ (b : Bor Bool). b.now) ys), length-map ys (λ b. b.now)) in
      omega (arith, bit_packed ∙ ap word_of further, word_fits (y.now ∷ reverse (map (λ b. b.now) ys)) 0 long)

-- a bit means itself
pub bits_meant : (bs : List Bool) → map (λ b. b) bs ≡ bs
bits_meant [] = refl
bits_meant (b ∷ bs) = ap (λ l. b ∷ l) (bits_meant bs)

-- the inputs of a word: bits 0 to 63, and no other
pub inputs_at : (word : ℕ) (bs : List Bool) → word < 18446744073709551616 → length bs ≡ 64 → ((i : ℕ) → i < 64 → get_or bs i false ≡ bit word i) → given bits bs ≡ bit word
inputs_at word bs l long h =
    fun_ext (λ (i : ℕ). ⊎_elim (h i) (λ past. get_or_past bs i false (omega arith) ∙ sym (bit_past word 64 i l past)) (cases_lt i 64))

-- the outputs at a word, where the slices outs and ins hold outputs and inputs
pub outputs_at : (s : Net) (x : ℕ → Bool) (ins outs known found : List Bool) → ins ≡ known → given bits known ≡ x → outs ≡ found → map (λ b. b) found ≡ output_values bits (given bits (map (λ b. b) ins)) s → outs ≡ output_values bits x s
outputs_at s x ins outs known found p q r h =
    r ∙ sym (bits_meant found) ∙ h ∙ ap (λ l. output_values bits (given bits l) s) (bits_meant ins ∙ p) ∙ ap (λ y. output_values bits y s) q
