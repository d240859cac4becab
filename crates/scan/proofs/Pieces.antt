-- How the first token is cut off a text.
use Rattle.std.proofs.Common.{◌≡◌, ℕ, zero, suc, ◌+◌, ◌-◌, ◌<◌, ◌≤◌, true, false, List, [], ◌∷◌, ◌++◌, length, get_or, take, drop, sym, refl, ap, ◌∙◌, add-zero, append_assoc, arith}
use Rattle.std.proofs.lemmas.List.{drop_all, length-take-le}
use Rattle.std.proofs.lemmas.Bool.{cond-true, cond-false}
use Rattle.std.proofs.lemmas.Grind.{common_steps}
use Rattle.scan.specs.Cuts.{Piece, separator, close, cut}

-- separators in front are passed
blank_passed : (at k : ℕ) (bs : List ℕ) → k ≤ length bs → ((i : ℕ) → i < k → separator (get_or bs i 0) ≡ true) → cut at [] bs ≡ cut (at + k) [] (drop k bs)
blank_passed at zero bs inside blank = ap (λ n. cut n [] bs) (sym (add-zero at))
blank_passed at (suc k) [] inside blank = absurd (omega arith)
blank_passed at (suc k) (b ∷ bs) inside blank =
    cond-true (separator b) _ _ (blank 0 (omega arith)) ∙ blank_passed (at + 0 + 1) k bs (omega arith) (λ i h. blank (suc i) (omega arith)) ∙ ap (λ n. cut n [] (drop k bs)) (omega arith)

-- bytes that part nothing go to the word
word_read : (at : ℕ) (word : List ℕ) (k : ℕ) (bs : List ℕ) → k ≤ length bs → ((i : ℕ) → i < k → separator (get_or bs i 0) ≡ false) → cut at word bs ≡ cut at (word ++ take k bs) (drop k bs)
word_read at word zero bs inside solid = ap (λ w. cut at w bs) (grind (arith, common_steps))
word_read at word (suc k) [] inside solid = absurd (omega arith)
word_read at word (suc k) (b ∷ bs) inside solid =
    cond-false (separator b) _ _ (solid 0 (omega arith)) ∙ word_read at (word ++ b ∷ []) k bs (omega arith) (λ i h. solid (suc i) (omega arith)) ∙ ap (λ w. cut at w (drop k bs)) (append_assoc word (b ∷ []) (take k bs))

closed : (at : ℕ) (word : List ℕ) (ps : List Piece) → 0 < length word → close at word ps ≡ record { place = at; bytes = word } ∷ ps
closed at [] ps h = absurd (omega arith)
closed at (b ∷ bs) ps h = refl

-- a word that ends is the first piece
word_ended : (at : ℕ) (word bs : List ℕ) → 0 < length word → (0 < length bs → separator (get_or bs 0 0) ≡ true) → cut at word bs ≡ record { place = at; bytes = word } ∷ cut (at + length word) [] bs
word_ended at word [] some ends = closed at word [] some
word_ended at word (b ∷ bs) some ends =
    cond-true (separator b) _ _ (ends (omega arith)) ∙ closed at word _ some
    ∙ ap (λ ps. record { place = at; bytes = word } ∷ ps) (ap (λ n. cut n [] bs) (omega arith) ∙ sym (cond-true (separator b) (cut (at + length word + 0 + 1) [] bs) _ (ends (omega arith))))

module _ (at gap len : ℕ) (s rest word : List ℕ) (starts : rest ≡ drop at s) (cuts : word ≡ drop gap rest)
    (within : gap < length rest) (blank : (i : ℕ) → i < gap → separator (get_or rest i 0) ≡ true) (here : separator (get_or rest gap 0) ≡ false)
    (fits : len ≤ length word) (solid : (i : ℕ) → i < len → separator (get_or word i 0) ≡ false) (ends : len < length word → separator (get_or word len 0) ≡ true) where
  some : 0 < length (take len word)
  some = grind (arith, common_steps, here, ends, solid)

  ends_there : 0 < length (drop len word) → separator (get_or (drop len word) 0 0) ≡ true
  ends_there h = grind (arith, common_steps)

  rest_of_it : drop len word ≡ drop (at + gap + len) s
  rest_of_it = grind (arith, common_steps)

  first_piece : cut at [] (drop at s) ≡ record { place = at + gap; bytes = take len word } ∷ cut (at + gap + len) [] (drop (at + gap + len) s)
  first_piece =
      ap (cut at []) (sym starts) ∙ blank_passed at gap rest (omega arith) blank ∙ ap (cut (at + gap) []) (sym cuts) ∙ word_read (at + gap) [] len word fits solid
      ∙ word_ended (at + gap) (take len word) (drop len word) some ends_there ∙ ap (λ ps. record { place = at + gap; bytes = take len word } ∷ ps) (rw (length-take-le len word fits, rest_of_it))

-- the rest of a text from a place on, as code slices it off
abbrev pub from : ℕ → List ℕ → List ℕ
from at s = take (length s - at) (drop at s)

from_drops : (at : ℕ) (s : List ℕ) → from at s ≡ drop at s
from_drops at s = grind (arith, common_steps)

-- separators alone give no piece
pub no_piece : (at : ℕ) (s : List ℕ) → ((i : ℕ) → i < length (from at s) → separator (get_or (from at s) i 0) ≡ true) → cut at [] (drop at s) ≡ []
no_piece at s blank =
    let rest = from at s in
    ap (cut at []) (sym (from_drops at s)) ∙ blank_passed at (length rest) rest (omega arith) blank ∙ ap (cut (at + length rest) []) (drop_all (length rest) rest (omega arith))

-- after a gap comes a word, which ends at a separator or with the text
module _ (at gap len : ℕ) (s : List ℕ)
    (within : gap < length (from at s)) (blank : (i : ℕ) → i < gap → separator (get_or (from at s) i 0) ≡ true) (here : separator (get_or (from at s) gap 0) ≡ false)
    (fits : len ≤ length (from gap (from at s))) (solid : (i : ℕ) → i < len → separator (get_or (from gap (from at s)) i 0) ≡ false)
    (ends : len < length (from gap (from at s)) → separator (get_or (from gap (from at s)) len 0) ≡ true) where
  pub next_piece : cut at [] (drop at s) ≡ record { place = at + gap; bytes = take len (from gap (from at s)) } ∷ cut (at + gap + len) [] (drop (at + gap + len) s)
  next_piece =
      first_piece at gap len s (from at s) (from gap (from at s)) (from_drops at s) (from_drops gap (from at s)) within blank here fits solid ends
