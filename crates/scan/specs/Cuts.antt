-- A text cut at its separators.
use Rattle.std.specs.Prelude.{ℕ, ◌+◌, Bool, cond, ◌||◌, List, [], ◌∷◌, ◌++◌, length, ◌==◌}

-- a part of the text, and the place where it starts
pub record Piece : Type 0 where
  pub place : ℕ
  pub bytes : List ℕ

-- space, tab, CR and LF
abbrev pub separator : ℕ → Bool
separator b = b == 32 || (b == 9 || (b == 13 || b == 10))

-- a word that is not empty stands before the others
abbrev pub close : ℕ → List ℕ → List Piece → List Piece
close at [] ps = ps
close at (b ∷ bs) ps = record { place = at; bytes = b ∷ bs } ∷ ps

-- the pieces of a text, of which the word that starts at `at` has been read
abbrev pub cut : ℕ → List ℕ → List ℕ → List Piece
cut at word [] = close at word []
cut at word (b ∷ bs) = cond (separator b) (close at word (cut (at + length word + 1) [] bs)) (cut at (word ++ b ∷ []) bs)
