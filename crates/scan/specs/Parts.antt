-- What it is to part a text at its separators, said of the text itself.
use Rattle.std.specs.Prelude.{◌≡◌, ℕ, ◌+◌, ◌<◌, true, false, List, [], ◌∷◌, ◌++◌, length}
use Rattle.scan.specs.Cuts.{Piece, separator}

-- separators alone
abbrev pub Blank : List ℕ → Type 0
Blank [] = Unit {0}
Blank (b ∷ bs) = (separator b ≡ true) × Blank bs

-- no separator at all
abbrev pub Solid : List ℕ → Type 0
Solid [] = Unit {0}
Solid (b ∷ bs) = (separator b ≡ false) × Solid bs

-- a text that is empty or starts with a separator
abbrev pub Ends : List ℕ → Type 0
Ends [] = Unit {0}
Ends (b ∷ bs) = separator b ≡ true

-- the text bs, which starts at place p, is a gap, the token t, and rest
pub record First (p : ℕ) (bs : List ℕ) (t : Piece) (rest : List ℕ) : Type 0 where
  pub gap : List ℕ
  pub whole : bs ≡ gap ++ (t.bytes ++ rest)
  pub blank : Blank gap
  pub some : 0 < length t.bytes
  pub solid : Solid t.bytes
  pub ends : Ends rest
  pub placed : t.place ≡ p + length gap

-- ts are the tokens of the text bs, which starts at place p
abbrev pub Parted : ℕ → List ℕ → List Piece → Type 0
Parted p bs [] = Blank bs
Parted p bs (t ∷ ts) = (rest : List ℕ) × (First p bs t rest × Parted (t.place + length t.bytes) rest ts)
