-- A token's piece and worth, and what a scanner has still to give.
use Rattle.std.specs.Prelude.{◌≡◌, ℕ, Bool, true, false, List, [], ◌∷◌, drop, is_some, Some, None, Option, IfSome}
use Rattle.std.specs.List.{between}
use Rattle.scan.specs.Cuts.{Piece, cut}
use Rattle.scan.specs.Parts.{Parted}
use Rattle.scan.specs.Numbers.{number_of}
use Rattle.scan.specs.declared.scanner.Scanner.{Scanner}
use Rattle.scan.specs.declared.token.Token.{Token}
use Rattle.scan.specs.declared.token.Token.TheVariants.{Number, Word}

abbrev pub piece : Token → Piece
piece (Number text place) = record { place = place; bytes = text.now }
piece (Word text place) = record { place = place; bytes = text.now }

abbrev pub is_number : Token → Bool
is_number (Number text place) = true
is_number (Word text place) = false

abbrev pub worth_of : Token → Option ℕ
worth_of (Number text place) = number_of text.now
worth_of (Word text place) = None

abbrev pub text_of : Scanner → List ℕ
text_of s = s.source.now

abbrev pub left : Scanner → List Piece
left s = cut s.at [] (drop s.at (text_of s))

-- the next token is the first piece that is left, and a number exactly if its bytes are one
abbrev pub Next : List Piece → Option Token → List Piece → Type 0
Next before None after = (before ≡ []) × (after ≡ [])
Next before (Some t) after = (before ≡ piece t ∷ after) × (is_number t ≡ is_some (number_of (piece t).bytes))

-- what a call of next gives and leaves
pub record GivesTheFirst (old : Scanner) (result : Option Token) (new : Scanner) : Type 0 where
  pub gives_the_first_piece_left : Next (left old) result (left new)
  pub pieces_left_part_the_rest : Parted old.at (drop old.at (text_of old)) (left old)
  pub keeps_the_text : text_of new ≡ text_of old
  pub token_is_its_part_of_the_text : IfSome result (λ t. (piece t).bytes ≡ between (piece t).place new.at (text_of old))
