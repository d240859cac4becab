-- What is added in turn.
use Rattle.std.proofs.Common.{◌≡◌, ℕ, zero, suc, List, [], ◌∷◌, ◌++◌, take, refl, ap, ◌∙◌}
use Rattle.std.proofs.lemmas.List.{append_assoc}
use Rattle.circuit.specs.declared.Gate.{Gate}
use Rattle.moves.specs.declared.speller.Speller.{Speller}
use Rattle.moves.specs.Spellers.{Adds}

-- a list that is cut at n after each append is the whole cut at n
cut_append : {X : Type 0} (n : ℕ) (xs ys : List X) → take n (take n xs ++ ys) ≡ take n (xs ++ ys)
cut_append zero xs ys = refl
cut_append (suc n) [] ys = refl
cut_append (suc n) (x ∷ xs) ys = ap (λ zs. x ∷ zs) (cut_append n xs ys)

module _ (s t u : Speller) (xs ys : List Gate) where
  -- xs, and then ys
  pub adds_both : Adds s xs t → Adds t ys u → Adds s (xs ++ ys) u
  adds_both p q =
      (q.0 ∙ ap (λ zs. take 512 (zs ++ ys)) p.0 ∙ cut_append 512 (s.gates.items ++ xs) ys ∙ ap (take 512) (append_assoc s.gates.items xs ys), q.1 ∙ p.1)

-- the same gates, said otherwise
pub adds_same : (s t : Speller) (xs ys : List Gate) → Adds s xs t → xs ≡ ys → Adds s ys t
adds_same s t xs ys p e = (p.0 ∙ ap (λ zs. take 512 (s.gates.items ++ zs)) e, p.1)
