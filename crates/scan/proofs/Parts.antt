-- `cut` parts a text.
use Rattle.std.proofs.Common.{◌≡◌, ℕ, ◌+◌, ◌<◌, true, false, List, [], ◌∷◌, ◌++◌, length, sym, refl, ap, ◌∙◌, subst, append_assoc, add-zero, arith}
use Rattle.std.proofs.lemmas.List.{length_push}
use Rattle.std.proofs.lemmas.Bool.{cond_both}
use Rattle.scan.specs.Cuts.{Piece, separator, close, cut}
use Rattle.scan.specs.Parts.{Solid, Ends, Parted}

-- a separator in front
lead : (p b : ℕ) (bs : List ℕ) (ps : List Piece) → separator b ≡ true → Parted (p + 1) bs ps → Parted p (b ∷ bs) ps
lead p b bs [] e h = (e, h)
lead p b bs (t ∷ ts) e (rest, (f, more)) = (
  rest,
  (
    record { gap = b ∷ f.gap; whole = ap (λ l. b ∷ l) f.whole; blank = (e, f.blank); some = f.some; solid = f.solid; ends = f.ends; placed = f.placed ∙ omega arith },
    more,
  ),
)

-- a word that ends here
stop : (p : ℕ) (w rest : List ℕ) (ps : List Piece) → 0 < length w → Solid w → Ends rest → Parted (p + length w) rest ps → Parted p (w ++ rest) (close p w ps)
stop p [] rest ps h s e more = absurd (omega arith)
stop p (b ∷ w) rest ps h s e more = (rest, (record { gap = []; whole = refl; blank = tt; some = h; solid = s; ends = e; placed = sym (add-zero p) }, more))

solid_push : (w : List ℕ) (b : ℕ) → Solid w → separator b ≡ false → Solid (w ++ b ∷ [])
solid_push [] b s e = (e, tt)
solid_push (x ∷ w) b s e = (s.0, solid_push w b s.1 e)

abbrev Both : List ℕ → Type 0
Both bs = ((p : ℕ) → Parted p bs (cut p [] bs)) × ((p : ℕ) (w : List ℕ) → 0 < length w → Solid w → Parted p (w ++ bs) (cut p w bs))

both : (bs : List ℕ) → Both bs
both [] = (λ p. tt, λ p w h s. stop p w [] [] h s tt tt)
both (b ∷ bs) =
    let ih = both bs in (
      λ p. cond_both (separator b) _ _ (Parted p (b ∷ bs))
          (λ e. lead p b bs _ e (subst (λ k. Parted (k + 1) bs (cut (p + 0 + 1) [] bs)) (add-zero p) (ih.0 (p + 0 + 1))))
          (λ e. ih.1 p (b ∷ []) (omega arith) (e, tt)),
      λ p w h s. cond_both (separator b) _ _ (Parted p (w ++ b ∷ bs))
          (λ e. stop p w (b ∷ bs) _ h s e (lead (p + length w) b bs _ e (ih.0 (p + length w + 1))))
          (λ e. subst (λ l. Parted p l (cut p (w ++ b ∷ []) bs)) (append_assoc w (b ∷ []) bs) (ih.1 p (w ++ b ∷ []) (omega (arith, length_push w b)) (solid_push w b s e))),
    )

pub parts : (p : ℕ) (bs : List ℕ) → Parted p bs (cut p [] bs)
parts p bs = (both bs).0 p
