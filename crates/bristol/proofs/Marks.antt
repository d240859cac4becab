-- Wires marked as outputs one by one, and the network sealed.
use Rattle.std.proofs.Common.{◌≡◌, ℕ, ◌+◌, ◌-◌, ◌<◌, List, ◌∷◌, length, get_or, drop, Some, None, Option, sym, ap, ◌∙◌, subst, arith}
use Rattle.std.specs.List.{between}
use Rattle.std.proofs.lemmas.List.{at_drop_more}
use Rattle.std.proofs.lemmas.Slice.{between_to_end}
use Rattle.network.specs.Drafts.{marking, with_output, sealing}
use Rattle.refusals.specs.Drafts as drafts
use Rattle.network.specs.Wires.{Net}
use Rattle.refusals.specs.declared.draft.DraftRefusal.{DraftRefusal}
use Rattle.bristol.specs.Answers.{Refuses}
use Rattle.bristol.specs.Building.{unless, marked, finished}
use Rattle.refusals.specs.declared.text.TextRefusal.{TextRefusal}
use Rattle.refusals.specs.declared.text.TextRefusal.TheVariants.{Draft}
use Rattle.bristol.proofs.Builds.{refused, refuses_then}

module _ (s : Net) (ws : List (Option ℕ)) (i : ℕ) (within : i < length ws) where
  pub mark_stops : (w : ℕ) (e : DraftRefusal) → get_or ws i None ≡ Some w → marking s w ≡ drafts.number e → Refuses (Draft e) (marked s (drop i ws))
  mark_stops w e h k =
      let next : marked s (drop i ws) ≡ marked s (Some w ∷ drop (i + 1) ws) = at_drop_more (marked s) ws i None within ∙ ap (λ p. marked s (p ∷ drop (i + 1) ws)) h in
      subst (Refuses (Draft e)) (sym next) (refuses_then (Draft e) (unless (marking s w) (with_output s w)) (λ u. marked u (drop (i + 1) ws)) (refused e (with_output s w) (marking s w) k))

module _ (s : Net) (ws vs : List (Option ℕ)) (m first : ℕ) (same : vs ≡ ws) (from : first ≡ length ws - m) where
  pub sealed_stops : (e : TextRefusal) → Refuses e (marked s (between first (length vs) vs)) → Refuses e (finished m (record { draft = s; wires = ws }))
  sealed_stops e h =
      let last : between first (length vs) vs ≡ drop (length ws - m) ws = between_to_end vs first (length vs) (omega arith) ∙ (λ k. drop (from k) (same k)) in
      refuses_then e (marked s (drop (length ws - m) ws)) (λ n. unless (sealing n) n) (subst (λ l. Refuses e (marked s l)) last h)
