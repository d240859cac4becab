use Rattle.std.proofs.Common.{rules, ◌≡◌, true, List, [], ◌∷◌, ◌++◌, map, reverse, Bor, refl, sym, ap, ◌∙◌, subst}
use Rattle.std.proofs.lemmas.List.{map-append, reverse-append}
use Rattle.std.specs.Slice.Iter.{iter_rest}
use Rattle.circuit.specs.declared.Gate.{Gate}
use Rattle.circuit.specs.Gates.{inverse}
use Rattle.moves.specs.Fans.{undone}
use Rattle.sinks.specs.Sending.{Taken}
use Rattle.session.proofs.sending.send_undone.Goals as goal

inverse_backwards : (gs : List Gate) → map inverse (reverse gs) ≡ undone gs
inverse_backwards [] = refl
inverse_backwards (g ∷ gs) =
    ap (map inverse) (reverse-append (g ∷ []) gs) ∙ map-append inverse (reverse gs) (g ∷ [])
    ∙ ap (λ hs. hs ++ (inverse g ∷ [])) (inverse_backwards gs) ∙ sym (reverse-append (inverse g ∷ []) (map inverse gs))

inverse_behind : (ys : List (Bor Gate)) → map (λ y. inverse y.now) ys ≡ map inverse (map (λ y. y.now) ys)
inverse_behind [] = refl
inverse_behind (y ∷ ys) = ap (λ hs. inverse y.now ∷ hs) (inverse_behind ys)

pub returns-clause-all_undone_in_order : goal.returns-clause-all_undone_in_order
returns-clause-all_undone_in_order g c =
    let k = g.S.Sink in
    let t = c.send_all.ensures.all_taken_in_order in
    let u = c.map.ensures.runs t.0 t.0.seen t.1 in
    let v = c.rev.ensures.runs u.0 u.0.seen u.1 in
    let w = c.iter.ensures.runs_back v.0 v.0.seen in
    let whole : v.0.whole ≡ true = cc in
    let sent : t.0.items ≡ map (λ y. inverse y.now) u.0.items = u.2.3 (λ y. inverse y.now) (λ x r q h. search rules) in
    let same : u.0.items ≡ v.0.items = cc in
    let all = sent ∙ inverse_behind u.0.items ∙ ap (λ ys. map inverse (map (λ y. y.now) ys)) same ∙ ap (map inverse) (w.4 whole ∙ ap (λ it. reverse (iter_rest it)) v.1 ∙ ap reverse c.iter.ensures.rest)
    ∙ inverse_backwards c.args.gates.now in
    subst (λ gs. Taken k.meaning k.took c.args.sink.now gs c.send_all.new.sink) all t.3
