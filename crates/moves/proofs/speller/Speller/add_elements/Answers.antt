use Rattle.std.proofs.Common.{rules, tests, ◌≡◌, ◌++◌, ◌∷◌, [], not, take, map, Some, None, Option, filter, refl, ap, ◌∙◌, nat_eq, List, ℕ}
use Rattle.std.specs.Option.{option_eq}
use Rattle.std.proofs.lemmas.Iterator.{YieldsList-from_slice, YieldsList-from_map, YieldsList-from_take}
use Rattle.std.proofs.lemmas.Iterator.Consumers.{YieldsList-at, YieldsList-from_filter}
use Rattle.circuit.specs.declared.Gate.TheVariants.{Cnot}
use Rattle.moves.specs.Fans.{line_by, adds, others}
use Rattle.moves.proofs.Appends.{extended, cut_at_room, room_for}
use Rattle.moves.proofs.speller.Speller.add_elements.Goals as goal

kept : (left_out : Option ℕ) (es : List ℕ) → filter (λ e. not (option_eq nat_eq (Some e) left_out)) es ≡ others left_out es
kept None [] = refl
kept None (e ∷ es) = ap (λ ds. e ∷ ds) (kept None es)
kept (Some c) es = refl

pub returns : goal.returns
returns c =
    let at = line_by c.args.self.now.lines in
    let lo = c.args.left_out in
    let t = c.args.t in
    let test = λ (e : ℕ). not (option_eq nat_eq (Some e) lo) in
    let cnot = λ (e : ℕ). Cnot (at e) t in
    let room = c.remaining_capacity-room.result in
    let s = c.args.self.now.gates.items in
    let es = c.args.elements.now in
    let fits = c.remaining_capacity-room.ensures in
    record {
      adds_elements = (
        extended 512 s c.extend.new.self.items c.extend.result c.extend.ensures.ran c.extend.ensures.full
            (YieldsList-from_take room
            (YieldsList-at c.take.ensures.source (YieldsList-from_map _ cnot
            (YieldsList-at c.map-cnots.ensures.source (YieldsList-from_filter _ test (YieldsList-from_slice es cc) c.filter.ensures.closure (λ x r q k. search (rules, tests))))
            c.map-cnots.ensures.closure (λ x r q k. search rules)))
            c.take.ensures.count)
            (room_for 512 room s (map cnot (filter test es)) fits)
            ∙ cut_at_room 512 room s (map cnot (filter test es)) fits
            ∙ ap (λ ds. take 512 (s ++ adds at t ds)) (kept lo es),
        refl,
      );
    }
