use Rattle.std.proofs.Common.{rules, ◌≡◌, ◌+◌, [], ◌∷◌, length, drop, refl, ap, arith}
use Rattle.std.proofs.lemmas.Grind.{common_steps}
use Rattle.scan.specs.Cuts.{cut}
use Rattle.scan.specs.Tokens.{left, piece}
use Rattle.scan.proofs.Parts.{parts}
use Rattle.scan.proofs.Pieces.{next_piece}
use Rattle.scan.proofs.scanner.ops.ScannerIterator.next.Goals as goal

taken : (c : goal.After-new) → let k = c.args.self.now.at + c.in-Some.gap + c.unwrap_or-len.result in left c.args.self.now ≡ piece c.new.result ∷ cut k [] (drop k c.args.self.now.source.now)
taken c =
    rw c.new.ensures.is_the_part
    (next_piece c.args.self.now.at c.in-Some.gap c.unwrap_or-len.result c.args.self.now.source.now (search rules) (λ i h. search rules) (search rules) (search rules) (λ i h. search rules) (λ h. search rules))

pub returns-clause-steps : goal.returns-clause-steps
returns-clause-steps c =
    let is = c.new.ensures.is_the_part in
    record { gives_the_first_piece_left = (taken c, rw is c.new.ensures.is_a_number_if_its_bytes_are); pieces_left_part_the_rest = parts c.args.self.now.at (drop c.args.self.now.at c.args.self.now.source.now); keeps_the_text = refl; token_is_its_part_of_the_text = rw is (grind (arith, common_steps)) }

pub returns-clause-goes : goal.returns-clause-goes
returns-clause-goes c = record { on = λ h. (tt, tt, omega (arith, ap length (taken c))); keeps = tt; rests = λ h. tt }
