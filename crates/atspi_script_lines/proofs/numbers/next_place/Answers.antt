use Rattle.std.proofs.Common.{arith}
use Rattle.atspi_script_lines.proofs.LeadLemmas.{far_place, place_number}
use Rattle.atspi_script_lines.proofs.numbers.next_place.Goals as goal

pub returns-in_default : goal.returns-in_default
returns-in_default c = λ n rest h. c.in_default.ensures n rest (place_number n rest c.args.bytes.now h)

pub returns-then-n-gt-PLACE_LIMIT : goal.returns-then-n-gt-PLACE_LIMIT
returns-then-n-gt-PLACE_LIMIT c = far_place c.in-Some.n c.in-Some.rest.now c.args.bytes.now c.in-Some.ensures (omega arith)
