use Rattle.std.proofs.Common.{[], ◌∷◌}
use Rattle.atspi_script_lines.proofs.LeadLemmas.{lead_rest}
use Rattle.atspi_script_lines.specs.Words.{number}
use Rattle.atspi_script_lines.proofs.inserts.next_two.Goals as goal

pub returns-in_default : goal.returns-in_default
returns-in_default c = λ m n rest h. c.in_default.ensures m h.0 h.1

pub returns-in-None : goal.returns-in-None
returns-in-None c = λ m n rest h.
    let r = lead_rest (number c.in-Some.first) (number m) c.in-Some.behind.now rest c.args.bytes.now (number n ∷ []) tt c.in-Some.ensures h in
    c.in-None.ensures n r.0 r.1
