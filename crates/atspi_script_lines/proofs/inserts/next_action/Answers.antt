use Rattle.std.proofs.Common.{[], ◌∷◌}
use Rattle.atspi_script_lines.proofs.LeadLemmas.{lead_rest}
use Rattle.atspi_script_lines.specs.Words.{literal, quote}
use Rattle.std.specs.Prelude.{codes}
use Rattle.atspi_script_lines.proofs.ClauseLemmas.{free_action}
use Rattle.atspi_script_lines.proofs.inserts.next_action.Goals as goal

pub returns-in_default : goal.returns-in_default
returns-in_default c = λ name rest h. c.in_default.ensures h.0 h.1

pub returns-in-None : goal.returns-in-None
returns-in-None c = λ name rest h.
    let t = lead_rest (literal (codes "action")) (literal (codes "action")) c.in-Some.behind.now rest c.args.bytes.now (quote name ∷ []) (free_action, free_action) c.in-Some.ensures h in
    (rw c.in-None.is at c.in_ok-name.ensures) name t.0 t.1
