use Rattle.std.proofs.Common.{[], ◌∷◌, refl}
use Rattle.atspi_script_lines.proofs.LeadLemmas.{behind_all}
use Rattle.atspi_script_lines.specs.Words.{place, app_name, reader_name}
use Rattle.atspi_script_lines.specs.Forms.{deed_form}
use Rattle.atspi_script_lines.proofs.FormLemmas.{no_call_line}
use Rattle.atspi_script_lines.proofs.read.read_call.Goals as goal

pub returns-in_default : goal.returns-in_default
returns-in_default c = no_call_line c.args.bytes.now (λ r a n d s. c.in_default.ensures r a n s.2.2.0 (s.0, s.1, (s.2.0, s.2.1, (s.2.2.0, s.2.2.1, refl))))

pub returns-in-None : goal.returns-in-None
returns-in-None c = no_call_line c.args.bytes.now (λ r a n d s.
    (rw c.in-None.is at c.in_ok-deed.ensures) d (behind_all (reader_name c.in-Some.reader ∷ app_name c.in-Some.app ∷ place c.in-Some.node ∷ []) (reader_name r ∷ app_name a ∷ place n ∷ []) c.in-Some.rest.now c.args.bytes.now (deed_form d) (tt, (tt, (tt, tt))) c.in-Some.ensures s))
