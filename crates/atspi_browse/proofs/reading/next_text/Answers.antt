use Rattle.std.proofs.Common.{[], ◌∷◌}
use Rattle.atspi_script_lines.proofs.LeadLemmas.{lead_rest}
use Rattle.atspi_script_lines.specs.Words.{number, app_name, reader_name}
use Rattle.atspi_browse.proofs.reading.next_text.Goals as goal

pub returns-in_default : goal.returns-in_default
returns-in_default c = λ r a n rest h. c.in_default.ensures r h.0 h.1

pub returns-in_default-next_app : goal.returns-in_default-next_app
returns-in_default-next_app c = λ r a n rest h.
    let t = lead_rest (reader_name c.in-Some.reader) (reader_name r) c.in-Some.behind_reader.now rest c.args.bytes.now (app_name a ∷ number n ∷ []) tt c.in-Some.ensures h in
    c.in_default-next_app.ensures a t.0 t.1

pub returns-in-None : goal.returns-in-None
returns-in-None c = λ r a n rest h.
    let t = lead_rest (reader_name c.in-Some.reader) (reader_name r) c.in-Some.behind_reader.now rest c.args.bytes.now (app_name a ∷ number n ∷ []) tt c.in-Some.ensures h in
    let u = lead_rest (app_name c.in-Some-next_app.app) (app_name a) c.in-Some-next_app.behind_app.now rest c.in-Some.behind_reader.now (number n ∷ []) tt c.in-Some-next_app.ensures t in
    c.in-None.ensures n u.0 u.1
