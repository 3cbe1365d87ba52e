use Rattle.std.proofs.Common.{[], ◌∷◌, refl}
use Rattle.atspi_script_lines.proofs.LeadLemmas.{behind_all}
use Rattle.atspi_script_lines.specs.Words.{literal, number, app_name, reader_name}
use Rattle.atspi_browse.specs.UnitLine.{grain_word, way_word}
use Rattle.atspi_browse.proofs.reading.line_of.Goals as goal

pub returns-in_default : goal.returns-in_default
returns-in_default c = λ l s. c.in_default.ensures l.reader l.app l.node s.2.2.0 (s.0, s.1, (s.2.0, s.2.1, (s.2.2.0, s.2.2.1, refl)))

pub returns-in-None : goal.returns-in-None
returns-in-None c = λ l s.
    c.in-None.ensures l.way l.grain
    (behind_all (reader_name c.in-Some.reader ∷ app_name c.in-Some.app ∷ number c.in-Some.node ∷ []) (reader_name l.reader ∷ app_name l.app ∷ number l.node ∷ []) c.in-Some.rest.now c.args.bytes.now
    (literal (way_word l.way) ∷ literal (grain_word l.grain) ∷ []) (tt, (tt, (tt, tt))) c.in-Some.ensures s)
