use Rattle.std.proofs.Common.{[], ◌∷◌}
use Rattle.atspi_script_lines.proofs.LeadLemmas.{rest_of}
use Rattle.atspi_script_lines.specs.Words.{literal}
use Rattle.atspi_browse.specs.UnitLine.{grain_word, way_word}
use Rattle.atspi_browse.proofs.WordLemmas.{way_free}
use Rattle.atspi_browse.proofs.reading.last_words.Goals as goal

pub returns-in_default : goal.returns-in_default
returns-in_default c = λ way grain s. c.in_default.ensures way s.0 s.1

pub returns-in-None : goal.returns-in-None
returns-in-None c = λ way grain s.
    c.in-None.ensures grain (rest_of (literal (way_word c.in-Some.way)) (literal (way_word way)) c.in-Some.rest.now c.args.bytes.now (literal (grain_word grain) ∷ []) (way_free c.in-Some.way, way_free way) c.in-Some.ensures s)
