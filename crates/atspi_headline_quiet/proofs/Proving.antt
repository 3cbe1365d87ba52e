-- The run of a lawful trace keeps the laws.
use Rattle.std.proofs.Common.{false, List, None}
use Rattle.atspi_headline.specs.Words.{Act}
use Rattle.atspi_headline_laws.specs.Laws.{OfEachTrace}
use Rattle.atspi_headline_laws.proofs.Proving.{with_run}
use Rattle.atspi_headline_links.proofs.Proving.{keeps}
use Rattle.atspi_headline_quiet.specs.Laws.{LinesEndTold, LinesMoveTold, LawsKept}
use Rattle.atspi_headline.specs.Headline.{LawOfSegments, LawOfQuiet}
use Rattle.atspi_headline_quiet.proofs.Tying.{quiet_law}
use Rattle.atspi_headline_quiet.proofs.Whole.{segments_law}
use Rattle.atspi_headline_quiet.proofs.Joined.{links_tied}
use Rattle.atspi_headline_quiet.proofs.Quieting.{lines_end}
use Rattle.atspi_headline_quiet.proofs.Moving.{lines_move}

pub keep_laws : OfEachTrace (λ run. LawsKept run)
keep_laws = with_run (λ run. LawsKept run) (λ run w r k. record { before = keeps run w r k; segments = segments_law links_tied run w r k.0; at_quiet = quiet_law links_tied run w r k.0 })

pub words_do : OfEachTrace LinesEndTold
words_do = with_run LinesEndTold (λ run w r k. lines_end run w r k.0)

pub moves_do : OfEachTrace LinesMoveTold
moves_do = with_run LinesMoveTold (λ run w r k. lines_move run w r k.0)

pub segments_do : OfEachTrace (λ run. LawOfSegments false run)
segments_do = with_run (λ run. LawOfSegments false run) (λ run w r k. segments_law links_tied run w r k.0)

pub quiet_does : OfEachTrace (λ run. LawOfQuiet false run)
quiet_does = with_run (λ run. LawOfQuiet false run) (λ run w r k. quiet_law links_tied run w r k.0)
