use Rattle.std.proofs.Common.{ap, sym, ◌∙◌}
use Rattle.std.specs.Prelude.{is_some}
use Rattle.atspi_cache.proofs.Effects.{copied_some}
use Rattle.atspi_reader_known.specs.Kept.{kept}
use Rattle.atspi_reader_known.specs.Listed.{follows}
use Rattle.atspi_reader_known.proofs.Following.{others_follow}
use Rattle.atspi_reader_known.proofs.Found.{row_there}
use Rattle.atspi_reader_known.proofs.listing.follows.Goals as goal

pub returns-in-ChildAdded : goal.returns-in-ChildAdded
returns-in-ChildAdded c = λ view e.
    let there = ap is_some (sym c.find.ensures) ∙ sym (copied_some c.find.result) ∙ sym c.is_some.ensures in
    sym (row_there (kept c.args.cache.now) view c.in-ChildAdded.child c.is_some.result e there) ∙ ap (follows c.args.wants.now view) (sym c.in-ChildAdded.is)

pub returns-in_default : goal.returns-in_default
returns-in_default c = λ view e.
    others_follow c.args.wants.now view c.args.news.now c.in_default.not-ChildAdded c.in_default.not-Item c.in_default.not-Removed c.in_default.not-ChildRemoved
    c.in_default.not-TextIs c.in_default.not-CaretIs c.in_default.not-ColumnsIs
