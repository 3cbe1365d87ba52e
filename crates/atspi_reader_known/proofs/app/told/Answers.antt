use Rattle.std.proofs.Common.{ap, ◌∙◌}
use Rattle.atspi_reader_known.specs.Kept.{kept}
use Rattle.atspi_reader_known.proofs.Cached.{kept_loaded, told_as}
use Rattle.atspi_reader_known.proofs.Same.{name_chars}
use Rattle.atspi_reader_known.proofs.app.told.Goals as goal

pub returns : goal.returns
returns c =
    told_as _ _ c.args.root.now c.args.name.now c.args.items (ap kept c.in_ok-load.ensures.ok ∙ kept_loaded _ c.args.root.now c.args.items c.new-cache.result) (name_chars c.args.name.now c.as_str-spelled.ensures.rule)
