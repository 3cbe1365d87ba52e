use Rattle.std.proofs.Common.{ap, ◌∙◌}
use Rattle.atspi_types.specs.Borrowed.{ref_data}
use Rattle.atspi_types.specs.Data.{variant_data}
use Rattle.atspi_types.specs.DataView.{data_of}
use Rattle.atspi_types.specs.KindView.{kind_of}
use Rattle.atspi_types.proofs.DataLemmas.{data_of-Text}
use Rattle.atspi_browse.proofs.changes.text_within.Goals as goal

pub returns-in-Text : goal.returns-in-Text
returns-in-Text c =
    let kind = kind_of c.in-Variant.field-0.now in
    (kind, ap ref_data c.in-Variant.is ∙ ap (λ v. variant_data kind (data_of v)) c.in-Text.is ∙ ap (variant_data kind) (data_of-Text c.in-Text.text))
