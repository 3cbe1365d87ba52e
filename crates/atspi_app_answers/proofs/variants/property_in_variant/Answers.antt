use Rattle.std.proofs.lemmas.Result.{IfOk-weaker}
use Rattle.atspi_types.specs.DataView.{data_of}
use Rattle.atspi_types.specs.KindView.{kind_of}
use Rattle.atspi_protocol.specs.whole.Whole.{filled}
use Rattle.atspi_app_answers.specs.Seen.{seen}
use Rattle.atspi_app_answers.proofs.Listing.{put_in_variant}
use Rattle.atspi_app_answers.proofs.variants.property_in_variant.Goals as goal

pub returns : goal.returns
returns c =
    IfOk-weaker c.in_variant.result _ _
    (λ v h faces s is k.
    put_in_variant (kind_of c.in_ok-ty.ty) (data_of c.in_ok-value.value) (data_of v)
    (c.in_ok-ty.ensures (seen c.args.tree.now faces c.args.bus.now c.args.id.now) (filled faces s)) (c.in_ok-value.ensures faces s is k) h)
    c.in_variant.ensures
