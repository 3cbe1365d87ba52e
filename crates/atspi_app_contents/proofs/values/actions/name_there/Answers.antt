use Rattle.std.proofs.Common.{◌∙◌, arith}
use Rattle.std.proofs.lemmas.Result.{IfOk-weaker}
use Rattle.atspi_app_contents.proofs.OfValues.Contents.{has_name, name_is}
use Rattle.atspi_app_contents.proofs.values.actions.name_there.Goals as goal

pub part-requires : goal.part-requires
part-requires g c =
    let l = c.if-count-from.false in
    let e = c.count.ensures in
    has_name (g.D.Face.of_kind c.args.actions.now) c.requires (g.D.Face.nodes c.args.actions.now) c.kind.ensures.contents c.args.node c.args.from c.args.from (omega (arith, l, e))

pub returns : goal.returns
returns g c = IfOk-weaker c.part.result _ _ (λ x h. h ∙ name_is (g.D.Face.of_kind c.args.actions.now) c.requires (g.D.Face.nodes c.args.actions.now) c.kind.ensures.contents c.args.node c.args.from c.args.from) c.part.ensures
