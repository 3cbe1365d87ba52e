use Rattle.std.proofs.Common.{ap, ◌∙◌, arith, w32}
use Rattle.std.proofs.lemmas.Int.{to_z-of_z}
use Rattle.std.proofs.lemmas.Result.{IfOk-weaker}
use Rattle.atspi_app_contents.specs.texts.inner.Parts.{start_at, end_at}
use Rattle.atspi_app_contents.proofs.OfTexts.TextLemmas.{may_part, told_part}
use Rattle.atspi_app_contents.proofs.texts.text.part_of.Goals as goal

pub part-requires : goal.part-requires
part-requires g c =
    let l = c.if-to-from.false in
    may_part (g.C.Face.of_kind c.args.texts.now) c.requires.kind (g.C.Face.nodes c.args.texts.now) c.kind.ensures.contents c.args.node c.args.start c.args.end c.start_at-from.result c.end_at-to.result
    (c.start_at-from.ensures ∙ ap start_at (to_z-of_z w32 c.args.start c.ranges.start))
    (c.end_at-to.ensures ∙ ap (λ z. end_at z c.count.result) (to_z-of_z w32 c.args.end c.ranges.end) ∙ ap (end_at c.args.end) c.count.ensures)
    (omega (arith, l))

pub returns : goal.returns
returns g c =
    IfOk-weaker c.part.result _ _
    (λ x h. told_part (g.C.Face.of_kind c.args.texts.now) c.requires.kind (g.C.Face.nodes c.args.texts.now) c.kind.ensures.contents c.args.node c.args.start c.args.end c.start_at-from.result c.end_at-to.result
    (c.start_at-from.ensures ∙ ap start_at (to_z-of_z w32 c.args.start c.ranges.start))
    (c.end_at-to.ensures ∙ ap (λ z. end_at z c.count.result) (to_z-of_z w32 c.args.end c.ranges.end) ∙ ap (end_at c.args.end) c.count.ensures)
    x h)
    c.part.ensures
