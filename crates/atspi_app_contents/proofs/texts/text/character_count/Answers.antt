use Rattle.std.proofs.Common.{ap, ◌∙◌, arith}
use Rattle.atspi_protocol.specs.objects.Values.{count_data}
use Rattle.atspi_app_contents.proofs.OfTexts.TextLemmas.{count_is}
use Rattle.atspi_app_contents.proofs.texts.text.character_count.Goals as goal

pub count-requires-2 : goal.count-requires-2
count-requires-2 g c =
    let e = c.count.ensures ∙ count_is (g.C.Face.of_kind c.args.texts.now) c.requires.kind (g.C.Face.nodes c.args.texts.now) c.kind.ensures.contents c.args.node in
    let l = c.requires.lawful.short in
    omega (arith, e, l)

pub returns : goal.returns
returns g c =
    c.count-2.ensures
    ∙ ap count_data (c.count.ensures ∙ count_is (g.C.Face.of_kind c.args.texts.now) c.requires.kind (g.C.Face.nodes c.args.texts.now) c.kind.ensures.contents c.args.node)
