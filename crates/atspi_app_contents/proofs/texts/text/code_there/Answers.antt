use Rattle.std.proofs.Common.{◌∙◌, arith}
use Rattle.atspi_app_contents.proofs.OfTexts.TextLemmas.{may_read, code_there}
use Rattle.atspi_app_contents.proofs.texts.text.code_there.Goals as goal

pub part-requires : goal.part-requires
part-requires g c =
    let l = c.if-count-from.false in
    let e = c.count.ensures in
    may_read (g.C.Face.of_kind c.args.texts.now) c.requires.kind (g.C.Face.nodes c.args.texts.now) c.kind.ensures.contents c.args.node c.args.from (omega (arith, l, e))

pub returns-clause-code : goal.returns-clause-code
returns-clause-code g c =
    c.first_code.ensures.code
    ∙ code_there (g.C.Face.of_kind c.args.texts.now) c.requires.kind (g.C.Face.nodes c.args.texts.now) c.kind.ensures.contents c.args.node c.args.from c.in_ok-text.text c.in_ok-text.ensures
