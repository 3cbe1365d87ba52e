use Rattle.std.proofs.Common.{◌∙◌, arith}
use Rattle.atspi_units.proofs.CutLemmas.{unit_ends}
use Rattle.atspi_app_contents.proofs.OfTexts.PieceLemmas.{near}
use Rattle.atspi_app_contents.proofs.texts.pieces.piece_near.Goals as goal

pub overflow_add-result : goal.overflow_add-result
overflow_add-result g c =
    let held = near (g.C.Face.of_kind c.args.texts.now) c.requires.kept.kind (g.C.Face.nodes c.args.texts.now) c.kind.ensures.contents
    c.args.node c.args.unit _ c.saturating_sub-from.result c.min-to.result c.args.count c.args.at c.in-Some.start c.in-Some.end
    (c.as_str.ensures.chars ∙ c.in_ok-window.ensures) c.requires.count (omega arith) (omega arith) (omega arith) c.in-Some.ensures.unit in
    let from = held.from in
    omega (arith, from)

pub overflow_add-result-in-Some : goal.overflow_add-result-in-Some
overflow_add-result-in-Some g c =
    let held = near (g.C.Face.of_kind c.args.texts.now) c.requires.kept.kind (g.C.Face.nodes c.args.texts.now) c.kind.ensures.contents
    c.args.node c.args.unit _ c.saturating_sub-from.result c.min-to.result c.args.count c.args.at c.in-Some.start c.in-Some.end
    (c.as_str.ensures.chars ∙ c.in_ok-window.ensures) c.requires.count (omega arith) (omega arith) (omega arith) c.in-Some.ensures.unit in
    omega (arith, unit_ends _ _ _ _ _ held, c.requires.kept.lawful.short)

pub returns-in-Some-clause-held : goal.returns-in-Some-clause-held
returns-in-Some-clause-held g c =
    near (g.C.Face.of_kind c.args.texts.now) c.requires.kept.kind (g.C.Face.nodes c.args.texts.now) c.kind.ensures.contents
    c.args.node c.args.unit _ c.saturating_sub-from.result c.min-to.result c.args.count c.args.at c.in-Some.start c.in-Some.end
    (c.as_str.ensures.chars ∙ c.in_ok-window.ensures) c.requires.count (omega arith) (omega arith) (omega arith) c.in-Some.ensures.unit
