use Rattle.std.proofs.Common.{ℕ, sym, ap, ◌∙◌, subst}
use Rattle.atspi_faces.specs.face.Nodes.{HasPart, part_at}
use Rattle.atspi_app_contents.proofs.OfTexts.TextLemmas.{has_whole, contents_are}
use Rattle.atspi_app_contents.proofs.texts.known.known_text.Goals as goal

pub part-requires : goal.part-requires
part-requires g c =
    subst (λ (k : ℕ). HasPart (g.C.Face.nodes c.args.texts.now) c.args.node 0 k) (sym c.count.ensures)
    (has_whole (g.C.Face.of_kind c.args.texts.now) c.requires.kind (g.C.Face.nodes c.args.texts.now) c.kind.ensures.contents c.args.node c.if-not-is_here.ensures.here)

pub returns : goal.returns
returns g c =
    contents_are (g.C.Face.of_kind c.args.texts.now) c.requires.kind (g.C.Face.nodes c.args.texts.now) c.kind.ensures.contents c.args.node c.if-not-is_here.ensures.here
    c.in_ok-text.text c.caret-caret.result c.in_ok-marks.marks
    (c.in_ok-text.ensures ∙ ap (λ (k : ℕ). part_at (g.C.Face.nodes c.args.texts.now) c.args.node 0 k) c.count.ensures) c.caret-caret.ensures c.in_ok-marks.ensures
