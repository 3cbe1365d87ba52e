use Rattle.std.proofs.Common.{◌≡◌, ℕ, ◌-◌, ◌∷◌, [], List, length, take, drop, Some, None, pos, sym, ap, ap₂, ◌∙◌, w32, arith}
use Rattle.std.proofs.lemmas.Int.{to_z-of_z}
use Rattle.std.proofs.lemmas.Result.{IfOk-weaker}
use Rattle.atspi_types.specs.Data.{text_data}
use Rattle.atspi_units.proofs.CutLemmas.{unit_ends}
use Rattle.atspi_protocol.specs.objects.Texts.{piece_there, piece_data}
use Rattle.atspi_protocol.specs.objects.Values.{count_data}
use Rattle.atspi_app_contents.specs.texts.Texts.{text_at}
use Rattle.atspi_app_contents.specs.texts.inner.Places.{place_in}
use Rattle.atspi_app_contents.proofs.OfTexts.TextLemmas.{count_is, has_part, part_is}
use Rattle.atspi_app_contents.proofs.OfTexts.PieceLemmas.{told_piece, told_none, place_is}
use Rattle.atspi_app_contents.proofs.texts.pieces.piece.Goals as goal

pub returns-in_default-place_in : goal.returns-in_default-place_in
returns-in_default-place_in g c =
    let texts = g.C.Face.nodes c.args.texts.now in
    let cs : List ℕ = (text_at texts c.args.node).characters in
    let count : c.count-count.result ≡ length cs =
    c.count-count.ensures ∙ count_is (g.C.Face.of_kind c.args.texts.now) c.requires.kind texts c.kind.ensures.contents c.args.node in
    let none : place_in c.args.place (length cs) ≡ None =
    sym (c.place_in.ensures ∙ ap (λ z. place_in z c.count-count.result) (to_z-of_z w32 c.args.place c.ranges.place)
    ∙ ap (place_in c.args.place) count) ∙ c.in_default-place_in.is in
    IfOk-weaker c.none-in_default-place_in.result _ _
    (λ vs h. h ∙ ap piece_data (sym (told_none c.args.unit cs c.args.place none)))
    c.none-in_default-place_in.ensures

pub piece_ends-requires-clause-count : goal.piece_ends-requires-clause-count
piece_ends-requires-clause-count g c =
    c.count-count.ensures
    ∙ count_is (g.C.Face.of_kind c.args.texts.now) c.requires.kind (g.C.Face.nodes c.args.texts.now) c.kind.ensures.contents c.args.node

pub part-requires : goal.part-requires
part-requires g c =
    let kind = g.C.Face.of_kind c.args.texts.now in
    let texts = g.C.Face.nodes c.args.texts.now in
    let u = c.in_ok-start.ensures in
    has_part kind c.requires.kind texts c.kind.ensures.contents c.args.node c.in_ok-start.start c.in_ok-start.end
    (omega (arith, u.from, u.upto))
    (omega (arith, unit_ends _ _ _ _ _ u, count_is kind c.requires.kind texts c.kind.ensures.contents c.args.node))

pub three-requires-clause-end : goal.three-requires-clause-end
three-requires-clause-end g c = omega (arith, unit_ends _ _ _ _ _ c.in_ok-start.ensures, c.requires.lawful.short)

pub returns : goal.returns
returns g c =
    let kind = g.C.Face.of_kind c.args.texts.now in
    let texts = g.C.Face.nodes c.args.texts.now in
    let cs : List ℕ = (text_at texts c.args.node).characters in
    let start : ℕ = c.in_ok-start.start in
    let end : ℕ = c.in_ok-start.end in
    let place : c.args.place ≡ pos c.in-Some-place_in.at =
    place_is c.args.place c.count-count.result c.in-Some-place_in.at
    (ap (λ z. place_in z c.count-count.result) (sym (to_z-of_z w32 c.args.place c.ranges.place))
    ∙ sym c.place_in.ensures ∙ c.in-Some-place_in.is) in
    let there : piece_there c.args.unit cs c.args.place ≡ piece_there (Some c.in-Some.unit) cs (pos c.in-Some-place_in.at) =
    ap₂ (λ u p. piece_there u cs p) c.in-Some.is place in
    let text : c.in_ok-text.text ≡ take (end - start) (drop start cs) =
    c.in_ok-text.ensures ∙ part_is kind c.requires.kind texts c.kind.ensures.contents c.args.node start end in
    IfOk-weaker c.three.result _ _
    (λ vs h. h ∙ ap (λ x. text_data x ∷ count_data start ∷ count_data end ∷ []) text
    ∙ sym (ap piece_data there ∙ told_piece c.in-Some.unit cs c.in-Some-place_in.at start end c.in_ok-start.ensures))
    c.three.ensures
