use Rattle.std.proofs.Common.{length, ap, ◌∙◌, arith}
use Rattle.std.proofs.lemmas.List.{length-drop}
use Rattle.atspi_faces.specs.declared.side.Place.{Place}
use Rattle.atspi_faces.specs.Gap.{text_of}
use Rattle.atspi_base.proofs.PlaceLemmas.{cut_same}
use Rattle.atspi_faces.proofs.KeptLemmas.{kept_cut}
use Rattle.atspi_faces.proofs.gap.Gap.delete.Goals as goal

pub invariant_of-self : goal.invariant_of-self
invariant_of-self c =
    let go = c.go_to.new in
    let text = text_of c.self.inside.buffer in
    let place : Place = record { chars = c.args.len; bytes = c.byte_behind-bytes.result } in
    let cut = cut_same go.buffer.1 _ c.args.len c.byte_behind-bytes.result (c.as_text.ensures ∙ c.back.ensures) c.byte_behind-bytes.ensures in
    kept_cut go.buffer c.cut.new.self go.front go.back c.shorten.new.self place c.without-left.result c.go_to.ensures.kept
    (omega (arith, c.requires, ap length c.self.view_is, c.go_to.ensures.kept.gapped.back.counted, ap length c.go_to.ensures.back, length-drop c.args.at text))
    cut c.cut.ensures.front c.cut.ensures.back c.without-left.ensures.chars c.without-left.ensures.bytes c.shorten.ensures.side c.shorten.ensures.end
