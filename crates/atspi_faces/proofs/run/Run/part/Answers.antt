use Rattle.std.proofs.Common.{◌+◌, ◌-◌, take, drop, string_bytes, sym, ap, ◌∙◌}
use Rattle.atspi_base.specs.ReadsText.{text_in}
use Rattle.atspi_base.proofs.PlaceLemmas.{boundary, cut_same, part_reads, not_zero, not_utf8, reads_so}
use Rattle.atspi_faces.proofs.run.Run.part.Goals as goal

pub range_from-rest-requires : goal.range_from-rest-requires
range_from-rest-requires c = λ _. boundary _ _ _ _ c.deref.utf8 (c.deref-2.ensures ∙ sym c.deref.ensures) c.byte_in-start.ensures

pub unreachable-requires : goal.unreachable-requires
unreachable-requires c =
    let bs = string_bytes c.self.inside.string in
    let reads = part_reads bs c.range_from-rest.result.now (c.self.inside.front.end.chars + c.self.inside.back.end.chars) c.args.from (c.args.to - c.args.from) c.byte_in-start.result c.byte_of-len.result c.self.invariant.counted (cut_same bs _ _ _ c.deref.ensures c.byte_in-start.ensures) (c.range_from-rest.ensures.value ∙ ap (drop c.byte_in-start.result) c.deref-2.ensures) c.byte_of-len.ensures in
    not_zero c.read.result c.in-Err-Zero.field-0 c.in-Err-Zero.field-0-0 _ _ c.read.ensures.text (ap (λ l. text_in (take c.byte_of-len.result l)) c.as_bytes.ensures.value ∙ reads) c.in-Err-Zero.is c.in-Err-Zero.field-0-is

pub unreachable-requires-in-Err-Utf8 : goal.unreachable-requires-in-Err-Utf8
unreachable-requires-in-Err-Utf8 c =
    let bs = string_bytes c.self.inside.string in
    let reads = part_reads bs c.range_from-rest.result.now (c.self.inside.front.end.chars + c.self.inside.back.end.chars) c.args.from (c.args.to - c.args.from) c.byte_in-start.result c.byte_of-len.result c.self.invariant.counted (cut_same bs _ _ _ c.deref.ensures c.byte_in-start.ensures) (c.range_from-rest.ensures.value ∙ ap (drop c.byte_in-start.result) c.deref-2.ensures) c.byte_of-len.ensures in
    not_utf8 c.read.result c.in-Err-Utf8.field-0 c.in-Err-Utf8.field-0-0 _ _ c.read.ensures.text (ap (λ l. text_in (take c.byte_of-len.result l)) c.as_bytes.ensures.value ∙ reads) c.in-Err-Utf8.is c.in-Err-Utf8.field-0-is

pub returns-in-Ok : goal.returns-in-Ok
returns-in-Ok c =
    let bs = string_bytes c.self.inside.string in
    let reads = part_reads bs c.range_from-rest.result.now (c.self.inside.front.end.chars + c.self.inside.back.end.chars) c.args.from (c.args.to - c.args.from) c.byte_in-start.result c.byte_of-len.result c.self.invariant.counted (cut_same bs _ _ _ c.deref.ensures c.byte_in-start.ensures) (c.range_from-rest.ensures.value ∙ ap (drop c.byte_in-start.result) c.deref-2.ensures) c.byte_of-len.ensures in
    reads_so c.read.result c.in-Ok.text _ _ c.read.ensures.text (ap (λ l. text_in (take c.byte_of-len.result l)) c.as_bytes.ensures.value ∙ reads) c.in-Ok.is
    ∙ ap (λ l. take (c.args.to - c.args.from) (drop c.args.from l)) c.self.view_is
