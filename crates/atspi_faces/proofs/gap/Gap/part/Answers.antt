use Rattle.std.proofs.Common.{◌≡◌, ◌-◌, ◌++◌, take, drop, chars, ap, ◌∙◌}
use Rattle.atspi_base.proofs.PlaceLemmas.{not_zero, not_utf8, reads_so}
use Rattle.atspi_faces.proofs.GapLemmas.{window, pieces_read}
use Rattle.atspi_faces.proofs.gap.Gap.part.Goals as goal

pub returns-in-Ok : goal.returns-in-Ok
returns-in-Ok c =
    let b = c.self.inside.buffer in
    let same = window (chars b.0) (chars b.1) c.self.inside.front.end.chars c.args.from c.args.to c.min-at.result c.min.result c.saturating_sub-at.result c.saturating_sub.result c.self.invariant.gapped.front.counted c.requires.ordered c.min-at.ensures c.min.ensures c.saturating_sub-at.ensures c.saturating_sub.ensures in
    let front = c.piece-front.ensures.chars ∙ ap (λ l. take (c.min.result - c.min-at.result) (drop c.min-at.result (chars l))) c.front-front.ensures in
    let back = c.piece-back.ensures.chars ∙ ap (λ l. take (c.saturating_sub.result - c.saturating_sub-at.result) (drop c.saturating_sub-at.result (chars l))) c.back-back.ensures in
    let all : c.deref.result.now ≡ c.piece-front.result.now ++ c.piece-back.result.now = c.deref.ensures.value ∙ c.in_ok-extend_from_slice-2.ensures.items ∙ ap (λ l. l ++ c.piece-back.result.now) (c.in_ok-extend_from_slice.ensures.items ∙ ap (λ l. l ++ c.piece-front.result.now) c.in_ok-bytes.ensures.items) in
    let reads = pieces_read c.piece-front.result.now c.piece-back.result.now c.deref.result.now _ c.piece-front.ensures.utf8 c.piece-front.ensures.no_zero c.piece-back.ensures.utf8 c.piece-back.ensures.no_zero all (ap (λ l. l ++ chars c.piece-back.result.now) front ∙ ap (λ l. take (c.min.result - c.min-at.result) (drop c.min-at.result (chars b.0)) ++ l) back ∙ same) in
    reads_so c.read.result c.in-Ok.text _ _ c.read.ensures.text reads c.in-Ok.is
    ∙ ap (λ l. take (c.args.to - c.args.from) (drop c.args.from l)) c.self.view_is

pub unreachable-requires : goal.unreachable-requires
unreachable-requires c =
    let b = c.self.inside.buffer in
    let same = window (chars b.0) (chars b.1) c.self.inside.front.end.chars c.args.from c.args.to c.min-at.result c.min.result c.saturating_sub-at.result c.saturating_sub.result c.self.invariant.gapped.front.counted c.requires.ordered c.min-at.ensures c.min.ensures c.saturating_sub-at.ensures c.saturating_sub.ensures in
    let front = c.piece-front.ensures.chars ∙ ap (λ l. take (c.min.result - c.min-at.result) (drop c.min-at.result (chars l))) c.front-front.ensures in
    let back = c.piece-back.ensures.chars ∙ ap (λ l. take (c.saturating_sub.result - c.saturating_sub-at.result) (drop c.saturating_sub-at.result (chars l))) c.back-back.ensures in
    let all : c.deref.result.now ≡ c.piece-front.result.now ++ c.piece-back.result.now = c.deref.ensures.value ∙ c.in_ok-extend_from_slice-2.ensures.items ∙ ap (λ l. l ++ c.piece-back.result.now) (c.in_ok-extend_from_slice.ensures.items ∙ ap (λ l. l ++ c.piece-front.result.now) c.in_ok-bytes.ensures.items) in
    let reads = pieces_read c.piece-front.result.now c.piece-back.result.now c.deref.result.now _ c.piece-front.ensures.utf8 c.piece-front.ensures.no_zero c.piece-back.ensures.utf8 c.piece-back.ensures.no_zero all (ap (λ l. l ++ chars c.piece-back.result.now) front ∙ ap (λ l. take (c.min.result - c.min-at.result) (drop c.min-at.result (chars b.0)) ++ l) back ∙ same) in
    not_zero c.read.result c.in-Err-Zero.field-0 c.in-Err-Zero.field-0-0 _ _ c.read.ensures.text reads c.in-Err-Zero.is c.in-Err-Zero.field-0-is

pub unreachable-requires-in-Err-Utf8 : goal.unreachable-requires-in-Err-Utf8
unreachable-requires-in-Err-Utf8 c =
    let b = c.self.inside.buffer in
    let same = window (chars b.0) (chars b.1) c.self.inside.front.end.chars c.args.from c.args.to c.min-at.result c.min.result c.saturating_sub-at.result c.saturating_sub.result c.self.invariant.gapped.front.counted c.requires.ordered c.min-at.ensures c.min.ensures c.saturating_sub-at.ensures c.saturating_sub.ensures in
    let front = c.piece-front.ensures.chars ∙ ap (λ l. take (c.min.result - c.min-at.result) (drop c.min-at.result (chars l))) c.front-front.ensures in
    let back = c.piece-back.ensures.chars ∙ ap (λ l. take (c.saturating_sub.result - c.saturating_sub-at.result) (drop c.saturating_sub-at.result (chars l))) c.back-back.ensures in
    let all : c.deref.result.now ≡ c.piece-front.result.now ++ c.piece-back.result.now = c.deref.ensures.value ∙ c.in_ok-extend_from_slice-2.ensures.items ∙ ap (λ l. l ++ c.piece-back.result.now) (c.in_ok-extend_from_slice.ensures.items ∙ ap (λ l. l ++ c.piece-front.result.now) c.in_ok-bytes.ensures.items) in
    let reads = pieces_read c.piece-front.result.now c.piece-back.result.now c.deref.result.now _ c.piece-front.ensures.utf8 c.piece-front.ensures.no_zero c.piece-back.ensures.utf8 c.piece-back.ensures.no_zero all (ap (λ l. l ++ chars c.piece-back.result.now) front ∙ ap (λ l. take (c.min.result - c.min-at.result) (drop c.min-at.result (chars b.0)) ++ l) back ∙ same) in
    not_utf8 c.read.result c.in-Err-Utf8.field-0 c.in-Err-Utf8.field-0-0 _ _ c.read.ensures.text reads c.in-Err-Utf8.is c.in-Err-Utf8.field-0-is
