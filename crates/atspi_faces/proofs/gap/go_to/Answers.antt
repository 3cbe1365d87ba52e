use Rattle.std.proofs.Common.{◌+◌, ◌-◌, length, ap, refl, ◌∙◌, arith}
use Rattle.atspi_faces.specs.declared.side.Place.{Place}
use Rattle.atspi_faces.specs.Gap.{text_of}
use Rattle.atspi_base.proofs.PlaceLemmas.{cut_same}
use Rattle.atspi_faces.proofs.GapLemmas.{moved_left, moved_right}
use Rattle.atspi_faces.proofs.KeptLemmas.{kept_fits, kept_sides, kept_moved, place_in_front, place_in_back}
use Rattle.atspi_faces.proofs.gap.go_to.Goals as goal

pub move_gap-requires-clause-chars_fit : goal.move_gap-requires-clause-chars_fit
move_gap-requires-clause-chars_fit c = (kept_fits _ _ _ c.requires.kept).0

pub move_gap-requires-clause-bytes_fit : goal.move_gap-requires-clause-bytes_fit
move_gap-requires-clause-bytes_fit c = (kept_fits _ _ _ c.requires.kept).1

pub overflow_add-bytes : goal.overflow_add-bytes
overflow_add-bytes c = omega (arith, (kept_fits _ _ _ c.requires.kept).1, c.byte_behind-len.ensures.within, ap length (c.as_text-else-at-gap.ensures ∙ c.back.ensures), c.requires.kept.gapped.fits)

pub move_gap-requires-else-at-gap-clause-chars_fit : goal.move_gap-requires-else-at-gap-clause-chars_fit
move_gap-requires-else-at-gap-clause-chars_fit c = (kept_fits _ _ _ c.requires.kept).0

pub move_gap-requires-else-at-gap-clause-bytes_fit : goal.move_gap-requires-else-at-gap-clause-bytes_fit
move_gap-requires-else-at-gap-clause-bytes_fit c = (kept_fits _ _ _ c.requires.kept).1

pub returns-then-at-gap-clause-kept : goal.returns-then-at-gap-clause-kept
returns-then-at-gap-clause-kept c =
    let old = c.args.buffer.now in
    let f = c.args.front.now in
    let b = c.args.back.now in
    let kept = c.requires.kept in
    let cut = cut_same old.0 _ c.args.at c.byte_of-bytes.result (c.as_text.ensures ∙ c.front.ensures) c.byte_of-bytes.ensures in
    let moved = moved_left old c.move_left.new.self f.end.chars b.end.chars c.args.at c.byte_of-bytes.result kept.gapped c.if-at-gap.true cut c.move_left.ensures.front c.move_left.ensures.back in
    let place : Place = record { chars = c.args.at; bytes = c.byte_of-bytes.result } in
    kept_moved old c.move_left.new.self f b c.move_gap.new.front c.move_gap.new.back c.args.at moved (c.move_gap.ensures.sides (text_of old) (kept_sides old f b kept) (place_in_front old f b place kept c.if-at-gap.true cut)) c.move_gap.ensures.at c.move_gap.ensures.behind

pub returns-then-at-gap-clause-back : goal.returns-then-at-gap-clause-back
returns-then-at-gap-clause-back c =
    let old = c.args.buffer.now in
    let f = c.args.front.now in
    let b = c.args.back.now in
    let kept = c.requires.kept in
    let cut = cut_same old.0 _ c.args.at c.byte_of-bytes.result (c.as_text.ensures ∙ c.front.ensures) c.byte_of-bytes.ensures in
    let moved = moved_left old c.move_left.new.self f.end.chars b.end.chars c.args.at c.byte_of-bytes.result kept.gapped c.if-at-gap.true cut c.move_left.ensures.front c.move_left.ensures.back in
    moved.back

pub returns-else-at-gap-clause-kept : goal.returns-else-at-gap-clause-kept
returns-else-at-gap-clause-kept c =
    let old = c.args.buffer.now in
    let f = c.args.front.now in
    let b = c.args.back.now in
    let kept = c.requires.kept in
    let len = c.byte_behind-len.result in
    let k = c.args.at - f.end.chars in
    let cut = cut_same old.1 _ k len (c.as_text-else-at-gap.ensures ∙ c.back.ensures) c.byte_behind-len.ensures in
    let moved = moved_right old c.move_right.new.self f.end.chars b.end.chars c.args.at len kept.gapped (omega arith) c.requires.within cut c.move_right.ensures.front c.move_right.ensures.back in
    let inner : Place = record { chars = k; bytes = len } in
    let place : Place = record { chars = c.args.at; bytes = f.end.bytes + len } in
    let it = place_in_back old f b inner place kept (omega (arith, c.requires.within, c.if-at-gap.false)) cut (omega (arith, c.if-at-gap.false)) refl in
    kept_moved old c.move_right.new.self f b c.move_gap-else-at-gap.new.front c.move_gap-else-at-gap.new.back c.args.at moved (c.move_gap-else-at-gap.ensures.sides (text_of old) (kept_sides old f b kept) it) c.move_gap-else-at-gap.ensures.at c.move_gap-else-at-gap.ensures.behind

pub returns-else-at-gap-clause-front : goal.returns-else-at-gap-clause-front
returns-else-at-gap-clause-front c =
    let old = c.args.buffer.now in
    let f = c.args.front.now in
    let b = c.args.back.now in
    let kept = c.requires.kept in
    let len = c.byte_behind-len.result in
    let k = c.args.at - f.end.chars in
    let cut = cut_same old.1 _ k len (c.as_text-else-at-gap.ensures ∙ c.back.ensures) c.byte_behind-len.ensures in
    let moved = moved_right old c.move_right.new.self f.end.chars b.end.chars c.args.at len kept.gapped (omega arith) c.requires.within cut c.move_right.ensures.front c.move_right.ensures.back in
    moved.front

pub returns-else-at-gap-clause-back : goal.returns-else-at-gap-clause-back
returns-else-at-gap-clause-back c =
    let old = c.args.buffer.now in
    let f = c.args.front.now in
    let b = c.args.back.now in
    let kept = c.requires.kept in
    let len = c.byte_behind-len.result in
    let k = c.args.at - f.end.chars in
    let cut = cut_same old.1 _ k len (c.as_text-else-at-gap.ensures ∙ c.back.ensures) c.byte_behind-len.ensures in
    let moved = moved_right old c.move_right.new.self f.end.chars b.end.chars c.args.at len kept.gapped (omega arith) c.requires.within cut c.move_right.ensures.front c.move_right.ensures.back in
    moved.back
