use Rattle.std.proofs.Common.{◌≡◌, ℕ, ◌+◌, ◌++◌, List, [], length, take, drop, chars, string_bytes, IfOk, refl, sym, ap, subst, ◌∙◌, arith}
use Rattle.std.specs.List.{replace_range}
use Rattle.atspi_base.specs.Text.{HasNoZero}
use Rattle.atspi_base.specs.Places.{IsCounted}
use Rattle.atspi_base.proofs.PlaceLemmas.{boundary, cut_twice, removed, removed_counted, done_unless}
use Rattle.atspi_cache.proofs.edits.with_delete.Goals as goal

pub range_from-requires : goal.range_from-requires
range_from-requires c = λ _. boundary _ _ _ _ c.as_str-before.utf8 refl c.byte_of-start.ensures

pub replace_range-requires-clause-start_boundary : goal.replace_range-requires-clause-start_boundary
replace_range-requires-clause-start_boundary c =
    let at = boundary _ (string_bytes c.in_ok-string.string) _ _ c.as_str-before.utf8 c.in_ok-string.ensures.ok c.byte_of-start.ensures in
    (at.0, λ _. at.1)

pub replace_range-requires-clause-end_boundary : goal.replace_range-requires-clause-end_boundary
replace_range-requires-clause-end_boundary c =
    let two = cut_twice c.as_str-before.result.now _ _ _ _ _ c.byte_of-start.ensures c.range_from.ensures.value c.byte_of-bytes.ensures in
    let at = boundary _ (string_bytes c.in_ok-string.string) _ _ c.as_str-before.utf8 c.in_ok-string.ensures.ok two in
    (at.0, λ _. at.1)

pub of-requires-clause-no_zero : goal.of-requires-clause-no_zero
of-requires-clause-no_zero c =
    let bs = c.as_str-before.result.now in
    let was : IsCounted bs (length (chars bs)) = record { text = record { no_zero = c.as_str-before.ensures.no_zero; counted = c.as_str-before.ensures.counted }; counted = refl } in
    let two = cut_twice bs _ _ _ _ _ c.byte_of-start.ensures c.range_from.ensures.value c.byte_of-bytes.ensures in
    let new : string_bytes c.replace_range.new.self ≡ replace_range bs c.byte_of-start.result (c.byte_of-start.result + c.byte_of-bytes.result) [] =
    done_unless c.replace_range.result c.is_err.result c.replace_range.ensures.bytes c.is_err.ensures.value c.if-is_err.false
    ∙ ap (λ (l : List ℕ). replace_range l c.byte_of-start.result (c.byte_of-start.result + c.byte_of-bytes.result) []) c.in_ok-string.ensures.ok in
    let is = removed_counted bs _ (length (chars bs)) c.args.at c.args.len _ _ was (omega (arith, c.requires, ap length c.as_str-before.ensures.chars)) c.byte_of-start.ensures two new in
    subst HasNoZero (sym c.deref.ensures) is.text.no_zero

pub returns : goal.returns
returns c =
    let bs = c.as_str-before.result.now in
    let two = cut_twice bs _ _ _ _ _ c.byte_of-start.ensures c.range_from.ensures.value c.byte_of-bytes.ensures in
    let new : string_bytes c.replace_range.new.self ≡ replace_range bs c.byte_of-start.result (c.byte_of-start.result + c.byte_of-bytes.result) [] =
    done_unless c.replace_range.result c.is_err.result c.replace_range.ensures.bytes c.is_err.ensures.value c.if-is_err.false
    ∙ ap (λ (l : List ℕ). replace_range l c.byte_of-start.result (c.byte_of-start.result + c.byte_of-bytes.result) []) c.in_ok-string.ensures.ok in
    subst (λ (l : List ℕ). IfOk c.of.result (λ text. text ≡ l))
    (ap chars c.deref.ensures
    ∙ (removed bs _ _ _ _ _ c.byte_of-start.ensures two new
    ∙ ap (λ (l : List ℕ). take c.args.at l ++ drop (c.args.at + c.args.len) l) c.as_str-before.ensures.chars))
    c.of.ensures
