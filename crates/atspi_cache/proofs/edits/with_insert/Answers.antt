use Rattle.std.proofs.Common.{◌≡◌, ℕ, ◌++◌, List, length, take, drop, chars, string_bytes, IfOk, refl, sym, ap, subst, ◌∙◌, arith}
use Rattle.std.specs.List.{replace_range}
use Rattle.atspi_base.specs.Text.{HasNoZero}
use Rattle.atspi_base.specs.Places.{IsCounted}
use Rattle.atspi_base.proofs.PlaceLemmas.{boundary, inserted, inserted_counted, done_unless}
use Rattle.atspi_cache.proofs.edits.with_insert.Goals as goal

pub insert_str-requires : goal.insert_str-requires
insert_str-requires c =
    let at = boundary _ (string_bytes c.in_ok-string.string) _ _ c.as_str-before.utf8 c.in_ok-string.ensures.ok c.byte_of-place.ensures in
    (at.0, λ _. at.1)

pub of-requires-clause-no_zero : goal.of-requires-clause-no_zero
of-requires-clause-no_zero c =
    let bs = c.as_str-before.result.now in
    let xs = c.as_str-text.result.now in
    let was : IsCounted bs (length (chars bs)) = record { text = record { no_zero = c.as_str-before.ensures.no_zero; counted = c.as_str-before.ensures.counted }; counted = refl } in
    let new : string_bytes c.insert_str.new.self ≡ replace_range bs c.byte_of-place.result c.byte_of-place.result xs =
    done_unless c.insert_str.result c.is_err.result c.insert_str.ensures.bytes c.is_err.ensures.value c.if-is_err.false
    ∙ ap (λ (l : List ℕ). replace_range l c.byte_of-place.result c.byte_of-place.result xs) c.in_ok-string.ensures.ok in
    let is = inserted_counted bs _ xs (length (chars bs)) (length (chars xs)) c.args.at c.byte_of-place.result was c.as_str-text.ensures.no_zero c.as_str-text.utf8 (omega (arith, c.if-before-text.false, c.as_str-before.ensures.counted)) refl
    (omega (arith, c.requires, ap length c.as_str-before.ensures.chars)) c.byte_of-place.ensures new in
    subst HasNoZero (sym c.deref.ensures) is.text.no_zero

pub returns : goal.returns
returns c =
    let bs = c.as_str-before.result.now in
    let xs = c.as_str-text.result.now in
    let new : string_bytes c.insert_str.new.self ≡ replace_range bs c.byte_of-place.result c.byte_of-place.result xs =
    done_unless c.insert_str.result c.is_err.result c.insert_str.ensures.bytes c.is_err.ensures.value c.if-is_err.false
    ∙ ap (λ (l : List ℕ). replace_range l c.byte_of-place.result c.byte_of-place.result xs) c.in_ok-string.ensures.ok in
    subst (λ (l : List ℕ). IfOk c.of.result (λ text. text ≡ l))
    (ap chars c.deref.ensures
    ∙ (inserted bs _ xs _ _ c.byte_of-place.ensures c.as_str-text.utf8 new
    ∙ (ap (λ (l : List ℕ). take c.args.at (chars bs) ++ (l ++ drop c.args.at (chars bs))) c.as_str-text.ensures.chars
    ∙ ap (λ (l : List ℕ). take c.args.at l ++ (c.args.more.now ++ drop c.args.at l)) c.as_str-before.ensures.chars)))
    c.of.ensures
