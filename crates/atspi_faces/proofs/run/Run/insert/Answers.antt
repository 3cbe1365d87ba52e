use Rattle.std.proofs.Common.{◌≡◌, ℕ, ◌<◌, ◌≤◌, ◌+◌, ◌-◌, ◌++◌, List, length, take, drop, reverse, chars, string_bytes, sym, ap, subst, ◌∙◌, arith, length-append}
use Rattle.std.specs.List.{replace_range, slice_range}
use Rattle.std.proofs.lemmas.List.{length-take-le}
use Rattle.std.proofs.lemmas.Str.{IsUtf8-string_bytes}
use Rattle.atspi_base.proofs.TextLemmas.{length-chars-le}
use Rattle.atspi_faces.specs.declared.side.Place.{Place}
use Rattle.atspi_base.specs.Places.{IsCounted, CutAt}
use Rattle.atspi_faces.specs.Sides.{IsSide, AreNoted}
use Rattle.atspi_base.proofs.PlaceLemmas.{boundary, cut_same, inserted, inserted_counted, count_fits, done_unless, undone, len_is}
use Rattle.atspi_faces.proofs.SideLemmas.{place_of_cut, noted_more}
use Rattle.atspi_faces.proofs.KeptLemmas.{run_fits, run_before, inserted_cut, inserted_chars, run_put}
use Rattle.atspi_faces.proofs.run.Run.insert.Goals as goal

range_front : (xs part : List ℕ) (p : ℕ) → part ≡ slice_range xs 0 p → part ≡ take p xs
range_front xs part p e = let same : p - 0 ≡ p = omega arith in e ∙ ap (λ m. take m (drop 0 xs)) same

pub returns-then-len-text-clause-counted : goal.returns-then-len-text-clause-counted
returns-then-len-text-clause-counted c = omega (arith, count_fits _ _ (IsUtf8-string_bytes c.self.inside.string) c.self.invariant.counted, c.self.invariant.counted.counted, ap length c.self.view_is)

pub overflow_add-chars : goal.overflow_add-chars
overflow_add-chars c =
    let bs = string_bytes c.self.inside.string in
    let xs = c.as_str-text.result.now in
    let counts : c.count.result ≡ length (chars xs) = c.count.ensures ∙ ap length (sym c.as_str-text.ensures.chars) in
    let fits : length bs + length xs < 4294967296 = omega (arith, len_is c.self.inside.string, c.self.invariant.counted.text.counted) in
    omega (arith, fits, counts, c.requires, ap length c.self.view_is, length-chars-le bs (IsUtf8-string_bytes c.self.inside.string), length-chars-le xs c.as_str-text.utf8)

pub insert_str-requires : goal.insert_str-requires
insert_str-requires c =
    let at = boundary _ (string_bytes c.self.inside.string) _ _ c.deref.utf8 (sym c.deref.ensures) c.byte_in-start.ensures in
    (at.0, λ _. at.1)

pub returns-then-is_err-clause-counted : goal.returns-then-is_err-clause-counted
returns-then-is_err-clause-counted c =
    let same = undone c.insert_str.result c.is_err.result c.insert_str.ensures.err c.is_err.ensures.value c.if-is_err.true in
    omega (arith, count_fits _ _ (IsUtf8-string_bytes c.self.inside.string) c.self.invariant.counted, c.self.invariant.counted.counted, ap (λ l. length (chars l)) same.0)

pub move_gap-requires-clause-chars_fit : goal.move_gap-requires-clause-chars_fit
move_gap-requires-clause-chars_fit c = (run_fits _ _ _ (IsUtf8-string_bytes c.self.inside.string) c.self.invariant).0

pub move_gap-requires-clause-bytes_fit : goal.move_gap-requires-clause-bytes_fit
move_gap-requires-clause-bytes_fit c = (run_fits _ _ _ (IsUtf8-string_bytes c.self.inside.string) c.self.invariant).1

pub range-requires-clause-end_boundary : goal.range-requires-clause-end_boundary
range-requires-clause-end_boundary c =
    let bs = string_bytes c.self.inside.string in
    let u = IsUtf8-string_bytes c.self.inside.string in
    let xs = c.as_str-text.result.now in
    let told = c.self.inside.front.end.chars + c.self.inside.back.end.chars in
    let more = c.count.result in
    let n = c.args.at in
    let p = c.byte_in-start.result in
    let within : n ≤ length (chars bs) = omega (arith, c.requires, ap length c.self.view_is) in
    let cut : CutAt bs n p = cut_same bs _ _ _ c.deref.ensures c.byte_in-start.ensures in
    let counts : more ≡ length (chars xs) = c.count.ensures ∙ ap length (sym c.as_str-text.ensures.chars) in
    let new : string_bytes c.insert_str.new.self ≡ replace_range bs p p xs = done_unless c.insert_str.result c.is_err.result c.insert_str.ensures.bytes c.is_err.ensures.value c.if-is_err.false in
    boundary _ _ _ _ (IsUtf8-string_bytes c.insert_str.new.self) c.deref-2.ensures (inserted_cut bs _ xs n p cut within c.as_str-text.utf8 new)

pub grow-requires-clause-counted : goal.grow-requires-clause-counted
grow-requires-clause-counted c =
    let bs = string_bytes c.self.inside.string in
    let u = IsUtf8-string_bytes c.self.inside.string in
    let xs = c.as_str-text.result.now in
    let told = c.self.inside.front.end.chars + c.self.inside.back.end.chars in
    let more = c.count.result in
    let n = c.args.at in
    let p = c.byte_in-start.result in
    let within : n ≤ length (chars bs) = omega (arith, c.requires, ap length c.self.view_is) in
    let cut : CutAt bs n p = cut_same bs _ _ _ c.deref.ensures c.byte_in-start.ensures in
    let counts : more ≡ length (chars xs) = c.count.ensures ∙ ap length (sym c.as_str-text.ensures.chars) in
    let new : string_bytes c.insert_str.new.self ≡ replace_range bs p p xs = done_unless c.insert_str.result c.is_err.result c.insert_str.ensures.bytes c.is_err.ensures.value c.if-is_err.false in
    let part : chars c.range.result.now ≡ take n (chars bs) ++ chars xs = inserted_chars bs _ xs c.range.result.now n p cut new (range_front _ _ _ c.range.ensures.value ∙ ap (take (p + length xs)) c.deref-2.ensures) in
    omega (arith, counts, ap length part, length-append (take n (chars bs)) (chars xs), length-take-le n (chars bs) within)

pub grow-requires-clause-noted : goal.grow-requires-clause-noted
grow-requires-clause-noted c =
    let bs = string_bytes c.self.inside.string in
    let u = IsUtf8-string_bytes c.self.inside.string in
    let xs = c.as_str-text.result.now in
    let told = c.self.inside.front.end.chars + c.self.inside.back.end.chars in
    let more = c.count.result in
    let n = c.args.at in
    let p = c.byte_in-start.result in
    let within : n ≤ length (chars bs) = omega (arith, c.requires, ap length c.self.view_is) in
    let cut : CutAt bs n p = cut_same bs _ _ _ c.deref.ensures c.byte_in-start.ensures in
    let counts : more ≡ length (chars xs) = c.count.ensures ∙ ap length (sym c.as_str-text.ensures.chars) in
    let new : string_bytes c.insert_str.new.self ≡ replace_range bs p p xs = done_unless c.insert_str.result c.is_err.result c.insert_str.ensures.bytes c.is_err.ensures.value c.if-is_err.false in
    let gap : Place = record { chars = n; bytes = p } in
    let sides = c.move_gap.ensures.sides (chars bs) c.self.invariant.sides (place_of_cut bs gap u within cut) in
    let part : chars c.range.result.now ≡ take n (chars bs) ++ chars xs = inserted_chars bs _ xs c.range.result.now n p cut new (range_front _ _ _ c.range.ensures.value ∙ ap (take (p + length xs)) c.deref-2.ensures) in
    let near : IsSide (take n (chars bs)) c.move_gap.new.front = run_before bs _ _ n sides c.move_gap.ensures.at in
    subst (λ l. AreNoted l (n + more) (reverse c.move_gap.new.front.places.items)) (sym part) (noted_more (take n (chars bs)) (chars xs) c.move_gap.new.front (n + more) near (omega (arith, c.move_gap.ensures.at)))

pub invariant_of-self-2 : goal.invariant_of-self-2
invariant_of-self-2 c =
    let bs = string_bytes c.self.inside.string in
    let u = IsUtf8-string_bytes c.self.inside.string in
    let xs = c.as_str-text.result.now in
    let told = c.self.inside.front.end.chars + c.self.inside.back.end.chars in
    let more = c.count.result in
    let n = c.args.at in
    let p = c.byte_in-start.result in
    let within : n ≤ length (chars bs) = omega (arith, c.requires, ap length c.self.view_is) in
    let cut : CutAt bs n p = cut_same bs _ _ _ c.deref.ensures c.byte_in-start.ensures in
    let counts : more ≡ length (chars xs) = c.count.ensures ∙ ap length (sym c.as_str-text.ensures.chars) in
    let new : string_bytes c.insert_str.new.self ≡ replace_range bs p p xs = done_unless c.insert_str.result c.is_err.result c.insert_str.ensures.bytes c.is_err.ensures.value c.if-is_err.false in
    let gap : Place = record { chars = n; bytes = p } in
    let sides = c.move_gap.ensures.sides (chars bs) c.self.invariant.sides (place_of_cut bs gap u within cut) in
    let part : chars c.range.result.now ≡ take n (chars bs) ++ chars xs = inserted_chars bs _ xs c.range.result.now n p cut new (range_front _ _ _ c.range.ensures.value ∙ ap (take (p + length xs)) c.deref-2.ensures) in
    let fits : length bs + length xs < 4294967296 = omega (arith, len_is c.self.inside.string, c.self.invariant.counted.text.counted) in
    let counted : IsCounted (string_bytes c.insert_str.new.self) (told + more) = inserted_counted bs _ xs told more n p c.self.invariant.counted c.as_str-text.ensures.no_zero c.as_str-text.utf8 fits counts (omega (arith, within, c.self.invariant.counted.counted)) cut new in
    let side : IsSide (take n (chars bs) ++ chars xs) c.grow.new.self = subst (λ l. IsSide l c.grow.new.self) part c.grow.ensures.side in
    run_put bs _ xs c.move_gap.new.front c.move_gap.new.back c.grow.new.self told more n p c.self.invariant.counted sides c.move_gap.ensures.at c.move_gap.ensures.behind (omega (arith, within, c.self.invariant.counted.counted)) cut c.as_str-text.utf8 new counted side (ap (λ q. q.chars) c.grow.ensures.end)

pub returns-clause-ok : goal.returns-clause-ok
returns-clause-ok c =
    let bs = string_bytes c.self.inside.string in
    let u = IsUtf8-string_bytes c.self.inside.string in
    let xs = c.as_str-text.result.now in
    let told = c.self.inside.front.end.chars + c.self.inside.back.end.chars in
    let more = c.count.result in
    let n = c.args.at in
    let p = c.byte_in-start.result in
    let within : n ≤ length (chars bs) = omega (arith, c.requires, ap length c.self.view_is) in
    let cut : CutAt bs n p = cut_same bs _ _ _ c.deref.ensures c.byte_in-start.ensures in
    let counts : more ≡ length (chars xs) = c.count.ensures ∙ ap length (sym c.as_str-text.ensures.chars) in
    let new : string_bytes c.insert_str.new.self ≡ replace_range bs p p xs = done_unless c.insert_str.result c.is_err.result c.insert_str.ensures.bytes c.is_err.ensures.value c.if-is_err.false in
    inserted bs _ xs n p cut c.as_str-text.utf8 new
    ∙ ap (λ l. take n (chars bs) ++ (l ++ drop n (chars bs))) c.as_str-text.ensures.chars
    ∙ ap (λ l. take n l ++ (c.args.more.now ++ drop n l)) c.self.view_is

pub returns-clause-counted : goal.returns-clause-counted
returns-clause-counted c =
    let bs = string_bytes c.self.inside.string in
    let u = IsUtf8-string_bytes c.self.inside.string in
    let xs = c.as_str-text.result.now in
    let told = c.self.inside.front.end.chars + c.self.inside.back.end.chars in
    let more = c.count.result in
    let n = c.args.at in
    let p = c.byte_in-start.result in
    let within : n ≤ length (chars bs) = omega (arith, c.requires, ap length c.self.view_is) in
    let cut : CutAt bs n p = cut_same bs _ _ _ c.deref.ensures c.byte_in-start.ensures in
    let counts : more ≡ length (chars xs) = c.count.ensures ∙ ap length (sym c.as_str-text.ensures.chars) in
    let new : string_bytes c.insert_str.new.self ≡ replace_range bs p p xs = done_unless c.insert_str.result c.is_err.result c.insert_str.ensures.bytes c.is_err.ensures.value c.if-is_err.false in
    let fits : length bs + length xs < 4294967296 = omega (arith, len_is c.self.inside.string, c.self.invariant.counted.text.counted) in
    let counted : IsCounted (string_bytes c.insert_str.new.self) (told + more) = inserted_counted bs _ xs told more n p c.self.invariant.counted c.as_str-text.ensures.no_zero c.as_str-text.utf8 fits counts (omega (arith, within, c.self.invariant.counted.counted)) cut new in
    omega (arith, count_fits _ _ (IsUtf8-string_bytes c.insert_str.new.self) counted, counted.counted)
