use Rattle.std.proofs.Common.{◌≡◌, ◌≤◌, ◌+◌, ◌++◌, [], length, take, drop, chars, string_bytes, sym, ap, subst, ◌∙◌, arith}
use Rattle.std.specs.List.{replace_range}
use Rattle.std.proofs.lemmas.List.{length-drop}
use Rattle.std.proofs.lemmas.Str.{IsUtf8-string_bytes}
use Rattle.atspi_faces.specs.declared.side.Place.{Place}
use Rattle.atspi_base.specs.Places.{CutAt}
use Rattle.atspi_faces.specs.Sides.{IsPlace}
use Rattle.atspi_base.proofs.PlaceLemmas.{boundary, cut_same, cut_twice, removed, room, done}
use Rattle.atspi_faces.proofs.SideLemmas.{place_of_cut}
use Rattle.atspi_faces.proofs.KeptLemmas.{run_fits, run_behind, run_cut}
use Rattle.atspi_faces.proofs.run.Run.delete.Goals as goal

pub move_gap-requires-clause-chars_fit : goal.move_gap-requires-clause-chars_fit
move_gap-requires-clause-chars_fit c = (run_fits _ _ _ (IsUtf8-string_bytes c.self.inside.string) c.self.invariant).0

pub move_gap-requires-clause-bytes_fit : goal.move_gap-requires-clause-bytes_fit
move_gap-requires-clause-bytes_fit c = (run_fits _ _ _ (IsUtf8-string_bytes c.self.inside.string) c.self.invariant).1

pub range_from-requires : goal.range_from-requires
range_from-requires c = λ _. boundary _ _ _ _ c.deref.utf8 (c.deref-2.ensures ∙ sym c.deref.ensures) c.byte_in-start.ensures

pub byte_behind-bytes-requires-clause-side : goal.byte_behind-bytes-requires-clause-side
byte_behind-bytes-requires-clause-side c =
    let bs = string_bytes c.self.inside.string in
    let u = IsUtf8-string_bytes c.self.inside.string in
    let view = c.self.view_is in
    let told = c.self.inside.front.end.chars + c.self.inside.back.end.chars in
    let start = c.byte_in-start.result in
    let one : CutAt bs c.args.at start = cut_same bs _ _ _ c.deref.ensures c.byte_in-start.ensures in
    let gap : Place = record { chars = c.args.at; bytes = start } in
    let is : IsPlace (chars bs) gap = place_of_cut bs gap u (omega (arith, c.requires, ap length view)) one in
    let sides = c.move_gap.ensures.sides (chars bs) c.self.invariant.sides is in
    run_behind bs c.range_from.result.now _ _ c.args.at start sides c.move_gap.ensures.at one (c.range_from.ensures.value ∙ ap (drop start) c.deref-2.ensures)

pub replace_range-requires-clause-start_boundary : goal.replace_range-requires-clause-start_boundary
replace_range-requires-clause-start_boundary c =
    let at = boundary _ (string_bytes c.self.inside.string) _ _ c.deref.utf8 (sym c.deref.ensures) c.byte_in-start.ensures in
    (at.0, λ _. at.1)

pub replace_range-requires-clause-end_boundary : goal.replace_range-requires-clause-end_boundary
replace_range-requires-clause-end_boundary c =
    let bs = string_bytes c.self.inside.string in
    let one = cut_same bs _ _ _ c.deref.ensures c.byte_in-start.ensures in
    let two = cut_twice bs _ _ _ _ _ one (c.range_from.ensures.value ∙ ap (drop c.byte_in-start.result) c.deref-2.ensures) c.byte_behind-bytes.ensures in
    let at = boundary bs bs _ _ (IsUtf8-string_bytes c.self.inside.string) (λ _. bs) two in
    (at.0, λ _. at.1)

pub invariant_of-self : goal.invariant_of-self
invariant_of-self c =
    let bs = string_bytes c.self.inside.string in
    let u = IsUtf8-string_bytes c.self.inside.string in
    let view = c.self.view_is in
    let told = c.self.inside.front.end.chars + c.self.inside.back.end.chars in
    let start = c.byte_in-start.result in
    let one : CutAt bs c.args.at start = cut_same bs _ _ _ c.deref.ensures c.byte_in-start.ensures in
    let gap : Place = record { chars = c.args.at; bytes = start } in
    let is : IsPlace (chars bs) gap = place_of_cut bs gap u (omega (arith, c.requires, ap length view)) one in
    let sides = c.move_gap.ensures.sides (chars bs) c.self.invariant.sides is in
    let rest : c.range_from.result.now ≡ drop start bs = c.range_from.ensures.value ∙ ap (drop start) c.deref-2.ensures in
    let two : CutAt bs (c.args.at + c.args.len) (start + c.byte_behind-bytes.result) = cut_twice bs _ _ _ _ _ one rest c.byte_behind-bytes.ensures in
    let new : string_bytes c.replace_range.new.self ≡ replace_range bs start (start + c.byte_behind-bytes.result) [] = done c.replace_range.result c.replace_range.ensures.bytes c.replace_range.ensures.full (λ more. omega (arith, room c.self.inside.string, more)) in
    let place : Place = record { chars = c.args.len; bytes = c.byte_behind-bytes.result } in
    let behind : chars c.range_from.result.now ≡ drop c.args.at (chars bs) = ap chars rest ∙ one.back in
    let fits : c.args.len ≤ length (chars c.range_from.result.now) = omega (arith, c.requires, ap length view, ap length behind, length-drop c.args.at (chars bs)) in
    let inner : IsPlace (drop c.args.at (chars bs)) place = subst (λ l. IsPlace l place) behind (place_of_cut c.range_from.result.now place c.range_from.utf8 fits c.byte_behind-bytes.ensures) in
    run_cut bs _ c.move_gap.new.front c.move_gap.new.back c.shorten.new.self told c.args.at start place c.without-left.result c.self.invariant.counted sides c.move_gap.ensures.at c.move_gap.ensures.behind
    (omega (arith, c.requires, c.self.invariant.counted.counted, ap length view)) one two inner new c.without-left.ensures.chars c.without-left.ensures.bytes c.shorten.ensures.side c.shorten.ensures.end

pub returns : goal.returns
returns c =
    let bs = string_bytes c.self.inside.string in
    let start = c.byte_in-start.result in
    let one = cut_same bs _ _ _ c.deref.ensures c.byte_in-start.ensures in
    let rest : c.range_from.result.now ≡ drop start bs = c.range_from.ensures.value ∙ ap (drop start) c.deref-2.ensures in
    let two = cut_twice bs _ _ _ _ _ one rest c.byte_behind-bytes.ensures in
    let new : string_bytes c.replace_range.new.self ≡ replace_range bs start (start + c.byte_behind-bytes.result) [] = done c.replace_range.result c.replace_range.ensures.bytes c.replace_range.ensures.full (λ more. omega (arith, room c.self.inside.string, more)) in
    removed bs _ _ _ _ _ one two new
    ∙ ap (λ l. take c.args.at l ++ drop (c.args.at + c.args.len) l) c.self.view_is
