use Rattle.std.proofs.Common.{◌≡◌, ℕ, ◌+◌, ◌-◌, List, length, take, drop, reverse, chars, refl, sym, ap, subst, ◌∙◌, arith}
use Rattle.std.specs.List.{slice_range}
use Rattle.atspi_base.specs.Places.{CutAt}
use Rattle.atspi_faces.specs.Sides.{IsSide}
use Rattle.atspi_base.proofs.PlaceLemmas.{boundary, cut_behind, cut_twice}
use Rattle.atspi_faces.proofs.SideLemmas.{cut_within}
use Rattle.atspi_faces.proofs.side.byte_in.Goals as goal

range_front : (xs part : List ℕ) (p : ℕ) → part ≡ slice_range xs 0 p → part ≡ take p xs
range_front xs part p e = let same : p - 0 ≡ p = omega arith in e ∙ ap (λ m. take m (drop 0 xs)) same

pub range-requires-clause-end_boundary : goal.range-requires-clause-end_boundary
range-requires-clause-end_boundary c =
    let cut : CutAt c.args.text.now c.args.front.now.end.chars c.args.front.now.end.bytes = cut_behind c.args.text.now _ _ c.utf8.text c.requires.sides.near.sized in
    boundary _ _ _ _ c.utf8.text refl cut

pub byte_of-requires-clause-side : goal.byte_of-requires-clause-side
byte_of-requires-clause-side c =
    let cut : CutAt c.args.text.now c.args.front.now.end.chars c.args.front.now.end.bytes = cut_behind c.args.text.now _ _ c.utf8.text c.requires.sides.near.sized in
    subst (λ l. IsSide l c.args.front.now) (sym (ap chars (range_front _ _ _ c.range.ensures.value) ∙ cut.front)) c.requires.sides.near

pub returns-then-at-gap : goal.returns-then-at-gap
returns-then-at-gap c =
    let cut : CutAt c.args.text.now c.args.front.now.end.chars c.args.front.now.end.bytes = cut_behind c.args.text.now _ _ c.utf8.text c.requires.sides.near.sized in
    let counted = c.requires.sides.near.counted in
    cut_within c.args.text.now c.range.result.now c.args.front.now.end.chars c.args.front.now.end.bytes c.args.at c.byte_of.result c.utf8.text cut (range_front _ _ _ c.range.ensures.value)
    (omega (arith, c.if-at-gap.true, counted, ap length (ap chars (range_front _ _ _ c.range.ensures.value) ∙ cut.front))) c.byte_of.ensures

pub range_from-requires : goal.range_from-requires
range_from-requires c =
    let cut : CutAt c.args.text.now c.args.front.now.end.chars c.args.front.now.end.bytes = cut_behind c.args.text.now _ _ c.utf8.text c.requires.sides.near.sized in
    λ _. boundary _ _ _ _ c.utf8.text refl cut

pub byte_behind-requires-clause-side : goal.byte_behind-requires-clause-side
byte_behind-requires-clause-side c =
    let cut : CutAt c.args.text.now c.args.front.now.end.chars c.args.front.now.end.bytes = cut_behind c.args.text.now _ _ c.utf8.text c.requires.sides.near.sized in
    subst (λ l. IsSide (reverse l) c.args.back.now) (sym (ap chars c.range_from.ensures.value ∙ cut.back)) c.requires.sides.far

pub returns : goal.returns
returns c =
    let cut : CutAt c.args.text.now c.args.front.now.end.chars c.args.front.now.end.bytes = cut_behind c.args.text.now _ _ c.utf8.text c.requires.sides.near.sized in
    let n = c.args.front.now.end.chars in
    let upto : n + (c.args.at - n) ≡ c.args.at = omega (arith, c.if-at-gap.false) in
    subst (λ m. CutAt c.args.text.now m (c.args.front.now.end.bytes + c.byte_behind.result)) upto
    (cut_twice c.args.text.now c.range_from.result.now n (c.args.at - n) c.args.front.now.end.bytes c.byte_behind.result cut c.range_from.ensures.value c.byte_behind.ensures)
