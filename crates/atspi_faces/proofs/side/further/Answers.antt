use Rattle.std.proofs.Common.{◌≡◌, ◌+◌, ◌-◌, length, chars, refl, ap, subst, ◌∙◌, arith}
use Rattle.std.proofs.lemmas.List.{length-drop}
use Rattle.atspi_base.specs.Places.{CutAt}
use Rattle.atspi_base.proofs.PlaceLemmas.{boundary, cut_behind, cut_twice}
use Rattle.atspi_faces.proofs.side.further.Goals as goal

pub range_from-rest-requires : goal.range_from-rest-requires
range_from-rest-requires c = λ _. boundary _ _ _ _ c.utf8.text refl (cut_behind c.args.text.now c.args.from.chars c.args.from.bytes c.utf8.text c.requires.from.told)

pub byte_of-requires-clause-counted : goal.byte_of-requires-clause-counted
byte_of-requires-clause-counted c =
    let cut = cut_behind c.args.text.now c.args.from.chars c.args.from.bytes c.utf8.text c.requires.from.told in
    omega (arith, c.requires.counted, ap length (ap chars c.range_from-rest.ensures.value ∙ cut.back), length-drop c.args.from.chars (chars c.args.text.now))

pub returns : goal.returns
returns c =
    let text = c.args.text.now in
    let from = c.args.from in
    let cut = cut_behind text from.chars from.bytes c.utf8.text c.requires.from.told in
    let upto : from.chars + (c.args.at - from.chars) ≡ c.args.at = omega (arith, c.requires.ordered) in
    subst (λ n. CutAt text n (from.bytes + c.byte_of.result)) upto (cut_twice text c.range_from-rest.result.now from.chars (c.args.at - from.chars) from.bytes c.byte_of.result cut c.range_from-rest.ensures.value c.byte_of.ensures)
