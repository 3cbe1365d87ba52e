use Rattle.std.proofs.Common.{ap, arith, rules, ◌∙◌, ℤ, Some, FitsSigned}
use Rattle.std.specs.Int.{w32, cast_signed, cast_unsigned}
use Rattle.std.proofs.lemmas.Int.{to_z-of_z}
use Rattle.atspi_types.specs.DataView.{all_data}
use Rattle.atspi_browse.specs.inner.Changes.{of_minor}
use Rattle.atspi_browse.proofs.ArgumentLemmas.{all_four}
use Rattle.atspi_browse.proofs.changes.body_told.Goals as goal

pub returns : goal.returns
returns c =
    let at = c.in-Some-number_in.at in
    let count = c.in-Some-number_in-2.count in
    let f : FitsSigned w32 at = search rules in
    let g : FitsSigned w32 count = search rules in
    let one = c.in-Some-number_in.ensures in
    let two = c.in-Some-number_in-2.ensures in
    let text = c.in-Some-text_within.ensures in
    c.event_told.ensures ∙ ap (λ (n : ℤ). of_minor c.in-Some.minor.now n (cast_signed w32 (cast_unsigned w32 count)) c.in-Some-text_within.text.now) (to_z-of_z w32 at f)
    ∙ ap (λ (n : ℤ). of_minor c.in-Some.minor.now at n c.in-Some-text_within.text.now) (to_z-of_z w32 count g)
    ∙ all_four (all_data c.args.body.now) c.in-Some.minor.now one.0 two.0 at count text.0 c.in-Some-text_within.text.now (omega (arith, c.len.ensures, c.if-len-lt4.false)) (c.at.ensures ∙ ap Some c.in-Some.ensures)
    (c.at-2.ensures ∙ ap Some one.1) (c.at-3.ensures ∙ ap Some two.1) (c.at-4.ensures ∙ ap Some text.1) one.2 two.2
