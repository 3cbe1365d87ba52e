use Rattle.std.proofs.Common.{◌∙◌, ap, sym, rules, ℤ, FitsSigned}
use Rattle.std.specs.Int.{w32, cast_signed, cast_unsigned}
use Rattle.std.proofs.lemmas.Int.{to_z-of_z}
use Rattle.std.specs.Prelude.{codes}
use Rattle.atspi_protocol.specs.news.Events.{is_front}
use Rattle.atspi_browse.specs.inner.Changes.{of_deletion, of_insertion}
use Rattle.atspi_browse.proofs.ChangeLemmas.{told_delete, told_insert, told_neither}
use Rattle.atspi_browse.proofs.changes.event_told.Goals as goal

pub returns-then-begins_with : goal.returns-then-begins_with
returns-then-begins_with c =
    let f : FitsSigned w32 c.args.at = search rules in
    told_insert c.args.minor.now c.args.at c.args.count c.args.text.now _ (ap (is_front (codes "insert")) (sym c.as_str-name.ensures.chars) ∙ sym c.begins_with.ensures ∙ c.if-begins_with.true) (c.inserted.ensures ∙ ap (λ (n : ℤ). of_insertion n c.args.text.now) (to_z-of_z w32 c.args.at f))

pub returns-then-begins_with-2 : goal.returns-then-begins_with-2
returns-then-begins_with-2 c =
    let f : FitsSigned w32 c.args.at = search rules in
    let g : FitsSigned w32 c.args.count = search rules in
    told_delete c.args.minor.now c.args.at c.args.count c.args.text.now _ (ap (is_front (codes "insert")) (sym c.as_str-name.ensures.chars) ∙ sym c.begins_with.ensures ∙ c.if-begins_with.false) (ap (is_front (codes "delete")) (sym c.as_str-name.ensures.chars) ∙ sym c.begins_with-2.ensures ∙ c.if-begins_with-2.true) (c.deleted.ensures ∙ ap (λ (n : ℤ). of_deletion n (cast_signed w32 (cast_unsigned w32 c.args.count))) (to_z-of_z w32 c.args.at f)
    ∙ ap (λ (n : ℤ). of_deletion c.args.at n) (to_z-of_z w32 c.args.count g))

pub returns : goal.returns
returns c = told_neither c.args.minor.now c.args.at c.args.count c.args.text.now (ap (is_front (codes "insert")) (sym c.as_str-name.ensures.chars) ∙ sym c.begins_with.ensures ∙ c.if-begins_with.false) (ap (is_front (codes "delete")) (sym c.as_str-name.ensures.chars) ∙ sym c.begins_with-2.ensures ∙ c.if-begins_with-2.false)
