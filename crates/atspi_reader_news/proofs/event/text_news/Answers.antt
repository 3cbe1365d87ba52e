use Rattle.std.proofs.Common.{◌∙◌, sym, ap, ℤ, rules, FitsSigned, chars}
use Rattle.std.specs.Int.{w32, cast_signed, cast_unsigned}
use Rattle.std.specs.Prelude.{codes}
use Rattle.std.proofs.lemmas.Int.{to_z-of_z}
use Rattle.atspi_marshal_in_place.specs.Items.{item_data}
use Rattle.atspi_tree_model.specs.declared.news.News.TheVariants.{Inserted, Deleted, Nothing}
use Rattle.atspi_protocol.specs.news.Events.{is_front, with_text}
use Rattle.atspi_reader_news.proofs.Told.{same_value, picked, passed}
use Rattle.atspi_reader_news.proofs.event.text_news.Goals as goal

pub returns-then-begins_with : goal.returns-then-begins_with
returns-then-begins_with c =
    let e = c.args.e.now in
    let value = item_data e.value in
    let path = c.args.path.now in
    let f : FitsSigned w32 e.detail1 = search rules in
    same_value c.inserted.result _ _
    (ap (λ (n : ℤ). with_text value (Inserted path n)) (to_z-of_z w32 e.detail1 f)
    ∙ picked (is_front (codes "insert") (chars e.minor.now)) (with_text value (Inserted path e.detail1)) _ (sym c.begins_with.ensures ∙ c.if-begins_with.true))
    c.inserted.ensures

pub returns-then-begins_with-2 : goal.returns-then-begins_with-2
returns-then-begins_with-2 c =
    let e = c.args.e.now in
    let value = item_data e.value in
    let path = c.args.path.now in
    let f : FitsSigned w32 e.detail1 = search rules in
    let g : FitsSigned w32 e.detail2 = search rules in
    same_value c.deleted.result _ _
    (ap (λ (n : ℤ). with_text value (Deleted path n (cast_signed w32 (cast_unsigned w32 e.detail2)))) (to_z-of_z w32 e.detail1 f) ∙ ap (λ (n : ℤ). with_text value (Deleted path e.detail1 n)) (to_z-of_z w32 e.detail2 g)
    ∙ passed (is_front (codes "insert") (chars e.minor.now)) (with_text value (Inserted path e.detail1)) _ _ (sym c.begins_with.ensures ∙ c.if-begins_with.false)
    (picked (is_front (codes "delete") (chars e.minor.now)) (with_text value (Deleted path e.detail1 e.detail2)) Nothing (sym c.begins_with-2.ensures ∙ c.if-begins_with-2.true)))
    c.deleted.ensures
