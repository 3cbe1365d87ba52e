use Rattle.std.proofs.Common.{◌∙◌, sym, ap, ℤ, rules, FitsSigned, chars}
use Rattle.std.specs.Int.{w32}
use Rattle.std.specs.Prelude.{bytes_eq, codes}
use Rattle.std.proofs.lemmas.Int.{to_z-of_z}
use Rattle.atspi_marshal_in_place.specs.Items.{item_data}
use Rattle.atspi_tree_model.specs.declared.news.News.TheVariants.{ChildAdded, ChildRemoved, Nothing}
use Rattle.atspi_protocol.specs.news.Arguments.{reference_in}
use Rattle.atspi_protocol.specs.news.Events.{own_child}
use Rattle.atspi_reader_news.proofs.Told.{same_value, picked, passed}
use Rattle.atspi_reader_news.proofs.event.children_news.Goals as goal

pub returns-then-is_word-2 : goal.returns-then-is_word-2
returns-then-is_word-2 c =
    let e = c.args.e.now in
    let bus = chars c.args.bus.now in
    let child = reference_in (item_data e.value) in
    let f : FitsSigned w32 e.detail1 = search rules in
    same_value c.child_removed.result _ _
    (ap (λ (n : ℤ). own_child bus child (ChildRemoved c.args.path.now n)) (to_z-of_z w32 e.detail1 f)
    ∙ passed (bytes_eq (codes "add") (chars e.minor.now)) (own_child bus child ChildAdded) _ _ (sym c.is_word.ensures ∙ c.if-is_word.false)
    (picked (bytes_eq (codes "remove") (chars e.minor.now)) (own_child bus child (ChildRemoved c.args.path.now e.detail1)) Nothing (sym c.is_word-2.ensures ∙ c.if-is_word-2.true)))
    c.child_removed.ensures
