use Rattle.std.proofs.Common.{Bool, cond, [], ap, sym, ◌∙◌}
use Rattle.std.proofs.lemmas.Result.{IfOk-weaker}
use Rattle.atspi_tree_model.specs.News.{fresh}
use Rattle.atspi_reader_known.specs.Listed.{row_wants}
use Rattle.atspi_reader_known.proofs.app.App.added_wants.Goals as goal

pub returns-then-not-adds : goal.returns-then-not-adds
returns-then-not-adds c = λ view e.
    c.new.ensures
    ∙ sym (ap (λ (b : Bool). cond b (row_wants [] (fresh c.args.item.now)) []) (sym (c.adds.ensures view e) ∙ c.if-not-adds.true))

pub returns : goal.returns
returns c = λ view e.
    IfOk-weaker c.item_wants.result _ _
    (λ wants same. same ∙ sym (ap (λ (b : Bool). cond b (row_wants [] (fresh c.args.item.now)) []) (sym (c.adds.ensures view e) ∙ c.if-not-adds.false)))
    c.item_wants.ensures
