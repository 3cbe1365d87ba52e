use Rattle.std.proofs.Common.{◌≡◌, ◌++◌, List, sym, ap, ◌∙◌, subst}
use Rattle.std.proofs.lemmas.List.{append-nil}
use Rattle.std.specs.Prelude.{OnOk}
use Rattle.atspi_tree_model.specs.RowRules.{shapes}
use Rattle.atspi_tree_model.specs.Tree.{Moves}
use Rattle.atspi_tree_model.specs.declared.step.Step.{Step}
use Rattle.atspi_protocol.specs.announcing.Signals.{Signal}
use Rattle.atspi_protocol.specs.announcing.Announced.{announced}
use Rattle.atspi_app_signals.specs.Asked.{CanBeTold, messages_asked, without_contents}
use Rattle.atspi_app_signals.proofs.Told.{bare_removed, bare_moved, moved_few}
use Rattle.atspi_app_signals.proofs.step.put.Goals as goal

pub added-requires : goal.added-requires
added-requires c = subst (CanBeTold c.args.tree.now) c.in-Add.is c.requires

pub removed-requires : goal.removed-requires
removed-requires c = subst (CanBeTold c.args.tree.now) c.in-Remove.is c.requires

pub moved-requires-clause-there : goal.moved-requires-clause-there
moved-requires-clause-there c =
    let m : Moves shapes c.args.tree.now.rows c.in-Move.node c.in-Move.parent c.in-Move.index = subst (CanBeTold c.args.tree.now) c.in-Move.is c.requires in
    m.there

pub moved-requires-clause-index : goal.moved-requires-clause-index
moved-requires-clause-index c =
    let m : Moves shapes c.args.tree.now.rows c.in-Move.node c.in-Move.parent c.in-Move.index = subst (CanBeTold c.args.tree.now) c.in-Move.is c.requires in
    moved_few c.args.tree.now c.in-Move.node c.in-Move.parent c.in-Move.index c.is_lawful.ensures m

pub state-requires : goal.state-requires
state-requires c = subst (CanBeTold c.args.tree.now) c.in-SetState.is c.requires

pub inserted-requires-clause-at : goal.inserted-requires-clause-at
inserted-requires-clause-at c = (subst (CanBeTold c.args.tree.now) c.in-Insert.is c.requires).0

pub inserted-requires-clause-short : goal.inserted-requires-clause-short
inserted-requires-clause-short c = (subst (CanBeTold c.args.tree.now) c.in-Insert.is c.requires).1

pub deleted-requires-clause-at : goal.deleted-requires-clause-at
deleted-requires-clause-at c = (subst (CanBeTold c.args.tree.now) c.in-Delete.is c.requires).0

pub deleted-requires-clause-short : goal.deleted-requires-clause-short
deleted-requires-clause-short c = (subst (CanBeTold c.args.tree.now) c.in-Delete.is c.requires).1

pub caret-requires : goal.caret-requires
caret-requires c = subst (CanBeTold c.args.tree.now) c.in-Caret.is c.requires

pub returns-in-Add : goal.returns-in-Add
returns-in-Add c =
    subst (λ (step : Step). OnOk c.added.result (c.added.new.mail ≡ c.args.mail.now ++ messages_asked c.args.heard.now (announced c.args.bus.now (without_contents c.args.tree.now) step)))
    (sym c.in-Add.is) c.added.ensures

pub returns-in-Remove : goal.returns-in-Remove
returns-in-Remove c =
    subst (λ (step : Step). OnOk c.removed.result (c.removed.new.mail ≡ c.args.mail.now ++ messages_asked c.args.heard.now (announced c.args.bus.now (without_contents c.args.tree.now) step)))
    (sym c.in-Remove.is)
    (subst (λ (signals : List Signal). OnOk c.removed.result (c.removed.new.mail ≡ c.args.mail.now ++ messages_asked c.args.heard.now signals))
    (bare_removed c.args.bus.now c.args.tree.now c.in-Remove.node) c.removed.ensures)

pub returns-in-Move : goal.returns-in-Move
returns-in-Move c =
    subst (λ (step : Step). OnOk c.moved.result (c.moved.new.mail ≡ c.args.mail.now ++ messages_asked c.args.heard.now (announced c.args.bus.now (without_contents c.args.tree.now) step)))
    (sym c.in-Move.is)
    (subst (λ (signals : List Signal). OnOk c.moved.result (c.moved.new.mail ≡ c.args.mail.now ++ messages_asked c.args.heard.now signals))
    (bare_moved c.args.bus.now c.args.tree.now c.in-Move.node c.in-Move.parent c.in-Move.index c.is_lawful.ensures (subst (CanBeTold c.args.tree.now) c.in-Move.is c.requires)) c.moved.ensures)

pub returns-in-SetName : goal.returns-in-SetName
returns-in-SetName c =
    subst (λ (step : Step). OnOk c.name.result (c.name.new.mail ≡ c.args.mail.now ++ messages_asked c.args.heard.now (announced c.args.bus.now (without_contents c.args.tree.now) step)))
    (sym c.in-SetName.is) c.name.ensures

pub returns-in-SetDescription : goal.returns-in-SetDescription
returns-in-SetDescription c =
    subst (λ (step : Step). OnOk c.description.result (c.description.new.mail ≡ c.args.mail.now ++ messages_asked c.args.heard.now (announced c.args.bus.now (without_contents c.args.tree.now) step)))
    (sym c.in-SetDescription.is) c.description.ensures

pub returns-in-SetRole : goal.returns-in-SetRole
returns-in-SetRole c =
    subst (λ (step : Step). OnOk c.role.result (c.role.new.mail ≡ c.args.mail.now ++ messages_asked c.args.heard.now (announced c.args.bus.now (without_contents c.args.tree.now) step)))
    (sym c.in-SetRole.is) c.role.ensures

pub returns-in-SetState : goal.returns-in-SetState
returns-in-SetState c =
    subst (λ (step : Step). OnOk c.state.result (c.state.new.mail ≡ c.args.mail.now ++ messages_asked c.args.heard.now (announced c.args.bus.now (without_contents c.args.tree.now) step)))
    (sym c.in-SetState.is) c.state.ensures

pub returns-in-Insert : goal.returns-in-Insert
returns-in-Insert c =
    subst (λ (step : Step). OnOk c.inserted.result (c.inserted.new.mail ≡ c.args.mail.now ++ messages_asked c.args.heard.now (announced c.args.bus.now (without_contents c.args.tree.now) step)))
    (sym c.in-Insert.is) c.inserted.ensures

pub returns-in-Delete : goal.returns-in-Delete
returns-in-Delete c =
    subst (λ (step : Step). OnOk c.deleted.result (c.deleted.new.mail ≡ c.args.mail.now ++ messages_asked c.args.heard.now (announced c.args.bus.now (without_contents c.args.tree.now) step)))
    (sym c.in-Delete.is) c.deleted.ensures

pub returns-in-Caret : goal.returns-in-Caret
returns-in-Caret c =
    subst (λ (step : Step). OnOk c.caret.result (c.caret.new.mail ≡ c.args.mail.now ++ messages_asked c.args.heard.now (announced c.args.bus.now (without_contents c.args.tree.now) step)))
    (sym c.in-Caret.is) c.caret.ensures

pub returns-in-TextSelect : goal.returns-in-TextSelect
returns-in-TextSelect c =
    sym (append-nil c.args.mail.now)
    ∙ ap (λ (step : Step). c.args.mail.now ++ messages_asked c.args.heard.now (announced c.args.bus.now (without_contents c.args.tree.now) step)) (sym c.in-TextSelect.is)

pub returns-in-Relate : goal.returns-in-Relate
returns-in-Relate c =
    sym (append-nil c.args.mail.now)
    ∙ ap (λ (step : Step). c.args.mail.now ++ messages_asked c.args.heard.now (announced c.args.bus.now (without_contents c.args.tree.now) step)) (sym c.in-Relate.is)
