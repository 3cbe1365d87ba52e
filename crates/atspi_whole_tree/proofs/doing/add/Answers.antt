use Rattle.atspi_app_exported.proofs.Following.{applies_to_shape, new_is_unknown, add_undone}
use Rattle.atspi_whole_tree.specs.inner.Tables.{own_kinds, parts_of}
use Rattle.atspi_whole_tree.proofs.doing.add.Goals as goal

pub open-requires-clause-no_text : goal.open-requires-clause-no_text
open-requires-clause-no_text c = (new_is_unknown own_kinds (parts_of c.args.held.now) c.args.step.now c.args.node c.args.seed.now c.requires.can.exported c.requires.can.applies c.requires.is).0

pub open-requires-clause-no_columns : goal.open-requires-clause-no_columns
open-requires-clause-no_columns c = (new_is_unknown own_kinds (parts_of c.args.held.now) c.args.step.now c.args.node c.args.seed.now c.requires.can.exported c.requires.can.applies c.requires.is).1

pub open-requires-clause-no_actions : goal.open-requires-clause-no_actions
open-requires-clause-no_actions c = (new_is_unknown own_kinds (parts_of c.args.held.now) c.args.step.now c.args.node c.args.seed.now c.requires.can.exported c.requires.can.applies c.requires.is).2

pub apply-requires : goal.apply-requires
apply-requires c = applies_to_shape (parts_of c.args.held.now) c.args.step.now c.requires.can.applies

pub returns-in-Err-clause-err : goal.returns-in-Err-clause-err
returns-in-Err-clause-err c =
    add_undone (parts_of c.args.held.now) _ c.args.node c.args.seed.now _ _ _ _ _ _ c.in-Err.ensures.err
    (new_is_unknown own_kinds (parts_of c.args.held.now) c.args.step.now c.args.node c.args.seed.now c.requires.can.exported c.requires.can.applies c.requires.is)
    c.in_ok-open.ensures.text c.in_ok-open.ensures.columns c.in_ok-open.ensures.actions c.close.ensures.texts c.close.ensures.columns c.close.ensures.actions
