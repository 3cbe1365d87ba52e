use Rattle.std.proofs.Common.{sym, ◌∙◌}
use Rattle.atspi_app_exported.proofs.Closed.{closing_starts, closing_goes_on, closing_ends}
use Rattle.atspi_whole_tree.proofs.closing.close_subtree.Goals as goal

pub loop-seat-init : goal.loop-seat-init
loop-seat-init g c = record {
  texts = closing_starts c.args.tree.now c.args.node _ _ _ c.is_lawful.ensures c.requires (sym c.close.ensures.texts) c.seats_below-walk.ensures;
  columns = closing_starts c.args.tree.now c.args.node _ _ _ c.is_lawful.ensures c.requires (sym c.close.ensures.columns) c.seats_below-walk.ensures;
  actions = closing_starts c.args.tree.now c.args.node _ _ _ c.is_lawful.ensures c.requires (sym c.close.ensures.actions) c.seats_below-walk.ensures;
  kinds = c.close.ensures.kinds;
}

pub loop-seat-preserved : goal.loop-seat-preserved
loop-seat-preserved g c = record {
  texts = closing_goes_on c.in-Some.seat _ _ _ _ _ c.in-Some.ensures.steps (sym c.close-in-Some.ensures.texts) c.loop-seat.invariant.texts;
  columns = closing_goes_on c.in-Some.seat _ _ _ _ _ c.in-Some.ensures.steps (sym c.close-in-Some.ensures.columns) c.loop-seat.invariant.columns;
  actions = closing_goes_on c.in-Some.seat _ _ _ _ _ c.in-Some.ensures.steps (sym c.close-in-Some.ensures.actions) c.loop-seat.invariant.actions;
  kinds = c.close-in-Some.ensures.kinds ∙ c.loop-seat.invariant.kinds;
}

pub returns-clause-texts : goal.returns-clause-texts
returns-clause-texts g c = closing_ends _ _ _ c.in_default.ensures.steps.0 c.loop-seat.invariant.texts

pub returns-clause-columns : goal.returns-clause-columns
returns-clause-columns g c = closing_ends _ _ _ c.in_default.ensures.steps.0 c.loop-seat.invariant.columns

pub returns-clause-actions : goal.returns-clause-actions
returns-clause-actions g c = closing_ends _ _ _ c.in_default.ensures.steps.0 c.loop-seat.invariant.actions
