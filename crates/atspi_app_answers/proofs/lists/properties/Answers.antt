use Rattle.std.proofs.Common.{sym, subst}
use Rattle.std.specs.Prelude.{IfOk}
use Rattle.atspi_types.specs.DataView.{all_pairs}
use Rattle.atspi_app_calls.specs.declared.interface.AppInterface.{AppInterface}
use Rattle.atspi_app_calls.specs.Interface.{properties_in}
use Rattle.atspi_app_answers.specs.Told.{AreProperties}
use Rattle.atspi_app_answers.proofs.lists.properties.Goals as goal

pub returns-in-Accessible : goal.returns-in-Accessible
returns-in-Accessible c = subst (λ (i : AppInterface). IfOk c.of_accessible.result (λ pairs. AreProperties c.args.tree.now c.args.bus.now c.args.id.now c.args.counts c.args.node (properties_in i) (all_pairs pairs))) (sym c.in-Accessible.is) c.of_accessible.ensures

pub returns-in-Application : goal.returns-in-Application
returns-in-Application c = subst (λ (i : AppInterface). IfOk c.of_application.result (λ pairs. AreProperties c.args.tree.now c.args.bus.now c.args.id.now c.args.counts c.args.node (properties_in i) (all_pairs pairs))) (sym c.in-Application.is) c.of_application.ensures

pub returns-in-Text : goal.returns-in-Text
returns-in-Text c = subst (λ (i : AppInterface). IfOk c.of_text.result (λ pairs. AreProperties c.args.tree.now c.args.bus.now c.args.id.now c.args.counts c.args.node (properties_in i) (all_pairs pairs))) (sym c.in-Text.is) c.of_text.ensures

pub returns-in-Selection : goal.returns-in-Selection
returns-in-Selection c = subst (λ (i : AppInterface). IfOk c.of_selection.result (λ pairs. AreProperties c.args.tree.now c.args.bus.now c.args.id.now c.args.counts c.args.node (properties_in i) (all_pairs pairs))) (sym c.in-Selection.is) c.of_selection.ensures

pub returns-in-Table : goal.returns-in-Table
returns-in-Table c = subst (λ (i : AppInterface). IfOk c.of_table.result (λ pairs. AreProperties c.args.tree.now c.args.bus.now c.args.id.now c.args.counts c.args.node (properties_in i) (all_pairs pairs))) (sym c.in-Table.is) c.of_table.ensures

pub returns-in-Action : goal.returns-in-Action
returns-in-Action c = subst (λ (i : AppInterface). IfOk c.of_action.result (λ pairs. AreProperties c.args.tree.now c.args.bus.now c.args.id.now c.args.counts c.args.node (properties_in i) (all_pairs pairs))) (sym c.in-Action.is) c.of_action.ensures
