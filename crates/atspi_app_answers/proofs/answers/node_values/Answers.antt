use Rattle.std.proofs.Common.{sym, subst}
use Rattle.std.specs.Prelude.{MatchResult}
use Rattle.std.proofs.lemmas.Result.{MatchResult-weaker, IfOk-weaker}
use Rattle.atspi_types.specs.DataView.{all_data}
use Rattle.atspi_marshal_in_place.specs.Items.{fields_data}
use Rattle.atspi_app_calls.specs.declared.ask.Ask.{Ask}
use Rattle.atspi_app_answers.specs.declared.place.AppPlace.TheVariants.{Node}
use Rattle.atspi_app_answers.specs.Told.{Returns, Fails}
use Rattle.atspi_app_answers.proofs.Answering.{with_fault, call_returns, call_fails, get_returns, all_returns, set_returns}
use Rattle.atspi_app_answers.proofs.answers.node_values.Goals as goal

pub returns-in-Call : goal.returns-in-Call
returns-in-Call c =
    subst
    (λ (a : Ask).
    MatchResult c.member_values.result (λ v. Returns c.args.tree.now c.args.bus.now c.args.id.now c.args.counts (Node c.args.node) (fields_data c.args.args) a (all_data v))
    (Fails c.args.tree.now c.args.bus.now c.args.id.now (Node c.args.node) (fields_data c.args.args) a))
    (sym c.in-Call.is)
    (MatchResult-weaker c.member_values.result c.member_values.ensures
    (λ v h. call_returns c.args.tree.now c.args.bus.now c.args.id.now c.args.counts c.args.node (fields_data c.args.args) c.requires.there c.in-Call.member (all_data v) h)
    (λ e h. call_fails c.args.tree.now c.args.bus.now c.args.id.now c.args.counts c.args.node (fields_data c.args.args) c.requires.there c.in-Call.member e h))

pub returns-in-Get : goal.returns-in-Get
returns-in-Get c =
    subst
    (λ (a : Ask).
    MatchResult c.or_fault.result (λ v. Returns c.args.tree.now c.args.bus.now c.args.id.now c.args.counts (Node c.args.node) (fields_data c.args.args) a (all_data v))
    (Fails c.args.tree.now c.args.bus.now c.args.id.now (Node c.args.node) (fields_data c.args.args) a))
    (sym c.in-Get.is)
    (with_fault c.property_values.result c.or_fault.result _ _ c.or_fault.ensures
    (IfOk-weaker c.property_values.result _ _ (λ v h. get_returns c.args.tree.now c.args.bus.now c.args.id.now c.args.counts c.args.node (fields_data c.args.args) c.requires.there c.in-Get.property (all_data v) h) c.property_values.ensures)
    tt)

pub returns-in-GetAll : goal.returns-in-GetAll
returns-in-GetAll c =
    subst
    (λ (a : Ask).
    MatchResult c.or_fault-in-GetAll.result (λ v. Returns c.args.tree.now c.args.bus.now c.args.id.now c.args.counts (Node c.args.node) (fields_data c.args.args) a (all_data v))
    (Fails c.args.tree.now c.args.bus.now c.args.id.now (Node c.args.node) (fields_data c.args.args) a))
    (sym c.in-GetAll.is)
    (with_fault c.properties_values.result c.or_fault-in-GetAll.result _ _ c.or_fault-in-GetAll.ensures
    (IfOk-weaker c.properties_values.result _ _ (λ v h. all_returns c.args.tree.now c.args.bus.now c.args.id.now c.args.counts c.args.node (fields_data c.args.args) c.requires.there c.in-GetAll.interface (all_data v) h) c.properties_values.ensures)
    tt)

pub returns-in-SetId : goal.returns-in-SetId
returns-in-SetId c =
    subst
    (λ (a : Ask). Returns c.args.tree.now c.args.bus.now c.args.id.now c.args.counts (Node c.args.node) (fields_data c.args.args) a (all_data c.new.result))
    (sym c.in-SetId.is)
    (set_returns c.args.tree.now c.args.bus.now c.args.id.now c.args.counts c.args.node (fields_data c.args.args) c.requires.there c.in-SetId.field-0 (all_data c.new.result) c.new.ensures)
