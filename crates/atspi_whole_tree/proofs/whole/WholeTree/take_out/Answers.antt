use Rattle.std.proofs.Common.{sym, subst}
use Rattle.atspi_tree_model.specs.declared.step.Step.TheVariants.{Remove}
use Rattle.atspi_app_exported.specs.Parts.{IsExported}
use Rattle.atspi_app_exported.proofs.Following.{exported_after}
use Rattle.atspi_whole_tree.specs.inner.Tables.{own_kinds, parts_of}
use Rattle.atspi_whole_tree.proofs.Read.{can_do, step_done}
use Rattle.atspi_whole_tree.proofs.whole.WholeTree.take_out.Goals as goal

pub remove-requires : goal.remove-requires
remove-requires c = record { can = can_do (parts_of c.self.inside.held) c.args.self.now (Remove c.args.node) c.self.view_is c.self.invariant c.requires }

pub invariant_of-self : goal.invariant_of-self
invariant_of-self c =
    let can = can_do (parts_of c.self.inside.held) c.args.self.now (Remove c.args.node) c.self.view_is c.self.invariant c.requires in
    subst (IsExported own_kinds) (sym c.remove.ensures.ok) (exported_after own_kinds (parts_of c.self.inside.held) (Remove c.args.node) can.exported can.applies)

pub returns : goal.returns
returns c =
    step_done (parts_of c.self.inside.held) (parts_of c.remove.new.held) c.args.self.now (Remove c.args.node) c.self.view_is
    (can_do (parts_of c.self.inside.held) c.args.self.now (Remove c.args.node) c.self.view_is c.self.invariant c.requires) c.remove.ensures.ok
