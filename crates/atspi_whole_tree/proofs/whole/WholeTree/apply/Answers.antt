use Rattle.std.proofs.Common.{refl}
use Rattle.atspi_whole_tree.specs.inner.Tables.{app_tree_of, parts_of}
use Rattle.atspi_whole_tree.proofs.Read.{can_do, kept_by, ok_by, err_by}
use Rattle.atspi_whole_tree.proofs.whole.WholeTree.apply.Goals as goal

pub do_step-requires : goal.do_step-requires
do_step-requires c = record { can = can_do (parts_of c.self.inside.held) c.args.self.now c.args.step.now c.self.view_is c.self.invariant c.requires }

pub invariant_of-self : goal.invariant_of-self
invariant_of-self c =
    kept_by (parts_of c.self.inside.held) (parts_of c.do_step.new.held) c.args.step.now c.do_step.result
    (can_do (parts_of c.self.inside.held) c.args.self.now c.args.step.now c.self.view_is c.self.invariant c.requires)
    c.do_step.ensures.ok c.do_step.ensures.err

pub returns-clause-ok : goal.returns-clause-ok
returns-clause-ok c =
    let p = parts_of c.self.inside.held in
    let q = parts_of c.do_step.new.held in
    ok_by p q c.args.self.now (app_tree_of q) c.args.step.now c.do_step.result c.self.view_is refl
    (can_do p c.args.self.now c.args.step.now c.self.view_is c.self.invariant c.requires) c.do_step.ensures.ok

pub returns-clause-err : goal.returns-clause-err
returns-clause-err c =
    let p = parts_of c.self.inside.held in
    let q = parts_of c.do_step.new.held in
    err_by p q c.args.self.now (app_tree_of q) c.do_step.result c.self.view_is refl c.do_step.ensures.err
