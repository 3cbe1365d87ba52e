use Rattle.atspi_whole_tree.specs.inner.Tables.{parts_of}
use Rattle.atspi_whole_tree.proofs.Read.{there, no_columns, some_columns, not_false, not_true}
use Rattle.atspi_whole_tree.proofs.whole.WholeTree.columns.Goals as goal

pub kinds-kinds-requires : goal.kinds-kinds-requires
kinds-kinds-requires c = there (parts_of c.self.inside.held) c.args.self.now c.args.node c.self.view_is c.requires

pub returns-then-not-kinds : goal.returns-then-not-kinds
returns-then-not-kinds c =
    no_columns (parts_of c.self.inside.held) c.args.self.now c.args.node c.kinds-kinds.result c.self.view_is c.self.invariant c.kinds-kinds.ensures (not_true _ c.if-not-kinds.true)

pub returns : goal.returns
returns c =
    some_columns (parts_of c.self.inside.held) c.args.self.now c.args.node c.kinds-kinds.result c.self.view_is c.self.invariant c.kinds-kinds.ensures c.count.result
    (not_false _ c.if-not-kinds.false) c.count.ensures
