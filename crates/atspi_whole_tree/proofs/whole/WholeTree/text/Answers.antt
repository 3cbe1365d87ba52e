use Rattle.atspi_whole_tree.specs.inner.Tables.{parts_of}
use Rattle.atspi_whole_tree.proofs.Read.{there, has_text, no_text, some_text}
use Rattle.atspi_whole_tree.proofs.whole.WholeTree.text.Goals as goal

pub kinds-kinds-requires : goal.kinds-kinds-requires
kinds-kinds-requires c = there (parts_of c.self.inside.held) c.args.self.now c.args.node c.self.view_is c.requires

pub returns-then-not-kinds : goal.returns-then-not-kinds
returns-then-not-kinds c =
    no_text (parts_of c.self.inside.held) c.args.self.now c.args.node c.kinds-kinds.result c.self.view_is c.self.invariant c.kinds-kinds.ensures c.if-not-kinds.true

pub text_at-requires : goal.text_at-requires
text_at-requires c =
    has_text (parts_of c.self.inside.held) c.args.self.now c.args.node c.kinds-kinds.result c.self.view_is c.self.invariant c.kinds-kinds.ensures c.if-not-kinds.false

pub returns : goal.returns
returns c =
    some_text (parts_of c.self.inside.held) c.args.self.now c.args.node c.kinds-kinds.result c.self.view_is c.self.invariant c.kinds-kinds.ensures c.in_ok-text_at.field-0
    c.in_ok-text_at.ensures
