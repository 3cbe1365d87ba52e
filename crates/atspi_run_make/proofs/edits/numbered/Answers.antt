use Rattle.std.proofs.Common.{◌∙◌, arith}
use Rattle.std.proofs.lemmas.Result.{IfOk-weaker}
use Rattle.atspi_run_make.proofs.Words.{word_chars, word_no_zero, word_short}
use Rattle.atspi_run_make.proofs.edits.numbered.Goals as goal

pub of-requires-clause-no_zero : goal.of-requires-clause-no_zero
of-requires-clause-no_zero c = word_no_zero c.args.letter.now c.args.number c.deref.result.now (c.deref.ensures ∙ c.in_ok-text.ensures.ok) (omega arith) c.requires.no_zero

pub of-requires-clause-counted : goal.of-requires-clause-counted
of-requires-clause-counted c = word_short c.args.letter.now c.args.number c.deref.result.now (c.deref.ensures ∙ c.in_ok-text.ensures.ok) (omega arith) c.requires.short

pub returns : goal.returns
returns c =
    IfOk-weaker c.of.result _ _ (λ text is. is ∙ word_chars c.args.letter.now c.args.number c.deref.result.now (c.deref.ensures ∙ c.in_ok-text.ensures.ok) (omega arith) c.requires.ascii) c.of.ensures
