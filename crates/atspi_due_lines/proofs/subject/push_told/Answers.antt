use Rattle.std.proofs.Common.{◌∙◌, arith}
use Rattle.atspi_speech.proofs.PlainLemmas.{plain_decimal}
use Rattle.atspi_speech.proofs.LineLemmas.{told_secret}
use Rattle.atspi_due_lines.proofs.subject.push_told.Goals as goal

pub push_word-requires : goal.push_word-requires
push_word-requires c = record {
  plain = rw (c.as_str.ensures.value ∙ c.in_ok-count.ensures.ok) (plain_decimal c.count.result (omega arith));
}

pub returns : goal.returns
returns c =
    told_secret _ c.args.role c.count.result _ _ _ _ c.args.text.now (omega arith)
    (c.as_str.ensures.value ∙ c.in_ok-count.ensures.ok) c.count.ensures c.in_ok-push_word.ensures c.push_word-2.ensures
