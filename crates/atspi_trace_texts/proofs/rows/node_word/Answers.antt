use Rattle.std.proofs.Common.{rules, sym}
use Rattle.atspi_trace_texts.proofs.NodeLemmas.{no_word, word_told}
use Rattle.atspi_trace_texts.proofs.rows.node_word.Goals as goal

pub returns-then-not-is_node_word : goal.returns-then-not-is_node_word
returns-then-not-is_node_word c =
    sym (no_word c.args.path.now c.in-Some.word.now c.in-Some.ensures (λ is. let yes = c.if-not-is_node_word.ensures.1 is in search (rules, yes)))

pub returns : goal.returns
returns c = sym (word_told c.args.path.now c.in-Some.word.now c.in-Some.ensures (c.if-not-is_node_word.ensures.0 (search rules)))
