use Rattle.std.proofs.Common.{sym, ◌∙◌}
use Rattle.atspi_cache.proofs.Plain.{offers-at, offers-more}
use Rattle.atspi_reader_known.proofs.fresh.offers.Goals as goal

pub returns-then-is_word : goal.returns-then-is_word
returns-then-is_word c = sym (offers-at c.args.word.now _ c.args.interfaces.now c.loop-interface.interface-index _ c.loop-interface-test.true c.interface-item.is (sym c.is_word.ensures ∙ c.if-is_word.true))

pub loop-interface-preserved : goal.loop-interface-preserved
loop-interface-preserved c = offers-more c.args.word.now _ c.args.interfaces.now c.loop-interface.interface-index _ c.loop-interface-test.true c.interface-item.is (sym c.is_word.ensures ∙ c.if-is_word.false) c.loop-interface.invariant
