use Rattle.std.proofs.Common.{length, chars, sym, ap, ◌∙◌, arith}
use Rattle.atspi_faces.proofs.SideLemmas.{noted_new}
use Rattle.atspi_faces.proofs.GapLemmas.{fresh, gapped_fits, gapped_count}
use Rattle.atspi_faces.proofs.KeptLemmas.{kept_fresh}
use Rattle.atspi_faces.proofs.gap.Gap.copy_of.Goals as goal

pub grow-requires-clause-noted : goal.grow-requires-clause-noted
grow-requires-clause-noted c = noted_new (chars c.as_str-text.result.now) c.count-chars.result c.new-front.result c.new-front.ensures

pub invariant_of-result : goal.invariant_of-result
invariant_of-result c =
    let is = fresh c.in_ok-buffer.buffer c.as_str-text.result.now c.count-chars.result (c.in_ok-buffer.ensures.front ∙ c.as_bytes.ensures.value) c.in_ok-buffer.ensures.back c.as_str-text.utf8 c.as_str-text.ensures.no_zero (c.count-chars.ensures ∙ ap length (sym c.as_str-text.ensures.chars)) c.as_str-text.ensures.counted in
    kept_fresh c.in_ok-buffer.buffer c.as_str-text.result.now c.count-chars.result c.grow.new.self c.new.result (c.in_ok-buffer.ensures.front ∙ c.as_bytes.ensures.value) c.in_ok-buffer.ensures.back is.0 c.grow.ensures.side (ap (λ p. p.chars) c.grow.ensures.end) c.new.ensures

pub returns-clause-ok : goal.returns-clause-ok
returns-clause-ok c =
    let is = fresh c.in_ok-buffer.buffer c.as_str-text.result.now c.count-chars.result (c.in_ok-buffer.ensures.front ∙ c.as_bytes.ensures.value) c.in_ok-buffer.ensures.back c.as_str-text.utf8 c.as_str-text.ensures.no_zero (c.count-chars.ensures ∙ ap length (sym c.as_str-text.ensures.chars)) c.as_str-text.ensures.counted in
    is.1 ∙ c.as_str-text.ensures.chars

pub returns-clause-counted : goal.returns-clause-counted
returns-clause-counted c =
    let is = fresh c.in_ok-buffer.buffer c.as_str-text.result.now c.count-chars.result (c.in_ok-buffer.ensures.front ∙ c.as_bytes.ensures.value) c.in_ok-buffer.ensures.back c.as_str-text.utf8 c.as_str-text.ensures.no_zero (c.count-chars.ensures ∙ ap length (sym c.as_str-text.ensures.chars)) c.as_str-text.ensures.counted in
    omega (arith, gapped_fits c.in_ok-buffer.buffer _ _ is.0, gapped_count c.in_ok-buffer.buffer _ _ is.0)
