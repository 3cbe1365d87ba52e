use Rattle.std.proofs.Common.{rules, sym, subst}
use Rattle.atspi_script_lines.proofs.LeadLemmas.{quote_of}
use Rattle.atspi_script_lines.specs.Words.{IsBehind}
use Rattle.atspi_script_lines.specs.inner.Reading.{IsTextOf}
use Rattle.atspi_script_lines.proofs.quoted.next_text.Goals as goal

pub returns-then-not-is_end : goal.returns-then-not-is_end
returns-then-not-is_end c = λ text rest h.
    let is = quote_of text c.in-Some-2.raw.items c.in-Some-2.rest.now rest c.in-Some.behind.now c.args.bytes.now c.in-Some.ensures (rw c.in-Some-2.is at c.in_ok-raw.ensures) h in
    let end = c.if-not-is_end.ensures.1 (subst IsBehind (sym is.1) h.behind) in
    search (rules, end)

pub returns : goal.returns
returns c = λ text rest h.
    let is = quote_of text c.in-Some-2.raw.items c.in-Some-2.rest.now rest c.in-Some.behind.now c.args.bytes.now c.in-Some.ensures (rw c.in-Some-2.is at c.in_ok-raw.ensures) h in
    (rw c.in-None.is at c.in_ok-text.ensures) text (subst (λ l. IsTextOf l text) (sym c.deref.ensures.value) is.0)
