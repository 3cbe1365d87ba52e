use Rattle.std.proofs.Common.{length, get_or, ap, sym, ◌∙◌, arith}
use Rattle.std.proofs.lemmas.Bool.{eqb-true}
use Rattle.std.specs.Prelude.{slice_index}
use Rattle.atspi_audit_text.proofs.Fronts.{begins_with}
use Rattle.atspi_audit_text.proofs.readers.named_in.Goals as goal

pub returns-then-is_empty : goal.returns-then-is_empty
returns-then-is_empty c = λ reader tail h.
    let e = begins_with reader tail c.in-Some.name.now c.args.text.now c.in-Some.ensures h in
    omega (arith, ap length e, eqb-true (length c.in-Some.name.now) 0 (sym c.is_empty.ensures ∙ c.if-is_empty.true))

pub returns-then-digit-lt48 : goal.returns-then-digit-lt48
returns-then-digit-lt48 c = λ reader tail h.
    let e = begins_with reader tail c.in-Some.name.now c.args.text.now c.in-Some.ensures h in
    omega (arith, ap (λ l. get_or l 0 0) e, ap (λ l. slice_index l 0) e)

pub returns-then-reader-ge-READER_COUNT : goal.returns-then-reader-ge-READER_COUNT
returns-then-reader-ge-READER_COUNT c = λ reader tail h.
    let e = begins_with reader tail c.in-Some.name.now c.args.text.now c.in-Some.ensures h in
    let small = h.0 in
    omega (arith, small, ap (λ l. get_or l 0 0) e, ap (λ l. slice_index l 0) e)

pub returns : goal.returns
returns c = (
  omega arith,
  λ reader tail h.
      let e = begins_with reader tail c.in-Some.name.now c.args.text.now c.in-Some.ensures h in
      omega (arith, ap (λ l. get_or l 0 0) e, ap (λ l. slice_index l 0) e),
)
