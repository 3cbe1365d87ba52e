use Rattle.std.proofs.Common.{◌∙◌, sym, arith}
use Rattle.atspi_run.proofs.WordLemmas.{not_if, same_script}
use Rattle.atspi_run.proofs.words.script_numbers.Goals as goal

pub returns-in_default : goal.returns-in_default
returns-in_default c = λ n k a. c.in_default.ensures n (omega (arith, a.few)) (c.as_bytes.ensures.value ∙ a.first_is)

pub returns-in_default-read_number : goal.returns-in_default-read_number
returns-in_default-read_number c = λ n k a. c.in_default-read_number.ensures k (omega (arith, a.small)) (c.as_bytes-2.ensures.value ∙ a.second_is)

pub returns-then-is_allowed : goal.returns-then-is_allowed
returns-then-is_allowed c =
    let allowed = c.is_allowed.ensures.0 c.if-is_allowed.true in
    record {
      first_is = sym c.as_bytes.ensures.value ∙ c.in-Some.ensures.1;
      second_is = sym c.as_bytes-2.ensures.value ∙ c.in-Some-read_number.ensures.1;
      some = allowed.some;
      few = allowed.few;
      small = allowed.small;
    }

pub returns : goal.returns
returns c = λ n k a.
    not_if c.is_allowed.result c.if-is_allowed.false c.is_allowed.ensures.1
    (same_script c.args.count.now c.args.seed.now _ n k (sym c.as_bytes.ensures.value ∙ c.in-Some.ensures.1) (sym c.as_bytes-2.ensures.value ∙ c.in-Some-read_number.ensures.1) c.in-Some.ensures.0 c.in-Some-read_number.ensures.0 a)
