use Rattle.atspi_run.proofs.WordLemmas.{no_choice, not_if}
use Rattle.atspi_run.proofs.words.asked_options.Goals as goal

pub returns-then-is_alone : goal.returns-then-is_alone
returns-then-is_alone c = c.is_alone.ensures.0 c.if-is_alone.true

pub returns-then-are_two : goal.returns-then-are_two
returns-then-are_two c = c.are_two.ensures.0 c.if-are_two.true

pub returns-then-are_two-2 : goal.returns-then-are_two-2
returns-then-are_two-2 c = c.are_two-2.ensures.0 c.if-are_two-2.true

pub returns-then-are_three : goal.returns-then-are_three
returns-then-are_three c = c.are_three.ensures.0 c.if-are_three.true

pub returns : goal.returns
returns c = λ options is.
    no_choice _ (not_if c.is_alone.result c.if-is_alone.false c.is_alone.ensures.1) (not_if c.are_two.result c.if-are_two.false c.are_two.ensures.1) (not_if c.are_two-2.result c.if-are_two-2.false c.are_two-2.ensures.1)
    (not_if c.are_three.result c.if-are_three.false c.are_three.ensures.1) options.brief options.wire is
