use Rattle.std.proofs.Common.{refl}
use Rattle.std.proofs.lemmas.Bool.Decides.{Decides-eqb}
use Rattle.std.proofs.lemmas.Bool.{false≢true}
use Rattle.std.proofs.lemmas.Slice.Eq.{strip_prefix_is}
use Rattle.atspi_match.proofs.Texts.{within_none, within_itself, within_head}
use Rattle.atspi_match.proofs.matching.is_within.Goals as goal

pub returns-in-Some-empty : goal.returns-in-Some-empty
returns-in-Some-empty c = (
  λ _. within_itself c.args.separator c.args.namespace.now c.args.text.now c.in-Some-empty.field-0.now
      (rw c.in-Some-empty.is at (strip_prefix_is Decides-eqb c.args.text.now c.args.namespace.now c.strip_prefix.result c.strip_prefix.ensures.cases))
      c.in-Some-empty.len_below,
  λ _. refl,
)

pub returns-in-Some-len1-up : goal.returns-in-Some-len1-up
returns-in-Some-len1-up c =
    within_head c.args.separator c.args.namespace.now c.args.text.now c.in-Some-len1-up.field-0.now
    (rw c.in-Some-len1-up.is at (strip_prefix_is Decides-eqb c.args.text.now c.args.namespace.now c.strip_prefix.result c.strip_prefix.ensures.cases))
    c.in-Some-len1-up.len_at_least

pub returns-in-None : goal.returns-in-None
returns-in-None c = (
  λ e. absurd (false≢true e),
  λ within. absurd (within_none c.args.separator c.args.namespace.now c.args.text.now
      (rw c.in-None.is at (strip_prefix_is Decides-eqb c.args.text.now c.args.namespace.now c.strip_prefix.result c.strip_prefix.ensures.cases)) within),
)
