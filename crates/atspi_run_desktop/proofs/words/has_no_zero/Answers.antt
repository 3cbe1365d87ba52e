use Rattle.std.proofs.Common.{refl, subst, sym, chars}
use Rattle.std.proofs.lemmas.Bool.{false≢true}
use Rattle.atspi_base.specs.Text.{HasNoZero}
use Rattle.atspi_base.proofs.TextLemmas.{text_is}
use Rattle.atspi_run_desktop.proofs.OfWords.{zero_there}
use Rattle.atspi_run_desktop.proofs.words.has_no_zero.Goals as goal

pub returns-in-Ok : goal.returns-in-Ok
returns-in-Ok c = (λ _. subst HasNoZero c.as_bytes.ensures.value (text_is c.as_bytes.result.now (chars c.as_bytes.result.now) c.in-Ok.ensures.text).2, λ _. refl)

pub returns-in-Err : goal.returns-in-Err
returns-in-Err c = (
  λ t. absurd (false≢true t),
  λ none. absurd (zero_there c.read_str.result _ c.as_bytes.result.now c.in-Err.is c.as_bytes.ensures.utf8 c.read_str.ensures.text (subst HasNoZero (sym c.as_bytes.ensures.value) none)),
)
