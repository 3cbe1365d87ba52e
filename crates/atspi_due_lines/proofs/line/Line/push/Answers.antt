use Rattle.std.proofs.Common.{sym, subst}
use Rattle.std.proofs.lemmas.Str.{IsUtf8-string_bytes}
use Rattle.atspi_base.specs.Text.{HasNoZero}
use Rattle.atspi_speech.proofs.LineLemmas.{no_zero-append, appended}
use Rattle.atspi_due_lines.proofs.line.Line.push.Goals as goal

pub invariant_of-self-2 : goal.invariant_of-self-2
invariant_of-self-2 c =
    subst HasNoZero (sym c.in_ok-push_str.ensures.bytes) (no_zero-append _ _ c.self.invariant c.as_str.ensures.no_zero)

pub returns : goal.returns
returns c =
    appended _ _ _ _ _ (IsUtf8-string_bytes c.self.inside.string) c.in_ok-push_str.ensures.bytes c.self.view_is
    c.as_str.ensures.chars
