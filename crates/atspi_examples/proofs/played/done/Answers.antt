use Rattle.std.proofs.Common.{refl, ◌∷◌, [], None, codes}
use Rattle.atspi_script_lines.specs.declared.limits.TheConstants.{QUOTA_MOST}
use Rattle.atspi_script_lines.specs.declared.line.Line.TheVariants.{Blank, Call, Drain, Reader as Reader_line}
use Rattle.atspi_script_lines.specs.declared.line.Party.TheVariants.{Reader}
use Rattle.atspi_protocol.specs.declared.following.question.Question.TheVariants.{Hello}
use Rattle.atspi_protocol.specs.following.Calls.{asking}
use Rattle.atspi_trace.specs.Causes.{calls, starts_reader, tells_quiet}
use Rattle.atspi_trace.specs.Entry.{quiet, sent, started}
use Rattle.atspi_trace.specs.Work.{doing, draining, resting}
use Rattle.atspi_trace.specs.play.Playing.{first_playing}
use Rattle.atspi_trace.specs.play.Plays.{plays}
use Rattle.atspi_trace.specs.play.Played.{begun, did}
use Rattle.atspi_examples.specs.Players.{at_rest, caret, caret_call}
use Rattle.atspi_examples.proofs.PlayingOut.{over, one_cause}
use Rattle.atspi_examples.proofs.played.done.Goals as goal

pub returns-clause-none : goal.returns-clause-none
returns-clause-none c = begun

pub returns-clause-blank : goal.returns-clause-blank
returns-clause-blank c = did [] Blank [] [] (first_playing QUOTA_MOST) (first_playing QUOTA_MOST) begun refl (over (first_playing QUOTA_MOST) resting refl) refl

pub returns-clause-two : goal.returns-clause-two
returns-clause-two c =
    let p = first_playing QUOTA_MOST in
    let q = (plays p starts_reader).now in
    let drained = did [] Drain [] (quiet ∷ []) p p begun refl (one_cause p tells_quiet draining resting refl refl) refl in
    did (Drain ∷ []) Reader_line (quiet ∷ []) (started (Reader 0) None ∷ sent (Reader 0) (asking 1 Hello) ∷ []) p q drained refl
    (one_cause p starts_reader (doing starts_reader) resting refl refl) refl

pub returns-clause-called : goal.returns-clause-called
returns-clause-called c = λ b lines entries before.
    let p = at_rest b in
    let call = calls 4 (codes ":1.1") 1 caret in
    did lines (Call 1 1 1 caret) entries (sent (Reader 1) caret_call ∷ []) p (plays p call).now before refl (one_cause p call (doing call) resting refl refl) refl
