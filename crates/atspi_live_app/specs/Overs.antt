-- How an application that exports its tree on a link comes to its end.
use Rattle.std.specs.Prelude.{◌≡◌, ℕ, List, Option, None, Some, ⊤}
use Rattle.atspi_auth.specs.Talk.{after, behind, client_start, fault_in}
use Rattle.atspi_message.specs.Envelope.{Envelope}
use Rattle.atspi_stream.specs.Stream.{AwaitsMore, IsParted}
use Rattle.atspi_live_host.specs.declared.call.Call.{Call}
use Rattle.atspi_live_host.specs.Calls.{taken}
use Rattle.atspi_live_conversation.specs.Moved.{AllGoOn, reads}
use Rattle.atspi_live_conversation.specs.Speech.{Ends, Speaks, envelopes}
use Rattle.atspi_live_conversation.specs.Talking.{Blames}
use Rattle.atspi_live_app.specs.Standing.{Event, IsAfter, IsSpent}
use Rattle.atspi_live_app.specs.Live.{IsStopped}
use Rattle.atspi_live_app.specs.declared.live_app.Stop.{Stop}
use Rattle.atspi_live_app.specs.declared.over.Over.{Over}
use Rattle.atspi_live_app.specs.declared.over.Over.TheVariants as overs

-- nothing of the bytes that were taken is at fault, and where the messages that are whole were taken a line is not done
-- for this
pub record StopsBy (IsOrder : List Event → List (List ℕ) → Type 0) (lines : List (List ℕ)) (stop : Stop) (t : List ℕ)
    : Type 0 where
  pub authenticated : fault_in (after client_start t).stage ≡ None
  pub messages : List (Envelope × List ℕ)
  pub rest : List ℕ
  pub parted : IsParted (behind client_start t) messages rest
  pub awaits : AwaitsMore rest
  pub stopped : IsStopped IsOrder stop lines (envelopes messages)

abbrev pub StopsSo : (List Event → List (List ℕ) → Type 0) → List (List ℕ) → Stop → ℕ → Option (List Call) → Type 0
StopsSo IsOrder lines stop k None = ⊤
StopsSo IsOrder lines stop k (Some cs) = StopsBy IsOrder lines stop (taken k cs) × AllGoOn (reads k cs)

-- The conversation ended, or a line was not done. Whatever the ending, but for want of memory, an application stands
-- that took the messages before it, and none of its own has passed the last number.
abbrev pub EndsSo : (List Event → List (List ℕ) → Type 0) → List (List ℕ) → ℕ → Over → ℕ → Option (List Call) → Type 0
EndsSo IsOrder lines k (overs.Ended ending) rounds calls = Ends (IsAfter IsOrder lines) IsSpent k ending rounds calls
EndsSo IsOrder lines k (overs.Stopped stop) rounds calls = StopsSo IsOrder lines stop k calls

-- what was said, and why it was over, where lines and messages came in such an order
pub record IsOver (IsOrder : List Event → List (List ℕ) → Type 0) (lines : List (List ℕ)) (k : ℕ) (over : Over)
    (rounds : ℕ) (calls : Option (List Call)) : Type 0 where
  pub speaks : Speaks (IsAfter IsOrder lines) k calls
  pub so : EndsSo IsOrder lines k over rounds calls

-- the count of failed reads and writes rose where one failed, and else is the same
abbrev pub OverBlames : Over → ℕ → ℕ → Type 0
OverBlames (overs.Ended ending) before after = Blames ending before after
OverBlames (overs.Stopped stop) before after = after ≡ before
