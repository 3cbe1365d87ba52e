-- News as a reader takes them.
use Rattle.std.specs.Prelude.{◌≡◌, ◌<◌, ◌≤◌, List, ◌++◌, Option, Result, IfOk, IsErrOf, OnOk, OnErr}
use Rattle.std.specs.List.{list_any}
use Rattle.atspi_message.specs.Envelope.{Envelope}
use Rattle.atspi_tree_model.specs.declared.news.News.{News}
use Rattle.atspi_protocol.specs.news.NewsOf.{or_empty}
use Rattle.atspi_protocol.specs.declared.ends.fault.EndFault.{EndFault}
use Rattle.atspi_protocol.specs.declared.ends.fault.EndFault.TheVariants.{Spent}
use Rattle.atspi_protocol.specs.declared.following.question.Question.{Question}
use Rattle.atspi_protocol.specs.following.ReaderState.{Followed, Done, ReaderState, is_named}
use Rattle.atspi_protocol.specs.following.Replied.{changed}
use Rattle.atspi_protocol.specs.following.Takes.{folded}
use Rattle.atspi_reader.specs.declared.asks.Next.{Next}
use Rattle.atspi_reader.specs.inner.Turns.{did, with_apps, noted_if}
use Rattle.atspi_reader.specs.inner.Asked.{chosen, next_for, number_after, sent, went_on}

-- new applications, news of the sender, and what is asked next, once it is queued
abbrev pub heard : ReaderState → Envelope → List Followed → News → Next → ReaderState
heard s e more news next =
    went_on next
    (noted_if (list_any (is_named (or_empty e.sender)) s.apps)
    (with_apps s (changed (folded news) (or_empty e.sender) (s.apps ++ more))) e)

-- What is said and asked at news was queued, and its message has a number; or it would pass the last one, or memory was
-- wanting, and then all is as before.
pub record Speaks (result : Result Next EndFault) (old new : ReaderState) (said : List Done) (wish : Option Question)
    : Type 0 where
  pub queued : OnOk result (new ≡ did old (said ++ sent old.next (chosen old.pending old.to_come wish)))
  pub next : IfOk result (λ next. next ≡ next_for old.pending old.next old.to_come wish)
  pub room : OnOk result (number_after old.next (chosen old.pending old.to_come wish) ≤ 4294967296)
  pub spent : IsErrOf result Spent → 4294967296 < number_after old.next (chosen old.pending old.to_come wish)
  pub kept : OnErr result (new ≡ old)
