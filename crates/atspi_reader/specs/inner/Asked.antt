-- What a reader asks next: the next call of the start, or else what is wanted first, where no call waits.
use Rattle.std.specs.Prelude.{◌≡◌, ◌≤◌, ◌<◌, ℕ, ◌+◌, List, [], ◌∷◌, ◌++◌, Option, Some, None, Result, OnOk, OnErr, IfOk}
use Rattle.std.specs.Prelude.{IsErrOf}
use Rattle.atspi_protocol.specs.declared.ends.fault.EndFault.{EndFault}
use Rattle.atspi_protocol.specs.declared.ends.fault.EndFault.TheVariants.{Spent}
use Rattle.atspi_protocol.specs.declared.following.question.Question.{Question}
use Rattle.atspi_protocol.specs.following.ReaderState.{Done, sends, Pending, ReaderState}
use Rattle.atspi_protocol.specs.following.Calls.{asking}
use Rattle.atspi_reader.specs.inner.Turns.{did}
use Rattle.atspi_reader.specs.declared.asks.Next.{Next}
use Rattle.atspi_reader.specs.declared.asks.Next.TheVariants.{Nothing, Start, Wish}

-- the question that goes out, given the call that waits, the calls of the start that are to come and the first wish
abbrev pub chosen : {P : Type 0} → Option P → List Question → Option Question → Option Question
chosen (Some waiting) to_come wish = None
chosen None (start ∷ to_come) wish = Some start
chosen None [] wish = wish

-- what then happens with it
abbrev pub next_for : {P : Type 0} → Option P → ℕ → List Question → Option Question → Next
next_for (Some waiting) number to_come wish = Nothing
next_for None number (start ∷ to_come) wish = Start number
next_for None number [] (Some wish) = Wish number wish
next_for None number [] None = Nothing

-- its message, and the number of the one after it
abbrev pub sent : ℕ → Option Question → List Done
sent number None = []
sent number (Some question) = sends (asking number question) ∷ []

abbrev pub number_after : ℕ → Option Question → ℕ
number_after number None = number
number_after number (Some question) = number + 1

-- the call waits from then on
abbrev pub waits : ReaderState → List Question → ℕ → Question → ReaderState
waits s to_come number question =
    record s { to_come = to_come; pending = Some (record { serial = number; question = question }); next = number + 1 }

abbrev pub started : ReaderState → ℕ → List Question → ReaderState
started s number [] = s
started s number (start ∷ to_come) = waits s to_come number start

abbrev pub went_on : Next → ReaderState → ReaderState
went_on Nothing s = s
went_on (Start number) s = started s number s.to_come
went_on (Wish number question) s = waits s s.to_come number question

-- The question was asked, and its message has a number; or it would pass the last one, or memory was wanting.
pub record Asks (result : Result Next EndFault) (before after : List Done) (pending : Option Pending) (number : ℕ)
    (to_come : List Question) (wish : Option Question) : Type 0 where
  pub queued : OnOk result (after ≡ before ++ sent number (chosen pending to_come wish))
  pub next : IfOk result (λ next. next ≡ next_for pending number to_come wish)
  pub room : OnOk result (number_after number (chosen pending to_come wish) ≤ 4294967296)
  pub spent : IsErrOf result Spent → 4294967296 < number_after number (chosen pending to_come wish)

-- The same, of a reader's own queue, where no call waits any more.
pub record Queues (result : Result Next EndFault) (old new : ReaderState) (to_come : List Question)
    (wish : Option Question) : Type 0 where
  pub queued : OnOk result (new ≡ did old (sent old.next (chosen {P = Pending} None to_come wish)))
  pub next : IfOk result (λ next. next ≡ next_for {P = Pending} None old.next to_come wish)
  pub room : OnOk result (number_after old.next (chosen {P = Pending} None to_come wish) ≤ 4294967296)
  pub spent : IsErrOf result Spent → 4294967296 < number_after old.next (chosen {P = Pending} None to_come wish)
  pub kept : OnErr result (new ≡ old)
