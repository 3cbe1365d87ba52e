-- How often messages are taken.
use Rattle.std.specs.Prelude.{◌≡◌, ◌⊎◌, ℕ, zero, suc, ◌+◌, ◌<◌, ◌≤◌, ◌*◌, Bool, true, false, List, [], ◌∷◌, ◌++◌}
use Rattle.std.specs.Prelude.{length, filter, Some}
use Rattle.std.specs.List.{AllByRecursion}
use Rattle.atspi_script_lines.specs.declared.line.Line.{Line}
use Rattle.atspi_script_lines.specs.declared.line.Party.TheVariants.{Reader}
use Rattle.atspi_message.specs.Envelope.{Envelope}
use Rattle.atspi_protocol.specs.declared.following.question.Question.{Question}
use Rattle.atspi_trace.specs.Entry.{Entry, sent, got}
use Rattle.atspi_trace.specs.World.{World}
use Rattle.atspi_trace.specs.Causes.{Cause, does, at_end}
use Rattle.atspi_trace.specs.Work.{next_turn}
use Rattle.atspi_trace.specs.Due.{is_lost, asks_at, begins, after_all, Begun}
use Rattle.atspi_trace_laws.specs.order.Scripts.{CanAllStand}
use Rattle.atspi_trace_laws.specs.order.Laws.{OfEachTrace}
use Rattle.atspi_trace.specs.play.Playing.{Playing}
use Rattle.atspi_trace.specs.play.Played.{IsPlayed}
use Rattle.atspi_trace.specs.play.Breaking.{PlayedTurns}

-- how many messages were taken, by the bus and by each end
abbrev pub is_taking : Entry → Bool
is_taking (got taker sender serial) = true
is_taking entry = false

abbrev pub count_taken : List Entry → ℕ
count_taken trace = length (filter is_taking trace)

-- what is sent has a serial of 32 bits
abbrev pub IsUnspent : Entry → Type 0
IsUnspent (sent who e) = e.serial < 4294967296
IsUnspent entry = Unit {0}

-- There are no more than 22 parties: the bus, the registry, 16 applications and 4 readers; and of one sender one of
-- them takes each serial at most once.
abbrev pub TurnsAreFew : Type 0
TurnsAreFew = OfEachTrace (λ trace. AllByRecursion IsUnspent trace → count_taken trace ≤ 22 * 22 * 4294967296)

-- A turn: the first thing that waits is moved; behind it a reader may send a call of its own
abbrev pub MayAsk : World → World → List Entry → Type 0
MayAsk w v es =
    ((v ≡ w) × (es ≡ []))
    ⊎ ((conn : ℕ) × (r : ℕ) × (m : Envelope) × (question : Question) × (v ≡ at_end w conn (asks_at m question))
    × (es ≡ sent (Reader r) m ∷ []))

pub record IsTurn (w v : World) (es : List Entry) : Type 0 where
  pub moves : Cause
  pub own : List Entry
  pub next : next_turn w ≡ Some moves
  pub asks : MayAsk (does w moves).world v own
  pub wrote : es ≡ (does w moves).entries ++ own

-- so many turns, one behind the other, write these entries
abbrev pub Makes : ℕ → World → List Entry → Type 0
Makes zero w es = es ≡ []
Makes (suc n) w es = (v : World) × (front : List Entry) × (rest : List Entry) × IsTurn w v front × (es ≡ front ++ rest)
    × Makes n v rest

-- Behind each front of a lawful trace each turn takes a message, but for at most 21: those that take the end of an end
-- that stopped. Of ends there are no more.
abbrev pub TurnsTake : Type 0
TurnsTake =
    (lines : List Line) (trace : List Entry) → CanAllStand lines → Begun lines trace
    → (n : ℕ) (es : List Entry) → Makes n (after_all (begins lines) trace).world es → n ≤ count_taken es + 21

-- So before a serial is spent no 2^42 turns are made, one behind the other.
abbrev pub NoTurnsWithoutEnd : Type 0
NoTurnsWithoutEnd =
    (lines : List Line) (trace : List Entry) → CanAllStand lines → Begun lines trace → (n : ℕ) (es : List Entry)
    → Makes n (after_all (begins lines) trace).world es
    → Begun lines (trace ++ es) → AllByRecursion IsUnspent (trace ++ es) → n < 4398046511104

-- So a drain ends: behind each script that is played fewer than 2^42 turns are, as long as the registry is there behind
-- the last of them (once lost it stays lost) and no serial is spent.
abbrev pub DrainsEnd : Type 0
DrainsEnd =
    (lines : List Line) (trace : List Entry) (p : Playing) → CanAllStand lines → IsPlayed lines trace p
    → (n : ℕ) (es : List Entry) (q : Playing) → PlayedTurns n p es q
    → is_lost q.world ≡ false → AllByRecursion IsUnspent (trace ++ es) → n < 4398046511104
