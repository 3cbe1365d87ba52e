-- Messages that a bus may say.
use Rattle.std.specs.Prelude.{◌≢◌, ℕ}
use Rattle.atspi_types.specs.Data.{items_of, AreWellTyped}
use Rattle.atspi_message.specs.Envelope.{Envelope}
use Rattle.atspi_message.specs.Rules.{MeetsRules}
use Rattle.atspi_match.specs.routing.BusState.{BusState, unique_of}
use Rattle.atspi_match.specs.routing.OwnMessages.{return_to, error_to}
use Rattle.atspi_match.specs.routing.Answers.{Reply, returns, fails}

-- with any serial but 0 it meets the rules
abbrev pub MaySay : Envelope → Type 0
MaySay e = (n : ℕ) → n ≢ 0 → MeetsRules (record e { serial = n })

-- the values of a reply are well typed
abbrev pub IsTyped : Reply → Type 0
IsTyped (returns values) = AreWellTyped (items_of values)
IsTyped (fails name) = Unit {0}

-- the reply to a call, as a message
abbrev pub reply_message : BusState → ℕ → ℕ → Reply → Envelope
reply_message s conn serial (returns values) = return_to (unique_of s.owners conn) serial values
reply_message s conn serial (fails name) = error_to (unique_of s.owners conn) serial name
