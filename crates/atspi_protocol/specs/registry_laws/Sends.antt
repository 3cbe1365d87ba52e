-- A registry from its start on, and rules for lists of messages.
use Rattle.std.specs.Prelude.{◌≢◌, List, [], ◌∷◌}
use Rattle.atspi_message.specs.Envelope.{Envelope}
use Rattle.atspi_message.specs.Rules.{MeetsRules}
use Rattle.atspi_protocol.specs.registering.RegistryState.{begins}
use Rattle.atspi_protocol.specs.registering.Steps.{Registry, starts}

-- a registry that has just started
abbrev pub started : Registry
started = starts (record { state = begins; out = [] })

-- each message meets the rules of messages
abbrev pub AllMeet : List Envelope → Type 0
AllMeet [] = Unit {0}
AllMeet (e ∷ es) = MeetsRules e × AllMeet es

-- each has a serial that is not 0
abbrev pub AreNumbered : List Envelope → Type 0
AreNumbered [] = Unit {0}
AreNumbered (e ∷ es) = (e.serial ≢ 0) × AreNumbered es
