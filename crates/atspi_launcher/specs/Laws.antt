-- What holds of a launcher, whatever it takes.
use Rattle.std.specs.Prelude.{◌≡◌, ℕ, List, [], ◌∷◌, fold}
use Rattle.atspi_message.specs.Envelope.{Envelope}
use Rattle.atspi_message.specs.Rules.{MeetsRules}
use Rattle.atspi_launcher.specs.Launching.{LauncherState, launcher_takes, started, takes}

abbrev pub AllMeet : List Envelope → Type 0
AllMeet [] = Unit {0}
AllMeet (e ∷ es) = MeetsRules e × AllMeet es

-- each message that it sends meets the rules of messages, where those that it took did
abbrev pub SendsMessages : Type 0
SendsMessages = (address : List ℕ) (took : List Envelope) → AllMeet took
    → AllMeet (fold takes (started address) took).out

-- it tells the same address for ever
abbrev pub AddressStays : Type 0
AddressStays = (s : LauncherState) (e : Envelope) → (launcher_takes s e).state.address ≡ s.address
