-- What holds of the registry at any time.
use Rattle.std.specs.Prelude.{◌≡◌, ◌==◌, ◌||◌, ℕ, Bool, true, false, List, [], ◌∷◌, filter, Some}
use Rattle.atspi_message.specs.Envelope.{Envelope}
use Rattle.atspi_protocol.specs.ends.Messages.{expects_reply}
use Rattle.atspi_protocol.specs.registering.RegistryState.{RegistryState}
use Rattle.atspi_protocol.specs.registering.Steps.{registry_takes}

-- the returns and errors among messages
abbrev pub is_reply : Envelope → Bool
is_reply e = e.kind == 2 || e.kind == 3

abbrev pub replies_in : List Envelope → List Envelope
replies_in es = filter is_reply es

-- these are one reply, to this caller and with this serial
pub record AreOneReply (replies : List Envelope) (caller : List ℕ) (serial : ℕ) : Type 0 where
  pub reply : Envelope
  pub alone : replies ≡ reply ∷ []
  pub to : reply.destination ≡ Some caller
  pub with_ : reply.reply ≡ Some serial

-- Once the registry has its name, a call that expects a reply gets exactly one, and no other message gets any.
pub record RepliesOnce : Type 0 where
  pub expected : (s : RegistryState) (e : Envelope) (own caller : List ℕ) → s.own ≡ Some own → e.sender ≡ Some caller
      → expects_reply e ≡ true
      → AreOneReply (replies_in (registry_takes s e).sent) caller e.serial
  pub unexpected : (s : RegistryState) (e : Envelope) → expects_reply e ≡ false
      → replies_in (registry_takes s e).sent ≡ []
