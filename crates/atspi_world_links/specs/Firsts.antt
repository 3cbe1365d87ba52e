-- The first message of bytes.
use Rattle.std.specs.Prelude.{◌≡◌, ℕ, Option, Some, None}
use Rattle.atspi_message.specs.Envelope.{Envelope}
use Rattle.atspi_message_in_place.specs.View.{envelope_at}
use Rattle.atspi_world_links.specs.declared.reading.Whole.{Whole}

-- this message was found, and it takes so many bytes
abbrev pub IsGiven : Option Whole → Envelope → ℕ → Type 0
IsGiven (Some first) e len = (envelope_at first.message ≡ e) × (first.len ≡ len)
IsGiven None e len = ⊥
