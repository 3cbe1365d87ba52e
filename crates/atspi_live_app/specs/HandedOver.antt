-- What an application has queued first, for its link.
use Rattle.std.specs.Prelude.{◌≡◌, ◌<◌, [], ◌∷◌, length, Some}
use Rattle.atspi_message.specs.Envelope.{envelope_of}
use Rattle.atspi_protocol.specs.exporting.Exporter.{Exporter, Happening, sends}
use Rattle.atspi_live_app.specs.Standing.{HandedOut, sent_in}
use Rattle.atspi_live_app.specs.declared.next_message.Handed.{Handed}
use Rattle.atspi_live_app.specs.declared.next_message.Handed.TheVariants as handed

abbrev pub IsHanded : Handed → Happening → Type 0
IsHanded (handed.Message m) h = h ≡ sends (envelope_of m)
IsHanded handed.Aside h = sent_in (h ∷ []) ≡ []
IsHanded handed.Nothing h = ⊥

-- it is no longer queued
abbrev pub HandsOver : Handed → Exporter → Exporter → Type 0
HandsOver (handed.Message m) old new = HandedOut (envelope_of m ∷ []) (Some new) (Some old)
    × (length new.out < length old.out)
HandsOver handed.Aside old new = HandedOut [] (Some new) (Some old) × (length new.out < length old.out)
HandsOver handed.Nothing old new = HandedOut [] (Some new) (Some old)
