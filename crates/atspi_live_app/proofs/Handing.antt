-- What an application hands over, one thing after another.
use Rattle.std.proofs.Common.{◌≡◌, ◌<◌, ◌≤◌, List, [], ◌∷◌, length, Some, refl, sym, ap, ◌∙◌, length-append, arith}
use Rattle.atspi_message.specs.Envelope.{Envelope}
use Rattle.atspi_protocol.specs.exporting.Exporter.{Exporter, Happening}
use Rattle.atspi_live_app.specs.Standing.{HandedOut, sent_in}
use Rattle.atspi_live_app.specs.HandedOver.{HandsOver, IsHanded}
use Rattle.atspi_live_app.specs.declared.next_message.Handed.{Handed}
use Rattle.atspi_live_app.specs.declared.next_message.Handed.TheVariants as handed

-- the first of what was queued
whole_out : (old new : Exporter) (h : Happening) → old.out ≡ h ∷ new.out → new ≡ record old { out = new.out } → record new { out = h ∷ new.out } ≡ old
whole_out old new h front rest = ap (λ (s : Exporter). record s { out = h ∷ new.out }) rest ∙ ap (λ (w : List Happening). record old { out = w }) (sym front)

shorter : (old new : Exporter) (h : Happening) → old.out ≡ h ∷ new.out → length new.out < length old.out
shorter old new h front = omega (arith, ap (λ (w : List Happening). length w) front)

pub handed_first : (r : Handed) (old new : Exporter) (h : Happening) → old.out ≡ h ∷ new.out → new ≡ record old { out = new.out } → IsHanded r h → HandsOver r old new
handed_first (handed.Message m) old new h front rest is =
    ((h ∷ [], whole_out old new h front rest, ap (λ (x : Happening). sent_in (x ∷ [])) is), shorter old new h front)
handed_first handed.Aside old new h front rest is = ((h ∷ [], whole_out old new h front rest, is), shorter old new h front)
handed_first handed.Nothing old new h front rest is = absurd is

pub handed_nothing : (old new : Exporter) → new.out ≡ old.out → new ≡ record old { out = new.out } → HandedOut [] (Some new) (Some old)
handed_nothing old new same rest = ([], rest ∙ ap (λ (w : List Happening). record old { out = w }) same, refl)

-- no more is queued than before
pub handed_most : (said : List Envelope) (old new : Exporter) → HandedOut said (Some new) (Some old) → length new.out ≤ length old.out
handed_most said old new h = omega (arith, length-append h.0 new.out, ap (λ (s : Exporter). length s.out) h.1)
