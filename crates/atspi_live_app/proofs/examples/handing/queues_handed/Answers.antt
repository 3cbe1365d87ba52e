use Rattle.std.proofs.Common.{◌≡◌, List, [], ◌∷◌, ◌++◌, refl, sym, ap, ◌∙◌, arith, lit<}
use Rattle.atspi_message.specs.Envelope.{Envelope, envelope_of}
use Rattle.atspi_protocol.specs.exporting.Exporter.{Exporter, Happening, deaf, hears, sends}
use Rattle.atspi_live_app.specs.Standing.{sent_in}
use Rattle.atspi_live_app.proofs.examples.handing.queues_handed.Goals as goal

-- what was handed over of one thing is that
one : (done : List Happening) (h : Happening) → done ++ [] ≡ h ∷ [] → done ≡ h ∷ []
one [] h all = absurd cc
one (x ∷ []) h all = all
one (x ∷ y ∷ done) h all = absurd cc

out_is : (s : Exporter) (done : List Happening) (h : Happening) → record s { out = done ++ [] } ≡ record s { out = h ∷ [] } → sent_in done ≡ sent_in (h ∷ [])
out_is s done h whole = ap (λ (hs : List Happening). sent_in hs) (one done h (ap (λ (x : Exporter). x.out) whole))

some_none : {e : Envelope} → e ∷ [] ≡ [] → ⊥
some_none h = cc

pub returns-clause-message : goal.returns-clause-message
returns-clause-message c m h s = ((sends (envelope_of m) ∷ [], refl, refl), lit< tt)

pub returns-clause-behind : goal.returns-clause-behind
returns-clause-behind c m a b s = ((hears a b ∷ sends (envelope_of m) ∷ [], refl, refl), lit< tt)

pub returns-clause-message_kept : goal.returns-clause-message_kept
returns-clause-message_kept c m s h = omega (arith, h.1)

pub returns-clause-no_message : goal.returns-clause-no_message
returns-clause-no_message c m a b s h = some_none (sym h.0.2 ∙ out_is s h.0.0 (hears a b) h.0.1)

pub returns-clause-aside : goal.returns-clause-aside
returns-clause-aside c a b s = ((deaf a b ∷ [], refl, refl), lit< tt)

pub returns-clause-aside_kept : goal.returns-clause-aside_kept
returns-clause-aside_kept c s h = omega (arith, h.1)

pub returns-clause-message_aside : goal.returns-clause-message_aside
returns-clause-message_aside c e s h = some_none (sym (out_is s h.0.0 (sends e) h.0.1) ∙ h.0.2)

pub returns-clause-nothing : goal.returns-clause-nothing
returns-clause-nothing c s = ([], refl, refl)

pub returns-clause-message_lost : goal.returns-clause-message_lost
returns-clause-message_lost c e s h = some_none (sym (out_is s h.0 (sends e) h.1) ∙ h.2)
