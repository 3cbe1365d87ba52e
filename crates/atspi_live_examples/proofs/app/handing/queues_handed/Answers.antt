use Rattle.std.proofs.Common.{◌≡◌, List, [], ◌∷◌, ◌++◌, refl, sym, ap, ◌∙◌}
use Rattle.atspi_message.specs.Envelope.{Envelope}
use Rattle.atspi_protocol.specs.exporting.Exporter.{Exporter, Happening, hears, sends}
use Rattle.atspi_live_app.specs.Standing.{sent_in}
use Rattle.atspi_live_examples.proofs.app.handing.queues_handed.Goals as goal

-- what was handed over of one thing is that
one : (done : List Happening) (h : Happening) → done ++ [] ≡ h ∷ [] → done ≡ h ∷ []
one [] h all = absurd cc
one (x ∷ []) h all = all
one (x ∷ y ∷ done) h all = absurd cc

out_is : (s : Exporter) (done : List Happening) (h : Happening) → record s { out = done ++ [] } ≡ record s { out = h ∷ [] } → sent_in done ≡ sent_in (h ∷ [])
out_is s done h whole = ap (λ (hs : List Happening). sent_in hs) (one done h (ap (λ (x : Exporter). x.out) whole))

some_none : {e : Envelope} → e ∷ [] ≡ [] → ⊥
some_none h = cc

pub returns-clause-hands : goal.returns-clause-hands
returns-clause-hands c e s = (sends e ∷ [], refl, refl)

pub returns-clause-hands_none : goal.returns-clause-hands_none
returns-clause-hands_none c e s h = some_none (sym (out_is s h.0 (sends e) h.1) ∙ h.2)

pub returns-clause-hands_rest : goal.returns-clause-hands_rest
returns-clause-hands_rest c a b s = (hears a b ∷ [], refl, refl)
