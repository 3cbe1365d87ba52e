use Rattle.std.proofs.Common.{◌≡◌, [], ◌∷◌, refl}
use Rattle.atspi_message.specs.Envelope.{Envelope}
use Rattle.atspi_protocol.specs.exporting.Exporter.{sends}
use Rattle.atspi_live_app.proofs.examples.handing.kinds_handed.Goals as goal

pub returns-clause-message : goal.returns-clause-message
returns-clause-message c m = refl

pub returns-clause-other_message : goal.returns-clause-other_message
returns-clause-other_message c m e differ h = differ (by h)
  where
    by : {x y : Envelope} → sends x ≡ sends y → x ≡ y
    by h = cc

pub returns-clause-heard : goal.returns-clause-heard
returns-clause-heard c a b = refl

pub returns-clause-message_aside : goal.returns-clause-message_aside
returns-clause-message_aside c e h = by h
  where
    by : e ∷ [] ≡ [] → ⊥
    by h = cc

pub returns-clause-nothing : goal.returns-clause-nothing
returns-clause-nothing c x h = h
