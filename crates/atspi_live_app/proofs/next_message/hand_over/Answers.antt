use Rattle.std.proofs.Common.{subst, ◌∙◌}
use Rattle.atspi_app_known.specs.happenings.Happened.{happening_of}
use Rattle.atspi_live_app.specs.HandedOver.{IsHanded}
use Rattle.atspi_live_app.proofs.Handing.{handed_first, handed_nothing}
use Rattle.atspi_live_app.proofs.next_message.hand_over.Goals as goal

pub returns-in-Some-clause-hands : goal.returns-in-Some-clause-hands
returns-in-Some-clause-hands g c =
    handed_first c.handed_of.result (g.A.Application.exporter c.args.app.now) (g.A.Application.exporter c.next.new.self) (happening_of c.in-Some.event) c.in-Some.ensures.front c.next.ensures.rest c.handed_of.ensures

pub returns-in-None-clause-hands : goal.returns-in-None-clause-hands
returns-in-None-clause-hands g c = handed_nothing (g.A.Application.exporter c.args.app.now) (g.A.Application.exporter c.next.new.self) c.in-None.ensures.empty c.next.ensures.rest

pub returns-in-Some-clause-nothing : goal.returns-in-Some-clause-nothing
returns-in-Some-clause-nothing g c e = absurd (subst (λ h. IsHanded h (happening_of c.in-Some.event)) e c.handed_of.ensures)

pub returns-in-None-clause-nothing : goal.returns-in-None-clause-nothing
returns-in-None-clause-nothing g c e = c.in-None.ensures.empty ∙ c.in-None.ensures.front
