use Rattle.std.proofs.Common.{Option, Some, [], ◌∷◌, ◌++◌, sym, ap, ◌∙◌}
use Rattle.std.proofs.lemmas.Result.{on_ok_weaker}
use Rattle.atspi_message_in_place.specs.View.{envelope_at}
use Rattle.atspi_protocol.specs.exporting.Exporter.{Exporter}
use Rattle.atspi_live_app.specs.Live.{seen}
use Rattle.atspi_live_app.proofs.Making.{after_taken}
use Rattle.atspi_live_app.proofs.Stood.{on_both, stands_took}
use Rattle.atspi_live_app.proofs.Turning.{stays}
use Rattle.atspi_live_app.proofs.live_app.LiveAppBusEnd.take.Goals as goal

pub returns-in-Some-clause-ok : goal.returns-in-Some-clause-ok
returns-in-Some-clause-ok g c =
    on_ok_weaker c.take.result
    (λ both aside took said f. stays g.A.Application.is_app g.A.Application.exporter g.A.Application.is_kit c.args.self.now.app (Some c.take.new.self) c.args.self.now.kit c.args.self.now.input.text.items c.args.self.now.input.at
    c.args.self.now.input.number aside took (took ++ envelope_at c.args.m.now ∷ []) said said
    (λ text marks. stands_took g.A.Application.is_app g.A.Application.exporter g.A.Application.is_kit text marks c.args.self.now.app (Some c.take.new.self) c.args.self.now.kit c.args.self.now.input.text.items c.args.self.now.input.at
    c.args.self.now.input.number (envelope_at c.args.m.now) took said c.take.ensures.app both.1
    (ap (λ (s : Exporter). Some s) both.0 ∙ ap (λ (o : Option _). after_taken (seen g.A.Application.exporter o) (envelope_at c.args.m.now)) (sym c.in-Some.is))) f)
    (on_both c.take.result _ _ c.take.ensures.ok c.take.ensures.numbered)

pub returns-in-None-clause-ok : goal.returns-in-None-clause-ok
returns-in-None-clause-ok g c = λ aside took said f.
    stays g.A.Application.is_app g.A.Application.exporter g.A.Application.is_kit c.args.self.now.app c.args.self.now.app c.args.self.now.kit c.args.self.now.input.text.items c.args.self.now.input.at
    c.args.self.now.input.number aside took (took ++ envelope_at c.args.m.now ∷ []) said said
    (λ text marks h. stands_took g.A.Application.is_app g.A.Application.exporter g.A.Application.is_kit text marks c.args.self.now.app c.args.self.now.app c.args.self.now.kit c.args.self.now.input.text.items c.args.self.now.input.at
    c.args.self.now.input.number (envelope_at c.args.m.now) took said h.kept h.numbered
    (ap (λ (o : Option _). seen g.A.Application.exporter o) c.in-None.is ∙ ap (λ (o : Option _). after_taken (seen g.A.Application.exporter o) (envelope_at c.args.m.now)) (sym c.in-None.is)) h) f
