use Rattle.std.proofs.Common.{List, [], ◌∷◌, ◌++◌, subst, append-nil}
use Rattle.atspi_message.specs.Envelope.{Envelope, envelope_of}
use Rattle.atspi_live_app.specs.Live.{Stands, seen}
use Rattle.atspi_live_app.proofs.Stood.{kept_on, of_none, of_some, stands_handed, stands_meets}
use Rattle.atspi_live_app.proofs.Turning.{stays, then_of}
use Rattle.atspi_live_app.proofs.live_app.LiveAppBusEnd.next.Goals as goal

pub returns-clause-some : goal.returns-clause-some
returns-clause-some g c =
    of_some envelope_of c.next_message.result (seen g.A.Application.exporter c.args.self.now.app) (seen g.A.Application.exporter c.next_message.new.app) _ c.next_message.ensures.hands
    (λ m h aside took said f. stays g.A.Application.is_app g.A.Application.exporter g.A.Application.is_kit c.args.self.now.app c.next_message.new.app c.args.self.now.kit c.args.self.now.input.text.items c.args.self.now.input.at
    c.args.self.now.input.number aside took took said (said ++ envelope_of m ∷ [])
    (λ text marks w. stands_handed g.A.Application.is_app g.A.Application.exporter g.A.Application.is_kit text marks c.args.self.now.app c.next_message.new.app c.args.self.now.kit c.args.self.now.input.text.items c.args.self.now.input.at
    c.args.self.now.input.number (envelope_of m ∷ []) took said
    (kept_on g.A.Application.is_app g.A.Application.exporter g.A.Application.is_kit (envelope_of m ∷ []) c.args.self.now.app c.next_message.new.app c.args.self.now.kit h w.kept c.next_message.ensures.app) h w) f)

pub returns-clause-meets : goal.returns-clause-meets
returns-clause-meets g c =
    of_some envelope_of c.next_message.result (seen g.A.Application.exporter c.args.self.now.app) (seen g.A.Application.exporter c.next_message.new.app) _ c.next_message.ensures.hands
    (λ m h aside took said f meet. then_of g.A.Application.is_app g.A.Application.exporter g.A.Application.is_kit c.args.self.now.app c.args.self.now.kit c.args.self.now.input.text.items c.args.self.now.input.at
    c.args.self.now.input.number aside took said _
    (λ text marks w. stands_meets g.A.Application.is_app g.A.Application.exporter g.A.Application.is_kit text marks c.args.self.now.app c.next_message.new.app c.args.self.now.kit c.args.self.now.input.text.items c.args.self.now.input.at
    c.args.self.now.input.number (envelope_of m) took said h w meet) f)

pub returns-clause-none : goal.returns-clause-none
returns-clause-none g c =
    of_none envelope_of c.next_message.result (seen g.A.Application.exporter c.args.self.now.app) (seen g.A.Application.exporter c.next_message.new.app) _ c.next_message.ensures.hands
    (λ h aside took said f. stays g.A.Application.is_app g.A.Application.exporter g.A.Application.is_kit c.args.self.now.app c.next_message.new.app c.args.self.now.kit c.args.self.now.input.text.items c.args.self.now.input.at
    c.args.self.now.input.number aside took took said said
    (λ text marks w. subst (λ (x : List Envelope). Stands g.A.Application.is_app g.A.Application.exporter g.A.Application.is_kit text marks c.next_message.new.app c.args.self.now.kit c.args.self.now.input.text.items c.args.self.now.input.at
    c.args.self.now.input.number took x) (append-nil said)
    (stands_handed g.A.Application.is_app g.A.Application.exporter g.A.Application.is_kit text marks c.args.self.now.app c.next_message.new.app c.args.self.now.kit c.args.self.now.input.text.items c.args.self.now.input.at
    c.args.self.now.input.number [] took said
    (kept_on g.A.Application.is_app g.A.Application.exporter g.A.Application.is_kit [] c.args.self.now.app c.next_message.new.app c.args.self.now.kit h w.kept c.next_message.ensures.app) h w)) f)

pub returns-clause-empty : goal.returns-clause-empty
returns-clause-empty g c = c.next_message.ensures.empty
