use Rattle.std.proofs.Common.{◌≡◌, false, true, refl}
use Rattle.atspi_live_conversation.proofs.SentLemmas.{may_say}
use Rattle.atspi_live_conversation.proofs.StepLemmas.{lines_uttered, on_ok, uttered}
use Rattle.atspi_live_conversation.proofs.conversation.Conversation.utter.Goals as goal

pub returns-then-not-ready-clause-ok : goal.returns-then-not-ready-clause-ok
returns-then-not-ready-clause-ok g c aside t h a =
    lines_uttered (g.E.BusEnd.Stands aside) t h c.args.self.now c.say_lines.new.self c.args.end.now a
    c.in_default.ensures.unsent c.in_default.ensures.none c.in_default.ensures.stage c.in_default.ensures.line c.in_default.ensures.feeder c.in_default.ensures.heard

pub returns-clause-ok : goal.returns-clause-ok
returns-clause-ok g c =
    on_ok c.say.result _ _
    (λ s aside t h a. uttered (g.E.BusEnd.Stands aside) t h c.say_lines.new.self _ c.args.end.now c.say.new.end
    (lines_uttered (g.E.BusEnd.Stands aside) t h c.args.self.now c.say_lines.new.self c.args.end.now a
    c.in_default.ensures.unsent c.in_default.ensures.none c.in_default.ensures.stage c.in_default.ensures.line c.in_default.ensures.feeder c.in_default.ensures.heard)
    (c.if-not-ready.ensures.0 refl) c.in_default.ensures.none (s aside) refl refl refl)
    c.say.ensures.says

pub returns-clause-may : goal.returns-clause-may
returns-clause-may g c = on_ok c.say.result _ _ (λ s. may_say g.E.BusEnd.Stands c.args.end.now c.say.new.end c.say_lines.new.self.unsent _ c.requires s) c.say.ensures.says

pub returns-clause-uttered : goal.returns-clause-uttered
returns-clause-uttered g c = on_ok c.say.result _ _ (λ e. record { lines = c.in_default.ensures.none; none_left = λ none over. e none }) c.say.ensures.empty

false_not : {P : Type 0} → false ≡ true → P
false_not h = absurd cc

pub returns-then-not-ready-clause-uttered : goal.returns-then-not-ready-clause-uttered
returns-then-not-ready-clause-uttered g c = record { lines = c.in_default.ensures.none; none_left = λ none over. false_not (c.if-not-ready.ensures.1 over) }
