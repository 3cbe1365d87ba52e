use Rattle.std.proofs.Common.{◌∙◌, ap, sym, subst}
use Rattle.atspi_auth.specs.declared.stage.Stage.TheVariants.{Over}
use Rattle.atspi_auth.specs.Talk.{IsTidy, Standing}
use Rattle.atspi_auth.proofs.TellsLemmas.{stays_failed, stays_over, tells_as, tidy_at, waits_on}
use Rattle.atspi_auth.proofs.talk.Talk.feed.Goals as goal

pub returns-in-Waits : goal.returns-in-Waits
returns-in-Waits c =
    tells_as _ _ _ _ _ _ (waits_on _ _ _ _ (ap (λ (s : Standing). s.stage) (sym c.self.view_is) ∙ c.in-Waits.is)) c.hear.ensures

pub returns-in-Over : goal.returns-in-Over
returns-in-Over c =
    stays_over c.args.self.now c.args.piece.now (ap (λ (s : Standing). s.stage) (sym c.self.view_is) ∙ c.in-Over.is)
    (ap (λ (s : Standing). s.line) (sym c.self.view_is) ∙ tidy_at c.self.inside.stage c.self.inside.line.items Over c.in-Over.is c.self.invariant)

pub returns-in-Failed : goal.returns-in-Failed
returns-in-Failed c =
    let P : Standing → Type 0 = λ s. IsTidy s.stage s.line in
    stays_failed c.args.self.now c.args.piece.now c.in-Failed.fault (ap (λ (s : Standing). s.stage) (sym c.self.view_is) ∙ c.in-Failed.is)
    (subst P c.self.view_is c.self.invariant)
