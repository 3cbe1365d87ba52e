use Rattle.std.proofs.Common.{◌∙◌, ap, sym}
use Rattle.atspi_auth.specs.declared.fault.AuthFault.TheVariants.{NoZero}
use Rattle.atspi_auth.specs.declared.stage.Stage.TheVariants.{Failed}
use Rattle.atspi_auth.specs.Talk.{Standing}
use Rattle.atspi_auth.proofs.HearingLemmas.{tail}
use Rattle.atspi_auth.proofs.TellsLemmas.{fails, one_more, opens_badly, opens_nothing, opens_to, refuses_as, same_standing, some_bytes}
use Rattle.atspi_auth.proofs.talk.Talk.open.Goals as goal

pub returns-then-is_empty : goal.returns-then-is_empty
returns-then-is_empty c = opens_nothing c.args.self.now c.args.piece.now c.requires.zero c.requires.fresh (sym c.is_empty.ensures ∙ c.if-is_empty.true)

pub returns-then-piece-ne0 : goal.returns-then-piece-ne0
returns-then-piece-ne0 c =
    fails c.args.self.now _ _ NoZero
    (opens_badly _ _ _ c.requires.zero (some_bytes c.args.piece.now (sym c.is_empty.ensures ∙ c.if-is_empty.false)) c.if-piece-ne0.true)
    (same_standing (Failed NoZero) _ _ _ _ (ap (λ (s : Standing). s.line) c.self.view_is ∙ c.requires.fresh) (ap (λ (s : Standing). s.unsent) c.self.view_is))

pub returns-in-Ok : goal.returns-in-Ok
returns-in-Ok c =
    let some = some_bytes c.args.piece.now (sym c.is_empty.ensures ∙ c.if-is_empty.false) in
    one_more c.in-Ok.taken c.args.self.now _ _ _ c.args.piece.now _
    (opens_to _ _ c.args.piece.now _ (tail 1 c.args.piece.now) c.requires.zero c.requires.fresh some c.if-piece-ne0.false)
    (tail 1 c.args.piece.now) some c.in-Ok.ensures

pub returns-in-Err : goal.returns-in-Err
returns-in-Err c =
    let some = some_bytes c.args.piece.now (sym c.is_empty.ensures ∙ c.if-is_empty.false) in
    refuses_as c.in-Err.fault c.args.self.now _ _ _
    (opens_to _ _ c.args.piece.now _ (tail 1 c.args.piece.now) c.requires.zero c.requires.fresh some c.if-piece-ne0.false) c.in-Err.ensures
