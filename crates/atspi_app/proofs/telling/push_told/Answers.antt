use Rattle.std.proofs.Common.{ℕ, List, ap, ◌∙◌}
use Rattle.std.proofs.lemmas.Result.{on_ok_weaker}
use Rattle.atspi_protocol.specs.announcing.Announced.{announced}
use Rattle.atspi_app_signals.specs.Asked.{messages_asked}
use Rattle.atspi_app.proofs.Told.{mail_unnumbered, step_is_told}
use Rattle.atspi_app.proofs.telling.push_told.Goals as goal

pub push_all-requires : goal.push_all-requires
push_all-requires c = mail_unnumbered c.heard.result.now c.args.bus.now c.args.tree.now.rows c.args.step.now c.in_ok-mail.mail c.in_ok-mail.ensures

pub returns : goal.returns
returns c = on_ok_weaker c.push_all.result (λ n f e.
    step_is_told c.args.known.now.heard c.args.bus.now f c.args.step.now c.in_ok-copy.copy _ _ _ c.in_ok-mail.mail c.in_ok-copy.ensures c.in_ok-push_step.ensures.ok n
    (c.in_ok-mail.ensures f e ∙ ap (λ (h : List (List ℕ × List ℕ)). messages_asked h (announced c.args.bus.now f c.args.step.now)) c.heard.ensures)) c.push_all.ensures
