use Rattle.std.proofs.Common.{sym, ap, ◌∙◌, w32, SFits, rules}
use Rattle.std.proofs.lemmas.Int.{to_z-of_z}
use Rattle.std.proofs.lemmas.Result.{IfOk-weaker}
use Rattle.atspi_protocol.specs.objects.Answers.{changes}
use Rattle.atspi_app.proofs.called.contents.settled.Goals as goal

pub returns-in-Some : goal.returns-in-Some
returns-in-Some c =
    let fits : SFits w32 c.args.id = search rules in
    IfOk-weaker c.changed.result _ _ (λ x h a is. h a (is ∙ sym (to_z-of_z w32 c.args.id fits)) ∙ ap (changes a) (sym c.in-Some.is)) c.changed.ensures

pub returns-in-None : goal.returns-in-None
returns-in-None c =
    let fits : SFits w32 c.args.id = search rules in
    IfOk-weaker c.unchanged.result _ _ (λ x h a is. h a (is ∙ sym (to_z-of_z w32 c.args.id fits)) ∙ ap (changes a) (sym c.in-None.is)) c.unchanged.ensures
