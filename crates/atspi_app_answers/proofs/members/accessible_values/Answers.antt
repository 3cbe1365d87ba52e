use Rattle.std.proofs.Common.{sym, ap, ◌∙◌}
use Rattle.std.proofs.lemmas.Result.{IfOk-weaker}
use Rattle.atspi_protocol.specs.objects.Answers.{tells_all}
use Rattle.atspi_app_answers.specs.Seen.{seen}
use Rattle.atspi_app_answers.proofs.members.accessible_values.Goals as goal

pub returns : goal.returns
returns c =
    IfOk-weaker c.one.result _ _
    (λ v h faces id s is. c.in_ok-value.ensures faces id s is ∙ ap (tells_all (seen c.args.tree.now faces c.args.bus.now id)) (sym h))
    c.one.ensures
