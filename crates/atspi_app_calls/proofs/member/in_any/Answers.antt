use Rattle.std.proofs.Common.{sym, ap₂, ◌∙◌}
use Rattle.atspi_tree_model.specs.Forest.{first_of}
use Rattle.atspi_app_calls.proofs.Members.{any_is}
use Rattle.atspi_app_calls.proofs.member.in_any.Goals as goal

pub returns : goal.returns
returns c =
    c.first_of-5.ensures
    ∙ ap₂ first_of c.offered-accessible.ensures
    (c.first_of-4.ensures
    ∙ ap₂ first_of c.offered-application.ensures
    (c.first_of-3.ensures
    ∙ ap₂ first_of c.offered-cache.ensures (c.first_of-2.ensures ∙ ap₂ first_of c.offered-text.ensures (c.first_of.ensures ∙ ap₂ first_of c.offered-editable.ensures c.in_later-later.ensures))))
    ∙ sym (any_is c.args.object c.args.name.now)
