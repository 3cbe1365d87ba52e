use Rattle.std.proofs.Common.{sym, subst, ◌∙◌}
use Rattle.atspi_app_calls.specs.inner.Interface.{NamesInterface}
use Rattle.atspi_app_calls.proofs.PropertyLemmas.{not_named, not_had, had}
use Rattle.atspi_app_calls.proofs.asking.interface_of.Goals as goal

pub returns-in_default : goal.returns-in_default
returns-in_default c =
    let i = c.args.interface.now in
    not_named c.args.object i c.utf8.interface (subst (NamesInterface i) c.in_default.is c.interface_named.ensures)

pub returns-then-not-has : goal.returns-then-not-has
returns-then-not-has c =
    let i = c.args.interface.now in
    not_had c.args.object i c.in-Some.named (subst (NamesInterface i) c.in-Some.is c.interface_named.ensures) (sym c.has.ensures ∙ c.if-not-has.true)

pub returns : goal.returns
returns c =
    let i = c.args.interface.now in
    had c.args.object i c.in-Some.named (subst (NamesInterface i) c.in-Some.is c.interface_named.ensures) (sym c.has.ensures ∙ c.if-not-has.false)
