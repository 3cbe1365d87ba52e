use Rattle.std.proofs.Common.{sym, subst, ◌∙◌, chars}
use Rattle.atspi_protocol.specs.members.Asked.{properties_of}
use Rattle.atspi_app_calls.specs.Object.{object_of}
use Rattle.atspi_app_calls.specs.inner.Ask.{AreAll}
use Rattle.atspi_app_calls.proofs.PropertyLemmas.{some_property, no_property}
use Rattle.atspi_app_calls.proofs.asking.property.Goals as goal

pub returns-in-Some : goal.returns-in-Some
returns-in-Some c =
    let o = c.args.object in
    let i = c.args.interface.now in
    let has = subst (λ r. AreAll r (properties_of (object_of o) (chars i))) c.in-Ok.is c.interface_of.ensures in
    some_property o i c.args.name.now c.in-Ok.named c.utf8.name has c.in-Some.property (sym c.in-Some.is ∙ c.property_in.ensures)

pub returns-in-None : goal.returns-in-None
returns-in-None c =
    let o = c.args.object in
    let i = c.args.interface.now in
    let has = subst (λ r. AreAll r (properties_of (object_of o) (chars i))) c.in-Ok.is c.interface_of.ensures in
    no_property o i c.args.name.now c.in-Ok.named c.utf8.name has (sym c.in-None.is ∙ c.property_in.ensures)
