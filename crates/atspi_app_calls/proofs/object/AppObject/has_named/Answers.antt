use Rattle.std.proofs.Common.{sym, ap, subst, ◌∙◌}
use Rattle.atspi_message_in_place.specs.View.{bytes_of}
use Rattle.atspi_protocol.specs.members.Asked.{has_interface}
use Rattle.atspi_app_calls.specs.inner.Interface.{NamesInterface}
use Rattle.atspi_app_calls.specs.Object.{object_of}
use Rattle.atspi_app_calls.proofs.Names.{no_interface}
use Rattle.atspi_app_calls.proofs.object.AppObject.has_named.Goals as goal

pub returns-in-None : goal.returns-in-None
returns-in-None c =
    let i = c.in-Some.name.now in
    sym (no_interface i (subst (NamesInterface i) c.in-None.is c.interface_named.ensures) c.args.self)
    ∙ ap (λ o. has_interface (object_of c.args.self) (bytes_of o)) (sym c.in-Some.is)
