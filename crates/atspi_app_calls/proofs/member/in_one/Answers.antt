use Rattle.std.proofs.Common.{sym, subst, ◌∙◌, true≢false}
use Rattle.atspi_app_calls.specs.inner.Interface.{NamesInterface}
use Rattle.atspi_app_calls.proofs.Names.{no_interface}
use Rattle.atspi_app_calls.proofs.Members.{one_is}
use Rattle.atspi_app_calls.proofs.member.in_one.Goals as goal

pub unreachable-requires : goal.unreachable-requires
unreachable-requires c =
    let i = c.args.interface.now in
    true≢false (sym c.requires.has ∙ no_interface i (subst (NamesInterface i) c.in-None.is c.interface_named.ensures) c.args.object)

pub returns : goal.returns
returns c =
    let i = c.args.interface.now in
    c.line_in.ensures ∙ sym (one_is c.args.object c.in-Some.interface i c.args.name.now (subst (NamesInterface i) c.in-Some.is c.interface_named.ensures) c.requires.has)
