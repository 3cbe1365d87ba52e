use Rattle.std.proofs.Common.{◌≡◌, true, sym, ap, ◌∙◌}
use Rattle.std.specs.Prelude.{Ok, Err}
use Rattle.atspi_base.specs.valid_names.Names.{is_bus_name}
use Rattle.atspi_message_in_place.specs.Names.{fits}
use Rattle.atspi_message_in_place.specs.View.{bytes_of, envelope_at}
use Rattle.atspi_registry.specs.inner.Steps.{own_name}
use Rattle.atspi_registry.proofs.Does.{same_step, quiet}
use Rattle.atspi_registry.proofs.Takes.{calls_nobody, calls, sender_named, not_empty}
use Rattle.atspi_registry.proofs.registry.Registry.be_called.Goals as goal

pub returns-in-None : goal.returns-in-None
returns-in-None c =
    same_step _ _ _ _ _ (sym (calls_nobody c.args.self.now.state (envelope_at c.args.m.now) c.requires.named c.requires.call (ap bytes_of c.in-None.is)))
    (quiet _ c.args.self.now c.requires.within)

pub returns-in-Ok : goal.returns-in-Ok
returns-in-Ok c =
    let s = c.args.self.now.state in
    let name : is_bus_name c.in-Some.sender.now ≡ true = ap (fits is_bus_name) (sym c.in-Some.is) ∙ sender_named c.args.m.now.path c.args.m.now.interface c.args.m.now.member c.args.m.now.error c.args.m.now.destination c.args.m.now.sender c.args.m.now.named in
    same_step _ _ _ _ _
    (sym (calls s (envelope_at c.args.m.now) c.in-Some.sender.now (Ok c.in-Ok.ask) c.requires.named c.requires.call (ap bytes_of c.in-Some.is)
    (c.in-Ok.ensures.asked s (own_name s) c.in-Some.sender.now (not_empty c.in-Some.sender.now name))))
    c.answer.ensures

pub returns-in-Err : goal.returns-in-Err
returns-in-Err c =
    let s = c.args.self.now.state in
    let name : is_bus_name c.in-Some.sender.now ≡ true = ap (fits is_bus_name) (sym c.in-Some.is) ∙ sender_named c.args.m.now.path c.args.m.now.interface c.args.m.now.member c.args.m.now.error c.args.m.now.destination c.args.m.now.sender c.args.m.now.named in
    same_step _ _ _ _ _
    (sym (calls s (envelope_at c.args.m.now) c.in-Some.sender.now (Err c.in-Err.error) c.requires.named c.requires.call (ap bytes_of c.in-Some.is)
    (c.in-Err.ensures.asked s (own_name s) c.in-Some.sender.now (not_empty c.in-Some.sender.now name))))
    c.refuse.ensures
