use Rattle.std.proofs.Common.{◌∷◌, [], map, refl, sym, ap, ◌∙◌}
use Rattle.std.proofs.lemmas.List.{map-append}
use Rattle.std.specs.Option.{option_copied}
use Rattle.atspi_message.specs.Envelope.{envelope_of}
use Rattle.atspi_names.specs.Owners.{after_gone}
use Rattle.atspi_match.specs.routing.Steps.{farewell}
use Rattle.atspi_bus_steps.specs.InnerBus.{inner_of, state_of, call_of}
use Rattle.atspi_bus_steps.proofs.Partings.{told-parting}
use Rattle.atspi_bus.proofs.Leavings.{told-farewell}
use Rattle.atspi_bus.proofs.leaving.farewell.Goals as goal

pub returns-in_default : goal.returns-in_default
returns-in_default c =
    let s = state_of c.args.inner.now in
    ap (map envelope_of) c.new-told.ensures.items ∙ ap (farewell s (after_gone s.owners c.args.conn) c.args.conn) (sym (ap option_copied c.in_default.is) ∙ c.unique_name.ensures)

pub returns : goal.returns
returns c =
    let b = inner_of c.args.inner.now in
    let conn = c.args.conn in
    let unique = c.in-Some.unique.now in
    told-farewell b conn unique (map envelope_of c.push.new.self.items) (sym c.unique_name.ensures ∙ ap option_copied c.in-Some.is)
    (told-parting b conn unique (map envelope_of c.new-told.result.items) (map envelope_of c.tell_callers.new.told.items)
    (map envelope_of c.tell_heirs.new.told.items) (map envelope_of c.push.new.self.items) (envelope_of c.in_ok-owner_changed.field-0) (map call_of c.deref.result.now) (after_gone b.state.owners conn)
    c.as_slice.result.now
    (ap (map envelope_of) c.new-told.ensures.items) c.in_ok-tell_callers.ensures.ok c.in_ok-tell_heirs.ensures
    (ap (map envelope_of) c.in_ok-push.ensures.items ∙ map-append envelope_of c.tell_heirs.new.told.items (c.in_ok-owner_changed.field-0 ∷ []))
    c.in_ok-owner_changed.ensures (ap (map call_of) c.deref.ensures.value) refl (c.as_slice.ensures ∙ c.in_ok-owned.ensures))
