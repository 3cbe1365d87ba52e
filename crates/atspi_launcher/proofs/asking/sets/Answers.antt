use Rattle.std.proofs.Common.{ap, sym, chars, ◌∙◌}
use Rattle.atspi_marshal_in_place.specs.Items.{fields_data}
use Rattle.atspi_launcher.specs.Asked as asked
use Rattle.atspi_launcher.proofs.Reading.{sets_three, nothing_left}
use Rattle.atspi_launcher.proofs.asking.sets.Goals as goal

pub returns-in-Ok : goal.returns-in-Ok
returns-in-Ok c =
    let left = nothing_left c.next.result (fields_data c.next_switch.new.values) (fields_data c.next.new.self) c.next.ensures.comes (sym c.is_some.ensures ∙ c.if-is_some.false) in
    ap (asked.set_of c.in-Some-next_switch.on) (sym c.in-Ok.is ∙ c.property_of.ensures)
    ∙ sets_three (fields_data c.args.body) (fields_data c.next_text.new.values) (chars c.in-Some.interface.now) c.in-Some.ensures
    (fields_data c.next_text-2.new.values) (chars c.in-Some-next_text.name.now) c.in-Some-next_text.ensures
    (fields_data c.next_switch.new.values) c.in-Some-next_switch.on c.in-Some-next_switch.ensures left

pub returns-in-Err : goal.returns-in-Err
returns-in-Err c =
    let left = nothing_left c.next.result (fields_data c.next_switch.new.values) (fields_data c.next.new.self) c.next.ensures.comes (sym c.is_some.ensures ∙ c.if-is_some.false) in
    ap (asked.set_of c.in-Some-next_switch.on) (sym c.in-Err.is ∙ c.property_of.ensures)
    ∙ sets_three (fields_data c.args.body) (fields_data c.next_text.new.values) (chars c.in-Some.interface.now) c.in-Some.ensures
    (fields_data c.next_text-2.new.values) (chars c.in-Some-next_text.name.now) c.in-Some-next_text.ensures
    (fields_data c.next_switch.new.values) c.in-Some-next_switch.on c.in-Some-next_switch.ensures left
