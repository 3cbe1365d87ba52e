use Rattle.std.proofs.Common.{Bool, List, ℕ, ◌∙◌, ap, sym, chars}
use Rattle.std.specs.Prelude.{◌&&◌}
use Rattle.atspi_base.specs.valid_names.Names.{is_bus_name, is_unique_name}
use Rattle.atspi_reader_told.proofs.Texts.{name_chars, same_name}
use Rattle.atspi_reader_told.proofs.hello.is_unique.Goals as goal

pub returns-then-is_bus_name : goal.returns-then-is_bus_name
returns-then-is_bus_name c =
    let name = c.args.name.now in
    let is = ap is_bus_name (sym c.as_bytes.ensures.value) ∙ sym c.is_bus_name.ensures.tested ∙ c.if-is_bus_name.true in
    c.begins_unique.ensures ∙ sym (ap (λ (b : Bool). b && is_unique_name name) is) ∙ ap (λ (n : List ℕ). is_bus_name n && is_unique_name n) (sym (name_chars name is))

pub returns-else-is_bus_name : goal.returns-else-is_bus_name
returns-else-is_bus_name c =
    let name = c.args.name.now in
    let none = same_name name c.utf8.name ∙ ap is_bus_name (sym c.as_bytes.ensures.value) ∙ sym c.is_bus_name.ensures.tested ∙ c.if-is_bus_name.false in
    c.if-is_bus_name.false ∙ sym (ap (λ (b : Bool). b && is_unique_name (chars name)) none)
