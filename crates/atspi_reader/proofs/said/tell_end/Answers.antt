use Rattle.std.proofs.Common.{List, [], ◌∷◌, ◌++◌, ℕ, sym, ap, ◌∙◌}
use Rattle.std.specs.Prelude.{if◌then◌else◌}
use Rattle.std.proofs.lemmas.List.{append-nil}
use Rattle.std.proofs.lemmas.Result.{on_ok_weaker}
use Rattle.atspi_base.specs.valid_names.Names.{is_bus_name, is_unique_name}
use Rattle.atspi_protocol.specs.following.ReaderState.{Done, tells_end}
use Rattle.atspi_reader.specs.Doing.{all_done}
use Rattle.atspi_reader.proofs.Spelled.{ended_name, ended_text}
use Rattle.atspi_reader.proofs.said.tell_end.Goals as goal

pub returns-in-Ok : goal.returns-in-Ok
returns-in-Ok c =
    let before = all_done c.args.events.now.items in
    let rule = ap is_bus_name (sym c.as_bytes.ensures.value) ∙ c.in-Ok.ensures.tested.1 in
    on_ok_weaker c.push_end.result
    (λ same. same
    ∙ ap (λ (n : List ℕ). before ++ (if is_unique_name n then tells_end n ∷ [] else [])) (c.in-Ok.ensures.tested.0 ∙ c.as_bytes.ensures.value)
    ∙ ap (λ (l : List Done). before ++ l) (ended_name c.args.name.now c.utf8.name rule))
    c.push_end.ensures

pub returns-in-Err-Form : goal.returns-in-Err-Form
returns-in-Err-Form c =
    let before = all_done c.args.events.now.items in
    sym (ap (λ (l : List Done). before ++ l) (ended_text c.args.name.now c.utf8.name (ap is_bus_name (sym c.as_bytes.ensures.value) ∙ (rw c.in-Err-Form.field-0-is at c.in-Err-Form.ensures).tested)) ∙ append-nil before)
