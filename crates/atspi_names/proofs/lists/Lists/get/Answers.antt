use Rattle.std.proofs.Common.{◌∙◌, sym, ap}
use Rattle.std.specs.Option.{option_copied}
use Rattle.atspi_names.proofs.ListsLemmas.{list_of-found, list_of-missed}
use Rattle.atspi_names.proofs.lists.Lists.get.Goals as goal

pub returns-in-Some : goal.returns-in-Some
returns-in-Some c = c.as_slice.ensures ∙ sym (list_of-found c.self.inside.map c.args.self.now c.args.name.now c.in-Some.queue.now c.self.view_is (sym c.get.ensures.value ∙ ap option_copied c.in-Some.is))

pub returns-in-None : goal.returns-in-None
returns-in-None c = sym (list_of-missed c.self.inside.map c.args.self.now c.args.name.now c.self.view_is (sym c.get.ensures.value ∙ ap option_copied c.in-None.is))
