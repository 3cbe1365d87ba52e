use Rattle.std.proofs.Common.{sym, ◌∙◌}
use Rattle.atspi_reader_known.proofs.Uniqueness.{found_is, found_none, nobody}
use Rattle.atspi_reader_known.proofs.apps.Apps.found.Goals as goal

pub returns-in-Some : goal.returns-in-Some
returns-in-Some c = found_is c.args.name.now c.self.inside.items.items c.args.self.now c.in-Some.place c.index.result.now c.self.view_is (sym c.place.ensures ∙ c.in-Some.is) c.index.ensures

pub returns-in-None : goal.returns-in-None
returns-in-None c = sym (found_none c.args.name.now c.args.self.now (nobody c.args.name.now c.args.self.now (sym c.place.ensures ∙ c.in-None.is)))
