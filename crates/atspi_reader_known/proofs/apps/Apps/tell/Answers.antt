use Rattle.std.proofs.Common.{ap, sym, set, ◌∙◌}
use Rattle.std.proofs.lemmas.Result.{on_ok_weaker}
use Rattle.atspi_protocol.specs.following.Replied.{told_part}
use Rattle.atspi_reader_known.proofs.Names.{either_name, told_name}
use Rattle.atspi_reader_known.proofs.Placed.{found_set}
use Rattle.atspi_reader_known.proofs.Uniqueness.{nobody_changes, set_changed}
use Rattle.atspi_reader_known.proofs.apps.Apps.tell.Goals as goal

pub invariant_of-self : goal.invariant_of-self
invariant_of-self c =
    found_set c.self.inside.places c.args.name.now c.self.inside.items.items c.args.self.now c.in-Some.place c.index_mut.result.now c.tell.new.self c.self.view_is (sym c.place.ensures ∙ c.in-Some.is) c.index_mut.ensures.value
    (either_name (told_part c.args.news) (told_name c.args.news) c.tell.result c.tell.new.self c.index_mut.result.now c.tell.ensures.ok c.tell.ensures.err) c.self.invariant

pub returns-in-Some-clause-ok : goal.returns-in-Some-clause-ok
returns-in-Some-clause-ok c =
    on_ok_weaker c.tell.result
    (λ same. ap (set c.self.inside.items.items c.in-Some.place) same
    ∙ set_changed (told_part c.args.news) c.args.name.now c.self.inside.items.items c.args.self.now c.in-Some.place c.index_mut.result.now c.self.view_is (sym c.place.ensures ∙ c.in-Some.is) c.index_mut.ensures.value c.self.invariant.0)
    c.tell.ensures.ok

pub returns-in-None-clause-ok : goal.returns-in-None-clause-ok
returns-in-None-clause-ok c = nobody_changes (told_part c.args.news) c.args.name.now c.args.self.now (sym c.place.ensures ∙ c.in-None.is)
