use Rattle.std.proofs.Common.{ap, sym, set, ◌∙◌}
use Rattle.atspi_protocol.specs.following.ReaderState.{Followed}
use Rattle.atspi_protocol.specs.following.Takes.{noted}
use Rattle.atspi_reader_known.proofs.Placed.{found_set}
use Rattle.atspi_reader_known.proofs.Uniqueness.{nobody_changes, set_changed}
use Rattle.atspi_reader_known.proofs.apps.Apps.note.Goals as goal

pub invariant_of-self : goal.invariant_of-self
invariant_of-self c =
    found_set c.self.inside.places c.args.name.now c.self.inside.items.items c.args.self.now c.in-Some.place c.index_mut.result.now c.note.new.self c.self.view_is (sym c.place.ensures ∙ c.in-Some.is) c.index_mut.ensures.value
    (ap (λ (a : Followed). a.name) c.note.ensures) c.self.invariant

pub returns-in-Some : goal.returns-in-Some
returns-in-Some c =
    ap (set c.self.inside.items.items c.in-Some.place) c.note.ensures
    ∙ set_changed (noted c.args.serial) c.args.name.now c.self.inside.items.items c.args.self.now c.in-Some.place c.index_mut.result.now c.self.view_is (sym c.place.ensures ∙ c.in-Some.is) c.index_mut.ensures.value c.self.invariant.0

pub returns-in_default : goal.returns-in_default
returns-in_default c = nobody_changes (noted c.args.serial) c.args.name.now c.args.self.now (sym c.place.ensures ∙ c.in_default.is)
