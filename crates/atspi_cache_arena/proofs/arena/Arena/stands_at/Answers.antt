use Rattle.std.proofs.Common.{w32, ap, sym, ◌∙◌}
use Rattle.std.proofs.lemmas.Int.{to_z-of_z}
use Rattle.atspi_tree_model.specs.News.{is_seat_at, seat_in, spot}
use Rattle.atspi_cache_arena.proofs.Sits.{sits_there, no_seat, below_zero, at_spot}
use Rattle.atspi_cache_arena.proofs.arena.Arena.stands_at.Goals as goal

pub returns-in_default : goal.returns-in_default
returns-in_default c = below_zero c.args.parent.now c.args.index (seat_in c.args.path.now c.args.self.now) (ap spot (sym (to_z-of_z w32 c.args.index c.ranges.index)) ∙ sym c.spot.ensures ∙ c.in_default.is)

pub returns-in-Some-key_of : goal.returns-in-Some-key_of
returns-in-Some-key_of c =
    c.sits.ensures
    ∙ (sits_there c.self.inside.cells c.self.inside.paths c.args.self.now c.args.path.now c.args.parent.now c.in-Some.place c.in-Some-key_of.key c.self.invariant c.self.view_is
    (sym c.key_of.ensures ∙ c.in-Some-key_of.is)
    ∙ ap (λ z. is_seat_at c.args.parent.now z (seat_in c.args.path.now c.args.self.now)) (at_spot c.args.index c.in-Some.place (ap spot (sym (to_z-of_z w32 c.args.index c.ranges.index)) ∙ sym c.spot.ensures ∙ c.in-Some.is)))

pub returns-in-None : goal.returns-in-None
returns-in-None c = no_seat c.self.inside.cells c.self.inside.paths c.args.self.now c.args.path.now c.args.parent.now c.args.index c.self.invariant c.self.view_is (sym c.key_of.ensures ∙ c.in-None.is)
