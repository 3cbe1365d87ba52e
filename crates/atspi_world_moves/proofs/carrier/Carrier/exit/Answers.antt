use Rattle.std.proofs.Common.{[], ◌∷◌, ◌++◌, set, refl, sym, ap, ◌∙◌}
use Rattle.atspi_bus_steps.specs.InnerBus.{inner_of}
use Rattle.atspi_trace_events.specs.declared.event.Event.TheVariants.{Exit}
use Rattle.atspi_world_links.specs.declared.post.Post.{Post}
use Rattle.atspi_world_moves.proofs.Linked.{exited_linked}
use Rattle.atspi_world_moves.proofs.Ties.{post_is, exited_done}
use Rattle.atspi_world_moves.proofs.carrier.Carrier.exit.Goals as goal

pub returns-clause-does : goal.returns-clause-does
returns-clause-does c = λ w e is at.
    let s = c.args.self.now in
    let told = c.index.result.now in
    let stops = c.index_mut-post.result.now in
    let told_is = post_is w (inner_of s.bus) s.posts.items c.args.conn e told is at c.index.ensures in
    let stops_is = post_is w (inner_of s.bus) s.posts.items c.args.conn e stops is at c.index_mut-post.ensures.value in
    exited_done w c.args.conn e (inner_of s.bus) (inner_of s.bus) s.posts.items (set s.posts.items c.args.conn c.stop.new.self) stops c.stop.new.self s.trace.items c.note.new.trace.items is at refl stops_is c.stop.ensures refl
    (c.in_ok-note.ensures.told ∙ ap (λ (p : Post). s.trace.items ++ Exit p.who ∷ []) (told_is ∙ sym stops_is))

pub returns-clause-linked : goal.returns-clause-linked
returns-clause-linked c = λ w e linked at stands other. exited_linked w c.args.conn e c.args.self.now.at_end.items linked at stands other

pub returns-then-place-len-clause-linked : goal.returns-then-place-len-clause-linked
returns-then-place-len-clause-linked c = λ w e linked at stands other. exited_linked w c.args.conn e c.args.self.now.at_end.items linked at stands other
