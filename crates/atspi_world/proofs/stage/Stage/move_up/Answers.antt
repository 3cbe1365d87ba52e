use Rattle.std.proofs.Common.{refl, sym, ap, ◌∙◌, arith}
use Rattle.std.proofs.lemmas.Result.{on_ok_weaker}
use Rattle.atspi_bus_steps.specs.InnerBus.{inner_of}
use Rattle.atspi_world_links.specs.declared.post.Post.{Post}
use Rattle.atspi_world_moves.proofs.Ties.{post_is, post_below}
use Rattle.atspi_world.proofs.Moved.{stopped_is, up_here, up_stopped, up_stopped_none, up_away}
use Rattle.atspi_world.proofs.Results.{both_ok}
use Rattle.atspi_world.proofs.Routing.{part_world}
use Rattle.atspi_world.proofs.Halted.{with_told}
use Rattle.atspi_world.proofs.BusHalted.{here_lost, here_spent, stopped_lost, stopped_spent}
use Rattle.atspi_world.proofs.stage.Stage.move_up.Goals as goal

pub returns-then-place-len-clause-does : goal.returns-then-place-len-clause-does
returns-then-place-len-clause-does g c = λ p e is at.
    let s = c.args.self.now in
    let within = post_below p.world (inner_of s.carrier.bus) s.carrier.posts.items c.args.conn e is.is.carried at in
    absurd (omega (arith, within, c.if-place-len.true, c.len.ensures))

pub returns-in-Here-clause-does : goal.returns-in-Here-clause-does
returns-in-Here-clause-does g c =
    let s = c.args.self.now in
    on_ok_weaker c.move_up.result (λ moves p e is at. up_here p c.args.conn c.args.count e c.index.result.now _ _ is at
    (post_is p.world (inner_of s.carrier.bus) s.carrier.posts.items c.args.conn e c.index.result.now is.is.carried at c.index.ensures) c.in-Here.is moves refl refl
    (record { registry = refl; kits = refl; spares = refl })) c.move_up.ensures.moves

pub returns-then-count-eq0-clause-does : goal.returns-then-count-eq0-clause-does
returns-then-count-eq0-clause-does g c = λ p e is at.
    let s = c.args.self.now in
    up_stopped_none p c.args.conn c.args.count e c.index.result.now _ is at
    (post_is p.world (inner_of s.carrier.bus) s.carrier.posts.items c.args.conn e c.index.result.now is.is.carried at c.index.ensures) c.in-Stopped.is c.if-count-eq0.true

pub returns-else-count-eq0-clause-does : goal.returns-else-count-eq0-clause-does
returns-else-count-eq0-clause-does g c =
    let s = c.args.self.now in
    both_ok c.part.result (λ done linked p e is at. up_stopped p c.args.conn c.args.count e c.index.result.now _ _ is at
    (post_is p.world (inner_of s.carrier.bus) s.carrier.posts.items c.args.conn e c.index.result.now is.is.carried at c.index.ensures) c.in-Stopped.is c.if-count-eq0.false
    (part_world p c.args.conn _ _ is (done p.world is.is.carried)
    (linked p.world e is.is.carried is.is.linked at
    (stopped_is e.standing
    (ap (λ (q : Post). q.standing) (sym (post_is p.world (inner_of s.carrier.bus) s.carrier.posts.items c.args.conn e c.index.result.now is.is.carried at c.index.ensures))
    ∙ c.in-Stopped.is))) refl refl (record { registry = refl; kits = refl; spares = refl }))) c.part.ensures.does c.part.ensures.linked

pub returns-in-Away-clause-does : goal.returns-in-Away-clause-does
returns-in-Away-clause-does g c = λ p e is at.
    let s = c.args.self.now in
    up_away p c.args.conn c.args.count e c.index.result.now _ is at
    (post_is p.world (inner_of s.carrier.bus) s.carrier.posts.items c.args.conn e c.index.result.now is.is.carried at c.index.ensures) c.in-Away.is

pub returns-in-Here-clause-lost : goal.returns-in-Here-clause-lost
returns-in-Here-clause-lost g c = λ is p e playing at.
    let s = c.args.self.now in
    here_lost p c.args.conn c.args.count e c.index.result.now _ (with_told playing c.move_up.new.self.posts.items c.move_up.new.self.trace.items) playing at
    (post_is p.world (inner_of s.carrier.bus) s.carrier.posts.items c.args.conn e c.index.result.now playing.is.carried at c.index.ensures) c.in-Here.is (c.move_up.ensures.lost is)

pub returns-in-Here-clause-spent : goal.returns-in-Here-clause-spent
returns-in-Here-clause-spent g c = λ is p e playing at.
    let s = c.args.self.now in
    here_spent p c.args.conn c.args.count e c.index.result.now _ (with_told playing c.move_up.new.self.posts.items c.move_up.new.self.trace.items) playing at
    (post_is p.world (inner_of s.carrier.bus) s.carrier.posts.items c.args.conn e c.index.result.now playing.is.carried at c.index.ensures) c.in-Here.is (c.move_up.ensures.spent is)

pub returns-else-count-eq0-clause-lost : goal.returns-else-count-eq0-clause-lost
returns-else-count-eq0-clause-lost g c = λ is p e playing at.
    let s = c.args.self.now in
    stopped_lost p c.args.conn c.args.count e c.index.result.now _ (with_told playing c.part.new.self.posts.items c.part.new.self.trace.items) playing at
    (post_is p.world (inner_of s.carrier.bus) s.carrier.posts.items c.args.conn e c.index.result.now playing.is.carried at c.index.ensures) c.in-Stopped.is c.if-count-eq0.false (c.part.ensures.lost is)

pub returns-else-count-eq0-clause-spent : goal.returns-else-count-eq0-clause-spent
returns-else-count-eq0-clause-spent g c = λ is p e playing at.
    let s = c.args.self.now in
    stopped_spent p c.args.conn c.args.count e c.index.result.now _ (with_told playing c.part.new.self.posts.items c.part.new.self.trace.items) playing at
    (post_is p.world (inner_of s.carrier.bus) s.carrier.posts.items c.args.conn e c.index.result.now playing.is.carried at c.index.ensures) c.in-Stopped.is c.if-count-eq0.false (c.part.ensures.spent is)
