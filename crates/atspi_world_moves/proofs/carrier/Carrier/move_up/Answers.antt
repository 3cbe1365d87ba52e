use Rattle.std.proofs.Common.{◌++◌, refl, sym, ap, ◌∙◌, subst}
use Rattle.atspi_bus_steps.specs.InnerBus.{inner_of, state_of}
use Rattle.atspi_bus_steps.specs.Sound.{IsSound}
use Rattle.atspi_bus_steps.specs.declared.inner.Inner.{Inner}
use Rattle.atspi_trace.specs.Work.{moving_up}
use Rattle.atspi_world_moves.specs.GivenUp.{gives_up}
use Rattle.atspi_world_moves.specs.declared.fault.CarryFault.TheVariants.{Spent, RegistryLost}
use Rattle.atspi_world_moves.proofs.Rejoining.{told_ok, told_err, worked_on, lost_at, spent_at}
use Rattle.atspi_world_moves.proofs.carrier.Carrier.move_up.Goals as goal

pub returns-clause-sound : goal.returns-clause-sound
returns-clause-sound c =
    told_ok gives_up c.rejoin.result c.move_up_apart-done.result c.rejoin.ensures.told c.move_up_apart-done.ensures.sound (λ sound same. subst (λ (b : Inner). IsSound (state_of b)) (sym same.bus_is) sound)

pub returns-clause-moves : goal.returns-clause-moves
returns-clause-moves c =
    let s = c.args.self.now in
    let did = c.move_up_apart-done.new.self in
    let new = c.rejoin.new.self in
    let none = c.apart-before.ensures.none in
    told_ok gives_up c.rejoin.result c.move_up_apart-done.result c.rejoin.ensures.told c.move_up_apart-done.ensures.moves
    (λ moves same w is at.
    worked_on w (moving_up c.args.conn c.args.most) (inner_of did.bus) (inner_of new.bus) did.posts.items new.posts.items s.at_end.items did.at_end.items new.at_end.items s.trace.items c.apart-before.new.trace.items
    did.trace.items new.trace.items none (ap inner_of same.bus_is) same.posts_are same.given_are (same.told ∙ ap (λ l. l ++ did.trace.items) c.apart-before.ensures.before) (moves w is at))

pub returns-clause-lost : goal.returns-clause-lost
returns-clause-lost c = λ is w tied linked first at.
    let s = c.args.self.now in
    let did = c.move_up_apart-done.new.self in
    let new = c.rejoin.new.self in
    let none = c.apart-before.ensures.none in
    let so = told_err gives_up c.rejoin.result c.move_up_apart-done.result RegistryLost refl c.rejoin.ensures.told is in
    let same = so.1 in
    lost_at w (moving_up c.args.conn c.args.most) did.posts.items new.posts.items s.trace.items c.apart-before.new.trace.items did.trace.items new.trace.items none same.posts_are
    (same.told ∙ ap (λ l. l ++ did.trace.items) c.apart-before.ensures.before) (c.move_up_apart-done.ensures.lost so.0 w tied linked first at)

pub returns-clause-spent : goal.returns-clause-spent
returns-clause-spent c = λ is w tied linked at.
    let s = c.args.self.now in
    let did = c.move_up_apart-done.new.self in
    let new = c.rejoin.new.self in
    let none = c.apart-before.ensures.none in
    let so = told_err gives_up c.rejoin.result c.move_up_apart-done.result Spent refl c.rejoin.ensures.told is in
    let same = so.1 in
    spent_at w (moving_up c.args.conn c.args.most) did.posts.items new.posts.items s.trace.items c.apart-before.new.trace.items did.trace.items new.trace.items none same.posts_are
    (same.told ∙ ap (λ l. l ++ did.trace.items) c.apart-before.ensures.before) (c.move_up_apart-done.ensures.spent so.0 w tied linked at)
