use Rattle.std.proofs.Common.{◌++◌, sym, ap, ◌∙◌, subst}
use Rattle.atspi_bus_steps.specs.InnerBus.{inner_of, state_of}
use Rattle.atspi_bus_steps.specs.Sound.{IsSound}
use Rattle.atspi_bus_steps.specs.declared.inner.Inner.{Inner}
use Rattle.atspi_world_moves.specs.Beginning.{with_one_taken}
use Rattle.atspi_world_moves.specs.GivenUp.{gives_up}
use Rattle.atspi_world_moves.specs.Linked.{IsLinked}
use Rattle.atspi_world_moves.proofs.Rejoining.{told_ok, greeted_on}
use Rattle.atspi_world_moves.proofs.carrier.Carrier.greet.Goals as goal

pub returns-clause-sound : goal.returns-clause-sound
returns-clause-sound c =
    told_ok gives_up c.rejoin.result c.greet_apart-done.result c.rejoin.ensures.told c.greet_apart-done.ensures.sound (λ sound same. subst (λ (b : Inner). IsSound (state_of b)) (sym same.bus_is) sound)

pub returns-clause-greets : goal.returns-clause-greets
returns-clause-greets c =
    let s = c.args.self.now in
    let did = c.greet_apart-done.new.self in
    let new = c.rejoin.new.self in
    let none = c.apart-before.ensures.none in
    told_ok gives_up c.rejoin.result c.greet_apart-done.result c.rejoin.ensures.told c.greet_apart-done.ensures.greets
    (λ greets same w is up.
    greeted_on w c.args.conn (inner_of did.bus) (inner_of new.bus) did.posts.items new.posts.items s.trace.items c.apart-before.new.trace.items did.trace.items new.trace.items none (ap inner_of same.bus_is)
    same.posts_are (same.told ∙ ap (λ l. l ++ did.trace.items) c.apart-before.ensures.before) (greets w is up))

pub returns-clause-linked : goal.returns-clause-linked
returns-clause-linked c =
    told_ok gives_up c.rejoin.result c.greet_apart-done.result c.rejoin.ensures.told c.greet_apart-done.ensures.linked
    (λ linked same w is linked_so up.
    subst (IsLinked (with_one_taken (with_one_taken (with_one_taken w c.args.conn) c.args.conn) c.args.conn)) (sym same.given_are) (linked w is linked_so up))
