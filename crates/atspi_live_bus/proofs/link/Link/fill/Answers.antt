use Rattle.std.proofs.Common.{ℕ, subst}
use Rattle.atspi_bus.specs.View.{bus_of}
use Rattle.atspi_live_bus.specs.inner.Turns.{Fetches}
use Rattle.atspi_live_bus.proofs.Ending.{on_ok}
use Rattle.atspi_live_bus.proofs.Fetching.{fetches_behind, fetches_none}
use Rattle.atspi_live_bus.proofs.link.Link.fill.Goals as goal

pub returns-then-not-ready-clause-ok : goal.returns-then-not-ready-clause-ok
returns-then-not-ready-clause-ok c =
    fetches_behind c.args.self.now.conn (bus_of c.args.bus.now) (bus_of c.args.bus.now) c.args.self.now c.say_lines.new.self c.say_lines.new.self c.in_default.ensures.talks
    (fetches_none c.args.self.now.conn (bus_of c.args.bus.now) c.say_lines.new.self)

pub returns-clause-ok : goal.returns-clause-ok
returns-clause-ok c =
    on_ok c.fetch.result _ _
    (λ f. fetches_behind c.args.self.now.conn (bus_of c.args.bus.now) (bus_of c.fetch.new.bus) c.args.self.now c.say_lines.new.self c.fetch.new.self c.in_default.ensures.talks
    (subst (λ (n : ℕ). Fetches n (bus_of c.args.bus.now) (bus_of c.fetch.new.bus) c.say_lines.new.self c.fetch.new.self) c.say_lines.ensures.conn f))
    c.fetch.ensures.ok
