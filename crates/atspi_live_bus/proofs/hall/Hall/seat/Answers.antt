use Rattle.std.proofs.Common.{ℕ, sym, ap, ◌∙◌}
use Rattle.atspi_match.specs.routing.Queues.{joins}
use Rattle.atspi_bus.specs.View.{bus_of}
use Rattle.atspi_live_bus.proofs.hall.Hall.seat.Goals as goal

pub returns-clause-ok : goal.returns-clause-ok
returns-clause-ok c = record {
  link = c.new.result;
  behind_others = c.in-Ok-push.ensures.items;
  number_is = c.new.ensures.number;
  conn_is = c.new.ensures.conn ∙ c.in-Ok.ensures.number.0;
  joined = c.in-Ok.ensures.joined ∙ ap (λ (n : ℕ). joins (bus_of c.args.self.now.bus) n) (sym c.new.ensures.conn);
  counted = c.in-Ok.ensures.number.1;
  begins = c.new.ensures.begins;
}
