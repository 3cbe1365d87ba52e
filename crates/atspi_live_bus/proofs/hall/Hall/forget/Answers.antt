use Rattle.std.proofs.Common.{refl, ◌∙◌}
use Rattle.atspi_bus.specs.View.{bus_of}
use Rattle.atspi_live_bus.proofs.Going.{nothing_told, tells_more}
use Rattle.atspi_live_bus.proofs.hall.Hall.forget.Goals as goal

pub messages-init : goal.messages-init
messages-init c = record { links = refl; told = nothing_told (bus_of c.args.self.now.bus); closings = refl; given = refl }

pub messages-preserved : goal.messages-preserved
messages-preserved c = record {
  links = c.forget_one.ensures.links ∙ c.messages.invariant.links;
  told = tells_more (bus_of c.args.self.now.bus) (bus_of c.messages.self.bus) (bus_of c.forget_one.new.self.bus) c.messages.invariant.told c.forget_one.ensures.told;
  closings = c.forget_one.ensures.closings ∙ c.messages.invariant.closings;
  given = c.forget_one.ensures.given ∙ c.messages.invariant.given;
}

pub returns-clause-told : goal.returns-clause-told
returns-clause-told c = tells_more (bus_of c.args.self.now.bus) (bus_of c.messages.self.bus) (bus_of c.forget_one.new.self.bus) c.messages.invariant.told c.forget_one.ensures.told
