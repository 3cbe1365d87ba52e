use Rattle.atspi_registry.proofs.registry.Registry.answer.Goals as goal

pub returns-in-Unembed : goal.returns-in-Unembed
returns-in-Unembed c = rw c.in-Unembed.is (c.unembed.ensures c.in-Unembed.field-1.now)
