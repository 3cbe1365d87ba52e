use Rattle.std.proofs.Common.{sym, chars}
use Rattle.atspi_marshal_in_place.specs.Items.{fields_data}
use Rattle.atspi_registry.specs.calls.inner.Object.{object_of}
use Rattle.atspi_registry.proofs.OfCalls.Answering.{embeds_nothing, releases_nothing, releases_one}
use Rattle.atspi_registry.proofs.calls.asking.of_member.Goals as goal

pub returns-in-None-clause-asked : goal.returns-in-None-clause-asked
returns-in-None-clause-asked c =
    rw c.in-Embed.is (λ s own caller h. embeds_nothing (object_of c.args.object) (fields_data c.args.m.now.body) s own caller (sym c.in-None.ensures.reference) h)

pub returns-in-Some-first_reference-clause-asked : goal.returns-in-Some-first_reference-clause-asked
returns-in-Some-first_reference-clause-asked c =
    let r = c.in-Some-first_reference in
    rw c.in-Unembed.is (λ s own caller h. releases_one (object_of c.args.object) (fields_data c.args.m.now.body) s own caller (chars r.name.now, r.path.now) (sym r.ensures.reference))

pub returns-in-None-first_reference-clause-asked : goal.returns-in-None-first_reference-clause-asked
returns-in-None-first_reference-clause-asked c =
    rw c.in-Unembed.is (λ s own caller h. releases_nothing (object_of c.args.object) (fields_data c.args.m.now.body) s own caller (sym c.in-None-first_reference.ensures.reference) h)
