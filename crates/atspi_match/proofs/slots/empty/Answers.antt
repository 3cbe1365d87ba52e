use Rattle.std.proofs.Common.{sym, ap, ◌∙◌, subst}
use Rattle.std.specs.Prelude.{set, None}
use Rattle.atspi_match.specs.Slots.{AreNoted}
use Rattle.atspi_match.proofs.SlotLemmas.{noted-emptied}
use Rattle.atspi_match.proofs.slots.empty.Goals as goal

pub returns-in-None-clause-noted : goal.returns-in-None-clause-noted
returns-in-None-clause-noted c =
    subst (λ o. AreNoted c.args.groups.now (set c.args.slots.now.items c.args.place o)) (sym c.replace.ensures.after)
    (noted-emptied c.args.groups.now c.args.groups.now c.args.slots.now.items c.args.place c.requires.place c.requires.noted (λ other q ne was. was))

pub returns-in-Some-clause-noted : goal.returns-in-Some-clause-noted
returns-in-Some-clause-noted c =
    subst (λ o. AreNoted c.forget.new.self (set c.args.slots.now.items c.args.place o)) (sym c.replace.ensures.after)
    (noted-emptied c.args.groups.now c.forget.new.self c.args.slots.now.items c.args.place c.requires.place c.requires.noted c.forget.ensures.others)
