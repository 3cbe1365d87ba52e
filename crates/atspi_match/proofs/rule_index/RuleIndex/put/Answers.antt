use Rattle.std.proofs.Common.{ap, sym, ◌∙◌, [], ◌∷◌, ◌++◌}
use Rattle.std.specs.Prelude.{Some}
use Rattle.atspi_match.specs.Slots.{Pair, held_in}
use Rattle.atspi_match.specs.RuleIndex.{rules_of}
use Rattle.std.proofs.Common.{subst, ◌≢◌}
use Rattle.atspi_match.proofs.SlotLemmas.{held-push}
use Rattle.atspi_match.proofs.IndexedLemmas.{indexed-put, indexed-same, room_below}
use Rattle.atspi_match.proofs.rule_index.RuleIndex.put.Goals as goal

pub make_room-requires : goal.make_room-requires
make_room-requires c =
    room_below c.self.inside.slots.items c.self.inside.groups c.self.inside.counts c.args.conn c.args.self.now c.self.invariant c.self.view_is c.requires

pub invariant_of-self : goal.invariant_of-self
invariant_of-self c =
    indexed-put c.self.inside.slots.items c.push_reserved.new.self.items c.self.inside.groups c.make_room.new.groups c.self.inside.counts c.make_room.new.counts
    c.args.conn c.args.rule c.self.invariant (subst (λ l. rules_of c.args.conn l ≢ 512) (sym c.self.view_is) c.requires)
    (c.push_reserved.ensures.items ∙ ap (λ l. l ++ Some (c.args.conn, c.args.rule) ∷ []) c.make_room.ensures.slots)
    c.make_room.ensures.stays c.in-Ok.ensures.noted c.in-Ok.ensures.counted

pub invariant_of-self-in-Err : goal.invariant_of-self-in-Err
invariant_of-self-in-Err c =
    indexed-same c.self.inside.slots.items c.make_room.new.slots.items c.self.inside.groups c.make_room.new.groups c.self.inside.counts c.make_room.new.counts
    c.self.invariant c.make_room.ensures.slots c.make_room.ensures.stays c.in-Err.ensures.err

pub returns-in-Ok-clause-ok : goal.returns-in-Ok-clause-ok
returns-in-Ok-clause-ok c =
    ap held_in (c.push_reserved.ensures.items ∙ ap (λ l. l ++ Some (c.args.conn, c.args.rule) ∷ []) c.make_room.ensures.slots)
    ∙ held-push c.self.inside.slots.items (c.args.conn, c.args.rule) ∙ ap (λ l. l ++ (c.args.conn, c.args.rule) ∷ []) c.self.view_is

pub returns-in-Err-clause-err : goal.returns-in-Err-clause-err
returns-in-Err-clause-err c = ap held_in c.make_room.ensures.slots ∙ c.self.view_is
