use Rattle.std.proofs.Common.{not, ap, sym, ◌∙◌, ℕ, List}
use Rattle.atspi_cache_arena.specs.Table.{is_among}
use Rattle.atspi_cache_arena.proofs.Inserted.{key_once}
use Rattle.atspi_cache_arena.proofs.Outside.{no_row_left, all_left, left_outside}
use Rattle.atspi_cache_arena.proofs.arena.Arena.is_outside.Goals as goal

pub returns-in_default : goal.returns-in_default
returns-in_default c = no_row_left c.self.inside.cells c.self.inside.paths c.args.self.now c.args.row.now c.args.path.now c.self.invariant c.self.view_is (sym c.key_of.ensures ∙ c.in_default.is)

pub returns-in_default-key_of : goal.returns-in_default-key_of
returns-in_default-key_of c =
    all_left c.self.inside.cells c.self.inside.paths c.args.self.now c.args.row.now c.args.path.now c.in-Some.other c.self.invariant c.self.view_is
    (sym c.key_of.ensures ∙ c.in-Some.is) (sym c.key_of-2.ensures ∙ c.in_default-key_of.is)

pub subtree-requires : goal.subtree-requires
subtree-requires c = record { held = (c.self.invariant.forest, c.self.invariant.held, key_once c.self.inside.cells c.self.inside.paths c.args.path.now c.in-Some-key_of.key c.self.invariant (sym c.key_of-2.ensures ∙ c.in-Some-key_of.is)) }

pub returns : goal.returns
returns c =
    ap not c.is_among.ensures ∙ ap (λ (l : List ℕ). not (is_among c.in-Some.other l)) c.deref.ensures.value
    ∙ left_outside c.self.inside.cells c.self.inside.paths c.args.self.now c.args.row.now c.args.path.now c.in-Some.other c.in-Some-key_of.key c.in_ok-keys.keys.items c.self.invariant c.self.view_is
    (sym c.key_of.ensures ∙ c.in-Some.is) (sym c.key_of-2.ensures ∙ c.in-Some-key_of.is)
    (c.in_ok-keys.ensures c.self.invariant.forest c.self.invariant.held (key_once c.self.inside.cells c.self.inside.paths c.args.path.now c.in-Some-key_of.key c.self.invariant (sym c.key_of-2.ensures ∙ c.in-Some-key_of.is)))
