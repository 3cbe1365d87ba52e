use Rattle.std.proofs.Common.{◌∷◌, length, sym, subst}
use Rattle.atspi_cache_arena.specs.Table.{look_in}
use Rattle.atspi_cache_arena.specs.Walk.{IsNext}
use Rattle.atspi_cache_arena.proofs.Stepped.{down, no_child}
use Rattle.atspi_cache_arena.proofs.rows.following.Goals as goal

pub after-requires : goal.after-requires
after-requires c = let a = c.requires.there.1 in record { there = (a.last ∷ a.before, a.way, a.ends) }

pub returns-in-Some : goal.returns-in-Some
returns-in-Some c = λ rest a. down (look_in c.args.cells.now) (length c.args.cells.now.slots) c.args.place c.in-Some.child rest a (sym c.in-Some.ensures)

pub returns-in-None : goal.returns-in-None
returns-in-None c = λ rest a.
    let look = look_in c.args.cells.now in
    let most = length c.args.cells.now.slots in
    subst (IsNext look most c.after.result) (sym (no_child look most c.args.place rest a (sym c.in-None.ensures))) (c.after.ensures (a.last ∷ a.before) a.way a.ends)
