use Rattle.std.proofs.Common.{◌≡◌, ℕ, suc, Some, None, length, refl, rules, sym, subst, ◌∙◌}
use Rattle.atspi_cache_arena.specs.Table.{look_in, parent_in}
use Rattle.atspi_cache_arena.specs.Walk.{At, child_at, kids, left_of}
use Rattle.atspi_cache_arena.specs.declared.rows.Place.{Place}
use Rattle.atspi_cache_arena.proofs.Stepped.{at_root, on, rise, shallower}
use Rattle.atspi_cache_arena.proofs.rows.after.Goals as goal

pub loop-parent-init : goal.loop-parent-init
loop-parent-init c = record {
  way = c.requires.there;
  same = λ fs w e. record { way = fs; is_way = w; ends = e; left_is = refl };
}

pub loop-parent-smaller : goal.loop-parent-smaller
loop-parent-smaller c =
    let w = c.loop-parent.invariant.way in
    shallower (look_in c.args.cells.now) (length c.args.cells.now.slots) c.loop-parent.place c.in-Some.parent w.0 w.1 w.2 (sym c.in-Some.ensures)

pub loop-parent-preserved : goal.loop-parent-preserved
loop-parent-preserved c =
    let look = look_in c.args.cells.now in
    let most = length c.args.cells.now.slots in
    let p = c.loop-parent.place in
    let q : Place = record { key = c.in-Some.parent; index = c.index_of.result } in
    let none : child_at (suc p.index) (kids look c.in-Some.parent) ≡ None = search rules in
    let w = c.loop-parent.invariant.way in
    let k = rise look most p q (left_of w.0) (record { way = w.0; is_way = w.1; ends = w.2; left_is = refl }) (sym c.in-Some.ensures) none c.index_of.ensures in
    record {
      way = (k.way, k.is_way, k.ends);
      same = λ fs w e. rise look most p q (left_of fs) (c.loop-parent.invariant.same fs w e) (sym c.in-Some.ensures) none c.index_of.ensures;
    }

pub returns-in-Some-next_child : goal.returns-in-Some-next_child
returns-in-Some-next_child c = λ fs w e.
    let look = look_in c.args.cells.now in
    let most = length c.args.cells.now.slots in
    let k = c.loop-parent.invariant.same fs w e in
    subst (At look most c.in-Some-next_child.next) k.left_is
    (on look most c.loop-parent.place c.in-Some-next_child.next c.in-Some.parent k.way k.is_way k.ends (sym c.in-Some.ensures) (sym c.in-Some-next_child.ensures))

pub returns : goal.returns
returns c = λ fs w e.
    let look = look_in c.args.cells.now in
    let most = length c.args.cells.now.slots in
    let k = c.loop-parent.invariant.same fs w e in
    let none : parent_in (look c.loop-parent.place.key) ≡ None = search rules in
    sym k.left_is ∙ at_root look most c.loop-parent.place k.way k.is_way k.ends none
