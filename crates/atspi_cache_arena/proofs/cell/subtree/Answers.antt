use Rattle.std.proofs.Common.{◌<◌, ◌+◌, ◌++◌, [], ◌∷◌, ℕ, List, length, ap, sym, subst, ◌∙◌, arith}
use Rattle.std.specs.Option.{option_map}
use Rattle.atspi_cache_arena.specs.Table.{kept, look_in}
use Rattle.atspi_cache_arena.proofs.Walk.{Walked, walk_from, walk_at, walk_on, walk_ends, first_left, as_get}
use Rattle.atspi_cache_arena.proofs.cell.subtree.Goals as goal

pub loop-i-init : goal.loop-i-init
loop-i-init c f h one = walk_from (look_in c.args.cells.now) c.args.key f _ h one (c.in_ok-push.ensures.items ∙ ap (λ (l : List ℕ). l ++ (c.args.key ∷ [])) c.new-keys.ensures.items)

pub index-requires-in-loop-i : goal.index-requires-in-loop-i
index-requires-in-loop-i c =
    let held = c.requires.held in
    as_get c.args.cells.now c.loop-i.keys.items c.loop-i.i c.index.result.now c.index.result.now c.index.ensures
    (walk_at c.index.result.now c.args.cells.now c.args.key held.0 c.loop-i.i c.loop-i.keys.items (c.loop-i.invariant held.0 held.1 held.2) held.1 (let a = c.loop-i-test.true in let b = c.len.ensures in let d = c.loop-i.keys.ok.0 in omega arith)).0

pub loop-i-smaller : goal.loop-i-smaller
loop-i-smaller c =
    let held = c.requires.held in
    let w = (walk_at c.index.result.now c.args.cells.now c.args.key held.0 c.loop-i.i c.loop-i.keys.items (c.loop-i.invariant held.0 held.1 held.2) held.1 (let a = c.loop-i-test.true in let b = c.len.ensures in let d = c.loop-i.keys.ok.0 in omega arith)).1 in
    omega arith

pub loop-i-preserved : goal.loop-i-preserved
loop-i-preserved c f h one =
    let within : c.loop-i.i < length c.loop-i.keys.items = (let a = c.loop-i-test.true in let b = c.len.ensures in let d = c.loop-i.keys.ok.0 in omega arith) in
    subst (λ (l : List ℕ). Walked (look_in c.args.cells.now) c.args.key f (c.loop-i.i + 1) l)
    (sym (c.in_ok-extend_from_slice.ensures.items ∙ ap (λ (l : List ℕ). c.loop-i.keys.items ++ l) c.as_slice.ensures.value))
    (walk_on (look_in c.args.cells.now) c.args.key f c.loop-i.i c.index.result.now c.loop-i.keys.items (kept c.index-in-loop-i.result.now) (c.loop-i.invariant f h one)
    (λ more done e a. (let r = first_left c.index.result.now c.loop-i.keys.items c.loop-i.i within more done e a in (r.0, r.1 ∙ ap (λ k. k ∷ r.0) (sym c.index.ensures))))
    (ap (option_map kept) c.index-in-loop-i.ensures))

pub returns : goal.returns
returns c f h one =
    walk_ends (look_in c.args.cells.now) c.args.key f c.loop-i.i c.loop-i.keys.items (c.loop-i.invariant f h one)
    (let a = c.loop-i-test.false in let b = c.len.ensures in let d = c.loop-i.keys.ok.0 in omega arith)
