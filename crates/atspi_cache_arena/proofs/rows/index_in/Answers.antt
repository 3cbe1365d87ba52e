use Rattle.std.proofs.Common.{◌≡◌, length, sym, subst, ◌∙◌, arith}
use Rattle.atspi_cache_arena.proofs.Stepped.{NoneNear, found_at, found_before, none_nearer, none_there}
use Rattle.atspi_cache_arena.proofs.rows.index_in.Goals as goal

pub loop-places-init : goal.loop-places-init
loop-places-init c = λ j e l m. omega arith

pub loop-places-preserved : goal.loop-places-preserved
loop-places-preserved c =
    none_nearer c.args.children.now c.within-near.result c.loop-places.places c.args.key c.loop-places.invariant
    (sym c.is_at.ensures ∙ c.if-is_at.false) (sym c.is_before.ensures ∙ c.if-is_before.false)

pub returns-then-is_at : goal.returns-then-is_at
returns-then-is_at c = λ i e. found_at c.args.children.now _ c.args.key (sym c.is_at.ensures ∙ c.if-is_at.true)

pub returns-then-is_before : goal.returns-then-is_before
returns-then-is_before c = λ i e. found_before c.args.children.now c.within-near.result c.loop-places.places c.args.key (sym c.is_before.ensures ∙ c.if-is_before.true)

pub returns : goal.returns
returns c = λ i e.
    let is : c.loop-places.places ≡ length c.args.children.now = omega arith in
    absurd (none_there c.args.children.now c.within-near.result c.args.key c.within-near.ensures (subst (λ n. NoneNear c.args.children.now c.args.key c.within-near.result n) is c.loop-places.invariant) i e)
