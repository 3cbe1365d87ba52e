use Rattle.std.proofs.Common.{refl, sym, ap, ◌∙◌, subst}
use Rattle.std.specs.Ordering.{nat_cmp}
use Rattle.std.specs.Cmp.Lexicographic.{slice_cmp}
use Rattle.std.specs.BTreeMap.{is_at}
use Rattle.std.specs.List.{list_any}
use Rattle.atspi_names.proofs.BookLemmas.{IsLeaving, leaves_next, leaves_all}
use Rattle.atspi_names.proofs.book.leave_all.Goals as goal

pub loop-name-init : goal.loop-name-init
loop-name-init c = record {
  no_empty = c.requires.no_empty;
  others = λ q. refl;
  left = λ q out. c.requires.all q ∙ ap (list_any (is_at (slice_cmp nat_cmp q))) (sym c.into_iter-name-iterator.ensures.into_iter_gives.0) ∙ out;
}

pub loop-name-preserved : goal.loop-name-preserved
loop-name-preserved c =
    leaves_next c.args.conn c.args.lists.now c.loop-name.lists c.release.new.self c.in-Some.name.now c.next.new.self
    (subst (IsLeaving c.args.conn c.args.lists.now c.loop-name.lists) c.in-Some.ensures.steps c.loop-name.invariant) c.release.ensures.lists

pub returns : goal.returns
returns c =
    leaves_all c.args.conn c.args.lists.now c.loop-name.lists
    (subst (IsLeaving c.args.conn c.args.lists.now c.loop-name.lists) c.in-None.ensures.steps.0 c.loop-name.invariant)
