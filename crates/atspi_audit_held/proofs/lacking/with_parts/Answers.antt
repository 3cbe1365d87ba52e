use Rattle.std.proofs.Common.{ℕ, List, ◌∷◌, sym, ap, subst}
use Rattle.std.specs.List.{list_any}
use Rattle.std.specs.Ordering.{nat_cmp}
use Rattle.std.specs.BTreeMap.{is_at}
use Rattle.std.specs.BTreeSet.{contains}
use Rattle.atspi_tree_model.specs.Row.{Each}
use Rattle.atspi_app_items.proofs.Walked.{IsPlace, all_places}
use Rattle.atspi_audit_held.proofs.Collecting.{all_there, collecting_starts, collecting_more, collecting_ends}
use Rattle.atspi_audit_held.proofs.lacking.with_parts.Goals as goal

pub loop-seat-init : goal.loop-seat-init
loop-seat-init c = record {
  collecting = collecting_starts c.args.tree.now (contains nat_cmp c.new-nodes.result) c.seats-walk.result
      (λ n. ap (λ (ks : List ℕ). list_any (is_at (nat_cmp n)) ks) c.new-nodes.ensures.empty) c.seats-walk.ensures (all_there c.args.tree.now);
  there = subst (Each (IsPlace c.args.tree.now)) (sym c.seats-walk.ensures) (all_places c.args.tree.now c.is_lawful.ensures);
}

pub kinds-requires : goal.kinds-requires
kinds-requires c =
    let there : Each (IsPlace c.args.tree.now) (c.in-Some.seat ∷ c.next.new.self) = subst (Each (IsPlace c.args.tree.now)) c.in-Some.ensures.steps c.loop-seat.invariant.there in
    there.0.there

pub loop-seat-preserved : goal.loop-seat-preserved
loop-seat-preserved c =
    let there : Each (IsPlace c.args.tree.now) (c.in-Some.seat ∷ c.next.new.self) = subst (Each (IsPlace c.args.tree.now)) c.in-Some.ensures.steps c.loop-seat.invariant.there in
    record {
      collecting = collecting_more c.args.tree.now.rows c.args.tree.now.added (contains nat_cmp c.loop-seat.nodes) (contains nat_cmp c.note_if.new.nodes)
          c.loop-seat.walk c.next.new.self c.in-Some.seat c.kinds.result c.is_lacking-test.result c.is_lawful.ensures c.in-Some.ensures.steps c.kinds.ensures
          c.is_lacking-test.ensures c.in_ok-note_if.ensures.ok c.loop-seat.invariant.collecting;
      there = there.1;
    }

pub returns : goal.returns
returns c = collecting_ends c.args.tree.now.rows (contains nat_cmp c.loop-seat.nodes) c.loop-seat.walk c.in_default.ensures.steps.0 c.loop-seat.invariant.collecting
