use Rattle.std.proofs.Common.{◌≡◌, List, [], ◌∷◌, ◌++◌, refl, sym, ap, ◌∙◌, subst}
use Rattle.std.proofs.lemmas.List.{append-nil}
use Rattle.atspi_tree_model.specs.Row.{Each}
use Rattle.atspi_tree.specs.Seats.{seats_in}
use Rattle.atspi_tree.specs.TreeShape.{TreeShape}
use Rattle.atspi_app_items.proofs.Walked.{IsPlace, all_places}
use Rattle.atspi_trace_events.specs.declared.shown.ShownRow.{ShownRow}
use Rattle.atspi_whole_tree.specs.Whole.{shape_in}
use Rattle.atspi_audit_held.specs.Held.{told_by}
use Rattle.atspi_audit_held.specs.inner.Rows.{place_rows}
use Rattle.atspi_audit_held.proofs.Showing.{place_there, row_found, rows_more}
use Rattle.atspi_audit_held.proofs.rows.rows_of.Goals as goal

pub loop-seat-init : goal.loop-seat-init
loop-seat-init c =
    let told = told_by c.args.told.now.entries in
    let t = c.args.tree.now in
    record {
      shown = ap (λ (rows : List ShownRow). rows ++ place_rows told t c.seats-walk.result) c.new-rows.ensures.items
          ∙ ap (place_rows told t) (c.seats-walk.ensures ∙ ap seats_in c.tree-shape.ensures.shape);
      there = subst (λ (s : TreeShape). Each (IsPlace s) c.seats-walk.result) c.tree-shape.ensures.shape
          (subst (Each (IsPlace c.tree-shape.result.now)) (sym c.seats-walk.ensures) (all_places c.tree-shape.result.now c.is_lawful.ensures));
    }

pub row_at-requires : goal.row_at-requires
row_at-requires c =
    let there : Each (IsPlace (shape_in c.args.tree.now)) (c.in-Some.seat ∷ c.next.new.self) =
    subst (Each (IsPlace (shape_in c.args.tree.now))) c.in-Some.ensures.steps c.loop-seat.invariant.there in
    record {
      there = place_there c.args.tree.now c.in-Some.seat.node (shape_in c.args.tree.now) refl there.0.there;
      small = there.0.small;
    }

pub loop-seat-preserved : goal.loop-seat-preserved
loop-seat-preserved c =
    let t = c.args.tree.now in
    let there : Each (IsPlace (shape_in c.args.tree.now)) (c.in-Some.seat ∷ c.next.new.self) =
    subst (Each (IsPlace (shape_in c.args.tree.now))) c.in-Some.ensures.steps c.loop-seat.invariant.there in
    let row = row_found t c.in-Some.seat.node (place_there t c.in-Some.seat.node (shape_in c.args.tree.now) refl there.0.there) in
    record {
      shown = rows_more (told_by c.args.told.now.entries) t c.loop-seat.rows.items _ c.in-Some.seat c.loop-seat.walk c.next.new.self row.0 c.in_ok-row.row _
          c.in-Some.ensures.steps row.1 (c.in_ok-row.ensures row.0 row.1) c.in_ok-push.ensures.items c.loop-seat.invariant.shown;
      there = there.1;
    }

pub returns : goal.returns
returns c =
    let told = told_by c.args.told.now.entries in
    sym (rows_end _ (place_rows told c.args.tree.now c.loop-seat.walk) (ap (place_rows told c.args.tree.now) c.in_default.ensures.steps.0)) ∙ c.loop-seat.invariant.shown
  where
    rows_end : (done left : List ShownRow) → left ≡ [] → done ++ left ≡ done
    rows_end done left e = ap (λ l. done ++ l) e ∙ append-nil done
