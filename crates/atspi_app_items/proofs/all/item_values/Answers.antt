use Rattle.std.proofs.Common.{◌≡◌, List, [], ◌∷◌, ◌++◌, map, refl, sym, ap, ◌∙◌, subst}
use Rattle.std.specs.Prelude.{IfSome, Option}
use Rattle.atspi_types.specs.Data.{Data}
use Rattle.atspi_types.specs.DataView.{data_of, all_data}
use Rattle.atspi_tree_model.specs.Row.{ShapeRow}
use Rattle.atspi_tree_model.specs.Tree.{is_shape}
use Rattle.atspi_tree_model.proofs.Found.{count-has, find-has}
use Rattle.atspi_tree.specs.Seats.{seats_in}
use Rattle.atspi_tree_model.specs.Row.{Each}
use Rattle.atspi_protocol.specs.objects.Values.{item_data}
use Rattle.atspi_tree.specs.declared.seats.Seat.{Seat}
use Rattle.atspi_app_items.specs.inner.Seated.{seat_item, seats_items}
use Rattle.atspi_app_items.proofs.Walked.{IsPlace, all_places, told_more}
use Rattle.atspi_app_items.proofs.all.item_values.Goals as goal

pub loop-seat-init : goal.loop-seat-init
loop-seat-init c =
    let b = c.args.bus.now in
    let t = c.args.tree.now in
    record {
      told = ap (λ (ds : List Data). ds ++ map item_data (seats_items b t c.seats-walk.result)) c.new-all.ensures
          ∙ ap (λ (w : List Seat). map item_data (seats_items b t w)) c.seats-walk.ensures;
      there = subst (Each (IsPlace t)) (sym c.seats-walk.ensures) (all_places t c.is_lawful.ensures);
    }

pub loop-seat-preserved : goal.loop-seat-preserved
loop-seat-preserved c =
    let b = c.args.bus.now in
    let t = c.args.tree.now in
    let seat = c.in-Some.seat in
    let rest = c.next.new.self in
    let steps = c.in-Some.ensures.steps in
    let there : Each (IsPlace t) (seat ∷ rest) = subst (Each (IsPlace t)) steps c.loop-seat.invariant.there in
    let o = find-has (is_shape seat.node) t.rows (count-has (is_shape seat.node) t.rows there.0.there) in
    let value = c.in_ok-value.value in
    let is : data_of value ≡ item_data (seat_item b t seat o.0) = subst (λ (r : Option ShapeRow). IfSome r (λ row. data_of value ≡ item_data (seat_item b t seat row))) o.1 c.in_ok-value.ensures in
    let old = all_data c.loop-seat.all in
    record {
      told = ap (λ (ds : List Data). ds ++ map item_data (seats_items b t rest)) (c.in_ok-push.ensures.ok ∙ ap (λ (d : Data). old ++ d ∷ []) is)
          ∙ told_more b t old (map item_data (seats_items b t (seats_in t))) seat rest o.0 (seat_item b t seat o.0) o.1 refl (ap (λ (w : List Seat). old ++ map item_data (seats_items b t w)) (sym steps) ∙ c.loop-seat.invariant.told);
      there = there.1;
    }
