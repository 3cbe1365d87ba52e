use Rattle.std.proofs.Common.{◌≡◌, ◌≤◌, length, [], true, Ok, Err, arith, rules}
use Rattle.atspi_marshal_in_place.specs.codes.TyRefs.{refs_kinds}
use Rattle.atspi_marshal_in_place.specs.Items.{fields_data}
use Rattle.atspi_message_in_place.proofs.BodyValues.{values_read, left_over, none_left}
use Rattle.atspi_message_in_place.proofs.parsing.values.Goals as goal
use Rattle.atspi_message_in_place.proofs.parsing.values.Goals.{else-is_empty-via-then-is_empty+else-place-bytes, else-is_empty-via-else-is_empty}

pub returns-in_err-body : goal.returns-in_err-body
returns-in_err-body c =
    let none : refs_kinds c.args.types ≡ [] → length c.args.bytes.now ≤ c.args.place =
    elim c.else-is_empty.branch [
      | else-is_empty-via-then-is_empty+else-place-bytes w ↦ (λ e. omega (arith, w.if-place-bytes.false))
      | else-is_empty-via-else-is_empty w ↦ (λ e. absurd (let yes : c.is_empty.result ≡ true = c.is_empty.ensures.1 e in cc))
    ]
    in
    let h = values_read c.args.bytes.now (refs_kinds c.args.types) c.args.place c.order_of.result (Err c.in_err-body.field-0.0) c.order_of.ensures none c.in_err-body.ensures in
    search (rules, h)

pub returns-then-next-bytes : goal.returns-then-next-bytes
returns-then-next-bytes c =
    let none : refs_kinds c.args.types ≡ [] → length c.args.bytes.now ≤ c.args.place =
    elim c.else-is_empty.branch [
      | else-is_empty-via-then-is_empty+else-place-bytes w ↦ (λ e. omega (arith, w.if-place-bytes.false))
      | else-is_empty-via-else-is_empty w ↦ (λ e. absurd (let yes : c.is_empty.result ≡ true = c.is_empty.ensures.1 e in cc))
    ]
    in
    left_over c.args.bytes.now (fields_data c.in_ok-body.body) c.in_ok-body.next c.fault-then-next-bytes.result _ (omega (arith, c.if-next-bytes.true)) c.fault-then-next-bytes.ensures
    (values_read c.args.bytes.now (refs_kinds c.args.types) c.args.place c.order_of.result (Ok (c.in_ok-body.body, c.in_ok-body.next)) c.order_of.ensures none c.in_ok-body.ensures)

pub returns : goal.returns
returns c =
    let none : refs_kinds c.args.types ≡ [] → length c.args.bytes.now ≤ c.args.place =
    elim c.else-is_empty.branch [
      | else-is_empty-via-then-is_empty+else-place-bytes w ↦ (λ e. omega (arith, w.if-place-bytes.false))
      | else-is_empty-via-else-is_empty w ↦ (λ e. absurd (let yes : c.is_empty.result ≡ true = c.is_empty.ensures.1 e in cc))
    ]
    in
    none_left c.args.bytes.now (fields_data c.in_ok-body.body) c.in_ok-body.next _ (omega (arith, c.if-next-bytes.false))
    (values_read c.args.bytes.now (refs_kinds c.args.types) c.args.place c.order_of.result (Ok (c.in_ok-body.body, c.in_ok-body.next)) c.order_of.ensures none c.in_ok-body.ensures)
