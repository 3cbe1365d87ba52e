use Rattle.std.proofs.Common.{◌∙◌, Some, None, arith}
use Rattle.std.specs.Int.{w32}
use Rattle.std.proofs.lemmas.Int.{to_z-of_z}
use Rattle.atspi_marshal_in_place.specs.Items.{fields_data}
use Rattle.atspi_reader_news.specs.Seen.{reference_seen}
use Rattle.atspi_reader_news.specs.inner.Items.{behind_front}
use Rattle.atspi_reader_news.proofs.Came.{read_signed}
use Rattle.atspi_reader_news.proofs.ItemSteps.{behind_4, through_3, front_gone, same_front}
use Rattle.atspi_reader_news.proofs.item.item_front.Goals as goal

pub returns-in_err-children : goal.returns-in_err-children
returns-in_err-children c =
    front_gone c.from_residual-in_err-children.result (fields_data c.args.fields.now) (fields_data c.next_i32-2.new.fields) c.from_residual-in_err-children.ensures
    (through_3 (fields_data c.args.fields.now) (fields_data c.next_reference.new.fields) (fields_data c.next_reference-2.new.fields) (fields_data c.next_reference-3.new.fields) c.in_ok-object.object c.in_ok-application.application c.in_ok-parent.parent c.in_ok-object.ensures c.in_ok-application.ensures c.in_ok-parent.ensures
    ∙ read_signed (λ i. behind_4 (reference_seen c.in_ok-object.object) (reference_seen c.in_ok-application.application) (reference_seen c.in_ok-parent.parent) i) (Some c.in_ok-index.index) (fields_data c.next_reference-3.new.fields) (fields_data c.next_i32.new.fields) c.in_ok-index.ensures
    ∙ read_signed (λ n. behind_front (reference_seen c.in_ok-object.object) (reference_seen c.in_ok-application.application) (reference_seen c.in_ok-parent.parent) c.in_ok-index.index n) None (fields_data c.next_i32.new.fields) (fields_data c.next_i32-2.new.fields) c.in_err-children.ensures)

pub returns : goal.returns
returns c =
    through_3 (fields_data c.args.fields.now) (fields_data c.next_reference.new.fields) (fields_data c.next_reference-2.new.fields) (fields_data c.next_reference-3.new.fields) c.in_ok-object.object c.in_ok-application.application c.in_ok-parent.parent c.in_ok-object.ensures c.in_ok-application.ensures c.in_ok-parent.ensures
    ∙ read_signed (λ i. behind_4 (reference_seen c.in_ok-object.object) (reference_seen c.in_ok-application.application) (reference_seen c.in_ok-parent.parent) i) (Some c.in_ok-index.index) (fields_data c.next_reference-3.new.fields) (fields_data c.next_i32.new.fields) c.in_ok-index.ensures
    ∙ read_signed (λ n. behind_front (reference_seen c.in_ok-object.object) (reference_seen c.in_ok-application.application) (reference_seen c.in_ok-parent.parent) c.in_ok-index.index n) (Some c.in_ok-children.children) (fields_data c.next_i32.new.fields) (fields_data c.next_i32-2.new.fields) c.in_ok-children.ensures
    ∙ same_front (reference_seen c.in_ok-object.object) (reference_seen c.in_ok-application.application) (reference_seen c.in_ok-parent.parent) c.in_ok-index.index c.in_ok-children.children _ _ (fields_data c.next_i32-2.new.fields) (to_z-of_z w32 c.in_ok-index.index (record { sfits = omega arith })) (to_z-of_z w32 c.in_ok-children.children (record { sfits = omega arith }))
