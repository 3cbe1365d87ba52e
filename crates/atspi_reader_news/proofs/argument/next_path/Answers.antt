use Rattle.atspi_marshal.specs.Reading.{input_of}
use Rattle.atspi_marshal_in_place.specs.Items.{item_data, item_kind, fields_data}
use Rattle.atspi_message_in_place.proofs.ReadTypes.{item_type}
use Rattle.atspi_reader_news.proofs.Came.{path_came, path_rule}
use Rattle.atspi_reader_news.proofs.argument.next_path.Goals as goal

pub returns-clause-comes : goal.returns-clause-comes
returns-clause-comes c =
    let x = c.in_ok-next.field-0 in
    path_came c.path.result (item_data x) (item_kind x) (fields_data c.args.fields.now) (fields_data c.next.new.self) c.in_ok-next.ensures.comes
    (item_type (input_of x.input) x.levels (item_kind x) x.bound x.at x.known) c.path.ensures.is c.path.ensures.path

pub returns-clause-rule : goal.returns-clause-rule
returns-clause-rule c = path_rule c.path.result c.path.ensures.rule
