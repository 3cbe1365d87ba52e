use Rattle.std.proofs.Common.{◌∙◌, sym, ap}
use Rattle.atspi_marshal_in_place.specs.codes.Codes.{is_array}
use Rattle.atspi_marshal.specs.Reading.{input_of}
use Rattle.atspi_marshal_in_place.specs.Items.{item_data, item_kind, elements_data, elements_kind}
use Rattle.atspi_message_in_place.proofs.ReadTypes.{item_type}
use Rattle.atspi_protocol.specs.news.Replies.{items_among}
use Rattle.atspi_reader_news.proofs.Told.{same_value, differs_by}
use Rattle.atspi_reader_news.proofs.Lists.{not_elements, elements_in}
use Rattle.atspi_reader_news.proofs.reply.items_in.Goals as goal

pub returns-in-Some : goal.returns-in-Some
returns-in-Some c =
    let es = c.in-Some.elements in
    same_value c.items_of.result _ _ (ap items_among (sym (elements_in (item_data c.args.value) (elements_kind es) (elements_data es) c.in-Some.ensures.elements))) c.items_of.ensures

pub returns-in-None : goal.returns-in-None
returns-in-None c =
    let x = c.args.value in
    c.new.ensures ∙ ap items_among (not_elements (item_data x) (differs_by is_array (item_data x) (item_kind x) (item_type (input_of x.input) x.levels (item_kind x) x.bound x.at x.known) (λ t. let clash = c.in-None.ensures.is.1 t in absurd cc)))
