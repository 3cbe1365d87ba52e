use Rattle.atspi_marshal.specs.Reading.{input_of}
use Rattle.atspi_marshal_in_place.specs.Items.{item_data, item_kind, elements_data, elements_kind, fields_data}
use Rattle.atspi_marshal_in_place.specs.codes.TyRefs.{ref_kind}
use Rattle.atspi_message_in_place.proofs.ReadTypes.{item_type}
use Rattle.atspi_reader_news.proofs.Came.{no_list_of_texts, texts_came, text_code}
use Rattle.atspi_reader_news.proofs.argument.next_texts.Goals as goal

pub returns-in_err-elements : goal.returns-in_err-elements
returns-in_err-elements c =
    let x = c.in_ok-next.field-0 in
    record {
      comes = no_list_of_texts c.from_residual-in_err-elements.result (item_data x) (item_kind x) (fields_data c.args.fields.now) (fields_data c.next.new.self) c.from_residual-in_err-elements.ensures c.in_ok-next.ensures.comes
          (item_type (input_of x.input) x.levels (item_kind x) x.bound x.at x.known) (λ a. let clash = c.in_err-elements.ensures.is.1 a in absurd cc);
    }

pub returns-then-code-eq115 : goal.returns-then-code-eq115
returns-then-code-eq115 c =
    let x = c.in_ok-next.field-0 in
    let es = c.in_ok-elements.elements in
    record {
      comes = texts_came (elements_data es) (item_data x) (elements_kind es) (fields_data c.args.fields.now) (fields_data c.next.new.self) c.in_ok-next.ensures.comes c.in_ok-elements.ensures.elements
          (text_code c.code.result (ref_kind c.ty.result) (elements_kind es) c.ty.ensures c.code.ensures.leaf c.if-code-eq115.true);
    }
