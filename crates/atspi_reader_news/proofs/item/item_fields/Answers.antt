use Rattle.std.proofs.Common.{◌∙◌, None, chars, map, sym}
use Rattle.atspi_marshal_in_place.specs.Items.{fields_data, elements_data}
use Rattle.atspi_protocol.specs.news.Arguments.{text_in}
use Rattle.atspi_protocol.specs.news.CacheSignals.{item_of}
use Rattle.atspi_reader_news.proofs.Came.{read_text, read_unsigned}
use Rattle.atspi_reader_news.proofs.ItemSteps.{behind_8, behind_9, through_6, through_7, through_8, through_9, ends_10, more_10, no_numbers_10, gone}
use Rattle.atspi_reader_news.proofs.item.item_fields.Goals as goal

pub returns-in_err-role : goal.returns-in_err-role
returns-in_err-role c =
    let e6 = through_6 (item_of (fields_data c.args.fields)) c.in_ok-front.front (fields_data c.item_front.new.fields) (fields_data c.next_texts.new.fields) c.in_ok-interfaces.interfaces c.in_ok-front.ensures c.in_ok-interfaces.ensures.comes in
    let e7 = through_7 (item_of (fields_data c.args.fields)) c.in_ok-front.front (fields_data c.next_texts.new.fields) (fields_data c.next_text.new.fields) (map text_in (elements_data c.in_ok-interfaces.interfaces)) c.in_ok-name.name e6 c.in_ok-name.ensures.comes in
    gone c.from_residual-in_err-role.result (item_of (fields_data c.args.fields)) c.from_residual-in_err-role.ensures (e7 ∙ read_unsigned (λ s. behind_8 c.in_ok-front.front (map text_in (elements_data c.in_ok-interfaces.interfaces)) (chars c.in_ok-name.name.now) s) None (fields_data c.next_text.new.fields) (fields_data c.next_u32.new.fields) c.in_err-role.ensures)

pub returns-in_err-description : goal.returns-in_err-description
returns-in_err-description c =
    let e6 = through_6 (item_of (fields_data c.args.fields)) c.in_ok-front.front (fields_data c.item_front.new.fields) (fields_data c.next_texts.new.fields) c.in_ok-interfaces.interfaces c.in_ok-front.ensures c.in_ok-interfaces.ensures.comes in
    let e7 = through_7 (item_of (fields_data c.args.fields)) c.in_ok-front.front (fields_data c.next_texts.new.fields) (fields_data c.next_text.new.fields) (map text_in (elements_data c.in_ok-interfaces.interfaces)) c.in_ok-name.name e6 c.in_ok-name.ensures.comes in
    let e8 = through_8 (item_of (fields_data c.args.fields)) c.in_ok-front.front (fields_data c.next_text.new.fields) (fields_data c.next_u32.new.fields) (map text_in (elements_data c.in_ok-interfaces.interfaces)) (chars c.in_ok-name.name.now) c.in_ok-role.role e7 c.in_ok-role.ensures in
    gone c.from_residual-in_err-description.result (item_of (fields_data c.args.fields)) c.from_residual-in_err-description.ensures (e8 ∙ read_text (λ s. behind_9 c.in_ok-front.front (map text_in (elements_data c.in_ok-interfaces.interfaces)) (chars c.in_ok-name.name.now) c.in_ok-role.role s) None (fields_data c.next_u32.new.fields) (fields_data c.next_text-2.new.fields) c.in_err-description.ensures.comes)

pub returns-in_err-states : goal.returns-in_err-states
returns-in_err-states c =
    let e6 = through_6 (item_of (fields_data c.args.fields)) c.in_ok-front.front (fields_data c.item_front.new.fields) (fields_data c.next_texts.new.fields) c.in_ok-interfaces.interfaces c.in_ok-front.ensures c.in_ok-interfaces.ensures.comes in
    let e7 = through_7 (item_of (fields_data c.args.fields)) c.in_ok-front.front (fields_data c.next_texts.new.fields) (fields_data c.next_text.new.fields) (map text_in (elements_data c.in_ok-interfaces.interfaces)) c.in_ok-name.name e6 c.in_ok-name.ensures.comes in
    let e8 = through_8 (item_of (fields_data c.args.fields)) c.in_ok-front.front (fields_data c.next_text.new.fields) (fields_data c.next_u32.new.fields) (map text_in (elements_data c.in_ok-interfaces.interfaces)) (chars c.in_ok-name.name.now) c.in_ok-role.role e7 c.in_ok-role.ensures in
    let e9 = through_9 (item_of (fields_data c.args.fields)) c.in_ok-front.front (fields_data c.next_u32.new.fields) (fields_data c.next_text-2.new.fields) (map text_in (elements_data c.in_ok-interfaces.interfaces)) (chars c.in_ok-name.name.now) c.in_ok-role.role c.in_ok-description.description e8 c.in_ok-description.ensures.comes in
    gone c.from_residual-in_err-states.result (item_of (fields_data c.args.fields)) c.from_residual-in_err-states.ensures (no_numbers_10 (item_of (fields_data c.args.fields)) c.in_ok-front.front (fields_data c.next_text-2.new.fields) (fields_data c.next_numbers.new.fields) (map text_in (elements_data c.in_ok-interfaces.interfaces)) (chars c.in_ok-name.name.now) c.in_ok-role.role (chars c.in_ok-description.description.now) e9 c.in_err-states.ensures.comes)

pub returns-in-None : goal.returns-in-None
returns-in-None c =
    let e6 = through_6 (item_of (fields_data c.args.fields)) c.in_ok-front.front (fields_data c.item_front.new.fields) (fields_data c.next_texts.new.fields) c.in_ok-interfaces.interfaces c.in_ok-front.ensures c.in_ok-interfaces.ensures.comes in
    let e7 = through_7 (item_of (fields_data c.args.fields)) c.in_ok-front.front (fields_data c.next_texts.new.fields) (fields_data c.next_text.new.fields) (map text_in (elements_data c.in_ok-interfaces.interfaces)) c.in_ok-name.name e6 c.in_ok-name.ensures.comes in
    let e8 = through_8 (item_of (fields_data c.args.fields)) c.in_ok-front.front (fields_data c.next_text.new.fields) (fields_data c.next_u32.new.fields) (map text_in (elements_data c.in_ok-interfaces.interfaces)) (chars c.in_ok-name.name.now) c.in_ok-role.role e7 c.in_ok-role.ensures in
    let e9 = through_9 (item_of (fields_data c.args.fields)) c.in_ok-front.front (fields_data c.next_u32.new.fields) (fields_data c.next_text-2.new.fields) (map text_in (elements_data c.in_ok-interfaces.interfaces)) (chars c.in_ok-name.name.now) c.in_ok-role.role c.in_ok-description.description e8 c.in_ok-description.ensures.comes in
    sym (ends_10 (item_of (fields_data c.args.fields)) c.in_ok-front.front (fields_data c.next_text-2.new.fields) (fields_data c.next_numbers.new.fields) c.in_ok-interfaces.interfaces (chars c.in_ok-name.name.now) c.in_ok-role.role (chars c.in_ok-description.description.now) c.in_ok-states.states e9 c.in_ok-states.ensures.comes c.in-None.ensures.comes.0)

pub returns-in-Some : goal.returns-in-Some
returns-in-Some c =
    let e6 = through_6 (item_of (fields_data c.args.fields)) c.in_ok-front.front (fields_data c.item_front.new.fields) (fields_data c.next_texts.new.fields) c.in_ok-interfaces.interfaces c.in_ok-front.ensures c.in_ok-interfaces.ensures.comes in
    let e7 = through_7 (item_of (fields_data c.args.fields)) c.in_ok-front.front (fields_data c.next_texts.new.fields) (fields_data c.next_text.new.fields) (map text_in (elements_data c.in_ok-interfaces.interfaces)) c.in_ok-name.name e6 c.in_ok-name.ensures.comes in
    let e8 = through_8 (item_of (fields_data c.args.fields)) c.in_ok-front.front (fields_data c.next_text.new.fields) (fields_data c.next_u32.new.fields) (map text_in (elements_data c.in_ok-interfaces.interfaces)) (chars c.in_ok-name.name.now) c.in_ok-role.role e7 c.in_ok-role.ensures in
    let e9 = through_9 (item_of (fields_data c.args.fields)) c.in_ok-front.front (fields_data c.next_u32.new.fields) (fields_data c.next_text-2.new.fields) (map text_in (elements_data c.in_ok-interfaces.interfaces)) (chars c.in_ok-name.name.now) c.in_ok-role.role c.in_ok-description.description e8 c.in_ok-description.ensures.comes in
    sym (more_10 (item_of (fields_data c.args.fields)) c.in_ok-front.front (fields_data c.next_text-2.new.fields) (fields_data c.next_numbers.new.fields) (map text_in (elements_data c.in_ok-interfaces.interfaces)) (chars c.in_ok-name.name.now) c.in_ok-role.role (chars c.in_ok-description.description.now) c.in_ok-states.states _ _ e9 c.in_ok-states.ensures.comes c.in-Some.ensures.comes)
