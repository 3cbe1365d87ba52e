use Rattle.std.proofs.Common.{◌∙◌, Some, chars, sym}
use Rattle.atspi_marshal_in_place.specs.Items.{item_data, fields_data}
use Rattle.atspi_protocol.specs.news.Arguments.{then_text}
use Rattle.atspi_reader_news.proofs.Came.{read_text}
use Rattle.atspi_reader_told.specs.inner.Ended.{ended_if}
use Rattle.atspi_reader_told.proofs.EndedLemmas.{someone, nobody, more_behind}
use Rattle.atspi_reader_told.proofs.ended.name_in.Goals as goal

pub returns-then-not-is_nobody : goal.returns-then-not-is_nobody
returns-then-not-is_nobody c =
    let f0 = fields_data c.args.body in
    let f1 = fields_data c.next_text.new.fields in
    let f2 = fields_data c.next_text-2.new.fields in
    let f3 = fields_data c.next_text-3.new.fields in
    let name = chars c.in_ok-name.name.now in
    let owner = chars c.in_ok-owner.owner.now in
    let whole =
    read_text (λ n. then_text (λ b. then_text (λ o. ended_if n o))) (Some c.in_ok-name.name) f0 f1 c.in_ok-name.ensures.comes
    ∙ read_text (λ b. then_text (λ o. ended_if name o)) (Some c.in_ok-_before._before) f1 f2 c.in_ok-_before.ensures.comes
    ∙ read_text (λ o. ended_if name o) (Some c.in_ok-owner.owner) f2 f3 c.in_ok-owner.ensures.comes in
    someone name owner f3 (sym c.is_nobody.ensures ∙ c.if-not-is_nobody.true) ∙ sym whole

pub returns-in-None : goal.returns-in-None
returns-in-None c =
    let f0 = fields_data c.args.body in
    let f1 = fields_data c.next_text.new.fields in
    let f2 = fields_data c.next_text-2.new.fields in
    let f3 = fields_data c.next_text-3.new.fields in
    let name = chars c.in_ok-name.name.now in
    let owner = chars c.in_ok-owner.owner.now in
    let whole =
    read_text (λ n. then_text (λ b. then_text (λ o. ended_if n o))) (Some c.in_ok-name.name) f0 f1 c.in_ok-name.ensures.comes
    ∙ read_text (λ b. then_text (λ o. ended_if name o)) (Some c.in_ok-_before._before) f1 f2 c.in_ok-_before.ensures.comes
    ∙ read_text (λ o. ended_if name o) (Some c.in_ok-owner.owner) f2 f3 c.in_ok-owner.ensures.comes in
    nobody name owner f3 (sym c.is_nobody.ensures ∙ c.if-not-is_nobody.false) c.in-None.ensures.comes.0 ∙ sym whole

pub returns-in-Some : goal.returns-in-Some
returns-in-Some c =
    let f0 = fields_data c.args.body in
    let f1 = fields_data c.next_text.new.fields in
    let f2 = fields_data c.next_text-2.new.fields in
    let f3 = fields_data c.next_text-3.new.fields in
    let name = chars c.in_ok-name.name.now in
    let owner = chars c.in_ok-owner.owner.now in
    let whole =
    read_text (λ n. then_text (λ b. then_text (λ o. ended_if n o))) (Some c.in_ok-name.name) f0 f1 c.in_ok-name.ensures.comes
    ∙ read_text (λ b. then_text (λ o. ended_if name o)) (Some c.in_ok-_before._before) f1 f2 c.in_ok-_before.ensures.comes
    ∙ read_text (λ o. ended_if name o) (Some c.in_ok-owner.owner) f2 f3 c.in_ok-owner.ensures.comes in
    more_behind name owner f3 (item_data c.in-Some._more) (fields_data c.next.new.self) c.in-Some.ensures.comes ∙ sym whole
