use Rattle.std.proofs.Common.{◌≡◌, sym, ap, ◌∙◌, []}
use Rattle.std.specs.Prelude.{Ok}
use Rattle.std.proofs.lemmas.Result.{IfOk-weaker}
use Rattle.atspi_types.specs.Kinds.{Kind, kinds_of}
use Rattle.atspi_marshal_in_place.specs.Items.{fields_data, fields_kinds}
use Rattle.atspi_message_in_place.specs.View.{envelope_at}
use Rattle.atspi_bus_answers.specs.Lines.{takes_of}
use Rattle.atspi_bus_answers.specs.Answered.{with_parts}
use Rattle.atspi_bus_answers.specs.inner.Members.{requested_answer, released_answer}
use Rattle.atspi_bus_answers.proofs.Asked.{asked_takes, body_codes, text_and_word}
use Rattle.atspi_bus_answers.proofs.MemberAnswers.{as_requested, as_released, as_added, as_removed, named-requested, named-released, named-either}
use Rattle.atspi_bus_answers.proofs.answering.answer.Goals as goal

pub second_number-flags-requires : goal.second_number-flags-requires
second_number-flags-requires c =
    let b = c.args.m.now.body in
    text_and_word (fields_kinds b) (sym (body_codes b b.known) ∙ asked_takes (envelope_at c.args.m.now) c.args.member c.requires.asked ∙ ap takes_of c.in-RequestName.is)

pub returns-in-RequestName-clause-ok : goal.returns-in-RequestName-clause-ok
returns-in-RequestName-clause-ok c =
    IfOk-weaker c.request_name.result _ _
    (λ reply h. as_requested c.args.names.now c.request_name.new.names c.args.rules.now c.args.conn (fields_data c.args.m.now.body) c.args.told.now.items c.request_name.new.told.items reply
    c.args.member c.in-RequestName.is _ _ c.first_text-text.ensures c.second_number-flags.ensures (h c.args.rules.now))
    c.request_name.ensures.ok

pub returns-in-RequestName-clause-named : goal.returns-in-RequestName-clause-named
returns-in-RequestName-clause-named c =
    named-either c.request_name.result c.request_name.new.names _ c.args.names.now
    (IfOk-weaker c.request_name.result _ _ (λ reply h. (h []).owners) c.request_name.ensures.ok) c.request_name.ensures.err
    (named-requested (with_parts c.args.names.now []) c.args.conn _ _ c.requires.named) c.requires.named

pub returns-in-ReleaseName-clause-ok : goal.returns-in-ReleaseName-clause-ok
returns-in-ReleaseName-clause-ok c =
    IfOk-weaker c.release_name.result _ _
    (λ reply h. as_released c.args.names.now c.release_name.new.names c.args.rules.now c.args.conn (fields_data c.args.m.now.body) c.args.told.now.items c.release_name.new.told.items reply
    c.args.member c.in-ReleaseName.is _ c.first_text-text.ensures (h c.args.rules.now))
    c.release_name.ensures.ok

pub returns-in-ReleaseName-clause-named : goal.returns-in-ReleaseName-clause-named
returns-in-ReleaseName-clause-named c =
    named-either c.release_name.result c.release_name.new.names _ c.args.names.now
    (IfOk-weaker c.release_name.result _ _ (λ reply h. (h []).owners) c.release_name.ensures.ok) c.release_name.ensures.err
    (named-released (with_parts c.args.names.now []) c.args.conn _ c.requires.named) c.requires.named

pub returns-in-AddMatch-clause-ok : goal.returns-in-AddMatch-clause-ok
returns-in-AddMatch-clause-ok c =
    IfOk-weaker c.add_match.result _ _
    (λ reply h. as_added c.args.names.now c.args.rules.now c.add_match.new.rules c.args.conn (fields_data c.args.m.now.body) c.args.told.now.items reply
    c.args.member c.first_text-text.result.now c.first_text-text.utf8 c.first_text-text.ensures c.in-AddMatch.is h)
    c.add_match.ensures.ok

pub returns-in-RemoveMatch-clause-ok : goal.returns-in-RemoveMatch-clause-ok
returns-in-RemoveMatch-clause-ok c =
    IfOk-weaker c.remove_match.result _ _
    (λ reply h. as_removed c.args.names.now c.args.rules.now c.remove_match.new.rules c.args.conn (fields_data c.args.m.now.body) c.args.told.now.items reply
    c.args.member c.first_text-text.result.now c.first_text-text.utf8 c.first_text-text.ensures c.in-RemoveMatch.is h)
    c.remove_match.ensures.ok
