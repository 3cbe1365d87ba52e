use Rattle.std.proofs.Common.{ap, sym, ◌∙◌}
use Rattle.atspi_marshal_in_place.specs.Items.{fields_data}
use Rattle.std.specs.Option.{option_map}
use Rattle.std.proofs.Common.{chars}
use Rattle.atspi_reader_told.specs.inner.Alone.{unique_if}
use Rattle.atspi_reader_told.proofs.Texts.{alone_is}
use Rattle.atspi_reader_told.proofs.hello.is_unique_alone.Goals as goal

pub returns-in-Some : goal.returns-in-Some
returns-in-Some c =
    c.is_unique.ensures ∙ sym (ap (λ o. unique_if (option_map (λ t. chars t.now) o)) c.in-Some.is) ∙ ap unique_if c.text_alone.ensures ∙ alone_is (fields_data c.args.body)

pub returns-in-None : goal.returns-in-None
returns-in-None c =
    sym (ap (λ o. unique_if (option_map (λ t. chars t.now) o)) c.in-None.is) ∙ ap unique_if c.text_alone.ensures ∙ alone_is (fields_data c.args.body)
