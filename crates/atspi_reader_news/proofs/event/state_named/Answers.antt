use Rattle.std.proofs.Common.{◌∙◌, sym, ap, ℕ, List}
use Rattle.std.specs.Prelude.{bytes_eq, position}
use Rattle.atspi_tables.specs.States.{state_names}
use Rattle.atspi_reader_news.proofs.Same.{other_state}
use Rattle.atspi_reader_news.proofs.event.state_named.Goals as goal

pub returns : goal.returns
returns c =
    c.state_of_name.ensures.first ∙ ap (λ (t : List ℕ). position (λ n. bytes_eq n t) state_names) c.as_bytes.ensures.value
    ∙ other_state c.args.name.now c.utf8.name (sym c.is_word.ensures ∙ c.if-is_word.false)
