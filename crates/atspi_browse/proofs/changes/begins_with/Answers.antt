use Rattle.std.proofs.Common.{◌∙◌, ap, ℕ, List, take, length}
use Rattle.std.specs.Prelude.{bytes_eq}
use Rattle.atspi_reader_news.proofs.Same.{turned_front, same_front}
use Rattle.atspi_browse.proofs.changes.begins_with.Goals as goal

pub returns : goal.returns
returns c =
    let text = c.args.text.now in
    let word = c.args.word.now in
    c.starts_with.ensures.value ∙ ap (λ (w : List ℕ). bytes_eq w (take (length w) c.as_bytes.result.now)) c.as_bytes-2.ensures.value
    ∙ ap (λ (t : List ℕ). bytes_eq word (take (length word) t)) c.as_bytes.ensures.value ∙ turned_front text word ∙ same_front text word c.utf8.text c.requires
