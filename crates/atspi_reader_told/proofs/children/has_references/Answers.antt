use Rattle.std.proofs.Common.{◌∙◌, ap, ℕ, List}
use Rattle.std.specs.Prelude.{bytes_eq}
use Rattle.atspi_protocol.specs.following.Replied.{children_signature}
use Rattle.atspi_reader_news.proofs.Lists.{codes_are}
use Rattle.atspi_reader_told.proofs.children.has_references.Goals as goal

pub returns : goal.returns
returns c = c.eq.ensures ∙ ap (λ (w : List ℕ). bytes_eq c.codes.result.now w) c.as_slice.ensures ∙ ap (λ (cs : List ℕ). bytes_eq cs children_signature) (codes_are c.args.body c.types.result c.codes.result.now c.codes.ensures.spelled c.types.ensures)
