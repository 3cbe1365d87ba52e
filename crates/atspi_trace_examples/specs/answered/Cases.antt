-- Words for worked cases: a reader asks for the text of a node, and is told one, or none.
use Rattle.std.specs.Prelude.{ℕ, List, [], ◌∷◌, codes}
use Rattle.atspi_types.specs.Data.{Data, text_data}
use Rattle.atspi_tree_model.specs.Path.{path_of}
use Rattle.atspi_script_lines.specs.declared.line.Party.TheVariants.{App, Reader}
use Rattle.atspi_message.specs.Envelope.{Envelope}
use Rattle.atspi_protocol.specs.declared.news.part.PartName.TheVariants.{Text}
use Rattle.atspi_protocol.specs.declared.following.question.Question.TheVariants.{GetPart}
use Rattle.atspi_protocol.specs.following.Calls.{asking}
use Rattle.atspi_protocol.specs.following.Cases.{returned}
use Rattle.atspi_trace.specs.Entry.{Entry, sent}
use Rattle.atspi_trace_examples.specs.caches.Cases.{its_name}

abbrev pub told_values : List Data → Envelope
told_values values = record (returned 4 its_name values) { serial = 5 }

abbrev pub text_asked : ℕ → List Data → List Entry
text_asked node values = sent (Reader 0) (asking 4 (GetPart its_name (path_of node) Text))
    ∷ sent (App 0) (told_values values) ∷ []

-- a text of the root, no value, and a text of a node that was never added
abbrev pub text_told : List Entry
text_told = text_asked 0 (text_data (codes "Hi") ∷ [])

abbrev pub nothing_told_of : List Entry
nothing_told_of = text_asked 0 []

abbrev pub unknown_told : List Entry
unknown_told = text_asked 1 (text_data (codes "Hi") ∷ [])
