use Rattle.std.proofs.Common.{refl}
use Rattle.std.specs.Fmt.{digits}
use Rattle.atspi_base.specs.Digits.{hex_digits}
use Rattle.atspi_trace_texts.specs.Rows.{last_number, node_text}
use Rattle.atspi_tree_model.specs.Path.{path_of}
use Rattle.atspi_tables.specs.Roles.{role_names, role_words}
use Rattle.atspi_live_examples.proofs.reader.shows.shown_rows.Goals as goal

pub returns-clause-no_rows : goal.returns-clause-no_rows
unfolding digits hex_digits last_number node_text path_of role_names role_words lib.Utf8.encode
returns-clause-no_rows c = refl

pub returns-clause-one : goal.returns-clause-one
unfolding digits hex_digits last_number node_text path_of role_names role_words lib.Utf8.encode
returns-clause-one c = refl

pub returns-clause-two : goal.returns-clause-two
unfolding digits hex_digits last_number node_text path_of role_names role_words lib.Utf8.encode
returns-clause-two c = refl
