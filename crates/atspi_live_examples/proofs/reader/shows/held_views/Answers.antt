use Rattle.std.proofs.Common.{refl}
use Rattle.std.specs.Fmt.{digits}
use Rattle.atspi_base.specs.Digits.{hex_digits}
use Rattle.atspi_trace_texts.specs.Rows.{last_number, node_text}
use Rattle.atspi_tree_model.specs.Path.{path_of}
use Rattle.atspi_tables.specs.Roles.{role_names, role_words}
use Rattle.atspi_live_examples.proofs.reader.shows.held_views.Goals as goal

pub returns-clause-held : goal.returns-clause-held
unfolding digits hex_digits last_number node_text path_of role_names role_words lib.Utf8.encode
returns-clause-held c = refl

pub returns-clause-all : goal.returns-clause-all
unfolding digits hex_digits last_number node_text path_of role_names role_words lib.Utf8.encode
returns-clause-all c = refl
