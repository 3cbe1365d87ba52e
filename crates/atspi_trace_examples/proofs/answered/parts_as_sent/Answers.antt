use lib.Utf8.{encode}
use Rattle.std.proofs.Common.{◌≡◌, ◌≤◌, [], ◌∷◌, refl, ap, ◌∙◌, arith}
use Rattle.std.specs.Prelude.{codes}
use Rattle.atspi_types.specs.Data.{text_data}
use Rattle.atspi_tree_model.specs.Path.{path_of}
use Rattle.atspi_tree_model.proofs.Path.{path_of_apart}
use Rattle.atspi_protocol.specs.declared.news.part.PartName.TheVariants.{Text}
use Rattle.atspi_protocol.specs.declared.following.question.Question.TheVariants.{GetPart}
use Rattle.atspi_trace_examples.specs.caches.Cases.{its_name}
use Rattle.atspi_trace_laws.specs.answered.Laws.{TellsPart}
use Rattle.atspi_trace_examples.specs.answered.Cases.{told_values, text_told, nothing_told_of, unknown_told}
use Rattle.atspi_trace_laws.specs.laws.Words.{as_of, answers_question}
use Rattle.atspi_trace_laws.proofs.OfOrder.Parties.{no_none}
use Rattle.atspi_trace_examples.proofs.answered.parts_as_sent.Goals as goal

pub returns-clause-no_value : goal.returns-clause-no_value
unfolding encode
returns-clause-no_value c h =
    let t : TellsPart its_name (as_of nothing_told_of 0 5) 0 (path_of 0) Text (told_values []) = h its_name its_name (path_of 0) Text (told_values []) refl refl in absurd (no_none t.news t.told)

pub returns-clause-no_node : goal.returns-clause-no_node
unfolding encode
returns-clause-no_node c h =
    let t : TellsPart its_name (as_of unknown_told 0 5) 0 (path_of 1) Text (told_values (text_data (codes "Hi") ∷ [])) = h its_name its_name (path_of 1) Text (told_values (text_data (codes "Hi") ∷ [])) refl refl in
    let same : 1 ≡ t.node = path_of_apart 1 t.node t.is_of in
    let low : t.node ≤ 0 = t.was_added in absurd (omega (arith, same, low))

pub returns-clause-not_asked : goal.returns-clause-not_asked
unfolding encode
returns-clause-not_asked c name asked path part e found answers = absurd (no_none (GetPart asked path part) (ap (answers_question text_told 1) found ∙ answers))

pub returns-clause-other_entry : goal.returns-clause-other_entry
returns-clause-other_entry c = tt
