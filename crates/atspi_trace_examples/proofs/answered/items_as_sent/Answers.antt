use lib.Utf8.{encode}
use Rattle.std.proofs.Common.{Bool, true, false, List, [], ◌∷◌, Option, None, Some, refl, ap, ◌∙◌}
use Rattle.std.specs.Prelude.{codes}
use Rattle.atspi_tree_model.specs.declared.news.Item.{Item}
use Rattle.atspi_tree_model.specs.declared.view.Row.{Row}
use Rattle.atspi_tree_model.specs.Forest.{Forest, nil, tree}
use Rattle.atspi_tree_model.specs.News.{load}
use Rattle.atspi_tree_model.specs.Path.{path_of}
use Rattle.atspi_message.specs.Envelope.{Envelope}
use Rattle.atspi_protocol.specs.declared.following.question.Question.TheVariants.{GetItems}
use Rattle.atspi_protocol.specs.following.Cases.{returned, item, items}
use Rattle.atspi_trace_examples.specs.caches.Cases.{its_name, told}
use Rattle.atspi_trace_laws.specs.answered.Laws.{TellsItems}
use Rattle.atspi_trace_laws.specs.laws.Words.{as_of, answers_question}
use Rattle.atspi_trace_laws.specs.signed.Laws.{IsItsName}
use Rattle.atspi_trace_laws.proofs.OfOrder.Parties.{no_none, false_true}
use Rattle.atspi_trace_examples.proofs.answered.items_as_sent.Goals as goal

its_return : Envelope
its_return = record (returned 4 its_name (items (item (path_of 0) (codes "/x") (codes "Demo") ∷ []))) { serial = 5 }

unnamed : IsItsName told 0 its_name
unnamed own h = absurd (no_none own h)

is_nil : Forest Row → Bool
is_nil nil = true
is_nil (tree row children rest) = false

are_none : Option (List Item) → Bool
are_none None = true
are_none (Some items) = is_nil (load (path_of 0) its_name items)

pub returns-clause-no_tree : goal.returns-clause-no_tree
unfolding encode path_of its_return is_nil are_none
returns-clause-no_tree c h =
    let t : TellsItems its_name (as_of told 0 5) its_return = h its_name its_name its_return unnamed refl refl in false_true (ap are_none t.told ∙ ap is_nil t.loads)

pub returns-clause-not_sent : goal.returns-clause-not_sent
returns-clause-not_sent c name asked e its found answers = absurd (no_none e found)

pub returns-clause-not_asked : goal.returns-clause-not_asked
unfolding encode
returns-clause-not_asked c name asked e its found answers = absurd (no_none (GetItems asked) (ap (answers_question told 1) found ∙ answers))

pub returns-clause-other_entry : goal.returns-clause-other_entry
returns-clause-other_entry c = tt
