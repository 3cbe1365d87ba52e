use Rattle.std.proofs.Common.{Bool, false, [], ◌∷◌, List, refl, ap}
use Rattle.std.specs.Prelude.{bytes_eq, codes}
use lib.Utf8.{encode}
use Rattle.atspi_tree_model.specs.declared.view.Row.{Row}
use Rattle.atspi_tree_model.specs.Forest.{Forest, labels}
use Rattle.atspi_tree_model.specs.Path.{path_of}
use Rattle.atspi_trace_laws.proofs.OfOrder.Parties.{false_true}
use Rattle.atspi_trace_examples.proofs.ways.what_leads_to_now.Goals as goal

-- the root's name
abbrev is_desk : List Row → Bool
is_desk [] = false
is_desk (row ∷ rows) = bytes_eq row.name (codes "Desk")

pub returns-clause-folded : goal.returns-clause-folded
unfolding encode path_of
returns-clause-folded c = (refl, refl)

pub returns-clause-nothing_folded : goal.returns-clause-nothing_folded
unfolding encode path_of
returns-clause-nothing_folded c h = false_true (ap (λ (v : Forest Row). is_desk (labels v)) h)
