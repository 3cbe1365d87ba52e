use Rattle.std.proofs.Common.{◌≡◌, [], ◌∷◌, length, refl, ap, arith}
use Rattle.atspi_tree_model.specs.declared.view.Row.{Row}
use Rattle.atspi_tree_model.specs.Forest.{Forest, labels}
use Rattle.atspi_tree_model.specs.Path.{path_of}
use Rattle.atspi_protocol.specs.declared.news.part.PartName.TheVariants.{Text, Caret}
use Rattle.atspi_trace_examples.proofs.trace.settling.followed.Goals as goal

pub returns-clause-same : goal.returns-clause-same
returns-clause-same c = record { same = refl; known = tt }

pub returns-clause-another : goal.returns-clause-another
returns-clause-another c = λ f. let count : 0 ≡ 1 = ap (λ (v : Forest Row). length (labels v)) f.same in omega (arith, count)

pub returns-clause-told : goal.returns-clause-told
unfolding lib.Utf8.encode path_of
returns-clause-told c = record { same = refl; known = (refl, tt) }

pub returns-clause-untold : goal.returns-clause-untold
returns-clause-untold c = λ f. let parts : Text ∷ Caret ∷ [] ≡ [] = f.known.0 in absurd cc

pub returns-clause-held : goal.returns-clause-held
returns-clause-held c = record { same = refl; known = tt }

pub returns-clause-not_held : goal.returns-clause-not_held
returns-clause-not_held c = λ h. h
