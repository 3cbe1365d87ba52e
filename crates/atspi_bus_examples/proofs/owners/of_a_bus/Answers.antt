use Rattle.std.proofs.Common.{refl, ◌∙◌}
use Rattle.std.specs.Prelude.{codes}
use Rattle.std.specs.Fmt.{digits}
use Rattle.std.specs.FinMap.{gets}
use Rattle.atspi_names.specs.Owners.{nobody, after_hello, after_request}
use Rattle.atspi_names.proofs.BookLemmas.{list_of-lists_without}
use Rattle.atspi_bus_examples.proofs.owners.of_a_bus.Goals as goal

pub returns-clause-first_name : goal.returns-clause-first_name
unfolding digits
returns-clause-first_name c = refl

pub returns-clause-second_name : goal.returns-clause-second_name
unfolding digits
returns-clause-second_name c = refl

pub returns-clause-named : goal.returns-clause-named
unfolding digits
returns-clause-named c = simp gets refl

pub returns-clause-next_named : goal.returns-clause-next_named
unfolding digits
returns-clause-next_named c = simp gets refl

pub returns-clause-alone : goal.returns-clause-alone
unfolding digits
returns-clause-alone c = simp gets refl

pub returns-clause-requested : goal.returns-clause-requested
returns-clause-requested c = simp gets refl

pub returns-clause-of_no_other : goal.returns-clause-of_no_other
returns-clause-of_no_other c = simp gets refl

pub returns-clause-released : goal.returns-clause-released
returns-clause-released c = simp gets refl

pub returns-clause-unnamed : goal.returns-clause-unnamed
returns-clause-unnamed c = simp gets refl

pub returns-clause-gone : goal.returns-clause-gone
unfolding digits
returns-clause-gone c = list_of-lists_without 5 (after_hello nobody 5).lists (codes ":1.0") ∙ simp gets refl

pub returns-clause-passed_on : goal.returns-clause-passed_on
returns-clause-passed_on c =
    list_of-lists_without 5 (after_request (after_request nobody 5 (codes "a.b") 1) 6 (codes "a.b") 0).lists (codes "a.b")
    ∙ simp gets refl
