use Rattle.std.proofs.Common.{inl, inr, refl}
use Rattle.std.specs.Prelude.{codes, Some}
use lib.Utf8.{encode}
use Rattle.atspi_base.specs.valid_names.Elements.{are_two_or_more, are_elements, parts_of}
use Rattle.atspi_base.specs.valid_names.Names.{is_bus_name}
use Rattle.atspi_tree_model.specs.Path.{path_of}
use Rattle.atspi_trace.specs.Entry.{showed}
use Rattle.atspi_trace_examples.proofs.OfTraces.Refusing.{refuses, refuses_all, refuses_call}
use Rattle.atspi_trace_examples.specs.traces.Cases.{race_rows, shows_so_many}
use Rattle.atspi_trace_examples.specs.traces.Runs.{knows_none, asking_at, asks_items, loaded_race, kept_before}
use Rattle.atspi_trace_examples.proofs.traces.refused.of_loads.Goals as goal

pub returns-clause-kept_before : goal.returns-clause-kept_before
unfolding encode path_of
returns-clause-kept_before c (inl d) =
    refuses (shows_so_many 3) loaded_race (showed 0 0 (Some (race_rows (codes "One")))) (showed 0 0 (Some kept_before)) refl refl refl d
returns-clause-kept_before c (inr own) = own

pub returns-clause-no_rule : goal.returns-clause-no_rule
unfolding encode is_bus_name are_two_or_more are_elements parts_of
returns-clause-no_rule c (inl d) = refuses_all (asking_at (knows_none 2 3) (codes ":1.0")) asks_items refl d
returns-clause-no_rule c (inr own) = refuses_call (asking_at (knows_none 2 3) (codes ":1.0")) 0 _ 1 _ _ _ refl refl refl refl refl own

pub returns-clause-no_pattern : goal.returns-clause-no_pattern
unfolding encode is_bus_name are_two_or_more are_elements parts_of
returns-clause-no_pattern c (inl d) = refuses_all (asking_at (knows_none 6 7) (codes ":1.0")) asks_items refl d
returns-clause-no_pattern c (inr own) = refuses_call (asking_at (knows_none 6 7) (codes ":1.0")) 0 _ 1 _ _ _ refl refl refl refl refl own

pub returns-clause-untold : goal.returns-clause-untold
unfolding encode is_bus_name are_two_or_more are_elements parts_of
returns-clause-untold c (inl d) = refuses_all (asking_at (knows_none 0 0) (codes ":1.7")) asks_items refl d
returns-clause-untold c (inr own) = refuses_call (asking_at (knows_none 0 0) (codes ":1.7")) 0 _ 1 _ _ _ refl refl refl refl refl own
