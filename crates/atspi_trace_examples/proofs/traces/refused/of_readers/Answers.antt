use Rattle.std.proofs.Common.{inl, inr, refl}
use Rattle.std.specs.Prelude.{codes, [], None, Some}
use Rattle.atspi_trace.specs.Entry.{spoke, showed}
use Rattle.atspi_trace_examples.proofs.OfTraces.Refusing.{refuses}
use Rattle.atspi_trace_examples.specs.traces.Cases.{speaking, is_spoken_as, ending, ended, shows_none, shows_so_many, moving, half_moved, panel_rows, removed, left_behind, left_panels}
use Rattle.atspi_trace_examples.proofs.traces.refused.of_readers.Goals as goal

pub returns-clause-stale : goal.returns-clause-stale
returns-clause-stale c (inl d) = refuses (is_spoken_as (codes "Save")) speaking (spoke 0 0 (codes "Save")) (spoke 0 0 (codes "OK")) refl refl refl d
returns-clause-stale c (inr own) = own

pub returns-clause-no_closing_line : goal.returns-clause-no_closing_line
returns-clause-no_closing_line c (inl d) =
    refuses (is_spoken_as (codes "T, closed")) ending (spoke 0 0 (codes "T, closed")) (showed 0 0 None) refl refl refl d
returns-clause-no_closing_line c (inr own) = own

pub returns-clause-rows_kept : goal.returns-clause-rows_kept
returns-clause-rows_kept c (inl d) = refuses shows_none ended (showed 0 0 None) (showed 0 0 (Some [])) refl refl refl d
returns-clause-rows_kept c (inr own) = own

pub returns-clause-half_moved : goal.returns-clause-half_moved
returns-clause-half_moved c (inl d) =
    refuses (shows_so_many 4) moving (showed 0 0 (Some panel_rows)) (showed 0 0 (Some half_moved)) refl refl refl d
returns-clause-half_moved c (inr own) = own

pub returns-clause-left_behind : goal.returns-clause-left_behind
returns-clause-left_behind c (inl d) =
    refuses (shows_so_many 2) removed (showed 0 0 (Some left_panels)) (showed 0 0 (Some left_behind)) refl refl refl d
returns-clause-left_behind c (inr own) = own
