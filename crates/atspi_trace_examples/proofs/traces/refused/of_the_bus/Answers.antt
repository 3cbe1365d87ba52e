use Rattle.std.proofs.Common.{inl, inr, refl}
use Rattle.std.specs.Prelude.{[], ◌∷◌}
use Rattle.std.specs.Fmt.{digits}
use Rattle.atspi_message.specs.Bytes.{spelled_with, header_bytes, body_bytes, body_place, rising_fields}
use Rattle.atspi_tree_model.specs.Path.{path_of}
use Rattle.atspi_trace.proofs.Maps.{maps}
use Rattle.atspi_script_lines.specs.declared.line.Line.TheVariants as line
use Rattle.atspi_script_lines.specs.declared.line.Party.TheVariants as party
use Rattle.atspi_trace.specs.Entry.{got, dropped}
use Rattle.atspi_trace_examples.proofs.OfTraces.Refusing.{refuses, refuses_all}
use Rattle.atspi_trace_examples.specs.traces.Cases.{race, scene, is_got_as}
use Rattle.atspi_trace_examples.specs.traces.Runs.{two_up_world, routed_to_none, dropping, is_dropped_with}
use Rattle.atspi_trace_examples.proofs.traces.refused.of_the_bus.Goals as goal

pub returns-clause-order : goal.returns-clause-order
returns-clause-order c (inl d) =
    refuses (is_got_as 5) race (got (party.Reader 0) (party.App 0) 5) (got (party.Reader 0) (party.App 0) 6) refl refl refl d
returns-clause-order c (inr own) = own

pub returns-clause-call_first : goal.returns-clause-call_first
unfolding lib.Utf8.encode digits spelled_with header_bytes body_bytes body_place rising_fields path_of
returns-clause-call_first c (inl d) =
    refuses (is_got_as 7) (scene two_up_world (line.Turns 1 ∷ [])) (got party.Bus (party.App 0) 7) (got party.Bus (party.App 0) 8) refl refl refl d
returns-clause-call_first c (inr own) = own

pub returns-clause-to_all : goal.returns-clause-to_all
unfolding lib.Utf8.encode digits spelled_with header_bytes body_bytes body_place rising_fields path_of
returns-clause-to_all c (inl d) = refuses_all routed_to_none (got (party.Reader 0) (party.App 0) 7) (simp maps refl) d
returns-clause-to_all c (inr own) = own

pub returns-clause-made_up : goal.returns-clause-made_up
unfolding lib.Utf8.encode digits spelled_with header_bytes body_bytes body_place rising_fields path_of
returns-clause-made_up c (inl d) =
    refuses (is_dropped_with 200) dropping (dropped (party.Reader 0) 0 200) (dropped (party.Reader 0) 0 201) (simp maps refl) refl refl d
returns-clause-made_up c (inr own) = own
