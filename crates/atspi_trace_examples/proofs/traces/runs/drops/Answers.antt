use Rattle.std.proofs.Common.{inl, refl}
use Rattle.std.specs.Fmt.{digits}
use Rattle.atspi_message.specs.Bytes.{spelled_with, header_bytes, body_bytes, body_place, rising_fields}
use Rattle.atspi_tree_model.specs.Path.{path_of}
use Rattle.atspi_trace.proofs.Maps.{maps}
use Rattle.atspi_trace_examples.proofs.traces.runs.drops.Goals as goal

pub returns-clause-reader : goal.returns-clause-reader
unfolding lib.Utf8.encode digits spelled_with header_bytes body_bytes body_place rising_fields path_of
returns-clause-reader c = (inl (record { next = refl; all_rest = (tt, tt); truly = tt }), (inl (record { next = simp maps refl; all_rest = simp maps tt; truly = tt }), (inl (record { next = simp maps refl; all_rest = simp maps tt; truly = tt }), tt)))

pub returns-clause-registry : goal.returns-clause-registry
unfolding lib.Utf8.encode digits spelled_with header_bytes body_bytes body_place rising_fields path_of
returns-clause-registry c = (inl (record { next = simp maps refl; all_rest = simp maps (tt, tt); truly = tt }), (inl (record { next = simp maps refl; all_rest = simp maps tt; truly = tt }), tt))
