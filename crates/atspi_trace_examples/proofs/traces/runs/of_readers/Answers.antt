use Rattle.std.proofs.Common.{inl, refl}
use lib.Utf8.{encode}
use Rattle.atspi_tree_model.specs.Path.{path_of}
use Rattle.atspi_trace_examples.proofs.traces.runs.of_readers.Goals as goal

pub returns-clause-race : goal.returns-clause-race
unfolding encode path_of
returns-clause-race c = (inl (record { next = refl; all_rest = (tt, tt); truly = tt }), (inl (record { next = refl; all_rest = tt; truly = tt }), (inl (record { next = refl; all_rest = (tt, tt); truly = tt }), (inl (record { next = refl; all_rest = (tt, tt); truly = tt }), (inl (record { next = refl; all_rest = tt; truly = tt }), (inl (record { next = refl; all_rest = (tt, tt); truly = tt }), (inl (record { next = refl; all_rest = (tt, tt); truly = tt }), (inl (record { next = refl; all_rest = ((tt, (tt, ((tt, (record { same = refl; known = (refl, (refl, (refl, tt))) }, (tt, tt))), tt))), tt); truly = tt }), tt))))))))

pub returns-clause-reparenting : goal.returns-clause-reparenting
unfolding encode path_of
returns-clause-reparenting c = (inl (record { next = refl; all_rest = (tt, tt); truly = tt }), (inl (record { next = refl; all_rest = ((tt, (tt, ((tt, (record { same = refl; known = (refl, (refl, (refl, (refl, tt)))) }, (tt, tt))), tt))), tt); truly = tt }), tt))

pub returns-clause-removal : goal.returns-clause-removal
unfolding encode path_of
returns-clause-removal c = (inl (record { next = refl; all_rest = (tt, tt); truly = tt }), (inl (record { next = refl; all_rest = ((tt, (tt, ((tt, (record { same = refl; known = (refl, (refl, tt)) }, (tt, tt))), tt))), tt); truly = tt }), tt))

pub returns-clause-end : goal.returns-clause-end
unfolding encode path_of
returns-clause-end c = (inl (record { next = refl; all_rest = (tt, tt); truly = tt }), (inl (record { next = refl; all_rest = tt; truly = tt }), (inl (record { next = refl; all_rest = tt; truly = tt }), (inl (record { next = refl; all_rest = ((tt, (tt, ((tt, (tt, (tt, tt))), tt))), tt); truly = tt }), tt))))
