use Rattle.std.proofs.Common.{inl, refl}
use lib.Utf8.{encode}
use Rattle.atspi_trace_examples.proofs.traces.runs.a_short_life.Goals as goal

pub returns : goal.returns
unfolding encode
returns c = record {
  goes =
      (inl (record { next = refl; all_rest = ((tt, tt), tt); truly = tt }), (inl (record { next = refl; all_rest = tt; truly = tt }), (inl (record { next = refl; all_rest = (tt, tt); truly = tt }), tt)));
  through = record { nothing_owed = refl; no_line_left = refl; all_rest = (tt, tt) };
}
