use Rattle.std.proofs.Common.{inl, inr, refl}
use lib.Utf8.{encode}
use Rattle.atspi_base.specs.valid_names.Elements.{are_two_or_more, are_elements, parts_of}
use Rattle.atspi_base.specs.valid_names.Names.{is_bus_name}
use Rattle.atspi_trace_examples.proofs.traces.runs.a_late_application.Goals as goal

pub returns : goal.returns
unfolding encode is_bus_name are_two_or_more are_elements parts_of
returns c = (
  inl (record { next = refl; all_rest = (tt, tt); truly = tt }),
  (
    inr (record {
      conn = 1;
      asker = _;
      hearer = _;
      question = _;
      nothing_owed = refl;
      free = refl;
      there = refl;
      whose = refl;
      standing = refl;
      reader = refl;
      answered = refl;
      allowed = refl;
      spelled = refl;
      read = refl;
    }),
    (inl (record { next = refl; all_rest = tt; truly = tt }), tt),
  ),
)
