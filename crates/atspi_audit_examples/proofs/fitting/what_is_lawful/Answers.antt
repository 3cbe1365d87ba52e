use Rattle.std.proofs.Common.{refl, inl}
use lib.Utf8.{encode}
use Rattle.atspi_audit_due.proofs.Fitting.{fitting}
use Rattle.atspi_audit_examples.specs.Cases.{alone, alone_trace}
use Rattle.atspi_audit_examples.proofs.fitting.what_is_lawful.Goals as goal

-- what waits where a line ends is the application's Hello, which nobody moves
pub returns : goal.returns
unfolding encode
returns c = (fitting alone alone_trace).0 (inl (record {
  goes = (
    inl (record { next = refl; all_rest = ((tt, tt), tt); truly = tt }),
    (
      inl (record { next = refl; all_rest = tt; truly = tt }),
      (inl (record { next = refl; all_rest = (tt, tt); truly = tt }), (inl (record { next = refl; all_rest = (tt, tt); truly = tt }), tt)),
    ),
  );
  through = record { nothing_owed = refl; no_line_left = refl; all_rest = (tt, tt) };
}))
