use Rattle.std.proofs.Common.{◌≡◌, true, false, refl, ap, length, arith}
use Rattle.std.specs.Fmt.{digits}
use Rattle.atspi_message.specs.Bytes.{spelled_with, header_bytes, body_bytes, body_place, rising_fields}
use Rattle.atspi_tree_model.specs.Path.{path_of}
use Rattle.atspi_headline_examples.proofs.refused.of_ends.Goals as goal

pub returns-clause-edited_late : goal.returns-clause-edited_late
unfolding lib.Utf8.encode digits spelled_with header_bytes body_bytes body_place rising_fields path_of
returns-clause-edited_late c = record {
  segments = record { begins = tt; starts = (refl, (tt, (refl, (refl, (refl, (refl, (refl, tt))))))); moves = (refl, (tt, (tt, (refl, (tt, (refl, (tt, tt))))))) };
  steps = (refl, (tt, (tt, (refl, (tt, (refl, (tt, tt)))))));
  applications = (refl, (tt, (tt, (refl, (tt, (refl, (tt, tt)))))));
  links = record { gots = (refl, (tt, (tt, (refl, (tt, (refl, (tt, tt))))))); words = (refl, (refl, (refl, (refl, (refl, (refl, (refl, tt))))))) };
  readers = record { registry_sends = (refl, (refl, (refl, (refl, (refl, (refl, (refl, tt))))))); apps_hear = (refl, (refl, (refl, (refl, (refl, (refl, (refl, tt))))))); readers_call = (refl, (refl, (refl, (refl, (refl, (refl, (refl, tt))))))) };
  shown = (refl, (refl, (refl, (refl, (refl, (refl, (refl, tt)))))));
  spoken = (refl, (refl, (refl, (refl, (refl, (refl, (refl, tt)))))));
  exits = λ h. let e : true ≡ false = h.over.1.1.1.1.0 in absurd cc;
  at_quiet = (record { told = refl; made = tt; settled = tt }, (tt, (tt, (record { told = refl; made = tt; settled = tt }, (tt, (record { told = refl; made = tt; settled = tt }, (tt, tt)))))));
  drops = record { so_far = (refl, (tt, (tt, (refl, (tt, (refl, (tt, tt))))))); at_end = refl; over = (tt, (tt, (tt, (tt, (tt, (tt, (tt, tt))))))) };
}

pub returns-clause-gone_early : goal.returns-clause-gone_early
unfolding lib.Utf8.encode digits spelled_with header_bytes body_bytes body_place rising_fields path_of
returns-clause-gone_early c = record {
  segments = record { begins = tt; starts = (refl, (tt, (refl, (refl, (refl, tt))))); moves = (refl, (tt, (tt, (refl, (tt, tt))))) };
  steps = (refl, (tt, (tt, (refl, (tt, tt)))));
  applications = (refl, (tt, (tt, (refl, (tt, tt)))));
  links = record { gots = (refl, (tt, (tt, (refl, (tt, tt))))); words = (refl, (refl, (refl, (refl, (refl, tt))))) };
  readers = record { registry_sends = (refl, (refl, (refl, (refl, (refl, tt))))); apps_hear = (refl, (refl, (refl, (refl, (refl, tt))))); readers_call = (refl, (refl, (tt, (refl, (tt, tt))))) };
  shown = (refl, (refl, (refl, (refl, (refl, tt)))));
  spoken = (refl, (refl, (refl, (refl, (refl, tt)))));
  exits = λ h. absurd (omega (arith, ap length h.told.1.1.1.0));
  at_quiet = (record { told = refl; made = tt; settled = tt }, (tt, (tt, (record { told = refl; made = tt; settled = tt }, (tt, tt)))));
  drops = record { so_far = (refl, (tt, (tt, (refl, (tt, tt))))); at_end = refl; over = (tt, (tt, (tt, (tt, (tt, tt))))) };
}

pub returns-clause-untold : goal.returns-clause-untold
unfolding lib.Utf8.encode digits spelled_with header_bytes body_bytes body_place rising_fields path_of
returns-clause-untold c = record {
  segments = record { begins = tt; starts = (refl, (tt, (refl, (refl, tt)))); moves = (refl, (tt, (tt, (tt, tt)))) };
  steps = (refl, (tt, (tt, (refl, tt))));
  applications = (refl, (tt, (tt, (refl, tt))));
  links = record { gots = (refl, (tt, (tt, (refl, tt)))); words = (refl, (refl, (refl, (refl, tt)))) };
  readers = record { registry_sends = (refl, (refl, (refl, (refl, tt)))); apps_hear = (refl, (refl, (refl, (refl, tt)))); readers_call = (refl, (refl, (refl, (refl, tt)))) };
  shown = (refl, (refl, (refl, (refl, tt))));
  spoken = (refl, (refl, (refl, (refl, tt))));
  exits = record { exits = (refl, (refl, (refl, (refl, tt)))); told = (refl, (refl, (refl, (refl, tt)))); over = (tt, (tt, (tt, (tt, tt)))) };
  at_quiet = λ h. absurd (omega (arith, ap length h.1.1.1.0.told));
  drops = record { so_far = (refl, (tt, (tt, (refl, tt)))); at_end = refl; over = (tt, (tt, (tt, (tt, tt)))) };
}

pub returns-clause-quiet_early : goal.returns-clause-quiet_early
unfolding lib.Utf8.encode digits spelled_with header_bytes body_bytes body_place rising_fields path_of
returns-clause-quiet_early c = record {
  segments = record { begins = tt; starts = (refl, (tt, (refl, (refl, (refl, tt))))); moves = (refl, (tt, (tt, ((tt, tt), (tt, tt))))) };
  steps = (refl, (tt, (tt, (refl, (refl, tt)))));
  applications = (refl, (tt, (tt, (refl, (refl, tt)))));
  links = record { gots = (refl, (tt, (tt, (refl, (tt, tt))))); words = (refl, (refl, (refl, (refl, (refl, tt))))) };
  readers = record { registry_sends = (refl, (refl, (refl, (refl, (refl, tt))))); apps_hear = (refl, (refl, (refl, (refl, (refl, tt))))); readers_call = (refl, (refl, (refl, (refl, (refl, tt))))) };
  shown = (refl, (refl, (refl, (refl, (refl, tt)))));
  spoken = (refl, (refl, (refl, (refl, (refl, tt)))));
  exits = record { exits = (refl, (refl, (refl, (refl, (refl, tt))))); told = (refl, (refl, (refl, (refl, (refl, tt))))); over = (tt, (tt, (tt, (tt, (tt, tt))))) };
  at_quiet = λ h. let e : true ≡ false = h.1.1.1.0.made in absurd cc;
  drops = record { so_far = (refl, (tt, (tt, (refl, (refl, tt))))); at_end = refl; over = (tt, (tt, (tt, (tt, (tt, tt))))) };
}
