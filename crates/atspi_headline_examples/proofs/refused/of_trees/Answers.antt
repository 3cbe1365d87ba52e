use Rattle.std.proofs.Common.{refl, ap, length, arith}
use Rattle.std.specs.Fmt.{digits}
use Rattle.atspi_message.specs.Bytes.{spelled_with, header_bytes, body_bytes, body_place, rising_fields}
use Rattle.atspi_tree_model.specs.Path.{path_of}
use Rattle.atspi_headline_examples.proofs.refused.of_trees.Goals as goal

pub returns-clause-unedited : goal.returns-clause-unedited
unfolding lib.Utf8.encode digits spelled_with header_bytes body_bytes body_place rising_fields path_of
returns-clause-unedited c = record {
  segments = record { begins = tt; starts = (refl, (tt, (refl, (refl, (refl, tt))))); moves = (refl, (tt, (tt, (refl, (tt, tt))))) };
  steps = λ h. absurd (omega (arith, ap length h.1.1.1.0));
  applications = (refl, (tt, (tt, (refl, (tt, tt)))));
  links = record { gots = (refl, (tt, (tt, (refl, (tt, tt))))); words = (refl, (refl, (refl, (refl, (refl, tt))))) };
  readers = record { registry_sends = (refl, (refl, (refl, (refl, (refl, tt))))); apps_hear = (refl, (refl, (refl, (refl, (refl, tt))))); readers_call = (refl, (refl, (refl, (refl, (refl, tt))))) };
  shown = (refl, (refl, (refl, (refl, (refl, tt)))));
  spoken = (refl, (refl, (refl, (refl, (refl, tt)))));
  exits = record { exits = (refl, (refl, (refl, (refl, (refl, tt))))); told = (refl, (refl, (refl, (refl, (refl, tt))))); over = (tt, (tt, (tt, (tt, (tt, tt))))) };
  at_quiet = (record { told = refl; made = tt; settled = tt }, (tt, (tt, (record { told = refl; made = tt; settled = tt }, (tt, tt)))));
  drops = record { so_far = (refl, (tt, (tt, (refl, (tt, tt))))); at_end = refl; over = (tt, (tt, (tt, (tt, (tt, tt))))) };
}

pub returns-clause-unasked : goal.returns-clause-unasked
unfolding lib.Utf8.encode digits spelled_with header_bytes body_bytes body_place rising_fields path_of
returns-clause-unasked c = record {
  segments = record { begins = tt; starts = (refl, (tt, (refl, (refl, (refl, (refl, tt)))))); moves = (refl, (tt, (tt, (refl, (tt, (tt, tt)))))) };
  steps = (refl, (tt, (tt, (refl, (tt, (tt, tt))))));
  applications = λ h. absurd (omega (arith, ap length h.1.1.1.0));
  links = record { gots = (refl, (tt, (tt, (refl, (tt, (tt, tt)))))); words = (refl, (refl, (refl, (refl, (refl, (refl, tt)))))) };
  readers = record { registry_sends = (refl, (refl, (refl, (refl, (refl, (refl, tt)))))); apps_hear = (refl, (refl, (refl, (refl, (refl, (refl, tt)))))); readers_call = (refl, (refl, (refl, (refl, (refl, (refl, tt)))))) };
  shown = (refl, (refl, (refl, (refl, (refl, (refl, tt))))));
  spoken = (refl, (refl, (refl, (refl, (refl, (refl, tt))))));
  exits = record { exits = (refl, (refl, (refl, (refl, (refl, (refl, tt)))))); told = (refl, (refl, (refl, (refl, (refl, (refl, tt)))))); over = (tt, (tt, (tt, (tt, (tt, (tt, tt)))))) };
  at_quiet = (record { told = refl; made = tt; settled = tt }, (tt, (tt, (record { told = refl; made = tt; settled = tt }, (tt, (tt, tt))))));
  drops = record { so_far = (refl, (tt, (tt, (refl, (tt, (tt, tt)))))); at_end = refl; over = (tt, (tt, (tt, (tt, (tt, (tt, tt)))))) };
}

pub returns-clause-edited_twice : goal.returns-clause-edited_twice
unfolding lib.Utf8.encode digits spelled_with header_bytes body_bytes body_place rising_fields path_of
returns-clause-edited_twice c = record {
  segments = record { begins = tt; starts = (refl, (tt, (refl, (refl, (refl, (refl, tt)))))); moves = (refl, (tt, (tt, (refl, (tt, (tt, tt)))))) };
  steps = λ h. absurd (omega (arith, ap length h.1.1.1.0));
  applications = (refl, (tt, (tt, (refl, (tt, (tt, tt))))));
  links = record { gots = (refl, (tt, (tt, (refl, (tt, (tt, tt)))))); words = (refl, (refl, (refl, (refl, (refl, (refl, tt)))))) };
  readers = record { registry_sends = (refl, (refl, (refl, (refl, (refl, (refl, tt)))))); apps_hear = (refl, (refl, (refl, (refl, (refl, (refl, tt)))))); readers_call = (refl, (refl, (refl, (refl, (refl, (refl, tt)))))) };
  shown = (refl, (refl, (refl, (refl, (refl, (refl, tt))))));
  spoken = (refl, (refl, (refl, (refl, (refl, (refl, tt))))));
  exits = record { exits = (refl, (refl, (refl, (refl, (refl, (refl, tt)))))); told = (refl, (refl, (refl, (refl, (refl, (refl, tt)))))); over = (tt, (tt, (tt, (tt, (tt, (tt, tt)))))) };
  at_quiet = (record { told = refl; made = tt; settled = tt }, (tt, (tt, (record { told = refl; made = tt; settled = tt }, (tt, (tt, tt))))));
  drops = record { so_far = (refl, (tt, (tt, (refl, (tt, (tt, tt)))))); at_end = refl; over = (tt, (tt, (tt, (tt, (tt, (tt, tt)))))) };
}
