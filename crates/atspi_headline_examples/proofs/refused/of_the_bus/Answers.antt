use Rattle.std.proofs.Common.{refl, ap, length, arith}
use Rattle.std.specs.Fmt.{digits}
use Rattle.atspi_message.specs.Bytes.{spelled_with, header_bytes, body_bytes, body_place, rising_fields}
use Rattle.atspi_tree_model.specs.Path.{path_of}
use Rattle.atspi_headline_examples.proofs.refused.of_the_bus.Goals as goal

pub returns-clause-unmoved : goal.returns-clause-unmoved
unfolding lib.Utf8.encode digits spelled_with header_bytes body_bytes body_place rising_fields path_of
returns-clause-unmoved c = record {
  segments = record { begins = tt; starts = (refl, (tt, (refl, (refl, (refl, tt))))); moves = (refl, (tt, (tt, (refl, (tt, tt))))) };
  steps = (refl, (tt, (tt, (refl, (refl, tt)))));
  applications = (refl, (tt, (tt, (refl, (refl, tt)))));
  links = λ h. absurd (omega (arith, ap length h.gots.1.1.1.0));
  readers = record { registry_sends = (refl, (refl, (refl, (refl, (refl, tt))))); apps_hear = (refl, (refl, (refl, (refl, (refl, tt))))); readers_call = (refl, (refl, (refl, (refl, (refl, tt))))) };
  shown = (refl, (refl, (refl, (refl, (refl, tt)))));
  spoken = (refl, (refl, (refl, (refl, (refl, tt)))));
  exits = record { exits = (refl, (refl, (refl, (refl, (refl, tt))))); told = (refl, (refl, (refl, (refl, (refl, tt))))); over = (tt, (tt, (tt, (tt, (tt, tt))))) };
  at_quiet = (record { told = refl; made = tt; settled = tt }, (tt, (tt, (record { told = refl; made = tt; settled = tt }, (tt, tt)))));
  drops = record { so_far = (refl, (tt, (tt, (refl, (refl, tt))))); at_end = refl; over = (tt, (tt, (tt, (tt, (tt, tt))))) };
}

pub returns-clause-uncaused : goal.returns-clause-uncaused
unfolding lib.Utf8.encode digits spelled_with header_bytes body_bytes body_place rising_fields path_of
returns-clause-uncaused c = record {
  segments = record { begins = tt; starts = (refl, (tt, (refl, (refl, (refl, tt))))); moves = (refl, (tt, (tt, (refl, (tt, tt))))) };
  steps = (refl, (tt, (tt, (refl, (tt, tt)))));
  applications = (refl, (tt, (tt, (refl, (tt, tt)))));
  links = λ h. absurd (omega (arith, ap length h.words.1.1.1.0));
  readers = record { registry_sends = (refl, (refl, (refl, (refl, (refl, tt))))); apps_hear = (refl, (refl, (refl, (refl, (refl, tt))))); readers_call = (refl, (refl, (refl, (refl, (refl, tt))))) };
  shown = (refl, (refl, (refl, (refl, (refl, tt)))));
  spoken = (refl, (refl, (refl, (refl, (refl, tt)))));
  exits = record { exits = (refl, (refl, (refl, (refl, (refl, tt))))); told = (refl, (refl, (refl, (refl, (refl, tt))))); over = (tt, (tt, (tt, (tt, (tt, tt))))) };
  at_quiet = (record { told = refl; made = tt; settled = tt }, (tt, (tt, (record { told = refl; made = tt; settled = tt }, (tt, tt)))));
  drops = record { so_far = (refl, (tt, (tt, (refl, (tt, tt))))); at_end = refl; over = (tt, (tt, (tt, (tt, (tt, tt))))) };
}

pub returns-clause-made_up : goal.returns-clause-made_up
unfolding lib.Utf8.encode digits spelled_with header_bytes body_bytes body_place rising_fields path_of
returns-clause-made_up c = record {
  segments = record { begins = tt; starts = (refl, (tt, (refl, (refl, (refl, tt))))); moves = (refl, (tt, (tt, (refl, (tt, tt))))) };
  steps = (refl, (tt, (tt, (refl, (tt, tt)))));
  applications = (refl, (tt, (tt, (refl, (tt, tt)))));
  links = record { gots = (refl, (tt, (tt, (refl, (tt, tt))))); words = (refl, (refl, (refl, (refl, (refl, tt))))) };
  readers = record { registry_sends = (refl, (refl, (refl, (refl, (refl, tt))))); apps_hear = (refl, (refl, (refl, (refl, (refl, tt))))); readers_call = (refl, (refl, (refl, (refl, (refl, tt))))) };
  shown = (refl, (refl, (refl, (refl, (refl, tt)))));
  spoken = (refl, (refl, (refl, (refl, (refl, tt)))));
  exits = record { exits = (refl, (refl, (refl, (refl, (refl, tt))))); told = (refl, (refl, (refl, (refl, (refl, tt))))); over = (tt, (tt, (tt, (tt, (tt, tt))))) };
  at_quiet = (record { told = refl; made = tt; settled = tt }, (tt, (tt, (record { told = refl; made = tt; settled = tt }, (tt, tt)))));
  drops = λ h. absurd (omega (arith, ap length h.at_end));
}

pub returns-clause-skipped : goal.returns-clause-skipped
unfolding lib.Utf8.encode digits spelled_with header_bytes body_bytes body_place rising_fields path_of
returns-clause-skipped c = record {
  segments = record { begins = tt; starts = (refl, (tt, (refl, (refl, (refl, tt))))); moves = (refl, (tt, (tt, (refl, (tt, tt))))) };
  steps = (refl, (tt, (tt, (refl, (refl, tt)))));
  applications = (refl, (tt, (tt, (refl, (refl, tt)))));
  links = λ h. absurd (omega (arith, ap length h.gots.1.1.1.1.0));
  readers = record { registry_sends = (refl, (refl, (refl, (refl, (refl, tt))))); apps_hear = (refl, (refl, (refl, (refl, (refl, tt))))); readers_call = (refl, (refl, (refl, (refl, (refl, tt))))) };
  shown = (refl, (refl, (refl, (refl, (refl, tt)))));
  spoken = (refl, (refl, (refl, (refl, (refl, tt)))));
  exits = record { exits = (refl, (refl, (refl, (refl, (refl, tt))))); told = (refl, (refl, (refl, (refl, (refl, tt))))); over = (tt, (tt, (tt, (tt, (tt, tt))))) };
  at_quiet = (record { told = refl; made = tt; settled = tt }, (tt, (tt, (record { told = refl; made = tt; settled = ((tt, (tt, tt)), ((tt, (tt, tt)), tt)) }, (tt, tt)))));
  drops = record { so_far = (refl, (tt, (tt, (refl, (refl, tt))))); at_end = refl; over = (tt, (tt, (tt, (tt, (tt, tt))))) };
}
