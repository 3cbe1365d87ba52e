use Rattle.std.proofs.Common.{◌≡◌, [], ◌∷◌, None, Some, refl, ap, length, arith}
use Rattle.std.specs.Fmt.{digits}
use Rattle.atspi_message.specs.Bytes.{spelled_with, header_bytes, body_bytes, body_place, rising_fields}
use Rattle.atspi_tree_model.specs.Path.{path_of}
use Rattle.atspi_trace.specs.Entry.{showed}
use Rattle.atspi_headline_examples.proofs.refused.of_readers.Goals as goal

pub returns-clause-unheard : goal.returns-clause-unheard
unfolding lib.Utf8.encode digits spelled_with header_bytes body_bytes body_place rising_fields path_of
returns-clause-unheard c = record {
  segments = record { begins = tt; starts = (refl, (tt, (refl, (refl, (refl, tt))))); moves = (refl, (tt, (tt, (refl, (tt, tt))))) };
  steps = (refl, (tt, (tt, (refl, (tt, tt)))));
  applications = (refl, (tt, (tt, (refl, (tt, tt)))));
  links = record { gots = (refl, (tt, (tt, (refl, (tt, tt))))); words = (refl, (refl, (refl, (refl, (refl, tt))))) };
  readers = λ h. absurd (omega (arith, ap length h.apps_hear.1.1.1.0));
  shown = (refl, (refl, (refl, (refl, (refl, tt)))));
  spoken = (refl, (refl, (refl, (refl, (refl, tt)))));
  exits = record { exits = (refl, (refl, (refl, (refl, (refl, tt))))); told = (refl, (refl, (refl, (refl, (refl, tt))))); over = (tt, (tt, (tt, (tt, (tt, tt))))) };
  at_quiet = (record { told = refl; made = tt; settled = tt }, (tt, (tt, (record { told = refl; made = tt; settled = tt }, (tt, tt)))));
  drops = record { so_far = (refl, (tt, (tt, (refl, (tt, tt))))); at_end = refl; over = (tt, (tt, (tt, (tt, (tt, tt))))) };
}

pub returns-clause-unanswered : goal.returns-clause-unanswered
unfolding lib.Utf8.encode digits spelled_with header_bytes body_bytes body_place rising_fields path_of
returns-clause-unanswered c = record {
  segments = record { begins = tt; starts = (refl, (tt, (refl, (refl, (refl, tt))))); moves = (refl, (tt, (tt, (refl, (tt, tt))))) };
  steps = (refl, (tt, (tt, (refl, (tt, tt)))));
  applications = (refl, (tt, (tt, (refl, (tt, tt)))));
  links = record { gots = (refl, (tt, (tt, (refl, (tt, tt))))); words = (refl, (refl, (refl, (refl, (refl, tt))))) };
  readers = λ h. absurd (omega (arith, ap length h.readers_call.1.1.1.0));
  shown = (refl, (refl, (refl, (refl, (refl, tt)))));
  spoken = (refl, (refl, (refl, (refl, (refl, tt)))));
  exits = record { exits = (refl, (refl, (refl, (refl, (refl, tt))))); told = (refl, (refl, (refl, (refl, (refl, tt))))); over = (tt, (tt, (tt, (tt, (tt, tt))))) };
  at_quiet = (record { told = refl; made = tt; settled = tt }, (tt, (tt, (record { told = refl; made = tt; settled = tt }, (tt, tt)))));
  drops = record { so_far = (refl, (tt, (tt, (refl, (tt, tt))))); at_end = refl; over = (tt, (tt, (tt, (tt, (tt, tt))))) };
}

pub returns-clause-unheld : goal.returns-clause-unheld
unfolding lib.Utf8.encode digits spelled_with header_bytes body_bytes body_place rising_fields path_of
returns-clause-unheld c = record {
  segments = record { begins = tt; starts = (refl, (tt, (refl, (refl, (tt, (refl, (refl, (refl, tt)))))))); moves = (refl, (tt, (tt, (refl, (tt, (tt, (refl, (tt, tt)))))))) };
  steps = (refl, (tt, (tt, (refl, (tt, (tt, (refl, (tt, tt))))))));
  applications = (refl, (tt, (tt, (refl, (tt, (tt, (refl, (tt, tt))))))));
  links = record { gots = (refl, (tt, (tt, (refl, (tt, (tt, (refl, (tt, tt)))))))); words = (refl, (refl, (refl, (refl, (refl, (refl, (refl, (refl, tt)))))))) };
  readers = record { registry_sends = (refl, (refl, (refl, (refl, (refl, (refl, (refl, (refl, tt)))))))); apps_hear = (refl, (refl, (refl, (refl, (refl, (refl, (refl, (refl, tt)))))))); readers_call = (refl, (refl, (refl, (refl, (refl, (tt, (refl, (refl, tt)))))))) };
  shown = λ h. let e : showed 0 0 (Some []) ∷ [] ≡ showed 0 0 None ∷ [] = h.1.1.1.1.1.1.0 in absurd cc;
  spoken = (refl, (refl, (refl, (refl, (refl, (refl, (refl, (refl, tt))))))));
  exits = record { exits = (refl, (refl, (refl, (refl, (refl, (refl, (refl, (refl, tt)))))))); told = (refl, (refl, (refl, (refl, (refl, (refl, (refl, (refl, tt)))))))); over = (tt, (tt, (tt, (tt, (tt, (tt, (tt, (tt, tt)))))))) };
  at_quiet = (record { told = refl; made = tt; settled = tt }, (tt, (tt, (record { told = refl; made = tt; settled = tt }, (tt, (tt, (record { told = refl; made = tt; settled = tt }, (tt, tt))))))));
  drops = record { so_far = (refl, (tt, (tt, (refl, (tt, (tt, (refl, (tt, tt)))))))); at_end = refl; over = (tt, (tt, (tt, (tt, (tt, (tt, (tt, (tt, tt)))))))) };
}

pub returns-clause-unspoken : goal.returns-clause-unspoken
unfolding lib.Utf8.encode digits spelled_with header_bytes body_bytes body_place rising_fields path_of
returns-clause-unspoken c = record {
  segments = record { begins = tt; starts = (refl, (tt, (refl, (refl, (refl, tt))))); moves = (refl, (tt, (tt, (refl, (tt, tt))))) };
  steps = (refl, (tt, (tt, (refl, (tt, tt)))));
  applications = (refl, (tt, (tt, (refl, (tt, tt)))));
  links = record { gots = (refl, (tt, (tt, (refl, (tt, tt))))); words = (refl, (refl, (refl, (refl, (refl, tt))))) };
  readers = record { registry_sends = (refl, (refl, (refl, (refl, (refl, tt))))); apps_hear = (refl, (refl, (refl, (refl, (refl, tt))))); readers_call = (refl, (refl, (tt, (refl, (tt, tt))))) };
  shown = (refl, (refl, (refl, (refl, (refl, tt)))));
  spoken = λ h. absurd (omega (arith, ap length h.1.1.1.0));
  exits = record { exits = (refl, (refl, (refl, (refl, (refl, tt))))); told = (refl, (refl, (refl, (refl, (refl, tt))))); over = (tt, (tt, (tt, (tt, (tt, tt))))) };
  at_quiet = (record { told = refl; made = tt; settled = tt }, (tt, (tt, (record { told = refl; made = tt; settled = tt }, (tt, tt)))));
  drops = record { so_far = (refl, (tt, (tt, (refl, (tt, tt))))); at_end = refl; over = (tt, (tt, (tt, (tt, (tt, tt))))) };
}
