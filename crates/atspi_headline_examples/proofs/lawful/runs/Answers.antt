use Rattle.std.proofs.Common.{refl}
use Rattle.std.specs.Fmt.{digits}
use Rattle.atspi_message.specs.Bytes.{spelled_with, header_bytes, body_bytes, body_place, rising_fields}
use Rattle.atspi_tree_model.specs.Path.{path_of}
use Rattle.atspi_headline_examples.proofs.lawful.runs.Goals as goal

pub returns-clause-edited : goal.returns-clause-edited
unfolding lib.Utf8.encode digits spelled_with header_bytes body_bytes body_place rising_fields path_of
returns-clause-edited c = record {
  segments = record { begins = tt; starts = (refl, (tt, (refl, (refl, (refl, tt))))); moves = (refl, (tt, (tt, (refl, (tt, tt))))) };
  steps = (refl, (tt, (tt, (refl, (tt, tt)))));
  applications = (refl, (tt, (tt, (refl, (tt, tt)))));
  links = record { gots = (refl, (tt, (tt, (refl, (tt, tt))))); words = (refl, (refl, (refl, (refl, (refl, tt))))) };
  readers = record { registry_sends = (refl, (refl, (refl, (refl, (refl, tt))))); apps_hear = (refl, (refl, (refl, (refl, (refl, tt))))); readers_call = (refl, (refl, (refl, (refl, (refl, tt))))) };
  shown = (refl, (refl, (refl, (refl, (refl, tt)))));
  spoken = (refl, (refl, (refl, (refl, (refl, tt)))));
  exits = record { exits = (refl, (refl, (refl, (refl, (refl, tt))))); told = (refl, (refl, (refl, (refl, (refl, tt))))); over = (tt, (tt, (tt, (tt, (tt, tt))))) };
  at_quiet = (record { told = refl; made = tt; settled = tt }, (tt, (tt, (record { told = refl; made = tt; settled = tt }, (tt, tt)))));
  drops = record { so_far = (refl, (tt, (tt, (refl, (tt, tt))))); at_end = refl; over = (tt, (tt, (tt, (tt, (tt, tt))))) };
}

pub returns-clause-shown : goal.returns-clause-shown
unfolding lib.Utf8.encode digits spelled_with header_bytes body_bytes body_place rising_fields path_of
returns-clause-shown c = record {
  segments = record { begins = tt; starts = (refl, (tt, (refl, (refl, (tt, (refl, (refl, (refl, tt)))))))); moves = (refl, (tt, (tt, (refl, (tt, (tt, (refl, (tt, tt)))))))) };
  steps = (refl, (tt, (tt, (refl, (tt, (tt, (refl, (tt, tt))))))));
  applications = (refl, (tt, (tt, (refl, (tt, (tt, (refl, (tt, tt))))))));
  links = record { gots = (refl, (tt, (tt, (refl, (tt, (tt, (refl, (tt, tt)))))))); words = (refl, (refl, (refl, (refl, (refl, (refl, (refl, (refl, tt)))))))) };
  readers = record { registry_sends = (refl, (refl, (refl, (refl, (refl, (refl, (refl, (refl, tt)))))))); apps_hear = (refl, (refl, (refl, (refl, (refl, (refl, (refl, (refl, tt)))))))); readers_call = (refl, (refl, (refl, (refl, (refl, (tt, (refl, (refl, tt)))))))) };
  shown = (refl, (refl, (refl, (refl, (refl, (refl, (refl, (tt, tt))))))));
  spoken = (refl, (refl, (refl, (refl, (refl, (refl, (refl, (refl, tt))))))));
  exits = record { exits = (refl, (refl, (refl, (refl, (refl, (refl, (refl, (refl, tt)))))))); told = (refl, (refl, (refl, (refl, (refl, (refl, (refl, (refl, tt)))))))); over = (tt, (tt, (tt, (tt, (tt, (tt, (tt, (tt, tt)))))))) };
  at_quiet = (record { told = refl; made = tt; settled = tt }, (tt, (tt, (record { told = refl; made = tt; settled = tt }, (tt, (tt, (record { told = refl; made = tt; settled = tt }, (tt, tt))))))));
  drops = record { so_far = (refl, (tt, (tt, (refl, (tt, (tt, (refl, (tt, tt)))))))); at_end = refl; over = (tt, (tt, (tt, (tt, (tt, (tt, (tt, (tt, tt)))))))) };
}

pub returns-clause-stopped : goal.returns-clause-stopped
unfolding lib.Utf8.encode digits spelled_with header_bytes body_bytes body_place rising_fields path_of
returns-clause-stopped c = record {
  segments = record { begins = tt; starts = (refl, (tt, (refl, (refl, (refl, tt))))); moves = (refl, (tt, (tt, (refl, (tt, tt))))) };
  steps = (refl, (tt, (tt, (refl, (tt, tt)))));
  applications = (refl, (tt, (tt, (refl, (tt, tt)))));
  links = record { gots = (refl, (tt, (tt, (refl, (tt, tt))))); words = (refl, (refl, (refl, (refl, (refl, tt))))) };
  readers = record { registry_sends = (refl, (refl, (refl, (refl, (refl, tt))))); apps_hear = (refl, (refl, (refl, (refl, (refl, tt))))); readers_call = (refl, (refl, (refl, (refl, (refl, tt))))) };
  shown = (refl, (refl, (refl, (refl, (refl, tt)))));
  spoken = (refl, (refl, (refl, (refl, (refl, tt)))));
  exits = record { exits = (refl, (refl, (refl, (refl, (tt, tt))))); told = (refl, (refl, (refl, (refl, (refl, tt))))); over = (tt, (tt, (tt, (tt, (refl, tt))))) };
  at_quiet = (record { told = refl; made = tt; settled = tt }, (tt, (tt, (record { told = refl; made = tt; settled = tt }, (tt, tt)))));
  drops = record { so_far = (refl, (tt, (tt, (refl, (tt, tt))))); at_end = refl; over = (tt, (tt, (tt, (tt, (tt, tt))))) };
}

pub returns-clause-busy : goal.returns-clause-busy
unfolding lib.Utf8.encode digits spelled_with header_bytes body_bytes body_place rising_fields path_of
returns-clause-busy c = record {
  segments = record { begins = tt; starts = (refl, (tt, (refl, (refl, (refl, tt))))); moves = (refl, (tt, (tt, ((tt, tt), (tt, tt))))) };
  steps = (refl, (tt, (tt, (refl, (refl, tt)))));
  applications = (refl, (tt, (tt, (refl, (refl, tt)))));
  links = record { gots = (refl, (tt, (tt, (refl, (tt, tt))))); words = (refl, (refl, (refl, (refl, (refl, tt))))) };
  readers = record { registry_sends = (refl, (refl, (refl, (refl, (refl, tt))))); apps_hear = (refl, (refl, (refl, (refl, (refl, tt))))); readers_call = (refl, (refl, (refl, (refl, (refl, tt))))) };
  shown = (refl, (refl, (refl, (refl, (refl, tt)))));
  spoken = (refl, (refl, (refl, (refl, (refl, tt)))));
  exits = record { exits = (refl, (refl, (refl, (refl, (refl, tt))))); told = (refl, (refl, (refl, (refl, (refl, tt))))); over = (tt, (tt, (tt, (tt, (tt, tt))))) };
  at_quiet = (record { told = refl; made = tt; settled = tt }, (tt, (tt, (record { told = refl; made = (refl, λ w. refl); settled = tt }, (tt, tt)))));
  drops = record { so_far = (refl, (tt, (tt, (refl, (refl, tt))))); at_end = refl; over = (tt, (tt, (tt, (tt, (tt, tt))))) };
}

pub returns-clause-quiet : goal.returns-clause-quiet
unfolding lib.Utf8.encode digits spelled_with header_bytes body_bytes body_place rising_fields path_of
returns-clause-quiet c = record {
  segments = record { begins = tt; starts = (refl, (refl, tt)); moves = ((tt, tt), (tt, tt)) };
  steps = (refl, (refl, tt));
  applications = (refl, (refl, tt));
  links = record { gots = (refl, (tt, tt)); words = (refl, (refl, tt)) };
  readers = record { registry_sends = (refl, (refl, tt)); apps_hear = (refl, (refl, tt)); readers_call = (refl, (refl, tt)) };
  shown = (refl, (refl, tt));
  spoken = (refl, (refl, tt));
  exits = record { exits = (refl, (refl, tt)); told = (refl, (refl, tt)); over = (tt, (tt, tt)) };
  at_quiet = (record { told = refl; made = refl; settled = ((tt, tt), tt) }, (tt, tt));
  drops = record { so_far = (refl, (refl, tt)); at_end = refl; over = (tt, (tt, tt)) };
}

pub returns-clause-cut : goal.returns-clause-cut
unfolding lib.Utf8.encode digits spelled_with header_bytes body_bytes body_place rising_fields path_of
returns-clause-cut c = record {
  segments = record { begins = tt; starts = (refl, (tt, (refl, (refl, (refl, tt))))); moves = (refl, (tt, (tt, (refl, (tt, tt))))) };
  steps = (refl, (tt, (tt, (refl, (refl, tt)))));
  applications = (refl, (tt, (tt, (refl, (refl, tt)))));
  links = record { gots = (refl, (tt, (tt, (refl, (refl, tt))))); words = (refl, (refl, (refl, (refl, (refl, tt))))) };
  readers = record { registry_sends = (refl, (refl, (refl, (refl, (refl, tt))))); apps_hear = (refl, (refl, (refl, (refl, (refl, tt))))); readers_call = (refl, (refl, (refl, (refl, (refl, tt))))) };
  shown = (refl, (refl, (refl, (refl, (refl, tt)))));
  spoken = (refl, (refl, (refl, (refl, (refl, tt)))));
  exits = record { exits = (refl, (refl, (refl, (refl, (refl, tt))))); told = (refl, (refl, (refl, (refl, (refl, tt))))); over = (tt, (tt, (tt, (tt, (tt, tt))))) };
  at_quiet = (record { told = refl; made = tt; settled = tt }, (tt, (tt, (record { told = refl; made = tt; settled = tt }, (tt, tt)))));
  drops = record { so_far = (refl, (tt, (tt, (refl, (refl, tt))))); at_end = refl; over = (tt, (tt, (tt, (tt, (tt, tt))))) };
}
