use Rattle.std.proofs.Common.{refl, ap, length, arith}
use Rattle.std.specs.Fmt.{digits}
use Rattle.atspi_message.specs.Bytes.{spelled_with, header_bytes, body_bytes, body_place, rising_fields}
use Rattle.atspi_tree_model.specs.Path.{path_of}
use Rattle.atspi_headline_examples.proofs.lawful.broken_off.Goals as goal

pub returns-clause-front : goal.returns-clause-front
unfolding lib.Utf8.encode digits spelled_with header_bytes body_bytes body_place rising_fields path_of
returns-clause-front c = record {
  segments = record { begins = tt; starts = (refl, (tt, tt)); moves = (refl, (tt, tt)) };
  steps = (refl, (tt, tt));
  applications = (refl, (tt, tt));
  links = record { gots = (refl, (tt, tt)); words = (refl, (refl, tt)) };
  readers = record { registry_sends = (refl, (refl, tt)); apps_hear = (refl, (refl, tt)); readers_call = (refl, (refl, tt)) };
  shown = (refl, (refl, tt));
  spoken = (refl, (refl, tt));
  exits = record { exits = (refl, (refl, tt)); told = (refl, (refl, tt)); over = (tt, (tt, tt)) };
  at_quiet = (tt, (tt, tt));
  drops = record { so_far = (refl, (tt, tt)); at_end = refl; over = (tt, (tt, tt)) };
}

pub returns-clause-whole : goal.returns-clause-whole
unfolding lib.Utf8.encode digits spelled_with header_bytes body_bytes body_place rising_fields path_of
returns-clause-whole c = λ h. absurd (omega (arith, ap length h.applications.0))
