use Rattle.std.proofs.Common.{refl}
use Rattle.std.specs.Fmt.{digits}
use Rattle.atspi_message.specs.Bytes.{spelled_with, header_bytes, body_bytes, body_place, rising_fields}
use Rattle.atspi_tree_model.specs.Path.{path_of}
use Rattle.atspi_headline_examples.proofs.dues.of_links.Goals as goal

pub returns-clause-all_but_one : goal.returns-clause-all_but_one
unfolding lib.Utf8.encode digits spelled_with header_bytes body_bytes body_place rising_fields path_of
returns-clause-all_but_one c = refl

pub returns-clause-last_byte : goal.returns-clause-last_byte
unfolding lib.Utf8.encode digits spelled_with header_bytes body_bytes body_place rising_fields path_of
returns-clause-last_byte c = refl

pub returns-clause-one_is_kept : goal.returns-clause-one_is_kept
unfolding lib.Utf8.encode digits spelled_with header_bytes body_bytes body_place rising_fields path_of
returns-clause-one_is_kept c = refl

pub returns-clause-both_are_kept : goal.returns-clause-both_are_kept
unfolding lib.Utf8.encode digits spelled_with header_bytes body_bytes body_place rising_fields path_of
returns-clause-both_are_kept c = refl

pub returns-clause-dropped : goal.returns-clause-dropped
unfolding lib.Utf8.encode digits spelled_with header_bytes body_bytes body_place rising_fields path_of
returns-clause-dropped c = refl

pub returns-clause-not_dropped : goal.returns-clause-not_dropped
unfolding lib.Utf8.encode digits spelled_with header_bytes body_bytes body_place rising_fields path_of
returns-clause-not_dropped c = refl
