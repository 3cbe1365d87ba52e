use Rattle.std.proofs.Common.{refl}
use Rattle.std.specs.Fmt.{digits}
use Rattle.atspi_message.specs.Bytes.{spelled_with, header_bytes, body_bytes, body_place, rising_fields}
use Rattle.atspi_tree_model.specs.Path.{path_of}
use Rattle.atspi_headline_examples.proofs.dues.of_readers.Goals as goal

pub returns-clause-shown : goal.returns-clause-shown
unfolding lib.Utf8.encode digits spelled_with header_bytes body_bytes body_place rising_fields path_of
returns-clause-shown c = refl

pub returns-clause-another : goal.returns-clause-another
unfolding lib.Utf8.encode digits spelled_with header_bytes body_bytes body_place rising_fields path_of
returns-clause-another c = refl

pub returns-clause-spoken : goal.returns-clause-spoken
unfolding lib.Utf8.encode digits spelled_with header_bytes body_bytes body_place rising_fields path_of
returns-clause-spoken c = refl

pub returns-clause-unasked : goal.returns-clause-unasked
unfolding lib.Utf8.encode digits spelled_with header_bytes body_bytes body_place rising_fields path_of
returns-clause-unasked c = refl

pub returns-clause-closing : goal.returns-clause-closing
unfolding lib.Utf8.encode digits spelled_with header_bytes body_bytes body_place rising_fields path_of
returns-clause-closing c = refl
