use Rattle.std.proofs.Common.{refl}
use Rattle.atspi_types.specs.DataView.{all_pairs}
use Rattle.atspi_marshal_in_place.specs.codes.TyRefs.{ref_kind}
use Rattle.atspi_marshal.specs.Reading.{structs_in}
use Rattle.atspi_marshal_in_place.proofs.Owns.{dictionary_owned}
use Rattle.atspi_marshal_in_place.proofs.owned.dictionary_of.Goals as goal

pub returns-in-Ok : goal.returns-in-Ok
returns-in-Ok c = dictionary_owned c.in-Ok.key_type c.in-Ok.value_type c.args.pairs (ref_kind c.args.key) (ref_kind c.args.value) (structs_in (all_pairs c.args.pairs)) _ c.in-Ok.ensures.key c.in-Ok.ensures.value refl refl
