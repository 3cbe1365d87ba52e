use Rattle.std.proofs.Common.{◌≡◌, ◌++◌, map, take}
use Rattle.atspi_types.specs.Kinds.{kinds_of}
use Rattle.atspi_types.specs.Borrowed.{ref_data}
use Rattle.atspi_types.specs.Data.{items_of, type_of}
use Rattle.atspi_types.specs.DataView.{all_data}
use Rattle.atspi_types.specs.Signatures.{signature_bytes}
use Rattle.atspi_types.proofs.TypeLemmas.{size, sizes}
use Rattle.atspi_types.proofs.+spell.Given as goal

abbrev pub decreases-borrowed::ValueRef::spell_type : goal.decreases-borrowed::ValueRef::spell_type
decreases-borrowed::ValueRef::spell_type a = size (ref_data a.self)

abbrev pub decreases-value::Values::spell_types : goal.decreases-value::Values::spell_types
decreases-value::Values::spell_types a = sizes (items_of (all_data a.self.now))

abbrev pub invariant-value::Values::spell_types-loop-i : goal.invariant-value::Values::spell_types-loop-i
invariant-value::Values::spell_types-loop-i l = (l.out ≡ l.fn.out ++ signature_bytes (kinds_of (map type_of (take l.i (all_data l.self)))))
