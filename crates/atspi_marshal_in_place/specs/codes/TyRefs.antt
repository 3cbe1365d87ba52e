-- How contracts see types that are read from their codes.
use Rattle.std.specs.Prelude.{◌≡◌, ◌≢◌, length, List, [], ◌∷◌, Option, Some, None, Result, Ok, Err}
use Rattle.atspi_types.specs.Kinds.{Kind}
use Rattle.atspi_types.specs.declared.fault.Fault.{Fault}
use Rattle.atspi_marshal_in_place.specs.codes.Codes.{kind_at, kinds_at}
use Rattle.atspi_marshal_in_place.specs.declared.codes.types.TyRef.{TyRef}
use Rattle.atspi_marshal_in_place.specs.declared.codes.types.TysRef.{TysRef}

abbrev pub ref_kind : TyRef → Kind
ref_kind t = kind_at t.codes.now

abbrev pub refs_kinds : TysRef → List Kind
refs_kinds t = kinds_at t.codes.now

-- the first of the types, and those behind it; or no type, and none later
abbrev pub TypeComes : Option TyRef → List Kind → List Kind → Type 0
TypeComes (Some t) old new = old ≡ ref_kind t ∷ new
TypeComes None old new = (old ≡ []) × (new ≡ [])

-- what reading gave, of the types as they are
abbrev pub refs_read : Result TysRef Fault → Result (List Kind) Fault
refs_read (Ok ts) = Ok (refs_kinds ts)
refs_read (Err f) = Err f

-- bytes were read as one type, as none or several, or are no signature
abbrev pub ReadsOne : Result (Option TyRef) Fault → Result (List Kind) Fault → Type 0
ReadsOne (Ok (Some t)) read = read ≡ Ok (ref_kind t ∷ [])
ReadsOne (Ok None) read = (ks : List Kind) × (read ≡ Ok ks) × (length ks ≢ 1)
ReadsOne (Err f) read = read ≡ Err f
