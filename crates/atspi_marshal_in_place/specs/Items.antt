-- What a value that lies in bytes is, and what comes next of several.
use Rattle.std.specs.Prelude.{◌≡◌, ℕ, List, [], ◌∷◌, Option, Some, None, Result, Ok, Err}
use Rattle.atspi_types.specs.Kinds.{Kind}
use Rattle.atspi_types.specs.Data.{Data}
use Rattle.atspi_types.specs.declared.fault.Fault.{Fault}
use Rattle.atspi_marshal_in_place.specs.codes.TyRefs.{ref_kind, refs_kinds}
use Rattle.atspi_marshal.specs.Faults.{entry_kind}
use Rattle.atspi_marshal.specs.Reading.{input_of, read, elements_at, struct_of}
use Rattle.atspi_marshal_in_place.specs.Known.{read_data, read_list, read_fields}
use Rattle.atspi_marshal_in_place.specs.Passing.{read_all}
use Rattle.atspi_marshal_in_place.specs.declared.cursor.Item.{Item}
use Rattle.atspi_marshal_in_place.specs.declared.cursor.Elements.{Elements}
use Rattle.atspi_marshal_in_place.specs.declared.cursor.Fields.{Fields}
use Rattle.atspi_marshal_in_place.specs.declared.cursor.Entries.{Entries}
use Rattle.atspi_marshal_in_place.specs.declared.cursor.Entry.{Entry}

-- the value, and its type
abbrev pub item_data : Item → Data
item_data x = read_data (read (input_of x.input) x.levels (ref_kind x.ty) x.bound x.at)

abbrev pub item_kind : Item → Kind
item_kind x = ref_kind x.ty

-- the elements that are left, and their type
abbrev pub elements_data : Elements → List Data
elements_data e =
    read_list (elements_at (read (input_of e.input) e.levels (ref_kind e.ty) e.inside) e.inside.end e.left e.at)

abbrev pub elements_kind : Elements → Kind
elements_kind e = ref_kind e.ty

-- the fields that are left, and their types
abbrev pub fields_data : Fields → List Data
fields_data f = read_fields (read_all (input_of f.input) f.levels (refs_kinds f.types) f.bound f.at)

abbrev pub fields_kinds : Fields → List Kind
fields_kinds f = refs_kinds f.types

-- the first of the values, and those behind it
abbrev pub Comes : Option Item → List Data → List Data → Type 0
Comes (Some x) old new = old ≡ item_data x ∷ new
Comes None old new = (old ≡ []) × (new ≡ [])

-- what was read of values one after the other, and the place behind them
abbrev pub fields_read : Result (Fields × ℕ) Fault → Result (List Data × ℕ) Fault
fields_read (Ok x) = Ok (fields_data x.0, x.1)
fields_read (Err f) = Err f

-- the entries that are left, as structs of a key and a value, and the types of those
abbrev pub entries_data : Entries → List Data
entries_data e =
    read_list
    (elements_at (read (input_of e.input) e.levels (entry_kind (ref_kind e.key) (ref_kind e.value)) e.inside)
    e.inside.end e.left e.at)

abbrev pub key_kind : Entries → Kind
key_kind e = ref_kind e.key

abbrev pub value_kind : Entries → Kind
value_kind e = ref_kind e.value

-- the first of the entries, and those behind it
abbrev pub EntryComes : Option Entry → List Data → List Data → Type 0
EntryComes (Some e) old new = old ≡ struct_of (item_data e.key) (item_data e.value) ∷ new
EntryComes None old new = (old ≡ []) × (new ≡ [])
