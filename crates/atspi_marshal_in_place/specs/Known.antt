-- What stands where bytes were read: the value at a place, the values that are left.
use Rattle.std.specs.Prelude.{ℕ, Bool, true, false, List, [], Result, Ok, Err}
use Rattle.atspi_types.specs.Kinds.{Kind, number, boolean, text, path, signature, array, structure, variant, dictionary}
use Rattle.atspi_types.specs.Data.{Data, boolean_data}
use Rattle.atspi_types.specs.declared.fault.Fault.{Fault}

-- whether there is no fault
abbrev pub is_read : {X : Type 0} → Result X Fault → Bool
is_read (Ok x) = true
is_read (Err f) = false

-- the value that was read
abbrev pub read_data : Result (Data × ℕ) Fault → Data
read_data (Ok x) = x.0
read_data (Err f) = boolean_data false

-- the values of elements that were read, and of fields
abbrev pub read_list : Result (List Data) Fault → List Data
read_list (Ok ds) = ds
read_list (Err f) = []

abbrev pub read_fields : Result (List Data × ℕ) Fault → List Data
read_fields (Ok x) = x.0
read_fields (Err f) = []

abbrev pub is_variant : Kind → Bool
is_variant (number n) = false
is_variant boolean = false
is_variant text = false
is_variant path = false
is_variant signature = false
is_variant (array k) = false
is_variant (structure ks) = false
is_variant variant = true
is_variant (dictionary k v) = false

-- a number or a boolean
abbrev pub is_simple : Kind → Bool
is_simple (number n) = true
is_simple boolean = true
is_simple text = false
is_simple path = false
is_simple signature = false
is_simple (array k) = false
is_simple (structure ks) = false
is_simple variant = false
is_simple (dictionary k v) = false
