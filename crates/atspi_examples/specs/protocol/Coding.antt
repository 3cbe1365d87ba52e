-- The tuple of its fields that a message is coded as.
use Rattle.std.specs.Prelude.{ℕ, Bool, List, Option}
use Rattle.std.specs.Coded.{Coded, coded_ℕ, coded_bool, coded_list, coded_option, coded×}
use Rattle.atspi_types.specs.Data.{Data}
use Rattle.atspi_protocol.specs.ends.DataCode.{data_code}

abbrev pub Name : Type 0
Name = Option (List ℕ)

abbrev name : Coded Name
name = coded_option (coded_list coded_ℕ)

-- whether the byte order is little endian, and the other fields in the order of an envelope
abbrev pub fields
    : Coded (Bool × (ℕ × (ℕ × (ℕ × (Name × (Name × (Name × (Name × (Option ℕ × (Name × (Name × List Data)))))))))))
fields =
    coded× coded_bool
    (coded× coded_ℕ (coded× coded_ℕ (coded× coded_ℕ (coded× name (coded× name (coded× name (coded× name
    (coded× (coded_option coded_ℕ) (coded× name (coded× name (coded_list data_code)))))))))))
