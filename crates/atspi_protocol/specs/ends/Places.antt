-- The names and paths that all ends know (D-Bus Specification, "Message Bus Overview"; AT-SPI2's interface files), and
-- references.
use Rattle.std.specs.Prelude.{ℕ, List, [], ◌∷◌, map, codes}
use Rattle.atspi_types.specs.Kinds.{Kind, kind, no_kinds, structure, text, path}
use Rattle.atspi_types.specs.Data.{Data, text_data, path_data, structure_data, array_data, items_of}

-- the bus: its name, which is also its interface's, and the path that calls to it go to
abbrev pub bus : List ℕ
bus = codes "org.freedesktop.DBus"

abbrev pub bus_path : List ℕ
bus_path = codes "/org/freedesktop/DBus"

-- the registry: its well-known name, and the path of its object for listeners
abbrev pub registry : List ℕ
registry = codes "org.a11y.atspi.Registry"

abbrev pub registry_path : List ℕ
registry_path = codes "/org/a11y/atspi/registry"

-- the root of an application and of the registry; the path of nobody; the object that tells a whole application
abbrev pub root_path : List ℕ
root_path = codes "/org/a11y/atspi/accessible/root"

abbrev pub null_path : List ℕ
null_path = codes "/org/a11y/atspi/null"

abbrev pub cache_path : List ℕ
cache_path = codes "/org/a11y/atspi/cache"

-- a reference: a bus name and a path
abbrev pub reference : List ℕ → List ℕ → Data
reference name place = structure_data (items_of (text_data name ∷ path_data place ∷ []))

abbrev pub reference_kind : Kind
reference_kind = structure (kind text (kind path no_kinds))

abbrev pub references : List (List ℕ × List ℕ) → Data
references rs = array_data reference_kind (items_of (map (λ (r : List ℕ × List ℕ). reference r.0 r.1) rs))

-- the root of the registry, which is the parent of each application's root
abbrev pub registry_root : Data
registry_root = reference registry root_path
