-- Who owns the names of a bus (D-Bus Specification, "Message Bus Names", "RequestName", "ReleaseName").
use Rattle.std.specs.Prelude.{◌≡◌, ◌≢◌, ℕ, ◌+◌, ◌^◌, ◌<◌, ◌≤◌, not, ◌==◌, List, [], ◌∷◌, ◌++◌, map, filter, length}
use Rattle.std.specs.Prelude.{Some, unwrap_or, refl}
use Rattle.std.specs.Ordering.{nat_cmp}
use Rattle.std.specs.Cmp.Lexicographic.{slice_cmp}
use Rattle.std.specs.Fmt.{decimal}
use Rattle.std.specs.Coded.{Coded, code_by, coded×, coded_ℕ, coded_list}
use Rattle.std.specs.FinMap as finmap
use Rattle.std.specs.FinMap.{FinMap}
use Rattle.atspi_names.specs.Queue.{requested, released, without, owns}
use Rattle.atspi_base.specs.valid_names.Names.{is_unique_name}

-- names by their bytes, each with its list
abbrev pub Lists : Type 0
Lists = FinMap {K = List ℕ} (slice_cmp nat_cmp) (List (ℕ × ℕ))

-- the list of a name, an empty one where nobody has it
abbrev pub list_of : Lists → List ℕ → List (ℕ × ℕ)
list_of lists name = unwrap_or (finmap.get lists name) []

-- the lists with this one for the name; a name with an empty list is not kept
abbrev pub with_list : Lists → List ℕ → List (ℕ × ℕ) → Lists
with_list lists name [] = finmap.remove lists name
with_list lists name (first ∷ rest) = finmap.insert lists name (first ∷ rest)

-- the lists without the connection
abbrev pub lists_without : ℕ → Lists → Lists
lists_without conn lists =
    finmap.from_entries (filter (λ (e : List ℕ × List (ℕ × ℕ)). not (length e.1 == 0))
    (map (λ (e : List ℕ × List (ℕ × ℕ)). (e.0, without conn e.1)) (finmap.entries lists)))

-- no list is empty
abbrev pub HasNoEmptyList : Lists → Type 0
HasNoEmptyList lists = (name : List ℕ) → finmap.get lists name ≢ Some []

-- the unique names are :1.0, :1.1 and so on
abbrev pub unique_name : ℕ → List ℕ
unique_name n = 58 ∷ 49 ∷ 46 ∷ decimal n

-- org.freedesktop.DBus, the name of the bus itself
abbrev pub own_name : List ℕ
own_name =
    111 ∷ 114 ∷ 103 ∷ 46 ∷ 102 ∷ 114 ∷ 101 ∷ 101 ∷ 100 ∷ 101 ∷ 115 ∷ 107 ∷ 116 ∷ 111 ∷ 112 ∷ 46 ∷ 68 ∷ 66 ∷ 117 ∷ 115
    ∷ []

-- how many unique names were given, the unique name of each connection that has one, and the list of each owned name
pub record Owners : Type 0 where
  pub given : ℕ
  pub unique : FinMap nat_cmp (List ℕ)
  pub lists : Lists

-- owners are stored as the tuple of their parts
abbrev pub owners_code : Coded Owners
owners_code =
    code_by (ℕ × (FinMap nat_cmp (List ℕ) × Lists))
    (coded× coded_ℕ
    (coded× (finmap.code coded_ℕ (coded_list coded_ℕ))
    (finmap.code (coded_list coded_ℕ) (coded_list (coded× coded_ℕ coded_ℕ)))))
    (λ o. (o.given, (o.unique, o.lists))) (λ t. record { given = t.0; unique = t.1.0; lists = t.1.1 }) (λ _. refl)

-- nobody has a name, and none was given
abbrev pub nobody : Owners
nobody = record { given = 0; unique = finmap.empty; lists = finmap.empty }

-- the connection gets the next unique name, whose list is the connection alone
abbrev pub after_hello : Owners → ℕ → Owners
after_hello owners conn = record {
  given = owners.given + 1;
  unique = finmap.insert owners.unique conn (unique_name owners.given);
  lists = finmap.insert owners.lists (unique_name owners.given) ((conn, 0) ∷ []);
}

-- the name gets the list after the request
abbrev pub after_request : Owners → ℕ → List ℕ → ℕ → Owners
after_request owners conn name flags =
    record owners { lists = with_list owners.lists name (requested (list_of owners.lists name) conn flags).0 }

-- the name gets the list after the release
abbrev pub after_release : Owners → ℕ → List ℕ → Owners
after_release owners conn name =
    record owners { lists = with_list owners.lists name (released (list_of owners.lists name) conn).0 }

-- the connection is out of every list, and has no unique name
abbrev pub after_gone : Owners → ℕ → Owners
after_gone owners conn =
    record owners { unique = finmap.remove owners.unique conn; lists = lists_without conn owners.lists }

-- the well-known names by their bytes
abbrev pub well_known : Lists → List (List ℕ)
well_known lists = filter (λ name. not (is_unique_name name)) (finmap.keys lists)

-- the well-known names that the connection owns, by their bytes
abbrev pub owned_by : Lists → ℕ → List (List ℕ)
owned_by lists conn = filter (λ name. owns conn (list_of lists name)) (well_known lists)

-- the bus's own name, the unique names by rising connection number, the well-known ones by their bytes
abbrev pub listed : Owners → List (List ℕ)
listed owners = own_name ∷ (finmap.values owners.unique ++ well_known owners.lists)

-- the unique names that were not given yet are nobody's
abbrev pub NoneTooEarly : ℕ → Lists → Type 0
NoneTooEarly given lists = (n : ℕ) → given ≤ n → n < 2 ^ 32 → list_of lists (unique_name n) ≡ []
