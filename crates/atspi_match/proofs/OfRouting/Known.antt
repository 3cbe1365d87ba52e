-- What the maps of the small bus hold, by which the worked cases are computed.
use Rattle.std.proofs.Common.{◌≡◌, ℕ, List}
use Rattle.std.specs.Ordering.{nat_cmp}
use Rattle.std.specs.Cmp.Lexicographic.{slice_cmp}
use Rattle.std.specs.FinMap as finmap
use Rattle.std.specs.FinMap.{find, gets, get-from_sorted, entries-from_sorted}
use Rattle.atspi_match.specs.routing.Room.{unique_names, name_lists, owners}

pub get_unique : (q : ℕ) → finmap.get owners.unique q ≡ find nat_cmp q unique_names
get_unique q = get-from_sorted nat_cmp unique_names q tt

pub get_lists : (q : List ℕ) → finmap.get owners.lists q ≡ find (slice_cmp nat_cmp) q name_lists
get_lists q = get-from_sorted (slice_cmp nat_cmp) name_lists q tt

pub unique_entries : finmap.entries owners.unique ≡ unique_names
unique_entries = entries-from_sorted nat_cmp unique_names tt

pub list_entries : finmap.entries owners.lists ≡ name_lists
list_entries = entries-from_sorted (slice_cmp nat_cmp) name_lists tt

pub ruleset known = (get_unique, get_lists, unique_entries, list_entries, gets)
