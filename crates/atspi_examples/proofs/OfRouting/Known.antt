-- What the maps of the wrong owners hold, beside those of the small bus.
use Rattle.std.proofs.Common.{◌≡◌, ℕ, List}
use Rattle.std.specs.Ordering.{nat_cmp}
use Rattle.std.specs.Cmp.Lexicographic.{slice_cmp}
use Rattle.std.specs.FinMap as finmap
use Rattle.std.specs.FinMap.{find, gets, get-from_sorted}
use Rattle.atspi_match.proofs.OfRouting.Known.{get_unique, get_lists, unique_entries, list_entries}
use Rattle.atspi_examples.specs.routing.Heard.{wrong_lists, wrong_owners}

pub get_wrong : (q : List ℕ) → finmap.get wrong_owners.lists q ≡ find (slice_cmp nat_cmp) q wrong_lists
get_wrong q = get-from_sorted (slice_cmp nat_cmp) wrong_lists q tt

pub ruleset known = (get_unique, get_lists, unique_entries, list_entries, get_wrong, gets)
