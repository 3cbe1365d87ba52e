-- The links of the bus are those that the host has open.
use Rattle.std.specs.Prelude.{◌≡◌, ℕ, List, map}
use Rattle.atspi_live_host.specs.inner.Calls.{Differ}
use Rattle.atspi_live_bus.specs.declared.link.Link.{Link}

abbrev pub numbers : List Link → List ℕ
numbers ls = map (λ (l : Link). l.number) ls

-- in the order in which they were given, each with a number of its own
pub record Serves (open_links : List ℕ) (links : List Link) : Type 0 where
  pub are : numbers links ≡ open_links
  pub differ : Differ open_links
