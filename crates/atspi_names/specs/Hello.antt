-- What a Hello does, so that it can be taken back.
use Rattle.std.specs.Prelude.{◌≡◌, ℕ, None}
use Rattle.std.specs.FinMap as finmap
use Rattle.atspi_names.specs.Owners.{Owners, unique_name, after_hello}

-- these owners are those right after a Hello of the connection, which had no unique name; and nobody had the name that
-- it got
pub record IsAfterHello (before now : Owners) (conn : ℕ) : Type 0 where
  pub is : now ≡ after_hello before conn
  pub unnamed : finmap.get before.unique conn ≡ None
  pub free : finmap.get before.lists (unique_name before.given) ≡ None
