-- Values that can be written wherever they stand, as long as what is written is short: the rules of a spelling, apart
-- from lengths.
use Rattle.std.specs.Prelude.{◌≡◌, ◌<◌, ◌^◌, ℕ, zero, suc, true, encode_utf8_all}
use Rattle.std.specs.Int.{byte_len}
use Rattle.std.specs.Str.{all_scalars}
use Rattle.atspi_base.specs.Text.{HasNoZero}
use Rattle.atspi_base.specs.valid_names.Names.{IsPath}
use Rattle.atspi_types.specs.Kinds.{width}
use Rattle.atspi_types.specs.Signatures.{IsSignature}
use Rattle.atspi_types.specs.Data.{Data, number_data, boolean_data, text_data, path_data, signature_data, array_data}
use Rattle.atspi_types.specs.Data.{structure_data, variant_data, dictionary_data, Items, no_items, item, Entries}
use Rattle.atspi_types.specs.Data.{no_entries, entry}
use Rattle.atspi_marshal.specs.Spelling.{single}

-- numbers in their width, texts and paths by their rules, signatures, and at most so many containers in one another
abbrev mutual
  pub Sits : Data → ℕ → Type 0
  Sits (number_data n x) levels = x < 256 ^ byte_len (width n)
  Sits (boolean_data b) levels = Unit {0}
  Sits (text_data cs) levels = (all_scalars cs ≡ true) × HasNoZero (encode_utf8_all cs)
  Sits (path_data bytes) levels = IsPath bytes
  Sits (signature_data ks) levels = IsSignature ks
  Sits (array_data k ds) zero = ⊥
  Sits (array_data k ds) (suc levels) = AllSit ds levels
  Sits (structure_data ds) zero = ⊥
  Sits (structure_data ds) (suc levels) = AllSit ds levels
  Sits (dictionary_data k v es) zero = ⊥
  Sits (dictionary_data k v es) (suc levels) = EntriesSit es levels
  Sits (variant_data k d) zero = ⊥
  Sits (variant_data k d) (suc levels) = IsSignature (single k) × Sits d levels

  -- values one behind the other
  pub AllSit : Items → ℕ → Type 0
  AllSit no_items levels = Unit {0}
  AllSit (item d ds) levels = Sits d levels × AllSit ds levels

  -- entries, each of them a container
  pub EntriesSit : Entries → ℕ → Type 0
  EntriesSit no_entries levels = Unit {0}
  EntriesSit (entry c d es) zero = ⊥
  EntriesSit (entry c d es) (suc levels) = Sits c levels × Sits d levels × EntriesSit es (suc levels)
