-- The cursors of one reader in the texts of one application, by the nodes that have these texts.
use Rattle.std.specs.Prelude.{◌≡◌, ◌≢◌, ℕ, unwrap_or}
use Rattle.std.specs.BTreeMap.{get}
use Rattle.std.specs.Ordering.{nat_cmp}
use Rattle.atspi_cursors.specs.declared.cursors.Cursors.{Cursors}

-- the cursor in the text of a node; in one that was not read yet it stands at the start
abbrev pub cursor_at : Cursors → ℕ → ℕ
cursor_at cursors node = unwrap_or (get nat_cmp cursors.places node) 0

-- the cursors in the texts of all other nodes are where they were
abbrev pub OthersStay : Cursors → Cursors → ℕ → Type 0
OthersStay old new node = (other : ℕ) → other ≢ node → cursor_at new other ≡ cursor_at old other

-- so are all
abbrev pub AllStay : Cursors → Cursors → Type 0
AllStay old new = (node : ℕ) → cursor_at new node ≡ cursor_at old node
