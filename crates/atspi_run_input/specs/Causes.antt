-- What a status says of the counts of faults of a source and a sink.
use Rattle.std.specs.Prelude.{◌≡◌, ◌⊎◌, ℕ, ◌≤◌}
use Rattle.atspi_base.specs.Outside.{Rose}

-- a line, or want of memory, ended the run before the source's fault was told
abbrev pub IsSooner : ℕ → Type 0
IsSooner status = (status ≡ 1) ⊎ ((status ≡ 5) ⊎ ((status ≡ 9) ⊎ (status ≡ 13)))

-- which counts changed, by the status: 4 where that of the sink did, and else 3, or the status of a line before the
-- fault, where that of the source did
pub record Causes (status source source' sink sink' : ℕ) : Type 0 where
  pub source_later : source ≤ source'
  pub sink_later : sink ≤ sink'
  pub read : status ≡ 3 → Rose source source'
  pub write : status ≡ 4 → Rose sink sink'
  pub sink_first : (status ≡ 4) ⊎ (sink' ≡ sink)
  pub source_next : (status ≡ 3) ⊎ ((status ≡ 4) ⊎ (IsSooner status ⊎ (source' ≡ source)))
