-- What follows for `make` where the sink does not fail.
use Rattle.std.specs.Prelude.{◌≡◌, ◌⊎◌, ℕ}
use Rattle.atspi_run_replay.specs.declared.naming.Halt.TheVariants.{RegistryLost, Spent}
use Rattle.atspi_run_replay.specs.Made.{IsHaltedOf, IsRefusedOf}

-- the script was done; or memory is wanting; or, by a lawful trace of the script's lines before, a line of it is
-- refused, the registry is dropped at one, or serials are spent at one
abbrev pub MakesWell : ℕ → ℕ → ℕ → Type 0
MakesWell count seed status =
    (status ≡ 0)
    ⊎ ((status ≡ 5)
    ⊎ (((status ≡ 1) × IsRefusedOf count seed)
    ⊎ (((status ≡ 9) × IsHaltedOf RegistryLost count seed) ⊎ ((status ≡ 13) × IsHaltedOf Spent count seed))))
