-- The statuses of the live commands.
use Rattle.std.specs.Prelude.{◌≡◌, ◌⊎◌, ℕ}

-- of an end on its link
abbrev pub IsEndStatus : ℕ → Type 0
IsEndStatus status = (status ≡ 0)
    ⊎ ((status ≡ 4)
    ⊎ ((status ≡ 5) ⊎ ((status ≡ 6) ⊎ ((status ≡ 7) ⊎ ((status ≡ 8) ⊎ ((status ≡ 10) ⊎ (status ≡ 13)))))))

-- and of one with an input
abbrev pub IsLiveStatus : ℕ → Type 0
IsLiveStatus status = (status ≡ 1) ⊎ ((status ≡ 3) ⊎ IsEndStatus status)
