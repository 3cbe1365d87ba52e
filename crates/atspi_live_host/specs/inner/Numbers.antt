-- Words that only the private contracts and proofs beside `Numbers` use.
use Rattle.std.specs.Prelude.{◌≡◌, ℕ, ◌+◌}
use Rattle.atspi_live_host.specs.declared.call.Did.{Did}
use Rattle.atspi_live_host.specs.declared.call.Did.TheVariants.{Done, NotYet, End, Failed}

-- a link that is given has the next number
abbrev pub Follows : ℕ → ℕ → Did → Type 0
Follows next after (Done link) = (link ≡ next) × (after ≡ next + 1)
Follows next after NotYet = after ≡ next
Follows next after End = after ≡ next
Follows next after Failed = after ≡ next
