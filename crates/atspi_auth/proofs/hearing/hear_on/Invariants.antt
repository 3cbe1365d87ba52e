use Rattle.std.proofs.Common.{◌≡◌, ◌-◌, ◌≤◌, length, drop}
use Rattle.atspi_auth.specs.Talk.{goes_on, hears_bytes, say}
use Rattle.atspi_auth.proofs.hearing.hear_on.Given as goal

abbrev pub invariant-lines : goal.invariant-lines
invariant-lines l = (l.at ≤ length l.bytes) × (goes_on l.fn.first (λ next. hears_bytes next (drop l.fn.start l.bytes)) (drop l.fn.start l.bytes) ≡ say l.said.items (goes_on l.reply (λ next. hears_bytes next (drop l.at l.bytes)) (drop l.at l.bytes)))

abbrev pub decreases-lines : goal.decreases-lines
decreases-lines l = length l.bytes - l.at
