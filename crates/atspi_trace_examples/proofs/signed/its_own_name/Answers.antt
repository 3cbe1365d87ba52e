use Rattle.std.proofs.Common.{◌≡◌, refl, sym, arith}
use Rattle.atspi_names.specs.Owners.{unique_name}
use Rattle.atspi_names.proofs.UniqueLemmas.{unique_name-injective}
use Rattle.atspi_trace_laws.proofs.OfOrder.Parties.{no_none, same_some}
use Rattle.atspi_trace_examples.proofs.signed.its_own_name.Goals as goal

pub returns-clause-first : goal.returns-clause-first
returns-clause-first c own h = sym (same_some (unique_name 1) own h)

pub returns-clause-another : goal.returns-clause-another
returns-clause-another c h = let same : 1 ≡ 2 = unique_name-injective 1 2 (omega arith) (omega arith) (h (unique_name 1) refl) in absurd (omega (arith, same))

pub returns-clause-unnamed : goal.returns-clause-unnamed
returns-clause-unnamed c own h = absurd (no_none own h)
