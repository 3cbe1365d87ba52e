-- An edit that a line asks for can be asked for.
use Rattle.std.proofs.Common.{◌≡◌, ℕ, List, subst}
use Rattle.std.specs.Prelude.{Result, Ok}
use Rattle.atspi_script_lines.specs.declared.line.LineFault.{LineFault}
use Rattle.atspi_live_app.specs.inner.Input.{Passes}
use Rattle.atspi_live_app.specs.Asking.{IsAsk}
use Rattle.atspi_live_app.specs.inner.Live.{IsLawful}
use Rattle.atspi_live_app.specs.declared.asking.Ask.{Ask}
use Rattle.atspi_live_app.specs.declared.asking.Ask.TheVariants as ask

pub is_lawful : (what : Ask) (line : List ℕ) → IsAsk what line → IsLawful what
is_lawful ask.Nothing line a = tt
is_lawful (ask.Start name) line a = tt
is_lawful (ask.Edit edit) line a = a.1.form.0
is_lawful (ask.Wait rounds) line a = tt

-- the line that was passed, by what a match found
pub passes_as : (r s : Result Ask LineFault) (text : List ℕ) (at number at' number' : ℕ) → r ≡ s → Passes r text at number at' number' → Passes s text at number at' number'
passes_as r s text at number at' number' e p = subst (λ (x : Result Ask LineFault). Passes x text at number at' number') e p

pub lawful_as : (r : Result Ask LineFault) (what : Ask) (text : List ℕ) (at number at' number' : ℕ) → r ≡ Ok what → Passes r text at number at' number' → IsLawful what
lawful_as r what text at number at' number' e p = let q = passes_as r (Ok what) text at number at' number' e p in is_lawful what q.line q.asks
