-- What a line of an application's input asks for.
use Rattle.std.specs.Prelude.{◌≡◌, ◌<◌, ◌^◌, ℕ, List, ◌++◌, codes}
use Rattle.std.specs.Fmt.{decimal}
use Rattle.atspi_tree_model.specs.declared.edit.Edit.{Edit}
use Rattle.atspi_script_lines.specs.declared.line.Line.TheVariants as line
use Rattle.atspi_script_lines.specs.Line.{Spells}
use Rattle.atspi_live_app.specs.declared.asking.Ask.{Ask}
use Rattle.atspi_live_app.specs.declared.asking.Ask.TheVariants as ask

-- `wait N`
abbrev pub IsWait : ℕ → List ℕ → Type 0
IsWait n bytes = (n < 2 ^ 32) × (bytes ≡ codes "wait " ++ decimal n)

-- an edit as in a script, without the words `edit A`
abbrev pub IsEditLine : Edit → List ℕ → Type 0
IsEditLine edit bytes = (app : ℕ) × Spells (line.Edit app edit) (codes "edit a0 " ++ bytes)

-- the bytes, without their line feed, ask for this
abbrev pub IsAsk : Ask → List ℕ → Type 0
IsAsk ask.Nothing bytes = Spells line.Blank bytes
IsAsk (ask.Start name) bytes = Spells (line.App name) bytes
IsAsk (ask.Edit edit) bytes = IsEditLine edit bytes
IsAsk (ask.Wait rounds) bytes = IsWait rounds bytes
