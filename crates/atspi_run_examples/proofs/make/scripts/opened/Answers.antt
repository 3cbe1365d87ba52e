use Rattle.std.proofs.Common.{refl}
use Rattle.std.specs.Prelude.{[], ◌∷◌, codes}
use Rattle.atspi_script_lines.specs.declared.line.Line.TheVariants.{App, Reader, Drain}
use Rattle.atspi_run_replay.specs.Made.{in_opening}
use Rattle.atspi_run_examples.proofs.OfMake.NextLines.{app_first}
use Rattle.atspi_run_examples.proofs.make.scripts.opened.Goals as goal

pub returns-clause-first : goal.returns-clause-first
returns-clause-first c seed t law = in_opening [] (Reader ∷ Drain ∷ []) (App (codes "Made")) t refl law

pub returns-clause-second : goal.returns-clause-second
returns-clause-second c seed t law = in_opening (App (codes "Made") ∷ []) (Drain ∷ []) Reader t refl law

pub returns-clause-third : goal.returns-clause-third
returns-clause-third c seed t law = in_opening (App (codes "Made") ∷ Reader ∷ []) [] Drain t refl law

pub returns-clause-no_other : goal.returns-clause-no_other
returns-clause-no_other c seed line t stands = app_first seed 3 [] line t stands refl
