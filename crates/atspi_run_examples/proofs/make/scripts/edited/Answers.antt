use Rattle.std.proofs.Common.{arith, refl, subst}
use Rattle.atspi_script_lines.specs.declared.line.Line.TheVariants.{Edit as Edit_line}
use Rattle.atspi_run_make.specs.Drawing.{drawn_edit}
use Rattle.atspi_tree.specs.TreeShape.{TreeShape}
use Rattle.atspi_run_replay.specs.Made.{StandsBehind, next_edit, none_drawn, opening}
use Rattle.atspi_run_examples.proofs.OfMake.NextLines.{no_edit}
use Rattle.atspi_run_examples.proofs.make.scripts.edited.Goals as goal

pub returns-clause-first : goal.returns-clause-first
returns-clause-first c t law root =
    subst (λ (tree : TreeShape). StandsBehind 1 3 opening (Edit_line 0 (drawn_edit tree 1 1).edit) t) root (next_edit 0 1 opening t (none_drawn t law) (omega arith))

pub returns-clause-none : goal.returns-clause-none
returns-clause-none c seed app edit lines t stands = no_edit seed lines (Edit_line app edit) t stands app edit refl
