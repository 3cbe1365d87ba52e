-- Why no further line is done, by why a line asks for nothing, and by why what it asks for is not done.
use Rattle.std.specs.Prelude.{ℕ}
use Rattle.atspi_app_known.specs.declared.application.fault.AppFault.{AppFault}
use Rattle.atspi_app_known.specs.declared.application.fault.AppFault.TheVariants as app
use Rattle.atspi_script_lines.specs.declared.line.LineFault.{LineFault}
use Rattle.atspi_script_lines.specs.declared.line.LineFault.TheVariants as faults
use Rattle.atspi_live_app.specs.declared.doing.Undone.{Undone}
use Rattle.atspi_live_app.specs.declared.doing.Undone.TheVariants as undone
use Rattle.atspi_live_app.specs.declared.naming.Refused.TheVariants as refused
use Rattle.atspi_live_app.specs.declared.live_app.Stop.{Stop}
use Rattle.atspi_live_app.specs.declared.live_app.Stop.TheVariants as stops

abbrev pub stop_of_line : LineFault → ℕ → Stop
stop_of_line faults.Long number = stops.Refused number refused.Long
stop_of_line faults.NotUtf8 number = stops.Refused number refused.NotUtf8
stop_of_line faults.Form number = stops.Refused number refused.Form
stop_of_line faults.NoMemory number = stops.NoMemory

abbrev pub stop_of_undone : Undone → ℕ → Stop
stop_of_undone undone.Form number = stops.Refused number refused.Form
stop_of_undone (undone.Refused why) number = stops.Refused number (refused.Edit why)
stop_of_undone undone.Spent number = stops.Spent
stop_of_undone undone.NoMemory number = stops.NoMemory

abbrev pub undone_of : AppFault → Undone
undone_of (app.Refused why) = undone.Refused why
undone_of app.Spent = undone.Spent
undone_of app.NoMemory = undone.NoMemory
