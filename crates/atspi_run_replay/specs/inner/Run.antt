-- Words behind `Run` that only private contracts and proofs use.
use Rattle.std.specs.Prelude.{ℕ}
use Rattle.atspi_world.specs.declared.fault.ActFault.{ActFault}
use Rattle.atspi_world.specs.declared.fault.ActFault.TheVariants as act
use Rattle.atspi_run_replay.specs.declared.input.End.{End}
use Rattle.atspi_run_replay.specs.declared.input.End.TheVariants.{Whole, TooLong, Failed}
use Rattle.atspi_run_replay.specs.declared.naming.Halt.TheVariants.{RegistryLost, Spent}
use Rattle.atspi_run_replay.specs.declared.naming.Refused.TheVariants.{World}
use Rattle.atspi_run_replay.specs.declared.naming.Stop.{Stop}
use Rattle.atspi_run_replay.specs.declared.naming.Stop.TheVariants.{Refused, Halted, Write, NoMemory}

-- the status where all lines were done, by how the reading ended
abbrev pub end_status : End → ℕ
end_status Whole = 0
end_status TooLong = 8
end_status Failed = 3

-- and where they were not
abbrev pub stop_status : Stop → ℕ
stop_status (Refused why) = 1
stop_status Write = 4
stop_status NoMemory = 5
stop_status (Halted RegistryLost) = 9
stop_status (Halted Spent) = 13

-- why a line that a world did not do stops a run
abbrev pub stop_of : ActFault → Stop
stop_of (act.Refused why) = Refused (World why)
stop_of act.Spent = Halted Spent
stop_of act.RegistryLost = Halted RegistryLost
stop_of act.Unsendable = NoMemory
stop_of act.NoMemory = NoMemory
