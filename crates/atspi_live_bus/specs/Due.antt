-- All that is due on a link was given.
use Rattle.std.specs.Prelude.{◌≡◌, ℕ, List, [], ◌++◌, Some}
use Rattle.atspi_auth.specs.Talk.{after, server_start}
use Rattle.atspi_auth.specs.declared.stage.Stage.TheVariants.{Over}
use Rattle.atspi_match.specs.routing.Queues.{queue_of}
use Rattle.atspi_live_host.specs.declared.call.Call.{Call}
use Rattle.atspi_live_host.specs.Calls.{taken, given}
use Rattle.atspi_live_bus.specs.Asked.{handed_to}
use Rattle.atspi_live_bus.specs.Course.{Course, IsCourse}
use Rattle.atspi_live_bus.specs.Service.{line_bytes, lines_for}

-- Behind these calls nothing waits to be given on the link: all lines of authentication for the bytes that were taken
-- were given and, once these are over, all that the bus had for the link's connection.
pub record HasAllGiven (x : Course) (past : List Call) (k : ℕ) : Type 0 where
  pub fits : IsCourse x past
  pub conn : ℕ
  pub seated : x.conn k ≡ Some conn
  pub all : given k past ≡ line_bytes (lines_for (taken k past)) ++ handed_to conn x.asked
  pub none_waits : (after server_start (taken k past)).stage ≡ Over → queue_of x.bus.waiting.queues conn ≡ []
