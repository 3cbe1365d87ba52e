-- The pieces, each from its own files.
use Rattle.atspi_trace_played.proofs.Pieces.{RepliesStep, SeesStep, WantsMore, Pieces}
use Rattle.atspi_trace_played.proofs.AskingPieces.{asks_step, asks_first, asks_called, idle_after}
use Rattle.atspi_trace_played.proofs.ReplyingRoots.{roots_are_told}
use Rattle.atspi_trace_played.proofs.ReplyingWell.{replies_well}
use Rattle.atspi_trace_played.proofs.SeeingPieces as seeing
use Rattle.atspi_trace_played.proofs.SeeingMore.{sees_more, sees_first}
use Rattle.atspi_trace_played.proofs.SeeingShows.{shows_due}
use Rattle.atspi_trace_played.proofs.WantingPieces as wanting
use Rattle.atspi_trace_played.proofs.WantingPieces.{wants_none, wants_one, rests_settled}
use Rattle.atspi_trace_played.proofs.WantingWorlds.{wants_asked, wants_moved, wants_first, wants_called}

replies_step : RepliesStep
replies_step script es w conn r e h letter rest to_come g nodes x order =
    replies_well script es w g nodes conn r e h letter rest (record { there = x.is_here.there; whose = x.whose; standing = x.is_here.standing; role = x.role; link = x.link }) to_come order

sees_step : SeesStep
sees_step = seeing.sees_step roots_are_told

wants_more : WantsMore
wants_more script es w c conn r e h s g after allowed other skips there who role sees wants = wanting.wants_more script es w c conn r e h s g after skips there who role sees wants

pub pieces : Pieces
pieces = record {
  replies_step = replies_step;
  sees_step = sees_step;
  sees_more = sees_more;
  sees_first = sees_first;
  shows_due = shows_due;
  asks_step = asks_step;
  asks_first = asks_first;
  asks_called = asks_called;
  idle_after = idle_after;
  wants_none = wants_none;
  wants_one = wants_one;
  wants_more = wants_more;
  wants_asked = wants_asked;
  wants_moved = wants_moved;
  wants_first = wants_first;
  wants_called = wants_called;
  rests_settled = rests_settled;
}
