-- How a world came about, cause by cause: what is kept by each step holds of it. It may go on where no entry is written.
use Rattle.std.proofs.Common.{ℕ, List, [], ◌∷◌, ◌++◌, Option, None, Some}
use Rattle.atspi_script_lines.specs.declared.limits.TheConstants.{QUOTA_MOST}
use Rattle.atspi_script_lines.specs.declared.line.Party.TheVariants.{Reader}
use Rattle.atspi_message.specs.Envelope.{Envelope}
use Rattle.atspi_protocol.specs.declared.following.question.Question.{Question}
use Rattle.atspi_trace.specs.Entry.{Entry, sent}
use Rattle.atspi_trace.specs.World.{World, first_world}
use Rattle.atspi_trace.specs.Causes.{Cause, does, at_end}
use Rattle.atspi_trace.specs.Due.{freed, asks_at}
use Rattle.atspi_trace_laws.proofs.OfOrder.Allowed.{Allowed, Moves, Asks}
use Rattle.atspi_trace_laws.proofs.OfOrder.Along.{Keeps}

pub data Course : List Entry → World → Option ℕ → Type 0 where
  began : Course [] (first_world QUOTA_MOST) None
  caused : (es : List Entry) (w : World) (c : Cause) → Course es w None → Allowed w c → Course (es ++ (does w c).entries) (does w c).world (freed c)
  moved : (es : List Entry) (w v : World) → Course es w None → Moves w v → Course es v None
  passed : (es : List Entry) (w : World) (free : Option ℕ) → Course es w free → Course es w None
  asked : (es : List Entry) (w : World) (conn r : ℕ) (m : Envelope) (question : Question) → Course es w (Some conn) → Asks w conn r m question
      → Course (es ++ sent (Reader r) m ∷ []) (at_end w conn (asks_at m question)) None

pub kept_so : (Inv : List Entry → World → Option ℕ → Type 0) → Keeps Inv → (es : List Entry) (w : World) (free : Option ℕ) → Course es w free → Inv es w free
kept_so Inv k _ _ _ began = k.begins
kept_so Inv k _ _ _ (caused es w c h a) = k.caused es w c (kept_so Inv k es w None h) a
kept_so Inv k _ _ _ (moved es w v h m) = k.moved es w v (kept_so Inv k es w None h) m
kept_so Inv k _ _ _ (passed es w free h) = k.passed es w free (kept_so Inv k es w free h)
kept_so Inv k _ _ _ (asked es w conn r m question h a) = k.asked es w conn r m question (kept_so Inv k es w (Some conn) h) a
