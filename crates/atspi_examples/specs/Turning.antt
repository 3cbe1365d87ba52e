-- Ends by what waits for them: posts with and without bytes, and a letter whose message has a length.
use Rattle.std.specs.Prelude.{◌≡◌, ℕ, false, List, [], length, None}
use Rattle.atspi_tree_model.specs.Forest.{nil}
use Rattle.atspi_script_lines.specs.declared.line.Party.TheVariants.{Bus as The_bus, Reader}
use Rattle.atspi_message.specs.Envelope.{Envelope}
use Rattle.atspi_message.specs.Bytes.{written}
use Rattle.atspi_match.specs.routing.Queues.{Bus}
use Rattle.atspi_world_links.specs.declared.post.Post.{Post}
use Rattle.atspi_world_links.specs.declared.post.Standing.{Standing}
use Rattle.atspi_world_moves.specs.Filled.{waits_for}
use Rattle.atspi_trace.specs.World.{Letter}
use Rattle.atspi_tree_model.specs.declared.view.Row.{Row}
use Rattle.atspi_tree_model.specs.declared.view.Part.TheVariants.{Unknown}
use Rattle.atspi_tree_model.specs.declared.view.NumPart.TheVariants.{Unknown as UnknownNumber}
use Rattle.atspi_protocol.specs.following.ReaderState.{Followed}
use Rattle.atspi_examples.specs.Seen.{bus, path, row}

-- an end of this standing, with these bytes on its up link
abbrev pub post : Standing → List ℕ → Post
post standing up = record { who = Reader 0; standing = standing; name = None; up = up; begun = 0 }

-- nothing waits in the bus for the first two connections
abbrev pub IsStill : Bus → Type 0
IsStill b = (waits_for b 0 ≡ []) × (waits_for b 1 ≡ [])

-- a letter whose message is so many bytes long
abbrev pub IsLong : ℕ → Letter → Type 0
IsLong n letter = length (written letter.said.message) ≡ n

-- a letter of the bus's
abbrev pub letter : Envelope → Letter
letter e = record { from = The_bus; said = record { message = e; tree = nil; announces = None } }

-- a row with a text that was not told, and one with a caret besides
abbrev pub unread : ℕ → Row
unread n = record (row n) { text = Unknown }

abbrev pub unread_both : ℕ → Row
unread_both n = record (unread n) { caret = UnknownNumber }

-- an application that would not tell these parts
abbrev pub held : Followed
held = record { name = bus; root = path 0; view = None; reload = false; last = 0; refused = [] }
