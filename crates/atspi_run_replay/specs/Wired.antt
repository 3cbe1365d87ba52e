-- The bytes of messages that `--wire` tells: by the entries of a trace, and by the unique names that the ends of its
-- world have.
use Rattle.std.specs.Prelude.{◌≡◌, ℕ, ◌==◌, ◌&&◌, ◌||◌, false, List, [], ◌∷◌, ◌++◌, find, Option, None, Some}
use Rattle.std.specs.Prelude.{if◌then◌else◌}
use Rattle.atspi_tree_model.specs.Forest.{first_of}
use Rattle.atspi_script_lines.specs.declared.limits.TheConstants.{QUOTA_MOST}
use Rattle.atspi_script_lines.specs.declared.line.Line.{Line}
use Rattle.atspi_script_lines.specs.declared.line.Party.{Party}
use Rattle.atspi_script_lines.specs.declared.line.Party.TheVariants.{Bus as The_bus}
use Rattle.atspi_message.specs.Envelope.{Envelope}
use Rattle.atspi_message.specs.Bytes.{written}
use Rattle.atspi_trace.specs.Entry.{Entry, sent, got, entry_of}
use Rattle.atspi_trace.specs.World.{End, World}
use Rattle.atspi_trace.specs.Ends.{same_party}
use Rattle.atspi_trace.specs.Work.{work_of}
use Rattle.atspi_trace.specs.Due.{is_lost}
use Rattle.atspi_trace.specs.play.Playing.{Playing, first_playing, unique_in}
use Rattle.atspi_trace.specs.play.Played.{refused, PlaysOut}
use Rattle.atspi_run_replay.specs.Told.{Told, entries_told}

-- the last message of a party with a serial that some entries tell as sent
abbrev pub sent_as : Party → ℕ → Entry → Option Envelope
sent_as who serial (sent sender e) = if same_party sender who && (e.serial == serial) then Some e else None
sent_as who serial entry = None

abbrev pub sent_in : Party → ℕ → List Entry → Option Envelope
sent_in who serial [] = None
sent_in who serial (entry ∷ entries) = first_of (sent_in who serial entries) (sent_as who serial entry)

-- as its taker got it: where one end took it of another, it bears the unique name of its sender, which the bus set
abbrev pub name_of : World → Party → Option (List ℕ)
name_of w who = unique_in (find (λ (e : End). same_party e.who who) w.ends)

abbrev pub as_taken : World → Party → Party → Envelope → Envelope
as_taken w taker sender e = if same_party taker The_bus || same_party sender The_bus then e
    else record e { sender = name_of w sender }

abbrev pub taken_bytes : World → Party → Party → Option Envelope → List ℕ
taken_bytes w taker sender None = []
taken_bytes w taker sender (Some e) = written (as_taken w taker sender e)

-- THE BYTES BEHIND AN ENTRY: those of a message that was sent, and of one that was taken, which is the last that its
-- sender sent before with that serial
abbrev pub bytes_behind : World → List Entry → Entry → List ℕ
bytes_behind w before (sent who e) = written e
bytes_behind w before (got taker sender serial) = taken_bytes w taker sender (sent_in sender serial before)
bytes_behind w before entry = []

-- so they are told, one entry after another
abbrev pub AreWired : World → List Entry → List Told → Type 0
AreWired w before [] = Unit {0}
AreWired w before (t ∷ ts) = (t.bytes ≡ bytes_behind w before (entry_of t.event))
    × AreWired w (before ++ entry_of t.event ∷ []) ts

-- LINES WERE DONE AND TOLD: of each the entries that it plays, and the bytes by the names that ends have behind it
pub data IsTold : List Line → List Told → Playing → Type 0 where
  begun : IsTold [] [] (first_playing QUOTA_MOST)
  did : (lines : List Line) (line : Line) (told more : List Told) (p q : Playing) → IsTold lines told p
      → refused p line ≡ None → PlaysOut p (work_of p.world line) (entries_told more) q → is_lost q.world ≡ false
      → AreWired q.world (entries_told told) more → IsTold (lines ++ line ∷ []) (told ++ more) q
