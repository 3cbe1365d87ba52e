-- What the parts of following an event do to cursors, and to what messages told.
use Rattle.std.specs.Prelude.{◌≡◌, ℕ, ◌==◌, ◌&&◌, ◌<◌, ◌^◌, Some, if◌then◌else◌}
use Rattle.atspi_tree_model.specs.Path.{path_of}
use Rattle.atspi_message.specs.Envelope.{envelope_of}
use Rattle.atspi_message.specs.declared.message.Message.{Message}
use Rattle.atspi_browse.specs.Cursor.{moved, of_message}
use Rattle.atspi_browse.specs.Places.{cursor_of, note_of}
use Rattle.atspi_browse.specs.inner.Changes.{moment_at}
use Rattle.atspi_browse.specs.declared.places.Places.{Places}

-- an application's message is noted
abbrev pub Notes : Places → Places → ℕ → Message → Type 0
Notes old new app message =
    (a serial n : ℕ) → a < 2 ^ 32 → serial < 2 ^ 32 → n < 2 ^ 32
    → moment_at n (note_of new a serial)
    ≡ (if (app == a) && (message.serial == serial) then of_message (path_of n) (Some (envelope_of message))
    else moment_at n (note_of old a serial))

-- a reader takes one
abbrev pub Moves : Places → Places → ℕ → ℕ → ℕ → Type 0
Moves old new reader app serial =
    (r a n : ℕ) → r < 2 ^ 32 → a < 2 ^ 32 → n < 2 ^ 32
    → cursor_of new r a n
    ≡ (if (reader == r) && (app == a) then moved (cursor_of old r a n) (moment_at n (note_of old app serial))
    else cursor_of old r a n)

-- an application is gone
abbrev pub Forgets : Places → Places → ℕ → ℕ → Type 0
Forgets old new reader app =
    (r a n : ℕ) → r < 2 ^ 32 → a < 2 ^ 32 → n < 2 ^ 32
    → cursor_of new r a n ≡ (if (reader == r) && (app == a) then 0 else cursor_of old r a n)

-- a cursor is put to a place
abbrev pub Puts : Places → Places → ℕ → ℕ → ℕ → ℕ → Type 0
Puts old new reader app node place =
    (r a n : ℕ) → r < 2 ^ 32 → a < 2 ^ 32 → n < 2 ^ 32
    → cursor_of new r a n
    ≡ (if (reader == r) && ((app == a) && (node == n)) then place else cursor_of old r a n)
