-- What a cause does to a world whose readers are those of their own definitions.
use Rattle.std.specs.Prelude.{ℕ, List, [], ◌∷◌, ◌++◌, flat_map, Option, None, Some, slice_get, slice_set}
use Rattle.std.specs.List.{fold}
use Rattle.atspi_script_lines.specs.declared.deed.Deed.{Deed}
use Rattle.atspi_script_lines.specs.declared.line.Party.{Party}
use Rattle.atspi_script_lines.specs.declared.line.Party.TheVariants.{App, Reader}
use Rattle.atspi_message.specs.Envelope.{Envelope}
use Rattle.atspi_protocol.specs.declared.following.question.Question.{Question}
use Rattle.atspi_protocol.specs.following.ReaderState.{Done, sends, speaks, tells_end, ReaderState, begins}
use Rattle.atspi_protocol.specs.following.Takes.{starts, reader_takes, reader_calls}
use Rattle.atspi_trace.specs.Entry.{Entry, sent, got, spoke, showed, gone}
use Rattle.atspi_trace.specs.World.{Letter, End, World}
use Rattle.atspi_trace.specs.Ends.{party_at, end_at, end_of, number_of, app_named}
use Rattle.atspi_trace.specs.Hearing.{question_in}
use Rattle.atspi_trace.specs.Causes as causes
use Rattle.atspi_trace.specs.Causes.{Cause, renews, starts_reader, calls, shows, gets, does, at_end}
use Rattle.atspi_trace.specs.Due.{asks_at}
use Rattle.atspi_trace.specs.play.Playing.{Playing, Happened, silent, unique_in, view_in, view_rows}

-- What a reader did, as entries: of an application that it names by a unique name, where that is or was one's
abbrev pub of_app : Option ℕ → (ℕ → Entry) → List Entry
of_app None entry = []
of_app (Some app) entry = entry app ∷ []

abbrev pub told : ℕ → List End → Done → List Entry
told reader ends (sends e) = sent (Reader reader) e ∷ []
told reader ends (speaks name line) = of_app (app_named name ends) (λ app. spoke reader app line)
told reader ends (tells_end name) = of_app (app_named name ends) (λ app. gone reader app)

-- a call of its own that it sends waits on its up link
abbrev pub asked_with : ℕ → World → Envelope → Option Question → World
asked_with conn w e None = w
asked_with conn w e (Some question) = at_end w conn (asks_at e question)

abbrev pub asked : ℕ → World → Done → World
asked conn w (sends e) = asked_with conn w e (question_in e)
asked conn w other = w

-- the readers see nothing of it
abbrev pub only : Playing → causes.Done → Happened
only p d = record { now = record p { world = d.world }; entries = d.entries }

-- the reader with a number changes
abbrev pub with_reader : ℕ → (ReaderState → ReaderState) → List ReaderState → List ReaderState
with_reader number change readers = by (slice_get readers number)
  where
    by : Option ReaderState → List ReaderState
    by None = readers
    by (Some s) = slice_set readers number (change s)

-- A READER TAKES A MESSAGE: it does what its own definitions say
abbrev pub reader_did : Playing → ℕ → ℕ → Letter → ReaderState → Happened
reader_did p conn reader letter s = record {
  now =
      record {
        world = fold (asked conn) (does p.world (gets conn)).world s.out;
        readers = slice_set p.readers reader (silent s);
      };
  entries = got (Reader reader) letter.from letter.said.message.serial ∷ flat_map (told reader p.world.ends) s.out;
}

abbrev pub reader_got : Playing → ℕ → ℕ → Letter → Option ReaderState → Happened
reader_got p conn reader letter None = only p (does p.world (gets conn))
reader_got p conn reader letter (Some s) = reader_did p conn reader letter (reader_takes s letter.said.message)

abbrev pub got_at : Playing → ℕ → Party → List Letter → Happened
got_at p conn (Reader reader) (letter ∷ rest) = reader_got p conn reader letter (slice_get p.readers reader)
got_at p conn who down = only p (does p.world (gets conn))

abbrev pub got_by : Playing → ℕ → Option End → Happened
got_by p conn None = only p (does p.world (gets conn))
got_by p conn (Some e) = got_at p conn e.who e.down

-- a reader sends a call of its user
abbrev pub called : Playing → ℕ → List ℕ → ℕ → Deed → causes.Done → Happened
called p conn name node deed d = record {
  now =
      record {
        world = d.world;
        readers =
            with_reader (number_of (party_at p.world.ends conn)) (λ s. silent (reader_calls s name node deed))
            p.readers;
      };
  entries = d.entries;
}

-- WHAT A CAUSE DOES: a quota begins anew, a reader starts, sends its user's call, shows its own view, takes a message;
-- all else is as in any world
abbrev pub plays : Playing → Cause → Happened
plays p (renews quota) =
    record { now = record { world = (does p.world (renews quota)).world; readers = [] }; entries = [] }
plays p starts_reader = record {
  now = record { world = (does p.world starts_reader).world; readers = p.readers ++ silent (starts begins) ∷ [] };
  entries = (does p.world starts_reader).entries;
}
plays p (calls conn name node deed) = called p conn name node deed (does p.world (calls conn name node deed))
plays p (shows conn app) = by (party_at p.world.ends conn)
  where
    by : Party → Happened
    by (Reader reader) =
        record {
          now = p;
          entries = showed reader app (view_rows (view_in p reader (unique_in (end_of p.world.ends (App app)))))
              ∷ [];
        }
    by who = only p (does p.world (shows conn app))
plays p (gets conn) = got_by p conn (end_at p.world.ends conn)
plays p c = only p (does p.world c)
