-- One cause that was done is what is left of its line, and what readers do by their own definitions, as far as a line asks for it.
use Rattle.std.proofs.Common.{◌≡◌, ℕ, List, [], ◌∷◌, ◌++◌, Some, refl, sym, ap, ◌∙◌, append-nil}
use Rattle.std.specs.Prelude.{slice_get, slice_set}
use Rattle.atspi_script_lines.specs.declared.line.Party.TheVariants.{App, Reader}
use Rattle.atspi_protocol.specs.following.ReaderState.{ReaderState}
use Rattle.atspi_trace.specs.Entry.{entries_of, showed}
use Rattle.atspi_trace.specs.Ends.{party_at, end_of}
use Rattle.atspi_trace.specs.Causes.{Cause, shows}
use Rattle.atspi_trace.specs.Work.{doing, resting}
use Rattle.atspi_trace.specs.play.Playing.{Playing, view_rows, view_in, unique_in}
use Rattle.atspi_trace.specs.play.Plays.{plays, with_reader}
use Rattle.atspi_trace.specs.play.Played.{at_rest, caused}
use Rattle.atspi_world.specs.Lines.{IsSegment}
use Rattle.atspi_world.specs.Worlds.{Staged, IsPlaying, Happens}

-- what is left of a line that is one cause
pub caused_once : (p : Playing) (c : Cause) (old new : Staged) → Happens (plays p c) old new → IsSegment p (doing c) old new
caused_once p c old new done =
    let d = plays p c in
    record {
      after = d.now;
      entries = d.entries ++ [];
      plays = caused p d.now p.world (doing c) resting c [] refl (at_rest d.now d.now.world resting refl);
      is = done.is;
      wrote = done.wrote ∙ ap (λ l. entries_of old.trace ++ l) (sym (append-nil d.entries));
    }

-- of a line that does nothing
pub rested : (p : Playing) (s : Staged) → IsPlaying p s → IsSegment p resting s s
rested p s is = record { after = p; entries = []; plays = at_rest p p.world resting refl; is = is; wrote = sym (append-nil (entries_of s.trace)) }

-- the reader with a number is there
pub with_reader_is : (number : ℕ) (change : ReaderState → ReaderState) (readers : List ReaderState) (s : ReaderState) → slice_get readers number ≡ Some s → with_reader number change readers ≡ slice_set readers number (change s)
with_reader_is number change readers s h = rw h

-- what a reader shows
pub shows_is : (p : Playing) (conn app reader : ℕ) → party_at p.world.ends conn ≡ Reader reader
    → plays p (shows conn app) ≡ record { now = p; entries = showed reader app (view_rows (view_in p reader (unique_in (end_of p.world.ends (App app))))) ∷ [] }
shows_is p conn app reader h = rw h
