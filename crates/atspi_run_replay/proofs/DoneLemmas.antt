-- What a line adds to what is told, and the text of it.
use Rattle.std.proofs.Common.{◌≡◌, ℕ, suc, List, [], ◌∷◌, ◌++◌, drop, length, refl, sym, ap, subst, ◌∙◌, append-nil, Option, None, Some}
use Rattle.std.proofs.lemmas.Grind.{flat_map-append}
use Rattle.std.specs.Io.KnownBytes.{Appends}
use Rattle.std.specs.List.{AllByRecursion}
use Rattle.atspi_trace_events.specs.declared.event.Event.{Event}
use Rattle.atspi_trace_texts.specs.declared.options.TraceOptions.{TraceOptions}
use Rattle.atspi_script_lines.specs.declared.line.Line.{Line}
use Rattle.atspi_script_lines.specs.Line.{Spells}
use Rattle.atspi_world_links.specs.declared.post.Post.{Post}
use Rattle.atspi_trace.specs.Entry.{Entry, entry_of, entries_of}
use Rattle.atspi_trace_played.specs.Turns.{IsUnspent}
use Rattle.atspi_world.specs.Worlds.{Staged}
use Rattle.atspi_run_replay.specs.Told.{Told, entries_told, entry_text, told_text}
use Rattle.atspi_run_replay.specs.inner.Told.{told_on}
use Rattle.atspi_run_replay.specs.Done.{AreSpelled}
use Rattle.atspi_run_replay.specs.inner.Play.{added}

pub text_more : (options : TraceOptions) (xs ys : List Told) → told_text options (xs ++ ys) ≡ told_text options xs ++ told_text options ys
text_more options xs ys = flat_map-append (entry_text options) xs ys

-- nothing was written yet
pub appends_nothing : (o : Option (List ℕ)) → Appends o o []
appends_nothing None = tt
appends_nothing (Some written) = sym (append-nil written)

-- one more line
pub spelled_more : (texts : List (List ℕ)) (lines : List Line) (bytes : List ℕ) (line : Line) → AreSpelled texts lines → Spells line bytes → AreSpelled (texts ++ bytes ∷ []) (lines ++ line ∷ [])
spelled_more [] [] bytes line a s = (s, tt)
spelled_more [] (other ∷ lines) bytes line a s = absurd a
spelled_more (text ∷ texts) [] bytes line a s = absurd a
spelled_more (text ∷ texts) (other ∷ lines) bytes line a s = (a.0, spelled_more texts lines bytes line a.1 s)

-- THE ENTRIES OF WHAT WAS TOLD
pub entries_both : (told more : List Told) → entries_told (told ++ more) ≡ entries_told told ++ entries_told more
entries_both [] more = refl
entries_both (t ∷ told) more = ap (λ es. entry_of t.event ∷ es) (entries_both told more)

entries_on : (posts : List Post) (trace : List Event) (place : ℕ) (events : List Event) → entries_told (told_on posts trace place events) ≡ entries_of events
entries_on posts trace place [] = refl
entries_on posts trace place (event ∷ events) = ap (λ es. entry_of event ∷ es) (entries_on posts trace (suc place) events)

behind : (before events : List Event) (entries : List Entry) → entries_of events ≡ entries_of before ++ entries → entries_of (drop (length before) events) ≡ entries
behind [] events entries h = h
behind (event ∷ before) [] entries h = absurd cc
behind (event ∷ before) (other ∷ events) entries h = behind before events entries (rest (entry_of other) (entry_of event) (entries_of events) (entries_of before ++ entries) h)
  where
    tail : List Entry → List Entry
    tail [] = []
    tail (e ∷ es) = es

    rest : (x y : Entry) (xs ys : List Entry) → x ∷ xs ≡ y ∷ ys → xs ≡ ys
    rest x y xs ys h = ap tail h

-- what a line added is what its causes wrote
pub added_are : (old new : Staged) (entries : List Entry) → entries_of new.trace ≡ entries_of old.trace ++ entries → entries_told (added old new) ≡ entries
added_are old new entries h = entries_on new.posts new.trace (length old.trace) (drop (length old.trace) new.trace) ∙ behind old.trace new.trace entries h

-- no serial of what was told is past the last, where none of its parts is
pub unspent_both : (es ys : List Entry) → AllByRecursion IsUnspent es → AllByRecursion IsUnspent ys → AllByRecursion IsUnspent (es ++ ys)
unspent_both [] ys a b = b
unspent_both (e ∷ es) ys a b = (a.0, unspent_both es ys a.1 b)

-- what a line added is what stands behind the old trace
pub added_unspent : (told : List Told) (old new : Staged) → AllByRecursion IsUnspent (entries_told told) → AllByRecursion IsUnspent (entries_of (drop (length old.trace) new.trace))
    → AllByRecursion IsUnspent (entries_told (told ++ added old new))
added_unspent told old new before fits =
    subst (AllByRecursion IsUnspent)
    (sym (entries_both told (added old new) ∙ ap (λ es. entries_told told ++ es) (entries_on new.posts new.trace (length old.trace) (drop (length old.trace) new.trace))))
    (unspent_both (entries_told told) (entries_of (drop (length old.trace) new.trace)) before fits)

-- and of a line that ended the world all serials were read
pub all_unspent : (told : List Told) (old new : Staged) (entries : List Entry) → entries_told told ≡ entries_of old.trace → entries_of new.trace ≡ entries_of old.trace ++ entries → AllByRecursion IsUnspent (entries_of new.trace)
    → AllByRecursion IsUnspent (entries_told (told ++ added old new))
all_unspent told old new entries so wrote fits =
    subst (AllByRecursion IsUnspent)
    (wrote ∙ ap (λ es. es ++ entries) (sym so) ∙ ap (λ es. entries_told told ++ es) (sym (added_are old new entries wrote)) ∙ sym (entries_both told (added old new))) fits
