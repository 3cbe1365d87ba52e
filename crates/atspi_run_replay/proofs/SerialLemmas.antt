-- The serials of a trace, read one after another.
use Rattle.std.proofs.Common.{◌≡◌, ◌<◌, ◌≤◌, ◌+◌, ℕ, get_or, take, List, [], ◌∷◌, ◌++◌, length, sym, ap, subst, ◌∙◌}
use Rattle.std.specs.List.{AllByRecursion}
use Rattle.std.proofs.lemmas.List.{take_all, take_more}
use Rattle.atspi_trace_events.specs.declared.event.Event.{Event}
use Rattle.atspi_trace_played.specs.Turns.{IsUnspent}
use Rattle.atspi_trace.specs.Entry.{Entry, entry_of, entries_of}
use Rattle.atspi_run_replay.proofs.Wiring.{all_entries}

one_more : (entries : List Entry) (entry : Entry) → AllByRecursion IsUnspent entries → IsUnspent entry → AllByRecursion IsUnspent (entries ++ entry ∷ [])
one_more [] entry all one = (one, tt)
one_more (e ∷ entries) entry all one = (all.0, one_more entries entry all.1 one)

pub none_read : (events : List Event) → AllByRecursion IsUnspent (entries_of (take 0 events))
none_read [] = tt
none_read (event ∷ events) = tt

pub one_read : (events : List Event) (i : ℕ) (event : Event) → i < length events → event ≡ get_or events i event → AllByRecursion IsUnspent (entries_of (take i events)) → IsUnspent (entry_of event)
    → AllByRecursion IsUnspent (entries_of (take (i + 1) events))
one_read events i event within is so fits =
    let more : take (i + 1) events ≡ take i events ++ event ∷ [] = take_more events i event within ∙ ap (λ e. take i events ++ e ∷ []) (sym is) in
    subst (AllByRecursion IsUnspent) (sym (ap entries_of more ∙ all_entries (take i events) (event ∷ []))) (one_more (entries_of (take i events)) (entry_of event) so fits)

pub all_read : (events : List Event) (i : ℕ) → length events ≤ i → AllByRecursion IsUnspent (entries_of (take i events)) → AllByRecursion IsUnspent (entries_of events)
all_read events i past so = subst (λ es. AllByRecursion IsUnspent (entries_of es)) (take_all i events past) so
