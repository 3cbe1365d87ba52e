-- The counts of what a stage tells.
use Rattle.std.proofs.Common.{◌≡◌, ◌<◌, ◌≤◌, ◌+◌, ℕ, suc, get_or, take, Bool, true, false, cond, length, List, [], ◌∷◌, refl, sym, ap, ◌∙◌}
use Rattle.std.specs.Prelude.{count_by, filter}
use Rattle.std.proofs.lemmas.List.Sums.{count_by_more_no, count_by_more_yes, length-filter}
use Rattle.std.proofs.lemmas.List.{take_all}
use Rattle.atspi_trace_events.specs.declared.event.Event.{Event}
use Rattle.atspi_trace.specs.Entry.{Entry, entry_of, entries_of}

-- one more event is counted, or is not
pub counted_one : (p : Event → Bool) (events : List Event) (i count next : ℕ) (event : Event) → i < length events → event ≡ get_or events i event → count ≡ count_by p (take i events) → p event ≡ true
    → next ≡ count + 1 → next ≡ count_by p (take (i + 1) events)
counted_one p events i count next event within is so passes more =
    more ∙ ap (λ n. n + 1) so ∙ sym (count_by_more_yes p events i event within (ap p (sym is) ∙ passes))

pub counted_none : (p : Event → Bool) (events : List Event) (i count next : ℕ) (event : Event) → i < length events → event ≡ get_or events i event → count ≡ count_by p (take i events) → p event ≡ false
    → next ≡ count → next ≡ count_by p (take (i + 1) events)
counted_none p events i count next event within is so fails same = same ∙ so ∙ sym (count_by_more_no p events i event within (ap p (sym is) ∙ fails))

pub counted_all : (p : Event → Bool) (events : List Event) (i count : ℕ) → length events ≤ i → count ≡ count_by p (take i events) → count ≡ count_by p events
counted_all p events i count past so = so ∙ ap (count_by p) (take_all i events past)

-- what is counted among events is counted among entries
as_many : (b : Bool) (event : Event) (entry : Entry) (events : List Event) (entries : List Entry) → length events ≡ length entries → length (cond b (event ∷ events) events) ≡ length (cond b (entry ∷ entries) entries)
as_many true event entry events entries same = ap suc same
as_many false event entry events entries same = same

chosen_both : (of_entry : Entry → Bool) (events : List Event) → length (filter (λ event. of_entry (entry_of event)) events) ≡ length (filter of_entry (entries_of events))
chosen_both of_entry [] = refl
chosen_both of_entry (event ∷ events) =
    as_many (of_entry (entry_of event)) event (entry_of event) (filter (λ e. of_entry (entry_of e)) events) (filter of_entry (entries_of events)) (chosen_both of_entry events)

pub counts_both : (of_entry : Entry → Bool) (events : List Event) → count_by (λ event. of_entry (entry_of event)) events ≡ count_by of_entry (entries_of events)
counts_both of_entry events = sym (length-filter (λ event. of_entry (entry_of event)) events) ∙ chosen_both of_entry events ∙ length-filter of_entry (entries_of events)
