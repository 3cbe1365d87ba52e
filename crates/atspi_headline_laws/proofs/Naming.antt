-- Whom the bus greeted, and as what, by the words of the headline and by those of the laws of traces.
use Rattle.std.proofs.Common.{◌≡◌, ℕ, suc, false, List, ◌∷◌, Option, None, Some, refl, sym, ap, ◌∙◌}
use Rattle.std.proofs.Math.Path.{fun_ext}
use Rattle.std.specs.Prelude.{filter_map, position, option_map, if◌then◌else◌}
use Rattle.atspi_script_lines.specs.declared.line.Party.{Party}
use Rattle.atspi_script_lines.specs.declared.line.Party.TheVariants.{Bus as The_bus, Registry, App, Reader}
use Rattle.atspi_names.specs.Owners.{unique_name}
use Rattle.atspi_protocol.specs.exporting.Starting.{name_or_empty}
use Rattle.atspi_protocol.specs.news.NewsOf.{or_empty}
use Rattle.atspi_trace.specs.Entry.{Entry, started, changed, sent, got, heard, unheard, spoke, showed, exited, gone, dropped, busy, quiet}
use Rattle.atspi_trace.specs.Ends.{same_party}
use Rattle.atspi_headline.specs.Words as here
use Rattle.atspi_headline.specs.Words.{Act, begins_line, moves_bytes, takes_end, writes, entries_in, is_same}
use Rattle.atspi_trace_laws.specs.laws.Words as told
use Rattle.atspi_trace_laws.proofs.OfNames.Places.{first_at, position_is}
use Rattle.atspi_headline_laws.proofs.Reading.{chosen_told, same_who, true_no}

hello_of_entry : (e : Entry) → here.greeting_in (writes e) ≡ told.hello_of e
hello_of_entry (got The_bus who serial) = refl
hello_of_entry (got Registry who serial) = refl
hello_of_entry (got (App a) who serial) = refl
hello_of_entry (got (Reader r) who serial) = refl
hello_of_entry (started who name) = refl
hello_of_entry (changed a step) = refl
hello_of_entry (sent who e) = refl
hello_of_entry (heard a listener pattern) = refl
hello_of_entry (unheard a listener pattern) = refl
hello_of_entry (spoke reader a text) = refl
hello_of_entry (showed reader a rows) = refl
hello_of_entry (exited who) = refl
hello_of_entry (gone reader a) = refl
hello_of_entry (dropped who queued len) = refl
hello_of_entry (busy turns) = refl
hello_of_entry quiet = refl

hello_of_other : (act : Act) → here.is_entry act ≡ false → here.greeting_in act ≡ None
hello_of_other (begins_line line) h = refl
hello_of_other (moves_bytes who up count) h = refl
hello_of_other (takes_end who) h = refl
hello_of_other (writes e) h = true_no h

suc_inside : (o : Option ℕ) → option_map unique_name (option_map suc o) ≡ option_map (λ n. unique_name (suc n)) o
suc_inside None = refl
suc_inside (Some n) = refl

pub name_same : (run : List Act) (who : Party) → is_same who Registry ≡ false → here.name_of run who ≡ told.name_in (entries_in run) who
name_same run who other =
    let greeted : List Party = filter_map told.hello_of (entries_in run) in
    ap (λ l. option_map unique_name (position (is_same who) (Registry ∷ l))) (chosen_told here.greeting_in told.hello_of hello_of_entry hello_of_other run)
    ∙ ap (option_map unique_name) (position_is (is_same who) (Registry ∷ greeted) ∙ ap (λ b. if b then Some 0 else option_map suc (first_at (is_same who) greeted)) other)
    ∙ suc_inside (first_at (is_same who) greeted)
    ∙ ap (λ p. option_map (λ n. unique_name (suc n)) (first_at p greeted)) (fun_ext (λ p. same_who who p))
    ∙ sym (ap (option_map (λ n. unique_name (suc n))) (position_is (same_party who) greeted))

pub empty_same : (o : Option (List ℕ)) → or_empty o ≡ name_or_empty o
empty_same None = refl
empty_same (Some name) = refl

pub app_name : (run : List Act) (app : ℕ) → or_empty (here.name_of run (App app)) ≡ name_or_empty (told.name_in (entries_in run) (App app))
app_name run app = empty_same (here.name_of run (App app)) ∙ ap name_or_empty (name_same run (App app) refl)
