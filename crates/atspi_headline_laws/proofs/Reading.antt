-- What a run tells of trees, messages, names and pairs is what its entries tell, in the words of the laws of traces.
use Rattle.std.proofs.Common.{◌≡◌, ℕ, Bool, true, false, List, [], ◌∷◌, Option, None, Some, refl, ap, ap₂, ◌∙◌, subst, cond}
use Rattle.std.specs.Prelude.{◌==◌, ◌&&◌, filter_map, fold, if◌then◌else◌}
use Rattle.std.specs.List.{cons_option}
use Rattle.atspi_tree_model.specs.Forest.{Forest, nil}
use Rattle.atspi_tree_model.specs.Row.{TreeRow}
use Rattle.atspi_script_lines.specs.declared.line.Party.{Party}
use Rattle.atspi_script_lines.specs.declared.line.Party.TheVariants.{Bus as The_bus, Registry, App, Reader}
use Rattle.atspi_trace.specs.Entry.{Entry, started, changed, sent, got, heard, unheard, spoke, showed, exited, gone, dropped, busy, quiet}
use Rattle.atspi_trace.specs.Ends.{same_party}
use Rattle.atspi_headline.specs.Words as here
use Rattle.atspi_headline.specs.Words.{Act, begins_line, moves_bytes, takes_end, writes, entry_in, entries_in, is_same}
use Rattle.atspi_trace_laws.specs.laws.Words as told

-- what each entry changes, and other acts do not
pub fold_told : {A : Type 0} (f : A → Act → A) (g : A → Entry → A) → ((x : A) (e : Entry) → f x (writes e) ≡ g x e) → ((x : A) (act : Act) → here.is_entry act ≡ false → f x act ≡ x)
    → (x : A) (run : List Act) → fold f x run ≡ fold g x (entries_in run)
fold_told f g same other x [] = refl
fold_told f g same other x (writes e ∷ run) = ap (λ y. fold f y run) (same x e) ∙ fold_told f g same other (g x e) run
fold_told f g same other x (begins_line line ∷ run) = ap (λ y. fold f y run) (other x (begins_line line) refl) ∙ fold_told f g same other x run
fold_told f g same other x (moves_bytes who up count ∷ run) = ap (λ y. fold f y run) (other x (moves_bytes who up count) refl) ∙ fold_told f g same other x run
fold_told f g same other x (takes_end who ∷ run) = ap (λ y. fold f y run) (other x (takes_end who) refl) ∙ fold_told f g same other x run

pub chosen_told : {A : Type 0} (f : Act → Option A) (g : Entry → Option A) → ((e : Entry) → f (writes e) ≡ g e) → ((act : Act) → here.is_entry act ≡ false → f act ≡ None)
    → (run : List Act) → filter_map f run ≡ filter_map g (entries_in run)
chosen_told f g same other [] = refl
chosen_told f g same other (writes e ∷ run) = ap₂ cons_option (same e) (chosen_told f g same other run)
chosen_told f g same other (begins_line line ∷ run) = ap (λ o. cons_option o (filter_map f run)) (other (begins_line line) refl) ∙ chosen_told f g same other run
chosen_told f g same other (moves_bytes who up count ∷ run) = ap (λ o. cons_option o (filter_map f run)) (other (moves_bytes who up count) refl) ∙ chosen_told f g same other run
chosen_told f g same other (takes_end who ∷ run) = ap (λ o. cons_option o (filter_map f run)) (other (takes_end who) refl) ∙ chosen_told f g same other run

pub true_no : {P : Type 0} → true ≡ false → P
true_no h = absurd (subst (λ b. cond b (Unit {0}) ⊥) h tt)

pub same_who : (p q : Party) → is_same p q ≡ same_party p q
same_who The_bus The_bus = refl
same_who The_bus Registry = refl
same_who The_bus (App a) = refl
same_who The_bus (Reader r) = refl
same_who Registry The_bus = refl
same_who Registry Registry = refl
same_who Registry (App a) = refl
same_who Registry (Reader r) = refl
same_who (App a) The_bus = refl
same_who (App a) Registry = refl
same_who (App a) (App b) = refl
same_who (App a) (Reader r) = refl
same_who (Reader r) The_bus = refl
same_who (Reader r) Registry = refl
same_who (Reader r) (App a) = refl
same_who (Reader r) (Reader s) = refl

-- TREES
tree_of_entry : (app : ℕ) (f : Forest TreeRow) (e : Entry) → here.tree_after app f (writes e) ≡ told.tree_after app f e
tree_of_entry app f (started (App a) (Some name)) = refl
tree_of_entry app f (started (App a) None) = refl
tree_of_entry app f (started The_bus name) = refl
tree_of_entry app f (started Registry name) = refl
tree_of_entry app f (started (Reader r) name) = refl
tree_of_entry app f (changed a step) = refl
tree_of_entry app f (sent who e) = refl
tree_of_entry app f (got taker sender serial) = refl
tree_of_entry app f (heard a listener pattern) = refl
tree_of_entry app f (unheard a listener pattern) = refl
tree_of_entry app f (spoke reader a text) = refl
tree_of_entry app f (showed reader a rows) = refl
tree_of_entry app f (exited who) = refl
tree_of_entry app f (gone reader a) = refl
tree_of_entry app f (dropped who queued len) = refl
tree_of_entry app f (busy turns) = refl
tree_of_entry app f quiet = refl

tree_of_other : (app : ℕ) (f : Forest TreeRow) (act : Act) → here.is_entry act ≡ false → here.tree_after app f act ≡ f
tree_of_other app f (begins_line line) h = refl
tree_of_other app f (moves_bytes who up count) h = refl
tree_of_other app f (takes_end who) h = refl
tree_of_other app f (writes e) h = true_no h

pub tree_told : (run : List Act) (app : ℕ) → here.live_tree run app ≡ told.live_tree (entries_in run) app
tree_told run app = fold_told (here.tree_after app) (told.tree_after app) (tree_of_entry app) (tree_of_other app) nil run

count_of_entry : (app n : ℕ) (e : Entry) → here.count_after app n (writes e) ≡ told.count_after app n e
count_of_entry app n (changed a step) = refl
count_of_entry app n (started who name) = refl
count_of_entry app n (sent who e) = refl
count_of_entry app n (got taker sender serial) = refl
count_of_entry app n (heard a listener pattern) = refl
count_of_entry app n (unheard a listener pattern) = refl
count_of_entry app n (spoke reader a text) = refl
count_of_entry app n (showed reader a rows) = refl
count_of_entry app n (exited who) = refl
count_of_entry app n (gone reader a) = refl
count_of_entry app n (dropped who queued len) = refl
count_of_entry app n (busy turns) = refl
count_of_entry app n quiet = refl

count_of_other : (app n : ℕ) (act : Act) → here.is_entry act ≡ false → here.count_after app n act ≡ n
count_of_other app n (begins_line line) h = refl
count_of_other app n (moves_bytes who up count) h = refl
count_of_other app n (takes_end who) h = refl
count_of_other app n (writes e) h = true_no h

pub added_told : (run : List Act) (app : ℕ) → here.added run app ≡ told.added (entries_in run) app
added_told run app = fold_told (here.count_after app) (told.count_after app) (count_of_entry app) (count_of_other app) 0 run

-- MESSAGES
sent_of_entry : (who : Party) (e : Entry) → here.sent_by who (writes e) ≡ told.sent_by who e
sent_of_entry who (sent other e) = ap (λ b. if b then Some e else None) (same_who other who)
sent_of_entry who (started other name) = refl
sent_of_entry who (changed a step) = refl
sent_of_entry who (got taker sender serial) = refl
sent_of_entry who (heard a listener pattern) = refl
sent_of_entry who (unheard a listener pattern) = refl
sent_of_entry who (spoke reader a text) = refl
sent_of_entry who (showed reader a rows) = refl
sent_of_entry who (exited other) = refl
sent_of_entry who (gone reader a) = refl
sent_of_entry who (dropped other queued len) = refl
sent_of_entry who (busy turns) = refl
sent_of_entry who quiet = refl

sent_of_other : (who : Party) (act : Act) → here.is_entry act ≡ false → here.sent_by who act ≡ None
sent_of_other who (begins_line line) h = refl
sent_of_other who (moves_bytes other up count) h = refl
sent_of_other who (takes_end other) h = refl
sent_of_other who (writes e) h = true_no h

pub messages_told : (run : List Act) (who : Party) → here.messages run who ≡ told.messages (entries_in run) who
messages_told run who = chosen_told (here.sent_by who) (told.sent_by who) (sent_of_entry who) (sent_of_other who) run

sent_as_entry : (who : Party) (serial : ℕ) (e : Entry) → here.is_sent_as who serial (writes e) ≡ told.is_sent_as who serial e
sent_as_entry who serial (sent other e) = ap (λ b. b && e.serial == serial) (same_who other who)
sent_as_entry who serial (started other name) = refl
sent_as_entry who serial (changed a step) = refl
sent_as_entry who serial (got taker sender n) = refl
sent_as_entry who serial (heard a listener pattern) = refl
sent_as_entry who serial (unheard a listener pattern) = refl
sent_as_entry who serial (spoke reader a text) = refl
sent_as_entry who serial (showed reader a rows) = refl
sent_as_entry who serial (exited other) = refl
sent_as_entry who serial (gone reader a) = refl
sent_as_entry who serial (dropped other queued len) = refl
sent_as_entry who serial (busy turns) = refl
sent_as_entry who serial quiet = refl

pub before_told : (who : Party) (serial : ℕ) (run : List Act) → entries_in (here.before_sent who serial run) ≡ told.before_sent who serial (entries_in run)
before_told who serial [] = refl
before_told who serial (begins_line line ∷ run) = before_told who serial run
before_told who serial (moves_bytes other up count ∷ run) = before_told who serial run
before_told who serial (takes_end other ∷ run) = before_told who serial run
before_told who serial (writes e ∷ run) =
    ap (λ b. entries_in (if b then [] else writes e ∷ here.before_sent who serial run)) (sent_as_entry who serial e) ∙ by (told.is_sent_as who serial e) (before_told who serial run)
  where
    by : (b : Bool) → entries_in (here.before_sent who serial run) ≡ told.before_sent who serial (entries_in run)
        → entries_in (if b then [] else writes e ∷ here.before_sent who serial run) ≡ (if b then [] else e ∷ told.before_sent who serial (entries_in run))
    by true ih = refl
    by false ih = ap (λ l. e ∷ l) ih

pub as_of_told : (run : List Act) (app serial : ℕ) → here.as_of run app serial ≡ told.as_of (entries_in run) app serial
as_of_told run app serial = tree_told (here.before_sent (App app) serial run) app ∙ ap (λ l. told.live_tree l app) (before_told (App app) serial run)

-- PAIRS
pairs_of_entry : (app : ℕ) (pairs : List (List ℕ × List ℕ)) (e : Entry) → here.pairs_after app pairs (writes e) ≡ told.pairs_after app pairs e
pairs_of_entry app pairs (heard a listener pattern) = refl
pairs_of_entry app pairs (unheard a listener pattern) = refl
pairs_of_entry app pairs (sent other e) = refl
pairs_of_entry app pairs (started other name) = refl
pairs_of_entry app pairs (changed a step) = refl
pairs_of_entry app pairs (got taker sender n) = refl
pairs_of_entry app pairs (spoke reader a text) = refl
pairs_of_entry app pairs (showed reader a rows) = refl
pairs_of_entry app pairs (exited other) = refl
pairs_of_entry app pairs (gone reader a) = refl
pairs_of_entry app pairs (dropped other queued len) = refl
pairs_of_entry app pairs (busy turns) = refl
pairs_of_entry app pairs quiet = refl

pairs_of_other : (app : ℕ) (pairs : List (List ℕ × List ℕ)) (act : Act) → here.is_entry act ≡ false → here.pairs_after app pairs act ≡ pairs
pairs_of_other app pairs (begins_line line) h = refl
pairs_of_other app pairs (moves_bytes other up count) h = refl
pairs_of_other app pairs (takes_end other) h = refl
pairs_of_other app pairs (writes e) h = true_no h

pub pairs_told : (run : List Act) (app : ℕ) → here.heard_pairs run app ≡ told.heard_pairs (entries_in run) app
pairs_told run app = fold_told (here.pairs_after app) (told.pairs_after app) (pairs_of_entry app) (pairs_of_other app) [] run
