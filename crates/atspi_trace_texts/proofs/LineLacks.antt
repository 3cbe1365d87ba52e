-- No line of an event has a line feed, and only those behind the first begin with `|` or `=`.
use Rattle.std.proofs.Common.{◌≡◌, ◌≢◌, ℕ, zero, suc, ◌/◌, ◌%◌, Bool, true, false, List, [], ◌∷◌, ◌++◌, length, map, get_or, Option, None, Some, refl, sym, ◌∙◌, arith, inl, inr, ◌⊎◌}
use Rattle.std.specs.Prelude.{codes, slice_get, slice_index, unwrap_or, encode_utf8_all}
use Rattle.std.specs.Fmt.{decimal}
use Rattle.std.specs.List.{list_all, AllByRecursion}
use Rattle.hex.specs.Hex.{encode_with, lower_digits}
use Rattle.atspi_tables.specs.Roles.{role_names, role_words}
use Rattle.atspi_tables.specs.States.{state_names}
use Rattle.atspi_message.specs.Envelope.{envelope_of}
use Rattle.atspi_tree_model.specs.declared.step.Seed.{Seed}
use Rattle.atspi_tree_model.specs.declared.step.Step.{Step}
use Rattle.atspi_tree_model.specs.declared.step.Step.TheVariants.{Add, Remove, Move, SetName, SetDescription, SetRole, SetState, Insert, Delete, Caret, TextSelect, Relate}
use Rattle.atspi_tree_model.specs.declared.view.Part.{Part}
use Rattle.atspi_tree_model.specs.declared.view.Part.TheVariants.{Absent, Unknown, Known}
use Rattle.atspi_script_lines.specs.declared.line.Party.{Party}
use Rattle.atspi_script_lines.specs.Words.{Word, literal, number, place, quota, app_name, reader_name, party_name, role_name, state_name, quote}
use Rattle.atspi_script_lines.specs.Forms.{action_clauses, clauses, columns_clause, select_clause, switch_word, text_clause}
use Rattle.atspi_script_lines.proofs.SpaceLemmas.{all_true}
use Rattle.atspi_trace_events.specs.declared.event.Event.{Event}
use Rattle.atspi_trace_events.specs.declared.event.Event.TheVariants.{Start, Step as Stepped, Sent, Got, Hears, Deaf, Say, Show, Exit, Gone, Dropped, Busy, Quiet}
use Rattle.atspi_trace_events.specs.declared.shown.ShownRow.{ShownRow}
use Rattle.atspi_trace_texts.specs.Written.{party_text, role_text, state_text, word_behind, word_text, words_behind, words_text}
use Rattle.atspi_trace_texts.specs.EventForms.{count_text, event_form, mark_words, name_words, step_form, target_words}
use Rattle.atspi_trace_texts.specs.EventText.{event_line, message_part}
use Rattle.atspi_trace_texts.specs.Rows.{part_word, row_form, row_line}
use Rattle.atspi_trace_texts.specs.TraceText.{wire_line}
use Rattle.atspi_trace_texts.specs.InTrace.{IsEvent, IsShownRow}
use Rattle.atspi_trace_texts.proofs.Lacks.{Lacks, decimal_lacks, hex_lacks, lacks_append, lacks_feed, quotes_lack, signed_lacks, tested_no_feed}
use Rattle.atspi_trace_texts.proofs.NameLacks.{bus_name_lacks, strange_feed}
use Rattle.atspi_trace_texts.proofs.TextLacks.{message_lacks}
use Rattle.atspi_trace_texts.proofs.EventOnce.{party_lacks}
use Rattle.atspi_trace_texts.proofs.RowOnce.{kinds_lack, node_lacks, parent_lacks, part_number_lacks}

-- the tables
roles_lack : list_all lacks_feed role_words ≡ true
unfolding role_words role_names
roles_lack = refl

states_lack : list_all lacks_feed state_names ≡ true
unfolding state_names
states_lack = refl

role_lacks : (role : ℕ) → Lacks 10 (role_text role)
role_lacks role = by (slice_get role_words role) refl
  where
    by : (o : Option (List ℕ)) → slice_get role_words role ≡ o → Lacks 10 (unwrap_or o (decimal role))
    by (Some w) e = tested_no_feed w (all_true lacks_feed role_words role w roles_lack e)
    by None e = decimal_lacks 10 role (omega arith)

state_lacks : (state : ℕ) → Lacks 10 (state_text state)
state_lacks state = by (slice_get state_names state) refl
  where
    by : (o : Option (List ℕ)) → slice_get state_names state ≡ o → Lacks 10 (unwrap_or o (decimal state))
    by (Some w) e = tested_no_feed w (all_true lacks_feed state_names state w states_lack e)
    by None e = decimal_lacks 10 state (omega arith)

-- a word that has no line feed: all but some that stand for themselves
abbrev pub LacksFeed : Word → Type 0
LacksFeed (literal word) = Lacks 10 word
LacksFeed _ = Unit {0}

word_lacks : (w : Word) → LacksFeed w → Lacks 10 (word_text w)
word_lacks (literal word) h = h
word_lacks (number n) h = decimal_lacks 10 n (omega arith)
word_lacks (place n) h = decimal_lacks 10 n (omega arith)
word_lacks (quota n) h = decimal_lacks 10 n (omega arith)
word_lacks (app_name a) h = (λ e. omega (arith, e), decimal_lacks 10 a (omega arith))
word_lacks (reader_name r) h = (λ e. omega (arith, e), decimal_lacks 10 r (omega arith))
word_lacks (party_name who) h = party_lacks 10 who (omega arith)
word_lacks (role_name role) h = role_lacks role
word_lacks (state_name state) h = state_lacks state
word_lacks (quote text) h = quotes_lack (encode_utf8_all text)

words_lack : (ws : List Word) → AllByRecursion LacksFeed ws → Lacks 10 (words_behind ws)
words_lack [] h = tt
words_lack (w ∷ ws) h = lacks_append 10 (word_behind w) (words_behind ws) (λ e. omega (arith, e), word_lacks w h.0) (words_lack ws h.1)

pub line_lacks : (ws : List Word) → AllByRecursion LacksFeed ws → Lacks 10 (words_text ws)
line_lacks [] h = tt
line_lacks (w ∷ ws) h = lacks_append 10 (word_text w) (words_behind ws) (word_lacks w h.0) (words_lack ws h.1)

both : (a b : List Word) → AllByRecursion LacksFeed a → AllByRecursion LacksFeed b → AllByRecursion LacksFeed (a ++ b)
both [] b p q = q
both (w ∷ a) b p q = (p.0, both a b p.1 q)

-- the words of a new node's contents
text_words : (text : Option (List ℕ)) (editable : Bool) → AllByRecursion LacksFeed (text_clause text editable)
text_words None editable = tt
text_words (Some x) true = (tested_no_feed (codes "text") refl, (tt, tt))
text_words (Some x) false = (tested_no_feed (codes "static") refl, (tt, tt))

columns_words : (columns : Option ℕ) → AllByRecursion LacksFeed (columns_clause columns)
columns_words None = tt
columns_words (Some k) = (tested_no_feed (codes "columns") refl, (tt, tt))

select_words : (select : Bool) → AllByRecursion LacksFeed (select_clause select)
select_words true = (tested_no_feed (codes "select") refl, tt)
select_words false = tt

action_words : (names : List (List ℕ)) → AllByRecursion LacksFeed (action_clauses names)
action_words [] = tt
action_words (name ∷ names) = (tested_no_feed (codes "action") refl, (tt, action_words names))

seed_words : (seed : Seed) → AllByRecursion LacksFeed (clauses seed)
seed_words seed = both _ _ (text_words seed.text seed.editable) (both _ _ (columns_words seed.columns) (both _ _ (select_words seed.select) (action_words seed.actions)))

switch_words : (on : Bool) → Lacks 10 (switch_word on)
switch_words true = tested_no_feed (codes "on") refl
switch_words false = tested_no_feed (codes "off") refl

marks_words : (marks : List (ℕ × ℕ)) → AllByRecursion LacksFeed (mark_words marks)
marks_words [] = tt
marks_words (mark ∷ marks) = (tt, (tt, marks_words marks))

targets_words : (targets : List ℕ) → AllByRecursion LacksFeed (target_words targets)
targets_words [] = tt
targets_words (target ∷ targets) = (tt, targets_words targets)

step_words : (s : Step) → AllByRecursion LacksFeed (step_form s)
step_words (Add n p i seed) = (tested_no_feed (codes "add") refl, (tt, (tt, (tt, (tt, (tt, seed_words seed))))))
step_words (Remove n) = (tested_no_feed (codes "remove") refl, (tt, tt))
step_words (Move n p i) = (tested_no_feed (codes "move") refl, (tt, (tt, (tt, tt))))
step_words (SetName n x) = (tested_no_feed (codes "name") refl, (tt, (tt, tt)))
step_words (SetDescription n x) = (tested_no_feed (codes "description") refl, (tt, (tt, tt)))
step_words (SetRole n r) = (tested_no_feed (codes "role") refl, (tt, (tt, tt)))
step_words (SetState n t on) = (tested_no_feed (codes "state") refl, (tt, (tt, (switch_words on, tt))))
step_words (Insert n at x) = (tested_no_feed (codes "insert") refl, (tt, (tt, (tt, tt))))
step_words (Delete n at x) = (tested_no_feed (codes "delete") refl, (tt, (tt, (tt, tt))))
step_words (Caret n at) = (tested_no_feed (codes "caret") refl, (tt, (tt, tt)))
step_words (TextSelect n marks) = (tested_no_feed (codes "marks") refl, (tt, marks_words marks))
step_words (Relate n kind targets) = (tested_no_feed (codes "relate") refl, (tt, (tt, targets_words targets)))

named_words : (name : Option (List ℕ)) → AllByRecursion LacksFeed (name_words name)
named_words None = tt
named_words (Some x) = (tt, tt)

counted : (rows : Option (List ShownRow)) → Lacks 10 (count_text rows)
counted None = tested_no_feed (codes "none") refl
counted (Some rows) = decimal_lacks 10 (length rows) (omega arith)

party : (who : Party) → Lacks 10 (party_text who)
party who = party_lacks 10 who (omega arith)

event_words : (e : Event) → IsEvent e → AllByRecursion LacksFeed (event_form e)
event_words (Start who name) k = (tested_no_feed (codes "start") refl, (party who, named_words name))
event_words (Stepped app step) k = (tested_no_feed (codes "step") refl, (tt, step_words step))
event_words (Sent who m) k = (tested_no_feed (codes "sent") refl, (party who, tt))
event_words (Got x y s) k = (tested_no_feed (codes "got") refl, (party x, (party y, (tt, tt))))
event_words (Hears a l p) k = (tested_no_feed (codes "hears") refl, (tt, (bus_name_lacks 10 l strange_feed k.parts, (tt, tt))))
event_words (Deaf a l p) k = (tested_no_feed (codes "deaf") refl, (tt, (bus_name_lacks 10 l strange_feed k.parts, (tt, tt))))
event_words (Say r a x) k = (tested_no_feed (codes "say") refl, (tt, (tt, (tt, tt))))
event_words (Show r a rows) k = (tested_no_feed (codes "show") refl, (tt, (tt, (counted rows, tt))))
event_words (Exit who) k = (tested_no_feed (codes "exit") refl, (party who, tt))
event_words (Gone r a) k = (tested_no_feed (codes "gone") refl, (tt, (tt, tt)))
event_words (Dropped who q l) k = (tested_no_feed (codes "dropped") refl, (party who, (tt, (tt, tt))))
event_words (Busy n) k = (tested_no_feed (codes "busy") refl, (tt, tt))
event_words Quiet k = (tested_no_feed (codes "quiet") refl, tt)

part_lacks : (e : Event) → IsEvent e → Lacks 10 (message_part e)
part_lacks (Sent who m) k = (λ h. omega (arith, h), message_lacks (envelope_of m) k.parts.1.named)
part_lacks (Start who name) k = tt
part_lacks (Stepped app step) k = tt
part_lacks (Got x y s) k = tt
part_lacks (Hears a l p) k = tt
part_lacks (Deaf a l p) k = tt
part_lacks (Say r a x) k = tt
part_lacks (Show r a rows) k = tt
part_lacks (Exit who) k = tt
part_lacks (Gone r a) k = tt
part_lacks (Dropped who q l) k = tt
part_lacks (Busy n) k = tt
part_lacks Quiet k = tt

pub event_lacks : (e : Event) → IsEvent e → Lacks 10 (event_line e)
event_lacks e k = lacks_append 10 (words_text (event_form e)) (message_part e) (line_lacks (event_form e) (event_words e k)) (part_lacks e k)

-- rows
part_words : (p : Part) → LacksFeed (part_word p)
part_words Absent = tested_no_feed (codes "-") refl
part_words Unknown = tested_no_feed (codes "?") refl
part_words (Known x) = tt

row_lacks : (shown : ShownRow) → IsShownRow shown → Lacks 10 (row_line shown)
row_lacks shown k =
    line_lacks (row_form shown) (
      tested_no_feed (codes "|") refl,
      (
        node_lacks 10 shown.row.path (omega arith) strange_feed k.path,
        (
          parent_lacks 10 shown.parent (omega arith) strange_feed k.parent,
          (
            signed_lacks 10 shown.index (omega arith),
            (
              tt,
              (
                hex_lacks 10 16 shown.row.states (omega arith),
                (
                  tt,
                  (
                    tt,
                    (
                      kinds_lack 10 shown.row.faces (omega arith),
                      (part_words shown.row.text, (part_number_lacks 10 shown.row.caret (omega arith), (part_number_lacks 10 shown.row.columns (omega arith), tt))),
                    ),
                  ),
                ),
              ),
            ),
          ),
        ),
      ),
    )

pub rows_lack : (rows : List ShownRow) → AllByRecursion IsShownRow rows → AllByRecursion (Lacks 10) (map row_line rows)
rows_lack [] h = tt
rows_lack (row ∷ rows) h = (row_lacks row h.0, rows_lack rows h.1)

-- bytes in hex
at_lacks : (t : List ℕ) (i : ℕ) → Lacks 10 t → slice_index t i ≢ 10
at_lacks [] i h e = absurd (omega (arith, e))
at_lacks (b ∷ t) zero h e = h.0 e
at_lacks (b ∷ t) (suc i) h e = at_lacks t i h.1 e

digits_lack : Lacks 10 lower_digits
digits_lack = tested_no_feed lower_digits refl

encode_lacks : (bytes : List ℕ) → Lacks 10 (encode_with lower_digits bytes)
unfolding encode_with
encode_lacks [] = tt
encode_lacks (b ∷ bytes) = (at_lacks lower_digits (b / 16) digits_lack, (at_lacks lower_digits (b % 16) digits_lack, encode_lacks bytes))

pub wire_lacks : (bytes : List ℕ) → Lacks 10 (wire_line bytes)
wire_lacks bytes = (λ e. omega (arith, e), (λ e. omega (arith, e), encode_lacks bytes))

-- which lines begin with `|` or `=`
abbrev pub IsTail : List ℕ → Type 0
IsTail [] = ⊥
IsTail (b ∷ line) = (b ≡ 124) ⊎ (b ≡ 61)

no_tail : (line : List ℕ) (b : ℕ) → get_or line 0 0 ≡ b → (b ≡ 124 → ⊥) → (b ≡ 61 → ⊥) → IsTail line → ⊥
no_tail [] b e p q h = h
no_tail (c ∷ line) b e p q (inl h) = p (sym e ∙ h)
no_tail (c ∷ line) b e p q (inr h) = q (sym e ∙ h)

pub head_begins : (e : Event) → IsTail (event_line e) → ⊥
head_begins (Start who name) h = no_tail (event_line (Start who name)) 115 refl (λ e. omega (arith, e)) (λ e. omega (arith, e)) h
head_begins (Stepped app step) h = no_tail (event_line (Stepped app step)) 115 refl (λ e. omega (arith, e)) (λ e. omega (arith, e)) h
head_begins (Sent who m) h = no_tail (event_line (Sent who m)) 115 refl (λ e. omega (arith, e)) (λ e. omega (arith, e)) h
head_begins (Got x y s) h = no_tail (event_line (Got x y s)) 103 refl (λ e. omega (arith, e)) (λ e. omega (arith, e)) h
head_begins (Hears a l p) h = no_tail (event_line (Hears a l p)) 104 refl (λ e. omega (arith, e)) (λ e. omega (arith, e)) h
head_begins (Deaf a l p) h = no_tail (event_line (Deaf a l p)) 100 refl (λ e. omega (arith, e)) (λ e. omega (arith, e)) h
head_begins (Say r a x) h = no_tail (event_line (Say r a x)) 115 refl (λ e. omega (arith, e)) (λ e. omega (arith, e)) h
head_begins (Show r a rows) h = no_tail (event_line (Show r a rows)) 115 refl (λ e. omega (arith, e)) (λ e. omega (arith, e)) h
head_begins (Exit who) h = no_tail (event_line (Exit who)) 101 refl (λ e. omega (arith, e)) (λ e. omega (arith, e)) h
head_begins (Gone r a) h = no_tail (event_line (Gone r a)) 103 refl (λ e. omega (arith, e)) (λ e. omega (arith, e)) h
head_begins (Dropped who q l) h = no_tail (event_line (Dropped who q l)) 100 refl (λ e. omega (arith, e)) (λ e. omega (arith, e)) h
head_begins (Busy n) h = no_tail (event_line (Busy n)) 98 refl (λ e. omega (arith, e)) (λ e. omega (arith, e)) h
head_begins Quiet h = no_tail (event_line Quiet) 113 refl (λ e. omega (arith, e)) (λ e. omega (arith, e)) h

pub rows_tail : (rows : List ShownRow) → AllByRecursion IsTail (map row_line rows)
rows_tail [] = tt
rows_tail (row ∷ rows) = (inl refl, rows_tail rows)
