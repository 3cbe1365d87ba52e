-- What a reader holds by the words of the headline is what it holds by those of the laws of traces.
use Rattle.std.proofs.Common.{◌≡◌, ℕ, Bool, true, false, List, [], ◌∷◌, ◌++◌, Option, None, Some, refl, sym, ap, ◌∙◌, subst}
use Rattle.std.specs.Prelude.{◌==◌, ◌&&◌, not, filter, flat_map, fold, bytes_eq, codes, if◌then◌else◌}
use Rattle.std.proofs.lemmas.List.{append-nil, append_assoc}
use Rattle.atspi_types.specs.Data.{Data, number_data, boolean_data, text_data, path_data, signature_data, array_data, structure_data, dictionary_data, variant_data}
use Rattle.atspi_script_lines.specs.declared.line.Party.{Party}
use Rattle.atspi_script_lines.specs.declared.line.Party.TheVariants.{Bus as The_bus, Registry, App, Reader}
use Rattle.atspi_message.specs.Envelope.{Envelope}
use Rattle.atspi_match.specs.routing.Answers.{first_text}
use Rattle.atspi_protocol.specs.declared.news.part.PartName.TheVariants.{Text, Caret, Columns}
use Rattle.atspi_protocol.specs.declared.following.question.Question.{Question}
use Rattle.atspi_protocol.specs.declared.following.question.Question.TheVariants.{Hello, AddMatch, RegisterEvent, GetChildren, GetItems, GetPart}
use Rattle.atspi_protocol.specs.registering.Steps.{is_reply_to}
use Rattle.atspi_protocol.specs.news.NewsOf.{or_empty}
use Rattle.atspi_trace.specs.Entry.{Entry, started, changed, sent, got, heard, unheard, spoke, showed, exited, gone, dropped, busy, quiet}
use Rattle.atspi_trace.specs.Hearing as hearing
use Rattle.atspi_trace.specs.Hearing.{question_in}
use Rattle.atspi_headline.specs.Words as here
use Rattle.atspi_headline.specs.Words.{Act, begins_line, moves_bytes, takes_end, writes, entries_in, gathered, Held, questions_in}
use Rattle.atspi_trace_laws.specs.laws.Words as told
use Rattle.atspi_trace_laws.specs.laws.Words.{Kept}
use Rattle.atspi_trace_laws.proofs.OfSerials.Serial.{messages_more}
use Rattle.atspi_headline_laws.proofs.Making.{entries_more}
use Rattle.atspi_headline_laws.proofs.Reading.{messages_told}
use Rattle.atspi_headline_laws.proofs.Numbering.{From, from_front, as_list, one_with}

-- QUESTIONS
second_same : (ds : List Data) → here.second_text ds ≡ hearing.second_text ds
second_same [] = refl
second_same (d ∷ []) = refl
second_same (d ∷ (text_data cs ∷ ds)) = refl
second_same (d ∷ (number_data n k ∷ ds)) = refl
second_same (d ∷ (boolean_data b ∷ ds)) = refl
second_same (d ∷ (path_data p ∷ ds)) = refl
second_same (d ∷ (signature_data s ∷ ds)) = refl
second_same (d ∷ (array_data k i ∷ ds)) = refl
second_same (d ∷ (structure_data i ∷ ds)) = refl
second_same (d ∷ (dictionary_data k v e ∷ ds)) = refl
second_same (d ∷ (variant_data k v ∷ ds)) = refl

-- one test behind the other
either_test : {A : Type 0} (b : Bool) (q : A) (xs : List A) (o : Option A) → xs ≡ as_list o → (if b then q ∷ [] else xs) ≡ as_list (if b then Some q else o)
either_test true q xs o h = refl
either_test false q xs o h = h

list_test : {A : Type 0} (b : Bool) (ys xs : List A) (p o : Option A) → ys ≡ as_list p → xs ≡ as_list o → (if b then ys else xs) ≡ as_list (if b then p else o)
list_test true ys xs p o g h = g
list_test false ys xs p o g h = h

parts_same : (e : Envelope) (name : List ℕ)
    → (if bytes_eq name (codes "CaretOffset") then here.part_question Caret e else if bytes_eq name (codes "NColumns") then here.part_question Columns e else []) ≡ as_list (hearing.asks_part e (hearing.part_named name))
parts_same e name = by (bytes_eq name (codes "CaretOffset")) (bytes_eq name (codes "NColumns"))
  where
    by : (b c : Bool) → (if b then here.part_question Caret e else if c then here.part_question Columns e else []) ≡ as_list (hearing.asks_part e (if b then Some Caret else if c then Some Columns else None))
    by true c = refl
    by false true = refl
    by false false = refl

text_same : (e : Envelope) → here.part_question Text e ≡ as_list (hearing.asks_part e (Some Text))
text_same e = refl

get_same : (e : Envelope) (b : Bool)
    → (if not b then [] else if bytes_eq (here.second_text e.body) (codes "CaretOffset") then here.part_question Caret e
    else if bytes_eq (here.second_text e.body) (codes "NColumns") then here.part_question Columns e else [])
    ≡ as_list (if b then hearing.asks_part e (hearing.part_named (hearing.second_text e.body)) else None)
get_same e true =
    parts_same e (here.second_text e.body) ∙ ap (λ n. as_list (hearing.asks_part e (hearing.part_named n))) (second_same e.body)
get_same e false = refl

-- by the member
named_same : (e : Envelope) (m : List ℕ) → here.question_of (record e { member = Some m }) ≡ as_list (hearing.question_of m (record e { member = Some m }))
named_same e m =
    either_test (bytes_eq m (codes "Hello")) Hello _ _
    (either_test (bytes_eq m (codes "AddMatch")) (AddMatch (first_text e.body)) _ _
    (either_test (bytes_eq m (codes "RegisterEvent")) (RegisterEvent (first_text e.body)) _ _
    (either_test (bytes_eq m (codes "GetChildren")) GetChildren _ _
    (either_test (bytes_eq m (codes "GetItems")) (GetItems (or_empty e.destination)) _ _
    (list_test (bytes_eq m (codes "GetText")) _ _ _ _ (text_same (record e { member = Some m })) (get_same (record e { member = Some m }) (bytes_eq m (codes "Get"))))))))

unnamed_same : (e : Envelope) → here.question_of (record e { member = None }) ≡ as_list (hearing.question_of [] (record e { member = None }))
unnamed_same e = refl

question_same : (e : Envelope) → here.question_of e ≡ as_list (hearing.question_of (or_empty e.member) e)
question_same e = by e.member
  where
    by : (o : Option (List ℕ)) → here.question_of (record e { member = o }) ≡ as_list (hearing.question_of (or_empty o) (record e { member = o }))
    by (Some m) = named_same e m
    by None = unnamed_same e

pub questions_same : (e : Envelope) → questions_in e ≡ as_list (question_in e)
questions_same e = by (e.kind == 1)
  where
    by : (b : Bool) → (if b then here.question_of e else []) ≡ as_list (if b then hearing.question_of (or_empty e.member) e else None)
    by true = question_same e
    by false = refl

-- WHAT A RETURN ANSWERS
none_passes : {A : Type 0} (xs : List A) → filter (λ x. false) xs ≡ []
none_passes [] = refl
none_passes (x ∷ xs) = none_passes xs

question_list : (o : Option Envelope) → flat_map questions_in (as_list o) ≡ as_list (told.question_if o)
question_list None = refl
question_list (Some e) = append-nil (questions_in e) ∙ questions_same e

answer_same : (before : List Act) (reader : ℕ) (e : Envelope) → From 1 (told.messages (entries_in before) (Reader reader))
    → here.answered_by before reader e ≡ as_list (told.answer_to (entries_in before) reader e e.reply)
answer_same before reader e f = by (e.kind == 2) e.reply ∙ ap as_list (is_answer e.reply)
  where
    ms : List Envelope
    ms = here.messages before (Reader reader)

    answer_if : Bool → Option ℕ → Option Question
    answer_if b None = None
    answer_if b (Some s) = if b then told.own_call (entries_in before) reader s else None

    is_answer : (o : Option ℕ) → answer_if (e.kind == 2) o ≡ told.answer_to (entries_in before) reader e o
    is_answer None = refl
    is_answer (Some s) = refl

    by : (b : Bool) (o : Option ℕ) → flat_map questions_in (filter (λ (c : Envelope). b && is_reply_to (Some c.serial) o) ms) ≡ as_list (answer_if b o)
    by true (Some s) =
        ap (λ l. flat_map questions_in (filter (λ (c : Envelope). c.serial == s) l)) (messages_told before (Reader reader))
        ∙ ap (flat_map questions_in) (one_with 1 s (told.messages (entries_in before) (Reader reader)) f)
        ∙ question_list (told.message (entries_in before) (Reader reader) s)
    by true None = ap (flat_map questions_in) (none_passes ms)
    by false (Some s) = ap (flat_map questions_in) (none_passes ms)
    by false None = ap (flat_map questions_in) (none_passes ms)

-- HOLDINGS
abbrev pub as_kept : Option Held → Option Kept
as_kept None = None
as_kept (Some k) = Some (record { last = k.last; told = k.told })

held_with_same : (serial : ℕ) (held : Option Held) (o : Option Question) → as_kept (fold (here.held_with serial) (here.held_to serial held) (as_list o)) ≡ told.kept_with serial o (as_kept held)
held_with_same serial held (Some (GetItems name)) = refl
held_with_same serial (Some k) (Some (GetPart name path part)) = refl
held_with_same serial None (Some (GetPart name path part)) = refl
held_with_same serial (Some k) (Some Hello) = refl
held_with_same serial None (Some Hello) = refl
held_with_same serial (Some k) (Some (AddMatch rule)) = refl
held_with_same serial None (Some (AddMatch rule)) = refl
held_with_same serial (Some k) (Some (RegisterEvent pattern)) = refl
held_with_same serial None (Some (RegisterEvent pattern)) = refl
held_with_same serial (Some k) (Some GetChildren) = refl
held_with_same serial None (Some GetChildren) = refl
held_with_same serial (Some k) None = refl
held_with_same serial None None = refl

question_of_list : (before : List Act) (reader : ℕ) → From 1 (told.messages (entries_in before) (Reader reader)) → (o : Option Envelope)
    → flat_map (here.answered_by before reader) (as_list o) ≡ as_list (told.answers_question (entries_in before) reader o)
question_of_list before reader f None = refl
question_of_list before reader f (Some e) = append-nil (here.answered_by before reader e) ∙ answer_same before reader e f

module _ (run : List Act) (reader app : ℕ) (calls : From 1 (told.messages (entries_in run) (Reader reader))) (own : From 1 (told.messages (entries_in run) (App app))) where
  front_of : (who : Party) (early acts : List Act) → run ≡ early ++ acts → From 1 (told.messages (entries_in run) who) → From 1 (told.messages (entries_in early) who)
  front_of who early acts h f =
      from_front 1 (told.messages (entries_in early) who) (told.messages (entries_in acts) who)
      (subst (From 1) (ap (λ r. told.messages (entries_in r) who) h ∙ ap (λ l. told.messages l who) (entries_more early acts) ∙ messages_more (entries_in early) (entries_in acts) who) f)

  got_same : (early acts : List Act) → run ≡ early ++ acts → (held : Option Held) (serial : ℕ)
      → as_kept (fold (here.held_with serial) (here.held_to serial held) (flat_map (here.answered_by early reader) (here.with_serial early (App app) serial)))
      ≡ told.kept_with serial (told.answers_question (entries_in early) reader (told.message (entries_in early) (App app) serial)) (as_kept held)
  got_same early acts h held serial =
      let one : here.with_serial early (App app) serial ≡ as_list (told.message (entries_in early) (App app) serial) =
      ap (filter (λ (e : Envelope). e.serial == serial)) (messages_told early (App app)) ∙ one_with 1 serial (told.messages (entries_in early) (App app)) (front_of (App app) early acts h own) in
      ap (λ l. as_kept (fold (here.held_with serial) (here.held_to serial held) l))
      (ap (flat_map (here.answered_by early reader)) one ∙ question_of_list early reader (front_of (Reader reader) early acts h calls) (told.message (entries_in early) (App app) serial))
      ∙ held_with_same serial held (told.answers_question (entries_in early) reader (told.message (entries_in early) (App app) serial))

  if_same : (b : Bool) (x y : Option Held) (u v : Option Kept) → as_kept x ≡ u → as_kept y ≡ v → as_kept (if b then x else y) ≡ (if b then u else v)
  if_same true x y u v g h = g
  if_same false x y u v g h = h

  step_same : (early : List Act) (e : Entry) (acts : List Act) → run ≡ early ++ writes e ∷ acts → (held : Option Held) (kept : Option Kept) → as_kept held ≡ kept
      → as_kept (here.held_after reader app early held (writes e)) ≡ told.kept_after (entries_in early) reader app kept e
  step_same early (got (Reader r) (App a) serial) acts h held kept same = by (a == app) refl
    where
      by : (b : Bool) → (a == app) ≡ b
          → as_kept (if r == reader && b then fold (here.held_with serial) (here.held_to serial held) (flat_map (here.answered_by early reader) (here.with_serial early (App app) serial)) else held)
          ≡ (if r == reader && b then told.kept_with serial (told.answers_question (entries_in early) reader (told.message (entries_in early) (App app) serial)) kept else kept)
      by b g =
          if_same (r == reader && b) _ held _ kept
          (got_same early (writes (got (Reader r) (App a) serial) ∷ acts) h held serial
          ∙ ap (told.kept_with serial (told.answers_question (entries_in early) reader (told.message (entries_in early) (App app) serial))) same) same
  step_same early (gone r a) acts h held kept same = if_same (r == reader && a == app) None held None kept refl same
  step_same early (got The_bus from serial) acts h held kept same = same
  step_same early (got Registry from serial) acts h held kept same = same
  step_same early (got (App a) from serial) acts h held kept same = same
  step_same early (got (Reader r) The_bus serial) acts h held kept same = same
  step_same early (got (Reader r) Registry serial) acts h held kept same = same
  step_same early (got (Reader r) (Reader q) serial) acts h held kept same = same
  step_same early (started who name) acts h held kept same = same
  step_same early (changed a step) acts h held kept same = same
  step_same early (sent who e) acts h held kept same = same
  step_same early (heard a listener pattern) acts h held kept same = same
  step_same early (unheard a listener pattern) acts h held kept same = same
  step_same early (spoke r a text) acts h held kept same = same
  step_same early (showed r a rows) acts h held kept same = same
  step_same early (exited who) acts h held kept same = same
  step_same early (dropped who queued len) acts h held kept same = same
  step_same early (busy turns) acts h held kept same = same
  step_same early quiet acts h held kept same = same

  on_same : (early acts : List Act) → run ≡ early ++ acts → (held : Option Held) (kept : Option Kept) → as_kept held ≡ kept
      → as_kept (gathered (here.held_after reader app) held early acts) ≡ told.held_on (entries_in early) reader app kept (entries_in acts)
  on_same early [] h held kept same = same
  on_same early (writes e ∷ acts) h held kept same =
      let next : run ≡ (early ++ writes e ∷ []) ++ acts = h ∙ sym (append_assoc early (writes e ∷ []) acts) in
      on_same (early ++ writes e ∷ []) acts next (here.held_after reader app early held (writes e)) (told.kept_after (entries_in early) reader app kept e) (step_same early e acts h held kept same)
      ∙ ap (λ l. told.held_on l reader app (told.kept_after (entries_in early) reader app kept e) (entries_in acts)) (entries_more early (writes e ∷ []))
  on_same early (begins_line line ∷ acts) h held kept same =
      let next : run ≡ (early ++ begins_line line ∷ []) ++ acts = h ∙ sym (append_assoc early (begins_line line ∷ []) acts) in
      on_same (early ++ begins_line line ∷ []) acts next held kept same
      ∙ ap (λ l. told.held_on l reader app kept (entries_in acts)) (entries_more early (begins_line line ∷ []) ∙ append-nil (entries_in early))
  on_same early (moves_bytes who up count ∷ acts) h held kept same =
      let next : run ≡ (early ++ moves_bytes who up count ∷ []) ++ acts = h ∙ sym (append_assoc early (moves_bytes who up count ∷ []) acts) in
      on_same (early ++ moves_bytes who up count ∷ []) acts next held kept same
      ∙ ap (λ l. told.held_on l reader app kept (entries_in acts)) (entries_more early (moves_bytes who up count ∷ []) ∙ append-nil (entries_in early))
  on_same early (takes_end who ∷ acts) h held kept same =
      let next : run ≡ (early ++ takes_end who ∷ []) ++ acts = h ∙ sym (append_assoc early (takes_end who ∷ []) acts) in
      on_same (early ++ takes_end who ∷ []) acts next held kept same
      ∙ ap (λ l. told.held_on l reader app kept (entries_in acts)) (entries_more early (takes_end who ∷ []) ∙ append-nil (entries_in early))

  pub held_told : as_kept (here.held_of run reader app) ≡ told.held (entries_in run) reader app
  held_told = on_same [] run refl None None refl
