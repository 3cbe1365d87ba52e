-- What a reader may ask does not change by what it tells of an end and speaks.
use Rattle.std.proofs.Common.{◌≡◌, ℕ, suc, Bool, List, [], ◌∷◌, ◌++◌, length, Option, None, Some, refl, sym, ap, ap₂, ◌∙◌}
use Rattle.std.proofs.Math.Path.{fun_ext}
use Rattle.std.specs.Prelude.{◌==◌, ◌&&◌, ◌||◌, filter, filter_map, flat_map, map, option_map, position, if◌then◌else◌}
use Rattle.std.specs.List.{cons_option, list_any, list_all}
use Rattle.std.proofs.lemmas.List.{append-nil, append_assoc}
use Rattle.atspi_script_lines.specs.declared.line.Party.{Party}
use Rattle.atspi_script_lines.specs.declared.line.Party.TheVariants.{Registry, Reader}
use Rattle.atspi_message.specs.Envelope.{Envelope}
use Rattle.atspi_names.specs.Owners.{unique_name}
use Rattle.atspi_protocol.specs.declared.following.question.Question.{Question}
use Rattle.atspi_protocol.specs.declared.following.question.Question.TheVariants.{Hello, AddMatch, RegisterEvent, GetChildren, GetItems, GetPart}
use Rattle.atspi_protocol.specs.registering.Steps.{is_reply_to}
use Rattle.atspi_protocol.specs.following.ReaderState.{start_calls}
use Rattle.atspi_protocol.specs.following.Calls.{asking}
use Rattle.atspi_trace.specs.Entry.{Entry, started, changed, sent, got, heard, unheard, spoke, showed, exited, gone, dropped, busy, quiet}
use Rattle.atspi_headline.specs.Words.{Act, begins_line, moves_bytes, takes_end, writes, is_same, greeting_in, messages, signed, handed, name_of, taken_by, taken, is_answered, is_returned, sent_by, questions_in, pattern_of}
use Rattle.atspi_headline.specs.Headline.{asks_for, is_registered, wants_registered, is_empty, IsFree}

-- what a reader tells or speaks
abbrev pub IsWordOf : ℕ → Entry → Type 0
IsWordOf reader (gone r a) = r ≡ reader
IsWordOf reader (spoke r a text) = r ≡ reader
IsWordOf reader entry = ⊥

pub chosen_more : {A : Type 0} (p : Act → Option A) (xs ys : List Act) → filter_map p (xs ++ ys) ≡ filter_map p xs ++ filter_map p ys
chosen_more p [] ys = refl
chosen_more {A = A} p (x ∷ xs) ys = by (p x) (chosen_more p xs ys)
  where
    by : (o : Option A) → filter_map p (xs ++ ys) ≡ filter_map p xs ++ filter_map p ys → cons_option o (filter_map p (xs ++ ys)) ≡ cons_option o (filter_map p xs) ++ filter_map p ys
    by None h = h
    by (Some a) h = ap (λ l. a ∷ l) h

flat_more : {A : Type 0} (p : Act → List A) (xs ys : List Act) → flat_map p (xs ++ ys) ≡ flat_map p xs ++ flat_map p ys
flat_more p [] ys = refl
flat_more p (x ∷ xs) ys = ap (λ l. p x ++ l) (flat_more p xs ys) ∙ sym (append_assoc (p x) (flat_map p xs) (flat_map p ys))

none_chosen : (who : Party) (reader : ℕ) (x : Entry) → IsWordOf reader x → sent_by who (writes x) ≡ None
none_chosen who reader (gone r a) h = refl
none_chosen who reader (spoke r a text) h = refl
none_chosen who reader (started p name) h = absurd h
none_chosen who reader (changed a step) h = absurd h
none_chosen who reader (sent p e) h = absurd h
none_chosen who reader (got taker sender serial) h = absurd h
none_chosen who reader (heard a listener pattern) h = absurd h
none_chosen who reader (unheard a listener pattern) h = absurd h
none_chosen who reader (showed r a rows) h = absurd h
none_chosen who reader (exited p) h = absurd h
none_chosen who reader (dropped p queued len) h = absurd h
none_chosen who reader (busy turns) h = absurd h
none_chosen who reader quiet h = absurd h

none_greeted : (reader : ℕ) (x : Entry) → IsWordOf reader x → greeting_in (writes x) ≡ None
none_greeted reader (gone r a) h = refl
none_greeted reader (spoke r a text) h = refl
none_greeted reader (started p name) h = absurd h
none_greeted reader (changed a step) h = absurd h
none_greeted reader (sent p e) h = absurd h
none_greeted reader (got taker sender serial) h = absurd h
none_greeted reader (heard a listener pattern) h = absurd h
none_greeted reader (unheard a listener pattern) h = absurd h
none_greeted reader (showed r a rows) h = absurd h
none_greeted reader (exited p) h = absurd h
none_greeted reader (dropped p queued len) h = absurd h
none_greeted reader (busy turns) h = absurd h
none_greeted reader quiet h = absurd h

none_taken : (run : List Act) (who : Party) (reader : ℕ) (x : Entry) → IsWordOf reader x → taken_by run who (writes x) ≡ []
none_taken run who reader (gone r a) h = refl
none_taken run who reader (spoke r a text) h = refl
none_taken run who reader (started p name) h = absurd h
none_taken run who reader (changed a step) h = absurd h
none_taken run who reader (sent p e) h = absurd h
none_taken run who reader (got taker sender serial) h = absurd h
none_taken run who reader (heard a listener pattern) h = absurd h
none_taken run who reader (unheard a listener pattern) h = absurd h
none_taken run who reader (showed r a rows) h = absurd h
none_taken run who reader (exited p) h = absurd h
none_taken run who reader (dropped p queued len) h = absurd h
none_taken run who reader (busy turns) h = absurd h
none_taken run who reader quiet h = absurd h

module _ (run : List Act) (reader : ℕ) (x : Entry) (word : IsWordOf reader x) where
  abbrev more : List Act
  more = run ++ writes x ∷ []

  messages_same : (who : Party) → messages more who ≡ messages run who
  messages_same who = chosen_more (sent_by who) run (writes x ∷ []) ∙ ap (λ o. messages run who ++ cons_option o []) (none_chosen who reader x word) ∙ append-nil (messages run who)

  names_same : (who : Party) → name_of more who ≡ name_of run who
  names_same who =
      ap (λ l. option_map unique_name (position (is_same who) (Registry ∷ l)))
      (chosen_more greeting_in run (writes x ∷ []) ∙ ap (λ o. filter_map greeting_in run ++ cons_option o []) (none_greeted reader x word) ∙ append-nil (filter_map greeting_in run))

  handed_same : (who : Party) (serial : ℕ) → handed more who serial ≡ handed run who serial
  handed_same who serial =
      ap₂ (λ n l. map (signed who n) l) (names_same who) (ap (filter (λ (e : Envelope). e.serial == serial)) (messages_same who))

  taken_by_same : (who : Party) (act : Act) → taken_by more who act ≡ taken_by run who act
  taken_by_same who (writes (got taker sender serial)) = ap (λ l. if is_same taker who then l else []) (handed_same sender serial)
  taken_by_same who (begins_line line) = refl
  taken_by_same who (moves_bytes p up count) = refl
  taken_by_same who (takes_end p) = refl
  taken_by_same who (writes (started p name)) = refl
  taken_by_same who (writes (changed a step)) = refl
  taken_by_same who (writes (sent p e)) = refl
  taken_by_same who (writes (heard a listener pattern)) = refl
  taken_by_same who (writes (unheard a listener pattern)) = refl
  taken_by_same who (writes (spoke r a text)) = refl
  taken_by_same who (writes (showed r a rows)) = refl
  taken_by_same who (writes (exited p)) = refl
  taken_by_same who (writes (gone r a)) = refl
  taken_by_same who (writes (dropped p queued len)) = refl
  taken_by_same who (writes (busy turns)) = refl
  taken_by_same who (writes quiet) = refl

  taken_same : (who : Party) → taken more who ≡ taken run who
  taken_same who =
      ap (λ g. flat_map g more) (fun_ext (taken_by_same who))
      ∙ flat_more (taken_by run who) run (writes x ∷ []) ∙ ap (λ l. taken run who ++ (l ++ [])) (none_taken run who reader x word) ∙ append-nil (taken run who)

  answered_same : (who : Party) (serial : ℕ) → is_answered more who serial ≡ is_answered run who serial
  answered_same who serial = ap (list_any (λ (e : Envelope). (e.kind == 2 || e.kind == 3) && is_reply_to (Some serial) e.reply)) (taken_same who)

  returned_same : (who : Party) (serial : ℕ) → is_returned more who serial ≡ is_returned run who serial
  returned_same who serial = ap (list_any (λ (e : Envelope). e.kind == 2 && is_reply_to (Some serial) e.reply)) (taken_same who)

  registered_same : (r : ℕ) (pattern : List ℕ) → is_registered more r pattern ≡ is_registered run r pattern
  registered_same r pattern =
      ap₂ (λ (g : ℕ → Bool) l. list_any (λ (e : Envelope). asks_for pattern e && g e.serial) l) (fun_ext (returned_same (Reader r))) (messages_same (Reader r))

  wants_same : (r : ℕ) (q : Question) → wants_registered more r q ≡ wants_registered run r q
  wants_same r (GetItems name) = ap (λ g. list_all g (flat_map pattern_of start_calls)) (fun_ext (registered_same r))
  wants_same r Hello = refl
  wants_same r (AddMatch rule) = refl
  wants_same r (RegisterEvent pattern) = refl
  wants_same r GetChildren = refl
  wants_same r (GetPart name path part) = refl

  pub free_less : (r : ℕ) (m : Envelope) (q : Question) → IsFree more r m q → IsFree run r m q
  free_less r m q f = record {
    spelled = f.spelled ∙ ap (λ l. asking (suc (length l)) q) (messages_same (Reader r));
    asked_ever = f.asked_ever;
    all_answered =
        sym (ap₂ (λ (g : ℕ → Bool) l. list_all (λ (c : Envelope). is_empty (questions_in c) || g c.serial) l) (fun_ext (answered_same (Reader r))) (messages_same (Reader r))) ∙ f.all_answered;
    all_registered = sym (wants_same r q) ∙ f.all_registered;
  }
