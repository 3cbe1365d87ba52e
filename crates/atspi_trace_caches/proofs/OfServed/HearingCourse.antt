-- The course of an application, message by message: the calls of its start, one behind the return to the one before, and no other calls.
use Rattle.std.proofs.Common.{◌≡◌, ℕ, suc, ◌+◌, ◌≤◌, Bool, true, false, List, [], ◌∷◌, ◌++◌, map, Option, None, Some, refl, sym, ap, ◌∙◌, subst, arith}
use Rattle.std.specs.Prelude.{◌==◌, ◌||◌, ◌&&◌, if◌then◌else◌, Result, Ok, Err}
use Rattle.std.specs.List.{AllByRecursion}
use Rattle.std.proofs.lemmas.Bool.{eqb-true}
use Rattle.atspi_tree_model.specs.declared.edit.Edit.{Edit}
use Rattle.atspi_tree_model.specs.declared.edit.EditFault.{EditFault}
use Rattle.atspi_tree_model.specs.declared.step.Step.{Step}
use Rattle.atspi_tree_model.specs.Edits.{steps_of_tree}
use Rattle.atspi_tree_model.specs.Forest.{Forest}
use Rattle.atspi_tree_model.specs.Row.{TreeRow}
use Rattle.atspi_tree_model.specs.RowRules.{rows}
use Rattle.atspi_tree_model.specs.Tree.{after}
use Rattle.atspi_message.specs.Envelope.{Envelope}
use Rattle.atspi_protocol.specs.ends.Messages.{Reply, returns, fails, reply_to, replies, expects_reply}
use Rattle.atspi_protocol.specs.announcing.Signals.{Signal}
use Rattle.atspi_protocol.specs.announcing.Announced.{announced}
use Rattle.atspi_protocol.specs.exporting.Exporter.{StartCall, hello, add_match, get_registered_events, embed, Phase, new, awaits, over, Happening, steps, sends, hears as hears_of, deaf, Exporter, numbered, sent_in, queues}
use Rattle.atspi_protocol.specs.exporting.Hearing.{exchanged, pairs_in, heard_after, Change, is_covered}
use Rattle.atspi_protocol.specs.exporting.Telling.{asked_for, steps_told}
use Rattle.atspi_protocol.specs.exporting.Starting.{awaited, is_number, goes_on, asks, greeted, listened, ends_start, start_call, name_or_empty, unique_name_in}
use Rattle.atspi_protocol.specs.exporting.Taking.{app_takes, app_edits, takes_other, takes_call, takes_signal, called, stepped, answer_to}
use Rattle.atspi_trace_laws.proofs.OfOrder.Parties.{no_none, same_some, false_true}
use Rattle.atspi_trace_laws.proofs.OfHeard.Heeding.{IsOfListeners, heard_told, exchanged_told}
use Rattle.atspi_trace_laws.proofs.OfSigned.Between.{IsSignal, all_signals}

-- HAPPENINGS WITHOUT A CALL
abbrev pub NoCall : List Happening → Type 0
NoCall [] = Unit {0}
NoCall (sends e ∷ hs) = (e.kind ≡ 1 → ⊥) × NoCall hs
NoCall (h ∷ hs) = NoCall hs

no_call_append : (hs ks : List Happening) → NoCall hs → NoCall ks → NoCall (hs ++ ks)
no_call_append [] ks a b = b
no_call_append (sends e ∷ hs) ks a b = (a.0, no_call_append hs ks a.1 b)
no_call_append (steps step ∷ hs) ks a b = no_call_append hs ks a b
no_call_append (hears_of listener pattern ∷ hs) ks a b = no_call_append hs ks a b
no_call_append (deaf listener pattern ∷ hs) ks a b = no_call_append hs ks a b

no_call_numbered : (n : ℕ) (hs : List Happening) → NoCall hs → NoCall (numbered n hs)
no_call_numbered n [] a = tt
no_call_numbered n (sends e ∷ hs) a = (a.0, no_call_numbered (n + 1) hs a.1)
no_call_numbered n (steps step ∷ hs) a = no_call_numbered n hs a
no_call_numbered n (hears_of listener pattern ∷ hs) a = no_call_numbered n hs a
no_call_numbered n (deaf listener pattern ∷ hs) a = no_call_numbered n hs a

four_one : (n : ℕ) → n ≡ 4 → n ≡ 1 → ⊥
four_one n h g = absurd (omega (arith, h, g))

signals_call_nobody : (xs : List Signal) → AllByRecursion IsSignal xs → NoCall (map (λ (s : Signal). sends s.message) xs)
signals_call_nobody [] a = tt
signals_call_nobody (x ∷ xs) a = (four_one x.message.kind a.0, signals_call_nobody xs a.1)

asked_signals : (ps : List (List ℕ × List ℕ)) (xs : List Signal) → AllByRecursion IsSignal xs → AllByRecursion IsSignal (asked_for ps xs)
asked_signals ps [] a = tt
asked_signals ps (x ∷ xs) a = by (is_covered ps x.event x.minor) (asked_signals ps xs a.1)
  where
    by : (b : Bool) → AllByRecursion IsSignal (asked_for ps xs) → AllByRecursion IsSignal (if b then x ∷ asked_for ps xs else asked_for ps xs)
    by true r = (a.0, r)
    by false r = r

told_no_call : (ps : List (List ℕ × List ℕ)) (name : List ℕ) (f : Forest TreeRow) (ss : List Step) → NoCall (steps_told ps name f ss)
told_no_call ps name f [] = tt
told_no_call ps name f (step ∷ ss) =
    no_call_append (map (λ (s : Signal). sends s.message) (asked_for ps (announced name f step))) (steps_told ps name (after rows f step) ss)
    (signals_call_nobody (asked_for ps (announced name f step)) (asked_signals ps (announced name f step) (all_signals name f step))) (told_no_call ps name (after rows f step) ss)

two_one : ◌≡◌ {A = ℕ} 2 1 → ⊥
two_one h = absurd (omega (arith, h))

three_one : ◌≡◌ {A = ℕ} 3 1 → ⊥
three_one h = absurd (omega (arith, h))

replies_call_nobody : (b : Bool) (caller : List ℕ) (serial : ℕ) (r : Reply) → NoCall (map sends (if b then reply_to caller serial r ∷ [] else []))
replies_call_nobody true caller serial (returns values) = (two_one, tt)
replies_call_nobody true caller serial (fails word) = (three_one, tt)
replies_call_nobody false caller serial r = tt

listeners_no_call : (hs : List Happening) → IsOfListeners hs → NoCall hs
listeners_no_call [] a = tt
listeners_no_call (hears_of listener pattern ∷ hs) a = listeners_no_call hs a
listeners_no_call (deaf listener pattern ∷ hs) a = listeners_no_call hs a
listeners_no_call (steps step ∷ hs) a = absurd a
listeners_no_call (sends e ∷ hs) a = absurd a

-- listeners take no numbers
listeners_numbered : (n : ℕ) (hs : List Happening) → IsOfListeners hs → IsOfListeners (numbered n hs)
listeners_numbered n [] a = tt
listeners_numbered n (hears_of listener pattern ∷ hs) a = listeners_numbered n hs a
listeners_numbered n (deaf listener pattern ∷ hs) a = listeners_numbered n hs a
listeners_numbered n (steps step ∷ hs) a = absurd a
listeners_numbered n (sends e ∷ hs) a = absurd a

-- A CALL OF ITS START IS SENT, behind listeners' pairs alone, and its return awaited
pub record Asks (s t : Exporter) (call : StartCall) : Type 0 where
  pub front : List Happening
  pub quiet : IsOfListeners front
  pub name : List ℕ
  pub named : name ≡ name_or_empty t.name
  pub serial : ℕ
  pub out : t.out ≡ front ++ sends (record (start_call name call) { serial = serial }) ∷ []
  pub phase : t.phase ≡ awaits call serial
  pub fresh : s.next ≤ serial
  pub next : t.next ≡ suc serial

one_more : (n : ℕ) → n + 1 ≡ suc n
one_more n = omega arith

least : (n : ℕ) → n ≤ n
least n = omega arith

sum_more : (n k : ℕ) → n ≤ n + k
sum_more n k = omega arith

pub asks_it : (s t : Exporter) (call : StartCall) → s.next ≤ t.next → IsOfListeners t.out → Asks s (asks t call) call
asks_it s t call more quiet = record {
  front = t.out;
  quiet = quiet;
  name = name_or_empty t.name;
  named = refl;
  serial = t.next;
  out = refl;
  phase = refl;
  fresh = more;
  next = one_more t.next;
}

-- WHAT A MESSAGE MAKES OF IT. It stays where it is; its start ends; or its start goes on, with the return that was awaited.
pub data Course (s : Exporter) (e : Envelope) (t : Exporter) : Type 0 where
  stays : t.phase ≡ s.phase → t.name ≡ s.name → s.next ≤ t.next → NoCall t.out → Course s e t
  stops : t.phase ≡ over → t.name ≡ s.name → s.next ≤ t.next → NoCall t.out → Course s e t
  meets : (serial : ℕ) → s.phase ≡ awaits hello serial → Asks s t add_match → Course s e t
  tunes : (serial : ℕ) → s.phase ≡ awaits add_match serial → e.kind ≡ 2 → e.reply ≡ Some serial → t.name ≡ s.name → Asks s t get_registered_events → Course s e t
  lists : (serial : ℕ) → s.phase ≡ awaits get_registered_events serial → e.kind ≡ 2 → e.reply ≡ Some serial → (pairs : List (List ℕ × List ℕ)) → pairs_in e.body ≡ Some pairs → t.name ≡ s.name → Asks s t embed
      → Course s e t

nobody_calls : (s : Exporter) (name : List ℕ) (e : Envelope) → e.sender ≡ None → takes_call s name e ≡ s
nobody_calls s name e h = rw h refl

caller_calls : (s : Exporter) (name caller : List ℕ) (e : Envelope) → e.sender ≡ Some caller → takes_call s name e ≡ called s name caller e
caller_calls s name caller e h = rw h refl

module _ (s : Exporter) (e : Envelope) (empty : s.out ≡ []) where
  nothing_yet : NoCall s.out
  nothing_yet = subst NoCall (sym empty) tt

  out_of : (hs : List Happening) → NoCall hs → NoCall (s.out ++ numbered s.next hs)
  out_of hs n = no_call_append s.out (numbered s.next hs) nothing_yet (no_call_numbered s.next hs n)

  same_course : Course s e s
  same_course = stays refl refl (least s.next) nothing_yet

  called_course : (name caller : List ℕ) → Course s e (called s name caller e)
  called_course name caller =
      let a = answer_to s name e in
      let hs : List Happening = steps_told s.heard name s.tree a.steps ++ map sends (replies caller e a.reply) in
      stays refl refl (sum_more s.next (sent_in hs))
      (out_of hs (no_call_append (steps_told s.heard name s.tree a.steps) (map sends (replies caller e a.reply)) (told_no_call s.heard name s.tree a.steps) (replies_call_nobody (expects_reply e) caller e.serial a.reply)))

  call_course : (name : List ℕ) (sender : Option (List ℕ)) → e.sender ≡ sender → Course s e (takes_call s name e)
  call_course name None h = subst (Course s e) (sym (nobody_calls s name e h)) same_course
  call_course name (Some caller) h = subst (Course s e) (sym (caller_calls s name caller e h)) (called_course name caller)

  signal_course : (b : Bool) → Course s e (if b then takes_signal s e else s)
  signal_course true =
      stays refl refl (sum_more s.next (sent_in (heard_after s.heard e).told)) (out_of (heard_after s.heard e).told (listeners_no_call (heard_after s.heard e).told (heard_told s.heard e).listeners))
  signal_course false = same_course

  named_course : (b : Bool) (name : List ℕ) → Course s e (if b then takes_call s name e else if e.kind == 4 then takes_signal s e else s)
  named_course true name = call_course name e.sender refl
  named_course false name = signal_course (e.kind == 4)

  other_course : (o : Option (List ℕ)) → Course s e (takes_other s o e)
  other_course None = same_course
  other_course (Some name) = named_course (e.kind == 1) name

  ended_course : Course s e (ends_start s)
  ended_course = stops refl refl (least s.next) nothing_yet

  empty_listeners : IsOfListeners s.out
  empty_listeners = subst IsOfListeners (sym empty) tt

  greeted_course : (serial : ℕ) → s.phase ≡ awaits hello serial → (o : Option (List ℕ)) → Course s e (greeted s o)
  greeted_course serial at None = ended_course
  greeted_course serial at (Some name) = meets serial at (asks_it s (record s { name = Some name }) add_match (least s.next) empty_listeners)

  listened_course : (serial : ℕ) → s.phase ≡ awaits get_registered_events serial → e.kind ≡ 2 → e.reply ≡ Some serial → (o : Option (List (List ℕ × List ℕ))) → pairs_in e.body ≡ o → Course s e (listened s o)
  listened_course serial at two reply None h = ended_course
  listened_course serial at two reply (Some listed) h =
      let change : Change = exchanged s.heard listed in
      let told = exchanged_told s.heard listed in
      lists serial at two reply listed h refl
      (asks_it s (queues (record s { heard = change.heard }) change.told) embed (sum_more s.next (sent_in change.told))
      (subst (λ l. IsOfListeners (l ++ numbered s.next change.told)) (sym empty) (listeners_numbered s.next change.told told.listeners)))

  goes_course : (call : StartCall) (serial : ℕ) → s.phase ≡ awaits call serial → e.kind ≡ 2 → e.reply ≡ Some serial → Course s e (goes_on s call e.body)
  goes_course hello serial at two reply = greeted_course serial at (unique_name_in e.body)
  goes_course add_match serial at two reply = tunes serial at two reply refl (asks_it s s get_registered_events (least s.next) empty_listeners)
  goes_course get_registered_events serial at two reply = listened_course serial at two reply (pairs_in e.body) refl
  goes_course embed serial at two reply = ended_course

  numbered_reply : (o : Option ℕ) (serial : ℕ) → is_number o serial ≡ true → o ≡ Some serial
  numbered_reply None serial h = absurd (false_true h)
  numbered_reply (Some m) serial h = ap Some (eqb-true m serial h)

  pub course : Course s e (app_takes s e)
  course = by (awaited s.phase e) refl
    where
      two_by : (b : Bool) → (e.kind == 2) ≡ b → (call : StartCall) (serial : ℕ) → s.phase ≡ awaits call serial → e.reply ≡ Some serial → Course s e (if b then goes_on s call e.body else ends_start s)
      two_by true h call serial at reply = goes_course call serial at (eqb-true e.kind 2 h) reply
      two_by false h call serial at reply = ended_course

      waiting : (p : Phase) (call : StartCall) → s.phase ≡ p → awaited p e ≡ Some call → (serial : ℕ) × (s.phase ≡ awaits call serial) × (e.reply ≡ Some serial)
      waiting new call h g = absurd (no_none call g)
      waiting over call h g = absurd (no_none call g)
      waiting (awaits other serial) call h g = at ((e.kind == 2 || e.kind == 3) && is_number e.reply serial) refl g
        where
          right : (x y : Bool) → (x && y) ≡ true → y ≡ true
          right true y q = q
          right false y q = absurd (false_true q)

          at : (b : Bool) → ((e.kind == 2 || e.kind == 3) && is_number e.reply serial) ≡ b → (if b then Some other else None) ≡ Some call → (n : ℕ) × (s.phase ≡ awaits call n) × (e.reply ≡ Some n)
          at true q r = (serial, h ∙ ap (λ c. awaits c serial) (same_some other call r), numbered_reply e.reply serial (right (e.kind == 2 || e.kind == 3) (is_number e.reply serial) q))
          at false q r = absurd (no_none call r)

      by : (o : Option StartCall) → awaited s.phase e ≡ o → Course s e (app_takes s e)
      by None h = rw h (other_course s.name)
      by (Some call) h = let x = waiting s.phase call refl h in rw h (two_by (e.kind == 2) refl call x.0 x.1 x.2)

-- AN EDIT: no call, and the same phase, name and pairs
pub record Edited (s t : Exporter) : Type 0 where
  pub phase : t.phase ≡ s.phase
  pub name : t.name ≡ s.name
  pub heard : t.heard ≡ s.heard
  pub next : s.next ≤ t.next
  pub quiet : NoCall t.out

abbrev edit_result : Exporter → Result (List Step) EditFault → Result Exporter EditFault
edit_result s (Ok ss) = Ok (queues (stepped s ss) (steps_told s.heard (name_or_empty s.name) s.tree ss))
edit_result s (Err fault) = Err fault

abbrev ok_or : Exporter → Result Exporter EditFault → Exporter
ok_or s (Ok u) = u
ok_or s (Err fault) = s

pub edit_course : (s t : Exporter) (edit : Edit) → app_edits s edit ≡ Ok t → s.out ≡ [] → Edited s t
edit_course s t edit h empty = by (steps_of_tree s.tree s.added edit) refl h
  where
    by : (r : Result (List Step) EditFault) → steps_of_tree s.tree s.added edit ≡ r → app_edits s edit ≡ Ok t → Edited s t
    by (Ok ss) e g =
        let same : app_edits s edit ≡ edit_result s (Ok ss) = rw e refl in
        let hs : List Happening = steps_told s.heard (name_or_empty s.name) s.tree ss in
        subst (Edited s) (ap (ok_or s) (sym same ∙ g)) (record {
          phase = refl;
          name = refl;
          heard = refl;
          next = sum_more s.next (sent_in hs);
          quiet = no_call_append s.out (numbered s.next hs) (subst NoCall (sym empty) tt) (no_call_numbered s.next hs (told_no_call s.heard (name_or_empty s.name) s.tree ss));
        })
    by (Err fault) e g =
        let same : app_edits s edit ≡ Err fault = rw e refl in
        absurd (no (sym same ∙ g))
      where
        no : Err fault ≡ Ok t → ⊥
        no z = cc
