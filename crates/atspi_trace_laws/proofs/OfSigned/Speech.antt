-- What ends say: which of it are replies.
use Rattle.std.proofs.Common.{◌≡◌, ℕ, ◌+◌, Bool, true, false, List, [], ◌∷◌, ◌++◌, map, Option, None, Some, refl, sym, ap, ◌∙◌, subst}
use Rattle.std.specs.Prelude.{◌==◌, ◌||◌, ◌&&◌, bit_and, filter, if◌then◌else◌, Result, Ok, Err}
use Rattle.std.specs.List.{AllByRecursion}
use Rattle.atspi_types.specs.Data.{Data}
use Rattle.atspi_tree_model.specs.declared.edit.Edit.{Edit}
use Rattle.atspi_tree_model.specs.declared.edit.EditFault.{EditFault}
use Rattle.atspi_tree_model.specs.declared.step.Step.{Step}
use Rattle.atspi_tree_model.specs.Edits.{steps_of_tree}
use Rattle.atspi_tree_model.specs.Forest.{Forest}
use Rattle.atspi_tree_model.specs.Row.{TreeRow}
use Rattle.atspi_tree_model.specs.RowRules.{rows}
use Rattle.atspi_tree_model.specs.Tree.{after, after_all}
use Rattle.atspi_message.specs.Envelope.{Envelope}
use Rattle.atspi_match.specs.routing.Routing.{is_reply}
use Rattle.atspi_protocol.specs.ends.Messages.{reply_to, replies, expects_reply}
use Rattle.atspi_protocol.specs.registering.RegistryState.{RegistryState}
use Rattle.atspi_protocol.specs.registering.Steps.{RegistryStep, named, called_by, hears, name_told, name_gone, registry_takes}
use Rattle.atspi_protocol.specs.registering.Laws.{replies_in, AreOneReply}
use Rattle.atspi_protocol.proofs.OfRegistering.Replies.{once}
use Rattle.atspi_protocol.specs.announcing.Signals.{Signal}
use Rattle.atspi_protocol.specs.announcing.Announced.{announced}
use Rattle.atspi_protocol.specs.exporting.Exporter.{StartCall, hello, add_match, get_registered_events, embed, Happening, steps, sends, hears as hears_of, deaf, Exporter, numbered, queues}
use Rattle.atspi_protocol.specs.exporting.Hearing.{exchanged, pairs_in, heard_after, Change, is_covered}
use Rattle.atspi_protocol.specs.exporting.Telling.{asked_for, steps_told}
use Rattle.atspi_protocol.specs.exporting.Starting.{awaited, goes_on, asks, greeted, listened, ends_start, start_call, name_or_empty, unique_name_in}
use Rattle.atspi_protocol.specs.exporting.Taking.{app_takes, app_edits, takes_other, takes_call, takes_signal, called, stepped, answer_to}
use Rattle.atspi_trace.specs.World.{Said}
use Rattle.atspi_trace.specs.Causes.{saids, announced_if}
use Rattle.atspi_trace_laws.proofs.OfOrder.Parties.{false_true}
use Rattle.atspi_trace_laws.proofs.OfHeard.Heeding.{IsOfListeners, heard_told, exchanged_told}
use Rattle.atspi_trace_laws.proofs.OfSigned.Between.{IsSignal, all_signals}

-- THE REPLY TO A CALL, with the tree as its steps leave it
pub record IsReplyTo (s : Exporter) (e : Envelope) (said : Said) : Type 0 where
  pub caller : List ℕ
  pub name : List ℕ
  pub sender : e.sender ≡ Some caller
  pub named : s.name ≡ Some name
  pub tree : said.tree ≡ after_all rows s.tree (answer_to s name e).steps
  pub message : said.message ≡ record (reply_to caller e.serial (answer_to s name e).reply) { serial = said.message.serial }

abbrev pub RepliesOnly : (Said → Type 0) → Said → Type 0
RepliesOnly P said = is_reply said.message ≡ true → P said

-- happenings without a reply
abbrev pub NoReply : List Happening → Type 0
NoReply [] = Unit {0}
NoReply (sends e ∷ hs) = (is_reply e ≡ false) × NoReply hs
NoReply (h ∷ hs) = NoReply hs

no_reply_append : (hs ks : List Happening) → NoReply hs → NoReply ks → NoReply (hs ++ ks)
no_reply_append [] ks a b = b
no_reply_append (sends e ∷ hs) ks a b = (a.0, no_reply_append hs ks a.1 b)
no_reply_append (steps step ∷ hs) ks a b = no_reply_append hs ks a b
no_reply_append (hears_of listener pattern ∷ hs) ks a b = no_reply_append hs ks a b
no_reply_append (deaf listener pattern ∷ hs) ks a b = no_reply_append hs ks a b

no_reply_numbered : (n : ℕ) (hs : List Happening) → NoReply hs → NoReply (numbered n hs)
no_reply_numbered n [] a = tt
no_reply_numbered n (sends e ∷ hs) a = (a.0, no_reply_numbered (n + 1) hs a.1)
no_reply_numbered n (steps step ∷ hs) a = no_reply_numbered n hs a
no_reply_numbered n (hears_of listener pattern ∷ hs) a = no_reply_numbered n hs a
no_reply_numbered n (deaf listener pattern ∷ hs) a = no_reply_numbered n hs a

none_said : (P : Said → Type 0) (s : Exporter) (f : Forest TreeRow) (a : Option Step) (hs : List Happening) → NoReply hs → AllByRecursion (RepliesOnly P) (saids s f a hs)
none_said P s f a [] n = tt
none_said P s f a (sends e ∷ hs) n = ((λ h. absurd (false_true (sym n.0 ∙ h))), none_said P s f None hs n.1)
none_said P s f a (steps step ∷ hs) n = none_said P s (after rows f step) _ hs n
none_said P s f a (hears_of listener pattern ∷ hs) n = none_said P s f a hs n
none_said P s f a (deaf listener pattern ∷ hs) n = none_said P s f a hs n

-- signals
signal_no_reply : (e : Envelope) → e.kind ≡ 4 → is_reply e ≡ false
signal_no_reply e h = ap (λ k. k == 2 || k == 3) h

signals_no_reply : (xs : List Signal) → AllByRecursion IsSignal xs → NoReply (map (λ (s : Signal). sends s.message) xs)
signals_no_reply [] a = tt
signals_no_reply (x ∷ xs) a = (signal_no_reply x.message a.0, signals_no_reply xs a.1)

asked_signals : (ps : List (List ℕ × List ℕ)) (xs : List Signal) → AllByRecursion IsSignal xs → AllByRecursion IsSignal (asked_for ps xs)
asked_signals ps [] a = tt
asked_signals ps (x ∷ xs) a = by (is_covered ps x.event x.minor) (asked_signals ps xs a.1)
  where
    by : (b : Bool) → AllByRecursion IsSignal (asked_for ps xs) → AllByRecursion IsSignal (if b then x ∷ asked_for ps xs else asked_for ps xs)
    by true r = (a.0, r)
    by false r = r

told_no_reply : (ps : List (List ℕ × List ℕ)) (name : List ℕ) (f : Forest TreeRow) (ss : List Step) → NoReply (steps_told ps name f ss)
told_no_reply ps name f [] = tt
told_no_reply ps name f (step ∷ ss) =
    no_reply_append (map (λ (s : Signal). sends s.message) (asked_for ps (announced name f step))) (steps_told ps name (after rows f step) ss)
    (signals_no_reply (asked_for ps (announced name f step)) (asked_signals ps (announced name f step) (all_signals name f step))) (told_no_reply ps name (after rows f step) ss)

-- what saids come behind steps: the tree is that of the steps
saids_behind : (P : Said → Type 0) (s : Exporter) (ps : List (List ℕ × List ℕ)) (name : List ℕ) (f : Forest TreeRow) (a : Option Step) (n : ℕ) (ss : List Step) (ks : List Happening)
    → ((m : ℕ) (b : Option Step) → AllByRecursion (RepliesOnly P) (saids s (after_all rows f ss) b (numbered m ks))) → AllByRecursion (RepliesOnly P) (saids s f a (numbered n (steps_told ps name f ss ++ ks)))
saids_behind P s ps name f a n [] ks h = h n a
saids_behind P s ps name f a n (step ∷ ss) ks h =
    signals_in (asked_for ps (announced name f step)) (asked_signals ps (announced name f step) (all_signals name f step)) (announced_if s.heard step (announced (name_or_empty s.name) f step)) n
    (λ b m. saids_behind P s ps name (after rows f step) b m ss ks h)
  where
    signals_in : (xs : List Signal) → AllByRecursion IsSignal xs → (b : Option Step) (m : ℕ)
        → ((c : Option Step) (k : ℕ) → AllByRecursion (RepliesOnly P) (saids s (after rows f step) c (numbered k (steps_told ps name (after rows f step) ss ++ ks))))
        → AllByRecursion (RepliesOnly P) (saids s (after rows f step) b (numbered m ((map (λ (x : Signal). sends x.message) xs ++ steps_told ps name (after rows f step) ss) ++ ks)))
    signals_in [] q b m ih = ih b m
    signals_in (x ∷ xs) q b m ih = ((λ r. absurd (false_true (sym (signal_no_reply x.message q.0) ∙ r))), signals_in xs q.1 None (m + 1) ih)

-- AN APPLICATION AT A MESSAGE
abbrev Replying : Exporter → Envelope → List Happening → Type 0
Replying s e hs = AllByRecursion (RepliesOnly (IsReplyTo s e)) (saids s s.tree None hs)

silently : (s : Exporter) (e : Envelope) (hs : List Happening) → NoReply hs → Replying s e hs
silently s e hs n = none_said (IsReplyTo s e) s s.tree None hs n

call_no_reply : (name : List ℕ) (c : StartCall) → is_reply (start_call name c) ≡ false
call_no_reply name hello = refl
call_no_reply name add_match = refl
call_no_reply name get_registered_events = refl
call_no_reply name embed = refl

out_numbered : (s : Exporter) (hs : List Happening) → s.out ≡ [] → NoReply hs → NoReply (s.out ++ numbered s.next hs)
out_numbered s hs empty n = subst (λ l. NoReply (l ++ numbered s.next hs)) (sym empty) (no_reply_numbered s.next hs n)

asks_out : (s : Exporter) (call : StartCall) → NoReply s.out → NoReply (asks s call).out
asks_out s call n =
    no_reply_append s.out (numbered s.next (sends (start_call (name_or_empty s.name) call) ∷ [])) n (no_reply_numbered s.next (sends (start_call (name_or_empty s.name) call) ∷ []) (call_no_reply (name_or_empty s.name) call, tt))

deaf_no_reply : (ps : List (List ℕ × List ℕ)) → NoReply (map (λ (p : List ℕ × List ℕ). deaf p.0 p.1) ps)
deaf_no_reply [] = tt
deaf_no_reply (p ∷ ps) = deaf_no_reply ps

hears_no_reply : (ps : List (List ℕ × List ℕ)) → NoReply (map (λ (p : List ℕ × List ℕ). hears_of p.0 p.1) ps)
hears_no_reply [] = tt
hears_no_reply (p ∷ ps) = hears_no_reply ps

listeners_no_reply : (hs : List Happening) → IsOfListeners hs → NoReply hs
listeners_no_reply [] a = tt
listeners_no_reply (hears_of listener pattern ∷ hs) a = listeners_no_reply hs a
listeners_no_reply (deaf listener pattern ∷ hs) a = listeners_no_reply hs a
listeners_no_reply (steps step ∷ hs) a = absurd a
listeners_no_reply (sends e ∷ hs) a = absurd a

start_out : (s : Exporter) (call : StartCall) (body : List Data) → NoReply s.out → NoReply (goes_on s call body).out
start_out s hello body n = by (unique_name_in body)
  where
    by : (o : Option (List ℕ)) → NoReply (greeted s o).out
    by None = n
    by (Some name) = asks_out (record s { name = Some name }) add_match n
start_out s add_match body n = asks_out s get_registered_events n
start_out s get_registered_events body n = by (pairs_in body)
  where
    by : (o : Option (List (List ℕ × List ℕ))) → NoReply (listened s o).out
    by None = n
    by (Some listed) =
        let change : Change = exchanged s.heard listed in
        asks_out (queues (record s { heard = change.heard }) change.told) embed
        (no_reply_append s.out (numbered s.next change.told) n (no_reply_numbered s.next change.told (listeners_no_reply change.told (exchanged_told s.heard listed).listeners)))
start_out s embed body n = n

start_by : (b : Bool) (s : Exporter) (call : StartCall) (body : List Data) → NoReply s.out → NoReply (if b then goes_on s call body else ends_start s).out
start_by true s call body n = start_out s call body n
start_by false s call body n = n

signal_out : (b : Bool) (s : Exporter) (e : Envelope) → NoReply s.out → NoReply (if b then takes_signal s e else s).out
signal_out true s e n =
    no_reply_append s.out (numbered s.next (heard_after s.heard e).told) n (no_reply_numbered s.next (heard_after s.heard e).told (listeners_no_reply (heard_after s.heard e).told (heard_told s.heard e).listeners))
signal_out false s e n = n

nobody_calls : (s : Exporter) (name : List ℕ) (e : Envelope) → e.sender ≡ None → takes_call s name e ≡ s
nobody_calls s name e h = rw h refl

caller_calls : (s : Exporter) (name caller : List ℕ) (e : Envelope) → e.sender ≡ Some caller → takes_call s name e ≡ called s name caller e
caller_calls s name caller e h = rw h refl

module _ (s : Exporter) (e : Envelope) (empty : s.out ≡ []) where
  nothing_yet : NoReply s.out
  nothing_yet = subst NoReply (sym empty) tt

  called_replies : (name caller : List ℕ) → s.name ≡ Some name → e.sender ≡ Some caller → Replying s e (called s name caller e).out
  called_replies name caller mine sender =
      subst (λ l. Replying s e (l ++ numbered s.next (steps_told s.heard name s.tree ss ++ map sends (replies caller e (answer_to s name e).reply)))) (sym empty)
      (saids_behind (IsReplyTo s e) s s.heard name s.tree None s.next ss (map sends (replies caller e (answer_to s name e).reply)) (λ m b. last (expects_reply e) m b))
    where
      ss : List Step
      ss = (answer_to s name e).steps

      reply : Envelope
      reply = reply_to caller e.serial (answer_to s name e).reply

      last : (t : Bool) (m : ℕ) (b : Option Step) → AllByRecursion (RepliesOnly (IsReplyTo s e)) (saids s (after_all rows s.tree ss) b (numbered m (map sends (if t then reply ∷ [] else []))))
      last true m b = ((λ h. record { caller = caller; name = name; sender = sender; named = mine; tree = refl; message = refl }), tt)
      last false m b = tt

  call_replies : (name : List ℕ) (sender : Option (List ℕ)) → s.name ≡ Some name → e.sender ≡ sender → Replying s e (takes_call s name e).out
  call_replies name None mine h = subst (λ (x : Exporter). Replying s e x.out) (sym (nobody_calls s name e h)) (silently s e s.out nothing_yet)
  call_replies name (Some caller) mine h = subst (λ (x : Exporter). Replying s e x.out) (sym (caller_calls s name caller e h)) (called_replies name caller mine h)

  named_replies : (b : Bool) (name : List ℕ) → s.name ≡ Some name → Replying s e (if b then takes_call s name e else if e.kind == 4 then takes_signal s e else s).out
  named_replies true name mine = call_replies name e.sender mine refl
  named_replies false name mine = silently s e (if e.kind == 4 then takes_signal s e else s).out (signal_out (e.kind == 4) s e nothing_yet)

  other_replies : (o : Option (List ℕ)) → s.name ≡ o → Replying s e (takes_other s o e).out
  other_replies None mine = silently s e s.out nothing_yet
  other_replies (Some name) mine = named_replies (e.kind == 1) name mine

  pub takes_replies : Replying s e (app_takes s e).out
  takes_replies = by (awaited s.phase e) refl
    where
      by : (o : Option StartCall) → awaited s.phase e ≡ o → Replying s e (app_takes s e).out
      by None h = rw h (other_replies s.name refl)
      by (Some call) h = rw h (silently s e (if e.kind == 2 then goes_on s call e.body else ends_start s).out (start_by (e.kind == 2) s call e.body nothing_yet))

-- AT AN EDIT
abbrev edit_result : Exporter → Result (List Step) EditFault → Result Exporter EditFault
edit_result s (Ok ss) = Ok (queues (stepped s ss) (steps_told s.heard (name_or_empty s.name) s.tree ss))
edit_result s (Err fault) = Err fault

abbrev ok_or : Exporter → Result Exporter EditFault → Exporter
ok_or s (Ok u) = u
ok_or s (Err fault) = s

pub edit_no_reply : (s t : Exporter) (edit : Edit) → app_edits s edit ≡ Ok t → s.out ≡ [] → NoReply t.out
edit_no_reply s t edit h empty = by (steps_of_tree s.tree s.added edit) refl h
  where
    by : (r : Result (List Step) EditFault) → steps_of_tree s.tree s.added edit ≡ r → app_edits s edit ≡ Ok t → NoReply t.out
    by (Ok ss) e g =
        let same : app_edits s edit ≡ edit_result s (Ok ss) = rw e refl in
        subst (λ (x : Exporter). NoReply x.out) (ap (ok_or s) (sym same ∙ g)) (out_numbered s (steps_told s.heard (name_or_empty s.name) s.tree ss) empty (told_no_reply s.heard (name_or_empty s.name) s.tree ss))
    by (Err fault) e g =
        let same : app_edits s edit ≡ Err fault = rw e refl in
        absurd (no (sym same ∙ g))
      where
        no : Err fault ≡ Ok t → ⊥
        no z = cc

pub edit_silent : (P : Said → Type 0) (s t : Exporter) (edit : Edit) → app_edits s edit ≡ Ok t → s.out ≡ [] → AllByRecursion (RepliesOnly P) (saids s s.tree None t.out)
edit_silent P s t edit h empty = none_said P s s.tree None t.out (edit_no_reply s t edit h empty)

-- THE REGISTRY AT A MESSAGE
abbrev pub IsItsReply : Envelope → Envelope → Type 0
IsItsReply e m = (caller : List ℕ) × (e.sender ≡ Some caller) × (m.destination ≡ Some caller) × (m.reply ≡ Some e.serial)

from_filter : (P : Envelope → Type 0) (xs : List Envelope) → AllByRecursion P (filter is_reply xs) → AllByRecursion (λ m. is_reply m ≡ true → P m) xs
from_filter P [] a = tt
from_filter P (x ∷ xs) a = by (is_reply x) refl a (λ q. from_filter P xs q)
  where
    by : (b : Bool) → is_reply x ≡ b → AllByRecursion P (if b then x ∷ filter is_reply xs else filter is_reply xs) → (AllByRecursion P (filter is_reply xs) → AllByRecursion (λ m. is_reply m ≡ true → P m) xs)
        → AllByRecursion (λ m. is_reply m ≡ true → P m) (x ∷ xs)
    by true h q ih = ((λ r. q.0), ih q.1)
    by false h q ih = ((λ r. absurd (false_true (sym h ∙ r))), ih q)

unnamed_is : (s : RegistryState) (e : Envelope) → s.own ≡ None → registry_takes s e ≡ named s (name_told s.hello e)
unnamed_is s e k = rw k refl

owned_is : (s : RegistryState) (e : Envelope) (own : List ℕ) → s.own ≡ Some own → registry_takes s e ≡ (if e.kind == 1 then called_by s own e e.sender else hears s (name_gone e))
owned_is s e own k = rw k refl

abbrev Only_replies : Envelope → RegistryStep → Type 0
Only_replies e step = AllByRecursion (IsItsReply e) (filter is_reply step.sent)

pub registry_replies : (s : RegistryState) (e : Envelope) → AllByRecursion (λ m. is_reply m ≡ true → IsItsReply e m) (registry_takes s e).sent
registry_replies s e = from_filter (IsItsReply e) (registry_takes s e).sent (by (expects_reply e) refl s.own refl e.sender refl)
  where
    unnamed : (o : Option (List ℕ)) → Only_replies e (named s o)
    unnamed None = tt
    unnamed (Some name) = tt

    calls_one : (b c : Bool) → (b && c) ≡ true → b ≡ true
    calls_one true c h = refl
    calls_one false c h = absurd (false_true h)

    no_caller : (own : List ℕ) (b : Bool) → b ≡ true → Only_replies e (if b then called_by s own e None else hears s (name_gone e))
    no_caller own true h = tt
    no_caller own false h = absurd (false_true h)

    by : (b : Bool) → expects_reply e ≡ b → (own : Option (List ℕ)) → s.own ≡ own → (caller : Option (List ℕ)) → e.sender ≡ caller → Only_replies e (registry_takes s e)
    by false h own k caller g = subst (AllByRecursion (IsItsReply e)) (sym (once.unexpected s e h)) tt
    by true h None k caller g = subst (Only_replies e) (sym (unnamed_is s e k)) (unnamed (name_told s.hello e))
    by true h (Some own) k None g =
        subst (Only_replies e) (sym (owned_is s e own k ∙ ap (λ o. if e.kind == 1 then called_by s own e o else hears s (name_gone e)) g)) (no_caller own (e.kind == 1) (calls_one (e.kind == 1) (bit_and e.flags 1 == 0) h))
    by true h (Some own) k (Some caller) g =
        let one : AreOneReply (replies_in (registry_takes s e).sent) caller e.serial = once.expected s e own caller k g h in
        subst (AllByRecursion (IsItsReply e)) (sym one.alone) ((caller, g, one.to, one.with_), tt)
