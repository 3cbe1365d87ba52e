-- What each end does with a message that it takes: an application and the registry answer a call once they have their names, and who takes the reply to its call waits for it no longer.
use Rattle.std.proofs.Common.{◌≡◌, ◌⊎◌, inl, inr, ℕ, Bool, true, false, List, [], ◌∷◌, ◌++◌, map, Option, None, Some, refl, sym, ap, ◌∙◌, subst, is_some}
use Rattle.std.specs.Prelude.{◌==◌, ◌&&◌, filter, if◌then◌else◌, Result, Ok, Err}
use Rattle.std.proofs.lemmas.Bool.{eq-eqb}
use Rattle.atspi_tree_model.specs.declared.edit.Edit.{Edit}
use Rattle.atspi_tree_model.specs.declared.edit.EditFault.{EditFault}
use Rattle.atspi_tree_model.specs.declared.step.Step.{Step}
use Rattle.atspi_tree_model.specs.Edits.{steps_of_tree}
use Rattle.atspi_tree_model.specs.Forest.{Forest}
use Rattle.atspi_tree_model.specs.Row.{TreeRow}
use Rattle.atspi_tree_model.specs.RowRules.{rows}
use Rattle.atspi_tree_model.specs.Tree.{after}
use Rattle.atspi_types.specs.Data.{Data}
use Rattle.atspi_message.specs.Envelope.{Envelope}
use Rattle.atspi_match.specs.routing.Routing.{expects_reply, is_reply}
use Rattle.atspi_protocol.specs.declared.following.question.Question.{Question}
use Rattle.atspi_protocol.specs.declared.following.question.Question.TheVariants.{Hello, AddMatch, RegisterEvent, GetChildren, GetItems, GetPart}
use Rattle.atspi_protocol.specs.declared.news.part.PartName.TheVariants.{Text, Caret, Columns}
use Rattle.atspi_protocol.specs.following.Calls.{asking}
use Rattle.atspi_protocol.specs.following.Replied.{is_reply_to}
use Rattle.atspi_protocol.specs.registering.RegistryState.{RegistryState}
use Rattle.atspi_protocol.specs.registering.Steps.{registry_takes}
use Rattle.atspi_protocol.specs.registering.Laws.{AreOneReply, replies_in}
use Rattle.atspi_protocol.proofs.OfRegistering.Replies.{once}
use Rattle.atspi_protocol.specs.exporting.Exporter.{StartCall, hello, add_match, get_registered_events, embed, Phase, new, awaits, over, Happening, steps, sends, hears as hears_of, deaf, Exporter, numbered, queues}
use Rattle.atspi_protocol.specs.exporting.Hearing.{exchanged, pairs_in}
use Rattle.atspi_protocol.specs.exporting.Telling.{steps_told}
use Rattle.atspi_protocol.specs.exporting.Starting.{awaited, goes_on, asks, greeted, listened, ends_start, start_call, name_or_empty, unique_name_in, is_number}
use Rattle.atspi_protocol.specs.exporting.Taking.{app_takes, app_edits, stepped, takes_other, takes_call, takes_signal}
use Rattle.atspi_protocol.specs.exporting.Laws.{replies_among, waiting_for, AddsReply}
use Rattle.atspi_protocol.proofs.OfExporting.Answered.{each_call_is_answered}
use Rattle.atspi_trace.specs.World.{waits, returned, failed, Asked, Said}
use Rattle.atspi_trace.specs.Ends.{plain}
use Rattle.atspi_trace.specs.Hearing.{fate_of, answered_by}
use Rattle.atspi_trace.specs.Causes.{saids}
use Rattle.atspi_trace_laws.proofs.OfOrder.Parties.{no_none, false_true}
use Rattle.atspi_trace_caches.proofs.OfSettled.Replying.{Has, goes_to, start_goes_to, IsAsked, PhaseWaits, IsReplying}

-- SOME MESSAGE among happenings
abbrev pub SendsOne : (Envelope → Type 0) → List Happening → Type 0
SendsOne P [] = ⊥
SendsOne P (sends e ∷ hs) = P e ⊎ SendsOne P hs
SendsOne P (h ∷ hs) = SendsOne P hs

pub one_said : (P : Envelope → Type 0) (s : Exporter) (f : Forest TreeRow) (a : Option Step) (hs : List Happening) → SendsOne P hs → Has (λ (said : Said). P said.message) (saids s f a hs)
one_said P s f a [] h = absurd h
one_said P s f a (sends e ∷ hs) (inl p) = inl p
one_said P s f a (sends e ∷ hs) (inr h) = inr (one_said P s f None hs h)
one_said P s f a (steps step ∷ hs) h = one_said P s (after rows f step) _ hs h
one_said P s f a (hears_of listener pattern ∷ hs) h = one_said P s f a hs h
one_said P s f a (deaf listener pattern ∷ hs) h = one_said P s f a hs h

one_back : (P : Envelope → Type 0) (hs ks : List Happening) → SendsOne P ks → SendsOne P (hs ++ ks)
one_back P [] ks h = h
one_back P (sends e ∷ hs) ks h = inr (one_back P hs ks h)
one_back P (steps step ∷ hs) ks h = one_back P hs ks h
one_back P (hears_of listener pattern ∷ hs) ks h = one_back P hs ks h
one_back P (deaf listener pattern ∷ hs) ks h = one_back P hs ks h

among_sends : (P : Envelope → Type 0) (hs : List Happening) → Has P (replies_among hs) → SendsOne (λ m. (is_reply m ≡ true) × P m) hs
among_sends P [] h = absurd h
among_sends P (sends e ∷ hs) h = by (is_reply e) refl h (λ g. among_sends P hs g)
  where
    by : (b : Bool) → is_reply e ≡ b → Has P (if b then e ∷ replies_among hs else replies_among hs) → (Has P (replies_among hs) → SendsOne (λ m. (is_reply m ≡ true) × P m) hs) → ((is_reply e ≡ true) × P e) ⊎ SendsOne (λ m. (is_reply m ≡ true) × P m) hs
    by true g (inl p) f = inl (g, p)
    by true g (inr q) f = inr (f q)
    by false g q f = inr (f q)
among_sends P (steps step ∷ hs) h = among_sends P hs h
among_sends P (hears_of listener pattern ∷ hs) h = among_sends P hs h
among_sends P (deaf listener pattern ∷ hs) h = among_sends P hs h

-- AN APPLICATION ANSWERS a call once it has its name
abbrev pub IsAnswerTo : List ℕ → ℕ → Envelope → Type 0
IsAnswerTo caller serial m = (m.destination ≡ Some caller) × (m.reply ≡ Some serial)

has_name : (o : Option (List ℕ)) → is_some o ≡ true → (name : List ℕ) × (o ≡ Some name)
has_name None h = absurd (false_true h)
has_name (Some name) h = (name, refl)

pub app_answers : (s : Exporter) (e : Envelope) (caller : List ℕ) → s.out ≡ [] → is_some s.name ≡ true → expects_reply e ≡ true → e.sender ≡ Some caller
    → SendsOne (λ m. (is_reply m ≡ true) × IsAnswerTo caller e.serial m) (app_takes s e).out
app_answers s e caller empty named expects sender = among_sends (IsAnswerTo caller e.serial) (app_takes s e).out (subst (Has (IsAnswerTo caller e.serial)) (sym all) (inl (reply.2, reply.3)))
  where
    name : (n : List ℕ) × (s.name ≡ Some n)
    name = has_name s.name named

    who : waiting_for s.name e ≡ Some caller
    who = ap (λ o. waiting_for o e) name.1 ∙ ap (λ b. if b then e.sender else None) expects ∙ sender

    reply : AddsReply (Some caller) e.serial (replies_among s.out) (replies_among (app_takes s e).out)
    reply = subst (λ o. AddsReply o e.serial (replies_among s.out) (replies_among (app_takes s e).out)) who (each_call_is_answered s e)

    all : replies_among (app_takes s e).out ≡ reply.0 ∷ []
    all = reply.1 ∙ ap (λ l. replies_among l ++ reply.0 ∷ []) empty

-- AND THE REGISTRY
from_filter : (P : Envelope → Type 0) (xs : List Envelope) → Has P (filter is_reply xs) → Has (λ m. (is_reply m ≡ true) × P m) xs
from_filter P [] h = absurd h
from_filter P (x ∷ xs) h = by (is_reply x) refl h (λ g. from_filter P xs g)
  where
    by : (b : Bool) → is_reply x ≡ b → Has P (if b then x ∷ filter is_reply xs else filter is_reply xs) → (Has P (filter is_reply xs) → Has (λ m. (is_reply m ≡ true) × P m) xs) → ((is_reply x ≡ true) × P x) ⊎ Has (λ m. (is_reply m ≡ true) × P m) xs
    by true g (inl p) f = inl (g, p)
    by true g (inr q) f = inr (f q)
    by false g q f = inr (f q)

pub registry_answers : (s : RegistryState) (e : Envelope) (caller : List ℕ) → is_some s.own ≡ true → expects_reply e ≡ true → e.sender ≡ Some caller
    → Has (λ m. (is_reply m ≡ true) × IsAnswerTo caller e.serial m) (registry_takes s e).sent
registry_answers s e caller named expects sender =
    let own = has_name s.own named in
    let one : AreOneReply (replies_in (registry_takes s e).sent) caller e.serial = once.expected s e own.0 caller own.1 sender expects in
    from_filter (IsAnswerTo caller e.serial) (registry_takes s e).sent (subst (Has (IsAnswerTo caller e.serial)) (sym one.alone) (inl (one.to, one.with_)))

pub plain_has : (P : Envelope → Type 0) (xs : List Envelope) → Has P xs → Has (λ (said : Said). P said.message) (map plain xs)
plain_has P [] h = absurd h
plain_has P (x ∷ xs) (inl p) = inl p
plain_has P (x ∷ xs) (inr h) = inr (plain_has P xs h)

-- AN APPLICATION WAITS behind a message only for what it waited for, and the message was no reply to that; or it sends the call that it waits for
pub record IsCalling (n : ℕ) (to : List ℕ) (m : Envelope) : Type 0 where
  pub serial : m.serial ≡ n
  pub expects : expects_reply m ≡ true
  pub goes : m.destination ≡ Some to

pub start_spelled : (name : List ℕ) (call : StartCall) (n : ℕ) → (expects_reply (record (start_call name call) { serial = n }) ≡ true) × ((record (start_call name call) { serial = n }).destination ≡ Some (start_goes_to call))
start_spelled name hello n = (refl, refl)
start_spelled name add_match n = (refl, refl)
start_spelled name get_registered_events n = (refl, refl)
start_spelled name embed n = (refl, refl)

pub asks_waits : (s : Exporter) (call : StartCall) (n : ℕ) (to : List ℕ) → PhaseWaits (asks s call).phase n to → SendsOne (IsCalling n to) (asks s call).out
asks_waits s call n to h =
    let x = start_spelled (name_or_empty s.name) call s.next in
    one_back (IsCalling n to) s.out (numbered s.next (sends (start_call (name_or_empty s.name) call) ∷ [])) (inl (record { serial = h.0; expects = x.0; goes = x.1 ∙ ap Some h.1 }))

goes_waits : (s : Exporter) (call : StartCall) (body : List Data) (n : ℕ) (to : List ℕ) → PhaseWaits (goes_on s call body).phase n to → SendsOne (IsCalling n to) (goes_on s call body).out
goes_waits s hello body n to h = by (unique_name_in body) h
  where
    by : (o : Option (List ℕ)) → PhaseWaits (greeted s o).phase n to → SendsOne (IsCalling n to) (greeted s o).out
    by None g = absurd g
    by (Some name) g = asks_waits (record s { name = Some name }) add_match n to g
goes_waits s add_match body n to h = asks_waits s get_registered_events n to h
goes_waits s get_registered_events body n to h = by (pairs_in body) h
  where
    by : (o : Option (List (List ℕ × List ℕ))) → PhaseWaits (listened s o).phase n to → SendsOne (IsCalling n to) (listened s o).out
    by None g = absurd g
    by (Some listed) g = let change = exchanged s.heard listed in asks_waits (queues (record s { heard = change.heard }) change.told) embed n to g
goes_waits s embed body n to h = absurd h

-- what no call waits for leaves the start as it is
call_phase : (s : Exporter) (name : List ℕ) (e : Envelope) (o : Option (List ℕ)) → e.sender ≡ o → (takes_call s name e).phase ≡ s.phase
call_phase s name e None h = rw h refl
call_phase s name e (Some caller) h = rw h refl

other_phase : (s : Exporter) (o : Option (List ℕ)) (e : Envelope) → (takes_other s o e).phase ≡ s.phase
other_phase s None e = refl
other_phase s (Some name) e = by (e.kind == 1) (e.kind == 4)
  where
    by : (a b : Bool) → (if a then takes_call s name e else if b then takes_signal s e else s).phase ≡ s.phase
    by true b = call_phase s name e e.sender refl
    by false true = refl
    by false false = refl

abbrev took_as : Exporter → Envelope → Option StartCall → Exporter
took_as s e None = takes_other s s.name e
took_as s e (Some call) = if e.kind == 2 then goes_on s call e.body else ends_start s

not_awaited : (p : Phase) (e : Envelope) (n : ℕ) (to : List ℕ) → awaited p e ≡ None → PhaseWaits p n to → IsReplying n e → ⊥
not_awaited new e n to none w r = w
not_awaited over e n to none w r = w
not_awaited (awaits call serial) e n to none w r = by (is_reply e) r.reply (is_number e.reply serial) (ap (λ o. is_number o serial) r.with_ ∙ eq-eqb n serial (sym w.0)) none
  where
    by : (a : Bool) → a ≡ true → (b : Bool) → b ≡ true → (if a && b then Some call else None) ≡ None → ⊥
    by true h true g q = no_none call (sym q)
    by true h false g q = false_true g
    by false h b g q = false_true h

pub takes_waits : (s : Exporter) (e : Envelope) (n : ℕ) (to : List ℕ) → PhaseWaits (app_takes s e).phase n to → (PhaseWaits s.phase n to × (IsReplying n e → ⊥)) ⊎ SendsOne (IsCalling n to) (app_takes s e).out
takes_waits s e n to h = by (awaited s.phase e) refl h
  where
    started : (b : Bool) (call : StartCall) → PhaseWaits (if b then goes_on s call e.body else ends_start s).phase n to → SendsOne (IsCalling n to) (if b then goes_on s call e.body else ends_start s).out
    started true call g = goes_waits s call e.body n to g
    started false call g = absurd g

    by : (o : Option StartCall) → awaited s.phase e ≡ o → PhaseWaits (took_as s e o).phase n to → (PhaseWaits s.phase n to × (IsReplying n e → ⊥)) ⊎ SendsOne (IsCalling n to) (took_as s e o).out
    by None g q = let old : PhaseWaits s.phase n to = subst (λ p. PhaseWaits p n to) (other_phase s s.name e) q in inl (old, not_awaited s.phase e n to g old)
    by (Some call) g q = inr (started (e.kind == 2) call q)

-- at an edit it goes on waiting
pub edit_phase : (s t : Exporter) (edit : Edit) → app_edits s edit ≡ Ok t → t.phase ≡ s.phase
edit_phase s t edit h = by (steps_of_tree s.tree s.added edit) refl
  where
    by : (r : Result (List Step) EditFault) → steps_of_tree s.tree s.added edit ≡ r → t.phase ≡ s.phase
    by (Ok ss) g = ap phase_of (sym h ∙ made ss g)
      where
        phase_of : Result Exporter EditFault → Phase
        phase_of (Ok u) = u.phase
        phase_of (Err fault) = s.phase

        made : (ss : List Step) → steps_of_tree s.tree s.added edit ≡ Ok ss → app_edits s edit ≡ Ok (queues (stepped s ss) (steps_told s.heard (name_or_empty s.name) s.tree ss))
        made ss q = rw q refl
    by (Err fault) g = absurd (no (sym failed_ ∙ h))
      where
        failed_ : app_edits s edit ≡ Err fault
        failed_ = rw g refl

        no : Err fault ≡ Ok t → ⊥
        no z = cc

-- A READER waits for what it waited for, and the message was no reply to that
fate_answered : (m : Envelope) → fate_of m ≡ waits → ⊥
fate_answered m h = by (m.kind == 2) h
  where
    by : (b : Bool) → (if b then returned else failed) ≡ waits → ⊥
    by true g = cc
    by false g = cc

answered_waits : (n : ℕ) (to : List ℕ) (m : Envelope) (a : Asked) → IsAsked n to (answered_by m a) → IsAsked n to a × (IsReplying n m → ⊥)
answered_waits n to m a h = by (is_reply m && is_reply_to a.serial m.reply) refl h
  where
    by : (b : Bool) → (is_reply m && is_reply_to a.serial m.reply) ≡ b → IsAsked n to (if b then record a { fate = fate_of m } else a) → IsAsked n to a × (IsReplying n m → ⊥)
    by true g w = absurd (fate_answered m w.0)
    by false g w = (w, λ r. false_true (sym g ∙ both (is_reply m) (is_reply_to a.serial m.reply) r.reply (ap (is_reply_to a.serial) r.with_ ∙ eq-eqb n a.serial (sym w.1))))
      where
        both : (x y : Bool) → x ≡ true → y ≡ true → (x && y) ≡ true
        both true y h k = k
        both false y h k = h

pub hears_waits : (n : ℕ) (to : List ℕ) (m : Envelope) (asked : List Asked) → Has (IsAsked n to) (map (answered_by m) asked) → Has (IsAsked n to) asked × (IsReplying n m → ⊥)
hears_waits n to m [] h = absurd h
hears_waits n to m (a ∷ rest) (inl p) = let x = answered_waits n to m a p in (inl x.0, x.1)
hears_waits n to m (a ∷ rest) (inr h) = let x = hears_waits n to m rest h in (inr x.0, x.1)

-- its own calls
pub own_spelled : (q : Question) (n : ℕ) → (expects_reply (asking n q) ≡ true) × ((asking n q).destination ≡ Some (goes_to q))
own_spelled Hello n = (refl, refl)
own_spelled (AddMatch rule) n = (refl, refl)
own_spelled (RegisterEvent pattern) n = (refl, refl)
own_spelled GetChildren n = (refl, refl)
own_spelled (GetItems name) n = (refl, refl)
own_spelled (GetPart name path Text) n = (refl, refl)
own_spelled (GetPart name path Caret) n = (refl, refl)
own_spelled (GetPart name path Columns) n = (refl, refl)
