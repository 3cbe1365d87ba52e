-- What an application has queued stands in front of what a message or an edit queues: neither looks at it.
use Rattle.std.proofs.Common.{◌≡◌, ℕ, Bool, true, false, List, [], ◌∷◌, ◌++◌, Option, Some, None, refl, sym, ap, ◌∙◌, append_assoc}
use Rattle.std.specs.Prelude.{◌==◌, if◌then◌else◌, Result, Ok, Err}
use Rattle.atspi_types.specs.Data.{Data}
use Rattle.atspi_tree_model.specs.declared.edit.Edit.{Edit}
use Rattle.atspi_tree_model.specs.declared.edit.EditFault.{EditFault}
use Rattle.atspi_tree_model.specs.declared.step.Step.{Step}
use Rattle.atspi_tree_model.specs.Edits.{steps_of_tree}
use Rattle.atspi_message.specs.Envelope.{Envelope}
use Rattle.atspi_protocol.specs.exporting.Exporter.{StartCall, hello, add_match, get_registered_events, embed, Happening, sends, Exporter, numbered, queues}
use Rattle.atspi_protocol.specs.exporting.Hearing.{exchanged, pairs_in, heard_after}
use Rattle.atspi_protocol.specs.exporting.Telling.{steps_told}
use Rattle.atspi_protocol.specs.exporting.Starting.{awaited, goes_on, asks, greeted, listened, ends_start, start_call, name_or_empty, unique_name_in}
use Rattle.atspi_protocol.specs.exporting.Taking.{answer_to, app_takes, app_edits, takes_other, takes_call, takes_signal, call_happens, stepped}

-- these stand in front of what is queued
abbrev pub put : List Happening → Exporter → Exporter
put d s = record s { out = d ++ s.out }

pub put_both : (xs ys : List Happening) (s : Exporter) → put xs (put ys s) ≡ put (xs ++ ys) s
put_both xs ys s = ap (λ (w : List Happening). record s { out = w }) (sym (append_assoc xs ys s.out))

queues_put : (d : List Happening) (s : Exporter) (hs : List Happening) → queues (put d s) hs ≡ put d (queues s hs)
queues_put d s hs = ap (λ (w : List Happening). record (queues s hs) { out = w }) (append_assoc d s.out (numbered s.next hs))

asks_put : (d : List Happening) (s : Exporter) (call : StartCall) → asks (put d s) call ≡ put d (asks s call)
asks_put d s call = ap (λ (w : List Happening). record (asks s call) { out = w }) (append_assoc d s.out (numbered s.next (sends (start_call (name_or_empty s.name) call) ∷ [])))

greeted_put : (d : List Happening) (s : Exporter) (o : Option (List ℕ)) → greeted (put d s) o ≡ put d (greeted s o)
greeted_put d s None = refl
greeted_put d s (Some name) = asks_put d (record s { name = Some name }) add_match

listened_put : (d : List Happening) (s : Exporter) (o : Option (List (List ℕ × List ℕ))) → listened (put d s) o ≡ put d (listened s o)
listened_put d s None = refl
listened_put d s (Some listed) =
    let change = exchanged s.heard listed in
    let t : Exporter = record s { heard = change.heard } in
    ap (λ (x : Exporter). asks x embed) (queues_put d t change.told) ∙ asks_put d (queues t change.told) embed

goes_on_put : (d : List Happening) (s : Exporter) (call : StartCall) (body : List Data) → goes_on (put d s) call body ≡ put d (goes_on s call body)
goes_on_put d s hello body = greeted_put d s (unique_name_in body)
goes_on_put d s add_match body = asks_put d s get_registered_events
goes_on_put d s get_registered_events body = listened_put d s (pairs_in body)
goes_on_put d s embed body = refl

start_put : (d : List Happening) (b : Bool) (s : Exporter) (call : StartCall) (body : List Data)
    → (if b then goes_on (put d s) call body else ends_start (put d s)) ≡ put d (if b then goes_on s call body else ends_start s)
start_put d true s call body = goes_on_put d s call body
start_put d false s call body = refl

call_put : (d : List Happening) (s : Exporter) (name : List ℕ) (e : Envelope) (sender : Option (List ℕ)) → e.sender ≡ sender → takes_call (put d s) name e ≡ put d (takes_call s name e)
call_put d s name e None h = rw h refl
call_put d s name e (Some caller) h =
    let a = answer_to s name e in
    rw h (queues_put d (record (stepped s a.steps) { id = a.id }) (call_happens s name caller e))

signal_put : (d : List Happening) (b : Bool) (s : Exporter) (e : Envelope) → (if b then takes_signal (put d s) e else put d s) ≡ put d (if b then takes_signal s e else s)
signal_put d true s e = let change = heard_after s.heard e in queues_put d (record s { heard = change.heard }) change.told
signal_put d false s e = refl

named_put : (d : List Happening) (b : Bool) (s : Exporter) (name : List ℕ) (e : Envelope)
    → (if b then takes_call (put d s) name e else if e.kind == 4 then takes_signal (put d s) e else put d s)
    ≡ put d (if b then takes_call s name e else if e.kind == 4 then takes_signal s e else s)
named_put d true s name e = call_put d s name e e.sender refl
named_put d false s name e = signal_put d (e.kind == 4) s e

other_put : (d : List Happening) (s : Exporter) (name : Option (List ℕ)) (e : Envelope) → takes_other (put d s) name e ≡ put d (takes_other s name e)
other_put d s None e = refl
other_put d s (Some name) e = named_put d (e.kind == 1) s name e

pub takes_put : (d : List Happening) (s : Exporter) (e : Envelope) → app_takes (put d s) e ≡ put d (app_takes s e)
takes_put d s e = at (awaited s.phase e) refl
  where
    at : (o : Option StartCall) → awaited s.phase e ≡ o → app_takes (put d s) e ≡ put d (app_takes s e)
    at None h = rw h (other_put d s s.name e)
    at (Some call) h = rw h (start_put d (e.kind == 2) s call e.body)

-- the same of an edit that is made
abbrev pub put_if_done : List Happening → Result Exporter EditFault → Result Exporter EditFault
put_if_done d (Ok s) = Ok (put d s)
put_if_done d (Err why) = Err why

pub edits_put : (d : List Happening) (s : Exporter) (edit : Edit) → app_edits (put d s) edit ≡ put_if_done d (app_edits s edit)
edits_put d s edit = at (steps_of_tree s.tree s.added edit) refl
  where
    at : (r : Result (List Step) EditFault) → steps_of_tree s.tree s.added edit ≡ r → app_edits (put d s) edit ≡ put_if_done d (app_edits s edit)
    at (Ok steps) h =
        let hs = steps_told s.heard (name_or_empty s.name) s.tree steps in
        rw h (ap (λ (x : Exporter). Ok x) (queues_put d (stepped s steps) hs))
    at (Err why) h = rw h refl
