-- What an application sends meets the rules of messages, where what it took did.
use Rattle.std.proofs.Common.{◌≡◌, ◌≢◌, ℕ, ◌+◌, Bool, true, false, List, [], ◌∷◌, ◌++◌, map, Option, Some, None, refl, subst, sym, arith}
use Rattle.std.specs.Prelude.{◌==◌, if◌then◌else◌, Result, Ok, Err}
use Rattle.atspi_types.specs.Data.{Data}
use Rattle.atspi_tree_model.specs.declared.edit.Edit.{Edit}
use Rattle.atspi_tree_model.specs.declared.edit.EditFault.{EditFault}
use Rattle.atspi_tree_model.specs.declared.step.Step.{Step}
use Rattle.atspi_tree_model.specs.Edits.{steps_of_tree}
use Rattle.atspi_tree_model.specs.Row.{Each}
use Rattle.atspi_tree_model.proofs.Lookup.{each_append}
use Rattle.atspi_message.specs.Envelope.{Envelope}
use Rattle.atspi_protocol.specs.ends.Messages.{replies}
use Rattle.atspi_protocol.specs.exporting.Exporter.{StartCall, hello, add_match, get_registered_events, embed, Happening, sends, Exporter, begins, named, numbered, queues, sent_in}
use Rattle.atspi_protocol.specs.exporting.Hearing.{exchanged, pairs_in, heard_after}
use Rattle.atspi_protocol.specs.exporting.Telling.{steps_told}
use Rattle.atspi_protocol.specs.exporting.Starting.{awaited, goes_on, asks, greeted, listened, ends_start, start_call, starts, name_or_empty, unique_name_in}
use Rattle.atspi_protocol.specs.exporting.Taking.{answer_to, app_takes, app_edits, takes_other, takes_call, takes_signal, called, call_happens, stepped}
use Rattle.atspi_protocol.proofs.OfExporting.Typed.{words_are_typed}
use Rattle.atspi_live_app.proofs.Told.{MayHappen, Meets, exchanged_may, heard_may, numbered_meet, replies_happen, start_may, told_may}

-- an application whose messages meet the rules, and whose next number is not 0
pub record IsSound (s : Exporter) : Type 0 where
  pub out : Each Meets s.out
  pub next : s.next ≢ 0

-- what is queued, whatever else changes
queues_sound : (s t : Exporter) (hs : List Happening) → t.out ≡ s.out ++ numbered s.next hs → t.next ≡ s.next + sent_in hs → Each MayHappen hs → IsSound s → IsSound t
queues_sound s t hs out next may sound = record {
  out = subst (λ (w : List Happening). Each Meets w) (sym out) (each_append Meets s.out (numbered s.next hs) sound.out (numbered_meet s.next hs sound.next may));
  next = λ z. sound.next (omega (arith, z, next));
}

stays : (s t : Exporter) → t.out ≡ s.out → t.next ≡ s.next → IsSound s → IsSound t
stays s t out next sound = record {
  out = subst (λ (w : List Happening). Each Meets w) (sym out) sound.out;
  next = subst (λ (n : ℕ). n ≢ 0) (sym next) sound.next;
}

asks_sound : (s : Exporter) (call : StartCall) → IsSound s → IsSound (asks s call)
asks_sound s call = queues_sound s (asks s call) (sends (start_call (name_or_empty s.name) call) ∷ []) refl refl (start_may (name_or_empty s.name) call)

greeted_sound : (s : Exporter) (o : Option (List ℕ)) → IsSound s → IsSound (greeted s o)
greeted_sound s None = stays s (ends_start s) refl refl
greeted_sound s (Some name) = queues_sound s (greeted s (Some name)) (sends (start_call name add_match) ∷ []) refl refl (start_may name add_match)

listened_sound : (s : Exporter) (o : Option (List (List ℕ × List ℕ))) → IsSound s → IsSound (listened s o)
listened_sound s None sound = stays s (ends_start s) refl refl sound
listened_sound s (Some listed) sound =
    let change = exchanged s.heard listed in
    let t = queues (record s { heard = change.heard }) change.told in
    asks_sound t embed (queues_sound s t change.told refl refl (exchanged_may s.heard listed) sound)

goes_on_sound : (s : Exporter) (call : StartCall) (body : List Data) → IsSound s → IsSound (goes_on s call body)
goes_on_sound s hello body = greeted_sound s (unique_name_in body)
goes_on_sound s add_match body = asks_sound s get_registered_events
goes_on_sound s get_registered_events body = listened_sound s (pairs_in body)
goes_on_sound s embed body = stays s (ends_start s) refl refl

start_sound : (b : Bool) (s : Exporter) (call : StartCall) (body : List Data) → IsSound s → IsSound (if b then goes_on s call body else ends_start s)
start_sound true s call body = goes_on_sound s call body
start_sound false s call body = stays s (ends_start s) refl refl

call_may : (s : Exporter) (name caller : List ℕ) (e : Envelope) → e.serial ≢ 0 → Each MayHappen (call_happens s name caller e)
call_may s name caller e some =
    let a = answer_to s name e in
    each_append MayHappen (steps_told s.heard name s.tree a.steps) (map sends (replies caller e a.reply)) (told_may s.heard name s.tree a.steps)
    (replies_happen caller e a.reply some (words_are_typed.answers (named s name) (name_or_empty e.path) e.interface e.member e.body))

call_sound : (s : Exporter) (name : List ℕ) (e : Envelope) (sender : Option (List ℕ)) → e.serial ≢ 0 → e.sender ≡ sender → IsSound s → IsSound (takes_call s name e)
call_sound s name e None some h sound = rw h sound
call_sound s name e (Some caller) some h sound = rw h (queues_sound s (called s name caller e) (call_happens s name caller e) refl refl (call_may s name caller e some) sound)

signal_sound : (b : Bool) (s : Exporter) (e : Envelope) → IsSound s → IsSound (if b then takes_signal s e else s)
signal_sound true s e sound = queues_sound s (takes_signal s e) (heard_after s.heard e).told refl refl (heard_may s.heard e) sound
signal_sound false s e sound = sound

named_sound : (b : Bool) (s : Exporter) (name : List ℕ) (e : Envelope) → e.serial ≢ 0 → IsSound s
    → IsSound (if b then takes_call s name e else if e.kind == 4 then takes_signal s e else s)
named_sound true s name e some = call_sound s name e e.sender some refl
named_sound false s name e some = signal_sound (e.kind == 4) s e

other_sound : (s : Exporter) (name : Option (List ℕ)) (e : Envelope) → e.serial ≢ 0 → IsSound s → IsSound (takes_other s name e)
other_sound s None e some sound = sound
other_sound s (Some name) e some sound = named_sound (e.kind == 1) s name e some sound

pub takes_sound : (s : Exporter) (e : Envelope) → e.serial ≢ 0 → IsSound s → IsSound (app_takes s e)
takes_sound s e some sound = at (awaited s.phase e) refl
  where
    at : (o : Option StartCall) → awaited s.phase e ≡ o → IsSound (app_takes s e)
    at None h = rw h (other_sound s s.name e some sound)
    at (Some call) h = rw h (start_sound (e.kind == 2) s call e.body sound)

-- an edit that is made
abbrev SoundIfDone : Result Exporter EditFault → Type 0
SoundIfDone (Ok s) = IsSound s
SoundIfDone (Err why) = Unit {0}

edits_sound : (s : Exporter) (edit : Edit) → IsSound s → SoundIfDone (app_edits s edit)
edits_sound s edit sound = at (steps_of_tree s.tree s.added edit) refl
  where
    at : (r : Result (List Step) EditFault) → steps_of_tree s.tree s.added edit ≡ r → SoundIfDone (app_edits s edit)
    at (Ok steps) h =
        let hs = steps_told s.heard (name_or_empty s.name) s.tree steps in
        rw h (queues_sound s (queues (stepped s steps) hs) hs refl refl (told_may s.heard (name_or_empty s.name) s.tree steps) sound)
    at (Err why) h = rw h tt

pub edited_sound : (s t : Exporter) (edit : Edit) → app_edits s edit ≡ Ok t → IsSound s → IsSound t
edited_sound s t edit h sound = subst (λ (r : Result Exporter EditFault). SoundIfDone r) h (edits_sound s edit sound)

pub starts_sound : (name : List ℕ) → IsSound (starts (begins name))
starts_sound name = asks_sound (begins name) hello (record { out = tt; next = λ z. absurd (omega (arith, z)) })
