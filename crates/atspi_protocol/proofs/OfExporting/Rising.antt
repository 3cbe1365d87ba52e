-- The numbers of messages rise by one.
use Rattle.std.proofs.Common.{◌≡◌, ℕ, zero, suc, ◌+◌, Bool, true, false, Option, Some, None, refl, sym, ap, ◌∙◌, arith}
use Rattle.std.specs.Prelude.{◌==◌, List, [], ◌∷◌, ◌++◌, if◌then◌else◌, Result, Ok, Err}
use Rattle.std.proofs.lemmas.List.{append-nil, append_assoc}
use Rattle.atspi_types.specs.Data.{Data}
use Rattle.atspi_tree_model.specs.declared.edit.Edit.{Edit}
use Rattle.atspi_tree_model.specs.declared.edit.EditFault.{EditFault}
use Rattle.atspi_tree_model.specs.declared.step.Step.{Step}
use Rattle.atspi_tree_model.specs.Edits.{steps_of_tree}
use Rattle.atspi_message.specs.Envelope.{Envelope}
use Rattle.atspi_protocol.specs.exporting.Exporter.{StartCall, hello, add_match, get_registered_events, embed, Happening, sends, Exporter, numbered, sent_in, queues}
use Rattle.atspi_protocol.specs.exporting.Hearing.{exchanged, pairs_in, heard_after}
use Rattle.atspi_protocol.specs.exporting.Telling.{steps_told}
use Rattle.atspi_protocol.specs.exporting.Starting.{awaited, goes_on, asks, greeted, listened, ends_start, start_call, name_or_empty, unique_name_in}
use Rattle.atspi_protocol.specs.exporting.Taking.{app_takes, app_edits, takes_other, takes_call, takes_signal, called, call_happens, stepped}
use Rattle.atspi_protocol.specs.exporting.Laws.{numbers_among, rising, Counts, CountsIfDone, NumbersRise}
use Rattle.atspi_protocol.proofs.OfExporting.Queued.{numbers-append, numbers-rising}

rising-append : (k m n j : ℕ) → j ≡ n + k → rising (k + m) n ≡ rising k n ++ rising m j
rising-append zero m n j e = let same : j ≡ n = omega arith in let sum : 0 + m ≡ m = omega arith in rw (sum, same) refl
rising-append (suc k) m n j e =
    let sum : suc k + m ≡ suc (k + m) = omega arith in
    rw sum (ap (λ rest. n ∷ rest) (rising-append k m (n + 1) j (omega arith)))

-- what is queued, whatever else changes
queues_counts : (s t : Exporter) (hs : List Happening) → t.out ≡ s.out ++ numbered s.next hs → t.next ≡ s.next + sent_in hs → Counts s t
queues_counts s t hs out next = record {
  count = sent_in hs;
  numbers = ap numbers_among out ∙ numbers-append s.out (numbered s.next hs) ∙ ap (λ ns. numbers_among s.out ++ ns) (numbers-rising s.next hs);
  next = next;
}

stays : (s t : Exporter) → t.out ≡ s.out → t.next ≡ s.next → Counts s t
stays s t out next = record {
  count = 0;
  numbers = ap numbers_among out ∙ sym (append-nil (numbers_among s.out));
  next = next ∙ omega arith;
}

both : (s t u : Exporter) → Counts s t → Counts t u → Counts s u
both s t u a b = record {
  count = a.count + b.count;
  numbers =
      b.numbers
      ∙ ap (λ ns. ns ++ rising b.count t.next) a.numbers
      ∙ append_assoc (numbers_among s.out) (rising a.count s.next) (rising b.count t.next)
      ∙ ap (λ ns. numbers_among s.out ++ ns) (sym (rising-append a.count b.count s.next t.next a.next));
  next = b.next ∙ ap (λ n. n + b.count) a.next ∙ omega arith;
}

asks_counts : (s : Exporter) (call : StartCall) → Counts s (asks s call)
asks_counts s call = queues_counts s (asks s call) (sends (start_call (name_or_empty s.name) call) ∷ []) refl refl

greeted_counts : (s : Exporter) (o : Option (List ℕ)) → Counts s (greeted s o)
greeted_counts s None = stays s (ends_start s) refl refl
greeted_counts s (Some name) = queues_counts s (greeted s (Some name)) (sends (start_call name add_match) ∷ []) refl refl

listened_counts : (s : Exporter) (o : Option (List (List ℕ × List ℕ))) → Counts s (listened s o)
listened_counts s None = stays s (ends_start s) refl refl
listened_counts s (Some listed) =
    let change = exchanged s.heard listed in
    let t = queues (record s { heard = change.heard }) change.told in
    both s t (listened s (Some listed)) (queues_counts s t change.told refl refl) (asks_counts t embed)

goes_on_counts : (s : Exporter) (call : StartCall) (body : List Data) → Counts s (goes_on s call body)
goes_on_counts s hello body = greeted_counts s (unique_name_in body)
goes_on_counts s add_match body = asks_counts s get_registered_events
goes_on_counts s get_registered_events body = listened_counts s (pairs_in body)
goes_on_counts s embed body = stays s (ends_start s) refl refl

start_counts : (b : Bool) (s : Exporter) (call : StartCall) (body : List Data) → Counts s (if b then goes_on s call body else ends_start s)
start_counts true s call body = goes_on_counts s call body
start_counts false s call body = stays s (ends_start s) refl refl

call_counts : (s : Exporter) (name : List ℕ) (e : Envelope) (sender : Option (List ℕ)) → e.sender ≡ sender → Counts s (takes_call s name e)
call_counts s name e None h = rw h (stays s s refl refl)
call_counts s name e (Some caller) h = rw h (queues_counts s (called s name caller e) (call_happens s name caller e) refl refl)

signal_counts : (b : Bool) (s : Exporter) (e : Envelope) → Counts s (if b then takes_signal s e else s)
signal_counts true s e = queues_counts s (takes_signal s e) (heard_after s.heard e).told refl refl
signal_counts false s e = stays s s refl refl

named_counts : (b : Bool) (s : Exporter) (name : List ℕ) (e : Envelope)
    → Counts s (if b then takes_call s name e else if e.kind == 4 then takes_signal s e else s)
named_counts true s name e = call_counts s name e e.sender refl
named_counts false s name e = signal_counts (e.kind == 4) s e

other_counts : (s : Exporter) (name : Option (List ℕ)) (e : Envelope) → Counts s (takes_other s name e)
other_counts s None e = stays s s refl refl
other_counts s (Some name) e = named_counts (e.kind == 1) s name e

taken : (s : Exporter) (e : Envelope) → Counts s (app_takes s e)
taken s e = at (awaited s.phase e) refl
  where
    at : (o : Option StartCall) → awaited s.phase e ≡ o → Counts s (app_takes s e)
    at None h = rw h (other_counts s s.name e)
    at (Some call) h = rw h (start_counts (e.kind == 2) s call e.body)

edited : (s : Exporter) (edit : Edit) → CountsIfDone s (app_edits s edit)
edited s edit = at (steps_of_tree s.tree s.added edit) refl
  where
    at : (r : Result (List Step) EditFault) → steps_of_tree s.tree s.added edit ≡ r → CountsIfDone s (app_edits s edit)
    at (Ok steps) h =
        let hs = steps_told s.heard (name_or_empty s.name) s.tree steps in
        rw h (queues_counts s (queues (stepped s steps) hs) hs refl refl)
    at (Err fault) h = rw h tt

pub numbers_rise : NumbersRise
numbers_rise = record { taken = taken; edited = edited }
