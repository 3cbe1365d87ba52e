-- What an application does at a message.
use Rattle.std.proofs.Common.{◌≡◌, ℕ, Bool, true, false, Option, Some, None, List, [], ◌∷◌, ◌++◌, map, refl, sym, ◌∙◌}
use Rattle.std.specs.Prelude.{◌==◌, not, filter, codes, if◌then◌else◌}
use Rattle.atspi_types.specs.Data.{Data}
use Rattle.atspi_tree_model.specs.declared.step.Step.{Step}
use Rattle.atspi_tree_model.specs.RowRules.{rows}
use Rattle.atspi_tree_model.specs.Tree.{after_all}
use Rattle.atspi_message.specs.Envelope.{Envelope}
use Rattle.atspi_protocol.specs.ends.Messages.{replies}
use Rattle.atspi_protocol.specs.ends.Places.{registry}
use Rattle.atspi_protocol.specs.members.Asked.{is_text}
use Rattle.atspi_protocol.specs.exporting.Exporter.{StartCall, hello, add_match, get_registered_events, embed, Happening, sends, hears, deaf, Exporter, named, numbered, queues}
use Rattle.atspi_protocol.specs.exporting.Hearing.{exchanged, firsts, is_heard, is_pair, pairs_in, heard_after, Change, unchanged, one_more, one_less, with_pair, pair_in}
use Rattle.atspi_protocol.specs.exporting.Telling.{steps_told}
use Rattle.atspi_protocol.specs.exporting.Starting.{awaited, goes_on, asks, greeted, listened, ends_start, start_call, name_or_empty, unique_name_in}
use Rattle.atspi_protocol.specs.exporting.Taking.{added_by, app_takes, takes_other, takes_call, takes_signal, called, answer_to}
use Rattle.atspi_protocol.specs.exporting.Laws.{HasTree}
use Rattle.atspi_protocol.proofs.OfExporting.Staying.{answers_apply}
use Rattle.atspi_trace_laws.proofs.OfSteps.Doings.{tree_by, count_by, IsStill, still_append, still_sends, still_deaf, still_hears, still_done, still_tree, still_count, done_append, tree_append, count_append, done_numbered, tree_numbered, count_numbered, told_done, told_tree, told_count, Did, nothing_done, still_did, both_did}

asks_did : (s : Exporter) (call : StartCall) → Did s (asks s call)
asks_did s call = still_did s (asks s call) (sends (start_call (name_or_empty s.name) call) ∷ []) refl refl refl tt

greeted_did : (s : Exporter) (o : Option (List ℕ)) → Did s (greeted s o)
greeted_did s None = nothing_done s (ends_start s) refl refl refl
greeted_did s (Some name) = still_did s (greeted s (Some name)) (sends (start_call name add_match) ∷ []) refl refl refl tt

listened_did : (s : Exporter) (o : Option (List (List ℕ × List ℕ))) → Did s (listened s o)
listened_did s None = nothing_done s (ends_start s) refl refl refl
listened_did s (Some listed) =
    let change : Change = exchanged s.heard listed in
    let t : Exporter = queues (record s { heard = change.heard }) change.told in
    let fallen : List (List ℕ × List ℕ) = filter (λ p. not (is_heard listed p)) s.heard in
    let added : List (List ℕ × List ℕ) = filter (λ p. not (is_heard s.heard p)) (firsts listed) in
    both_did s t (listened s (Some listed))
    (still_did s t change.told refl refl refl (still_append (map (λ (p : List ℕ × List ℕ). deaf p.0 p.1) fallen) (map (λ (p : List ℕ × List ℕ). hears p.0 p.1) added) (still_deaf fallen) (still_hears added)))
    (asks_did t embed)

goes_on_did : (s : Exporter) (call : StartCall) (body : List Data) → Did s (goes_on s call body)
goes_on_did s hello body = greeted_did s (unique_name_in body)
goes_on_did s add_match body = asks_did s get_registered_events
goes_on_did s get_registered_events body = listened_did s (pairs_in body)
goes_on_did s embed body = nothing_done s (ends_start s) refl refl refl

start_did : (b : Bool) (s : Exporter) (call : StartCall) (body : List Data) → Did s (if b then goes_on s call body else ends_start s)
start_did true s call body = goes_on_did s call body
start_did false s call body = nothing_done s (ends_start s) refl refl refl

-- signals
more_still : (b : Bool) (heard : List (List ℕ × List ℕ)) (p : List ℕ × List ℕ)
    → IsStill (if b then unchanged heard else record { heard = heard ++ p ∷ []; told = hears p.0 p.1 ∷ [] }).told
more_still true heard p = tt
more_still false heard p = tt

less_still : (b : Bool) (heard : List (List ℕ × List ℕ)) (p : List ℕ × List ℕ)
    → IsStill (if b then record { heard = filter (λ q. not (is_pair p q)) heard; told = deaf p.0 p.1 ∷ [] } else unchanged heard).told
less_still true heard p = tt
less_still false heard p = tt

more_with : (heard : List (List ℕ × List ℕ)) (o : Option (List ℕ × List ℕ)) → IsStill (with_pair one_more heard o).told
more_with heard None = tt
more_with heard (Some p) = more_still (is_heard heard p) heard p

less_with : (heard : List (List ℕ × List ℕ)) (o : Option (List ℕ × List ℕ)) → IsStill (with_pair one_less heard o).told
less_with heard None = tt
less_with heard (Some p) = less_still (is_heard heard p) heard p

heard_still : (heard : List (List ℕ × List ℕ)) (e : Envelope) → IsStill (heard_after heard e).told
heard_still heard e = by (is_text e.interface registry) (is_text e.member (codes "EventListenerRegistered")) (is_text e.member (codes "EventListenerDeregistered"))
  where
    by : (a b c : Bool)
        → IsStill (if a then (if b then with_pair one_more heard (pair_in e.body) else if c then with_pair one_less heard (pair_in e.body) else unchanged heard) else unchanged heard).told
    by false b c = tt
    by true true c = more_with heard (pair_in e.body)
    by true false true = less_with heard (pair_in e.body)
    by true false false = tt

signal_did : (b : Bool) (s : Exporter) (e : Envelope) → Did s (if b then takes_signal s e else s)
signal_did true s e = still_did s (takes_signal s e) (heard_after s.heard e).told refl refl refl (heard_still s.heard e)
signal_did false s e = nothing_done s s refl refl refl

-- calls
called_did : (s : Exporter) (name caller : List ℕ) (e : Envelope) → HasTree s → Did s (called s name caller e)
called_did s name caller e has =
    let ss : List Step = (answer_to s name e).steps in
    let hs : List Happening = steps_told s.heard name s.tree ss in
    let rs : List Happening = map sends (replies caller e (answer_to s name e).reply) in
    let still : IsStill rs = still_sends (λ x. x) (replies caller e (answer_to s name e).reply) in
    let tree : tree_by s.tree hs ≡ after_all rows s.tree ss = told_tree s.heard name s.tree ss in
    let added : count_by s.added hs ≡ added_by s.added ss = told_count s.heard name s.tree s.added ss in
    record {
      doings = numbered s.next (hs ++ rs);
      out = refl;
      apply = done_numbered s.tree s.added s.next (hs ++ rs)
          (done_append s.tree s.added hs rs (told_done s.heard name s.tree s.added ss (answers_apply (named s name) (name_or_empty e.path) e.interface e.member e.body has))
          (still_done (tree_by s.tree hs) (count_by s.added hs) rs still));
      tree = sym (tree_numbered s.tree s.next (hs ++ rs) ∙ tree_append s.tree hs rs ∙ still_tree (tree_by s.tree hs) rs still ∙ tree);
      added = sym (count_numbered s.added s.next (hs ++ rs) ∙ count_append s.added hs rs ∙ still_count (count_by s.added hs) rs still ∙ added);
    }

call_did : (s : Exporter) (name : List ℕ) (e : Envelope) (sender : Option (List ℕ)) → e.sender ≡ sender → HasTree s → Did s (takes_call s name e)
call_did s name e None h has = rw h (nothing_done s s refl refl refl)
call_did s name e (Some caller) h has = rw h (called_did s name caller e has)

named_did : (b : Bool) (s : Exporter) (name : List ℕ) (e : Envelope) → HasTree s → Did s (if b then takes_call s name e else if e.kind == 4 then takes_signal s e else s)
named_did true s name e has = call_did s name e e.sender refl has
named_did false s name e has = signal_did (e.kind == 4) s e

other_did : (s : Exporter) (name : Option (List ℕ)) (e : Envelope) → HasTree s → Did s (takes_other s name e)
other_did s None e has = nothing_done s s refl refl refl
other_did s (Some name) e has = named_did (e.kind == 1) s name e has

pub takes_did : (s : Exporter) (e : Envelope) → HasTree s → Did s (app_takes s e)
takes_did s e has = by (awaited s.phase e) refl
  where
    by : (o : Option StartCall) → awaited s.phase e ≡ o → Did s (app_takes s e)
    by None h = rw h (other_did s s.name e has)
    by (Some call) h = rw h (start_did (e.kind == 2) s call e.body)

pub start_did_nothing : (s : Exporter) (call : StartCall) → Did s (asks s call)
start_did_nothing s call = asks_did s call
