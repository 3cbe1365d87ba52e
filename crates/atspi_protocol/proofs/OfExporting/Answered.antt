-- Every call that expects a reply gets one, and nothing else is one.
use Rattle.std.proofs.Common.{◌≡◌, ℕ, ◌+◌, Bool, true, false, Option, Some, None, refl, ap, ◌∙◌, subst}
use Rattle.std.specs.Prelude.{◌==◌, ◌||◌, ◌&&◌, List, [], ◌∷◌, ◌++◌, map, filter, not, codes, if◌then◌else◌}
use Rattle.std.proofs.lemmas.List.{append-nil}
use Rattle.std.proofs.lemmas.Bool.{eqb-true}
use Rattle.atspi_types.specs.Data.{Data}
use Rattle.atspi_tree_model.specs.Row.{Each}
use Rattle.atspi_tree_model.proofs.Lookup.{each_append}
use Rattle.atspi_message.specs.Envelope.{Envelope}
use Rattle.atspi_protocol.specs.ends.Messages.{Reply, returns, fails, reply_to, expects_reply}
use Rattle.atspi_protocol.specs.ends.Places.{registry}
use Rattle.atspi_protocol.specs.members.Asked.{is_text}
use Rattle.atspi_protocol.specs.exporting.Exporter.{StartCall, hello, add_match, get_registered_events, embed, Phase, new, awaits, over, Happening, sends, hears, deaf, Exporter, numbered, sent_in, queues}
use Rattle.atspi_protocol.specs.exporting.Hearing.{Change, unchanged, one_more, one_less, with_pair, pair_in, heard_after, exchanged, is_heard, is_pair, pairs_in, firsts}
use Rattle.atspi_protocol.specs.exporting.Telling.{steps_told}
use Rattle.atspi_protocol.specs.exporting.Starting.{awaited, goes_on, asks, greeted, listened, ends_start, start_call, name_or_empty, unique_name_in, is_number}
use Rattle.atspi_protocol.specs.exporting.Taking.{app_takes, takes_other, takes_call, takes_signal, answer_to}
use Rattle.atspi_protocol.specs.exporting.Laws.{replies_among, waiting_for, AddsReply, EachCallIsAnswered}
use Rattle.atspi_protocol.proofs.OfExporting.Queued.{replies-append, numbered-append}
use Rattle.atspi_protocol.proofs.OfExporting.Quiet.{IsQuiet, told_quiet, no_replies}

-- what is quiet adds no reply
quiet_out : (out : List Happening) (n : ℕ) (hs : List Happening) → Each IsQuiet hs → replies_among (out ++ numbered n hs) ≡ replies_among out
quiet_out out n hs h = replies-append out (numbered n hs) ∙ rw (no_replies n hs h) (append-nil (replies_among out))

call_quiet : (name : List ℕ) (call : StartCall) → Each IsQuiet (sends (start_call name call) ∷ [])
call_quiet name hello = (refl, tt)
call_quiet name add_match = (refl, tt)
call_quiet name get_registered_events = (refl, tt)
call_quiet name embed = (refl, tt)

asks_quiet : (s : Exporter) (call : StartCall) → replies_among (asks s call).out ≡ replies_among s.out
asks_quiet s call = quiet_out s.out s.next (sends (start_call (name_or_empty s.name) call) ∷ []) (call_quiet (name_or_empty s.name) call)

-- what is told of patterns
hears_quiet : (ps : List (List ℕ × List ℕ)) → Each IsQuiet (map (λ (p : List ℕ × List ℕ). hears p.0 p.1) ps)
hears_quiet [] = tt
hears_quiet (p ∷ ps) = (tt, hears_quiet ps)

deaf_quiet : (ps : List (List ℕ × List ℕ)) → Each IsQuiet (map (λ (p : List ℕ × List ℕ). deaf p.0 p.1) ps)
deaf_quiet [] = tt
deaf_quiet (p ∷ ps) = (tt, deaf_quiet ps)

exchanged_quiet : (heard listed : List (List ℕ × List ℕ)) → Each IsQuiet (exchanged heard listed).told
exchanged_quiet heard listed =
    let fallen = filter (λ p. not (is_heard listed p)) heard in
    let added = filter (λ p. not (is_heard heard p)) (firsts listed) in
    each_append IsQuiet (map (λ (p : List ℕ × List ℕ). deaf p.0 p.1) fallen) (map (λ (p : List ℕ × List ℕ). hears p.0 p.1) added)
    (deaf_quiet fallen) (hears_quiet added)

more_quiet : (b : Bool) (heard : List (List ℕ × List ℕ)) (p : List ℕ × List ℕ)
    → Each IsQuiet (if b then unchanged heard else record { heard = heard ++ p ∷ []; told = hears p.0 p.1 ∷ [] }).told
more_quiet true heard p = tt
more_quiet false heard p = (tt, tt)

less_quiet : (b : Bool) (heard rest : List (List ℕ × List ℕ)) (p : List ℕ × List ℕ)
    → Each IsQuiet (if b then record { heard = rest; told = deaf p.0 p.1 ∷ [] } else unchanged heard).told
less_quiet true heard rest p = (tt, tt)
less_quiet false heard rest p = tt

pair_more : (heard : List (List ℕ × List ℕ)) (o : Option (List ℕ × List ℕ)) → Each IsQuiet (with_pair one_more heard o).told
pair_more heard None = tt
pair_more heard (Some p) = more_quiet (is_heard heard p) heard p

pair_less : (heard : List (List ℕ × List ℕ)) (o : Option (List ℕ × List ℕ)) → Each IsQuiet (with_pair one_less heard o).told
pair_less heard None = tt
pair_less heard (Some p) = less_quiet (is_heard heard p) heard (filter (λ q. not (is_pair p q)) heard) p

choice_quiet : (b : Bool) (x y : Change) → Each IsQuiet x.told → Each IsQuiet y.told → Each IsQuiet (if b then x else y).told
choice_quiet true x y hx hy = hx
choice_quiet false x y hx hy = hy

pub heard_quiet : (heard : List (List ℕ × List ℕ)) (e : Envelope) → Each IsQuiet (heard_after heard e).told
heard_quiet heard e =
    let less = with_pair one_less heard (pair_in e.body) in
    let more = with_pair one_more heard (pair_in e.body) in
    let is_less = is_text e.member (codes "EventListenerDeregistered") in
    let is_more = is_text e.member (codes "EventListenerRegistered") in
    choice_quiet (is_text e.interface registry) (if is_more then more else if is_less then less else unchanged heard) (unchanged heard)
    (choice_quiet is_more more (if is_less then less else unchanged heard) (pair_more heard (pair_in e.body))
    (choice_quiet is_less less (unchanged heard) (pair_less heard (pair_in e.body)) tt)) tt

-- the start
greeted_quiet : (s : Exporter) (o : Option (List ℕ)) → replies_among (greeted s o).out ≡ replies_among s.out
greeted_quiet s None = refl
greeted_quiet s (Some name) = asks_quiet (record s { name = Some name }) add_match

listened_quiet : (s : Exporter) (o : Option (List (List ℕ × List ℕ))) → replies_among (listened s o).out ≡ replies_among s.out
listened_quiet s None = refl
listened_quiet s (Some listed) =
    let change = exchanged s.heard listed in
    asks_quiet (queues (record s { heard = change.heard }) change.told) embed
    ∙ quiet_out s.out s.next change.told (exchanged_quiet s.heard listed)

goes_on_quiet : (s : Exporter) (call : StartCall) (body : List Data) → replies_among (goes_on s call body).out ≡ replies_among s.out
goes_on_quiet s hello body = greeted_quiet s (unique_name_in body)
goes_on_quiet s add_match body = asks_quiet s get_registered_events
goes_on_quiet s get_registered_events body = listened_quiet s (pairs_in body)
goes_on_quiet s embed body = refl

-- an answer to a call of its own is no call
no_call : (k : ℕ) → (k == 2 || k == 3) ≡ true → (k == 1) ≡ false
no_call k h = at (k == 1) refl
  where
    at : (b : Bool) → (k == 1) ≡ b → (k == 1) ≡ false
    at false e = e
    at true e = let one : k ≡ 1 = eqb-true k 1 e in let no : (1 == 2 || 1 == 3) ≡ true = subst (λ j. (j == 2 || j == 3) ≡ true) one h in cc

first_true : (x y : Bool) (c : StartCall) (call : StartCall) → ◌≡◌ {A = Option StartCall} (if x && y then Some c else None) (Some call) → x ≡ true
first_true true y c call e = refl
first_true false y c call e = cc

awaited_no_call : (phase : Phase) (e : Envelope) (call : StartCall) → awaited phase e ≡ Some call → (e.kind == 1) ≡ false
awaited_no_call new e call h = cc
awaited_no_call over e call h = cc
awaited_no_call (awaits c serial) e call h = no_call e.kind (first_true (e.kind == 2 || e.kind == 3) (is_number e.reply serial) c call h)

not_waiting : (name : Option (List ℕ)) (e : Envelope) → (e.kind == 1) ≡ false → waiting_for name e ≡ None
not_waiting None e h = refl
not_waiting (Some name) e h = rw h refl

-- the reply itself
answered : (n : ℕ) (caller : List ℕ) (e : Envelope) (reply : Reply)
    → (r : Envelope) × (replies_among (numbered n (map sends (reply_to caller e.serial reply ∷ []))) ≡ r ∷ []) × (r.destination ≡ Some caller) × (r.reply ≡ Some e.serial)
answered n caller e (returns values) = (record (reply_to caller e.serial (returns values)) { serial = n }, refl, refl, refl)
answered n caller e (fails word) = (record (reply_to caller e.serial (fails word)) { serial = n }, refl, refl, refl)

call_out : (out told : List Happening) (n : ℕ) (rest : List Happening) → Each IsQuiet told
    → replies_among (out ++ numbered n (told ++ rest)) ≡ replies_among out ++ replies_among (numbered (n + sent_in told) rest)
call_out out told n rest h =
    replies-append out (numbered n (told ++ rest))
    ∙ ap (λ xs. replies_among out ++ xs)
    (ap replies_among (numbered-append n (n + sent_in told) told rest refl)
    ∙ replies-append (numbered n told) (numbered (n + sent_in told) rest)
    ∙ ap (λ xs. xs ++ replies_among (numbered (n + sent_in told) rest)) (no_replies n told h))

call_adds : (b : Bool) (out told : List Happening) (n : ℕ) (caller : List ℕ) (e : Envelope) (reply : Reply) → Each IsQuiet told
    → AddsReply (if b then Some caller else None) e.serial (replies_among out)
    (replies_among (out ++ numbered n (told ++ map sends (if b then reply_to caller e.serial reply ∷ [] else []))))
call_adds true out told n caller e reply h =
    let a = answered (n + sent_in told) caller e reply in
    (a.0, call_out out told n (map sends (reply_to caller e.serial reply ∷ [])) h ∙ ap (λ xs. replies_among out ++ xs) a.1, a.2, a.3)
call_adds false out told n caller e reply h = call_out out told n [] h ∙ append-nil (replies_among out)

none_if : (b : Bool) → ◌≡◌ {A = Option (List ℕ)} (if b then None else None) None
none_if true = refl
none_if false = refl

takes_call_adds : (s : Exporter) (name : List ℕ) (e : Envelope) (sender : Option (List ℕ)) → e.sender ≡ sender
    → AddsReply (if expects_reply e then e.sender else None) e.serial (replies_among s.out) (replies_among (takes_call s name e).out)
takes_call_adds s name e None h = rw h (rw (none_if (expects_reply e)) refl)
takes_call_adds s name e (Some caller) h =
    rw h (call_adds (expects_reply e) s.out (steps_told s.heard name s.tree (answer_to s name e).steps) s.next caller e (answer_to s name e).reply
    (told_quiet s.heard name s.tree (answer_to s name e).steps))

signal_quiet : (s : Exporter) (e : Envelope) → replies_among (takes_signal s e).out ≡ replies_among s.out
signal_quiet s e = quiet_out s.out s.next (heard_after s.heard e).told (heard_quiet s.heard e)

otherwise : (b : Bool) (s : Exporter) (e : Envelope) → replies_among (if b then takes_signal s e else s).out ≡ replies_among s.out
otherwise true s e = signal_quiet s e
otherwise false s e = refl

named_adds : (b : Bool) (s : Exporter) (name : List ℕ) (e : Envelope) → (b ≡ false → expects_reply e ≡ false)
    → AddsReply (if expects_reply e then e.sender else None) e.serial (replies_among s.out)
    (replies_among (if b then takes_call s name e else if e.kind == 4 then takes_signal s e else s).out)
named_adds true s name e h = takes_call_adds s name e e.sender refl
named_adds false s name e h = rw (h refl) (otherwise (e.kind == 4) s e)

other_adds : (s : Exporter) (name : Option (List ℕ)) (e : Envelope)
    → AddsReply (waiting_for name e) e.serial (replies_among s.out) (replies_among (takes_other s name e).out)
other_adds s None e = refl
other_adds s (Some name) e = named_adds (e.kind == 1) s name e (λ h. rw h refl)

start_quiet : (b : Bool) (s : Exporter) (call : StartCall) (body : List Data)
    → replies_among (if b then goes_on s call body else ends_start s).out ≡ replies_among s.out
start_quiet true s call body = goes_on_quiet s call body
start_quiet false s call body = refl

pub each_call_is_answered : EachCallIsAnswered
each_call_is_answered s e = at (awaited s.phase e) refl
  where
    at : (o : Option StartCall) → awaited s.phase e ≡ o
        → AddsReply (waiting_for s.name e) e.serial (replies_among s.out) (replies_among (app_takes s e).out)
    at None h = rw h (other_adds s s.name e)
    at (Some call) h = rw h (rw (not_waiting s.name e (awaited_no_call s.phase e call h)) (start_quiet (e.kind == 2) s call e.body))
