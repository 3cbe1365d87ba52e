-- What an application sends: replies, signals, and the calls of its start, of which AddMatch asks for the registry's signals.
use Rattle.std.proofs.Common.{◌≡◌, ℕ, ◌+◌, Bool, true, false, List, [], ◌∷◌, ◌++◌, map, Option, None, Some, refl, sym, subst}
use Rattle.std.specs.Prelude.{◌==◌, not, filter, codes, if◌then◌else◌}
use Rattle.std.specs.List.{AllByRecursion}
use lib.Utf8.{encode}
use Rattle.atspi_types.specs.Data.{Data}
use Rattle.atspi_message.specs.Envelope.{Envelope}
use Rattle.atspi_protocol.specs.ends.Places.{registry}
use Rattle.atspi_protocol.specs.ends.Messages.{replies}
use Rattle.atspi_protocol.specs.members.Asked.{is_text}
use Rattle.atspi_protocol.specs.exporting.Exporter.{StartCall, hello, add_match, get_registered_events, embed, Happening, steps, sends, hears, deaf, Exporter, numbered, queues, begins}
use Rattle.atspi_protocol.specs.exporting.Hearing.{Change, unchanged, is_heard, is_pair, one_more, one_less, firsts, exchanged, pair_in, with_pair, heard_after, pairs_in}
use Rattle.atspi_protocol.specs.exporting.Starting.{name_or_empty, start_call, asks, starts, ends_start, unique_name_in, greeted, listened, goes_on, awaited}
use Rattle.atspi_protocol.specs.exporting.Taking.{answer_to, call_happens, called, stepped, takes_call, takes_signal, takes_other, app_takes}
use Rattle.atspi_protocol.specs.exporting.Telling.{steps_told}
use Rattle.atspi_match.specs.declared.routing.member.BusMember.TheVariants.{Hello, AddMatch, RemoveMatch}
use Rattle.atspi_bus_steps.specs.Spoken.{IsRuleOf}
use Rattle.atspi_trace.specs.Rules.{rule_in}
use Rattle.atspi_trace.proofs.RulesRead.{rules_read}
use Rattle.atspi_world.proofs.Asking.{AsksTruly, uncalled_asks, foreign_asks, plain_asks, no_removal, replies_ask, either_way}
use Rattle.atspi_world.proofs.Signals.{all-append, SendsSignal, steps_signals}

-- what is sent asks for a rule of the table, or for none
abbrev pub SendsTruly : Happening → Type 0
SendsTruly (sends m) = AsksTruly m
SendsTruly (steps step) = Unit {0}
SendsTruly (hears listener pattern) = Unit {0}
SendsTruly (deaf listener pattern) = Unit {0}

-- a number changes nothing of it
numbered_sends : (n : ℕ) (hs : List Happening) → AllByRecursion SendsTruly hs → AllByRecursion SendsTruly (numbered n hs)
numbered_sends n [] a = tt
numbered_sends n (sends m ∷ hs) a = (a.0, numbered_sends (n + 1) hs a.1)
numbered_sends n (steps step ∷ hs) a = (tt, numbered_sends n hs a.1)
numbered_sends n (hears listener pattern ∷ hs) a = (tt, numbered_sends n hs a.1)
numbered_sends n (deaf listener pattern ∷ hs) a = (tt, numbered_sends n hs a.1)

-- all that is queued
abbrev QueuesTruly : Exporter → Type 0
QueuesTruly s = AllByRecursion SendsTruly s.out

queued : (s : Exporter) (hs : List Happening) → QueuesTruly s → AllByRecursion SendsTruly hs → QueuesTruly (queues s hs)
queued s hs i a = all-append SendsTruly s.out (numbered s.next hs) i (numbered_sends s.next hs a)

-- signals ask for none
signals_ask : (hs : List Happening) → AllByRecursion SendsSignal hs → AllByRecursion SendsTruly hs
signals_ask [] a = tt
signals_ask (sends m ∷ hs) a = (uncalled_asks m 4 a.0 (λ is. cc), signals_ask hs a.1)
signals_ask (steps step ∷ hs) a = (tt, signals_ask hs a.1)
signals_ask (hears listener pattern ∷ hs) a = (tt, signals_ask hs a.1)
signals_ask (deaf listener pattern ∷ hs) a = (tt, signals_ask hs a.1)

-- THE CALLS OF A START
signals_read : (name : List ℕ) → IsRuleOf (start_call name add_match) (rule_in (start_call name add_match))
unfolding encode
signals_read name AddMatch is = rules_read.0
signals_read name RemoveMatch is = absurd (no_removal is)
signals_read name _ is = tt

start_asks : (name : List ℕ) (call : StartCall) → AsksTruly (start_call name call)
start_asks name hello = plain_asks (start_call name hello) Hello refl refl
start_asks name add_match = λ for_bus one. signals_read name
start_asks name get_registered_events = foreign_asks (start_call name get_registered_events) refl
start_asks name embed = foreign_asks (start_call name embed) refl

start_sends : (s : Exporter) (call : StartCall) → QueuesTruly s → QueuesTruly (asks s call)
start_sends s call i = queued s (sends (start_call (name_or_empty s.name) call) ∷ []) i (start_asks (name_or_empty s.name) call, tt)

-- WHAT IT HEARS of patterns it does not send
abbrev TellsTruly : Change → Type 0
TellsTruly change = AllByRecursion SendsTruly change.told

more_told : (heard : List (List ℕ × List ℕ)) (p : List ℕ × List ℕ) → TellsTruly (one_more heard p)
more_told heard p = either_way TellsTruly (is_heard heard p) (unchanged heard) (record { heard = heard ++ p ∷ []; told = hears p.0 p.1 ∷ [] }) tt (tt, tt)

less_told : (heard : List (List ℕ × List ℕ)) (p : List ℕ × List ℕ) → TellsTruly (one_less heard p)
less_told heard p = either_way TellsTruly (is_heard heard p) (record { heard = filter (λ q. not (is_pair p q)) heard; told = deaf p.0 p.1 ∷ [] }) (unchanged heard) (tt, tt) tt

pair_told : (change : List (List ℕ × List ℕ) → List ℕ × List ℕ → Change) (heard : List (List ℕ × List ℕ)) (o : Option (List ℕ × List ℕ)) → ((p : List ℕ × List ℕ) → TellsTruly (change heard p)) → TellsTruly (with_pair change heard o)
pair_told change heard None all = tt
pair_told change heard (Some p) all = all p

signal_told : (heard : List (List ℕ × List ℕ)) (e : Envelope) → TellsTruly (heard_after heard e)
signal_told heard e = by (is_text e.interface registry) (is_text e.member (codes "EventListenerRegistered")) (is_text e.member (codes "EventListenerDeregistered"))
  where
    more : Change
    more = with_pair one_more heard (pair_in e.body)

    less : Change
    less = with_pair one_less heard (pair_in e.body)

    by : (a b c : Bool) → TellsTruly (if a then (if b then more else if c then less else unchanged heard) else unchanged heard)
    by true true c = pair_told one_more heard (pair_in e.body) (more_told heard)
    by true false true = pair_told one_less heard (pair_in e.body) (less_told heard)
    by true false false = tt
    by false b c = tt

fallen_told : (ps : List (List ℕ × List ℕ)) → AllByRecursion SendsTruly (map (λ (p : List ℕ × List ℕ). deaf p.0 p.1) ps)
fallen_told [] = tt
fallen_told (p ∷ ps) = (tt, fallen_told ps)

added_told : (ps : List (List ℕ × List ℕ)) → AllByRecursion SendsTruly (map (λ (p : List ℕ × List ℕ). hears p.0 p.1) ps)
added_told [] = tt
added_told (p ∷ ps) = (tt, added_told ps)

exchange_told : (heard listed : List (List ℕ × List ℕ)) → TellsTruly (exchanged heard listed)
exchange_told heard listed =
    let fallen : List (List ℕ × List ℕ) = filter (λ p. not (is_heard listed p)) heard in
    let added : List (List ℕ × List ℕ) = filter (λ p. not (is_heard heard p)) (firsts listed) in
    all-append SendsTruly (map (λ (p : List ℕ × List ℕ). deaf p.0 p.1) fallen) (map (λ (p : List ℕ × List ℕ). hears p.0 p.1) added) (fallen_told fallen) (added_told added)

-- A RETURN to a call of its start
greeted_sends : (s : Exporter) (o : Option (List ℕ)) → QueuesTruly s → QueuesTruly (greeted s o)
greeted_sends s None i = i
greeted_sends s (Some name) i = start_sends (record s { name = Some name }) add_match i

listened_sends : (s : Exporter) (o : Option (List (List ℕ × List ℕ))) → QueuesTruly s → QueuesTruly (listened s o)
listened_sends s None i = i
listened_sends s (Some listed) i =
    let change : Change = exchanged s.heard listed in
    start_sends (queues (record s { heard = change.heard }) change.told) embed (queued (record s { heard = change.heard }) change.told i (exchange_told s.heard listed))

return_sends : (s : Exporter) (call : StartCall) (body : List Data) → QueuesTruly s → QueuesTruly (goes_on s call body)
return_sends s hello body i = greeted_sends s (unique_name_in body) i
return_sends s add_match body i = start_sends s get_registered_events i
return_sends s get_registered_events body i = listened_sends s (pairs_in body) i
return_sends s embed body i = i

-- A CALL, whose steps are told before its reply
replies_sent : (ms : List Envelope) → AllByRecursion AsksTruly ms → AllByRecursion SendsTruly (map sends ms)
replies_sent [] a = tt
replies_sent (m ∷ ms) a = (a.0, replies_sent ms a.1)

called_sends : (s : Exporter) (name caller : List ℕ) (e : Envelope) → QueuesTruly s → QueuesTruly (called s name caller e)
called_sends s name caller e i =
    let a = answer_to s name e in
    queued (record (stepped s a.steps) { id = a.id }) (call_happens s name caller e) i
    (all-append SendsTruly (steps_told s.heard name s.tree a.steps) (map sends (replies caller e a.reply))
    (signals_ask (steps_told s.heard name s.tree a.steps) (steps_signals s.heard name s.tree a.steps)) (replies_sent (replies caller e a.reply) (replies_ask caller e a.reply)))

call_sends : (s : Exporter) (name : List ℕ) (e : Envelope) → QueuesTruly s → QueuesTruly (takes_call s name e)
call_sends s name e i = by e.sender
  where
    by_caller : Option (List ℕ) → Exporter
    by_caller None = s
    by_caller (Some caller) = called s name caller e

    by : (o : Option (List ℕ)) → QueuesTruly (by_caller o)
    by None = i
    by (Some caller) = called_sends s name caller e i

signal_sends : (s : Exporter) (e : Envelope) → QueuesTruly s → QueuesTruly (takes_signal s e)
signal_sends s e i = let change : Change = heard_after s.heard e in queued (record s { heard = change.heard }) change.told i (signal_told s.heard e)

other_sends : (s : Exporter) (name : Option (List ℕ)) (e : Envelope) → QueuesTruly s → QueuesTruly (takes_other s name e)
other_sends s None e i = i
other_sends s (Some name) e i =
    either_way QueuesTruly (e.kind == 1) (takes_call s name e) (if e.kind == 4 then takes_signal s e else s) (call_sends s name e i)
    (either_way QueuesTruly (e.kind == 4) (takes_signal s e) s (signal_sends s e i) i)

-- what was queued so far does, and so does what is queued when it takes a message
pub app_sends : (s : Exporter) (e : Envelope) → AllByRecursion SendsTruly s.out → AllByRecursion SendsTruly (app_takes s e).out
app_sends s e i = by (awaited s.phase e)
  where
    by_call : Option StartCall → Exporter
    by_call None = takes_other s s.name e
    by_call (Some call) = if e.kind == 2 then goes_on s call e.body else ends_start s

    by : (o : Option StartCall) → QueuesTruly (by_call o)
    by None = other_sends s s.name e i
    by (Some call) = either_way QueuesTruly (e.kind == 2) (goes_on s call e.body) (ends_start s) (return_sends s call e.body i) i

-- AN APPLICATION that has queued nothing takes a message, and starts
pub taking_sends : (s : Exporter) (e : Envelope) → s.out ≡ [] → AllByRecursion SendsTruly (app_takes s e).out
taking_sends s e none = app_sends s e (subst (AllByRecursion SendsTruly) (sym none) tt)

pub starting_sends : (name : List ℕ) → AllByRecursion SendsTruly (starts (begins name)).out
starting_sends name = start_sends (begins name) hello tt
