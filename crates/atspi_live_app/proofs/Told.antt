-- What happens at an application, among which each message may be sent.
use Rattle.std.proofs.Common.{◌≢◌, ℕ, ◌+◌, Bool, true, false, List, [], ◌∷◌, ◌++◌, map, Option, Some, None, arith}
use Rattle.std.specs.Prelude.{codes, filter, not, if◌then◌else◌}
use Rattle.atspi_tree_model.specs.declared.step.Step.{Step}
use Rattle.atspi_tree_model.specs.Forest.{Forest}
use Rattle.atspi_tree_model.specs.Row.{Each, TreeRow}
use Rattle.atspi_tree_model.specs.RowRules.{rows}
use Rattle.atspi_tree_model.specs.Tree.{after}
use Rattle.atspi_tree_model.proofs.Lookup.{each_append, each_filter}
use Rattle.atspi_message.specs.Envelope.{Envelope}
use Rattle.atspi_message.specs.Rules.{MeetsRules}
use Rattle.atspi_protocol.specs.ends.Messages.{Reply, replies, expects_reply, reply_to}
use Rattle.atspi_protocol.specs.ends.Places.{registry}
use Rattle.atspi_protocol.specs.members.Asked.{is_text}
use Rattle.atspi_protocol.specs.announcing.Signals.{Signal}
use Rattle.atspi_protocol.specs.announcing.Announced.{announced}
use Rattle.atspi_protocol.specs.exporting.Exporter.{StartCall, hello, add_match, get_registered_events, embed, Happening, steps, sends, hears, deaf, numbered}
use Rattle.atspi_protocol.specs.exporting.Hearing.{Change, exchanged, heard_after, one_more, one_less, with_pair, pair_in, is_covered, is_heard, is_pair, firsts, unchanged}
use Rattle.atspi_protocol.specs.exporting.Telling.{asked_for, steps_told, step_told}
use Rattle.atspi_protocol.specs.exporting.Starting.{start_call}
use Rattle.atspi_protocol.specs.exporting.Laws.{IsTypedReply}
use Rattle.atspi_live_app.proofs.May.{MaySend, call_may, reply_may}
use Rattle.atspi_live_app.proofs.Shaped.{MayTell, signals_may}

-- a message may be sent, whatever number it gets
abbrev pub MayHappen : Happening → Type 0
MayHappen (sends e) = MaySend e
MayHappen (steps step) = Unit {0}
MayHappen (hears bus pattern) = Unit {0}
MayHappen (deaf bus pattern) = Unit {0}

-- or it meets the rules with the number that it has
abbrev pub Meets : Happening → Type 0
Meets (sends e) = MeetsRules e
Meets (steps step) = Unit {0}
Meets (hears bus pattern) = Unit {0}
Meets (deaf bus pattern) = Unit {0}

pub numbered_meet : (n : ℕ) (hs : List Happening) → n ≢ 0 → Each MayHappen hs → Each Meets (numbered n hs)
numbered_meet n [] some m = tt
numbered_meet n (sends e ∷ hs) some m = (m.0 n some, numbered_meet (n + 1) hs (λ z. absurd (omega (arith, z))) m.1)
numbered_meet n (steps step ∷ hs) some m = (tt, numbered_meet n hs some m.1)
numbered_meet n (hears bus pattern ∷ hs) some m = (tt, numbered_meet n hs some m.1)
numbered_meet n (deaf bus pattern ∷ hs) some m = (tt, numbered_meet n hs some m.1)

-- steps
signals_happen : (ss : List Signal) → Each MayTell ss → Each MayHappen (map (λ (s : Signal). sends s.message) ss)
signals_happen [] h = tt
signals_happen (s ∷ ss) h = (h.0, signals_happen ss h.1)

pub told_may : (heard : List (List ℕ × List ℕ)) (bus : List ℕ) (f : Forest TreeRow) (ss : List Step) → Each MayHappen (steps_told heard bus f ss)
told_may heard bus f [] = tt
told_may heard bus f (step ∷ more) =
    each_append MayHappen (step_told heard bus f step) _
    (tt, signals_happen (asked_for heard (announced bus f step)) (each_filter MayTell (λ (s : Signal). is_covered heard s.event s.minor) (announced bus f step) (signals_may bus f step)))
    (told_may heard bus (after rows f step) more)

-- replies
pub replies_happen : (caller : List ℕ) (e : Envelope) (reply : Reply) → e.serial ≢ 0 → IsTypedReply reply → Each MayHappen (map sends (replies caller e reply))
replies_happen caller e reply some typed = by (expects_reply e)
  where
    by : (b : Bool) → Each MayHappen (map sends (if b then reply_to caller e.serial reply ∷ [] else []))
    by true = (reply_may caller e.serial reply some typed, tt)
    by false = tt

-- the calls of the start
pub start_may : (name : List ℕ) (call : StartCall) → Each MayHappen (sends (start_call name call) ∷ [])
start_may name hello = (call_may _ _ _ _ [] tt, tt)
start_may name add_match = (call_may _ _ _ _ _ (tt, tt), tt)
start_may name get_registered_events = (call_may _ _ _ _ [] tt, tt)
start_may name embed = (call_may _ _ _ _ _ ((tt, (tt, tt)), tt), tt)

-- patterns
hears_may : (ps : List (List ℕ × List ℕ)) → Each MayHappen (map (λ (p : List ℕ × List ℕ). hears p.0 p.1) ps)
hears_may [] = tt
hears_may (p ∷ ps) = (tt, hears_may ps)

deaf_may : (ps : List (List ℕ × List ℕ)) → Each MayHappen (map (λ (p : List ℕ × List ℕ). deaf p.0 p.1) ps)
deaf_may [] = tt
deaf_may (p ∷ ps) = (tt, deaf_may ps)

pub exchanged_may : (heard listed : List (List ℕ × List ℕ)) → Each MayHappen (exchanged heard listed).told
exchanged_may heard listed =
    let fallen = filter (λ p. not (is_heard listed p)) heard in
    let added = filter (λ p. not (is_heard heard p)) (firsts listed) in
    each_append MayHappen (map (λ (p : List ℕ × List ℕ). deaf p.0 p.1) fallen) (map (λ (p : List ℕ × List ℕ). hears p.0 p.1) added)
    (deaf_may fallen) (hears_may added)

more_may : (b : Bool) (heard : List (List ℕ × List ℕ)) (p : List ℕ × List ℕ)
    → Each MayHappen (if b then unchanged heard else record { heard = heard ++ p ∷ []; told = hears p.0 p.1 ∷ [] }).told
more_may true heard p = tt
more_may false heard p = (tt, tt)

less_may : (b : Bool) (heard rest : List (List ℕ × List ℕ)) (p : List ℕ × List ℕ)
    → Each MayHappen (if b then record { heard = rest; told = deaf p.0 p.1 ∷ [] } else unchanged heard).told
less_may true heard rest p = (tt, tt)
less_may false heard rest p = tt

pair_more : (heard : List (List ℕ × List ℕ)) (o : Option (List ℕ × List ℕ)) → Each MayHappen (with_pair one_more heard o).told
pair_more heard None = tt
pair_more heard (Some p) = more_may (is_heard heard p) heard p

pair_less : (heard : List (List ℕ × List ℕ)) (o : Option (List ℕ × List ℕ)) → Each MayHappen (with_pair one_less heard o).told
pair_less heard None = tt
pair_less heard (Some p) = less_may (is_heard heard p) heard (filter (λ q. not (is_pair p q)) heard) p

choice_may : (b : Bool) (x y : Change) → Each MayHappen x.told → Each MayHappen y.told → Each MayHappen (if b then x else y).told
choice_may true x y hx hy = hx
choice_may false x y hx hy = hy

pub heard_may : (heard : List (List ℕ × List ℕ)) (e : Envelope) → Each MayHappen (heard_after heard e).told
heard_may heard e =
    let less = with_pair one_less heard (pair_in e.body) in
    let more = with_pair one_more heard (pair_in e.body) in
    let is_less = is_text e.member (codes "EventListenerDeregistered") in
    let is_more = is_text e.member (codes "EventListenerRegistered") in
    choice_may (is_text e.interface registry) (if is_more then more else if is_less then less else unchanged heard) (unchanged heard)
    (choice_may is_more more (if is_less then less else unchanged heard) (pair_more heard (pair_in e.body))
    (choice_may is_less less (unchanged heard) (pair_less heard (pair_in e.body)) tt)) tt
