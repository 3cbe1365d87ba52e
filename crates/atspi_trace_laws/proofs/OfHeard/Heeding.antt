-- What an application does at a message or an edit is told, and its pairs are those that it says it heard of.
use Rattle.std.proofs.Common.{◌≡◌, ◌⊎◌, inl, inr, ℕ, ◌+◌, Bool, true, false, List, [], ◌∷◌, ◌++◌, map, Option, None, Some, refl, sym, ap, ◌∙◌, subst, arith}
use Rattle.std.specs.Prelude.{◌==◌, not, filter, codes, if◌then◌else◌, Result, Ok, Err}
use Rattle.std.proofs.lemmas.List.{append-nil, append_assoc}
use Rattle.atspi_types.specs.Data.{Data}
use Rattle.atspi_tree_model.specs.declared.edit.Edit.{Edit}
use Rattle.atspi_tree_model.specs.declared.edit.EditFault.{EditFault}
use Rattle.atspi_tree_model.specs.declared.step.Step.{Step}
use Rattle.atspi_tree_model.specs.Edits.{steps_of_tree}
use Rattle.atspi_tree_model.specs.Forest.{Forest}
use Rattle.atspi_tree_model.specs.Row.{TreeRow}
use Rattle.atspi_tree_model.specs.RowRules.{rows}
use Rattle.atspi_tree_model.specs.Tree.{after, after_all}
use Rattle.atspi_message.specs.Envelope.{Envelope}
use Rattle.atspi_protocol.specs.ends.Messages.{Reply, returns, fails, reply_to, replies, expects_reply}
use Rattle.atspi_protocol.specs.ends.Places.{registry}
use Rattle.atspi_protocol.specs.members.Asked.{is_text}
use Rattle.atspi_protocol.specs.announcing.Signals.{Signal}
use Rattle.atspi_protocol.specs.announcing.Announced.{announced}
use Rattle.atspi_protocol.specs.exporting.Exporter.{StartCall, hello, add_match, get_registered_events, embed, Happening, steps, sends, hears, deaf, Exporter, numbered, sent_in, queues}
use Rattle.atspi_protocol.specs.exporting.Hearing.{exchanged, firsts, is_heard, is_pair, pairs_in, heard_after, Change, unchanged, one_more, one_less, with_pair, pair_in}
use Rattle.atspi_protocol.specs.exporting.Telling.{asked_for, steps_told}
use Rattle.atspi_protocol.specs.exporting.Starting.{awaited, goes_on, asks, greeted, listened, ends_start, start_call, name_or_empty, unique_name_in}
use Rattle.atspi_protocol.specs.exporting.Taking.{app_takes, app_edits, takes_other, takes_call, takes_signal, called, stepped, answer_to}
use Rattle.atspi_trace.specs.Entry.{Entry}
use Rattle.atspi_trace.specs.Causes.{did}
use Rattle.atspi_trace_laws.proofs.OfOrder.Each.{Each}
use Rattle.atspi_trace_laws.proofs.OfSteps.Doings.{IsStill, still_append, tree_by, tree_append, tree_numbered, still_tree, still_sends, told_tree}
use Rattle.atspi_trace_laws.proofs.OfHeard.Pairs.{heard_by, heard_append, heard_numbered, sent_numbered, sent_append, exchanged_heard}
use Rattle.atspi_trace_laws.proofs.OfHeard.Telling.{Under, under_both_lists, under_tells, Both, both_more, At, at_behind, Tells, tells_both, IsPlain, plain_each, plain_under, plain_tells, steps_under, steps_tell, told_heard}

-- no listener among what happened
abbrev pub NoListeners : List Happening → Type 0
NoListeners [] = Unit {0}
NoListeners (hears listener pattern ∷ hs) = ⊥
NoListeners (deaf listener pattern ∷ hs) = ⊥
NoListeners (h ∷ hs) = NoListeners hs

no_listeners_append : (hs ks : List Happening) → NoListeners hs → NoListeners ks → NoListeners (hs ++ ks)
no_listeners_append [] ks a b = b
no_listeners_append (hears listener pattern ∷ hs) ks a b = absurd a
no_listeners_append (deaf listener pattern ∷ hs) ks a b = absurd a
no_listeners_append (steps step ∷ hs) ks a b = no_listeners_append hs ks a b
no_listeners_append (sends e ∷ hs) ks a b = no_listeners_append hs ks a b

no_listeners_numbered : (n : ℕ) (hs : List Happening) → NoListeners hs → NoListeners (numbered n hs)
no_listeners_numbered n [] a = tt
no_listeners_numbered n (hears listener pattern ∷ hs) a = absurd a
no_listeners_numbered n (deaf listener pattern ∷ hs) a = absurd a
no_listeners_numbered n (steps step ∷ hs) a = no_listeners_numbered n hs a
no_listeners_numbered n (sends e ∷ hs) a = no_listeners_numbered (n + 1) hs a

no_listeners_sends : {A : Type 0} (message : A → Envelope) (xs : List A) → NoListeners (map (λ x. sends (message x)) xs)
no_listeners_sends message [] = tt
no_listeners_sends message (x ∷ xs) = no_listeners_sends message xs

no_listeners_told : (ps : List (List ℕ × List ℕ)) (name : List ℕ) (f : Forest TreeRow) (ss : List Step) → NoListeners (steps_told ps name f ss)
no_listeners_told ps name f [] = tt
no_listeners_told ps name f (step ∷ ss) =
    no_listeners_append (map (λ (s : Signal). sends s.message) (asked_for ps (announced name f step))) (steps_told ps name (after rows f step) ss)
    (no_listeners_sends (λ (s : Signal). s.message) (asked_for ps (announced name f step))) (no_listeners_told ps name (after rows f step) ss)

still_numbered : (n : ℕ) (hs : List Happening) → IsStill hs → IsStill (numbered n hs)
still_numbered n [] a = tt
still_numbered n (hears listener pattern ∷ hs) a = still_numbered n hs a
still_numbered n (deaf listener pattern ∷ hs) a = still_numbered n hs a
still_numbered n (steps step ∷ hs) a = absurd a
still_numbered n (sends e ∷ hs) a = still_numbered (n + 1) hs a

-- where steps happen nobody's pattern changes, and the other way round
abbrev pub IsOneKind : List Happening → Type 0
IsOneKind hs = IsStill hs ⊎ NoListeners hs

kind_numbered : (n : ℕ) (hs : List Happening) → IsOneKind hs → IsOneKind (numbered n hs)
kind_numbered n hs (inl a) = inl (still_numbered n hs a)
kind_numbered n hs (inr a) = inr (no_listeners_numbered n hs a)

-- the name that it has, or any where it has none, and then nobody listens
pub record IsNameOf (s : Exporter) (name : List ℕ) : Type 0 where
  pub deaf_ : s.name ≡ None → s.heard ≡ []
  pub same : (own : List ℕ) → s.name ≡ Some own → own ≡ name

-- what it did is told under its name, whatever that is where it neither stepped nor sent a signal
abbrev pub Plainly : ℕ → List Happening → Type 0
Plainly app hs = (name : List ℕ) (early : List Entry) → Each (Under name) early (map (did app) hs)

abbrev pub Properly : ℕ → Exporter → List Happening → Type 0
Properly app s hs = (name : List ℕ) → IsNameOf s name → (early : List Entry) → At early app s.heard s.tree s.next → Each (Under name) early (map (did app) hs)

-- what an application did between two states, and how the entries tell it
pub record Says (app : ℕ) (s t : Exporter) : Type 0 where
  pub doings : List Happening
  pub out : t.out ≡ s.out ++ doings
  pub pairs : t.heard ≡ heard_by s.heard doings
  pub tree : t.tree ≡ tree_by s.tree doings
  pub next : t.next ≡ s.next + sent_in doings
  pub kind : IsOneKind doings
  pub law : (early : List Entry) → At early app s.heard s.tree s.next → Each Both early (map (did app) doings)
  pub signed : Plainly app doings ⊎ Properly app s doings

says_nothing : (app : ℕ) (s t : Exporter) → t.out ≡ s.out → t.heard ≡ s.heard → t.tree ≡ s.tree → t.next ≡ s.next → Says app s t
says_nothing app s t out pairs tree next = record {
  doings = [];
  out = out ∙ sym (append-nil s.out);
  pairs = pairs;
  tree = tree;
  next = omega (arith, next);
  kind = inl tt;
  law = λ early at. tt;
  signed = inl (λ name early. tt);
}

says_queued : (app : ℕ) (s t : Exporter) (hs : List Happening) → t.out ≡ s.out ++ numbered s.next hs → t.heard ≡ heard_by s.heard hs → t.tree ≡ tree_by s.tree hs → t.next ≡ s.next + sent_in hs
    → IsOneKind hs → Tells app s.heard s.tree s.next hs → (Plainly app (numbered s.next hs) ⊎ Properly app s (numbered s.next hs)) → Says app s t
says_queued app s t hs out pairs tree next kind law signed = record {
  doings = numbered s.next hs;
  out = out;
  pairs = pairs ∙ sym (heard_numbered s.heard s.next hs);
  tree = tree ∙ sym (tree_numbered s.tree s.next hs);
  next = next ∙ ap (λ n. s.next + n) (sym (sent_numbered s.next hs));
  kind = kind_numbered s.next hs kind;
  law = law;
  signed = signed;
}

did_append : (app : ℕ) (hs ks : List Happening) → map (did app) (hs ++ ks) ≡ map (did app) hs ++ map (did app) ks
did_append app [] ks = refl
did_append app (h ∷ hs) ks = ap (λ l. did app h ∷ l) (did_append app hs ks)

says_both : (app : ℕ) (s t u : Exporter) (a : Says app s t) (b : Says app t u) → IsStill a.doings → IsStill b.doings → Plainly app a.doings → Plainly app b.doings → Says app s u
says_both app s t u a b x y p q = record {
  doings = a.doings ++ b.doings;
  out = b.out ∙ ap (λ l. l ++ b.doings) a.out ∙ append_assoc s.out a.doings b.doings;
  pairs = b.pairs ∙ ap (λ p. heard_by p b.doings) a.pairs ∙ sym (heard_append s.heard a.doings b.doings);
  tree = b.tree ∙ ap (λ f. tree_by f b.doings) a.tree ∙ sym (tree_append s.tree a.doings b.doings);
  next = sum a.next b.next (sent_append a.doings b.doings);
  kind = inl (still_append a.doings b.doings x y);
  law = λ early at.
      subst (Each Both early) (sym (did_append app a.doings b.doings))
      (both_more early (map (did app) a.doings) (map (did app) b.doings) (a.law early at) (b.law (early ++ map (did app) a.doings) (middle early at)));
  signed = inl (λ name early.
      subst (Each (Under name) early) (sym (did_append app a.doings b.doings))
      (under_both_lists name early (map (did app) a.doings) (map (did app) b.doings) (p name early) (q name (early ++ map (did app) a.doings))));
}
  where
    sum : t.next ≡ s.next + sent_in a.doings → u.next ≡ t.next + sent_in b.doings → sent_in (a.doings ++ b.doings) ≡ sent_in a.doings + sent_in b.doings
        → u.next ≡ s.next + sent_in (a.doings ++ b.doings)
    sum p q r = omega (arith, p, q, r)

    middle : (early : List Entry) → At early app s.heard s.tree s.next → At (early ++ map (did app) a.doings) app t.heard t.tree t.next
    middle early at =
        let e : List Entry = early ++ map (did app) a.doings in
        subst (λ p. At e app p t.tree t.next) (sym a.pairs)
        (subst (λ f. At e app (heard_by s.heard a.doings) f t.next) (sym a.tree)
        (subst (λ n. At e app (heard_by s.heard a.doings) (tree_by s.tree a.doings) n) (sym a.next) (at_behind early app s.heard s.tree s.next a.doings at)))

-- neither a step nor a signal is told
plain_heard : (ps : List (List ℕ × List ℕ)) (es : List Envelope) → heard_by ps (map sends es) ≡ ps
plain_heard ps [] = refl
plain_heard ps (e ∷ es) = plain_heard ps es

one_not_four : ◌≡◌ {A = ℕ} 1 4 → ⊥
one_not_four k = omega (arith, k)

two_not_four : ◌≡◌ {A = ℕ} 2 4 → ⊥
two_not_four k = omega (arith, k)

three_not_four : ◌≡◌ {A = ℕ} 3 4 → ⊥
three_not_four k = omega (arith, k)

no_signal : (name : List ℕ) (c : StartCall) → (start_call name c).kind ≡ 4 → ⊥
no_signal name hello k = one_not_four k
no_signal name add_match k = one_not_four k
no_signal name get_registered_events k = one_not_four k
no_signal name embed k = one_not_four k

asks_plainly : (app : ℕ) (s : Exporter) (call : StartCall) → Plainly app (numbered s.next (sends (start_call (name_or_empty s.name) call) ∷ []))
asks_plainly app s call name early = plain_each name app s.next (sends (start_call (name_or_empty s.name) call) ∷ []) (no_signal (name_or_empty s.name) call, tt) early

asks_says : (app : ℕ) (s : Exporter) (call : StartCall) → Says app s (asks s call)
asks_says app s call =
    says_queued app s (asks s call) (sends (start_call (name_or_empty s.name) call) ∷ []) refl refl refl refl (inl tt)
    (plain_tells app s.heard s.tree s.next (sends (start_call (name_or_empty s.name) call) ∷ []) (no_signal (name_or_empty s.name) call, tt)) (inl (asks_plainly app s call))

-- listeners
abbrev pub IsOfListeners : List Happening → Type 0
IsOfListeners [] = Unit {0}
IsOfListeners (hears listener pattern ∷ hs) = IsOfListeners hs
IsOfListeners (deaf listener pattern ∷ hs) = IsOfListeners hs
IsOfListeners (h ∷ hs) = ⊥

listeners_plain : (hs : List Happening) → IsOfListeners hs → IsPlain hs
listeners_plain [] p = tt
listeners_plain (hears listener pattern ∷ hs) p = listeners_plain hs p
listeners_plain (deaf listener pattern ∷ hs) p = listeners_plain hs p
listeners_plain (steps step ∷ hs) p = absurd p
listeners_plain (sends e ∷ hs) p = absurd p

listeners_still : (hs : List Happening) → IsOfListeners hs → IsStill hs
listeners_still [] p = tt
listeners_still (hears listener pattern ∷ hs) p = listeners_still hs p
listeners_still (deaf listener pattern ∷ hs) p = listeners_still hs p
listeners_still (steps step ∷ hs) p = absurd p
listeners_still (sends e ∷ hs) p = absurd p

listeners_tree : (s : Exporter) (hs : List Happening) → IsOfListeners hs → tree_by s.tree hs ≡ s.tree
listeners_tree s [] p = refl
listeners_tree s (hears listener pattern ∷ hs) p = listeners_tree s hs p
listeners_tree s (deaf listener pattern ∷ hs) p = listeners_tree s hs p
listeners_tree s (steps step ∷ hs) p = absurd p
listeners_tree s (sends e ∷ hs) p = absurd p

listeners_append : (hs ks : List Happening) → IsOfListeners hs → IsOfListeners ks → IsOfListeners (hs ++ ks)
listeners_append [] ks a b = b
listeners_append (hears listener pattern ∷ hs) ks a b = listeners_append hs ks a b
listeners_append (deaf listener pattern ∷ hs) ks a b = listeners_append hs ks a b
listeners_append (steps step ∷ hs) ks a b = absurd a
listeners_append (sends e ∷ hs) ks a b = absurd a

deaf_all : (ps : List (List ℕ × List ℕ)) → IsOfListeners (map (λ (p : List ℕ × List ℕ). deaf p.0 p.1) ps)
deaf_all [] = tt
deaf_all (p ∷ ps) = deaf_all ps

hears_all : (ps : List (List ℕ × List ℕ)) → IsOfListeners (map (λ (p : List ℕ × List ℕ). hears p.0 p.1) ps)
hears_all [] = tt
hears_all (p ∷ ps) = hears_all ps

-- a change of the pairs is told
pub record IsToldOf (ps : List (List ℕ × List ℕ)) (c : Change) : Type 0 where
  pub listeners : IsOfListeners c.told
  pub pairs : c.heard ≡ heard_by ps c.told

changes_says : (app : ℕ) (s : Exporter) (c : Change) → IsToldOf s.heard c → Says app s (queues (record s { heard = c.heard }) c.told)
changes_says app s c is =
    says_queued app s (queues (record s { heard = c.heard }) c.told) c.told refl is.pairs (sym (listeners_tree s c.told is.listeners)) refl (inl (listeners_still c.told is.listeners))
    (plain_tells app s.heard s.tree s.next c.told (listeners_plain c.told is.listeners)) (inl (λ name early. plain_each name app s.next c.told (listeners_plain c.told is.listeners) early))

pub exchanged_told : (ps listed : List (List ℕ × List ℕ)) → IsToldOf ps (exchanged ps listed)
exchanged_told ps listed =
    let fallen : List (List ℕ × List ℕ) = filter (λ p. not (is_heard listed p)) ps in
    let added : List (List ℕ × List ℕ) = filter (λ p. not (is_heard ps p)) (firsts listed) in
    record {
      listeners = listeners_append (map (λ (p : List ℕ × List ℕ). deaf p.0 p.1) fallen) (map (λ (p : List ℕ × List ℕ). hears p.0 p.1) added) (deaf_all fallen) (hears_all added);
      pairs = sym (exchanged_heard ps listed);
    }

unchanged_told : (ps : List (List ℕ × List ℕ)) → IsToldOf ps (unchanged ps)
unchanged_told ps = record { listeners = tt; pairs = refl }

one_more_told : (b : Bool) (ps : List (List ℕ × List ℕ)) (p : List ℕ × List ℕ)
    → IsToldOf ps (if b then unchanged ps else record { heard = ps ++ p ∷ []; told = hears p.0 p.1 ∷ [] })
one_more_told true ps p = unchanged_told ps
one_more_told false ps p = record { listeners = tt; pairs = refl }

one_less_told : (b : Bool) (ps : List (List ℕ × List ℕ)) (p : List ℕ × List ℕ)
    → IsToldOf ps (if b then record { heard = filter (λ q. not (is_pair p q)) ps; told = deaf p.0 p.1 ∷ [] } else unchanged ps)
one_less_told true ps p = record { listeners = tt; pairs = refl }
one_less_told false ps p = unchanged_told ps

more_with : (ps : List (List ℕ × List ℕ)) (o : Option (List ℕ × List ℕ)) → IsToldOf ps (with_pair one_more ps o)
more_with ps None = unchanged_told ps
more_with ps (Some p) = one_more_told (is_heard ps p) ps p

less_with : (ps : List (List ℕ × List ℕ)) (o : Option (List ℕ × List ℕ)) → IsToldOf ps (with_pair one_less ps o)
less_with ps None = unchanged_told ps
less_with ps (Some p) = one_less_told (is_heard ps p) ps p

pub heard_told : (ps : List (List ℕ × List ℕ)) (e : Envelope) → IsToldOf ps (heard_after ps e)
heard_told ps e = by (is_text e.interface registry) (is_text e.member (codes "EventListenerRegistered")) (is_text e.member (codes "EventListenerDeregistered"))
  where
    by : (a b c : Bool)
        → IsToldOf ps (if a then (if b then with_pair one_more ps (pair_in e.body) else if c then with_pair one_less ps (pair_in e.body) else unchanged ps) else unchanged ps)
    by false b c = unchanged_told ps
    by true true c = more_with ps (pair_in e.body)
    by true false true = less_with ps (pair_in e.body)
    by true false false = unchanged_told ps

-- the start
greeted_says : (app : ℕ) (s : Exporter) (o : Option (List ℕ)) → Says app s (greeted s o)
unfolding says_nothing asks_says says_queued
greeted_says app s None = says_nothing app s (ends_start s) refl refl refl refl
greeted_says app s (Some name) = says_both app s (record s { name = Some name }) (greeted s (Some name)) (says_nothing app s (record s { name = Some name }) refl refl refl refl) (asks_says app (record s { name = Some name }) add_match) tt tt
    (λ nm early. tt) (asks_plainly app (record s { name = Some name }) add_match)

listened_says : (app : ℕ) (s : Exporter) (o : Option (List (List ℕ × List ℕ))) → Says app s (listened s o)
unfolding changes_says says_queued asks_says
listened_says app s None = says_nothing app s (ends_start s) refl refl refl refl
listened_says app s (Some listed) =
    let change : Change = exchanged s.heard listed in
    let t : Exporter = queues (record s { heard = change.heard }) change.told in
    says_both app s t (listened s (Some listed)) (changes_says app s change (exchanged_told s.heard listed)) (asks_says app t embed)
    (still_numbered s.next change.told (listeners_still change.told (exchanged_told s.heard listed).listeners)) tt
    (λ name early. plain_each name app s.next change.told (listeners_plain change.told (exchanged_told s.heard listed).listeners) early) (asks_plainly app t embed)

goes_on_says : (app : ℕ) (s : Exporter) (call : StartCall) (body : List Data) → Says app s (goes_on s call body)
goes_on_says app s hello body = greeted_says app s (unique_name_in body)
goes_on_says app s add_match body = asks_says app s get_registered_events
goes_on_says app s get_registered_events body = listened_says app s (pairs_in body)
goes_on_says app s embed body = says_nothing app s (ends_start s) refl refl refl refl

start_says : (b : Bool) (app : ℕ) (s : Exporter) (call : StartCall) (body : List Data) → Says app s (if b then goes_on s call body else ends_start s)
start_says true app s call body = goes_on_says app s call body
start_says false app s call body = says_nothing app s (ends_start s) refl refl refl refl

-- signals
signal_says : (b : Bool) (app : ℕ) (s : Exporter) (e : Envelope) → Says app s (if b then takes_signal s e else s)
signal_says true app s e = changes_says app s (heard_after s.heard e) (heard_told s.heard e)
signal_says false app s e = says_nothing app s s refl refl refl refl

-- calls
reply_plain : (caller : List ℕ) (serial : ℕ) (reply : Reply) → (reply_to caller serial reply).kind ≡ 4 → ⊥
reply_plain caller serial (returns values) k = two_not_four k
reply_plain caller serial (fails word) k = three_not_four k

replies_plain : (b : Bool) (e : Envelope) → (e.kind ≡ 4 → ⊥) → IsPlain (map sends (if b then e ∷ [] else []))
replies_plain true e h = (h, tt)
replies_plain false e h = tt

called_says : (app : ℕ) (s : Exporter) (name caller : List ℕ) (e : Envelope) → s.name ≡ Some name → Says app s (called s name caller e)
called_says app s name caller e mine =
    let ss : List Step = (answer_to s name e).steps in
    let hs : List Happening = steps_told s.heard name s.tree ss in
    let es : List Envelope = replies caller e (answer_to s name e).reply in
    let rs : List Happening = map sends es in
    let plain : IsPlain rs = replies_plain (expects_reply e) (reply_to caller e.serial (answer_to s name e).reply) (reply_plain caller e.serial (answer_to s name e).reply) in
    let pairs : heard_by s.heard hs ≡ s.heard = told_heard s.heard name s.tree ss in
    let tree : tree_by s.tree (hs ++ rs) ≡ after_all rows s.tree ss =
    tree_append s.tree hs rs ∙ still_tree (tree_by s.tree hs) rs (still_sends (λ x. x) es) ∙ told_tree s.heard name s.tree ss in
    says_queued app s (called s name caller e) (hs ++ rs) refl
    (sym (heard_append s.heard hs rs ∙ plain_heard (heard_by s.heard hs) es ∙ pairs)) (sym tree) refl
    (inr (no_listeners_append hs rs (no_listeners_told s.heard name s.tree ss) (no_listeners_sends (λ x. x) es)))
    (tells_both app s.heard s.tree s.next hs rs (λ early at. steps_tell app s.heard s.tree s.next name ss early at)
    (plain_tells app (heard_by s.heard hs) (tree_by s.tree hs) (s.next + sent_in hs) rs plain))
    (inr (λ own is.
    subst (λ n. (early : List Entry) → At early app s.heard s.tree s.next → Each (Under n) early (map (did app) (numbered s.next (hs ++ rs)))) (is.same name mine)
    (under_tells name app s.heard s.tree s.next hs rs (λ early at. steps_under app s.heard s.tree s.next name ss early at)
    (plain_under name app (heard_by s.heard hs) (tree_by s.tree hs) (s.next + sent_in hs) rs plain))))

call_says : (app : ℕ) (s : Exporter) (name : List ℕ) (e : Envelope) (sender : Option (List ℕ)) → s.name ≡ Some name → e.sender ≡ sender → Says app s (takes_call s name e)
call_says app s name e None mine h = rw h (says_nothing app s s refl refl refl refl)
call_says app s name e (Some caller) mine h = rw h (called_says app s name caller e mine)

named_says : (b : Bool) (app : ℕ) (s : Exporter) (name : List ℕ) (e : Envelope) → s.name ≡ Some name → Says app s (if b then takes_call s name e else if e.kind == 4 then takes_signal s e else s)
named_says true app s name e mine = call_says app s name e e.sender mine refl
named_says false app s name e mine = signal_says (e.kind == 4) app s e

other_says : (app : ℕ) (s : Exporter) (name : Option (List ℕ)) (e : Envelope) → s.name ≡ name → Says app s (takes_other s name e)
other_says app s None e mine = says_nothing app s s refl refl refl refl
other_says app s (Some name) e mine = named_says (e.kind == 1) app s name e mine

pub takes_says : (app : ℕ) (s : Exporter) (e : Envelope) → Says app s (app_takes s e)
takes_says app s e = by (awaited s.phase e) refl
  where
    by : (o : Option StartCall) → awaited s.phase e ≡ o → Says app s (app_takes s e)
    by None h = rw h (other_says app s s.name e refl)
    by (Some call) h = rw h (start_says (e.kind == 2) app s call e.body)

pub starts_says : (app : ℕ) (s : Exporter) → Says app s (asks s hello)
starts_says app s = asks_says app s hello

-- where nobody listens nothing is told, whatever the name
none_asked : (xs : List Signal) → asked_for [] xs ≡ []
none_asked [] = refl
none_asked (x ∷ xs) = none_asked xs

any_name : (b c : List ℕ) (f : Forest TreeRow) (ss : List Step) → steps_told [] b f ss ≡ steps_told [] c f ss
any_name b c f [] = refl
any_name b c f (step ∷ ss) =
    ap (λ l. steps step ∷ (map (λ (s : Signal). sends s.message) l ++ steps_told [] b (after rows f step) ss)) (none_asked (announced b f step) ∙ sym (none_asked (announced c f step)))
    ∙ ap (λ l. steps step ∷ (map (λ (s : Signal). sends s.message) (asked_for [] (announced c f step)) ++ l)) (any_name b c (after rows f step) ss)

own_or_any : (s : Exporter) (name : List ℕ) (ss : List Step) → IsNameOf s name → steps_told s.heard name s.tree ss ≡ steps_told s.heard (name_or_empty s.name) s.tree ss
own_or_any s name ss is = by s.name refl
  where
    by : (o : Option (List ℕ)) → s.name ≡ o → steps_told s.heard name s.tree ss ≡ steps_told s.heard (name_or_empty o) s.tree ss
    by None h =
        let none : s.heard ≡ [] = is.deaf_ h in
        ap (λ p. steps_told p name s.tree ss) none ∙ any_name name [] s.tree ss ∙ ap (λ p. steps_told p [] s.tree ss) (sym none)
    by (Some own) h = ap (λ n. steps_told s.heard n s.tree ss) (sym (is.same own h))

-- at an edit
abbrev step_result : Exporter → Result (List Step) EditFault → Result Exporter EditFault
step_result s (Ok ss) = Ok (queues (stepped s ss) (steps_told s.heard (name_or_empty s.name) s.tree ss))
step_result s (Err fault) = Err fault

abbrev from_ok : Exporter → Result Exporter EditFault → Exporter
from_ok s (Ok u) = u
from_ok s (Err fault) = s

pub edit_says : (app : ℕ) (s t : Exporter) (edit : Edit) → app_edits s edit ≡ Ok t → Says app s t
edit_says app s t edit h = by (steps_of_tree s.tree s.added edit) refl h
  where
    made : (ss : List Step) → Says app s (queues (stepped s ss) (steps_told s.heard (name_or_empty s.name) s.tree ss))
    made ss =
        let hs : List Happening = steps_told s.heard (name_or_empty s.name) s.tree ss in
        says_queued app s (queues (stepped s ss) hs) hs refl (sym (told_heard s.heard (name_or_empty s.name) s.tree ss)) (sym (told_tree s.heard (name_or_empty s.name) s.tree ss)) refl
        (inr (no_listeners_told s.heard (name_or_empty s.name) s.tree ss)) (λ early at. steps_tell app s.heard s.tree s.next (name_or_empty s.name) ss early at)
        (inr (λ name is early at.
        subst (λ l. Each (Under name) early (map (did app) (numbered s.next l))) (own_or_any s name ss is) (steps_under app s.heard s.tree s.next name ss early at)))

    by : (r : Result (List Step) EditFault) → steps_of_tree s.tree s.added edit ≡ r → app_edits s edit ≡ Ok t → Says app s t
    by (Ok ss) e g =
        let same : app_edits s edit ≡ step_result s (Ok ss) = rw e refl in
        subst (Says app s) (ap (from_ok s) (sym same ∙ g)) (made ss)
    by (Err fault) e g =
        let same : app_edits s edit ≡ Err fault = rw e refl in
        absurd (no (sym same ∙ g))
      where
        no : Err fault ≡ Ok t → ⊥
        no z = cc

-- an edit's doings begin with a step, if there are any
abbrev pub NoSendFirst : List Happening → Type 0
NoSendFirst (sends e ∷ hs) = ⊥
NoSendFirst hs = Unit {0}

told_first : (ps : List (List ℕ × List ℕ)) (name : List ℕ) (f : Forest TreeRow) (n : ℕ) (ss : List Step) → NoSendFirst (numbered n (steps_told ps name f ss))
told_first ps name f n [] = tt
told_first ps name f n (step ∷ ss) = tt

pub edit_first : (s t : Exporter) (edit : Edit) → app_edits s edit ≡ Ok t → s.out ≡ [] → NoSendFirst t.out
edit_first s t edit h empty = by (steps_of_tree s.tree s.added edit) refl h
  where
    by : (r : Result (List Step) EditFault) → steps_of_tree s.tree s.added edit ≡ r → app_edits s edit ≡ Ok t → NoSendFirst t.out
    by (Ok ss) e g =
        let same : app_edits s edit ≡ step_result s (Ok ss) = rw e refl in
        let hs : List Happening = steps_told s.heard (name_or_empty s.name) s.tree ss in
        let wrote : t.out ≡ numbered s.next hs = ap (λ (x : Exporter). x.out) (sym (ap (from_ok s) (sym same ∙ g))) ∙ ap (λ l. l ++ numbered s.next hs) empty in
        subst NoSendFirst (sym wrote) (told_first s.heard (name_or_empty s.name) s.tree s.next ss)
    by (Err fault) e g =
        let same : app_edits s edit ≡ Err fault = rw e refl in
        absurd (no (sym same ∙ g))
      where
        no : Err fault ≡ Ok t → ⊥
        no z = cc
