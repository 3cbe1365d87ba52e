-- Whoever hears what the registry tells has its pairs.
use Rattle.std.proofs.Common.{◌≡◌, ℕ, ◌+◌, Bool, true, false, List, [], ◌∷◌, ◌++◌, length, map, Option, None, Some, refl, sym, ap, ap₂, ◌∙◌, subst, cond}
use Rattle.std.specs.Prelude.{◌==◌, ◌&&◌, ◌||◌, not, filter, slice_get, bytes_eq, codes, encode_utf8_all, if◌then◌else◌, Result, Ok, Err}
use Rattle.std.specs.List.{AllByRecursion, list_any}
use Rattle.std.proofs.lemmas.Bool.{or_parts}
use Rattle.std.proofs.lemmas.Slice.Eq.{bytes_eq-Decides}
use Rattle.atspi_types.specs.Data.{Data, text_data, structure_data, items_of}
use Rattle.atspi_base.specs.valid_names.Names.{is_bus_name}
use Rattle.atspi_message.specs.Envelope.{Envelope}
use Rattle.atspi_protocol.specs.ends.Places.{registry, registry_root}
use Rattle.atspi_protocol.specs.ends.Messages.{Reply, returns, fails, reply_to, replies, expects_reply, numbered}
use Rattle.atspi_protocol.specs.declared.members.member.ObjectMember.{ObjectMember}
use Rattle.atspi_protocol.specs.declared.members.member.ObjectMember.TheVariants as members
use Rattle.atspi_protocol.specs.members.Asked.{Asked, calls, gets, gets_all, sets, asked, is_text}
use Rattle.atspi_protocol.specs.members.Arguments.{text_at}
use Rattle.atspi_protocol.specs.registering.RegistryState.{RegistryState, is_of, is_pair as is_the_pair, has_pair, without_pair, pairs_of, pairs_without, child_place}
use Rattle.atspi_protocol.specs.registering.Told.{registered, deregistered, children_changed, is_asked_for}
use Rattle.atspi_protocol.specs.registering.Answers.{Answer, only, registers, deregisters, reference_in, new_child, adopts, news_of_removal_at, news_of_removal, releases, answers_member, object_at}
use Rattle.atspi_protocol.specs.registering.Steps.{RegistryStep, answered, answer_to, called_by, named, hears, name_told, name_gone, forgets, takes_as, registry_takes}
use Rattle.atspi_protocol.specs.exporting.Exporter.{hears as hears_of}
use Rattle.atspi_protocol.specs.exporting.Hearing.{is_pair, is_heard, one_more, one_less, firsts, exchanged, pair_in, with_pair, unchanged, heard_after, and_pair, all_pairs}
use Rattle.atspi_trace_laws.specs.missed.Laws.{hearing, HasBusName, AreNamed, IsNamed, PairsAreTold}
use Rattle.atspi_trace_laws.proofs.OfOrder.Parties.{no_none, same_some, false_true, all_append}
use Rattle.atspi_trace_laws.proofs.OfOrder.Each.{all_map}

abbrev pub Pair : Type 0
Pair = List ℕ × List ℕ

-- PAIRS
pub and_left : (a b : Bool) → (a && b) ≡ true → a ≡ true
and_left true b h = refl
and_left false b h = absurd (false_true h)

pub and_right : (a b : Bool) → (a && b) ≡ true → b ≡ true
and_right true b h = h
and_right false b h = absurd (false_true h)

and_false : (a : Bool) → (a && false) ≡ false
and_false true = refl
and_false false = refl

pub and_true : (a : Bool) → (a && true) ≡ a
and_true true = refl
and_true false = refl

pub or_true : (a b : Bool) → b ≡ true → (a || b) ≡ true
or_true true b h = refl
or_true false b h = h

pub pair_is : (p q : Pair) → is_pair p q ≡ true → p ≡ q
pair_is p q h =
    ap₂ (λ (a b : List ℕ). (a, b)) ((bytes_eq-Decides p.0 q.0).0 (and_left (bytes_eq p.0 q.0) (bytes_eq p.1 q.1) h)) ((bytes_eq-Decides p.1 q.1).0 (and_right (bytes_eq p.0 q.0) (bytes_eq p.1 q.1) h))

pub pair_same : (p : Pair) → is_pair p p ≡ true
pair_same p = ap₂ (λ a b. a && b) ((bytes_eq-Decides p.0 p.0).1 refl) ((bytes_eq-Decides p.1 p.1).1 refl)

pub pair_turned : (p q : Pair) → is_pair p q ≡ is_pair q p
pair_turned p q = by (is_pair p q) (is_pair q p) refl refl
  where
    by : (a b : Bool) → is_pair p q ≡ a → is_pair q p ≡ b → is_pair p q ≡ is_pair q p
    by true true h k = h ∙ sym k
    by false false h k = h ∙ sym k
    by true false h k = absurd (false_true (sym k ∙ ap (λ x. is_pair x p) (sym (pair_is p q h)) ∙ pair_same p))
    by false true h k = absurd (false_true (sym h ∙ ap (λ x. is_pair x q) (sym (pair_is q p k)) ∙ pair_same q))

-- LISTS
pub any_alike : (f g : Pair → Bool) (xs : List Pair) → ((q : Pair) → f q ≡ g q) → list_any f xs ≡ list_any g xs
any_alike f g [] h = refl
any_alike f g (x ∷ xs) h = ap₂ (λ a b. a || b) (h x) (any_alike f g xs h)

filter_alike : (f g : Pair → Bool) (xs : List Pair) → AllByRecursion (λ q. f q ≡ g q) xs → filter f xs ≡ filter g xs
filter_alike f g [] a = refl
filter_alike f g (x ∷ xs) a = ap₂ (λ (b : Bool) (ys : List Pair). cond b (x ∷ ys) ys) a.0 (filter_alike f g xs a.1)

all_of : (P : Pair → Type 0) (xs : List Pair) → ((q : Pair) → P q) → AllByRecursion P xs
all_of P [] f = tt
all_of P (x ∷ xs) f = (f x, all_of P xs f)

filter_whole : (xs : List Pair) → filter (λ q. true) xs ≡ xs
filter_whole [] = refl
filter_whole (x ∷ xs) = ap (λ ys. x ∷ ys) (filter_whole xs)

filter_both : (f g : Pair → Bool) (xs : List Pair) → filter g (filter f xs) ≡ filter (λ q. f q && g q) xs
filter_both f g [] = refl
filter_both f g (x ∷ xs) = by (f x) refl (filter_both f g xs)
  where
    by : (b : Bool) → f x ≡ b → filter g (filter f xs) ≡ filter (λ q. f q && g q) xs → filter g (cond (f x) (x ∷ filter f xs) (filter f xs)) ≡ cond (f x && g x) (x ∷ filter (λ q. f q && g q) xs) (filter (λ q. f q && g q) xs)
    by true h i =
        ap (λ b. filter g (cond b (x ∷ filter f xs) (filter f xs))) h ∙ ap (λ (ys : List Pair). cond (g x) (x ∷ ys) ys) i ∙ sym (ap (λ b. cond (b && g x) (x ∷ filter (λ q. f q && g q) xs) (filter (λ q. f q && g q) xs)) h)
    by false h i = ap (λ b. filter g (cond b (x ∷ filter f xs) (filter f xs))) h ∙ i ∙ sym (ap (λ b. cond (b && g x) (x ∷ filter (λ q. f q && g q) xs) (filter (λ q. f q && g q) xs)) h)

all_filter : (P : Pair → Type 0) (f : Pair → Bool) (xs : List Pair) → AllByRecursion P xs → AllByRecursion P (filter f xs)
all_filter P f [] a = tt
all_filter P f (x ∷ xs) a = by (f x) (all_filter P f xs a.1)
  where
    by : (b : Bool) → AllByRecursion P (filter f xs) → AllByRecursion P (cond b (x ∷ filter f xs) (filter f xs))
    by true i = (a.0, i)
    by false i = i

-- what is heard of a list of which some are left out
pub heard_filter : (p : Pair) (f : Pair → Bool) (xs : List Pair) → is_heard (filter f xs) p ≡ (f p && is_heard xs p)
heard_filter p f [] = sym (and_false (f p))
heard_filter p f (x ∷ xs) = by (f x) (is_pair p x) refl refl (heard_filter p f xs)
  where
    left : (b : Bool) → f x ≡ b → is_heard (cond (f x) (x ∷ filter f xs) (filter f xs)) p ≡ is_heard (cond b (x ∷ filter f xs) (filter f xs)) p
    left b h = ap (λ c. is_heard (cond c (x ∷ filter f xs) (filter f xs)) p) h

    by : (a b : Bool) → f x ≡ a → is_pair p x ≡ b → is_heard (filter f xs) p ≡ (f p && is_heard xs p) → is_heard (cond (f x) (x ∷ filter f xs) (filter f xs)) p ≡ (f p && (is_pair p x || is_heard xs p))
    by true true h k i =
        left true h ∙ ap (λ c. c || is_heard (filter f xs) p) k ∙ sym (ap (λ c. c && (is_pair p x || is_heard xs p)) (ap f (pair_is p x k) ∙ h) ∙ ap (λ c. c || is_heard xs p) k)
    by true false h k i = left true h ∙ ap (λ c. c || is_heard (filter f xs) p) k ∙ i ∙ sym (ap (λ c. f p && (c || is_heard xs p)) k)
    by false true h k i =
        let none : f p ≡ false = ap f (pair_is p x k) ∙ h in
        left false h ∙ i ∙ ap (λ c. c && is_heard xs p) none ∙ sym (ap (λ c. c && (is_pair p x || is_heard xs p)) none)
    by false false h k i = left false h ∙ i ∙ sym (ap (λ c. f p && (c || is_heard xs p)) k)

pub heard_append : (p : Pair) (xs ys : List Pair) → is_heard (xs ++ ys) p ≡ (is_heard xs p || is_heard ys p)
heard_append p [] ys = refl
heard_append p (x ∷ xs) ys = by (is_pair p x) (heard_append p xs ys)
  where
    by : (b : Bool) → is_heard (xs ++ ys) p ≡ (is_heard xs p || is_heard ys p) → (b || is_heard (xs ++ ys) p) ≡ ((b || is_heard xs p) || is_heard ys p)
    by true i = refl
    by false i = i

heard_in : (xs : List Pair) → AllByRecursion (λ q. is_heard xs q ≡ true) xs
heard_in [] = tt
heard_in (x ∷ xs) =
    (ap (λ c. c || is_heard xs x) (pair_same x), all_map (λ q. is_heard xs q ≡ true) (λ q. is_heard (x ∷ xs) q ≡ true) xs (λ q h. or_true (is_pair q x) (is_heard xs q) h) (heard_in xs))

-- ONE SIGNAL
none_left_out : (heard : List Pair) (p : Pair) → is_heard heard p ≡ false → filter (λ q. not (is_pair p q)) heard ≡ heard
none_left_out [] p e = refl
none_left_out (q ∷ heard) p e =
    let both = or_parts (is_pair p q) (is_heard heard p) e in
    ap (λ b. cond (not b) (q ∷ filter (λ q. not (is_pair p q)) heard) (filter (λ q. not (is_pair p q)) heard)) both.0 ∙ ap (λ ys. q ∷ ys) (none_left_out heard p both.1)

less_is : (heard : List Pair) (p : Pair) → (one_less heard p).heard ≡ filter (λ q. not (is_pair p q)) heard
less_is heard p = by (is_heard heard p) refl
  where
    by : (b : Bool) → is_heard heard p ≡ b → (one_less heard p).heard ≡ filter (λ q. not (is_pair p q)) heard
    by true e = rw e refl
    by false e = rw e (sym (none_left_out heard p e))

more_is : (heard : List Pair) (p : Pair) → is_heard heard p ≡ false → (one_more heard p).heard ≡ heard ++ p ∷ []
more_is heard p e = rw e refl

less_told : (heard : List Pair) (p : Pair) → is_bus_name p.0 ≡ true → (heard_after heard (deregistered p)).heard ≡ (one_less heard p).heard
less_told heard p h = ap (λ b. (with_pair one_less heard (if b then Some (p.0, p.1) else None)).heard) h

more_told : (heard : List Pair) (p : Pair) → is_bus_name p.0 ≡ true → (heard_after heard (registered p)).heard ≡ (one_more heard p).heard
more_told heard p h = ap (λ b. (with_pair one_more heard (if b then Some (p.0, p.1) else None)).heard) h

-- OTHER MESSAGES
abbrev IsOther : Envelope → Type 0
IsOther e = is_text e.interface registry ≡ false

other_told : (heard : List Pair) (e : Envelope) → IsOther e → (heard_after heard e).heard ≡ heard
other_told heard e h = rw h refl

others_told : (es : List Envelope) (heard : List Pair) → AllByRecursion IsOther es → hearing es heard ≡ heard
others_told [] heard a = refl
others_told (e ∷ es) heard a = ap (hearing es) (other_told heard e a.0) ∙ others_told es heard a.1

pub hearing_append : (xs ys : List Envelope) (heard : List Pair) → hearing (xs ++ ys) heard ≡ hearing ys (hearing xs heard)
hearing_append [] ys heard = refl
hearing_append (x ∷ xs) ys heard = hearing_append xs ys (heard_after heard x).heard

hearing_numbered : (n : ℕ) (es : List Envelope) (heard : List Pair) → hearing (numbered n es) heard ≡ hearing es heard
hearing_numbered n [] heard = refl
hearing_numbered n (e ∷ es) heard = hearing_numbered (n + 1) es (heard_after heard e).heard

replies_other : (b : Bool) (caller : List ℕ) (serial : ℕ) (reply : Reply) → AllByRecursion IsOther (if b then reply_to caller serial reply ∷ [] else [])
replies_other true caller serial (returns values) = (refl, tt)
replies_other true caller serial (fails word) = (refl, tt)
replies_other false caller serial reply = tt

news_other : (b : Bool) (minor : List ℕ) (index : ℕ) (child : Pair) → AllByRecursion IsOther (if b then children_changed minor index child ∷ [] else [])
news_other true minor index child = (refl, tt)
news_other false minor index child = tt

removal_at : (pairs : List Pair) (i : ℕ) (o : Option Pair) → AllByRecursion IsOther (news_of_removal_at pairs i o)
removal_at pairs i None = tt
removal_at pairs i (Some child) = news_other (is_asked_for pairs (codes "remove")) (codes "remove") i child

removal_other : (pairs children : List Pair) (place : Option ℕ) → AllByRecursion IsOther (news_of_removal pairs children place)
removal_other pairs children None = tt
removal_other pairs children (Some i) = removal_at pairs i (slice_get children i)

-- WHAT CALLS DO
abbrev Tells : RegistryState → Answer → Type 0
Tells s a = (hearing a.before s.pairs ≡ a.pairs) × AllByRecursion IsOther a.behind

abbrev registers_if : RegistryState → List ℕ → List ℕ → Bool → Answer
registers_if s caller pattern b =
    if b then only s (returns []) else record (only s (returns [])) { pairs = s.pairs ++ (caller, pattern) ∷ []; before = registered (caller, pattern) ∷ [] }

abbrev deregisters_if : RegistryState → List ℕ → List ℕ → Bool → Answer
deregisters_if s caller pattern b =
    if b then record (only s (returns [])) { pairs = without_pair s.pairs caller pattern; before = deregistered (caller, pattern) ∷ [] } else only s (returns [])

registers_tells : (s : RegistryState) (caller pattern : List ℕ) → is_bus_name caller ≡ true → Tells s (registers s caller pattern)
registers_tells s caller pattern h = by (has_pair s.pairs caller pattern) refl
  where
    new : has_pair s.pairs caller pattern ≡ false → is_heard s.pairs (caller, pattern) ≡ false
    new k = any_alike (is_pair (caller, pattern)) (is_the_pair caller pattern) s.pairs (λ q. pair_turned (caller, pattern) q) ∙ k

    by : (b : Bool) → has_pair s.pairs caller pattern ≡ b → Tells s (registers s caller pattern)
    by true k = subst (Tells s) (sym (ap (registers_if s caller pattern) k)) (refl, tt)
    by false k = subst (Tells s) (sym (ap (registers_if s caller pattern) k)) (more_told s.pairs (caller, pattern) h ∙ more_is s.pairs (caller, pattern) (new k), tt)

deregisters_tells : (s : RegistryState) (caller pattern : List ℕ) → is_bus_name caller ≡ true → Tells s (deregisters s caller pattern)
deregisters_tells s caller pattern h = by (has_pair s.pairs caller pattern) refl
  where
    gone : filter (λ q. not (is_pair (caller, pattern) q)) s.pairs ≡ without_pair s.pairs caller pattern
    gone =
        filter_alike (λ q. not (is_pair (caller, pattern) q)) (λ q. not (is_the_pair caller pattern q)) s.pairs
        (all_of (λ q. not (is_pair (caller, pattern) q) ≡ not (is_the_pair caller pattern q)) s.pairs (λ q. ap not (pair_turned (caller, pattern) q)))

    by : (b : Bool) → has_pair s.pairs caller pattern ≡ b → Tells s (deregisters s caller pattern)
    by true k = subst (Tells s) (sym (ap (deregisters_if s caller pattern) k)) (less_told s.pairs (caller, pattern) h ∙ less_is s.pairs (caller, pattern) ∙ gone, tt)
    by false k = subst (Tells s) (sym (ap (deregisters_if s caller pattern) k)) (refl, tt)

own_tells : (s : RegistryState) (b : Bool) (a : Answer) → Tells s a → Tells s (if b then a else only s (fails (codes "InvalidArgs")))
own_tells s true a t = t
own_tells s false a t = (refl, tt)

adopts_tells : (s : RegistryState) (child : Pair) (b : Bool) (reply : Reply) → Tells s (if b then only s reply else new_child s child)
adopts_tells s child true reply = (refl, tt)
adopts_tells s child false reply = (refl, (refl, news_other (is_asked_for s.pairs (codes "add")) (codes "add") (length s.children) child))

releases_tells : (s : RegistryState) (caller : List ℕ) → Tells s (releases s caller)
releases_tells s caller = (others_told (news_of_removal s.pairs s.children (child_place s.children caller)) s.pairs (removal_other s.pairs s.children (child_place s.children caller)), tt)

member_tells : (member : ObjectMember) (s : RegistryState) (own caller : List ℕ) (args : List Data) → is_bus_name caller ≡ true → Tells s (answers_member member s own caller args)
member_tells members.RegisterEvent s own caller args h = registers_tells s caller (text_at 0 args) h
member_tells members.DeregisterEvent s own caller args h = deregisters_tells s caller (text_at 0 args) h
member_tells members.Embed s own caller args h =
    let child : Pair = (caller, (reference_in args).1) in
    own_tells s (bytes_eq (encode_utf8_all (reference_in args).0) caller) (adopts s child) (adopts_tells s child (list_any (is_of caller) s.children) (returns (registry_root ∷ [])))
member_tells members.Unembed s own caller args h = own_tells s (bytes_eq (encode_utf8_all (reference_in args).0) caller) (releases s caller) (releases_tells s caller)
member_tells _ s own caller args h = (refl, tt)

answer_tells : (r : Result Asked (List ℕ)) (s : RegistryState) (own caller : List ℕ) → is_bus_name caller ≡ true → Tells s (answer_to s own caller r)
answer_tells (Ok (calls member args)) s own caller h = member_tells member s own caller args h
answer_tells (Ok (gets property)) s own caller h = (refl, tt)
answer_tells (Ok (gets_all ls)) s own caller h = (refl, tt)
answer_tells (Ok (sets property d)) s own caller h = (refl, tt)
answer_tells (Err word) s own caller h = (refl, tt)

-- THE STEP
abbrev Hears : RegistryState → RegistryStep → Type 0
Hears s step = hearing step.sent s.pairs ≡ step.state.pairs

answered_heard : (s : RegistryState) (caller : List ℕ) (e : Envelope) (a : Answer) → Tells s a → Hears s (answered s caller e a)
answered_heard s caller e a t =
    let behind = replies caller e a.reply ++ a.behind in
    hearing_numbered s.next (a.before ++ behind) s.pairs ∙ hearing_append a.before behind s.pairs ∙ ap (hearing behind) t.0
    ∙ others_told behind a.pairs (all_append IsOther (replies caller e a.reply) a.behind (replies_other (expects_reply e) caller e.serial a.reply) t.1)

called_heard : (s : RegistryState) (own : List ℕ) (e : Envelope) (caller : Option (List ℕ)) → IsNamed caller → Hears s (called_by s own e caller)
called_heard s own e None h = refl
called_heard s own e (Some caller) h =
    let question = asked (object_at e.path) e.interface e.member e.body in
    answered_heard s caller e (answer_to s own caller question) (answer_tells question s own caller h)

-- several fall away
fallen_told : (fallen pairs : List Pair) → AreNamed fallen → hearing (map deregistered fallen) pairs ≡ filter (λ q. not (is_heard fallen q)) pairs
fallen_told [] pairs a = sym (filter_whole pairs)
fallen_told (p ∷ ps) pairs a =
    ap (hearing (map deregistered ps)) (less_told pairs p a.0 ∙ less_is pairs p) ∙ fallen_told ps (filter (λ q. not (is_pair p q)) pairs) a.1
    ∙ filter_both (λ q. not (is_pair p q)) (λ q. not (is_heard ps q)) pairs
    ∙ filter_alike (λ q. not (is_pair p q) && not (is_heard ps q)) (λ q. not (is_heard (p ∷ ps) q)) pairs
    (all_of (λ q. (not (is_pair p q) && not (is_heard ps q)) ≡ not (is_heard (p ∷ ps) q)) pairs (λ q. ap (λ b. not b && not (is_heard ps q)) (pair_turned p q) ∙ neither (is_pair q p) (is_heard ps q)))
  where
    neither : (a b : Bool) → (not a && not b) ≡ not (a || b)
    neither true b = refl
    neither false b = refl

forgets_heard : (s : RegistryState) (name : List ℕ) → AreNamed s.pairs → Hears s (forgets s name)
forgets_heard s name a =
    let fallen = pairs_of s.pairs name in
    let news = news_of_removal (pairs_without s.pairs name) s.children (child_place s.children name) in
    hearing_numbered s.next (map deregistered fallen ++ news) s.pairs ∙ hearing_append (map deregistered fallen) news s.pairs
    ∙ others_told news (hearing (map deregistered fallen) s.pairs) (removal_other (pairs_without s.pairs name) s.children (child_place s.children name))
    ∙ fallen_told fallen s.pairs (all_filter HasBusName (is_of name) s.pairs a)
    ∙ filter_alike (λ q. not (is_heard (filter (is_of name) s.pairs) q)) (λ q. not (is_of name q)) s.pairs
    (all_map (λ q. is_heard s.pairs q ≡ true) (λ q. not (is_heard (filter (is_of name) s.pairs) q) ≡ not (is_of name q)) s.pairs
    (λ q h. ap not (heard_filter q (is_of name) s.pairs ∙ ap (λ b. is_of name q && b) h ∙ and_true (is_of name q))) (heard_in s.pairs))

left_heard : (s : RegistryState) (o : Option (List ℕ)) → AreNamed s.pairs → Hears s (hears s o)
left_heard s None a = refl
left_heard s (Some name) a = forgets_heard s (encode_utf8_all name) a

named_heard : (s : RegistryState) (o : Option (List ℕ)) → Hears s (named s o)
named_heard s None = refl
named_heard s (Some name) = refl

as_heard : (s : RegistryState) (e : Envelope) (own : Option (List ℕ)) → AreNamed s.pairs → IsNamed e.sender → Hears s (takes_as s e own)
as_heard s e None a h = named_heard s (name_told s.hello e)
as_heard s e (Some own) a h = by (e.kind == 1)
  where
    by : (b : Bool) → Hears s (if b then called_by s own e e.sender else hears s (name_gone e))
    by true = called_heard s own e e.sender h
    by false = left_heard s (name_gone e) a

-- NAMES
pair_named : (body : List Data) (p : Pair) → pair_in body ≡ Some p → HasBusName p
pair_named (text_data bus ∷ (text_data pattern ∷ rest)) p h = by (is_bus_name bus) refl h
  where
    by : (b : Bool) → is_bus_name bus ≡ b → (if b then Some (bus, pattern) else None) ≡ Some p → HasBusName p
    by true k g = subst HasBusName (same_some (bus, pattern) p g) k
    by false k g = absurd (no_none p g)
pair_named body p h = absurd (no_none p h)

more_named : (heard : List Pair) (p : Pair) → HasBusName p → AreNamed heard → AreNamed (one_more heard p).heard
more_named heard p h a = by (is_heard heard p)
  where
    by : (b : Bool) → AreNamed (if b then unchanged heard else record { heard = heard ++ p ∷ []; told = hears_of p.0 p.1 ∷ [] }).heard
    by true = a
    by false = all_append HasBusName heard (p ∷ []) a (h, tt)

less_named : (heard : List Pair) (p : Pair) → AreNamed heard → AreNamed (one_less heard p).heard
less_named heard p a = subst AreNamed (sym (less_is heard p)) (all_filter HasBusName (λ q. not (is_pair p q)) heard a)

after_named : (heard : List Pair) (e : Envelope) → AreNamed heard → AreNamed (heard_after heard e).heard
after_named heard e a = by (is_text e.interface registry) (is_text e.member (codes "EventListenerRegistered")) (is_text e.member (codes "EventListenerDeregistered"))
  where
    more_of : (o : Option Pair) → pair_in e.body ≡ o → AreNamed (with_pair one_more heard o).heard
    more_of None h = a
    more_of (Some p) h = more_named heard p (pair_named e.body p h) a

    less_of : (o : Option Pair) → AreNamed (with_pair one_less heard o).heard
    less_of None = a
    less_of (Some p) = less_named heard p a

    by : (b c d : Bool)
        → AreNamed
        (if b then (if c then with_pair one_more heard (pair_in e.body) else if d then with_pair one_less heard (pair_in e.body) else unchanged heard)
        else unchanged heard).heard
    by true true d = more_of (pair_in e.body) refl
    by true false true = less_of (pair_in e.body)
    by true false false = a
    by false c d = a

hearing_named : (es : List Envelope) (heard : List Pair) → AreNamed heard → AreNamed (hearing es heard)
hearing_named [] heard a = a
hearing_named (e ∷ es) heard a = hearing_named es (heard_after heard e).heard (after_named heard e a)

-- THE LIST
listed_back : (pairs : List Pair) → AreNamed pairs → all_pairs (items_of (map (λ (p : Pair). structure_data (items_of (text_data p.0 ∷ text_data p.1 ∷ []))) pairs)) ≡ Some pairs
listed_back [] a = refl
listed_back (p ∷ ps) a = ap₂ and_pair (ap (λ b. if b then Some (p.0, p.1) else None) a.0) (listed_back ps a.1)

firsts_heard : (p : Pair) (pairs : List Pair) → is_heard (firsts pairs) p ≡ is_heard pairs p
firsts_heard p [] = refl
firsts_heard p (q ∷ qs) = by (is_pair p q) refl (heard_filter p (λ x. not (is_pair q x)) (firsts qs)) (firsts_heard p qs)
  where
    by : (b : Bool) → is_pair p q ≡ b → is_heard (filter (λ x. not (is_pair q x)) (firsts qs)) p ≡ (not (is_pair q p) && is_heard (firsts qs) p) → is_heard (firsts qs) p ≡ is_heard qs p → (is_pair p q || is_heard (filter (λ x. not (is_pair q x)) (firsts qs)) p) ≡ (is_pair p q || is_heard qs p)
    by true h k i = ap (λ c. c || is_heard (filter (λ x. not (is_pair q x)) (firsts qs)) p) h ∙ sym (ap (λ c. c || is_heard qs p) h)
    by false h k i =
        ap (λ c. c || is_heard (filter (λ x. not (is_pair q x)) (firsts qs)) p) h ∙ k ∙ ap (λ c. not c && is_heard (firsts qs) p) (pair_turned q p ∙ h) ∙ i ∙ sym (ap (λ c. c || is_heard qs p) h)

pub exchanged_heard : (heard listed : List Pair) (p : Pair) → is_heard (exchanged heard listed).heard p ≡ is_heard listed p
exchanged_heard heard listed p =
    heard_append p (filter (is_heard listed) heard) (filter (λ q. not (is_heard heard q)) (firsts listed))
    ∙ ap₂ (λ a b. a || b) (heard_filter p (is_heard listed) heard) (heard_filter p (λ q. not (is_heard heard q)) (firsts listed) ∙ ap (λ c. not (is_heard heard p) && c) (firsts_heard p listed))
    ∙ either (is_heard listed p) (is_heard heard p)
  where
    either : (a b : Bool) → ((a && b) || (not b && a)) ≡ a
    either true true = refl
    either true false = refl
    either false true = refl
    either false false = refl

pub pairs_told : PairsAreTold
pairs_told = record {
  news = λ s e a h. as_heard s e s.own a h;
  names = λ s e a h. subst AreNamed (as_heard s e s.own a h) (hearing_named (registry_takes s e).sent s.pairs a);
  list = λ pairs a. listed_back pairs a;
  listed = exchanged_heard;
}
