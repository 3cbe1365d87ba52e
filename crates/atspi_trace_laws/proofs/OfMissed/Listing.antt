-- Where the registry sends a list of pairs: it has just those, whatever it sent before in the same step. And it keeps its name.
use Rattle.std.proofs.Common.{◌≡◌, ℕ, ◌+◌, Bool, true, false, List, [], ◌∷◌, ◌++◌, length, map, Option, None, Some, refl, sym, ap, ◌∙◌, arith}
use Rattle.std.specs.Prelude.{◌==◌, ℤ, pos, negsuc, slice_get, bytes_eq, codes, encode_utf8_all, if◌then◌else◌, Result, Ok, Err}
use Rattle.std.specs.List.{AllByRecursion, list_any}
use Rattle.atspi_types.specs.Data.{Data}
use Rattle.atspi_message.specs.Envelope.{Envelope}
use Rattle.atspi_protocol.specs.ends.Places.{registry_root}
use Rattle.atspi_protocol.specs.ends.Messages.{Reply, returns, fails, reply_to, replies, expects_reply, numbered}
use Rattle.atspi_protocol.specs.declared.members.member.ObjectMember.{ObjectMember}
use Rattle.atspi_protocol.specs.declared.members.member.ObjectMember.TheVariants as members
use Rattle.atspi_protocol.specs.members.Asked.{Asked, calls, gets, gets_all, sets, asked}
use Rattle.atspi_protocol.specs.members.Arguments.{text_at, signed_at}
use Rattle.atspi_protocol.specs.registering.RegistryState.{RegistryState, is_of, has_pair, without_pair, pairs_of, pairs_without, child_place}
use Rattle.atspi_protocol.specs.registering.Told.{registered, deregistered, children_changed, is_asked_for}
use Rattle.atspi_protocol.specs.registering.Answers.{Answer, only, registers, deregisters, reference_in, new_child, adopts, news_of_removal_at, news_of_removal, releases, child_or_nobody, child_at, answers_member, object_at}
use Rattle.atspi_protocol.specs.registering.Steps.{RegistryStep, answered, answer_to, called_by, named, hears, name_told, name_gone, takes_as, registry_takes}
use Rattle.atspi_protocol.specs.exporting.Hearing.{heard_after, pairs_in}
use Rattle.atspi_trace_laws.specs.missed.Laws.{hearing, AreNamed}
use Rattle.atspi_trace_laws.proofs.OfOrder.Parties.{no_none, same_some, all_append}
use Rattle.atspi_trace_laws.proofs.OfMissed.Telling.{Pair, pairs_told}

-- A LIST among messages is of the pairs that one has who had these, and hears what is sent before it

abbrev pub ListsIn : List Pair → List Envelope → Type 0
ListsIn had [] = Unit {0}
ListsIn had (e ∷ es) = ((pairs : List Pair) → e.kind ≡ 2 → pairs_in e.body ≡ Some pairs → had ≡ pairs) × ListsIn (heard_after had e).heard es

-- a message that is no return is no list
abbrev NoReturn : Envelope → Type 0
NoReturn e = e.kind ≡ 2 → ⊥

no_four : ◌≡◌ {A = ℕ} 4 2 → ⊥
no_four h = absurd (omega (arith, h))

no_three : ◌≡◌ {A = ℕ} 3 2 → ⊥
no_three h = absurd (omega (arith, h))

no_one : ◌≡◌ {A = ℕ} 1 2 → ⊥
no_one h = absurd (omega (arith, h))

none_listed : (had : List Pair) (es : List Envelope) → AllByRecursion NoReturn es → ListsIn had es
none_listed had [] a = tt
none_listed had (e ∷ es) a = ((λ pairs two is. absurd (a.0 two)), none_listed (heard_after had e).heard es a.1)

lists_append : (had : List Pair) (xs ys : List Envelope) → ListsIn had xs → ListsIn (hearing xs had) ys → ListsIn had (xs ++ ys)
lists_append had [] ys a b = b
lists_append had (x ∷ xs) ys a b = (a.0, lists_append (heard_after had x).heard xs ys a.1 b)

lists_numbered : (had : List Pair) (n : ℕ) (es : List Envelope) → ListsIn had es → ListsIn had (numbered n es)
lists_numbered had n [] a = tt
lists_numbered had n (e ∷ es) a = (a.0, lists_numbered (heard_after had e).heard (n + 1) es a.1)

-- AN ANSWER that returns pairs returns those that are told until then
abbrev values_of : Reply → List Data
values_of (returns values) = values
values_of (fails word) = []

pub record ListsAsTold (s : RegistryState) (a : Answer) : Type 0 where
  pub before : AllByRecursion NoReturn a.before
  pub reply : (pairs : List Pair) → pairs_in (values_of a.reply) ≡ Some pairs → hearing a.before s.pairs ≡ pairs
  pub behind : AllByRecursion NoReturn a.behind

-- what is returned is no list of pairs
no_list : (s : RegistryState) (reply : Reply) → pairs_in (values_of reply) ≡ None → ListsAsTold s (only s reply)
no_list s reply none = record { before = tt; reply = λ pairs is. absurd (no_none pairs (sym none ∙ is)); behind = tt }

news_none : (b : Bool) (minor : List ℕ) (index : ℕ) (child : Pair) → AllByRecursion NoReturn (if b then children_changed minor index child ∷ [] else [])
news_none true minor index child = (no_four, tt)
news_none false minor index child = tt

removal_at : (pairs : List Pair) (i : ℕ) (o : Option Pair) → AllByRecursion NoReturn (news_of_removal_at pairs i o)
removal_at pairs i None = tt
removal_at pairs i (Some child) = news_none (is_asked_for pairs (codes "remove")) (codes "remove") i child

removal_none : (pairs children : List Pair) (place : Option ℕ) → AllByRecursion NoReturn (news_of_removal pairs children place)
removal_none pairs children None = tt
removal_none pairs children (Some i) = removal_at pairs i (slice_get children i)

fallen_none : (pairs : List Pair) → AllByRecursion NoReturn (map deregistered pairs)
fallen_none [] = tt
fallen_none (p ∷ ps) = (no_four, fallen_none ps)

registers_lists : (s : RegistryState) (caller pattern : List ℕ) → ListsAsTold s (registers s caller pattern)
registers_lists s caller pattern = by (has_pair s.pairs caller pattern)
  where
    by : (b : Bool) → ListsAsTold s (if b then only s (returns []) else record (only s (returns [])) { pairs = s.pairs ++ (caller, pattern) ∷ []; before = registered (caller, pattern) ∷ [] })
    by true = no_list s (returns []) refl
    by false = record { before = (no_four, tt); reply = λ pairs is. absurd (no_none pairs is); behind = tt }

deregisters_lists : (s : RegistryState) (caller pattern : List ℕ) → ListsAsTold s (deregisters s caller pattern)
deregisters_lists s caller pattern = by (has_pair s.pairs caller pattern)
  where
    by : (b : Bool) → ListsAsTold s (if b then record (only s (returns [])) { pairs = without_pair s.pairs caller pattern; before = deregistered (caller, pattern) ∷ [] } else only s (returns []))
    by true = record { before = (no_four, tt); reply = λ pairs is. absurd (no_none pairs is); behind = tt }
    by false = no_list s (returns []) refl

own_lists : (s : RegistryState) (b : Bool) (a : Answer) → ListsAsTold s a → ListsAsTold s (if b then a else only s (fails (codes "InvalidArgs")))
own_lists s true a t = t
own_lists s false a t = no_list s (fails (codes "InvalidArgs")) refl

adopts_lists : (s : RegistryState) (child : Pair) (b : Bool) → ListsAsTold s (if b then only s (returns (registry_root ∷ [])) else new_child s child)
adopts_lists s child true = no_list s (returns (registry_root ∷ [])) refl
adopts_lists s child false =
    record { before = tt; reply = λ pairs is. absurd (no_none pairs is); behind = (no_one, news_none (is_asked_for s.pairs (codes "add")) (codes "add") (length s.children) child) }

releases_lists : (s : RegistryState) (caller : List ℕ) → ListsAsTold s (releases s caller)
releases_lists s caller = record { before = removal_none s.pairs s.children (child_place s.children caller); reply = λ pairs is. absurd (no_none pairs is); behind = tt }

child_no_list : (children : List Pair) (own : List ℕ) (i : ℤ) → pairs_in (child_at children own i ∷ []) ≡ None
child_no_list children own (negsuc n) = refl
child_no_list children own (pos n) = by (slice_get children n)
  where
    by : (o : Option Pair) → pairs_in (child_or_nobody own o ∷ []) ≡ None
    by None = refl
    by (Some child) = refl

member_lists : (member : ObjectMember) (s : RegistryState) (own caller : List ℕ) (args : List Data) → AreNamed s.pairs → ListsAsTold s (answers_member member s own caller args)
member_lists members.RegisterEvent s own caller args a = registers_lists s caller (text_at 0 args)
member_lists members.DeregisterEvent s own caller args a = deregisters_lists s caller (text_at 0 args)
member_lists members.GetRegisteredEvents s own caller args a =
    record { before = tt; reply = λ pairs is. same_some s.pairs pairs (sym (pairs_told.list s.pairs a) ∙ is); behind = tt }
member_lists members.Embed s own caller args a =
    let child : Pair = (caller, (reference_in args).1) in
    own_lists s (bytes_eq (encode_utf8_all (reference_in args).0) caller) (adopts s child) (adopts_lists s child (list_any (is_of caller) s.children))
member_lists members.Unembed s own caller args a = own_lists s (bytes_eq (encode_utf8_all (reference_in args).0) caller) (releases s caller) (releases_lists s caller)
member_lists members.GetChildAtIndex s own caller args a = no_list s (returns (child_at s.children own (signed_at 0 args) ∷ [])) (child_no_list s.children own (signed_at 0 args))
member_lists member s own caller args a = no_list s (answers_member member s own caller args).reply refl

answer_lists : (r : Result Asked (List ℕ)) (s : RegistryState) (own caller : List ℕ) → AreNamed s.pairs → ListsAsTold s (answer_to s own caller r)
answer_lists (Ok (calls member args)) s own caller a = member_lists member s own caller args a
answer_lists (Ok (gets property)) s own caller a = no_list s (answer_to s own caller (Ok (gets property))).reply refl
answer_lists (Ok (gets_all ls)) s own caller a = no_list s (answer_to s own caller (Ok (gets_all ls))).reply refl
answer_lists (Ok (sets property d)) s own caller a = no_list s (fails (codes "PropertyReadOnly")) refl
answer_lists (Err word) s own caller a = no_list s (fails word) refl

-- THE STEP
abbrev Lists : RegistryState → RegistryStep → Type 0
Lists s step = ListsIn s.pairs step.sent

reply_lists : (had : List Pair) (b : Bool) (caller : List ℕ) (serial : ℕ) (reply : Reply) → ((pairs : List Pair) → pairs_in (values_of reply) ≡ Some pairs → had ≡ pairs)
    → ListsIn had (if b then reply_to caller serial reply ∷ [] else [])
reply_lists had true caller serial (returns values) f = ((λ pairs two is. f pairs is), tt)
reply_lists had true caller serial (fails word) f = ((λ pairs three is. absurd (no_three three)), tt)
reply_lists had false caller serial reply f = tt

answered_lists : (s : RegistryState) (caller : List ℕ) (e : Envelope) (a : Answer) → ListsAsTold s a → Lists s (answered s caller e a)
answered_lists s caller e a t =
    let reply = replies caller e a.reply in
    lists_numbered s.pairs s.next (a.before ++ (reply ++ a.behind))
    (lists_append s.pairs a.before (reply ++ a.behind) (none_listed s.pairs a.before t.before)
    (lists_append (hearing a.before s.pairs) reply a.behind (reply_lists (hearing a.before s.pairs) (expects_reply e) caller e.serial a.reply t.reply)
    (none_listed (hearing reply (hearing a.before s.pairs)) a.behind t.behind)))

called_lists : (s : RegistryState) (own : List ℕ) (e : Envelope) (o : Option (List ℕ)) → AreNamed s.pairs → Lists s (called_by s own e o)
called_lists s own e None a = tt
called_lists s own e (Some caller) a =
    let question = asked (object_at e.path) e.interface e.member e.body in
    answered_lists s caller e (answer_to s own caller question) (answer_lists question s own caller a)

left_lists : (s : RegistryState) (o : Option (List ℕ)) → Lists s (hears s o)
left_lists s None = tt
left_lists s (Some word) =
    let name = encode_utf8_all word in
    let fallen = map deregistered (pairs_of s.pairs name) in
    let news = news_of_removal (pairs_without s.pairs name) s.children (child_place s.children name) in
    lists_numbered s.pairs s.next (fallen ++ news)
    (none_listed s.pairs (fallen ++ news) (all_append NoReturn fallen news (fallen_none (pairs_of s.pairs name)) (removal_none (pairs_without s.pairs name) s.children (child_place s.children name))))

named_lists : (s : RegistryState) (o : Option (List ℕ)) → Lists s (named s o)
named_lists s None = tt
named_lists s (Some name) = tt

as_lists : (s : RegistryState) (e : Envelope) (o : Option (List ℕ)) → AreNamed s.pairs → Lists s (takes_as s e o)
as_lists s e None a = named_lists s (name_told s.hello e)
as_lists s e (Some own) a = by (e.kind == 1)
  where
    by : (b : Bool) → Lists s (if b then called_by s own e e.sender else hears s (name_gone e))
    by true = called_lists s own e e.sender a
    by false = left_lists s (name_gone e)

pub registry_lists : (s : RegistryState) (e : Envelope) → AreNamed s.pairs → ListsIn s.pairs (registry_takes s e).sent
registry_lists s e a = as_lists s e s.own a

-- THE NAME
called_own : (s : RegistryState) (own : List ℕ) (e : Envelope) (o : Option (List ℕ)) → (called_by s own e o).state.own ≡ s.own
called_own s own e None = refl
called_own s own e (Some caller) = refl

left_own : (s : RegistryState) (o : Option (List ℕ)) → (hears s o).state.own ≡ s.own
left_own s None = refl
left_own s (Some name) = refl

pub own_kept : (s : RegistryState) (e : Envelope) (own : List ℕ) → s.own ≡ Some own → (registry_takes s e).state.own ≡ Some own
own_kept s e own is = ap (λ o. (takes_as s e o).state.own) is ∙ by (e.kind == 1) ∙ is
  where
    by : (b : Bool) → (if b then called_by s own e e.sender else hears s (name_gone e)).state.own ≡ s.own
    by true = called_own s own e e.sender
    by false = left_own s (name_gone e)
