-- What the registry sends: replies, signals, and the call that gives an embedded root its number; none asks the bus for a rule.
use Rattle.std.proofs.Common.{ℕ, ◌+◌, Bool, true, false, List, [], ◌∷◌, ◌++◌, map, Option, None, Some, refl}
use Rattle.std.specs.Prelude.{◌==◌, slice_get, bytes_eq, encode_utf8_all, length, codes, if◌then◌else◌, Result, Ok, Err}
use Rattle.std.specs.List.{AllByRecursion, list_any}
use Rattle.atspi_types.specs.Data.{Data}
use Rattle.atspi_message.specs.Envelope.{Envelope}
use Rattle.atspi_protocol.specs.ends.Places.{registry_root}
use Rattle.atspi_protocol.specs.ends.Messages.{Reply, returns, fails, replies, numbered}
use Rattle.atspi_protocol.specs.declared.members.member.ObjectMember.{ObjectMember}
use Rattle.atspi_protocol.specs.declared.members.member.ObjectMember.TheVariants as members
use Rattle.atspi_protocol.specs.members.Arguments.{text_at}
use Rattle.atspi_protocol.specs.members.Asked.{Asked, calls, gets, gets_all, sets, asked}
use Rattle.atspi_protocol.specs.registering.RegistryState.{RegistryState, is_of, has_pair, without_pair, pairs_of, pairs_without, child_place}
use Rattle.atspi_protocol.specs.registering.Told.{registered, deregistered, id_call, children_changed, is_asked_for}
use Rattle.atspi_protocol.specs.registering.Answers.{Answer, only, registers, deregisters, reference_in, new_child, adopts, news_of_removal_at, news_of_removal, releases, answers_member, object_at}
use Rattle.atspi_protocol.specs.registering.Steps.{answer_to, answered, called_by, forgets, named, hears, name_told, name_gone, takes_as, registry_takes}
use Rattle.atspi_world.proofs.Asking.{AsksTruly, uncalled_asks, foreign_asks, replies_ask, either_way}
use Rattle.atspi_world.proofs.Signals.{all-append}

abbrev AskTruly : List Envelope → Type 0
AskTruly ms = AllByRecursion AsksTruly ms

-- a number changes nothing of it
numbered_ask : (n : ℕ) (ms : List Envelope) → AskTruly ms → AskTruly (numbered n ms)
numbered_ask n [] a = tt
numbered_ask n (m ∷ ms) a = (a.0, numbered_ask (n + 1) ms a.1)

-- WHAT IT TELLS of its own accord
registered_asks : (pair : List ℕ × List ℕ) → AsksTruly (registered pair)
registered_asks pair = uncalled_asks (registered pair) 4 refl (λ is. cc)

deregistered_asks : (pair : List ℕ × List ℕ) → AsksTruly (deregistered pair)
deregistered_asks pair = uncalled_asks (deregistered pair) 4 refl (λ is. cc)

id_asks : (child : List ℕ × List ℕ) (n : ℕ) → AsksTruly (id_call child n)
id_asks child n = foreign_asks (id_call child n) refl

child_asks : (minor : List ℕ) (pairs : List (List ℕ × List ℕ)) (index : ℕ) (child : List ℕ × List ℕ) → AskTruly (if is_asked_for pairs minor then children_changed minor index child ∷ [] else [])
child_asks minor pairs index child =
    either_way AskTruly (is_asked_for pairs minor) (children_changed minor index child ∷ []) [] (uncalled_asks (children_changed minor index child) 4 refl (λ is. cc), tt) tt

removal_asks : (pairs children : List (List ℕ × List ℕ)) (o : Option ℕ) → AskTruly (news_of_removal pairs children o)
removal_asks pairs children None = tt
removal_asks pairs children (Some i) = by (slice_get children i)
  where
    by : (o : Option (List ℕ × List ℕ)) → AskTruly (news_of_removal_at pairs i o)
    by None = tt
    by (Some child) = child_asks (codes "remove") pairs i child

-- AN ANSWER, before the reply and behind it
pub record AnswersTruly (a : Answer) : Type 0 where
  pub before : AllByRecursion AsksTruly a.before
  pub behind : AllByRecursion AsksTruly a.behind

only_replies : (s : RegistryState) (reply : Reply) → AnswersTruly (only s reply)
only_replies s reply = record { before = tt; behind = tt }

registers_asks : (s : RegistryState) (caller pattern : List ℕ) → AnswersTruly (registers s caller pattern)
registers_asks s caller pattern =
    either_way AnswersTruly (has_pair s.pairs caller pattern) (only s (returns []))
    (record (only s (returns [])) { pairs = s.pairs ++ (caller, pattern) ∷ []; before = registered (caller, pattern) ∷ [] }) (only_replies s (returns []))
    (record { before = (registered_asks (caller, pattern), tt); behind = tt })

deregisters_asks : (s : RegistryState) (caller pattern : List ℕ) → AnswersTruly (deregisters s caller pattern)
deregisters_asks s caller pattern =
    either_way AnswersTruly (has_pair s.pairs caller pattern)
    (record (only s (returns [])) { pairs = without_pair s.pairs caller pattern; before = deregistered (caller, pattern) ∷ [] }) (only s (returns []))
    (record { before = (deregistered_asks (caller, pattern), tt); behind = tt }) (only_replies s (returns []))

adopts_asks : (s : RegistryState) (child : List ℕ × List ℕ) → AnswersTruly (adopts s child)
adopts_asks s child =
    either_way AnswersTruly (list_any (is_of child.0) s.children) (only s (returns (registry_root ∷ []))) (new_child s child) (only_replies s (returns (registry_root ∷ [])))
    (record { before = tt; behind = (id_asks child s.embeds, child_asks (codes "add") s.pairs (length s.children) child) })

releases_asks : (s : RegistryState) (caller : List ℕ) → AnswersTruly (releases s caller)
releases_asks s caller = record { before = removal_asks s.pairs s.children (child_place s.children caller); behind = tt }

member_answers : (member : ObjectMember) (s : RegistryState) (own caller : List ℕ) (args : List Data) → AnswersTruly (answers_member member s own caller args)
member_answers members.RegisterEvent s own caller args = registers_asks s caller (text_at 0 args)
member_answers members.DeregisterEvent s own caller args = deregisters_asks s caller (text_at 0 args)
member_answers members.Embed s own caller args =
    either_way AnswersTruly (bytes_eq (encode_utf8_all (reference_in args).0) caller) (adopts s (caller, (reference_in args).1)) (only s (fails (codes "InvalidArgs")))
    (adopts_asks s (caller, (reference_in args).1)) (only_replies s (fails (codes "InvalidArgs")))
member_answers members.Unembed s own caller args =
    either_way AnswersTruly (bytes_eq (encode_utf8_all (reference_in args).0) caller) (releases s caller) (only s (fails (codes "InvalidArgs"))) (releases_asks s caller)
    (only_replies s (fails (codes "InvalidArgs")))
member_answers _ s own caller args = record { before = tt; behind = tt }

answer_asks : (s : RegistryState) (own caller : List ℕ) (r : Result Asked (List ℕ)) → AnswersTruly (answer_to s own caller r)
answer_asks s own caller (Ok (calls member args)) = member_answers member s own caller args
answer_asks s own caller (Ok (gets property)) = record { before = tt; behind = tt }
answer_asks s own caller (Ok (gets_all ls)) = record { before = tt; behind = tt }
answer_asks s own caller (Ok (sets property d)) = record { before = tt; behind = tt }
answer_asks s own caller (Err word) = record { before = tt; behind = tt }

answered_asks : (s : RegistryState) (caller : List ℕ) (e : Envelope) (a : Answer) → AnswersTruly a → AskTruly (answered s caller e a).sent
answered_asks s caller e a is =
    numbered_ask s.next (a.before ++ (replies caller e a.reply ++ a.behind))
    (all-append AsksTruly a.before (replies caller e a.reply ++ a.behind) is.before
    (all-append AsksTruly (replies caller e a.reply) a.behind (replies_ask caller e a.reply) is.behind))

called_asks : (s : RegistryState) (own : List ℕ) (e : Envelope) (o : Option (List ℕ)) → AskTruly (called_by s own e o).sent
called_asks s own e None = tt
called_asks s own e (Some caller) =
    let r : Result Asked (List ℕ) = asked (object_at e.path) e.interface e.member e.body in
    answered_asks s caller e (answer_to s own caller r) (answer_asks s own caller r)

-- SOMEBODY LEFT
left_asks : (pairs : List (List ℕ × List ℕ)) → AskTruly (map deregistered pairs)
left_asks [] = tt
left_asks (p ∷ ps) = (deregistered_asks p, left_asks ps)

forgets_asks : (s : RegistryState) (name : List ℕ) → AskTruly (forgets s name).sent
forgets_asks s name =
    let gone : List Envelope = map deregistered (pairs_of s.pairs name) in
    let news : List Envelope = news_of_removal (pairs_without s.pairs name) s.children (child_place s.children name) in
    numbered_ask s.next (gone ++ news)
    (all-append AsksTruly gone news (left_asks (pairs_of s.pairs name)) (removal_asks (pairs_without s.pairs name) s.children (child_place s.children name)))

hears_asks : (s : RegistryState) (o : Option (List ℕ)) → AskTruly (hears s o).sent
hears_asks s None = tt
hears_asks s (Some name) = forgets_asks s (encode_utf8_all name)

named_asks : (s : RegistryState) (o : Option (List ℕ)) → AskTruly (named s o).sent
named_asks s None = tt
named_asks s (Some name) = tt

takes_as_asks : (s : RegistryState) (e : Envelope) (o : Option (List ℕ)) → AskTruly (takes_as s e o).sent
takes_as_asks s e None = named_asks s (name_told s.hello e)
takes_as_asks s e (Some own) = by (e.kind == 1)
  where
    by : (b : Bool) → AskTruly (if b then called_by s own e e.sender else hears s (name_gone e)).sent
    by true = called_asks s own e e.sender
    by false = hears_asks s (name_gone e)

-- THE REGISTRY takes a message, in any state
pub registry_asks : (s : RegistryState) (e : Envelope) → AllByRecursion AsksTruly (registry_takes s e).sent
registry_asks s e = takes_as_asks s e s.own
