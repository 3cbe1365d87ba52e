-- News of children are sent only where some pair asks for them.
use Rattle.std.proofs.Common.{◌≡◌, ℕ, ◌+◌, Bool, true, false, ◌==◌, cond, List, [], ◌∷◌, ◌++◌, map, length, Option, None, Some, refl}
use Rattle.std.specs.Prelude.{slice_get, codes, bytes_eq, encode_utf8_all, Result, Ok, Err}
use Rattle.std.specs.List.{list_any}
use Rattle.atspi_types.specs.Data.{Data}
use Rattle.atspi_message.specs.Envelope.{Envelope}
use Rattle.atspi_protocol.specs.ends.Places.{registry_root}
use Rattle.atspi_protocol.specs.ends.Messages.{Reply, returns, fails, return_to, error_to, reply_to, expects_reply, replies, numbered}
use Rattle.atspi_protocol.specs.members.Asked.{Asked, asked, calls, gets, gets_all, sets}
use Rattle.atspi_protocol.specs.members.Arguments.{text_at}
use Rattle.atspi_protocol.specs.declared.members.member.ObjectMember.{ObjectMember}
use Rattle.atspi_protocol.specs.declared.members.member.ObjectMember.TheVariants as members
use Rattle.atspi_protocol.specs.registering.RegistryState.{RegistryState, is_of, has_pair, without_pair, pairs_of, pairs_without, child_place}
use Rattle.atspi_protocol.specs.registering.Told.{registered, deregistered, id_call, children_changed, child_added, child_removed, is_asked_for}
use Rattle.atspi_protocol.specs.registering.Answers.{Answer, only, registers, deregisters, reference_in, new_child, adopts, news_of_removal_at, news_of_removal, releases, if_own, answers_member, object_at}
use Rattle.atspi_protocol.specs.registering.Steps.{RegistryStep, answer_to, answered, called_by, named, hears, takes_as, registry_takes, name_told, name_gone}
use Rattle.atspi_protocol.specs.registry_laws.Asked.{is_children_news, minor_in, AllAskedFor}

abbrev Pairs : Type 0
Pairs = List (List ℕ × List ℕ)

-- a message that is no news of children
silent : (pairs : Pairs) (e : Envelope) → is_children_news e ≡ false → is_children_news e ≡ true → is_asked_for pairs (minor_in e.body) ≡ true
silent pairs e other news = absurd cc

numbered_asked : (pairs : Pairs) (n : ℕ) (es : List Envelope) → AllAskedFor pairs es → AllAskedFor pairs (numbered n es)
numbered_asked pairs n [] a = tt
numbered_asked pairs n (e ∷ es) a = (a.0, numbered_asked pairs (n + 1) es a.1)

both_asked : (pairs : Pairs) (xs ys : List Envelope) → AllAskedFor pairs xs → AllAskedFor pairs ys → AllAskedFor pairs (xs ++ ys)
both_asked pairs [] ys a b = b
both_asked pairs (x ∷ xs) ys a b = (a.0, both_asked pairs xs ys a.1 b)

news_asked : (pairs : Pairs) (word : List ℕ) (i : ℕ) (child : List ℕ × List ℕ) (b : Bool) → is_asked_for pairs word ≡ b
    → AllAskedFor pairs (cond b (children_changed word i child ∷ []) [])
news_asked pairs word i child true h = ((λ _. h), tt)
news_asked pairs word i child false h = tt

added_asked : (pairs : Pairs) (i : ℕ) (child : List ℕ × List ℕ) → AllAskedFor pairs (child_added pairs i child)
added_asked pairs i child = news_asked pairs (codes "add") i child (is_asked_for pairs (codes "add")) refl

removed_asked : (pairs : Pairs) (i : ℕ) (child : List ℕ × List ℕ) → AllAskedFor pairs (child_removed pairs i child)
removed_asked pairs i child = news_asked pairs (codes "remove") i child (is_asked_for pairs (codes "remove")) refl

removal_at_asked : (pairs : Pairs) (i : ℕ) (child : Option (List ℕ × List ℕ)) → AllAskedFor pairs (news_of_removal_at pairs i child)
removal_at_asked pairs i None = tt
removal_at_asked pairs i (Some child) = removed_asked pairs i child

removal_asked : (pairs children : Pairs) (place : Option ℕ) → AllAskedFor pairs (news_of_removal pairs children place)
removal_asked pairs children None = tt
removal_asked pairs children (Some i) = removal_at_asked pairs i (slice_get children i)

deregistered_asked : (others pairs : Pairs) → AllAskedFor others (map deregistered pairs)
deregistered_asked others [] = tt
deregistered_asked others (p ∷ pairs) = (silent others (deregistered p) refl, deregistered_asked others pairs)

-- what is told before and behind a reply
record IsAskedFor (a : Answer) : Type 0 where
  before : AllAskedFor a.pairs a.before
  behind : AllAskedFor a.pairs a.behind

only_asked : (s : RegistryState) (r : Reply) → IsAskedFor (only s r)
only_asked s r = record { before = tt; behind = tt }

either : (b : Bool) (x y : Answer) → IsAskedFor x → IsAskedFor y → IsAskedFor (cond b x y)
either true x y p q = p
either false x y p q = q

registers_asked : (s : RegistryState) (caller pattern : List ℕ) → IsAskedFor (registers s caller pattern)
registers_asked s caller pattern = either (has_pair s.pairs caller pattern) _ _ (only_asked s (returns [])) (record { before = (silent (s.pairs ++ (caller, pattern) ∷ []) (registered (caller, pattern)) refl, tt); behind = tt })

deregisters_asked : (s : RegistryState) (caller pattern : List ℕ) → IsAskedFor (deregisters s caller pattern)
deregisters_asked s caller pattern = either (has_pair s.pairs caller pattern) _ _ (record { before = (silent (without_pair s.pairs caller pattern) (deregistered (caller, pattern)) refl, tt); behind = tt }) (only_asked s (returns []))

new_child_asked : (s : RegistryState) (child : List ℕ × List ℕ) → IsAskedFor (new_child s child)
new_child_asked s child = record { before = tt; behind = (silent s.pairs (id_call child s.embeds) refl, added_asked s.pairs (length s.children) child) }

adopts_asked : (s : RegistryState) (child : List ℕ × List ℕ) → IsAskedFor (adopts s child)
adopts_asked s child =
    either (list_any (is_of child.0) s.children) (only s (returns (registry_root ∷ []))) (new_child s child) (only_asked s (returns (registry_root ∷ []))) (new_child_asked s child)

releases_asked : (s : RegistryState) (caller : List ℕ) → IsAskedFor (releases s caller)
releases_asked s caller = record { before = removal_asked s.pairs s.children (child_place s.children caller); behind = tt }

own_asked : (s : RegistryState) (caller : List ℕ) (r : List ℕ × List ℕ) (a : Answer) → IsAskedFor a → IsAskedFor (if_own s caller r a)
own_asked s caller r a q = either (bytes_eq (encode_utf8_all r.0) caller) a (only s (fails (codes "InvalidArgs"))) q (only_asked s (fails (codes "InvalidArgs")))

member_asked : (m : ObjectMember) (s : RegistryState) (own caller : List ℕ) (args : List Data) → IsAskedFor (answers_member m s own caller args)
member_asked members.RegisterEvent s own caller args = registers_asked s caller (text_at 0 args)
member_asked members.DeregisterEvent s own caller args = deregisters_asked s caller (text_at 0 args)
member_asked members.Embed s own caller args = own_asked s caller (reference_in args) (adopts s (caller, (reference_in args).1)) (adopts_asked s (caller, (reference_in args).1))
member_asked members.Unembed s own caller args = own_asked s caller (reference_in args) (releases s caller) (releases_asked s caller)
member_asked _ s own caller args = record { before = tt; behind = tt }

answer_asked : (r : Result Asked (List ℕ)) (s : RegistryState) (own caller : List ℕ) → IsAskedFor (answer_to s own caller r)
answer_asked (Ok (calls m args)) s own caller = member_asked m s own caller args
answer_asked (Ok (gets p)) s own caller = record { before = tt; behind = tt }
answer_asked (Ok (gets_all ls)) s own caller = record { before = tt; behind = tt }
answer_asked (Ok (sets p d)) s own caller = record { before = tt; behind = tt }
answer_asked (Err word) s own caller = record { before = tt; behind = tt }

reply_asked : (pairs : Pairs) (caller : List ℕ) (serial : ℕ) (r : Reply) → AllAskedFor pairs (reply_to caller serial r ∷ [])
reply_asked pairs caller serial (returns values) = (silent pairs (return_to caller serial values) refl, tt)
reply_asked pairs caller serial (fails word) = (silent pairs (error_to caller serial word) refl, tt)

replies_asked : (pairs : Pairs) (caller : List ℕ) (e : Envelope) (r : Reply) → AllAskedFor pairs (replies caller e r)
replies_asked pairs caller e r = by (expects_reply e)
  where
    by : (b : Bool) → AllAskedFor pairs (cond b (reply_to caller e.serial r ∷ []) [])
    by true = reply_asked pairs caller e.serial r
    by false = tt

-- the messages of a step are asked for by the pairs behind it
abbrev Asks : RegistryStep → Type 0
Asks step = AllAskedFor step.state.pairs step.sent

answered_asks : (s : RegistryState) (caller : List ℕ) (e : Envelope) (a : Answer) → IsAskedFor a → Asks (answered s caller e a)
answered_asks s caller e a q =
    numbered_asked a.pairs s.next (a.before ++ (replies caller e a.reply ++ a.behind))
    (both_asked a.pairs a.before (replies caller e a.reply ++ a.behind) q.before
    (both_asked a.pairs (replies caller e a.reply) a.behind (replies_asked a.pairs caller e a.reply) q.behind))

called_by_asks : (s : RegistryState) (own : List ℕ) (e : Envelope) (caller : Option (List ℕ)) → Asks (called_by s own e caller)
called_by_asks s own e None = tt
called_by_asks s own e (Some caller) =
    let r : Result Asked (List ℕ) = asked (object_at e.path) e.interface e.member e.body in
    answered_asks s caller e (answer_to s own caller r) (answer_asked r s own caller)

hears_asks : (s : RegistryState) (name : Option (List ℕ)) → Asks (hears s name)
hears_asks s None = tt
hears_asks s (Some name) =
    let gone : List ℕ = encode_utf8_all name in
    let others : Pairs = pairs_without s.pairs gone in
    let place : Option ℕ = child_place s.children gone in
    numbered_asked others s.next (map deregistered (pairs_of s.pairs gone) ++ news_of_removal others s.children place)
    (both_asked others (map deregistered (pairs_of s.pairs gone)) (news_of_removal others s.children place)
    (deregistered_asked others (pairs_of s.pairs gone)) (removal_asked others s.children place))

named_asks : (s : RegistryState) (name : Option (List ℕ)) → Asks (named s name)
named_asks s None = tt
named_asks s (Some name) = tt

takes_asks : (s : RegistryState) (e : Envelope) (own : Option (List ℕ)) → Asks (takes_as s e own)
takes_asks s e None = named_asks s (name_told s.hello e)
takes_asks s e (Some own) = by (e.kind == 1)
  where
    by : (b : Bool) → Asks (cond b (called_by s own e e.sender) (hears s (name_gone e)))
    by true = called_by_asks s own e e.sender
    by false = hears_asks s (name_gone e)

pub all_asked : (s : RegistryState) (e : Envelope) → AllAskedFor (registry_takes s e).state.pairs (registry_takes s e).sent
all_asked s e = takes_asks s e s.own
