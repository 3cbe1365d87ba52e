-- What the bus does with a message, and where one leaves, hands on messages that can be written, and leaves it knowing what it did.
use Rattle.std.proofs.Common.{◌≡◌, ◌≢◌, ◌⊎◌, inl, inr, ℕ, ◌+◌, ◌<◌, ◌≤◌, ◌^◌, Bool, true, false, List, [], ◌∷◌, ◌++◌, length, map, Option, None, Some, refl, ap, ◌∙◌, length-append, arith}
use Rattle.std.specs.Prelude.{◌==◌, ◌&&◌, ◌||◌, not, codes, filter, flat_map, IfSome, if◌then◌else◌, Result, Ok, Err}
use Rattle.std.specs.List.{AllByRecursion}
use Rattle.atspi_types.specs.Data.{text_data}
use Rattle.atspi_base.specs.valid_names.Names.{IsBusName}
use Rattle.atspi_message.specs.Envelope.{Envelope}
use Rattle.atspi_names.specs.Owners.{Owners, own_name, list_of, unique_name, after_hello, after_gone, owned_by}
use Rattle.atspi_names.specs.Queue.{owner_in, without}
use Rattle.atspi_names.proofs.BookLemmas.{list_of-lists_without, no_empty-lists_without, no_empty-with_list}
use Rattle.atspi_names.proofs.UniqueLemmas.{is_bus_name-unique_name}
use Rattle.atspi_bus_laws.proofs.OfOwners.Steps.{orderly-hello, orderly-gone}
use Rattle.atspi_match.specs.declared.condition.Condition.{Condition}
use Rattle.atspi_match.specs.RuleIndex.{without_rules}
use Rattle.atspi_match.specs.declared.routing.member.BusMember.{BusMember}
use Rattle.atspi_match.specs.routing.BusState.{OpenCall, BusState, unique_of, text_or_empty, name_or_empty, calls_without, waiting_for}
use Rattle.atspi_match.specs.routing.OwnMessages.{return_to, error_to, name_acquired, owner_changed, numbered}
use Rattle.atspi_match.specs.routing.Members.{member_of}
use Rattle.atspi_match.specs.routing.Answers.{Reply, returns, fails, Answer, only, answers}
use Rattle.atspi_match.specs.routing.Routing.{receivers, is_for_bus, expects_reply, is_reply, with_call, without_answered, calls_after}
use Rattle.atspi_match.specs.routing.Queues.{own_of}
use Rattle.atspi_match.specs.routing.Steps.{Move, says, delivers, closes, BusStep, handed, speaks, replies, answered, called, undeliverable, is_unowned, calls_after_all, passes_on, takes_from_named, is_hello, greets, no_replies, name_passes_on, names_pass_on, farewell, bus_takes, bus_leaves}
use Rattle.atspi_message.specs.Spellable.{IsSpellable}
use Rattle.atspi_bus_laws.specs.handed.Known.{IsSerial, AreKnown, IsKnown}
use Rattle.atspi_bus_laws.specs.handed.Sizes.{IsShortOrList, OnlyListsAreLong}
use Rattle.atspi_bus_laws.proofs.OfHanded.Lists.{all_append, all_filter, all_map}
use Rattle.atspi_message.proofs.Short.{with_sender}
use Rattle.atspi_bus_laws.proofs.OfHanded.Names.{plain_none, plain_name, unique_is, plain_unique, plain_owner, owned_are, service_is, no_reply_is}
use Rattle.atspi_bus_laws.proofs.OfHanded.Own.{MaySpell, text_body, spell_return, spell_error, spell_changed, spell_acquired}
use Rattle.atspi_bus_laws.proofs.OfHanded.Answering.{IsReply, IsAnswer, only_is, names_with, answers_is, ErrorIs, member_error}

-- what is handed on can be written, and bears the bus's name, or that of who sent it; and what is said is short or lists
-- texts
abbrev pub Bears : Option (List ℕ) → Envelope → Type 0
Bears sender e = (e.sender ≡ Some own_name) ⊎ (e.sender ≡ sender)

abbrev pub HandsOn : Option (List ℕ) → Move → Type 0
HandsOn sender (says e) = IsShortOrList e
HandsOn sender (delivers conn e) = IsSpellable e × Bears sender e
HandsOn sender (closes conn) = Unit {0}

-- who sends what is not the bus's own: of one that has no name yet nothing is handed on
abbrev pub signer : Option (List ℕ) → Option (List ℕ)
signer None = Some own_name
signer (Some name) = Some name

pub record IsDone (sender : Option (List ℕ)) (step : BusStep) : Type 0 where
  pub known : IsKnown step.state
  pub moves : AllByRecursion (HandsOn sender) step.moves

each_handed : (sender : Option (List ℕ)) (e : Envelope) (conns : List ℕ) → IsSpellable e → Bears sender e → AllByRecursion (HandsOn sender) (map (λ c. delivers c e) conns)
each_handed sender e [] h b = tt
each_handed sender e (c ∷ cs) h b = ((h, b), each_handed sender e cs h b)

not_zero : (n : ℕ) → 1 ≤ n → n ≢ 0
not_zero n h z = omega (arith, h, z)

spoken : (sender : Option (List ℕ)) (s : BusState) (es : List Envelope) (n : ℕ) → AllByRecursion MaySpell es → 1 ≤ n → n + length es ≤ 4294967296
    → AllByRecursion (HandsOn sender) (flat_map (λ e. says e ∷ handed s e) (numbered n es))
spoken sender s [] n a low high = tt
spoken sender s (e ∷ es) n a low high =
    let it : Envelope = record e { serial = n } in
    let small : n < 2 ^ 32 = omega (arith, high) in (
      a.0.sized n,
      all_append (HandsOn sender) (handed s it) (flat_map (λ m. says m ∷ handed s m) (numbered (n + 1) es)) (each_handed sender it (receivers s it) (a.0.spells n (not_zero n low, small)) (inl a.0.sender))
          (spoken sender s es (n + 1) a.1 (omega (arith, low)) (omega (arith, high))),
    )

speaks_done : (sender : Option (List ℕ)) (s : BusState) (es : List Envelope) → 1 ≤ s.next → AreKnown s.owners s.calls (s.next + length es) → AllByRecursion MaySpell es → s.next + length es ≤ 4294967296 → IsDone sender (speaks s es)
speaks_done sender s es first k a top = record { known = k; moves = spoken sender s es s.next a first top }

more_known : (o : Owners) (calls : List OpenCall) (n m : ℕ) → AreKnown o calls n → n ≤ m → AreKnown o calls m
more_known o calls n m k le = record { orderly = k.orderly; named = k.named; no_empty = k.no_empty; serials = k.serials; first = omega (arith, k.first, le); given = omega (arith, k.given, le) }

speaks_on : (sender : Option (List ℕ)) (s : BusState) (es : List Envelope) → IsKnown s → AllByRecursion MaySpell es → s.next + length es ≤ 4294967296 → IsDone sender (speaks s es)
speaks_on sender s es k a top = speaks_done sender s es k.first (more_known s.owners s.calls s.next (s.next + length es) k (omega arith)) a top

-- answers

replies_are : (s : BusState) (conn : ℕ) (e : Envelope) (reply : Reply) → IfSome (unique_of s.owners conn) IsBusName → IsSerial e.serial → IsReply reply → AllByRecursion MaySpell (replies s conn e reply)
replies_are s conn e (returns values) name serial r = by (expects_reply e)
  where
    by : (b : Bool) → AllByRecursion MaySpell (if b then return_to (unique_of s.owners conn) e.serial values ∷ [] else [])
    by true = (spell_return (unique_of s.owners conn) e.serial values name serial r, tt)
    by false = tt
replies_are s conn e (fails error) name serial r = by (expects_reply e)
  where
    by : (b : Bool) → AllByRecursion MaySpell (if b then error_to (unique_of s.owners conn) e.serial error ∷ [] else [])
    by true = (spell_error (unique_of s.owners conn) e.serial error name serial r, tt)
    by false = tt

answered_done : (sender : Option (List ℕ)) (s : BusState) (conn : ℕ) (e : Envelope) (a : Answer) → IsAnswer s.calls s.next a → IsSerial e.serial → (answered s conn e a).state.next ≤ 4294967296 → IsDone sender (answered s conn e a)
answered_done sender s conn e a i serial top =
    let after : BusState = record s { owners = a.owners; rules = a.rules } in
    speaks_on sender after (a.told ++ replies after conn e a.reply) i.known
    (all_append MaySpell a.told (replies after conn e a.reply) i.told (replies_are after conn e a.reply (unique_is a.owners i.known.orderly conn) serial i.reply)) top

abbrev called_by : BusState → ℕ → Envelope → Option (List Condition) → Result BusMember (List ℕ) → BusStep
called_by s conn e rule (Ok member) = answered s conn e (answers member s conn e.body rule)
called_by s conn e rule (Err name) = answered s conn e (only s (fails name))

called_done : (sender : Option (List ℕ)) (s : BusState) (conn : ℕ) (e : Envelope) (rule : Option (List Condition)) → IsKnown s → IsSerial e.serial → (called s conn e rule).state.next ≤ 4294967296 → IsDone sender (called s conn e rule)
called_done sender s conn e rule k serial = by (member_of e) (member_error e)
  where
    by : (r : Result BusMember (List ℕ)) → ErrorIs r → (called_by s conn e rule r).state.next ≤ 4294967296 → IsDone sender (called_by s conn e rule r)
    by (Ok member) h top = answered_done sender s conn e (answers member s conn e.body rule) (answers_is member s conn e.body rule k) serial top
    by (Err name) h top = answered_done sender s conn e (only s (fails name)) (only_is s (fails name) k h) serial top

-- open calls

abbrev HasSerial : OpenCall → Type 0
HasSerial c = IsSerial c.serial

either : (b : Bool) (xs ys : List OpenCall) → AllByRecursion HasSerial xs → AllByRecursion HasSerial ys → AllByRecursion HasSerial (if b then xs else ys)
either true xs ys a b = a
either false xs ys a b = b

without_are : (calls : List OpenCall) (caller serial callee : ℕ) → AllByRecursion HasSerial calls → AllByRecursion HasSerial (without_answered calls caller serial callee)
without_are [] caller serial callee h = tt
without_are (c ∷ calls) caller serial callee h =
    either (c.caller == caller && (c.serial == serial && c.callee == callee)) calls (c ∷ without_answered calls caller serial callee) h.1 (h.0, without_are calls caller serial callee h.1)

after_are : (calls : List OpenCall) (conn : ℕ) (e : Envelope) (receiver : ℕ) → IsSerial e.serial → AllByRecursion HasSerial calls → AllByRecursion HasSerial (calls_after calls conn e receiver)
after_are calls conn e receiver serial h = by e.reply
  where
    more : AllByRecursion HasSerial (with_call calls conn e.serial receiver)
    more = all_append HasSerial calls (record { caller = conn; serial = e.serial; callee = receiver } ∷ []) h (serial, tt)

    by : (o : Option ℕ) → AllByRecursion HasSerial (calls_after calls conn (record e { reply = o }) receiver)
    by None = either (expects_reply e) (with_call calls conn e.serial receiver) _ more (either (is_reply e) calls calls h h)
    by (Some n) =
        either (expects_reply e) (with_call calls conn e.serial receiver) _ more
        (either (is_reply e) (without_answered calls receiver n conn) calls (without_are calls receiver n conn h) h)

all_are : (calls : List OpenCall) (conn : ℕ) (e : Envelope) (conns : List ℕ) → IsSerial e.serial → AllByRecursion HasSerial calls → AllByRecursion HasSerial (calls_after_all calls conn e conns)
all_are calls conn e [] serial h = h
all_are calls conn e (c ∷ cs) serial h = all_are (calls_after calls conn e c) conn e cs serial (after_are calls conn e c serial h)

-- a message that is passed on

passes_done : (sender : Option (List ℕ)) (s : BusState) (conn : ℕ) (e : Envelope) → IsKnown s → IsSpellable e → e.sender ≡ sender → (passes_on s conn e).state.next ≤ 4294967296 → IsDone sender (passes_on s conn e)
passes_done sender s conn e k h bears = by (is_unowned e.destination (receivers s e))
  where
    serial : IsSerial e.serial
    serial = (h.meets.numbered, h.serial)

    by : (b : Bool) → (if b then undeliverable s conn e else record { state = record s { calls = calls_after_all s.calls conn e (receivers s e) }; moves = handed s e }).state.next ≤ 4294967296
        → IsDone sender (if b then undeliverable s conn e else record { state = record s { calls = calls_after_all s.calls conn e (receivers s e) }; moves = handed s e })
    by true top = speaks_on sender s (replies s conn e (fails (codes "ServiceUnknown"))) k (replies_are s conn e (fails (codes "ServiceUnknown")) (unique_is s.owners k.orderly conn) serial service_is) top
    by false top = record {
      known = record { orderly = k.orderly; named = k.named; no_empty = k.no_empty; serials = all_are s.calls conn e (receivers s e) serial k.serials; first = k.first; given = k.given };
      moves = each_handed sender e (receivers s e) h (inr bears);
    }

named_done : (sender : Option (List ℕ)) (s : BusState) (conn : ℕ) (e : Envelope) (rule : Option (List Condition)) → IsKnown s → IsSpellable e → e.sender ≡ sender → (takes_from_named s conn e rule).state.next ≤ 4294967296 → IsDone sender (takes_from_named s conn e rule)
named_done sender s conn e rule k h bears = by (is_for_bus e) (e.kind == 1)
  where
    by : (b c : Bool) → (if b then (if c then called s conn e rule else speaks s []) else passes_on s conn e).state.next ≤ 4294967296
        → IsDone sender (if b then (if c then called s conn e rule else speaks s []) else passes_on s conn e)
    by true true top = called_done sender s conn e rule k (h.meets.numbered, h.serial) top
    by true false top = speaks_on sender s [] k tt top
    by false c top = passes_done sender s conn e k h bears top

-- a Hello

greets_done : (sender : Option (List ℕ)) (s : BusState) (conn : ℕ) (e : Envelope) → IsKnown s → unique_of s.owners conn ≡ None → IsSerial e.serial → (greets s conn e).state.next ≤ 4294967296 → IsDone sender (greets s conn e)
greets_done sender s conn e k none serial top =
    let after : BusState = record s { owners = after_hello s.owners conn } in
    let name = text_or_empty (unique_of after.owners conn) in
    let front = replies after conn e (returns (text_data name ∷ [])) in
    let news = name_acquired after.owners name (Some conn) ++ owner_changed name [] name ∷ [] in
    let two : length news ≡ 2 = refl in
    let many : length (front ++ news) ≡ length front + length news = length-append front news in
    let high : s.next + length (front ++ news) ≤ 4294967296 = top in
    let few : s.owners.given < 4294967295 = omega (arith, k.given, two, many, high) in
    let orderly = orderly-hello s.owners conn k.orderly none few in
    let plain = plain_unique after.owners orderly conn in
    speaks_done sender after (front ++ news) k.first
    (record {
      orderly = orderly;
      named = names_with s.owners.lists k.named (unique_name s.owners.given) (is_bus_name-unique_name s.owners.given (omega (arith, few))) ((conn, 0) ∷ []);
      no_empty = no_empty-with_list s.owners.lists (unique_name s.owners.given) ((conn, 0) ∷ []) k.no_empty;
      serials = k.serials;
      first = omega (arith, k.first);
      given = omega (arith, k.given, two, many);
    })
    (all_append MaySpell front news (replies_are after conn e (returns (text_data name ∷ [])) (unique_is after.owners orderly conn) serial (text_body name plain))
    (all_append MaySpell (name_acquired after.owners name (Some conn)) (owner_changed name [] name ∷ []) (spell_acquired after.owners orderly name plain (Some conn)) (spell_changed name [] name plain plain_none plain, tt)))
    high

first_done : (sender : Option (List ℕ)) (s : BusState) (conn : ℕ) (e : Envelope) → IsKnown s → unique_of s.owners conn ≡ None → IsSerial e.serial → (if is_hello e then greets s conn e else record { state = s; moves = closes conn ∷ [] }).state.next ≤ 4294967296
    → IsDone sender (if is_hello e then greets s conn e else record { state = s; moves = closes conn ∷ [] })
first_done sender s conn e k none serial = by (is_hello e)
  where
    by : (b : Bool) → (if b then greets s conn e else record { state = s; moves = closes conn ∷ [] }).state.next ≤ 4294967296
        → IsDone sender (if b then greets s conn e else record { state = s; moves = closes conn ∷ [] })
    by true top = greets_done sender s conn e k none serial top
    by false top = record { known = k; moves = (tt, tt) }

abbrev taken_by : BusState → ℕ → Envelope → Option (List Condition) → Option (List ℕ) → BusStep
taken_by s conn e rule (Some name) = takes_from_named s conn (record e { sender = Some name }) rule
taken_by s conn e rule None = if is_hello e then greets s conn e else record { state = s; moves = closes conn ∷ [] }

-- THE BUS TAKES A MESSAGE
pub takes_done : (s : BusState) (conn : ℕ) (e : Envelope) (rule : Option (List Condition)) → IsKnown s → IsSpellable e → (bus_takes s conn e rule).state.next ≤ 4294967296 → IsDone (signer (unique_of s.owners conn)) (bus_takes s conn e rule)
takes_done s conn e rule k h = by (unique_of s.owners conn) refl (unique_is s.owners k.orderly conn)
  where
    by : (o : Option (List ℕ)) → unique_of s.owners conn ≡ o → IfSome o IsBusName → (taken_by s conn e rule o).state.next ≤ 4294967296 → IsDone (signer o) (taken_by s conn e rule o)
    by (Some name) is good top = named_done (Some name) s conn (record e { sender = Some name }) rule k (with_sender e name h good) refl top
    by None is good top = first_done (Some own_name) s conn e k is (h.meets.numbered, h.serial) top

-- ONE LEAVES

pass_spell : (before after : Owners) (conn : ℕ) → AreKnown before [] 4294967296 → AreKnown after [] 4294967296 → (names : List (List ℕ)) → AllByRecursion IsBusName names → AllByRecursion MaySpell (flat_map (name_passes_on before after conn) names)
pass_spell before after conn b k [] h = tt
pass_spell before after conn b k (name ∷ names) h =
    let next = owner_in (list_of after.lists name) in
    let plain = plain_name name h.0 in
    let changed = owner_changed name (name_or_empty before (Some conn)) (name_or_empty after next) in
    all_append MaySpell (name_acquired after name next ++ changed ∷ []) (flat_map (name_passes_on before after conn) names)
    (all_append MaySpell (name_acquired after name next) (changed ∷ []) (spell_acquired after k.orderly name plain next)
    (spell_changed name (name_or_empty before (Some conn)) (name_or_empty after next) plain (plain_owner before b.orderly (Some conn)) (plain_owner after k.orderly next), tt))
    (pass_spell before after conn b k names h.1)

no_replies_spell : (s : BusState) (conn : ℕ) → IsKnown s → AllByRecursion MaySpell (no_replies s conn)
no_replies_spell s conn k =
    all_map HasSerial MaySpell (λ (c : OpenCall). error_to (unique_of s.owners c.caller) c.serial (codes "NoReply"))
    (λ c h. spell_error (unique_of s.owners c.caller) c.serial (codes "NoReply") (unique_is s.owners k.orderly c.caller) h no_reply_is) (waiting_for conn s.calls)
    (all_filter HasSerial (λ (c : OpenCall). c.callee == conn && not (c.caller == conn)) s.calls k.serials)

gone_known : (s : BusState) (conn : ℕ) → IsKnown s → AreKnown (after_gone s.owners conn) (calls_without conn s.calls) s.next
gone_known s conn k = record {
  orderly = orderly-gone s.owners conn k.orderly;
  named = λ name other. list_of-lists_without conn s.owners.lists name ∙ ap (without conn) (k.named name other);
  no_empty = no_empty-lists_without conn s.owners.lists;
  serials = all_filter HasSerial (λ (c : OpenCall). not (c.caller == conn || c.callee == conn)) s.calls k.serials;
  first = k.first;
  given = k.given;
}

only_owners : (o : Owners) (calls : List OpenCall) (n : ℕ) → AreKnown o calls n → AreKnown o [] 4294967296
only_owners o calls n k = record { orderly = k.orderly; named = k.named; no_empty = k.no_empty; serials = tt; first = omega arith; given = k.orderly.few }

farewell_spell : (s : BusState) (conn : ℕ) → IsKnown s → (u : Option (List ℕ)) → IfSome u IsBusName → AllByRecursion MaySpell (farewell s (after_gone s.owners conn) conn u)
farewell_spell s conn k None h = tt
farewell_spell s conn k (Some unique) h =
    let after = after_gone s.owners conn in
    let plain = plain_name unique h in
    all_append MaySpell (no_replies s conn) (names_pass_on s.owners after conn ++ owner_changed unique unique [] ∷ []) (no_replies_spell s conn k)
    (all_append MaySpell (names_pass_on s.owners after conn) (owner_changed unique unique [] ∷ [])
    (pass_spell s.owners after conn (only_owners s.owners s.calls s.next k) (only_owners after (calls_without conn s.calls) s.next (gone_known s conn k)) (owned_by s.owners.lists conn) (owned_are s.owners.lists k.named k.no_empty conn))
    (spell_changed unique unique [] plain plain plain_none, tt))

pub leaves_done : (s : BusState) (conn : ℕ) → IsKnown s → (bus_leaves s conn).state.next ≤ 4294967296 → IsDone (Some own_name) (bus_leaves s conn)
leaves_done s conn k top =
    let after = after_gone s.owners conn in
    speaks_on (Some own_name) (record s {
      joined = filter (λ c. not (c == conn)) s.joined;
      owners = after;
      rules = without_rules conn s.rules;
      calls = calls_without conn s.calls;
    }) (farewell s after conn (unique_of s.owners conn)) (gone_known s conn k) (farewell_spell s conn k (unique_of s.owners conn) (unique_is s.owners k.orderly conn)) top

-- what the bus says by itself
own_sized : (sender : Option (List ℕ)) (moves : List Move) → AllByRecursion (HandsOn sender) moves → AllByRecursion IsShortOrList (own_of moves)
own_sized sender [] h = tt
own_sized sender (says e ∷ moves) h = (h.0, own_sized sender moves h.1)
own_sized sender (delivers conn e ∷ moves) h = own_sized sender moves h.1
own_sized sender (closes conn ∷ moves) h = own_sized sender moves h.1

pub only_lists_long : OnlyListsAreLong
only_lists_long = record {
  taken = λ s conn e rule k h top. own_sized (signer (unique_of s.owners conn)) (bus_takes s conn e rule).moves (takes_done s conn e rule k h top).moves;
  left = λ s conn k top. own_sized (Some own_name) (bus_leaves s conn).moves (leaves_done s conn k top).moves;
}
