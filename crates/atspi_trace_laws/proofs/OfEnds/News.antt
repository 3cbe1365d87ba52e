-- Of which names the bus tells that they are nobody's: of well-known ones, and of the unique name of one that leaves.
use Rattle.std.proofs.Common.{◌≡◌, ◌⊎◌, inl, inr, ℕ, ◌+◌, Bool, true, false, List, [], ◌∷◌, ◌++◌, map, Option, None, Some, refl, sym, ◌∙◌, subst}
use Rattle.std.specs.Prelude.{◌==◌, ◌&&◌, not, filter, flat_map, bytes_eq, codes, if◌then◌else◌, Result, Ok, Err}
use Rattle.std.specs.List.{AllByRecursion, list_any}
use Rattle.std.specs.FinMap as finmap
use Rattle.atspi_types.specs.Data.{Data, text_data}
use Rattle.atspi_base.specs.valid_names.Names.{is_bus_name, is_unique_name}
use Rattle.atspi_message.specs.Envelope.{Envelope}
use Rattle.atspi_names.specs.Owners.{Owners, own_name, list_of, after_hello, after_gone, well_known, owned_by}
use Rattle.atspi_names.specs.Queue.{owner_in, owns, request_change, release_change}
use Rattle.atspi_match.specs.declared.condition.Condition.{Condition}
use Rattle.atspi_match.specs.RuleIndex.{is_pair, rules_of, without_first, without_rules}
use Rattle.atspi_match.specs.declared.routing.member.BusMember.{BusMember}
use Rattle.atspi_match.specs.declared.routing.member.BusMember.TheVariants.{Hello, RequestName, ReleaseName, NameHasOwner, GetNameOwner, ListNames, ListQueuedOwners, AddMatch, RemoveMatch, GetId, Ping}
use Rattle.atspi_match.specs.routing.BusState.{OpenCall, BusState, unique_of, text_or_empty, name_or_empty, calls_without, waiting_for}
use Rattle.atspi_match.specs.routing.Members.{is_text, member_of}
use Rattle.atspi_match.specs.routing.OwnMessages.{error_to, name_lost, name_acquired, owner_changed, same_owner, told_of_change, numbered}
use Rattle.atspi_match.specs.routing.Answers.{Reply, returns, fails, Answer, only, answers, may_be_asked_for, first_text, second_number, requests, releases, adds_rule, removes_rule}
use Rattle.atspi_match.specs.routing.Routing.{receivers, is_for_bus, expects_reply}
use Rattle.atspi_match.specs.routing.Steps.{Move, says, delivers, closes, handed, speaks, replies, answered, called, undeliverable, is_unowned, calls_after_all, is_hello, greets, no_replies, name_passes_on, names_pass_on, farewell, bus_takes, bus_leaves}
use Rattle.atspi_protocol.specs.following.Known.{told_end}
use Rattle.atspi_trace_laws.proofs.OfOrder.Parties.{no_none, same_some, false_true, all_append}
use Rattle.atspi_trace_laws.proofs.OfOrder.Each.{all_map}
use Rattle.atspi_trace_laws.proofs.OfTaken.Handing.{HandsOn}
use Rattle.atspi_trace_laws.proofs.OfDelivered.Bounds.{NoneIsBus}

-- the name that a message tells as nobody's
abbrev pub TellsOf : (List ℕ → Type 0) → Envelope → Type 0
TellsOf P e = (name : List ℕ) → told_end e ≡ Some name → P name

abbrev pub IsPlain : List ℕ → Type 0
IsPlain name = is_unique_name name ≡ false

-- an answer is not heard of where it is not of a name that may be asked for
not_true : (a : Bool) → not a ≡ true → a ≡ false
not_true true h = absurd (false_true h)
not_true false h = refl

asked_plain : (name : List ℕ) → may_be_asked_for name ≡ true → IsPlain name
asked_plain name h = never (is_bus_name name) (is_unique_name name) (not (bytes_eq name own_name)) h
  where
    never : (a u c : Bool) → (a && (not u && c)) ≡ true → u ≡ false
    never true true c k = absurd (false_true k)
    never true false c k = refl
    never false u c k = absurd (false_true k)

module _ (P : List ℕ → Type 0) where
  none_told : (e : Envelope) → told_end e ≡ None → TellsOf P e
  none_told e h = λ name g. absurd (no_none name (sym h ∙ g))

  pub changed_tells : (name before after : List ℕ) → P name → TellsOf P (owner_changed name before after)
  changed_tells name before [] p = λ told h. subst P (same_some name told h) p
  changed_tells name before (a ∷ after) p = λ told h. absurd (no_none told h)

  lost_tells : (owners : Owners) (name : List ℕ) (o : Option ℕ) → AllByRecursion (TellsOf P) (name_lost owners name o)
  lost_tells owners name None = tt
  lost_tells owners name (Some conn) = ((λ told h. absurd (no_none told h)), tt)

  acquired_tells : (owners : Owners) (name : List ℕ) (o : Option ℕ) → AllByRecursion (TellsOf P) (name_acquired owners name o)
  acquired_tells owners name None = tt
  acquired_tells owners name (Some conn) = ((λ told h. absurd (no_none told h)), tt)

  change_tells : (owners : Owners) (name : List ℕ) (before after : Option ℕ) → P name → AllByRecursion (TellsOf P) (told_of_change owners name before after)
  change_tells owners name before after p = by (same_owner before after)
    where
      last : Envelope
      last = owner_changed name (name_or_empty owners before) (name_or_empty owners after)

      by : (b : Bool) → AllByRecursion (TellsOf P) (if b then [] else name_lost owners name before ++ (name_acquired owners name after ++ last ∷ []))
      by true = tt
      by false =
          all_append (TellsOf P) (name_lost owners name before) (name_acquired owners name after ++ last ∷ []) (lost_tells owners name before)
          (all_append (TellsOf P) (name_acquired owners name after) (last ∷ []) (acquired_tells owners name after) (changed_tells name (name_or_empty owners before) (name_or_empty owners after) p, tt))

  if_tells : (b : Bool) (e : Envelope) → TellsOf P e → AllByRecursion (TellsOf P) (if b then e ∷ [] else [])
  if_tells true e h = (h, tt)
  if_tells false e h = tt

  replies_tell : (s : BusState) (conn : ℕ) (e : Envelope) (reply : Reply) → AllByRecursion (TellsOf P) (replies s conn e reply)
  replies_tell s conn e (returns values) = if_tells (expects_reply e) _ (λ told h. absurd (no_none told h))
  replies_tell s conn e (fails name) = if_tells (expects_reply e) _ (λ told h. absurd (no_none told h))

  numbered_tell : (n : ℕ) (es : List Envelope) → AllByRecursion (TellsOf P) es → AllByRecursion (TellsOf P) (numbered n es)
  numbered_tell n [] a = tt
  numbered_tell n (e ∷ es) a = (a.0, numbered_tell (n + 1) es a.1)

-- what is handed on
each_handed : (P : Envelope → Type 0) (e : Envelope) (conns : List ℕ) → P e → AllByRecursion (HandsOn P) (map (λ c. delivers c e) conns)
each_handed P e [] p = tt
each_handed P e (c ∷ cs) p = (p, each_handed P e cs p)

each_said : (P : Envelope → Type 0) (s : BusState) (es : List Envelope) → AllByRecursion P es → AllByRecursion (HandsOn P) (flat_map (λ e. says e ∷ handed s e) es)
each_said P s [] a = tt
each_said P s (e ∷ es) a = (tt, all_append (HandsOn P) (handed s e) (flat_map (λ m. says m ∷ handed s m) es) (each_handed P e (receivers s e) a.0) (each_said P s es a.1))

pub speaks_tell : (P : List ℕ → Type 0) (s : BusState) (es : List Envelope) → AllByRecursion (TellsOf P) es → AllByRecursion (HandsOn (TellsOf P)) (speaks s es).moves
speaks_tell P s es a = each_said (TellsOf P) s (numbered s.next es) (numbered_tell P s.next es a)

-- THE BUS TAKES A MESSAGE: it hands on that message, which does not bear its name, or its own, which tell of well-known names
if_told : (b : Bool) (x y : Answer) → (b ≡ true → AllByRecursion (TellsOf IsPlain) x.told) → AllByRecursion (TellsOf IsPlain) y.told → AllByRecursion (TellsOf IsPlain) (if b then x else y).told
if_told true x y a c = a refl
if_told false x y a c = c

adds_tells : (s : BusState) (conn : ℕ) (o : Option (List Condition)) → AllByRecursion (TellsOf IsPlain) (adds_rule s conn o).told
adds_tells s conn None = tt
adds_tells s conn (Some rule) =
    if_told (rules_of conn s.rules == 512) (only s (fails (codes "LimitsExceeded"))) (record (only s (returns [])) { rules = s.rules ++ (conn, rule) ∷ [] }) (λ h. tt) tt

removes_tells : (s : BusState) (conn : ℕ) (o : Option (List Condition)) → AllByRecursion (TellsOf IsPlain) (removes_rule s conn o).told
removes_tells s conn None = tt
removes_tells s conn (Some rule) =
    if_told (list_any (is_pair conn rule) s.rules) (record (only s (returns [])) { rules = without_first s.rules conn rule }) (only s (fails (codes "MatchRuleNotFound"))) (λ h. tt) tt

answers_tell : (member : BusMember) (s : BusState) (conn : ℕ) (args : List Data) (rule : Option (List Condition)) → AllByRecursion (TellsOf IsPlain) (answers member s conn args rule).told
answers_tell Hello s conn args rule = tt
answers_tell RequestName s conn args rule =
    let change = request_change (list_of s.owners.lists (first_text args)) conn (second_number args) in
    if_told (may_be_asked_for (first_text args)) (requests s conn (first_text args) (second_number args)) (only s (fails (codes "InvalidArgs")))
    (λ h. change_tells IsPlain s.owners (first_text args) change.before change.after (asked_plain (first_text args) h)) tt
answers_tell ReleaseName s conn args rule =
    let change = release_change (list_of s.owners.lists (first_text args)) conn in
    if_told (may_be_asked_for (first_text args)) (releases s conn (first_text args)) (only s (fails (codes "InvalidArgs")))
    (λ h. change_tells IsPlain s.owners (first_text args) change.before change.after (asked_plain (first_text args) h)) tt
answers_tell NameHasOwner s conn args rule = tt
answers_tell GetNameOwner s conn args rule = tt
answers_tell ListNames s conn args rule = tt
answers_tell ListQueuedOwners s conn args rule = tt
answers_tell AddMatch s conn args rule = adds_tells s conn rule
answers_tell RemoveMatch s conn args rule = removes_tells s conn rule
answers_tell GetId s conn args rule = tt
answers_tell Ping s conn args rule = tt

answered_tells : (s : BusState) (conn : ℕ) (e : Envelope) (a : Answer) → AllByRecursion (TellsOf IsPlain) a.told → AllByRecursion (HandsOn (TellsOf IsPlain)) (answered s conn e a).moves
answered_tells s conn e a t =
    let after : BusState = record s { owners = a.owners; rules = a.rules } in
    speaks_tell IsPlain after (a.told ++ replies after conn e a.reply) (all_append (TellsOf IsPlain) a.told (replies after conn e a.reply) t (replies_tell IsPlain after conn e a.reply))

called_tells : (s : BusState) (conn : ℕ) (e : Envelope) (rule : Option (List Condition)) → AllByRecursion (HandsOn (TellsOf IsPlain)) (called s conn e rule).moves
called_tells s conn e rule = by (member_of e) refl
  where
    by : (r : Result BusMember (List ℕ)) → member_of e ≡ r → AllByRecursion (HandsOn (TellsOf IsPlain)) (called s conn e rule).moves
    by (Ok member) h = rw h (answered_tells s conn e (answers member s conn e.body rule) (answers_tell member s conn e.body rule))
    by (Err name) h = rw h (answered_tells s conn e (only s (fails name)) tt)

abbrev pub Comes : Envelope → Type 0
Comes m = TellsOf IsPlain m ⊎ (is_text m.sender own_name ≡ false)

own_comes : (moves : List Move) → AllByRecursion (HandsOn (TellsOf IsPlain)) moves → AllByRecursion (HandsOn Comes) moves
own_comes moves a = all_map (HandsOn (TellsOf IsPlain)) (HandsOn Comes) moves one a
  where
    one : (move : Move) → HandsOn (TellsOf IsPlain) move → HandsOn Comes move
    one (delivers conn m) h = inl h
    one (says m) h = tt
    one (closes conn) h = tt

named_comes : (a b c : Bool) (s : BusState) (conn : ℕ) (e : Envelope) (rule : Option (List Condition)) (calls : List OpenCall) → is_text e.sender own_name ≡ false
    → AllByRecursion (HandsOn Comes) (if a then (if b then called s conn e rule else speaks s []) else (if c then undeliverable s conn e else record { state = record s { calls = calls }; moves = handed s e })).moves
named_comes true true c s conn e rule calls other = own_comes (called s conn e rule).moves (called_tells s conn e rule)
named_comes true false c s conn e rule calls other = tt
named_comes false b true s conn e rule calls other =
    own_comes (undeliverable s conn e).moves (speaks_tell IsPlain s (replies s conn e (fails (codes "ServiceUnknown"))) (replies_tell IsPlain s conn e (fails (codes "ServiceUnknown"))))
named_comes false b false s conn e rule calls other = each_handed Comes e (receivers s e) (inr other)

hello_tells : (name : List ℕ) → TellsOf IsPlain (owner_changed name [] name)
hello_tells [] = changed_tells IsPlain [] [] [] refl
hello_tells (n ∷ name) = λ told h. absurd (no_none told h)

greets_tell : (s : BusState) (conn : ℕ) (e : Envelope) → AllByRecursion (HandsOn (TellsOf IsPlain)) (greets s conn e).moves
greets_tell s conn e =
    let after : BusState = record s { owners = after_hello s.owners conn } in
    let name : List ℕ = text_or_empty (unique_of after.owners conn) in
    let news : List Envelope = name_acquired after.owners name (Some conn) ++ owner_changed name [] name ∷ [] in
    speaks_tell IsPlain after (replies after conn e (returns (text_data name ∷ [])) ++ news)
    (all_append (TellsOf IsPlain) (replies after conn e (returns (text_data name ∷ []))) news (replies_tell IsPlain after conn e (returns (text_data name ∷ [])))
    (all_append (TellsOf IsPlain) (name_acquired after.owners name (Some conn)) (owner_changed name [] name ∷ []) (acquired_tells IsPlain after.owners name (Some conn)) (hello_tells name, tt)))

pub takes_comes : (s : BusState) (conn : ℕ) (e : Envelope) (rule : Option (List Condition)) → NoneIsBus s.owners → AllByRecursion (HandsOn Comes) (bus_takes s conn e rule).moves
takes_comes s conn e rule none = by (unique_of s.owners conn) refl
  where
    hello_by : (b : Bool) → AllByRecursion (HandsOn Comes) (if b then greets s conn e else record { state = s; moves = closes conn ∷ [] }).moves
    hello_by true = own_comes (greets s conn e).moves (greets_tell s conn e)
    hello_by false = (tt, tt)

    by : (o : Option (List ℕ)) → unique_of s.owners conn ≡ o → AllByRecursion (HandsOn Comes) (bus_takes s conn e rule).moves
    by (Some own) h =
        let m : Envelope = record e { sender = Some own } in
        rw h (named_comes (is_for_bus m) (e.kind == 1) (is_unowned e.destination (receivers s m)) s conn m rule (calls_after_all s.calls conn m (receivers s m)) (none conn own h))
    by None h = rw h (hello_by (is_hello e))

-- A CONNECTION LEAVES: well-known names that it owned, and its unique one
all_filter : {X : Type 0} (p : X → Bool) (xs : List X) → AllByRecursion (λ x. p x ≡ true) (filter p xs)
all_filter p [] = tt
all_filter p (x ∷ xs) = by (p x) refl (all_filter p xs)
  where
    by : (b : Bool) → p x ≡ b → AllByRecursion (λ y. p y ≡ true) (filter p xs) → AllByRecursion (λ y. p y ≡ true) (if b then x ∷ filter p xs else filter p xs)
    by true h a = (h, a)
    by false h a = a

all_kept : {X : Type 0} (P : X → Type 0) (p : X → Bool) (xs : List X) → AllByRecursion P xs → AllByRecursion P (filter p xs)
all_kept P p [] a = tt
all_kept P p (x ∷ xs) a = by (p x) (all_kept P p xs a.1)
  where
    by : (b : Bool) → AllByRecursion P (filter p xs) → AllByRecursion P (if b then x ∷ filter p xs else filter p xs)
    by true k = (a.0, k)
    by false k = k

owned_plain : (owners : Owners) (conn : ℕ) → AllByRecursion IsPlain (owned_by owners.lists conn)
owned_plain owners conn =
    all_kept IsPlain (λ name. owns conn (list_of owners.lists name)) (well_known owners.lists)
    (all_map (λ name. not (is_unique_name name) ≡ true) IsPlain (well_known owners.lists) (λ name h. not_true (is_unique_name name) h) (all_filter (λ name. not (is_unique_name name)) (finmap.keys owners.lists)))

module _ (P : List ℕ → Type 0) where
  errors_tell : (s : BusState) (calls : List OpenCall) → AllByRecursion (TellsOf P) (map (λ (c : OpenCall). error_to (unique_of s.owners c.caller) c.serial (codes "NoReply")) calls)
  errors_tell s [] = tt
  errors_tell s (c ∷ cs) = ((λ told h. absurd (no_none told h)), errors_tell s cs)

  passes_tell : (before after : Owners) (conn : ℕ) (names : List (List ℕ)) → AllByRecursion P names → AllByRecursion (TellsOf P) (flat_map (name_passes_on before after conn) names)
  passes_tell before after conn [] a = tt
  passes_tell before after conn (name ∷ names) a =
      let next = owner_in (list_of after.lists name) in
      let last : Envelope = owner_changed name (name_or_empty before (Some conn)) (name_or_empty after next) in
      all_append (TellsOf P) (name_acquired after name next ++ last ∷ []) (flat_map (name_passes_on before after conn) names)
      (all_append (TellsOf P) (name_acquired after name next) (last ∷ []) (acquired_tells P after name next) (changed_tells P name (name_or_empty before (Some conn)) (name_or_empty after next) a.0, tt))
      (passes_tell before after conn names a.1)

abbrev pub Leaving : BusState → ℕ → List ℕ → Type 0
Leaving s conn name = IsPlain name ⊎ (unique_of s.owners conn ≡ Some name)

farewell_tells : (s : BusState) (after : Owners) (conn : ℕ) (o : Option (List ℕ)) → unique_of s.owners conn ≡ o → AllByRecursion (TellsOf (Leaving s conn)) (farewell s after conn o)
farewell_tells s after conn None h = tt
farewell_tells s after conn (Some unique) h =
    all_append (TellsOf (Leaving s conn)) (no_replies s conn) (names_pass_on s.owners after conn ++ owner_changed unique unique [] ∷ []) (errors_tell (Leaving s conn) s (waiting_for conn s.calls))
    (all_append (TellsOf (Leaving s conn)) (names_pass_on s.owners after conn) (owner_changed unique unique [] ∷ [])
    (passes_tell (Leaving s conn) s.owners after conn (owned_by s.owners.lists conn) (all_map IsPlain (Leaving s conn) (owned_by s.owners.lists conn) (λ name p. inl p) (owned_plain s.owners conn)))
    (changed_tells (Leaving s conn) unique unique [] (inr h), tt))

left_state : BusState → ℕ → BusState
left_state s conn = record s {
  joined = filter (λ c. not (c == conn)) s.joined;
  owners = after_gone s.owners conn;
  rules = without_rules conn s.rules;
  calls = calls_without conn s.calls;
}

pub leaves_tell : (s : BusState) (conn : ℕ) → AllByRecursion (HandsOn (TellsOf (Leaving s conn))) (bus_leaves s conn).moves
unfolding left_state
leaves_tell s conn =
    speaks_tell (Leaving s conn) (left_state s conn) (farewell s (after_gone s.owners conn) conn (unique_of s.owners conn)) (farewell_tells s (after_gone s.owners conn) conn (unique_of s.owners conn) refl)
