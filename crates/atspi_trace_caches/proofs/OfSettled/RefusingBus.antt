-- Where the bus answers a call by an error: a call to itself that it refuses (an AddMatch of a rule only where the connection has as many rules as it may), or a call that goes to a name that nobody has.
-- The error goes to who has the caller's name, with the serial of its call. And where one leaves, to the callers whose calls it was to answer.
use Rattle.std.proofs.Common.{◌≡◌, ◌⊎◌, inl, inr, ℕ, ◌+◌, Bool, true, false, List, [], ◌∷◌, ◌++◌, Option, None, Some, refl, sym, ap, ◌∙◌, subst, arith}
use Rattle.std.specs.Prelude.{◌==◌, flat_map, codes, if◌then◌else◌, Result, Ok, Err}
use Rattle.std.specs.List.{AllByRecursion, list_any}
use Rattle.std.specs.FinMap as finmap
use Rattle.std.proofs.lemmas.Bool.{eqb-true}
use Rattle.atspi_types.specs.Data.{Data, text_data}
use Rattle.atspi_base.specs.valid_names.Names.{is_unique_name}
use Rattle.atspi_message.specs.Envelope.{Envelope}
use Rattle.atspi_match.specs.declared.condition.Condition.{Condition}
use Rattle.atspi_match.specs.RuleIndex.{is_pair, rules_of, without_first}
use Rattle.atspi_names.specs.Owners.{Owners, list_of, after_hello}
use Rattle.atspi_names.specs.Queue.{request_change, release_change}
use Rattle.atspi_match.specs.declared.routing.member.BusMember.{BusMember}
use Rattle.atspi_match.specs.declared.routing.member.BusMember.TheVariants.{Hello, RequestName, ReleaseName, NameHasOwner, GetNameOwner, ListNames, ListQueuedOwners, AddMatch, RemoveMatch, GetId, Ping}
use Rattle.atspi_match.specs.routing.BusState.{BusState, unique_of, text_or_empty, name_or_empty}
use Rattle.atspi_match.specs.routing.Members.{member_of}
use Rattle.atspi_match.specs.routing.OwnMessages.{return_to, error_to, name_lost, name_acquired, owner_changed, same_owner, told_of_change, numbered}
use Rattle.atspi_match.specs.routing.Answers.{Reply, returns, fails, Answer, only, answers, may_be_asked_for, first_text, second_number, requests, releases, adds_rule, removes_rule}
use Rattle.atspi_match.specs.routing.Routing.{receivers, owners_of, is_for_bus, expects_reply}
use Rattle.atspi_match.specs.routing.Steps.{Move, says, delivers, closes, BusStep, handed, speaks, replies, answered, called, undeliverable, is_unowned, greets, bus_takes}
use Rattle.atspi_trace_laws.proofs.OfOrder.Parties.{no_none, false_true, all_append}
use Rattle.atspi_trace_laws.proofs.OfNames.Naming.{SameAs, called_same}
use Rattle.atspi_trace_laws.proofs.OfSigned.Unique.{OwnLists, called_lists, IsIn, owner_has}
use Rattle.atspi_trace_laws.proofs.OfSigned.Handing.{Gives, handed_gives}

-- EACH MESSAGE that the bus says goes to its receivers, with some number
abbrev pub ToAll : (ℕ → Envelope → Type 0) → BusState → Envelope → Type 0
ToAll H t m = (n c : ℕ) → IsIn c (receivers t (record m { serial = n })) → H c (record m { serial = n })

pub said_to_all : (H : ℕ → Envelope → Type 0) (t : BusState) (at : ℕ) (es : List Envelope) → AllByRecursion (ToAll H t) es → AllByRecursion (Gives H) (flat_map (λ e. says e ∷ handed t e) (numbered at es))
said_to_all H t at [] a = tt
said_to_all H t at (e ∷ es) a =
    let m : Envelope = record e { serial = at } in
    (tt, all_append (Gives H) (handed t m) (flat_map (λ x. says x ∷ handed t x) (numbered (at + 1) es)) (handed_gives H m (receivers t m) (a.0 at)) (said_to_all H t (at + 1) es a.1))

-- WHAT IS TOLD OF ITS OWN are signals
abbrev pub IsNews : Envelope → Type 0
IsNews m = m.kind ≡ 4

lost_news : (owners : Owners) (name : List ℕ) (o : Option ℕ) → AllByRecursion IsNews (name_lost owners name o)
lost_news owners name None = tt
lost_news owners name (Some conn) = (refl, tt)

pub acquired_news : (owners : Owners) (name : List ℕ) (o : Option ℕ) → AllByRecursion IsNews (name_acquired owners name o)
acquired_news owners name None = tt
acquired_news owners name (Some conn) = (refl, tt)

change_news : (owners : Owners) (name : List ℕ) (before after : Option ℕ) → AllByRecursion IsNews (told_of_change owners name before after)
change_news owners name before after = by (same_owner before after)
  where
    news : List Envelope
    news = name_acquired owners name after ++ owner_changed name (name_or_empty owners before) (name_or_empty owners after) ∷ []

    by : (b : Bool) → AllByRecursion IsNews (if b then [] else name_lost owners name before ++ news)
    by true = tt
    by false =
        all_append IsNews (name_lost owners name before) news (lost_news owners name before)
        (all_append IsNews (name_acquired owners name after) (owner_changed name (name_or_empty owners before) (name_or_empty owners after) ∷ []) (acquired_news owners name after) (refl, tt))

if_news : (b : Bool) (x y : Answer) → AllByRecursion IsNews x.told → AllByRecursion IsNews y.told → AllByRecursion IsNews (if b then x else y).told
if_news true x y a c = a
if_news false x y a c = c

adds_news : (s : BusState) (conn : ℕ) (o : Option (List Condition)) → AllByRecursion IsNews (adds_rule s conn o).told
adds_news s conn None = tt
adds_news s conn (Some rule) = if_news (rules_of conn s.rules == 512) (only s (fails (codes "LimitsExceeded"))) (record (only s (returns [])) { rules = s.rules ++ (conn, rule) ∷ [] }) tt tt

removes_news : (s : BusState) (conn : ℕ) (o : Option (List Condition)) → AllByRecursion IsNews (removes_rule s conn o).told
removes_news s conn None = tt
removes_news s conn (Some rule) =
    if_news (list_any (is_pair conn rule) s.rules) (record (only s (returns [])) { rules = without_first s.rules conn rule }) (only s (fails (codes "MatchRuleNotFound"))) tt tt

told_news : (member : BusMember) (s : BusState) (conn : ℕ) (args : List Data) (rule : Option (List Condition)) → AllByRecursion IsNews (answers member s conn args rule).told
told_news Hello s conn args rule = tt
told_news RequestName s conn args rule =
    let change = request_change (list_of s.owners.lists (first_text args)) conn (second_number args) in
    if_news (may_be_asked_for (first_text args)) (requests s conn (first_text args) (second_number args)) (only s (fails (codes "InvalidArgs"))) (change_news s.owners (first_text args) change.before change.after) tt
told_news ReleaseName s conn args rule =
    let change = release_change (list_of s.owners.lists (first_text args)) conn in
    if_news (may_be_asked_for (first_text args)) (releases s conn (first_text args)) (only s (fails (codes "InvalidArgs"))) (change_news s.owners (first_text args) change.before change.after) tt
told_news NameHasOwner s conn args rule = tt
told_news GetNameOwner s conn args rule = tt
told_news ListNames s conn args rule = tt
told_news ListQueuedOwners s conn args rule = tt
told_news AddMatch s conn args rule = adds_news s conn rule
told_news RemoveMatch s conn args rule = removes_news s conn rule
told_news GetId s conn args rule = tt
told_news Ping s conn args rule = tt

-- THE ERROR TO A CALL: to who has this name, with this serial, for this reason
abbrev pub Errs : Owners → List ℕ → ℕ → Type 0 → ℕ → Envelope → Type 0
Errs o own serial Why c m = m.kind ≡ 3 → (m.reply ≡ Some serial) × (unique_of o c ≡ Some own) × Why

four_three : ◌≡◌ {A = ℕ} 4 3 → ⊥
four_three h = omega (arith, h)

two_three : ◌≡◌ {A = ℕ} 2 3 → ⊥
two_three h = omega (arith, h)

news_errs : (o : Owners) (own : List ℕ) (serial : ℕ) (Why : Type 0) (t : BusState) (es : List Envelope) → AllByRecursion IsNews es → AllByRecursion (ToAll (Errs o own serial Why) t) es
news_errs o own serial Why t [] a = tt
news_errs o own serial Why t (e ∷ es) a = ((λ n c i three. absurd (four_three (sym a.0 ∙ three))), news_errs o own serial Why t es a.1)

own_to : (t : BusState) (m : Envelope) (own : List ℕ) (u : Option (List ℕ)) (c : ℕ) → u ≡ Some own → IsIn c (receivers t (record m { destination = u })) → IsIn c (owners_of t own)
own_to t m own u c h = subst (λ z. IsIn c (receivers t (record m { destination = z })) → IsIn c (owners_of t own)) (sym h) (λ x. x)

-- why: the bus refuses a call to itself, or nobody has the name
abbrev pub Refuses : BusState → ℕ → Envelope → Option (List Condition) → Type 0
Refuses s conn e rule =
    ((is_for_bus e ≡ true) × ((r : List Condition) → member_of e ≡ Ok AddMatch → rule ≡ Some r → rules_of conn s.rules ≡ 512)) ⊎ ((is_for_bus e ≡ false) × (is_unowned e.destination (receivers s e) ≡ true))

abbrev is_fails : Reply → Bool
is_fails (fails name) = true
is_fails (returns values) = false

adds_refused : (s : BusState) (conn : ℕ) (o : Option (List Condition)) (name : List ℕ) → (adds_rule s conn o).reply ≡ fails name → (r : List Condition) → o ≡ Some r → rules_of conn s.rules ≡ 512
adds_refused s conn None name h r is = absurd (no_none r is)
adds_refused s conn (Some rule) name h r is = by (rules_of conn s.rules == 512) refl h
  where
    by : (b : Bool) → (rules_of conn s.rules == 512) ≡ b → (if b then only s (fails (codes "LimitsExceeded")) else record (only s (returns [])) { rules = s.rules ++ (conn, rule) ∷ [] }).reply ≡ fails name → rules_of conn s.rules ≡ 512
    by true g k = eqb-true (rules_of conn s.rules) 512 g
    by false g k = absurd (false_true (ap is_fails k))

module _ (s : BusState) (conn : ℕ) (e : Envelope) (own : List ℕ) (named_ : unique_of s.owners conn ≡ Some own) (unique : is_unique_name own ≡ true) where
  abbrev It : Type 0 → ℕ → Envelope → Type 0
  It Why = Errs s.owners own e.serial Why

  answered_errs : (Why : Type 0) (t : BusState) (told : List Envelope) (reply : Reply) → OwnLists t.owners → SameAs s.owners t.owners → AllByRecursion IsNews told → ((name : List ℕ) → reply ≡ fails name → Why)
      → AllByRecursion (Gives (It Why)) (speaks t (told ++ replies t conn e reply)).moves
  answered_errs Why t told (returns values) lists same a why =
      said_to_all (It Why) t t.next (told ++ replies t conn e (returns values))
      (all_append (ToAll (It Why) t) told (replies t conn e (returns values)) (news_errs s.owners own e.serial Why t told a) (by (expects_reply e)))
    where
      by : (b : Bool) → AllByRecursion (ToAll (It Why) t) (if b then return_to (unique_of t.owners conn) e.serial values ∷ [] else [])
      by true = ((λ n c i three. absurd (two_three three)), tt)
      by false = tt
  answered_errs Why t told (fails name) lists same a why =
      said_to_all (It Why) t t.next (told ++ replies t conn e (fails name))
      (all_append (ToAll (It Why) t) told (replies t conn e (fails name)) (news_errs s.owners own e.serial Why t told a) (by (expects_reply e)))
    where
      m : Envelope
      m = error_to (unique_of t.owners conn) e.serial name

      owner : unique_of t.owners conn ≡ Some own
      owner = ap (λ u. finmap.get u conn) same.0 ∙ named_

      by : (b : Bool) → AllByRecursion (ToAll (It Why) t) (if b then m ∷ [] else [])
      by true = (
        (λ n c i three.
            let has : unique_of t.owners c ≡ Some own = owner_has t own c lists unique (own_to t (record m { serial = n }) own m.destination c owner i) in
            (refl, sym (ap (λ u. finmap.get u c) same.0) ∙ has, why name refl)),
        tt,
      )
      by false = tt

  called_errs : (rule : Option (List Condition)) → OwnLists s.owners → is_for_bus e ≡ true → AllByRecursion (Gives (It (Refuses s conn e rule))) (called s conn e rule).moves
  called_errs rule lists for = by (member_of e) refl
    where
      as_answered : (a : Answer) → called s conn e rule ≡ answered s conn e a → AllByRecursion IsNews a.told → ((name : List ℕ) → a.reply ≡ fails name → Refuses s conn e rule) → AllByRecursion (Gives (It (Refuses s conn e rule))) (called s conn e rule).moves
      as_answered a is told why =
          subst (λ (y : BusStep). AllByRecursion (Gives (It (Refuses s conn e rule))) y.moves) (sym is)
          (answered_errs (Refuses s conn e rule) (record s { owners = a.owners; rules = a.rules }) a.told a.reply (subst (λ (y : BusStep). OwnLists y.state.owners) is (called_lists s conn e rule lists))
          (subst (λ (y : BusStep). SameAs s.owners y.state.owners) is (called_same s conn e rule)) told why)

      ok_or : BusMember → Result BusMember (List ℕ) → BusMember
      ok_or d (Ok m) = m
      ok_or d (Err name) = d

      is_err : Result BusMember (List ℕ) → Bool
      is_err (Ok m) = false
      is_err (Err name) = true

      by : (r : Result BusMember (List ℕ)) → member_of e ≡ r → AllByRecursion (Gives (It (Refuses s conn e rule))) (called s conn e rule).moves
      by (Ok member) h =
          as_answered (answers member s conn e.body rule) (rw h refl) (told_news member s conn e.body rule)
          (λ name failed. inl (
            for,
            λ r adds is.
                let same : member ≡ AddMatch = ap (ok_or member) (sym h ∙ adds) in
                adds_refused s conn rule name (subst (λ x. (answers x s conn e.body rule).reply ≡ fails name) same failed) r is,
          ))
      by (Err name) h = as_answered (only s (fails name)) (rw h refl) tt (λ q failed. inl (for, λ r adds is. absurd (false_true (sym (ap is_err (sym h ∙ adds))))))

named_errs : (a b c : Bool) (s : BusState) (conn : ℕ) (e : Envelope) (own : List ℕ) (rule : Option (List Condition)) (t : BusStep) → is_for_bus e ≡ a → is_unowned e.destination (receivers s e) ≡ c → unique_of s.owners conn ≡ Some own → is_unique_name own ≡ true
    → OwnLists s.owners → (e.kind ≡ 3 → ⊥) ⊎ (e.sender ≡ Some own) → t.moves ≡ handed s e
    → (H : ℕ → Envelope → Type 0) → ((k : ℕ) (m : Envelope) → Errs s.owners own e.serial (Refuses s conn e rule) k m → H k m) → ((k : ℕ) → H k e)
    → AllByRecursion (Gives H) (if a then (if b then called s conn e rule else speaks s []) else (if c then undeliverable s conn e else t)).moves
named_errs a b c s conn e own rule t for none named_ unique lists sender is H f g = by a b c for none
  where
    it : (moves : List Move) → AllByRecursion (Gives (Errs s.owners own e.serial (Refuses s conn e rule))) moves → AllByRecursion (Gives H) moves
    it [] a = tt
    it (delivers k m ∷ moves) a = (f k m a.0, it moves a.1)
    it (says m ∷ moves) a = (tt, it moves a.1)
    it (closes k ∷ moves) a = (tt, it moves a.1)

    by : (a b c : Bool) → is_for_bus e ≡ a → is_unowned e.destination (receivers s e) ≡ c → AllByRecursion (Gives H) (if a then (if b then called s conn e rule else speaks s []) else (if c then undeliverable s conn e else t)).moves
    by true true c h k = it (called s conn e rule).moves (called_errs s conn e own named_ unique rule lists h)
    by true false c h k = tt
    by false b true h k =
        it (undeliverable s conn e).moves (answered_errs s conn e own named_ unique (Refuses s conn e rule) s [] (fails (codes "ServiceUnknown")) lists (refl, refl) tt (λ name failed. inr (h, k)))
    by false b false h k = subst (AllByRecursion (Gives H)) (sym is) (handed_gives H e (receivers s e) (λ j i. g j))

-- ALL THAT IS HANDED ON of a message of one that has its name: errors of the bus's own for this reason, and the message itself
pub takes_errs : (s : BusState) (conn : ℕ) (e : Envelope) (rule : Option (List Condition)) (own : List ℕ) → unique_of s.owners conn ≡ Some own → is_unique_name own ≡ true → OwnLists s.owners
    → (H : ℕ → Envelope → Type 0) → ((k : ℕ) (m : Envelope) → Errs s.owners own e.serial (Refuses s conn (record e { sender = Some own }) rule) k m → H k m) → ((k : ℕ) → H k (record e { sender = Some own }))
    → AllByRecursion (Gives H) (bus_takes s conn e rule).moves
takes_errs s conn e rule own named_ unique lists H f g =
    let m : Envelope = record e { sender = Some own } in
    rw named_ (named_errs (is_for_bus m) (e.kind == 1) (is_unowned e.destination (receivers s m)) s conn m own rule _ refl refl named_ unique lists (inr refl) refl H f g)

-- and of a Hello: no error
pub greets_errs : (s : BusState) (conn : ℕ) (e : Envelope) → AllByRecursion (Gives (λ c m. m.kind ≡ 3 → ⊥)) (greets s conn e).moves
greets_errs s conn e =
    said_to_all H after after.next (replies after conn e (returns (text_data name ∷ [])) ++ news)
    (all_append (ToAll H after) (replies after conn e (returns (text_data name ∷ []))) news (by (expects_reply e)) (none news (all_append IsNews (name_acquired after.owners name (Some conn)) (owner_changed name [] name ∷ []) (acquired_news after.owners name (Some conn)) (refl, tt))))
  where
    H : ℕ → Envelope → Type 0
    H c m = m.kind ≡ 3 → ⊥

    after : BusState
    after = record s { owners = after_hello s.owners conn }

    name : List ℕ
    name = text_or_empty (unique_of after.owners conn)

    news : List Envelope
    news = name_acquired after.owners name (Some conn) ++ owner_changed name [] name ∷ []

    none : (es : List Envelope) → AllByRecursion IsNews es → AllByRecursion (ToAll H after) es
    none [] a = tt
    none (e ∷ es) a = ((λ n c i three. four_three (sym a.0 ∙ three)), none es a.1)

    by : (b : Bool) → AllByRecursion (ToAll H after) (if b then return_to (unique_of after.owners conn) e.serial (text_data name ∷ []) ∷ [] else [])
    by true = ((λ n c i three. two_three three), tt)
    by false = tt
