-- What the bus answers to calls of its members can be written, and what it knows then stays known.
use Rattle.std.proofs.Common.{◌≡◌, ℕ, ◌<◌, ◌^◌, Bool, true, false, cond, List, [], ◌∷◌, ◌++◌, map, Option, None, Some, refl, sym, ap, ◌∙◌, arith}
use Rattle.std.specs.Prelude.{◌==◌, ◌&&◌, not, codes, bytes_eq, if◌then◌else◌, Result, Ok, Err, filter}
use Rattle.std.specs.List.{AllByRecursion, list_any}
use Rattle.std.proofs.lemmas.Bool.{and_parts}
use Rattle.std.specs.Ordering.{nat_cmp}
use Rattle.std.specs.Cmp.Lexicographic.{slice_cmp}
use Rattle.std.specs.BTreeMap.{is_at}
use Rattle.atspi_types.specs.Data.{Data}
use Rattle.atspi_base.specs.valid_names.Names.{is_bus_name, is_unique_name}
use Rattle.atspi_base.proofs.OfValidNames.NameLemmas.{IsBusName-from_test}
use Rattle.atspi_message.specs.Envelope.{Envelope}
use Rattle.atspi_names.specs.Owners.{Owners, Lists, own_name, list_of, with_list, listed}
use Rattle.atspi_names.specs.Queue.{requested, released, request_change, release_change, owner_in, allows_replacement, replaces_existing, forbids_queueing, stands, taken_over, without, with_flags}
use Rattle.atspi_names.proofs.BookLemmas.{list_of-with_list, no_empty-with_list, same_name, by_test}
use Rattle.atspi_bus_laws.specs.owners.Orderly.{IsOrderly}
use Rattle.atspi_bus_laws.proofs.OfOwners.Steps.{orderly-request, orderly-release}
use Rattle.atspi_match.specs.declared.condition.Condition.{Condition}
use Rattle.atspi_match.specs.RuleIndex.{is_pair, rules_of, without_first}
use Rattle.atspi_match.specs.declared.routing.member.BusMember.{BusMember}
use Rattle.atspi_match.specs.declared.routing.member.BusMember.TheVariants.{Hello, RequestName, ReleaseName, NameHasOwner, GetNameOwner, ListNames, ListQueuedOwners, AddMatch, RemoveMatch, GetId, Ping}
use Rattle.atspi_match.specs.routing.BusState.{OpenCall, BusState, name_or_empty}
use Rattle.atspi_match.specs.routing.Members.{MemberLine, member_lines, is_of, is_text, signature_of, first_line, with_arguments, member_of}
use Rattle.atspi_match.specs.routing.Answers.{Reply, returns, fails, Answer, only, answers, may_be_asked_for, requests, releases, owner_name, owner_reply, has_owner, queued_names, queued_reply, adds_rule, removes_rule, first_text, second_number, bus_id}
use Rattle.atspi_bus_laws.specs.handed.Known.{AreKnown}
use Rattle.atspi_bus_laws.proofs.OfHanded.Names.{IsPlain, plain_name, bus_is, IsError, failed_is, args_is, limits_is, rule_is, rule_lost_is, owner_lost_is, unknown_interface_is, unknown_method_is, plain_owner, OnlyNames, listed_are}
use Rattle.atspi_bus_laws.proofs.OfHanded.Own.{MaySpell, IsBody, no_body, text_body, number_body, boolean_body, texts_body, spell_change}

-- a reply that can be written
abbrev pub IsReply : Reply → Type 0
IsReply (returns values) = IsBody values
IsReply (fails name) = IsError name

-- an answer that can be written, and what the bus knows behind it
pub record IsAnswer (calls : List OpenCall) (next : ℕ) (a : Answer) : Type 0 where
  pub known : AreKnown a.owners calls next
  pub told : AllByRecursion MaySpell a.told
  pub reply : IsReply a.reply

pub only_is : (s : BusState) (reply : Reply) → AreKnown s.owners s.calls s.next → IsReply reply → IsAnswer s.calls s.next (only s reply)
only_is s reply k r = record { known = k; told = tt; reply = r }

either : (calls : List OpenCall) (next : ℕ) (b : Bool) (x y : Answer) → (b ≡ true → IsAnswer calls next x) → IsAnswer calls next y → IsAnswer calls next (if b then x else y)
either calls next true x y f g = f refl
either calls next false x y f g = g

-- a list of a name changes
pub names_with : (lists : Lists) → OnlyNames lists → (name : List ℕ) → is_bus_name name ≡ true → (list : List (ℕ × ℕ)) → OnlyNames (with_list lists name list)
names_with lists named name is list q other =
    list_of-with_list lists name list q
    ∙ by_test (is_at (slice_cmp nat_cmp name) q) (cond (is_at (slice_cmp nat_cmp name) q) list (list_of lists q) ≡ [])
    (λ here. absurd (apart (sym (ap is_bus_name (same_name name q here) ∙ is) ∙ other)))
    (λ there. ap (λ b. cond b list (list_of lists q)) there ∙ named q other)
  where
    apart : true ≡ false → ⊥
    apart e = cc

known_with : (o : Owners) (calls : List OpenCall) (next : ℕ) (name : List ℕ) (list : List (ℕ × ℕ)) → AreKnown o calls next → is_bus_name name ≡ true → IsOrderly (record o { lists = with_list o.lists name list })
    → AreKnown (record o { lists = with_list o.lists name list }) calls next
known_with o calls next name list k is orderly = record {
  orderly = orderly;
  named = names_with o.lists k.named name is list;
  no_empty = no_empty-with_list o.lists name list k.no_empty;
  serials = k.serials;
  first = k.first;
  given = k.given;
}

-- names that are asked for
turned : (b : Bool) → not b ≡ true → b ≡ false
turned true h = absurd cc
turned false h = refl

asked_name : (name : List ℕ) → may_be_asked_for name ≡ true → is_bus_name name ≡ true
asked_name name h = (and_parts (is_bus_name name) (not (is_unique_name name) && not (bytes_eq name own_name)) h).0

asked_plain : (name : List ℕ) → may_be_asked_for name ≡ true → is_unique_name name ≡ false
asked_plain name h =
    turned (is_unique_name name)
    (and_parts (not (is_unique_name name)) (not (bytes_eq name own_name)) (and_parts (is_bus_name name) (not (is_unique_name name) && not (bytes_eq name own_name)) h).1).0

-- the numbers that are answered
abbrev number_in : List (ℕ × ℕ) × ℕ → ℕ
number_in p = p.1

request_small : (list : List (ℕ × ℕ)) (conn flags : ℕ) → (requested list conn flags).1 < 2 ^ 32
request_small [] conn flags = omega arith
request_small (first ∷ rest) conn flags = by (first.0 == conn) (allows_replacement first.1 && replaces_existing flags) (forbids_queueing flags) (stands conn rest)
  where
    by : (a b c d : Bool)
        → number_in (if a then ((conn, flags) ∷ rest, 4)
        else if b then (taken_over conn flags (first ∷ rest), 1)
        else if c then (without conn (first ∷ rest), 3)
        else if d then (with_flags conn flags (first ∷ rest), 2)
        else ((first ∷ rest) ++ (conn, flags) ∷ [], 2)) < 2 ^ 32
    by true b c d = omega arith
    by false true c d = omega arith
    by false false true d = omega arith
    by false false false true = omega arith
    by false false false false = omega arith

release_small : (list : List (ℕ × ℕ)) (conn : ℕ) → (released list conn).1 < 2 ^ 32
release_small [] conn = omega arith
release_small (first ∷ rest) conn = by (stands conn (first ∷ rest))
  where
    by : (b : Bool) → (if b then 1 else 3) < 2 ^ 32
    by true = omega arith
    by false = omega arith

requests_is : (s : BusState) (conn : ℕ) (name : List ℕ) (flags : ℕ) → AreKnown s.owners s.calls s.next → may_be_asked_for name ≡ true → IsAnswer s.calls s.next (requests s conn name flags)
requests_is s conn name flags k asked =
    let is = asked_name name asked in
    let change = request_change (list_of s.owners.lists name) conn flags in
    record {
      known = known_with s.owners s.calls s.next name (requested (list_of s.owners.lists name) conn flags).0 k is (orderly-request s.owners conn name flags k.orderly (asked_plain name asked));
      told = spell_change s.owners k.orderly name (plain_name name (IsBusName-from_test name is)) change.before change.after;
      reply = number_body (requested (list_of s.owners.lists name) conn flags).1 (request_small (list_of s.owners.lists name) conn flags);
    }

releases_is : (s : BusState) (conn : ℕ) (name : List ℕ) → AreKnown s.owners s.calls s.next → may_be_asked_for name ≡ true → IsAnswer s.calls s.next (releases s conn name)
releases_is s conn name k asked =
    let is = asked_name name asked in
    let change = release_change (list_of s.owners.lists name) conn in
    record {
      known = known_with s.owners s.calls s.next name (released (list_of s.owners.lists name) conn).0 k is (orderly-release s.owners conn name k.orderly (asked_plain name asked));
      told = spell_change s.owners k.orderly name (plain_name name (IsBusName-from_test name is)) change.before change.after;
      reply = number_body (released (list_of s.owners.lists name) conn).1 (release_small (list_of s.owners.lists name) conn);
    }

-- who owns a name
owner_plain : (o : Owners) → IsOrderly o → (name : List ℕ) → IsReply (owner_reply (owner_name o name))
owner_plain o orderly name = by (bytes_eq name own_name) (owner_in (list_of o.lists name))
  where
    told : Option ℕ → Option (List ℕ)
    told None = None
    told (Some conn) = Some (name_or_empty o (Some conn))

    by : (b : Bool) (c : Option ℕ) → IsReply (owner_reply (if b then Some own_name else told c))
    by true c = text_body own_name (plain_name own_name bus_is)
    by false None = owner_lost_is
    by false (Some conn) = text_body (name_or_empty o (Some conn)) (plain_owner o orderly (Some conn))

queue_plain : (o : Owners) → IsOrderly o → (list : List (ℕ × ℕ)) → AllByRecursion IsPlain (map (λ (e : ℕ × ℕ). name_or_empty o (Some e.0)) list)
queue_plain o orderly [] = tt
queue_plain o orderly (e ∷ es) = (plain_owner o orderly (Some e.0), queue_plain o orderly es)

queued_is : (names : List (List ℕ)) → AllByRecursion IsPlain names → IsReply (queued_reply names)
queued_is [] h = owner_lost_is
queued_is (name ∷ names) h = texts_body (name ∷ names) h

queued_plain : (o : Owners) → IsOrderly o → (name : List ℕ) → IsReply (queued_reply (queued_names o name))
queued_plain o orderly name = queued_is (queued_names o name) (by (bytes_eq name own_name))
  where
    by : (b : Bool) → AllByRecursion IsPlain (if b then own_name ∷ [] else map (λ (e : ℕ × ℕ). name_or_empty o (Some e.0)) (list_of o.lists name))
    by true = (plain_name own_name bus_is, tt)
    by false = queue_plain o orderly (list_of o.lists name)

-- rules
adds_is : (s : BusState) (conn : ℕ) (rule : Option (List Condition)) → AreKnown s.owners s.calls s.next → IsAnswer s.calls s.next (adds_rule s conn rule)
adds_is s conn None k = only_is s (fails (codes "MatchRuleInvalid")) k rule_is
adds_is s conn (Some rule) k =
    either s.calls s.next (rules_of conn s.rules == 512) (only s (fails (codes "LimitsExceeded"))) (record (only s (returns [])) { rules = s.rules ++ (conn, rule) ∷ [] })
    (λ h. only_is s (fails (codes "LimitsExceeded")) k limits_is) (record { known = k; told = tt; reply = no_body })

removes_is : (s : BusState) (conn : ℕ) (rule : Option (List Condition)) → AreKnown s.owners s.calls s.next → IsAnswer s.calls s.next (removes_rule s conn rule)
removes_is s conn None k = only_is s (fails (codes "MatchRuleInvalid")) k rule_is
removes_is s conn (Some rule) k =
    either s.calls s.next (list_any (is_pair conn rule) s.rules) (record (only s (returns [])) { rules = without_first s.rules conn rule }) (only s (fails (codes "MatchRuleNotFound")))
    (λ h. record { known = k; told = tt; reply = no_body }) (only_is s (fails (codes "MatchRuleNotFound")) k rule_lost_is)

id_plain : IsPlain bus_id
unfolding lib.Utf8.encode
id_plain = ((refl, refl), omega arith)

pub answers_is : (member : BusMember) (s : BusState) (conn : ℕ) (args : List Data) (rule : Option (List Condition)) → AreKnown s.owners s.calls s.next → IsAnswer s.calls s.next (answers member s conn args rule)
answers_is Hello s conn args rule k = only_is s (fails (codes "Failed")) k failed_is
answers_is RequestName s conn args rule k =
    either s.calls s.next (may_be_asked_for (first_text args)) (requests s conn (first_text args) (second_number args)) (only s (fails (codes "InvalidArgs")))
    (λ h. requests_is s conn (first_text args) (second_number args) k h) (only_is s (fails (codes "InvalidArgs")) k args_is)
answers_is ReleaseName s conn args rule k =
    either s.calls s.next (may_be_asked_for (first_text args)) (releases s conn (first_text args)) (only s (fails (codes "InvalidArgs")))
    (λ h. releases_is s conn (first_text args) k h) (only_is s (fails (codes "InvalidArgs")) k args_is)
answers_is NameHasOwner s conn args rule k = record { known = k; told = tt; reply = boolean_body (has_owner (owner_name s.owners (first_text args))) }
answers_is GetNameOwner s conn args rule k = record { known = k; told = tt; reply = owner_plain s.owners k.orderly (first_text args) }
answers_is ListNames s conn args rule k = record { known = k; told = tt; reply = texts_body (listed s.owners) (listed_are s.owners k.orderly k.named k.no_empty) }
answers_is ListQueuedOwners s conn args rule k = record { known = k; told = tt; reply = queued_plain s.owners k.orderly (first_text args) }
answers_is AddMatch s conn args rule k = adds_is s conn rule k
answers_is RemoveMatch s conn args rule k = removes_is s conn rule k
answers_is GetId s conn args rule k = record { known = k; told = tt; reply = text_body bus_id id_plain }
answers_is Ping s conn args rule k = record { known = k; told = tt; reply = no_body }

-- a call that asks for no member gets an error
abbrev pub ErrorIs : Result BusMember (List ℕ) → Type 0
ErrorIs (Ok member) = Unit {0}
ErrorIs (Err name) = IsError name

arguments_are : (e : Envelope) (o : Option MemberLine) → ErrorIs (with_arguments e o)
arguments_are e None = unknown_method_is
arguments_are e (Some l) = by (bytes_eq (signature_of e) l.takes)
  where
    by : (b : Bool) → ErrorIs (if b then Ok l.member else Err (codes "InvalidArgs"))
    by true = tt
    by false = args_is

pub member_error : (e : Envelope) → ErrorIs (member_of e)
member_error e = by (list_any (is_of e.interface) member_lines)
  where
    by : (b : Bool) → ErrorIs (if b then with_arguments e (first_line (filter (λ l. is_of e.interface l && is_text e.member l.name) member_lines)) else Err (codes "UnknownInterface"))
    by true = arguments_are e (first_line (filter (λ l. is_of e.interface l && is_text e.member l.name) member_lines))
    by false = unknown_interface_is
