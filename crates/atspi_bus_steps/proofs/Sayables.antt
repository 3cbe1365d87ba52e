-- The bus's own messages meet the rules.
use Rattle.std.proofs.Common.{◌≢◌, ℕ, Bool, true, false, cond, List, [], ◌∷◌, ◌++◌, map, Option, None, Some, not, ◌&&◌, refl, arith, ◌==◌}
use Rattle.std.specs.Prelude.{codes}
use Rattle.std.specs.List.{All, list_any}
use Rattle.std.proofs.lemmas.List.Elements.{All-nil, All-cons, All-append, All-map, All-filter, All-weaker}
use Rattle.atspi_types.specs.Kinds.{text}
use Rattle.atspi_types.specs.Data.{Data, text_data, items_of, AreWellTyped, AllHaveType}
use Rattle.atspi_message.specs.Envelope.{Envelope}
use Rattle.atspi_names.specs.Owners.{Owners, list_of, listed}
use Rattle.atspi_names.specs.Queue.{owner_in, request_change, release_change}
use Rattle.atspi_match.specs.declared.condition.Condition.{Condition}
use Rattle.atspi_match.specs.RuleIndex.{is_pair, rules_of}
use Rattle.atspi_match.specs.declared.routing.member.BusMember.{BusMember}
use Rattle.atspi_match.specs.declared.routing.member.BusMember.TheVariants.{Hello, RequestName, ReleaseName, NameHasOwner, GetNameOwner, ListNames, ListQueuedOwners, AddMatch, RemoveMatch, GetId, Ping}
use Rattle.atspi_match.specs.routing.BusState.{OpenCall, BusState, unique_of, name_or_empty, waiting_for}
use Rattle.atspi_match.specs.routing.OwnMessages.{signal, return_to, error_to, name_lost, name_acquired, owner_changed, same_owner, told_of_change}
use Rattle.atspi_match.specs.routing.Answers.{Reply, returns, fails, Answer, only, answers, may_be_asked_for, requests, releases, owner_name, owner_reply, queued_names, queued_reply, first_text, second_number}
use Rattle.atspi_bus_steps.specs.Sayable.{MaySay, IsTyped, reply_message}
use Rattle.atspi_bus_steps.specs.Farewell.{no_replies, name_passes_on, names_pass_on}

pub say-signal : (member : List ℕ) (to : Option (List ℕ)) (body : List Data) → AreWellTyped (items_of body) → MaySay (signal member to body)
say-signal member to body typed n some = record {
  typed = omega arith;
  required = record {
    call = λ e. absurd (omega arith);
    return_ = λ e. absurd (omega arith);
    error = λ e. absurd (omega arith);
    signal = λ e. (refl, refl, refl);
  };
  numbered = some;
  replies = tt;
  body = typed;
}

pub say-return : (caller : Option (List ℕ)) (serial : ℕ) (values : List Data) → serial ≢ 0 → AreWellTyped (items_of values) → MaySay (return_to caller serial values)
say-return caller serial values numbered typed n some = record {
  typed = omega arith;
  required = record {
    call = λ e. absurd (omega arith);
    return_ = λ e. refl;
    error = λ e. absurd (omega arith);
    signal = λ e. absurd (omega arith);
  };
  numbered = some;
  replies = numbered;
  body = typed;
}

pub say-error : (caller : Option (List ℕ)) (serial : ℕ) (name : List ℕ) → serial ≢ 0 → MaySay (error_to caller serial name)
say-error caller serial name numbered n some = record {
  typed = omega arith;
  required = record {
    call = λ e. absurd (omega arith);
    return_ = λ e. absurd (omega arith);
    error = λ e. (refl, refl);
    signal = λ e. absurd (omega arith);
  };
  numbered = some;
  replies = numbered;
  body = (tt, tt);
}

pub say-reply : (s : BusState) (conn serial : ℕ) (reply : Reply) → serial ≢ 0 → IsTyped reply → MaySay (reply_message s conn serial reply)
say-reply s conn serial (returns values) numbered typed = say-return (unique_of s.owners conn) serial values numbered typed
say-reply s conn serial (fails name) numbered typed = say-error (unique_of s.owners conn) serial name numbered

pub one_sayable : (e : Envelope) → MaySay e → All MaySay (e ∷ [])
one_sayable e h = All-cons MaySay e [] h (All-nil MaySay)

pub say-changed : (name before after : List ℕ) → MaySay (owner_changed name before after)
say-changed name before after = say-signal (codes "NameOwnerChanged") None (text_data name ∷ (text_data before ∷ (text_data after ∷ []))) (tt, (tt, (tt, tt)))

pub say-lost : (owners : Owners) (name : List ℕ) (o : Option ℕ) → All MaySay (name_lost owners name o)
say-lost owners name None = All-nil MaySay
say-lost owners name (Some conn) = one_sayable _ (say-signal (codes "NameLost") (unique_of owners conn) (text_data name ∷ []) (tt, tt))

pub say-acquired : (owners : Owners) (name : List ℕ) (o : Option ℕ) → All MaySay (name_acquired owners name o)
say-acquired owners name None = All-nil MaySay
say-acquired owners name (Some conn) = one_sayable _ (say-signal (codes "NameAcquired") (unique_of owners conn) (text_data name ∷ []) (tt, tt))

say-change : (owners : Owners) (name : List ℕ) (before after : Option ℕ) → All MaySay (told_of_change owners name before after)
say-change owners name before after = by (same_owner before after)
  where
    by : (b : Bool) → All MaySay (cond b [] (name_lost owners name before ++ (name_acquired owners name after ++ owner_changed name (name_or_empty owners before) (name_or_empty owners after) ∷ [])))
    by true = All-nil MaySay
    by false =
        let changed = owner_changed name (name_or_empty owners before) (name_or_empty owners after) in
        All-append MaySay (name_lost owners name before) (name_acquired owners name after ++ changed ∷ []) (say-lost owners name before)
        (All-append MaySay (name_acquired owners name after) (changed ∷ []) (say-acquired owners name after) (one_sayable changed (say-changed name (name_or_empty owners before) (name_or_empty owners after))))

-- what an answer tells, and its reply
pub record IsSayable (a : Answer) : Type 0 where
  pub told : All MaySay a.told
  pub typed : IsTyped a.reply

refused : (s : BusState) (name : List ℕ) → IsSayable (only s (fails name))
refused s name = record { told = All-nil MaySay; typed = tt }

text_items : (names : List (List ℕ)) → AllHaveType text (items_of (map text_data names))
text_items [] = tt
text_items (name ∷ names) = (refl, tt, text_items names)

either : (b : Bool) (x y : Answer) → IsSayable x → IsSayable y → IsSayable (cond b x y)
either true x y p q = p
either false x y p q = q

typed-owner : (o : Option (List ℕ)) → IsTyped (owner_reply o)
typed-owner None = tt
typed-owner (Some name) = (tt, tt)

typed-queued : (names : List (List ℕ)) → IsTyped (queued_reply names)
typed-queued [] = tt
typed-queued (name ∷ names) = ((tt, text_items (name ∷ names)), tt)

added : (s : BusState) (conn : ℕ) (rule : Option (List Condition)) (args : List Data) → IsSayable (answers AddMatch s conn args rule)
added s conn None args = refused s (codes "MatchRuleInvalid")
added s conn (Some rule) args = either (rules_of conn s.rules == 512) _ _ (refused s (codes "LimitsExceeded")) (record { told = All-nil MaySay; typed = tt })

removed : (s : BusState) (conn : ℕ) (rule : Option (List Condition)) (args : List Data) → IsSayable (answers RemoveMatch s conn args rule)
removed s conn None args = refused s (codes "MatchRuleInvalid")
removed s conn (Some rule) args = either (list_any (is_pair conn rule) s.rules) _ _ (record { told = All-nil MaySay; typed = tt }) (refused s (codes "MatchRuleNotFound"))

pub sayable : (member : BusMember) (s : BusState) (conn : ℕ) (args : List Data) (rule : Option (List Condition)) → IsSayable (answers member s conn args rule)
sayable Hello s conn args rule = refused s (codes "Failed")
sayable RequestName s conn args rule =
    either (may_be_asked_for (first_text args)) (requests s conn (first_text args) (second_number args)) (only s (fails (codes "InvalidArgs")))
    (record { told = let change = request_change (list_of s.owners.lists (first_text args)) conn (second_number args) in say-change s.owners (first_text args) change.before change.after; typed = (tt, tt) })
    (refused s (codes "InvalidArgs"))
sayable ReleaseName s conn args rule =
    either (may_be_asked_for (first_text args)) (releases s conn (first_text args)) (only s (fails (codes "InvalidArgs")))
    (record { told = let change = release_change (list_of s.owners.lists (first_text args)) conn in say-change s.owners (first_text args) change.before change.after; typed = (tt, tt) })
    (refused s (codes "InvalidArgs"))
sayable NameHasOwner s conn args rule = record { told = All-nil MaySay; typed = (tt, tt) }
sayable GetNameOwner s conn args rule = record { told = All-nil MaySay; typed = typed-owner (owner_name s.owners (first_text args)) }
sayable ListNames s conn args rule = record { told = All-nil MaySay; typed = ((tt, text_items (listed s.owners)), tt) }
sayable ListQueuedOwners s conn args rule = record { told = All-nil MaySay; typed = typed-queued (queued_names s.owners (first_text args)) }
sayable AddMatch s conn args rule = added s conn rule args
sayable RemoveMatch s conn args rule = removed s conn rule args
sayable GetId s conn args rule = record { told = All-nil MaySay; typed = (tt, tt) }
sayable Ping s conn args rule = record { told = All-nil MaySay; typed = tt }

-- what is told at a leaving
pub say-no_replies : (owners : Owners) (calls : List OpenCall) (conn : ℕ) → All (λ (c : OpenCall). c.serial ≢ 0) calls → All MaySay (no_replies owners calls conn)
say-no_replies owners calls conn numbered =
    let message : OpenCall → Envelope = λ c. error_to (unique_of owners c.caller) c.serial (codes "NoReply") in
    All-map MaySay message (waiting_for conn calls)
    (All-weaker (λ (c : OpenCall). c.serial ≢ 0) (λ (c : OpenCall). MaySay (message c)) (λ c h. say-error (unique_of owners c.caller) c.serial (codes "NoReply") h) (waiting_for conn calls)
    (All-filter (λ (c : OpenCall). c.callee == conn && not (c.caller == conn)) (λ (c : OpenCall). c.serial ≢ 0) calls numbered))

pub say-passes_on : (after : Owners) (unique name : List ℕ) → All MaySay (name_passes_on after unique name)
say-passes_on after unique name =
    let next = owner_in (list_of after.lists name) in
    let changed = owner_changed name unique (name_or_empty after next) in
    All-append MaySay (name_acquired after name next) (changed ∷ []) (say-acquired after name next) (one_sayable changed (say-changed name unique (name_or_empty after next)))

pub say-pass_on : (after : Owners) (unique : List ℕ) (names : List (List ℕ)) → All MaySay (names_pass_on after unique names)
say-pass_on after unique [] = All-nil MaySay
say-pass_on after unique (name ∷ names) = All-append MaySay (name_passes_on after unique name) _ (say-passes_on after unique name) (say-pass_on after unique names)
