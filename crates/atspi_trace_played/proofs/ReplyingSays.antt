-- What the bus says of its own: news, which are no replies, and one reply to a call to itself, which goes to the caller alone.
use Rattle.std.proofs.Common.{◌≡◌, ℕ, ◌+◌, Bool, true, false, List, [], ◌∷◌, ◌++◌, Option, None, Some, refl, sym, ap, ◌∙◌, subst, arith}
use Rattle.std.specs.Prelude.{◌==◌, flat_map, codes, if◌then◌else◌}
use Rattle.std.specs.List.{AllByRecursion, list_any}
use Rattle.atspi_types.specs.Data.{Data}
use Rattle.atspi_message.specs.Envelope.{Envelope}
use Rattle.atspi_match.specs.declared.condition.Condition.{Condition}
use Rattle.atspi_match.specs.RuleIndex.{is_pair, rules_of, without_first}
use Rattle.atspi_names.specs.Owners.{Owners, list_of}
use Rattle.atspi_names.specs.Queue.{request_change, release_change}
use Rattle.atspi_match.specs.declared.routing.member.BusMember.{BusMember}
use Rattle.atspi_match.specs.declared.routing.member.BusMember.TheVariants.{Hello, RequestName, ReleaseName, NameHasOwner, GetNameOwner, ListNames, ListQueuedOwners, AddMatch, RemoveMatch, GetId, Ping}
use Rattle.atspi_match.specs.routing.BusState.{BusState, unique_of, name_or_empty}
use Rattle.atspi_match.specs.routing.OwnMessages.{return_to, error_to, name_lost, name_acquired, owner_changed, same_owner, told_of_change, numbered}
use Rattle.atspi_match.specs.routing.Answers.{Reply, returns, fails, Answer, only, answers, may_be_asked_for, first_text, second_number, requests, releases, adds_rule, removes_rule}
use Rattle.atspi_match.specs.routing.Routing.{receivers, owners_of, expects_reply}
use Rattle.atspi_match.specs.routing.Steps.{says, delivers, handed, speaks, replies}
use Rattle.atspi_trace_laws.proofs.OfOrder.Parties.{all_append}
use Rattle.std.specs.Prelude.{◌&&◌, ◌||◌, bit_and, map}
use Rattle.std.proofs.Common.{◌≤◌}
use Rattle.atspi_protocol.specs.following.Replied.{is_reply_to}
use Rattle.atspi_trace_laws.proofs.OfOrder.Each.{all_map}
use Rattle.atspi_trace_caches.proofs.OfSettled.ReplyingOwners.{Owned, owners_are}
use Rattle.atspi_trace_played.proofs.ReplyingTally.{one_if, replies_to, calls_as, calls_from, is_name, given, given_append, said_none}

-- WHAT IS TOLD OF ITS OWN are signals
abbrev pub IsNews : Envelope → Type 0
IsNews m = m.kind ≡ 4

lost_news : (owners : Owners) (name : List ℕ) (o : Option ℕ) → AllByRecursion IsNews (name_lost owners name o)
lost_news owners name None = tt
lost_news owners name (Some conn) = (refl, tt)

pub acquired_news : (owners : Owners) (name : List ℕ) (o : Option ℕ) → AllByRecursion IsNews (name_acquired owners name o)
acquired_news owners name None = tt
acquired_news owners name (Some conn) = (refl, tt)

change_news : (owners : Owners) (name : List ℕ) (before after : Option ℕ) → AllByRecursion IsNews (told_of_change owners name before after)
change_news owners name before after = by (same_owner before after)
  where
    news : List Envelope
    news = name_acquired owners name after ++ owner_changed name (name_or_empty owners before) (name_or_empty owners after) ∷ []

    by : (b : Bool) → AllByRecursion IsNews (if b then [] else name_lost owners name before ++ news)
    by true = tt
    by false =
        all_append IsNews (name_lost owners name before) news (lost_news owners name before)
        (all_append IsNews (name_acquired owners name after) (owner_changed name (name_or_empty owners before) (name_or_empty owners after) ∷ []) (acquired_news owners name after) (refl, tt))

if_news : (b : Bool) (x y : Answer) → AllByRecursion IsNews x.told → AllByRecursion IsNews y.told → AllByRecursion IsNews (if b then x else y).told
if_news true x y a c = a
if_news false x y a c = c

adds_news : (s : BusState) (conn : ℕ) (o : Option (List Condition)) → AllByRecursion IsNews (adds_rule s conn o).told
adds_news s conn None = tt
adds_news s conn (Some rule) = if_news (rules_of conn s.rules == 512) (only s (fails (codes "LimitsExceeded"))) (record (only s (returns [])) { rules = s.rules ++ (conn, rule) ∷ [] }) tt tt

removes_news : (s : BusState) (conn : ℕ) (o : Option (List Condition)) → AllByRecursion IsNews (removes_rule s conn o).told
removes_news s conn None = tt
removes_news s conn (Some rule) =
    if_news (list_any (is_pair conn rule) s.rules) (record (only s (returns [])) { rules = without_first s.rules conn rule }) (only s (fails (codes "MatchRuleNotFound"))) tt tt

pub told_news : (member : BusMember) (s : BusState) (conn : ℕ) (args : List Data) (rule : Option (List Condition)) → AllByRecursion IsNews (answers member s conn args rule).told
told_news Hello s conn args rule = tt
told_news RequestName s conn args rule =
    let change = request_change (list_of s.owners.lists (first_text args)) conn (second_number args) in
    if_news (may_be_asked_for (first_text args)) (requests s conn (first_text args) (second_number args)) (only s (fails (codes "InvalidArgs"))) (change_news s.owners (first_text args) change.before change.after) tt
told_news ReleaseName s conn args rule =
    let change = release_change (list_of s.owners.lists (first_text args)) conn in
    if_news (may_be_asked_for (first_text args)) (releases s conn (first_text args)) (only s (fails (codes "InvalidArgs"))) (change_news s.owners (first_text args) change.before change.after) tt
told_news NameHasOwner s conn args rule = tt
told_news GetNameOwner s conn args rule = tt
told_news ListNames s conn args rule = tt
told_news ListQueuedOwners s conn args rule = tt
told_news AddMatch s conn args rule = adds_news s conn rule
told_news RemoveMatch s conn args rule = removes_news s conn rule
told_news GetId s conn args rule = tt
told_news Ping s conn args rule = tt

-- of the bus's own: no call that waits for a reply
abbrev pub IsOwnWord : Envelope → Type 0
IsOwnWord m = (m.kind == 1) ≡ false

no_call : (u : Option (List ℕ)) (n : ℕ) (m : Envelope) → IsOwnWord m → calls_from u n m ≡ false
no_call u n m h = ap (λ b. ((b && (bit_and m.flags 1 == 0)) && (m.serial == n)) && is_name m.sender u) h

no_reply : (n : ℕ) (m : Envelope) → IsNews m → replies_to n m ≡ false
no_reply n m h = ap (λ k. (k == 2 || k == 3) && is_reply_to n m.reply) h

news_own : (m : Envelope) → IsNews m → IsOwnWord m
news_own m h = ap (λ k. k == 1) h

pub own_called : (u : Option (List ℕ)) (n x at : ℕ) (t : BusState) (es : List Envelope) → AllByRecursion IsOwnWord es → given (calls_from u n) x (flat_map (λ e. says e ∷ handed t e) (numbered at es)) ≡ 0
own_called u n x at t es a = said_none (calls_from u n) x t at es (all_map IsOwnWord (λ (m : Envelope). (i : ℕ) → calls_from u n (record m { serial = i }) ≡ false) es (λ m h i. no_call u n (record m { serial = i }) h) a)

pub news_replied : (n x at : ℕ) (t : BusState) (es : List Envelope) → AllByRecursion IsNews es → given (replies_to n) x (flat_map (λ e. says e ∷ handed t e) (numbered at es)) ≡ 0
news_replied n x at t es a = said_none (replies_to n) x t at es (all_map IsNews (λ (m : Envelope). (i : ℕ) → replies_to n (record m { serial = i }) ≡ false) es (λ m h i. no_reply n (record m { serial = i }) h) a)

-- what is said in two parts
pub said_parts : (p : Envelope → Bool) (k at : ℕ) (t : BusState) (a b : List Envelope) → (i : ℕ)
    × (given p k (flat_map (λ e. says e ∷ handed t e) (numbered at (a ++ b))) ≡ given p k (flat_map (λ e. says e ∷ handed t e) (numbered at a)) + given p k (flat_map (λ e. says e ∷ handed t e) (numbered i b)))
said_parts p k at t [] b = (at, plus (given p k (flat_map (λ e. says e ∷ handed t e) (numbered at b))))
  where
    plus : (x : ℕ) → x ≡ 0 + x
    plus x = omega arith
said_parts p k at t (e ∷ es) b =
    let m : Envelope = record e { serial = at } in
    let x = said_parts p k (at + 1) t es b in (
      x.0,
      sums (given p k (handed t m ++ flat_map (λ z. says z ∷ handed t z) (numbered (at + 1) (es ++ b)))) (given p k (handed t m)) (given p k (flat_map (λ z. says z ∷ handed t z) (numbered (at + 1) (es ++ b))))
          (given p k (handed t m ++ flat_map (λ z. says z ∷ handed t z) (numbered (at + 1) es))) (given p k (flat_map (λ z. says z ∷ handed t z) (numbered (at + 1) es))) (given p k (flat_map (λ z. says z ∷ handed t z) (numbered x.0 b)))
          (given_append p k (handed t m) (flat_map (λ z. says z ∷ handed t z) (numbered (at + 1) (es ++ b)))) (given_append p k (handed t m) (flat_map (λ z. says z ∷ handed t z) (numbered (at + 1) es))) x.1,
    )
  where
    sums : (x a b y c d : ℕ) → x ≡ a + b → y ≡ a + c → b ≡ c + d → x ≡ y + d
    sums x a b y c d h g f = omega (arith, h, g, f)

-- A MESSAGE to who has this name goes there alone
pub one_receiver : (t : BusState) (m : Envelope) (own : List ℕ) (j : ℕ) → Owned t.owners → unique_of t.owners j ≡ Some own → m.destination ≡ Some own → receivers t m ≡ j ∷ []
one_receiver t m own j owned named to = by m.destination to ∙ owners_are t j own owned named
  where
    by : (o : Option (List ℕ)) → o ≡ Some own → receivers t (record m { destination = o }) ≡ owners_of t own
    by o h = ap (λ z. receivers t (record m { destination = z })) h

-- what goes to it, once
pub one_said : (p : Envelope → Bool) (k j at : ℕ) (t : BusState) (r : Envelope) → receivers t (record r { serial = at }) ≡ j ∷ []
    → given p k (flat_map (λ e. says e ∷ handed t e) (numbered at (r ∷ []))) ≤ one_if ((j == k) && p (record r { serial = at }))
one_said p k j at t r alone =
    sums (given p k (handed t (record r { serial = at }) ++ [])) (given p k (handed t (record r { serial = at }))) (one_if ((j == k) && p (record r { serial = at }))) (given_append p k (handed t (record r { serial = at })) [])
    (ap (λ l. given p k (map (λ c. delivers c (record r { serial = at })) l)) alone)
  where
    sums : (x a b : ℕ) → x ≡ a + 0 → a ≡ b + 0 → x ≤ b
    sums x a b h g = omega (arith, h, g)

-- THE REPLY of the bus's to a call of a connection that has this name
reply_own : (b : Bool) (j : ℕ) (o : Option (List ℕ)) (e : Envelope) (reply : Reply) (t : BusState) → AllByRecursion IsOwnWord (replies t j e reply)
reply_own b j o e (returns values) t = by (expects_reply e)
  where
    by : (b : Bool) → AllByRecursion IsOwnWord (if b then return_to (unique_of t.owners j) e.serial values ∷ [] else [])
    by true = (refl, tt)
    by false = tt
reply_own b j o e (fails word) t = by (expects_reply e)
  where
    by : (b : Bool) → AllByRecursion IsOwnWord (if b then error_to (unique_of t.owners j) e.serial word ∷ [] else [])
    by true = (refl, tt)
    by false = tt

pub replies_own : (t : BusState) (j : ℕ) (e : Envelope) (reply : Reply) → AllByRecursion IsOwnWord (replies t j e reply)
replies_own t j e reply = reply_own true j None e reply t

pub reply_given : (n k j at : ℕ) (t : BusState) (e : Envelope) (own : List ℕ) (reply : Reply) → Owned t.owners → unique_of t.owners j ≡ Some own
    → given (replies_to n) k (flat_map (λ x. says x ∷ handed t x) (numbered at (replies t j e reply))) ≤ one_if ((j == k) && calls_as n e)
reply_given n k j at t e own (returns values) owned named = by (expects_reply e) refl
  where
    r : Envelope
    r = return_to (unique_of t.owners j) e.serial values

    by : (b : Bool) → expects_reply e ≡ b → given (replies_to n) k (flat_map (λ x. says x ∷ handed t x) (numbered at (if b then return_to (unique_of t.owners j) e.serial values ∷ [] else []))) ≤ one_if ((j == k) && calls_as n e)
    by true h = subst (λ c. given (replies_to n) k (flat_map (λ x. says x ∷ handed t x) (numbered at (return_to (unique_of t.owners j) e.serial values ∷ []))) ≤ one_if ((j == k) && (c && (e.serial == n)))) (sym h)
        (one_said (replies_to n) k j at t (return_to (unique_of t.owners j) e.serial values) (one_receiver t (record (return_to (unique_of t.owners j) e.serial values) { serial = at }) own j owned named named))
    by false h = least (one_if ((j == k) && calls_as n e))
      where
        least : (a : ℕ) → 0 ≤ a
        least a = omega arith
reply_given n k j at t e own (fails word) owned named = by (expects_reply e) refl
  where
    by : (b : Bool) → expects_reply e ≡ b → given (replies_to n) k (flat_map (λ x. says x ∷ handed t x) (numbered at (if b then error_to (unique_of t.owners j) e.serial word ∷ [] else []))) ≤ one_if ((j == k) && calls_as n e)
    by true h = subst (λ c. given (replies_to n) k (flat_map (λ x. says x ∷ handed t x) (numbered at (error_to (unique_of t.owners j) e.serial word ∷ []))) ≤ one_if ((j == k) && (c && (e.serial == n)))) (sym h)
        (one_said (replies_to n) k j at t (error_to (unique_of t.owners j) e.serial word) (one_receiver t (record (error_to (unique_of t.owners j) e.serial word) { serial = at }) own j owned named named))
    by false h = least (one_if ((j == k) && calls_as n e))
      where
        least : (a : ℕ) → 0 ≤ a
        least a = omega arith

-- WHAT IT SAYS at a call to itself: news, that reply, and news
pub spoken_given : (n k j : ℕ) (t : BusState) (e : Envelope) (own : List ℕ) (reply : Reply) (before behind : List Envelope) → Owned t.owners → unique_of t.owners j ≡ Some own → AllByRecursion IsNews before → AllByRecursion IsNews behind
    → given (replies_to n) k (speaks t (before ++ (replies t j e reply ++ behind))).moves ≤ one_if ((j == k) && calls_as n e)
spoken_given n k j t e own reply before behind owned named news more =
    let x = said_parts (replies_to n) k t.next t before (replies t j e reply ++ behind) in
    let y = said_parts (replies_to n) k x.0 t (replies t j e reply) behind in
    sums (given (replies_to n) k (speaks t (before ++ (replies t j e reply ++ behind))).moves) (given (replies_to n) k (flat_map (λ z. says z ∷ handed t z) (numbered t.next before)))
    (given (replies_to n) k (flat_map (λ z. says z ∷ handed t z) (numbered x.0 (replies t j e reply ++ behind))))
    (given (replies_to n) k (flat_map (λ z. says z ∷ handed t z) (numbered x.0 (replies t j e reply)))) (given (replies_to n) k (flat_map (λ z. says z ∷ handed t z) (numbered y.0 behind))) (one_if ((j == k) && calls_as n e)) x.1
    (news_replied n k t.next t before news) y.1 (news_replied n k y.0 t behind more) (reply_given n k j x.0 t e own reply owned named)
  where
    sums : (x a b c d f : ℕ) → x ≡ a + b → a ≡ 0 → b ≡ c + d → d ≡ 0 → c ≤ f → x ≤ f
    sums x a b c d f h g i l m = omega (arith, h, g, i, l, m)

pub spoken_called : (u : Option (List ℕ)) (n x j : ℕ) (t : BusState) (e : Envelope) (reply : Reply) (before behind : List Envelope) → AllByRecursion IsNews before → AllByRecursion IsNews behind
    → given (calls_from u n) x (speaks t (before ++ (replies t j e reply ++ behind))).moves ≡ 0
spoken_called u n x j t e reply before behind news more =
    own_called u n x t.next t (before ++ (replies t j e reply ++ behind))
    (all_append IsOwnWord before (replies t j e reply ++ behind) (all_map IsNews IsOwnWord before news_own news) (all_append IsOwnWord (replies t j e reply) behind (replies_own t j e reply) (all_map IsNews IsOwnWord behind news_own more)))
