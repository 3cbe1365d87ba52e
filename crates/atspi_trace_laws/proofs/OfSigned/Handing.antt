-- Whom the bus hands what: its own messages, and that of an end to whoever has the name that it is sent to.
use Rattle.std.proofs.Common.{◌≡◌, ◌⊎◌, inl, inr, ℕ, zero, suc, ◌+◌, Bool, true, false, List, [], ◌∷◌, ◌++◌, map, Option, None, Some, refl, sym, ap, subst, arith}
use Rattle.std.specs.Prelude.{◌==◌, not, filter, flat_map, bytes_eq, codes, if◌then◌else◌, Result, Ok, Err}
use Rattle.std.specs.List.{AllByRecursion, fold, list_any}
use Rattle.std.proofs.lemmas.Slice.Eq.{bytes_eq-Decides}
use Rattle.atspi_types.specs.Data.{Data, text_data}
use Rattle.atspi_message.specs.Envelope.{Envelope}
use Rattle.atspi_names.specs.Owners.{Owners, own_name, unique_name, list_of, after_hello, after_gone, owned_by}
use Rattle.atspi_names.specs.Queue.{request_change, release_change, owner_in}
use Rattle.atspi_match.specs.declared.condition.Condition.{Condition}
use Rattle.atspi_match.specs.RuleIndex.{is_pair, rules_of, without_first, without_rules}
use Rattle.atspi_match.specs.declared.routing.closing.Why.{Why}
use Rattle.atspi_match.specs.declared.routing.member.BusMember.{BusMember}
use Rattle.atspi_match.specs.declared.routing.member.BusMember.TheVariants.{Hello, RequestName, ReleaseName, NameHasOwner, GetNameOwner, ListNames, ListQueuedOwners, AddMatch, RemoveMatch, GetId, Ping}
use Rattle.atspi_match.specs.routing.BusState.{OpenCall, BusState, unique_of, text_or_empty, name_or_empty, calls_without, waiting_for}
use Rattle.atspi_match.specs.routing.Members.{member_of}
use Rattle.atspi_protocol.specs.ends.Places.{registry}
use Rattle.atspi_protocol.specs.members.Asked.{is_text}
use Rattle.atspi_match.specs.routing.OwnMessages.{return_to, error_to, name_lost, name_acquired, owner_changed, same_owner, told_of_change, numbered}
use Rattle.atspi_match.specs.routing.Answers.{Reply, returns, fails, Answer, only, answers, may_be_asked_for, first_text, second_number, requests, releases, adds_rule, removes_rule}
use Rattle.atspi_match.specs.routing.Routing.{receivers, owners_of, is_for_bus, expects_reply}
use Rattle.atspi_match.specs.routing.Steps.{Move, says, delivers, closes, BusStep, handed, speaks, replies, answered, called, undeliverable, is_unowned, greets, bus_takes, no_replies, name_passes_on, names_pass_on, farewell, bus_leaves}
use Rattle.atspi_match.specs.routing.Queues as queues
use Rattle.atspi_match.specs.routing.Queues.{Waiting, Bus, without_queue}
use Rattle.atspi_trace.specs.World.{Letter, End}
use Rattle.atspi_trace.specs.Ends.{end_at, with_end, put_down, leaves}
use Rattle.atspi_trace.specs.Carrying.{Carried, Filled, own_letter, grew, with_letter, moved, stepped, left, one_closed, settled}
use Rattle.atspi_trace_laws.proofs.OfOrder.Parties.{all_append}
use Rattle.atspi_trace_laws.proofs.OfOrder.Frame.{with_cases}
use Rattle.atspi_trace_laws.proofs.OfSigned.Unique.{OwnLists, IsIn, owner_has}
use Rattle.atspi_trace_laws.proofs.OfSigned.Mail.{IsOwn}

-- THE BUS'S OWN MESSAGES: a return has this serial, none is of the registry's interface, and none is a call
abbrev pub Fine : ℕ → Envelope → Type 0
Fine n m = IsOwn m × (m.kind ≡ 2 → m.reply ≡ Some n) × (is_text m.interface registry ≡ false) × (m.kind ≡ 1 → ⊥)

own_itself : bytes_eq own_name own_name ≡ true
own_itself = (bytes_eq-Decides own_name own_name).1 refl

four_two : ◌≡◌ {A = ℕ} 4 2 → ⊥
four_two h = omega (arith, h)

three_two : ◌≡◌ {A = ℕ} 3 2 → ⊥
three_two h = omega (arith, h)

four_one : ◌≡◌ {A = ℕ} 4 1 → ⊥
four_one h = omega (arith, h)

three_one : ◌≡◌ {A = ℕ} 3 1 → ⊥
three_one h = omega (arith, h)

two_one : ◌≡◌ {A = ℕ} 2 1 → ⊥
two_one h = omega (arith, h)

lost_fine : (n : ℕ) (owners : Owners) (name : List ℕ) (o : Option ℕ) → AllByRecursion (Fine n) (name_lost owners name o)
lost_fine n owners name None = tt
lost_fine n owners name (Some conn) = ((own_itself, λ k. absurd (four_two k), refl, four_one), tt)

pub acquired_fine : (n : ℕ) (owners : Owners) (name : List ℕ) (o : Option ℕ) → AllByRecursion (Fine n) (name_acquired owners name o)
acquired_fine n owners name None = tt
acquired_fine n owners name (Some conn) = ((own_itself, λ k. absurd (four_two k), refl, four_one), tt)

pub changed_fine : (n : ℕ) (name before after : List ℕ) → Fine n (owner_changed name before after)
changed_fine n name before after = (own_itself, λ k. absurd (four_two k), refl, four_one)

if_fine : (n : ℕ) (b : Bool) (e : Envelope) → Fine n e → AllByRecursion (Fine n) (if b then e ∷ [] else [])
if_fine n true e h = (h, tt)
if_fine n false e h = tt

pub replies_fine : (s : BusState) (conn : ℕ) (e : Envelope) (reply : Reply) → AllByRecursion (Fine e.serial) (replies s conn e reply)
replies_fine s conn e (returns values) = if_fine e.serial (expects_reply e) (return_to (unique_of s.owners conn) e.serial values) (own_itself, λ k. refl, refl, two_one)
replies_fine s conn e (fails name) = if_fine e.serial (expects_reply e) (error_to (unique_of s.owners conn) e.serial name) (own_itself, λ k. absurd (three_two k), refl, three_one)

change_fine : (n : ℕ) (owners : Owners) (name : List ℕ) (before after : Option ℕ) → AllByRecursion (Fine n) (told_of_change owners name before after)
change_fine n owners name before after = by (same_owner before after)
  where
    news : List Envelope
    news = name_acquired owners name after ++ owner_changed name (name_or_empty owners before) (name_or_empty owners after) ∷ []

    by : (b : Bool) → AllByRecursion (Fine n) (if b then [] else name_lost owners name before ++ news)
    by true = tt
    by false =
        all_append (Fine n) (name_lost owners name before) news (lost_fine n owners name before)
        (all_append (Fine n) (name_acquired owners name after) (owner_changed name (name_or_empty owners before) (name_or_empty owners after) ∷ []) (acquired_fine n owners name after)
        (changed_fine n name (name_or_empty owners before) (name_or_empty owners after), tt))

if_told : (n : ℕ) (b : Bool) (x y : Answer) → AllByRecursion (Fine n) x.told → AllByRecursion (Fine n) y.told → AllByRecursion (Fine n) (if b then x else y).told
if_told n true x y a c = a
if_told n false x y a c = c

adds_fine : (n : ℕ) (s : BusState) (conn : ℕ) (o : Option (List Condition)) → AllByRecursion (Fine n) (adds_rule s conn o).told
adds_fine n s conn None = tt
adds_fine n s conn (Some rule) = if_told n (rules_of conn s.rules == 512) (only s (fails (codes "LimitsExceeded"))) (record (only s (returns [])) { rules = s.rules ++ (conn, rule) ∷ [] }) tt tt

removes_fine : (n : ℕ) (s : BusState) (conn : ℕ) (o : Option (List Condition)) → AllByRecursion (Fine n) (removes_rule s conn o).told
removes_fine n s conn None = tt
removes_fine n s conn (Some rule) =
    if_told n (list_any (is_pair conn rule) s.rules) (record (only s (returns [])) { rules = without_first s.rules conn rule }) (only s (fails (codes "MatchRuleNotFound"))) tt tt

pub told_fine : (n : ℕ) (member : BusMember) (s : BusState) (conn : ℕ) (args : List Data) (rule : Option (List Condition)) → AllByRecursion (Fine n) (answers member s conn args rule).told
told_fine n Hello s conn args rule = tt
told_fine n RequestName s conn args rule =
    let change = request_change (list_of s.owners.lists (first_text args)) conn (second_number args) in
    if_told n (may_be_asked_for (first_text args)) (requests s conn (first_text args) (second_number args)) (only s (fails (codes "InvalidArgs"))) (change_fine n s.owners (first_text args) change.before change.after) tt
told_fine n ReleaseName s conn args rule =
    let change = release_change (list_of s.owners.lists (first_text args)) conn in
    if_told n (may_be_asked_for (first_text args)) (releases s conn (first_text args)) (only s (fails (codes "InvalidArgs"))) (change_fine n s.owners (first_text args) change.before change.after) tt
told_fine n NameHasOwner s conn args rule = tt
told_fine n GetNameOwner s conn args rule = tt
told_fine n ListNames s conn args rule = tt
told_fine n ListQueuedOwners s conn args rule = tt
told_fine n AddMatch s conn args rule = adds_fine n s conn rule
told_fine n RemoveMatch s conn args rule = removes_fine n s conn rule
told_fine n GetId s conn args rule = tt
told_fine n Ping s conn args rule = tt

-- of one who leaves
gone_fine : (n : ℕ) (s : BusState) (cs : List OpenCall) → AllByRecursion (Fine n) (map (λ (c : OpenCall). error_to (unique_of s.owners c.caller) c.serial (codes "NoReply")) cs)
gone_fine n s [] = tt
gone_fine n s (c ∷ cs) = ((own_itself, λ k. absurd (three_two k), refl, three_one), gone_fine n s cs)

passed_fine : (n : ℕ) (before after : Owners) (conn : ℕ) (names : List (List ℕ)) → AllByRecursion (Fine n) (flat_map (name_passes_on before after conn) names)
passed_fine n before after conn [] = tt
passed_fine n before after conn (name ∷ names) =
    let next = owner_in (list_of after.lists name) in
    all_append (Fine n) (name_passes_on before after conn name) (flat_map (name_passes_on before after conn) names)
    (all_append (Fine n) (name_acquired after name next) (owner_changed name (name_or_empty before (Some conn)) (name_or_empty after next) ∷ []) (acquired_fine n after name next)
    (changed_fine n name (name_or_empty before (Some conn)) (name_or_empty after next), tt))
    (passed_fine n before after conn names)

pub farewell_fine : (n : ℕ) (s : BusState) (after : Owners) (conn : ℕ) (o : Option (List ℕ)) → AllByRecursion (Fine n) (farewell s after conn o)
farewell_fine n s after conn None = tt
farewell_fine n s after conn (Some unique) =
    all_append (Fine n) (no_replies s conn) (names_pass_on s.owners after conn ++ owner_changed unique unique [] ∷ []) (gone_fine n s (waiting_for conn s.calls))
    (all_append (Fine n) (names_pass_on s.owners after conn) (owner_changed unique unique [] ∷ []) (passed_fine n s.owners after conn (owned_by s.owners.lists conn)) (changed_fine n unique unique [], tt))

-- WHAT IS HANDED TO WHOM
module _ (H : ℕ → Envelope → Type 0) where
  abbrev pub Gives : Move → Type 0
  Gives (delivers conn m) = H conn m
  Gives (says m) = Unit {0}
  Gives (closes conn) = Unit {0}

  pub handed_gives : (m : Envelope) (conns : List ℕ) → ((c : ℕ) → IsIn c conns → H c m) → AllByRecursion Gives (map (λ c. delivers c m) conns)
  handed_gives m [] f = tt
  handed_gives m (c ∷ cs) f = (f c (inl refl), handed_gives m cs (λ d i. f d (inr i)))

  -- its own messages, whoever gets them
  said_gives : (n : ℕ) (t : BusState) (at : ℕ) (es : List Envelope) → ((c : ℕ) (m : Envelope) → Fine n m → H c m) → AllByRecursion (Fine n) es → AllByRecursion Gives (flat_map (λ e. says e ∷ handed t e) (numbered at es))
  said_gives n t at [] f a = tt
  said_gives n t at (e ∷ es) f a =
      let m : Envelope = record e { serial = at } in
      (tt, all_append Gives (handed t m) (flat_map (λ x. says x ∷ handed t x) (numbered (at + 1) es)) (handed_gives m (receivers t m) (λ c i. f c m a.0)) (said_gives n t (at + 1) es f a.1))

  pub speaks_gives : (n : ℕ) (t : BusState) (es : List Envelope) → ((c : ℕ) (m : Envelope) → Fine n m → H c m) → AllByRecursion (Fine n) es → AllByRecursion Gives (speaks t es).moves
  speaks_gives n t es f a = said_gives n t t.next es f a

  pub leaves_gives : (n : ℕ) (s : BusState) (conn : ℕ) → ((c : ℕ) (m : Envelope) → Fine n m → H c m) → AllByRecursion Gives (bus_leaves s conn).moves
  leaves_gives n s conn f =
      let after : BusState = record s {
        joined = filter (λ c. not (c == conn)) s.joined;
        owners = after_gone s.owners conn;
        rules = without_rules conn s.rules;
        calls = calls_without conn s.calls;
      } in
      speaks_gives n after (farewell s (after_gone s.owners conn) conn (unique_of s.owners conn)) f (farewell_fine n s (after_gone s.owners conn) conn (unique_of s.owners conn))

  answered_gives : (s : BusState) (conn : ℕ) (e : Envelope) (a : Answer) → ((c : ℕ) (m : Envelope) → Fine e.serial m → H c m) → AllByRecursion (Fine e.serial) a.told → AllByRecursion Gives (answered s conn e a).moves
  answered_gives s conn e a f t =
      let after : BusState = record s { owners = a.owners; rules = a.rules } in
      speaks_gives e.serial after (a.told ++ replies after conn e a.reply) f (all_append (Fine e.serial) a.told (replies after conn e a.reply) t (replies_fine after conn e a.reply))

  called_gives : (s : BusState) (conn : ℕ) (e : Envelope) (rule : Option (List Condition)) → ((c : ℕ) (m : Envelope) → Fine e.serial m → H c m) → AllByRecursion Gives (called s conn e rule).moves
  called_gives s conn e rule f = by (member_of e) refl
    where
      by : (r : Result BusMember (List ℕ)) → member_of e ≡ r → AllByRecursion Gives (called s conn e rule).moves
      by (Ok member) h = rw h (answered_gives s conn e (answers member s conn e.body rule) f (told_fine e.serial member s conn e.body rule))
      by (Err name) h = rw h (answered_gives s conn e (only s (fails name)) f tt)

  named_gives : (a b c : Bool) (s : BusState) (conn : ℕ) (e : Envelope) (rule : Option (List Condition)) (t : BusStep) → t.moves ≡ handed s e → ((c : ℕ) (m : Envelope) → Fine e.serial m → H c m)
      → (a ≡ false → (c : ℕ) → IsIn c (receivers s e) → H c e)
      → AllByRecursion Gives (if a then (if b then called s conn e rule else speaks s []) else (if c then undeliverable s conn e else t)).moves
  named_gives true true c s conn e rule t is f g = called_gives s conn e rule f
  named_gives true false c s conn e rule t is f g = tt
  named_gives false b true s conn e rule t is f g = speaks_gives e.serial s (replies s conn e (fails (codes "ServiceUnknown"))) f (replies_fine s conn e (fails (codes "ServiceUnknown")))
  named_gives false b false s conn e rule t is f g = subst (AllByRecursion Gives) (sym is) (handed_gives e (receivers s e) (g refl))

  -- a message of one that has its name
  pub takes_gives : (s : BusState) (conn : ℕ) (e : Envelope) (rule : Option (List Condition)) (own : List ℕ) → unique_of s.owners conn ≡ Some own → ((c : ℕ) (m : Envelope) → Fine e.serial m → H c m)
      → (is_for_bus (record e { sender = Some own }) ≡ false → (c : ℕ) → IsIn c (receivers s (record e { sender = Some own })) → H c (record e { sender = Some own })) → AllByRecursion Gives (bus_takes s conn e rule).moves
  takes_gives s conn e rule own h f g =
      let m : Envelope = record e { sender = Some own } in
      rw h (named_gives (is_for_bus m) (e.kind == 1) (is_unowned e.destination (receivers s m)) s conn m rule _ refl f g)

  -- a Hello: the return goes to whoever has the new name
  pub greets_gives : (s : BusState) (conn : ℕ) (e : Envelope) → OwnLists (greets s conn e).state.owners
      → ((c : ℕ) (m : Envelope) → Fine 0 m → H c m)
      → ((c : ℕ) (m : Envelope) → unique_of (greets s conn e).state.owners c ≡ Some (unique_name s.owners.given) → Fine e.serial m → m.body ≡ text_data (unique_name s.owners.given) ∷ [] → H c m)
      → unique_of (greets s conn e).state.owners conn ≡ Some (unique_name s.owners.given) → AllByRecursion Gives (greets s conn e).moves
  greets_gives s conn e lists f g here = first (expects_reply e)
    where
      after : BusState
      after = record s { owners = after_hello s.owners conn }

      name : List ℕ
      name = text_or_empty (unique_of after.owners conn)

      name_is : name ≡ unique_name s.owners.given
      name_is = ap text_or_empty here

      news : List Envelope
      news = name_acquired after.owners name (Some conn) ++ owner_changed name [] name ∷ []

      reply : Envelope
      reply = return_to (unique_of after.owners conn) e.serial (text_data name ∷ [])

      news_fine : AllByRecursion (Fine 0) news
      news_fine = all_append (Fine 0) (name_acquired after.owners name (Some conn)) (owner_changed name [] name ∷ []) (acquired_fine 0 after.owners name (Some conn)) (changed_fine 0 name [] name, tt)

      to_owner : (at c : ℕ) → IsIn c (receivers after (record reply { serial = at })) → H c (record reply { serial = at })
      to_owner at c i =
          g c (record reply { serial = at }) (owner_has after (unique_name s.owners.given) c lists refl (owned (unique_of after.owners conn) here i)) (own_itself, λ k. refl, refl, two_one) (ap (λ n. text_data n ∷ []) name_is)
        where
          owned : (o : Option (List ℕ)) → o ≡ Some (unique_name s.owners.given) → IsIn c (receivers after (record (record reply { destination = o }) { serial = at })) → IsIn c (owners_of after (unique_name s.owners.given))
          owned o h = subst (λ z. IsIn c (receivers after (record (record reply { destination = z }) { serial = at })) → IsIn c (owners_of after (unique_name s.owners.given))) (sym h) (λ x. x)

      first : (b : Bool) → AllByRecursion Gives (speaks after ((if b then reply ∷ [] else []) ++ news)).moves
      first true =
          let m : Envelope = record reply { serial = after.next } in
          (tt, all_append Gives (handed after m) (flat_map (λ x. says x ∷ handed after x) (numbered (after.next + 1) news)) (handed_gives m (receivers after m) (to_owner after.next)) (said_gives 0 after (after.next + 1) news f news_fine))
      first false = speaks_gives 0 after news f news_fine

-- DOWN LINKS, by connection
module _ (At : ℕ → Letter → Type 0) where
  abbrev pub Downs : List End → Type 0
  Downs ends = (k : ℕ) (e : End) → end_at ends k ≡ Some e → AllByRecursion (At k) e.down

  pub downs_with : (f : End → End) (conn : ℕ) (ends : List End) → ((e : End) → AllByRecursion (At conn) e.down → AllByRecursion (At conn) (f e).down) → Downs ends → Downs (with_end conn f ends)
  downs_with f conn ends g d k x h = by (with_cases f ends conn k x h)
    where
      by : ((e : End) × (end_at ends k ≡ Some e) × (((k ≡ conn) × (x ≡ f e)) ⊎ ((k ≡ conn → ⊥) × (x ≡ e)))) → AllByRecursion (At k) x.down
      by y = one y.2
        where
          one : (((k ≡ conn) × (x ≡ f y.0)) ⊎ ((k ≡ conn → ⊥) × (x ≡ y.0))) → AllByRecursion (At k) x.down
          one (inl c) =
              subst (λ j. AllByRecursion (At j) x.down) (sym c.0)
              (subst (λ (z : End). AllByRecursion (At conn) z.down) (sym c.1) (g y.0 (subst (λ j. AllByRecursion (At j) y.0.down) c.0 (d k y.0 y.1))))
          one (inr c) = subst (λ (z : End). AllByRecursion (At k) z.down) (sym c.1) (d k y.0 y.1)

  put_downs : (letter : Letter) (conn : ℕ) (ends : List End) → At conn letter → Downs ends → Downs (with_end conn (put_down letter) ends)
  put_downs letter conn ends h d = downs_with (put_down letter) conn ends (λ e a. all_append (At conn) e.down (letter ∷ []) a (h, tt)) d

  abbrev pub PutsAt : (Envelope → Letter) → ℕ → Envelope → Type 0
  PutsAt letter c m = At c (letter m)

  one_downs : (letter : Envelope → Letter) (before after : Waiting) (move : Move) (ends : List End) → Gives (PutsAt letter) move → Downs ends → Downs (with_letter letter before after move ends)
  one_downs letter before after (delivers conn m) ends h d = by (grew conn before after)
    where
      by : (t : Bool) → Downs (if t then with_end conn (put_down (letter m)) ends else ends)
      by true = put_downs (letter m) conn ends h d
      by false = d
  one_downs letter before after (says m) ends h d = d
  one_downs letter before after (closes conn) ends h d = d

  all_downs : (letter : Envelope → Letter) (quota : ℕ) (f : Filled) (moves : List Move) → AllByRecursion (Gives (PutsAt letter)) moves → Downs f.ends → Downs (fold (moved letter quota) f moves).ends
  all_downs letter quota f [] h d = d
  all_downs letter quota f (move ∷ moves) h d = all_downs letter quota (moved letter quota f move) moves h.1 (one_downs letter f.waiting (queues.moved quota f.waiting move) move f.ends h.0 d)

  pub stepped_downs : (letter : Envelope → Letter) (c : Carried) (step : BusStep) → AllByRecursion (Gives (PutsAt letter)) step.moves → Downs c.ends → Downs (stepped letter c step).ends
  stepped_downs letter c step h d = all_downs letter c.bus.quota (record { waiting = c.bus.waiting; ends = c.ends }) step.moves h d

  -- one leaves, and those who are to be closed
  module _ (own : (c : ℕ) (m : Envelope) → Fine 0 m → At c (own_letter m)) where
    pub left_downs : (c : Carried) (conn : ℕ) → Downs c.ends → Downs (left c conn).ends
    left_downs c conn d =
        let without : Bus = record c.bus { waiting = without_queue c.bus.waiting conn } in
        stepped_downs own_letter (record { bus = without; ends = with_end conn leaves c.ends }) (bus_leaves c.bus.state conn) (leaves_gives (PutsAt own_letter) 0 c.bus.state conn own)
        (downs_with leaves conn c.ends (λ e a. tt) d)

    one_closed_downs : (c : Carried) (due : List (ℕ × Why)) → Downs c.ends → Downs (one_closed c due).ends
    one_closed_downs c [] d = d
    one_closed_downs c (first ∷ rest) d = left_downs c first.0 d

    pub settled_downs : (rounds : ℕ) (c : Carried) → Downs c.ends → Downs (settled rounds c).ends
    settled_downs zero c d = d
    settled_downs (suc rounds) c d = settled_downs rounds (one_closed c c.bus.waiting.due) (one_closed_downs c c.bus.waiting.due d)
