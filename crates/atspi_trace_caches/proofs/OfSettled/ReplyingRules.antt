-- Whom the bus hands something to has a unique name: it stands in the list of a name, or has a match rule. So before its Hello nothing is handed to a connection.
use Rattle.std.proofs.Common.{◌≡◌, ℕ, zero, suc, Bool, true, false, List, [], ◌∷◌, ◌++◌, map, Option, None, Some, refl, sym, ap, ◌∙◌, subst, is_some}
use Rattle.std.specs.Prelude.{◌==◌, ◌&&◌, ◌||◌, not, filter, flat_map, codes, if◌then◌else◌, Result, Ok, Err}
use Rattle.std.specs.List.{AllByRecursion, fold, list_any}
use Rattle.std.specs.FinMap as finmap
use Rattle.std.proofs.lemmas.Bool.{eqb-true, eq-eqb}
use Rattle.atspi_types.specs.Data.{Data, text_data}
use Rattle.atspi_message.specs.Envelope.{Envelope}
use Rattle.atspi_match.specs.declared.condition.Condition.{Condition}
use Rattle.atspi_match.specs.RuleIndex.{is_pair, rules_of, without_first, without_rules}
use Rattle.atspi_names.specs.Owners.{Owners, list_of, after_gone, after_hello}
use Rattle.atspi_names.specs.Queue.{owner_in}
use Rattle.atspi_match.specs.declared.routing.member.BusMember.{BusMember}
use Rattle.atspi_match.specs.declared.routing.member.BusMember.TheVariants.{Hello, RequestName, ReleaseName, NameHasOwner, GetNameOwner, ListNames, ListQueuedOwners, AddMatch, RemoveMatch, GetId, Ping}
use Rattle.atspi_match.specs.routing.BusState.{OpenCall, BusState, unique_of, calls_without, text_or_empty}
use Rattle.atspi_match.specs.routing.OwnMessages.{numbered, name_acquired, owner_changed}
use Rattle.atspi_match.specs.routing.Members.{member_of}
use Rattle.atspi_match.specs.routing.Answers.{Answer, only, fails, returns, answers, may_be_asked_for, first_text, second_number, requests, releases, adds_rule, removes_rule}
use Rattle.atspi_match.specs.routing.Routing.{receivers, is_for_bus, one_or_none, asks_for, matches}
use Rattle.atspi_match.specs.routing.Steps.{Move, says, delivers, closes, BusStep, handed, speaks, replies, called, undeliverable, is_unowned, calls_after_all, is_hello, greets, farewell, bus_takes, bus_leaves}
use Rattle.atspi_match.specs.routing.Queues as queues
use Rattle.atspi_match.specs.routing.Queues.{Waiting, without_queue}
use Rattle.atspi_trace.specs.World.{Letter, End}
use Rattle.atspi_trace.specs.Ends.{end_at, with_end, put_down}
use Rattle.atspi_trace.specs.Carrying.{Carried, Filled, grew, with_letter, moved, stepped}
use Rattle.atspi_trace_laws.proofs.OfOrder.Parties.{false_true, all_append}
use Rattle.atspi_trace_laws.proofs.OfOrder.Each.{all_map}
use Rattle.atspi_trace_laws.proofs.OfNames.Naming.{called_same, hello_other, gone_other}
use Rattle.atspi_trace_caches.proofs.OfSettled.ReplyingNamed.{HasName, ListsNamed, called_lists_named, takes_lists_named, gone_lists_named}

-- RULES of those who have names
abbrev pub RuleOf : (ℕ → Type 0) → ℕ × List Condition → Type 0
RuleOf P r = P r.0

abbrev pub RulesNamed : BusState → Type 0
RulesNamed s = AllByRecursion (RuleOf (HasName s.owners)) s.rules

without_all : (P : ℕ → Type 0) (rules : List (ℕ × List Condition)) (conn : ℕ) (rule : List Condition) → AllByRecursion (RuleOf P) rules → AllByRecursion (RuleOf P) (without_first rules conn rule)
without_all P [] conn rule a = tt
without_all P (r ∷ rs) conn rule a = by (is_pair conn rule r) (without_all P rs conn rule a.1)
  where
    by : (b : Bool) → AllByRecursion (RuleOf P) (without_first rs conn rule) → AllByRecursion (RuleOf P) (if b then rs else r ∷ without_first rs conn rule)
    by true h = a.1
    by false h = (a.0, h)

if_rules : (P : ℕ → Type 0) (b : Bool) (x y : Answer) → AllByRecursion (RuleOf P) x.rules → AllByRecursion (RuleOf P) y.rules → AllByRecursion (RuleOf P) (if b then x else y).rules
if_rules P true x y a c = a
if_rules P false x y a c = c

adds_all : (P : ℕ → Type 0) (s : BusState) (conn : ℕ) (o : Option (List Condition)) → P conn → AllByRecursion (RuleOf P) s.rules → AllByRecursion (RuleOf P) (adds_rule s conn o).rules
adds_all P s conn None p a = a
adds_all P s conn (Some rule) p a =
    if_rules P (rules_of conn s.rules == 512) (only s (fails (codes "LimitsExceeded"))) (record (only s (returns [])) { rules = s.rules ++ (conn, rule) ∷ [] }) a (all_append (RuleOf P) s.rules ((conn, rule) ∷ []) a (p, tt))

removes_all : (P : ℕ → Type 0) (s : BusState) (conn : ℕ) (o : Option (List Condition)) → AllByRecursion (RuleOf P) s.rules → AllByRecursion (RuleOf P) (removes_rule s conn o).rules
removes_all P s conn None a = a
removes_all P s conn (Some rule) a =
    if_rules P (list_any (is_pair conn rule) s.rules) (record (only s (returns [])) { rules = without_first s.rules conn rule }) (only s (fails (codes "MatchRuleNotFound"))) (without_all P s.rules conn rule a) a

answers_all : (P : ℕ → Type 0) (member : BusMember) (s : BusState) (conn : ℕ) (args : List Data) (rule : Option (List Condition)) → P conn → AllByRecursion (RuleOf P) s.rules → AllByRecursion (RuleOf P) (answers member s conn args rule).rules
answers_all P Hello s conn args rule p a = a
answers_all P RequestName s conn args rule p a = if_rules P (may_be_asked_for (first_text args)) (requests s conn (first_text args) (second_number args)) (only s (fails (codes "InvalidArgs"))) a a
answers_all P ReleaseName s conn args rule p a = if_rules P (may_be_asked_for (first_text args)) (releases s conn (first_text args)) (only s (fails (codes "InvalidArgs"))) a a
answers_all P NameHasOwner s conn args rule p a = a
answers_all P GetNameOwner s conn args rule p a = a
answers_all P ListNames s conn args rule p a = a
answers_all P ListQueuedOwners s conn args rule p a = a
answers_all P AddMatch s conn args rule p a = adds_all P s conn rule p a
answers_all P RemoveMatch s conn args rule p a = removes_all P s conn rule a
answers_all P GetId s conn args rule p a = a
answers_all P Ping s conn args rule p a = a

called_all : (P : ℕ → Type 0) (s : BusState) (conn : ℕ) (e : Envelope) (rule : Option (List Condition)) → P conn → AllByRecursion (RuleOf P) s.rules → AllByRecursion (RuleOf P) (called s conn e rule).state.rules
called_all P s conn e rule p a = by (member_of e) refl
  where
    by : (r : Result BusMember (List ℕ)) → member_of e ≡ r → AllByRecursion (RuleOf P) (called s conn e rule).state.rules
    by (Ok member) g = rw g (answers_all P member s conn e.body rule p a)
    by (Err name) g = rw g a

named_all : (P : ℕ → Type 0) (a b c : Bool) (s : BusState) (conn : ℕ) (e : Envelope) (rule : Option (List Condition)) (calls : List OpenCall) → P conn → AllByRecursion (RuleOf P) s.rules
    → AllByRecursion (RuleOf P) (if a then (if b then called s conn e rule else speaks s []) else (if c then undeliverable s conn e else record { state = record s { calls = calls }; moves = handed s e })).state.rules
named_all P true true c s conn e rule calls p l = called_all P s conn e rule p l
named_all P true false c s conn e rule calls p l = l
named_all P false b true s conn e rule calls p l = l
named_all P false b false s conn e rule calls p l = l

-- WHO IS HANDED SOMETHING
pub record NamedState (s : BusState) : Type 0 where
  pub lists : ListsNamed s.owners
  pub rules : RulesNamed s

abbrev pub MoveTo : (ℕ → Type 0) → Move → Type 0
MoveTo P (delivers c m) = P c
MoveTo P move = Unit {0}

asker_named : (P : ℕ → Type 0) (e : Envelope) (o : Owners) (c : ℕ) (rules : List (ℕ × List Condition)) → AllByRecursion (RuleOf P) rules → list_any (λ (p : ℕ × List Condition). p.0 == c && matches e o p.1) rules ≡ true → P c
asker_named P e o c [] a h = absurd (false_true h)
asker_named P e o c (r ∷ rs) a h = by (r.0 == c) refl (matches e o r.1) (λ g. asker_named P e o c rs a.1 g) h
  where
    by : (b : Bool) → (r.0 == c) ≡ b → (t : Bool) → (list_any (λ (p : ℕ × List Condition). p.0 == c && matches e o p.1) rs ≡ true → P c) → ((b && t) || list_any (λ (p : ℕ × List Condition). p.0 == c && matches e o p.1) rs) ≡ true → P c
    by true g true f q = subst P (eqb-true r.0 c g) a.0
    by true g false f q = f q
    by false g t f q = f q

filter_named : (P : ℕ → Type 0) (p : ℕ → Bool) (cs : List ℕ) → ((c : ℕ) → p c ≡ true → P c) → AllByRecursion P (filter p cs)
filter_named P p [] f = tt
filter_named P p (c ∷ cs) f = by (p c) refl (filter_named P p cs f)
  where
    by : (b : Bool) → p c ≡ b → AllByRecursion P (filter p cs) → AllByRecursion P (if b then c ∷ filter p cs else filter p cs)
    by true h a = (f c h, a)
    by false h a = a

receivers_named : (s : BusState) (e : Envelope) → NamedState s → AllByRecursion (HasName s.owners) (receivers s e)
receivers_named s e n = by e.destination
  where
    first : (l : List (ℕ × ℕ)) → AllByRecursion (λ (p : ℕ × ℕ). HasName s.owners p.0) l → AllByRecursion (HasName s.owners) (one_or_none (owner_in l))
    first [] a = tt
    first (p ∷ ps) a = (a.0, tt)

    to_all : (b : Bool) (cs : List ℕ) → AllByRecursion (HasName s.owners) cs → AllByRecursion (HasName s.owners) (if b then cs else [])
    to_all true cs a = a
    to_all false cs a = tt

    by : (o : Option (List ℕ)) → AllByRecursion (HasName s.owners) (receivers s (record e { destination = o }))
    by (Some name) = first (list_of s.owners.lists name) (n.lists name)
    by None =
        to_all (e.kind == 4) (filter (asks_for s (record e { destination = None })) s.joined)
        (filter_named (HasName s.owners) (asks_for s (record e { destination = None })) s.joined (λ c h. asker_named (HasName s.owners) (record e { destination = None }) s.owners c s.rules n.rules h))

handed_named : (P : ℕ → Type 0) (m : Envelope) (cs : List ℕ) → AllByRecursion P cs → AllByRecursion (MoveTo P) (map (λ c. delivers c m) cs)
handed_named P m [] a = tt
handed_named P m (c ∷ cs) a = (a.0, handed_named P m cs a.1)

pub said_named : (t : BusState) (es : List Envelope) → NamedState t → AllByRecursion (MoveTo (HasName t.owners)) (flat_map (λ e. says e ∷ handed t e) es)
said_named t [] n = tt
said_named t (e ∷ es) n =
    (tt, all_append (MoveTo (HasName t.owners)) (handed t e) (flat_map (λ x. says x ∷ handed t x) es) (handed_named (HasName t.owners) e (receivers t e) (receivers_named t e n)) (said_named t es n))

-- a step whose moves all go to such
pub record NamedStep (step : BusStep) : Type 0 where
  pub rules : RulesNamed step.state
  pub moves : AllByRecursion (MoveTo (HasName step.state.owners)) step.moves

spoken_named : (t : BusState) (es : List Envelope) → NamedState t → NamedStep (speaks t es)
spoken_named t es n = record { rules = n.rules; moves = said_named t (numbered t.next es) n }

more_rules : (P Q : ℕ → Type 0) (rules : List (ℕ × List Condition)) → ((c : ℕ) → P c → Q c) → AllByRecursion (RuleOf P) rules → AllByRecursion (RuleOf Q) rules
more_rules P Q rules f a = all_map (RuleOf P) (RuleOf Q) rules (λ r p. f r.0 p) a

called_step : (s : BusState) (conn : ℕ) (e : Envelope) (rule : Option (List Condition)) → NamedState (called s conn e rule).state → NamedStep (called s conn e rule)
called_step s conn e rule n = by (member_of e) refl n
  where
    by : (r : Result BusMember (List ℕ)) → member_of e ≡ r → NamedState (called s conn e rule).state → NamedStep (called s conn e rule)
    by (Ok member) g =
        let a : Answer = answers member s conn e.body rule in
        rw g (λ m. spoken_named (record s { owners = a.owners; rules = a.rules }) (a.told ++ replies (record s { owners = a.owners; rules = a.rules }) conn e a.reply) (record { lists = m.lists; rules = m.rules }))
    by (Err name) g =
        let a : Answer = only s (fails name) in
        rw g (λ m. spoken_named (record s { owners = a.owners; rules = a.rules }) (a.told ++ replies (record s { owners = a.owners; rules = a.rules }) conn e a.reply) (record { lists = m.lists; rules = m.rules }))

named_moves : (a b c : Bool) (s : BusState) (conn : ℕ) (e : Envelope) (rule : Option (List Condition)) (calls : List OpenCall) → NamedState s → NamedState (called s conn e rule).state
    → NamedStep (if a then (if b then called s conn e rule else speaks s []) else (if c then undeliverable s conn e else record { state = record s { calls = calls }; moves = handed s e }))
named_moves true true c s conn e rule calls n m = called_step s conn e rule m
named_moves true false c s conn e rule calls n m = record { rules = n.rules; moves = tt }
named_moves false b true s conn e rule calls n m = spoken_named s (replies s conn e (fails (codes "ServiceUnknown"))) n
named_moves false b false s conn e rule calls n m = record { rules = n.rules; moves = handed_named (HasName s.owners) e (receivers s e) (receivers_named s e n) }

pub greets_step : (s : BusState) (conn : ℕ) (e : Envelope) → unique_of s.owners conn ≡ None → ListsNamed (greets s conn e).state.owners → NamedState s → NamedStep (greets s conn e)
greets_step s conn e none lists n =
    spoken_named after (replies after conn e (returns (text_data name ∷ [])) ++ (name_acquired after.owners name (Some conn) ++ owner_changed name [] name ∷ [])) (record { lists = lists; rules = more_rules (HasName s.owners) (HasName after.owners) s.rules still n.rules })
  where
    after : BusState
    after = record s { owners = after_hello s.owners conn }

    name : List ℕ
    name = text_or_empty (unique_of (after_hello s.owners conn) conn)

    still : (c : ℕ) → HasName s.owners c → HasName (after_hello s.owners conn) c
    still c h = ap is_some (hello_other s conn c e (λ same. false_true (sym (ap is_some (ap (unique_of s.owners) same ∙ none)) ∙ h))) ∙ h

pub takes_step : (s : BusState) (conn : ℕ) (e : Envelope) (rule : Option (List Condition)) → NamedState s → NamedStep (bus_takes s conn e rule)
takes_step s conn e rule n = by (unique_of s.owners conn) refl (takes_lists_named s conn e rule n.lists)
  where
    hello_by : (b : Bool) → unique_of s.owners conn ≡ None → ListsNamed (if b then greets s conn e else record { state = s; moves = closes conn ∷ [] }).state.owners → NamedStep (if b then greets s conn e else record { state = s; moves = closes conn ∷ [] })
    hello_by true none lists = greets_step s conn e none lists n
    hello_by false none lists = record { rules = n.rules; moves = (tt, tt) }

    by : (o : Option (List ℕ)) → unique_of s.owners conn ≡ o → ListsNamed (bus_takes s conn e rule).state.owners → NamedStep (bus_takes s conn e rule)
    by (Some own) h lists =
        let m : Envelope = record e { sender = Some own } in
        let called_state : NamedState (called s conn m rule).state = record {
          lists = called_lists_named s conn m rule (ap is_some h) n.lists;
          rules = more_rules (HasName s.owners) (HasName (called s conn m rule).state.owners) (called s conn m rule).state.rules (λ c g. ap (λ u. is_some (finmap.get u c)) (called_same s conn m rule).0 ∙ g) (called_all (HasName s.owners) s conn m rule (ap is_some h) n.rules);
        } in
        rw h (named_moves (is_for_bus m) (e.kind == 1) (is_unowned e.destination (receivers s m)) s conn m rule (calls_after_all s.calls conn m (receivers s m)) n called_state)
    by None h lists = hello_named h lists
      where
        hello_named : unique_of s.owners conn ≡ None → ListsNamed (bus_takes s conn e rule).state.owners → NamedStep (bus_takes s conn e rule)
        hello_named g = rw g (λ l. hello_by (is_hello e) g l)

-- one leaves
gone_rules : (P Q : ℕ → Type 0) (conn : ℕ) (rules : List (ℕ × List Condition)) → ((c : ℕ) → P c → (c ≡ conn → ⊥) → Q c) → AllByRecursion (RuleOf P) rules → AllByRecursion (RuleOf Q) (without_rules conn rules)
gone_rules P Q conn [] f a = tt
gone_rules P Q conn (r ∷ rs) f a = by (r.0 == conn) refl (gone_rules P Q conn rs f a.1)
  where
    by : (b : Bool) → (r.0 == conn) ≡ b → AllByRecursion (RuleOf Q) (without_rules conn rs) → AllByRecursion (RuleOf Q) (if not b then r ∷ without_rules conn rs else without_rules conn rs)
    by true g h = h
    by false g h = (f r.0 a.0 (λ same. false_true (sym g ∙ eq-eqb r.0 conn same)), h)

pub leaves_step : (s : BusState) (conn : ℕ) → NamedState s → NamedStep (bus_leaves s conn)
leaves_step s conn n =
    spoken_named (record s {
      joined = filter (λ c. not (c == conn)) s.joined;
      owners = after_gone s.owners conn;
      rules = without_rules conn s.rules;
      calls = calls_without conn s.calls;
    }) (farewell s (after_gone s.owners conn) conn (unique_of s.owners conn)) (record {
      lists = gone_lists_named s.owners conn n.lists;
      rules = gone_rules (HasName s.owners) (HasName (after_gone s.owners conn)) conn s.rules (λ c h differ. ap is_some (gone_other s.owners conn c (λ same. differ (sym same))) ∙ h) n.rules;
    })

-- WHO HAS NO NAME gets nothing
pub with_end_other : (f : End → End) (conn k : ℕ) (ends : List End) → (k ≡ conn → ⊥) → end_at (with_end conn f ends) k ≡ end_at ends k
with_end_other f zero zero [] differ = refl
with_end_other f zero (suc k) [] differ = refl
with_end_other f (suc conn) zero [] differ = refl
with_end_other f (suc conn) (suc k) [] differ = refl
with_end_other f zero zero (x ∷ xs) differ = absurd (differ refl)
with_end_other f zero (suc k) (x ∷ xs) differ = refl
with_end_other f (suc conn) zero (x ∷ xs) differ = refl
with_end_other f (suc conn) (suc k) (x ∷ xs) differ = with_end_other f conn k xs (λ same. differ (ap suc same))

letter_same : (letter : Envelope → Letter) (P : ℕ → Type 0) (k : ℕ) (b a : Waiting) (move : Move) (ends : List End) → (P k → ⊥) → MoveTo P move → end_at (with_letter letter b a move ends) k ≡ end_at ends k
letter_same letter P k b a (delivers c m) ends none p = by (grew c b a)
  where
    by : (t : Bool) → end_at (if t then with_end c (put_down (letter m)) ends else ends) k ≡ end_at ends k
    by true = with_end_other (put_down (letter m)) c k ends (λ same. none (subst P (sym same) p))
    by false = refl
letter_same letter P k b a (says m) ends none p = refl
letter_same letter P k b a (closes c) ends none p = refl

folded_same : (letter : Envelope → Letter) (P : ℕ → Type 0) (k quota : ℕ) (f : Filled) (moves : List Move) → (P k → ⊥) → AllByRecursion (MoveTo P) moves → end_at (fold (moved letter quota) f moves).ends k ≡ end_at f.ends k
folded_same letter P k quota f [] none a = refl
folded_same letter P k quota f (move ∷ moves) none a =
    folded_same letter P k quota (moved letter quota f move) moves none a.1 ∙ letter_same letter P k f.waiting (queues.moved quota f.waiting move) move f.ends none a.0

pub stepped_same : (letter : Envelope → Letter) (k : ℕ) (c : Carried) (step : BusStep) → NamedStep step → unique_of step.state.owners k ≡ None → end_at (stepped letter c step).ends k ≡ end_at c.ends k
stepped_same letter k c step n none =
    folded_same letter (HasName step.state.owners) k c.bus.quota (record { waiting = c.bus.waiting; ends = c.ends }) step.moves (λ h. false_true (sym (ap is_some none) ∙ h)) n.moves
