-- The bus's own messages take the next numbers, whatever it does; and the registry, which has its name, is closed for its quota alone.
use Rattle.std.proofs.Common.{◌≡◌, ◌⊎◌, inl, inr, ℕ, zero, suc, ◌+◌, Bool, true, false, List, [], ◌∷◌, ◌++◌, length, map, None, refl, sym, ap, ◌∙◌, subst, arith, cond, is_some, length-append}
use Rattle.std.specs.Prelude.{◌-◌, ◌==◌, ◌||◌, flat_map, filter, not, nat_lt, if◌then◌else◌}
use Rattle.std.specs.List.{AllByRecursion, list_any, fold}
use Rattle.std.specs.FinMap as finmap
use Rattle.std.specs.FinMap.{get-remove, nat_cmp-IsAntisymmetric}
use Rattle.std.specs.Ordering.{is_eq, nat_cmp, eq_by_cmp}
use Rattle.std.specs.declared.cmp.Ordering.{Ordering}
use Rattle.std.specs.declared.cmp.Ordering.TheVariants.{Less, Equal, Greater}
use Rattle.std.proofs.lemmas.Bool.{eq-eqb}
use Rattle.std.proofs.lemmas.Cmp.{nat_cmp_total}
use Rattle.atspi_script_lines.specs.declared.line.Party.{Party}
use Rattle.atspi_message.specs.Envelope.{Envelope}
use Rattle.atspi_message.specs.Bytes.{written}
use Rattle.atspi_names.specs.Owners.{Owners, after_gone}
use Rattle.atspi_match.specs.declared.routing.closing.Why.{Why}
use Rattle.atspi_match.specs.declared.routing.closing.Why.TheVariants.{NotHello, Quota}
use Rattle.atspi_match.specs.declared.routing.closing.Closing.{Closing}
use Rattle.atspi_match.specs.RuleIndex.{without_rules}
use Rattle.atspi_match.specs.routing.BusState.{BusState, unique_of, calls_without}
use Rattle.atspi_match.specs.routing.OwnMessages.{numbered}
use Rattle.atspi_match.specs.routing.Steps.{Move, says, delivers, closes, BusStep, handed, said, speaks, farewell, bus_takes, bus_leaves}
use Rattle.atspi_match.specs.routing.Queues as queues
use Rattle.atspi_match.specs.routing.Queues.{Waiting, queue_of, is_due, doomed, own_of, without_queue, told_length}
use Rattle.atspi_match.specs.routing.Routing.{receivers}
use Rattle.atspi_trace.specs.Rules.{rule_in}
use Rattle.atspi_trace.specs.World.{Said, Letter}
use Rattle.atspi_trace.specs.Ends.{with_end, taken_up, leaves}
use Rattle.atspi_trace.specs.Carrying.{Carried, own_letter, letter_of, stepped, left, one_closed, settled, with_name, takes, takes_end}
use Rattle.atspi_trace_laws.proofs.OfOrder.Parties.{false_true, all_append}
use Rattle.atspi_trace_laws.proofs.OfLinks.Ups.{From}
use Rattle.atspi_trace_laws.proofs.OfOwn.Doing.{Doing, says_, hands_, closes_, doing_of}

-- NUMBERS
pub from_append : (n : ℕ) (xs ys : List Envelope) → From n xs → From (n + length xs) ys → From n (xs ++ ys)
from_append n [] ys a b = let same : n + 0 ≡ n = omega arith in subst (λ k. From k ys) same b
from_append n (x ∷ xs) ys a b = let same : n + suc (length xs) ≡ (n + 1) + length xs = omega arith in (a.0, from_append (n + 1) xs ys a.1 (subst (λ k. From k ys) same b))

from_numbered : (n : ℕ) (es : List Envelope) → From n (numbered n es)
from_numbered n [] = tt
from_numbered n (e ∷ es) = (refl, from_numbered (n + 1) es)

count_numbered : (n : ℕ) (es : List Envelope) → length (numbered n es) ≡ length es
count_numbered n [] = refl
count_numbered n (e ∷ es) = ap suc (count_numbered (n + 1) es)

own_append : (xs ys : List Move) → own_of (xs ++ ys) ≡ own_of xs ++ own_of ys
own_append [] ys = refl
own_append (says e ∷ xs) ys = ap (λ l. e ∷ l) (own_append xs ys)
own_append (delivers conn e ∷ xs) ys = own_append xs ys
own_append (closes conn ∷ xs) ys = own_append xs ys

own_handed : (e : Envelope) (conns : List ℕ) → own_of (map (λ c. delivers c e) conns) ≡ []
own_handed e [] = refl
own_handed e (c ∷ cs) = own_handed e cs

own_said : (s : BusState) (es : List Envelope) → own_of (flat_map (λ e. says e ∷ handed s e) es) ≡ es
own_said s [] = refl
own_said s (e ∷ es) =
    ap (λ l. e ∷ l)
    (own_append (handed s e) (flat_map (λ m. says m ∷ handed s m) es) ∙ ap (λ l. l ++ own_of (flat_map (λ m. says m ∷ handed s m) es)) (own_handed e (receivers s e)) ∙ own_said s es)

-- a step says the messages with the next numbers
pub record SaysNext (n : ℕ) (step : BusStep) : Type 0 where
  pub from : From n (own_of step.moves)
  pub next : step.state.next ≡ n + length (own_of step.moves)

speaks_next : (s : BusState) (es : List Envelope) → SaysNext s.next (speaks s es)
speaks_next s es =
    let own : own_of (said s es) ≡ numbered s.next es = own_said s (numbered s.next es) in
    record {
      from = subst (From s.next) (sym own) (from_numbered s.next es);
      next = ap (λ k. s.next + k) (sym (ap length own ∙ count_numbered s.next es));
    }

takes_next : (s : BusState) (conn : ℕ) (step : BusStep) → Doing s conn step → SaysNext s.next step
takes_next s conn step (says_ t es next named new is) = subst (SaysNext s.next) (sym is) (subst (λ n. SaysNext n (speaks t es)) next (speaks_next t es))
takes_next s conn step (hands_ calls e sender is) =
    let none : own_of (handed s e) ≡ [] = own_handed e (receivers s e) in
    subst (SaysNext s.next) (sym is) (record { from = subst (From s.next) (sym none) tt; next = same (ap length none) })
  where
    same : length (own_of (handed s e)) ≡ 0 → s.next ≡ s.next + length (own_of (handed s e))
    same h = omega (arith, h)
takes_next s conn step (closes_ none is) = subst (SaysNext s.next) (sym is) (record { from = tt; next = same })
  where
    same : s.next ≡ s.next + 0
    same = omega arith

-- the bus so far
pub record Counted (n : ℕ) (c : Carried) : Type 0 where
  pub from : From n c.bus.own
  pub next : c.bus.state.next ≡ n + length c.bus.own

stepped_counted : (n : ℕ) (letter : Envelope → Letter) (c : Carried) (step : BusStep) → Counted n c → SaysNext c.bus.state.next step → Counted n (stepped letter c step)
stepped_counted n letter c step a b = record {
  from = from_append n c.bus.own (own_of step.moves) a.from (subst (λ k. From k (own_of step.moves)) a.next b.from);
  next = sum b.next a.next (length-append c.bus.own (own_of step.moves));
}
  where
    sum : step.state.next ≡ c.bus.state.next + length (own_of step.moves) → c.bus.state.next ≡ n + length c.bus.own
        → length (c.bus.own ++ own_of step.moves) ≡ length c.bus.own + length (own_of step.moves) → step.state.next ≡ n + length (c.bus.own ++ own_of step.moves)
    sum p q r = omega (arith, p, q, r)

leaves_next : (s : BusState) (conn : ℕ) → SaysNext s.next (bus_leaves s conn)
leaves_next s conn =
    let t : BusState = record s {
      joined = filter (λ c. not (c == conn)) s.joined;
      owners = after_gone s.owners conn;
      rules = without_rules conn s.rules;
      calls = calls_without conn s.calls;
    } in
    let x : SaysNext t.next (speaks t (farewell s (after_gone s.owners conn) conn (unique_of s.owners conn))) = speaks_next t (farewell s (after_gone s.owners conn) conn (unique_of s.owners conn)) in
    record { from = x.from; next = x.next }

left_counted : (n : ℕ) (c : Carried) (conn : ℕ) → Counted n c → Counted n (left c conn)
left_counted n c conn a =
    stepped_counted n own_letter (record { bus = record c.bus { waiting = without_queue c.bus.waiting conn }; ends = with_end conn leaves c.ends }) (bus_leaves c.bus.state conn) (record { from = a.from; next = a.next })
    (leaves_next c.bus.state conn)

one_counted : (n : ℕ) (c : Carried) (due : List (ℕ × Why)) → Counted n c → Counted n (one_closed c due)
one_counted n c [] a = a
one_counted n c (first ∷ rest) a = let x = left_counted n c first.0 a in record { from = x.from; next = x.next }

settled_counted : (n rounds : ℕ) (c : Carried) → Counted n c → Counted n (settled rounds c)
settled_counted n zero c a = a
settled_counted n (suc rounds) c a = settled_counted n rounds (one_closed c c.bus.waiting.due) (one_counted n c c.bus.waiting.due a)

pub takes_counted : (n : ℕ) (c : Carried) (conn : ℕ) (who : Party) (m : Said) → Counted n c → Counted n (takes c conn who m)
takes_counted n c conn who m a =
    let step : BusStep = bus_takes c.bus.state conn m.message (rule_in m.message) in
    let b : Carried = stepped (letter_of who m) (record c { ends = with_end conn taken_up c.ends }) step in
    let x : Counted n b = stepped_counted n (letter_of who m) (record c { ends = with_end conn taken_up c.ends }) step (record { from = a.from; next = a.next }) (takes_next c.bus.state conn step (doing_of c.bus.state conn m.message (rule_in m.message))) in
    settled_counted n (length c.bus.state.joined) (with_name conn b) (record { from = x.from; next = x.next })

pub ends_counted : (n : ℕ) (c : Carried) (conn : ℕ) → Counted n c → Counted n (takes_end c conn)
ends_counted n c conn a = settled_counted n (length c.bus.state.joined) (left c conn) (left_counted n c conn a)

-- WHO IS CLOSED FOR ITS QUOTA
abbrev pub is_quota : Why → Bool
is_quota (Quota queued len) = true
is_quota NotHello = false

abbrev pub DueFine : ℕ × Why → Type 0
DueFine d = d.0 ≡ 0 → is_quota d.1 ≡ true

abbrev pub ClosingFine : Closing → Type 0
ClosingFine c = c.conn ≡ 0 → is_quota c.why ≡ true

abbrev pub is_first : Closing → Bool
is_first c = c.conn == 0

-- the first connection has its name, or it was closed
abbrev pub Named : Carried → Type 0
Named c = (is_some (unique_of c.bus.state.owners 0) ≡ true) ⊎ (list_any is_first c.bus.closings ≡ true)

pub record Regular (c : Carried) : Type 0 where
  pub due : AllByRecursion DueFine c.bus.waiting.due
  pub told : AllByRecursion ClosingFine c.bus.closings
  pub named : Named c

doomed_fine : (w : Waiting) (conn : ℕ) (why : Why) → DueFine (conn, why) → AllByRecursion DueFine w.due → AllByRecursion DueFine (doomed w conn why).due
doomed_fine w conn why f a = by (is_due conn w.due)
  where
    by : (b : Bool) → AllByRecursion DueFine (if b then w else record w { due = w.due ++ (conn, why) ∷ [] }).due
    by true = a
    by false = all_append DueFine w.due ((conn, why) ∷ []) a (f, tt)

queued_fine : (quota : ℕ) (w : Waiting) (conn : ℕ) (bytes : List ℕ) → AllByRecursion DueFine w.due → AllByRecursion DueFine (queues.queued quota w conn bytes).due
queued_fine quota w conn bytes a = by (is_due conn w.due) (nat_lt quota (length (queue_of w.queues conn) + length bytes))
  where
    by : (b c : Bool) → AllByRecursion DueFine (if b then w else if c then doomed w conn (Quota (length (queue_of w.queues conn)) (told_length bytes)) else record w { queues = finmap.insert w.queues conn (queue_of w.queues conn ++ bytes) }).due
    by true c = a
    by false true = doomed_fine w conn (Quota (length (queue_of w.queues conn)) (told_length bytes)) (λ h. refl) a
    by false false = a

-- moves that do not close the first
abbrev MoveFine : Move → Type 0
MoveFine (closes conn) = conn ≡ 0 → ⊥
MoveFine move = Unit {0}

moved_fine : (quota : ℕ) (w : Waiting) (move : Move) → MoveFine move → AllByRecursion DueFine w.due → AllByRecursion DueFine (queues.moved quota w move).due
moved_fine quota w (says e) f a = a
moved_fine quota w (delivers conn e) f a = queued_fine quota w conn (written e) a
moved_fine quota w (closes conn) f a = doomed_fine w conn NotHello (λ h. absurd (f h)) a

all_moved_fine : (quota : ℕ) (w : Waiting) (moves : List Move) → AllByRecursion MoveFine moves → AllByRecursion DueFine w.due → AllByRecursion DueFine (fold (queues.moved quota) w moves).due
all_moved_fine quota w [] f a = a
all_moved_fine quota w (move ∷ moves) f a = all_moved_fine quota (queues.moved quota w move) moves f.1 (moved_fine quota w move f.0 a)

handed_fine : (e : Envelope) (conns : List ℕ) → AllByRecursion MoveFine (map (λ c. delivers c e) conns)
handed_fine e [] = tt
handed_fine e (c ∷ cs) = (tt, handed_fine e cs)

said_fine : (s : BusState) (es : List Envelope) → AllByRecursion MoveFine (flat_map (λ e. says e ∷ handed s e) es)
said_fine s [] = tt
said_fine s (e ∷ es) = (tt, all_append MoveFine (handed s e) (flat_map (λ m. says m ∷ handed s m) es) (handed_fine e (receivers s e)) (said_fine s es))

doing_fine : (s : BusState) (conn : ℕ) (step : BusStep) → is_some (unique_of s.owners 0) ≡ true → Doing s conn step → AllByRecursion MoveFine step.moves × (is_some (unique_of step.state.owners 0) ≡ true)
doing_fine s conn step n (says_ t es next named new is) =
    subst (λ x. AllByRecursion MoveFine x.moves × (is_some (unique_of x.state.owners 0) ≡ true)) (sym is) (said_fine t (numbered t.next es), named 0 n)
doing_fine s conn step n (hands_ calls e sender is) =
    subst (λ x. AllByRecursion MoveFine x.moves × (is_some (unique_of x.state.owners 0) ≡ true)) (sym is) (handed_fine e (receivers s e), n)
doing_fine s conn step n (closes_ none is) =
    subst (λ x. AllByRecursion MoveFine x.moves × (is_some (unique_of x.state.owners 0) ≡ true)) (sym is)
    (((λ h. false_true (sym (ap is_some (ap (unique_of s.owners) (sym h) ∙ none)) ∙ n)), tt), n)

-- the name of the first where another leaves
equal_of_tie : (r : Ordering) → is_eq r ≡ true → r ≡ Equal
equal_of_tie Less e = absurd (false_true e)
equal_of_tie Equal e = refl
equal_of_tie Greater e = absurd (false_true e)

gone_named : (owners : Owners) (conn : ℕ) → (conn ≡ 0 → ⊥) → is_some (unique_of owners 0) ≡ true → is_some (unique_of (after_gone owners conn) 0) ≡ true
gone_named owners conn differ n =
    ap is_some (get-remove nat_cmp_total owners.unique conn 0) ∙ by (eq_by_cmp nat_cmp 0 conn) refl
  where
    by : (b : Bool) → eq_by_cmp nat_cmp 0 conn ≡ b → is_some (cond b None (finmap.get owners.unique 0)) ≡ true
    by true e = absurd (differ (sym (nat_cmp-IsAntisymmetric 0 conn (equal_of_tie _ e))))
    by false e = n

filter_fine : (f : ℕ × Why → Bool) (ds : List (ℕ × Why)) → AllByRecursion DueFine ds → AllByRecursion DueFine (filter f ds)
filter_fine f [] a = tt
filter_fine f (d ∷ ds) a = by (f d) (filter_fine f ds a.1)
  where
    by : (b : Bool) → AllByRecursion DueFine (filter f ds) → AllByRecursion DueFine (if b then d ∷ filter f ds else filter f ds)
    by true h = (a.0, h)
    by false h = h

left_due : (c : Carried) (conn : ℕ) → AllByRecursion DueFine c.bus.waiting.due → AllByRecursion DueFine (left c conn).bus.waiting.due
left_due c conn a =
    let t : BusState = record c.bus.state {
      joined = filter (λ k. not (k == conn)) c.bus.state.joined;
      owners = after_gone c.bus.state.owners conn;
      rules = without_rules conn c.bus.state.rules;
      calls = calls_without conn c.bus.state.calls;
    } in
    all_moved_fine c.bus.quota (without_queue c.bus.waiting conn) (bus_leaves c.bus.state conn).moves
    (said_fine t (numbered t.next (farewell c.bus.state (after_gone c.bus.state.owners conn) conn (unique_of c.bus.state.owners conn))))
    (filter_fine (λ (d : ℕ × Why). not (d.0 == conn)) c.bus.waiting.due a)

any_more : (xs ys : List Closing) → list_any is_first xs ≡ true → list_any is_first (xs ++ ys) ≡ true
any_more [] ys h = absurd (false_true h)
any_more (x ∷ xs) ys h = by (is_first x) (λ g. any_more xs ys g) h
  where
    by : (b : Bool) → (list_any is_first xs ≡ true → list_any is_first (xs ++ ys) ≡ true) → (b || list_any is_first xs) ≡ true → (b || list_any is_first (xs ++ ys)) ≡ true
    by true f g = refl
    by false f g = f g

any_last : (xs : List Closing) (c : Closing) → is_first c ≡ true → list_any is_first (xs ++ c ∷ []) ≡ true
any_last [] c h = ap (λ b. b || false) h
any_last (x ∷ xs) c h = by (is_first x) (any_last xs c h)
  where
    by : (b : Bool) → list_any is_first (xs ++ c ∷ []) ≡ true → (b || list_any is_first (xs ++ c ∷ [])) ≡ true
    by true g = refl
    by false g = g

one_regular : (c : Carried) (due : List (ℕ × Why)) → AllByRecursion DueFine due → Regular c → Regular (one_closed c due)
one_regular c [] f r = r
one_regular c (first ∷ rest) f r = record {
  due = left_due c first.0 r.due;
  told = all_append ClosingFine c.bus.closings (closing ∷ []) r.told (f.0, tt);
  named = by r.named;
}
  where
    closing : Closing
    closing = record { conn = first.0; why = first.1; after = c.bus.state.next - 1 }

    at : (b : Bool) → (first.0 == 0) ≡ b → is_some (unique_of c.bus.state.owners 0) ≡ true → (is_some (unique_of (after_gone c.bus.state.owners first.0) 0) ≡ true) ⊎ (list_any is_first (c.bus.closings ++ closing ∷ []) ≡ true)
    at true e n = inr (any_last c.bus.closings closing e)
    at false e n = inl (gone_named c.bus.state.owners first.0 (λ h. false_true (sym e ∙ eq-eqb first.0 0 h)) n)

    by : Named c → (is_some (unique_of (after_gone c.bus.state.owners first.0) 0) ≡ true) ⊎ (list_any is_first (c.bus.closings ++ closing ∷ []) ≡ true)
    by (inl n) = at (first.0 == 0) refl n
    by (inr g) = inr (any_more c.bus.closings (closing ∷ []) g)

settled_regular : (rounds : ℕ) (c : Carried) → Regular c → Regular (settled rounds c)
settled_regular zero c r = r
settled_regular (suc rounds) c r = settled_regular rounds (one_closed c c.bus.waiting.due) (one_regular c c.bus.waiting.due r.due r)

pub takes_regular : (c : Carried) (conn : ℕ) (who : Party) (m : Said) → AllByRecursion DueFine c.bus.waiting.due → c.bus.closings ≡ [] → is_some (unique_of c.bus.state.owners 0) ≡ true → Regular (takes c conn who m)
takes_regular c conn who m due none n =
    let step : BusStep = bus_takes c.bus.state conn m.message (rule_in m.message) in
    let b : Carried = stepped (letter_of who m) (record c { ends = with_end conn taken_up c.ends }) step in
    let f = doing_fine c.bus.state conn step n (doing_of c.bus.state conn m.message (rule_in m.message)) in
    settled_regular (length c.bus.state.joined) (with_name conn b) (record {
      due = all_moved_fine c.bus.quota c.bus.waiting step.moves f.0 due;
      told = subst (AllByRecursion ClosingFine) (sym none) tt;
      named = inl f.1;
    })

pub ends_regular : (c : Carried) (conn : ℕ) → (conn ≡ 0 → ⊥) → AllByRecursion DueFine c.bus.waiting.due → c.bus.closings ≡ [] → is_some (unique_of c.bus.state.owners 0) ≡ true → Regular (takes_end c conn)
ends_regular c conn differ due none n =
    settled_regular (length c.bus.state.joined) (left c conn) (record {
      due = left_due c conn due;
      told = subst (AllByRecursion ClosingFine) (sym none) tt;
      named = inl (gone_named c.bus.state.owners conn differ n);
    })
