-- What the bus hands to a connection stands on its down link, or the connection is to be closed; so behind all closings it stands there, where the end is here.
use Rattle.std.proofs.Common.{◌≡◌, ◌⊎◌, inl, inr, ℕ, zero, suc, ◌+◌, ◌<◌, Bool, true, false, List, [], ◌∷◌, ◌++◌, length, map, Some, refl, sym, ap, ◌∙◌, subst, arith, length-append}
use Rattle.std.specs.Prelude.{◌==◌, ◌||◌, not, nat_lt, filter, if◌then◌else◌, cond}
use Rattle.std.specs.List.{fold, list_any}
use Rattle.std.specs.FinMap as finmap
use Rattle.std.specs.FinMap.{FinMap, get-insert}
use Rattle.std.specs.Ordering.{nat_cmp}
use Rattle.std.specs.Cmp.{nat_cmp_total, eq_by_cmp_equiv}
use Rattle.std.proofs.lemmas.Bool.{eqb-true, eq-eqb, lt-ltb}
use Rattle.atspi_script_lines.specs.declared.line.Party.{Party}
use Rattle.atspi_message.specs.Envelope.{Envelope}
use Rattle.atspi_message.specs.Bytes.{Field, header_bytes, spelled_with, rising_fields, written}
use Rattle.atspi_match.specs.declared.routing.closing.Why.{Why}
use Rattle.atspi_match.specs.declared.routing.closing.Why.TheVariants.{NotHello, Quota}
use Rattle.atspi_match.specs.routing.Routing.{receivers}
use Rattle.atspi_match.specs.routing.Steps.{Move, says, delivers, closes, BusStep, handed, bus_takes, bus_leaves}
use Rattle.atspi_match.specs.routing.Queues as queues
use Rattle.atspi_match.specs.routing.Queues.{Waiting, Bus, or_nothing, queue_of, is_due, doomed, without_queue, told_length}
use Rattle.atspi_trace.specs.Rules.{rule_in}
use Rattle.atspi_trace.specs.World.{here, Said, Letter, End}
use Rattle.atspi_trace.specs.Ends.{is_here, end_at, with_end, put_down, taken_up, leaves}
use Rattle.atspi_trace.specs.Carrying.{Carried, Filled, own_letter, letter_of, grew, with_letter, moved, stepped, left, one_closed, settled, named, with_name, takes, takes_end}
use Rattle.atspi_trace_laws.proofs.OfOrder.Parties.{false_true}
use Rattle.atspi_trace_laws.proofs.OfOrder.Frame.{Over, IsOrder, over_same, over_with, takes_over, ends_over, with_cases}
use Rattle.atspi_trace_laws.proofs.OfSigned.Unique.{IsIn}
use Rattle.atspi_trace_laws.proofs.OfMissed.Settling.{DueJoined, takes_settle}

-- A LETTER ON A LINK
abbrev pub On : Letter → List Letter → Type 0
On l [] = ⊥
On l (x ∷ xs) = (x ≡ l) ⊎ On l xs

pub on_front : (l : Letter) (xs ys : List Letter) → On l xs → On l (xs ++ ys)
on_front l [] ys o = absurd o
on_front l (x ∷ xs) ys (inl h) = inl h
on_front l (x ∷ xs) ys (inr h) = inr (on_front l xs ys h)

pub on_last : (l : Letter) (xs : List Letter) → On l (xs ++ l ∷ [])
on_last l [] = inl refl
on_last l (x ∷ xs) = inr (on_last l xs)

-- an end afterwards: what stands on its down link stands there still, as long as it is here
pub record Goes_on (e d : End) : Type 0 where
  pub whose : d.who ≡ e.who
  pub role : d.role ≡ e.role
  pub on : d.standing ≡ here → e.standing ≡ here
  pub down : d.standing ≡ here → (l : Letter) → On l e.down → On l d.down

pub going : IsOrder Goes_on
going = record {
  same = λ e. record { whose = refl; role = refl; on = λ h. h; down = λ h l o. o };
  both = λ e d c f g. record { whose = g.whose ∙ f.whose; role = g.role ∙ f.role; on = λ h. f.on (g.on h); down = λ h l o. g.down h l (f.down (g.on h) l o) };
}

pub put_goes : (l : Letter) (e : End) → Goes_on e (put_down l e)
put_goes l e = record { whose = refl; role = refl; on = λ h. h; down = λ h k o. on_front k e.down (l ∷ []) o }

pub leaves_goes : (e : End) → Goes_on e (leaves e)
leaves_goes e = record { whose = refl; role = refl; on = λ h. absurd (false_true (ap is_here h)); down = λ h. absurd (false_true (ap is_here h)) }

pub name_goes : (b : Bus) (conn : ℕ) (e : End) → Goes_on e (named b conn e)
name_goes b conn e = record { whose = refl; role = refl; on = λ h. h; down = λ h l o. o }

pub up_goes : (e : End) → Goes_on e (taken_up e)
up_goes e = record { whose = refl; role = refl; on = λ h. h; down = λ h l o. o }

pub took_goes : (c : Carried) (conn : ℕ) (who : Party) (said : Said) → Over Goes_on c.ends (takes c conn who said).ends
took_goes c conn who said = takes_over Goes_on going (λ m e. put_goes (own_letter m) e) leaves_goes name_goes up_goes c conn who said (λ m e. put_goes (letter_of who said m) e)

pub ended_goes : (c : Carried) (conn : ℕ) → Over Goes_on c.ends (takes_end c conn).ends
ended_goes c conn = ends_over Goes_on going (λ m e. put_goes (own_letter m) e) leaves_goes c conn

-- WHO IS DUE STAYS DUE
any_front : {X : Type 0} (p : X → Bool) (xs ys : List X) → list_any p xs ≡ true → list_any p (xs ++ ys) ≡ true
any_front p [] ys h = absurd (false_true h)
any_front p (x ∷ xs) ys h = by (p x) (λ g. any_front p xs ys g) h
  where
    by : (b : Bool) → (list_any p xs ≡ true → list_any p (xs ++ ys) ≡ true) → (b || list_any p xs) ≡ true → (b || list_any p (xs ++ ys)) ≡ true
    by true f g = refl
    by false f g = f g

or_true : (a b : Bool) → b ≡ true → (a || b) ≡ true
or_true true b h = refl
or_true false b h = h

any_last : {X : Type 0} (p : X → Bool) (xs : List X) (x : X) → p x ≡ true → list_any p (xs ++ x ∷ []) ≡ true
any_last p [] x h = ap (λ b. b || false) h
any_last p (y ∷ ys) x h = or_true (p y) (list_any p (ys ++ x ∷ [])) (any_last p ys x h)

abbrev of_conn : ℕ → ℕ × Why → Bool
of_conn conn d = d.0 == conn

doomed_keeps : (w : Waiting) (k conn : ℕ) (why : Why) → is_due k w.due ≡ true → is_due k (doomed w conn why).due ≡ true
doomed_keeps w k conn why h = by (is_due conn w.due)
  where
    by : (b : Bool) → is_due k (if b then w else record w { due = w.due ++ (conn, why) ∷ [] }).due ≡ true
    by true = h
    by false = any_front (of_conn k) w.due ((conn, why) ∷ []) h

doomed_now : (w : Waiting) (k : ℕ) (why : Why) → is_due k (doomed w k why).due ≡ true
doomed_now w k why = by (is_due k w.due) refl
  where
    by : (b : Bool) → is_due k w.due ≡ b → is_due k (if b then w else record w { due = w.due ++ (k, why) ∷ [] }).due ≡ true
    by true h = h
    by false h = any_last (of_conn k) w.due (k, why) (eq-eqb k k refl)

queued_keeps : (quota : ℕ) (w : Waiting) (k conn : ℕ) (bytes : List ℕ) → is_due k w.due ≡ true → is_due k (queues.queued quota w conn bytes).due ≡ true
queued_keeps quota w k conn bytes h = by (is_due conn w.due) (nat_lt quota (length (queue_of w.queues conn) + length bytes))
  where
    by : (b c : Bool)
        → is_due k (if b then w else if c then doomed w conn (Quota (length (queue_of w.queues conn)) (told_length bytes)) else record w { queues = finmap.insert w.queues conn (queue_of w.queues conn ++ bytes) }).due ≡ true
    by true c = h
    by false true = doomed_keeps w k conn (Quota (length (queue_of w.queues conn)) (told_length bytes)) h
    by false false = h

pub moved_keeps : (quota : ℕ) (w : Waiting) (k : ℕ) (move : Move) → is_due k w.due ≡ true → is_due k (queues.moved quota w move).due ≡ true
moved_keeps quota w k (says e) h = h
moved_keeps quota w k (delivers conn e) h = queued_keeps quota w k conn (written e) h
moved_keeps quota w k (closes conn) h = doomed_keeps w k conn NotHello h

pub rest_due : (k conn : ℕ) (due : List (ℕ × Why)) → (k ≡ conn → ⊥) → is_due k due ≡ true → is_due k (filter (λ (d : ℕ × Why). not (d.0 == conn)) due) ≡ true
rest_due k conn [] differ h = h
rest_due k conn (d ∷ ds) differ h = by (d.0 == conn) refl (d.0 == k) refl (λ g. rest_due k conn ds differ g) h
  where
    by : (b : Bool) → (d.0 == conn) ≡ b → (t : Bool) → (d.0 == k) ≡ t → (is_due k ds ≡ true → is_due k (filter (λ (x : ℕ × Why). not (x.0 == conn)) ds) ≡ true) → (t || is_due k ds) ≡ true
        → is_due k (if not b then d ∷ filter (λ (x : ℕ × Why). not (x.0 == conn)) ds else filter (λ (x : ℕ × Why). not (x.0 == conn)) ds) ≡ true
    by true g true e f i = absurd (differ (sym (eqb-true d.0 k e) ∙ eqb-true d.0 conn g))
    by true g false e f i = f i
    by false g true e f i = ap (λ b. b || is_due k (filter (λ (x : ℕ × Why). not (x.0 == conn)) ds)) e
    by false g false e f i = or_true (d.0 == k) (is_due k (filter (λ (x : ℕ × Why). not (x.0 == conn)) ds)) (f i)

-- each message has bytes, so a queue that took one grew
spelled_some : (m : Envelope) (fs : List Field) → 0 < length (spelled_with m fs)
unfolding spelled_with header_bytes
spelled_some m fs = omega arith

written_some : (m : Envelope) → 0 < length (written m)
written_some m = spelled_some m (rising_fields m)

queue_put : (q : FinMap nat_cmp (List ℕ)) (k : ℕ) (bytes : List ℕ) → queue_of (finmap.insert q k bytes) k ≡ bytes
queue_put q k bytes = ap or_nothing (get-insert nat_cmp_total q k bytes k ∙ ap (λ b. cond b (Some bytes) (finmap.get q k)) ((eq_by_cmp_equiv nat_cmp_total).refl k))

took_more : (w : Waiting) (k : ℕ) (m : Envelope) → grew k w (record w { queues = finmap.insert w.queues k (queue_of w.queues k ++ written m) }) ≡ true
took_more w k m =
    let many : length (queue_of (finmap.insert w.queues k (queue_of w.queues k ++ written m)) k) ≡ length (queue_of w.queues k) + length (written m) =
    ap length (queue_put w.queues k (queue_of w.queues k ++ written m)) ∙ length-append (queue_of w.queues k) (written m) in
    let some : 0 < length (written m) = written_some m in
    lt-ltb (length (queue_of w.queues k)) (length (queue_of (finmap.insert w.queues k (queue_of w.queues k ++ written m)) k)) (omega (arith, many, some))

-- WHAT IS HANDED OUT ARRIVES, or who should get it is due
abbrev pub Arrives : ℕ → Letter → List End → Waiting → Type 0
Arrives k l ends w = (e : End) → end_at ends k ≡ Some e → e.standing ≡ here → On l e.down ⊎ (is_due k w.due ≡ true)

arrives_over : (k : ℕ) (l : Letter) (a b : List End) (v w : Waiting) → Over Goes_on a b → (is_due k v.due ≡ true → is_due k w.due ≡ true) → Arrives k l a v → Arrives k l b w
arrives_over k l a b v w o f h e there on =
    let x = o.back k e there in
    by x.0 x.2 (h x.0 x.1 (x.2.on on))
  where
    by : (x : End) → Goes_on x e → On l x.down ⊎ (is_due k v.due ≡ true) → On l e.down ⊎ (is_due k w.due ≡ true)
    by x g (inl i) = inl (g.down on l i)
    by x g (inr i) = inr (f i)

module _ (letter : Envelope → Letter) (quota : ℕ) where
  over_letter : (before after : Waiting) (move : Move) (ends : List End) → Over Goes_on ends (with_letter letter before after move ends)
  over_letter before after (delivers conn m) ends = by (grew conn before after)
    where
      by : (t : Bool) → Over Goes_on ends (if t then with_end conn (put_down (letter m)) ends else ends)
      by true = over_with Goes_on going (put_down (letter m)) (put_goes (letter m)) conn ends
      by false = over_same Goes_on going ends
  over_letter before after (says m) ends = over_same Goes_on going ends
  over_letter before after (closes conn) ends = over_same Goes_on going ends

  one_arrives : (k : ℕ) (l : Letter) (f : Filled) (move : Move) → Arrives k l f.ends f.waiting → Arrives k l (moved letter quota f move).ends (moved letter quota f move).waiting
  one_arrives k l f move h =
      arrives_over k l f.ends (moved letter quota f move).ends f.waiting (moved letter quota f move).waiting (over_letter f.waiting (queues.moved quota f.waiting move) move f.ends) (moved_keeps quota f.waiting k move) h

  pub still_arrives : (k : ℕ) (l : Letter) (f : Filled) (moves : List Move) → Arrives k l f.ends f.waiting → Arrives k l (fold (moved letter quota) f moves).ends (fold (moved letter quota) f moves).waiting
  still_arrives k l f [] h = h
  still_arrives k l f (move ∷ moves) h = still_arrives k l (moved letter quota f move) moves (one_arrives k l f move h)

  pub same_waiting : (f : Filled) (moves : List Move) → (fold (moved letter quota) f moves).waiting ≡ fold (queues.moved quota) f.waiting moves
  same_waiting f [] = refl
  same_waiting f (move ∷ moves) = same_waiting (moved letter quota f move) moves

  put_at : (k : ℕ) (l : Letter) (ends : List End) (e : End) → end_at (with_end k (put_down l) ends) k ≡ Some e → On l e.down
  put_at k l ends e h = by (with_cases (put_down l) ends k k e h)
    where
      by : ((x : End) × (end_at ends k ≡ Some x) × (((k ≡ k) × (e ≡ put_down l x)) ⊎ ((k ≡ k → ⊥) × (e ≡ x)))) → On l e.down
      by g = at g.2
        where
          at : (((k ≡ k) × (e ≡ put_down l g.0)) ⊎ ((k ≡ k → ⊥) × (e ≡ g.0))) → On l e.down
          at (inl c) = subst (λ (y : End). On l y.down) (sym c.1) (on_last l g.0.down)
          at (inr c) = absurd (c.0 refl)

  pub delivered_now : (k : ℕ) (m : Envelope) (f : Filled) → Arrives k (letter m) (moved letter quota f (delivers k m)).ends (moved letter quota f (delivers k m)).waiting
  delivered_now k m f = by (is_due k f.waiting.due) refl (nat_lt quota (length (queue_of f.waiting.queues k) + length (written m)))
    where
      w : Waiting
      w = f.waiting

      full_ : Waiting
      full_ = doomed w k (Quota (length (queue_of w.queues k)) (told_length (written m)))

      more_ : Waiting
      more_ = record w { queues = finmap.insert w.queues k (queue_of w.queues k ++ written m) }

      put : (b : Bool) → b ≡ true → (e : End) → end_at (if b then with_end k (put_down (letter m)) f.ends else f.ends) k ≡ Some e → On (letter m) e.down
      put true h e there = put_at k (letter m) f.ends e there
      put false h e there = absurd (false_true h)

      by : (due : Bool) → is_due k w.due ≡ due → (full : Bool)
          → Arrives k (letter m) (if grew k w (if due then w else if full then full_ else more_) then with_end k (put_down (letter m)) f.ends else f.ends) (if due then w else if full then full_ else more_)
      by true h full e there on = inr h
      by false h true e there on = inr (doomed_now w k (Quota (length (queue_of w.queues k)) (told_length (written m))))
      by false h false e there on = inl (put (grew k w more_) (took_more w k m) e there)

  pub handed_arrives : (k : ℕ) (m : Envelope) (conns : List ℕ) (f : Filled) → IsIn k conns
      → Arrives k (letter m) (fold (moved letter quota) f (map (λ c. delivers c m) conns)).ends (fold (moved letter quota) f (map (λ c. delivers c m) conns)).waiting
  handed_arrives k m [] f i = absurd i
  handed_arrives k m (c ∷ cs) f (inl same) =
      still_arrives k (letter m) (moved letter quota f (delivers c m)) (map (λ d. delivers d m) cs)
      (subst (λ d. Arrives k (letter m) (moved letter quota f (delivers d m)).ends (moved letter quota f (delivers d m)).waiting) same (delivered_now k m f))
  handed_arrives k m (c ∷ cs) f (inr i) = handed_arrives k m cs (moved letter quota f (delivers c m)) i

-- CLOSINGS
abbrev pub Arrived : ℕ → Letter → Carried → Type 0
Arrived k l c = Arrives k l c.ends c.bus.waiting

stepped_arrives : (letter : Envelope → Letter) (k : ℕ) (l : Letter) (c : Carried) (step : BusStep) → Arrived k l c → Arrived k l (stepped letter c step)
stepped_arrives letter k l c step h =
    let f : Filled = record { waiting = c.bus.waiting; ends = c.ends } in
    subst (Arrives k l (stepped letter c step).ends) (same_waiting letter c.bus.quota f step.moves) (still_arrives letter c.bus.quota k l f step.moves h)

left_arrives : (k : ℕ) (l : Letter) (c : Carried) (conn : ℕ) → Arrived k l c → Arrived k l (left c conn)
left_arrives k l c conn h = stepped_arrives own_letter k l without (bus_leaves c.bus.state conn) gone
  where
    without : Carried
    without = record { bus = record c.bus { waiting = without_queue c.bus.waiting conn }; ends = with_end conn leaves c.ends }

    gone : Arrived k l without
    gone e there on = by (with_cases leaves c.ends conn k e there)
      where
        by : ((x : End) × (end_at c.ends k ≡ Some x) × (((k ≡ conn) × (e ≡ leaves x)) ⊎ ((k ≡ conn → ⊥) × (e ≡ x)))) → On l e.down ⊎ (is_due k without.bus.waiting.due ≡ true)
        by g = at g.2
          where
            kept : (k ≡ conn → ⊥) → e ≡ g.0 → On l g.0.down ⊎ (is_due k c.bus.waiting.due ≡ true) → On l e.down ⊎ (is_due k without.bus.waiting.due ≡ true)
            kept differ same (inl o) = inl (subst (λ (y : End). On l y.down) (sym same) o)
            kept differ same (inr d) = inr (rest_due k conn c.bus.waiting.due differ d)

            at : (((k ≡ conn) × (e ≡ leaves g.0)) ⊎ ((k ≡ conn → ⊥) × (e ≡ g.0))) → On l e.down ⊎ (is_due k without.bus.waiting.due ≡ true)
            at (inl a) = absurd (false_true (ap (λ (y : End). is_here y.standing) (sym a.1) ∙ ap is_here on))
            at (inr a) = kept a.0 a.1 (h g.0 g.1 (ap (λ (y : End). y.standing) (sym a.1) ∙ on))

closed_arrives : (k : ℕ) (l : Letter) (c : Carried) (due : List (ℕ × Why)) → Arrived k l c → Arrived k l (one_closed c due)
closed_arrives k l c [] h = h
closed_arrives k l c (first ∷ rest) h = left_arrives k l c first.0 h

pub settled_arrives : (k : ℕ) (l : Letter) (rounds : ℕ) (c : Carried) → Arrived k l c → Arrived k l (settled rounds c)
settled_arrives k l zero c h = h
settled_arrives k l (suc rounds) c h = settled_arrives k l rounds (one_closed c c.bus.waiting.due) (closed_arrives k l c c.bus.waiting.due h)

-- WHERE THE BUS PASSES A MESSAGE ON, each end that it is for and that is here has it
named_arrives : (k : ℕ) (l : Letter) (conn : ℕ) (c : Carried) → Arrived k l c → Arrived k l (with_name conn c)
named_arrives k l conn c h =
    arrives_over k l c.ends (with_name conn c).ends c.bus.waiting c.bus.waiting (over_with Goes_on going (named c.bus conn) (name_goes c.bus conn) conn c.ends) (λ d. d) h

pub passed_on : (c : Carried) (conn : ℕ) (who : Party) (said : Said) (m : Envelope) (k : ℕ) → (bus_takes c.bus.state conn said.message (rule_in said.message)).moves ≡ handed c.bus.state m → IsIn k (receivers c.bus.state m)
    → IsIn conn c.bus.state.joined → DueJoined c → (e : End) → end_at (takes c conn who said).ends k ≡ Some e → e.standing ≡ here → On (letter_of who said m) e.down
passed_on c conn who said m k moves for_it joined j e there on = by (arrived e there on)
  where
    l : Letter
    l = letter_of who said m

    base : Carried
    base = record c { ends = with_end conn taken_up c.ends }

    step : BusStep
    step = bus_takes c.bus.state conn said.message (rule_in said.message)

    f : Filled
    f = record { waiting = c.bus.waiting; ends = base.ends }

    first : Arrived k l (stepped (letter_of who said) base step)
    first =
        subst (Arrives k l (stepped (letter_of who said) base step).ends) (same_waiting (letter_of who said) c.bus.quota f step.moves)
        (subst (λ ms. Arrives k l (fold (moved (letter_of who said) c.bus.quota) f ms).ends (fold (moved (letter_of who said) c.bus.quota) f ms).waiting) (sym moves)
        (handed_arrives (letter_of who said) c.bus.quota k m (receivers c.bus.state m) f for_it))

    arrived : Arrived k l (takes c conn who said)
    arrived = settled_arrives k l (length c.bus.state.joined) (with_name conn (stepped (letter_of who said) base step)) (named_arrives k l conn (stepped (letter_of who said) base step) first)

    by : On l e.down ⊎ (is_due k (takes c conn who said).bus.waiting.due ≡ true) → On l e.down
    by (inl o) = o
    by (inr d) = absurd (false_true (sym (ap (is_due k) (takes_settle c conn who said joined j).1) ∙ d))
