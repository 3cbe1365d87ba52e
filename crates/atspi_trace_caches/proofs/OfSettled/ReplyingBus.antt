-- A call that waits while the bus does one thing after another: what the bus hands to its caller arrives or the caller is to be closed, and where one leaves that was to answer it, an error goes to the caller.
use Rattle.std.proofs.Common.{◌≡◌, ◌⊎◌, inl, inr, ℕ, zero, suc, ◌+◌, Bool, true, false, List, [], ◌∷◌, ◌++◌, map, Option, None, Some, refl, sym, ap, ◌∙◌, subst, is_some}
use Rattle.std.specs.Prelude.{◌==◌, ◌&&◌, ◌||◌, not, filter, flat_map, codes, if◌then◌else◌}
use Rattle.std.specs.List.{fold}
use Rattle.std.proofs.lemmas.Bool.{eqb-true, eq-eqb}
use Rattle.atspi_message.specs.Envelope.{Envelope}
use Rattle.atspi_match.specs.RuleIndex.{without_rules}
use Rattle.atspi_names.specs.Owners.{after_gone}
use Rattle.atspi_match.specs.declared.routing.closing.Why.{Why}
use Rattle.atspi_match.specs.routing.BusState.{OpenCall, BusState, unique_of, calls_without, waiting_for}
use Rattle.atspi_match.specs.routing.OwnMessages.{error_to, owner_changed, numbered}
use Rattle.atspi_match.specs.routing.Routing.{receivers, owners_of}
use Rattle.atspi_match.specs.routing.Steps.{Move, says, delivers, BusStep, handed, no_replies, names_pass_on, farewell, bus_leaves}
use Rattle.atspi_match.specs.routing.Queues as queues
use Rattle.atspi_match.specs.routing.Queues.{Waiting, is_due, without_queue}
use Rattle.atspi_trace.specs.World.{here, Letter, End}
use Rattle.atspi_trace.specs.Ends.{is_here, end_at, with_end, leaves}
use Rattle.atspi_trace.specs.Carrying.{Carried, Filled, own_letter, moved, stepped, left, one_closed, settled}
use Rattle.atspi_trace_laws.proofs.OfOrder.Parties.{no_none, same_some, false_true}
use Rattle.atspi_trace_laws.proofs.OfOrder.Frame.{Over, over_same, stepped_over, with_cases}
use Rattle.atspi_trace_laws.proofs.OfQuiet.Here.{forward}
use Rattle.atspi_trace_laws.proofs.OfNames.Naming.{gone_other}
use Rattle.atspi_trace_laws.proofs.OfSigned.Unique.{IsIn}
use Rattle.atspi_trace_laws.proofs.OfMissed.Arriving.{On, moved_keeps, rest_due, Arrives, still_arrives, same_waiting, delivered_now}
use Rattle.atspi_trace_caches.proofs.OfSettled.Replying.{Has, has_front, has_back, IsCall, IsReplying, IsReplied, IsOpen, Stage, OpenAt, Placed, Midway, Keeps_links, keeping, put_keeps, down_still, up_still, course_still, midway_still}
use Rattle.atspi_trace_caches.proofs.OfSettled.ReplyingOwners.{Owned, gone_owned, one_owned, owners_are}

-- WHAT IS HANDED TO A CONNECTION
abbrev pub GivesTo : (Envelope → Type 0) → ℕ → List Move → Type 0
GivesTo P k moves = (m : Envelope) × P m × Has (λ (x : Move). x ≡ delivers k m) moves

pub gives_back : (P : Envelope → Type 0) (k : ℕ) (xs ys : List Move) → GivesTo P k ys → GivesTo P k (xs ++ ys)
gives_back P k xs ys g = (g.0, g.1, has_back (λ (x : Move). x ≡ delivers k g.0) xs ys g.2)

pub gives_front : (P : Envelope → Type 0) (k : ℕ) (xs ys : List Move) → GivesTo P k xs → GivesTo P k (xs ++ ys)
gives_front P k xs ys g = (g.0, g.1, has_front (λ (x : Move). x ≡ delivers k g.0) xs ys g.2)

pub handed_to : (P : Envelope → Type 0) (m : Envelope) (k : ℕ) (conns : List ℕ) → P m → IsIn k conns → GivesTo P k (map (λ c. delivers c m) conns)
handed_to P m k [] p i = absurd i
handed_to P m k (c ∷ cs) p (inl same) = (m, p, inl (ap (λ x. delivers x m) (sym same)))
handed_to P m k (c ∷ cs) p (inr i) = let g = handed_to P m k cs p i in (g.0, g.1, inr g.2)

-- a message to a name goes to who owns it
pub to_owner : (s : BusState) (m : Envelope) (name : List ℕ) → m.destination ≡ Some name → receivers s m ≡ owners_of s name
to_owner s m name h = by m.destination h
  where
    by : (o : Option (List ℕ)) → o ≡ Some name → receivers s (record m { destination = o }) ≡ owners_of s name
    by None g = absurd (no_none name g)
    by (Some other) g = ap (owners_of s) (same_some other name g)

-- an own message to a name that one has
abbrev pub Tells : ℕ → List ℕ → Envelope → Type 0
Tells n name m = IsReplying n m × (m.destination ≡ Some name)

pub said_to : (t : BusState) (at : ℕ) (es : List Envelope) (k n : ℕ) (name : List ℕ) → owners_of t name ≡ k ∷ [] → Has (Tells n name) es → GivesTo (IsReplying n) k (flat_map (λ e. says e ∷ handed t e) (numbered at es))
said_to t at [] k n name is h = absurd h
said_to t at (e ∷ es) k n name is (inl p) =
    let m : Envelope = record e { serial = at } in
    let them : receivers t m ≡ k ∷ [] = to_owner t m name p.1 ∙ is in
    let first : GivesTo (IsReplying n) k (handed t m) = handed_to (IsReplying n) m k (receivers t m) (record { reply = p.0.reply; with_ = p.0.with_ }) (subst (IsIn k) (sym them) (inl refl)) in
    let both : GivesTo (IsReplying n) k (handed t m ++ flat_map (λ x. says x ∷ handed t x) (numbered (at + 1) es)) =
    gives_front (IsReplying n) k (handed t m) (flat_map (λ x. says x ∷ handed t x) (numbered (at + 1) es)) first in
    (both.0, both.1, inr both.2)
said_to t at (e ∷ es) k n name is (inr h) =
    let m : Envelope = record e { serial = at } in
    let rest = gives_back (IsReplying n) k (handed t m) (flat_map (λ x. says x ∷ handed t x) (numbered (at + 1) es)) (said_to t (at + 1) es k n name is h) in
    (rest.0, rest.1, inr rest.2)

-- IT ARRIVES, or the connection is to be closed
abbrev pub ReplyAt : ℕ → ℕ → List End → Waiting → Type 0
ReplyAt k n ends w = (e : End) → end_at ends k ≡ Some e → e.standing ≡ here → Has (IsReplied n) e.down ⊎ (is_due k w.due ≡ true)

pub on_has : (P : Letter → Type 0) (l : Letter) (ls : List Letter) → P l → On l ls → Has P ls
on_has P l [] p o = absurd o
on_has P l (x ∷ xs) p (inl same) = inl (subst P (sym same) p)
on_has P l (x ∷ xs) p (inr o) = inr (on_has P l xs p o)

module _ (letter : Envelope → Letter) (plainly : (m : Envelope) → (letter m).said.message ≡ m) (quota : ℕ) where
  reached : (k : ℕ) (m : Envelope) (moves : List Move) (f : Filled) → Has (λ (x : Move). x ≡ delivers k m) moves
      → Arrives k (letter m) (fold (moved letter quota) f moves).ends (fold (moved letter quota) f moves).waiting
  reached k m [] f h = absurd h
  reached k m (x ∷ xs) f (inl same) =
      still_arrives letter quota k (letter m) (moved letter quota f x) xs
      (subst (λ y. Arrives k (letter m) (moved letter quota f y).ends (moved letter quota f y).waiting) (sym same) (delivered_now letter quota k m f))
  reached k m (x ∷ xs) f (inr h) = reached k m xs (moved letter quota f x) h

  pub reply_comes : (k n : ℕ) (moves : List Move) (f : Filled) → GivesTo (IsReplying n) k moves → ReplyAt k n (fold (moved letter quota) f moves).ends (fold (moved letter quota) f moves).waiting
  reply_comes k n moves f g e there on = by (reached k g.0 moves f g.2 e there on)
    where
      w : Waiting
      w = (fold (moved letter quota) f moves).waiting

      by : On (letter g.0) e.down ⊎ (is_due k w.due ≡ true) → Has (IsReplied n) e.down ⊎ (is_due k w.due ≡ true)
      by (inl o) = inl (on_has (IsReplied n) (letter g.0) e.down (subst (IsReplying n) (sym (plainly g.0)) g.1) o)
      by (inr d) = inr d

  pub fold_due : (w : Waiting) (k : ℕ) (moves : List Move) → is_due k w.due ≡ true → is_due k (fold (queues.moved quota) w moves).due ≡ true
  fold_due w k [] h = h
  fold_due w k (x ∷ xs) h = fold_due (queues.moved quota w x) k xs (moved_keeps quota w k x h)

-- A STEP of the bus that keeps the open call and the names
pub plain_own : (m : Envelope) → (own_letter m).said.message ≡ m
plain_own m = refl

module _ (letter : Envelope → Letter) (plainly : (m : Envelope) → (letter m).said.message ≡ m) where
  pub due_on : (c : Carried) (step : BusStep) (x : ℕ) → is_due x c.bus.waiting.due ≡ true → is_due x (stepped letter c step).bus.waiting.due ≡ true
  due_on c step x h = fold_due letter plainly c.bus.quota c.bus.waiting x step.moves h

  -- one that hands a reply to the caller
  pub steps_reply : (c : Carried) (step : BusStep) (k n : ℕ) (to : List ℕ) → GivesTo (IsReplying n) k step.moves → (z : End) → end_at (stepped letter c step).ends k ≡ Some z → z.standing ≡ here
      → Midway (stepped letter c step) k z n to
  steps_reply c step k n to g z there on = by (reply_comes letter plainly c.bus.quota k n step.moves f g z there on)
    where
      f : Filled
      f = record { waiting = c.bus.waiting; ends = c.ends }

      by : Has (IsReplied n) z.down ⊎ (is_due k (fold (moved letter c.bus.quota) f step.moves).waiting.due ≡ true) → Midway (stepped letter c step) k z n to
      by (inl h) = inl (inr (inl h))
      by (inr d) = inr (ap (λ (w : Waiting). is_due k w.due) (sym (same_waiting letter c.bus.quota f step.moves)) ∙ d)

  -- any message that it hands out is on the down link, or who should get it is to be closed
  pub steps_arrive : (c : Carried) (step : BusStep) (k : ℕ) (m : Envelope) → Has (λ (x : Move). x ≡ delivers k m) step.moves → (z : End) → end_at (stepped letter c step).ends k ≡ Some z → z.standing ≡ here
      → On (letter m) z.down ⊎ (is_due k (stepped letter c step).bus.waiting.due ≡ true)
  steps_arrive c step k m h z there on = by (reached letter plainly c.bus.quota k m step.moves f h z there on)
    where
      f : Filled
      f = record { waiting = c.bus.waiting; ends = c.ends }

      by : On (letter m) z.down ⊎ (is_due k (fold (moved letter c.bus.quota) f step.moves).waiting.due ≡ true) → On (letter m) z.down ⊎ (is_due k (stepped letter c step).bus.waiting.due ≡ true)
      by (inl o) = inl o
      by (inr d) = inr (ap (λ (w : Waiting). is_due k w.due) (sym (same_waiting letter c.bus.quota f step.moves)) ∙ d)

-- ONE LEAVES
pub with_other : (f : End → End) (conn : ℕ) (ends : List End) (k : ℕ) (e : End) → (k ≡ conn → ⊥) → end_at ends k ≡ Some e → end_at (with_end conn f ends) k ≡ Some e
with_other f conn [] k e differ h = absurd (no_end k e h)
  where
    no_end : (k : ℕ) (e : End) → end_at [] k ≡ Some e → ⊥
    no_end zero e h = no_none e h
    no_end (suc k) e h = no_none e h
with_other f zero (x ∷ xs) zero e differ h = absurd (differ refl)
with_other f zero (x ∷ xs) (suc k) e differ h = h
with_other f (suc conn) (x ∷ xs) zero e differ h = h
with_other f (suc conn) (x ∷ xs) (suc k) e differ h = with_other f conn xs k e (λ same. differ (ap suc same)) h

calls_kept : (k n callee conn : ℕ) (calls : List OpenCall) → (k ≡ conn → ⊥) → (callee ≡ conn → ⊥) → Has (IsOpen k n callee) calls → Has (IsOpen k n callee) (calls_without conn calls)
calls_kept k n callee conn [] a b h = absurd h
calls_kept k n callee conn (x ∷ xs) a b h = by (x.caller == conn) refl (x.callee == conn) refl h (λ g. calls_kept k n callee conn xs a b g)
  where
    by : (p : Bool) → (x.caller == conn) ≡ p → (q : Bool) → (x.callee == conn) ≡ q → IsOpen k n callee x ⊎ Has (IsOpen k n callee) xs → (Has (IsOpen k n callee) xs → Has (IsOpen k n callee) (calls_without conn xs))
        → Has (IsOpen k n callee) (if not (p || q) then x ∷ calls_without conn xs else calls_without conn xs)
    by true g q r (inl o) f = absurd (a (sym o.caller ∙ eqb-true x.caller conn g))
    by true g q r (inr o) f = f o
    by false g true r (inl o) f = absurd (b (sym o.whom ∙ eqb-true x.callee conn r))
    by false g true r (inr o) f = f o
    by false g false r (inl o) f = inl o
    by false g false r (inr o) f = inr (f o)

-- the error that goes to the caller
errors_to : (s : BusState) (k n conn : ℕ) (name : List ℕ) (calls : List OpenCall) → (k ≡ conn → ⊥) → unique_of s.owners k ≡ Some name → Has (IsOpen k n conn) calls
    → Has (Tells n name) (map (λ (c : OpenCall). error_to (unique_of s.owners c.caller) c.serial (codes "NoReply")) (waiting_for conn calls))
errors_to s k n conn name [] differ h o = absurd o
errors_to s k n conn name (x ∷ xs) differ h o = by (x.callee == conn) refl (x.caller == conn) refl o (λ g. errors_to s k n conn name xs differ h g)
  where
    errors : List OpenCall → List Envelope
    errors cs = map (λ (c : OpenCall). error_to (unique_of s.owners c.caller) c.serial (codes "NoReply")) cs

    by : (p : Bool) → (x.callee == conn) ≡ p → (q : Bool) → (x.caller == conn) ≡ q → IsOpen k n conn x ⊎ Has (IsOpen k n conn) xs → (Has (IsOpen k n conn) xs → Has (Tells n name) (errors (waiting_for conn xs)))
        → Has (Tells n name) (errors (if p && not q then x ∷ waiting_for conn xs else waiting_for conn xs))
    by true g true r (inl y) f = absurd (differ (sym y.caller ∙ eqb-true x.caller conn r))
    by true g false r (inl y) f = inl (record { reply = refl; with_ = ap Some y.serial }, ap (unique_of s.owners) y.caller ∙ h)
    by false g q r (inl y) f = absurd (false_true (sym g ∙ eq-eqb x.callee conn y.whom))
    by true g true r (inr y) f = f y
    by true g false r (inr y) f = inr (f y)
    by false g q r (inr y) f = f y

-- the bus behind it
abbrev gone_state : BusState → ℕ → BusState
gone_state s conn = record s {
  joined = filter (λ c. not (c == conn)) s.joined;
  owners = after_gone s.owners conn;
  rules = without_rules conn s.rules;
  calls = calls_without conn s.calls;
}

leaver_errors : (s : BusState) (k n conn : ℕ) (name : List ℕ) → (k ≡ conn → ⊥) → unique_of s.owners k ≡ Some name → Has (IsOpen k n conn) s.calls → (o : Option (List ℕ)) → is_some o ≡ true
    → Has (Tells n name) (farewell s (after_gone s.owners conn) conn o)
leaver_errors s k n conn name differ h o None some = absurd (false_true some)
leaver_errors s k n conn name differ h o (Some unique) some =
    has_front (Tells n name) (no_replies s conn) (names_pass_on s.owners (after_gone s.owners conn) conn ++ owner_changed unique unique [] ∷ []) (errors_to s k n conn name s.calls differ h o)

leaving_gives : (s : BusState) (k n conn : ℕ) (name : List ℕ) → Owned s.owners → (k ≡ conn → ⊥) → unique_of s.owners k ≡ Some name → Has (IsOpen k n conn) s.calls → is_some (unique_of s.owners conn) ≡ true
    → GivesTo (IsReplying n) k (bus_leaves s conn).moves
leaving_gives s k n conn name i differ h o some =
    said_to (gone_state s conn) s.next (farewell s (after_gone s.owners conn) conn (unique_of s.owners conn)) k n name
    (owners_are (gone_state s conn) k name (gone_owned s.owners conn i) (gone_other s.owners conn k (λ same. differ (sym same)) ∙ h))
    (leaver_errors s k n conn name differ h o (unique_of s.owners conn) some)

-- ALL OF ONE CALL: where the caller is here
abbrev pub AllMidway : Carried → ℕ → ℕ → List ℕ → Type 0
AllMidway c k n to = (e : End) → end_at c.ends k ≡ Some e → e.standing ≡ here → Midway c k e n to

module _ (c : Carried) (conn k n : ℕ) (to : List ℕ) (i : Owned c.bus.state.owners) where
  abbrev without : Carried
  without = record { bus = record c.bus { waiting = without_queue c.bus.waiting conn }; ends = with_end conn leaves c.ends }

  abbrev after : Carried
  after = left c conn

  over : Over Keeps_links without.ends after.ends
  over = stepped_over Keeps_links keeping own_letter (λ m e. put_keeps (own_letter m) e) without (bus_leaves c.bus.state conn)

  due_stays : (x : ℕ) → (x ≡ conn → ⊥) → is_due x c.bus.waiting.due ≡ true → is_due x after.bus.waiting.due ≡ true
  due_stays x differ h = due_on own_letter plain_own without (bus_leaves c.bus.state conn) x (rest_due x conn c.bus.waiting.due differ h)

  staged : (callee : ℕ) (d z : End) (name : List ℕ) → (callee ≡ conn → ⊥) → Keeps_links d z → Stage c callee d n name to → Stage after callee z n name to
  staged callee d z name differ g (inl h) = inl (ap is_here g.standing ∙ h)
  staged callee d z name differ g (inr (inl h)) = inr (inl (due_stays callee differ h))
  staged callee d z name differ g (inr (inr h)) = inr (inr (g.standing ∙ h.0, course_still d z n name to g h.1))

  opened : (k ≡ conn → ⊥) → (z : End) → end_at after.ends k ≡ Some z → z.standing ≡ here → (o : OpenAt c k n to) → Midway after k z n to
  opened differ z there on o = by (o.callee == conn) refl
    where
      by : (b : Bool) → (o.callee == conn) ≡ b → Midway after k z n to
      by true g =
          let same : o.callee ≡ conn = eqb-true o.callee conn g in
          steps_reply own_letter plain_own without (bus_leaves c.bus.state conn) k n to
          (leaving_gives c.bus.state k n conn o.name i differ o.is_named (subst (λ x. Has (IsOpen k n x) c.bus.state.calls) same o.is_open) (subst (λ x. is_some (unique_of c.bus.state.owners x) ≡ true) same o.known)) z there on
      by false g =
          let other : o.callee ≡ conn → ⊥ = λ same. false_true (sym g ∙ eq-eqb o.callee conn same) in
          let x = forward Keeps_links without.ends after.ends o.callee o.d over (with_other leaves conn c.ends o.callee o.d other o.there) in
          inl (inr (inr (record {
            callee = o.callee;
            is_open = calls_kept k n o.callee conn c.bus.state.calls differ other o.is_open;
            name = o.name;
            is_named = gone_other c.bus.state.owners conn k (λ same. differ (sym same)) ∙ o.is_named;
            known = ap is_some (gone_other c.bus.state.owners conn o.callee (λ same. other (sym same))) ∙ o.known;
            d = x.0;
            there = x.1;
            stage = staged o.callee o.d x.0 o.name other x.2 o.stage;
          })))

  pub left_midway : AllMidway c k n to → AllMidway (left c conn) k n to
  left_midway a z there on = at y.2
    where
      x : (e : End) × (end_at without.ends k ≡ Some e) × Keeps_links e z
      x = over.back k z there

      y : (e : End) × (end_at c.ends k ≡ Some e) × (((k ≡ conn) × (x.0 ≡ leaves e)) ⊎ ((k ≡ conn → ⊥) × (x.0 ≡ e)))
      y = with_cases leaves c.ends conn k x.0 x.1

      at : (((k ≡ conn) × (x.0 ≡ leaves y.0)) ⊎ ((k ≡ conn → ⊥) × (x.0 ≡ y.0))) → Midway after k z n to
      at (inl h) = absurd (false_true (ap (λ (e : End). is_here e.standing) (sym h.1) ∙ ap is_here (sym x.2.standing ∙ on)))
      at (inr h) = by (a y.0 y.1 (ap (λ (e : End). e.standing) (sym h.1) ∙ sym x.2.standing ∙ on))
        where
          kept : Keeps_links y.0 z
          kept = subst (λ e. Keeps_links e z) h.1 x.2

          by : Midway c k y.0 n to → Midway after k z n to
          by (inl (inl p)) = inl (inl (up_still (IsCall n to) y.0 z kept p))
          by (inl (inr (inl p))) = inl (inr (inl (down_still (IsReplied n) y.0 z kept p)))
          by (inl (inr (inr o))) = opened h.0 z there on o
          by (inr d) = inr (due_stays k h.0 d)

-- CLOSINGS
closed_midway : (c : Carried) (due : List (ℕ × Why)) (k n : ℕ) (to : List ℕ) → Owned c.bus.state.owners → AllMidway c k n to → AllMidway (one_closed c due) k n to
closed_midway c [] k n to i a = a
closed_midway c (first ∷ rest) k n to i a = λ e there on.
    midway_still (left c first.0) (one_closed c (first ∷ rest)) k n to e e (record { ends = over_same Keeps_links keeping (left c first.0).ends; calls = λ x h. h; names = λ x name h. h; due = λ x h. h }) (keeping.same e)
    (left_midway c first.0 k n to i a e there on)

pub settled_midway : (rounds : ℕ) (c : Carried) (k n : ℕ) (to : List ℕ) → Owned c.bus.state.owners → AllMidway c k n to → AllMidway (settled rounds c) k n to
settled_midway zero c k n to i a = a
settled_midway (suc rounds) c k n to i a =
    settled_midway rounds (one_closed c c.bus.waiting.due) k n to (one_owned c c.bus.waiting.due i) (closed_midway c c.bus.waiting.due k n to i a)

-- where nobody is to be closed any more, it is in one of the places
abbrev pub AllIn : Carried → ℕ → ℕ → List ℕ → Type 0
AllIn c k n to = (e : End) → end_at c.ends k ≡ Some e → e.standing ≡ here → Placed c k e n to

pub no_due_left : (c : Carried) (k n : ℕ) (to : List ℕ) → c.bus.waiting.due ≡ [] → AllMidway c k n to → AllIn c k n to
no_due_left c k n to none a e there on = by (a e there on)
  where
    by : Midway c k e n to → Placed c k e n to
    by (inl p) = p
    by (inr d) = absurd (false_true (sym (ap (is_due k) none) ∙ d))
