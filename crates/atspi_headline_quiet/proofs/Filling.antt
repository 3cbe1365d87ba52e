-- WHAT IS LET IN: of an end that is here behind what the bus does, each message that was handed to it had room in its queue, and lies on its link.
use Rattle.std.proofs.Common.{◌≡◌, ◌⊎◌, inl, inr, ℕ, zero, suc, ◌+◌, ◌<◌, Bool, true, false, List, [], ◌∷◌, ◌++◌, length, map, None, Some, refl, sym, ap, ◌∙◌, subst, arith, cond, length-append}
use Rattle.std.specs.Prelude.{◌==◌, ◌||◌, ◌-◌, nat_lt, if◌then◌else◌}
use Rattle.std.specs.List.{list_any, fold}
use Rattle.std.specs.FinMap as finmap
use Rattle.std.specs.FinMap.{FinMap, get-insert, get-remove, nat_cmp-IsAntisymmetric}
use Rattle.std.specs.Ordering.{nat_cmp, eq_by_cmp}
use Rattle.std.specs.Cmp.{nat_cmp_total, eq_by_cmp_equiv}
use Rattle.std.proofs.lemmas.Bool.{eq-eqb, eqb-true, lt-ltb}
use Rattle.std.proofs.lemmas.List.{append-nil, append_assoc}
use Rattle.atspi_message.specs.Envelope.{Envelope}
use Rattle.atspi_message.specs.Bytes.{written}
use Rattle.atspi_names.specs.Owners.{own_name}
use Rattle.atspi_script_lines.specs.declared.line.Party.{Party}
use Rattle.atspi_match.specs.declared.routing.closing.Why.{Why}
use Rattle.atspi_match.specs.declared.routing.closing.Why.TheVariants.{NotHello, Quota}
use Rattle.atspi_match.specs.declared.routing.closing.Closing.{Closing}
use Rattle.atspi_match.specs.routing.Members.{is_text}
use Rattle.atspi_match.specs.routing.Steps.{Move, says, delivers, closes, BusStep, bus_takes, bus_leaves}
use Rattle.atspi_match.specs.routing.Queues as queues
use Rattle.atspi_match.specs.routing.Queues.{Waiting, Bus, is_due, doomed, queue_of, or_nothing, without_queue, told_length}
use Rattle.atspi_trace.specs.Rules.{rule_in}
use Rattle.atspi_trace.specs.World.{Said, Letter, End}
use Rattle.atspi_trace.specs.Ends.{end_at, with_end, put_down, taken_up, leaves}
use Rattle.atspi_trace.specs.Carrying.{Carried, Filled, own_letter, letter_of, grew, with_letter, moved, stepped, left, one_closed, settled, named, with_name, takes, takes_end}
use Rattle.atspi_trace_laws.proofs.OfOrder.Parties.{false_true}
use Rattle.atspi_trace_laws.proofs.OfOrder.Frame.{with_cases}
use Rattle.atspi_trace_laws.proofs.OfMissed.Arriving.{moved_keeps, rest_due}
use Rattle.atspi_trace_laws.proofs.OfQuiet.Hello.{equal_of_tie, is_of, any_more, any_last}
use Rattle.atspi_headline_quiet.proofs.Marking.{written_some}

-- QUEUES
tie_not : (q conn : ℕ) → (q ≡ conn → ⊥) → eq_by_cmp nat_cmp q conn ≡ false
tie_not q conn differ = by (eq_by_cmp nat_cmp q conn) refl
  where
    by : (b : Bool) → eq_by_cmp nat_cmp q conn ≡ b → b ≡ false
    by false h = refl
    by true h = absurd (differ (nat_cmp-IsAntisymmetric q conn (equal_of_tie _ h)))

pub queue_put : (q : FinMap nat_cmp (List ℕ)) (k : ℕ) (bytes : List ℕ) → queue_of (finmap.insert q k bytes) k ≡ bytes
queue_put q k bytes = ap or_nothing (get-insert nat_cmp_total q k bytes k ∙ ap (λ b. cond b (Some bytes) (finmap.get q k)) ((eq_by_cmp_equiv nat_cmp_total).refl k))

pub queue_other : (q : FinMap nat_cmp (List ℕ)) (conn k : ℕ) (bytes : List ℕ) → (k ≡ conn → ⊥) → queue_of (finmap.insert q conn bytes) k ≡ queue_of q k
queue_other q conn k bytes differ = ap or_nothing (get-insert nat_cmp_total q conn bytes k ∙ ap (λ b. cond b (Some bytes) (finmap.get q k)) (tie_not k conn differ))

queue_stays : (q : FinMap nat_cmp (List ℕ)) (conn k : ℕ) → (k ≡ conn → ⊥) → queue_of (finmap.remove q conn) k ≡ queue_of q k
queue_stays q conn k differ = ap or_nothing (get-remove nat_cmp_total q conn k ∙ ap (λ b. cond b None (finmap.get q k)) (tie_not k conn differ))

-- WHAT AN END GAINS
abbrev pub total : List Letter → ℕ
total [] = 0
total (l ∷ ls) = length (written l.said.message) + total ls

abbrev pub LetIn : ℕ → ℕ → List Letter → Type 0
LetIn quota n [] = Unit {0}
LetIn quota n (l ∷ ls) = (nat_lt quota (n + length (written l.said.message)) ≡ false) × LetIn quota (n + length (written l.said.message)) ls

pub record Gains (e d : End) (ls : List Letter) : Type 0 where
  pub whose : d.who ≡ e.who
  pub standing : d.standing ≡ e.standing
  pub down : d.down ≡ e.down ++ ls
  pub mark : d.down_moved ≡ e.down_moved

pub record Fills (quota k : ℕ) (p q : FinMap nat_cmp (List ℕ)) (a b : List End) (ls : List Letter) : Type 0 where
  pub ends : (d : End) → end_at b k ≡ Some d → (e : End) × (end_at a k ≡ Some e) × Gains e d ls
  pub queue : length (queue_of q k) ≡ length (queue_of p k) + total ls
  pub fits : LetIn quota (length (queue_of p k)) ls

total_more : (xs ys : List Letter) → total (xs ++ ys) ≡ total xs + total ys
total_more [] ys = omega arith
total_more (x ∷ xs) ys = let ih : total (xs ++ ys) ≡ total xs + total ys = total_more xs ys in omega (arith, ih)

fits_more : (quota n : ℕ) (xs ys : List Letter) → LetIn quota n xs → LetIn quota (n + total xs) ys → LetIn quota n (xs ++ ys)
fits_more quota n [] ys a b = subst (λ k. LetIn quota k ys) (none n) b
  where
    none : (n : ℕ) → n + 0 ≡ n
    none n = omega arith
fits_more quota n (x ∷ xs) ys a b =
    (a.0, fits_more quota (n + length (written x.said.message)) xs ys a.1 (subst (λ k. LetIn quota k ys) (shift n (length (written x.said.message)) (total xs)) b))
  where
    shift : (n s t : ℕ) → n + (s + t) ≡ (n + s) + t
    shift n s t = omega arith

both : (quota k : ℕ) (p q r : FinMap nat_cmp (List ℕ)) (a b c : List End) (xs ys : List Letter) → Fills quota k p q a b xs → Fills quota k q r b c ys → Fills quota k p r a c (xs ++ ys)
both quota k p q r a b c xs ys f g = record {
  ends = λ d h. let y = g.ends d h in let x = f.ends y.0 y.1 in (
    x.0,
    x.1,
    record {
      whose = y.2.whose ∙ x.2.whose;
      standing = y.2.standing ∙ x.2.standing;
      down = y.2.down ∙ ap (λ l. l ++ ys) x.2.down ∙ append_assoc x.0.down xs ys;
      mark = y.2.mark ∙ x.2.mark;
    },
  );
  queue = sum (length (queue_of p k)) (length (queue_of q k)) (length (queue_of r k)) (total xs) (total ys) (total (xs ++ ys)) f.queue g.queue (total_more xs ys);
  fits = fits_more quota (length (queue_of p k)) xs ys f.fits (subst (λ n. LetIn quota n ys) f.queue g.fits);
}
  where
    sum : (p q r x y t : ℕ) → q ≡ p + x → r ≡ q + y → t ≡ x + y → r ≡ p + t
    sum p q r x y t h g s = omega (arith, h, g, s)

same : (quota k : ℕ) (p q : FinMap nat_cmp (List ℕ)) (a b : List End) → queue_of q k ≡ queue_of p k → ((d : End) → end_at b k ≡ Some d → (e : End) × (end_at a k ≡ Some e) × Gains e d []) → Fills quota k p q a b []
same quota k p q a b h f = record { ends = f; queue = ap length h ∙ nothing_more (length (queue_of p k)); fits = tt }
  where
    nothing_more : (n : ℕ) → n ≡ n + 0
    nothing_more n = omega arith

as_it_is : (e : End) → Gains e e []
as_it_is e = record { whose = refl; standing = refl; down = sym (append-nil e.down); mark = refl }

none_changed : (k : ℕ) (a : List End) (d : End) → end_at a k ≡ Some d → (e : End) × (end_at a k ≡ Some e) × Gains e d []
none_changed k a d h = (d, h, as_it_is d)

other_changed : (f : End → End) (conn k : ℕ) (a : List End) → (k ≡ conn → ⊥) → (d : End) → end_at (with_end conn f a) k ≡ Some d → (e : End) × (end_at a k ≡ Some e) × Gains e d []
other_changed f conn k a differ d h = by (with_cases f a conn k d h)
  where
    by : ((e : End) × (end_at a k ≡ Some e) × (((k ≡ conn) × (d ≡ f e)) ⊎ ((k ≡ conn → ⊥) × (d ≡ e)))) → (e : End) × (end_at a k ≡ Some e) × Gains e d []
    by x = at x.2
      where
        at : (((k ≡ conn) × (d ≡ f x.0)) ⊎ ((k ≡ conn → ⊥) × (d ≡ x.0))) → (e : End) × (end_at a k ≡ Some e) × Gains e d []
        at (inl g) = absurd (differ g.0)
        at (inr g) = (x.0, x.1, subst (λ y. Gains x.0 y []) (sym g.1) (as_it_is x.0))

plainly_changed : (f : End → End) → ((e : End) → Gains e (f e) []) → (conn k : ℕ) (a : List End) (d : End) → end_at (with_end conn f a) k ≡ Some d → (e : End) × (end_at a k ≡ Some e) × Gains e d []
plainly_changed f g conn k a d h = by (with_cases f a conn k d h)
  where
    by : ((e : End) × (end_at a k ≡ Some e) × (((k ≡ conn) × (d ≡ f e)) ⊎ ((k ≡ conn → ⊥) × (d ≡ e)))) → (e : End) × (end_at a k ≡ Some e) × Gains e d []
    by x = at x.2
      where
        at : (((k ≡ conn) × (d ≡ f x.0)) ⊎ ((k ≡ conn → ⊥) × (d ≡ x.0))) → (e : End) × (end_at a k ≡ Some e) × Gains e d []
        at (inl s) = (x.0, x.1, subst (λ y. Gains x.0 y []) (sym s.1) (g x.0))
        at (inr s) = (x.0, x.1, subst (λ y. Gains x.0 y []) (sym s.1) (as_it_is x.0))

-- WHAT IS HANDED to one connection
abbrev pub given_one : ℕ → Move → List Envelope
given_one k (delivers conn e) = if conn == k then e ∷ [] else []
given_one k move = []

abbrev pub given : ℕ → List Move → List Envelope
given k [] = []
given k (move ∷ moves) = given_one k move ++ given k moves

abbrev of_conn : ℕ → ℕ × Why → Bool
of_conn conn d = d.0 == conn

due_last : (k : ℕ) (due : List (ℕ × Why)) (why : Why) → is_due k (due ++ (k, why) ∷ []) ≡ true
due_last k [] why = ap (λ b. b || false) (eq-eqb k k refl)
due_last k (d ∷ due) why = or_true (d.0 == k) (is_due k (due ++ (k, why) ∷ [])) (due_last k due why)
  where
    or_true : (a b : Bool) → b ≡ true → (a || b) ≡ true
    or_true true b h = refl
    or_true false b h = h

doomed_now : (w : Waiting) (k : ℕ) (why : Why) → is_due k (doomed w k why).due ≡ true
doomed_now w k why = by (is_due k w.due) refl
  where
    by : (b : Bool) → is_due k w.due ≡ b → is_due k (if b then w else record w { due = w.due ++ (k, why) ∷ [] }).due ≡ true
    by true h = h
    by false h = due_last k w.due why

doomed_same : (w : Waiting) (conn : ℕ) (why : Why) → (doomed w conn why).queues ≡ w.queues
doomed_same w conn why = by (is_due conn w.due)
  where
    by : (b : Bool) → (if b then w else record w { due = w.due ++ (conn, why) ∷ [] }).queues ≡ w.queues
    by true = refl
    by false = refl

abbrev with_more : Waiting → ℕ → Envelope → Waiting
with_more w k m = record w { queues = finmap.insert w.queues k (queue_of w.queues k ++ written m) }

took_more : (w : Waiting) (k : ℕ) (m : Envelope) → grew k w (with_more w k m) ≡ true
took_more w k m =
    let many : length (queue_of (finmap.insert w.queues k (queue_of w.queues k ++ written m)) k) ≡ length (queue_of w.queues k) + length (written m) =
    ap length (queue_put w.queues k (queue_of w.queues k ++ written m)) ∙ length-append (queue_of w.queues k) (written m) in
    let some : 0 < length (written m) = written_some m in
    lt-ltb (length (queue_of w.queues k)) (length (queue_of (finmap.insert w.queues k (queue_of w.queues k ++ written m)) k)) (omega (arith, many, some))

true_no_false : (b : Bool) → b ≡ true → b ≡ false → ⊥
true_no_false b h g = false_true (sym g ∙ h)

module _ (letter : Envelope → Letter) (plainly : (m : Envelope) → (letter m).said.message ≡ m) (quota k : ℕ) where
  abbrev Filling : Filled → Waiting → Move → List Envelope → Type 0
  Filling f after move es = Fills quota k f.waiting.queues after.queues f.ends (with_letter letter f.waiting after move f.ends) (map letter es)

  other_fills : (f : Filled) (conn : ℕ) (m : Envelope) → (k ≡ conn → ⊥) → Filling f (queues.moved quota f.waiting (delivers conn m)) (delivers conn m) []
  other_fills f conn m differ =
      same quota k f.waiting.queues (queues.moved quota f.waiting (delivers conn m)).queues f.ends _ (queue_so (is_due conn f.waiting.due) (nat_lt quota (length (queue_of f.waiting.queues conn) + length (written m))))
      (ends_so (grew conn f.waiting (queues.moved quota f.waiting (delivers conn m))))
    where
      queue_so : (b c : Bool)
          → queue_of (if b then f.waiting else if c then doomed f.waiting conn (Quota (length (queue_of f.waiting.queues conn)) (told_length (written m))) else with_more f.waiting conn m).queues k ≡ queue_of f.waiting.queues k
      queue_so true c = refl
      queue_so false true = ap (λ q. queue_of q k) (doomed_same f.waiting conn (Quota (length (queue_of f.waiting.queues conn)) (told_length (written m))))
      queue_so false false = queue_other f.waiting.queues conn k (queue_of f.waiting.queues conn ++ written m) differ

      ends_so : (b : Bool) (d : End) → end_at (if b then with_end conn (put_down (letter m)) f.ends else f.ends) k ≡ Some d → (e : End) × (end_at f.ends k ≡ Some e) × Gains e d []
      ends_so true = other_changed (put_down (letter m)) conn k f.ends differ
      ends_so false = none_changed k f.ends

  mine_fills : (f : Filled) (m : Envelope) → is_due k (queues.moved quota f.waiting (delivers k m)).due ≡ false → Filling f (queues.moved quota f.waiting (delivers k m)) (delivers k m) (m ∷ [])
  mine_fills f m open_ = by (is_due k f.waiting.due) refl (nat_lt quota (length (queue_of f.waiting.queues k) + length (written m))) refl open_
    where
      w : Waiting
      w = f.waiting

      full_ : Waiting
      full_ = doomed w k (Quota (length (queue_of w.queues k)) (told_length (written m)))

      put : (b : Bool) → b ≡ true → (d : End) → end_at (if b then with_end k (put_down (letter m)) f.ends else f.ends) k ≡ Some d → (e : End) × (end_at f.ends k ≡ Some e) × Gains e d (letter m ∷ [])
      put false h d at = absurd (false_true h)
      put true h d at = sort (with_cases (put_down (letter m)) f.ends k k d at)
        where
          sort : ((e : End) × (end_at f.ends k ≡ Some e) × (((k ≡ k) × (d ≡ put_down (letter m) e)) ⊎ ((k ≡ k → ⊥) × (d ≡ e)))) → (e : End) × (end_at f.ends k ≡ Some e) × Gains e d (letter m ∷ [])
          sort x = case_ x.2
            where
              case_ : (((k ≡ k) × (d ≡ put_down (letter m) x.0)) ⊎ ((k ≡ k → ⊥) × (d ≡ x.0))) → (e : End) × (end_at f.ends k ≡ Some e) × Gains e d (letter m ∷ [])
              case_ (inl s) = (x.0, x.1, subst (λ y. Gains x.0 y (letter m ∷ [])) (sym s.1) (record { whose = refl; standing = refl; down = refl; mark = refl }))
              case_ (inr s) = absurd (s.0 refl)

      size_of : length (written (letter m).said.message) ≡ length (written m)
      size_of = ap (λ x. length (written x)) (plainly m)

      by : (due : Bool) → is_due k w.due ≡ due → (full : Bool) → nat_lt quota (length (queue_of w.queues k) + length (written m)) ≡ full → is_due k (if due then w else if full then full_ else with_more w k m).due ≡ false
          → Fills quota k w.queues (if due then w else if full then full_ else with_more w k m).queues f.ends
          (if grew k w (if due then w else if full then full_ else with_more w k m) then with_end k (put_down (letter m)) f.ends else f.ends) (letter m ∷ [])
      by true h full g a = absurd (true_no_false (is_due k w.due) h a)
      by false h true g a = absurd (true_no_false (is_due k full_.due) (doomed_now w k (Quota (length (queue_of w.queues k)) (told_length (written m)))) a)
      by false h false g a = record {
        ends = put (grew k w (with_more w k m)) (took_more w k m);
        queue = ap length (queue_put w.queues k (queue_of w.queues k ++ written m)) ∙ length-append (queue_of w.queues k) (written m) ∙ last (length (queue_of w.queues k)) (length (written m)) (length (written (letter m).said.message)) size_of;
        fits = (ap (λ n. nat_lt quota (length (queue_of w.queues k) + n)) size_of ∙ g, tt);
      }
        where
          last : (q s t : ℕ) → t ≡ s → q + s ≡ q + (t + 0)
          last q s t h = omega (arith, h)

  one_fills : (f : Filled) (move : Move) → is_due k (queues.moved quota f.waiting move).due ≡ false → Filling f (queues.moved quota f.waiting move) move (given_one k move)
  one_fills f (says e) a = same quota k f.waiting.queues f.waiting.queues f.ends f.ends refl (none_changed k f.ends)
  one_fills f (closes conn) a = same quota k f.waiting.queues (doomed f.waiting conn NotHello).queues f.ends f.ends (ap (λ q. queue_of q k) (doomed_same f.waiting conn NotHello)) (none_changed k f.ends)
  one_fills f (delivers conn m) a = by (conn == k) refl
    where
      by : (b : Bool) → (conn == k) ≡ b → Filling f (queues.moved quota f.waiting (delivers conn m)) (delivers conn m) (if b then m ∷ [] else [])
      by true h =
          let is : k ≡ conn = sym (eqb-true conn k h) in
          subst (λ c. Filling f (queues.moved quota f.waiting (delivers c m)) (delivers c m) (m ∷ [])) is
          (mine_fills f m (subst (λ c. is_due k (queues.moved quota f.waiting (delivers c m)).due ≡ false) (sym is) a))
      by false h = other_fills f conn m (λ s. false_true (sym h ∙ eq-eqb conn k (sym s)))

  stays_due : (w : Waiting) (moves : List Move) → is_due k w.due ≡ true → is_due k (fold (queues.moved quota) w moves).due ≡ true
  stays_due w [] h = h
  stays_due w (move ∷ moves) h = stays_due (queues.moved quota w move) moves (moved_keeps quota w k move h)

  all_fill : (f : Filled) (moves : List Move) → is_due k (fold (queues.moved quota) f.waiting moves).due ≡ false
      → Fills quota k f.waiting.queues (fold (queues.moved quota) f.waiting moves).queues f.ends (fold (moved letter quota) f moves).ends (map letter (given k moves))
  all_fill f [] a = same quota k f.waiting.queues f.waiting.queues f.ends f.ends refl (none_changed k f.ends)
  all_fill f (move ∷ moves) a =
      subst (Fills quota k f.waiting.queues (fold (queues.moved quota) f.waiting (move ∷ moves)).queues f.ends (fold (moved letter quota) f (move ∷ moves)).ends) (sym (map_both (given_one k move) (given k moves)))
      (both quota k f.waiting.queues (queues.moved quota f.waiting move).queues (fold (queues.moved quota) f.waiting (move ∷ moves)).queues f.ends (moved letter quota f move).ends (fold (moved letter quota) f (move ∷ moves)).ends
      (map letter (given_one k move)) (map letter (given k moves)) (one_fills f move (at (is_due k (queues.moved quota f.waiting move).due) refl)) (all_fill (moved letter quota f move) moves a))
    where
      at : (b : Bool) → is_due k (queues.moved quota f.waiting move).due ≡ b → b ≡ false
      at false h = refl
      at true h = absurd (true_no_false (is_due k (fold (queues.moved quota) f.waiting (move ∷ moves)).due) (stays_due (queues.moved quota f.waiting move) moves h) a)

      map_both : (xs ys : List Envelope) → map letter (xs ++ ys) ≡ map letter xs ++ map letter ys
      map_both [] ys = refl
      map_both (x ∷ xs) ys = ap (λ l. letter x ∷ l) (map_both xs ys)

-- A STEP, and one that leaves
stepped_fills : (letter : Envelope → Letter) → ((m : Envelope) → (letter m).said.message ≡ m) → (k : ℕ) (c : Carried) (step : BusStep) → is_due k (stepped letter c step).bus.waiting.due ≡ false
    → Fills c.bus.quota k c.bus.waiting.queues (stepped letter c step).bus.waiting.queues c.ends (stepped letter c step).ends (map letter (given k step.moves))
stepped_fills letter p k c step a = all_fill letter p c.bus.quota k (record { waiting = c.bus.waiting; ends = c.ends }) step.moves a

own_plain : (m : Envelope) → (own_letter m).said.message ≡ m
own_plain m = refl

letter_plain : (who : Party) (said : Said) (m : Envelope) → (letter_of who said m).said.message ≡ m
letter_plain who said m = by (is_text m.sender own_name)
  where
    by : (b : Bool) → (if b then own_letter m else record { from = who; said = record said { message = m } }).said.message ≡ m
    by true = refl
    by false = refl

left_fills : (k : ℕ) (c : Carried) (conn : ℕ) → (k ≡ conn → ⊥) → is_due k (left c conn).bus.waiting.due ≡ false
    → Fills c.bus.quota k c.bus.waiting.queues (left c conn).bus.waiting.queues c.ends (left c conn).ends (map own_letter (given k (bus_leaves c.bus.state conn).moves))
left_fills k c conn differ a =
    let base : Carried = record { bus = record c.bus { waiting = without_queue c.bus.waiting conn }; ends = with_end conn leaves c.ends } in
    both c.bus.quota k c.bus.waiting.queues (without_queue c.bus.waiting conn).queues (left c conn).bus.waiting.queues c.ends base.ends (left c conn).ends [] (map own_letter (given k (bus_leaves c.bus.state conn).moves))
    (same c.bus.quota k c.bus.waiting.queues (without_queue c.bus.waiting conn).queues c.ends base.ends (queue_stays c.bus.waiting.queues conn k differ) (other_changed leaves conn k c.ends differ))
    (stepped_fills own_letter own_plain k base (bus_leaves c.bus.state conn) a)

-- WHO IS DUE is closed, or still due
abbrev pub Open : ℕ → Carried → Type 0
Open k c = (list_any (is_of k) c.bus.closings ≡ false) × (is_due k c.bus.waiting.due ≡ false)

closed_stays : (k n : ℕ) (c : Carried) → list_any (is_of k) c.bus.closings ≡ true → list_any (is_of k) (settled n c).bus.closings ≡ true
closed_stays k zero c h = h
closed_stays k (suc n) c h = closed_stays k n (one_closed c c.bus.waiting.due) (by c.bus.waiting.due)
  where
    by : (due : List (ℕ × Why)) → list_any (is_of k) (one_closed c due).bus.closings ≡ true
    by [] = h
    by (first ∷ rest) = any_more k c.bus.closings (record { conn = first.0; why = first.1; after = c.bus.state.next - 1 } ∷ []) h

one_keeps_due : (k : ℕ) (c : Carried) (due : List (ℕ × Why)) → c.bus.waiting.due ≡ due → is_due k due ≡ true → (list_any (is_of k) (one_closed c due).bus.closings ≡ true) ⊎ (is_due k (one_closed c due).bus.waiting.due ≡ true)
one_keeps_due k c [] is h = absurd (false_true h)
one_keeps_due k c (first ∷ rest) is h = by (first.0 == k) refl
  where
    closing : Closing
    closing = record { conn = first.0; why = first.1; after = c.bus.state.next - 1 }

    by : (b : Bool) → (first.0 == k) ≡ b → (list_any (is_of k) (c.bus.closings ++ closing ∷ []) ≡ true) ⊎ (is_due k (left c first.0).bus.waiting.due ≡ true)
    by true g = inl (any_last k c.bus.closings closing g)
    by false g =
        inr (stays_due own_letter own_plain c.bus.quota k (without_queue c.bus.waiting first.0) (bus_leaves c.bus.state first.0).moves
        (rest_due k first.0 c.bus.waiting.due (λ s. false_true (sym g ∙ eq-eqb first.0 k (sym s))) (ap (is_due k) is ∙ h)))

due_or_closed : (k n : ℕ) (c : Carried) → is_due k c.bus.waiting.due ≡ true → (list_any (is_of k) (settled n c).bus.closings ≡ true) ⊎ (is_due k (settled n c).bus.waiting.due ≡ true)
due_or_closed k zero c h = inr h
due_or_closed k (suc n) c h = by (one_keeps_due k c c.bus.waiting.due refl h) (λ g. due_or_closed k n (one_closed c c.bus.waiting.due) g)
  where
    by : (list_any (is_of k) (one_closed c c.bus.waiting.due).bus.closings ≡ true) ⊎ (is_due k (one_closed c c.bus.waiting.due).bus.waiting.due ≡ true)
        → (is_due k (one_closed c c.bus.waiting.due).bus.waiting.due ≡ true → (list_any (is_of k) (settled n (one_closed c c.bus.waiting.due)).bus.closings ≡ true) ⊎ (is_due k (settled n (one_closed c c.bus.waiting.due)).bus.waiting.due ≡ true))
        → (list_any (is_of k) (settled n (one_closed c c.bus.waiting.due)).bus.closings ≡ true) ⊎ (is_due k (settled n (one_closed c c.bus.waiting.due)).bus.waiting.due ≡ true)
    by (inl g) ih = inl (closed_stays k n (one_closed c c.bus.waiting.due) g)
    by (inr g) ih = ih g

open_before : (k n : ℕ) (c : Carried) → Open k (settled n c) → Open k c
open_before k n c o = (at (list_any (is_of k) c.bus.closings) refl, by (is_due k c.bus.waiting.due) refl)
  where
    at : (b : Bool) → list_any (is_of k) c.bus.closings ≡ b → b ≡ false
    at false h = refl
    at true h = absurd (true_no_false (list_any (is_of k) (settled n c).bus.closings) (closed_stays k n c h) o.0)

    by : (b : Bool) → is_due k c.bus.waiting.due ≡ b → b ≡ false
    by false h = refl
    by true h = sort (due_or_closed k n c h)
      where
        sort : (list_any (is_of k) (settled n c).bus.closings ≡ true) ⊎ (is_due k (settled n c).bus.waiting.due ≡ true) → true ≡ false
        sort (inl g) = absurd (true_no_false (list_any (is_of k) (settled n c).bus.closings) g o.0)
        sort (inr g) = absurd (true_no_false (is_due k (settled n c).bus.waiting.due) g o.1)

-- THE COURSE of closings, as one that is not closed sees it
abbrev pub first_given : ℕ → Carried → List (ℕ × Why) → List Envelope
first_given k c [] = []
first_given k c (first ∷ rest) = given k (bus_leaves c.bus.state first.0).moves

abbrev pub course_given : ℕ → ℕ → Carried → List Envelope
course_given k zero c = []
course_given k (suc n) c = first_given k c c.bus.waiting.due ++ course_given k n (one_closed c c.bus.waiting.due)

map_more : (xs ys : List Envelope) → map own_letter (xs ++ ys) ≡ map own_letter xs ++ map own_letter ys
map_more [] ys = refl
map_more (x ∷ xs) ys = ap (λ l. own_letter x ∷ l) (map_more xs ys)

one_closed_fills : (k : ℕ) (c : Carried) (due : List (ℕ × Why)) → Open k (one_closed c due) → Fills c.bus.quota k c.bus.waiting.queues (one_closed c due).bus.waiting.queues c.ends (one_closed c due).ends (map own_letter (first_given k c due))
one_closed_fills k c [] o = same c.bus.quota k c.bus.waiting.queues c.bus.waiting.queues c.ends c.ends refl (none_changed k c.ends)
one_closed_fills k c (first ∷ rest) o =
    left_fills k c first.0
    (λ s. true_no_false (list_any (is_of k) (one_closed c (first ∷ rest)).bus.closings) (any_last k c.bus.closings (record { conn = first.0; why = first.1; after = c.bus.state.next - 1 }) (eq-eqb first.0 k (sym s))) o.0) o.1

same_quota : (c : Carried) (due : List (ℕ × Why)) → (one_closed c due).bus.quota ≡ c.bus.quota
same_quota c [] = refl
same_quota c (first ∷ rest) = refl

settled_fills : (k n : ℕ) (c : Carried) → Open k (settled n c) → Fills c.bus.quota k c.bus.waiting.queues (settled n c).bus.waiting.queues c.ends (settled n c).ends (map own_letter (course_given k n c))
settled_fills k zero c o = same c.bus.quota k c.bus.waiting.queues c.bus.waiting.queues c.ends c.ends refl (none_changed k c.ends)
settled_fills k (suc n) c o =
    let due : List (ℕ × Why) = c.bus.waiting.due in
    let d : Carried = one_closed c due in
    subst (Fills c.bus.quota k c.bus.waiting.queues (settled n d).bus.waiting.queues c.ends (settled n d).ends) (sym (map_more (first_given k c due) (course_given k n d)))
    (both c.bus.quota k c.bus.waiting.queues d.bus.waiting.queues (settled n d).bus.waiting.queues c.ends d.ends (settled n d).ends (map own_letter (first_given k c due)) (map own_letter (course_given k n d))
    (one_closed_fills k c due (open_before k n d o))
    (subst (λ q. Fills q k d.bus.waiting.queues (settled n d).bus.waiting.queues d.ends (settled n d).ends (map own_letter (course_given k n d))) (same_quota c due) (settled_fills k n d o)))

-- THE BUS TAKES a message, or an end
abbrev pub after_step : Carried → ℕ → Party → Said → Carried
after_step c conn who said =
    with_name conn (stepped (letter_of who said) (record c { ends = with_end conn taken_up c.ends }) (bus_takes c.bus.state conn said.message (rule_in said.message)))

abbrev pub takes_letters : ℕ → Carried → ℕ → Party → Said → List Letter
takes_letters k c conn who said =
    map (letter_of who said) (given k (bus_takes c.bus.state conn said.message (rule_in said.message)).moves) ++ map own_letter (course_given k (length c.bus.state.joined) (after_step c conn who said))

pub takes_fills : (k : ℕ) (c : Carried) (conn : ℕ) (who : Party) (said : Said) → Open k (takes c conn who said)
    → Fills c.bus.quota k c.bus.waiting.queues (takes c conn who said).bus.waiting.queues c.ends (takes c conn who said).ends (takes_letters k c conn who said)
takes_fills k c conn who said o =
    let a : Carried = record c { ends = with_end conn taken_up c.ends } in
    let step : BusStep = bus_takes c.bus.state conn said.message (rule_in said.message) in
    let b : Carried = stepped (letter_of who said) a step in
    let d : Carried = with_name conn b in
    let all : Carried = takes c conn who said in
    let before : Open k d = open_before k (length c.bus.state.joined) d o in
    let ls : List Letter = map (letter_of who said) (given k step.moves) in
    both c.bus.quota k c.bus.waiting.queues d.bus.waiting.queues all.bus.waiting.queues c.ends d.ends all.ends ls (map own_letter (course_given k (length c.bus.state.joined) d))
    (subst (Fills c.bus.quota k c.bus.waiting.queues d.bus.waiting.queues c.ends d.ends) (append-nil ls)
    (both c.bus.quota k c.bus.waiting.queues b.bus.waiting.queues d.bus.waiting.queues c.ends b.ends d.ends ls []
    (both c.bus.quota k c.bus.waiting.queues c.bus.waiting.queues b.bus.waiting.queues c.ends a.ends b.ends [] ls
    (same c.bus.quota k c.bus.waiting.queues c.bus.waiting.queues c.ends a.ends refl (plainly_changed taken_up (λ e. record { whose = refl; standing = refl; down = sym (append-nil e.down); mark = refl }) conn k c.ends))
    (stepped_fills (letter_of who said) (letter_plain who said) k a step before.1))
    (same c.bus.quota k b.bus.waiting.queues d.bus.waiting.queues b.ends d.ends refl (plainly_changed (named b.bus conn) (λ e. record { whose = refl; standing = refl; down = sym (append-nil e.down); mark = refl }) conn k b.ends))))
    (settled_fills k (length c.bus.state.joined) d o)

abbrev pub ends_letters : ℕ → Carried → ℕ → List Letter
ends_letters k c conn = map own_letter (given k (bus_leaves c.bus.state conn).moves) ++ map own_letter (course_given k (length c.bus.state.joined) (left c conn))

pub ends_fills : (k : ℕ) (c : Carried) (conn : ℕ) → (k ≡ conn → ⊥) → Open k (takes_end c conn)
    → Fills c.bus.quota k c.bus.waiting.queues (takes_end c conn).bus.waiting.queues c.ends (takes_end c conn).ends (ends_letters k c conn)
ends_fills k c conn differ o =
    let d : Carried = left c conn in
    both c.bus.quota k c.bus.waiting.queues d.bus.waiting.queues (takes_end c conn).bus.waiting.queues c.ends d.ends (takes_end c conn).ends (map own_letter (given k (bus_leaves c.bus.state conn).moves))
    (map own_letter (course_given k (length c.bus.state.joined) d))
    (left_fills k c conn differ (open_before k (length c.bus.state.joined) d o).1) (settled_fills k (length c.bus.state.joined) d o)
