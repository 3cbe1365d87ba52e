-- WHAT THE BUS HANDS to ends that are here: what was delivered to one is what it took and what lies on its link, as long as it is not to be closed.
use Rattle.std.proofs.Common.{◌≡◌, ◌⊎◌, inl, inr, ℕ, zero, suc, ◌+◌, ◌-◌, ◌<◌, Bool, true, false, List, [], ◌∷◌, ◌++◌, length, Option, None, Some, refl, sym, ap, ap₂, ◌∙◌, subst, arith, cond, length-append}
use Rattle.std.specs.Prelude.{filter, filter_map, nat_lt, option_map, slice_get, if◌then◌else◌}
use Rattle.std.specs.List.{fold, cons_option}
use Rattle.std.specs.FinMap as finmap
use Rattle.std.specs.FinMap.{FinMap}
use Rattle.std.specs.Ordering.{nat_cmp}
use Rattle.std.proofs.lemmas.Bool.{lt-ltb, ltb-true}
use Rattle.std.proofs.lemmas.List.{append-nil, append_assoc}
use Rattle.atspi_script_lines.specs.declared.line.Party.{Party}
use Rattle.atspi_script_lines.specs.declared.line.Party.TheVariants.{Bus as The_bus}
use Rattle.atspi_message.specs.Envelope.{Envelope}
use Rattle.atspi_message.specs.Bytes.{written}
use Rattle.atspi_names.specs.Owners.{own_name}
use Rattle.atspi_match.specs.declared.routing.closing.Why.{Why}
use Rattle.atspi_match.specs.declared.routing.closing.Why.TheVariants.{NotHello, Quota}
use Rattle.atspi_match.specs.routing.Members.{is_text}
use Rattle.atspi_match.specs.routing.Steps.{Move, says, delivers, closes}
use Rattle.atspi_match.specs.routing.Queues as queues
use Rattle.atspi_match.specs.routing.Queues.{Waiting, queue_of, is_due, doomed, told_length}
use Rattle.atspi_trace.specs.World.{here, Letter, End}
use Rattle.atspi_trace.specs.Ends.{end_at, with_end, put_down}
use Rattle.atspi_trace.specs.Carrying.{Filled, grew, moved as moved_on}
use Rattle.atspi_headline.specs.Words.{Act, is_same, ends}
use Rattle.atspi_headline.specs.Links.{size, sizes, moved, Delivery, delivery_to, delivery_in, letters, passes, is_to}
use Rattle.atspi_trace_laws.proofs.OfOrder.Parties.{no_none, same_some, false_true}
use Rattle.atspi_trace_laws.proofs.OfOrder.Frame.{with_cases}
use Rattle.atspi_headline_laws.proofs.Joining.{parties}
use Rattle.atspi_headline_links.proofs.Sizes.{Mail, IsBegun, some, begun_more, sizes_both}
use Rattle.atspi_headline_links.proofs.Moved.{itself, another}
use Rattle.atspi_headline_links.proofs.Gots.{downs_of, downs}
use Rattle.atspi_headline_links.proofs.Routed.{filter_more, letters_more, AllIn, in_more}
use Rattle.atspi_headline_links.proofs.Queues.{queue_here, queue_there, doomed_before, doomed_due, doomed_queues}

-- THE TIE of an end
pub record DownTie (quota : ℕ) (ds : List Delivery) (mark waits : ℕ) (e : End) : Type 0 where
  pub took : Mail
  pub link : letters (filter (is_to e.who) ds) ≡ took ++ downs e
  pub marked : mark ≡ sizes took + e.down_moved
  pub all_in : AllIn quota [] (filter (is_to e.who) ds)
  pub begun : IsBegun e.down_moved (downs e)
  pub queue : waits + e.down_moved ≡ sizes (downs e)

downs_both : (xs ys : List Letter) → downs_of (xs ++ ys) ≡ downs_of xs ++ downs_of ys
downs_both [] ys = refl
downs_both (x ∷ xs) ys = ap (λ l. (x.from, x.said.message) ∷ l) (downs_both xs ys)

-- a delivery more, which its quota lets in
put_tie : (quota : ℕ) (ds : List Delivery) (mark waits : ℕ) (e : End) (d : Delivery) (letter : Letter) → d.to ≡ e.who → d.mark ≡ mark → (d.from ≡ letter.from) → (d.letter ≡ letter.said.message) → nat_lt quota (waits + size letter.said.message) ≡ false
    → DownTie quota ds mark waits e → DownTie quota (ds ++ d ∷ []) mark (waits + size letter.said.message) (put_down letter e)
put_tie quota ds mark waits e d letter to at from is fits t = record {
  took = t.took;
  link = ap letters one_more ∙ letters_more mine (d ∷ []) ∙ ap₂ (λ x y. x ++ y ∷ []) t.link (ap₂ (λ p m. (p, m)) from is) ∙ append_assoc t.took (downs e) ((letter.from, letter.said.message) ∷ [])
      ∙ ap (λ l. t.took ++ l) (sym (downs_both e.down (letter ∷ [])));
  marked = t.marked;
  all_in = subst (AllIn quota []) (sym one_more) (in_more quota [] mine d t.all_in passes_not);
  begun = subst (IsBegun e.down_moved) (sym (downs_both e.down (letter ∷ []))) (begun_more e.down_moved (downs e) (downs_of (letter ∷ [])) t.begun);
  queue = sum waits e.down_moved (sizes (downs e)) (size letter.said.message) t.queue ∙ sym (ap sizes (downs_both e.down (letter ∷ [])) ∙ sizes_both (downs e) (downs_of (letter ∷ [])));
}
  where
    mine : List Delivery
    mine = filter (is_to e.who) ds

    it_is : is_to e.who d ≡ true
    it_is = ap (λ p. is_same p e.who) to ∙ itself e.who

    one_more : filter (is_to e.who) (ds ++ d ∷ []) ≡ mine ++ d ∷ []
    one_more = filter_more (is_to e.who) ds (d ∷ []) ∙ ap (λ b. mine ++ cond b (d ∷ []) []) it_is

    sum : (w m s z : ℕ) → w + m ≡ s → (w + z) + m ≡ s + (z + 0)
    sum w m s z h = omega (arith, h)

    room : (all m s k w : ℕ) → all ≡ s + k → m ≡ s + e.down_moved → w + e.down_moved ≡ k → all - m ≡ w
    room all m s k w h1 h2 h3 = omega (arith, h1, h2, h3)

    passes_not : passes quota mine d ≡ false
    passes_not =
        ap₂ (λ n x. nat_lt quota ((sizes (letters mine) - n) + size x)) at is
        ∙ ap (λ n. nat_lt quota (n + size letter.said.message))
        (room (sizes (letters mine)) mark (sizes t.took) (sizes (downs e)) waits (ap sizes t.link ∙ sizes_both t.took (downs e)) t.marked t.queue)
        ∙ fits

-- a delivery to another
other_tie : (quota : ℕ) (ds more : List Delivery) (mark waits : ℕ) (e : End) → filter (is_to e.who) more ≡ [] → DownTie quota ds mark waits e → DownTie quota (ds ++ more) mark waits e
other_tie quota ds more mark waits e none t =
    let same : filter (is_to e.who) (ds ++ more) ≡ filter (is_to e.who) ds = filter_more (is_to e.who) ds more ∙ ap (λ l. filter (is_to e.who) ds ++ l) none ∙ append-nil (filter (is_to e.who) ds) in
    record { took = t.took; link = ap letters same ∙ t.link; marked = t.marked; all_in = subst (AllIn quota []) (sym same) t.all_in; begun = t.begun; queue = t.queue }

-- no queue is longer than itself
not_grown : (n : ℕ) → nat_lt n n ≡ false
not_grown n = by (nat_lt n n) refl
  where
    by : (b : Bool) → nat_lt n n ≡ b → b ≡ false
    by true e = let more = ltb-true n n e in absurd (omega (arith, more))
    by false e = refl

-- whose ends there are stays
pub put_parties : (conn : ℕ) (l : Letter) (es : List End) → parties (with_end conn (put_down l) es) ≡ parties es
put_parties conn l [] = refl
put_parties zero l (e ∷ es) = refl
put_parties (suc conn) l (e ∷ es) = ap (λ ps. e.who ∷ ps) (put_parties conn l es)

if_parties : (b : Bool) (conn : ℕ) (l : Letter) (es : List End) → parties (if b then with_end conn (put_down l) es else es) ≡ parties es
if_parties true conn l es = put_parties conn l es
if_parties false conn l es = refl

pub step_parties : (letter : Envelope → Letter) (quota : ℕ) (moves : List Move) (f : Filled) → parties (fold (moved_on letter quota) f moves).ends ≡ parties f.ends
step_parties letter quota [] f = refl
step_parties letter quota (says m ∷ moves) f = step_parties letter quota moves f
step_parties letter quota (closes conn ∷ moves) f = step_parties letter quota moves (moved_on letter quota f (closes conn))
step_parties letter quota (delivers conn m ∷ moves) f =
    let g : Filled = moved_on letter quota f (delivers conn m) in
    step_parties letter quota moves g ∙ if_parties (grew conn f.waiting g.waiting) conn (letter m) f.ends

-- THE MOVES of a step, of an act behind these acts
module _ (before : List Act) (sender : Party) (letter : Envelope → Letter) (quota : ℕ)
    (from_is : (m : Envelope) → (if is_text m.sender own_name then The_bus else sender) ≡ (letter m).from) (message_is : (m : Envelope) → m ≡ (letter m).said.message) where
  abbrev pub Tied : List Delivery → Waiting → List End → Type 0
  Tied ds w es = (k : ℕ) (e : End) → end_at es k ≡ Some e → e.standing ≡ here → is_due k w.due ≡ false → DownTie quota ds (moved before e.who false) (length (queue_of w.queues k)) e

  abbrev Apart : List End → Type 0
  Apart es = (j k : ℕ) (d e : End) → end_at es j ≡ Some d → end_at es k ≡ Some e → d.who ≡ e.who → j ≡ k

  party_there : (es : List End) (k : ℕ) (e : End) → end_at es k ≡ Some e → slice_get (parties es) k ≡ Some e.who
  party_there [] k e h = absurd (no_none e h)
  party_there (x ∷ xs) zero e h = ap (λ (y : End). Some y.who) (same_some x e h)
  party_there (x ∷ xs) (suc k) e h = party_there xs k e h

  end_behind : (es : List End) (k : ℕ) (p : Party) → slice_get (parties es) k ≡ Some p → (e : End) × (end_at es k ≡ Some e) × (e.who ≡ p)
  end_behind [] k p h = absurd (no_none p h)
  end_behind (x ∷ xs) zero p h = (x, refl, same_some x.who p h)
  end_behind (x ∷ xs) (suc k) p h = end_behind xs k p h

  delivered : ℕ → Envelope → List Delivery
  delivered conn m = cons_option (delivery_in before sender (delivers conn m)) []

  none_for : (es : List End) (conn k : ℕ) (m : Envelope) (e : End) → Apart es → parties es ≡ ends before → end_at es k ≡ Some e → (k ≡ conn → ⊥) → filter (is_to e.who) (cons_option (option_map (delivery_to before sender m) (slice_get (ends before) conn)) []) ≡ []
  none_for es conn k m e one same h differ = by (slice_get (ends before) conn) refl
    where
      by : (o : Option Party) → slice_get (ends before) conn ≡ o → filter (is_to e.who) (cons_option (option_map (delivery_to before sender m) o) []) ≡ []
      by None g = refl
      by (Some to) g =
          let x = end_behind es conn to (ap (λ l. slice_get l conn) same ∙ g) in
          ap (λ b. cond b (delivery_to before sender m to ∷ []) []) (another to e.who (λ is. differ (sym (one conn k x.0 e x.1 h (x.2 ∙ is)))))

  one_for : (es : List End) (k : ℕ) (m : Envelope) (e : End) → parties es ≡ ends before → end_at es k ≡ Some e → cons_option (option_map (delivery_to before sender m) (slice_get (ends before) k)) [] ≡ delivery_to before sender m e.who ∷ []
  one_for es k m e same h = ap (λ o. cons_option (option_map (delivery_to before sender m) o) []) (ap (λ l. slice_get l k) (sym same) ∙ party_there es k e h)

  -- one delivery, by what becomes of the queue
  same_ends : (k : ℕ) (m : Envelope) (w after : Waiting) (es : List End) → after.queues ≡ w.queues → (if grew k w after then with_end k (put_down (letter m)) es else es) ≡ es
  same_ends k m w after es same = ap (λ b. if b then with_end k (put_down (letter m)) es else es) (ap (λ q. nat_lt (length (queue_of w.queues k)) (length (queue_of q k))) same ∙ not_grown (length (queue_of w.queues k)))

  delivers_tied : (ds : List Delivery) (w : Waiting) (es : List End) (conn : ℕ) (m : Envelope) → Apart es → parties es ≡ ends before → Tied ds w es
      → Tied (ds ++ cons_option (option_map (delivery_to before sender m) (slice_get (ends before) conn)) []) (queues.queued quota w conn (written m)) (if grew conn w (queues.queued quota w conn (written m)) then with_end conn (put_down (letter m)) es else es)
  delivers_tied ds w es conn m one same t = by (is_due conn w.due) refl (nat_lt quota (length (queue_of w.queues conn) + length (written m))) refl
    where
      more : List Delivery
      more = cons_option (option_map (delivery_to before sender m) (slice_get (ends before) conn)) []

      after : Bool → Bool → Waiting
      after due full =
          if due then w else if full then doomed w conn (Quota (length (queue_of w.queues conn)) (told_length (written m)))
          else record w { queues = finmap.insert w.queues conn (queue_of w.queues conn ++ written m) }

      -- it is not put
      kept_so : (v : Waiting) → v.queues ≡ w.queues → (is_due conn v.due ≡ false → ⊥) → ((k : ℕ) → is_due k v.due ≡ false → is_due k w.due ≡ false) → Tied (ds ++ more) v (if grew conn w v then with_end conn (put_down (letter m)) es else es)
      kept_so v queues_same due_now due_before k e h st not_due =
          let there : end_at es k ≡ Some e = ap (λ l. end_at l k) (sym (same_ends conn m w v es queues_same)) ∙ h in
          subst (λ q. DownTie quota (ds ++ more) (moved before e.who false) (length (queue_of q k)) e) (sym queues_same)
          (other_tie quota ds more (moved before e.who false) (length (queue_of w.queues k)) e
          (none_for es conn k m e one same there (λ at. due_now (subst (λ j. is_due j v.due ≡ false) at not_due))) (t k e there st (due_before k not_due)))

      -- it is put
      put_so : nat_lt quota (length (queue_of w.queues conn) + length (written m)) ≡ false → Tied (ds ++ more) (record w { queues = finmap.insert w.queues conn (queue_of w.queues conn ++ written m) })
          (if grew conn w (record w { queues = finmap.insert w.queues conn (queue_of w.queues conn ++ written m) }) then with_end conn (put_down (letter m)) es else es)
      put_so fits k e h st not_due =
          by_case (with_cases (put_down (letter m)) es conn k e (ap (λ l. end_at l k) (sym grown) ∙ h))
        where
          q : FinMap nat_cmp (List ℕ)
          q = finmap.insert w.queues conn (queue_of w.queues conn ++ written m)

          long : length (queue_of q conn) ≡ length (queue_of w.queues conn) + size m
          long = ap length (queue_here w.queues conn (queue_of w.queues conn ++ written m)) ∙ length-append (queue_of w.queues conn) (written m)

          longer : length (queue_of w.queues conn) < length (queue_of q conn)
          longer = let s = some m in omega (arith, long, s)

          grown : (if grew conn w (record w { queues = finmap.insert w.queues conn (queue_of w.queues conn ++ written m) }) then with_end conn (put_down (letter m)) es else es) ≡ with_end conn (put_down (letter m)) es
          grown = ap (λ b. if b then with_end conn (put_down (letter m)) es else es) (lt-ltb (length (queue_of w.queues conn)) (length (queue_of q conn)) longer)

          its : (x : End) → end_at es conn ≡ Some x → e ≡ put_down (letter m) x → k ≡ conn → DownTie quota (ds ++ more) (moved before e.who false) (length (queue_of q k)) e
          its x there is at =
              let old : DownTie quota ds (moved before x.who false) (length (queue_of w.queues conn)) x = t conn x there (ap (λ (y : End). y.standing) (sym is) ∙ st) (subst (λ j. is_due j w.due ≡ false) at not_due) in
              let size_is : size m ≡ size (letter m).said.message = ap size (message_is m) in
              let now : DownTie quota (ds ++ delivery_to before sender m x.who ∷ []) (moved before x.who false) (length (queue_of w.queues conn) + size (letter m).said.message) (put_down (letter m) x) =
              put_tie quota ds (moved before x.who false) (length (queue_of w.queues conn)) x (delivery_to before sender m x.who) (letter m) refl refl (from_is m) (message_is m)
              (ap (λ z. nat_lt quota (length (queue_of w.queues conn) + z)) (sym size_is) ∙ fits) old in
              subst (λ (y : End). DownTie quota (ds ++ more) (moved before y.who false) (length (queue_of q k)) y) (sym is)
              (subst (λ l. DownTie quota (ds ++ l) (moved before x.who false) (length (queue_of q k)) (put_down (letter m) x)) (sym (one_for es conn m x same there))
              (subst (λ z. DownTie quota (ds ++ delivery_to before sender m x.who ∷ []) (moved before x.who false) z (put_down (letter m) x))
              (ap (λ z. length (queue_of w.queues conn) + z) (sym size_is) ∙ sym long ∙ ap (λ j. length (queue_of q j)) (sym at)) now))

          theirs : (x : End) → end_at es k ≡ Some x → e ≡ x → (k ≡ conn → ⊥) → DownTie quota (ds ++ more) (moved before e.who false) (length (queue_of q k)) e
          theirs x there is differ =
              let mine : end_at es k ≡ Some e = there ∙ ap Some (sym is) in
              subst (λ l. DownTie quota (ds ++ more) (moved before e.who false) (length l) e) (sym (queue_there w.queues conn k (queue_of w.queues conn ++ written m) differ))
              (other_tie quota ds more (moved before e.who false) (length (queue_of w.queues k)) e (none_for es conn k m e one same mine differ) (t k e mine st not_due))

          by_case : ((x : End) × (end_at es k ≡ Some x) × (((k ≡ conn) × (e ≡ put_down (letter m) x)) ⊎ ((k ≡ conn → ⊥) × (e ≡ x)))) → DownTie quota (ds ++ more) (moved before e.who false) (length (queue_of q k)) e
          by_case x = of x.2
            where
              of : (((k ≡ conn) × (e ≡ put_down (letter m) x.0)) ⊎ ((k ≡ conn → ⊥) × (e ≡ x.0))) → DownTie quota (ds ++ more) (moved before e.who false) (length (queue_of q k)) e
              of (inl c) = its x.0 (ap (end_at es) (sym c.0) ∙ x.1) c.1 c.0
              of (inr c) = theirs x.0 x.1 c.1 c.0

      by : (due : Bool) → is_due conn w.due ≡ due → (full : Bool) → nat_lt quota (length (queue_of w.queues conn) + length (written m)) ≡ full
          → Tied (ds ++ more) (queues.queued quota w conn (written m)) (if grew conn w (queues.queued quota w conn (written m)) then with_end conn (put_down (letter m)) es else es)
      by due d full f =
          subst (λ (v : Waiting). Tied (ds ++ more) v (if grew conn w v then with_end conn (put_down (letter m)) es else es)) (sym (queued_is due d full f)) (at due d full f)
        where
          queued_is : (due : Bool) → is_due conn w.due ≡ due → (full : Bool) → nat_lt quota (length (queue_of w.queues conn) + length (written m)) ≡ full → queues.queued quota w conn (written m) ≡ after due full
          queued_is due d full f =
              ap₂ (λ x y. if x then w else if y then doomed w conn (Quota (length (queue_of w.queues conn)) (told_length (written m)))
              else record w { queues = finmap.insert w.queues conn (queue_of w.queues conn ++ written m) }) d f

          at : (due : Bool) → is_due conn w.due ≡ due → (full : Bool) → nat_lt quota (length (queue_of w.queues conn) + length (written m)) ≡ full
              → Tied (ds ++ more) (after due full) (if grew conn w (after due full) then with_end conn (put_down (letter m)) es else es)
          at true d full f = kept_so w refl (λ h. false_true (sym h ∙ d)) (λ k h. h)
          at false d true f =
              let why : Why = Quota (length (queue_of w.queues conn)) (told_length (written m)) in
              kept_so (doomed w conn why) (doomed_queues w conn why) (doomed_due w conn why) (λ k h. doomed_before w conn k why h)
          at false d false f = put_so f

  -- one that closes
  closes_tied : (ds : List Delivery) (w : Waiting) (es : List End) (conn : ℕ) (why : Why) → Tied ds w es → Tied ds (doomed w conn why) es
  closes_tied ds w es conn why t k e h st not_due =
      subst (λ q. DownTie quota ds (moved before e.who false) (length (queue_of q k)) e) (sym (doomed_queues w conn why)) (t k e h st (doomed_before w conn k why not_due))

  cons_both : (o : Option Delivery) (l : List Delivery) → cons_option o l ≡ cons_option o [] ++ l
  cons_both None l = refl
  cons_both (Some d) l = refl

  abbrev pub Distinct : List Party → Type 0
  Distinct ps = (j k : ℕ) (p : Party) → slice_get ps j ≡ Some p → slice_get ps k ≡ Some p → j ≡ k

  apart_of : (es : List End) → Distinct (ends before) → parties es ≡ ends before → Apart es
  apart_of es one same j k d e h g is =
      one j k e.who (ap (λ l. slice_get l j) (sym same) ∙ party_there es j d h ∙ ap Some is) (ap (λ l. slice_get l k) (sym same) ∙ party_there es k e g)

  pub fold_tied : (moves : List Move) (ds : List Delivery) (f : Filled) → Distinct (ends before) → parties f.ends ≡ ends before → Tied ds f.waiting f.ends
      → Tied (ds ++ filter_map (delivery_in before sender) moves) (fold (queues.moved quota) f.waiting moves) (fold (moved_on letter quota) f moves).ends
  fold_tied [] ds f one same t = subst (λ l. Tied l f.waiting f.ends) (sym (append-nil ds)) t
  fold_tied (says m ∷ moves) ds f one same t = fold_tied moves ds f one same t
  fold_tied (closes conn ∷ moves) ds f one same t = fold_tied moves ds (moved_on letter quota f (closes conn)) one same (closes_tied ds f.waiting f.ends conn NotHello t)
  fold_tied (delivers conn m ∷ moves) ds f one same t =
      let o : Option Delivery = option_map (delivery_to before sender m) (slice_get (ends before) conn) in
      let g : Filled = moved_on letter quota f (delivers conn m) in
      let next : Tied (ds ++ cons_option o []) g.waiting g.ends = delivers_tied ds f.waiting f.ends conn m (apart_of f.ends one same) same t in
      subst (λ l. Tied l (fold (queues.moved quota) g.waiting moves) (fold (moved_on letter quota) g moves).ends)
      (append_assoc ds (cons_option o []) (filter_map (delivery_in before sender) moves) ∙ ap (λ l. ds ++ l) (sym (cons_both o (filter_map (delivery_in before sender) moves))))
      (fold_tied moves (ds ++ cons_option o []) g one (if_parties (grew conn f.waiting g.waiting) conn (letter m) f.ends ∙ same) next)
