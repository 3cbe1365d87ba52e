-- Each signal since the last message that a reader took of an application is on its way, along a lawful trace; so what is on its way leads to the tree now.
use Rattle.std.proofs.Common.{◌≡◌, inl, inr, ℕ, zero, suc, ◌+◌, ◌<◌, ◌≤◌, Bool, true, false, cond, not, List, [], ◌∷◌, ◌++◌, length, Option, None, Some, refl, sym, ap, ◌∙◌, subst, arith}
use Rattle.std.specs.Prelude.{nat_lt, filter_map, if◌then◌else◌}
use Rattle.std.specs.List.{AllByRecursion, cons_option, position_or_len}
use Rattle.std.proofs.lemmas.Bool.{ltb-true, ltb-false}
use Rattle.std.proofs.lemmas.Bool.Decides.{nat_tests}
use Rattle.atspi_tree_model.specs.declared.view.Row.{Row}
use Rattle.atspi_tree_model.specs.Forest.{Forest}
use Rattle.atspi_script_lines.specs.declared.line.Line.{Line}
use Rattle.atspi_script_lines.specs.declared.line.Party.{Party}
use Rattle.atspi_script_lines.specs.declared.line.Party.TheVariants.{Bus as The_bus, App, Reader}
use Rattle.atspi_message.specs.Envelope.{Envelope}
use Rattle.atspi_trace.specs.Entry.{Entry}
use Rattle.atspi_trace.specs.World.{a_reader, Holding, Hearer, Said, Letter, End, World}
use Rattle.atspi_trace.specs.Ends.{is_here, same_party, conn_of, end_at, end_if, end_of}
use Rattle.atspi_trace.specs.Hearing.{holding_of}
use Rattle.atspi_trace.specs.Causes.{told_in}
use Rattle.atspi_trace.specs.Due.{begins, after_all, Goes}
use Rattle.atspi_trace_laws.specs.laws.Words.{messages, message, Kept, held}
use Rattle.atspi_trace_laws.specs.laws.NineLaws.{sent_before}
use Rattle.atspi_trace_laws.specs.order.Scripts.{CanAllStand}
use Rattle.atspi_trace_laws.specs.signed.Laws.{IsItsName}
use Rattle.atspi_trace_caches.specs.caches.Caches.{followed}
use Rattle.atspi_trace_caches.specs.caches.Laws.{IsServed}
use Rattle.atspi_trace_caches.specs.ways.Laws.{from_app, down_from, up_of, on_the_way, AllAreThere, LeadsToNow, AreHere, AreAskedSince}
use Rattle.atspi_trace_laws.proofs.OfOrder.Parties.{no_none, same_some, same-party, party-same, false_true, found}
use Rattle.atspi_trace_laws.proofs.OfOrder.Shape.{RoleFits, Shape}
use Rattle.atspi_trace_laws.proofs.OfOrder.Effects.{reader_role}
use Rattle.atspi_trace_laws.proofs.OfOrder.Growing.{Shaped, Nothing, And}
use Rattle.atspi_trace_laws.proofs.OfOrder.Told.{Tells}
use Rattle.atspi_trace_laws.proofs.OfOrder.Acts.{IsActive}
use Rattle.atspi_trace_laws.proofs.OfOrder.Each.{all_map}
use Rattle.atspi_trace_laws.proofs.OfSerials.Numbers.{Numbered}
use Rattle.atspi_trace_laws.proofs.OfSerials.Speaking.{next_of}
use Rattle.atspi_trace_laws.proofs.OfLinks.Ups.{Ups}
use Rattle.atspi_trace_laws.proofs.OfLinks.LawLinks.{IsLinked, Linked, first_unread}
use Rattle.atspi_trace_laws.proofs.OfLinks.TakenInOrder.{Base, links_keep}
use Rattle.atspi_trace_laws.proofs.OfTaken.LawTaken.{Known, Under, Taken, taken_keeps}
use Rattle.atspi_trace_laws.proofs.OfTurns.Turning.{Turns, IsBehind}
use Rattle.atspi_trace_laws.proofs.OfTurns.LawTurns.{Beneath_turns, Turned, turns_keep}
use Rattle.atspi_trace_laws.proofs.OfHeld.Keeping.{SameKept, ReaderIs}
use Rattle.atspi_trace_laws.proofs.OfHeld.LawHeld.{Below_held, Holds, holds_keep}
use Rattle.atspi_trace_laws.proofs.OfQuiet.Here.{Present, LiveHere, present_keeps}
use Rattle.atspi_trace_laws.proofs.OfMissed.Arriving.{On}
use Rattle.atspi_trace_laws.proofs.OfMissed.Delivering.{StandsOn, HeldAll, Delivers}
use Rattle.atspi_trace_laws.proofs.OfMissed.LawMissed.{Under_delivered, delivers_keep}
use Rattle.atspi_trace_caches.proofs.OfWays.LawWays.{on_way, IsKept, on_their_way}
use Rattle.atspi_trace_caches.proofs.OfWays.There.{Rising, HasSerial, next, sent_low, all_there}

-- BOTH LINKS AS ONE LIST
front_has : (s : ℕ) (xs ys : List Said) → HasSerial s xs → HasSerial s (xs ++ ys)
front_has s [] ys h = absurd h
front_has s (x ∷ xs) ys (inl same) = inl same
front_has s (x ∷ xs) ys (inr h) = inr (front_has s xs ys h)

back_has : (s : ℕ) (xs ys : List Said) → HasSerial s ys → HasSerial s (xs ++ ys)
back_has s [] ys h = h
back_has s (x ∷ xs) ys h = inr (back_has s xs ys h)

abbrev Below : ℕ → Said → Type 0
Below n said = said.message.serial < n

ups_rise : (last n : ℕ) (ys : List Said) → last < n → Ups n ys → Rising last ys
ups_rise last n [] less u = tt
ups_rise last n (y ∷ ys) less u = let is : y.message.serial ≡ n = u.0 in (omega (arith, less, is), ups_rise y.message.serial (n + 1) ys (omega (arith, is)) u.1)

both_rise : (last n : ℕ) (xs ys : List Said) → last < n → Rising last xs → AllByRecursion (Below n) xs → Ups n ys → Rising last (xs ++ ys)
both_rise last n [] ys less r b u = ups_rise last n ys less u
both_rise last n (x ∷ xs) ys less r b u = (r.0, both_rise x.message.serial n xs ys b.0 r.1 b.1 u)

ups_have : (n s : ℕ) (ys : List Said) → Ups n ys → n ≤ s → s < n + length ys → HasSerial s ys
ups_have n s [] u low high = absurd (omega (arith, low, high))
ups_have n s (y ∷ ys) u low high = by (nat_lt n s) refl (λ less. ups_have (n + 1) s ys u.1 (omega (arith, less)) (omega (arith, high)))
  where
    is : y.message.serial ≡ n
    is = u.0

    by : (b : Bool) → nat_lt n s ≡ b → (n < s → HasSerial s ys) → HasSerial s (y ∷ ys)
    by true h rest = inr (rest (ltb-true n s h))
    by false h rest = let not_less : s ≤ n = ltb-false n s h in inl (omega (arith, is, low, not_less))

-- THE DOWN LINK
module _ (a : ℕ) where
  abbrev Above : ℕ → Letter → Type 0
  Above last l = l.from ≡ App a → last < l.said.message.serial

  abbrev those : List Letter → List Said
  those ls = filter_map (from_app a) ls

  from_apart : (l : Letter) → l.from ≡ App a → l.from ≡ The_bus → ⊥
  from_apart l h g = false_true (ap (λ p. same_party p (App a)) (sym g ∙ h) ∙ party-same (App a))

  downs_rise : (es : List Entry) (who : Party) (ls : List Letter) (last : ℕ) → Turns es who ls → AllByRecursion (Above last) ls → Rising last (those ls)
  downs_rise es who [] last t b = tt
  downs_rise es who (l ∷ ls) last t b =
      by (same_party l.from (App a)) refl (downs_rise es who ls last t.2 b.1) (λ from. downs_rise es who ls l.said.message.serial t.2 (all_map (IsBehind l) (Above l.said.message.serial) ls (behind from) t.1))
    where
      behind : l.from ≡ App a → (k : Letter) → IsBehind l k → Above l.said.message.serial k
      behind from k i its = i (from_apart k its) (from ∙ sym its)

      by : (c : Bool) → same_party l.from (App a) ≡ c → Rising last (those ls) → (l.from ≡ App a → Rising l.said.message.serial (those ls)) → Rising last (cons_option (if c then Some l.said else None) (those ls))
      by true g rest more = let from : l.from ≡ App a = same-party l.from (App a) g in (b.0 from, more from)
      by false g rest more = rest

  downs_below : (es : List Entry) (who : Party) (ls : List Letter) → Turns es who ls → AllByRecursion (Below (first_unread es (App a))) (those ls)
  downs_below es who [] t = tt
  downs_below es who (l ∷ ls) t = by (same_party l.from (App a)) refl (downs_below es who ls t.2)
    where
      by : (c : Bool) → same_party l.from (App a) ≡ c → AllByRecursion (Below (first_unread es (App a))) (those ls) → AllByRecursion (Below (first_unread es (App a))) (cons_option (if c then Some l.said else None) (those ls))
      by true g rest = let from : l.from ≡ App a = same-party l.from (App a) g in (subst (λ p. l.said.message.serial < first_unread es p) from (t.0 (from_apart l from)).below, rest)
      by false g rest = rest

  downs_have : (s : ℕ) (ls : List Letter) (k : Letter) → On k ls → k.from ≡ App a → k.said.message.serial ≡ s → HasSerial s (those ls)
  downs_have s [] k o from is = absurd o
  downs_have s (l ∷ ls) k o from is = by (same_party l.from (App a)) refl o (λ i. downs_have s ls k i from is)
    where
      by : (c : Bool) → same_party l.from (App a) ≡ c → On k (l ∷ ls) → (On k ls → HasSerial s (those ls)) → HasSerial s (cons_option (if c then Some l.said else None) (those ls))
      by true g (inl same) rest = inl (ap (λ (x : Letter). x.said.message.serial) same ∙ is)
      by true g (inr i) rest = inr (rest i)
      by false g (inl same) rest = absurd (false_true (sym g ∙ ap (λ (x : Letter). same_party x.from (App a)) same ∙ ap (λ p. same_party p (App a)) from ∙ party-same (App a)))
      by false g (inr i) rest = rest i

all_on : (P : Letter → Type 0) (ls : List Letter) → ((l : Letter) → On l ls → P l) → AllByRecursion P ls
all_on P [] f = tt
all_on P (l ∷ ls) f = (f l (inl refl), all_on P ls (λ k o. f k (inr o)))

-- WHO IS HERE IS FOUND
-- a test that fails on the first of some, and finds none of the rest
none_later : (b : Bool) (n k : ℕ) → suc n ≤ cond (not b) (1 + k) 0 → (b ≡ false) × (n ≤ k)
none_later true n k l = absurd (omega arith)
none_later false n k l = (refl, omega arith)

none_passes : (who : Party) (ends : List End) (k : ℕ) (e : End) → length ends ≤ position_or_len (λ (x : End). same_party x.who who) ends → end_at ends k ≡ Some e → e.who ≡ who → ⊥
none_passes who [] k e l there is = no_none e there
none_passes who (x ∷ xs) zero e l there is =
    let later = none_later (same_party x.who who) (length xs) (position_or_len (λ (y : End). same_party y.who who) xs) l in
    false_true (sym later.0 ∙ ap (λ (y : End). same_party y.who who) (same_some x e there) ∙ ap (λ p. same_party p who) is ∙ party-same who)
none_passes who (x ∷ xs) (suc k) e l there is = none_passes who xs k e (none_later (same_party x.who who) (length xs) (position_or_len (λ (y : End). same_party y.who who) xs) l).1 there is

past_all : (n k : ℕ) → cond (nat_lt n k) (Some n) None ≡ None → k ≤ n
past_all n k h = grind (arith, nat_tests)

pub is_found : (w : World) (who : Party) → Shape w → (a : IsActive w who) → end_of w.ends who ≡ Some a.e
is_found w who s a = by (conn_of w.ends who) refl
  where
    same : (e : End) (k : ℕ) → end_at w.ends k ≡ Some e → e.who ≡ who → end_at w.ends k ≡ Some a.e
    same e k h is = ap (end_at w.ends) (s.one k a.conn e a.e h a.there (is ∙ sym a.whose)) ∙ a.there

    by : (o : Option ℕ) → conn_of w.ends who ≡ o → end_if w.ends o ≡ Some a.e
    by None h = absurd (none_passes who w.ends a.conn a.e (past_all (position_or_len (λ (x : End). same_party x.who who) w.ends) (length w.ends) h) a.there a.whose)
    by (Some k) h = let f = found (λ (x : End). same_party x.who who) w.ends k h in same f.0 k f.1 (same-party f.0.who who f.2)

-- WHAT IS ON THE WAY
module _ (es : List Entry) (w : World) (numbers : Numbered es w) (links : Linked es w) (turned : Turned es w) (a : ℕ) (r x : End) (rk xk : ℕ) (r_there : end_at w.ends rk ≡ Some r) (x_there : end_at w.ends xk ≡ Some x) (whose : x.who ≡ App a)
    (stays : is_here x.standing ≡ true) (h : Hearer) (j : Holding) (has : HeldAll es h r.down a j) where
  abbrev n : ℕ
  n = first_unread es (App a)

  abbrev way : List Said
  way = filter_map (from_app a) r.down ++ x.up

  linked : IsLinked n x
  linked = subst (λ p. IsLinked (first_unread es p) x) whose (links.1 xk x x_there stays)

  way_rises : Rising j.last way
  way_rises =
      both_rise j.last n (filter_map (from_app a) r.down) x.up has.taken
      (downs_rise a es r.who r.down j.last (turned.2 rk r r_there) (all_on (Above a j.last) r.down has.before)) (downs_below a es r.who r.down (turned.2 rk r r_there)) linked.ups

  way_has : (s : ℕ) (m : Envelope) → j.last < s → message es (App a) s ≡ Some m → m.kind ≡ 4 → HasSerial s way
  way_has s m above found_ four = by (nat_lt s n) refl
    where
      end : next es numbers.0 [] a ≡ n + length x.up
      end = sym (subst (λ p. next_of x.role ≡ suc (sent_before p + length (messages es p))) whose (numbers.1 xk x x_there)) ∙ linked.total

      low : s < next es numbers.0 [] a
      low = sent_low es numbers.0 [] a s m found_

      by : (b : Bool) → nat_lt s n ≡ b → HasSerial s way
      by true less =
          let y = has.behind s above (ltb-true s n less) in
          let same : y.0 ≡ m = same_some y.0 m (sym y.1 ∙ found_) in
          let on : StandsOn a s r.down = y.2 (ap (λ (z : Envelope). z.kind) same ∙ four) in
          front_has s (filter_map (from_app a) r.down) x.up (downs_have a s r.down on.0 on.1 on.2 on.3)
      by false less = let not_less : n ≤ s = ltb-false s n less in back_has s (filter_map (from_app a) r.down) x.up (ups_have n s x.up linked.ups not_less (omega (arith, low, end)))

-- THE LAWS
module _ (lines : List Line) (trace : List Entry) (can : CanAllStand lines) (g : Goes (begins lines) trace) (none : (after_all (begins lines) trace).owing ≡ []) (w : World) (free : Option ℕ) (state : IsKept trace w free) where
  shape : Shape w
  shape = (state (Shaped (And Base Linked)) links_keep).0

  numbers : Numbered trace w
  numbers = (state (Shaped (And Base Linked)) links_keep).1.0.1

  links : Linked trace w
  links = (state (Shaped (And Base Linked)) links_keep).1.1

  turned : Turned trace w
  turned = (state (Shaped (And Beneath_turns Turned)) turns_keep).1.1

  known : Known trace w
  known = (state (Shaped (And Under Taken)) taken_keeps).1.1.1

  live : LiveHere trace w
  live = (state (Shaped (And (And Nothing Tells) Present)) present_keeps).1.1.1

  readers : (k r : ℕ) (e : End) (h : Hearer) → end_at w.ends k ≡ Some e → e.who ≡ Reader r → e.role ≡ a_reader h → ReaderIs trace r h
  readers = (state (Shaped (And Below_held Holds)) holds_keep).1.1.1

  delivers : Delivers trace w
  delivers = (state (Shaped (And Under_delivered Delivers)) delivers_keep).1.1

  pub all_on_the_way : (name : List ℕ) (reader app : ℕ) → AreHere trace reader app → (k : Kept) → held trace reader app ≡ Some k → AreAskedSince name trace app k.last → AllAreThere name trace app k.last (on_the_way w reader app)
  all_on_the_way name reader app are_here k holds asked = by (holding_of app hearer.0.holds) refl (subst (λ o. SameKept trace app o (holding_of app hearer.0.holds)) holds ((readers r.conn reader r.e hearer.0 r.there r.whose hearer.1).holds app))
    where
      r : IsActive w (Reader reader)
      r = live (Reader reader) (λ h. false_true (ap (λ p. same_party p The_bus) h)) are_here.registry_lives are_here.reader_lives

      x : IsActive w (App app)
      x = live (App app) (λ h. false_true (ap (λ p. same_party p The_bus) h)) are_here.registry_lives are_here.application_lives

      hearer : (h : Hearer) × (r.e.role ≡ a_reader h)
      hearer = reader_role r.e.role reader (subst (λ p. RoleFits p r.e.role) r.whose (shape.roles r.conn r.e r.there))

      way_is : on_the_way w reader app ≡ filter_map (from_app app) r.e.down ++ x.e.up
      way_is = ap (λ o. down_from app o ++ up_of (end_of w.ends (App app))) (is_found w (Reader reader) shape r) ∙ ap (λ o. filter_map (from_app app) r.e.down ++ up_of o) (is_found w (App app) shape x)

      by : (o : Option Holding) → holding_of app hearer.0.holds ≡ o → SameKept trace app (Some k) o → AllAreThere name trace app k.last (on_the_way w reader app)
      by None h same = absurd same
      by (Some j) h same =
          let has : HeldAll trace hearer.0 r.e.down app j = (delivers are_here.registry_lives r.conn reader r.e hearer.0 r.there r.whose hearer.1 r.standing).held app j h in
          all_there trace numbers.0 name app k.last asked (on_the_way w reader app) k.last same.first (subst (λ n. message trace (App app) n ≡ Some same.first) (sym same.last) same.was) (inr refl)
          (subst (Rising k.last) (sym way_is) (subst (λ n. Rising n (filter_map (from_app app) r.e.down ++ x.e.up)) (sym same.last)
          (way_rises trace w numbers links turned app r.e x.e r.conn x.conn r.there x.there x.whose (ap is_here x.standing) hearer.0 j has)))
          (on_way name trace w known app reader)
          (λ n m above found_ four.
          subst (HasSerial n) (sym way_is)
          (way_has trace w numbers links turned app r.e x.e r.conn x.conn r.there x.there x.whose (ap is_here x.standing) hearer.0 j has n m (subst (λ l. l < n) same.last above) found_ four))

  pub lead_to_now : (name : List ℕ) (reader app : ℕ) → IsItsName trace app name → IsServed trace name reader app → AreHere trace reader app
      → (k : Kept) → held trace reader app ≡ Some k → AreAskedSince name trace app k.last → (v : Forest Row) → (followed name trace reader app).view ≡ Some v → LeadsToNow name trace app (told_in k.told) v (on_the_way w reader app)
  lead_to_now name reader app its served are_here k holds asked v has = on_their_way lines trace can g none w free state name reader app its served k holds (all_on_the_way name reader app are_here k holds asked) v has
