-- What is on its way to a reader leads from what it has to the application's tree now.
use Rattle.std.proofs.Common.{◌≡◌, inl, inr, ℕ, Bool, true, false, List, [], ◌∷◌, ◌++◌, length, Option, None, Some, refl, sym, ap, ◌∙◌, subst, arith}
use Rattle.std.specs.Prelude.{◌==◌, filter_map, if◌then◌else◌}
use Rattle.std.specs.List.{AllByRecursion, cons_option}
use Rattle.std.proofs.lemmas.List.{append-nil, append_assoc}
use Rattle.atspi_tree_model.specs.declared.view.Row.{Row}
use Rattle.atspi_tree_model.specs.Forest.{Forest}
use Rattle.atspi_tree_model.specs.News.{effect}
use Rattle.atspi_tree_model.specs.Path.{path_of}
use Rattle.atspi_tree_model.specs.View.{Told, view}
use Rattle.atspi_script_lines.specs.declared.line.Line.{Line}
use Rattle.atspi_script_lines.specs.declared.line.Party.{Party}
use Rattle.atspi_script_lines.specs.declared.line.Party.TheVariants.{Bus as The_bus, App, Reader}
use Rattle.atspi_message.specs.Envelope.{Envelope}
use Rattle.atspi_protocol.specs.declared.news.part.PartName.{PartName}
use Rattle.atspi_protocol.specs.declared.following.question.Question.TheVariants.{Hello}
use Rattle.atspi_protocol.specs.following.Calls.{asking}
use Rattle.atspi_protocol.specs.news.NewsOf.{news_of}
use Rattle.atspi_trace.specs.Entry.{Entry, started, changed, sent}
use Rattle.atspi_trace.specs.World.{Said, Letter, End, World}
use Rattle.atspi_trace.specs.Ends.{same_party, conn_of, end_if, end_of, end_at}
use Rattle.atspi_trace.specs.Causes.{told_in}
use Rattle.atspi_trace.specs.Due.{Scene, begins, after_all, Goes}
use Rattle.atspi_trace_laws.specs.laws.Words.{live_tree, added, messages, message, before_sent, as_of, Kept, held}
use Rattle.atspi_trace_laws.specs.laws.NineLaws.{Everywhere, StepIsOne, LawOfLinks}
use Rattle.atspi_trace_laws.specs.order.Scripts.{CanAllStand}
use Rattle.atspi_trace_laws.specs.heard.Laws.{signals_under}
use Rattle.atspi_trace_laws.specs.views.Laws.{StepIsCarried}
use Rattle.atspi_trace_laws.specs.signed.Laws.{IsItsName}
use Rattle.atspi_trace_caches.specs.caches.Caches.{unasked, followed}
use Rattle.atspi_trace_caches.specs.caches.Laws.{IsServed}
use Rattle.atspi_trace_caches.specs.ways.Laws.{from_app, down_from, up_of, on_the_way, MissesNothingSince, AllAreThere, LeadsToNow}
use Rattle.atspi_trace_laws.proofs.OfOrder.Parties.{no_none, same_some, same-party, party-same, false_true, found, all_append}
use Rattle.atspi_trace_laws.proofs.OfOrder.Along.{Keeps, kept}
use Rattle.atspi_trace_laws.proofs.OfOrder.Growing.{Shaped, And}
use Rattle.atspi_trace_laws.proofs.OfOrder.Each.{Each, everywhere, each_more}
use Rattle.atspi_trace_laws.proofs.OfSteps.Trees.{tree_more}
use Rattle.atspi_trace_laws.proofs.OfSteps.LawSteps.{steps_apply}
use Rattle.atspi_trace_laws.proofs.OfSerials.Serial.{messages_more}
use Rattle.atspi_trace_laws.proofs.OfTaken.Said.{IsSaid, Comes}
use Rattle.atspi_trace_laws.proofs.OfTaken.LawTaken.{Known, Under, Taken, taken_keeps}
use Rattle.atspi_trace_laws.proofs.OfDelivered.LawLinks.{links_hold}
use Rattle.atspi_trace_laws.proofs.OfViews.LawViews.{announcements_carry}
use Rattle.atspi_trace_laws.proofs.OfSigned.LawSigned.{signed_law}
use Rattle.atspi_trace_laws.proofs.OfAnswered.LawAnswered.{items_law, parts_law}
use Rattle.atspi_trace_laws.proofs.OfMissed.LawMissed.{no_signal_missed}
use Rattle.atspi_trace_laws.proofs.OfSigned.Between.{IsSigned, all_signals, IsSignal, Walked, walk}
use Rattle.atspi_trace_caches.proofs.OfCaches.Served.{IsWholly, wholly}
use Rattle.atspi_trace_laws.proofs.OfSigned.Starts.{StartsAnew, starts_anew}
use Rattle.atspi_trace_caches.proofs.OfCaches.LawCaches.{IsLow, low_more, next_view, more_added, IsHad, Has, along}

-- A LAW OF ONE ENTRY MORE
each_from : (Law : List Entry → Entry → List Entry → Type 0) (early xs : List Entry) → ((before : List Entry) (entry : Entry) (behind : List Entry) → xs ≡ before ++ entry ∷ behind → Law (early ++ before) entry behind) → Each Law early xs
each_from Law early [] f = tt
each_from Law early (x ∷ xs) f = (
  subst (λ l. Law l x xs) (append-nil early) (f [] x xs refl),
  each_from Law (early ++ x ∷ []) xs (λ before entry behind h. subst (λ l. Law l entry behind) (sym (append_assoc early (x ∷ []) before)) (f (x ∷ before) entry behind (ap (λ l. x ∷ l) h))),
)

each_weaker : (Law : List Entry → Entry → List Entry → Type 0) (ys : List Entry) → ((before : List Entry) (entry : Entry) (behind : List Entry) → Law before entry behind → Law before entry (behind ++ ys)) → (early xs : List Entry)
    → Each Law early xs → Each (λ before entry behind. Law before entry (behind ++ ys)) early xs
each_weaker Law ys f early [] e = tt
each_weaker Law ys f early (x ∷ xs) e = (f early x xs e.0, each_weaker Law ys f (early ++ x ∷ []) xs e.1)

one_more : (Law : List Entry → Entry → List Entry → Type 0) (T : List Entry) (x : Entry) → ((before : List Entry) (entry : Entry) (behind : List Entry) → Law before entry behind → Law before entry (behind ++ x ∷ [])) → Law T x [] → Everywhere Law T
    → Everywhere Law (T ++ x ∷ [])
one_more Law T x f last law =
    everywhere Law (T ++ x ∷ []) (each_more Law [] T (x ∷ []) (each_weaker Law (x ∷ []) f [] T (each_from Law [] T (λ before entry behind h. law before entry behind h))) (last, tt))

carried_more : (ys before : List Entry) (entry : Entry) (behind : List Entry) → StepIsCarried before entry behind → StepIsCarried before entry (behind ++ ys)
carried_more ys before (changed app step) behind c = c
carried_more ys before entry behind c = tt

starts_more : (ys before : List Entry) (entry : Entry) (behind : List Entry) → StartsAnew before entry behind → StartsAnew before entry (behind ++ ys)
starts_more ys before (started who name) behind h = h
starts_more ys before entry behind h = tt

signed_more : (name : List ℕ) (app : ℕ) (ys before : List Entry) (entry : Entry) (behind : List Entry) → IsSigned name app before entry behind → IsSigned name app before entry (behind ++ ys)
signed_more name app ys before (changed a step) behind s = λ same. let f = s same in (f.0 ++ ys, ap (λ l. l ++ ys) f.1 ∙ append_assoc (signals_under name before app step) f.0 ys)
signed_more name app ys before (sent (App a) e) behind s = s
signed_more name app ys before (sent The_bus e) behind s = tt
signed_more name app ys before (sent (Reader r) e) behind s = tt
signed_more name app ys before entry behind s = tt

-- a message that is no signal
abbrev no_signal : Envelope
no_signal = asking 1 Hello

is_no_signal : no_signal.kind ≡ 4 → ⊥
is_no_signal h = false_true (ap (λ n. n == 4) h)

-- UP TO NOW
-- Behind a message since which nothing was missed and no signal was sent each view of the tree is that of the tree now
module _ (trace : List Entry) (name : List ℕ) (app : ℕ) (signed : Everywhere (IsSigned name app) trace) (carried : Everywhere StepIsCarried trace) (starts : Everywhere StartsAnew trace) where
  abbrev more : List Entry
  more = trace ++ sent (App app) no_signal ∷ []

  seen_now : (last : ℕ) → MissesNothingSince name trace app last → (parts : List ℕ → Told) → view parts (as_of trace app last) ≡ view parts (live_tree trace app)
  seen_now last m parts =
      by (walk more name app
      (one_more (IsSigned name app) trace (sent (App app) no_signal) (signed_more name app (sent (App app) no_signal ∷ [])) (λ same four. absurd (is_no_signal four)) signed)
      (one_more StepIsCarried trace (sent (App app) no_signal) (carried_more (sent (App app) no_signal ∷ [])) tt carried)
      (one_more StartsAnew trace (sent (App app) no_signal) (starts_more (sent (App app) no_signal ∷ [])) tt starts) no_signal [] early m.between
      (ap (λ l. l ++ sent (App app) no_signal ∷ []) m.stands ∙ append_assoc early m.between (sent (App app) no_signal ∷ [])) m.no_signal
      (λ h. has_sent (messages earlier (App app)) (sym (messages_more earlier (sent (App app) m.first ∷ []) (App app)) ∙ h)) m.asked)
    where
      earlier : List Entry
      earlier = before_sent (App app) last trace

      early : List Entry
      early = earlier ++ sent (App app) m.first ∷ []

      has_sent : (xs : List Envelope) → xs ++ messages (sent (App app) m.first ∷ []) (App app) ≡ [] → ⊥
      has_sent xs h = mine (same_party (App app) (App app)) (party-same (App app)) h
        where
          no_end : (ys : List Envelope) → ys ++ m.first ∷ [] ≡ [] → ⊥
          no_end [] k = absurd (omega (arith, ap length k))
          no_end (y ∷ ys) k = absurd (omega (arith, ap length k))

          mine : (b : Bool) → b ≡ true → xs ++ cons_option (if b then Some m.first else None) [] ≡ [] → ⊥
          mine true g k = no_end xs k
          mine false g k = absurd (false_true g)

      by : Walked name early m.between app no_signal → view parts (live_tree earlier app) ≡ view parts (live_tree trace app)
      by (inl s) = sym (ap (λ l. view parts (live_tree l app)) m.stands ∙ s.same.views parts ∙ ap (view parts) (tree_more app earlier (sent (App app) m.first ∷ [])))
      by (inr o) = absurd (is_no_signal (ap (λ (e : Envelope). e.kind) o.message ∙ (subst (AllByRecursion IsSignal) o.told (all_signals name (live_tree (early ++ o.front) app) o.step)).0))

-- EACH MESSAGE
-- a message as it was sent, with the same news
pub record WasSentSo (name : List ℕ) (trace : List Entry) (app : ℕ) (said : Said) : Type 0 where
  pub first : Envelope
  pub was : message trace (App app) said.message.serial ≡ Some first
  pub news : news_of name said.message ≡ news_of name first

module _ (trace : List Entry) (name : List ℕ) (reader app : ℕ) (served : IsWholly trace name reader app) (carried : Everywhere StepIsCarried trace) (one : Everywhere StepIsOne trace) (starts : Everywhere StartsAnew trace) where
  leads : (parts : List (List ℕ × PartName)) (saids : List Said) (last : ℕ) (v : Forest Row) → v ≡ view (told_in parts) (as_of trace app last) → AllByRecursion (IsLow (added (before_sent (App app) last trace) app)) parts
      → AllByRecursion (WasSentSo name trace app) saids → AllAreThere name trace app last saids → LeadsToNow name trace app (told_in parts) v saids
  leads parts [] last v is low found_ m = is ∙ seen_now trace name app served.signed carried starts last m (told_in parts)
  leads parts (said ∷ saids) last v is low found_ m = (
    next,
    leads parts saids said.message.serial (effect (path_of 0) name v (news_of name said.message)) next
        (low_more trace name reader app served carried one starts (added (before_sent (App app) last trace) app) (added (before_sent (App app) said.message.serial trace) app) parts
        (more_added trace name reader app served carried one starts trace [] (sym (append-nil trace)) last said.message.serial found_.0.first found_.0.was m.0) low)
        found_.1 m.1,
  )
    where
      next : effect (path_of 0) name v (news_of name said.message) ≡ view (told_in parts) (as_of trace app said.message.serial)
      next =
          ap (λ x. effect (path_of 0) name x (news_of name said.message)) is
          ∙ ap (effect (path_of 0) name (view (told_in parts) (as_of trace app last))) found_.0.news
          ∙ next_view trace name reader app served carried one starts trace [] (sym (append-nil trace)) last said.message.serial found_.0.first found_.0.was m.0 parts low

  led : (k : Kept) (saids : List Said) → LawOfLinks trace → held trace reader app ≡ Some k → AllAreThere name trace app k.last saids → AllByRecursion (WasSentSo name trace app) saids → (v : Forest Row)
      → (followed name trace reader app).view ≡ Some v → LeadsToNow name trace app (told_in k.told) v saids
  led k saids links holds there found_ v shows =
      let i = along trace name reader app served carried one starts [] trace [] None (unasked name) (sym (append-nil trace)) links (record { is_held = refl; named = refl; root = refl; has = refl }) in
      let had : IsHad trace name reader app served carried one starts trace k (followed name trace reader app) = subst (λ o. Has trace name reader app served carried one starts trace o (followed name trace reader app)) holds i.has in
      leads k.told saids k.last v (same_some v (view (told_in k.told) (as_of trace app k.last)) (sym shows ∙ had.shows)) had.low found_ there

-- WHAT IS ON A LINK WAS SENT
found_end : (ends : List End) (who : Party) (e : End) → end_of ends who ≡ Some e → (k : ℕ) × (end_at ends k ≡ Some e) × (e.who ≡ who)
found_end ends who e h = by (conn_of ends who) refl h
  where
    by : (o : Option ℕ) → conn_of ends who ≡ o → end_if ends o ≡ Some e → (k : ℕ) × (end_at ends k ≡ Some e) × (e.who ≡ who)
    by None g q = absurd (no_none e q)
    by (Some k) g q =
        let f = found (λ (x : End). same_party x.who who) ends k g in
        let same : f.0 ≡ e = same_some f.0 e (sym f.1 ∙ q) in
        (k, q, ap (λ (x : End). x.who) (sym same) ∙ same-party f.0.who who f.2)

module _ (name : List ℕ) (trace : List Entry) (w : World) (known : Known trace w) (app : ℕ) where
  downs : (letters : List Letter) → AllByRecursion (Comes trace) letters → AllByRecursion (WasSentSo name trace app) (filter_map (from_app app) letters)
  downs [] a = tt
  downs (l ∷ ls) a = by (same_party l.from (App app)) refl (downs ls a.1)
    where
      no_bus : l.from ≡ The_bus → same_party l.from (App app) ≡ true → ⊥
      no_bus bus g = false_true (sym (ap (λ p. same_party p (App app)) bus) ∙ g)

      sent_so : same_party l.from (App app) ≡ true → Comes trace l → WasSentSo name trace app l.said
      sent_so g (inl bus) = absurd (no_bus bus g)
      sent_so g (inr i) = record { first = i.first; was = subst (λ p. message trace p l.said.message.serial ≡ Some i.first) (same-party l.from (App app) g) i.was; news = ap (news_of name) i.alike }

      by : (b : Bool) → same_party l.from (App app) ≡ b → AllByRecursion (WasSentSo name trace app) (filter_map (from_app app) ls)
          → AllByRecursion (WasSentSo name trace app) (cons_option (if b then Some l.said else None) (filter_map (from_app app) ls))
      by true g rest = (sent_so g a.0, rest)
      by false g rest = rest

  ups : (who : Party) → who ≡ App app → (saids : List Said) → AllByRecursion (IsSaid trace who) saids → AllByRecursion (WasSentSo name trace app) saids
  ups who is [] a = tt
  ups who is (said ∷ saids) a = (
    record { first = said.message; was = subst (λ p. message trace p said.message.serial ≡ Some said.message) is a.0.was; news = refl },
    ups who is saids a.1,
  )

  pub on_way : (reader : ℕ) → AllByRecursion (WasSentSo name trace app) (on_the_way w reader app)
  on_way reader =
      all_append (WasSentSo name trace app) (down_from app (end_of w.ends (Reader reader))) (up_of (end_of w.ends (App app)))
      (of_reader (end_of w.ends (Reader reader)) refl) (of_app (end_of w.ends (App app)) refl)
    where
      of_reader : (o : Option End) → end_of w.ends (Reader reader) ≡ o → AllByRecursion (WasSentSo name trace app) (down_from app o)
      of_reader None h = tt
      of_reader (Some e) h = let f = found_end w.ends (Reader reader) e h in downs e.down (known f.0 e f.1).1

      of_app : (o : Option End) → end_of w.ends (App app) ≡ o → AllByRecursion (WasSentSo name trace app) (up_of o)
      of_app None h = tt
      of_app (Some e) h = let f = found_end w.ends (App app) e h in ups e.who f.2 e.up (known f.0 e f.1).0

-- WHAT IS KEPT ALONG A TRACE holds of the world behind it
abbrev pub IsKept : List Entry → World → Option ℕ → Type 1
IsKept trace w free = (Inv : List Entry → World → Option ℕ → Type 0) → Keeps Inv → Inv trace w free

pub kept_behind : (lines : List Line) (trace : List Entry) → CanAllStand lines → Goes (begins lines) trace → (after_all (begins lines) trace).owing ≡ []
    → IsKept trace (after_all (begins lines) trace).world (after_all (begins lines) trace).free
kept_behind lines trace a g none Inv k = subst (λ l. Inv l s.world s.free) (ap (λ l. trace ++ l) none ∙ append-nil trace) (kept Inv k lines trace a g).state
  where
    s : Scene
    s = after_all (begins lines) trace

-- THE LAW, of such a world, also of one that bytes moved further which complete no message
pub on_their_way : (lines : List Line) (trace : List Entry) → CanAllStand lines → Goes (begins lines) trace → (after_all (begins lines) trace).owing ≡ []
    → (w : World) (free : Option ℕ) → IsKept trace w free
    → (name : List ℕ) (reader app : ℕ) → IsItsName trace app name → IsServed trace name reader app
    → (k : Kept) → held trace reader app ≡ Some k → AllAreThere name trace app k.last (on_the_way w reader app)
    → (v : Forest Row) → (followed name trace reader app).view ≡ Some v
    → LeadsToNow name trace app (told_in k.told) v (on_the_way w reader app)
on_their_way lines trace a g none w free state name reader app its served k holds there v has =
    led trace name reader app (wholly trace name reader app its (signed_law lines trace a g none) (items_law lines trace a g) (parts_law lines trace a g) (no_signal_missed lines trace a g) served) (announcements_carry lines trace a g) (steps_apply lines trace a g)
    (starts_anew lines trace a g) k (on_the_way w reader app) (links_hold lines trace a g) holds there (on_way name trace w known app reader) v has
  where
    known : Known trace w
    known = (state (Shaped (And Under Taken)) taken_keeps).1.1.1
