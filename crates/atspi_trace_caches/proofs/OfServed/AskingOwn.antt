-- How calls for items are kept at a reader's own call, and at bytes that complete no message: a reader asks for items only where its patterns are entered, and of one that it was told of.
use Rattle.std.proofs.Common.{◌≡◌, ◌⊎◌, inl, inr, ℕ, ◌+◌, ◌<◌, Bool, true, false, List, [], ◌∷◌, ◌++◌, map, Option, None, Some, refl, sym, ap, ◌∙◌, subst, is_some, arith}
use Rattle.std.specs.Prelude.{◌==◌, ◌&&◌, ◌||◌, bytes_eq, if◌then◌else◌}
use Rattle.std.specs.List.{AllByRecursion, list_any, list_all, cons_option}
use Rattle.std.proofs.lemmas.Bool.{eqb-true}
use Rattle.std.proofs.lemmas.List.{append-nil}
use Rattle.std.proofs.lemmas.Slice.Eq.{bytes_eq-Decides}
use Rattle.atspi_base.specs.valid_names.Names.{is_bus_name}
use Rattle.atspi_script_lines.specs.declared.line.Party.TheVariants.{Registry, App, Reader}
use Rattle.atspi_message.specs.Envelope.{Envelope}
use Rattle.atspi_protocol.specs.declared.following.question.Question.{Question}
use Rattle.atspi_protocol.specs.declared.following.question.Question.TheVariants.{Hello, AddMatch, RegisterEvent, GetChildren, GetItems, GetPart}
use Rattle.atspi_protocol.specs.exporting.Hearing.{is_heard}
use Rattle.atspi_trace.specs.Entry.{Entry, sent}
use Rattle.atspi_trace.specs.World.{Fate, waits, returned, failed, Asked, a_reader, Hearer, End, World}
use Rattle.atspi_trace.specs.Ends.{is_app, same_party, number_of, end_at}
use Rattle.atspi_trace.specs.Hearing.{registers, is_registered, is_listening, may_ask}
use Rattle.atspi_trace.specs.Causes.{at_end, asks, reader_sends}
use Rattle.atspi_trace.specs.Due.{asks_as, asks_at}
use Rattle.atspi_trace_laws.specs.laws.Words.{messages, message, own_call, question_if}
use Rattle.atspi_trace_laws.specs.laws.NineLaws.{count_got_by_bus}
use Rattle.atspi_trace_laws.specs.missed.Laws.{hearing}
use Rattle.atspi_trace_laws.proofs.OfOrder.Parties.{no_none, same_some, false_true, all_append}
use Rattle.atspi_trace_laws.proofs.OfOrder.Allowed.{MovedUp, MovedDown, Asks}
use Rattle.atspi_trace_laws.proofs.OfOrder.Frame.{Over, with_cases, over_with}
use Rattle.atspi_trace_laws.proofs.OfOrder.Shape.{Shape}
use Rattle.atspi_trace_laws.proofs.OfOrder.Each.{all_map}
use Rattle.atspi_trace_laws.proofs.OfSerials.Serial.{messages_more}
use Rattle.atspi_trace_laws.proofs.OfLinks.LawLinks.{first_unread, NotTaken, none_taken, count_more}
use Rattle.atspi_trace_laws.proofs.OfOwn.Writing.{Lives, lived}
use Rattle.atspi_trace_laws.proofs.OfHeld.Keeping.{calls_same}
use Rattle.atspi_trace_laws.proofs.OfHeld.LawHeld.{Readers}
use Rattle.atspi_trace_laws.proofs.OfTaken.Found.{none_more, look_is, looked}
use Rattle.atspi_trace_laws.proofs.OfTaken.LawTaken.{Known}
use Rattle.atspi_trace_caches.proofs.OfServed.Facts.{up_to, Entered, IsEntered, AllEntered, IsKnown, AllKnown, Carries}
use Rattle.atspi_trace_caches.proofs.OfServed.Asking.{ServedOn}
use Rattle.atspi_trace_caches.proofs.OfServed.AskingFrame.{patterns, AllEnteredFor, IsReadyFor, IsReady, questions, IsReader, IsApp, Asking, AllAsking, call_before, ready_at, Calls, IsEnteredFor, WasReader, WasApp, asking_now}
use Rattle.atspi_trace_caches.proofs.OfServed.AskingKept.{stays_as, same_hearer, IsAsIs, being, calmly}

-- WHERE THE REGISTRY SENDS NOTHING all that was entered is carried on
pub carries_same : (es ys : List Entry) (w v : World) → messages ys Registry ≡ [] → AllByRecursion NotTaken ys → Carries es (es ++ ys) w v
carries_same es ys w v none free live k r e d name pattern there at whose unique standing i = (
  record {
    at = i.at;
    taken = subst (λ n. i.at < n) (sym unread) i.taken;
    stays = λ n low. ap (λ l. is_heard (hearing (up_to n l) []) (name, pattern)) same ∙ i.stays n low;
  },
  refl,
)
  where
    same : messages (es ++ ys) Registry ≡ messages es Registry
    same = messages_more es ys Registry ∙ ap (λ l. messages es Registry ++ l) none ∙ append-nil (messages es Registry)

    unread : first_unread (es ++ ys) Registry ≡ first_unread es Registry
    unread =
        let sum : count_got_by_bus (es ++ ys) Registry ≡ count_got_by_bus es Registry + count_got_by_bus ys Registry = count_more es ys Registry in
        let zero_ : count_got_by_bus ys Registry ≡ 0 = none_taken Registry ys free in
        omega (arith, sum, zero_)

-- WHAT IS REGISTERED is entered
find_registered : (P : Asked → Type 0) (Q : Type 0) (pattern : List ℕ) (xs : List Asked) → ((x : Asked) → x.question ≡ RegisterEvent pattern → x.fate ≡ returned → P x → Q) → AllByRecursion P xs
    → list_any (λ (x : Asked). registers pattern x.question x.fate) xs ≡ true → Q
find_registered P Q pattern [] f a h = absurd (false_true h)
find_registered P Q pattern (x ∷ xs) f a h = by (registers pattern x.question x.fate) refl (λ g. find_registered P Q pattern xs f a.1 g) h
  where
    it : (q : Question) (t : Fate) → registers pattern q t ≡ true → (q ≡ RegisterEvent pattern) × (t ≡ returned)
    it (RegisterEvent other) returned g = (ap RegisterEvent ((bytes_eq-Decides other pattern).0 g), refl)
    it (RegisterEvent other) waits g = absurd (false_true g)
    it (RegisterEvent other) failed g = absurd (false_true g)
    it Hello t g = absurd (false_true g)
    it (AddMatch rule) t g = absurd (false_true g)
    it GetChildren t g = absurd (false_true g)
    it (GetItems name) t g = absurd (false_true g)
    it (GetPart name path part) t g = absurd (false_true g)

    by : (b : Bool) → registers pattern x.question x.fate ≡ b → (list_any (λ (y : Asked). registers pattern y.question y.fate) xs ≡ true → Q) → (b || list_any (λ (y : Asked). registers pattern y.question y.fate) xs) ≡ true → Q
    by true g ih z = let y = it x.question x.fate g in f x y.0 y.1 a.0
    by false g ih z = ih z

and_left : (a b : Bool) → (a && b) ≡ true → a ≡ true
and_left true b h = refl
and_left false b h = absurd (false_true h)

and_right : (a b : Bool) → (a && b) ≡ true → b ≡ true
and_right true b h = h
and_right false b h = absurd (false_true h)

all_true : (p : List ℕ → Bool) (P : List ℕ → Type 0) (xs : List (List ℕ)) → ((x : List ℕ) → p x ≡ true → P x) → list_all p xs ≡ true → AllByRecursion P xs
all_true p P [] f h = tt
all_true p P (x ∷ xs) f h = (f x (and_left (p x) (list_all p xs) h), all_true p P xs f (and_right (p x) (list_all p xs) h))

abbrev is_registered_in : List Asked → List ℕ → Bool
is_registered_in xs pattern = list_any (λ (x : Asked). registers pattern x.question x.fate) xs

-- the reader has its name
has_name : (e : End) (xs : List Asked) → AllByRecursion (IsKnown e) xs → is_registered xs ≡ true → is_some e.unique ≡ true
has_name e xs known h = (all_true (is_registered_in xs) (λ pattern. is_some e.unique ≡ true) patterns (λ pattern g. find_registered (IsKnown e) (is_some e.unique ≡ true) pattern xs (λ x q t k. k pattern q t) known g) h).0

-- and each of its patterns is entered
all_entered : (es : List Entry) (name : List ℕ) (xs : List Asked) → AllByRecursion (IsEntered es name) xs → is_registered xs ≡ true → AllEnteredFor es name
all_entered es name xs entered h =
    all_true (is_registered_in xs) (λ pattern. Entered es (name, pattern)) patterns (λ pattern g. find_registered (IsEntered es name) (Entered es (name, pattern)) pattern xs (λ x q t k. k pattern q t) entered g) h

-- AN OWN CALL
module _ (es : List Entry) (w : World) (conn r : ℕ) (m : Envelope) (question : Question) (sh : Shape w) (readers : Readers es w) (known : Known es w) (entered : AllEntered es w) (named : AllKnown es w) (i : Asking es w) (b : Asks w conn r m question)
    (live : Lives (es ++ sent (Reader r) m ∷ [])) where
  abbrev ys : List Entry
  ys = sent (Reader r) m ∷ []

  abbrev v : World
  v = at_end w conn (asks_at m question)

  abbrev g0 : Hearer
  g0 = asks question b.hearer

  abbrev d0 : End
  d0 = reader_sends g0 m b.asker

  is_d : asks_at m question b.asker ≡ d0
  is_d = ap (λ x. asks_as x m question b.asker) b.reader

  asker : IsReader w conn r b.asker b.hearer
  asker = record { there = b.is_here.there; whose = b.whose; role = b.reader; standing = b.is_here.standing }

  carries : Carries es (es ++ ys) w v
  carries = carries_same es ys w v refl (tt, tt)

  -- who may ask for items
  abbrev May : List ℕ → Type 0
  May name = (is_registered b.hearer.asked ≡ true) × (list_any (bytes_eq name) b.hearer.named ≡ true)

  may : (name : List ℕ) → question ≡ GetItems name → May name
  may name q = (
    and_left (is_registered b.hearer.asked) (list_any (bytes_eq name) b.hearer.named) rest,
    and_right (is_registered b.hearer.asked) (list_any (bytes_eq name) b.hearer.named) rest,
  )
    where
      allowed : (is_bus_name name && (is_listening b.hearer.asked && (is_registered b.hearer.asked && list_any (bytes_eq name) b.hearer.named))) ≡ true
      allowed = ap (may_ask b.hearer) (sym q) ∙ b.allowed

      rest : (is_registered b.hearer.asked && list_any (bytes_eq name) b.hearer.named) ≡ true
      rest =
          and_right (is_listening b.hearer.asked) (is_registered b.hearer.asked && list_any (bytes_eq name) b.hearer.named)
          (and_right (is_bus_name name) (is_listening b.hearer.asked && (is_registered b.hearer.asked && list_any (bytes_eq name) b.hearer.named)) allowed)

  it_is_ready : (name : List ℕ) → question ≡ GetItems name → IsReadyFor es b.asker b.hearer name
  it_is_ready name q = by b.asker.unique refl (has_name b.asker b.hearer.asked (named (lived es ys live) conn r b.asker b.hearer b.is_here.there b.whose b.reader b.is_here.standing) (may name q).0)
    where
      by : (o : Option (List ℕ)) → b.asker.unique ≡ o → is_some b.asker.unique ≡ true → IsReadyFor es b.asker b.hearer name
      by None h s = absurd (false_true (sym (ap is_some h) ∙ s))
      by (Some own) h s = record {
        own = own;
        known = h;
        entered = all_entered es own b.hearer.asked (entered (lived es ys live) conn r b.asker b.hearer own b.is_here.there b.whose b.reader b.is_here.standing h) (may name q).0;
        listed = (may name q).1;
      }

  -- what it calls then
  calls_then : Calls (es ++ ys) r → IsEnteredFor es b.asker
  calls_then c = by (message es (Reader r) c.0) refl
    where
      its : (name : List ℕ) → IsReadyFor es b.asker b.hearer name → IsEnteredFor es b.asker
      its name y = record { own = y.own; known = y.known; entered = y.entered }

      now : (s t : Bool) → message es (Reader r) c.0 ≡ None → same_party (Reader r) (Reader r) ≡ s → (m.serial == c.0) ≡ t → question_if (looked s t m None) ≡ Some (GetItems c.1) → IsEnteredFor es b.asker
      now true true none g h q = its c.1 (it_is_ready c.1 (same_some question (GetItems c.1) (sym b.read ∙ q)))
      now true false none g h q = absurd (no_none (GetItems c.1) q)
      now false t none g h q = absurd (no_none (GetItems c.1) q)

      by : (o : Option Envelope) → message es (Reader r) c.0 ≡ o → IsEnteredFor es b.asker
      by (Some first) g = its c.1 (ready_at es w conn r b.asker b.hearer i readers asker c.0 c.1 (sym (call_before es ys r c.0 first g) ∙ c.2))
      by None g = now (same_party (Reader r) (Reader r)) (m.serial == c.0) g refl refl (sym (ap question_if (none_more es ys (Reader r) c.0 g ∙ look_is (Reader r) (Reader r) m [] c.0)) ∙ c.2)

  other_calls : (q : ℕ) → (r ≡ q → ⊥) → (n : ℕ) → own_call (es ++ ys) q n ≡ own_call es q n
  other_calls q differ n = calls_same es ys q (by (same_party (Reader r) (Reader q)) refl) n
    where
      by : (t : Bool) → same_party (Reader r) (Reader q) ≡ t → cons_option (if t then Some m else None) [] ≡ []
      by true g = absurd (differ (eqb-true r q g))
      by false g = refl

  abbrev Place : ℕ → End → Type 0
  Place k z = (y : End) × (end_at w.ends k ≡ Some y) × (((k ≡ conn) × (z ≡ asks_at m question y)) ⊎ ((k ≡ conn → ⊥) × (z ≡ y)))

  -- the asker, or an end as it was
  place : (k : ℕ) (z : End) → end_at v.ends k ≡ Some z → ((k ≡ conn) × (z ≡ d0)) ⊎ ((k ≡ conn → ⊥) × (end_at w.ends k ≡ Some z))
  place k z there = by (with_cases (asks_at m question) w.ends conn k z there)
    where
      by : Place k z → ((k ≡ conn) × (z ≡ d0)) ⊎ ((k ≡ conn → ⊥) × (end_at w.ends k ≡ Some z))
      by y = at y.2
        where
          at : (((k ≡ conn) × (z ≡ asks_at m question y.0)) ⊎ ((k ≡ conn → ⊥) × (z ≡ y.0))) → ((k ≡ conn) × (z ≡ d0)) ⊎ ((k ≡ conn → ⊥) × (end_at w.ends k ≡ Some z))
          at (inl c) = inl (c.0, c.1 ∙ ap (asks_at m question) (same_some y.0 b.asker (sym y.1 ∙ ap (end_at w.ends) c.0 ∙ b.is_here.there)) ∙ is_d)
          at (inr c) = inr (c.0, y.1 ∙ ap Some (sym c.1))

  -- another reader
  module _ (k q : ℕ) (z : End) (h : Hearer) (is : IsReader v k q z h) (differ : k ≡ conn → ⊥) (there : end_at w.ends k ≡ Some z) where
    other : IsReader w k q z h
    other = record { there = there; whose = is.whose; role = is.role; standing = is.standing }

    apart : r ≡ q → ⊥
    apart same = differ (sh.one k conn z b.asker there b.is_here.there (is.whose ∙ ap Reader (sym same) ∙ sym b.whose))

    other_was : WasReader es ys w k q z
    other_was = record {
      e = z;
      h = h;
      was = other;
      keeps = λ name u. u;
      calls = λ c.
          let y : IsReadyFor es z h c.1 = ready_at es w k q z h i readers other c.0 c.1 (sym (other_calls q apart c.0) ∙ c.2) in
          record { own = y.own; known = y.known; entered = y.entered };
    }

  -- the asker itself
  module _ (k q : ℕ) (z : End) (h : Hearer) (is : IsReader v k q z h) (at : k ≡ conn) (same : z ≡ d0) where
    number : r ≡ q
    number = ap number_of (sym b.whose ∙ ap (λ (t : End). t.who) (sym same) ∙ is.whose)

    hearer : g0 ≡ h
    hearer = same_hearer g0 h (ap (λ (t : End). t.role) (sym same) ∙ is.role)

    asker_was : WasReader es ys w k q z
    asker_was =
        subst (λ n. WasReader es ys w k n z) number
        (record {
          e = b.asker;
          h = b.hearer;
          was = record { there = ap (end_at w.ends) at ∙ b.is_here.there; whose = b.whose; role = b.reader; standing = b.is_here.standing };
          keeps = λ name u. ap (λ (t : End). t.unique) same ∙ u;
          calls = calls_then;
        })

  was_reader_ : (k q : ℕ) (z : End) (h : Hearer) → IsReader v k q z h → WasReader es ys w k q z
  was_reader_ k q z h is = by (place k z is.there)
    where
      by : ((k ≡ conn) × (z ≡ d0)) ⊎ ((k ≡ conn → ⊥) × (end_at w.ends k ≡ Some z)) → WasReader es ys w k q z
      by (inl c) = asker_was k q z h is c.0 c.1
      by (inr c) = other_was k q z h is c.0 c.1

  -- each is ready
  ready_more : (k q : ℕ) (z e : End) (g h : Hearer) (name : List ℕ) → IsReader v k q z g → IsReader w k q e h → ((own : List ℕ) → e.unique ≡ Some own → z.unique ≡ Some own) → g.named ≡ h.named → IsReadyFor es e h name → IsReadyFor (es ++ ys) z g name
  ready_more k q z e g h name is was keeps same y = record {
    own = y.own;
    known = keeps y.own y.known;
    entered = all_map (λ pattern. Entered es (y.own, pattern)) (λ pattern. Entered (es ++ ys) (y.own, pattern)) patterns (λ p x. (carries live k q e z y.own p was.there is.there was.whose y.known is.standing x).0) y.entered;
    listed = ap (list_any (bytes_eq name)) same ∙ y.listed;
  }

  map_append : (xs zs : List Asked) → map (λ (x : Asked). x.question) (xs ++ zs) ≡ map (λ (x : Asked). x.question) xs ++ map (λ (x : Asked). x.question) zs
  map_append [] zs = refl
  map_append (x ∷ xs) zs = ap (λ l. x.question ∷ l) (map_append xs zs)

  ready_now : (k q : ℕ) (z : End) (h : Hearer) → IsReader v k q z h → AllByRecursion (IsReady (es ++ ys) z h) (questions h)
  ready_now k q z h is = by (place k z is.there)
    where
      mine : k ≡ conn → z ≡ d0 → r ≡ q → g0 ≡ h → AllByRecursion (IsReady (es ++ ys) z h) (questions h)
      mine at same number hearer =
          subst (λ g. AllByRecursion (IsReady (es ++ ys) z g) (questions g)) hearer
          (subst (AllByRecursion (IsReady (es ++ ys) z g0)) (sym (map_append b.hearer.asked _))
          (all_append (IsReady (es ++ ys) z g0) (questions b.hearer) (question ∷ [])
          (all_map (IsReady es b.asker b.hearer) (IsReady (es ++ ys) z g0) (questions b.hearer) (λ p f name eq. more name (f name eq)) (i.ready conn r b.asker b.hearer asker))
          ((λ name eq. more name (it_is_ready name eq)), tt)))
        where
          reader : IsReader v k r z g0
          reader = record { there = is.there; whose = is.whose ∙ ap Reader (sym number); role = is.role ∙ ap a_reader (sym hearer); standing = is.standing }

          more : (name : List ℕ) → IsReadyFor es b.asker b.hearer name → IsReadyFor (es ++ ys) z g0 name
          more name y =
              ready_more k r z b.asker g0 b.hearer name reader (record { there = ap (end_at w.ends) at ∙ b.is_here.there; whose = b.whose; role = b.reader; standing = b.is_here.standing }) (λ own u. ap (λ (t : End). t.unique) same ∙ u) refl y

      by : ((k ≡ conn) × (z ≡ d0)) ⊎ ((k ≡ conn → ⊥) × (end_at w.ends k ≡ Some z)) → AllByRecursion (IsReady (es ++ ys) z h) (questions h)
      by (inl c) = mine c.0 c.1 (number k q z h is c.0 c.1) (hearer k q z h is c.0 c.1)
      by (inr c) =
          all_map (IsReady es z h) (IsReady (es ++ ys) z h) (questions h) (λ p f name eq. ready_more k q z z h h name is (other k q z h is c.0 c.1) (λ own u. u) refl (f name eq)) (i.ready k q z h (other k q z h is c.0 c.1))

  no_app : {a : ℕ} → d0.who ≡ App a → ⊥
  no_app h = false_true (ap is_app (sym b.whose ∙ h))

  was_app_ : (j a : ℕ) (z : End) → IsApp v j a z → WasApp es ys w v j a z
  was_app_ j a z is = by (place j z is.there)
    where
      by : ((j ≡ conn) × (z ≡ d0)) ⊎ ((j ≡ conn → ⊥) × (end_at w.ends j ≡ Some z)) → WasApp es ys w v j a z
      by (inl c) = absurd (no_app (ap (λ (t : End). t.who) (sym c.1) ∙ is.whose))
      by (inr c) = record { d = z; was = record { there = c.1; whose = is.whose; standing = is.standing }; gone = []; kept = z.down; more = []; before = refl; after = sym (append-nil z.down); puts = tt }

  none : (q a : ℕ) → ServedOn es q a ys → ⊥
  none q a (inl s) = s
  none q a (inr s) = s

  pub asked_asking : Asking (es ++ ys) v
  asked_asking =
      asking_now es ys w v i live readers known carries (λ k q z h is. inr (was_reader_ k q z h is)) (λ j a z is. inr (was_app_ j a z is)) ready_now (λ k q z h is a s. absurd (none q a s)) (λ k q z h name is named_ j a y app s. absurd (none q a s))
      (λ k q z h is a. (tt, tt))

-- BYTES that complete no message
pub moved_asking : (es : List Entry) (w v : World) → Readers es w → Known es w → AllAsking es w → (MovedUp w v ⊎ MovedDown w v) → AllAsking es v
moved_asking es w v readers known i moved live = subst (λ l. Asking l v) (append-nil es) (by moved)
  where
    live_ : Lives (es ++ [])
    live_ = subst Lives (sym (append-nil es)) live

    over : Over IsAsIs w.ends v.ends → Asking (es ++ []) v
    over o = calmly es [] w v (i live) live_ readers known (carries_same es [] w v refl tt) o tt

    by : (MovedUp w v ⊎ MovedDown w v) → Asking (es ++ []) v
    by (inl m) =
        over
        (subst (λ (x : World). Over IsAsIs w.ends x.ends) (sym m.after)
        (over_with IsAsIs being (λ e. record e { up_moved = e.up_moved + m.count }) (λ e. record { stays = stays_as e (record e { up_moved = e.up_moved + m.count }) refl refl refl refl; down = λ a who. refl }) m.conn w.ends))
    by (inr m) =
        over
        (subst (λ (x : World). Over IsAsIs w.ends x.ends) (sym m.after)
        (over_with IsAsIs being (λ e. record e { down_moved = e.down_moved + m.count }) (λ e. record { stays = stays_as e (record e { down_moved = e.down_moved + m.count }) refl refl refl refl; down = λ a who. refl }) m.conn w.ends))
