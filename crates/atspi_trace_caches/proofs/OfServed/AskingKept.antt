-- How calls for items are kept where no link grows: whatever a reader, an application or the registry does.
use Rattle.std.proofs.Common.{◌≡◌, inl, inr, ℕ, Bool, true, false, List, [], ◌∷◌, ◌++◌, map, Option, None, Some, refl, sym, ap, ◌∙◌, subst}
use Rattle.std.specs.Prelude.{◌==◌, ◌&&◌, ◌||◌, bytes_eq, if◌then◌else◌}
use Rattle.std.specs.List.{AllByRecursion, list_any}
use Rattle.std.proofs.lemmas.List.{append-nil}
use Rattle.atspi_script_lines.specs.declared.line.Party.TheVariants.{Bus as The_bus, Registry, App, Reader}
use Rattle.atspi_message.specs.Envelope.{Envelope}
use Rattle.atspi_match.specs.routing.Routing.{is_reply}
use Rattle.atspi_protocol.specs.following.Replied.{is_reply_to}
use Rattle.atspi_protocol.specs.declared.following.question.Question.TheVariants.{GetItems}
use Rattle.atspi_trace.specs.Entry.{Entry, changed, sent, got}
use Rattle.atspi_trace.specs.World.{here, Asked, Role, a_reader, Hearer, End, World}
use Rattle.atspi_trace.specs.Ends.{same_party, end_at}
use Rattle.atspi_trace.specs.Hearing.{fate_of, answered_by, question_in}
use Rattle.atspi_trace_laws.specs.laws.Words.{message, own_call, question_if}
use Rattle.atspi_trace_laws.proofs.OfOrder.Parties.{no_none, same_some, same-party, false_true}
use Rattle.atspi_trace_laws.proofs.OfOrder.Frame.{Over, IsOrder}
use Rattle.atspi_trace_laws.proofs.OfOrder.Each.{each_of, all_map}
use Rattle.atspi_trace_laws.proofs.OfOwn.Writing.{Lives}
use Rattle.atspi_trace_laws.proofs.OfHeld.LawHeld.{Readers}
use Rattle.atspi_trace_laws.proofs.OfTaken.Found.{none_more, look_is, looked}
use Rattle.atspi_trace_laws.proofs.OfTaken.LawTaken.{Known}
use Rattle.atspi_trace_caches.proofs.OfServed.Facts.{Entered, Carries}
use Rattle.atspi_trace_caches.proofs.OfServed.Asking.{IsService, ServedOn, HeardAt}
use Rattle.atspi_trace_caches.proofs.OfServed.AskingFrame.{patterns, IsReadyFor, IsReady, questions, IsReader, IsApp, Asking, call_before, ready_at, WasReader, WasApp, asking_now}

-- ENDS THAT GO ON
-- a reader, as it asked and was told
pub record OldHearer (e : End) (g : Hearer) : Type 0 where
  pub h : Hearer
  pub role : e.role ≡ a_reader h
  pub same : questions g ≡ questions h
  pub named : (name : List ℕ) → list_any (bytes_eq name) h.named ≡ true → list_any (bytes_eq name) g.named ≡ true

pub record Stays (e d : End) : Type 0 where
  pub whose : d.who ≡ e.who
  pub on : d.standing ≡ here → e.standing ≡ here
  pub reader : (g : Hearer) → d.role ≡ a_reader g → OldHearer e g
  pub name : (name : List ℕ) → e.unique ≡ Some name → d.unique ≡ Some name

same_reader : (e d : End) → d.role ≡ e.role → (g : Hearer) → d.role ≡ a_reader g → OldHearer e g
same_reader e d same g is = record { h = g; role = sym same ∙ is; same = refl; named = λ n h. h }

pub stays_as : (e d : End) → d.who ≡ e.who → d.standing ≡ e.standing → d.role ≡ e.role → d.unique ≡ e.unique → Stays e d
stays_as e d who standing role unique = record { whose = who; on = λ h. sym standing ∙ h; reader = same_reader e d role; name = λ n h. unique ∙ h }

pub staying : IsOrder Stays
staying = record {
  same = λ e. stays_as e e refl refl refl refl;
  both = λ e d c f g. record {
    whose = g.whose ∙ f.whose;
    on = λ h. f.on (g.on h);
    reader = λ k is. let y = g.reader k is in let x = f.reader y.h y.role in record { h = x.h; role = x.role; same = y.same ∙ x.same; named = λ n h. y.named n (x.named n h) };
    name = λ n h. g.name n (f.name n h);
  };
}

-- and where an application has on its down link what it had
pub record IsAsIs (e d : End) : Type 0 where
  pub stays : Stays e d
  pub down : (a : ℕ) → d.who ≡ App a → d.down ≡ e.down

pub being : IsOrder IsAsIs
being = record {
  same = λ e. record { stays = staying.same e; down = λ a who. refl };
  both = λ e d c f g. record { stays = staying.both e d c f.stays g.stays; down = λ a who. g.down a who ∙ f.down a (sym g.stays.whose ∙ who) };
}

abbrev is_reader_role : Role → Bool
is_reader_role (a_reader h) = true
is_reader_role role = false

-- an end that is no reader
pub no_reader : (e d : End) → d.who ≡ e.who → d.standing ≡ e.standing → d.unique ≡ e.unique → is_reader_role d.role ≡ false → Stays e d
no_reader e d who standing unique none = record {
  whose = who;
  on = λ h. sym standing ∙ h;
  reader = λ g is. absurd (false_true (sym none ∙ ap is_reader_role is));
  name = λ n h. unique ∙ h;
}

abbrev hearer_in : Role → Hearer → Hearer
hearer_in (a_reader h) g = h
hearer_in role g = g

pub same_hearer : (h g : Hearer) → a_reader h ≡ a_reader g → h ≡ g
same_hearer h g e = ap (λ r. hearer_in r h) e

-- a reader that went on
pub one_reader : (e d : End) (h g : Hearer) → d.who ≡ e.who → d.standing ≡ e.standing → d.unique ≡ e.unique → e.role ≡ a_reader h → d.role ≡ a_reader g → questions g ≡ questions h
    → ((name : List ℕ) → list_any (bytes_eq name) h.named ≡ true → list_any (bytes_eq name) g.named ≡ true) → Stays e d
one_reader e d h g who standing unique was is same named = record {
  whose = who;
  on = λ on. sym standing ∙ on;
  reader = λ k role. subst (OldHearer e) (same_hearer g k (sym is ∙ role)) (record { h = h; role = was; same = same; named = named });
  name = λ n has. unique ∙ has;
}

-- it takes a message
pub questions_kept : (m : Envelope) (xs : List Asked) → map (λ (x : Asked). x.question) (map (answered_by m) xs) ≡ map (λ (x : Asked). x.question) xs
questions_kept m [] = refl
questions_kept m (x ∷ xs) = ap (λ q. q ∷ map (λ (y : Asked). y.question) (map (answered_by m) xs)) (one (is_reply m && is_reply_to x.serial m.reply)) ∙ ap (λ l. x.question ∷ l) (questions_kept m xs)
  where
    one : (b : Bool) → (if b then record x { fate = fate_of m } else x).question ≡ x.question
    one true = refl
    one false = refl

pub any_front : (p : List ℕ → Bool) (xs ys : List (List ℕ)) → list_any p xs ≡ true → list_any p (xs ++ ys) ≡ true
any_front p [] ys h = absurd (false_true h)
any_front p (x ∷ xs) ys h = by (p x) (λ g. any_front p xs ys g) h
  where
    by : (b : Bool) → (list_any p xs ≡ true → list_any p (xs ++ ys) ≡ true) → (b || list_any p xs) ≡ true → (b || list_any p (xs ++ ys)) ≡ true
    by true ih g = refl
    by false ih g = ih g

-- ENTRIES
-- a reader's message that is no call for items
abbrev pub NoItems : Entry → Type 0
NoItems (sent (Reader r) m) = (name : List ℕ) → question_in m ≡ Some (GetItems name) → ⊥
NoItems entry = Unit {0}

-- besides, no step, and nothing that an application takes
abbrev pub IsCalm : Entry → Type 0
IsCalm (changed app step) = ⊥
IsCalm (got (App a) from serial) = ⊥
IsCalm (sent (Reader r) m) = (name : List ℕ) → question_in m ≡ Some (GetItems name) → ⊥
IsCalm entry = Unit {0}

calm_items : (entry : Entry) → IsCalm entry → NoItems entry
calm_items (sent (Reader r) m) c = c
calm_items (sent The_bus m) c = tt
calm_items (sent Registry m) c = tt
calm_items (sent (App a) m) c = tt
calm_items entry c = tt

calm_service : (entry : Entry) → IsCalm entry → (before : List Entry) (r a : ℕ) → IsService before r a entry → ⊥
calm_service (got (App b) from n) c before r a s = absurd c
calm_service (got The_bus from n) c before r a s = s
calm_service (got Registry from n) c before r a s = s
calm_service (got (Reader q) from n) c before r a s = s
calm_service entry c before r a s = s

pub no_service : (before ys : List Entry) (r a : ℕ) → AllByRecursion IsCalm ys → ServedOn before r a ys → ⊥
no_service before [] r a c s = s
no_service before (y ∷ ys) r a c (inl s) = calm_service y c.0 before r a s
no_service before (y ∷ ys) r a c (inr s) = no_service (before ++ y ∷ []) ys r a c.1 s

pub calm_heard : (r a : ℕ) (before : List Entry) (entry : Entry) (behind : List Entry) → IsCalm entry → HeardAt r a before entry behind
calm_heard r a before (changed app step) behind c = absurd c
calm_heard r a before entry behind c = tt

-- no call for items is among them
found_items : (ys : List Entry) (r n : ℕ) (m : Envelope) (name : List ℕ) → AllByRecursion NoItems ys → message ys (Reader r) n ≡ Some m → question_in m ≡ Some (GetItems name) → ⊥
found_items [] r n m name c h q = no_none m h
found_items (sent who e ∷ ys) r n m name c h q = by (same_party who (Reader r)) refl (e.serial == n) (sym (look_is who (Reader r) e ys n) ∙ h) (λ k. found_items ys r n m name c.1 k q)
  where
    mine : same_party who (Reader r) ≡ true → e ≡ m → ⊥
    mine g same = subst (λ p. NoItems (sent p e)) (same-party who (Reader r) g) c.0 name (ap question_in same ∙ q)

    by : (s : Bool) → same_party who (Reader r) ≡ s → (t : Bool) → looked s t e (message ys (Reader r) n) ≡ Some m → (message ys (Reader r) n ≡ Some m → ⊥) → ⊥
    by true g true k ih = mine g (same_some e m k)
    by true g false k ih = ih k
    by false g t k ih = ih k
found_items (y ∷ ys) r n m name c h q = found_items ys r n m name c.1 h q

pub calls_back : (es ys : List Entry) (r n : ℕ) (name : List ℕ) → AllByRecursion NoItems ys → own_call (es ++ ys) r n ≡ Some (GetItems name) → own_call es r n ≡ Some (GetItems name)
calls_back es ys r n name c call = by (message es (Reader r) n) refl (message ys (Reader r) n) refl
  where
    by : (o : Option Envelope) → message es (Reader r) n ≡ o → (u : Option Envelope) → message ys (Reader r) n ≡ u → own_call es r n ≡ Some (GetItems name)
    by (Some m) g u k = sym (call_before es ys r n m g) ∙ call
    by None g None k = absurd (no_none (GetItems name) (sym (ap question_if (none_more es ys (Reader r) n g ∙ k)) ∙ call))
    by None g (Some m) k = absurd (found_items ys r n m name c k (sym (ap question_if (none_more es ys (Reader r) n g ∙ k)) ∙ call))

pub all_items : (ys : List Entry) → AllByRecursion IsCalm ys → AllByRecursion NoItems ys
all_items ys c = all_map IsCalm NoItems ys calm_items c

-- READERS THAT GO ON
module _ (es ys : List Entry) (w v : World) (i : Asking es w) (live : Lives (es ++ ys)) (readers : Readers es w) (carries : Carries es (es ++ ys) w v) (items : AllByRecursion NoItems ys) where
  module _ (k r : ℕ) (z : End) (g : Hearer) (is : IsReader v k r z g) (e : End) (there : end_at w.ends k ≡ Some e) (stays : Stays e z) where
    old : OldHearer e g
    old = stays.reader g is.role

    before : IsReader w k r e old.h
    before = record { there = there; whose = sym stays.whose ∙ is.whose; role = old.role; standing = stays.on is.standing }

    pub reader_as : WasReader es ys w k r z
    reader_as = record {
      e = e;
      h = old.h;
      was = before;
      keeps = stays.name;
      calls = λ c.
          let y : IsReadyFor es e old.h c.1 = ready_at es w k r e old.h i readers before c.0 c.1 (calls_back es ys r c.0 c.1 items c.2) in
          record { own = y.own; known = y.known; entered = y.entered };
    }

    pub ready_as : AllByRecursion (IsReady (es ++ ys) z g) (questions g)
    ready_as =
        subst (AllByRecursion (IsReady (es ++ ys) z g)) (sym old.same)
        (all_map (IsReady es e old.h) (IsReady (es ++ ys) z g) (questions old.h) (λ q f name same. more name (f name same)) (i.ready k r e old.h before))
      where
        more : (name : List ℕ) → IsReadyFor es e old.h name → IsReadyFor (es ++ ys) z g name
        more name y = record {
          own = y.own;
          known = stays.name y.own y.known;
          entered = all_map (λ pattern. Entered es (y.own, pattern)) (λ pattern. Entered (es ++ ys) (y.own, pattern)) patterns
              (λ p x. (carries live k r e z y.own p before.there is.there before.whose y.known is.standing x).0) y.entered;
          listed = old.named name y.listed;
        }

  module _ (o : Over Stays w.ends v.ends) where
    pub was_reader : (k r : ℕ) (z : End) (g : Hearer) → IsReader v k r z g → WasReader es ys w k r z
    was_reader k r z g is = let x = o.back k z is.there in reader_as k r z g is x.0 x.1 x.2

    pub ready_over : (k r : ℕ) (z : End) (g : Hearer) → IsReader v k r z g → AllByRecursion (IsReady (es ++ ys) z g) (questions g)
    ready_over k r z g is = let x = o.back k z is.there in ready_as k r z g is x.0 x.1 x.2

-- WHERE NOTHING IS TAKEN OR CHANGED
module _ (es ys : List Entry) (w v : World) (i : Asking es w) (live : Lives (es ++ ys)) (readers : Readers es w) (known : Known es w) (carries : Carries es (es ++ ys) w v) (o : Over IsAsIs w.ends v.ends) where
  pub over_stays : Over Stays w.ends v.ends
  over_stays = record { size = o.size; back = λ k d h. let x = o.back k d h in (x.0, x.1, x.2.stays) }

  pub as_it_was : (j a : ℕ) (z : End) → IsApp v j a z → WasApp es ys w v j a z
  as_it_was j a z is =
      let x = o.back j z is.there in
      record {
        d = x.0;
        was = record { there = x.1; whose = sym x.2.stays.whose ∙ is.whose; standing = x.2.stays.on is.standing };
        gone = [];
        kept = x.0.down;
        more = [];
        before = refl;
        after = x.2.down a is.whose ∙ sym (append-nil x.0.down);
        puts = tt;
      }

  pub calmly : AllByRecursion IsCalm ys → Asking (es ++ ys) v
  calmly c =
      asking_now es ys w v i live readers known carries (λ k r z h is. inr (was_reader es ys w v i live readers carries (all_items ys c) over_stays k r z h is)) (λ j a z is. inr (as_it_was j a z is))
      (λ k r z h is. ready_over es ys w v i live readers carries (all_items ys c) over_stays k r z h is) (λ k r z h is a s. absurd (no_service es ys r a c s)) (λ k r z h name is named j a y app s. absurd (no_service es ys r a c s))
      (λ k r z h is a. each_of IsCalm (HeardAt r a) es ys (calm_heard r a) c)
