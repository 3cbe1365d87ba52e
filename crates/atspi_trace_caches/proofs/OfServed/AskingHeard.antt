-- An application that embedded, on whose down link no news of a reader's pairs is left, has heard of them; so it has at each step that it then does.
use Rattle.std.proofs.Common.{◌≡◌, ◌⊎◌, inl, inr, ℕ, suc, ◌+◌, ◌<◌, ◌≤◌, Bool, true, false, List, [], ◌∷◌, ◌++◌, length, map, Some, refl, sym, ap, ◌∙◌, subst, arith}
use Rattle.std.specs.Prelude.{nat_le, if◌then◌else◌}
use Rattle.std.specs.List.{AllByRecursion}
use Rattle.std.proofs.lemmas.Bool.{eq-eqb, ne_eqb, leb-true, leb-false}
use Rattle.atspi_script_lines.specs.declared.line.Party.TheVariants.{Bus as The_bus, Registry, App}
use Rattle.atspi_message.specs.Envelope.{Envelope}
use Rattle.atspi_protocol.specs.ends.Places.{registry}
use Rattle.atspi_protocol.specs.members.Asked.{is_text}
use Rattle.atspi_protocol.specs.exporting.Exporter.{Happening, steps, sends, hears, deaf, Exporter}
use Rattle.atspi_protocol.specs.exporting.Hearing.{is_heard, heard_after}
use Rattle.atspi_trace.specs.Entry.{Entry, changed, sent, heard, unheard}
use Rattle.atspi_trace.specs.World.{Letter}
use Rattle.atspi_trace.specs.Ends.{same_party}
use Rattle.atspi_trace.specs.Causes.{did}
use Rattle.atspi_trace_laws.specs.laws.Words.{messages, with_serial, heard_pairs}
use Rattle.atspi_trace_laws.specs.laws.NineLaws.{sent_before}
use Rattle.atspi_trace_laws.specs.serials.Laws.{HasNextNumber}
use Rattle.atspi_trace_laws.specs.missed.Laws.{hearing, IsHeardOf, AreHeardOf}
use Rattle.atspi_trace_laws.proofs.OfOrder.Parties.{false_true}
use Rattle.atspi_trace_laws.proofs.OfOrder.Each.{Each, all_map}
use Rattle.atspi_trace_laws.proofs.OfLinks.Ups.{From, serials_from}
use Rattle.atspi_trace_laws.proofs.OfLinks.LawLinks.{first_unread}
use Rattle.atspi_trace_laws.proofs.OfSteps.Doings.{IsStill}
use Rattle.atspi_trace_laws.proofs.OfHeard.Pairs.{heard_more}
use Rattle.atspi_trace_laws.proofs.OfHeard.Heeding.{NoListeners, IsOneKind}
use Rattle.atspi_trace_laws.proofs.OfMissed.Arriving.{On}
use Rattle.atspi_trace_caches.proofs.OfServed.Facts.{up_to, told_by, IsNews, HearsAll}
use Rattle.atspi_trace_caches.proofs.OfServed.Asking.{ServedOn, Served, served_split, HeardAt}
use Rattle.atspi_trace_caches.proofs.OfServed.AskingFrame.{patterns, IsCleared, Clear}

-- WHO HEARD UP TO SOME MESSAGE has heard the same as who heard up to a later one, where no news of the registry stands between
abbrev NoNewsUpTo : ℕ → ℕ → Envelope → Type 0
NoNewsUpTo base at m = base < m.serial → m.serial ≤ at → IsNews m → ⊥

no_news : (ps : List (List ℕ × List ℕ)) (m : Envelope) → (IsNews m → ⊥) → (heard_after ps m).heard ≡ ps
no_news ps m none = by (is_text m.interface registry) refl
  where
    by : (b : Bool) → is_text m.interface registry ≡ b → (heard_after ps m).heard ≡ ps
    by true h = absurd (none h)
    by false h = rw h refl

told_same : (base at : ℕ) → base < at → (ms : List Envelope) → AllByRecursion (NoNewsUpTo base at) ms → (ps : List (List ℕ × List ℕ)) → hearing (up_to at ms) ps ≡ hearing (up_to base ms) ps
told_same base at less [] n ps = refl
told_same base at less (m ∷ ms) n ps = by (nat_le m.serial at) refl (nat_le m.serial base) refl (λ qs. told_same base at less ms n.1 qs)
  where
    above : m.serial ≤ base → at < m.serial → ⊥
    above h g = omega (arith, h, g, less)

    by : (x : Bool) → nat_le m.serial at ≡ x → (y : Bool) → nat_le m.serial base ≡ y → ((qs : List (List ℕ × List ℕ)) → hearing (up_to at ms) qs ≡ hearing (up_to base ms) qs)
        → hearing (if x then m ∷ up_to at ms else up_to at ms) ps ≡ hearing (if y then m ∷ up_to base ms else up_to base ms) ps
    by true g true h rest = rest (heard_after ps m).heard
    by true g false h rest = ap (hearing (up_to at ms)) (no_news ps m (λ news. n.0 (leb-false m.serial base h) (leb-true m.serial at g) news)) ∙ rest ps
    by false g true h rest = absurd (above (leb-true m.serial base h) (leb-false m.serial at g))
    by false g false h rest = rest ps

-- each message by its serial
by_serial : (P : Envelope → Type 0) (n : ℕ) (xs : List Envelope) → From n xs → ((s : ℕ) (m : Envelope) → n ≤ s → m.serial ≡ s → with_serial s xs ≡ Some m → P m) → AllByRecursion P xs
by_serial P n [] f g = tt
by_serial P n (x ∷ xs) f g = (
  g x.serial x (least f.0) refl (ap (λ b. if b then Some x else with_serial x.serial xs) (eq-eqb x.serial x.serial refl)),
  by_serial P (n + 1) xs f.1 (λ s m low is h. g s m (lower low) is (ap (λ b. if b then Some x else with_serial s xs) (ne_eqb x.serial s (apart f.0 low)) ∙ h)),
)
  where
    least : x.serial ≡ n → n ≤ x.serial
    least h = omega (arith, h)

    lower : {s : ℕ} → n + 1 ≤ s → n ≤ s
    lower h = omega (arith, h)

    apart : {s : ℕ} → x.serial ≡ n → n + 1 ≤ s → x.serial ≡ s → ⊥
    apart h low same = omega (arith, h, low, same)

no_bus : Registry ≡ The_bus → ⊥
no_bus h = false_true (ap (λ p. same_party p The_bus) h)

-- NO NEWS IS LEFT
module _ (es : List Entry) (s : Exporter) (down : List Letter) (numbers : Each HasNextNumber [] es) (hears_ : HearsAll es s down) (name : List ℕ) where
  none_between : (at : ℕ) → at < first_unread es Registry → ((l : Letter) → On l down → l.from ≡ Registry → at < l.said.message.serial) → AllByRecursion (NoNewsUpTo hears_.base at) (messages es Registry)
  none_between at taken behind =
      by_serial (NoNewsUpTo hears_.base at) (suc (sent_before Registry + length (messages [] Registry))) (messages es Registry) (serials_from Registry no_bus [] es numbers)
      (λ n m low is found more up news.
      let l = hears_.behind n (over is more) (under is up) m found news in
      never is up l.3 (behind l.0 l.1 l.2))
    where
      over : {n : ℕ} {k : ℕ} → k ≡ n → hears_.base < k → hears_.base < n
      over h g = omega (arith, h, g)

      under : {n : ℕ} {k : ℕ} → k ≡ n → k ≤ at → n < first_unread es Registry
      under h g = let t = taken in omega (arith, h, g, t)

      never : {n : ℕ} {k : ℕ} {l : ℕ} → k ≡ n → k ≤ at → l ≡ n → at < l → ⊥
      never h g is less = omega (arith, h, g, is, less)

  has_heard : (pattern : List ℕ) → IsCleared es name down pattern → is_heard s.heard (name, pattern) ≡ true
  has_heard pattern c = hears_.heard (name, pattern) ∙ by (nat_le c.entered.at hears_.base) refl
    where
      least : (n : ℕ) → n ≤ n
      least n = omega arith

      by : (b : Bool) → nat_le c.entered.at hears_.base ≡ b → is_heard (told_by es hears_.base) (name, pattern) ≡ true
      by true h = c.entered.stays hears_.base (leb-true c.entered.at hears_.base h)
      by false h =
          ap (λ ps. is_heard ps (name, pattern)) (sym (told_same hears_.base c.entered.at (leb-false c.entered.at hears_.base h) (messages es Registry) (none_between c.entered.at c.entered.taken c.behind) []))
          ∙ c.entered.stays c.entered.at (least c.entered.at)

  pub are_heard : Clear es name down → AreHeardOf s.heard
  are_heard c = all_map (IsCleared es name down) (IsHeardOf s.heard) patterns (λ p x. (name, has_heard p x)) c

-- WHAT IT THEN DOES
abbrev IsHeardIn : List Entry → ℕ → ℕ → Type 0
IsHeardIn early r a = Served early r a → AreHeardOf (heard_pairs early a)

-- without a step
still_heard : (r a b : ℕ) (early : List Entry) (hs : List Happening) → IsStill hs → Each (HeardAt r a) early (map (did b) hs)
still_heard r a b early [] k = tt
still_heard r a b early (steps step ∷ hs) k = absurd k
still_heard r a b early (sends e ∷ hs) k = (tt, still_heard r a b (early ++ sent (App b) e ∷ []) hs k)
still_heard r a b early (hears listener pattern ∷ hs) k = (tt, still_heard r a b (early ++ heard b listener pattern ∷ []) hs k)
still_heard r a b early (deaf listener pattern ∷ hs) k = (tt, still_heard r a b (early ++ unheard b listener pattern ∷ []) hs k)

-- without news of listeners
one_more : (early : List Entry) (x : Entry) (r a : ℕ) → heard_pairs (early ++ x ∷ []) a ≡ heard_pairs early a → (ServedOn early r a (x ∷ []) → ⊥) → IsHeardIn early r a → IsHeardIn (early ++ x ∷ []) r a
one_more early x r a same none f s = by (served_split [] early (x ∷ []) r a s)
  where
    by : ServedOn [] r a early ⊎ ServedOn early r a (x ∷ []) → AreHeardOf (heard_pairs (early ++ x ∷ []) a)
    by (inl t) = subst AreHeardOf (sym same) (f t)
    by (inr t) = absurd (none t)

none_of_two : ⊥ ⊎ ⊥ → ⊥
none_of_two (inl h) = h
none_of_two (inr h) = h

mute_heard : (r a : ℕ) (early : List Entry) (hs : List Happening) → NoListeners hs → IsHeardIn early r a → Each (HeardAt r a) early (map (did a) hs)
mute_heard r a early [] k f = tt
mute_heard r a early (hears listener pattern ∷ hs) k f = absurd k
mute_heard r a early (deaf listener pattern ∷ hs) k f = absurd k
mute_heard r a early (steps step ∷ hs) k f = (
  (λ same s. f s),
  mute_heard r a (early ++ changed a step ∷ []) hs k (one_more early (changed a step) r a (heard_more a early (changed a step ∷ [])) none_of_two f),
)
mute_heard r a early (sends e ∷ hs) k f = (tt, mute_heard r a (early ++ sent (App a) e ∷ []) hs k (one_more early (sent (App a) e) r a (heard_more a early (sent (App a) e ∷ [])) none_of_two f))

pub steps_heard : (r a : ℕ) (early : List Entry) (hs : List Happening) → IsOneKind hs → IsHeardIn early r a → Each (HeardAt r a) early (map (did a) hs)
steps_heard r a early hs (inl still) f = still_heard r a a early hs still
steps_heard r a early hs (inr mute) f = mute_heard r a early hs mute f

-- another application
pub other_heard : (r a b : ℕ) (early : List Entry) (hs : List Happening) → (b ≡ a → ⊥) → Each (HeardAt r a) early (map (did b) hs)
other_heard r a b early [] differ = tt
other_heard r a b early (steps step ∷ hs) differ = ((λ same s. absurd (differ same)), other_heard r a b (early ++ changed b step ∷ []) hs differ)
other_heard r a b early (sends e ∷ hs) differ = (tt, other_heard r a b (early ++ sent (App b) e ∷ []) hs differ)
other_heard r a b early (hears listener pattern ∷ hs) differ = (tt, other_heard r a b (early ++ heard b listener pattern ∷ []) hs differ)
other_heard r a b early (deaf listener pattern ∷ hs) differ = (tt, other_heard r a b (early ++ unheard b listener pattern ∷ []) hs differ)

-- nothing of it is taking a call
pub did_no_service : (r a b : ℕ) (early : List Entry) (hs : List Happening) → ServedOn early r a (map (did b) hs) → ⊥
did_no_service r a b early [] s = s
did_no_service r a b early (steps step ∷ hs) (inl s) = s
did_no_service r a b early (steps step ∷ hs) (inr s) = did_no_service r a b (early ++ changed b step ∷ []) hs s
did_no_service r a b early (sends e ∷ hs) (inl s) = s
did_no_service r a b early (sends e ∷ hs) (inr s) = did_no_service r a b (early ++ sent (App b) e ∷ []) hs s
did_no_service r a b early (hears listener pattern ∷ hs) (inl s) = s
did_no_service r a b early (hears listener pattern ∷ hs) (inr s) = did_no_service r a b (early ++ heard b listener pattern ∷ []) hs s
did_no_service r a b early (deaf listener pattern ∷ hs) (inl s) = s
did_no_service r a b early (deaf listener pattern ∷ hs) (inr s) = did_no_service r a b (early ++ unheard b listener pattern ∷ []) hs s
