-- What the numbers of messages tell of a world, and how a cause keeps it.
use Rattle.std.proofs.Common.{◌≡◌, ◌⊎◌, inl, inr, ℕ, suc, ◌+◌, ◌<◌, ◌≤◌, Bool, true, false, List, [], ◌∷◌, ◌++◌, length, None, Some, refl, sym, ap, ◌∙◌, subst, arith, length-append}
use Rattle.std.specs.Prelude.{if◌then◌else◌}
use Rattle.std.specs.List.{AllByRecursion, cons_option}
use Rattle.std.proofs.lemmas.List.{append-nil}
use Rattle.atspi_script_lines.specs.declared.line.Party.{Party}
use Rattle.atspi_script_lines.specs.declared.line.Party.TheVariants.{Bus as The_bus, Registry, App, Reader}
use Rattle.atspi_trace.specs.Entry.{Entry, sent}
use Rattle.atspi_trace.specs.World.{Role, End, World}
use Rattle.atspi_trace.specs.Ends.{same_party, is_app, is_reader, app_count, reader_count, end_at}
use Rattle.atspi_trace_laws.specs.laws.Words.{messages}
use Rattle.atspi_trace_laws.specs.laws.NineLaws.{sent_before, HasNextSerial}
use Rattle.atspi_trace_laws.proofs.OfOrder.Parties.{same-party, false_true}
use Rattle.atspi_trace_laws.proofs.OfOrder.Frame.{Over}
use Rattle.atspi_trace_laws.proofs.OfOrder.Shape.{RoleFits, Lasts, Shape, counts}
use Rattle.atspi_trace_laws.proofs.OfOrder.Each.{Each, each_more, each_of}
use Rattle.atspi_trace_laws.specs.serials.Laws.{HasNextNumber}
use Rattle.atspi_trace_laws.proofs.OfSerials.Serial.{Rises, sent_count, messages_more, none_else, as_many, rises_law}
use Rattle.atspi_trace_laws.proofs.OfSerials.Speaking.{next_of, SameNext}

abbrev pub AreNext : List Entry → World → Type 0
AreNext es w = (k : ℕ) (e : End) → end_at w.ends k ≡ Some e → next_of e.role ≡ suc (sent_before e.who + length (messages es e.who))

-- a party that did not join
abbrev pub IsFresh : World → Party → Type 0
IsFresh w (App a) = app_count w.ends ≤ a
IsFresh w (Reader r) = reader_count w.ends ≤ r
IsFresh w who = ⊥

abbrev pub Unsent : List Entry → World → Type 0
Unsent es w = (p : Party) → IsFresh w p → messages es p ≡ []

abbrev pub Numbered : List Entry → World → Type 0
Numbered es w = Each HasNextNumber [] es × AreNext es w × Unsent es w

-- entries in which nobody but the bus sends
abbrev pub BusOnly : Entry → Type 0
BusOnly (sent who e) = who ≡ The_bus
BusOnly entry = Unit {0}

pub bus_only_none : (p : Party) (ys : List Entry) → (p ≡ The_bus → ⊥) → AllByRecursion BusOnly ys → messages ys p ≡ []
bus_only_none p [] differ a = refl
bus_only_none p (sent other e ∷ ys) differ a = by (same_party other p) refl (bus_only_none p ys differ a.1)
  where
    by : (b : Bool) → same_party other p ≡ b → messages ys p ≡ [] → cons_option (if b then Some e else None) (messages ys p) ≡ []
    by true h g = absurd (differ (sym (same-party other p h) ∙ a.0))
    by false h g = g
bus_only_none p (entry ∷ ys) differ a = bus_only_none p ys differ a.1

number_of_serial : (before : List Entry) (entry : Entry) (behind : List Entry) → HasNextSerial before entry behind → HasNextNumber before entry behind
number_of_serial before (sent The_bus e) behind h = tt
number_of_serial before (sent Registry e) behind h = h
number_of_serial before (sent (App a) e) behind h = h
number_of_serial before (sent (Reader r) e) behind h = h
number_of_serial before entry behind h = tt

bus_number : (before : List Entry) (entry : Entry) (behind : List Entry) → BusOnly entry → HasNextNumber before entry behind
bus_number before (sent The_bus e) behind h = tt
bus_number before (sent Registry e) behind h = absurd (false_true (ap (λ p. same_party p The_bus) h))
bus_number before (sent (App a) e) behind h = absurd (false_true (ap (λ p. same_party p The_bus) h))
bus_number before (sent (Reader r) e) behind h = absurd (false_true (ap (λ p. same_party p The_bus) h))
bus_number before entry behind h = tt

all_numbers : (early xs : List Entry) → Each HasNextSerial early xs → Each HasNextNumber early xs
all_numbers early [] e = tt
all_numbers early (x ∷ xs) e = (number_of_serial early x xs e.0, all_numbers (early ++ x ∷ []) xs e.1)

weaker : (ys before : List Entry) (entry : Entry) (behind : List Entry) → HasNextNumber before entry behind → HasNextNumber before entry (behind ++ ys)
weaker ys before (sent The_bus e) behind h = tt
weaker ys before (sent Registry e) behind h = h
weaker ys before (sent (App a) e) behind h = h
weaker ys before (sent (Reader r) e) behind h = h
weaker ys before entry behind h = tt

all_weaker : (ys early xs : List Entry) → Each HasNextNumber early xs → Each (λ before entry behind. HasNextNumber before entry (behind ++ ys)) early xs
all_weaker ys early [] e = tt
all_weaker ys early (x ∷ xs) e = (weaker ys early x xs e.0, all_weaker ys (early ++ x ∷ []) xs e.1)

pub number_law : (es ys : List Entry) → Each HasNextNumber [] es → Each HasNextNumber es ys → Each HasNextNumber [] (es ++ ys)
number_law es ys a b = each_more HasNextNumber [] es ys (all_weaker ys [] es a) b

-- who has an end is not new, and nobody becomes new
pub known_not_fresh : (w : World) (k : ℕ) (e : End) (who : Party) → Shape w → end_at w.ends k ≡ Some e → e.who ≡ who → IsFresh w who → ⊥
known_not_fresh w k e (App a) s h g f = let below : a < app_count w.ends = s.apps k a e h g in omega (arith, below, f)
known_not_fresh w k e (Reader r) s h g f = let below : r < reader_count w.ends = s.readers k r e h g in omega (arith, below, f)
known_not_fresh w k e Registry s h g f = f
known_not_fresh w k e The_bus s h g f = f

pub fresh_over : (w v : World) → Over Lasts w.ends v.ends → (p : Party) → IsFresh v p → IsFresh w p
fresh_over w v o (App a) f =
    let same : app_count v.ends ≡ app_count w.ends = counts is_app w.ends v.ends o.size (λ k d h. let e = o.back k d h in (e.0, e.1, e.2.whose)) in
    omega (arith, same, f)
fresh_over w v o (Reader r) f =
    let same : reader_count v.ends ≡ reader_count w.ends = counts is_reader w.ends v.ends o.size (λ k d h. let e = o.back k d h in (e.0, e.1, e.2.whose)) in
    omega (arith, same, f)
fresh_over w v o Registry f = f
fresh_over w v o The_bus f = f

-- one party speaks
pub record Speaks (w v : World) (ys : List Entry) (who : Party) (n : ℕ) : Type 0 where
  pub rises : Rises who n ys
  pub ends : (k : ℕ) (x : End) → end_at v.ends k ≡ Some x
      → ((x.who ≡ who) × (next_of x.role ≡ n + sent_count ys)) ⊎ ((x.who ≡ who → ⊥) × (y : End) × (end_at w.ends k ≡ Some y) × SameNext y x)
  pub not_fresh : IsFresh v who → ⊥
  pub grown : (p : Party) → IsFresh v p → IsFresh w p

pub spoken : (es ys : List Entry) (w v : World) (who : Party) (n : ℕ) → Numbered es w → (s : Speaks w v ys who n) → n ≡ suc (sent_before who + length (messages es who)) → Numbered (es ++ ys) v
spoken es ys w v who n i s at = (
  number_law es ys i.0 (all_numbers es ys (rises_law who n es ys at s.rises)),
  λ k x h. next k x (s.ends k x h),
  λ p f. messages_more es ys p
      ∙ ap (λ l. l ++ messages ys p) (i.2 p (s.grown p f))
      ∙ none_else who p n ys s.rises (λ same. s.not_fresh (subst (IsFresh v) same f)),
)
  where
    sum : length (messages (es ++ ys) who) ≡ length (messages es who) + sent_count ys
    sum = ap length (messages_more es ys who) ∙ length-append (messages es who) (messages ys who) ∙ ap (λ c. length (messages es who) + c) (as_many who n ys s.rises)

    mine : n + sent_count ys ≡ suc (sent_before who + length (messages (es ++ ys) who))
    mine = omega (arith, at, sum)

    alone : (p : Party) → (p ≡ who → ⊥) → messages (es ++ ys) p ≡ messages es p
    alone p differ = messages_more es ys p ∙ ap (λ l. messages es p ++ l) (none_else who p n ys s.rises differ) ∙ append-nil (messages es p)

    next : (k : ℕ) (x : End) → ((x.who ≡ who) × (next_of x.role ≡ n + sent_count ys)) ⊎ ((x.who ≡ who → ⊥) × (y : End) × (end_at w.ends k ≡ Some y) × SameNext y x)
        → next_of x.role ≡ suc (sent_before x.who + length (messages (es ++ ys) x.who))
    next k x (inl g) = g.1 ∙ mine ∙ ap (λ p. suc (sent_before p + length (messages (es ++ ys) p))) (sym g.0)
    next k x (inr g) =
        g.3.next ∙ i.1 k g.1 g.2 ∙ ap (λ p. suc (sent_before p + length (messages es p))) (sym g.3.whose)
        ∙ ap (λ l. suc (sent_before x.who + length l)) (sym (alone x.who g.0))

-- nobody speaks but the bus
pub record Hushed (w v : World) (ys : List Entry) : Type 0 where
  pub only : AllByRecursion BusOnly ys
  pub ends : Over SameNext w.ends v.ends
  pub grown : (p : Party) → IsFresh v p → IsFresh w p

not_the_bus : (w : World) (k : ℕ) (e : End) → Shape w → end_at w.ends k ≡ Some e → e.who ≡ The_bus → ⊥
not_the_bus w k e s h g = by e.role (subst (λ p. RoleFits p e.role) g (s.roles k e h))
  where
    by : (role : Role) → RoleFits The_bus role → ⊥
    by role f = f

fresh_no_bus : (v : World) (p : Party) → IsFresh v p → p ≡ The_bus → ⊥
fresh_no_bus v p f h = subst (IsFresh v) h f

pub hushed : (es ys : List Entry) (w v : World) → Shape w → Numbered es w → Hushed w v ys → Numbered (es ++ ys) v
hushed es ys w v s i b = (
  number_law es ys i.0 (each_of BusOnly HasNextNumber es ys bus_number b.only),
  λ k x h. next k x h (b.ends.back k x h),
  λ p f. messages_more es ys p ∙ ap (λ l. l ++ messages ys p) (i.2 p (b.grown p f)) ∙ bus_only_none p ys (fresh_no_bus v p f) b.only,
)
  where
    alone : (p : Party) → (p ≡ The_bus → ⊥) → messages (es ++ ys) p ≡ messages es p
    alone p differ = messages_more es ys p ∙ ap (λ l. messages es p ++ l) (bus_only_none p ys differ b.only) ∙ append-nil (messages es p)

    next : (k : ℕ) (x : End) → end_at v.ends k ≡ Some x → ((y : End) × (end_at w.ends k ≡ Some y) × SameNext y x) → next_of x.role ≡ suc (sent_before x.who + length (messages (es ++ ys) x.who))
    next k x h g =
        g.2.next ∙ i.1 k g.0 g.1 ∙ ap (λ p. suc (sent_before p + length (messages es p))) (sym g.2.whose)
        ∙ ap (λ l. suc (sent_before x.who + length l)) (sym (alone x.who (λ bus. not_the_bus w k g.0 s g.1 (sym g.2.whose ∙ bus))))
