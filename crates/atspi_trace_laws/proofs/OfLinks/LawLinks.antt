-- The bus takes the messages of each end in the order in which they were sent.
use Rattle.std.proofs.Common.{◌≡◌, ◌⊎◌, inl, inr, ℕ, suc, ◌+◌, Bool, true, false, List, [], ◌∷◌, ◌++◌, length, map, Some, refl, sym, ap, ◌∙◌, subst, arith, is_some, length-append}
use Rattle.std.specs.List.{AllByRecursion}
use Rattle.atspi_script_lines.specs.declared.line.Party.{Party}
use Rattle.atspi_script_lines.specs.declared.line.Party.TheVariants.{Bus as The_bus, Registry, App, Reader}
use Rattle.atspi_message.specs.Envelope.{Envelope}
use Rattle.atspi_match.specs.declared.routing.closing.Closing.{Closing}
use Rattle.atspi_protocol.specs.exporting.Exporter.{Happening, steps, sends, hears, deaf}
use Rattle.atspi_trace.specs.Entry.{Entry, sent, got, dropped}
use Rattle.atspi_trace.specs.World.{Role, End, World}
use Rattle.atspi_trace.specs.Ends.{is_here, same_party, party_at, end_at, with_end, rest_of, taken_up}
use Rattle.atspi_trace.specs.Carrying as carrying
use Rattle.atspi_trace.specs.Carrying.{bus_entries}
use Rattle.atspi_trace.specs.Causes.{Done, did}
use Rattle.atspi_trace_laws.specs.laws.Words.{messages, message}
use Rattle.atspi_trace_laws.specs.laws.NineLaws.{sent_before, is_got_by_bus, count_got_by_bus}
use Rattle.atspi_trace_laws.proofs.OfOrder.Parties.{same_some, same-party, party-same}
use Rattle.atspi_trace_laws.proofs.OfOrder.BusWords.{all_any, bus_all}
use Rattle.atspi_trace_laws.proofs.OfOrder.Frame.{Over, with_cases, joined_cases}
use Rattle.atspi_trace_laws.proofs.OfOrder.Shape.{RoleFits, Shape}
use Rattle.atspi_trace_laws.proofs.OfOrder.Effects.{BusTakes}
use Rattle.atspi_trace_laws.proofs.OfOrder.Shaped.{bus_takes_over}
use Rattle.atspi_trace_laws.proofs.OfOrder.Each.{Each, each_more, each_of}
use Rattle.atspi_trace_laws.proofs.OfOrder.Acts.{Act}
use Rattle.atspi_trace_laws.proofs.OfSerials.Speaking.{next_of}
use Rattle.atspi_trace_laws.proofs.OfSerials.Numbers.{IsFresh, Numbered, known_not_fresh, fresh_over}
use Rattle.atspi_trace_laws.specs.links.Laws.{IsTakenInOrder}
use Rattle.atspi_trace_laws.proofs.OfLinks.Ups.{Ups, ups_append, Grew, UpMore, was_sent}
use Rattle.atspi_trace_laws.proofs.OfLinks.Lifting.{takes_lifts}

-- entries in which the bus takes nothing
abbrev pub NotTaken : Entry → Type 0
NotTaken (got The_bus who serial) = ⊥
NotTaken entry = Unit {0}

pub none_taken : (who : Party) (ys : List Entry) → AllByRecursion NotTaken ys → count_got_by_bus ys who ≡ 0
none_taken who [] a = refl
none_taken who (got The_bus other serial ∷ ys) a = absurd a.0
none_taken who (got Registry other serial ∷ ys) a = none_taken who ys a.1
none_taken who (got (App b) other serial ∷ ys) a = none_taken who ys a.1
none_taken who (got (Reader b) other serial ∷ ys) a = none_taken who ys a.1
none_taken who (entry ∷ ys) a = none_taken who ys a.1

abbrev add : Bool → ℕ → ℕ
add true n = suc n
add false n = n

pub count_more : (es ys : List Entry) (who : Party) → count_got_by_bus (es ++ ys) who ≡ count_got_by_bus es who + count_got_by_bus ys who
count_more [] ys who = omega arith
count_more (x ∷ es) ys who = by (is_got_by_bus who x) (count_more es ys who)
  where
    by : (b : Bool) → count_got_by_bus (es ++ ys) who ≡ count_got_by_bus es who + count_got_by_bus ys who → add b (count_got_by_bus (es ++ ys) who) ≡ add b (count_got_by_bus es who) + count_got_by_bus ys who
    by true h = omega (arith, h)
    by false h = h

-- an entry that is written of a cause
pub did_free : (app : ℕ) (hs : List Happening) → AllByRecursion NotTaken (map (did app) hs)
did_free app [] = tt
did_free app (steps step ∷ hs) = (tt, did_free app hs)
did_free app (sends e ∷ hs) = (tt, did_free app hs)
did_free app (hears listener pattern ∷ hs) = (tt, did_free app hs)
did_free app (deaf listener pattern ∷ hs) = (tt, did_free app hs)

pub sent_free : (who : Party) (es : List Envelope) → AllByRecursion NotTaken (map (sent who) es)
sent_free who [] = tt
sent_free who (e ∷ es) = (tt, sent_free who es)

pub got_free : (who from : Party) (serial : ℕ) → (who ≡ The_bus → ⊥) → NotTaken (got who from serial)
got_free The_bus from serial differ = absurd (differ refl)
got_free Registry from serial differ = tt
got_free (App a) from serial differ = tt
got_free (Reader r) from serial differ = tt

pub word_free : (entry : Entry) → Act (λ p. ⊥) entry → NotTaken entry
word_free (got taker from serial) a = absurd a
word_free entry a = tt

pub bus_free : (ends : List End) (own : List Envelope) (closings : List Closing) → AllByRecursion NotTaken (bus_entries ends own closings)
bus_free ends own closings =
    bus_all NotTaken (λ e. tt) ends own closings (all_any (λ (x : Closing). (queued len : ℕ) → NotTaken (dropped (party_at ends x.conn) queued len)) (λ x queued len. tt) closings)

pub no_bus : (w : World) (k : ℕ) (e : End) → Shape w → end_at w.ends k ≡ Some e → e.who ≡ The_bus → ⊥
no_bus w k e s h g = by e.role (subst (λ p. RoleFits p e.role) g (s.roles k e h))
  where
    by : (role : Role) → RoleFits The_bus role → ⊥
    by role f = f

-- what stands on an up link begins behind what the bus took of its end, and goes up to what it sends next
pub record IsLinked (n : ℕ) (e : End) : Type 0 where
  pub ups : Ups n e.up
  pub total : next_of e.role ≡ n + length e.up

extended : (n : ℕ) (e x : End) → IsLinked n e → Grew e x → IsLinked n x
extended n e x l g = record {
  ups = subst (Ups n) (sym g.up) (ups_append n (next_of e.role) e.up g.more l.total l.ups g.rises);
  total = sum g.next l.total (ap length g.up ∙ length-append e.up g.more);
}
  where
    sum : next_of x.role ≡ next_of e.role + length g.more → next_of e.role ≡ n + length e.up → length x.up ≡ length e.up + length g.more → next_of x.role ≡ n + length x.up
    sum p q r = omega (arith, p, q, r)

abbrev pub first_unread : List Entry → Party → ℕ
first_unread es who = suc (sent_before who + count_got_by_bus es who)

abbrev pub Uplinks : List Entry → World → Type 0
Uplinks es w = (k : ℕ) (e : End) → end_at w.ends k ≡ Some e → is_here e.standing ≡ true → IsLinked (first_unread es e.who) e

abbrev pub NoneTaken : List Entry → World → Type 0
NoneTaken es w = (p : Party) → IsFresh w p → count_got_by_bus es p ≡ 0

abbrev pub Linked : List Entry → World → Type 0
Linked es w = Each IsTakenInOrder [] es × Uplinks es w × NoneTaken es w

-- the law of lists
weaker : (ys before : List Entry) (entry : Entry) (behind : List Entry) → IsTakenInOrder before entry behind → IsTakenInOrder before entry (behind ++ ys)
weaker ys before (got The_bus who serial) behind h = h
weaker ys before entry behind h = tt

all_weaker : (ys early xs : List Entry) → Each IsTakenInOrder early xs → Each (λ before entry behind. IsTakenInOrder before entry (behind ++ ys)) early xs
all_weaker ys early [] e = tt
all_weaker ys early (x ∷ xs) e = (weaker ys early x xs e.0, all_weaker ys (early ++ x ∷ []) xs e.1)

law_more : (es ys : List Entry) → Each IsTakenInOrder [] es → Each IsTakenInOrder es ys → Each IsTakenInOrder [] (es ++ ys)
law_more es ys a b = each_more IsTakenInOrder [] es ys (all_weaker ys [] es a) b

free_law : (before : List Entry) (entry : Entry) (behind : List Entry) → NotTaken entry → IsTakenInOrder before entry behind
free_law before (got The_bus who serial) behind h = absurd h
free_law before entry behind h = tt

same_unread : (es ys : List Entry) (who : Party) → count_got_by_bus ys who ≡ 0 → first_unread (es ++ ys) who ≡ first_unread es who
same_unread es ys who h = let sum : count_got_by_bus (es ++ ys) who ≡ count_got_by_bus es who + count_got_by_bus ys who = count_more es ys who in omega (arith, sum, h)

-- where the bus takes nothing
pub lifted : (es ys : List Entry) (w v : World) → Linked es w → Over UpMore w.ends v.ends → ((p : Party) → IsFresh v p → IsFresh w p) → AllByRecursion NotTaken ys → Linked (es ++ ys) v
lifted es ys w v i o older free = (
  law_more es ys i.0 (each_of NotTaken IsTakenInOrder es ys free_law free),
  λ k x h stays. link k x h stays (o.back k x h),
  λ p f. count_more es ys p ∙ zero_sum (count_got_by_bus es p) (count_got_by_bus ys p) (i.2 p (older p f)) (none_taken p ys free),
)
  where
    zero_sum : (a b : ℕ) → a ≡ 0 → b ≡ 0 → a + b ≡ 0
    zero_sum a b h g = omega (arith, h, g)

    link : (k : ℕ) (x : End) → end_at v.ends k ≡ Some x → is_here x.standing ≡ true → ((y : End) × (end_at w.ends k ≡ Some y) × UpMore y x) → IsLinked (first_unread (es ++ ys) x.who) x
    link k x h stays g =
        let more : Grew g.0 x = g.2.going stays in
        let old : IsLinked (first_unread es g.0.who) x = extended (first_unread es g.0.who) g.0 x (i.1 k g.0 g.1 more.here_before) more in
        subst (λ n. IsLinked n x) (sym (same_unread es ys x.who (none_taken x.who ys free) ∙ ap (first_unread es) g.2.whose)) old

-- one joins
pub joins_linked : (es ys : List Entry) (w v : World) (n : End) → Linked es w → v.ends ≡ w.ends ++ n ∷ [] → IsFresh w n.who → sent_before n.who ≡ 0 → IsLinked 1 n → ((p : Party) → IsFresh v p → IsFresh w p) → AllByRecursion NotTaken ys
    → Linked (es ++ ys) v
joins_linked es ys w v n i joined fresh none new older free = (
  law_more es ys i.0 (each_of NotTaken IsTakenInOrder es ys free_law free),
  λ k x h stays. link k x stays (joined_cases w.ends n k x (sym (ap (λ es. end_at es k) joined) ∙ h)),
  λ p f. count_more es ys p ∙ zero_sum (count_got_by_bus es p) (count_got_by_bus ys p) (i.2 p (older p f)) (none_taken p ys free),
)
  where
    zero_sum : (a b : ℕ) → a ≡ 0 → b ≡ 0 → a + b ≡ 0
    zero_sum a b h g = omega (arith, h, g)

    one : 1 ≡ first_unread (es ++ ys) n.who
    one =
        let old : count_got_by_bus es n.who ≡ 0 = i.2 n.who fresh in
        let same : first_unread (es ++ ys) n.who ≡ first_unread es n.who = same_unread es ys n.who (none_taken n.who ys free) in
        omega (arith, old, same, none)

    link : (k : ℕ) (x : End) → is_here x.standing ≡ true → (end_at w.ends k ≡ Some x) ⊎ ((k ≡ length w.ends) × (x ≡ n)) → IsLinked (first_unread (es ++ ys) x.who) x
    link k x stays (inl g) = subst (λ m. IsLinked m x) (sym (same_unread es ys x.who (none_taken x.who ys free))) (i.1 k x g stays)
    link k x stays (inr g) = subst (λ (z : End). IsLinked (first_unread (es ++ ys) z.who) z) (sym g.1) (subst (λ m. IsLinked m n) one new)

-- the bus takes the first message of an up link
module _ (es : List Entry) (w : World) (d : Done) (s : Shape w) (numbers : Numbered es w) (i : Linked es w) (b : BusTakes w d) where
  abbrev carried : carrying.Carried
  carried = carrying.takes (record { bus = w.bus; ends = w.ends }) b.conn b.e.who b.said

  abbrev words : List Entry
  words = bus_entries carried.ends carried.bus.own carried.bus.closings

  abbrev ys : List Entry
  ys = got The_bus b.e.who b.said.message.serial ∷ words

  stays : is_here b.e.standing ≡ true
  stays = ap is_here b.is_here.standing

  old : IsLinked (first_unread es b.e.who) b.e
  old = i.1 b.conn b.e b.is_here.there stays

  first : (b.said.message.serial ≡ first_unread es b.e.who) × Ups (first_unread es b.e.who + 1) b.rest
  first = subst (Ups (first_unread es b.e.who)) b.link old.ups

  was : is_some (message es b.e.who b.said.message.serial) ≡ true
  was =
      let size : length b.e.up ≡ suc (length b.rest) = ap length b.link in
      let next : next_of b.e.role ≡ suc (sent_before b.e.who + length (messages es b.e.who)) = numbers.1 b.conn b.e b.is_here.there in
      let total : next_of b.e.role ≡ first_unread es b.e.who + length b.e.up = old.total in
      let serial : b.said.message.serial ≡ first_unread es b.e.who = first.0 in
      was_sent b.e.who (no_bus w b.conn b.e s b.is_here.there) es numbers.0 b.said.message.serial (omega (arith, serial)) (omega (arith, serial, next, total, size))

  free : AllByRecursion NotTaken words
  free = bus_free carried.ends carried.bus.own carried.bus.closings

  pub counted : (p : Party) (t : Bool) → same_party b.e.who p ≡ t → count_got_by_bus ys p ≡ add t 0
  counted p t h = ap (λ c. add c (count_got_by_bus words p)) h ∙ ap (add t) (none_taken p words free)

  taken_law : Each IsTakenInOrder [] (es ++ ys)
  taken_law = law_more es ys i.0 ((was, first.0), each_of NotTaken IsTakenInOrder (es ++ got The_bus b.e.who b.said.message.serial ∷ []) words free_law free)

  first_now : first_unread (es ++ ys) b.e.who ≡ first_unread es b.e.who + 1
  first_now =
      let sum : count_got_by_bus (es ++ ys) b.e.who ≡ count_got_by_bus es b.e.who + count_got_by_bus ys b.e.who = count_more es ys b.e.who in
      let one : count_got_by_bus ys b.e.who ≡ 1 = counted b.e.who true (party-same b.e.who) in
      omega (arith, sum, one)

  mine : IsLinked (first_unread (es ++ ys) b.e.who) (taken_up b.e)
  mine =
      let rest : (taken_up b.e).up ≡ b.rest = ap rest_of b.link in
      let size : length b.e.up ≡ suc (length b.rest) = ap length b.link in
      let less : length (taken_up b.e).up ≡ length b.rest = ap length rest in
      let total : next_of b.e.role ≡ first_unread es b.e.who + length b.e.up = old.total in
      subst (λ n. IsLinked n (taken_up b.e)) (sym first_now) (record {
        ups = subst (Ups (first_unread es b.e.who + 1)) (sym rest) first.1;
        total = omega (arith, total, size, less);
      })

  others : (k : ℕ) (z : End) → end_at w.ends k ≡ Some z → (k ≡ b.conn → ⊥) → count_got_by_bus ys z.who ≡ 0
  others k z h differ = by (same_party b.e.who z.who) refl
    where
      by : (t : Bool) → same_party b.e.who z.who ≡ t → count_got_by_bus ys z.who ≡ 0
      by true g = absurd (differ (s.one k b.conn z b.e h b.is_here.there (sym (same-party b.e.who z.who g))))
      by false g = counted z.who false g

  base : (k : ℕ) (y : End) → is_here y.standing ≡ true → ((z : End) × (end_at w.ends k ≡ Some z) × (((k ≡ b.conn) × (y ≡ taken_up z)) ⊎ ((k ≡ b.conn → ⊥) × (y ≡ z)))) → IsLinked (first_unread (es ++ ys) y.who) y
  base k y going g = at g.2
    where
      at : (((k ≡ b.conn) × (y ≡ taken_up g.0)) ⊎ ((k ≡ b.conn → ⊥) × (y ≡ g.0))) → IsLinked (first_unread (es ++ ys) y.who) y
      at (inl c) =
          let same : g.0 ≡ b.e = same_some g.0 b.e (sym g.1 ∙ ap (end_at w.ends) c.0 ∙ b.is_here.there) in
          subst (λ (z : End). IsLinked (first_unread (es ++ ys) z.who) z) (sym (c.1 ∙ ap taken_up same)) mine
      at (inr c) =
          subst (λ (z : End). IsLinked (first_unread (es ++ ys) z.who) z) (sym c.1)
          (subst (λ n. IsLinked n g.0) (sym (same_unread es ys g.0.who (others k g.0 g.1 c.0))) (i.1 k g.0 g.1 (ap (λ (z : End). is_here z.standing) (sym c.1) ∙ going)))

  link : (k : ℕ) (x : End) → is_here x.standing ≡ true → ((y : End) × (end_at (with_end b.conn taken_up w.ends) k ≡ Some y) × UpMore y x) → IsLinked (first_unread (es ++ ys) x.who) x
  link k x going g =
      let more : Grew g.0 x = g.2.going going in
      subst (λ p. IsLinked (first_unread (es ++ ys) p) x) (sym g.2.whose)
      (extended (first_unread (es ++ ys) g.0.who) g.0 x (base k g.0 more.here_before (with_cases taken_up w.ends b.conn k g.0 g.1)) more)

  none_fresh : (p : Party) → IsFresh d.world p → count_got_by_bus (es ++ ys) p ≡ 0
  none_fresh p f =
      let g : IsFresh w p = fresh_over w d.world (bus_takes_over w d b) p f in
      count_more es ys p ∙ zero_sum (count_got_by_bus es p) (count_got_by_bus ys p) (i.2 p g) (by g (same_party b.e.who p) refl)
    where
      zero_sum : (a c : ℕ) → a ≡ 0 → c ≡ 0 → a + c ≡ 0
      zero_sum a c h k = omega (arith, h, k)

      by : IsFresh w p → (t : Bool) → same_party b.e.who p ≡ t → count_got_by_bus ys p ≡ 0
      by g true h = absurd (known_not_fresh w b.conn b.e p s b.is_here.there (same-party b.e.who p h) g)
      by g false h = counted p false h

  pub taken_linked : Linked (es ++ d.entries) d.world
  taken_linked =
      let wrote : d.entries ≡ ys = ap (λ x. x.entries) b.is in
      let o : Over UpMore (with_end b.conn taken_up w.ends) d.world.ends =
      subst (λ x. Over UpMore (with_end b.conn taken_up w.ends) x.world.ends) (sym b.is) (takes_lifts (record { bus = w.bus; ends = w.ends }) b.conn b.e.who b.said) in
      subst (λ l. Linked (es ++ l) d.world) (sym wrote) (taken_law, λ k x h going. link k x going (o.back k x h), none_fresh)
