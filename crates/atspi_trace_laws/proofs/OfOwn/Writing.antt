-- What is written of the bus: its own messages, one number behind the other, up to the drop of the registry.
use Rattle.std.proofs.Common.{◌≡◌, ℕ, suc, ◌+◌, ◌<◌, Bool, true, false, List, [], ◌∷◌, ◌++◌, length, refl, sym, ap, ◌∙◌, subst, arith, length-append}
use Rattle.std.specs.Prelude.{◌||◌, not, filter, nat_le, if◌then◌else◌}
use Rattle.std.specs.List.{AllByRecursion, list_any}
use Rattle.std.proofs.lemmas.Bool.{leb-true, leb-false}
use Rattle.std.proofs.lemmas.List.{append-nil, append_assoc}
use Rattle.atspi_script_lines.specs.declared.line.Party.{Party}
use Rattle.atspi_script_lines.specs.declared.line.Party.TheVariants.{Bus as The_bus, Registry}
use Rattle.atspi_message.specs.Envelope.{Envelope}
use Rattle.atspi_match.specs.declared.routing.closing.Why.{Why}
use Rattle.atspi_match.specs.declared.routing.closing.Why.TheVariants.{NotHello, Quota}
use Rattle.atspi_match.specs.declared.routing.closing.Closing.{Closing}
use Rattle.atspi_trace.specs.Entry.{Entry, sent, dropped}
use Rattle.atspi_trace.specs.World.{End}
use Rattle.atspi_trace.specs.Ends.{same_party, party_at}
use Rattle.atspi_trace.specs.Carrying.{sent_by_bus, is_upto, dropped_if, bus_entries}
use Rattle.atspi_trace_laws.specs.laws.Words.{messages, stops_it, is_live}
use Rattle.atspi_trace_laws.proofs.OfOrder.Parties.{false_true, same-party}
use Rattle.atspi_trace_laws.proofs.OfOrder.Each.{Each, each_more}
use Rattle.atspi_trace_laws.proofs.OfSerials.Serial.{messages_more}
use Rattle.atspi_trace_laws.proofs.OfLinks.Ups.{From}
use Rattle.atspi_trace_laws.specs.own.Laws.{HasNextOwn}
use Rattle.atspi_trace_laws.proofs.OfOwn.Counting.{is_quota, ClosingFine}

-- the number of the bus's next message, by what stands in the trace
abbrev pub next_own : List Entry → ℕ
next_own es = 8 + length (messages es The_bus)

-- THE LAW OF LISTS
weaker : (ys before : List Entry) (entry : Entry) (behind : List Entry) → HasNextOwn before entry behind → HasNextOwn before entry (behind ++ ys)
weaker ys before (sent The_bus e) behind h = h
weaker ys before entry behind h = tt

all_weaker : (ys early xs : List Entry) → Each HasNextOwn early xs → Each (λ before entry behind. HasNextOwn before entry (behind ++ ys)) early xs
all_weaker ys early [] e = tt
all_weaker ys early (x ∷ xs) e = (weaker ys early x xs e.0, all_weaker ys (early ++ x ∷ []) xs e.1)

pub own_more : (early xs ys : List Entry) → Each HasNextOwn early xs → Each HasNextOwn (early ++ xs) ys → Each HasNextOwn early (xs ++ ys)
own_more early xs ys a b = each_more HasNextOwn early xs ys (all_weaker ys early xs a) b

-- where the registry stopped nothing is said
abbrev pub Lives : List Entry → Type 0
Lives es = is_live es Registry ≡ true

pub stopped_not : (es : List Entry) → list_any (stops_it Registry) es ≡ true → Lives es → ⊥
stopped_not es h live = false_true (sym (ap not h) ∙ live)

-- who lives behind entries lived before them
any_append : (p : Entry → Bool) (xs ys : List Entry) → list_any p (xs ++ ys) ≡ (list_any p xs || list_any p ys)
any_append p [] ys = refl
any_append p (x ∷ xs) ys = by (p x) (any_append p xs ys)
  where
    by : (b : Bool) → list_any p (xs ++ ys) ≡ (list_any p xs || list_any p ys) → (b || list_any p (xs ++ ys)) ≡ ((b || list_any p xs) || list_any p ys)
    by true h = refl
    by false h = h

pub lived : (es ys : List Entry) → Lives (es ++ ys) → Lives es
lived es ys live = by (list_any (stops_it Registry) es) (list_any (stops_it Registry) ys) (sym (ap not (any_append (stops_it Registry) es ys)) ∙ live)
  where
    by : (a b : Bool) → not (a || b) ≡ true → not a ≡ true
    by false b h = refl
    by true b h = absurd (false_true h)

pub silent : (es : List Entry) → (Lives es → ⊥) → (ys : List Entry) → Each HasNextOwn es ys
silent es dead [] = tt
silent es dead (sent The_bus e ∷ ys) = ((λ live. absurd (dead live)), silent (es ++ sent The_bus e ∷ []) (λ live. dead (lived es (sent The_bus e ∷ []) live)) ys)
silent es dead (y ∷ ys) = (tt, silent (es ++ y ∷ []) (λ live. dead (lived es (y ∷ []) live)) ys)

-- OWN MESSAGES
pub sents_law : (es : List Entry) (n : ℕ) (own : List Envelope) → n ≡ next_own es → From n own → Each HasNextOwn es (sent_by_bus own) × (n + length own ≡ next_own (es ++ sent_by_bus own))
sents_law es n [] h f = let same : n + 0 ≡ next_own es = omega (arith, h) in (tt, same ∙ ap next_own (sym (append-nil es)))
sents_law es n (e ∷ own) h f =
    let one : length (messages (es ++ sent The_bus e ∷ []) The_bus) ≡ length (messages es The_bus) + 1 =
    ap length (messages_more es (sent The_bus e ∷ []) The_bus) ∙ length-append (messages es The_bus) (e ∷ []) in
    let next : n + 1 ≡ next_own (es ++ sent The_bus e ∷ []) = omega (arith, h, one) in
    let rest = sents_law (es ++ sent The_bus e ∷ []) (n + 1) own next f.1 in
    let first : e.serial ≡ n = f.0 in
    let is : e.serial ≡ suc (7 + length (messages es The_bus)) = omega (arith, first, h) in
    let total : n + suc (length own) ≡ (n + 1) + length own = omega arith in
    (((λ live. is), rest.0), total ∙ rest.1 ∙ ap next_own (append_assoc es (sent The_bus e ∷ []) (sent_by_bus own)))

-- those up to a number stand in front of the others
pub record Parted (n : ℕ) (own front back : List Envelope) : Type 0 where
  pub first : From n front
  pub rest : From (n + length front) back
  pub count : length own ≡ length front + length back

none_upto : (n after : ℕ) (own : List Envelope) → after < n → From n own → (filter (is_upto after) own ≡ []) × (filter (λ e. not (is_upto after e)) own ≡ own)
none_upto n after [] h f = (refl, refl)
none_upto n after (e ∷ own) h f =
    by (nat_le e.serial after) refl (none_upto (n + 1) after own (omega (arith, h)) f.1)
  where
    by : (b : Bool) → nat_le e.serial after ≡ b → (filter (is_upto after) own ≡ []) × (filter (λ m. not (is_upto after m)) own ≡ own)
        → ((if b then e ∷ filter (is_upto after) own else filter (is_upto after) own) ≡ []) × ((if not b then e ∷ filter (λ m. not (is_upto after m)) own else filter (λ m. not (is_upto after m)) own) ≡ e ∷ own)
    by true g r = let low = leb-true e.serial after g in let at : e.serial ≡ n = f.0 in absurd (omega (arith, low, at, h))
    by false g r = (r.0, ap (λ l. e ∷ l) r.1)

pub parted : (n after : ℕ) (own : List Envelope) → From n own → Parted n own (filter (is_upto after) own) (filter (λ e. not (is_upto after e)) own)
parted n after [] f = record { first = tt; rest = tt; count = refl }
parted n after (e ∷ own) f = by (nat_le e.serial after) refl (parted (n + 1) after own f.1)
  where
    by : (b : Bool) → nat_le e.serial after ≡ b → Parted (n + 1) own (filter (is_upto after) own) (filter (λ m. not (is_upto after m)) own)
        → Parted n (e ∷ own) (if b then e ∷ filter (is_upto after) own else filter (is_upto after) own) (if not b then e ∷ filter (λ m. not (is_upto after m)) own else filter (λ m. not (is_upto after m)) own)
    by true g p =
        let count : length own ≡ length (filter (is_upto after) own) + length (filter (λ m. not (is_upto after m)) own) = p.count in
        let same : (n + 1) + length (filter (is_upto after) own) ≡ n + suc (length (filter (is_upto after) own)) = omega arith in
        record { first = (f.0, p.first); rest = subst (λ k. From k (filter (λ m. not (is_upto after m)) own)) same p.rest; count = omega (arith, count) }
    by false g p =
        let high = leb-false e.serial after g in
        let at : e.serial ≡ n = f.0 in
        let none = none_upto (n + 1) after own (omega (arith, high, at)) f.1 in
        let same : n ≡ n + 0 = omega arith in
        subst (λ l. Parted n (e ∷ own) l (e ∷ filter (λ m. not (is_upto after m)) own)) (sym none.0)
        (subst (λ l. Parted n (e ∷ own) [] (e ∷ l)) (sym none.1) (record { first = tt; rest = subst (λ k. From k (e ∷ own)) same f; count = omega arith }))

-- ALL THAT IS WRITTEN
or_true : (a : Bool) → (a || true) ≡ true
or_true true = refl
or_true false = refl

drop_law : (es : List Entry) (who : Party) (why : Why) → Each HasNextOwn es (dropped_if who why) × (next_own (es ++ dropped_if who why) ≡ next_own es)
drop_law es who NotHello = (tt, ap next_own (append-nil es))
drop_law es who (Quota queued len) = ((tt, tt), ap (λ l. 8 + length l) (messages_more es (dropped who queued len ∷ []) The_bus ∙ append-nil (messages es The_bus)))

-- the registry stands first
abbrev pub IsFirst : List End → Type 0
IsFirst ends = (conn : ℕ) → party_at ends conn ≡ Registry → conn ≡ 0

pub words_law : (ends : List End) → IsFirst ends → (es : List Entry) (n : ℕ) (own : List Envelope) (closings : List Closing) → n ≡ next_own es → From n own → AllByRecursion ClosingFine closings
    → Each HasNextOwn es (bus_entries ends own closings) × (Lives (es ++ bus_entries ends own closings) → n + length own ≡ next_own (es ++ bus_entries ends own closings))
words_law ends is_first es n own [] h f c = let x = sents_law es n own h f in (x.0, λ live. x.1)
words_law ends is_first es n own (c ∷ cs) h f fine =
    by (same_party (party_at ends c.conn) Registry) refl
    (λ k q.
    words_law ends is_first ((es ++ sent_by_bus (filter (is_upto c.after) own)) ++ dropped_if (party_at ends c.conn) c.why) (n + length (filter (is_upto c.after) own)) (filter (λ e. not (is_upto c.after e)) own) cs k q fine.1)
  where
    front : List Envelope
    front = filter (is_upto c.after) own

    back : List Envelope
    back = filter (λ e. not (is_upto c.after e)) own

    who : Party
    who = party_at ends c.conn

    p : Parted n own front back
    p = parted n c.after own f

    a : Each HasNextOwn es (sent_by_bus front) × (n + length front ≡ next_own (es ++ sent_by_bus front))
    a = sents_law es n front h p.first

    d : Each HasNextOwn (es ++ sent_by_bus front) (dropped_if who c.why) × (next_own ((es ++ sent_by_bus front) ++ dropped_if who c.why) ≡ next_own (es ++ sent_by_bus front))
    d = drop_law (es ++ sent_by_bus front) who c.why

    early : List Entry
    early = (es ++ sent_by_bus front) ++ dropped_if who c.why

    rest : (ys : List Entry) → es ++ (sent_by_bus front ++ (dropped_if who c.why ++ ys)) ≡ early ++ ys
    rest ys = sym (append_assoc es (sent_by_bus front) (dropped_if who c.why ++ ys)) ∙ sym (append_assoc (es ++ sent_by_bus front) (dropped_if who c.why) ys)

    quota_drops : (why : Why) (p : Party) → is_quota why ≡ true → p ≡ Registry → list_any (stops_it Registry) (dropped_if p why) ≡ true
    quota_drops (Quota queued len) p q is = ap (λ x. same_party x Registry || false) is
    quota_drops NotHello p q is = absurd (false_true q)

    by : (b : Bool) → same_party who Registry ≡ b
        → (n + length front ≡ next_own early → From (n + length front) back → Each HasNextOwn early (bus_entries ends back cs) × (Lives (early ++ bus_entries ends back cs) → (n + length front) + length back ≡ next_own (early ++ bus_entries ends back cs)))
        → Each HasNextOwn es (sent_by_bus front ++ (dropped_if who c.why ++ (if b then [] else bus_entries ends back cs)))
        × (Lives (es ++ (sent_by_bus front ++ (dropped_if who c.why ++ (if b then [] else bus_entries ends back cs)))) → n + length own ≡ next_own (es ++ (sent_by_bus front ++ (dropped_if who c.why ++ (if b then [] else bus_entries ends back cs)))))
    by true g later =
        let is : who ≡ Registry = same-party who Registry g in
        let stops : list_any (stops_it Registry) (dropped_if who c.why) ≡ true = quota_drops c.why who (fine.0 (is_first c.conn is)) is in (
          own_more es (sent_by_bus front) (dropped_if who c.why ++ []) a.0 (subst (Each HasNextOwn (es ++ sent_by_bus front)) (sym (append-nil (dropped_if who c.why))) d.0),
          λ live.
              let there : Lives ((es ++ sent_by_bus front) ++ dropped_if who c.why) = subst Lives (rest [] ∙ append-nil early) live in
              absurd (stopped_not early (any_append (stops_it Registry) (es ++ sent_by_bus front) (dropped_if who c.why) ∙ ap (λ b. list_any (stops_it Registry) (es ++ sent_by_bus front) || b) stops ∙ or_true (list_any (stops_it Registry) (es ++ sent_by_bus front))) there),
        )
    by false g later =
        let next : n + length front ≡ next_own early = a.1 ∙ sym d.1 in
        let more = later next p.rest in
        let count : length own ≡ length front + length back = p.count in (
          own_more es (sent_by_bus front) (dropped_if who c.why ++ bus_entries ends back cs) a.0 (own_more (es ++ sent_by_bus front) (dropped_if who c.why) (bus_entries ends back cs) d.0 more.0),
          λ live.
              let total = more.1 (subst Lives (rest (bus_entries ends back cs)) live) in
              let sum : n + length own ≡ (n + length front) + length back = omega (arith, count) in
              sum ∙ total ∙ ap next_own (sym (rest (bus_entries ends back cs))),
        )
