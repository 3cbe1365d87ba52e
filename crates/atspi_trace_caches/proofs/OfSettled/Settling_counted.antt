-- The serials of a reader's own calls rise from 1 on, and below each serial it sent no more calls of AddMatch than own calls.
use Rattle.std.proofs.Common.{◌≡◌, ◌⊎◌, inl, inr, ℕ, zero, suc, ◌+◌, ◌≤◌, ◌<◌, Bool, true, false, List, [], ◌∷◌, ◌++◌, length, map, None, Some, refl, sym, ap, ◌∙◌, subst, arith}
use Rattle.std.specs.Prelude.{◌&&◌, nat_lt, if◌then◌else◌}
use Rattle.std.specs.List.{AllByRecursion, cons_option}
use Rattle.std.proofs.lemmas.Bool.{ltb-true}
use Rattle.std.proofs.lemmas.List.{append-nil}
use Rattle.atspi_script_lines.specs.declared.deed.Deed.{Deed}
use Rattle.atspi_script_lines.specs.declared.deed.Deed.TheVariants.{SetCaret, InsertText, DeleteText, SetText, SelectChild, DeselectChild, SelectAll, ClearSelection, DoAction}
use Rattle.atspi_script_lines.specs.declared.limits.TheConstants.{QUOTA_MOST}
use Rattle.atspi_script_lines.specs.declared.line.Party.TheVariants.{Registry, Reader}
use Rattle.atspi_message.specs.Envelope.{Envelope}
use Rattle.atspi_match.specs.declared.routing.closing.Closing.{Closing}
use Rattle.atspi_protocol.specs.registering.Steps.{registry_takes}
use Rattle.atspi_protocol.specs.exporting.Exporter.{Happening, steps, sends, hears, deaf}
use Rattle.atspi_protocol.specs.exporting.Taking.{app_takes}
use Rattle.atspi_protocol.specs.declared.following.question.Question.{Question}
use Rattle.atspi_protocol.specs.declared.following.question.Question.TheVariants.{Hello}
use Rattle.atspi_protocol.specs.following.Calls.{user_call}
use Rattle.atspi_trace.specs.Entry.{Entry, sent, dropped}
use Rattle.atspi_trace.specs.World.{Asked, waits, a_reader, Hearer, End, World, first_registry, first_world}
use Rattle.atspi_trace.specs.Ends.{same_party, whose, party_at, number_of, end_at, reader_count}
use Rattle.atspi_trace.specs.Carrying as carrying
use Rattle.atspi_trace.specs.Causes.{Done, did, at_end, reader_sends, asks, first_hearer, app_starts}
use Rattle.atspi_trace.specs.Due.{asks_as, asks_at}
use Rattle.atspi_trace_laws.specs.laws.Words.{messages}
use Rattle.atspi_trace_laws.proofs.OfOrder.Parties.{no_none, same_some, same-party, party-same, false_true}
use Rattle.atspi_trace_laws.proofs.OfOrder.BusWords.{bus_all, all_any}
use Rattle.atspi_trace_laws.proofs.OfOrder.Allowed.{Asks}
use Rattle.atspi_trace_laws.proofs.OfOrder.Frame.{Over, with_cases, joined_cases}
use Rattle.atspi_trace_laws.proofs.OfOrder.Shape.{Shape}
use Rattle.atspi_trace_laws.proofs.OfOrder.Shaped.{new_reader}
use Rattle.atspi_trace_laws.proofs.OfOrder.Effects.{received, Effect, resets, app_joins, reader_joins, app_edited, app_took, reader_called, swapped, exited_, showed_, told_busy, told_quiet, bus_took, bus_ended, registry_took, reader_took}
use Rattle.atspi_trace_laws.proofs.OfOrder.Along.{Keeps}
use Rattle.atspi_trace_laws.proofs.OfOrder.Growing.{Grows, Shaped, And, grown}
use Rattle.atspi_trace_laws.proofs.OfOrder.Each.{all_map}
use Rattle.atspi_trace_laws.proofs.OfHeard.Quiet.{heard_all}
use Rattle.atspi_trace_laws.proofs.OfSerials.Serial.{messages_more}
use Rattle.atspi_trace_laws.proofs.OfSerials.Numbers.{Numbered}
use Rattle.atspi_trace_caches.proofs.OfSettled.RefusingRules.{is_add, counted, adds_among}
use Rattle.atspi_trace_caches.proofs.OfSettled.Settling_serials.{serials, CallsBack, is_reader_role, same_hearer, Reading, reads_on, joins, starts_, begins_, reading, moved_back}
use Rattle.atspi_trace_caches.proofs.OfSettled.Settling_ground.{Ground, ground_keep, grounds}

-- NUMBERS that rise, and how many are below one
abbrev pub Rises : ℕ → List ℕ → Type 0
Rises lo [] = Unit {0}
Rises lo (n ∷ ns) = (lo ≤ n) × Rises (suc n) ns

abbrev pub HeadOne : List ℕ → Type 0
HeadOne [] = Unit {0}
HeadOne (n ∷ ns) = n ≡ 1

abbrev pub count_below : ℕ → List ℕ → ℕ
count_below n [] = 0
count_below n (s ∷ ss) = counted (nat_lt s n) (count_below n ss)

abbrev pub Below : ℕ → List ℕ → Type 0
Below n ss = AllByRecursion (λ (s : ℕ). s < n) ss

rises_last : (lo n : ℕ) (ss : List ℕ) → lo ≤ n → Rises lo ss → Below n ss → Rises lo (ss ++ n ∷ [])
rises_last lo n [] low r b = (low, tt)
rises_last lo n (s ∷ ss) low r b = let less : s < n = b.0 in (r.0, rises_last (suc s) n ss (omega (arith, less)) r.1 b.1)

head_last : (ss : List ℕ) (n : ℕ) → (ss ≡ [] → ⊥) → HeadOne ss → HeadOne (ss ++ n ∷ [])
head_last [] n some h = absurd (some refl)
head_last (s ∷ ss) n some h = h

below_last : (n : ℕ) (ss : List ℕ) → Below n ss → Below (suc n) (ss ++ n ∷ [])
below_last n [] b = (omega arith, tt)
below_last n (s ∷ ss) b = let less : s < n = b.0 in (omega (arith, less), below_last n ss b.1)

below_more : (n m : ℕ) (ss : List ℕ) → n ≤ m → Below n ss → Below m ss
below_more n m ss le b = all_map (λ (s : ℕ). s < n) (λ (s : ℕ). s < m) ss (λ s less. omega (arith, less, le)) b

count_last : (n s : ℕ) (ss : List ℕ) → count_below n (ss ++ s ∷ []) ≡ count_below n ss + counted (nat_lt s n) 0
count_last n s [] = omega arith
count_last n s (x ∷ xs) = by (nat_lt x n) (count_last n s xs)
  where
    by : (b : Bool) → count_below n (xs ++ s ∷ []) ≡ count_below n xs + counted (nat_lt s n) 0 → counted b (count_below n (xs ++ s ∷ [])) ≡ counted b (count_below n xs) + counted (nat_lt s n) 0
    by true h = omega (arith, h)
    by false h = h

-- one at a place has no more below it than stand in front of it
none_below : (n lo : ℕ) (ss : List ℕ) → n ≤ lo → Rises lo ss → count_below n ss ≡ 0
none_below n lo [] le r = refl
none_below n lo (s ∷ ss) le r = by (nat_lt s n) refl (none_below n (suc s) ss (higher r.0) r.1)
  where
    higher : lo ≤ s → n ≤ suc s
    higher h = omega (arith, h, le)

    by : (b : Bool) → nat_lt s n ≡ b → count_below n ss ≡ 0 → counted b (count_below n ss) ≡ 0
    by true is h = let less : s < n = ltb-true s n is in let high : lo ≤ s = r.0 in absurd (omega (arith, less, high, le))
    by false is h = h

pub place_below : (lo n : ℕ) (front back : List ℕ) → Rises lo (front ++ n ∷ back) → count_below n (front ++ n ∷ back) ≤ length front
place_below lo n [] back r = by (nat_lt n n) refl
  where
    rest : count_below n back ≡ 0
    rest = none_below n (suc n) back (omega arith) r.1

    by : (b : Bool) → nat_lt n n ≡ b → counted b (count_below n back) ≤ 0
    by true is = let less : n < n = ltb-true n n is in absurd (omega (arith, less))
    by false is = omega (arith, rest)
place_below lo n (s ∷ ss) back r = by (nat_lt s n) (place_below (suc s) n ss back r.1)
  where
    by : (b : Bool) → count_below n (ss ++ n ∷ back) ≤ length ss → counted b (count_below n (ss ++ n ∷ back)) ≤ suc (length ss)
    by true h = omega (arith, h)
    by false h = omega (arith, h)

-- CALLS OF AddMatch
abbrev NotAdd : Envelope → Type 0
NotAdd m = is_add m ≡ false

user_no_add : (serial : ℕ) (name : List ℕ) (node : ℕ) (deed : Deed) → is_add (user_call serial name node deed) ≡ false
user_no_add serial name node (SetCaret at) = refl
user_no_add serial name node (InsertText at text) = refl
user_no_add serial name node (DeleteText from to) = refl
user_no_add serial name node (SetText text) = refl
user_no_add serial name node (SelectChild index) = refl
user_no_add serial name node (DeselectChild index) = refl
user_no_add serial name node SelectAll = refl
user_no_add serial name node ClearSelection = refl
user_no_add serial name node (DoAction index) = refl

abbrev NoAdd : Entry → Type 0
NoAdd (sent (Reader r) m) = is_add m ≡ false
NoAdd entry = Unit {0}

did_no_add : (app : ℕ) (hs : List Happening) → AllByRecursion NoAdd (map (did app) hs)
did_no_add app [] = tt
did_no_add app (steps step ∷ hs) = (tt, did_no_add app hs)
did_no_add app (sends e ∷ hs) = (tt, did_no_add app hs)
did_no_add app (hears listener pattern ∷ hs) = (tt, did_no_add app hs)
did_no_add app (deaf listener pattern ∷ hs) = (tt, did_no_add app hs)

registry_no_add : (es : List Envelope) → AllByRecursion NoAdd (map (sent Registry) es)
registry_no_add [] = tt
registry_no_add (e ∷ es) = (tt, registry_no_add es)

no_adds : (w : World) (d : Done) → Effect w d → AllByRecursion NoAdd d.entries
no_adds w d e = by e
  where
    of_it : (x : Done) → d ≡ x → AllByRecursion NoAdd x.entries → AllByRecursion NoAdd d.entries
    of_it x is a = subst (λ y. AllByRecursion NoAdd y.entries) (sym is) a

    by : Effect w d → AllByRecursion NoAdd d.entries
    by (resets quota few is) = of_it _ is tt
    by (app_joins name short is) = of_it (app_starts w name) is (tt, (tt, tt))
    by (reader_joins few is) = of_it _ is (tt, (refl, tt))
    by (app_edited b) = of_it _ b.is (did_no_add _ b.after.out)
    by (app_took b) = of_it _ b.is (tt, did_no_add _ (app_takes b.before b.letter.said.message).out)
    by (reader_called b) =
        of_it _ b.is
        (subst (λ p. AllByRecursion NoAdd (sent p (user_call b.hearer.next b.name b.node b.deed) ∷ [])) (sym (ap whose b.is_here.there ∙ b.whose)) (user_no_add b.hearer.next b.name b.node b.deed, tt))
    by (swapped b) = of_it _ b.is tt
    by (exited_ b) = of_it _ b.is (tt, tt)
    by (showed_ b) = of_it _ b.is (tt, tt)
    by (told_busy turns is) = of_it _ is (tt, tt)
    by (told_quiet none is) = of_it _ is (tt, tt)
    by (bus_took b) =
        let c = carrying.takes (record { bus = w.bus; ends = w.ends }) b.conn b.e.who b.said in
        of_it _ b.is
        (tt, bus_all NoAdd (λ e. tt) c.ends c.bus.own c.bus.closings (all_any (λ (x : Closing). (queued len : ℕ) → NoAdd (dropped (party_at c.ends x.conn) queued len)) (λ x queued len. tt) c.bus.closings))
    by (bus_ended b) =
        let c = carrying.takes_end (record { bus = w.bus; ends = w.ends }) b.conn in
        of_it _ b.is
        (bus_all NoAdd (λ e. tt) c.ends c.bus.own c.bus.closings (all_any (λ (x : Closing). (queued len : ℕ) → NoAdd (dropped (party_at c.ends x.conn) queued len)) (λ x queued len. tt) c.bus.closings))
    by (registry_took b) =
        of_it _ b.is
        (tt, subst (λ p. AllByRecursion NoAdd (map (sent p) (registry_takes b.before b.letter.said.message).sent)) (sym b.whose) (registry_no_add (registry_takes b.before b.letter.said.message).sent))
    by (reader_took b) =
        of_it _ b.is (tt, heard_all NoAdd (λ r app line. tt) (λ r app. tt) (number_of b.e.who) b.hearer (received w b.conn b.e b.letter).ends b.letter)

messages_no_add : (es : List Entry) (r : ℕ) → AllByRecursion NoAdd es → AllByRecursion NotAdd (messages es (Reader r))
messages_no_add [] r a = tt
messages_no_add (sent who e ∷ es) r a = by (same_party who (Reader r)) refl (messages_no_add es r a.1)
  where
    by : (b : Bool) → same_party who (Reader r) ≡ b → AllByRecursion NotAdd (messages es (Reader r)) → AllByRecursion NotAdd (cons_option (if b then Some e else None) (messages es (Reader r)))
    by true g rest = (subst (λ p. NoAdd (sent p e)) (same-party who (Reader r) g) a.0, rest)
    by false g rest = rest
messages_no_add (entry ∷ es) r a = messages_no_add es r a.1

none_among : (n : ℕ) (ms : List Envelope) → AllByRecursion NotAdd ms → adds_among n ms ≡ 0
none_among n [] a = refl
none_among n (m ∷ ms) a = ap (λ b. counted (nat_lt m.serial n && b) (adds_among n ms)) a.0 ∙ by (nat_lt m.serial n) ∙ none_among n ms a.1
  where
    by : (b : Bool) → counted (b && false) (adds_among n ms) ≡ adds_among n ms
    by true = refl
    by false = refl

adds_append : (n : ℕ) (ms more : List Envelope) → adds_among n (ms ++ more) ≡ adds_among n ms + adds_among n more
adds_append n [] more = omega arith
adds_append n (m ∷ ms) more = by (nat_lt m.serial n && is_add m) (adds_append n ms more)
  where
    by : (b : Bool) → adds_among n (ms ++ more) ≡ adds_among n ms + adds_among n more → counted b (adds_among n (ms ++ more)) ≡ counted b (adds_among n ms) + adds_among n more
    by true h = omega (arith, h)
    by false h = h

adds_quiet : (es ys : List Entry) (r n : ℕ) → AllByRecursion NoAdd ys → adds_among n (messages (es ++ ys) (Reader r)) ≡ adds_among n (messages es (Reader r))
adds_quiet es ys r n a =
    let none : adds_among n (messages ys (Reader r)) ≡ 0 = none_among n (messages ys (Reader r)) (messages_no_add ys r a) in
    let sum : adds_among n (messages es (Reader r) ++ messages ys (Reader r)) ≡ adds_among n (messages es (Reader r)) + adds_among n (messages ys (Reader r)) = adds_append n (messages es (Reader r)) (messages ys (Reader r)) in
    ap (adds_among n) (messages_more es ys (Reader r)) ∙ omega (arith, none, sum)

-- WHAT IS KEPT of a reader
pub record Counts (es : List Entry) (r : ℕ) (h : Hearer) : Type 0 where
  pub rises : Rises 0 (serials h)
  pub head : HeadOne (serials h)
  pub some : serials h ≡ [] → ⊥
  pub top : Below h.next (serials h)
  pub adds : (n : ℕ) → adds_among n (messages es (Reader r)) ≤ count_below n (serials h)

abbrev pub AllCounted : List Entry → World → Type 0
AllCounted es w = (k r : ℕ) (e : End) (h : Hearer) → end_at w.ends k ≡ Some e → e.who ≡ Reader r → e.role ≡ a_reader h → Counts es r h

still : (es ys : List Entry) (r : ℕ) (g h : Hearer) → AllByRecursion NoAdd ys → serials h ≡ serials g → g.next ≤ h.next → Counts es r g → Counts (es ++ ys) r h
still es ys r g h none same next c = record {
  rises = subst (Rises 0) (sym same) c.rises;
  head = subst HeadOne (sym same) c.head;
  some = λ is. c.some (sym same ∙ is);
  top = subst (Below h.next) (sym same) (below_more g.next h.next (serials g) next c.top);
  adds = λ n.
      let now = adds_quiet es ys r n none in
      let old = c.adds n in
      subst (λ ss. adds_among n (messages (es ++ ys) (Reader r)) ≤ count_below n ss) (sym same) (omega (arith, now, old));
}

least : (n : ℕ) → n ≤ n
least n = omega arith

quiet_counted : (es ys : List Entry) (w v : World) → Over CallsBack w.ends v.ends → AllByRecursion NoAdd ys → AllCounted es w → AllCounted (es ++ ys) v
quiet_counted es ys w v o none i k r d h there who role =
    let x = o.back k d there in
    let y = x.2.calls h role in
    still es ys r y.0 h none y.2 y.3 (i k r x.0 y.0 x.1 (sym x.2.whose ∙ who) y.1)

joined_counted : (es ys : List Entry) (w v : World) (nu : End) → v.ends ≡ w.ends ++ nu ∷ [] → ((r : ℕ) (h : Hearer) → nu.who ≡ Reader r → nu.role ≡ a_reader h → Counts (es ++ ys) r h) → AllByRecursion NoAdd ys → AllCounted es w → AllCounted (es ++ ys) v
joined_counted es ys w v nu is new none i k r d h there who role = by (joined_cases w.ends nu k d (ap (λ l. end_at l k) (sym is) ∙ there))
  where
    by : (end_at w.ends k ≡ Some d) ⊎ ((k ≡ length w.ends) × (d ≡ nu)) → Counts (es ++ ys) r h
    by (inl g) = still es ys r h h none refl (least h.next) (i k r d h g who role)
    by (inr g) = new r h (ap (λ (x : End). x.who) (sym g.1) ∙ who) (ap (λ (x : End). x.role) (sym g.1) ∙ role)

no_reader_first : (quota k : ℕ) (e : End) (h : Hearer) → end_at (first_world quota).ends k ≡ Some e → e.role ≡ a_reader h → ⊥
no_reader_first quota zero e h there role = false_true (ap is_reader_role (ap (λ (x : End). x.role) (same_some first_registry e there) ∙ role))
no_reader_first quota (suc k) e h there role = no_none e there

-- one that begins
new_counts : (es ys : List Entry) (w : World) → Numbered es w → AllByRecursion NoAdd ys → (r : ℕ) (h : Hearer) → (new_reader w).who ≡ Reader r → (new_reader w).role ≡ a_reader h → Counts (es ++ ys) r h
new_counts es ys w m none r h who role = subst (Counts (es ++ ys) r) (same_hearer (asks Hello first_hearer) h role) (record {
  rises = (omega arith, tt);
  head = refl;
  some = λ is. false_true (ap is_empty is);
  top = (omega arith, tt);
  adds = λ n.
      let now = adds_quiet es ys r n none in
      let unsent : adds_among n (messages es (Reader r)) ≡ 0 = ap (adds_among n) (ap (λ p. messages es p) (sym who) ∙ m.2 (Reader (reader_count w.ends)) (least (reader_count w.ends))) in
      low n (adds_among n (messages (es ++ ys) (Reader r))) (now ∙ unsent);
})
  where
    is_empty : List ℕ → Bool
    is_empty [] = true
    is_empty (x ∷ xs) = false

    low : (n k : ℕ) → k ≡ 0 → k ≤ count_below n (1 ∷ [])
    low n k is = omega (arith, is)

counted_kept : (es : List Entry) (w : World) (d : Done) → Numbered es w → AllByRecursion NoAdd d.entries → Reading w d → AllCounted es w → AllCounted (es ++ d.entries) d.world
counted_kept es w d m none (reads_on o) i = quiet_counted es d.entries w d.world o none i
counted_kept es w d m none (joins nu is other) i = joined_counted es d.entries w d.world nu is (λ r h who role. absurd (false_true (sym other ∙ ap is_reader_role role))) none i
counted_kept es w d m none (starts_ is) i = joined_counted es d.entries w d.world (new_reader w) (ap (λ x. x.world.ends) is) (new_counts es d.entries w m none) none i
counted_kept es w d m none (begins_ quota is) i =
    subst (λ x. AllCounted (es ++ x.entries) x.world) (sym is) (λ k r e h there who role. absurd (no_reader_first quota k e h there role))

-- AN OWN CALL
serials_more : (xs : List Asked) (a : Asked) → map (λ (x : Asked). x.serial) (xs ++ a ∷ []) ≡ map (λ (x : Asked). x.serial) xs ++ a.serial ∷ []
serials_more [] a = refl
serials_more (x ∷ xs) a = ap (λ l. x.serial ∷ l) (serials_more xs a)

asked_counts : (es : List Entry) (r : ℕ) (m : Envelope) (question : Question) (g : Hearer) → m.serial ≡ g.next → Counts es r g → Counts (es ++ sent (Reader r) m ∷ []) r (asks question g)
asked_counts es r m question g number c = record {
  rises = subst (Rises 0) (sym same) (rises_last 0 g.next (serials g) (omega arith) c.rises c.top);
  head = subst HeadOne (sym same) (head_last (serials g) g.next c.some c.head);
  some = λ is. no_last (serials g) (sym same ∙ is);
  top = subst (Below (suc g.next)) (sym same) (below_last g.next (serials g) c.top);
  adds = λ n.
      let old = c.adds n in
      let last = count_last n g.next (serials g) in
      let one = one_add n in
      subst (λ ss. adds_among n (messages (es ++ sent (Reader r) m ∷ []) (Reader r)) ≤ count_below n ss) (sym same)
      (subst (λ ms. adds_among n ms ≤ count_below n (serials g ++ g.next ∷ [])) (sym wrote) (sums (adds_among n (messages es (Reader r) ++ m ∷ [])) (adds_among n (messages es (Reader r))) (adds_among n (m ∷ [])) (adds_append n (messages es (Reader r)) (m ∷ [])) (count_below n (serials g)) (counted (nat_lt g.next n) 0) (count_below n (serials g ++ g.next ∷ [])) last old one));
}
  where
    same : serials (asks question g) ≡ serials g ++ g.next ∷ []
    same = serials_more g.asked (record { serial = g.next; question = question; fate = waits })

    no_last : (ss : List ℕ) → ss ++ g.next ∷ [] ≡ [] → ⊥
    no_last [] is = let no : length (g.next ∷ []) ≡ 0 = ap length is in absurd (omega (arith, no))
    no_last (s ∷ ss) is = let no : length (s ∷ (ss ++ g.next ∷ [])) ≡ 0 = ap length is in absurd (omega (arith, no))

    wrote : messages (es ++ sent (Reader r) m ∷ []) (Reader r) ≡ messages es (Reader r) ++ m ∷ []
    wrote = messages_more es (sent (Reader r) m ∷ []) (Reader r) ∙ ap (λ b. messages es (Reader r) ++ cons_option (if b then Some m else None) []) (party-same (Reader r))

    one_add : (n : ℕ) → adds_among n (m ∷ []) ≤ counted (nat_lt g.next n) 0
    one_add n = subst (λ k. adds_among n (m ∷ []) ≤ counted (nat_lt k n) 0) number (by (nat_lt m.serial n) (is_add m))
      where
        by : (a b : Bool) → counted (a && b) 0 ≤ counted a 0
        by true true = omega arith
        by true false = omega arith
        by false b = omega arith

    sums : (x a b : ℕ) → x ≡ a + b → (p q y : ℕ) → y ≡ p + q → a ≤ p → b ≤ q → x ≤ y
    sums x a b h p q y g l k = omega (arith, h, g, l, k)

other_counts : (es : List Entry) (r q : ℕ) (m : Envelope) (h : Hearer) → (r ≡ q → ⊥) → Counts es q h → Counts (es ++ sent (Reader r) m ∷ []) q h
other_counts es r q m h other c = record {
  rises = c.rises;
  head = c.head;
  some = c.some;
  top = c.top;
  adds = λ n. subst (λ ms. adds_among n ms ≤ count_below n (serials h)) (sym wrote) (c.adds n);
}
  where
    no : same_party (Reader r) (Reader q) ≡ false
    no = by (same_party (Reader r) (Reader q)) refl
      where
        by : (b : Bool) → same_party (Reader r) (Reader q) ≡ b → same_party (Reader r) (Reader q) ≡ false
        by true is = absurd (other (ap number_of (same-party (Reader r) (Reader q) is)))
        by false is = is

    wrote : messages (es ++ sent (Reader r) m ∷ []) (Reader q) ≡ messages es (Reader q)
    wrote = messages_more es (sent (Reader r) m ∷ []) (Reader q) ∙ ap (λ b. messages es (Reader q) ++ cons_option (if b then Some m else None) []) no ∙ append-nil (messages es (Reader q))

asked_counted : (es : List Entry) (w : World) (conn r : ℕ) (m : Envelope) (question : Question) → Shape w → AllCounted es w → Asks w conn r m question → AllCounted (es ++ sent (Reader r) m ∷ []) (at_end w conn (asks_at m question))
asked_counted es w conn r m question s i a k q d h there who role = by (with_cases (asks_at m question) w.ends conn k d there)
  where
    serial : m.serial ≡ a.hearer.next
    serial = ap (λ (x : Envelope). x.serial) a.spelled

    by : ((e : End) × (end_at w.ends k ≡ Some e) × (((k ≡ conn) × (d ≡ asks_at m question e)) ⊎ ((k ≡ conn → ⊥) × (d ≡ e)))) → Counts (es ++ sent (Reader r) m ∷ []) q h
    by g = at g.2
      where
        at : (((k ≡ conn) × (d ≡ asks_at m question g.0)) ⊎ ((k ≡ conn → ⊥) × (d ≡ g.0))) → Counts (es ++ sent (Reader r) m ∷ []) q h
        at (inl c) =
            let same : g.0 ≡ a.asker = same_some g.0 a.asker (sym g.1 ∙ ap (end_at w.ends) c.0 ∙ a.is_here.there) in
            let is : d ≡ reader_sends (asks question a.hearer) m a.asker = c.1 ∙ ap (asks_at m question) same ∙ ap (λ role. asks_as role m question a.asker) a.reader in
            let number : r ≡ q = ap number_of (sym a.whose ∙ ap (λ (x : End). x.who) (sym is) ∙ who) in
            let hearer : asks question a.hearer ≡ h = same_hearer (asks question a.hearer) h (ap (λ (x : End). x.role) (sym is) ∙ role) in
            subst (λ n. Counts (es ++ sent (Reader r) m ∷ []) n h) number
            (subst (Counts (es ++ sent (Reader r) m ∷ []) r) hearer (asked_counts es r m question a.hearer serial (i conn r a.asker a.hearer a.is_here.there a.whose a.reader)))
        at (inr c) =
            let old : end_at w.ends k ≡ Some d = g.1 ∙ ap Some (sym c.1) in
            other_counts es r q m h (λ number. c.0 (s.one k conn d a.asker old a.is_here.there (who ∙ ap Reader (sym number) ∙ sym a.whose))) (i k q d h old who role)

counted_grow : Grows Ground AllCounted
counted_grow = record {
  begins = λ k r e h there who role. absurd (no_reader_first QUOTA_MOST k e h there role);
  caused = λ es w d s u i e after b. counted_kept es w d (grounds es w u).numbered (no_adds w d e) (reading w d e) i;
  moved = λ es w v s u i m. subst (λ l. AllCounted l v) (append-nil es) (quiet_counted es [] w v (moved_back w v m) tt i);
  asked = λ es w conn r m question s u i a. asked_counted es w conn r m question s i a;
}

pub counted_keep : Keeps (Shaped (And Ground AllCounted))
counted_keep = grown Ground AllCounted ground_keep counted_grow
