-- WHERE NOTHING IS ON ITS WAY a reader that asked for the registry's children, behind the rest of its start, knows the name of each.
use Rattle.std.proofs.Common.{◌≡◌, ◌⊎◌, inl, inr, ℕ, suc, ◌+◌, ◌<◌, ◌≤◌, Bool, true, false, List, [], ◌∷◌, Some, refl, sym, ap, ◌∙◌, subst, arith}
use Rattle.std.specs.Prelude.{◌==◌, if◌then◌else◌}
use Rattle.std.specs.List.{AllByRecursion}
use Rattle.std.proofs.lemmas.Bool.{eqb-true, eq-eqb}
use Rattle.atspi_script_lines.specs.declared.line.Party.TheVariants.{Registry, Reader}
use Rattle.atspi_message.specs.Envelope.{Envelope}
use Rattle.atspi_protocol.specs.registering.RegistryState.{RegistryState}
use Rattle.atspi_trace.specs.Entry.{Entry}
use Rattle.atspi_trace.specs.World.{here, returned, Hearer, the_registry, a_reader, End, World}
use Rattle.atspi_trace.specs.Ends.{end_at}
use Rattle.atspi_trace_laws.specs.laws.Words.{messages, message, with_serial}
use Rattle.atspi_trace_laws.specs.serials.Laws.{HasNextNumber}
use Rattle.atspi_trace_laws.proofs.OfOrder.Parties.{no_none, same_some}
use Rattle.atspi_trace_laws.proofs.OfOrder.Each.{Each}
use Rattle.atspi_trace_laws.proofs.OfLinks.LawLinks.{first_unread}
use Rattle.atspi_trace_laws.proofs.OfLinks.Ups.{From}
use Rattle.atspi_trace_laws.proofs.OfOwn.Writing.{Lives}
use Rattle.atspi_trace_laws.proofs.OfMissed.Arriving.{On}
use Rattle.atspi_trace_caches.proofs.OfServed.Facts.{OnLink}
use Rattle.atspi_trace_caches.proofs.OfServed.HearingFold.{from_four}
use Rattle.atspi_trace_caches.proofs.OfSettled.Facts.{IsIn}
use Rattle.atspi_trace_caches.proofs.OfSettled.TellingWords.{HasOne, IsAdd, Names}
use Rattle.atspi_trace_caches.proofs.OfSettled.TellingAsked.{IsWell}
use Rattle.atspi_trace_caches.proofs.OfSettled.Telling_of.{ToldSince, IsReturn}
use Rattle.atspi_trace_caches.proofs.OfSettled.TellingHeard.{NewsAt, Heard}
use Rattle.atspi_trace_caches.proofs.OfSettled.TellingHeardAll.{Attending}
use Rattle.atspi_trace_caches.proofs.OfSettled.TellingKept.{Telling}
use Rattle.atspi_trace_caches.proofs.OfSettled.AdoptingWords.{HasChild}

-- NEWS OF ONE behind a message, by their serial
record Behind (u : List ℕ) (low : ℕ) (ms : List Envelope) : Type 0 where
  news : Envelope
  add : IsAdd u news
  above : low ≤ news.serial
  found : with_serial news.serial ms ≡ Some news

least : (n : ℕ) → n ≤ n
least n = omega arith

-- one that stands further on is found there
further : (x : Envelope) (ms : List Envelope) (n k : ℕ) (m : Envelope) → x.serial ≡ k → suc k ≤ n → with_serial n ms ≡ Some m → with_serial n (x ∷ ms) ≡ Some m
further x ms n k m at more h = by (x.serial == n) refl
  where
    never : x.serial ≡ n → ⊥
    never same = absurd (omega (arith, same, at, more))

    by : (b : Bool) → (x.serial == n) ≡ b → (if b then Some x else with_serial n ms) ≡ Some m
    by true g = absurd (never (eqb-true x.serial n g))
    by false g = h

one_behind : (u : List ℕ) (k : ℕ) (ms : List Envelope) → From k ms → HasOne (IsAdd u) ms → Behind u k ms
one_behind u k [] f h = absurd h
one_behind u k (x ∷ xs) f (inl add) = record {
  news = x;
  add = add;
  above = at_least x.serial k f.0;
  found = ap (λ b. if b then Some x else with_serial x.serial xs) (eq-eqb x.serial x.serial refl);
}
  where
    at_least : (a b : ℕ) → a ≡ b → b ≤ a
    at_least a b h = omega (arith, h)
one_behind u k (x ∷ xs) f (inr h) =
    let r = one_behind u (k + 1) xs f.1 h in
    let above : k + 1 ≤ r.news.serial = r.above in
    record { news = r.news; add = r.add; above = omega (arith, above); found = further x xs r.news.serial k r.news f.0 (omega (arith, above)) r.found }

-- of a return that stands among them
told_behind : (u : List ℕ) (R : Envelope → Type 0) (k base : ℕ) (last : Envelope) (ms : List Envelope) → From k ms → ToldSince u R ms → with_serial base ms ≡ Some last → R last → Names u last ⊎ Behind u (suc base) ms
told_behind u R k base last [] f t h r = absurd (no_none last h)
told_behind u R k base last (x ∷ xs) f t h r = by (x.serial == base) refl h (λ g. told_behind u R (k + 1) base last xs f.1 t.1 g r)
  where
    lift : (low : ℕ) → Behind u low xs → suc k ≤ low → Behind u low (x ∷ xs)
    lift low b le = let above : low ≤ b.news.serial = b.above in record { news = b.news; add = b.add; above = b.above; found = further x xs b.news.serial k b.news f.0 (omega (arith, above, le)) b.found }

    low_of : (n j : ℕ) (ys : List Envelope) (m : Envelope) → From j ys → with_serial n ys ≡ Some m → j ≤ n
    low_of n j [] m g q = absurd (no_none m q)
    low_of n j (y ∷ ys) m g q = at (y.serial == n) refl q (λ z. low_of n (j + 1) ys m g.1 z)
      where
        at : (b : Bool) → (y.serial == n) ≡ b → (if b then Some y else with_serial n ys) ≡ Some m → (with_serial n ys ≡ Some m → j + 1 ≤ n) → j ≤ n
        at true z q ih = let same : y.serial ≡ n = eqb-true y.serial n z in let first : y.serial ≡ j = g.0 in omega (arith, same, first)
        at false z q ih = let up : j + 1 ≤ n = ih q in omega (arith, up)

    by : (b : Bool) → (x.serial == base) ≡ b → (if b then Some x else with_serial base xs) ≡ Some last → (with_serial base xs ≡ Some last → Names u last ⊎ Behind u (suc base) xs) → Names u last ⊎ Behind u (suc base) (x ∷ xs)
    by true g q ih = here_ (t.0 (subst R (sym same) r))
      where
        same : x ≡ last
        same = same_some x last q

        is_base : k ≡ base
        is_base = sym f.0 ∙ eqb-true x.serial base g

        here_ : Names u x ⊎ HasOne (IsAdd u) xs → Names u last ⊎ Behind u (suc base) (x ∷ xs)
        here_ (inl names) = inl (subst (Names u) same names)
        here_ (inr news) =
            let b = one_behind u (k + 1) xs f.1 news in
            let above : k + 1 ≤ b.news.serial = b.above in
            inr (record { news = b.news; add = b.add; above = omega (arith, above, is_base); found = further x xs b.news.serial k b.news f.0 (omega (arith, above)) b.found })
    by false g q ih = on (ih q)
      where
        up : k + 1 ≤ base
        up = low_of base (k + 1) xs last f.1 q

        on : Names u last ⊎ Behind u (suc base) xs → Names u last ⊎ Behind u (suc base) (x ∷ xs)
        on (inl names) = inl names
        on (inr b) = inr (lift (suc base) b (omega (arith, up)))

-- each child is known, where the bus took all that the registry sent, and nothing stands on the reader's down link
known_child : (u : List ℕ) (children : List (List ℕ × List ℕ)) (P : List ℕ × List ℕ → Type 0) → HasChild u children → AllByRecursion P children → (c : List ℕ × List ℕ) × (c.0 ≡ u) × P c
known_child u [] P h a = absurd h
known_child u (c ∷ cs) P (inl same) a = (c, same, a.0)
known_child u (c ∷ cs) P (inr h) a = known_child u cs P h a.1

pub told_at_rest : (es : List Entry) (w : World) → Each HasNextNumber [] es → Telling es w → Attending es w → Lives es → ((n : ℕ) (m : Envelope) → message es Registry n ≡ Some m → n < first_unread es Registry)
    → (j : ℕ) (f : End) (s : RegistryState) → end_at w.ends j ≡ Some f → f.role ≡ the_registry s → (k r : ℕ) (e : End) (h : Hearer) → end_at w.ends k ≡ Some e → e.who ≡ Reader r → e.role ≡ a_reader h → e.standing ≡ here → e.down ≡ []
    → (n : ℕ) (x : IsWell h.asked n) → x.one.fate ≡ returned → (u : List ℕ) → HasChild u s.children → IsIn u h.named
told_at_rest es w law telling attending live all_taken j f s at_f role_f k r e h there who role on empty n x back u child = by (told_behind u (IsReturn es r h.asked) 4 heard.base heard.last (messages es Registry) (from_four es law) told heard.was ret)
  where
    heard : Heard es r h e.down n
    heard = (attending live k r e h there who role on n x).heard back

    its : (c : List ℕ × List ℕ) × (c.0 ≡ u) × ToldSince c.0 (IsReturn es r h.asked) (messages es Registry)
    its = known_child u s.children (λ (c : List ℕ × List ℕ). ToldSince c.0 (IsReturn es r h.asked) (messages es Registry)) child (telling live j f s at_f role_f k r e h there who role on)

    told : ToldSince u (IsReturn es r h.asked) (messages es Registry)
    told = subst (λ v. ToldSince v (IsReturn es r h.asked) (messages es Registry)) its.1 its.2

    ret : IsReturn es r h.asked heard.last
    ret = record { kind = heard.kind; caller = heard.caller; to = heard.to; name = heard.name; serial = n; reply = heard.reply; well = x }

    by : Names u heard.last ⊎ Behind u (suc heard.base) (messages es Registry) → IsIn u h.named
    by (inl names) = heard.names u names
    by (inr b) = at (y.2 u (subst (IsAdd u) (same_some b.news y.0 (sym b.found ∙ y.1)) b.add))
      where
        y : NewsAt es e.down h.named b.news.serial
        y = heard.behind b.news.serial b.above (all_taken b.news.serial b.news b.found)

        at : OnLink b.news.serial e.down ⊎ IsIn u h.named → IsIn u h.named
        at (inl q) = absurd (subst (On q.0) empty q.1)
        at (inr q) = q
