-- Up links: the messages on one have serials that rise by one up to the sender's next.
use Rattle.std.proofs.Common.{◌≡◌, ℕ, zero, suc, ◌+◌, ◌<◌, ◌≤◌, Bool, true, false, List, [], ◌∷◌, ◌++◌, length, map, None, Some, refl, sym, ap, ◌∙◌, subst, arith, length-append, is_some}
use Rattle.std.specs.Prelude.{Option, ◌==◌, if◌then◌else◌}
use Rattle.std.specs.List.{cons_option}
use Rattle.std.proofs.lemmas.Bool.{eq-eqb}
use Rattle.std.proofs.lemmas.List.{append-nil, append_assoc}
use Rattle.atspi_tree_model.specs.declared.step.Step.{Step}
use Rattle.atspi_tree_model.specs.Forest.{Forest}
use Rattle.atspi_tree_model.specs.Row.{TreeRow}
use Rattle.atspi_tree_model.specs.RowRules.{rows}
use Rattle.atspi_tree_model.specs.Tree.{after}
use Rattle.atspi_script_lines.specs.declared.line.Party.{Party}
use Rattle.atspi_script_lines.specs.declared.line.Party.TheVariants.{Bus as The_bus, Registry, App, Reader}
use Rattle.atspi_message.specs.Envelope.{Envelope}
use Rattle.atspi_protocol.specs.ends.Messages.{numbered}
use Rattle.atspi_protocol.specs.announcing.Announced.{announced}
use Rattle.atspi_protocol.specs.exporting.Exporter.{Happening, steps, sends, hears, deaf, Exporter}
use Rattle.atspi_protocol.specs.exporting.Starting.{name_or_empty}
use Rattle.atspi_protocol.specs.exporting.Laws.{numbers_among, rising}
use Rattle.atspi_trace.specs.Entry.{Entry, sent}
use Rattle.atspi_trace.specs.World.{Said, End}
use Rattle.atspi_trace.specs.Ends.{is_here, same_party, plain}
use Rattle.atspi_trace.specs.Causes.{saids, announced_if}
use Rattle.atspi_trace_laws.specs.laws.Words.{messages, with_serial}
use Rattle.atspi_trace_laws.specs.laws.NineLaws.{sent_before}
use Rattle.atspi_trace_laws.proofs.OfOrder.Parties.{same-party, false_true}
use Rattle.atspi_trace_laws.proofs.OfOrder.Frame.{IsOrder}
use Rattle.atspi_trace_laws.proofs.OfOrder.Each.{Each}
use Rattle.atspi_trace_laws.specs.serials.Laws.{HasNextNumber}
use Rattle.atspi_trace_laws.proofs.OfSerials.Serial.{messages_more, head_of, tail_of}
use Rattle.atspi_trace_laws.proofs.OfSerials.Speaking.{next_of}

-- messages on a link, from this serial on
abbrev pub Ups : ℕ → List Said → Type 0
Ups n [] = Unit {0}
Ups n (said ∷ rest) = (said.message.serial ≡ n) × Ups (n + 1) rest

pub ups_append : (n m : ℕ) (xs ys : List Said) → m ≡ n + length xs → Ups n xs → Ups m ys → Ups n (xs ++ ys)
ups_append n m [] ys h a b = let same : m ≡ n = omega (arith, h) in subst (λ k. Ups k ys) same b
ups_append n m (x ∷ xs) ys h a b = (a.0, ups_append (n + 1) m xs ys (omega (arith, h)) a.1 b)

-- what an application said
pub saids_rise : (s : Exporter) (f : Forest TreeRow) (announces : Option Step) (k n : ℕ) (hs : List Happening) → numbers_among hs ≡ rising k n
    → Ups n (saids s f announces hs) × (length (saids s f announces hs) ≡ k)
saids_rise s f a zero n [] h = (tt, refl)
saids_rise s f a (suc k) n [] h = absurd (omega (arith, ap length h))
saids_rise s f a zero n (sends e ∷ hs) h = absurd (omega (arith, ap length h))
saids_rise s f a (suc k) n (sends e ∷ hs) h = let rest = saids_rise s f None k (n + 1) hs (ap tail_of h) in ((ap (head_of n) h, rest.0), ap suc rest.1)
saids_rise s f a k n (steps step ∷ hs) h = saids_rise s (after rows f step) (announced_if s.heard step (announced (name_or_empty s.name) f step)) k n hs h
saids_rise s f a k n (hears bus pattern ∷ hs) h = saids_rise s f a k n hs h
saids_rise s f a k n (deaf bus pattern ∷ hs) h = saids_rise s f a k n hs h

pub plains_rise : (n : ℕ) (es : List Envelope) → Ups n (map plain (numbered n es)) × (length (map plain (numbered n es)) ≡ length es)
plains_rise n [] = (tt, refl)
plains_rise n (e ∷ es) = let rest = plains_rise (n + 1) es in ((refl, rest.0), ap suc rest.1)

-- an end afterwards: where it is here still, it was here, and only more stands on its up link, with the next serials
pub record Grew (e d : End) : Type 0 where
  pub here_before : is_here e.standing ≡ true
  pub more : List Said
  pub up : d.up ≡ e.up ++ more
  pub rises : Ups (next_of e.role) more
  pub next : next_of d.role ≡ next_of e.role + length more

pub record UpMore (e d : End) : Type 0 where
  pub whose : d.who ≡ e.who
  pub going : is_here d.standing ≡ true → Grew e d

grew_same : (e : End) → is_here e.standing ≡ true → Grew e e
grew_same e h = let none : next_of e.role ≡ next_of e.role + 0 = omega arith in record { here_before = h; more = []; up = sym (append-nil e.up); rises = tt; next = none }

grew_both : (e d c : End) → Grew e d → Grew d c → Grew e c
grew_both e d c f g = record {
  here_before = f.here_before;
  more = f.more ++ g.more;
  up = g.up ∙ ap (λ l. l ++ g.more) f.up ∙ append_assoc e.up f.more g.more;
  rises = ups_append (next_of e.role) (next_of d.role) f.more g.more f.next f.rises g.rises;
  next = sum f.next g.next (length-append f.more g.more);
}
  where
    sum : next_of d.role ≡ next_of e.role + length f.more → next_of c.role ≡ next_of d.role + length g.more → length (f.more ++ g.more) ≡ length f.more + length g.more
        → next_of c.role ≡ next_of e.role + length (f.more ++ g.more)
    sum p q r = omega (arith, p, q, r)

pub up_more : IsOrder UpMore
up_more = record {
  same = λ e. record { whose = refl; going = grew_same e };
  both = λ e d c f g. record { whose = g.whose ∙ f.whose; going = λ h. let y = g.going h in grew_both e d c (f.going y.here_before) y };
}

-- a change that leaves the up link and the number
pub up_alike : (e d : End) → d.who ≡ e.who → (is_here d.standing ≡ true → is_here e.standing ≡ true) → d.up ≡ e.up → next_of d.role ≡ next_of e.role → UpMore e d
up_alike e d w h u n =
    let none : next_of d.role ≡ next_of e.role + 0 = omega (arith, n) in
    record { whose = w; going = λ g. record { here_before = h g; more = []; up = u ∙ sym (append-nil e.up); rises = tt; next = none } }

-- messages of a party have the serials from its first on
abbrev pub From : ℕ → List Envelope → Type 0
From n [] = Unit {0}
From n (e ∷ es) = (e.serial ≡ n) × From (n + 1) es

pub found_serial : (n s : ℕ) (es : List Envelope) → From n es → n ≤ s → s < n + length es → is_some (with_serial s es) ≡ true
found_serial n s [] f low high = absurd (omega (arith, low, high))
found_serial n s (e ∷ es) f low high = by (e.serial == s) refl (λ differ. found_serial (n + 1) s es f.1 (omega (arith, low, differ)) (omega (arith, high)))
  where
    by : (b : Bool) → (e.serial == s) ≡ b → ((n ≡ s → ⊥) → is_some (with_serial s es) ≡ true) → is_some (if b then Some e else with_serial s es) ≡ true
    by true h next = refl
    by false h next = next (λ same. false_true (sym h ∙ eq-eqb e.serial s (f.0 ∙ same)))

serial_of : (early : List Entry) (other : Party) (m : Envelope) (ys : List Entry) → (other ≡ The_bus → ⊥) → HasNextNumber early (sent other m) ys → m.serial ≡ suc (sent_before other + length (messages early other))
serial_of early The_bus m ys differ h = absurd (differ refl)
serial_of early Registry m ys differ h = h
serial_of early (App a) m ys differ h = h
serial_of early (Reader r) m ys differ h = h

pub serials_from : (who : Party) → (who ≡ The_bus → ⊥) → (early ys : List Entry) → Each HasNextNumber early ys → From (suc (sent_before who + length (messages early who))) (messages ys who)
serials_from who differ early [] e = tt
serials_from who differ early (sent other m ∷ ys) e =
    by (same_party other who) refl (serials_from who differ (early ++ sent other m ∷ []) ys e.1) (ap length (messages_more early (sent other m ∷ []) who) ∙ length-append (messages early who) (messages (sent other m ∷ []) who))
  where
    by : (b : Bool) → same_party other who ≡ b → From (suc (sent_before who + length (messages (early ++ sent other m ∷ []) who))) (messages ys who)
        → length (messages (early ++ sent other m ∷ []) who) ≡ length (messages early who) + length (cons_option (if same_party other who then Some m else None) [])
        → From (suc (sent_before who + length (messages early who))) (cons_option (if b then Some m else None) (messages ys who))
    by true h rest size =
        let is : other ≡ who = same-party other who h in
        let one : length (cons_option (if same_party other who then Some m else None) []) ≡ 1 = ap (λ b. length (cons_option (if b then Some m else None) [])) h in
        let next : suc (sent_before who + length (messages (early ++ sent other m ∷ []) who)) ≡ suc (sent_before who + length (messages early who)) + 1 = omega (arith, size, one) in
        (serial_of early other m ys (λ bus. differ (sym is ∙ bus)) e.0 ∙ ap (λ p. suc (sent_before p + length (messages early p))) is, subst (λ n. From n (messages ys who)) next rest)
    by false h rest size =
        let none : length (cons_option (if same_party other who then Some m else None) []) ≡ 0 = ap (λ b. length (cons_option (if b then Some m else None) [])) h in
        let next : suc (sent_before who + length (messages (early ++ sent other m ∷ []) who)) ≡ suc (sent_before who + length (messages early who)) = omega (arith, size, none) in
        subst (λ n. From n (messages ys who)) next rest
serials_from who differ early (entry ∷ ys) e =
    subst (λ l. From (suc (sent_before who + length l)) (messages ys who)) (messages_more early (entry ∷ []) who ∙ append-nil (messages early who)) (serials_from who differ (early ++ entry ∷ []) ys e.1)

-- so a message with a serial below the sender's next was sent
pub was_sent : (who : Party) → (who ≡ The_bus → ⊥) → (es : List Entry) → Each HasNextNumber [] es → (s : ℕ) → sent_before who < s → s < suc (sent_before who + length (messages es who))
    → is_some (with_serial s (messages es who)) ≡ true
was_sent who differ es e s low high =
    let from : From (suc (sent_before who + 0)) (messages es who) = serials_from who differ [] es e in
    found_serial (suc (sent_before who + 0)) s (messages es who) from (omega (arith, low)) (omega (arith, high))
