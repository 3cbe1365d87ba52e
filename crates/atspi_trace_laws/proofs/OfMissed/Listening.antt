-- How applications listen, message by message.
use Rattle.std.proofs.Common.{◌≡◌, ℕ, Bool, true, false, List, Option, None, Some, refl, sym, ap, ◌∙◌, subst, arith}
use Rattle.std.specs.Prelude.{◌==◌, ◌&&◌, ◌||◌, if◌then◌else◌}
use Rattle.std.proofs.lemmas.Bool.{eqb-true, eq-eqb, ne_eqb}
use Rattle.atspi_message.specs.Envelope.{Envelope}
use Rattle.atspi_protocol.specs.exporting.Exporter.{Phase, new, awaits, over, hello, add_match, embed, get_registered_events, Exporter}
use Rattle.atspi_protocol.specs.exporting.Hearing.{is_heard, pairs_in}
use Rattle.atspi_protocol.specs.exporting.Starting.{is_number, goes_on, listened, ends_start}
use Rattle.atspi_protocol.specs.exporting.Taking.{takes_call, takes_other, app_takes}
use Rattle.atspi_trace_laws.specs.missed.Laws.{IsPastList, heard_on, ApplicationsListen}
use Rattle.atspi_trace_laws.proofs.OfOrder.Parties.{false_true}
use Rattle.atspi_trace_laws.proofs.OfMissed.Telling.{Pair, exchanged_heard}

-- THE LIST
takes_list : (s : Exporter) (e : Envelope) (serial : ℕ) (pairs : List Pair) → s.phase ≡ awaits get_registered_events serial → e.kind ≡ 2 → e.reply ≡ Some serial → pairs_in e.body ≡ Some pairs
    → IsPastList (app_takes s e).phase × ((p : Pair) → is_heard (app_takes s e).heard p ≡ is_heard pairs p)
takes_list s e serial pairs phase two reply body = subst (λ (t : Exporter). IsPastList t.phase × ((p : Pair) → is_heard t.heard p ≡ is_heard pairs p)) (sym is) (tt, exchanged_heard s.heard pairs)
  where
    is : app_takes s e ≡ listened s (Some pairs)
    is = rw (phase, two, reply, eq-eqb serial serial refl, body) refl

-- OTHER MESSAGES
abbrev On : Exporter → Envelope → Exporter → Type 0
On s e t = IsPastList t.phase × (t.heard ≡ heard_on s.heard e)

not_four : (n : ℕ) → (n ≡ 4 → ⊥) → (n == 4) ≡ false
not_four n h = ne_eqb n 4 h

call_on : (s : Exporter) (name : List ℕ) (e : Envelope) → IsPastList s.phase → IsPastList (takes_call s name e).phase × ((takes_call s name e).heard ≡ s.heard)
call_on s name e p = by e.sender refl
  where
    by : (o : Option (List ℕ)) → e.sender ≡ o → IsPastList (takes_call s name e).phase × ((takes_call s name e).heard ≡ s.heard)
    by None h = rw h (p, refl)
    by (Some caller) h = rw h (p, refl)

other_on : (s : Exporter) (name : List ℕ) (e : Envelope) → IsPastList s.phase → On s e (takes_other s (Some name) e)
other_on s name e p = by (e.kind == 1) (e.kind == 4) refl refl
  where
    by : (a b : Bool) → (e.kind == 1) ≡ a → (e.kind == 4) ≡ b → On s e (takes_other s (Some name) e)
    by true true h k = absurd (omega (arith, eqb-true e.kind 1 h, eqb-true e.kind 4 k))
    by true false h k = rw (h, k) (call_on s name e p)
    by false true h k = rw (h, k) (p, refl)
    by false false h k = rw (h, k) (p, refl)

ended_on : (s : Exporter) (e : Envelope) → (e.kind == 4) ≡ false → On s e (ends_start s)
ended_on s e h = rw h (tt, refl)

reply_not_four : (n : ℕ) → (n == 2 || n == 3) ≡ true → (n == 4) ≡ false
reply_not_four n h = not_four n (λ is. false_true (ap (λ m. m == 2 || m == 3) (sym is) ∙ h))

and_left : (a b : Bool) → (a && b) ≡ true → a ≡ true
and_left true b h = refl
and_left false b h = absurd (false_true h)

signals_on : (s : Exporter) (e : Envelope) (name : List ℕ) → s.name ≡ Some name → IsPastList s.phase → On s e (app_takes s e)
signals_on s e name named p = by s.phase refl p
  where
    at_embed : (serial : ℕ) → s.phase ≡ awaits embed serial → (b : Bool) → ((e.kind == 2 || e.kind == 3) && is_number e.reply serial) ≡ b → On s e (app_takes s e)
    at_embed serial h false k =
        let is : app_takes s e ≡ takes_other s (Some name) e = rw (h, k, named) refl in
        subst (On s e) (sym is) (other_on s name e p)
    at_embed serial h true k = ends (e.kind == 2) refl
      where
        ends : (b : Bool) → (e.kind == 2) ≡ b → On s e (app_takes s e)
        ends b g =
            let is : app_takes s e ≡ (if b then goes_on s embed e.body else ends_start s) = rw (h, k, g) refl in
            subst (On s e) (sym (is ∙ same b)) (ended_on s e (reply_not_four e.kind (and_left (e.kind == 2 || e.kind == 3) (is_number e.reply serial) k)))
          where
            same : (b : Bool) → (if b then goes_on s embed e.body else ends_start s) ≡ ends_start s
            same true = refl
            same false = refl

    by : (ph : Phase) → s.phase ≡ ph → IsPastList ph → On s e (app_takes s e)
    by over h q =
        let is : app_takes s e ≡ takes_other s (Some name) e = rw (h, named) refl in
        subst (On s e) (sym is) (other_on s name e p)
    by (awaits embed serial) h q = at_embed serial h ((e.kind == 2 || e.kind == 3) && is_number e.reply serial) refl
    by (awaits hello serial) h q = absurd q
    by (awaits add_match serial) h q = absurd q
    by (awaits get_registered_events serial) h q = absurd q
    by new h q = absurd q

pub listen : ApplicationsListen
listen = record { lists = takes_list; signals = signals_on }
