-- Messages of one party whose serials rise by one.
use Rattle.std.proofs.Common.{◌≡◌, ℕ, zero, suc, ◌+◌, Bool, true, false, List, [], ◌∷◌, ◌++◌, length, map, None, Some, refl, sym, ap, ◌∙◌, subst, arith, length-append}
use Rattle.std.specs.Prelude.{if◌then◌else◌}
use Rattle.std.specs.List.{cons_option}
use Rattle.std.proofs.lemmas.List.Elements.{filter_map-append}
use Rattle.std.proofs.lemmas.List.{append-nil}
use Rattle.atspi_script_lines.specs.declared.line.Party.{Party}
use Rattle.atspi_script_lines.specs.declared.line.Party.TheVariants.{App}
use Rattle.atspi_message.specs.Envelope.{Envelope}
use Rattle.atspi_protocol.specs.ends.Messages.{numbered}
use Rattle.atspi_protocol.specs.exporting.Exporter.{Happening, steps, sends, hears, deaf}
use Rattle.atspi_protocol.specs.exporting.Laws.{numbers_among, rising}
use Rattle.atspi_trace.specs.Entry.{Entry, sent}
use Rattle.atspi_trace.specs.Ends.{same_party}
use Rattle.atspi_trace.specs.Causes.{did}
use Rattle.atspi_trace_laws.specs.laws.Words.{sent_by, messages}
use Rattle.atspi_trace_laws.specs.laws.NineLaws.{sent_before, HasNextSerial}
use Rattle.atspi_trace_laws.proofs.OfOrder.Parties.{same-party, party-same}
use Rattle.atspi_trace_laws.proofs.OfOrder.Each.{Each}

-- each message among the entries is this party's, with this serial and the next ones
abbrev pub Rises : Party → ℕ → List Entry → Type 0
Rises who n [] = Unit {0}
Rises who n (sent other e ∷ ys) = (other ≡ who) × (e.serial ≡ n) × Rises who (n + 1) ys
Rises who n (entry ∷ ys) = Rises who n ys

abbrev pub sent_count : List Entry → ℕ
sent_count [] = 0
sent_count (sent other e ∷ ys) = suc (sent_count ys)
sent_count (entry ∷ ys) = sent_count ys

pub messages_more : (es ys : List Entry) (who : Party) → messages (es ++ ys) who ≡ messages es who ++ messages ys who
messages_more es ys who = filter_map-append (sent_by who) es ys

-- messages of another party there are none
pub none_else : (who p : Party) (n : ℕ) (ys : List Entry) → Rises who n ys → (p ≡ who → ⊥) → messages ys p ≡ []
none_else who p n [] r differ = refl
none_else who p n (sent other e ∷ ys) r differ = by (same_party other p) refl (none_else who p (n + 1) ys r.2 differ)
  where
    by : (b : Bool) → same_party other p ≡ b → messages ys p ≡ [] → cons_option (if b then Some e else None) (messages ys p) ≡ []
    by true h g = absurd (differ (sym (same-party other p h) ∙ r.0))
    by false h g = g
none_else who p n (entry ∷ ys) r differ = none_else who p n ys r differ

pub as_many : (who : Party) (n : ℕ) (ys : List Entry) → Rises who n ys → length (messages ys who) ≡ sent_count ys
as_many who n [] r = refl
as_many who n (sent other e ∷ ys) r =
    ap (λ b. length (cons_option (if b then Some e else None) (messages ys who))) (ap (λ p. same_party p who) r.0 ∙ party-same who)
    ∙ ap suc (as_many who (n + 1) ys r.2)
as_many who n (entry ∷ ys) r = as_many who n ys r

-- so each has the next serial of its sender
pub rises_law : (who : Party) (n : ℕ) (early ys : List Entry) → n ≡ suc (sent_before who + length (messages early who)) → Rises who n ys → Each HasNextSerial early ys
rises_law who n early [] h r = tt
rises_law who n early (sent other e ∷ ys) h r = (
  subst (λ p. e.serial ≡ suc (sent_before p + length (messages early p))) (sym r.0) (r.1 ∙ h),
  rises_law who (n + 1) (early ++ sent other e ∷ []) ys (next (ap length (messages_more early (sent other e ∷ []) who))) r.2,
)
  where
    one : length (messages (sent other e ∷ []) who) ≡ 1
    one = ap (λ b. length (cons_option (if b then Some e else None) [])) (ap (λ p. same_party p who) r.0 ∙ party-same who)

    next : length (messages (early ++ sent other e ∷ []) who) ≡ length (messages early who ++ messages (sent other e ∷ []) who) → n + 1 ≡ suc (sent_before who + length (messages (early ++ sent other e ∷ []) who))
    next g = omega (arith, g, h, one, length-append (messages early who) (messages (sent other e ∷ []) who))
rises_law who n early (entry ∷ ys) h r =
    (tt, rises_law who n (early ++ entry ∷ []) ys (h ∙ ap (λ l. suc (sent_before who + length l)) (sym (messages_more early (entry ∷ []) who ∙ append-nil (messages early who)))) r)

abbrev pub head_of : ℕ → List ℕ → ℕ
head_of d [] = d
head_of d (x ∷ xs) = x

abbrev pub tail_of : List ℕ → List ℕ
tail_of [] = []
tail_of (x ∷ xs) = xs

-- what an application did
pub did_rises : (app k n : ℕ) (hs : List Happening) → numbers_among hs ≡ rising k n → Rises (App app) n (map (did app) hs) × (sent_count (map (did app) hs) ≡ k)
did_rises app zero n [] h = (tt, refl)
did_rises app (suc k) n [] h = absurd (omega (arith, ap length h))
did_rises app zero n (sends e ∷ hs) h = absurd (omega (arith, ap length h))
did_rises app (suc k) n (sends e ∷ hs) h =
    let rest = did_rises app k (n + 1) hs (ap tail_of h) in
    ((refl, ap (head_of n) h, rest.0), ap suc rest.1)
did_rises app k n (steps step ∷ hs) h = did_rises app k n hs h
did_rises app k n (hears bus pattern ∷ hs) h = did_rises app k n hs h
did_rises app k n (deaf bus pattern ∷ hs) h = did_rises app k n hs h

-- messages that are numbered
pub numbered_rises : (who : Party) (n : ℕ) (es : List Envelope) → Rises who n (map (sent who) (numbered n es)) × (sent_count (map (sent who) (numbered n es)) ≡ length es)
numbered_rises who n [] = (tt, refl)
numbered_rises who n (e ∷ es) = let rest = numbered_rises who (n + 1) es in ((refl, refl, rest.0), ap suc rest.1)
