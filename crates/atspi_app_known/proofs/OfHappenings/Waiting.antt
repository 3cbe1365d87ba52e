-- What is queued behind what waits gets the next numbers.
use Rattle.std.proofs.Common.{◌≡◌, ℕ, zero, suc, ◌+◌, List, [], ◌∷◌, ◌++◌, map, take, length, slice_index_or, ◌<◌, Bool, true, false, cond, refl, ap, ◌∙◌, arith}
use Rattle.std.proofs.lemmas.List.{map-append}
use Rattle.atspi_protocol.specs.exporting.Exporter.{Happening, steps, sends, hears, deaf, sent_in, numbered}
use Rattle.atspi_protocol.proofs.OfExporting.Queued.{numbered-append}
use Rattle.atspi_app_known.specs.declared.happenings.event.AppEvent.{AppEvent}
use Rattle.atspi_app_known.specs.declared.happenings.event.AppEvent.TheVariants as events
use Rattle.atspi_app_known.specs.happenings.Happened.{happening_of, all_happened, sent_by}
use Rattle.atspi_app_known.specs.happenings.inner.Happened.{is_sent}

pub sent-append : (hs ks : List Happening) → sent_in (hs ++ ks) ≡ sent_in hs + sent_in ks
sent-append [] ks = omega arith
sent-append (sends e ∷ hs) ks = let l = sent-append hs ks in omega arith
sent-append (steps step ∷ hs) ks = sent-append hs ks
sent-append (hears bus pattern ∷ hs) ks = sent-append hs ks
sent-append (deaf bus pattern ∷ hs) ks = sent-append hs ks

-- the messages of both
pub sent_by-append : (w m r : List AppEvent) → r ≡ w ++ m → sent_by r ≡ sent_by w + sent_by m
sent_by-append w m r e = ap sent_by e ∙ ap sent_in (map-append happening_of w m) ∙ sent-append (all_happened w) (all_happened m)

pub waiting-append : (h n : ℕ) (w m r : List AppEvent) → r ≡ w ++ m → n ≡ h + 1 + sent_by w
    → numbered (h + 1) (all_happened r) ≡ numbered (h + 1) (all_happened w) ++ numbered n (all_happened m)
waiting-append h n w m r e next =
    ap (λ es. numbered (h + 1) (all_happened es)) e ∙ ap (numbered (h + 1)) (map-append happening_of w m)
    ∙ numbered-append (h + 1) n (all_happened w) (all_happened m) next

one_more : (event : AppEvent) (es : List AppEvent) → sent_by (event ∷ es) ≡ cond (is_sent event) 1 0 + sent_by es
one_more (events.Step step) es = omega arith
one_more (events.Send message) es = omega arith
one_more (events.Hears bus pattern) es = omega arith
one_more (events.Deaf bus pattern) es = omega arith

at_suc : (es : List AppEvent) (i : ℕ) (event : AppEvent) → i < length es → event ≡ slice_index_or es i event
    → sent_by (take (suc i) es) ≡ sent_by (take i es) + cond (is_sent event) 1 0
at_suc [] i event l e = absurd (omega arith)
at_suc (x ∷ es) zero event l e = rw e (let a = one_more x [] in omega arith)
at_suc (x ∷ es) (suc i) event l e =
    let b = at_suc es i event (omega arith) e in
    let a = one_more x (take (suc i) es) in
    let c = one_more x (take i es) in
    omega arith

-- so many messages stand before the next, which is one more or not
pub sent_by-take : (es : List AppEvent) (i : ℕ) (event : AppEvent) → i < length es → event ≡ slice_index_or es i event
    → sent_by (take (i + 1) es) ≡ sent_by (take i es) + cond (is_sent event) 1 0
sent_by-take es i event l e = let one : i + 1 ≡ suc i = omega arith in ap (λ n. sent_by (take n es)) one ∙ at_suc es i event l e
