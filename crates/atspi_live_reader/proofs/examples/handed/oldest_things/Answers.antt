use Rattle.std.proofs.Common.{◌≡◌, ℕ, List, false, [], ◌∷◌, refl, sym, ap, ◌∙◌, inl, inr}
use Rattle.std.specs.Prelude.{codes}
use Rattle.atspi_message.specs.Envelope.{envelope_of}
use Rattle.atspi_protocol.specs.following.ReaderState.{Done, ReaderState, sends, speaks, tells_end}
use Rattle.atspi_live_reader.specs.Handed.{KeepsLine}
use Rattle.atspi_live_reader.specs.Spoken.{say_line, sent_in, spoken_in}
use Rattle.atspi_live_reader.specs.Cases.{name}
use Rattle.atspi_live_reader.proofs.examples.handed.oldest_things.Goals as goal

pub returns-clause-message : goal.returns-clause-message
returns-clause-message c m s d = record { whole = refl; kept = inr (refl, refl) }

pub returns-clause-line : goal.returns-clause-line
unfolding lib.Utf8.encode
returns-clause-line c s d = (speaks name (codes "OK"), refl, record { whole = refl; kept = inr (refl, refl) })

pub returns-clause-end : goal.returns-clause-end
returns-clause-end c s = (tells_end name, refl, record { whole = refl; kept = inr (refl, refl) })

pub returns-clause-nothing : goal.returns-clause-nothing
returns-clause-nothing c s = record { whole = refl; kept = inr (refl, refl) }

-- what was done is what stood there
only : {d e : Done} → d ∷ [] ≡ e ∷ [] → d ≡ e
only h = cc

pub returns-clause-other_message : goal.returns-clause-other_message
returns-clause-other_message c m e other h = other (by (ap (λ (s : ReaderState). s.out) h.whole))
  where
    by : sends e ∷ [] ≡ sends (envelope_of m) ∷ [] → envelope_of m ≡ e
    by h = cc

pub returns-clause-message_aside : goal.returns-clause-message_aside
returns-clause-message_aside c e h = by h.0 (only (ap (λ (s : ReaderState). s.out) h.2.whole)) h.1
  where
    by : (d : Done) → sends e ≡ d → sent_in (d ∷ []) ≡ [] → ⊥
    by (sends f) is none = cc
    by (speaks name text) is none = cc
    by (tells_end name) is none = cc

pub returns-clause-end_as_nothing : goal.returns-clause-end_as_nothing
returns-clause-end_as_nothing c h = by (ap (λ (s : ReaderState). s.out) h.whole)
  where
    by : tells_end name ∷ [] ≡ [] → ⊥
    by h = cc

-- no line stands behind none, and memory was not wanting
kept_none : {lines : List ℕ} → KeepsLine false false [] lines [] → lines ≡ []
kept_none (inl h) = absurd cc
kept_none (inr h) = h.1

pub returns-clause-line_lost : goal.returns-clause-line_lost
unfolding lib.Utf8.encode
returns-clause-line_lost c h = by h.0 (only (ap (λ (s : ReaderState). s.out) h.2.whole)) h.2.kept
  where
    by : (d : Done) → speaks name (codes "OK") ≡ d → KeepsLine false false [] [] (spoken_in (d ∷ [])) → ⊥
    by d is (inl h) = cc
    by d is (inr h) =
        let none : [] ≡ say_line name (codes "OK") = h.1 ∙ ap (λ (x : Done). spoken_in (x ∷ [])) (sym is) in cc

pub returns-clause-end_kept : goal.returns-clause-end_kept
returns-clause-end_kept c h = by h.0 (only (ap (λ (s : ReaderState). s.out) h.2.whole)) h.2.kept
  where
    by : (d : Done) → tells_end name ≡ d → KeepsLine false false [] (codes "a") (spoken_in (d ∷ [])) → ⊥
    by d is (inl h) = cc
    by d is (inr h) =
        let none : codes "a" ≡ [] = h.1 ∙ ap (λ (x : Done). spoken_in (x ∷ [])) (sym is) in cc

a_line : codes "a" ≡ [] → ⊥
a_line h = cc

pub returns-clause-message_kept : goal.returns-clause-message_kept
returns-clause-message_kept c m h = a_line (kept_none h.kept)

pub returns-clause-nothing_kept : goal.returns-clause-nothing_kept
returns-clause-nothing_kept c h = a_line (kept_none h.kept)

pub returns-clause-all_aside : goal.returns-clause-all_aside
returns-clause-all_aside c h = by (ap (λ (s : ReaderState). s.out) h.2.whole)
  where
    by : {d : Done} → [] ≡ d ∷ [] → ⊥
    by h = cc
