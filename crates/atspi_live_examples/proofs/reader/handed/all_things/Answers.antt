use Rattle.std.proofs.Common.{◌≡◌, ℕ, List, false, [], ◌∷◌, ◌++◌, refl, ap, inl, inr, arith}
use Rattle.std.specs.Prelude.{codes}
use Rattle.atspi_protocol.specs.following.ReaderState.{Done, ReaderState, sends, speaks, tells_end}
use Rattle.atspi_live_reader.specs.Handed.{KeepsLine}
use Rattle.atspi_live_reader.specs.Spoken.{sent_in, spoken_in}
use Rattle.atspi_live_examples.specs.reader.Held.{name, said, told}
use Rattle.atspi_live_examples.proofs.OfReader.Started.{first_is}
use Rattle.atspi_live_examples.proofs.reader.handed.all_things.Goals as goal

pub returns-clause-message : goal.returns-clause-message
unfolding lib.Utf8.encode
returns-clause-message c e s d = record { done = tells_end name ∷ speaks name (codes "OK") ∷ sends e ∷ []; sent = refl; gives = record { whole = refl; kept = inr (refl, refl) } }

pub returns-clause-none : goal.returns-clause-none
unfolding lib.Utf8.encode
returns-clause-none c s = record { done = told; sent = refl; gives = record { whole = refl; kept = inr (refl, refl) } }

pub returns-clause-seen : goal.returns-clause-seen
returns-clause-seen c e = record { done = sends (record e { serial = 7 }) ∷ []; sent = refl; gives = record { whole = refl; kept = inr (refl, refl) } }

pub returns-clause-none_there : goal.returns-clause-none_there
returns-clause-none_there c e h = by h.done (ap (λ (s : ReaderState). s.out) h.gives.whole) h.sent
  where
    by : (done : List Done) → [] ≡ done ++ [] → sent_in done ≡ e ∷ [] → ⊥
    by [] all sent = cc
    by (d ∷ done) all sent = cc

pub returns-clause-one_there : goal.returns-clause-one_there
returns-clause-one_there c e h = by h.done (ap (λ (s : ReaderState). s.out) h.gives.whole) h.sent
  where
    by : (done : List Done) → sends e ∷ [] ≡ done ++ [] → sent_in done ≡ [] → ⊥
    by [] all sent = cc
    by (sends f ∷ done) all sent = cc
    by (speaks name text ∷ done) all sent = cc
    by (tells_end name ∷ done) all sent = cc

pub returns-clause-line_lost : goal.returns-clause-line_lost
returns-clause-line_lost c h = by h.done (ap (λ (s : ReaderState). s.out) h.gives.whole) h.gives.kept
  where
    by : (done : List Done) → speaks name (codes "OK") ∷ [] ≡ done ++ [] → KeepsLine false false [] [] (spoken_in done) → ⊥
    by done all (inl h) = cc
    by [] all (inr h) = cc
    by (sends f ∷ done) all (inr h) = cc
    by (speaks name text ∷ done) all (inr h) = cc
    by (tells_end name ∷ done) all (inr h) = cc

pub returns-clause-rest : goal.returns-clause-rest
unfolding lib.Utf8.encode
returns-clause-rest c = record { whole = refl; kept = inr (refl, refl) }

pub returns-clause-rest_untold : goal.returns-clause-rest_untold
unfolding lib.Utf8.encode
returns-clause-rest_untold c h = by h.kept
  where
    by : KeepsLine false false [] [] said → ⊥
    by (inl h) = cc
    by (inr h) = cc

pub returns-clause-rest_kept : goal.returns-clause-rest_kept
unfolding lib.Utf8.encode
returns-clause-rest_kept c = record { whole = refl; kept = inr (refl, refl) }

pub returns-clause-rest_changed : goal.returns-clause-rest_changed
returns-clause-rest_changed c h = omega (arith, ap (λ (s : ReaderState). s.next) h.whole)

pub returns-clause-starved : goal.returns-clause-starved
returns-clause-starved c = record { whole = refl; kept = inl refl }

pub returns-clause-front : goal.returns-clause-front
returns-clause-front c = (codes "b", refl)

pub returns-clause-no_front : goal.returns-clause-no_front
returns-clause-no_front c h = by (first_is h.1)
  where
    by : ◌≡◌ {A = ℕ} 98 97 → ⊥
    by h = omega (arith, h)
