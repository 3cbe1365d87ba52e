use Rattle.std.proofs.Common.{◌≡◌, ◌⊎◌, List, true, false, [], ◌∷◌, ◌++◌, drop, refl, sym, ap, ◌∙◌, inl, inr, arith}
use Rattle.std.specs.Prelude.{codes}
use Rattle.atspi_protocol.specs.following.ReaderState.{Done, ReaderState, sends, speaks, tells_end}
use Rattle.atspi_live_reader.specs.Handed.{IsFrontOf}
use Rattle.atspi_live_reader.specs.Spoken.{say_line, sent_in, spoken_in}
use Rattle.atspi_live_examples.specs.reader.Held.{name}
use Rattle.atspi_live_examples.specs.reader.Started.{hello}
use Rattle.atspi_live_examples.proofs.OfReader.Started.{not_half, not_other}
use Rattle.atspi_live_examples.proofs.reader.handed.written_so_far.Goals as goal

pub returns-clause-before : goal.returns-clause-before
unfolding lib.Utf8.encode
returns-clause-before c r took e left is whole = record { is = record { resting = is.resting; fine = is.fine; within = is.within }; done = speaks name (codes "OK") ∷ sends e ∷ []; whole = whole; sent = refl; told = inr refl }

pub returns-clause-wanting : goal.returns-clause-wanting
unfolding lib.Utf8.encode
returns-clause-wanting c r took left is whole = record { is = record { resting = is.resting; fine = is.fine; within = is.within }; done = speaks name (codes "OK") ∷ []; whole = whole; sent = refl; told = inl (refl, (drop 6 (say_line name (codes "OK")), refl)) }

pub returns-clause-fed : goal.returns-clause-fed
returns-clause-fed c r took said h = by h.done h.told
  where
    by : (done : List Done) → ((false ≡ true) × IsFrontOf (codes "x") (spoken_in done)) ⊎ (codes "x" ++ [] ≡ spoken_in done) → ⊥
    by done (inl h) = let never : false ≡ true = h.0 in cc
    by done (inr h) = not_other [] done h

pub returns-clause-wanting_other : goal.returns-clause-wanting_other
returns-clause-wanting_other c r took said h = by h.done h.told
  where
    by : (done : List Done) → ((true ≡ true) × IsFrontOf (codes "x") (spoken_in done)) ⊎ (codes "x" ++ [] ≡ spoken_in done) → ⊥
    by done (inl h) = not_other h.1.0 done h.1.1
    by done (inr h) = not_other [] done h

pub returns-clause-lost : goal.returns-clause-lost
returns-clause-lost c r took said h = by h.done h.told
  where
    by : (done : List Done) → ((false ≡ true) × IsFrontOf [] (spoken_in done)) ⊎ ([] ++ codes "say" ≡ spoken_in done) → ⊥
    by done (inl h) = let never : false ≡ true = h.0 in cc
    by done (inr h) = not_half done h

pub returns-clause-unwritten : goal.returns-clause-unwritten
unfolding lib.Utf8.encode
returns-clause-unwritten c r took whole h = by h.done (ap (λ (s : ReaderState). s.out) (h.whole ∙ sym whole)) h.told
  where
    by : (done : List Done) → done ++ [] ≡ speaks name (codes "OK") ∷ [] → ((false ≡ true) × IsFrontOf [] (spoken_in done)) ⊎ ([] ++ [] ≡ spoken_in done) → ⊥
    by done all (inl h) = let never : false ≡ true = h.0 in cc
    by [] all (inr h) = cc
    by (sends f ∷ done) all (inr h) = cc
    by (speaks name text ∷ done) all (inr h) = cc
    by (tells_end name ∷ done) all (inr h) = cc

pub returns-clause-unasked : goal.returns-clause-unasked
returns-clause-unasked c e h = by h.done (ap (λ (s : ReaderState). s.out) h.whole) h.sent
  where
    by : (done : List Done) → done ++ sends hello ∷ [] ≡ sends hello ∷ [] → sent_in done ≡ e ∷ [] → ⊥
    by [] all sent = cc
    by (d ∷ []) all sent = cc
    by (d ∷ f ∷ done) all sent = cc

pub returns-clause-not_started : goal.returns-clause-not_started
returns-clause-not_started c h = omega (arith, ap (λ (s : ReaderState). s.next) h.whole)

pub returns-clause-no_state : goal.returns-clause-no_state
returns-clause-no_state c written lines r took said never h = never h.is
