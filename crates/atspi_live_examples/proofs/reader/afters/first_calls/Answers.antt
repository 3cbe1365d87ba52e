use Rattle.std.proofs.Common.{◌≡◌, List, [], ◌∷◌, ◌++◌, refl, ap, arith, lit≤}
use Rattle.atspi_protocol.specs.following.ReaderState.{Done, ReaderState, sends}
use Rattle.atspi_live_reader.specs.Spoken.{sent_in}
use Rattle.atspi_live_examples.specs.reader.Started.{hello}
use Rattle.atspi_live_examples.proofs.reader.afters.first_calls.Goals as goal

pub returns-clause-queued : goal.returns-clause-queued
returns-clause-queued c = record { done = []; whole = refl; sent = refl; numbered = lit≤ tt }

pub returns-clause-handed : goal.returns-clause-handed
returns-clause-handed c = record { done = sends hello ∷ []; whole = refl; sent = refl; numbered = lit≤ tt }

pub returns-clause-kept_back : goal.returns-clause-kept_back
returns-clause-kept_back c a = by a.done (ap (λ (r : ReaderState). r.out) a.whole) a.sent
  where
    by : (done : List Done) → done ++ sends hello ∷ [] ≡ sends hello ∷ [] → sent_in done ≡ hello ∷ [] → ⊥
    by [] all sent = cc
    by (d ∷ []) all sent = cc
    by (d ∷ e ∷ done) all sent = cc

pub returns-clause-hidden : goal.returns-clause-hidden
returns-clause-hidden c a = by a.done (ap (λ (r : ReaderState). r.out) a.whole) a.sent
  where
    by : (done : List Done) → done ++ [] ≡ sends hello ∷ [] → sent_in done ≡ [] → ⊥
    by [] all sent = cc
    by (d ∷ done) all sent = let first : d ≡ sends hello = cc in cc

pub returns-clause-not_started : goal.returns-clause-not_started
returns-clause-not_started c a = omega (arith, ap (λ (r : ReaderState). r.next) a.whole)

pub returns-clause-left : goal.returns-clause-left
returns-clause-left c = refl

pub returns-clause-more : goal.returns-clause-more
returns-clause-more c h = by h
  where
    by : sends hello ∷ [] ≡ [] → ⊥
    by h = cc
