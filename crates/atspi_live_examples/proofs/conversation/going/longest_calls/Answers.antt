use Rattle.std.proofs.Common.{◌≡◌, ℕ, List, [], ◌∷◌, ◌++◌, length, take, refl, sym, ap, ◌∙◌, arith, lit≤, take_all}
use Rattle.std.proofs.lemmas.List.{length-append, length-take-le, take-append-le}
use Rattle.std.specs.Prelude.{codes}
use Rattle.atspi_live_host.specs.declared.call.Call.TheVariants.{Read, Write}
use Rattle.atspi_live_host.specs.declared.call.Did.{Did}
use Rattle.atspi_live_host.specs.declared.call.Did.TheVariants.{Done}
use Rattle.atspi_live_examples.proofs.conversation.going.longest_calls.Goals as goal

written_bytes : (bytes bytes' : List ℕ) → Write 0 bytes (Done 1) ∷ [] ≡ Write 0 bytes' (Done 1) ∷ [] → bytes ≡ bytes'
written_bytes bytes bytes' h = cc

read_bytes : (bytes bytes' : List ℕ) (did did' : Did) → Read 0 bytes did ∷ [] ≡ Read 0 bytes' did' ∷ [] → bytes ≡ bytes'
read_bytes bytes bytes' did did' h = cc

first_4096 : (front more : List ℕ) → length front ≡ 4096 → take 4096 (front ++ more) ≡ front
first_4096 front more long = take-append-le 4096 front more (omega (arith, long)) ∙ take_all 4096 front (omega (arith, long))

pub returns-clause-read : goal.returns-clause-read
returns-clause-read c = (codes "ab", Done 2, tt, lit≤ tt, refl)

pub returns-clause-longer_read : goal.returns-clause-longer_read
returns-clause-longer_read c r = omega (arith, r.3, ap (λ (bytes : List ℕ). length bytes) (read_bytes (codes "abc") r.0 (Done 3) r.1 r.4))

pub returns-clause-front : goal.returns-clause-front
returns-clause-front c front more long = (omega (arith, long, length-append front more), ap (λ (bytes : List ℕ). Write 0 bytes (Done 1) ∷ []) (sym (first_4096 front more long)))

pub returns-clause-longer_front : goal.returns-clause-longer_front
returns-clause-longer_front c unsent long p =
    let short : length (take 4096 unsent) ≡ 4096 = length-take-le 4096 unsent (omega (arith, long)) in
    omega (arith, long, short, ap (λ (bytes : List ℕ). length bytes) (written_bytes unsent (take 4096 unsent) p.1))

pub returns-clause-write : goal.returns-clause-write
returns-clause-write c t g bytes long speech = (bytes, omega (arith, long), omega (arith, long), speech, refl)

pub returns-clause-longer_write : goal.returns-clause-longer_write
returns-clause-longer_write c t g bytes long w = omega (arith, long, w.2, ap (λ (bytes : List ℕ). length bytes) (written_bytes bytes w.0 w.4))

pub returns-clause-empty_write : goal.returns-clause-empty_write
returns-clause-empty_write c w = omega (arith, w.1, ap (λ (bytes : List ℕ). length bytes) (written_bytes [] w.0 w.4))
