use Rattle.std.proofs.Common.{◌≡◌, ℕ, List, ◌++◌, length, drop, Err, None, Some, refl, sym, ap, ◌∙◌}
use Rattle.std.proofs.Math.Seq.{drop-append_seam}
use Rattle.std.proofs.lemmas.Option.{same_Some}
use Rattle.atspi_message.specs.Bytes.{written}
use Rattle.atspi_world_parties.proofs.Faults.{err_is}
use Rattle.atspi_world_parties.proofs.taking.take_front.Goals as goal

none_some : (n : ℕ) → None ≡ Some n → ⊥
none_some n h = cc

-- what is left behind a front that is gone
behind : (bytes after own rest : List ℕ) (len : ℕ) → after ≡ drop len bytes → len ≡ length own → bytes ≡ own ++ rest → after ≡ rest
behind bytes after own rest len gone long front = gone ∙ ap (λ n. drop n bytes) long ∙ ap (drop (length own)) front ∙ drop-append_seam own rest

pub returns-in-Ok-Some-clause-takes : goal.returns-in-Ok-Some-clause-takes
returns-in-Ok-Some-clause-takes g c = λ m rest is front.
    let handed = c.in-Ok-Some.ensures.hands m rest is front in
    record {
      took_it = refl;
      left = behind _ _ (written m) rest _ c.pop.ensures (same_Some _ _ (sym c.in-Ok-Some.field-0-is ∙ handed.long)) front;
      told = handed.told;
      taken = handed.taken;
    }

pub returns-in-Ok-Some-clause-nothing : goal.returns-in-Ok-Some-clause-nothing
returns-in-Ok-Some-clause-nothing g c = λ more. absurd (none_some c.in-Ok-Some.len (sym (c.in-Ok-Some.ensures.nothing more).0 ∙ c.in-Ok-Some.field-0-is))

pub returns-in-Ok-None-clause-takes : goal.returns-in-Ok-None-clause-takes
returns-in-Ok-None-clause-takes g c = λ m rest is front.
    let handed = c.in-Ok-None.ensures.hands m rest is front in
    absurd (none_some (length (written m)) (sym c.in-Ok-None.field-0-is ∙ handed.long))

pub returns-in-Ok-None-clause-nothing : goal.returns-in-Ok-None-clause-nothing
returns-in-Ok-None-clause-nothing g c = λ more.
    let handed = c.in-Ok-None.ensures.nothing more in
    (refl, (refl, (handed.1.0, handed.1.1)))

pub returns-in-Err-clause-spent : goal.returns-in-Err-clause-spent
returns-in-Err-clause-spent g c = λ is. c.in-Err.ensures.spent (ap Err (err_is c.in-Err.fault _ is))
