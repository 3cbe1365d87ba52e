-- However bytes are cut, an end stands where all of them together lead.
use Rattle.std.proofs.Common.{◌≡◌, ◌≢◌, ℕ, Bool, true, false, List, ◌++◌, Result, Ok, Err, refl, sym, ◌∙◌, ap, append_assoc}
use Rattle.atspi_auth.specs.Talk.{Continues, Heard, Standing, Tells, after, after_hail, behind, enter, heard, told}
use Rattle.atspi_auth.specs.declared.fault.AuthFault.{AuthFault}
use Rattle.atspi_auth.specs.declared.fault.AuthFault.TheVariants.{NoZero, TooLong, Early, Rejected, NoMemory}
use Rattle.atspi_auth.specs.declared.said.AuthLine.{AuthLine}
use Rattle.atspi_auth.proofs.TalkLemmas.{cut}

-- first these bytes, then those
pub after-append : (now : Standing) (a b : List ℕ) → after (after now a) b ≡ after now (a ++ b)
after-append now a b =
    let first : Heard = told now a in
    let more : Heard = heard first.stage first.line b in
    ap (λ (u : List AuthLine). record { stage = more.stage; line = more.line; unsent = u }) (append_assoc now.unsent first.said more.said)
    ∙ ap (λ (h : Heard). enter now h) (sym (cut now.stage now.line a b))

pub behind-append : (now : Standing) (a b : List ℕ) → behind now (a ++ b) ≡ behind now a ++ behind (after now a) b
behind-append now a b = ap (λ (h : Heard). h.behind) (cut now.stage now.line a b)

-- the end with these lines in front of those that it still has to hand out
abbrev with_given : List AuthLine → Standing → Standing
with_given given now = record { stage = now.stage; line = now.line; unsent = given ++ now.unsent }

after-with_given : (given : List AuthLine) (now : Standing) (bytes : List ℕ) → with_given given (after now bytes) ≡ after (with_given given now) bytes
after-with_given given now bytes =
    let h : Heard = told now bytes in
    ap (λ (u : List AuthLine). record { stage = h.stage; line = h.line; unsent = u }) (sym (append_assoc given now.unsent h.said))

-- what is known of all bytes goes on to hold
pub continues : (start old new : Standing) (bytes : List ℕ) → new ≡ after old bytes → Continues start old new bytes
continues start old new bytes e fed given s =
    ap (with_given given) e ∙ after-with_given given old bytes ∙ ap (λ (n : Standing). after n bytes) s ∙ after-append start fed bytes

-- where memory was not wanting, the end is the one after the bytes
pub told_new : (r : Result ℕ AuthFault) (old new : Standing) (h : Heard) (bytes : List ℕ) → Tells r old new h bytes → r ≢ Err NoMemory → new ≡ enter old h
told_new (Ok taken) old new h bytes t n = t.0
told_new (Err NoZero) old new h bytes t n = t.0
told_new (Err TooLong) old new h bytes t n = t.0
told_new (Err Early) old new h bytes t n = t.0
told_new (Err Rejected) old new h bytes t n = t.0
told_new (Err NoMemory) old new h bytes t n = absurd (n refl)

-- the same for an end with its first line
pub after_hail-after : (hailed : Bool) (now : Standing) (bytes : List ℕ) → after_hail hailed (after now bytes) ≡ after (after_hail hailed now) bytes
after_hail-after true now bytes = refl
after_hail-after false now bytes = refl
