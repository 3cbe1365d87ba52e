use Rattle.std.proofs.Common.{◌≡◌, ℕ, ◌<◌, ◌≤◌, List, length, take, refl, subst, sym, ap, ◌∙◌, arith}
use Rattle.std.proofs.lemmas.List.{take-take, length-take-le}
use Rattle.atspi_types.specs.declared.fault.Fault.{Fault}
use Rattle.atspi_message.specs.Front.{length_in, WrongFront, IsFirst, IsSoundFront}
use Rattle.atspi_message.specs.Faults.{FirstFault}
use Rattle.atspi_stream.specs.inner.Seen.{Sees}
use Rattle.atspi_stream.specs.Stream.{stated, few, unfinished, in_front, behind}
use Rattle.atspi_stream.specs.declared.feeder.Got.TheVariants.{NotYet, Bad}
use Rattle.atspi_stream.proofs.feeder.look.Goals as goal

-- what each step of looking tells of the bytes that are held

waits_for_front : (held : List ℕ) → length held < 16 → Sees (NotYet, 0) held
waits_for_front held short = (refl, few short)

wrong_front : (held first : List ℕ) (f : Fault) → 16 ≤ length held → first ≡ take 16 held → IsFirst (WrongFront first) f.place f.reason → Sees (Bad f, 0) held
wrong_front held first f long same is = (refl, in_front long (subst (λ (bs : List ℕ). IsFirst (WrongFront bs) f.place f.reason) same is))

waits_for_rest : (held first : List ℕ) (n : ℕ) → 16 ≤ length held → first ≡ take 16 held → IsSoundFront first → n ≡ length_in first → length held < n → Sees (NotYet, 0) held
waits_for_rest held first n long same sound is short = (refl, unfinished long (subst IsSoundFront same sound) (omega (arith, short, is ∙ ap length_in same)))

wrong_behind : (held first : List ℕ) (f : Fault) (n : ℕ) → 16 ≤ length held → first ≡ take 16 held → IsSoundFront first → n ≡ length_in first → n ≤ length held → FirstFault (take n held) f.place f.reason → Sees (Bad f, 0) held
wrong_behind held first f n long same sound is enough fault =
    let stated_is : n ≡ stated held = is ∙ ap length_in same in
    (refl, behind long (subst IsSoundFront same sound) (omega (arith, enough, stated_is)) (subst (λ (k : ℕ). FirstFault (take k held) f.place f.reason) stated_is fault))

pub returns-in_default-clause-seen : goal.returns-in_default-clause-seen
returns-in_default-clause-seen c = waits_for_front c.args.held.now (omega (arith, c.in_default.ensures.cases))

pub returns-in-Err-clause-seen : goal.returns-in-Err-clause-seen
returns-in-Err-clause-seen c =
    wrong_front c.args.held.now c.in-Some.first.now c.in-Err.fault (omega (arith, c.in-Some.ensures.cases)) c.in-Some.ensures.cases.same c.in-Err.ensures.first

pub returns-then-held-length-clause-seen : goal.returns-then-held-length-clause-seen
returns-then-held-length-clause-seen c =
    waits_for_rest c.args.held.now c.in-Some.first.now c.in-Ok.length (omega (arith, c.in-Some.ensures.cases)) c.in-Some.ensures.cases.same c.in-Ok.ensures.sound c.in-Ok.ensures.length (omega (arith, c.if-held-length.true))

pub parse-requires-clause-length : goal.parse-requires-clause-length
parse-requires-clause-length c =
    let held = c.args.held.now in
    let front : c.in-Some.first.now ≡ take 16 (take c.in-Ok.length held) =
    c.in-Some.ensures.cases.same ∙ sym (take-take 16 c.in-Ok.length held (omega (arith, c.in-Ok.ensures.length)))
    in
    ap length_in (sym front) ∙ sym c.in-Ok.ensures.length ∙ sym (length-take-le c.in-Ok.length held c.if-held-length.false)

pub parse-requires-clause-sound : goal.parse-requires-clause-sound
parse-requires-clause-sound c =
    let held = c.args.held.now in
    let front : c.in-Some.first.now ≡ take 16 (take c.in-Ok.length held) =
    c.in-Some.ensures.cases.same ∙ sym (take-take 16 c.in-Ok.length held (omega (arith, c.in-Ok.ensures.length)))
    in
    subst IsSoundFront front c.in-Ok.ensures.sound

pub returns-in-Ok-parse-clause-seen : goal.returns-in-Ok-parse-clause-seen
returns-in-Ok-parse-clause-seen c = (c.if-held-length.false, c.in-Ok-parse.ensures.found)

pub returns-in-Err-parse-clause-seen : goal.returns-in-Err-parse-clause-seen
returns-in-Err-parse-clause-seen c =
    wrong_behind c.args.held.now c.in-Some.first.now c.in-Err-parse.fault c.in-Ok.length (omega (arith, c.in-Some.ensures.cases)) c.in-Some.ensures.cases.same c.in-Ok.ensures.sound c.in-Ok.ensures.length c.if-held-length.false c.in-Err-parse.ensures.first

pub returns-in_default-clause-bytes : goal.returns-in_default-clause-bytes
returns-in_default-clause-bytes c i = omega (arith, c.type_inv.held i)

pub returns-in-Err-clause-bytes : goal.returns-in-Err-clause-bytes
returns-in-Err-clause-bytes c i = omega (arith, c.type_inv.held i)

pub returns-then-held-length-clause-bytes : goal.returns-then-held-length-clause-bytes
returns-then-held-length-clause-bytes c i = omega (arith, c.type_inv.held i)

pub returns-in-Ok-parse-clause-bytes : goal.returns-in-Ok-parse-clause-bytes
returns-in-Ok-parse-clause-bytes c i = omega (arith, c.type_inv.held i)

pub returns-in-Err-parse-clause-bytes : goal.returns-in-Err-parse-clause-bytes
returns-in-Err-parse-clause-bytes c i = omega (arith, c.type_inv.held i)
