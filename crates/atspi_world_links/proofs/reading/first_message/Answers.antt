use Rattle.std.proofs.Common.{◌≡◌, take, subst, sym, ap, ◌∙◌, arith}
use Rattle.std.proofs.lemmas.List.{take-take, length-take-le}
use Rattle.atspi_message.specs.Front.{length_in, IsSoundFront}
use Rattle.atspi_world_links.proofs.Fronts.{not_short, not_wrong, not_less, states, own_bytes}
use Rattle.atspi_world_links.proofs.reading.first_message.Goals as goal

pub parse-requires-clause-sound : goal.parse-requires-clause-sound
parse-requires-clause-sound c =
    let held = c.args.bytes.now in
    let front : c.in-Some.front.now ≡ take 16 (take c.in-Ok.len held) =
    c.in-Some.ensures.cases.same ∙ sym (take-take 16 c.in-Ok.len held (omega (arith, c.in-Ok.ensures.length)))
    in
    subst IsSoundFront front c.in-Ok.ensures.sound

pub parse-requires-clause-length : goal.parse-requires-clause-length
parse-requires-clause-length c =
    let held = c.args.bytes.now in
    let front : c.in-Some.front.now ≡ take 16 (take c.in-Ok.len held) =
    c.in-Some.ensures.cases.same ∙ sym (take-take 16 c.in-Ok.len held (omega (arith, c.in-Ok.ensures.length)))
    in
    ap length_in (sym front) ∙ sym c.in-Ok.ensures.length ∙ sym (length-take-le c.in-Ok.len held c.if-bytes-len.false)

pub returns-in_default-clause-given : goal.returns-in_default-clause-given
returns-in_default-clause-given c = λ e own rest is front. not_short e c.args.bytes.now own rest is front c.in_default.ensures.cases

pub returns-in-Err-clause-given : goal.returns-in-Err-clause-given
returns-in-Err-clause-given c = λ e own rest is front.
    not_wrong e c.args.bytes.now own rest is front c.in-Some.front.now c.in-Err.field-0.place c.in-Err.field-0.reason c.in-Some.ensures.cases.same c.in-Err.ensures.first

pub returns-then-bytes-len-clause-given : goal.returns-then-bytes-len-clause-given
returns-then-bytes-len-clause-given c = λ e own rest is front.
    not_less e c.args.bytes.now own rest is front c.in-Some.front.now c.in-Ok.len c.in-Some.ensures.cases.same c.in-Ok.ensures.length c.if-bytes-len.true

pub returns-in-Ok-parse-clause-given : goal.returns-in-Ok-parse-clause-given
returns-in-Ok-parse-clause-given c = λ e own rest is front.
    let first = c.in-Some.front.now in
    let same = c.in-Some.ensures.cases.same in (
      c.in-Ok-parse.ensures.only e (own_bytes e c.args.bytes.now own rest is front first c.in-Ok.len same c.in-Ok.ensures.length),
      c.in-Ok.ensures.length ∙ states e c.args.bytes.now own rest is front first same,
    )

pub returns-in-Err-parse-clause-given : goal.returns-in-Err-parse-clause-given
returns-in-Err-parse-clause-given c = λ e own rest is front.
    c.in-Err-parse.ensures.only e (own_bytes e c.args.bytes.now own rest is front c.in-Some.front.now c.in-Ok.len c.in-Some.ensures.cases.same c.in-Ok.ensures.length)
