use Rattle.std.proofs.Common.{◌≡◌, ◌+◌, ◌<◌, ◌++◌, length, take, drop, chars, IsUtf8, sym, ap, subst, ◌∙◌, arith}
use Rattle.atspi_faces.specs.Gap.{text_of}
use Rattle.atspi_faces.specs.Sides.{IsSide}
use Rattle.atspi_faces.proofs.GapLemmas.{gapped_fits, gapped_count, put_in, text_same}
use Rattle.atspi_faces.proofs.KeptLemmas.{kept_put, noted_put}
use Rattle.atspi_faces.proofs.gap.Gap.insert.Goals as goal

pub returns-then-len-text-clause-counted : goal.returns-then-len-text-clause-counted
returns-then-len-text-clause-counted c =
    omega (arith, gapped_fits c.self.inside.buffer _ _ c.self.invariant.gapped, gapped_count c.self.inside.buffer _ _ c.self.invariant.gapped, ap length c.self.view_is)

pub returns-in_err-put-clause-counted : goal.returns-in_err-put-clause-counted
returns-in_err-put-clause-counted c =
    omega (arith, gapped_fits c.go_to.new.buffer _ _ c.go_to.ensures.kept.gapped, gapped_count c.go_to.new.buffer _ _ c.go_to.ensures.kept.gapped, ap length (text_same c.put.new.self c.go_to.new.buffer c.in_err-put.ensures.err c.in_err-put.ensures.back))

pub as_text-front-requires : goal.as_text-front-requires
as_text-front-requires c =
    let go = c.go_to.new in
    let kept = c.go_to.ensures.kept in
    let xs = c.as_str-text.result.now in
    let more = c.count-count.result in
    let told : more ≡ length (chars xs) = c.count-count.ensures ∙ ap length (sym c.as_str-text.ensures.chars) in
    let joined : c.put.new.self.0 ≡ go.buffer.0 ++ xs = c.in_ok-put.ensures.front ∙ ap (λ l. go.buffer.0 ++ l) c.as_bytes.ensures.value in
    let fits : length go.buffer.0 + length go.buffer.1 + length xs < 4294967296 = omega (arith, c.if-len-text.false, ap length c.front.ensures, ap length c.back.ensures, c.go_to.ensures.bytes, c.self.invariant.gapped.fits) in
    let put = put_in go.buffer c.put.new.self xs go.front.end.chars go.back.end.chars more kept.gapped joined c.in_ok-put.ensures.back c.as_str-text.utf8 c.as_str-text.ensures.no_zero told fits in
    subst IsUtf8 (sym c.front-2.ensures) put.0.front.utf8

pub overflow_add-chars : goal.overflow_add-chars
overflow_add-chars c =
    let go = c.go_to.new in
    let kept = c.go_to.ensures.kept in
    let xs = c.as_str-text.result.now in
    let more = c.count-count.result in
    let told : more ≡ length (chars xs) = c.count-count.ensures ∙ ap length (sym c.as_str-text.ensures.chars) in
    let joined : c.put.new.self.0 ≡ go.buffer.0 ++ xs = c.in_ok-put.ensures.front ∙ ap (λ l. go.buffer.0 ++ l) c.as_bytes.ensures.value in
    let fits : length go.buffer.0 + length go.buffer.1 + length xs < 4294967296 = omega (arith, c.if-len-text.false, ap length c.front.ensures, ap length c.back.ensures, c.go_to.ensures.bytes, c.self.invariant.gapped.fits) in
    let put = put_in go.buffer c.put.new.self xs go.front.end.chars go.back.end.chars more kept.gapped joined c.in_ok-put.ensures.back c.as_str-text.utf8 c.as_str-text.ensures.no_zero told fits in
    omega (arith, gapped_fits c.put.new.self _ _ put.0, c.go_to.ensures.at)

pub grow-requires-clause-counted : goal.grow-requires-clause-counted
grow-requires-clause-counted c =
    let go = c.go_to.new in
    let kept = c.go_to.ensures.kept in
    let xs = c.as_str-text.result.now in
    let more = c.count-count.result in
    let told : more ≡ length (chars xs) = c.count-count.ensures ∙ ap length (sym c.as_str-text.ensures.chars) in
    let joined : c.put.new.self.0 ≡ go.buffer.0 ++ xs = c.in_ok-put.ensures.front ∙ ap (λ l. go.buffer.0 ++ l) c.as_bytes.ensures.value in
    let fits : length go.buffer.0 + length go.buffer.1 + length xs < 4294967296 = omega (arith, c.if-len-text.false, ap length c.front.ensures, ap length c.back.ensures, c.go_to.ensures.bytes, c.self.invariant.gapped.fits) in
    let put = put_in go.buffer c.put.new.self xs go.front.end.chars go.back.end.chars more kept.gapped joined c.in_ok-put.ensures.back c.as_str-text.utf8 c.as_str-text.ensures.no_zero told fits in
    omega (arith, put.0.front.counted, c.go_to.ensures.at, ap (λ l. length (chars l)) (c.as_text-front.ensures ∙ c.front-2.ensures))

pub grow-requires-clause-noted : goal.grow-requires-clause-noted
grow-requires-clause-noted c =
    let go = c.go_to.new in
    let kept = c.go_to.ensures.kept in
    let xs = c.as_str-text.result.now in
    let more = c.count-count.result in
    let told : more ≡ length (chars xs) = c.count-count.ensures ∙ ap length (sym c.as_str-text.ensures.chars) in
    let joined : c.put.new.self.0 ≡ go.buffer.0 ++ xs = c.in_ok-put.ensures.front ∙ ap (λ l. go.buffer.0 ++ l) c.as_bytes.ensures.value in
    let fits : length go.buffer.0 + length go.buffer.1 + length xs < 4294967296 = omega (arith, c.if-len-text.false, ap length c.front.ensures, ap length c.back.ensures, c.go_to.ensures.bytes, c.self.invariant.gapped.fits) in
    let put = put_in go.buffer c.put.new.self xs go.front.end.chars go.back.end.chars more kept.gapped joined c.in_ok-put.ensures.back c.as_str-text.utf8 c.as_str-text.ensures.no_zero told fits in
    noted_put go.buffer.0 c.as_text-front.result.now xs go.front (c.args.at + more) kept.gapped.front.utf8 (c.as_text-front.ensures ∙ c.front-2.ensures ∙ joined) kept.before (omega (arith, c.go_to.ensures.at))

pub invariant_of-self-2 : goal.invariant_of-self-2
invariant_of-self-2 c =
    let go = c.go_to.new in
    let kept = c.go_to.ensures.kept in
    let xs = c.as_str-text.result.now in
    let more = c.count-count.result in
    let told : more ≡ length (chars xs) = c.count-count.ensures ∙ ap length (sym c.as_str-text.ensures.chars) in
    let joined : c.put.new.self.0 ≡ go.buffer.0 ++ xs = c.in_ok-put.ensures.front ∙ ap (λ l. go.buffer.0 ++ l) c.as_bytes.ensures.value in
    let fits : length go.buffer.0 + length go.buffer.1 + length xs < 4294967296 = omega (arith, c.if-len-text.false, ap length c.front.ensures, ap length c.back.ensures, c.go_to.ensures.bytes, c.self.invariant.gapped.fits) in
    let put = put_in go.buffer c.put.new.self xs go.front.end.chars go.back.end.chars more kept.gapped joined c.in_ok-put.ensures.back c.as_str-text.utf8 c.as_str-text.ensures.no_zero told fits in
    let side : IsSide (chars c.put.new.self.0) c.grow.new.self = subst (λ l. IsSide (chars l) c.grow.new.self) (c.as_text-front.ensures ∙ c.front-2.ensures) c.grow.ensures.side in
    kept_put go.buffer c.put.new.self go.front go.back c.grow.new.self more kept put.0 c.in_ok-put.ensures.back side (ap (λ p. p.chars) c.grow.ensures.end ∙ ap (λ n. n + more) (sym c.go_to.ensures.at))

pub returns-clause-ok : goal.returns-clause-ok
returns-clause-ok c =
    let go = c.go_to.new in
    let kept = c.go_to.ensures.kept in
    let xs = c.as_str-text.result.now in
    let more = c.count-count.result in
    let told : more ≡ length (chars xs) = c.count-count.ensures ∙ ap length (sym c.as_str-text.ensures.chars) in
    let joined : c.put.new.self.0 ≡ go.buffer.0 ++ xs = c.in_ok-put.ensures.front ∙ ap (λ l. go.buffer.0 ++ l) c.as_bytes.ensures.value in
    let fits : length go.buffer.0 + length go.buffer.1 + length xs < 4294967296 = omega (arith, c.if-len-text.false, ap length c.front.ensures, ap length c.back.ensures, c.go_to.ensures.bytes, c.self.invariant.gapped.fits) in
    let put = put_in go.buffer c.put.new.self xs go.front.end.chars go.back.end.chars more kept.gapped joined c.in_ok-put.ensures.back c.as_str-text.utf8 c.as_str-text.ensures.no_zero told fits in
    put.1 ∙ ap (λ l. l ++ (chars xs ++ chars go.buffer.1)) c.go_to.ensures.front
    ∙ ap (λ l. take c.args.at (text_of c.self.inside.buffer) ++ (chars xs ++ l)) c.go_to.ensures.back
    ∙ ap (λ l. take c.args.at (text_of c.self.inside.buffer) ++ (l ++ drop c.args.at (text_of c.self.inside.buffer))) c.as_str-text.ensures.chars
    ∙ ap (λ l. take c.args.at l ++ (c.args.more.now ++ drop c.args.at l)) c.self.view_is

pub returns-clause-counted : goal.returns-clause-counted
returns-clause-counted c =
    let go = c.go_to.new in
    let kept = c.go_to.ensures.kept in
    let xs = c.as_str-text.result.now in
    let more = c.count-count.result in
    let told : more ≡ length (chars xs) = c.count-count.ensures ∙ ap length (sym c.as_str-text.ensures.chars) in
    let joined : c.put.new.self.0 ≡ go.buffer.0 ++ xs = c.in_ok-put.ensures.front ∙ ap (λ l. go.buffer.0 ++ l) c.as_bytes.ensures.value in
    let fits : length go.buffer.0 + length go.buffer.1 + length xs < 4294967296 = omega (arith, c.if-len-text.false, ap length c.front.ensures, ap length c.back.ensures, c.go_to.ensures.bytes, c.self.invariant.gapped.fits) in
    let put = put_in go.buffer c.put.new.self xs go.front.end.chars go.back.end.chars more kept.gapped joined c.in_ok-put.ensures.back c.as_str-text.utf8 c.as_str-text.ensures.no_zero told fits in
    omega (arith, gapped_fits c.put.new.self _ _ put.0, gapped_count c.put.new.self _ _ put.0)
