use Rattle.std.proofs.Common.{sym, ◌∙◌, ap, ◌++◌}
use Rattle.std.proofs.lemmas.Result.{on_ok_weaker}
use Rattle.atspi_run_replay.specs.Told.{bytes_text}
use Rattle.atspi_run_replay.specs.inner.Told.{told_at}
use Rattle.atspi_run_replay.proofs.TellLemmas.{bytes_here, not_false, not_true, tells_bytes, tells_event, tells_nothing}
use Rattle.atspi_run_replay.proofs.telling.put_event.Goals as goal

pub returns-then-not-is_told : goal.returns-then-not-is_told
returns-then-not-is_told g c =
    let w = c.args.world.now.carrier in
    let here = told_at w.posts.items w.trace.items c.args.place c.args.event.now in
    tells_nothing c.args.options here c.args.text.now (sym c.is_told.ensures ∙ c.if-not-is_told.true)

pub returns-then-not-options : goal.returns-then-not-options
returns-then-not-options g c =
    let w = c.args.world.now.carrier in
    let here = told_at w.posts.items w.trace.items c.args.place c.args.event.now in
    let is = sym c.is_told.ensures ∙ c.if-not-is_told.false in
    tells_event c.args.options here c.args.text.now c.write_event.new.out is (not_true _ c.if-not-options.true) c.in_ok-write_event.ensures.ok

pub returns : goal.returns
returns g c =
    let w = c.args.world.now.carrier in
    let here = told_at w.posts.items w.trace.items c.args.place c.args.event.now in
    let is = sym c.is_told.ensures ∙ c.if-not-is_told.false in
    let wired = not_false _ c.if-not-options.false in
    let bytes = bytes_here w.posts.items w.trace.items c.args.place c.args.event.now c.requires in
    on_ok_weaker c.put_bytes.result
    (λ b. tells_bytes c.args.options here c.args.text.now c.write_event.new.out c.put_bytes.new.text is wired c.in_ok-write_event.ensures.ok (b ∙ ap (λ x. c.write_event.new.out ++ bytes_text x) bytes))
    c.put_bytes.ensures
