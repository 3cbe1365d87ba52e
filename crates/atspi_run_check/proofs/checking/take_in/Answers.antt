use Rattle.std.proofs.Common.{◌≡◌, ℕ, ◌<◌, ◌≤◌, List, length, take, Some, None, refl, sym, subst, ◌∙◌, arith, rules, lit≤}
use Rattle.atspi_run_check.proofs.CheckLemmas.{taking_none, took_failed, took_whole, took_nothing, took_more, took_part, a_piece, no_rest, some_rest}
use Rattle.atspi_run_check.proofs.checking.take_in.Goals as goal

pub pieces-init : goal.pieces-init
pieces-init g c = record {
  taking = taking_none (g.S.Source.left c.args.source.now) c.args.feeder.now (g.K.Sink.written c.args.sink.now) c.requires;
  within = lit≤ tt;
  source = refl;
  sink = refl;
  piece = refl;
  none_waits = c.new-out.ensures;
}

pub returns-in_default-clause-taken : goal.returns-in_default-clause-taken
returns-in_default-clause-taken g c =
    took_failed (g.S.Source.left c.args.source.now) (g.S.Source.left c.pieces.source) (g.S.Source.left c.read.new.self) c.pieces.feeder c.pieces.fed (g.K.Sink.written c.args.sink.now) (g.K.Sink.written c.pieces.sink)
    c.pieces.invariant.taking c.in_default.ensures.bytes

pub returns-then-n-eq0-clause-taken : goal.returns-then-n-eq0-clause-taken
returns-then-n-eq0-clause-taken g c =
    took_whole (g.S.Source.left c.args.source.now) (g.S.Source.left c.pieces.source) (g.S.Source.left c.read.new.self) c.pieces.feeder c.pieces.fed c.read.new.into c.in-Ok.n (g.K.Sink.written c.args.sink.now) (g.K.Sink.written c.pieces.sink)
    c.pieces.invariant.taking c.if-n-eq0.true c.in-Ok.ensures.bytes.0 (c.in-Ok.ensures.bytes.1 c.if-n-eq0.true (first_of (omega arith, search rules)))

pub returns-in_default-feed-clause-taken : goal.returns-in_default-feed-clause-taken
returns-in_default-feed-clause-taken g c =
    took_nothing (g.S.Source.left c.args.source.now) (g.S.Source.left c.pieces.source) (g.S.Source.left c.read.new.self) c.pieces.feeder c.pieces.fed (take c.in-Ok.n c.read.new.into) (g.K.Sink.written c.args.sink.now) (g.K.Sink.written c.pieces.sink)
    c.pieces.invariant.taking c.in-Ok.ensures.bytes.0

pub returns-in-Ok-Some-clause-taken : goal.returns-in-Ok-Some-clause-taken
returns-in-Ok-Some-clause-taken g c =
    let x = a_piece (g.S.Source.left c.args.source.now) (g.S.Source.left c.pieces.source) (g.S.Source.left c.read.new.self) c.pieces.feeder c.feed.new.self c.pieces.fed c.min-taken.result c.in-Ok.n c.read.new.into (g.K.Sink.written c.args.sink.now) (g.K.Sink.written c.pieces.sink)
    c.pieces.invariant.taking c.in-Ok.ensures.bytes.0 c.min-taken.ensures (first_of (omega arith, search rules)) c.in-Ok-feed.ensures.ok
    in
    let told = rw c.in-Ok-Some.field-0-is at c.in-Ok-Some.ensures.ok in
    let t = took_more (Some c.in-Ok-Some.fault) (g.S.Source.left c.args.source.now) (g.S.Source.left c.pieces.source) (g.S.Source.left c.read.new.self) c.pieces.feeder c.feed.new.self c.show_whole.new.feeder c.pieces.fed c.min-taken.result c.in-Ok.n c.read.new.into
    (g.K.Sink.written c.args.sink.now) (g.K.Sink.written c.pieces.sink) (g.K.Sink.written c.show_whole.new.sink) x told
    in
    (t.0, told.end)

pub returns-in-Err-clause-taken : goal.returns-in-Err-clause-taken
returns-in-Err-clause-taken g c =
    let x = a_piece (g.S.Source.left c.args.source.now) (g.S.Source.left c.pieces.source) (g.S.Source.left c.read.new.self) c.pieces.feeder c.feed.new.self c.pieces.fed c.min-taken.result c.in-Ok.n c.read.new.into (g.K.Sink.written c.args.sink.now) (g.K.Sink.written c.pieces.sink)
    c.pieces.invariant.taking c.in-Ok.ensures.bytes.0 c.min-taken.ensures (first_of (omega arith, search rules)) c.in-Ok-feed.ensures.ok
    in
    took_part (g.S.Source.left c.args.source.now) (g.S.Source.left c.pieces.source) (g.S.Source.left c.read.new.self) c.pieces.feeder c.feed.new.self c.pieces.fed c.min-taken.result c.in-Ok.n c.read.new.into
    (g.K.Sink.written c.args.sink.now) (g.K.Sink.written c.pieces.sink) (g.K.Sink.written c.show_whole.new.sink) x c.in-Err.ensures.err

pub returns-then-taken-n-clause-taken : goal.returns-then-taken-n-clause-taken
returns-then-taken-n-clause-taken g c =
    let long : c.in-Ok.n ≤ length c.read.new.into = first_of (omega arith, search rules) in
    let x = a_piece (g.S.Source.left c.args.source.now) (g.S.Source.left c.pieces.source) (g.S.Source.left c.read.new.self) c.pieces.feeder c.feed.new.self c.pieces.fed c.min-taken.result c.in-Ok.n c.read.new.into (g.K.Sink.written c.args.sink.now) (g.K.Sink.written c.pieces.sink)
    c.pieces.invariant.taking c.in-Ok.ensures.bytes.0 c.min-taken.ensures long c.in-Ok-feed.ensures.ok
    in
    let told = rw c.in-Ok-None.field-0-is at c.in-Ok-None.ensures.ok in
    let t = took_more None (g.S.Source.left c.args.source.now) (g.S.Source.left c.pieces.source) (g.S.Source.left c.read.new.self) c.pieces.feeder c.feed.new.self c.show_whole.new.feeder c.pieces.fed c.min-taken.result c.in-Ok.n c.read.new.into
    (g.K.Sink.written c.args.sink.now) (g.K.Sink.written c.pieces.sink) (g.K.Sink.written c.show_whole.new.sink) x told
    in (
      t.0,
      subst (λ (bs : List ℕ). 0 < length bs) (sym t.1) (some_rest c.read.new.into c.in-Ok.n c.min-taken.result c.if-taken-n.true long),
      omega (arith, c.min-taken.ensures, c.if-taken-n.true, c.pieces.invariant.within),
      told.end,
    )

pub pieces-preserved : goal.pieces-preserved
pieces-preserved g c =
    let long : c.in-Ok.n ≤ length c.read.new.into = first_of (omega arith, search rules) in
    let x = a_piece (g.S.Source.left c.args.source.now) (g.S.Source.left c.pieces.source) (g.S.Source.left c.read.new.self) c.pieces.feeder c.feed.new.self c.pieces.fed c.min-taken.result c.in-Ok.n c.read.new.into (g.K.Sink.written c.args.sink.now) (g.K.Sink.written c.pieces.sink)
    c.pieces.invariant.taking c.in-Ok.ensures.bytes.0 c.min-taken.ensures long c.in-Ok-feed.ensures.ok
    in
    let told = rw c.in-Ok-None.field-0-is at c.in-Ok-None.ensures.ok in
    let t = took_more None (g.S.Source.left c.args.source.now) (g.S.Source.left c.pieces.source) (g.S.Source.left c.read.new.self) c.pieces.feeder c.feed.new.self c.show_whole.new.feeder c.pieces.fed c.min-taken.result c.in-Ok.n c.read.new.into
    (g.K.Sink.written c.args.sink.now) (g.K.Sink.written c.pieces.sink) (g.K.Sink.written c.show_whole.new.sink) x told
    in
    let whole : c.min-taken.result ≡ c.in-Ok.n = omega (arith, c.min-taken.ensures, c.if-taken-n.false) in
    record {
      taking = record { took = t.0; none = t.1 ∙ no_rest c.read.new.into c.in-Ok.n c.min-taken.result whole long; awaits = told.end };
      within = omega (arith, c.min-taken.ensures, c.pieces.invariant.within);
      source = c.in-Ok.ensures.cause.1 ∙ c.pieces.invariant.source;
      sink = c.in-Ok-None.ensures.cause ∙ c.pieces.invariant.sink;
      piece = first_of (omega arith, search rules);
      none_waits = c.in-Ok-None.ensures.none_waits;
    }
