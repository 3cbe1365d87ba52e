use Rattle.std.proofs.Common.{◌≡◌, ◌<◌, ℕ, List, ◌∷◌, length, take, drop, ◌+◌, add-one, arith}
use Rattle.std.proofs.lemmas.List.{drop_all, take_all}
use Rattle.atspi_live_app.specs.Lines.{lines_of}
use Rattle.atspi_live_app.proofs.Feeds.{NoFeed, at_feed, last_line}
use Rattle.atspi_live_app.proofs.lines.line_end.Goals as goal

pub returns-then-b-eq10-clause-first : goal.returns-then-b-eq10-clause-first
returns-then-b-eq10-clause-first c = rw add-one (at_feed c.args.text.now c.loop-i.i (omega arith) c.loop-i.invariant c.if-b-eq10.true)

last : (xs : List ℕ) → 0 < length xs → NoFeed xs (length xs) → lines_of xs ≡ take (length xs) xs ∷ lines_of (drop (length xs + 1) xs)
last xs h none = rw (take_all (length xs) xs (omega arith), drop_all (length xs + 1) xs (omega arith)) (last_line xs none h)

pub returns-clause-first : goal.returns-clause-first
returns-clause-first c = last c.args.text.now (omega arith) (λ k l. c.loop-i.invariant k (omega arith))
