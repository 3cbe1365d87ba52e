use Rattle.std.proofs.Common.{inr, [], codes, refl, sym, append-nil, arith}
use Rattle.atspi_trace.specs.Causes.{calls, exits}
use Rattle.atspi_trace.specs.Work.{doing, resting}
use Rattle.atspi_trace.specs.play.Breaking.{so_far}
use Rattle.atspi_trace.specs.play.Playing.{silent}
use Rattle.atspi_trace.specs.play.Plays.{plays}
use Rattle.atspi_protocol.specs.following.Takes.{reader_calls}
use Rattle.atspi_examples.specs.Players.{at_rest, caret, holder, playing, resting_world}
use Rattle.atspi_examples.proofs.broken.ends.Goals as goal

pub returns-clause-spent : goal.returns-clause-spent
returns-clause-spent c = λ b.
    let s = record holder { next = 4294967296 } in
    let p = playing (resting_world b []) s in
    let call = calls 4 (codes ":1.1") 1 caret in
    record {
      at = record { entries = []; now = p; last = doing call; done = so_far p (doing call); lives = refl; moved = p.world; rest = resting; next = call; is_next = refl };
      spent = inr (inr (1, silent (reader_calls s (codes ":1.1") 1 caret), refl, omega arith));
      part = [];
      missing = (plays p call).entries;
      front = refl;
      wrote = refl;
    }

pub returns-clause-written : goal.returns-clause-written
returns-clause-written c = λ b.
    let s = record holder { next = 4294967296 } in
    let p = playing (resting_world b []) s in
    let call = calls 4 (codes ":1.1") 1 caret in
    record {
      at = record { entries = []; now = p; last = doing call; done = so_far p (doing call); lives = refl; moved = p.world; rest = resting; next = call; is_next = refl };
      spent = inr (inr (1, silent (reader_calls s (codes ":1.1") 1 caret), refl, omega arith));
      part = (plays p call).entries;
      missing = [];
      front = sym (append-nil (plays p call).entries);
      wrote = refl;
    }

pub returns-clause-lost : goal.returns-clause-lost
returns-clause-lost c = λ b.
    let p = at_rest b in
    record { at = record { entries = []; now = p; last = doing (exits 0); done = so_far p (doing (exits 0)); lives = refl; moved = p.world; rest = resting; next = exits 0; is_next = refl }; lost = refl; wrote = refl }
