use Rattle.std.proofs.Common.{◌-◌, reverse, arith}
use Rattle.atspi_faces.proofs.SideLemmas.{mirrored, noted_wider, put_noted}
use Rattle.atspi_faces.proofs.side.spill.Goals as goal

pub loop-place-preserved : goal.loop-place-preserved
loop-place-preserved c = λ text upto le is.
    let before = c.loop-place.invariant text upto le is in
    let n = before.0 in
    let s = before.1.1 in
    let p = c.in-Some.ensures.noted text n s.held in
    let total = c.args.total in
    let place = c.in-Some.place in
    let other = c.without.result in (
      place.chars,
      (
        omega (arith, p.0),
        record {
          counted = s.counted;
          sized = s.sized;
          within = omega (arith, p.1, s.within);
          held = p.3;
          given = put_noted (reverse text) (total.chars - place.chars) other _ _ (omega (arith, c.without.ensures.chars)) (mirrored text total place other s.counted s.sized p.2 c.without.ensures.chars c.without.ensures.bytes) (noted_wider (reverse text) (total.chars - n) other.chars _ (omega (arith, p.1, c.without.ensures.chars)) s.given) c.put.ensures;
        },
      ),
    )

pub returns : goal.returns
returns c = λ text upto le is.
    let before = c.loop-place.invariant text upto le is in
    let n = before.0 in
    let s = before.1.1 in
    let total = c.args.total in
    record {
      counted = s.counted;
      sized = s.sized;
      within = omega (arith, before.1.0, s.within);
      held = c.in_default.ensures.noted text n s.held;
      given = noted_wider (reverse text) (total.chars - n) (total.chars - c.args.at) _ (omega (arith, before.1.0)) s.given;
    }
