use Rattle.std.proofs.Common.{◌≡◌, ◌+◌, [], ◌∷◌, ◌++◌, arith, take}
use Rattle.std.proofs.lemmas.List.{take_rest}
use Rattle.std.specs.List.{flat_map}
use Rattle.atspi_base.specs.Quoted.{escaped}
use Rattle.atspi_base.proofs.QuotedLemmas.{run_written, byte_written}
use Rattle.atspi_base.proofs.quoted.write_in_quotes.Goals as goal

pub loop-at-preserved-then-at-bytes : goal.loop-at-preserved-then-at-bytes
loop-at-preserved-then-at-bytes c =
    let bytes = c.args.bytes.now in
    let before = c.args.out.now ++ 34 ∷ [] in
    let next = c.loop-at.at + c.plain_front-plain.result in
    let plain = rw (take_rest bytes c.loop-at.at) at c.plain_front-plain.ensures.plain in
    let run : c.extend.new.self ≡ before ++ flat_map escaped (take next bytes) = run_written bytes c.loop-at.out c.extend.new.self before c.loop-at.at c.plain_front-plain.result plain c.in_ok-extend.ensures.ok c.loop-at.invariant.written in
    record {
      written = byte_written bytes c.extend.new.self c.put_byte.new.out before next (omega arith) c.in_ok-put_byte.ensures.ok run;
      within = omega arith;
    }

pub loop-at-preserved : goal.loop-at-preserved
loop-at-preserved c =
    let bytes = c.args.bytes.now in
    let plain = rw (take_rest bytes c.loop-at.at) at c.plain_front-plain.ensures.plain in
    record {
      written = run_written bytes c.loop-at.out c.extend.new.self (c.args.out.now ++ 34 ∷ []) c.loop-at.at c.plain_front-plain.result plain c.in_ok-extend.ensures.ok c.loop-at.invariant.written;
      within = omega (arith, c.plain_front-plain.ensures.within);
    }
