use Rattle.std.proofs.Common.{◌+◌, chars, arith}
use Rattle.std.specs.Result.{is_ok}
use Rattle.atspi_faces.specs.Sides.{IsPlace}
use Rattle.atspi_faces.specs.declared.side.Place.{Place}
use Rattle.atspi_faces.proofs.SideLemmas.{place_of_cut, noted_wider, put_noted, pushed}
use Rattle.atspi_faces.proofs.side.note.Goals as goal

pub loop-last-preserved : goal.loop-last-preserved
loop-last-preserved c =
    let cs = chars c.args.text.now in
    let before = c.loop-last.last.chars in
    let next : Place = record { chars = before + 256; bytes = c.further.result } in
    let is : IsPlace cs next = place_of_cut c.args.text.now next c.utf8.text (omega (arith, c.requires.counted, c.loop-last-test.true, c.loop-last.invariant.0.within)) c.further.ensures in
    (is, put_noted cs (before + 256) next _ _ (omega arith) is (noted_wider cs before (before + 256) _ (omega arith) c.loop-last.invariant.1) (pushed (is_ok c.push.result) _ _ next c.push.ensures.items))

pub returns : goal.returns
returns c = noted_wider (chars c.args.text.now) c.loop-last.last.chars c.args.count _ (omega (arith, c.loop-last.invariant.0.within, c.requires.counted)) c.loop-last.invariant.1
