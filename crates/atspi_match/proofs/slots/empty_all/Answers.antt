use Rattle.std.proofs.Common.{◌≡◌, ◌<◌, ◌≤◌, length, arith}
use Rattle.atspi_match.proofs.SlotLemmas.{clearing-start, clearing-more, clearing-end}
use Rattle.atspi_match.proofs.slots.empty_all.Goals as goal

pub loop-place-init : goal.loop-place-init
loop-place-init c = record { clearing = clearing-start c.args.slots.now.items c.args.conn; noted = c.requires }

pub empty_its-requires-clause-place : goal.empty_its-requires-clause-place
empty_its-requires-clause-place c = let l = c.loop-place.invariant.clearing.len in omega arith

pub empty_its-requires-clause-noted : goal.empty_its-requires-clause-noted
empty_its-requires-clause-noted c = c.loop-place.invariant.noted

pub loop-place-preserved : goal.loop-place-preserved
loop-place-preserved c =
    let lt : c.loop-place.place < length c.args.slots.now.items = (let l = c.loop-place.invariant.clearing.len in omega arith) in
    record {
      clearing = clearing-more c.args.slots.now.items c.loop-place.slots.items c.empty_its.new.slots.items c.args.conn c.loop-place.place lt
          c.empty_its.ensures.slots c.loop-place.invariant.clearing;
      noted = c.empty_its.ensures.noted;
    }

pub returns-clause-held : goal.returns-clause-held
returns-clause-held c =
    let past : length c.args.slots.now.items ≤ c.loop-place.place = omega arith in
    clearing-end c.args.slots.now.items c.loop-place.slots.items c.args.conn c.loop-place.place past c.loop-place.invariant.clearing

pub returns-clause-noted : goal.returns-clause-noted
returns-clause-noted c = c.loop-place.invariant.noted
