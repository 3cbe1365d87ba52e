use Rattle.std.proofs.Common.{◌≡◌, ◌<◌, ◌-◌, ◌∷◌, ℕ, true, Result, Ok, Err, refl, ap, ◌∙◌, arith}
use Rattle.atspi_types.specs.Data.{Data}
use Rattle.atspi_marshal_in_place.specs.codes.TyRefs.{ref_kind}
use Rattle.atspi_marshal.specs.Faults.{entry_kind}
use Rattle.atspi_marshal.specs.Input.{aligned}
use Rattle.atspi_marshal.specs.Reading.{input_of, read, elements_at}
use Rattle.atspi_types.specs.declared.fault.Fault.{Fault}
use Rattle.atspi_marshal_in_place.specs.Known.{is_read, read_list}
use Rattle.atspi_marshal_in_place.specs.Passing.{after}
use Rattle.atspi_marshal_in_place.proofs.Opens.{element_known, elements_come, key_opened, pair_opened}
use Rattle.atspi_marshal_in_place.proofs.cursor.Entries.next.Goals as goal

known_after : (r : Result (Data × ℕ) Fault) → is_read r ≡ true → is_read (after r) ≡ true
known_after (Ok x) h = refl
known_after (Err f) h = absurd cc

pub overflow_sub-levels : goal.overflow_sub-levels
overflow_sub-levels c =
    let x = c.args.self.now in
    let i = input_of x.input in
    let one = read i x.levels (entry_kind (ref_kind x.key) (ref_kind x.value)) x.inside in
    let lt : x.at < x.inside.end = omega (arith, x.within.0, c.if-at-inside.false) in
    let here = element_known one x.inside.end x.left x.at c.if-left-eq0.false lt x.known in
    let k = key_opened i x.levels (ref_kind x.key) (ref_kind x.value) x.inside x.at (aligned 8 x.at) refl here in
    k.some

pub invariant_of-key : goal.invariant_of-key
invariant_of-key c =
    let x = c.args.self.now in
    let i = input_of x.input in
    let one = read i x.levels (entry_kind (ref_kind x.key) (ref_kind x.value)) x.inside in
    let lt : x.at < x.inside.end = omega (arith, x.within.0, c.if-at-inside.false) in
    let here = element_known one x.inside.end x.left x.at c.if-left-eq0.false lt x.known in
    let k = key_opened i x.levels (ref_kind x.key) (ref_kind x.value) x.inside x.at c.align_up-place.result c.align_up-place.ensures here in
    record { within = (k.within, x.within.1, x.within.2); known = k.known }

pub jump-between-requires : goal.jump-between-requires
jump-between-requires c =
    let x = c.args.self.now in
    let i = input_of x.input in
    let one = read i x.levels (entry_kind (ref_kind x.key) (ref_kind x.value)) x.inside in
    let lt : x.at < x.inside.end = omega (arith, x.within.0, c.if-at-inside.false) in
    let here = element_known one x.inside.end x.left x.at c.if-left-eq0.false lt x.known in
    let k = key_opened i x.levels (ref_kind x.key) (ref_kind x.value) x.inside x.at c.align_up-place.result c.align_up-place.ensures here in
    record { at = k.within; end = (x.within.1, x.within.2); known = known_after (read i (x.levels - 1) (ref_kind x.key) x.inside c.align_up-place.result) k.known }

pub invariant_of-value : goal.invariant_of-value
invariant_of-value c =
    let x = c.args.self.now in
    let i = input_of x.input in
    let one = read i x.levels (entry_kind (ref_kind x.key) (ref_kind x.value)) x.inside in
    let lt : x.at < x.inside.end = omega (arith, x.within.0, c.if-at-inside.false) in
    let here = element_known one x.inside.end x.left x.at c.if-left-eq0.false lt x.known in
    let k = key_opened i x.levels (ref_kind x.key) (ref_kind x.value) x.inside x.at c.align_up-place.result c.align_up-place.ensures here in
    let p = pair_opened i x.levels (ref_kind x.key) (ref_kind x.value) x.inside x.at c.align_up-place.result c.jump-between.result c.align_up-place.ensures here c.jump-between.ensures.place in
    record { within = (c.jump-between.ensures.within.1, x.within.1, x.within.2); known = p.known }

pub jump-next-requires : goal.jump-next-requires
jump-next-requires c =
    let x = c.args.self.now in
    let i = input_of x.input in
    let one = read i x.levels (entry_kind (ref_kind x.key) (ref_kind x.value)) x.inside in
    let lt : x.at < x.inside.end = omega (arith, x.within.0, c.if-at-inside.false) in
    let here = element_known one x.inside.end x.left x.at c.if-left-eq0.false lt x.known in
    let k = key_opened i x.levels (ref_kind x.key) (ref_kind x.value) x.inside x.at c.align_up-place.result c.align_up-place.ensures here in
    let p = pair_opened i x.levels (ref_kind x.key) (ref_kind x.value) x.inside x.at c.align_up-place.result c.jump-between.result c.align_up-place.ensures here c.jump-between.ensures.place in
    record { at = c.jump-between.ensures.within.1; end = (x.within.1, x.within.2); known = known_after (read i (x.levels - 1) (ref_kind x.value) x.inside c.jump-between.result) p.known }

pub invariant_of-self : goal.invariant_of-self
invariant_of-self c =
    let x = c.args.self.now in
    let i = input_of x.input in
    let one = read i x.levels (entry_kind (ref_kind x.key) (ref_kind x.value)) x.inside in
    let lt : x.at < x.inside.end = omega (arith, x.within.0, c.if-at-inside.false) in
    let here = element_known one x.inside.end x.left x.at c.if-left-eq0.false lt x.known in
    let k = key_opened i x.levels (ref_kind x.key) (ref_kind x.value) x.inside x.at c.align_up-place.result c.align_up-place.ensures here in
    let p = pair_opened i x.levels (ref_kind x.key) (ref_kind x.value) x.inside x.at c.align_up-place.result c.jump-between.result c.align_up-place.ensures here c.jump-between.ensures.place in
    let more = elements_come one x.inside.end x.left x.at c.jump-next.result c.if-left-eq0.false lt x.known (p.place ∙ c.jump-next.ensures.place) in
    record { within = (c.jump-next.ensures.within.1, x.within.1, x.within.2); known = more.known }

pub returns-clause-comes : goal.returns-clause-comes
returns-clause-comes c =
    let x = c.args.self.now in
    let i = input_of x.input in
    let one = read i x.levels (entry_kind (ref_kind x.key) (ref_kind x.value)) x.inside in
    let lt : x.at < x.inside.end = omega (arith, x.within.0, c.if-at-inside.false) in
    let here = element_known one x.inside.end x.left x.at c.if-left-eq0.false lt x.known in
    let k = key_opened i x.levels (ref_kind x.key) (ref_kind x.value) x.inside x.at c.align_up-place.result c.align_up-place.ensures here in
    let p = pair_opened i x.levels (ref_kind x.key) (ref_kind x.value) x.inside x.at c.align_up-place.result c.jump-between.result c.align_up-place.ensures here c.jump-between.ensures.place in
    let more = elements_come one x.inside.end x.left x.at c.jump-next.result c.if-left-eq0.false lt x.known (p.place ∙ c.jump-next.ensures.place) in
    more.data_is ∙ ap (λ (d : Data). d ∷ read_list (elements_at one x.inside.end (x.left - 1) c.jump-next.result)) p.data_is

pub returns-clause-levels : goal.returns-clause-levels
returns-clause-levels c =
    let x = c.args.self.now in
    let i = input_of x.input in
    let one = read i x.levels (entry_kind (ref_kind x.key) (ref_kind x.value)) x.inside in
    let lt : x.at < x.inside.end = omega (arith, x.within.0, c.if-at-inside.false) in
    let here = element_known one x.inside.end x.left x.at c.if-left-eq0.false lt x.known in
    let k = key_opened i x.levels (ref_kind x.key) (ref_kind x.value) x.inside x.at (aligned 8 x.at) refl here in
    (omega (arith, k.some), omega (arith, k.some), refl, omega (arith, c.if-left-eq0.false))
