use Rattle.std.proofs.Common.{◌+◌, ◌≤◌, ◌∷◌, [], List, map, length, sym, ap, ◌∙◌, subst, arith}
use Rattle.std.specs.List.{All}
use Rattle.std.proofs.lemmas.List.{map-append, length-map}
use Rattle.std.proofs.lemmas.Result.{on_ok_weaker}
use Rattle.atspi_message.specs.Envelope.{Envelope, envelope_of}
use Rattle.atspi_match.specs.routing.BusState.{BusState}
use Rattle.atspi_match.specs.routing.Steps.{speaks}
use Rattle.atspi_match.specs.routing.Queues.{Bus, stepped}
use Rattle.atspi_bus_steps.specs.InnerBus.{inner_of, call_of}
use Rattle.atspi_bus_steps.specs.Farewell.{forgotten}
use Rattle.atspi_bus_steps.specs.Sayable.{MaySay}
use Rattle.atspi_bus_steps.specs.Sound.{IsReady, IsSound}
use Rattle.atspi_bus_steps.proofs.Partings.{told-parting, say-parting, left-named, sound-forgotten, sound-next, le_more}
use Rattle.atspi_bus_steps.proofs.Ends.{on_ok_both}
use Rattle.atspi_bus_steps.proofs.inner.Inner.part.Goals as goal

pub say-requires-clause-ready : goal.say-requires-clause-ready
say-requires-clause-ready c =
    subst IsReady (sym (ap (λ (b : Bus). b.state) c.forget.ensures)) (sound-forgotten (inner_of c.args.self.now) c.args.conn c.requires.sound).ready

pub say-requires-clause-sayable : goal.say-requires-clause-sayable
say-requires-clause-sayable c =
    let b = inner_of c.args.self.now in
    let conn = c.args.conn in
    let unique = c.args.unique.now in
    let told = told-parting b conn unique (map envelope_of c.new-told.result.items) (map envelope_of c.tell_callers.new.told.items)
    (map envelope_of c.tell_names.new.told.items) (map envelope_of c.push.new.self.items) (envelope_of c.in_ok-owner_changed.field-0) (map call_of c.deref.result.now) c.forget.new.self.names c.as_slice.result.now
    (ap (map envelope_of) c.new-told.ensures.items) c.in_ok-tell_callers.ensures.ok c.in_ok-tell_names.ensures
    (ap (map envelope_of) c.in_ok-push.ensures.items ∙ map-append envelope_of c.tell_names.new.told.items (c.in_ok-owner_changed.field-0 ∷ []))
    c.in_ok-owner_changed.ensures (ap (map call_of) c.deref.ensures.value) (ap (λ (x : Bus). x.state.owners) c.forget.ensures) (c.as_slice.ensures ∙ c.in_ok-owned.ensures) in
    subst (All MaySay) (sym told) (say-parting b conn unique c.requires.sound)

pub returns-clause-ok : goal.returns-clause-ok
returns-clause-ok c =
    let b = inner_of c.args.self.now in
    let conn = c.args.conn in
    let unique = c.args.unique.now in
    let told = told-parting b conn unique (map envelope_of c.new-told.result.items) (map envelope_of c.tell_callers.new.told.items)
    (map envelope_of c.tell_names.new.told.items) (map envelope_of c.push.new.self.items) (envelope_of c.in_ok-owner_changed.field-0) (map call_of c.deref.result.now) c.forget.new.self.names c.as_slice.result.now
    (ap (map envelope_of) c.new-told.ensures.items) c.in_ok-tell_callers.ensures.ok c.in_ok-tell_names.ensures
    (ap (map envelope_of) c.in_ok-push.ensures.items ∙ map-append envelope_of c.tell_names.new.told.items (c.in_ok-owner_changed.field-0 ∷ []))
    c.in_ok-owner_changed.ensures (ap (map call_of) c.deref.ensures.value) (ap (λ (x : Bus). x.state.owners) c.forget.ensures) (c.as_slice.ensures ∙ c.in_ok-owned.ensures) in
    on_ok_weaker c.say.result
    (λ is. is ∙ ap (λ (x : Bus). stepped x (speaks x.state (map envelope_of c.push.new.self.items))) c.forget.ensures
    ∙ ap (λ (t : List Envelope). stepped (forgotten b conn) (speaks (forgotten b conn).state t)) told ∙ left-named b conn unique c.requires.named)
    c.say.ensures.ok

pub returns-clause-sound : goal.returns-clause-sound
returns-clause-sound c =
    let b = inner_of c.args.self.now in
    let conn = c.args.conn in
    on_ok_both c.say.result
    (λ is ready.
    let same = ap (λ (x : Bus). x.state) (is ∙ ap (λ (x : Bus). stepped x (speaks x.state (map envelope_of c.push.new.self.items))) c.forget.ensures) in
    let n = b.state.next + length (map envelope_of c.push.new.self.items) in
    subst IsSound (sym same)
    (sound-next (forgotten b conn).state n (sound-forgotten b conn c.requires.sound) (le_more b.state.next (length (map envelope_of c.push.new.self.items)))
    (subst (λ (x : BusState). x.next ≤ 4294967296) same ready.last)))
    c.say.ensures.ok c.say.ensures.ready

pub returns-clause-spent : goal.returns-clause-spent
returns-clause-spent c e =
    let b = inner_of c.args.self.now in
    let conn = c.args.conn in
    let unique = c.args.unique.now in
    let told = told-parting b conn unique (map envelope_of c.new-told.result.items) (map envelope_of c.tell_callers.new.told.items)
    (map envelope_of c.tell_names.new.told.items) (map envelope_of c.push.new.self.items) (envelope_of c.in_ok-owner_changed.field-0) (map call_of c.deref.result.now) c.forget.new.self.names c.as_slice.result.now
    (ap (map envelope_of) c.new-told.ensures.items) c.in_ok-tell_callers.ensures.ok c.in_ok-tell_names.ensures
    (ap (map envelope_of) c.in_ok-push.ensures.items ∙ map-append envelope_of c.tell_names.new.told.items (c.in_ok-owner_changed.field-0 ∷ []))
    c.in_ok-owner_changed.ensures (ap (map call_of) c.deref.ensures.value) (ap (λ (x : Bus). x.state.owners) c.forget.ensures) (c.as_slice.ensures ∙ c.in_ok-owned.ensures) in
    let over = c.say.ensures.spent e in
    let next = ap (λ (x : Bus). x.state.next) c.forget.ensures in
    let len = length-map c.push.new.self.items envelope_of in
    let all = ap (λ (x : Bus). x.state.next) (ap (λ (t : List Envelope). stepped (forgotten b conn) (speaks (forgotten b conn).state t)) told ∙ left-named b conn unique c.requires.named) in
    omega arith
