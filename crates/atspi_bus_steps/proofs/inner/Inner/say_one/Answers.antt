use Rattle.std.proofs.Common.{◌≡◌, ◌+◌, ◌++◌, ◌∷◌, [], false, List, map, refl, sym, ap, ◌∙◌}
use Rattle.std.specs.Prelude.{Result, Ok, Err, is_ok, is_err, if◌then◌else◌}
use Rattle.std.proofs.lemmas.List.{map-append}
use Rattle.atspi_message.specs.Envelope.{Envelope, envelope_of}
use Rattle.atspi_match.specs.routing.Queues.{Bus}
use Rattle.atspi_bus_steps.specs.InnerBus.{inner_of}
use Rattle.atspi_bus_steps.proofs.Said.{one_said}
use Rattle.atspi_bus_steps.proofs.inner.Inner.say_one.Goals as goal

pushed : {T E A : Type 0} (r : Result T E) (x y : A) → is_err r ≡ false → (if is_ok r then x else y) ≡ x
pushed (Ok t) x y e = refl
pushed (Err t) x y e = absurd cc

pub returns-clause-ok : goal.returns-clause-ok
returns-clause-ok c =
    let first = inner_of c.args.self.now in
    let handed = inner_of c.hand.new.self in
    let message = record c.args.message { serial = c.args.self.now.next } in
    let with_own : List Envelope → Bus → Bus = λ own b. record b { state = record b.state { next = b.state.next + 1 }; own = own } in
    let items = c.push_back.ensures.items ∙ pushed c.push_back.result (c.hand.new.self.own.items ++ message ∷ []) c.hand.new.self.own.items (sym c.is_err.ensures.value ∙ c.if-is_err.false) in
    ap (λ own. with_own own handed) (ap (map envelope_of) items ∙ map-append envelope_of c.hand.new.self.own.items (message ∷ []))
    ∙ ap (λ (b : Bus). with_own (b.own ++ envelope_of message ∷ []) b) c.in_ok-hand.ensures.ok
    ∙ one_said first (envelope_of c.args.message)
