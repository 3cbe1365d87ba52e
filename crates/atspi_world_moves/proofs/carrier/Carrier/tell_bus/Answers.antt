use Rattle.std.proofs.Common.{◌≡◌, true, false, ◌∷◌, ◌++◌, List, map, refl, sym, ap, ◌∙◌, subst}
use Rattle.std.specs.Prelude.{option_to_list}
use Rattle.atspi_message.specs.Envelope.{Envelope, envelope_of}
use Rattle.atspi_script_lines.specs.declared.line.Party.TheVariants.{Registry}
use Rattle.atspi_match.specs.routing.Queues.{Bus}
use Rattle.atspi_bus_steps.specs.InnerBus.{inner_of}
use Rattle.atspi_bus_steps.specs.Sound.{IsSound}
use Rattle.atspi_trace.specs.Entry.{entries_of}
use Rattle.atspi_trace.specs.Ends.{same_party}
use Rattle.atspi_world_moves.specs.Halted.{naming_of}
use Rattle.atspi_world_moves.specs.inner.Told.{ahead, AreOthers, all_emptied, all_gone, bus_told, gone, party_in, whose}
use Rattle.atspi_world_links.proofs.Changes.{map-kept}
use Rattle.atspi_world_moves.proofs.Telling.{bus_more, closing_last, closing_more}
use Rattle.atspi_world_moves.proofs.carrier.Carrier.tell_bus.Goals as goal

pub loop-closing-preserved : goal.loop-closing-preserved
loop-closing-preserved c =
    let was = c.loop-closing in
    let inv = c.loop-closing.invariant in
    let telling = c.in-Ok.ensures in
    let closed = c.in-Ok-close.ensures in
    let closing = c.in-Some.closing in
    let x0 = inner_of was.self.bus in
    let x1 = inner_of c.closed.new.self in
    let x2 = inner_of c.tell_own.new.bus in
    let x3 = inner_of c.close.new.self.bus in
    let same : x3 ≡ x2 = ap inner_of closed.bus in
    let first : x0.closings ≡ closing ∷ x1.closings = ap (λ (x : Bus). x.closings) c.in-Some.ensures.bus in
    let rest : x3.closings ≡ x1.closings = ap (λ (x : Bus). x.closings) (same ∙ telling.bus) in
    let own : x0.own ≡ x1.own = ap (λ (x : Bus). x.own) c.in-Some.ensures.bus in
    record {
      sound = subst IsSound (sym (ap (λ (x : Bus). x.state) (same ∙ telling.bus))) (subst IsSound (ap (λ (x : Bus). x.state) c.in-Some.ensures.bus) inv.sound);
      bus = bus_more (inner_of c.own-own.new.self) x0 x1 x2 x3 closing inv.bus c.in-Some.ensures.bus telling.bus same;
      none = λ h. ap (λ (x : Bus). x.own) same ∙ telling.none h;
      parties = ap (map whose) closed.posts ∙ map-kept whose gone (λ p. refl) was.self.posts.items closing.conn ∙ inv.parties;
      names = ap (map naming_of) closed.posts ∙ map-kept naming_of gone (λ p. refl) was.self.posts.items closing.conn ∙ inv.names;
      posts = ap (λ cs. all_gone cs c.close.new.self.posts.items) rest ∙ ap (all_gone x1.closings) closed.posts ∙ ap (λ cs. all_gone cs was.self.posts.items) (sym first) ∙ inv.posts;
      given = ap (λ cs. all_emptied cs c.close.new.self.at_end.items) rest ∙ ap (all_emptied x1.closings) closed.given ∙ ap (λ cs. all_emptied cs was.self.at_end.items) (sym first) ∙ inv.given;
      told = closing_more (map whose c.args.self.now.posts.items) (map whose was.self.posts.items) closing x0.closings x3.closings (ahead was.own x0) (ahead was.own x1) (ahead c.in-Ok.next x3) was.self.trace.items
          c.tell_own.new.trace.items c.close.new.self.trace.items inv.parties (first ∙ ap (λ cs. closing ∷ cs) (sym rest)) (ap (λ (es : List Envelope). map envelope_of (option_to_list was.own) ++ es) (sym own))
          telling.told closed.told (ap (λ (x : Bus). ahead c.in-Ok.next x) same ∙ telling.next)
          (ap (λ who. same_party who Registry) (sym closed.who) ∙ sym c.is_registry.ensures ∙ c.if-is_registry.false) ∙ inv.told;
      others = λ left. inv.others (subst (AreOthers (map whose c.args.self.now.posts.items)) (sym first) (
        ap (λ l. same_party (party_in l closing.conn) Registry) (sym inv.parties) ∙ ap (λ who. same_party who Registry) (sym closed.who) ∙ sym c.is_registry.ensures ∙ c.if-is_registry.false,
        subst (AreOthers (map whose c.args.self.now.posts.items)) rest left,
      ));
      past = λ all. subst (AreOthers (map whose c.args.self.now.posts.items)) (sym rest) (subst (AreOthers (map whose c.args.self.now.posts.items)) first (inv.past all)).1;
    }

pub returns-then-is_registry-clause-lost : goal.returns-then-is_registry-clause-lost
returns-then-is_registry-clause-lost c = λ is.
    let s = c.args.self.now in
    let was = c.loop-closing in
    let inv = c.loop-closing.invariant in
    let telling = c.in-Ok.ensures in
    let closed = c.in-Ok-close.ensures in
    let closing = c.in-Some.closing in
    let parties = map whose s.posts.items in
    let x0 = inner_of was.self.bus in
    let x1 = inner_of c.closed.new.self in
    let x2 = inner_of c.tell_own.new.bus in
    let x3 = inner_of c.close.new.self.bus in
    let asked = inner_of c.own-own.new.self in
    let same : x3 ≡ x2 = ap inner_of closed.bus in
    let first : x0.closings ≡ closing ∷ x1.closings = ap (λ (x : Bus). x.closings) c.in-Some.ensures.bus in
    let rest : x3.closings ≡ x1.closings = ap (λ (x : Bus). x.closings) (same ∙ telling.bus) in
    let own : x0.own ≡ x1.own = ap (λ (x : Bus). x.own) c.in-Some.ensures.bus in
    let registry : same_party (party_in (map whose was.self.posts.items) closing.conn) Registry ≡ true =
    ap (λ who. same_party who Registry) (sym closed.who) ∙ sym c.is_registry.ensures ∙ c.if-is_registry.true in
    let told = closing_last parties (map whose was.self.posts.items) closing x0.closings x3.closings (ahead was.own x0) (ahead was.own x1) (ahead c.in-Ok.next x3) was.self.trace.items c.tell_own.new.trace.items
    c.close.new.self.trace.items inv.parties (first ∙ ap (λ cs. closing ∷ cs) (sym rest)) (ap (λ (es : List Envelope). map envelope_of (option_to_list was.own) ++ es) (sym own)) telling.told closed.told registry in
    let begun = c.own-own.ensures.bus in (
      told ∙ inv.told ∙ ap (λ (x : Bus). entries_of s.trace.items ++ bus_told parties x.own x.closings) (sym begun),
      λ others.
          let here = inv.past (subst (λ (x : Bus). AreOthers parties x.closings) begun others) in
          let other = (subst (AreOthers parties) first here).0 in
          let clash : true ≡ false = sym registry ∙ ap (λ l. same_party (party_in l closing.conn) Registry) inv.parties ∙ other in
          absurd cc,
    )

pub returns-then-is_registry-clause-names : goal.returns-then-is_registry-clause-names
returns-then-is_registry-clause-names c = λ is.
    let was = c.loop-closing in
    ap (map naming_of) c.in-Ok-close.ensures.posts ∙ map-kept naming_of gone (λ p. refl) was.self.posts.items c.in-Some.closing.conn ∙ was.invariant.names
