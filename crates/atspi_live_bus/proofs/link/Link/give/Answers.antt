use Rattle.std.proofs.Common.{rules, ◌≡◌, ◌<◌, ◌≤◌, ℕ, true, false, List, ◌++◌, length, take, drop, sym, ap, subst, ◌∙◌, inl, inr, append-nil, arith}
use Rattle.std.proofs.lemmas.List.{length-append, take-append-drop}
use Rattle.atspi_live_host.specs.declared.call.Did.TheVariants.{Done, NotYet, Failed}
use Rattle.atspi_bus.specs.View.{bus_of}
use Rattle.atspi_live_bus.specs.inner.Rounds.{Does}
use Rattle.atspi_live_bus.specs.inner.Seats.{HasSent}
use Rattle.atspi_live_bus.specs.Turns.{Converses}
use Rattle.atspi_live_bus.specs.inner.Turns.{Carries}
use Rattle.atspi_live_bus.proofs.Calling.{carries_write}
use Rattle.atspi_live_bus.proofs.Conversing.{given_on}
use Rattle.atspi_live_bus.proofs.Giving.{sent_lost, sent_some}
use Rattle.atspi_live_bus.proofs.Fetching.{front_of, gives_of}
use Rattle.atspi_live_bus.proofs.link.Link.give.Goals as goal

within : (items front rest : List ℕ) (n : ℕ) → items ≡ front ++ rest → n ≤ length front → n ≤ length items
within items front rest n e h = omega (arith, h, ap (λ (w : List ℕ). length w) e, length-append front rest)

-- a front of what waits and the rest of it
part : (items front rest out : List ℕ) (n : ℕ) → items ≡ front ++ rest → n ≤ length front → out ≡ drop n items → take n front ++ out ≡ items
part items front rest out n e h o =
    ap (λ (w : List ℕ). take n front ++ w) o ∙ ap (λ (w : List ℕ). w ++ drop n items) (front_of items front rest n e h) ∙ take-append-drop n items

pub gave-requires : goal.gave-requires
gave-requires g c = within c.fill.new.self.out.items c.front.result.now c.front.ensures.front.0 c.in-Done.n c.front.ensures.front.1 c.in-Done.ensures.within.1

pub returns-in-Done-clause-ok : goal.returns-in-Done-clause-ok
returns-in-Done-clause-ok g c =
    gives_of c.args.self.now.conn c.args.self.now.number (g.H.Host.calls c.args.host.now) (g.H.Host.calls c.write.new.self) (bus_of c.args.bus.now) (bus_of c.fill.new.bus) c.args.self.now c.fill.new.self c.gave.new.self c.in_default.ensures.ok
    (λ m h. subst (λ (k : ℕ). Carries k (g.H.Host.calls c.args.host.now) (g.H.Host.calls c.write.new.self) (Converses m h c.fill.new.self) (Converses m h c.gave.new.self)) c.fill.ensures.number
    (carries_write c.fill.new.self.number (g.H.Host.calls c.args.host.now) (g.H.Host.calls c.write.new.self) c.front.result.now (Done c.in-Done.n) (Converses m h c.fill.new.self) (Converses m h c.gave.new.self) c.in-Done.ensures.calls
    (λ t s v. given_on m h (take c.in-Done.n c.front.result.now) c.fill.new.self c.gave.new.self t s
    (part c.fill.new.self.out.items c.front.result.now c.front.ensures.front.0 c.gave.new.self.out.items c.in-Done.n c.front.ensures.front.1 c.in-Done.ensures.within.1 c.gave.ensures.out) c.gave.ensures.server c.gave.ensures.feeder v)))

pub returns-in-NotYet-clause-ok : goal.returns-in-NotYet-clause-ok
returns-in-NotYet-clause-ok g c =
    gives_of c.args.self.now.conn c.args.self.now.number (g.H.Host.calls c.args.host.now) (g.H.Host.calls c.write.new.self) (bus_of c.args.bus.now) (bus_of c.fill.new.bus) c.args.self.now c.fill.new.self c.fill.new.self c.in_default.ensures.ok
    (λ m h. subst (λ (k : ℕ). Carries k (g.H.Host.calls c.args.host.now) (g.H.Host.calls c.write.new.self) (Converses m h c.fill.new.self) (Converses m h c.fill.new.self)) c.fill.ensures.number
    (carries_write c.fill.new.self.number (g.H.Host.calls c.args.host.now) (g.H.Host.calls c.write.new.self) c.front.result.now NotYet (Converses m h c.fill.new.self) (Converses m h c.fill.new.self) c.in-NotYet.ensures.calls
    (λ t s v. subst (λ (w : List ℕ). Converses m h c.fill.new.self t w) (sym (append-nil s)) v)))

pub returns-in-End-clause-ok : goal.returns-in-End-clause-ok
returns-in-End-clause-ok g c = elim c.in-End.is [
  | inl e ↦ absurd (c.write.ensures.no_end e)
  | inr e ↦
      gives_of c.args.self.now.conn c.args.self.now.number (g.H.Host.calls c.args.host.now) (g.H.Host.calls c.write.new.self) (bus_of c.args.bus.now) (bus_of c.fill.new.bus) c.args.self.now c.fill.new.self c.fill.new.self c.in_default.ensures.ok
      (λ m h. subst (λ (k : ℕ). Carries k (g.H.Host.calls c.args.host.now) (g.H.Host.calls c.write.new.self) (Converses m h c.fill.new.self) (Converses m h c.fill.new.self)) c.fill.ensures.number
      (carries_write c.fill.new.self.number (g.H.Host.calls c.args.host.now) (g.H.Host.calls c.write.new.self) c.front.result.now Failed (Converses m h c.fill.new.self) (Converses m h c.fill.new.self) (rw e at c.write.ensures.calls)
      (λ t s v. subst (λ (w : List ℕ). Converses m h c.fill.new.self t w) (sym (append-nil s)) v)))
]

pub returns-in-Done-clause-calls : goal.returns-in-Done-clause-calls
returns-in-Done-clause-calls g c =
    let some : 0 < length c.front.result.now = search rules in
    subst (λ (k : ℕ). Does (g.H.Host.calls c.args.host.now) (g.H.Host.calls c.write.new.self) (HasSent k true (bus_of c.fill.new.bus) c.gave.new.self)) c.fill.ensures.number
    (sent_some c.fill.new.self.number (bus_of c.fill.new.bus) c.gave.new.self c.front.result.now c.front.ensures.front.0 (Done c.in-Done.n) (g.H.Host.calls c.args.host.now) (g.H.Host.calls c.write.new.self) some c.front.ensures.few
    (part c.fill.new.self.out.items c.front.result.now c.front.ensures.front.0 c.gave.new.self.out.items c.in-Done.n c.front.ensures.front.1 c.in-Done.ensures.within.1 c.gave.ensures.out ∙ c.front.ensures.front.1) tt c.in-Done.ensures.calls)

pub returns-in-NotYet-clause-calls : goal.returns-in-NotYet-clause-calls
returns-in-NotYet-clause-calls g c =
    let some : 0 < length c.front.result.now = search rules in
    subst (λ (k : ℕ). Does (g.H.Host.calls c.args.host.now) (g.H.Host.calls c.write.new.self) (HasSent k true (bus_of c.fill.new.bus) c.fill.new.self)) c.fill.ensures.number
    (sent_some c.fill.new.self.number (bus_of c.fill.new.bus) c.fill.new.self c.front.result.now c.front.ensures.front.0 NotYet (g.H.Host.calls c.args.host.now) (g.H.Host.calls c.write.new.self) some c.front.ensures.few c.front.ensures.front.1 tt c.in-NotYet.ensures.calls)

pub returns-in-End-clause-calls : goal.returns-in-End-clause-calls
returns-in-End-clause-calls g c =
    let some : 0 < length c.front.result.now = search rules in
    elim c.in-End.is [
      | inl e ↦ absurd (c.write.ensures.no_end e)
      | inr e ↦
          subst (λ (k : ℕ). Does (g.H.Host.calls c.args.host.now) (g.H.Host.calls c.write.new.self) (HasSent k false (bus_of c.fill.new.bus) c.fill.new.self)) c.fill.ensures.number
          (sent_lost c.fill.new.self.number (bus_of c.fill.new.bus) c.fill.new.self c.front.result.now c.front.ensures.front.0 (g.H.Host.calls c.args.host.now) (g.H.Host.calls c.write.new.self) some c.front.ensures.few c.front.ensures.front.1 (rw e at c.write.ensures.calls))
    ]
