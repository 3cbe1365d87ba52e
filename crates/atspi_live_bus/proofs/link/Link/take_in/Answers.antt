use Rattle.std.proofs.Common.{◌≤◌, [], length, take, true, false, refl, inl, inr, arith}
use Rattle.std.proofs.lemmas.List.{length-take}
use Rattle.atspi_live_host.specs.declared.call.Did.TheVariants.{NotYet, End, Failed}
use Rattle.atspi_live_bus.proofs.Conversing.{speech_more, speech_of}
use Rattle.atspi_live_bus.proofs.Giving.{has_read, read_either, still_there}
use Rattle.atspi_live_bus.proofs.link.Link.take_in.Goals as goal

pub returns-in-Done-clause-calls : goal.returns-in-Done-clause-calls
returns-in-Done-clause-calls g c =
    let few : length (take c.in-Done.n c.read.new.into) ≤ 4096 = omega (arith, length-take c.in-Done.n c.read.new.into, c.in-Done.ensures.within.1, c.read.auto.into) in
    read_either c.hear.result c.args.self.now.number c.args.self.now c.hear.new.self (take c.in-Done.n c.read.new.into) c.in-Done.n (g.H.Host.calls c.args.host.now) (g.H.Host.calls c.read.new.self) few c.hear.ensures.ok c.in-Done.ensures.calls

pub returns-in-NotYet-clause-calls : goal.returns-in-NotYet-clause-calls
returns-in-NotYet-clause-calls g c =
    has_read c.args.self.now.number true c.args.self.now c.args.self.now [] NotYet (g.H.Host.calls c.args.host.now) (g.H.Host.calls c.read.new.self) (omega arith)
    (λ took handed t h v. still_there took handed c.args.self.now t h v) c.in-NotYet.ensures.calls

pub returns-in-End-clause-calls : goal.returns-in-End-clause-calls
returns-in-End-clause-calls g c = elim c.in-End.is [
  | inl e ↦
      has_read c.args.self.now.number false c.args.self.now c.args.self.now [] End (g.H.Host.calls c.args.host.now) (g.H.Host.calls c.read.new.self) (omega arith)
      (λ took handed t h v. (inl refl, speech_more took handed t [] h (speech_of took handed c.args.self.now t h v))) (rw e at c.read.ensures.calls)
  | inr e ↦
      has_read c.args.self.now.number false c.args.self.now c.args.self.now [] Failed (g.H.Host.calls c.args.host.now) (g.H.Host.calls c.read.new.self) (omega arith)
      (λ took handed t h v. (inr (inl refl), speech_more took handed t [] h (speech_of took handed c.args.self.now t h v))) (rw e at c.read.ensures.calls)
]
