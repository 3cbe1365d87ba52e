use Rattle.std.proofs.Common.{◌≡◌, ◌≤◌, ℕ, List, [], ◌++◌, length, take, drop, refl, ap, ◌∙◌, inl, inr, arith}
use Rattle.std.proofs.lemmas.List.{length-take, take-take, take-append-drop}
use Rattle.atspi_live_host.specs.declared.call.Did.TheVariants.{Done, NotYet, Failed}
use Rattle.atspi_live_conversation.proofs.MovedLemmas.{write_gives}
use Rattle.atspi_live_conversation.proofs.RoundLemmas.{makes_none, none_wait, put_made, puts_any}
use Rattle.atspi_live_conversation.specs.inner.Talking.{PutsIfAny}
use Rattle.atspi_live_conversation.proofs.rounds.give.Goals as goal

-- a front of the first bytes is one of all
part_of_front : (n : ℕ) (u : List ℕ) → n ≤ length (take 4096 u) → take n (take 4096 u) ++ drop n u ≡ u
part_of_front n u h =
    let fits : n ≤ 4096 = omega (arith, h, length-take 4096 u) in
    ap (λ (w : List ℕ). w ++ drop n u) (take-take n 4096 u fits) ∙ take-append-drop n u

within_all : (n : ℕ) (u : List ℕ) → n ≤ length (take 4096 u) → n ≤ length u
within_all n u h = omega (arith, h, length-take 4096 u)

pub pop-requires : goal.pop-requires
pop-requires g c =
    let front : c.front.result.now ≡ take 4096 c.args.unsent.now = c.front.ensures in
    within_all c.in-Done.n c.args.unsent.now (rw front at c.in-Done.ensures.within.1)

pub returns-in-Done-clause-gives : goal.returns-in-Done-clause-gives
returns-in-Done-clause-gives g c =
    let n : ℕ = c.in-Done.n in
    let front : c.front.result.now ≡ take 4096 c.args.unsent.now = c.front.ensures in
    let h : n ≤ length (take 4096 c.args.unsent.now) = rw front at c.in-Done.ensures.within.1 in (
      take n (take 4096 c.args.unsent.now),
      rw front at (write_gives c.args.link (g.H.Host.calls c.args.host.now) (g.H.Host.calls c.write.new.self) c.front.result.now (Done n) c.in-Done.ensures.calls),
      ap (λ (w : List ℕ). take n (take 4096 c.args.unsent.now) ++ w) c.pop.ensures ∙ part_of_front n c.args.unsent.now h,
    )

pub returns-in-NotYet-clause-gives : goal.returns-in-NotYet-clause-gives
returns-in-NotYet-clause-gives g c =
    ([], write_gives c.args.link (g.H.Host.calls c.args.host.now) (g.H.Host.calls c.write.new.self) c.front.result.now NotYet c.in-NotYet.ensures.calls, refl)

pub returns-in-End-clause-gives : goal.returns-in-End-clause-gives
returns-in-End-clause-gives g c = elim c.in-End.is [
  | inl e ↦ absurd (c.write.ensures.no_end e)
  | inr e ↦ ([], write_gives c.args.link (g.H.Host.calls c.args.host.now) (g.H.Host.calls c.write.new.self) c.front.result.now Failed (rw e at c.write.ensures.calls), refl)
]

pub returns-then-len-eq0-clause-made : goal.returns-then-len-eq0-clause-made
returns-then-len-eq0-clause-made g c = makes_none (g.H.Host.calls c.args.host.now) (PutsIfAny c.args.link c.args.unsent.now) (inl (refl, none_wait c.args.unsent.now c.len.result c.len.ensures (omega arith)))

pub returns-in-Done-clause-made : goal.returns-in-Done-clause-made
returns-in-Done-clause-made g c =
    puts_any c.args.link c.args.unsent.now (g.H.Host.calls c.args.host.now) (g.H.Host.calls c.write.new.self) (Done c.in-Done.n) tt
    (put_made c.args.link c.len.result c.args.unsent.now (g.H.Host.calls c.args.host.now) (g.H.Host.calls c.write.new.self) c.front.result.now (Done c.in-Done.n) c.front.ensures c.len.ensures (omega arith) c.in-Done.ensures.calls)

pub returns-in-NotYet-clause-made : goal.returns-in-NotYet-clause-made
returns-in-NotYet-clause-made g c =
    puts_any c.args.link c.args.unsent.now (g.H.Host.calls c.args.host.now) (g.H.Host.calls c.write.new.self) NotYet tt
    (put_made c.args.link c.len.result c.args.unsent.now (g.H.Host.calls c.args.host.now) (g.H.Host.calls c.write.new.self) c.front.result.now NotYet c.front.ensures c.len.ensures (omega arith) c.in-NotYet.ensures.calls)

pub returns-in-End-clause-made : goal.returns-in-End-clause-made
returns-in-End-clause-made g c = elim c.in-End.is [
  | inl e ↦ absurd (c.write.ensures.no_end e)
  | inr e ↦ put_made c.args.link c.len.result c.args.unsent.now (g.H.Host.calls c.args.host.now) (g.H.Host.calls c.write.new.self) c.front.result.now Failed c.front.ensures c.len.ensures (omega arith) (rw e at c.write.ensures.calls)
]
