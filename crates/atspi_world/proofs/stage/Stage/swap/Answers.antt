use Rattle.std.proofs.Common.{List, map, length, refl, sym, ap, inl, inr, ◌∙◌, append-nil, arith}
use Rattle.std.specs.Prelude.{slice_set}
use Rattle.std.proofs.lemmas.List.{nil_from_length}
use Rattle.std.proofs.lemmas.Result.{on_ok_weaker}
use Rattle.atspi_trace.specs.Causes.{does, swaps_face}
use Rattle.atspi_trace.specs.Entry.{entries_of}
use Rattle.atspi_world.proofs.Results.{ok_any}
use Rattle.atspi_world_parties.proofs.Queued.{written_back}
use Rattle.atspi_world.proofs.Stays.{only_happens, swap_world}
use Rattle.atspi_world.proofs.stage.Stage.swap.Goals as goal

pub returns-in-Some-clause-does : goal.returns-in-Some-clause-does
returns-in-Some-clause-does g c =
    ok_any c.swap_at.result (λ p is free some. only_happens p (does p.world swaps_face) _ _ is
    (swap_world p.world _ _ is.is refl refl refl refl
    (ap (map g.A.Application.exporter) (written_back _ c.swap_at.new.apps _ (omega arith)) ∙ c.swap_at.ensures.same ∙ ap (map g.A.Application.exporter) c.deref_mut.ensures.value) refl refl (omega (arith, c.in-Some.ensures)) some)
    refl (sym (append-nil (entries_of c.args.self.now.carrier.trace.items))))

pub returns-in-None-clause-does : goal.returns-in-None-clause-does
returns-in-None-clause-does g c = λ p is free some. absurd (omega (arith, is.is.spares_are, c.in-None.ensures))

pub returns-in-Some-clause-exchanged : goal.returns-in-Some-clause-exchanged
returns-in-Some-clause-exchanged g c =
    let texts = g.A.Application.texts in
    on_ok_weaker c.swap_at.result (λ moved. inr (
      c.in-Some.spare,
      c.in-Some.ensures.items,
      λ less.
          ap (map texts) (written_back _ c.swap_at.new.apps _ (omega arith))
          ∙ moved (omega (arith, less, ap length c.deref_mut.ensures.value))
          ∙ ap (λ apps. slice_set (map texts apps) c.args.app (g.A.Application.number c.in-Some.spare)) c.deref_mut.ensures.value,
    )) c.swap_at.ensures.moved

pub returns-in-None-clause-exchanged : goal.returns-in-None-clause-exchanged
returns-in-None-clause-exchanged g c = inl (nil_from_length _ (omega (arith, c.in-None.ensures)))
