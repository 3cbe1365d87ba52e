use Rattle.std.proofs.Common.{◌≡◌, inl, inr, ℕ, zero, suc, false, List, [], Some, refl, sym, ap, ◌∙◌}
use Rattle.atspi_script_lines.specs.declared.line.Party.TheVariants.{App}
use Rattle.atspi_protocol.specs.following.ReaderState.{start_calls}
use Rattle.atspi_trace.specs.World.{here, first_registry, End}
use Rattle.atspi_trace.specs.Ends.{is_here, same_party, end_at, stops}
use Rattle.atspi_trace_examples.specs.traces.Cases.{with_button, app_state, app_end, reader_end, holding, stopped_world}
use Rattle.atspi_trace_examples.specs.settled.Cases.{asked_all, shown_name}
use Rattle.atspi_trace_caches.specs.settled.Laws.{IsNameHere}
use Rattle.atspi_trace_laws.proofs.OfOrder.Parties.{same_some, party-same, false_true, no_none}
use Rattle.atspi_trace_examples.proofs.OfSettled.Settling_cases.{begins_so, none_asked}
use Rattle.atspi_trace_examples.proofs.settled.who_asked_for_all.Goals as goal

-- the application, as it is and once it stopped, and the reader
abbrev its_end : End
its_end = app_end (app_state with_button [])

abbrev its_reader : End
its_reader = reader_end (holding with_button) []

-- an end of no application
no_app : (x e : End) (app : ℕ) → same_party x.who (App app) ≡ false → Some x ≡ Some e → e.who ≡ App app → ⊥
no_app x e app apart there whose = false_true (sym apart ∙ ap (λ (y : End). same_party y.who (App app)) (same_some x e there) ∙ ap (λ p. same_party p (App app)) whose ∙ party-same (App app))

-- nobody is here where the application stopped
nobody : (name : List ℕ) → IsNameHere stopped_world.ends name → ⊥
nobody name i = by i.0 i.1 i.2 i.3 i.4 i.5
  where
    by : (conn app : ℕ) (e : End) → end_at stopped_world.ends conn ≡ Some e → e.who ≡ App app → e.standing ≡ here → ⊥
    by zero app e there whose on = no_app first_registry e app refl there whose
    by (suc zero) app e there whose on = false_true (ap (λ (x : End). is_here x.standing) (same_some (stops its_end) e there) ∙ ap is_here on)
    by (suc (suc zero)) app e there whose on = no_app its_reader e app refl there whose
    by (suc (suc (suc k))) app e there whose on = no_none e there

pub returns-clause-start : goal.returns-clause-start
returns-clause-start c = record { starts = ([], refl); items = tt; parts = λ conn app e name k there whose unique has. absurd (no_none k has) }

pub returns-clause-items : goal.returns-clause-items
returns-clause-items c = record {
  starts = (_, refl);
  items = ((λ is. inr (inr (inr (inr (inr (inr (inr (inr (inr (inr (inl refl))))))))))), tt);
  parts = λ conn app e name k there whose unique has. absurd (no_none k has);
}

pub returns-clause-stopped : goal.returns-clause-stopped
returns-clause-stopped c = record { starts = ([], refl); items = ((λ is. absurd (nobody shown_name is)), tt); parts = λ conn app e name k there whose unique has. absurd (no_none k has) }

pub returns-clause-not_there : goal.returns-clause-not_there
returns-clause-not_there c = record { starts = ([], refl); items = ((λ is. absurd (no_none is.2 is.3)), tt); parts = λ conn app e name k there whose unique has. absurd (no_none k has) }

pub returns-clause-no_start : goal.returns-clause-no_start
returns-clause-no_start c h = false_true (ap begins_so h.starts.1)

pub returns-clause-no_items : goal.returns-clause-no_items
returns-clause-no_items c h =
    none_asked shown_name (asked_all start_calls) (refl, (refl, (refl, (refl, (refl, (refl, (refl, (refl, (refl, (refl, tt)))))))))) (h.items.0 (1, 0, its_end, refl, refl, refl, refl))
