-- What is known of a reader and an application that are here, of every lawful trace behind which nothing waits: what the reader holds is the view of the application's tree as it is now.
use Rattle.std.proofs.Common.{◌≡◌, ◌⊎◌, inl, inr, ℕ, Bool, true, false, List, [], ◌∷◌, ◌++◌, length, Option, None, Some, refl, sym, ap, ap₂, ◌∙◌, subst, arith}
use Rattle.std.specs.Prelude.{◌≤◌, filter_map, if◌then◌else◌}
use Rattle.std.proofs.lemmas.List.{append-nil}
use Rattle.atspi_tree_model.specs.View.{view}
use Rattle.atspi_script_lines.specs.declared.line.Line.{Line}
use Rattle.atspi_script_lines.specs.declared.line.Party.TheVariants.{Registry, App, Reader}
use Rattle.atspi_trace.specs.Entry.{Entry}
use Rattle.atspi_trace.specs.World.{Standing, here, stopped, away, a_reader, Hearer, Said, Letter, first_registry, first_world, End, World}
use Rattle.atspi_trace.specs.Ends.{is_here, end_at, end_of}
use Rattle.atspi_trace.specs.Causes.{told_in}
use Rattle.atspi_trace.specs.Due.{begins, after_all, is_lost, Goes}
use Rattle.atspi_trace_laws.specs.laws.Words.{name_in, as_of, live_tree, Kept, held}
use Rattle.atspi_trace_laws.specs.order.Scripts.{CanAllStand}
use Rattle.atspi_trace_laws.specs.signed.Laws.{IsItsName}
use Rattle.atspi_trace_caches.specs.caches.Caches.{followed}
use Rattle.atspi_trace_caches.specs.caches.Laws.{IsViewed, CacheIs}
use Rattle.atspi_trace_caches.specs.ways.Laws.{from_app, down_from, up_of, on_the_way, LeadsToNow, AreHere}
use Rattle.atspi_trace_caches.specs.settled.Laws.{NothingWaits}
use Rattle.atspi_trace_laws.proofs.OfOrder.Parties.{no_none, same_some, false_true}
use Rattle.atspi_trace_laws.proofs.OfOrder.Shape.{Shape}
use Rattle.atspi_trace_laws.proofs.OfOrder.Growing.{Shaped, Nothing, And}
use Rattle.atspi_trace_laws.proofs.OfOrder.Told.{Tells}
use Rattle.atspi_trace_laws.proofs.OfOrder.Acts.{IsActive}
use Rattle.atspi_trace_laws.proofs.OfOrder.Exits.{Exited}
use Rattle.atspi_trace_laws.proofs.OfOrder.Lives.{Started, starts_keep, here_lives}
use Rattle.atspi_trace_laws.proofs.OfOwn.Writing.{Lives}
use Rattle.atspi_trace_laws.proofs.OfSteps.Steps.{Trees}
use Rattle.atspi_trace_laws.proofs.OfSteps.LawSteps.{Below, Stepped, steps_keep}
use Rattle.atspi_trace_laws.proofs.OfHeld.Keeping.{SameKept, ReaderIs}
use Rattle.atspi_trace_laws.proofs.OfHeld.LawHeld.{Below_held, Holds, holds_keep}
use Rattle.atspi_trace_caches.proofs.OfCaches.LawCaches.{caches_follow}
use Rattle.atspi_trace_caches.proofs.OfWays.LawWays.{IsKept}
use Rattle.atspi_trace_caches.proofs.OfWays.LawThere.{is_found, lead_to_now}
use Rattle.atspi_trace_caches.proofs.OfServed.LawServed.{steps_asked, steps_asked_since}
use Rattle.atspi_trace_caches.proofs.OfSettled.Settling_down.{up_empty, down_empty, AllAsNow}

-- the application's name, or any
its_name : (es : List Entry) (a : ℕ) → (name : List ℕ) × IsItsName es a name
its_name es a = by (name_in es (App a)) refl
  where
    by : (o : Option (List ℕ)) → name_in es (App a) ≡ o → (name : List ℕ) × IsItsName es a name
    by None h = ([], λ own is. absurd (no_none own (sym h ∙ is)))
    by (Some name) h = (name, λ own is. same_some own name (sym is ∙ h))

-- there is an end
no_end : (ends : List End) → 2 ≤ length ends → end_at ends 0 ≡ None → ⊥
no_end [] two h = absurd (omega (arith, two))
no_end (x ∷ xs) two h = no_none x (sym h)

module _ (lines : List Line) (trace : List Entry) (can : CanAllStand lines) (g : Goes (begins lines) trace) (none : (after_all (begins lines) trace).owing ≡ []) (w : World) (free : Option ℕ) (state : IsKept trace w free) where
  start : Shaped (And (And (And Nothing Tells) Exited) Started) trace w free
  start = state (Shaped (And (And (And Nothing Tells) Exited) Started)) starts_keep

  pub shape : Shape w
  shape = start.0

  trees : Trees trace w
  trees = (state (Shaped (And Below Stepped)) steps_keep).1.1.1

  readers : (k r : ℕ) (e : End) (h : Hearer) → end_at w.ends k ≡ Some e → e.who ≡ Reader r → e.role ≡ a_reader h → ReaderIs trace r h
  readers = (state (Shaped (And Below_held Holds)) holds_keep).1.1.1

  -- the registry is here where nothing is lost
  pub registry_is_live : is_lost w ≡ false → Lives trace
  registry_is_live found = by (end_at w.ends 0) refl
    where
      by : (o : Option End) → end_at w.ends 0 ≡ o → Lives trace
      by None h = absurd (nobody shape.alone)
        where
          nobody : (2 ≤ length w.ends) ⊎ (w ≡ first_world w.bus.quota) → ⊥
          nobody (inl two) = no_end w.ends two h
          nobody (inr first) = no_none first_registry (sym h ∙ ap (λ (v : World). end_at v.ends 0) first)
      by (Some e) h = here_lives trace w Registry shape start.1.0.1.1 start.1.1 (record { conn = 0; e = e; there = h; whose = shape.registry e h; standing = stands e.standing (sym lost_is ∙ found) })
        where
          lost_is : is_lost w ≡ (if is_here e.standing then false else true)
          lost_is = ap by_end h
            where
              by_end : Option End → Bool
              by_end None = false
              by_end (Some x) = if is_here x.standing then false else true

          stands : (st : Standing) → (if is_here st then false else true) ≡ false → st ≡ here
          stands here f = refl
          stands stopped f = absurd (false_true (sym f))
          stands away f = absurd (false_true (sym f))

  -- WHAT A READER HOLDS
  pub as_now : Lives trace → NothingWaits w → AllAsNow w
  as_now live waits k r e h there whose role on j a d x its_there its_whose its_role its_on hold has = by (held trace r a) refl (subst (SameKept trace a (held trace r a)) has ((readers k r e h there whose role).holds a))
    where
      its : IsActive w (App a)
      its = record { conn = j; e = d; there = its_there; whose = its_whose; standing = its_on }

      mine : IsActive w (Reader r)
      mine = record { conn = k; e = e; there = there; whose = whose; standing = on }

      are_here : AreHere trace r a
      are_here = record {
        registry_lives = live;
        reader_lives = here_lives trace w (Reader r) shape start.1.0.1.1 start.1.1 mine;
        application_lives = here_lives trace w (App a) shape start.1.0.1.1 start.1.1 its;
      }

      name : (name : List ℕ) × IsItsName trace a name
      name = its_name trace a

      nothing : on_the_way w r a ≡ []
      nothing =
          ap (λ o. down_from a o ++ up_of (end_of w.ends (App a))) (is_found w (Reader r) shape mine) ∙ ap (λ o. filter_map (from_app a) e.down ++ up_of o) (is_found w (App a) shape its)
          ∙ ap₂ (λ (l : List Letter) (u : List Said). filter_map (from_app a) l ++ u) (down_empty w k e waits there on) (up_empty w j d waits its_there its_on)

      by : (o : Option Kept) → held trace r a ≡ o → SameKept trace a o (Some hold) → view (told_in hold.told) hold.tree ≡ view (told_in hold.told) x.tree
      by None is same = absurd same
      by (Some was) is same =
          ap₂ (λ parts f. view (told_in parts) f) (sym same.told) (sym same.tree ∙ sym (ap (as_of trace a) same.last))
          ∙ now ∙ ap₂ (λ parts f. view (told_in parts) f) same.told (sym (trees j a d x its_there its_whose its_role).tree)
        where
          cache : IsViewed trace a was (followed name.0 trace r a)
          cache =
              subst (λ o. CacheIs trace a o (followed name.0 trace r a)) is
              (caches_follow lines trace can g none name.0 r a name.1 (steps_asked lines trace can g name.0 r a) trace [] (sym (append-nil trace)))

          leads : LeadsToNow name.0 trace a (told_in was.told) (view (told_in was.told) (as_of trace a was.last)) (on_the_way w r a)
          leads =
              lead_to_now lines trace can g none w free state name.0 r a name.1 (steps_asked lines trace can g name.0 r a) are_here was is (steps_asked_since lines trace can g none name.0 r a are_here was is)
              (view (told_in was.told) (as_of trace a was.last)) cache.shows

          now : view (told_in was.told) (as_of trace a was.last) ≡ view (told_in was.told) (live_tree trace a)
          now = subst (LeadsToNow name.0 trace a (told_in was.told) (view (told_in was.told) (as_of trace a was.last))) nothing leads
