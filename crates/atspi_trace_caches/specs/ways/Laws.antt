-- What stands on the way from an application to a reader, and what it makes of what the reader has.
use Rattle.std.specs.Prelude.{◌≡◌, ℕ, true, List, [], ◌∷◌, ◌++◌, filter_map, Option, None, Some, is_some, if◌then◌else◌}
use Rattle.std.specs.List.{AllByRecursion}
use Rattle.atspi_tree_model.specs.declared.step.Step.{Step}
use Rattle.atspi_tree_model.specs.declared.view.Row.{Row}
use Rattle.atspi_tree_model.specs.Forest.{Forest}
use Rattle.atspi_tree_model.specs.News.{effect}
use Rattle.atspi_tree_model.specs.Path.{path_of}
use Rattle.atspi_tree_model.specs.View.{Told, view}
use Rattle.atspi_script_lines.specs.declared.line.Line.{Line}
use Rattle.atspi_script_lines.specs.declared.line.Party.TheVariants.{Registry, App, Reader}
use Rattle.atspi_message.specs.Envelope.{Envelope}
use Rattle.atspi_protocol.specs.announcing.Announced.{announced}
use Rattle.atspi_protocol.specs.news.NewsOf.{news_of}
use Rattle.atspi_trace.specs.Entry.{Entry, changed, sent}
use Rattle.atspi_trace.specs.World.{Said, Letter, End, World}
use Rattle.atspi_trace.specs.Ends.{same_party, end_of}
use Rattle.atspi_trace.specs.Causes.{told_in}
use Rattle.atspi_trace.specs.Due.{begins, after_all, Begun}
use Rattle.atspi_trace_laws.specs.laws.Words.{live_tree, message, before_sent, as_of, heard_pairs, Kept, held, is_live}
use Rattle.atspi_trace_laws.specs.order.Scripts.{CanAllStand}
use Rattle.atspi_trace_laws.specs.folds.Laws.{AreAllCovered}
use Rattle.atspi_trace_laws.specs.signed.Laws.{IsItsName}
use Rattle.atspi_trace_caches.specs.caches.Caches.{followed}
use Rattle.atspi_trace_laws.specs.missed.Laws.{IsNoSignal}

-- what waits on a reader's down link of an application, and what waits on the application's up link
abbrev pub from_app : ℕ → Letter → Option Said
from_app app letter = if same_party letter.from (App app) then Some letter.said else None

abbrev pub down_from : ℕ → Option End → List Said
down_from app None = []
down_from app (Some e) = filter_map (from_app app) e.down

abbrev pub up_of : Option End → List Said
up_of None = []
up_of (Some e) = e.up

-- THE MESSAGES ON THEIR WAY, the oldest first
abbrev pub on_the_way : World → ℕ → ℕ → List Said
on_the_way w reader app = down_from app (end_of w.ends (Reader reader)) ++ up_of (end_of w.ends (App app))

-- NOTHING IS MISSED between two messages of the application: it sent no signal there, and each step of it that stands
-- there was asked for whole
pub record MissesNothing (name : List ℕ) (before : List Entry) (app last serial : ℕ) : Type 0 where
  pub first : Envelope
  pub between : List Entry
  pub stands : before_sent (App app) serial before
      ≡ (before_sent (App app) last before ++ sent (App app) first ∷ []) ++ between
  pub no_signal : AllByRecursion (IsNoSignal app) between
  pub asked : (xs ys : List Entry) (step : Step) → between ≡ xs ++ changed app step ∷ ys
      → let early = (before_sent (App app) last before ++ sent (App app) first ∷ []) ++ xs in
      AreAllCovered (heard_pairs early app) (announced name (live_tree early app) step)

-- None is missed: between the last message that the reader took and the first on its way, and between each of these and
-- the next, the application sent no other signal, and each step of it was asked for whole; so it is behind the last of
-- them up to now.
pub record MissesNothingSince (name : List ℕ) (trace : List Entry) (app last : ℕ) : Type 0 where
  pub first : Envelope
  pub between : List Entry
  pub stands : trace ≡ (before_sent (App app) last trace ++ sent (App app) first ∷ []) ++ between
  pub no_signal : AllByRecursion (IsNoSignal app) between
  pub asked : (xs ys : List Entry) (step : Step) → between ≡ xs ++ changed app step ∷ ys
      → let early = (before_sent (App app) last trace ++ sent (App app) first ∷ []) ++ xs in
      AreAllCovered (heard_pairs early app) (announced name (live_tree early app) step)

abbrev pub AllAreThere : List ℕ → List Entry → ℕ → ℕ → List Said → Type 0
AllAreThere name trace app last [] = MissesNothingSince name trace app last
AllAreThere name trace app last (said ∷ saids) = MissesNothing name trace app last said.message.serial
    × AllAreThere name trace app said.message.serial saids

-- The news in messages, folded one behind the other into a view: behind each it is the view of the application's tree
-- as of that message, and behind the last that of its tree now.
abbrev pub LeadsToNow : List ℕ → List Entry → ℕ → (List ℕ → Told) → Forest Row → List Said → Type 0
LeadsToNow name trace app parts v [] = v ≡ view parts (live_tree trace app)
LeadsToNow name trace app parts v (said ∷ saids) =
    let next = effect (path_of 0) name v (news_of name said.message) in
    (next ≡ view parts (as_of trace app said.message.serial)) × LeadsToNow name trace app parts next saids

-- WHAT IS THERE LEADS TO NOW: what is on its way to a reader does so, from what it has, where it is all that was sent
-- since
abbrev pub WhatIsThereLeads : Type 0
WhatIsThereLeads =
    (lines : List Line) (trace : List Entry) → CanAllStand lines → Begun lines trace
    → (after_all (begins lines) trace).owing ≡ []
    → (name : List ℕ) (reader app : ℕ) → IsItsName trace app name
    → (k : Kept) → held trace reader app ≡ Some k
    → AllAreThere name trace app k.last (on_the_way (after_all (begins lines) trace).world reader app)
    → (v : Forest Row) → (followed name trace reader app).view ≡ Some v
    → LeadsToNow name trace app (told_in k.told) v (on_the_way (after_all (begins lines) trace).world reader app)

-- WHO IS HERE: both ends, and the registry, behind whose drop nothing stands. What was on the links of an end that is
-- gone is lost.
pub record AreHere (trace : List Entry) (reader app : ℕ) : Type 0 where
  pub registry_lives : is_live trace Registry ≡ true
  pub reader_lives : is_live trace (Reader reader) ≡ true
  pub application_lives : is_live trace (App app) ≡ true

-- EACH STEP SINCE WAS ASKED FOR: each of the application that stands behind this message of it, up to now, was asked
-- for whole
abbrev pub AreAskedSince : List ℕ → List Entry → ℕ → ℕ → Type 0
AreAskedSince name trace app last =
    (early ys : List Entry) (step : Step) → trace ≡ early ++ changed app step ∷ ys
    → is_some (message early (App app) last) ≡ true
    → AreAllCovered (heard_pairs early app) (announced name (live_tree early app) step)

-- Then all that was sent since is on its way: of a reader and an application that are here, behind the last message
-- that the reader took of it.
abbrev pub AllAreOnTheWay : Type 0
AllAreOnTheWay =
    (lines : List Line) (trace : List Entry) → CanAllStand lines → Begun lines trace
    → (after_all (begins lines) trace).owing ≡ []
    → (name : List ℕ) (reader app : ℕ) → AreHere trace reader app → (k : Kept) → held trace reader app ≡ Some k
    → AllAreThere name trace app k.last (on_the_way (after_all (begins lines) trace).world reader app)

-- SO WHAT IS ON ITS WAY LEADS TO NOW
abbrev pub MessagesOnTheirWay : Type 0
MessagesOnTheirWay =
    (lines : List Line) (trace : List Entry) → CanAllStand lines → Begun lines trace
    → (after_all (begins lines) trace).owing ≡ []
    → (name : List ℕ) (reader app : ℕ) → IsItsName trace app name → AreHere trace reader app → (k : Kept)
    → held trace reader app ≡ Some k
    → (v : Forest Row) → (followed name trace reader app).view ≡ Some v
    → LeadsToNow name trace app (told_in k.told) v (on_the_way (after_all (begins lines) trace).world reader app)
