-- Each step was asked for whole, of every lawful trace: what was entered, is heard and was listed is kept along it.
use Rattle.std.proofs.Common.{◌≡◌, ℕ, List, []}
use Rattle.std.specs.Prelude.{Some}
use Rattle.atspi_script_lines.specs.declared.line.Line.{Line}
use Rattle.atspi_trace.specs.Entry.{Entry}
use Rattle.atspi_trace.specs.World.{World}
use Rattle.atspi_trace.specs.Due.{begins, after_all, Goes}
use Rattle.atspi_trace_laws.specs.laws.Words.{Kept, held}
use Rattle.atspi_trace_laws.specs.order.Scripts.{CanAllStand}
use Rattle.atspi_trace_caches.specs.caches.Laws.{IsServed}
use Rattle.atspi_trace_caches.specs.ways.Laws.{AreHere, AreAskedSince}
use Rattle.atspi_trace_laws.proofs.OfOrder.Along.{Keeps}
use Rattle.atspi_trace_laws.proofs.OfOrder.Growing.{Shaped, And}
use Rattle.atspi_trace_laws.proofs.OfReaders.Fates.{both_keep}
use Rattle.atspi_trace_caches.proofs.OfServed.Facts.{AllEntered, AllHear, AllListed}
use Rattle.atspi_trace_caches.proofs.OfServed.Entering.{Under_entered, entered_keep, under_known, carries}
use Rattle.atspi_trace_caches.proofs.OfServed.HearingTuned.{AllTuned}
use Rattle.atspi_trace_caches.proofs.OfServed.Hearing.{Under_heard, hears_keep}
use Rattle.atspi_trace_caches.proofs.OfServed.ListingAll.{Under_named, listed_keep}
use Rattle.atspi_trace_caches.proofs.OfServed.AskingFrame.{AllAsking}
use Rattle.atspi_trace_caches.proofs.OfServed.AskingAnswers.{Under_answers, Answered}
use Rattle.atspi_trace_caches.proofs.OfServed.AskingCaused.{Underlies}
use Rattle.atspi_trace_caches.proofs.OfServed.AskingLaw as over_facts

-- THE FACTS, together
abbrev pub Facts : List Entry → World → Type 0
Facts es w = And (And Under_entered AllEntered) (And (And (And Under_heard AllTuned) AllHear) (And Under_named AllListed)) es w

pub facts_keep : Keeps (Shaped Facts)
facts_keep =
    both_keep (And Under_entered AllEntered) (And (And (And Under_heard AllTuned) AllHear) (And Under_named AllListed)) entered_keep
    (both_keep (And (And Under_heard AllTuned) AllHear) (And Under_named AllListed) hears_keep listed_keep)

-- and what stands on them
abbrev pub Served_under : List Entry → World → Type 0
Served_under es w = And (And Under_answers Answered) Facts es w

pub served_underlies : (es : List Entry) (w : World) → Served_under es w → Underlies es w
served_underlies =
    over_facts.underlies Facts facts_keep (λ es w f. f.0.1) (λ es w f. under_known es w f.0.0) (λ es w f. f.1.0.1) (λ es w f. f.1.1.1) (λ es w d s f e after g. carries es w d s f.0.0 e)

pub served_asking_keeps : Keeps (Shaped (And Served_under AllAsking))
served_asking_keeps =
    over_facts.asking_keeps Facts facts_keep (λ es w f. f.0.1) (λ es w f. under_known es w f.0.0) (λ es w f. f.1.0.1) (λ es w f. f.1.1.1) (λ es w d s f e after g. carries es w d s f.0.0 e)

-- THE LAWS
pub steps_asked : (lines : List Line) (trace : List Entry) → CanAllStand lines → Goes (begins lines) trace → (name : List ℕ) (reader app : ℕ) → IsServed trace name reader app
steps_asked =
    over_facts.steps_asked Facts facts_keep (λ es w f. f.0.1) (λ es w f. under_known es w f.0.0) (λ es w f. f.1.0.1) (λ es w f. f.1.1.1) (λ es w d s f e after g. carries es w d s f.0.0 e)

pub steps_asked_since : (lines : List Line) (trace : List Entry) → CanAllStand lines → Goes (begins lines) trace → (after_all (begins lines) trace).owing ≡ []
    → (name : List ℕ) (reader app : ℕ) → AreHere trace reader app → (k : Kept) → held trace reader app ≡ Some k → AreAskedSince name trace app k.last
steps_asked_since =
    over_facts.steps_asked_since Facts facts_keep (λ es w f. f.0.1) (λ es w f. under_known es w f.0.0) (λ es w f. f.1.0.1) (λ es w f. f.1.1.1) (λ es w d s f e after g. carries es w d s f.0.0 e)
