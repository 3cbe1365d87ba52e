-- The run of a lawful trace keeps the laws.
use Rattle.std.proofs.Common.{◌≡◌, ◌≤◌, ℕ, true, false, List, [], ◌∷◌, Option, None, refl, sym, ◌∙◌, arith, subst}
use Rattle.std.specs.Prelude.{if◌then◌else◌}
use Rattle.std.specs.List.{AllByRecursion}
use Rattle.std.proofs.lemmas.List.{append-nil}
use Rattle.atspi_script_lines.specs.declared.line.Line.{Line}
use Rattle.atspi_script_lines.specs.declared.line.Line.TheVariants.{Blank, Quota, App as App_line, Reader as Reader_line, Edit as Edit_line, Call, Swap, Exit, Leave, Bytes, Turns, Drain, Show}
use Rattle.atspi_script_lines.specs.declared.line.Party.TheVariants.{Registry}
use Rattle.atspi_trace.specs.World.{Standing, here, stopped, away, End, World}
use Rattle.atspi_trace.specs.Ends.{is_here}
use Rattle.atspi_trace.specs.Work.{Work}
use Rattle.atspi_trace.specs.Due.{is_lost}
use Rattle.atspi_headline.specs.Words.{Act, lines_in, entries_in}
use Rattle.atspi_headline.specs.Headline.{LawOfSteps, LawOfApplications, LawOfReaders, LawOfShownRows, LawOfSpokenLines, LawOfExits}
use Rattle.atspi_trace_laws.specs.laws.NineLaws.{LawOfReaders as ReadersHold, LawOfDroppedEnds}
use Rattle.atspi_trace_laws.proofs.OfReaders.LawReaders.{readers_law}
use Rattle.atspi_trace_laws.proofs.OfDrops.LawDrops.{drops_law}
use Rattle.atspi_trace_laws.specs.order.Scripts.{CanStand, CanAllStand}
use Rattle.atspi_trace_laws.proofs.OfOrder.Parties.{false_true}
use Rattle.atspi_trace_laws.proofs.OfOrder.Shape.{Shape}
use Rattle.atspi_trace_laws.proofs.OfOrder.Growing.{Shaped, Nothing, And}
use Rattle.atspi_trace_laws.proofs.OfOrder.Told.{Tells}
use Rattle.atspi_trace_laws.proofs.OfOrder.Exits.{Exited}
use Rattle.atspi_trace_laws.proofs.OfOrder.Acts.{IsActive}
use Rattle.atspi_trace_laws.proofs.OfOrder.Shaped.{one_end}
use Rattle.atspi_trace_laws.proofs.OfOrder.Lives.{Started, here_lives, starts_keep}
use Rattle.atspi_trace_laws.proofs.OfOwn.Writing.{Lives}
use Rattle.atspi_headline_laws.specs.Laws.{IsSpelled, OfEachTrace, StartsFollowTheirLines, NothingFollowsADrop, RegistrySendsItsStep, ApplicationsHear, ReadersCallInTurn, ProvedLaws}
use Rattle.atspi_headline_laws.proofs.Applied.{apps_say}
use Rattle.atspi_headline_laws.proofs.Ran.{Ran}
use Rattle.atspi_headline_laws.proofs.Making.{Done, Finished, made}
use Rattle.atspi_headline_laws.proofs.Keeping.{kept_along}
use Rattle.atspi_headline_laws.proofs.Shown.{rows_are_shown}
use Rattle.atspi_headline_laws.proofs.Spoken.{lines_are_spoken}
use Rattle.atspi_headline_laws.proofs.Exits.{exits_are_due}
use Rattle.atspi_headline_laws.proofs.Gone.{ends_are_told}
use Rattle.atspi_headline_laws.proofs.Over.{nothing_is_of, nothing_behind_drops}
use Rattle.atspi_headline_laws.proofs.Edits.{steps_follow}
use Rattle.atspi_headline_laws.proofs.Starts.{begins_with_line, starts_are_due}
use Rattle.atspi_headline_laws.proofs.Heard.{apps_do_hear}
use Rattle.atspi_headline_laws.proofs.Registering.{registry_sends}
use Rattle.atspi_headline_laws.proofs.Calling.{readers_call}

-- WHAT BYTES SPELL can be asked for
can_stand : (line : Line) → IsSpelled line → CanStand line
can_stand (Edit_line app edit) s = s.1.form.0
can_stand Blank s = tt
can_stand (Quota quota) s = tt
can_stand (App_line name) s = tt
can_stand Reader_line s = tt
can_stand (Call reader app node deed) s = tt
can_stand (Swap app) s = tt
can_stand (Exit app) s = tt
can_stand (Leave reader) s = tt
can_stand (Bytes who up count) s = tt
can_stand (Turns count) s = tt
can_stand Drain s = tt
can_stand (Show reader app) s = tt

can_all_stand : (lines : List Line) → AllByRecursion IsSpelled lines → CanAllStand lines
can_all_stand [] s = tt
can_all_stand (line ∷ lines) s = (can_stand line s.0, can_all_stand lines s.1)

-- WHERE THE REGISTRY IS THERE at the end, it lived all along
stands : (st : Standing) → (if is_here st then false else true) ≡ false → st ≡ here
stands here h = refl
stands stopped h = absurd (false_true (sym h))
stands away h = absurd (false_true (sym h))

active_at : (w : World) (es : List End) → Shape (record w { ends = es }) → is_lost (record w { ends = es }) ≡ false → IsActive (record w { ends = es }) Registry
active_at w [] s h = let some : 1 ≤ 0 = one_end (record w { ends = [] }) s in absurd (omega (arith, some))
active_at w (x ∷ xs) s h = record { conn = 0; e = x; there = refl; whose = s.registry x refl; standing = stands x.standing h }

lives_so : (run : List Act) (w : World) (free : Option ℕ) (at : Option Work) → Ran run w free at → is_lost w ≡ false → Lives (entries_in run)
lives_so run w free at r alive =
    let k = kept_along (Shaped (And (And (And Nothing Tells) Exited) Started)) starts_keep run w free at r in
    here_lives (entries_in run) w Registry k.0 k.1.0.1.1 k.1.1 (active_at w w.ends k.0 alive)

-- THE LAWS
abbrev Kept : List Act → Type 0
Kept run = Lives (entries_in run) × LawOfDroppedEnds (entries_in run) × ReadersHold (entries_in run)

pub with_run : (Laws : List Act → Type 0) → ((run : List Act) (w : World) → Ran run w None None → Kept run → Laws run) → OfEachTrace Laws
with_run Laws law lines trace h =
    let x : Finished lines trace = made lines trace (can_all_stand lines h.spelled) h.lawful h.there in
    let d : Done lines trace x.0 [] = x.1 in
    record {
      run = d.run;
      of_lines = sym (append-nil (lines_in d.run)) ∙ d.has_lines;
      of_trace = d.has_entries;
      keeps = law d.run x.0 d.ran (
        lives_so d.run x.0 None None d.ran x.2,
        subst LawOfDroppedEnds (sym d.has_entries) (drops_law lines trace (can_all_stand lines h.spelled) h.lawful.goes),
        subst ReadersHold (sym d.has_entries) (readers_law lines trace (can_all_stand lines h.spelled) h.lawful.goes),
      );
    }

starts_follow : (run : List Act) (w : World) → Ran run w None None → Kept run → StartsFollowTheirLines run
starts_follow run w r k = record { begins = begins_with_line run w None None r; starts = starts_are_due run w None None r k.0 }

exits_follow : (run : List Act) (w : World) → Ran run w None None → Kept run → LawOfExits false run
exits_follow run w r k = record { exits = exits_are_due run w None None r k.0; told = ends_are_told run w None None r k.0; over = nothing_is_of run w None None r k.0 }

readers_follow : (run : List Act) (w : World) → Ran run w None None → Kept run → LawOfReaders false run
readers_follow run w r k = record { registry_sends = registry_sends run w None None r k.0; apps_hear = apps_do_hear run w None None r k.0; readers_call = readers_call run w None None r k.0 k.2 }

all_laws : (run : List Act) (w : World) → Ran run w None None → Kept run → ProvedLaws run
all_laws run w r k = record {
  starts = starts_follow run w r k;
  steps = steps_follow run w None None r k.0;
  applications = apps_say run w None None r k.0;
  readers = readers_follow run w r k;
  shown = rows_are_shown run w None None r k.0;
  spoken = lines_are_spoken run w None None r k.0;
  exits = exits_follow run w r k;
  drops = nothing_behind_drops run w None None r k.0 k.1;
}

pub keep_laws : OfEachTrace (λ run. ProvedLaws run)
keep_laws = with_run (λ run. ProvedLaws run) all_laws

pub starts_do : OfEachTrace (λ run. StartsFollowTheirLines run)
starts_do = with_run (λ run. StartsFollowTheirLines run) starts_follow

pub applications_do : OfEachTrace (λ run. LawOfApplications false run)
applications_do = with_run (λ run. LawOfApplications false run) (λ run w r k. apps_say run w None None r k.0)

pub steps_do : OfEachTrace (λ run. LawOfSteps false run)
steps_do = with_run (λ run. LawOfSteps false run) (λ run w r k. steps_follow run w None None r k.0)

pub registry_does : OfEachTrace RegistrySendsItsStep
registry_does = with_run RegistrySendsItsStep (λ run w r k. registry_sends run w None None r k.0)

pub hearing_does : OfEachTrace ApplicationsHear
hearing_does = with_run ApplicationsHear (λ run w r k. apps_do_hear run w None None r k.0)

pub calls_do : OfEachTrace ReadersCallInTurn
calls_do = with_run ReadersCallInTurn (λ run w r k. readers_call run w None None r k.0 k.2)

pub rows_do : OfEachTrace (λ run. LawOfShownRows false run)
rows_do = with_run (λ run. LawOfShownRows false run) (λ run w r k. rows_are_shown run w None None r k.0)

pub lines_do : OfEachTrace (λ run. LawOfSpokenLines false run)
lines_do = with_run (λ run. LawOfSpokenLines false run) (λ run w r k. lines_are_spoken run w None None r k.0)

pub exits_do : OfEachTrace (λ run. LawOfExits false run)
exits_do = with_run (λ run. LawOfExits false run) exits_follow

pub drops_do : OfEachTrace NothingFollowsADrop
drops_do = with_run NothingFollowsADrop (λ run w r k. nothing_behind_drops run w None None r k.0 k.1)
