-- THE LAW OF STEPS: behind an edit's line stand the steps of that edit of the live tree, behind a call that an application takes those of its answer,
-- and no step stands behind anything else.
use Rattle.std.proofs.Common.{◌≡◌, ℕ, ◌+◌, Bool, true, false, List, [], ◌∷◌, ◌++◌, map, Option, None, Some, refl, sym, ap, ap₂, ◌∙◌, subst, cond}
use Rattle.std.specs.Prelude.{filter, flat_map, Result, Ok, Err, if◌then◌else◌}
use Rattle.std.specs.List.{AllByRecursion}
use Rattle.std.proofs.lemmas.List.{append-nil, append_assoc}
use Rattle.atspi_tree_model.specs.declared.edit.Edit.{Edit}
use Rattle.atspi_tree_model.specs.declared.edit.EditFault.{EditFault}
use Rattle.atspi_tree_model.specs.declared.step.Step.{Step}
use Rattle.atspi_tree_model.specs.Edits.{steps_of_tree}
use Rattle.atspi_script_lines.specs.declared.line.Line.{Line}
use Rattle.atspi_script_lines.specs.declared.line.Line.TheVariants.{Blank, Quota, App as App_line, Reader as Reader_line, Edit as Edit_line, Call, Swap, Exit, Leave, Bytes, Turns, Drain, Show}
use Rattle.atspi_script_lines.specs.declared.line.Party.{Party}
use Rattle.atspi_script_lines.specs.declared.line.Party.TheVariants.{Bus as The_bus, Registry, App, Reader}
use Rattle.atspi_message.specs.Envelope.{Envelope}
use Rattle.atspi_protocol.specs.exporting.Exporter.{Happening, steps, sends, hears, deaf, Exporter, numbered, queues}
use Rattle.atspi_protocol.specs.exporting.Starting.{name_or_empty}
use Rattle.atspi_protocol.specs.exporting.Telling.{steps_told}
use Rattle.atspi_protocol.specs.exporting.Taking.{stepped, app_edits, app_takes}
use Rattle.atspi_protocol.specs.registering.Steps.{registry_takes}
use Rattle.atspi_trace.specs.Entry.{Entry, changed, sent, got, heard, unheard}
use Rattle.atspi_trace.specs.World.{World}
use Rattle.atspi_trace.specs.Ends.{number_of, whose, party_at}
use Rattle.atspi_trace.specs.Carrying as carrying
use Rattle.atspi_trace.specs.Causes.{Cause, Done, does, did as did_so}
use Rattle.atspi_trace.specs.Work.{Work, work_of}
use Rattle.atspi_headline.specs.Words as here
use Rattle.atspi_headline.specs.Words.{Act, begins_line, moves_bytes, takes_end, writes, entries_in, stepping, is_a, is_done_at, is_done, reaction, next_of, Along, Unless, handed}
use Rattle.atspi_headline.specs.Headline.{steps_or_none, steps_called, StepsAre, steps_due, LawOfSteps}
use Rattle.atspi_trace_laws.proofs.OfOrder.Growing.{Shaped, And}
use Rattle.atspi_trace_laws.proofs.OfOrder.Effects.{received}
use Rattle.atspi_trace_laws.proofs.OfSteps.Steps.{TreeIs}
use Rattle.atspi_trace_laws.proofs.OfSteps.LawSteps.{Below, Stepped, steps_keep}
use Rattle.atspi_trace_laws.proofs.OfHeard.Quiet.{heard_all}
use Rattle.atspi_trace_laws.proofs.OfOwn.Writing.{Lives}
use Rattle.atspi_headline_laws.proofs.Ran.{Ran, nothing_yet, did, began, caused, rested, asked, moves_for, line_moves}
use Rattle.atspi_headline_laws.proofs.Making.{AllMoves, moves_are, line_moves_are}
use Rattle.atspi_headline_laws.proofs.Keeping.{shape_along}
use Rattle.atspi_headline_laws.proofs.Reading.{tree_told, added_told}
use Rattle.atspi_headline_laws.proofs.Dues.{along_more, along_map, unless_map}
use Rattle.atspi_headline_laws.proofs.Acting.{LineDid, line_did, renewed, app_began, reader_began, edited_app, called_app, swapped, app_stopped, reader_stopped, showed, TurnDid, turn_did, bare_quiet, told_busy, told_quiet, bus_took, bus_ended, registry_took, app_took, reader_took, IsBareLine, bare_line}
use Rattle.atspi_headline_laws.proofs.Sorting.{BusSorts, sent_all, of_bus_all}
use Rattle.atspi_headline_laws.proofs.Growing.{Front, front_of, front_moved, lived_before}
use Rattle.atspi_headline_laws.proofs.Stepping.{steps_in, steps_numbered, steps_of_told}
use Rattle.atspi_headline_laws.proofs.Knowing.{IsKnown}
use Rattle.atspi_headline_laws.proofs.Answering.{steps_so}
use Rattle.atspi_headline_laws.proofs.Knows.{it_wrote, handed_it, it_tells, it_took, knows_front}

-- WHAT STANDS NEXT, where no more steps stand behind
filtered_more : (p k : Entry → Bool) (xs ys : List Act) → filter p (next_of k ys) ≡ [] → filter p (next_of k (xs ++ ys)) ≡ filter p (next_of k xs)
filtered_more p k [] ys none = none
filtered_more p k (begins_line line ∷ xs) ys none = refl
filtered_more p k (moves_bytes who up count ∷ xs) ys none = refl
filtered_more p k (takes_end who ∷ xs) ys none = refl
filtered_more p k (writes e ∷ xs) ys none = by (k e) (filtered_more p k xs ys none)
  where
    by : (b : Bool) → filter p (next_of k (xs ++ ys)) ≡ filter p (next_of k xs) → filter p (if b then e ∷ next_of k (xs ++ ys) else []) ≡ filter p (if b then e ∷ next_of k xs else [])
    by false h = refl
    by true h = at (p e)
      where
        at : (c : Bool) → cond c (e ∷ filter p (next_of k (xs ++ ys))) (filter p (next_of k (xs ++ ys))) ≡ cond c (e ∷ filter p (next_of k xs)) (filter p (next_of k xs))
        at true = ap (λ l. e ∷ l) h
        at false = h

abbrev NoStep : Entry → Type 0
NoStep entry = is_a stepping entry ≡ false

none_next : (k : Entry → Bool) (es : List Entry) → AllByRecursion NoStep es → filter (is_a stepping) (next_of k (map writes es)) ≡ []
none_next k [] a = refl
none_next k (e ∷ es) a = by (k e) (none_next k es a.1)
  where
    by : (b : Bool) → filter (is_a stepping) (next_of k (map writes es)) ≡ [] → filter (is_a stepping) (if b then e ∷ next_of k (map writes es) else []) ≡ []
    by false h = refl
    by true h = ap (λ c. cond c (e ∷ filter (is_a stepping) (next_of k (map writes es))) (filter (is_a stepping) (next_of k (map writes es)))) a.0 ∙ h

-- THE LAW grows
abbrev StepsBehind : List Act → Act → List Act → Type 0
StepsBehind before act behind = Unless (is_done act) (StepsAre false behind (steps_due before act))

steps_more : (run acts : List Act) → filter (is_a stepping) (reaction acts) ≡ [] → LawOfSteps false run → Along StepsBehind run acts → LawOfSteps false (run ++ acts)
steps_more run acts none old new =
    along_more StepsBehind [] run acts
    (along_map StepsBehind (λ before act behind. StepsBehind before act (behind ++ acts)) [] run
    (λ before act behind law. unless_map (is_done act) (filter (is_a stepping) (reaction behind) ≡ steps_due before act) (filter (is_a stepping) (reaction (behind ++ acts)) ≡ steps_due before act)
    (λ h. filtered_more (is_a stepping) is_done_at behind acts none ∙ h) law) old)
    new

-- entries behind which no step is due, and of which none is one
pub record Calm (entry : Entry) : Type 0 where
  pub no_step : NoStep entry
  pub nothing : (before : List Act) → Unless (is_done (writes entry)) ([] ≡ steps_due before (writes entry))

no_steps : (es : List Entry) → AllByRecursion Calm es → AllByRecursion NoStep es
no_steps [] a = tt
no_steps (e ∷ es) a = (a.0.no_step, no_steps es a.1)

calm_along : (before : List Act) (es : List Entry) → AllByRecursion Calm es → Along StepsBehind before (map writes es)
calm_along before [] a = tt
calm_along before (e ∷ es) a = (
  unless_map (is_done (writes e)) ([] ≡ steps_due before (writes e)) (filter (is_a stepping) (reaction (map writes es)) ≡ steps_due before (writes e))
      (λ h. none_next is_done_at es (no_steps es a.1) ∙ h) (a.0.nothing before),
  calm_along (before ++ writes e ∷ []) es a.1,
)

moves_calm : (before acts : List Act) → AllMoves acts → Along StepsBehind before acts
moves_calm before [] m = tt
moves_calm before (moves_bytes who up count ∷ acts) m = (next acts m, moves_calm (before ++ moves_bytes who up count ∷ []) acts m)
  where
    next : (acts : List Act) → AllMoves acts → filter (is_a stepping) (reaction acts) ≡ []
    next [] m = refl
    next (moves_bytes p u n ∷ acts) m = refl
    next (takes_end p ∷ acts) m = refl
    next (begins_line line ∷ acts) m = absurd m
    next (writes e ∷ acts) m = absurd m
moves_calm before (takes_end who ∷ acts) m = (next acts m, moves_calm (before ++ takes_end who ∷ []) acts m)
  where
    next : (acts : List Act) → AllMoves acts → filter (is_a stepping) (reaction acts) ≡ []
    next [] m = refl
    next (moves_bytes p u n ∷ acts) m = refl
    next (takes_end p ∷ acts) m = refl
    next (begins_line line ∷ acts) m = absurd m
    next (writes e ∷ acts) m = absurd m
moves_calm before (begins_line line ∷ acts) m = absurd m
moves_calm before (writes entry ∷ acts) m = absurd m

moves_none : (acts : List Act) → AllMoves acts → filter (is_a stepping) (reaction acts) ≡ []
moves_none [] m = refl
moves_none (moves_bytes who up count ∷ acts) m = refl
moves_none (takes_end who ∷ acts) m = refl
moves_none (begins_line line ∷ acts) m = absurd m
moves_none (writes entry ∷ acts) m = absurd m

-- THE STEPS of what an application did
did_next : (a : ℕ) (hs : List Happening) → filter (is_a stepping) (reaction (map writes (map (did_so a) hs))) ≡ map (changed a) (steps_in hs)
did_next a [] = refl
did_next a (steps step ∷ hs) = ap (λ l. changed a step ∷ l) (did_next a hs)
did_next a (sends e ∷ hs) = did_next a hs
did_next a (hears listener pattern ∷ hs) = did_next a hs
did_next a (deaf listener pattern ∷ hs) = did_next a hs

abbrev step_result : Exporter → Result (List Step) EditFault → Result Exporter EditFault
step_result s (Ok ss) = Ok (queues (stepped s ss) (steps_told s.heard (name_or_empty s.name) s.tree ss))
step_result s (Err fault) = Err fault

abbrev from_ok : Exporter → Result Exporter EditFault → Exporter
from_ok s (Ok u) = u
from_ok s (Err fault) = s

-- an edit does its steps
edit_steps : (s t : Exporter) (edit : Edit) → s.out ≡ [] → app_edits s edit ≡ Ok t → steps_in t.out ≡ steps_or_none (steps_of_tree s.tree s.added edit)
edit_steps s t edit empty h = by (steps_of_tree s.tree s.added edit) refl h
  where
    by : (r : Result (List Step) EditFault) → steps_of_tree s.tree s.added edit ≡ r → app_edits s edit ≡ Ok t → steps_in t.out ≡ steps_or_none (steps_of_tree s.tree s.added edit)
    by (Ok ss) e g =
        let hs : List Happening = steps_told s.heard (name_or_empty s.name) s.tree ss in
        let same : app_edits s edit ≡ step_result s (Ok ss) = rw e refl in
        let is : queues (stepped s ss) hs ≡ t = ap (from_ok s) (sym same ∙ g) in
        ap (λ (x : Exporter). steps_in x.out) (sym is) ∙ ap (λ l. steps_in (l ++ numbered s.next hs)) empty
        ∙ steps_numbered s.next hs ∙ steps_of_told s.heard (name_or_empty s.name) s.tree ss ∙ ap steps_or_none (sym e)
    by (Err fault) e g =
        let same : app_edits s edit ≡ Err fault = rw e refl in
        absurd (no (sym same ∙ g))
      where
        no : Err fault ≡ Ok t → ⊥
        no z = cc

-- what an application did is done at once
done_along : (before : List Act) (a : ℕ) (hs : List Happening) → Along StepsBehind before (map writes (map (did_so a) hs))
done_along before a [] = tt
done_along before a (steps step ∷ hs) = (tt, done_along (before ++ writes (changed a step) ∷ []) a hs)
done_along before a (sends e ∷ hs) = (tt, done_along (before ++ writes (sent (App a) e) ∷ []) a hs)
done_along before a (hears listener pattern ∷ hs) = (tt, done_along (before ++ writes (heard a listener pattern) ∷ []) a hs)
done_along before a (deaf listener pattern ∷ hs) = (tt, done_along (before ++ writes (unheard a listener pattern) ∷ []) a hs)

-- CALM ENTRIES
calm_sent : (who : Party) (e : Envelope) → Calm (sent who e)
calm_sent The_bus e = record { no_step = refl; nothing = λ before. tt }
calm_sent Registry e = record { no_step = refl; nothing = λ before. tt }
calm_sent (App a) e = record { no_step = refl; nothing = λ before. tt }
calm_sent (Reader r) e = record { no_step = refl; nothing = λ before. tt }

bus_calm : BusSorts Calm
bus_calm = record { says_ = λ e. record { no_step = refl; nothing = λ before. tt }; drops_ = λ who queued len. record { no_step = refl; nothing = λ before. tt } }

calm_got : (who from : Party) (serial : ℕ) → ((a : ℕ) → who ≡ App a → ⊥) → Calm (got who from serial)
calm_got (App a) from serial other = absurd (other a refl)
calm_got The_bus from serial other = record { no_step = refl; nothing = λ before. refl }
calm_got Registry from serial other = record { no_step = refl; nothing = λ before. refl }
calm_got (Reader r) from serial other = record { no_step = refl; nothing = λ before. refl }

-- LINES
calm_line : (run : List Act) (line : Line) (es : List Entry) → [] ≡ steps_due run (begins_line line) → AllByRecursion Calm es → Along StepsBehind run (begins_line line ∷ map writes es)
calm_line run line es none a = (none_next is_done_at es (no_steps es a) ∙ none, calm_along (run ++ begins_line line ∷ []) es a)

line_steps : (run : List Act) (w : World) (line : Line) (d : Done) → Front run w None → LineDid w line d → Along StepsBehind run (begins_line line ∷ map writes d.entries)
line_steps run w _ _ f (renewed quota few) = calm_line run (Quota quota) [] refl tt
line_steps run w _ d f (app_began name short few) =
    calm_line run (App_line name) d.entries refl (record { no_step = refl; nothing = λ before. tt }, (record { no_step = refl; nothing = λ before. tt }, tt))
line_steps run w _ d f (reader_began few) =
    calm_line run Reader_line d.entries refl (record { no_step = refl; nothing = λ before. tt }, (record { no_step = refl; nothing = λ before. tt }, tt))
line_steps run w _ _ f (edited_app app conn edit e before after h who role done_ can) =
    let es : List Entry = entries_in run in
    let t : TreeIs es app before = (f.kept (Shaped (And Below Stepped)) steps_keep).1.1.1 conn app e before h.there who role in
    let n : ℕ = number_of (party_at w.ends conn) in
    let number : n ≡ app = ap (λ o. number_of (whose o)) h.there ∙ ap number_of who in
    let tree : before.tree ≡ here.live_tree run app = t.tree ∙ sym (tree_told run app) in
    let count : before.added ≡ here.added run app = t.count ∙ sym (added_told run app) in (
      did_next n after.out ∙ ap₂ (λ k l. map (changed k) l) number (edit_steps before after edit t.empty done_ ∙ ap₂ (λ x y. steps_or_none (steps_of_tree x y edit)) tree count),
      done_along (run ++ begins_line (Edit_line app edit) ∷ []) n after.out,
    )
line_steps run w _ d f (called_app reader app node conn deed e hearer h who role) = calm_line run (Call reader app node deed) d.entries refl (calm_sent (party_at w.ends conn) _, tt)
line_steps run w _ _ f (swapped app) = calm_line run (Swap app) [] refl tt
line_steps run w _ _ f (app_stopped app d b who) =
    calm_line run (Exit app) d.entries refl (subst (λ (x : Done). AllByRecursion Calm x.entries) (sym b.is) (record { no_step = refl; nothing = λ before. tt }, tt))
line_steps run w _ _ f (reader_stopped reader d b who) =
    calm_line run (Leave reader) d.entries refl (subst (λ (x : Done). AllByRecursion Calm x.entries) (sym b.is) (record { no_step = refl; nothing = λ before. tt }, tt))
line_steps run w _ d f (showed reader app conn e hearer there who role) = calm_line run (Show reader app) d.entries refl (record { no_step = refl; nothing = λ before. tt }, tt)

-- TURNS
pub record TurnSteps (front : List Act) (es : List Entry) : Type 0 where
  pub first : filter (is_a stepping) (reaction (map writes es)) ≡ []
  pub along : Along StepsBehind front (map writes es)

calm_turn : (front : List Act) (es : List Entry) → AllByRecursion Calm es → TurnSteps front es
calm_turn front es a = record { first = none_next is_done_at es (no_steps es a); along = calm_along front es a }

no_app_registry : (a : ℕ) (who : Party) → who ≡ Registry → who ≡ App a → ⊥
no_app_registry a who h g = by (sym h ∙ g)
  where
    by : Registry ≡ App a → ⊥
    by e = cc

no_app_reader : (r a : ℕ) (who : Party) → who ≡ Reader r → who ≡ App a → ⊥
no_app_reader r a who h g = by (sym h ∙ g)
  where
    by : Reader r ≡ App a → ⊥
    by e = cc

turn_steps : (front : List Act) (w : World) (c : Cause) (d : Done) → Front front w None → TurnDid w c d → TurnSteps front d.entries
turn_steps front w _ _ f (told_busy turns) = record { first = refl; along = (refl, tt) }
turn_steps front w _ _ f (told_quiet none) = record { first = refl; along = (refl, tt) }
turn_steps front w _ _ f (bus_took d b) =
    let c = carrying.takes (record { bus = w.bus; ends = w.ends }) b.conn b.e.who b.said in
    calm_turn front d.entries
    (subst (λ (x : Done). AllByRecursion Calm x.entries) (sym b.is) (record { no_step = refl; nothing = λ before. refl }, of_bus_all Calm bus_calm c.ends c.bus.own c.bus.closings))
turn_steps front w _ _ f (bus_ended d b) =
    let c = carrying.takes_end (record { bus = w.bus; ends = w.ends }) b.conn in
    calm_turn front d.entries (subst (λ (x : Done). AllByRecursion Calm x.entries) (sym b.is) (of_bus_all Calm bus_calm c.ends c.bus.own c.bus.closings))
turn_steps front w _ _ f (registry_took d b) =
    calm_turn front d.entries
    (subst (λ (x : Done). AllByRecursion Calm x.entries) (sym b.is) (
      calm_got b.e.who b.letter.from b.letter.said.message.serial (λ a. no_app_registry a b.e.who b.whose),
      sent_all Calm b.e.who (λ e. calm_sent b.e.who e) (registry_takes b.before b.letter.said.message).sent,
    ))
turn_steps front w _ _ f (app_took d b) =
    let out : List Happening = (app_takes b.before b.letter.said.message).out in
    let serial : ℕ = b.letter.said.message.serial in
    let known : IsKnown front b.app b.before = (knows_front front w None f).0 b.conn b.app b.e b.before b.is_here.there b.whose b.role b.is_here.standing in
    let steps_are : steps_in out ≡ steps_called front b.app b.letter.said.message =
    steps_so front b.app b.before b.letter.said.message (it_tells front w f d b known) (app_takes b.before b.letter.said.message) (it_took front w f d b) in
    let called : flat_map (steps_called front b.app) (handed front b.letter.from serial) ≡ steps_called front b.app b.letter.said.message =
    ap (flat_map (steps_called front b.app)) (handed_it front w f d b) ∙ append-nil (steps_called front b.app b.letter.said.message) in
    subst (TurnSteps front) (sym (it_wrote front w f d b)) (record {
      first = refl;
      along = (
        did_next b.app out ∙ ap (map (changed b.app)) (steps_are ∙ sym called),
        done_along (front ++ writes (got (App b.app) b.letter.from serial) ∷ []) b.app out,
      );
    })
turn_steps front w _ _ f (reader_took d b) =
    calm_turn front d.entries
    (subst (λ (x : Done). AllByRecursion Calm x.entries) (sym b.is) (
      calm_got b.e.who b.letter.from b.letter.said.message.serial (λ a. no_app_reader b.reader a b.e.who b.whose),
      heard_all Calm (λ r app line. record { no_step = refl; nothing = λ before. tt }) (λ r app. record { no_step = refl; nothing = λ before. tt }) (number_of b.e.who) b.hearer (received w b.conn b.e b.letter).ends b.letter,
    ))

bare_none : (run : List Act) (line : Line) → IsBareLine line → [] ≡ steps_due run (begins_line line)
bare_none run Blank b = refl
bare_none run (Bytes who up count) b = refl
bare_none run (Turns count) b = refl
bare_none run Drain b = refl
bare_none run (Edit_line app edit) b = absurd b
bare_none run (Quota quota) b = refl
bare_none run (App_line name) b = refl
bare_none run Reader_line b = refl
bare_none run (Call reader app node deed) b = refl
bare_none run (Swap app) b = refl
bare_none run (Exit app) b = refl
bare_none run (Leave reader) b = refl
bare_none run (Show reader app) b = refl

pub steps_follow : (run : List Act) (w : World) (free : Option ℕ) (at : Option Work) → Ran run w free at → Lives (entries_in run) → LawOfSteps false run
steps_follow _ _ _ _ nothing_yet live = tt
steps_follow _ _ _ _ (did run w line c r ok can is a) live =
    let before : Lives (entries_in run) = lived_before run (begins_line line ∷ map writes (does w c).entries) live in
    steps_more run (begins_line line ∷ map writes (does w c).entries) refl (steps_follow run w None None r before)
    (line_steps run w line (does w c) (front_of run w None None r before) (line_did w line c (shape_along run w None None r) ok can a is))
steps_follow _ _ _ _ (began run w line r ok can b) live =
    let moves : List Act = line_moves w (work_of w line) in
    let m : AllMoves moves = line_moves_are w (work_of w line) in
    steps_more run (begins_line line ∷ moves) refl (steps_follow run w None None r (lived_before run (begins_line line ∷ moves) live))
    (moves_none moves m ∙ bare_none run line (bare_line w line ok b), moves_calm (run ++ begins_line line ∷ []) moves m)
steps_follow _ _ _ _ (caused run w free work left c r is b a) live =
    let before : Lives (entries_in run) = lived_before run (moves_for w work c ++ map writes (does w c).entries) live in
    let m : AllMoves (moves_for w work c) = moves_are w work c in
    let front : List Act = run ++ moves_for w work c in
    let t : TurnSteps front (does w c).entries =
    turn_steps front w c (does w c) (front_moved run (moves_for w work c) w free m (front_of run w free (Some work) r before)) (turn_did w c (shape_along run w free (Some work) r) (bare_quiet w work left c b is) a) in
    subst (LawOfSteps false) (append_assoc run (moves_for w work c) (map writes (does w c).entries))
    (steps_more front (map writes (does w c).entries) t.first
    (steps_more run (moves_for w work c) (moves_none (moves_for w work c) m) (steps_follow run w free (Some work) r before) (moves_calm run (moves_for w work c) m)) t.along)
steps_follow _ _ _ _ (rested run w v free work r is m well) live = steps_follow run w free (Some work) r live
steps_follow _ _ _ _ (asked run w conn q m question work r a) live =
    steps_more run (writes (sent (Reader q) m) ∷ []) refl (steps_follow run w (Some conn) work r (lived_before run (writes (sent (Reader q) m) ∷ []) live)) (tt, tt)
