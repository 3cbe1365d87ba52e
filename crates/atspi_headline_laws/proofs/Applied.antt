-- THE LAW OF APPLICATIONS: directly behind each step stand its signals, behind all steps the reply or the next call of the start, and an application
-- says nothing else.
use Rattle.std.proofs.Common.{◌≡◌, ℕ, zero, suc, ◌+◌, ◌≤◌, Bool, true, false, List, [], ◌∷◌, ◌++◌, length, map, Option, None, Some, refl, sym, ap, ap₂, ◌∙◌, subst, arith, cond}
use Rattle.std.specs.Prelude.{◌-◌, nat_le, not, filter, filter_map, flat_map, Result, Ok, Err, if◌then◌else◌}
use Rattle.std.specs.List.{AllByRecursion}
use Rattle.std.proofs.lemmas.List.{append-nil, append_assoc, map-append}
use Rattle.atspi_tree_model.specs.declared.edit.Edit.{Edit}
use Rattle.atspi_tree_model.specs.declared.edit.EditFault.{EditFault}
use Rattle.atspi_tree_model.specs.declared.step.Step.{Step}
use Rattle.atspi_tree_model.specs.Edits.{steps_of_tree}
use Rattle.atspi_tree_model.specs.Forest.{Forest}
use Rattle.atspi_tree_model.specs.Row.{TreeRow}
use Rattle.atspi_tree_model.specs.RowRules.{rows}
use Rattle.atspi_tree_model.specs.Tree.{after as after_step}
use Rattle.atspi_script_lines.specs.declared.line.Line.{Line}
use Rattle.atspi_script_lines.specs.declared.line.Line.TheVariants.{Blank, Quota, App as App_line, Reader as Reader_line, Edit as Edit_line, Call, Swap, Exit, Leave, Bytes, Turns, Drain, Show}
use Rattle.atspi_script_lines.specs.declared.line.Party.{Party}
use Rattle.atspi_script_lines.specs.declared.line.Party.TheVariants.{Bus as The_bus, Registry, App, Reader}
use Rattle.atspi_message.specs.Envelope.{Envelope}
use Rattle.atspi_protocol.specs.registering.Steps.{registry_takes}
use Rattle.atspi_protocol.specs.declared.following.question.Question.{Question}
use Rattle.atspi_protocol.specs.declared.following.question.Question.TheVariants.{Hello}
use Rattle.atspi_protocol.specs.following.Calls.{own_call}
use Rattle.atspi_protocol.specs.exporting.Exporter.{Happening, steps, sends, hears, deaf, Exporter, begins as begins_app, numbered, queues}
use Rattle.atspi_protocol.specs.exporting.Starting.{name_or_empty, starts}
use Rattle.atspi_protocol.specs.announcing.Signals.{Signal}
use Rattle.atspi_protocol.specs.announcing.Announced.{announced}
use Rattle.atspi_protocol.specs.exporting.Telling.{asked_for, steps_told}
use Rattle.atspi_protocol.specs.exporting.Taking.{stepped, app_takes, app_edits}
use Rattle.atspi_protocol.specs.news.NewsOf.{or_empty}
use Rattle.atspi_trace.specs.Entry.{Entry, started, changed, sent, got, heard, unheard}
use Rattle.atspi_trace.specs.World.{Standing, here as stands_here, stopped, away, an_application, Hearer, Letter, End, World, newcomer}
use Rattle.atspi_trace.specs.Ends.{number_of, whose, party_at, end_at, put_up, app_count, taken_down}
use Rattle.atspi_trace.specs.Carrying as carrying
use Rattle.atspi_trace.specs.Hearing.{heard_entries}
use Rattle.atspi_trace.specs.Causes.{Cause, tells_busy, tells_quiet, routes, unjoins, gets, Done, missing, does, did as did_so, has_done, app_starts}
use Rattle.atspi_trace.specs.Due.{freed}
use Rattle.atspi_trace.specs.Work.{Work, resting, doing, moving_up, moving_down, turning, draining, work_of, Next, cause, rests, moved_down, next_down, of_end, next_of as next_work}
use Rattle.atspi_headline.specs.Words as here
use Rattle.atspi_headline.specs.Words.{Act, begins_line, moves_bytes, takes_end, writes, entries_in, is_done_at, is_done, reaction, next_of, Along, Unless, next_serial, calls_of}
use Rattle.atspi_headline.specs.Headline.{words_due, words_to, put_in, IsSaid, LawOfApplications}
use Rattle.atspi_trace_laws.specs.laws.Words as told
use Rattle.atspi_trace_laws.proofs.OfOrder.Parties.{no_none, same_some, all_append}
use Rattle.atspi_trace_laws.proofs.OfOrder.Allowed.{IsBare, Asks}
use Rattle.atspi_trace_laws.proofs.OfOrder.Acts.{number_at, last_at}
use Rattle.atspi_trace_laws.proofs.OfOrder.Growing.{Shaped, And}
use Rattle.atspi_trace_laws.proofs.OfOrder.Effects.{received, AppTakes}
use Rattle.atspi_trace_laws.proofs.OfOrder.Shaped.{app_takes_over, registry_over}
use Rattle.atspi_trace_laws.proofs.OfSteps.Steps.{TreeIs}
use Rattle.atspi_trace_laws.proofs.OfSteps.LawSteps.{Below, Stepped, steps_keep}
use Rattle.atspi_trace_laws.proofs.OfSerials.Speaking.{next_of as next_number}
use Rattle.atspi_trace_laws.proofs.OfSerials.Numbers.{Numbered}
use Rattle.atspi_trace_laws.proofs.OfSerials.LawNumbers.{numbers_keep}
use Rattle.atspi_trace_laws.specs.laws.NineLaws.{sent_before}
use Rattle.atspi_trace_laws.proofs.OfHeard.Quiet.{heard_all}
use Rattle.atspi_trace_laws.proofs.OfHeard.LawHeard.{Beneath, Heard, heard_keeps}
use Rattle.atspi_trace_laws.proofs.OfNames.Places.{told_is}
use Rattle.atspi_trace_laws.proofs.OfSigned.Self.{IsSelf}
use Rattle.atspi_trace_laws.proofs.OfSigned.LawMail.{Under_mail, Known_mail, mail_keeps}
use Rattle.atspi_trace_laws.proofs.OfOwn.Writing.{Lives}
use Rattle.atspi_headline_laws.proofs.Ran.{Ran, nothing_yet, did, began, caused, rested, asked, moves_for, line_moves}
use Rattle.atspi_headline_laws.proofs.Making.{AllMoves, moves_are, line_moves_are}
use Rattle.atspi_headline_laws.proofs.Keeping.{shape_along}
use Rattle.atspi_headline_laws.proofs.Reading.{messages_told, tree_told, pairs_told}
use Rattle.atspi_headline_laws.proofs.Naming.{name_same}
use Rattle.atspi_headline_laws.proofs.Dues.{along_more, along_map, next_more, unless_map}
use Rattle.atspi_headline_laws.proofs.Starts.{apps_counted}
use Rattle.atspi_headline_laws.proofs.Words.{chosen_more}
use Rattle.atspi_headline_laws.proofs.Acting.{LineDid, line_did, renewed, app_began, reader_began, edited_app, called_app, swapped, app_stopped, reader_stopped, showed, TurnDid, turn_did, bare_quiet, told_busy, told_quiet, bus_took, bus_ended, registry_took, app_took, reader_took, IsBareLine, bare_line}
use Rattle.atspi_headline_laws.proofs.Sorting.{BusSorts, sent_all, of_bus_all}
use Rattle.atspi_headline_laws.proofs.Growing.{Front, front_of, front_moved, lived_before}
use Rattle.atspi_headline_laws.proofs.Calling.{no_freed}
use Rattle.atspi_headline_laws.proofs.Knowing.{IsKnown, AreCalls, is_call, sends_in, sent_here, calls_more}
use Rattle.atspi_headline_laws.proofs.Knows.{it_wrote, handed_it, it_tells, it_took, there_now, knows_front}
use Rattle.atspi_headline_laws.proofs.Saying.{is_other, IsAside, put_alone, put_nobody, steps_left, Stands, Adds, stands_more, steps_put, said_now}
use Rattle.atspi_headline_laws.proofs.Replying.{said_so}

-- THE LAW grows
abbrev SaidBehind : List Act → Act → List Act → Type 0
SaidBehind before act behind = Unless (is_done act) (IsSaid false before act behind)

abbrev due_of : List Act → Act → List Entry → List Entry
due_of before act entries = put_in (before ++ act ∷ []) (words_due before act) (filter is_other entries)

said_more : (run acts : List Act) → reaction acts ≡ [] → LawOfApplications false run → Along SaidBehind run acts → LawOfApplications false (run ++ acts)
said_more run acts none old new =
    along_more SaidBehind [] run acts
    (along_map SaidBehind (λ before act behind. SaidBehind before act (behind ++ acts)) [] run
    (λ before act behind law. unless_map (is_done act) (reaction behind ≡ due_of before act (reaction behind)) (reaction (behind ++ acts) ≡ due_of before act (reaction (behind ++ acts)))
    (λ h. subst (λ es. es ≡ due_of before act es) (sym (next_more is_done_at behind acts none)) h) law) old)
    new

-- ENTRIES that stand alone, and behind which nothing is said
pub record IsCalm (entry : Entry) : Type 0 where
  pub aside : IsAside entry
  pub nothing : (before : List Act) → Unless (is_done (writes entry)) (words_due before (writes entry) ≡ (0, []))

all_aside : (es : List Entry) → AllByRecursion IsCalm es → AllByRecursion IsAside es
all_aside [] a = tt
all_aside (e ∷ es) a = (a.0.aside, all_aside es a.1)

next_aside : (k : Entry → Bool) (es : List Entry) → AllByRecursion IsAside es → AllByRecursion IsAside (next_of k (map writes es))
next_aside k [] a = tt
next_aside k (e ∷ es) a = by (k e) (next_aside k es a.1)
  where
    by : (b : Bool) → AllByRecursion IsAside (next_of k (map writes es)) → AllByRecursion IsAside (if b then e ∷ next_of k (map writes es) else [])
    by true h = (a.0, h)
    by false h = tt

-- behind an act with which nothing is said
said_alone : (before : List Act) (act : Act) (acts : List Act) → words_due before act ≡ (0, []) → AllByRecursion IsAside (reaction acts) → IsSaid false before act acts
said_alone before act acts nothing a =
    put_alone (before ++ act ∷ []) 0 (reaction acts) a ∙ ap (λ w. put_in (before ++ act ∷ []) w (filter is_other (reaction acts))) (sym nothing)

calm_along : (before : List Act) (es : List Entry) → AllByRecursion IsCalm es → Along SaidBehind before (map writes es)
calm_along before [] a = tt
calm_along before (e ∷ es) a = (
  unless_map (is_done (writes e)) (words_due before (writes e) ≡ (0, [])) (IsSaid false before (writes e) (map writes es))
      (λ h. said_alone before (writes e) (map writes es) h (next_aside is_done_at es (all_aside es a.1))) (a.0.nothing before),
  calm_along (before ++ writes e ∷ []) es a.1,
)

-- moves, and what stands behind them
moved_reaction : (moves acts : List Act) → AllMoves moves → AllByRecursion IsAside (reaction acts) → AllByRecursion IsAside (reaction (moves ++ acts))
moved_reaction [] acts m a = a
moved_reaction (moves_bytes who up count ∷ moves) acts m a = tt
moved_reaction (takes_end who ∷ moves) acts m a = tt
moved_reaction (begins_line line ∷ moves) acts m a = absurd m
moved_reaction (writes entry ∷ moves) acts m a = absurd m

moves_said : (before moves acts : List Act) → AllMoves moves → AllByRecursion IsAside (reaction acts) → Along SaidBehind (before ++ moves) acts → Along SaidBehind before (moves ++ acts)
moves_said before [] acts m a new = subst (λ l. Along SaidBehind l acts) (append-nil before) new
moves_said before (moves_bytes who up count ∷ moves) acts m a new = (
  said_alone before (moves_bytes who up count) (moves ++ acts) refl (moved_reaction moves acts m a),
  moves_said (before ++ moves_bytes who up count ∷ []) moves acts m a (subst (λ l. Along SaidBehind l acts) (sym (append_assoc before (moves_bytes who up count ∷ []) moves)) new),
)
moves_said before (takes_end who ∷ moves) acts m a new = (
  said_alone before (takes_end who) (moves ++ acts) refl (moved_reaction moves acts m a),
  moves_said (before ++ takes_end who ∷ []) moves acts m a (subst (λ l. Along SaidBehind l acts) (sym (append_assoc before (takes_end who ∷ []) moves)) new),
)
moves_said before (begins_line line ∷ moves) acts m a new = absurd m
moves_said before (writes entry ∷ moves) acts m a new = absurd m

moves_alone : (before moves : List Act) → AllMoves moves → Along SaidBehind before moves
moves_alone before moves m = subst (Along SaidBehind before) (append-nil moves) (moves_said before moves [] m tt tt)

moves_stop : (moves acts : List Act) → AllMoves moves → reaction acts ≡ [] → reaction (moves ++ acts) ≡ []
moves_stop [] acts m h = h
moves_stop (moves_bytes who up count ∷ moves) acts m h = refl
moves_stop (takes_end who ∷ moves) acts m h = refl
moves_stop (begins_line line ∷ moves) acts m h = absurd m
moves_stop (writes entry ∷ moves) acts m h = absurd m

-- CALM ENTRIES
calm_sent : (who : Party) (e : Envelope) → ((a : ℕ) → who ≡ App a → ⊥) → IsCalm (sent who e)
calm_sent The_bus e other = record { aside = record { other = refl; none = λ before. refl }; nothing = λ before. tt }
calm_sent Registry e other = record { aside = record { other = refl; none = λ before. refl }; nothing = λ before. tt }
calm_sent (Reader r) e other = record { aside = record { other = refl; none = λ before. refl }; nothing = λ before. tt }
calm_sent (App a) e other = absurd (other a refl)

calm_got : (who from : Party) (serial : ℕ) → ((a : ℕ) → who ≡ App a → ⊥) → IsCalm (got who from serial)
calm_got (App a) from serial other = absurd (other a refl)
calm_got The_bus from serial other = record { aside = record { other = refl; none = λ before. refl }; nothing = λ before. refl }
calm_got Registry from serial other = record { aside = record { other = refl; none = λ before. refl }; nothing = λ before. refl }
calm_got (Reader r) from serial other = record { aside = record { other = refl; none = λ before. refl }; nothing = λ before. refl }

bus_calm : BusSorts IsCalm
bus_calm = record {
  says_ = λ e. record { aside = record { other = refl; none = λ before. refl }; nothing = λ before. tt };
  drops_ = λ who queued len. record { aside = record { other = refl; none = λ before. refl }; nothing = λ before. tt };
}

no_app_registry : (a : ℕ) (who : Party) → who ≡ Registry → who ≡ App a → ⊥
no_app_registry a who h g = by (sym h ∙ g)
  where
    by : Registry ≡ App a → ⊥
    by e = cc

no_app_reader : (r a : ℕ) (who : Party) → who ≡ Reader r → who ≡ App a → ⊥
no_app_reader r a who h g = by (sym h ∙ g)
  where
    by : Reader r ≡ App a → ⊥
    by e = cc

-- what an application did is done at once
done_along : (before : List Act) (a : ℕ) (hs : List Happening) → Along SaidBehind before (map writes (map (did_so a) hs))
done_along before a [] = tt
done_along before a (steps step ∷ hs) = (tt, done_along (before ++ writes (changed a step) ∷ []) a hs)
done_along before a (sends e ∷ hs) = (tt, done_along (before ++ writes (sent (App a) e) ∷ []) a hs)
done_along before a (hears listener pattern ∷ hs) = (tt, done_along (before ++ writes (heard a listener pattern) ∷ []) a hs)
done_along before a (deaf listener pattern ∷ hs) = (tt, done_along (before ++ writes (unheard a listener pattern) ∷ []) a hs)

all_done : (a : ℕ) (hs : List Happening) → reaction (map writes (map (did_so a) hs)) ≡ map (did_so a) hs
all_done a [] = refl
all_done a (steps step ∷ hs) = ap (λ l. changed a step ∷ l) (all_done a hs)
all_done a (sends e ∷ hs) = ap (λ l. sent (App a) e ∷ l) (all_done a hs)
all_done a (hears listener pattern ∷ hs) = ap (λ l. heard a listener pattern ∷ l) (all_done a hs)
all_done a (deaf listener pattern ∷ hs) = ap (λ l. unheard a listener pattern ∷ l) (all_done a hs)

-- LINES
calm_line : (run : List Act) (line : Line) (es : List Entry) → words_due run (begins_line line) ≡ (0, []) → AllByRecursion IsCalm es → Along SaidBehind run (begins_line line ∷ map writes es)
calm_line run line es none a = (said_alone run (begins_line line) (map writes es) none (next_aside is_done_at es (all_aside es a)), calm_along (run ++ begins_line line ∷ []) es a)

-- an edit
abbrev step_result : Exporter → Result (List Step) EditFault → Result Exporter EditFault
step_result s (Ok ss) = Ok (queues (stepped s ss) (steps_told s.heard (name_or_empty s.name) s.tree ss))
step_result s (Err fault) = Err fault

abbrev from_ok : Exporter → Result Exporter EditFault → Exporter
from_ok s (Ok u) = u
from_ok s (Err fault) = s

edit_out : (s t : Exporter) (edit : Edit) → s.out ≡ [] → app_edits s edit ≡ Ok t → (ss : List Step) × (t.out ≡ numbered s.next (steps_told s.heard (name_or_empty s.name) s.tree ss ++ map sends []))
edit_out s t edit empty h = by (steps_of_tree s.tree s.added edit) refl h
  where
    by : (r : Result (List Step) EditFault) → steps_of_tree s.tree s.added edit ≡ r → app_edits s edit ≡ Ok t → (ss : List Step) × (t.out ≡ numbered s.next (steps_told s.heard (name_or_empty s.name) s.tree ss ++ map sends []))
    by (Ok ss) e g =
        let hs : List Happening = steps_told s.heard (name_or_empty s.name) s.tree ss in
        let same : app_edits s edit ≡ step_result s (Ok ss) = rw e refl in
        let is : queues (stepped s ss) hs ≡ t = ap (from_ok s) (sym same ∙ g) in
        (ss, ap (λ (x : Exporter). x.out) (sym is) ∙ ap (λ l. l ++ numbered s.next hs) empty ∙ ap (numbered s.next) (sym (append-nil hs)))
    by (Err fault) e g =
        let same : app_edits s edit ≡ Err fault = rw e refl in
        absurd (no (sym same ∙ g))
      where
        no : Err fault ≡ Ok t → ⊥
        no z = cc

plus_none : (n k : ℕ) → k ≡ n + 0 → k ≡ n
plus_none n k h = omega (arith, h)

-- who has heard of nobody tells nobody, under whatever name
deaf_signals : (xs : List Signal) → asked_for [] xs ≡ []
deaf_signals [] = refl
deaf_signals (x ∷ xs) = deaf_signals xs

deaf_told : (name other : List ℕ) (f : Forest TreeRow) (ss : List Step) → steps_told [] name f ss ≡ steps_told [] other f ss
deaf_told name other f [] = refl
deaf_told name other f (step ∷ ss) =
    ap₂ (λ x y. steps step ∷ (map (λ (s : Signal). sends s.message) x ++ y)) (deaf_signals (announced name f step) ∙ sym (deaf_signals (announced other f step))) (deaf_told name other (after_step rows f step) ss)

told_under : (s : Exporter) (other : List ℕ) (ss : List Step) → (s.name ≡ None → s.heard ≡ []) → ((name : List ℕ) → s.name ≡ Some name → other ≡ name)
    → steps_told s.heard (name_or_empty s.name) s.tree ss ≡ steps_told s.heard other s.tree ss
told_under s other ss deaf_ same = by s.name refl
  where
    by : (o : Option (List ℕ)) → s.name ≡ o → steps_told s.heard (name_or_empty s.name) s.tree ss ≡ steps_told s.heard other s.tree ss
    by (Some name) is = ap (λ n. steps_told s.heard n s.tree ss) (ap name_or_empty is ∙ sym (same name is))
    by None is =
        ap (λ ps. steps_told ps (name_or_empty s.name) s.tree ss) (deaf_ is) ∙ deaf_told (name_or_empty s.name) other s.tree ss ∙ ap (λ ps. steps_told ps other s.tree ss) (sym (deaf_ is))

-- what is known of an application that its user edits
record Edits_ (run : List Act) (a : ℕ) (s : Exporter) : Type 0 where
  stands : Stands run a s.heard (or_empty (here.name_of run (App a))) s.tree s.next
  deaf_ : s.name ≡ None → s.heard ≡ []
  name : (name : List ℕ) → s.name ≡ Some name → or_empty (here.name_of run (App a)) ≡ name
  empty : s.out ≡ []

edits_of : (run : List Act) (w : World) (f : Front run w None) (conn app : ℕ) (e : End) (s : Exporter) → end_at w.ends conn ≡ Some e → e.who ≡ App app → e.role ≡ an_application s → Edits_ run app s
edits_of run w f conn app e s there who role =
    let self : IsSelf (entries_in run) app s = (f.kept (Shaped (And Under_mail Known_mail)) mail_keeps).1.1.1 conn app e s there who role in
    let tree : TreeIs (entries_in run) app s = (f.kept (Shaped (And Below Stepped)) steps_keep).1.1.1 conn app e s there who role in
    record {
      stands = record {
        pairs = pairs_told run app ∙ (f.kept (Shaped (And Beneath Heard)) heard_keeps).1.1.1 conn app e s there who role;
        name = refl;
        tree = tree_told run app ∙ sym tree.tree;
        next = ap (λ l. suc (length l)) (messages_told run (App app))
            ∙ sum s.next (length (told.messages (entries_in run) (App app)))
            (sym (ap next_number role) ∙ (f.kept (Shaped (And (And Below Stepped) Numbered)) numbers_keep).1.1.1 conn e there ∙ ap (λ p. suc (sent_before p + length (told.messages (entries_in run) p))) who);
      };
      deaf_ = self.deaf_;
      name = λ name is. ap or_empty (name_same run (App app) refl ∙ told_is (entries_in run) (App app) ∙ self.told name is);
      empty = tree.empty;
    }
  where
    sum : (n k : ℕ) → n ≡ suc (0 + k) → suc k ≡ n
    sum n k h = omega (arith, h)

edit_said : (run : List Act) (line : Line) (a : ℕ) (s t : Exporter) (edit : Edit) → words_due run (begins_line line) ≡ (0, []) → Edits_ run a s → app_edits s edit ≡ Ok t → IsSaid false run (begins_line line) (map writes (map (did_so a) t.out))
edit_said run line a s t edit nothing i done_ =
    let x = edit_out s t edit i.empty done_ in
    let name : List ℕ = or_empty (here.name_of run (App a)) in
    let hs : List Happening = steps_told s.heard name s.tree x.0 ++ map sends [] in
    let out : t.out ≡ numbered s.next hs = x.1 ∙ ap (λ l. numbered s.next (l ++ map sends [])) (told_under s name x.0 i.deaf_ i.name) in
    let behind : List Act = run ++ begins_line line ∷ [] in
    let line_adds : Adds a 0 (begins_line line ∷ []) = record { greets = refl; pairs = λ ps. refl; tree = λ f. refl; sent_ = refl } in
    let now = stands_more run (begins_line line ∷ []) a s.heard name s.tree s.next 0 i.stands line_adds in
    let stands_then : Stands behind a s.heard name s.tree s.next = record { pairs = now.pairs; name = now.name; tree = now.tree; next = plus_none s.next (next_serial behind (App a)) now.next } in
    let put : put_in behind (0, []) (filter is_other (map (did_so a) (numbered s.next hs))) ≡ map (did_so a) (numbered s.next hs) =
    put_nobody behind 0 a (filter is_other (map (did_so a) (numbered s.next hs)))
    ∙ ap (put_in behind (a, [])) (steps_left a s.next s.heard name s.tree x.0 [])
    ∙ steps_put behind a s.heard name s.tree s.next x.0 [] stands_then in
    subst (λ es. es ≡ put_in behind (words_due run (begins_line line)) (filter is_other es)) (sym (all_done a t.out))
    (subst (λ o. map (did_so a) o ≡ put_in behind (words_due run (begins_line line)) (filter is_other (map (did_so a) o))) (sym out)
    (subst (λ w. map (did_so a) (numbered s.next hs) ≡ put_in behind w (filter is_other (map (did_so a) (numbered s.next hs)))) (sym nothing) (sym put)))

-- one starts
module _ (run : List Act) (w : World) (name : List ℕ) (f : Front run w None) where
  abbrev n : ℕ
  n = app_count w.ends

  abbrev line : Act
  line = begins_line (App_line name)

  abbrev first_call : Envelope
  first_call = record (own_call Hello) { serial = 1 }

  abbrev ys : List Entry
  ys = started (App n) (Some name) ∷ (sent (App n) first_call ∷ [])

  start_wrote : (app_starts w name).entries ≡ ys
  start_wrote = ap (λ j. started (App n) (Some name) ∷ (sent (App j) first_call ∷ [])) (ap (λ o. number_of (whose o)) (last_at w.ends (put_up [] (newcomer (App n) (an_application (begins_app name))))))

  its_number : here.count_of here.is_app run ≡ n
  its_number = sym (apps_counted run w None f)

  least : (x : ℕ) → x ≤ x
  least x = omega arith

  none_yet : here.messages run (App n) ≡ []
  none_yet = messages_told run (App n) ∙ (f.kept (Shaped (And (And Below Stepped) Numbered)) numbers_keep).1.1.2 (App n) (least n)

  first_number : next_serial ((run ++ line ∷ []) ++ writes (started (App n) (Some name)) ∷ []) (App n) ≡ 1
  first_number =
      ap (λ l. suc (length l))
      (chosen_more (here.sent_by (App n)) (run ++ line ∷ []) (writes (started (App n) (Some name)) ∷ []) ∙ append-nil (here.messages (run ++ line ∷ []) (App n))
      ∙ chosen_more (here.sent_by (App n)) run (line ∷ []) ∙ append-nil (here.messages run (App n)) ∙ none_yet)

  start_said : IsSaid false run line (map writes ys)
  start_said =
      sym (ap (λ c. put_in (run ++ line ∷ []) (c, own_call Hello ∷ []) (started (App n) (Some name) ∷ [])) its_number
      ∙ ap (λ l. started (App n) (Some name) ∷ l) (said_now ((run ++ line ∷ []) ++ writes (started (App n) (Some name)) ∷ []) n 1 (own_call Hello ∷ []) first_number))

  start_along : Along SaidBehind run (line ∷ map writes (app_starts w name).entries)
  start_along = subst (λ es. Along SaidBehind run (line ∷ map writes es)) (sym start_wrote) (start_said, (tt, (tt, tt)))

line_said : (run : List Act) (w : World) (line : Line) (d : Done) → Front run w None → LineDid w line d → Along SaidBehind run (begins_line line ∷ map writes d.entries)
line_said run w _ _ f (renewed quota few) = calm_line run (Quota quota) [] refl tt
line_said run w _ d f (app_began name short few) = start_along run w name f
line_said run w _ d f (reader_began few) =
    calm_line run Reader_line d.entries refl
    (record { aside = record { other = refl; none = λ before. refl }; nothing = λ before. tt }, (record { aside = record { other = refl; none = λ before. refl }; nothing = λ before. tt }, tt))
line_said run w _ _ f (edited_app app conn edit e before after h who role done_ can) =
    subst (λ k. Along SaidBehind run (begins_line (Edit_line app edit) ∷ map writes (map (did_so k) after.out))) (sym (number_at w.ends conn app e h.there who))
    (edit_said run (Edit_line app edit) app before after edit refl (edits_of run w f conn app e before h.there who role) done_, done_along (run ++ begins_line (Edit_line app edit) ∷ []) app after.out)
line_said run w _ d f (called_app reader app node conn deed e hearer h who role) =
    calm_line run (Call reader app node deed) d.entries refl (calm_sent (party_at w.ends conn) _ (λ a. no_app_reader reader a (party_at w.ends conn) (ap whose h.there ∙ who)), tt)
line_said run w _ _ f (swapped app) = calm_line run (Swap app) [] refl tt
line_said run w _ _ f (app_stopped app d b who) =
    calm_line run (Exit app) d.entries refl (subst (λ (x : Done). AllByRecursion IsCalm x.entries) (sym b.is) (record { aside = record { other = refl; none = λ before. refl }; nothing = λ before. tt }, tt))
line_said run w _ _ f (reader_stopped reader d b who) =
    calm_line run (Leave reader) d.entries refl (subst (λ (x : Done). AllByRecursion IsCalm x.entries) (sym b.is) (record { aside = record { other = refl; none = λ before. refl }; nothing = λ before. tt }, tt))
line_said run w _ d f (showed reader app conn e hearer there who role) =
    calm_line run (Show reader app) d.entries refl (record { aside = record { other = refl; none = λ before. refl }; nothing = λ before. tt }, tt)

-- TURNS
pub record TurnSaid (front : List Act) (es : List Entry) : Type 0 where
  pub aside : AllByRecursion IsAside (reaction (map writes es))
  pub along : Along SaidBehind front (map writes es)

calm_turn : (front : List Act) (es : List Entry) → AllByRecursion IsCalm es → TurnSaid front es
calm_turn front es a = record { aside = next_aside is_done_at es (all_aside es a); along = calm_along front es a }

-- an application takes a message
app_said : (front : List Act) (w : World) (d : Done) (f : Front front w None) (b : AppTakes w d) (free : Option ℕ) → Front (front ++ map writes d.entries) d.world free → TurnSaid front d.entries
app_said front w d f b free g =
    let m : Envelope = b.letter.said.message in
    let t : Exporter = app_takes b.before m in
    let first : Act = writes (got (App b.app) b.letter.from m.serial) in
    let its : List Act = map writes (map (did_so b.app) t.out) in
    let known : IsKnown front b.app b.before = (knows_front front w None f).0 b.conn b.app b.e b.before b.is_here.there b.whose b.role b.is_here.standing in
    let after : AreCalls t.phase (calls_of (front ++ map writes d.entries) b.app) =
    ((knows_front (front ++ map writes d.entries) d.world free g).0 b.conn b.app (has_done b.before t (taken_down b.e)) (record t { out = [] }) (there_now front w f d b) b.whose refl b.is_here.standing).calls in
    let its_calls : calls_of (front ++ map writes d.entries) b.app ≡ calls_of front b.app ++ filter is_call (sends_in t.out) =
    ap (λ es. calls_of (front ++ map writes es) b.app) (it_wrote front w f d b) ∙ calls_more front (first ∷ its) b.app ∙ ap (λ l. calls_of front b.app ++ filter is_call l) (sent_here b.app t.out) in
    let said : map (did_so b.app) t.out ≡ put_in (front ++ first ∷ []) (b.app, words_to front b.app m) (filter is_other (map (did_so b.app) t.out)) =
    said_so front b.app b.before m (it_tells front w f d b known) b.letter.from m.serial t (it_took front w f d b) (subst (AreCalls t.phase) its_calls after) in
    let due : words_due front first ≡ (b.app, words_to front b.app m) =
    ap (λ l. (b.app, flat_map (words_to front b.app) l)) (handed_it front w f d b) ∙ ap (λ l. (b.app, l)) (append-nil (words_to front b.app m)) in
    let first_said : IsSaid false front first its =
    subst (λ es. es ≡ put_in (front ++ first ∷ []) (words_due front first) (filter is_other es)) (sym (all_done b.app t.out))
    (subst (λ ws. map (did_so b.app) t.out ≡ put_in (front ++ first ∷ []) ws (filter is_other (map (did_so b.app) t.out))) (sym due) said) in
    subst (TurnSaid front) (sym (it_wrote front w f d b)) (record { aside = tt; along = (first_said, done_along (front ++ first ∷ []) b.app t.out) })

-- what a reader tells and speaks
reader_calm : (r : ℕ) (h : Hearer) (ends : List End) (letter : Letter) → AllByRecursion IsCalm (heard_entries r h ends letter)
reader_calm r h ends letter =
    heard_all IsCalm (λ n a line. record { aside = record { other = refl; none = λ before. refl }; nothing = λ before. tt }) (λ n a. record { aside = record { other = refl; none = λ before. refl }; nothing = λ before. tt }) r h ends letter

turn_said : (front : List Act) (w : World) (c : Cause) (d : Done) → Front front w None → TurnDid w c d → Front (front ++ map writes d.entries) d.world (freed c) → TurnSaid front d.entries
turn_said front w _ d f (told_busy turns) g = calm_turn front d.entries (record { aside = record { other = refl; none = λ before. refl }; nothing = λ before. refl }, tt)
turn_said front w _ d f (told_quiet none) g = calm_turn front d.entries (record { aside = record { other = refl; none = λ before. refl }; nothing = λ before. refl }, tt)
turn_said front w _ _ f (bus_took d b) g =
    let c = carrying.takes (record { bus = w.bus; ends = w.ends }) b.conn b.e.who b.said in
    calm_turn front d.entries
    (subst (λ (x : Done). AllByRecursion IsCalm x.entries) (sym b.is)
    (record { aside = record { other = refl; none = λ before. refl }; nothing = λ before. refl }, of_bus_all IsCalm bus_calm c.ends c.bus.own c.bus.closings))
turn_said front w _ _ f (bus_ended d b) g =
    let c = carrying.takes_end (record { bus = w.bus; ends = w.ends }) b.conn in
    calm_turn front d.entries (subst (λ (x : Done). AllByRecursion IsCalm x.entries) (sym b.is) (of_bus_all IsCalm bus_calm c.ends c.bus.own c.bus.closings))
turn_said front w _ _ f (registry_took d b) g =
    calm_turn front d.entries
    (subst (λ (x : Done). AllByRecursion IsCalm x.entries) (sym b.is) (
      calm_got b.e.who b.letter.from b.letter.said.message.serial (λ a. no_app_registry a b.e.who b.whose),
      sent_all IsCalm b.e.who (λ e. calm_sent b.e.who e (λ a. no_app_registry a b.e.who b.whose)) (registry_takes b.before b.letter.said.message).sent,
    ))
turn_said front w _ _ f (app_took d b) g = app_said front w d f b (freed (gets b.conn)) g
turn_said front w _ _ f (reader_took d b) g =
    calm_turn front d.entries
    (subst (λ (x : Done). AllByRecursion IsCalm x.entries) (sym b.is) (
      calm_got b.e.who b.letter.from b.letter.said.message.serial (λ a. no_app_reader b.reader a b.e.who b.whose),
      reader_calm (number_of b.e.who) b.hearer (received w b.conn b.e b.letter).ends b.letter,
    ))

-- WHAT STANDS BEHIND A TURN stops what stood before: a message that is taken, a word, or the end of one that stopped
abbrev NotEnded : Next → Type 0
NotEnded (cause (unjoins conn) v left) = ⊥
NotEnded next = Unit {0}

down_taken : (w : World) (conn count : ℕ) (st : Standing) (m : ℕ) (link : List Letter) → NotEnded (next_down w conn count st m link)
down_taken w conn count stands_here m (letter ∷ rest) = by (nat_le (missing letter.said.message m) count)
  where
    by : (b : Bool) → NotEnded (if b then cause (gets conn) w (moving_down conn (count - missing letter.said.message m)) else rests (moved_down w conn count))
    by true = tt
    by false = tt
down_taken w conn count stands_here m [] = tt
down_taken w conn count stopped m link = tt
down_taken w conn count away m link = tt

at_end_taken : (w : World) (o : Option End) (next : End → Next) → ((e : End) → NotEnded (next e)) → NotEnded (of_end w o next)
at_end_taken w None next f = tt
at_end_taken w (Some e) next f = f e

unjoin_moves : (w : World) (work left : Work) (conn : ℕ) → IsBare work → next_work w work ≡ cause (unjoins conn) w left → moves_for w work (unjoins conn) ≡ takes_end (party_at w.ends conn) ∷ []
unjoin_moves w (turning count n) left conn b is = refl
unjoin_moves w draining left conn b is = refl
unjoin_moves w (moving_up k count) left conn b is = refl
unjoin_moves w resting left conn b is = absurd (subst NotEnded is tt)
unjoin_moves w (doing c) left conn b is = absurd b
unjoin_moves w (moving_down k count) left conn b is =
    absurd (subst NotEnded is (at_end_taken w (end_at w.ends k) (λ e. next_down w k count e.standing e.down_moved e.down) (λ e. down_taken w k count e.standing e.down_moved e.down)))

turn_stops : (w : World) (work left : Work) (c : Cause) (d : Done) → TurnDid w c d → IsBare work → next_work w work ≡ cause c w left → AllMoves (moves_for w work c) → reaction (moves_for w work c ++ map writes d.entries) ≡ []
turn_stops w work left _ d (told_busy turns) b is m = moves_stop (moves_for w work (tells_busy turns)) (map writes d.entries) m refl
turn_stops w work left _ d (told_quiet none) b is m = moves_stop (moves_for w work tells_quiet) (map writes d.entries) m refl
turn_stops w work left _ _ (bus_took d x) b is m = moves_stop (moves_for w work (routes x.conn)) (map writes d.entries) m (subst (λ (y : Done). reaction (map writes y.entries) ≡ []) (sym x.is) refl)
turn_stops w work left _ _ (bus_ended d x) b is m = ap (λ moves. reaction (moves ++ map writes d.entries)) (unjoin_moves w work left x.conn b is)
turn_stops w work left _ _ (registry_took d x) b is m = moves_stop (moves_for w work (gets x.conn)) (map writes d.entries) m (subst (λ (y : Done). reaction (map writes y.entries) ≡ []) (sym x.is) refl)
turn_stops w work left _ _ (app_took d x) b is m = moves_stop (moves_for w work (gets x.conn)) (map writes d.entries) m (subst (λ (y : Done). reaction (map writes y.entries) ≡ []) (sym x.is) refl)
turn_stops w work left _ _ (reader_took d x) b is m = moves_stop (moves_for w work (gets x.conn)) (map writes d.entries) m (subst (λ (y : Done). reaction (map writes y.entries) ≡ []) (sym x.is) refl)

-- A READER'S OWN CALL stands behind what it takes and tells
calls_behind : (front : List Act) (w : World) (c : Cause) (d : Done) → TurnDid w c d → LawOfApplications false front → (conn r : ℕ) (m : Envelope) (q : Question) → freed c ≡ Some conn → Asks d.world conn r m q
    → LawOfApplications false (front ++ (map writes d.entries ++ writes (sent (Reader r) m) ∷ []))
calls_behind front w _ _ (told_busy turns) law conn r m q h a = absurd (no_none conn h)
calls_behind front w _ _ (told_quiet none) law conn r m q h a = absurd (no_none conn h)
calls_behind front w _ _ (bus_took d b) law conn r m q h a = absurd (no_none conn h)
calls_behind front w _ _ (bus_ended d b) law conn r m q h a = absurd (no_none conn h)
calls_behind front w _ _ (registry_took d b) law conn r m q h a =
    let x = (registry_over w d b).back conn a.asker a.is_here.there in
    let same : x.0 ≡ b.e = same_some x.0 b.e (sym x.1 ∙ ap (end_at w.ends) (sym (same_some b.conn conn h)) ∙ b.is_here.there) in
    absurd (no (sym a.whose ∙ x.2.whose ∙ ap (λ (e : End). e.who) same ∙ b.whose))
  where
    no : Reader r ≡ Registry → ⊥
    no z = cc
calls_behind front w _ _ (app_took d b) law conn r m q h a =
    let x = (app_takes_over w d b).back conn a.asker a.is_here.there in
    let same : x.0 ≡ b.e = same_some x.0 b.e (sym x.1 ∙ ap (end_at w.ends) (sym (same_some b.conn conn h)) ∙ b.is_here.there) in
    absurd (no b.app (sym a.whose ∙ x.2.whose ∙ ap (λ (e : End). e.who) same ∙ b.whose))
  where
    no : (k : ℕ) → Reader r ≡ App k → ⊥
    no k z = cc
calls_behind front w _ _ (reader_took d b) law conn r m q h a =
    let es : List Entry = heard_entries (number_of b.e.who) b.hearer (received w b.conn b.e b.letter).ends b.letter in
    let first : Entry = got b.e.who b.letter.from b.letter.said.message.serial in
    let whole : List Entry = first ∷ (es ++ sent (Reader r) m ∷ []) in
    let calm : AllByRecursion IsCalm whole = (
      calm_got b.e.who b.letter.from b.letter.said.message.serial (λ k. no_app_reader b.reader k b.e.who b.whose),
      all_append IsCalm es (sent (Reader r) m ∷ []) (reader_calm (number_of b.e.who) b.hearer (received w b.conn b.e b.letter).ends b.letter) (calm_sent (Reader r) m (λ k z. no_app_reader r k (Reader r) refl z), tt),
    ) in
    let acts : map writes whole ≡ map writes d.entries ++ writes (sent (Reader r) m) ∷ [] =
    map-append writes (first ∷ es) (sent (Reader r) m ∷ []) ∙ ap (λ (y : Done). map writes y.entries ++ writes (sent (Reader r) m) ∷ []) (sym b.is) in
    subst (λ l. LawOfApplications false (front ++ l)) acts (said_more front (map writes whole) refl law (calm_along front whole calm))

bare_none : (run : List Act) (line : Line) → IsBareLine line → words_due run (begins_line line) ≡ (0, [])
bare_none run Blank b = refl
bare_none run (Bytes who up count) b = refl
bare_none run (Turns count) b = refl
bare_none run Drain b = refl
bare_none run (Edit_line app edit) b = absurd b
bare_none run (Quota quota) b = refl
bare_none run (App_line name) b = absurd b
bare_none run Reader_line b = refl
bare_none run (Call reader app node deed) b = refl
bare_none run (Swap app) b = refl
bare_none run (Exit app) b = refl
bare_none run (Leave reader) b = refl
bare_none run (Show reader app) b = refl

-- THE LAW, and that a reader's own call may stand behind
record SaidHold (run : List Act) (w : World) (free : Option ℕ) : Type 0 where
  law : LawOfApplications false run
  with_call : (conn r : ℕ) (m : Envelope) (q : Question) → free ≡ Some conn → Asks w conn r m q → LawOfApplications false (run ++ writes (sent (Reader r) m) ∷ [])

said_along : (run : List Act) (w : World) (free : Option ℕ) (at : Option Work) → Ran run w free at → Lives (entries_in run) → SaidHold run w free
said_along _ _ _ _ nothing_yet live = record { law = tt; with_call = λ conn r m q h a. absurd (no_none conn h) }
said_along _ _ _ _ (did run w line c r ok can is a) live =
    let acts : List Act = begins_line line ∷ map writes (does w c).entries in
    let before : Lives (entries_in run) = lived_before run acts live in
    record {
      law = said_more run acts refl (said_along run w None None r before).law (line_said run w line (does w c) (front_of run w None None r before) (line_did w line c (shape_along run w None None r) ok can a is));
      with_call = λ conn n m q h b. absurd (no_none conn (sym (no_freed w line c is) ∙ h));
    }
said_along _ _ _ _ (began run w line r ok can b) live =
    let moves : List Act = line_moves w (work_of w line) in
    let m : AllMoves moves = line_moves_are w (work_of w line) in
    let old : LawOfApplications false run = (said_along run w None None r (lived_before run (begins_line line ∷ moves) live)).law in
    record {
      law = said_more run (begins_line line ∷ moves) refl old (
        said_alone run (begins_line line) moves (bare_none run line (bare_line w line ok b)) (subst (λ l. AllByRecursion IsAside (reaction l)) (append-nil moves) (moved_reaction moves [] m tt)),
        moves_alone (run ++ begins_line line ∷ []) moves m,
      );
      with_call = λ conn n e q h x. absurd (no_none conn h);
    }
said_along _ _ _ _ (caused run w free work left c r is b a) live =
    let moves : List Act = moves_for w work c in
    let d : Done = does w c in
    let acts : List Act = moves ++ map writes d.entries in
    let before : Lives (entries_in run) = lived_before run acts live in
    let m : AllMoves moves = moves_are w work c in
    let front : List Act = run ++ moves in
    let f : Front front w None = front_moved run moves w free m (front_of run w free (Some work) r before) in
    let t : TurnDid w c d = turn_did w c (shape_along run w free (Some work) r) (bare_quiet w work left c b is) a in
    let old : LawOfApplications false run = (said_along run w free (Some work) r before).law in
    let so_far : LawOfApplications false front = said_more run moves (sym (ap reaction (append-nil moves)) ∙ moves_stop moves [] m refl) old (moves_alone run moves m) in
    let same : front ++ map writes d.entries ≡ run ++ acts = append_assoc run moves (map writes d.entries) in
    let whole : Front (front ++ map writes d.entries) d.world (freed c) =
    subst (λ l. Front l d.world (freed c)) (sym same) (front_of (run ++ acts) d.world (freed c) (Some left) (caused run w free work left c r is b a) live) in
    let turn : TurnSaid front d.entries = turn_said front w c d f t whole in
    record {
      law = said_more run acts (turn_stops w work left c d t b is m) old (moves_said run moves (map writes d.entries) m turn.aside turn.along);
      with_call = λ conn n e q h x.
          subst (LawOfApplications false) (sym (append_assoc front (map writes d.entries) (writes (sent (Reader n) e) ∷ [])) ∙ ap (λ l. l ++ writes (sent (Reader n) e) ∷ []) same)
          (calls_behind front w c d t so_far conn n e q h x);
    }
said_along _ _ _ _ (rested run w v free work r is m well) live = record { law = (said_along run w free (Some work) r live).law; with_call = λ conn n e q h x. absurd (no_none conn h) }
said_along _ _ _ _ (asked run w conn n m q work r a) live =
    record {
      law = (said_along run w (Some conn) work r (lived_before run (writes (sent (Reader n) m) ∷ []) live)).with_call conn n m q refl a;
      with_call = λ k s e p h x. absurd (no_none k h);
    }

pub apps_say : (run : List Act) (w : World) (free : Option ℕ) (at : Option Work) → Ran run w free at → Lives (entries_in run) → LawOfApplications false run
apps_say run w free at r live = (said_along run w free at r live).law
