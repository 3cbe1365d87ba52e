-- WHAT APPLICATIONS HEAR OF changes directly behind the registry's signals and its list, and nowhere else.
use Rattle.std.proofs.Common.{◌≡◌, ℕ, ◌+◌, Bool, true, false, List, [], ◌∷◌, ◌++◌, map, Option, None, Some, refl, sym, ap, ap₂, ◌∙◌, subst}
use Rattle.std.specs.Prelude.{flat_map, Result, Ok, Err, if◌then◌else◌}
use Rattle.std.specs.List.{AllByRecursion}
use Rattle.std.proofs.lemmas.List.{append-nil}
use Rattle.atspi_tree_model.specs.declared.edit.Edit.{Edit}
use Rattle.atspi_tree_model.specs.declared.edit.EditFault.{EditFault}
use Rattle.atspi_tree_model.specs.declared.step.Step.{Step}
use Rattle.atspi_tree_model.specs.Edits.{steps_of_tree}
use Rattle.atspi_tree_model.specs.Forest.{Forest}
use Rattle.atspi_tree_model.specs.Row.{TreeRow}
use Rattle.atspi_tree_model.specs.RowRules.{rows}
use Rattle.atspi_tree_model.specs.Tree.{after as after_step}
use Rattle.atspi_script_lines.specs.declared.line.Line.{Line}
use Rattle.atspi_script_lines.specs.declared.line.Party.{Party}
use Rattle.atspi_script_lines.specs.declared.line.Party.TheVariants.{Bus as The_bus, Registry, App, Reader}
use Rattle.atspi_message.specs.Envelope.{Envelope}
use Rattle.atspi_protocol.specs.ends.Messages.{replies}
use Rattle.atspi_protocol.specs.announcing.Signals.{Signal}
use Rattle.atspi_protocol.specs.announcing.Announced.{announced}
use Rattle.atspi_protocol.specs.registering.Steps.{registry_takes}
use Rattle.atspi_protocol.specs.exporting.Exporter.{StartCall, hello, add_match, get_registered_events, embed, Happening, steps, sends, hears, deaf, Exporter, numbered, sent_in, queues}
use Rattle.atspi_protocol.specs.exporting.Hearing.{Change, exchanged, heard_after, pairs_in}
use Rattle.atspi_protocol.specs.exporting.Starting.{name_or_empty, unique_name_in, start_call, greeted, listened, goes_on}
use Rattle.atspi_protocol.specs.exporting.Telling.{asked_for, steps_told}
use Rattle.atspi_protocol.specs.exporting.Taking.{stepped, answer_to, app_takes, app_edits}
use Rattle.atspi_trace.specs.Entry.{Entry, sent, got, heard, unheard}
use Rattle.atspi_trace.specs.World.{World}
use Rattle.atspi_trace.specs.Ends.{number_of, party_at}
use Rattle.atspi_trace.specs.Carrying as carrying
use Rattle.atspi_trace.specs.Causes.{Cause, Done, did}
use Rattle.atspi_trace.specs.Work.{Work}
use Rattle.atspi_headline.specs.Words.{Act, begins_line, writes, entries_in, hearing, Along, AreDue, handed}
use Rattle.atspi_headline.specs.Headline.{hearing_of, hearing_due}
use Rattle.atspi_trace_laws.proofs.OfOrder.Growing.{Shaped, And}
use Rattle.atspi_trace_laws.proofs.OfOrder.Effects.{received}
use Rattle.atspi_trace_laws.proofs.OfSteps.Steps.{TreeIs}
use Rattle.atspi_trace_laws.proofs.OfSteps.LawSteps.{Below, Stepped, steps_keep}
use Rattle.atspi_trace_laws.proofs.OfHeard.Quiet.{heard_all}
use Rattle.atspi_trace_laws.proofs.OfHeard.Heeding.{NoListeners, IsOfListeners, heard_told, exchanged_told}
use Rattle.atspi_trace_laws.proofs.OfOwn.Writing.{Lives}
use Rattle.atspi_headline_laws.proofs.Ran.{Ran}
use Rattle.atspi_headline_laws.proofs.Dues.{IsOwed, Still, still_along, still_writes}
use Rattle.atspi_headline_laws.proofs.Acting.{LineDid, renewed, app_began, reader_began, edited_app, called_app, swapped, app_stopped, reader_stopped, showed, TurnDid, told_busy, told_quiet, bus_took, bus_ended, registry_took, app_took, reader_took}
use Rattle.atspi_headline_laws.proofs.Sorting.{BusSorts, sent_all, of_bus_all}
use Rattle.atspi_headline_laws.proofs.Growing.{Front, Written, still_written, IsLaw, law_along}
use Rattle.atspi_headline_laws.proofs.Knowing.{IsKnown}
use Rattle.atspi_headline_laws.proofs.Receiving.{Took, answers_it, heeds_it, ignores_it, starts_on, ends_so}
use Rattle.atspi_headline_laws.proofs.Answering.{Tells, hears_so}
use Rattle.atspi_headline_laws.proofs.Knows.{it_wrote, handed_it, it_tells, it_took, knows_front}

-- WHERE STEPS AND MESSAGES HAPPEN nobody's pattern changes
no_listeners_append : (hs ks : List Happening) → NoListeners hs → NoListeners ks → NoListeners (hs ++ ks)
no_listeners_append [] ks a b = b
no_listeners_append (hears listener pattern ∷ hs) ks a b = absurd a
no_listeners_append (deaf listener pattern ∷ hs) ks a b = absurd a
no_listeners_append (steps step ∷ hs) ks a b = no_listeners_append hs ks a b
no_listeners_append (sends e ∷ hs) ks a b = no_listeners_append hs ks a b

no_listeners_numbered : (n : ℕ) (hs : List Happening) → NoListeners hs → NoListeners (numbered n hs)
no_listeners_numbered n [] a = tt
no_listeners_numbered n (hears listener pattern ∷ hs) a = absurd a
no_listeners_numbered n (deaf listener pattern ∷ hs) a = absurd a
no_listeners_numbered n (steps step ∷ hs) a = no_listeners_numbered n hs a
no_listeners_numbered n (sends e ∷ hs) a = no_listeners_numbered (n + 1) hs a

no_listeners_signals : (xs : List Signal) → NoListeners (map (λ (s : Signal). sends s.message) xs)
no_listeners_signals [] = tt
no_listeners_signals (x ∷ xs) = no_listeners_signals xs

no_listeners_sends : (es : List Envelope) → NoListeners (map sends es)
no_listeners_sends [] = tt
no_listeners_sends (e ∷ es) = no_listeners_sends es

no_listeners_told : (ps : List (List ℕ × List ℕ)) (name : List ℕ) (f : Forest TreeRow) (ss : List Step) → NoListeners (steps_told ps name f ss)
no_listeners_told ps name f [] = tt
no_listeners_told ps name f (step ∷ ss) =
    no_listeners_append (map (λ (s : Signal). sends s.message) (asked_for ps (announced name f step))) (steps_told ps name (after_step rows f step) ss)
    (no_listeners_signals (asked_for ps (announced name f step))) (no_listeners_told ps name (after_step rows f step) ss)

-- CHANGES OF WHAT IS HEARD stand in front of all else
abbrev HearsFirst : List Happening → Type 0
HearsFirst [] = Unit {0}
HearsFirst (hears listener pattern ∷ hs) = HearsFirst hs
HearsFirst (deaf listener pattern ∷ hs) = HearsFirst hs
HearsFirst (steps step ∷ hs) = NoListeners hs
HearsFirst (sends e ∷ hs) = NoListeners hs

none_first : (hs : List Happening) → NoListeners hs → HearsFirst hs
none_first [] a = tt
none_first (hears listener pattern ∷ hs) a = absurd a
none_first (deaf listener pattern ∷ hs) a = absurd a
none_first (steps step ∷ hs) a = a
none_first (sends e ∷ hs) a = a

listeners_first : (n : ℕ) (hs ks : List Happening) → IsOfListeners hs → NoListeners ks → HearsFirst (numbered n hs ++ ks)
listeners_first n [] ks a b = none_first ks b
listeners_first n (hears listener pattern ∷ hs) ks a b = listeners_first n hs ks a b
listeners_first n (deaf listener pattern ∷ hs) ks a b = listeners_first n hs ks a b
listeners_first n (steps step ∷ hs) ks a b = absurd a
listeners_first n (sends e ∷ hs) ks a b = absurd a

at_empty : (out hs : List Happening) → out ≡ [] → HearsFirst hs → HearsFirst (out ++ hs)
at_empty out hs empty h = subst (λ l. HearsFirst (l ++ hs)) (sym empty) h

nothing_first : (out : List Happening) → out ≡ [] → HearsFirst out
nothing_first out empty = subst HearsFirst (sym empty) tt

goes_first : (s : Exporter) (m : Envelope) (call : StartCall) → s.out ≡ [] → HearsFirst (goes_on s call m.body).out
goes_first s m hello empty = by (unique_name_in m.body)
  where
    by : (o : Option (List ℕ)) → HearsFirst (greeted s o).out
    by None = nothing_first s.out empty
    by (Some name) = at_empty s.out (numbered s.next (sends (start_call name add_match) ∷ [])) empty tt
goes_first s m add_match empty = at_empty s.out (numbered s.next (sends (start_call (name_or_empty s.name) get_registered_events) ∷ [])) empty tt
goes_first s m embed empty = nothing_first s.out empty
goes_first s m get_registered_events empty = by (pairs_in m.body)
  where
    by : (o : Option (List (List ℕ × List ℕ))) → HearsFirst (listened s o).out
    by None = nothing_first s.out empty
    by (Some pairs) =
        let change : Change = exchanged s.heard pairs in
        let last : List Happening = numbered (s.next + sent_in change.told) (sends (start_call (name_or_empty s.name) embed) ∷ []) in
        subst (λ l. HearsFirst ((l ++ numbered s.next change.told) ++ last)) (sym empty) (listeners_first s.next change.told last (exchanged_told s.heard pairs).listeners tt)

took_first : (s t : Exporter) (m : Envelope) → s.out ≡ [] → Took s m t → HearsFirst t.out
took_first s t m empty (answers_it name caller is one from made) =
    let x = answer_to s name m in
    let hs : List Happening = steps_told s.heard name s.tree x.steps ++ map sends (replies caller m x.reply) in
    subst (λ (y : Exporter). HearsFirst y.out) (sym made)
    (at_empty s.out (numbered s.next hs) empty
    (none_first (numbered s.next hs)
    (no_listeners_numbered s.next hs
    (no_listeners_append (steps_told s.heard name s.tree x.steps) (map sends (replies caller m x.reply)) (no_listeners_told s.heard name s.tree x.steps) (no_listeners_sends (replies caller m x.reply))))))
took_first s t m empty (heeds_it name is four made) =
    subst (λ (y : Exporter). HearsFirst y.out) (sym made)
    (at_empty s.out (numbered s.next (heard_after s.heard m).told) empty
    (subst HearsFirst (append-nil (numbered s.next (heard_after s.heard m).told)) (listeners_first s.next (heard_after s.heard m).told [] (heard_told s.heard m).listeners tt)))
took_first s t m empty (ignores_it other from waits made) = subst (λ (y : Exporter). HearsFirst y.out) (sym made) (nothing_first s.out empty)
took_first s t m empty (starts_on call n at two reply made) = subst (λ (y : Exporter). HearsFirst y.out) (sym made) (goes_first s m call empty)
took_first s t m empty (ends_so call n at three reply made) = subst (λ (y : Exporter). HearsFirst y.out) (sym made) (nothing_first s.out empty)

-- AN EDIT changes no pattern
abbrev step_result : Exporter → Result (List Step) EditFault → Result Exporter EditFault
step_result s (Ok ss) = Ok (queues (stepped s ss) (steps_told s.heard (name_or_empty s.name) s.tree ss))
step_result s (Err fault) = Err fault

abbrev from_ok : Exporter → Result Exporter EditFault → Exporter
from_ok s (Ok u) = u
from_ok s (Err fault) = s

edit_listens : (s t : Exporter) (edit : Edit) → s.out ≡ [] → app_edits s edit ≡ Ok t → NoListeners t.out
edit_listens s t edit empty h = by (steps_of_tree s.tree s.added edit) refl h
  where
    by : (r : Result (List Step) EditFault) → steps_of_tree s.tree s.added edit ≡ r → app_edits s edit ≡ Ok t → NoListeners t.out
    by (Ok ss) e g =
        let hs : List Happening = steps_told s.heard (name_or_empty s.name) s.tree ss in
        let same : app_edits s edit ≡ step_result s (Ok ss) = rw e refl in
        let is : queues (stepped s ss) hs ≡ t = ap (from_ok s) (sym same ∙ g) in
        subst (λ (x : Exporter). NoListeners x.out) is
        (subst (λ l. NoListeners (l ++ numbered s.next hs)) (sym empty) (no_listeners_numbered s.next hs (no_listeners_told s.heard (name_or_empty s.name) s.tree ss)))
    by (Err fault) e g =
        let same : app_edits s edit ≡ Err fault = rw e refl in
        absurd (no (sym same ∙ g))
      where
        no : Err fault ≡ Ok t → ⊥
        no z = cc

-- ENTRIES behind which nothing is due
abbrev Stills : Entry → Type 0
Stills entry = Still hearing hearing_due (writes entry)

still_sent : (who : Party) (e : Envelope) → Stills (sent who e)
still_sent The_bus e = record { none = refl; nothing = λ before. refl }
still_sent Registry e = record { none = refl; nothing = λ before. refl }
still_sent (App a) e = record { none = refl; nothing = λ before. refl }
still_sent (Reader r) e = record { none = refl; nothing = λ before. refl }

still_got : (who from : Party) (serial : ℕ) → ((a : ℕ) → who ≡ App a → ⊥) → Stills (got who from serial)
still_got (App a) from serial other = absurd (other a refl)
still_got The_bus from serial other = record { none = refl; nothing = λ before. refl }
still_got Registry from serial other = record { none = refl; nothing = λ before. refl }
still_got (Reader r) from serial other = record { none = refl; nothing = λ before. refl }

bus_still : BusSorts Stills
bus_still = record { says_ = λ e. record { none = refl; nothing = λ before. refl }; drops_ = λ who queued len. record { none = refl; nothing = λ before. refl } }

did_still : (a : ℕ) (hs : List Happening) → NoListeners hs → AllByRecursion Stills (map (did a) hs)
did_still a [] h = tt
did_still a (steps step ∷ hs) h = (record { none = refl; nothing = λ before. refl }, did_still a hs h)
did_still a (sends e ∷ hs) h = (record { none = refl; nothing = λ before. refl }, did_still a hs h)
did_still a (hears listener pattern ∷ hs) h = absurd h
did_still a (deaf listener pattern ∷ hs) h = absurd h

-- LINES
line_stills : (run : List Act) (w : World) (line : Line) (d : Done) → Front run w None → LineDid w line d → AllByRecursion Stills d.entries
line_stills run w _ _ f (renewed quota few) = tt
line_stills run w _ d f (app_began name short few) = (record { none = refl; nothing = λ before. refl }, (record { none = refl; nothing = λ before. refl }, tt))
line_stills run w _ d f (reader_began few) = (record { none = refl; nothing = λ before. refl }, (record { none = refl; nothing = λ before. refl }, tt))
line_stills run w _ _ f (edited_app app conn edit e before after h who role done_ can) =
    let t : TreeIs (entries_in run) app before = (f.kept (Shaped (And Below Stepped)) steps_keep).1.1.1 conn app e before h.there who role in
    did_still (number_of (party_at w.ends conn)) after.out (edit_listens before after edit t.empty done_)
line_stills run w _ d f (called_app reader app node conn deed e hearer h who role) = (still_sent (party_at w.ends conn) _, tt)
line_stills run w _ _ f (swapped app) = tt
line_stills run w _ _ f (app_stopped app d b who) = subst (λ (x : Done). AllByRecursion Stills x.entries) (sym b.is) (record { none = refl; nothing = λ before. refl }, tt)
line_stills run w _ _ f (reader_stopped reader d b who) = subst (λ (x : Done). AllByRecursion Stills x.entries) (sym b.is) (record { none = refl; nothing = λ before. refl }, tt)
line_stills run w _ d f (showed reader app conn e hearer there who role) = (record { none = refl; nothing = λ before. refl }, tt)

heard_line : (run : List Act) (w : World) (line : Line) (d : Done) → Front run w None → LineDid w line d → Along (IsOwed hearing hearing_due) run (begins_line line ∷ map writes d.entries)
heard_line run w line d f l =
    still_along hearing hearing_due run (begins_line line ∷ map writes d.entries) (record { none = refl; nothing = λ before. refl }, still_writes hearing hearing_due d.entries (line_stills run w line d f l))

-- TURNS
first_along : (before : List Act) (a : ℕ) (hs : List Happening) → HearsFirst hs → Along (IsOwed hearing hearing_due) before (map writes (map (did a) hs))
first_along before a [] h = tt
first_along before a (hears listener pattern ∷ hs) h = (tt, first_along (before ++ writes (heard a listener pattern) ∷ []) a hs h)
first_along before a (deaf listener pattern ∷ hs) h = (tt, first_along (before ++ writes (unheard a listener pattern) ∷ []) a hs h)
first_along before a (steps step ∷ hs) h =
    still_along hearing hearing_due before (map writes (map (did a) (steps step ∷ hs))) (still_writes hearing hearing_due (map (did a) (steps step ∷ hs)) (did_still a (steps step ∷ hs) h))
first_along before a (sends e ∷ hs) h =
    still_along hearing hearing_due before (map writes (map (did a) (sends e ∷ hs))) (still_writes hearing hearing_due (map (did a) (sends e ∷ hs)) (did_still a (sends e ∷ hs) h))

no_app_registry : (a : ℕ) (who : Party) → who ≡ Registry → who ≡ App a → ⊥
no_app_registry a who h g = by (sym h ∙ g)
  where
    by : Registry ≡ App a → ⊥
    by e = cc

no_app_reader : (r a : ℕ) (who : Party) → who ≡ Reader r → who ≡ App a → ⊥
no_app_reader r a who h g = by (sym h ∙ g)
  where
    by : Reader r ≡ App a → ⊥
    by e = cc

still_turn : (front : List Act) (es : List Entry) → AllByRecursion Stills es → Written hearing hearing_due front es
still_turn front es a = still_written hearing hearing_due front es a

heard_turn : (front : List Act) (w : World) (c : Cause) (d : Done) → Front front w None → TurnDid w c d → Written hearing hearing_due front d.entries
heard_turn front w _ d f (told_busy turns) = still_turn front d.entries (record { none = refl; nothing = λ before. refl }, tt)
heard_turn front w _ d f (told_quiet none) = still_turn front d.entries (record { none = refl; nothing = λ before. refl }, tt)
heard_turn front w _ _ f (bus_took d b) =
    let c = carrying.takes (record { bus = w.bus; ends = w.ends }) b.conn b.e.who b.said in
    still_turn front d.entries
    (subst (λ (x : Done). AllByRecursion Stills x.entries) (sym b.is) (record { none = refl; nothing = λ before. refl }, of_bus_all Stills bus_still c.ends c.bus.own c.bus.closings))
heard_turn front w _ _ f (bus_ended d b) =
    let c = carrying.takes_end (record { bus = w.bus; ends = w.ends }) b.conn in
    still_turn front d.entries (subst (λ (x : Done). AllByRecursion Stills x.entries) (sym b.is) (of_bus_all Stills bus_still c.ends c.bus.own c.bus.closings))
heard_turn front w _ _ f (registry_took d b) =
    still_turn front d.entries
    (subst (λ (x : Done). AllByRecursion Stills x.entries) (sym b.is) (
      still_got b.e.who b.letter.from b.letter.said.message.serial (λ a. no_app_registry a b.e.who b.whose),
      sent_all Stills b.e.who (λ e. still_sent b.e.who e) (registry_takes b.before b.letter.said.message).sent,
    ))
heard_turn front w _ _ f (app_took d b) =
    let m : Envelope = b.letter.said.message in
    let t : Exporter = app_takes b.before m in
    let known : IsKnown front b.app b.before = (knows_front front w None f).0 b.conn b.app b.e b.before b.is_here.there b.whose b.role b.is_here.standing in
    let tells : Tells front b.app b.before = it_tells front w f d b known in
    let due : flat_map (hearing_of front b.app) (handed front b.letter.from m.serial) ≡ hearing_of front b.app m =
    ap (flat_map (hearing_of front b.app)) (handed_it front w f d b) ∙ append-nil (hearing_of front b.app m) in
    subst (Written hearing hearing_due front) (sym (it_wrote front w f d b)) (record {
      first = refl;
      along = (
        hears_so front b.app b.before m tells t (it_took front w f d b) ∙ sym due,
        first_along (front ++ writes (got (App b.app) b.letter.from m.serial) ∷ []) b.app t.out (took_first b.before t m tells.empty (it_took front w f d b)),
      );
    })
heard_turn front w _ _ f (reader_took d b) =
    still_turn front d.entries
    (subst (λ (x : Done). AllByRecursion Stills x.entries) (sym b.is) (
      still_got b.e.who b.letter.from b.letter.said.message.serial (λ a. no_app_reader b.reader a b.e.who b.whose),
      heard_all Stills (λ r app line. record { none = refl; nothing = λ before. refl }) (λ r app. record { none = refl; nothing = λ before. refl }) (number_of b.e.who) b.hearer (received w b.conn b.e b.letter).ends b.letter,
    ))

heard_law : IsLaw hearing hearing_due
heard_law = record {
  line = heard_line;
  turn = heard_turn;
  bare = λ line b. record { none = refl; nothing = λ before. refl };
  moving = λ who up count. record { none = refl; nothing = λ before. refl };
  ending = λ who. record { none = refl; nothing = λ before. refl };
  asks = λ r m. record { none = refl; nothing = λ before. refl };
}

pub apps_do_hear : (run : List Act) (w : World) (free : Option ℕ) (at : Option Work) → Ran run w free at → Lives (entries_in run) → AreDue false hearing hearing_due run
apps_do_hear run w free at r live = law_along hearing hearing_due heard_law run w free at r live
