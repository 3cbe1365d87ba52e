-- WHAT READERS CALL: Hello behind a start, a user's call behind its line, and at most one call of its own behind a message that a reader took.
use Rattle.std.proofs.Common.{◌≡◌, ℕ, suc, ◌+◌, Bool, true, false, List, [], ◌∷◌, ◌++◌, length, map, Option, None, Some, refl, sym, ap, ap₂, ◌∙◌, subst, arith}
use Rattle.std.specs.List.{AllByRecursion}
use Rattle.std.proofs.lemmas.List.{append-nil, append_assoc}
use Rattle.atspi_script_lines.specs.declared.deed.Deed.{Deed}
use Rattle.atspi_script_lines.specs.declared.line.Line.{Line}
use Rattle.atspi_script_lines.specs.declared.line.Line.TheVariants.{Blank, Quota, App as App_line, Reader as Reader_line, Edit as Edit_line, Call, Swap, Exit, Leave, Bytes, Turns, Drain, Show}
use Rattle.atspi_script_lines.specs.declared.line.Party.{Party}
use Rattle.atspi_script_lines.specs.declared.line.Party.TheVariants.{Bus as The_bus, Registry, App, Reader}
use Rattle.atspi_message.specs.Envelope.{Envelope}
use Rattle.atspi_protocol.specs.declared.following.question.Question.{Question}
use Rattle.atspi_protocol.specs.declared.following.question.Question.TheVariants.{Hello, AddMatch, RegisterEvent, GetChildren, GetItems, GetPart}
use Rattle.atspi_protocol.specs.following.Calls.{asking, user_call}
use Rattle.atspi_protocol.specs.exporting.Exporter.{begins}
use Rattle.atspi_protocol.specs.exporting.Starting.{starts, name_or_empty}
use Rattle.atspi_protocol.specs.exporting.Taking.{app_takes}
use Rattle.atspi_protocol.specs.registering.Steps.{registry_takes}
use Rattle.atspi_protocol.specs.news.NewsOf.{or_empty}
use Rattle.atspi_trace.specs.Entry.{Entry, started, changed, sent, got, heard, unheard, spoke, showed as shows_rows, exited, gone, dropped, busy, quiet}
use Rattle.atspi_trace.specs.World.{Hearer, a_reader, Letter, End, World}
use Rattle.atspi_trace.specs.Ends.{number_of, whose, party_at, conn_of, end_of, end_at, end_if}
use Rattle.atspi_trace.specs.Carrying as carrying
use Rattle.atspi_trace.specs.Hearing.{may_ask, question_in, holding_of, app_ended, lines_if_held, last_lines, ended_entries, heard_entries}
use Rattle.atspi_trace.specs.Causes.{Cause, edits, calls, exits, shows, gets, Done, does}
use Rattle.atspi_trace.specs.Work as work
use Rattle.atspi_trace.specs.Work.{Refusal, no_party, if_started, if_here, call_refusal, refused, Work, resting, doing, moving_up, moving_down, turning, draining, with_conn, name_of, work_of}
use Rattle.atspi_trace.specs.Due.{freed}
use Rattle.atspi_headline.specs.Words as here
use Rattle.atspi_headline.specs.Words.{Act, begins_line, moves_bytes, takes_end, writes, entries_in, of_reader, is_a, writes_a, next_of, Along, Everywhere, Unless, questions_in, next_serial, messages}
use Rattle.atspi_headline.specs.Headline.{is_asked_ever, IsFree, MayAsk, AtMostOne, call_due, CallsAre}
use Rattle.atspi_headline_laws.specs.Laws.{CallsBehind, ReadersCallInTurn}
use Rattle.atspi_trace_laws.specs.laws.Words as told
use Rattle.atspi_trace_laws.specs.laws.NineLaws.{sent_before, IsFreeCall, IsAllowedCall, LawOfReaders}
use Rattle.atspi_trace_laws.proofs.OfOrder.Parties.{no_none, same_some}
use Rattle.atspi_trace_laws.proofs.OfOrder.Allowed.{Asks}
use Rattle.atspi_trace_laws.proofs.OfOrder.Growing.{Shaped, And}
use Rattle.atspi_trace_laws.proofs.OfOrder.Effects.{received}
use Rattle.atspi_trace_laws.proofs.OfOrder.Shaped.{app_takes_over, registry_over, reader_over}
use Rattle.atspi_trace_laws.proofs.OfSteps.LawSteps.{Below, Stepped}
use Rattle.atspi_trace_laws.proofs.OfSerials.Numbers.{Numbered}
use Rattle.atspi_trace_laws.proofs.OfSerials.LawNumbers.{numbers_keep}
use Rattle.atspi_trace_laws.proofs.OfNames.Places.{name_told, told_is}
use Rattle.atspi_trace_laws.proofs.OfSerials.Speaking as speaking
use Rattle.atspi_trace_laws.proofs.OfHeard.Quiet.{heard_all}
use Rattle.atspi_trace_laws.proofs.OfOwn.Writing.{Lives}
use Rattle.atspi_headline_laws.proofs.Ran.{Ran, nothing_yet, did, began, caused, rested, asked, moves_for, line_moves}
use Rattle.atspi_headline_laws.proofs.Making.{AllMoves, entries_more, moves_are, line_moves_are}
use Rattle.atspi_headline_laws.proofs.Keeping.{shape_along}
use Rattle.atspi_headline_laws.proofs.Reading.{messages_told}
use Rattle.atspi_headline_laws.proofs.Naming.{app_name}
use Rattle.atspi_headline_laws.proofs.Holding.{questions_same}
use Rattle.atspi_headline_laws.proofs.Dues.{along_more, along_map, unless_map, next_more}
use Rattle.atspi_headline_laws.proofs.Acting.{there_at, LineDid, line_did, renewed, app_began, reader_began, edited_app, called_app, swapped, app_stopped, reader_stopped, showed, TurnDid, turn_did, bare_quiet, told_busy, told_quiet, bus_took, bus_ended, registry_took, app_took, reader_took, IsBareLine, bare_line}
use Rattle.atspi_headline_laws.proofs.Sorting.{AppSorts, BusSorts, sent_all, app_all, of_bus_all, new_number}
use Rattle.atspi_headline_laws.proofs.Growing.{Front, front_of, front_moved, lived_before}
use Rattle.atspi_headline_laws.proofs.Handing.{named}
use Rattle.atspi_headline_laws.proofs.Replied.{free_so}
use Rattle.atspi_headline_laws.proofs.Words.{IsWordOf, free_less}
use Rattle.atspi_headline_laws.proofs.Numbering.{as_list}

-- MORE ACTS BEHIND, of which the first is no reader's message
at_most_more : (before : List Act) (r : ℕ) (behind acts : List Act) → next_of (is_a of_reader) acts ≡ [] → AtMostOne before r (next_of (is_a of_reader) behind) → AtMostOne before r (next_of (is_a of_reader) (behind ++ acts))
at_most_more before r behind acts none h = subst (AtMostOne before r) (sym (next_more (is_a of_reader) behind acts none)) h

calls_behind : (acts : List Act) → next_of (is_a of_reader) acts ≡ [] → (before : List Act) (act : Act) (behind : List Act) → CallsAre false before act behind → CallsAre false before act (behind ++ acts)
calls_behind acts none before (writes (got (Reader r) sender serial)) behind h = at_most_more (before ++ writes (got (Reader r) sender serial) ∷ []) r behind acts none h
calls_behind acts none before (writes (gone r a)) behind h = at_most_more before r behind acts none h
calls_behind acts none before (writes (spoke r a text)) behind h = at_most_more before r behind acts none h
calls_behind acts none before (writes (got The_bus sender serial)) behind h = next_more (is_a of_reader) behind acts none ∙ h
calls_behind acts none before (writes (got Registry sender serial)) behind h = next_more (is_a of_reader) behind acts none ∙ h
calls_behind acts none before (writes (got (App a) sender serial)) behind h = next_more (is_a of_reader) behind acts none ∙ h
calls_behind acts none before (writes (started (Reader r) name)) behind h = next_more (is_a of_reader) behind acts none ∙ h
calls_behind acts none before (writes (started The_bus name)) behind h = next_more (is_a of_reader) behind acts none ∙ h
calls_behind acts none before (writes (started Registry name)) behind h = next_more (is_a of_reader) behind acts none ∙ h
calls_behind acts none before (writes (started (App a) name)) behind h = next_more (is_a of_reader) behind acts none ∙ h
calls_behind acts none before (writes (changed app step)) behind h = next_more (is_a of_reader) behind acts none ∙ h
calls_behind acts none before (writes (sent who e)) behind h = next_more (is_a of_reader) behind acts none ∙ h
calls_behind acts none before (writes (heard a listener pattern)) behind h = next_more (is_a of_reader) behind acts none ∙ h
calls_behind acts none before (writes (unheard a listener pattern)) behind h = next_more (is_a of_reader) behind acts none ∙ h
calls_behind acts none before (writes (shows_rows r a rows)) behind h = next_more (is_a of_reader) behind acts none ∙ h
calls_behind acts none before (writes (exited who)) behind h = next_more (is_a of_reader) behind acts none ∙ h
calls_behind acts none before (writes (dropped who queued len)) behind h = next_more (is_a of_reader) behind acts none ∙ h
calls_behind acts none before (writes (busy turns)) behind h = next_more (is_a of_reader) behind acts none ∙ h
calls_behind acts none before (writes quiet) behind h = next_more (is_a of_reader) behind acts none ∙ h
calls_behind acts none before (begins_line line) behind h = next_more (is_a of_reader) behind acts none ∙ h
calls_behind acts none before (moves_bytes who up count) behind h = next_more (is_a of_reader) behind acts none ∙ h
calls_behind acts none before (takes_end who) behind h = next_more (is_a of_reader) behind acts none ∙ h

calls_more : (run acts : List Act) → next_of (is_a of_reader) acts ≡ [] → ReadersCallInTurn run → Along CallsBehind run acts → ReadersCallInTurn (run ++ acts)
calls_more run acts none old new =
    along_more CallsBehind [] run acts
    (along_map CallsBehind (λ before act behind. CallsBehind before act (behind ++ acts)) [] run
    (λ before act behind law. unless_map (writes_a of_reader act) (CallsAre false before act behind) (CallsAre false before act (behind ++ acts)) (calls_behind acts none before act behind) law) old)
    new

-- ACTS THAT SAY NOTHING, behind which a reader says nothing
abbrev IsHushed : Act → Type 0
IsHushed (writes (started (Reader r) name)) = ⊥
IsHushed (begins_line (Call reader app node deed)) = ⊥
IsHushed (writes (sent (Reader r) e)) = ⊥
IsHushed act = Unit {0}

none_next : (acts : List Act) → AllByRecursion IsHushed acts → next_of (is_a of_reader) acts ≡ []
none_next [] a = refl
none_next (begins_line line ∷ acts) a = refl
none_next (moves_bytes who up count ∷ acts) a = refl
none_next (takes_end who ∷ acts) a = refl
none_next (writes (sent (Reader r) e) ∷ acts) a = absurd a.0
none_next (writes (sent The_bus e) ∷ acts) a = refl
none_next (writes (sent Registry e) ∷ acts) a = refl
none_next (writes (sent (App n) e) ∷ acts) a = refl
none_next (writes (started who name) ∷ acts) a = refl
none_next (writes (changed app step) ∷ acts) a = refl
none_next (writes (got taker sender serial) ∷ acts) a = refl
none_next (writes (heard n listener pattern) ∷ acts) a = refl
none_next (writes (unheard n listener pattern) ∷ acts) a = refl
none_next (writes (spoke r n text) ∷ acts) a = refl
none_next (writes (shows_rows r n rows) ∷ acts) a = refl
none_next (writes (exited who) ∷ acts) a = refl
none_next (writes (gone r n) ∷ acts) a = refl
none_next (writes (dropped who queued len) ∷ acts) a = refl
none_next (writes (busy turns) ∷ acts) a = refl
none_next (writes quiet ∷ acts) a = refl

no_more : (before : List Act) (r : ℕ) (acts : List Act) → next_of (is_a of_reader) acts ≡ [] → AtMostOne before r (next_of (is_a of_reader) acts)
no_more before r acts none = subst (AtMostOne before r) (sym none) tt

bare_due : (before : List Act) (line : Line) → IsHushed (begins_line line) → call_due before (begins_line line) ≡ []
bare_due before (Call reader app node deed) a = absurd a
bare_due before Blank a = refl
bare_due before (Quota quota) a = refl
bare_due before (App_line name) a = refl
bare_due before Reader_line a = refl
bare_due before (Edit_line app edit) a = refl
bare_due before (Swap app) a = refl
bare_due before (Exit app) a = refl
bare_due before (Leave reader) a = refl
bare_due before (Bytes who up count) a = refl
bare_due before (Turns count) a = refl
bare_due before Drain a = refl
bare_due before (Show reader app) a = refl

hushed_at : (before : List Act) (act : Act) (acts : List Act) → IsHushed act → next_of (is_a of_reader) acts ≡ [] → CallsBehind before act acts
hushed_at before (begins_line line) acts a none = none ∙ sym (bare_due before line a)
hushed_at before (moves_bytes who up count) acts a none = none
hushed_at before (takes_end who) acts a none = none
hushed_at before (writes (got (Reader r) sender serial)) acts a none = no_more (before ++ writes (got (Reader r) sender serial) ∷ []) r acts none
hushed_at before (writes (gone r n)) acts a none = no_more before r acts none
hushed_at before (writes (spoke r n text)) acts a none = no_more before r acts none
hushed_at before (writes (got The_bus sender serial)) acts a none = none
hushed_at before (writes (got Registry sender serial)) acts a none = none
hushed_at before (writes (got (App n) sender serial)) acts a none = none
hushed_at before (writes (started (Reader r) name)) acts a none = absurd a
hushed_at before (writes (started The_bus name)) acts a none = none
hushed_at before (writes (started Registry name)) acts a none = none
hushed_at before (writes (started (App n) name)) acts a none = none
hushed_at before (writes (sent (Reader r) e)) acts a none = absurd a
hushed_at before (writes (sent The_bus e)) acts a none = none
hushed_at before (writes (sent Registry e)) acts a none = none
hushed_at before (writes (sent (App n) e)) acts a none = none
hushed_at before (writes (changed app step)) acts a none = none
hushed_at before (writes (heard n listener pattern)) acts a none = none
hushed_at before (writes (unheard n listener pattern)) acts a none = none
hushed_at before (writes (shows_rows r n rows)) acts a none = none
hushed_at before (writes (exited who)) acts a none = none
hushed_at before (writes (dropped who queued len)) acts a none = none
hushed_at before (writes (busy turns)) acts a none = none
hushed_at before (writes quiet) acts a none = none

hushed_along : (before acts : List Act) → AllByRecursion IsHushed acts → Along CallsBehind before acts
hushed_along before [] a = tt
hushed_along before (act ∷ acts) a = (hushed_at before act acts a.0 (none_next acts a.1), hushed_along (before ++ act ∷ []) acts a.1)

moves_hushed : (acts : List Act) → AllMoves acts → AllByRecursion IsHushed acts
moves_hushed [] m = tt
moves_hushed (moves_bytes who up count ∷ acts) m = (tt, moves_hushed acts m)
moves_hushed (takes_end who ∷ acts) m = (tt, moves_hushed acts m)
moves_hushed (begins_line line ∷ acts) m = absurd m
moves_hushed (writes entry ∷ acts) m = absurd m

abbrev Hushed : Entry → Type 0
Hushed entry = IsHushed (writes entry)

writes_hushed : (es : List Entry) → AllByRecursion Hushed es → AllByRecursion IsHushed (map writes es)
writes_hushed [] a = tt
writes_hushed (e ∷ es) a = (a.0, writes_hushed es a.1)

apps_hushed : AppSorts Hushed
apps_hushed = record { steps_ = λ app step. tt; sends_ = λ app e. tt; hears_ = λ app listener pattern. tt; deaf_ = λ app listener pattern. tt }

bus_hushed : BusSorts Hushed
bus_hushed = record { says_ = λ e. tt; drops_ = λ who queued len. tt }

-- LINES
app_there : (w : World) (reader app : ℕ) (node : ℕ) (deed : Deed) → refused w (Call reader app node deed) ≡ None → (a : End) × (end_of w.ends (App app) ≡ Some a)
app_there w reader app node deed ok = by (end_of w.ends (Reader reader)) (end_of w.ends (App app)) refl ok
  where
    by : (o p : Option End) → end_of w.ends (App app) ≡ p → if_started o (λ r. if_started p (λ a. if_here r (λ caller. call_refusal app caller.role))) ≡ None → (a : End) × (end_of w.ends (App app) ≡ Some a)
    by o (Some a) h k = (a, h)
    by None None h k = absurd (no_none no_party (sym k))
    by (Some r) None h k = absurd (no_none no_party (sym k))

-- an end by its party
end_there : (w : World) (who : Party) (a : End) (o : Option ℕ) → conn_of w.ends who ≡ o → end_of w.ends who ≡ Some a → (k : ℕ) × (end_at w.ends k ≡ Some a) × (a.who ≡ who)
end_there w who a None h is = absurd (no_none a (sym (ap (end_if w.ends) h) ∙ is))
end_there w who a (Some k) h is =
    let t = there_at w who k h in
    let there : end_at w.ends k ≡ Some a = sym (ap (end_if w.ends) h) ∙ is in
    (k, there, ap (λ (x : End). x.who) (same_some a t.0 (sym there ∙ t.1)) ∙ t.2)

-- the name that a user's call is for
its_name : (run : List Act) (w : World) (f : Front run w None) (app : ℕ) (a : End) → end_of w.ends (App app) ≡ Some a → name_of (end_of w.ends (App app)) ≡ or_empty (here.name_of run (App app))
its_name run w f app a is =
    let t = end_there w (App app) a (conn_of w.ends (App app)) refl is in
    let known : a.unique ≡ told.name_in (entries_in run) (App app) =
    ((named run w None f).ends t.0 a t.1).known (λ g. no (sym t.2 ∙ g)) ∙ ap (λ p. name_told (entries_in run) p) t.2 ∙ sym (told_is (entries_in run) (App app)) in
    ap name_of is ∙ ap name_or_empty known ∙ sym (app_name run app)
  where
    no : App app ≡ Registry → ⊥
    no g = cc

-- its next number
next_is : (run : List Act) (w : World) (free : Option ℕ) (f : Front run w free) (k r : ℕ) (e : End) (h : Hearer) → end_at w.ends k ≡ Some e → e.who ≡ Reader r → e.role ≡ a_reader h → h.next ≡ next_serial run (Reader r)
next_is run w free f k r e h there who role =
    let n = (f.kept (Shaped (And (And Below Stepped) Numbered)) numbers_keep).1.1.1 k e there in
    let at : h.next ≡ suc (sent_before (Reader r) + length (told.messages (entries_in run) (Reader r))) =
    ap speaking.next_of (sym role) ∙ n ∙ ap (λ p. suc (sent_before p + length (told.messages (entries_in run) p))) who in
    at ∙ ap suc (zero_plus (sent_before (Reader r)) (length (told.messages (entries_in run) (Reader r))) refl) ∙ ap (λ l. suc (length l)) (sym (messages_told run (Reader r)))
  where
    zero_plus : (k n : ℕ) → k ≡ 0 → k + n ≡ n
    zero_plus k n z = omega (arith, z)

line_calls : (run : List Act) (w : World) (line : Line) (d : Done) → refused w line ≡ None → Front run w None → LineDid w line d → Along CallsBehind run (begins_line line ∷ map writes d.entries)
line_calls run w _ _ ok f (renewed quota few) = hushed_along run (begins_line (Quota quota) ∷ []) (tt, tt)
line_calls run w _ d ok f (app_began name short few) =
    hushed_along run (begins_line (App_line name) ∷ map writes d.entries) (tt, writes_hushed d.entries (tt, app_all Hushed apps_hushed (new_number w name) (starts (begins name)).out))
line_calls run w _ _ ok f (reader_began few) = (refl, (refl, (tt, tt)))
line_calls run w _ d ok f (edited_app app conn edit e before after h who role done_ can) =
    hushed_along run (begins_line (Edit_line app edit) ∷ map writes d.entries) (tt, writes_hushed d.entries (app_all Hushed apps_hushed (number_of (party_at w.ends conn)) after.out))
line_calls run w _ d ok f (called_app reader app node conn deed e hearer h who role) =
    let a = app_there w reader app node deed ok in
    let party : party_at w.ends conn ≡ Reader reader = ap whose h.there ∙ who in
    let next : hearer.next ≡ next_serial run (Reader reader) = next_is run w None f conn reader e hearer h.there who role in
    let name : name_of (end_of w.ends (App app)) ≡ or_empty (here.name_of run (App app)) = its_name run w f app a.0 a.1 in
    let call : Envelope = user_call hearer.next (name_of (end_of w.ends (App app))) node deed in
    subst (λ p. Along CallsBehind run (begins_line (Call reader app node deed) ∷ (writes (sent p call) ∷ []))) (sym party)
    (ap₂ (λ n m. sent (Reader reader) (user_call n m node deed) ∷ []) next name, (tt, tt))
line_calls run w _ _ ok f (swapped app) = hushed_along run (begins_line (Swap app) ∷ []) (tt, tt)
line_calls run w _ _ ok f (app_stopped app d b who) =
    hushed_along run (begins_line (Exit app) ∷ map writes d.entries) (tt, writes_hushed d.entries (subst (λ (x : Done). AllByRecursion Hushed x.entries) (sym b.is) (tt, tt)))
line_calls run w _ _ ok f (reader_stopped reader d b who) =
    hushed_along run (begins_line (Leave reader) ∷ map writes d.entries) (tt, writes_hushed d.entries (subst (λ (x : Done). AllByRecursion Hushed x.entries) (sym b.is) (tt, tt)))
line_calls run w _ d ok f (showed reader app conn e hearer there who role) = hushed_along run (begins_line (Show reader app) ∷ map writes d.entries) (tt, (tt, tt))

-- TURNS
turn_hushed : (w : World) (c : Cause) (d : Done) → TurnDid w c d → AllByRecursion Hushed d.entries
turn_hushed w _ _ (told_busy turns) = (tt, tt)
turn_hushed w _ _ (told_quiet none) = (tt, tt)
turn_hushed w _ _ (bus_took d b) =
    let c = carrying.takes (record { bus = w.bus; ends = w.ends }) b.conn b.e.who b.said in
    subst (λ (x : Done). AllByRecursion Hushed x.entries) (sym b.is) (tt, of_bus_all Hushed bus_hushed c.ends c.bus.own c.bus.closings)
turn_hushed w _ _ (bus_ended d b) =
    let c = carrying.takes_end (record { bus = w.bus; ends = w.ends }) b.conn in
    subst (λ (x : Done). AllByRecursion Hushed x.entries) (sym b.is) (of_bus_all Hushed bus_hushed c.ends c.bus.own c.bus.closings)
turn_hushed w _ _ (registry_took d b) =
    subst (λ (x : Done). AllByRecursion Hushed x.entries) (sym b.is)
    (tt, sent_all Hushed b.e.who (λ e. subst (λ p. Hushed (sent p e)) (sym b.whose) tt) (registry_takes b.before b.letter.said.message).sent)
turn_hushed w _ _ (app_took d b) = subst (λ (x : Done). AllByRecursion Hushed x.entries) (sym b.is) (tt, app_all Hushed apps_hushed _ (app_takes b.before b.letter.said.message).out)
turn_hushed w _ _ (reader_took d b) =
    subst (λ (x : Done). AllByRecursion Hushed x.entries) (sym b.is)
    (tt, heard_all Hushed (λ r app line. tt) (λ r app. tt) (number_of b.e.who) b.hearer (received w b.conn b.e b.letter).ends b.letter)

-- A CALL OF ITS OWN, behind what a reader told and spoke
module _ (r : ℕ) (m : Envelope) (q : Question) (asks : question_in m ≡ Some q) where
  may : (before : List Act) → IsFree before r m q → MayAsk before r m (questions_in m)
  may before f = subst (MayAsk before r m) (sym (questions_same m ∙ ap as_list asks)) f

  one_of : (before : List Act) → IsFree before r m q → AtMostOne before r (sent (Reader r) m ∷ [])
  one_of before f = (refl, may before f)

  -- each thing that it tells or speaks stands in front of the next, and the last in front of the call
  next_word : (y : Entry) (rest : List Act) → IsWordOf r y → next_of (is_a of_reader) (writes y ∷ rest) ≡ []
  next_word (gone n a) rest w = refl
  next_word (spoke n a text) rest w = refl
  next_word (started p name) rest w = absurd w
  next_word (changed a step) rest w = absurd w
  next_word (sent p e) rest w = absurd w
  next_word (got taker sender serial) rest w = absurd w
  next_word (heard a listener pattern) rest w = absurd w
  next_word (unheard a listener pattern) rest w = absurd w
  next_word (shows_rows n a rows) rest w = absurd w
  next_word (exited p) rest w = absurd w
  next_word (dropped p queued len) rest w = absurd w
  next_word (busy turns) rest w = absurd w
  next_word quiet rest w = absurd w

  before_call : (before behind : List Act) (words : List Entry) → AllByRecursion (IsWordOf r) words → (words ≡ [] → IsFree before r m q)
      → AtMostOne before r (next_of (is_a of_reader) (map writes words ++ writes (sent (Reader r) m) ∷ []))
  before_call before behind [] a f = one_of before (f refl)
  before_call before behind (y ∷ words) a f = no_more before r (writes y ∷ (map writes words ++ writes (sent (Reader r) m) ∷ [])) (next_word y (map writes words ++ writes (sent (Reader r) m) ∷ []) a.0)

  at_word : (before : List Act) (x : Entry) (words : List Entry) → IsWordOf r x → AllByRecursion (IsWordOf r) words → IsFree (before ++ writes x ∷ map writes words) r m q
      → CallsBehind before (writes x) (map writes words ++ writes (sent (Reader r) m) ∷ [])
  at_word before (gone n a) words w all f =
      subst (λ k. AtMostOne before k (next_of (is_a of_reader) (map writes words ++ writes (sent (Reader r) m) ∷ []))) (sym w)
      (before_call before [] words all (λ none. free_less before r (gone n a) w r m q (subst (λ l. IsFree (before ++ writes (gone n a) ∷ map writes l) r m q) none f)))
  at_word before (spoke n a text) words w all f =
      subst (λ k. AtMostOne before k (next_of (is_a of_reader) (map writes words ++ writes (sent (Reader r) m) ∷ []))) (sym w)
      (before_call before [] words all (λ none. free_less before r (spoke n a text) w r m q (subst (λ l. IsFree (before ++ writes (spoke n a text) ∷ map writes l) r m q) none f)))
  at_word before (started p name) words w all f = absurd w
  at_word before (changed a step) words w all f = absurd w
  at_word before (sent p e) words w all f = absurd w
  at_word before (got taker sender serial) words w all f = absurd w
  at_word before (heard a listener pattern) words w all f = absurd w
  at_word before (unheard a listener pattern) words w all f = absurd w
  at_word before (shows_rows n a rows) words w all f = absurd w
  at_word before (exited p) words w all f = absurd w
  at_word before (dropped p queued len) words w all f = absurd w
  at_word before (busy turns) words w all f = absurd w
  at_word before quiet words w all f = absurd w

  words_along : (before : List Act) (words : List Entry) → AllByRecursion (IsWordOf r) words → IsFree (before ++ map writes words) r m q → Along CallsBehind before (map writes words ++ writes (sent (Reader r) m) ∷ [])
  words_along before [] a f = (tt, tt)
  words_along before (x ∷ words) a f =
      (at_word before x words a.0 a.1 f, words_along (before ++ writes x ∷ []) words a.1 (subst (λ l. IsFree l r m q) (sym (append_assoc before (writes x ∷ []) (map writes words))) f))

  pub call_along : (front : List Act) (from : Party) (serial : ℕ) (words : List Entry) → AllByRecursion (IsWordOf r) words → IsFree (front ++ writes (got (Reader r) from serial) ∷ map writes words) r m q
      → Along CallsBehind front (writes (got (Reader r) from serial) ∷ (map writes words ++ writes (sent (Reader r) m) ∷ []))
  call_along front from serial words a f =
      let at : IsFree ((front ++ writes (got (Reader r) from serial) ∷ []) ++ map writes words) r m q =
      subst (λ l. IsFree l r m q) (sym (append_assoc front (writes (got (Reader r) from serial) ∷ []) (map writes words))) f in (
        before_call (front ++ writes (got (Reader r) from serial) ∷ []) [] words a
            (λ none. subst (λ l. IsFree l r m q) (append-nil (front ++ writes (got (Reader r) from serial) ∷ [])) (subst (λ l. IsFree ((front ++ writes (got (Reader r) from serial) ∷ []) ++ map writes l) r m q) none at)),
        words_along (front ++ writes (got (Reader r) from serial) ∷ []) words a at,
      )

-- what a reader tells and speaks
spoken_words : (r a : ℕ) (lines : List (List ℕ)) → AllByRecursion (IsWordOf r) (map (spoke r a) lines)
spoken_words r a [] = tt
spoken_words r a (line ∷ lines) = (refl, spoken_words r a lines)

ended_words : (r : ℕ) (h : Hearer) (o : Option ℕ) → AllByRecursion (IsWordOf r) (ended_entries r h o)
ended_words r h None = tt
ended_words r h (Some a) = (refl, spoken_words r a (last_lines (holding_of a h.holds)))

words_by : (r : ℕ) (h : Hearer) (ends : List End) (letter : Letter) (from : Party) → AllByRecursion (IsWordOf r) (heard_entries r h ends (record letter { from = from }))
words_by r h ends letter (App a) = spoken_words r a (lines_if_held (holding_of a h.holds) letter.said)
words_by r h ends letter The_bus = ended_words r h (app_ended ends (record letter { from = The_bus }))
words_by r h ends letter Registry = tt
words_by r h ends letter (Reader q) = tt

-- what may be asked at all
asked_ever : (h : Hearer) (q : Question) → may_ask h q ≡ true → is_asked_ever q ≡ true
asked_ever h Hello may_it = refl
asked_ever h (AddMatch rule) may_it = may_it
asked_ever h (RegisterEvent pattern) may_it = may_it
asked_ever h GetChildren may_it = refl
asked_ever h (GetItems name) may_it = refl
asked_ever h (GetPart name path part) may_it = refl

same_reader : (r s : ℕ) → Reader r ≡ Reader s → r ≡ s
same_reader r s h = ap number_of h

with_turn : (front : List Act) (w : World) (c : Cause) (d : Done) → Front front w None → TurnDid w c d → Front (front ++ map writes d.entries) d.world (freed c) → ReadersCallInTurn front
    → (conn r : ℕ) (m : Envelope) (q : Question) → freed c ≡ Some conn → Asks d.world conn r m q → IsFreeCall (entries_in (front ++ map writes d.entries)) r m q
    → ReadersCallInTurn (front ++ (map writes d.entries ++ writes (sent (Reader r) m) ∷ []))
with_turn front w _ _ f (told_busy turns) g law conn r m q h a free = absurd (no_none conn h)
with_turn front w _ _ f (told_quiet none) g law conn r m q h a free = absurd (no_none conn h)
with_turn front w _ _ f (bus_took d b) g law conn r m q h a free = absurd (no_none conn h)
with_turn front w _ _ f (bus_ended d b) g law conn r m q h a free = absurd (no_none conn h)
with_turn front w _ _ f (registry_took d b) g law conn r m q h a free =
    let x = (registry_over w d b).back conn a.asker a.is_here.there in
    let same : x.0 ≡ b.e = same_some x.0 b.e (sym x.1 ∙ ap (end_at w.ends) (sym (same_some b.conn conn h)) ∙ b.is_here.there) in
    absurd (no (sym a.whose ∙ x.2.whose ∙ ap (λ (e : End). e.who) same ∙ b.whose))
  where
    no : Reader r ≡ Registry → ⊥
    no z = cc
with_turn front w _ _ f (app_took d b) g law conn r m q h a free =
    let x = (app_takes_over w d b).back conn a.asker a.is_here.there in
    let same : x.0 ≡ b.e = same_some x.0 b.e (sym x.1 ∙ ap (end_at w.ends) (sym (same_some b.conn conn h)) ∙ b.is_here.there) in
    absurd (no b.app (sym a.whose ∙ x.2.whose ∙ ap (λ (e : End). e.who) same ∙ b.whose))
  where
    no : (n : ℕ) → Reader r ≡ App n → ⊥
    no n z = cc
with_turn front w _ _ f (reader_took d b) g law conn r m q h a free =
    let v : World = received w b.conn b.e b.letter in
    let x = (reader_over w d b).back conn a.asker a.is_here.there in
    let same : x.0 ≡ b.e = same_some x.0 b.e (sym x.1 ∙ ap (end_at w.ends) (sym (same_some b.conn conn h)) ∙ b.is_here.there) in
    let who : r ≡ b.reader = same_reader r b.reader (sym a.whose ∙ x.2.whose ∙ ap (λ (e : End). e.who) same ∙ b.whose) in
    let its : b.e.who ≡ Reader r = b.whose ∙ ap Reader (sym who) in
    let words : List Entry = heard_entries r b.hearer v.ends b.letter in
    let wrote : d.entries ≡ got (Reader r) b.letter.from b.letter.said.message.serial ∷ words =
    ap (λ (y : Done). y.entries) b.is ∙ ap₂ (λ p n. got p b.letter.from b.letter.said.message.serial ∷ heard_entries n b.hearer v.ends b.letter) its (ap number_of its) in
    let next : a.hearer.next ≡ next_serial (front ++ map writes d.entries) (Reader r) = next_is (front ++ map writes d.entries) d.world (freed (gets b.conn)) g conn r a.asker a.hearer a.is_here.there a.whose a.reader in
    let may_so : IsFree (front ++ map writes d.entries) r m q =
    free_so (front ++ map writes d.entries) d.world (freed (gets b.conn)) g r m q (a.spelled ∙ ap (λ n. asking n q) next) (asked_ever a.hearer q a.allowed) free in
    let at : IsFree (front ++ writes (got (Reader r) b.letter.from b.letter.said.message.serial) ∷ map writes words) r m q = subst (λ es. IsFree (front ++ map writes es) r m q) wrote may_so in
    subst (λ es. ReadersCallInTurn (front ++ (map writes es ++ writes (sent (Reader r) m) ∷ []))) (sym wrote)
    (calls_more front (writes (got (Reader r) b.letter.from b.letter.said.message.serial) ∷ (map writes words ++ writes (sent (Reader r) m) ∷ [])) refl law
    (call_along r m q a.read front b.letter.from b.letter.said.message.serial words (words_by r b.hearer v.ends b.letter b.letter.from) at))

-- no cause of a line frees anybody
abbrev freed_in : Work → Option ℕ
freed_in (doing c) = freed c
freed_in left = None

conn_free : (o : Option ℕ) (make : ℕ → Cause) → ((k : ℕ) → freed (make k) ≡ None) → freed_in (with_conn o (λ conn. doing (make conn))) ≡ None
conn_free None make f = refl
conn_free (Some k) make f = f k

moving_free : (o : Option ℕ) (up : Bool) (count : ℕ) → freed_in (with_conn o (work.moving up count)) ≡ None
moving_free None up count = refl
moving_free (Some k) true count = refl
moving_free (Some k) false count = refl

line_free : (w : World) (line : Line) → freed_in (work_of w line) ≡ None
line_free w Blank = refl
line_free w (Quota quota) = refl
line_free w (App_line name) = refl
line_free w Reader_line = refl
line_free w (Edit_line app edit) = conn_free (conn_of w.ends (App app)) (λ conn. edits conn edit) (λ k. refl)
line_free w (Call reader app node deed) = conn_free (conn_of w.ends (Reader reader)) (λ conn. calls conn (name_of (end_of w.ends (App app))) node deed) (λ k. refl)
line_free w (Swap app) = refl
line_free w (Exit app) = conn_free (conn_of w.ends (App app)) exits (λ k. refl)
line_free w (Leave reader) = conn_free (conn_of w.ends (Reader reader)) exits (λ k. refl)
line_free w (Bytes who up count) = moving_free (conn_of w.ends who) up count
line_free w (Turns count) = refl
line_free w Drain = refl
line_free w (Show reader app) = conn_free (conn_of w.ends (Reader reader)) (λ conn. shows conn app) (λ k. refl)

pub no_freed : (w : World) (line : Line) (c : Cause) → work_of w line ≡ doing c → freed c ≡ None
no_freed w line c is = sym (ap freed_in is) ∙ line_free w line

-- FRONTS of a trace that meets the law of readers
allowed_front : (ys before : List Entry) (entry : Entry) (behind : List Entry) → IsAllowedCall before entry (behind ++ ys) → IsAllowedCall before entry behind
allowed_front ys before (sent (Reader r) e) behind h = h
allowed_front ys before (sent The_bus e) behind h = tt
allowed_front ys before (sent Registry e) behind h = tt
allowed_front ys before (sent (App a) e) behind h = tt
allowed_front ys before (started p name) behind h = tt
allowed_front ys before (changed a step) behind h = tt
allowed_front ys before (got taker sender serial) behind h = tt
allowed_front ys before (heard a listener pattern) behind h = tt
allowed_front ys before (unheard a listener pattern) behind h = tt
allowed_front ys before (spoke r a text) behind h = tt
allowed_front ys before (shows_rows r a rows) behind h = tt
allowed_front ys before (exited p) behind h = tt
allowed_front ys before (gone r a) behind h = tt
allowed_front ys before (dropped p queued len) behind h = tt
allowed_front ys before (busy turns) behind h = tt
allowed_front ys before quiet behind h = tt

readers_front : (run acts : List Act) → LawOfReaders (entries_in (run ++ acts)) → LawOfReaders (entries_in run)
readers_front run acts law before entry behind h =
    allowed_front (entries_in acts) before entry behind
    (law before entry (behind ++ entries_in acts) (entries_more run acts ∙ ap (λ l. l ++ entries_in acts) h ∙ append_assoc before (entry ∷ behind) (entries_in acts)))

call_allowed : (run : List Act) (r : ℕ) (m : Envelope) (q : Question) → LawOfReaders (entries_in (run ++ writes (sent (Reader r) m) ∷ [])) → question_in m ≡ Some q → IsFreeCall (entries_in run) r m q
call_allowed run r m q law asks = law (entries_in run) (sent (Reader r) m) [] (entries_more run (writes (sent (Reader r) m) ∷ [])) q asks

-- THE LAW, and that a call of its own may stand behind
pub record CallsHold (run : List Act) (w : World) (free : Option ℕ) : Type 0 where
  pub law : ReadersCallInTurn run
  pub with_call : (conn r : ℕ) (m : Envelope) (q : Question) → free ≡ Some conn → Asks w conn r m q → IsFreeCall (entries_in run) r m q → ReadersCallInTurn (run ++ writes (sent (Reader r) m) ∷ [])

calls_along : (run : List Act) (w : World) (free : Option ℕ) (at : Option Work) → Ran run w free at → Lives (entries_in run) → LawOfReaders (entries_in run) → CallsHold run w free
calls_along _ _ _ _ nothing_yet live readers = record { law = tt; with_call = λ conn r m q h a c. absurd (no_none conn h) }
calls_along _ _ _ _ (did run w line c r ok can is a) live readers =
    let acts : List Act = begins_line line ∷ map writes (does w c).entries in
    let before : Lives (entries_in run) = lived_before run acts live in
    let old : ReadersCallInTurn run = (calls_along run w None None r before (readers_front run acts readers)).law in
    record {
      law = calls_more run acts refl old (line_calls run w line (does w c) ok (front_of run w None None r before) (line_did w line c (shape_along run w None None r) ok can a is));
      with_call = λ conn n m q h b f. absurd (no_none conn (sym (no_freed w line c is) ∙ h));
    }
calls_along _ _ _ _ (began run w line r ok can b) live readers =
    let acts : List Act = begins_line line ∷ line_moves w (work_of w line) in
    let old : ReadersCallInTurn run = (calls_along run w None None r (lived_before run acts live) (readers_front run acts readers)).law in
    record {
      law = calls_more run acts refl old (hushed_along run acts (bare_hushed line (bare_line w line ok b), moves_hushed (line_moves w (work_of w line)) (line_moves_are w (work_of w line))));
      with_call = λ conn n m q h x f. absurd (no_none conn h);
    }
  where
    bare_hushed : (l : Line) → IsBareLine l → IsHushed (begins_line l)
    bare_hushed Blank x = tt
    bare_hushed (Bytes who up count) x = tt
    bare_hushed (Turns count) x = tt
    bare_hushed Drain x = tt
    bare_hushed l x = absurd x
calls_along _ _ _ _ (caused run w free work left c r is b a) live readers =
    let moves : List Act = moves_for w work c in
    let d : Done = does w c in
    let acts : List Act = moves ++ map writes d.entries in
    let before : Lives (entries_in run) = lived_before run acts live in
    let m : AllMoves moves = moves_are w work c in
    let front : List Act = run ++ moves in
    let f : Front front w None = front_moved run moves w free m (front_of run w free (Some work) r before) in
    let t : TurnDid w c d = turn_did w c (shape_along run w free (Some work) r) (bare_quiet w work left c b is) a in
    let old : ReadersCallInTurn run = (calls_along run w free (Some work) r before (readers_front run acts readers)).law in
    let so_far : ReadersCallInTurn front = calls_more run moves (none_next moves (moves_hushed moves m)) old (hushed_along run moves (moves_hushed moves m)) in
    let hushed : AllByRecursion IsHushed (map writes d.entries) = writes_hushed d.entries (turn_hushed w c d t) in
    let same : front ++ map writes d.entries ≡ run ++ acts = append_assoc run moves (map writes d.entries) in
    let whole : Front (front ++ map writes d.entries) d.world (freed c) =
    subst (λ l. Front l d.world (freed c)) (sym same) (front_of (run ++ acts) d.world (freed c) (Some left) (caused run w free work left c r is b a) live) in
    record {
      law = subst ReadersCallInTurn same (calls_more front (map writes d.entries) (none_next (map writes d.entries) hushed) so_far (hushed_along front (map writes d.entries) hushed));
      with_call = λ conn n e q h x g.
          subst ReadersCallInTurn (sym (append_assoc front (map writes d.entries) (writes (sent (Reader n) e) ∷ [])) ∙ ap (λ l. l ++ writes (sent (Reader n) e) ∷ []) same)
          (with_turn front w c d f t whole so_far conn n e q h x (subst (λ l. IsFreeCall (entries_in l) n e q) (sym same) g));
    }
calls_along _ _ _ _ (rested run w v free work r is m well) live readers =
    record { law = (calls_along run w free (Some work) r live readers).law; with_call = λ conn n e q h x g. absurd (no_none conn h) }
calls_along _ _ _ _ (asked run w conn n m q work r a) live readers =
    let acts : List Act = writes (sent (Reader n) m) ∷ [] in
    let old = calls_along run w (Some conn) work r (lived_before run acts live) (readers_front run acts readers) in
    record {
      law = old.with_call conn n m q refl a (call_allowed run n m q readers a.read);
      with_call = λ k s e p h x g. absurd (no_none k h);
    }

pub readers_call : (run : List Act) (w : World) (free : Option ℕ) (at : Option Work) → Ran run w free at → Lives (entries_in run) → LawOfReaders (entries_in run) → ReadersCallInTurn run
readers_call run w free at r live readers = (calls_along run w free at r live readers).law
