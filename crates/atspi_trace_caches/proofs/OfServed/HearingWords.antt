-- What ends say, entry by entry: the registry's own interface only in signals to all, readers calls alone, applications no call but those of their start.
use Rattle.std.proofs.Common.{◌≡◌, ℕ, ◌+◌, Bool, true, false, List, [], ◌∷◌, ◌++◌, length, map, Option, None, Some, refl, sym, ap, ◌∙◌, subst}
use Rattle.std.specs.Prelude.{◌==◌, slice_get, bytes_eq, codes, encode_utf8_all, if◌then◌else◌, Result, Ok, Err}
use Rattle.std.specs.List.{AllByRecursion, list_any}
use Rattle.atspi_types.specs.Data.{Data}
use Rattle.atspi_script_lines.specs.declared.deed.Deed.{Deed}
use Rattle.atspi_script_lines.specs.declared.deed.Deed.TheVariants.{SetCaret, InsertText, DeleteText, SetText, SelectChild, DeselectChild, SelectAll, ClearSelection, DoAction}
use Rattle.atspi_script_lines.specs.declared.line.Party.{Party}
use Rattle.atspi_script_lines.specs.declared.line.Party.TheVariants.{Registry, App, Reader}
use Rattle.atspi_message.specs.Envelope.{Envelope}
use Rattle.atspi_protocol.specs.ends.Places.{registry_root}
use Rattle.atspi_protocol.specs.ends.Messages.{Reply, returns, fails, reply_to, replies, expects_reply, numbered}
use Rattle.atspi_protocol.specs.declared.members.member.ObjectMember.{ObjectMember}
use Rattle.atspi_protocol.specs.declared.members.member.ObjectMember.TheVariants as members
use Rattle.atspi_protocol.specs.members.Asked.{Asked, calls, gets, gets_all, sets, asked}
use Rattle.atspi_protocol.specs.members.Arguments.{text_at}
use Rattle.atspi_protocol.specs.registering.RegistryState.{RegistryState, is_of, has_pair, without_pair, pairs_of, pairs_without, child_place}
use Rattle.atspi_protocol.specs.registering.Told.{registered, deregistered, children_changed, is_asked_for}
use Rattle.atspi_protocol.specs.registering.Answers.{Answer, only, registers, deregisters, reference_in, new_child, adopts, news_of_removal_at, news_of_removal, releases, answers_member, object_at}
use Rattle.atspi_protocol.specs.registering.Steps.{RegistryStep, answer_to, called_by, named, hears, name_told, name_gone, takes_as, registry_takes}
use Rattle.atspi_protocol.specs.exporting.Exporter.{StartCall, hello, add_match, get_registered_events, embed, Happening, steps, sends, hears as hears_of, deaf, Exporter}
use Rattle.atspi_protocol.specs.exporting.Starting.{start_call}
use Rattle.atspi_protocol.specs.exporting.Taking.{app_takes}
use Rattle.atspi_protocol.specs.declared.news.part.PartName.TheVariants.{Text, Caret, Columns}
use Rattle.atspi_protocol.specs.declared.following.question.Question.{Question}
use Rattle.atspi_protocol.specs.declared.following.question.Question.TheVariants.{Hello, AddMatch, RegisterEvent, GetChildren, GetItems, GetPart}
use Rattle.atspi_protocol.specs.following.Calls.{asking, user_call}
use Rattle.atspi_match.specs.declared.routing.closing.Closing.{Closing}
use Rattle.atspi_trace.specs.Entry.{Entry, sent, dropped}
use Rattle.atspi_trace.specs.World.{World}
use Rattle.atspi_trace.specs.Ends.{whose, party_at, number_of}
use Rattle.atspi_trace.specs.Carrying as carrying
use Rattle.atspi_trace.specs.Causes.{Done, did, app_starts}
use Rattle.atspi_trace_laws.specs.laws.Words.{message, before_sent}
use Rattle.atspi_trace_laws.proofs.OfOrder.Parties.{false_true, all_append, all_back}
use Rattle.atspi_trace_laws.proofs.OfOrder.BusWords.{bus_all}
use Rattle.atspi_trace_laws.proofs.OfOrder.Effects.{received, Effect, resets, app_joins, reader_joins, app_edited, app_took, reader_called, swapped, exited_, showed_, told_busy, told_quiet, bus_took, bus_ended, registry_took, reader_took}
use Rattle.atspi_trace_laws.proofs.OfOrder.Growing.{Grows}
use Rattle.atspi_trace_laws.proofs.OfSteps.Steps.{Trees}
use Rattle.atspi_trace_laws.proofs.OfHeard.Heeding.{IsOfListeners}
use Rattle.atspi_trace_laws.proofs.OfHeard.Quiet.{heard_all}
use Rattle.atspi_trace_laws.proofs.OfTaken.Found.{sent_split}
use Rattle.atspi_trace_caches.proofs.OfServed.Facts.{IsNews}
use Rattle.atspi_trace_caches.proofs.OfServed.HearingCourse.{NoCall, Course, stays, stops, meets, tunes, lists, course, edit_course}

-- THE REGISTRY: its news are signals to all
abbrev pub IsForAll : Envelope → Type 0
IsForAll m = IsNews m → (m.kind ≡ 4) × (m.destination ≡ None)

other : (m : Envelope) → (IsNews m → ⊥) → IsForAll m
other m h news = absurd (h news)

news_for_all : (b : Bool) (minor : List ℕ) (index : ℕ) (child : List ℕ × List ℕ) → AllByRecursion IsForAll (if b then children_changed minor index child ∷ [] else [])
news_for_all true minor index child = ((λ h. absurd (false_true h)), tt)
news_for_all false minor index child = tt

removal_at : (pairs : List (List ℕ × List ℕ)) (i : ℕ) (o : Option (List ℕ × List ℕ)) → AllByRecursion IsForAll (news_of_removal_at pairs i o)
removal_at pairs i None = tt
removal_at pairs i (Some child) = news_for_all (is_asked_for pairs (codes "remove")) (codes "remove") i child

removal_for_all : (pairs children : List (List ℕ × List ℕ)) (place : Option ℕ) → AllByRecursion IsForAll (news_of_removal pairs children place)
removal_for_all pairs children None = tt
removal_for_all pairs children (Some i) = removal_at pairs i (slice_get children i)

fallen_for_all : (pairs : List (List ℕ × List ℕ)) → AllByRecursion IsForAll (map deregistered pairs)
fallen_for_all [] = tt
fallen_for_all (p ∷ ps) = ((λ h. (refl, refl)), fallen_for_all ps)

abbrev SaysForAll : Answer → Type 0
SaysForAll a = AllByRecursion IsForAll a.before × AllByRecursion IsForAll a.behind

registers_say : (s : RegistryState) (caller pattern : List ℕ) → SaysForAll (registers s caller pattern)
registers_say s caller pattern = by (has_pair s.pairs caller pattern)
  where
    by : (b : Bool) → SaysForAll (if b then only s (returns []) else record (only s (returns [])) { pairs = s.pairs ++ (caller, pattern) ∷ []; before = registered (caller, pattern) ∷ [] })
    by true = (tt, tt)
    by false = (((λ h. (refl, refl)), tt), tt)

deregisters_say : (s : RegistryState) (caller pattern : List ℕ) → SaysForAll (deregisters s caller pattern)
deregisters_say s caller pattern = by (has_pair s.pairs caller pattern)
  where
    by : (b : Bool) → SaysForAll (if b then record (only s (returns [])) { pairs = without_pair s.pairs caller pattern; before = deregistered (caller, pattern) ∷ [] } else only s (returns []))
    by true = (((λ h. (refl, refl)), tt), tt)
    by false = (tt, tt)

own_say : (s : RegistryState) (b : Bool) (a : Answer) → SaysForAll a → SaysForAll (if b then a else only s (fails (codes "InvalidArgs")))
own_say s true a t = t
own_say s false a t = (tt, tt)

adopts_say : (s : RegistryState) (child : List ℕ × List ℕ) (b : Bool) → SaysForAll (if b then only s (returns (registry_root ∷ [])) else new_child s child)
adopts_say s child true = (tt, tt)
adopts_say s child false = (tt, ((λ h. absurd (false_true h)), news_for_all (is_asked_for s.pairs (codes "add")) (codes "add") (length s.children) child))

releases_say : (s : RegistryState) (caller : List ℕ) → SaysForAll (releases s caller)
releases_say s caller = (removal_for_all s.pairs s.children (child_place s.children caller), tt)

member_says : (member : ObjectMember) (s : RegistryState) (own caller : List ℕ) (args : List Data) → SaysForAll (answers_member member s own caller args)
member_says members.RegisterEvent s own caller args = registers_say s caller (text_at 0 args)
member_says members.DeregisterEvent s own caller args = deregisters_say s caller (text_at 0 args)
member_says members.Embed s own caller args =
    let child : List ℕ × List ℕ = (caller, (reference_in args).1) in
    own_say s (bytes_eq (encode_utf8_all (reference_in args).0) caller) (adopts s child) (adopts_say s child (list_any (is_of caller) s.children))
member_says members.Unembed s own caller args = own_say s (bytes_eq (encode_utf8_all (reference_in args).0) caller) (releases s caller) (releases_say s caller)
member_says _ s own caller args = (tt, tt)

answer_says : (r : Result Asked (List ℕ)) (s : RegistryState) (own caller : List ℕ) → SaysForAll (answer_to s own caller r)
answer_says (Ok (calls member args)) s own caller = member_says member s own caller args
answer_says (Ok (gets property)) s own caller = (tt, tt)
answer_says (Ok (gets_all ls)) s own caller = (tt, tt)
answer_says (Ok (sets property d)) s own caller = (tt, tt)
answer_says (Err word) s own caller = (tt, tt)

numbered_for_all : (n : ℕ) (es : List Envelope) → AllByRecursion IsForAll es → AllByRecursion IsForAll (numbered n es)
numbered_for_all n [] a = tt
numbered_for_all n (e ∷ es) a = (a.0, numbered_for_all (n + 1) es a.1)

reply_for_all : (b : Bool) (caller : List ℕ) (serial : ℕ) (reply : Reply) → AllByRecursion IsForAll (if b then reply_to caller serial reply ∷ [] else [])
reply_for_all true caller serial (returns values) = ((λ h. absurd (false_true h)), tt)
reply_for_all true caller serial (fails word) = ((λ h. absurd (false_true h)), tt)
reply_for_all false caller serial reply = tt

abbrev StepForAll : RegistryStep → Type 0
StepForAll step = AllByRecursion IsForAll step.sent

called_for_all : (s : RegistryState) (own : List ℕ) (e : Envelope) (o : Option (List ℕ)) → StepForAll (called_by s own e o)
called_for_all s own e None = tt
called_for_all s own e (Some caller) =
    let a = answer_to s own caller (asked (object_at e.path) e.interface e.member e.body) in
    let t = answer_says (asked (object_at e.path) e.interface e.member e.body) s own caller in
    let reply = replies caller e a.reply in
    numbered_for_all s.next (a.before ++ (reply ++ a.behind))
    (all_append IsForAll a.before (reply ++ a.behind) t.0 (all_append IsForAll reply a.behind (reply_for_all (expects_reply e) caller e.serial a.reply) t.1))

left_for_all : (s : RegistryState) (o : Option (List ℕ)) → StepForAll (hears s o)
left_for_all s None = tt
left_for_all s (Some word) =
    let name = encode_utf8_all word in
    let fallen = map deregistered (pairs_of s.pairs name) in
    let news = news_of_removal (pairs_without s.pairs name) s.children (child_place s.children name) in
    numbered_for_all s.next (fallen ++ news)
    (all_append IsForAll fallen news (fallen_for_all (pairs_of s.pairs name)) (removal_for_all (pairs_without s.pairs name) s.children (child_place s.children name)))

named_for_all : (s : RegistryState) (o : Option (List ℕ)) → StepForAll (named s o)
named_for_all s None = tt
named_for_all s (Some name) = tt

registry_for_all : (s : RegistryState) (e : Envelope) → StepForAll (registry_takes s e)
registry_for_all s e = by_name s.own
  where
    by : (own : List ℕ) (b : Bool) → StepForAll (if b then called_by s own e e.sender else hears s (name_gone e))
    by own true = called_for_all s own e e.sender
    by own false = left_for_all s (name_gone e)

    by_name : (o : Option (List ℕ)) → StepForAll (takes_as s e o)
    by_name None = named_for_all s (name_told s.hello e)
    by_name (Some own) = by own (e.kind == 1)

-- READERS AND APPLICATIONS
user_calls : (serial : ℕ) (name : List ℕ) (node : ℕ) (deed : Deed) → (user_call serial name node deed).kind ≡ 1
user_calls serial name node (SetCaret at) = refl
user_calls serial name node (InsertText at text) = refl
user_calls serial name node (DeleteText from to) = refl
user_calls serial name node (SetText text) = refl
user_calls serial name node (SelectChild index) = refl
user_calls serial name node (DeselectChild index) = refl
user_calls serial name node SelectAll = refl
user_calls serial name node ClearSelection = refl
user_calls serial name node (DoAction index) = refl

own_calls : (serial : ℕ) (q : Question) → (asking serial q).kind ≡ 1
own_calls serial Hello = refl
own_calls serial (AddMatch text) = refl
own_calls serial (RegisterEvent pattern) = refl
own_calls serial GetChildren = refl
own_calls serial (GetItems name) = refl
own_calls serial (GetPart name path Text) = refl
own_calls serial (GetPart name path Caret) = refl
own_calls serial (GetPart name path Columns) = refl

-- a call of an application's start
abbrev pub IsStart : Envelope → Type 0
IsStart m = (name : List ℕ) × (call : StartCall) × (m ≡ record (start_call name call) { serial = m.serial })

-- AN ENTRY
abbrev pub SaysWell : Entry → Type 0
SaysWell (sent Registry m) = IsForAll m
SaysWell (sent (Reader r) m) = m.kind ≡ 1
SaysWell (sent (App a) m) = m.kind ≡ 1 → IsStart m
SaysWell entry = Unit {0}

did_well : (app : ℕ) (hs : List Happening) → NoCall hs → AllByRecursion SaysWell (map (did app) hs)
did_well app [] n = tt
did_well app (steps step ∷ hs) n = (tt, did_well app hs n)
did_well app (sends e ∷ hs) n = ((λ one. absurd (n.0 one)), did_well app hs n.1)
did_well app (hears_of listener pattern ∷ hs) n = (tt, did_well app hs n)
did_well app (deaf listener pattern ∷ hs) n = (tt, did_well app hs n)

asks_well : (app : ℕ) (hs : List Happening) (name : List ℕ) (call : StartCall) (serial : ℕ) → IsOfListeners hs → AllByRecursion SaysWell (map (did app) (hs ++ sends (record (start_call name call) { serial = serial }) ∷ []))
asks_well app [] name call serial n = ((λ one. (name, call, refl)), tt)
asks_well app (hears_of listener pattern ∷ hs) name call serial n = (tt, asks_well app hs name call serial n)
asks_well app (deaf listener pattern ∷ hs) name call serial n = (tt, asks_well app hs name call serial n)
asks_well app (steps step ∷ hs) name call serial n = absurd n
asks_well app (sends e ∷ hs) name call serial n = absurd n

course_well : (app : ℕ) (s : Exporter) (e : Envelope) (t : Exporter) → Course s e t → AllByRecursion SaysWell (map (did app) t.out)
course_well app s e t (stays phase name next quiet) = did_well app t.out quiet
course_well app s e t (stops phase name next quiet) = did_well app t.out quiet
course_well app s e t (meets serial at a) = subst (λ l. AllByRecursion SaysWell (map (did app) l)) (sym a.out) (asks_well app a.front a.name add_match a.serial a.quiet)
course_well app s e t (tunes serial at two reply name a) = subst (λ l. AllByRecursion SaysWell (map (did app) l)) (sym a.out) (asks_well app a.front a.name get_registered_events a.serial a.quiet)
course_well app s e t (lists serial at two reply pairs body name a) = subst (λ l. AllByRecursion SaysWell (map (did app) l)) (sym a.out) (asks_well app a.front a.name embed a.serial a.quiet)

registry_well : (es : List Envelope) → AllByRecursion IsForAll es → AllByRecursion SaysWell (map (sent Registry) es)
registry_well [] a = tt
registry_well (e ∷ es) a = (a.0, registry_well es a.1)

all_any : {X : Type 0} (P : X → Type 0) → ((x : X) → P x) → (xs : List X) → AllByRecursion P xs
all_any P f [] = tt
all_any P f (x ∷ xs) = (f x, all_any P f xs)

abbrev pub Well : List Entry → World → Type 0
Well es w = AllByRecursion SaysWell es

more : (es : List Entry) (d x : Done) → AllByRecursion SaysWell es → d ≡ x → AllByRecursion SaysWell x.entries → AllByRecursion SaysWell (es ++ d.entries)
more es d x i is a = all_append SaysWell es d.entries i (subst (λ y. AllByRecursion SaysWell y.entries) (sym is) a)

caused : (es : List Entry) (w : World) (d : Done) → Trees es w → Well es w → Effect w d → Well (es ++ d.entries) d.world
caused es w d t i (resets quota few is) = more es d _ i is tt
caused es w d t i (app_joins name short is) = more es d (app_starts w name) i is (tt, ((λ one. ([], hello, refl)), tt))
caused es w d t i (reader_joins few is) = more es d _ i is (tt, (refl, tt))
caused es w d t i (app_edited b) = more es d _ i b.is (did_well _ b.after.out (edit_course b.before b.after b.edit b.done (t b.conn b.app b.e b.before b.is_here.there b.whose b.role).empty).quiet)
caused es w d t i (app_took b) =
    more es d _ i b.is
    (tt, course_well _ b.before b.letter.said.message (app_takes b.before b.letter.said.message) (course b.before b.letter.said.message (t b.conn b.app b.e b.before b.is_here.there b.whose b.role).empty))
caused es w d t i (reader_called b) =
    more es d _ i b.is
    (subst (λ p. AllByRecursion SaysWell (sent p (user_call b.hearer.next b.name b.node b.deed) ∷ [])) (sym (ap whose b.is_here.there ∙ b.whose)) (user_calls b.hearer.next b.name b.node b.deed, tt))
caused es w d t i (swapped b) = more es d _ i b.is tt
caused es w d t i (exited_ b) = more es d _ i b.is (tt, tt)
caused es w d t i (showed_ b) = more es d _ i b.is (tt, tt)
caused es w d t i (told_busy turns is) = more es d _ i is (tt, tt)
caused es w d t i (told_quiet none is) = more es d _ i is (tt, tt)
caused es w d t i (bus_took b) =
    let c = carrying.takes (record { bus = w.bus; ends = w.ends }) b.conn b.e.who b.said in
    more es d _ i b.is
    (tt, bus_all SaysWell (λ e. tt) c.ends c.bus.own c.bus.closings (all_any (λ (x : Closing). (queued len : ℕ) → SaysWell (dropped (party_at c.ends x.conn) queued len)) (λ x queued len. tt) c.bus.closings))
caused es w d t i (bus_ended b) =
    let c = carrying.takes_end (record { bus = w.bus; ends = w.ends }) b.conn in
    more es d _ i b.is
    (bus_all SaysWell (λ e. tt) c.ends c.bus.own c.bus.closings (all_any (λ (x : Closing). (queued len : ℕ) → SaysWell (dropped (party_at c.ends x.conn) queued len)) (λ x queued len. tt) c.bus.closings))
caused es w d t i (registry_took b) =
    more es d _ i b.is
    (tt, subst (λ p. AllByRecursion SaysWell (map (sent p) (registry_takes b.before b.letter.said.message).sent)) (sym b.whose) (registry_well (registry_takes b.before b.letter.said.message).sent (registry_for_all b.before b.letter.said.message)))
caused es w d t i (reader_took b) =
    more es d _ i b.is (tt, heard_all SaysWell (λ r app line. tt) (λ r app. tt) (number_of b.e.who) b.hearer (received w b.conn b.e b.letter).ends b.letter)

-- a layer on any that has the trees
pub words_grow : (A : List Entry → World → Type 0) → ((es : List Entry) (w : World) → A es w → Trees es w) → Grows A Well
words_grow A trees = record {
  begins = tt;
  caused = λ es w d s a i e after b. caused es w d (trees es w a) i e;
  moved = λ es w v s a i m. i;
  asked = λ es w conn r m question s a i asks. all_append SaysWell es (sent (Reader r) m ∷ []) i (ap (λ (x : Envelope). x.kind) asks.spelled ∙ own_calls asks.hearer.next question, tt);
}

-- WHAT WAS SENT
pub said_well : (es : List Entry) (who : Party) (s : ℕ) (m : Envelope) → AllByRecursion SaysWell es → message es who s ≡ Some m → SaysWell (sent who m)
said_well es who s m a found =
    let r = sent_split es who s m found in
    (all_back SaysWell (before_sent who s es) (sent who m ∷ r.0) (subst (AllByRecursion SaysWell) r.1 a)).0
