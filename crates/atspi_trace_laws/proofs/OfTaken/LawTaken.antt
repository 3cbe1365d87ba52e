-- What ends take was sent, along a lawful trace.
use Rattle.std.proofs.Common.{◌≡◌, ◌⊎◌, inl, inr, ℕ, zero, suc, ◌+◌, ◌≤◌, true, List, [], ◌∷◌, ◌++◌, length, map, None, Some, refl, sym, ap, ◌∙◌, subst, arith, is_some}
use Rattle.std.specs.List.{AllByRecursion}
use Rattle.std.proofs.lemmas.List.{append-nil, append_assoc}
use Rattle.atspi_script_lines.specs.declared.limits.TheConstants.{QUOTA_MOST}
use Rattle.atspi_script_lines.specs.declared.line.Line.{Line}
use Rattle.atspi_script_lines.specs.declared.line.Party.{Party}
use Rattle.atspi_script_lines.specs.declared.line.Party.TheVariants.{Bus as The_bus, Registry, App, Reader}
use Rattle.atspi_message.specs.Envelope.{Envelope}
use Rattle.atspi_protocol.specs.ends.Messages.{numbered}
use Rattle.atspi_protocol.specs.registering.Steps.{RegistryStep, registry_takes}
use Rattle.atspi_protocol.specs.exporting.Exporter.{Happening, steps, sends, hears, deaf, Exporter, begins as begins_app}
use Rattle.atspi_protocol.specs.exporting.Starting.{starts}
use Rattle.atspi_protocol.specs.exporting.Taking.{app_takes}
use Rattle.atspi_protocol.specs.exporting.Laws.{Counts}
use Rattle.atspi_protocol.proofs.OfExporting.Rising.{numbers_rise}
use Rattle.atspi_match.specs.declared.routing.closing.Closing.{Closing}
use Rattle.atspi_match.specs.routing.Queues.{Bus}
use Rattle.atspi_protocol.specs.following.Calls.{asking, user_call}
use Rattle.atspi_protocol.specs.declared.following.question.Question.{Question}
use Rattle.atspi_protocol.specs.declared.following.question.Question.TheVariants.{Hello}
use Rattle.atspi_trace.specs.Entry.{Entry, started, sent, got, dropped}
use Rattle.atspi_trace.specs.World.{an_application, a_reader, Hearer, Said, Letter, newcomer, first_registry, first_world, End, World}
use Rattle.atspi_trace.specs.Ends.{same_party, number_of, whose, party_at, end_at, with_end, plain, put_up, put_down, rest_of, taken_up, taken_down, stops, leaves, app_count, reader_count}
use Rattle.atspi_trace.specs.Carrying as carrying
use Rattle.atspi_trace.specs.Carrying.{own_letter, named, bus_entries}
use Rattle.atspi_trace.specs.Hearing.{hears_letter}
use Rattle.atspi_trace.specs.Causes.{Done, at_end, did, saids, has_done, reader_sends, registry_did, app_starts, reader_starts}
use Rattle.atspi_trace.specs.Due.{asks_as, asks_at, begins, Goes}
use Rattle.atspi_trace_laws.specs.laws.Words.{message, messages, with_serial}
use Rattle.atspi_trace_laws.specs.laws.NineLaws.{Everywhere, sent_before}
use Rattle.atspi_trace_laws.specs.order.Scripts.{CanAllStand}
use Rattle.atspi_trace_laws.proofs.OfOrder.Parties.{no_none, same_some, false_true, all_append}
use Rattle.atspi_trace_laws.proofs.OfOrder.BusWords.{all_any, bus_all}
use Rattle.atspi_trace_laws.proofs.OfOrder.Allowed.{MovedUp, MovedDown, Asks}
use Rattle.atspi_trace_laws.proofs.OfOrder.Frame.{Over, IsOrder, over_both, over_with, over_at, ends_over, joined_cases}
use Rattle.atspi_trace_laws.proofs.OfOrder.Shape.{Shape}
use Rattle.atspi_trace_laws.proofs.OfOrder.Effects.{received, AppEdits, AppTakes, ReaderCalls, Stopping, BusTakes, BusEnds, RegistryTakes, ReaderTakes, Effect, resets, app_joins, reader_joins, app_edited, app_took, reader_called, swapped, exited_, showed_, told_busy, told_quiet, bus_took, bus_ended, registry_took, reader_took}
use Rattle.atspi_trace_laws.proofs.OfOrder.Shaped.{received_at, new_app, new_reader, app_joined}
use Rattle.atspi_trace_laws.proofs.OfOrder.Along.{Keeps, kept}
use Rattle.atspi_trace_laws.proofs.OfOrder.Growing.{Grows, Shaped, And, grown}
use Rattle.atspi_trace_laws.proofs.OfOrder.Each.{Each, everywhere, each_more, each_of, all_map}
use Rattle.atspi_trace_laws.proofs.OfOrder.Acts.{last_at, number_at}
use Rattle.atspi_trace_laws.proofs.OfSteps.Steps.{Trees}
use Rattle.atspi_trace_laws.proofs.OfSerials.Speaking.{next_of, IsNumbered, registry_numbered}
use Rattle.atspi_trace_laws.proofs.OfSerials.Numbers.{IsFresh, Numbered}
use Rattle.atspi_trace_laws.proofs.OfSerials.Causing.{numbers_of, counted}
use Rattle.atspi_trace_laws.proofs.OfLinks.LawLinks.{no_bus}
use Rattle.atspi_trace_laws.proofs.OfHeard.Heeding.{Says, IsOneKind, takes_says, edit_says, starts_says, NoSendFirst, edit_first}
use Rattle.atspi_trace_laws.proofs.OfHeard.Telling.{At}
use Rattle.atspi_trace_laws.proofs.OfHeard.Quiet.{heard_all}
use Rattle.atspi_trace_laws.proofs.OfHeard.LawHeard.{Beneath, Heard, at_es, at_got, at_started, heard_keeps}
use Rattle.atspi_trace_laws.specs.taken.Laws.{IsTakenAsSent}
use Rattle.atspi_trace_laws.proofs.OfTaken.Found.{NotSent, unsent, none_more}
use Rattle.atspi_trace_laws.proofs.OfTaken.Said.{IsSaid, Comes, said_more, comes_more, Ready, ready_of, no_step_rightly, all_said, plain_said, plains_said, NoApp, TellsOf}
use Rattle.atspi_trace_laws.proofs.OfTaken.Handing.{takes_put}

-- what is on the links of an end is what these entries tell
abbrev pub IsKnown : List Entry → End → Type 0
IsKnown es e = AllByRecursion (IsSaid es e.who) e.up × AllByRecursion (Comes es) e.down

abbrev pub Known : List Entry → World → Type 0
Known es w = (k : ℕ) (e : End) → end_at w.ends k ≡ Some e → IsKnown es e

pub known_more : (es ys : List Entry) (e : End) → IsKnown es e → IsKnown (es ++ ys) e
known_more es ys e i = (
  all_map (IsSaid es e.who) (IsSaid (es ++ ys) e.who) e.up (said_more es ys e.who) i.0,
  all_map (Comes es) (Comes (es ++ ys)) e.down (comes_more es ys) i.1,
)

-- an end afterwards
abbrev pub Carries : List Entry → End → End → Type 0
Carries es e d = IsKnown es e → IsKnown es d

pub carrying_on : (es : List Entry) → IsOrder (Carries es)
carrying_on es = record { same = λ e i. i; both = λ e d c f g i. g (f i) }

pub known_over : (es : List Entry) (w v : World) → Known es w → Over (Carries es) w.ends v.ends → Known es v
known_over es w v i o k d h = let x = o.back k d h in x.2 (i k x.0 x.1)

pub all_known : (es ys : List Entry) (w : World) → Known es w → Known (es ++ ys) w
all_known es ys w i k e h = known_more es ys e (i k e h)

-- CHANGES OF AN END
all_rest : {X : Type 0} (P : X → Type 0) (xs : List X) → AllByRecursion P xs → AllByRecursion P (rest_of xs)
all_rest P [] a = tt
all_rest P (x ∷ xs) a = a.1

put_ : (es : List Entry) (letter : Letter) → Comes es letter → (e : End) → Carries es e (put_down letter e)
put_ es letter c e i = (i.0, all_append (Comes es) e.down (letter ∷ []) i.1 (c, tt))

own_ : (es : List Entry) (m : Envelope) (e : End) → Carries es e (put_down (own_letter m) e)
own_ es m e = put_ es (own_letter m) (inl refl) e

leave_ : (es : List Entry) (e : End) → Carries es e (leaves e)
leave_ es e i = (tt, tt)

stop_ : (es : List Entry) (e : End) → Carries es e (stops e)
stop_ es e i = (tt, i.1)

name_ : (es : List Entry) (b : Bus) (conn : ℕ) (e : End) → Carries es e (named b conn e)
name_ es b conn e i = i

up_ : (es : List Entry) (e : End) → Carries es e (taken_up e)
up_ es e i = (all_rest (IsSaid es e.who) e.up i.0, i.1)

down_ : (es : List Entry) (e : End) → Carries es e (taken_down e)
down_ es e i = (i.0, all_rest (Comes es) e.down i.1)

says_ : (es : List Entry) (saids_ : List Said) (e : End) → AllByRecursion (IsSaid es e.who) saids_ → Carries es e (put_up saids_ e)
says_ es saids_ e a i = (all_append (IsSaid es e.who) e.up saids_ i.0 a, i.1)

received_ : (es : List Entry) (w : World) (conn : ℕ) (e : End) (letter : Letter) → Over (Carries es) w.ends (received w conn e letter).ends
received_ es w conn e letter = over_with (Carries es) (carrying_on es) taken_down (down_ es) conn w.ends

-- WHAT AN END SAYS IS NEW
pub not_sent_at : (es : List Entry) (w : World) (k : ℕ) (e : End) (who : Party) (n : ℕ) → Shape w → Numbered es w → end_at w.ends k ≡ Some e → e.who ≡ who → next_of e.role ≡ n → NotSent es who n
not_sent_at es w k e who n s m h is next =
    unsent es who (λ bus. no_bus w k e s h (is ∙ bus)) m.0 n (sym next ∙ m.1 k e h ∙ ap (λ p. suc (sent_before p + length (messages es p))) is)

not_sent_more : (es : List Entry) (x : Entry) (who : Party) (n : ℕ) → ((s : ℕ) → message (x ∷ []) who s ≡ None) → NotSent es who n → NotSent (es ++ x ∷ []) who n
not_sent_more es x who n quiet none s h = none_more es (x ∷ []) who s (none s h) ∙ quiet s

-- an application's doings, behind entries that are its own alone
done_said : (es : List Entry) (app : ℕ) (s t : Exporter) (says : Says app s t) (c : Counts s t) → s.out ≡ [] → At es app s.heard s.tree s.next → NotSent es (App app) s.next → Ready es app None t.out
    → AllByRecursion (IsSaid (es ++ map (did app) t.out) (App app)) (saids s s.tree None t.out)
done_said es app s t says c empty at none ready =
    let out : t.out ≡ says.doings = says.out ∙ ap (λ l. l ++ says.doings) empty in
    subst (λ l. AllByRecursion (IsSaid (es ++ l) (App app)) (saids s s.tree None t.out)) (append-nil (map (did app) t.out))
    (all_said app s [] t.out c.count s.next es s.tree (subst IsOneKind (sym out) says.kind) (numbers_of s t c empty) none at.tree at.pairs ready)

ready_edit : (es : List Entry) (app : ℕ) (hs : List Happening) → NoSendFirst hs → Ready es app None hs
ready_edit es app [] f = tt
ready_edit es app (sends e ∷ hs) f = absurd f
ready_edit es app (steps step ∷ hs) f = tt
ready_edit es app (hears listener pattern ∷ hs) f = tt
ready_edit es app (deaf listener pattern ∷ hs) f = tt

app_has : (es : List Entry) (app : ℕ) (s t : Exporter) (e : End) → e.who ≡ App app → AllByRecursion (IsSaid es (App app)) (saids s s.tree None t.out) → Carries es e (has_done s t e)
app_has es app s t e who a i = (
  all_append (IsSaid es e.who) e.up (saids s s.tree None t.out) i.0 (subst (λ p. AllByRecursion (IsSaid es p) (saids s s.tree None t.out)) (sym who) a),
  i.1,
)

edits_known : (es : List Entry) (w : World) (d : Done) → Shape w → Trees es w → Numbered es w → Heard es w → Known es w → AppEdits w d → Known (es ++ d.entries) d.world
edits_known es w d s t m h i b =
    let empty = (t b.conn b.app b.e b.before b.is_here.there b.whose b.role).empty in
    let wrote : d.entries ≡ map (did b.app) b.after.out = ap (λ x. x.entries) b.is ∙ ap (λ n. map (did n) b.after.out) (number_at w.ends b.conn b.app b.e b.is_here.there b.whose) in
    let said_ = done_said es b.app b.before b.after (edit_says b.app b.before b.after b.edit b.done) (counted b.before b.after b.edit b.done) empty
    (at_es es w b.conn b.app b.e b.before t m.1 h.1 b.is_here.there b.whose b.role) (not_sent_at es w b.conn b.e (App b.app) b.before.next s m b.is_here.there b.whose (ap next_of b.role))
    (ready_edit es b.app b.after.out (edit_first b.before b.after b.edit b.done empty)) in
    let ys : List Entry = es ++ map (did b.app) b.after.out in
    subst (λ l. Known (es ++ l) d.world) (sym wrote)
    (known_over ys w d.world (all_known es (map (did b.app) b.after.out) w i)
    (subst (λ x. Over (Carries ys) w.ends x.world.ends) (sym b.is)
    (over_at (Carries ys) (carrying_on ys) (has_done b.before b.after) b.conn w.ends b.e b.is_here.there (app_has ys b.app b.before b.after b.e b.whose said_))))

takes_known : (es : List Entry) (w : World) (d : Done) → Shape w → Trees es w → Numbered es w → Heard es w → Known es w → AppTakes w d → Known (es ++ d.entries) d.world
takes_known es w d s t m h i b =
    let before : Exporter = b.before in
    let after : Exporter = app_takes before b.letter.said.message in
    let first : Entry = got b.e.who b.letter.from b.letter.said.message.serial in
    let v : World = received w b.conn b.e b.letter in
    let empty = (t b.conn b.app b.e before b.is_here.there b.whose b.role).empty in
    let early : List Entry = es ++ first ∷ [] in
    let wrote : d.entries ≡ first ∷ map (did b.app) after.out =
    ap (λ x. x.entries) b.is ∙ ap (λ n. first ∷ map (did n) after.out) (number_at v.ends b.conn b.app (taken_down b.e) (received_at w b.conn b.e b.letter b.is_here.there) b.whose) in
    let said_ = done_said early b.app before after (takes_says b.app before b.letter.said.message) (numbers_rise.taken before b.letter.said.message) empty
    (at_got es b.e.who b.letter.from b.letter.said.message.serial b.app before (at_es es w b.conn b.app b.e before t m.1 h.1 b.is_here.there b.whose b.role))
    (not_sent_more es first (App b.app) before.next (λ s. refl) (not_sent_at es w b.conn b.e (App b.app) before.next s m b.is_here.there b.whose (ap next_of b.role)))
    (ready_of early b.app None after.out (no_step_rightly es b.app first refl)) in
    let ys : List Entry = es ++ (first ∷ map (did b.app) after.out) in
    subst (λ l. Known (es ++ l) d.world) (sym wrote)
    (known_over ys w d.world (all_known es (first ∷ map (did b.app) after.out) w i)
    (subst (λ x. Over (Carries ys) w.ends x.world.ends) (sym b.is)
    (over_both (Carries ys) (carrying_on ys) w.ends v.ends (with_end b.conn (has_done before after) v.ends) (received_ ys w b.conn b.e b.letter)
    (over_at (Carries ys) (carrying_on ys) (has_done before after) b.conn v.ends (taken_down b.e) (received_at w b.conn b.e b.letter b.is_here.there)
    (app_has ys b.app before after (taken_down b.e) b.whose
    (subst (λ l. AllByRecursion (IsSaid l (App b.app)) (saids before before.tree None after.out)) (append_assoc es (first ∷ []) (map (did b.app) after.out)) said_))))))

registry_known : (es : List Entry) (w : World) (d : Done) → Shape w → Numbered es w → Known es w → RegistryTakes w d → Known (es ++ d.entries) d.world
registry_known es w d s m i b =
    let step : RegistryStep = registry_takes b.before b.letter.said.message in
    let c : IsNumbered b.before step = registry_numbered b.before b.letter.said.message in
    let first : Entry = got b.e.who b.letter.from b.letter.said.message.serial in
    let v : World = received w b.conn b.e b.letter in
    let early : List Entry = es ++ first ∷ [] in
    let ms : List Entry = map (sent b.e.who) (numbered b.before.next c.said) in
    let ys : List Entry = es ++ (first ∷ ms) in
    let wrote : d.entries ≡ first ∷ ms = ap (λ x. x.entries) b.is ∙ ap (λ l. first ∷ map (sent b.e.who) l) c.sent in
    let said_ : AllByRecursion (IsSaid ys b.e.who) (map plain (numbered b.before.next c.said)) =
    subst (λ l. AllByRecursion (IsSaid l b.e.who) (map plain (numbered b.before.next c.said))) (append_assoc es (first ∷ []) ms)
    (plains_said b.e.who b.before.next early c.said (subst NoApp (sym b.whose) tt)
    (not_sent_more es first b.e.who b.before.next (λ s. refl) (not_sent_at es w b.conn b.e b.e.who b.before.next s m b.is_here.there refl (ap next_of b.role)))) in
    subst (λ l. Known (es ++ l) d.world) (sym wrote)
    (known_over ys w d.world (all_known es (first ∷ ms) w i)
    (subst (λ x. Over (Carries ys) w.ends x.world.ends) (sym b.is)
    (over_both (Carries ys) (carrying_on ys) w.ends v.ends (with_end b.conn (registry_did step) v.ends) (received_ ys w b.conn b.e b.letter)
    (over_at (Carries ys) (carrying_on ys) (registry_did step) b.conn v.ends (taken_down b.e) (received_at w b.conn b.e b.letter b.is_here.there)
    (says_ ys (map plain step.sent) (taken_down b.e) (subst (λ l. AllByRecursion (IsSaid ys b.e.who) (map plain l)) (sym c.sent) said_))))))

-- a reader sends
sends_known : (es : List Entry) (w v : World) (conn : ℕ) (e : End) (f : End → End) (m : Envelope) → Known es w → end_at w.ends conn ≡ Some e → v.ends ≡ with_end conn f w.ends
    → Carries (es ++ sent e.who m ∷ []) e (f e) → Known (es ++ sent e.who m ∷ []) v
sends_known es w v conn e f m i there is c =
    let ys : List Entry = es ++ sent e.who m ∷ [] in
    known_over ys w v (all_known es (sent e.who m ∷ []) w i)
    (subst (λ l. Over (Carries ys) w.ends l) (sym is) (over_at (Carries ys) (carrying_on ys) f conn w.ends e there c))

reader_said : (es : List Entry) (w : World) (k : ℕ) (e : End) (r : ℕ) (h : Hearer) (m : Envelope) → Shape w → Numbered es w → end_at w.ends k ≡ Some e → e.who ≡ Reader r → e.role ≡ a_reader h → m.serial ≡ h.next
    → AllByRecursion (IsSaid (es ++ sent e.who m ∷ []) e.who) (plain m ∷ [])
reader_said es w k e r h m s n there who role serial =
    (plain_said es [] e.who m (subst NoApp (sym who) tt) (not_sent_at es w k e e.who h.next s n there refl (ap next_of role) m.serial (least m.serial h.next serial)), tt)
  where
    least : (a b : ℕ) → a ≡ b → b ≤ a
    least a b h = omega (arith, h)

calls_known : (es : List Entry) (w : World) (d : Done) → Shape w → Numbered es w → Known es w → ReaderCalls w d → Known (es ++ d.entries) d.world
calls_known es w d s m i b =
    let e : Envelope = user_call b.hearer.next b.name b.node b.deed in
    let g : Hearer = record b.hearer { next = suc b.hearer.next } in
    let wrote : d.entries ≡ sent b.e.who e ∷ [] = ap (λ x. x.entries) b.is ∙ ap (λ o. sent (whose o) e ∷ []) b.is_here.there in
    subst (λ l. Known (es ++ l) d.world) (sym wrote)
    (sends_known es w d.world b.conn b.e (reader_sends g e) e i b.is_here.there (ap (λ x. x.world.ends) b.is)
    (says_ (es ++ sent b.e.who e ∷ []) (plain e ∷ []) b.e (reader_said es w b.conn b.e b.reader b.hearer e s m b.is_here.there b.whose b.role refl)))

asked_known : (es : List Entry) (w : World) (conn r : ℕ) (m : Envelope) (question : Question) → Shape w → Numbered es w → Known es w → Asks w conn r m question
    → Known (es ++ sent (Reader r) m ∷ []) (at_end w conn (asks_at m question))
asked_known es w conn r m question s n i a =
    subst (λ p. Known (es ++ sent p m ∷ []) (at_end w conn (asks_at m question))) a.whose
    (sends_known es w (at_end w conn (asks_at m question)) conn a.asker (asks_at m question) m i a.is_here.there refl
    (subst (λ x. Carries (es ++ sent a.asker.who m ∷ []) a.asker (asks_as x m question a.asker)) (sym a.reader)
    (says_ (es ++ sent a.asker.who m ∷ []) (plain m ∷ []) a.asker (reader_said es w conn a.asker r a.hearer m s n a.is_here.there a.whose a.reader (ap (λ (e : Envelope). e.serial) a.spelled)))))

-- the bus takes a message
bus_took_known : (es : List Entry) (w : World) (d : Done) → Known es w → BusTakes w d → Known (es ++ d.entries) d.world
bus_took_known es w d i b =
    let ys : List Entry = es ++ d.entries in
    let all : Known ys w = all_known es d.entries w i in
    let mine : IsSaid ys b.e.who b.said = (subst (AllByRecursion (IsSaid ys b.e.who)) b.link (all b.conn b.e b.is_here.there).0).0 in
    known_over ys w d.world all
    (subst (λ x. Over (Carries ys) w.ends x.world.ends) (sym b.is)
    (over_both (Carries ys) (carrying_on ys) w.ends (with_end b.conn taken_up w.ends) _ (over_with (Carries ys) (carrying_on ys) taken_up (up_ ys) b.conn w.ends)
    (takes_put (Carries ys) (carrying_on ys) (own_ ys) (leave_ ys) (name_ ys) (record { bus = w.bus; ends = w.ends }) b.conn b.e.who b.said (λ name. put_ ys _ (inr (record {
      first = b.said.message;
      was = mine.was;
      alike = refl;
      tells = letter_tells b.e.who b.said name mine.tells;
    }))))))
  where
    letter_tells : (who : Party) (said : Said) (name : List ℕ) → TellsOf (es ++ d.entries) who said → TellsOf (es ++ d.entries) who (record said { message = record said.message { sender = Some name } })
    letter_tells (App app) said name t = record { tree = t.tree; step = t.step; announced = t.announced }
    letter_tells The_bus said name t = tt
    letter_tells Registry said name t = tt
    letter_tells (Reader r) said name t = tt

bus_ended_known : (es : List Entry) (w : World) (d : Done) → Known es w → BusEnds w d → Known (es ++ d.entries) d.world
bus_ended_known es w d i b =
    let ys : List Entry = es ++ d.entries in
    known_over ys w d.world (all_known es d.entries w i)
    (subst (λ x. Over (Carries ys) w.ends x.world.ends) (sym b.is) (ends_over (Carries ys) (carrying_on ys) (own_ ys) (leave_ ys) (record { bus = w.bus; ends = w.ends }) b.conn))

reader_known : (es : List Entry) (w : World) (d : Done) → Known es w → ReaderTakes w d → Known (es ++ d.entries) d.world
reader_known es w d i b =
    let ys : List Entry = es ++ d.entries in
    let v : World = received w b.conn b.e b.letter in
    let f : End → End = λ x. record x { role = a_reader (hears_letter b.hearer v.ends b.letter) } in
    known_over ys w d.world (all_known es d.entries w i)
    (subst (λ x. Over (Carries ys) w.ends x.world.ends) (sym b.is)
    (over_both (Carries ys) (carrying_on ys) w.ends v.ends (with_end b.conn f v.ends) (received_ ys w b.conn b.e b.letter) (over_with (Carries ys) (carrying_on ys) f (λ e i. i) b.conn v.ends)))

stopping_known : (es : List Entry) (w : World) (d : Done) → Known es w → Stopping w d → Known (es ++ d.entries) d.world
stopping_known es w d i b =
    let ys : List Entry = es ++ d.entries in
    known_over ys w d.world (all_known es d.entries w i)
    (subst (λ x. Over (Carries ys) w.ends x.world.ends) (sym b.is) (over_with (Carries ys) (carrying_on ys) stops (stop_ ys) b.conn w.ends))

same_known : (es : List Entry) (w : World) (d : Done) → Known es w → d.world.ends ≡ w.ends → Known (es ++ d.entries) d.world
same_known es w d i h k e there = all_known es d.entries w i k e (sym (ap (λ l. end_at l k) h) ∙ there)

-- an end joins
joins_known : (es ys : List Entry) (w v : World) (n : End) → Known es w → v.ends ≡ w.ends ++ n ∷ [] → IsKnown (es ++ ys) n → Known (es ++ ys) v
joins_known es ys w v n i is new k e h = by (joined_cases w.ends n k e (ap (λ l. end_at l k) (sym is) ∙ h))
  where
    by : ((end_at w.ends k ≡ Some e) ⊎ ((k ≡ length w.ends) × (e ≡ n))) → IsKnown (es ++ ys) e
    by (inl g) = all_known es ys w i k e g
    by (inr g) = subst (IsKnown (es ++ ys)) (sym g.1) new

least : (n : ℕ) → n ≤ n
least n = omega arith

not_sent_new : (es : List Entry) (x : Entry) (who : Party) → messages es who ≡ [] → ((s : ℕ) → message (x ∷ []) who s ≡ None) → NotSent (es ++ x ∷ []) who 1
not_sent_new es x who none quiet s h = none_more es (x ∷ []) who s (ap (with_serial s) none) ∙ quiet s

app_known : (es : List Entry) (w : World) (d : Done) (name : List ℕ) → Numbered es w → Heard es w → Known es w → d ≡ app_starts w name → Known (es ++ d.entries) d.world
app_known es w d name m h i is =
    subst (λ x. Known (es ++ x.entries) x.world) (sym is) (subst (λ l. Known (es ++ l) (app_starts w name).world) (sym wrote)
    (joins_known es ys w (app_starts w name).world (new_app w name) i (app_joined w name) (
      subst (λ l. AllByRecursion (IsSaid l (App n)) (saids s s.tree None t.out)) (append_assoc es (first ∷ []) (map (did n) t.out)) said_,
      tt,
    )))
  where
    n : ℕ
    n = app_count w.ends

    s : Exporter
    s = begins_app name

    t : Exporter
    t = starts s

    first : Entry
    first = started (App n) (Some name)

    ys : List Entry
    ys = first ∷ map (did n) t.out

    wrote : (app_starts w name).entries ≡ ys
    wrote =
        let n0 : End = put_up [] (newcomer (App n) (an_application s)) in
        let number : number_of (party_at (w.ends ++ n0 ∷ []) (length w.ends)) ≡ n = ap (λ o. number_of (whose o)) (last_at w.ends n0) in
        ap (λ k. first ∷ map (did k) t.out) number

    fresh : IsFresh w (App n)
    fresh = least n

    said_ : AllByRecursion (IsSaid ((es ++ first ∷ []) ++ map (did n) t.out) (App n)) (saids s s.tree None t.out)
    said_ =
        let at = at_started es w name m h in
        subst (λ l. AllByRecursion (IsSaid ((es ++ first ∷ []) ++ l) (App n)) (saids s s.tree None t.out)) (append-nil (map (did n) t.out))
        (all_said n s [] t.out 1 1 (es ++ first ∷ []) s.tree (subst IsOneKind (sym (starts_says n s).out) (starts_says n s).kind) refl (not_sent_new es first (App n) (m.2 (App n) fresh) (λ s. refl)) at.tree at.pairs
        (ready_of (es ++ first ∷ []) n None t.out (no_step_rightly es n first refl)))

reader_joins_known : (es : List Entry) (w : World) (d : Done) → Numbered es w → Known es w → d ≡ reader_starts w → Known (es ++ d.entries) d.world
reader_joins_known es w d m i is =
    let who : Party = Reader (reader_count w.ends) in
    let first : Entry = started who None in
    subst (λ x. Known (es ++ x.entries) x.world) (sym is)
    (joins_known es (reader_starts w).entries w (reader_starts w).world (new_reader w) i refl (
      (
        subst (λ l. IsSaid l who (plain (asking 1 Hello))) (append_assoc es (first ∷ []) (sent who (asking 1 Hello) ∷ []))
            (plain_said (es ++ first ∷ []) [] who (asking 1 Hello) tt (not_sent_new es first who (m.2 who (least (reader_count w.ends))) (λ s. refl) 1 (least 1))),
        tt,
      ),
      tt,
    ))

-- THE LAW
abbrev pub NotGot : Entry → Type 0
NotGot (got taker sender serial) = ⊥
NotGot entry = Unit {0}

not_got_law : (before : List Entry) (entry : Entry) (behind : List Entry) → NotGot entry → IsTakenAsSent before entry behind
not_got_law before (got taker sender serial) behind h = absurd h
not_got_law before entry behind h = tt

pub did_not_got : (app : ℕ) (hs : List Happening) → AllByRecursion NotGot (map (did app) hs)
did_not_got app [] = tt
did_not_got app (steps step ∷ hs) = (tt, did_not_got app hs)
did_not_got app (sends e ∷ hs) = (tt, did_not_got app hs)
did_not_got app (hears listener pattern ∷ hs) = (tt, did_not_got app hs)
did_not_got app (deaf listener pattern ∷ hs) = (tt, did_not_got app hs)

pub sent_not_got : (who : Party) (es : List Envelope) → AllByRecursion NotGot (map (sent who) es)
sent_not_got who [] = tt
sent_not_got who (e ∷ es) = (tt, sent_not_got who es)

pub bus_not_got : (ends : List End) (own : List Envelope) (closings : List Closing) → AllByRecursion NotGot (bus_entries ends own closings)
bus_not_got ends own closings =
    bus_all NotGot (λ e. tt) ends own closings (all_any (λ (x : Closing). (queued len : ℕ) → NotGot (dropped (party_at ends x.conn) queued len)) (λ x queued len. tt) closings)

taken_as : (es behind : List Entry) (who from : Party) (s : ℕ) → (from ≡ The_bus) ⊎ (is_some (message es from s) ≡ true) → IsTakenAsSent es (got who from s) behind
taken_as es behind who The_bus s c = tt
taken_as es behind who Registry s (inl h) = absurd (false_true (ap (λ p. same_party p The_bus) h))
taken_as es behind who (App a) s (inl h) = absurd (false_true (ap (λ p. same_party p The_bus) h))
taken_as es behind who (Reader r) s (inl h) = absurd (false_true (ap (λ p. same_party p The_bus) h))
taken_as es behind who Registry s (inr h) = h
taken_as es behind who (App a) s (inr h) = h
taken_as es behind who (Reader r) s (inr h) = h

weaker : (ys before : List Entry) (entry : Entry) (behind : List Entry) → IsTakenAsSent before entry behind → IsTakenAsSent before entry (behind ++ ys)
weaker ys before (got taker The_bus serial) behind h = tt
weaker ys before (got taker Registry serial) behind h = h
weaker ys before (got taker (App a) serial) behind h = h
weaker ys before (got taker (Reader r) serial) behind h = h
weaker ys before entry behind h = tt

all_weaker : (ys early xs : List Entry) → Each IsTakenAsSent early xs → Each (λ before entry behind. IsTakenAsSent before entry (behind ++ ys)) early xs
all_weaker ys early [] e = tt
all_weaker ys early (x ∷ xs) e = (weaker ys early x xs e.0, all_weaker ys (early ++ x ∷ []) xs e.1)

law_more : (es ys : List Entry) → Each IsTakenAsSent [] es → Each IsTakenAsSent es ys → Each IsTakenAsSent [] (es ++ ys)
law_more es ys a b = each_more IsTakenAsSent [] es ys (all_weaker ys [] es a) b

-- entries in which nothing is taken
quietly : (es ys : List Entry) → Each IsTakenAsSent [] es → AllByRecursion NotGot ys → Each IsTakenAsSent [] (es ++ ys)
quietly es ys a n = law_more es ys a (each_of NotGot IsTakenAsSent es ys not_got_law n)

of_letter : (es : List Entry) (letter : Letter) → Comes es letter → (letter.from ≡ The_bus) ⊎ (is_some (message es letter.from letter.said.message.serial) ≡ true)
of_letter es letter (inl h) = inl h
of_letter es letter (inr i) = inr (ap is_some i.was)

-- an end takes the first of its down link
taking : (es : List Entry) (w : World) (k : ℕ) (e : End) (letter : Letter) (rest : List Letter) (who : Party) (ys zs : List Entry) → Known es w → end_at w.ends k ≡ Some e → e.down ≡ letter ∷ rest
    → Each IsTakenAsSent [] es → ys ≡ got who letter.from letter.said.message.serial ∷ zs → AllByRecursion NotGot zs → Each IsTakenAsSent [] (es ++ ys)
taking es w k e letter rest who ys zs i h link law is n =
    let comes : Comes es letter = (subst (AllByRecursion (Comes es)) link (i k e h).1).0 in
    subst (λ l. Each IsTakenAsSent [] (es ++ l)) (sym is)
    (law_more es (got who letter.from letter.said.message.serial ∷ zs) law
    (taken_as es zs who letter.from letter.said.message.serial (of_letter es letter comes), each_of NotGot IsTakenAsSent (es ++ got who letter.from letter.said.message.serial ∷ []) zs not_got_law n))

abbrev pub Taken : List Entry → World → Type 0
Taken es w = Each IsTakenAsSent [] es × Known es w

pub not_got_of : (d x : Done) → d ≡ x → AllByRecursion NotGot x.entries → AllByRecursion NotGot d.entries
not_got_of d x is a = subst (λ y. AllByRecursion NotGot y.entries) (sym is) a

caused_law : (es : List Entry) (w : World) (d : Done) → Known es w → Each IsTakenAsSent [] es → Effect w d → Each IsTakenAsSent [] (es ++ d.entries)
caused_law es w d i law (resets quota few is) = quietly es d.entries law (not_got_of d _ is tt)
caused_law es w d i law (app_joins name short is) = quietly es d.entries law (not_got_of d _ is (tt, (tt, tt)))
caused_law es w d i law (reader_joins few is) = quietly es d.entries law (not_got_of d _ is (tt, (tt, tt)))
caused_law es w d i law (app_edited b) = quietly es d.entries law (not_got_of d _ b.is (did_not_got _ b.after.out))
caused_law es w d i law (app_took b) = taking es w b.conn b.e b.letter b.rest b.e.who d.entries _ i b.is_here.there b.link law (ap (λ x. x.entries) b.is) (did_not_got _ (app_takes b.before b.letter.said.message).out)
caused_law es w d i law (reader_called b) = quietly es d.entries law (not_got_of d _ b.is (tt, tt))
caused_law es w d i law (swapped b) = quietly es d.entries law (not_got_of d _ b.is tt)
caused_law es w d i law (exited_ b) = quietly es d.entries law (not_got_of d _ b.is (tt, tt))
caused_law es w d i law (showed_ b) = quietly es d.entries law (not_got_of d _ b.is (tt, tt))
caused_law es w d i law (told_busy turns is) = quietly es d.entries law (not_got_of d _ is (tt, tt))
caused_law es w d i law (told_quiet none is) = quietly es d.entries law (not_got_of d _ is (tt, tt))
caused_law es w d i law (bus_took b) =
    let c = carrying.takes (record { bus = w.bus; ends = w.ends }) b.conn b.e.who b.said in
    let first : Entry = got The_bus b.e.who b.said.message.serial in
    let back : List Entry = bus_entries c.ends c.bus.own c.bus.closings in
    let mine : IsSaid es b.e.who b.said = (subst (AllByRecursion (IsSaid es b.e.who)) b.link (i b.conn b.e b.is_here.there).0).0 in
    subst (λ l. Each IsTakenAsSent [] (es ++ l)) (sym (ap (λ x. x.entries) b.is))
    (law_more es (first ∷ back) law
    (taken_as es back The_bus b.e.who b.said.message.serial (inr (ap is_some mine.was)), each_of NotGot IsTakenAsSent (es ++ first ∷ []) back not_got_law (bus_not_got c.ends c.bus.own c.bus.closings)))
caused_law es w d i law (bus_ended b) =
    let c = carrying.takes_end (record { bus = w.bus; ends = w.ends }) b.conn in
    quietly es d.entries law (not_got_of d _ b.is (bus_not_got c.ends c.bus.own c.bus.closings))
caused_law es w d i law (registry_took b) =
    taking es w b.conn b.e b.letter b.rest b.e.who d.entries _ i b.is_here.there b.link law (ap (λ x. x.entries) b.is) (sent_not_got b.e.who (registry_takes b.before b.letter.said.message).sent)
caused_law es w d i law (reader_took b) =
    taking es w b.conn b.e b.letter b.rest b.e.who d.entries _ i b.is_here.there b.link law (ap (λ x. x.entries) b.is)
    (heard_all NotGot (λ r app line. tt) (λ r app. tt) (number_of b.e.who) b.hearer (received w b.conn b.e b.letter).ends b.letter)

-- only the registry is there, as at the beginning
first_known : (es : List Entry) (quota : ℕ) → Known es (first_world quota)
first_known es quota zero e h = subst (IsKnown es) (same_some first_registry e h) (tt, tt)
first_known es quota (suc k) e h = absurd (no_none e h)

caused_known : (es : List Entry) (w : World) (d : Done) → Shape w → Trees es w → Numbered es w → Heard es w → Known es w → Effect w d → Known (es ++ d.entries) d.world
caused_known es w d s t m h i (resets quota few is) = subst (λ x. Known (es ++ x.entries) x.world) (sym is) (first_known (es ++ []) quota)
caused_known es w d s t m h i (app_joins name short is) = app_known es w d name m h i is
caused_known es w d s t m h i (reader_joins few is) = reader_joins_known es w d m i is
caused_known es w d s t m h i (app_edited b) = edits_known es w d s t m h i b
caused_known es w d s t m h i (app_took b) = takes_known es w d s t m h i b
caused_known es w d s t m h i (reader_called b) = calls_known es w d s m i b
caused_known es w d s t m h i (swapped b) = same_known es w d i (ap (λ x. x.world.ends) b.is)
caused_known es w d s t m h i (exited_ b) = stopping_known es w d i b
caused_known es w d s t m h i (showed_ b) = same_known es w d i (ap (λ x. x.world.ends) b.is)
caused_known es w d s t m h i (told_busy turns is) = same_known es w d i (ap (λ x. x.world.ends) is)
caused_known es w d s t m h i (told_quiet none is) = same_known es w d i (ap (λ x. x.world.ends) is)
caused_known es w d s t m h i (bus_took b) = bus_took_known es w d i b
caused_known es w d s t m h i (bus_ended b) = bus_ended_known es w d i b
caused_known es w d s t m h i (registry_took b) = registry_known es w d s m i b
caused_known es w d s t m h i (reader_took b) = reader_known es w d i b

abbrev pub Under : List Entry → World → Type 0
Under es w = And Beneath Heard es w

taken_grows : Grows Under Taken
taken_grows = record {
  begins = (tt, first_known [] QUOTA_MOST);
  caused = λ es w d s a i e after b. (caused_law es w d i.1 i.0 e, caused_known es w d s a.0.0.0.1.1 a.0.0.1 a.1 i.1 e);
  moved = λ es w v s a i m. (i.0, by es w v i.1 m);
  asked = λ es w conn r m question s a i asks. (quietly es (sent (Reader r) m ∷ []) i.0 (tt, tt), asked_known es w conn r m question s a.0.0.1 i.1 asks);
}
  where
    by : (es : List Entry) (w v : World) → Known es w → (MovedUp w v ⊎ MovedDown w v) → Known es v
    by es w v i (inl m) =
        known_over es w v i (subst (λ (x : World). Over (Carries es) w.ends x.ends) (sym m.after) (over_with (Carries es) (carrying_on es) (λ e. record e { up_moved = e.up_moved + m.count }) (λ e k. k) m.conn w.ends))
    by es w v i (inr m) =
        known_over es w v i (subst (λ (x : World). Over (Carries es) w.ends x.ends) (sym m.after) (over_with (Carries es) (carrying_on es) (λ e. record e { down_moved = e.down_moved + m.count }) (λ e k. k) m.conn w.ends))

pub taken_keeps : Keeps (Shaped (And Under Taken))
taken_keeps = grown Under Taken heard_keeps taken_grows

each_front : (xs ys : List Entry) (early : List Entry) → Each IsTakenAsSent early (xs ++ ys) → Each IsTakenAsSent early xs
each_front [] ys early e = tt
each_front (x ∷ xs) ys early e = (fewer x e.0, each_front xs ys (early ++ x ∷ []) e.1)
  where
    fewer : (entry : Entry) → IsTakenAsSent early entry (xs ++ ys) → IsTakenAsSent early entry xs
    fewer (got taker The_bus serial) law = tt
    fewer (got taker Registry serial) law = law
    fewer (got taker (App a) serial) law = law
    fewer (got taker (Reader r) serial) law = law
    fewer entry law = tt

pub taken_was_sent : (lines : List Line) (trace : List Entry) → CanAllStand lines → Goes (begins lines) trace → Everywhere IsTakenAsSent trace
taken_was_sent lines trace a g =
    let k = kept (Shaped (And Under Taken)) taken_keeps lines trace a g in
    everywhere IsTakenAsSent trace (each_front trace _ [] k.state.1.1.0)
