-- The law of readers, along a lawful trace.
use Rattle.std.proofs.Common.{◌≡◌, ℕ, ◌<◌, ◌≤◌, Bool, true, false, List, [], ◌∷◌, ◌++◌, length, map, Option, None, Some, refl, sym, ap, ◌∙◌, subst, arith, is_some}
use Rattle.std.specs.Prelude.{not, ◌==◌, ◌||◌, ◌&&◌, if◌then◌else◌, bytes_eq}
use Rattle.std.specs.List.{AllByRecursion, list_any, list_all}
use Rattle.std.proofs.lemmas.Bool.{eqb-true}
use Rattle.std.proofs.lemmas.Slice.Eq.{bytes_eq-Decides}
use Rattle.atspi_script_lines.specs.declared.line.Line.{Line}
use Rattle.atspi_script_lines.specs.declared.line.Party.{Party}
use Rattle.atspi_script_lines.specs.declared.line.Party.TheVariants.{Bus as The_bus, Registry, App, Reader}
use Rattle.atspi_message.specs.Envelope.{Envelope}
use Rattle.atspi_match.specs.declared.routing.closing.Closing.{Closing}
use Rattle.atspi_match.specs.routing.Routing.{is_reply}
use Rattle.atspi_protocol.specs.registering.Steps.{registry_takes}
use Rattle.atspi_protocol.specs.exporting.Exporter.{Happening, steps, sends, hears, deaf, begins as begins_app}
use Rattle.atspi_protocol.specs.exporting.Starting.{starts}
use Rattle.atspi_protocol.specs.exporting.Taking.{app_takes}
use Rattle.atspi_protocol.specs.following.Replied.{is_reply_to}
use Rattle.atspi_protocol.specs.following.ReaderState.{start_calls}
use Rattle.atspi_protocol.specs.declared.following.question.Question.{Question}
use Rattle.atspi_protocol.specs.declared.following.question.Question.TheVariants.{Hello, AddMatch, RegisterEvent, GetChildren, GetItems, GetPart}
use Rattle.atspi_base.specs.valid_names.Names.{is_bus_name}
use Rattle.atspi_trace.specs.Entry.{Entry, started, sent, got, spoke, dropped}
use Rattle.atspi_trace.specs.World.{Fate, waits, returned, failed, Asked, Role, the_registry, an_application, a_reader, Hearer, Letter, End, World, newcomer}
use Rattle.atspi_trace.specs.Ends.{number_of, party_at, end_at, taken_down, app_count, reader_count, put_up}
use Rattle.atspi_trace.specs.Carrying as carrying
use Rattle.atspi_trace.specs.Carrying.{bus_entries}
use Rattle.atspi_trace.specs.Hearing.{is_answered as has_answer, patterns_in, registers, is_registered, is_listening, may_ask, question_in, holding_of, app_ended, lines_if_held, last_lines, ended_entries, hears_letter, heard_entries}
use Rattle.atspi_trace.specs.Causes.{Cause, renews, starts_app, starts_reader, edits, calls, swaps_face, exits, shows, tells_busy, tells_quiet, routes, unjoins, gets, Done, does, took, did, has_done, registry_did, reader_starts}
use Rattle.atspi_trace.specs.Due.{freed, begins, Goes}
use Rattle.atspi_trace_laws.specs.laws.Words.{messages, with_serial, taken, question_if, own_call, is_answered, is_returned}
use Rattle.atspi_trace_laws.specs.laws.NineLaws.{IsBetween, StandsBehindGot, IsRegistered, WantsRegistrations, IsFreeCall, IsAllowedCall, LawOfReaders}
use Rattle.atspi_trace_laws.specs.order.Scripts.{CanAllStand}
use Rattle.atspi_trace_laws.proofs.OfOrder.Parties.{no_none, same_some, false_true}
use Rattle.atspi_trace_laws.proofs.OfOrder.BusWords.{all_any, bus_all}
use Rattle.atspi_trace_laws.proofs.OfOrder.Plain.{user_plain}
use Rattle.atspi_trace_laws.proofs.OfOrder.Allowed.{Allowed, Asks}
use Rattle.atspi_trace_laws.proofs.OfOrder.Frame.{at_changed}
use Rattle.atspi_trace_laws.proofs.OfOrder.Shape.{RoleFits, Shape}
use Rattle.atspi_trace_laws.proofs.OfOrder.Effects.{received, reader_role, take_is, Effect, effect, resets, app_joins, reader_joins, app_edited, app_took, reader_called, swapped, exited_, showed_, told_busy, told_quiet, bus_took, bus_ended, registry_took, reader_took}
use Rattle.atspi_trace_laws.proofs.OfOrder.Shaped.{received_at}
use Rattle.atspi_trace_laws.proofs.OfOrder.Along.{Keeps, kept}
use Rattle.atspi_trace_laws.proofs.OfOrder.Growing.{Shaped, And}
use Rattle.atspi_trace_laws.proofs.OfOrder.Each.{Each, everywhere, each_more, each_of}
use Rattle.atspi_trace_laws.proofs.OfSerials.Serial.{messages_more}
use Rattle.atspi_trace_laws.proofs.OfSerials.Numbers.{Numbered}
use Rattle.atspi_trace_laws.proofs.OfHeard.Quiet.{heard_all}
use Rattle.atspi_trace_laws.proofs.OfHeld.Holdings.{call_at}
use Rattle.atspi_trace_laws.proofs.OfHeld.Keeping.{ReaderIs}
use Rattle.atspi_trace_laws.proofs.OfHeld.LawHeld.{Holds}
use Rattle.atspi_trace_laws.proofs.OfOwn.Writing.{Lives}
use Rattle.atspi_trace_laws.proofs.OfLost.Alive.{registry_lives}
use Rattle.atspi_trace_laws.proofs.OfReaders.Fates.{fails_to, FateOf, FateIs, Fated, hello_read, Holding_told, fated_keeps}

-- AN OWN CALL THAT WAS ANSWERED
-- a return answers
list_weaker : (p q : Envelope → Bool) → ((e : Envelope) → p e ≡ true → q e ≡ true) → (xs : List Envelope) → list_any p xs ≡ true → list_any q xs ≡ true
list_weaker p q f [] h = absurd (false_true h)
list_weaker p q f (x ∷ xs) h = by (p x) (q x) (f x) (list_weaker p q f xs) h
  where
    by : (a b : Bool) → (a ≡ true → b ≡ true) → (list_any p xs ≡ true → list_any q xs ≡ true) → (a || list_any p xs) ≡ true → (b || list_any q xs) ≡ true
    by a true g ih k = refl
    by true false g ih k = absurd (false_true (g refl))
    by false false g ih k = ih k

returns_answer : (es : List Entry) (r serial : ℕ) → is_returned es r serial ≡ true → is_answered es r serial ≡ true
returns_answer es r serial h =
    list_weaker (λ (e : Envelope). e.kind == 2 && is_reply_to serial e.reply) (λ e. is_reply e && is_reply_to serial e.reply) (λ e g. by e.kind (e.kind == 2) refl (is_reply_to serial e.reply) g) (taken es (Reader r)) h
  where
    by : (k : ℕ) (a : Bool) → (k == 2) ≡ a → (b : Bool) → (a && b) ≡ true → ((k == 2 || k == 3) && b) ≡ true
    by k true g b h = ap (λ x. (x || k == 3) && b) g ∙ h
    by k false g b h = absurd (false_true h)

fails_answer : (es : List Entry) (r serial : ℕ) → FateOf es r serial failed → is_answered es r serial ≡ true
fails_answer es r serial h = list_weaker (fails_to serial) (λ e. is_reply e && is_reply_to serial e.reply) (λ e g. first (is_reply e && is_reply_to serial e.reply) (not (e.kind == 2)) g) (taken es (Reader r)) h
  where
    first : (a b : Bool) → (a && b) ≡ true → a ≡ true
    first true b g = refl
    first false b g = absurd (false_true g)

fate_answers : (es : List Entry) (r serial : ℕ) (a : Asked) → has_answer a ≡ true → FateOf es r serial a.fate → is_answered es r serial ≡ true
fate_answers es r serial a has h = by a.fate has h
  where
    tested : Fate → Bool
    tested f = has_answer (record a { fate = f })

    by : (f : Fate) → has_answer (record a { fate = f }) ≡ true → FateOf es r serial f → is_answered es r serial ≡ true
    by waits k h = absurd (false_true k)
    by returned k h = returns_answer es r serial h
    by failed k h = fails_answer es r serial h

and_left : (a b : Bool) → (a && b) ≡ true → a ≡ true
and_left true b h = refl
and_left false b h = absurd (false_true h)

and_right : (a b : Bool) → (a && b) ≡ true → b ≡ true
and_right true b h = h
and_right false b h = absurd (false_true h)

-- each call that was asked was answered
all_answered : (es : List Entry) (r serial : ℕ) (xs : List Asked) → AllByRecursion (FateIs es r) xs → list_all has_answer xs ≡ true → is_some (call_at serial xs) ≡ true → is_answered es r serial ≡ true
all_answered es r serial [] a h some = absurd (false_true some)
all_answered es r serial (x ∷ xs) a h some =
    by (serial == x.serial) refl some (λ g. all_answered es r serial xs a.1 (and_right (has_answer x) (list_all has_answer xs) h) g)
  where
    by : (b : Bool) → (serial == x.serial) ≡ b → is_some (if b then Some x.question else call_at serial xs) ≡ true → (is_some (call_at serial xs) ≡ true → is_answered es r serial ≡ true) → is_answered es r serial ≡ true
    by true g k ih = subst (λ n. is_answered es r n ≡ true) (sym (eqb-true serial x.serial g)) (fate_answers es r x.serial x (and_left (has_answer x) (list_all has_answer xs) h) a.0.fate)
    by false g k ih = ih k

-- REGISTERED
registered_one : (es : List Entry) (r : ℕ) (pattern : List ℕ) (xs : List Asked) → AllByRecursion (FateIs es r) xs → list_any (λ (a : Asked). registers pattern a.question a.fate) xs ≡ true → IsRegistered es r pattern
registered_one es r pattern [] a h = absurd (false_true h)
registered_one es r pattern (x ∷ xs) a h = by (registers pattern x.question x.fate) refl h (λ g. registered_one es r pattern xs a.1 g)
  where
    found : (q : Question) (f : Fate) → registers pattern q f ≡ true → (q ≡ RegisterEvent pattern) × (f ≡ returned)
    found (RegisterEvent other) returned g = (ap RegisterEvent ((bytes_eq-Decides other pattern).0 g), refl)
    found (RegisterEvent other) waits g = absurd (false_true g)
    found (RegisterEvent other) failed g = absurd (false_true g)
    found Hello f g = absurd (false_true g)
    found (AddMatch rule) f g = absurd (false_true g)
    found GetChildren f g = absurd (false_true g)
    found (GetItems name) f g = absurd (false_true g)
    found (GetPart name path part) f g = absurd (false_true g)

    by : (b : Bool) → registers pattern x.question x.fate ≡ b → (b || list_any (λ (y : Asked). registers pattern y.question y.fate) xs) ≡ true
        → (list_any (λ (y : Asked). registers pattern y.question y.fate) xs ≡ true → IsRegistered es r pattern) → IsRegistered es r pattern
    by true g k ih =
        let y = found x.question x.fate g in
        (x.serial, ap question_of_it a.0.was ∙ a.0.read ∙ ap Some y.0, subst (FateOf es r x.serial) y.1 a.0.fate)
      where
        question_of_it : Option Envelope → Option Question
        question_of_it None = None
        question_of_it (Some e) = question_in e
    by false g k ih = ih k

registered_all : (es : List Entry) (r : ℕ) (patterns : List (List ℕ)) (xs : List Asked) → AllByRecursion (FateIs es r) xs
    → list_all (λ pattern. list_any (λ (a : Asked). registers pattern a.question a.fate) xs) patterns ≡ true → AllByRecursion (IsRegistered es r) patterns
registered_all es r [] xs a h = tt
registered_all es r (p ∷ ps) xs a h = (
  registered_one es r p xs a (and_left (list_any (λ (x : Asked). registers p x.question x.fate) xs) (list_all (λ pattern. list_any (λ (x : Asked). registers pattern x.question x.fate) xs) ps) h),
  registered_all es r ps xs a (and_right (list_any (λ (x : Asked). registers p x.question x.fate) xs) (list_all (λ pattern. list_any (λ (x : Asked). registers pattern x.question x.fate) xs) ps) h),
)

wants : (es : List Entry) (r : ℕ) (question : Question) (g : Hearer) → AllByRecursion (FateIs es r) g.asked → may_ask g question ≡ true → WantsRegistrations es r question
wants es r (GetItems name) g a h =
    registered_all es r (patterns_in start_calls) g.asked a (and_left (is_registered g.asked) (list_any (bytes_eq name) g.named) (and_right (is_listening g.asked) (is_registered g.asked && list_any (bytes_eq name) g.named) (and_right (is_bus_name name) (is_listening g.asked && (is_registered g.asked && list_any (bytes_eq name) g.named)) h)))
wants es r Hello g a h = tt
wants es r (AddMatch rule) g a h = tt
wants es r (RegisterEvent pattern) g a h = tt
wants es r GetChildren g a h = tt
wants es r (GetPart name path part) g a h = tt

-- BEHIND A MESSAGE THAT IT TOOK
abbrev pub Freed : List Entry → World → Option ℕ → Type 0
Freed es w None = Unit {0}
Freed es w (Some conn) = (r : ℕ) (e : End) → end_at w.ends conn ≡ Some e → e.who ≡ Reader r → StandsBehindGot es r

spoken_between : (r app : ℕ) (lines : List (List ℕ)) → AllByRecursion (IsBetween r) (map (spoke r app) lines)
spoken_between r app [] = tt
spoken_between r app (line ∷ lines) = (refl, spoken_between r app lines)

ended_between : (r : ℕ) (h : Hearer) (o : Option ℕ) → AllByRecursion (IsBetween r) (ended_entries r h o)
ended_between r h None = tt
ended_between r h (Some app) = (refl, spoken_between r app (last_lines (holding_of app h.holds)))

between_by : (r : ℕ) (h : Hearer) (ends : List End) (letter : Letter) (from : Party) → AllByRecursion (IsBetween r) (heard_entries r h ends (record letter { from = from }))
between_by r h ends letter (App app) = spoken_between r app (lines_if_held (holding_of app h.holds) letter.said)
between_by r h ends letter The_bus = ended_between r h (app_ended ends (record letter { from = The_bus }))
between_by r h ends letter Registry = ended_between r h (app_ended ends (record letter { from = Registry }))
between_by r h ends letter (Reader q) = ended_between r h (app_ended ends (record letter { from = Reader q }))

-- who took it
taker : (w : World) (conn : ℕ) (letter : Letter) (e : End) (role : Role) → end_at w.ends conn ≡ Some e → (y : End) × (end_at (took w conn letter e.who role).world.ends conn ≡ Some y) × (y.who ≡ e.who)
taker w conn letter e (the_registry s) h = (registry_did (registry_takes s letter.said.message) e, at_changed (registry_did (registry_takes s letter.said.message)) w.ends conn e h, refl)
taker w conn letter e (an_application s) h = (has_done s (app_takes s letter.said.message) e, at_changed (has_done s (app_takes s letter.said.message)) w.ends conn e h, refl)
taker w conn letter e (a_reader g) h =
    (record e { role = a_reader (hears_letter g w.ends letter) }, at_changed (λ x. record x { role = a_reader (hears_letter g w.ends letter) }) w.ends conn e h, refl)

freed_gets : (es : List Entry) (w : World) (conn : ℕ) → Shape w → Allowed w (gets conn) → Freed (es ++ (does w (gets conn)).entries) (does w (gets conn)).world (Some conn)
freed_gets es w conn s a r x there who =
    subst (λ d. StandsBehindGot (es ++ d.entries) r) (sym (take_is w conn e letter a.2 (a_reader hearer.0) a.3.there a.4 hearer.1)) (record {
      early = es;
      sender = letter.from;
      serial = letter.said.message.serial;
      between = heard_entries (number_of e.who) hearer.0 v.ends letter;
      stands = ap (λ p. es ++ got p letter.from letter.said.message.serial ∷ heard_entries (number_of e.who) hearer.0 v.ends letter) is;
      only = subst (λ n. AllByRecursion (IsBetween r) (heard_entries n hearer.0 v.ends letter)) (sym (ap number_of is)) (between_by r hearer.0 v.ends letter letter.from);
    })
  where
    e : End
    e = a.0

    letter : Letter
    letter = a.1

    v : World
    v = received w conn e letter

    y : (y : End) × (end_at (took v conn letter (taken_down e).who e.role).world.ends conn ≡ Some y) × (y.who ≡ (taken_down e).who)
    y = taker v conn letter (taken_down e) e.role (received_at w conn e letter a.3.there)

    same : x ≡ y.0
    same = same_some x y.0 (sym there ∙ ap (λ d. end_at d.world.ends conn) (take_is w conn e letter a.2 e.role a.3.there a.4 refl) ∙ y.1)

    is : e.who ≡ Reader r
    is = sym y.2 ∙ ap (λ (z : End). z.who) (sym same) ∙ who

    hearer : (h : Hearer) × (e.role ≡ a_reader h)
    hearer = reader_role e.role r (subst (λ p. RoleFits p e.role) is (s.roles conn e a.3.there))

freed_now : (es : List Entry) (w : World) (c : Cause) → Shape w → Allowed w c → Freed (es ++ (does w c).entries) (does w c).world (freed c)
freed_now es w (gets conn) s a = freed_gets es w conn s a
freed_now es w (renews quota) s a = tt
freed_now es w (starts_app name) s a = tt
freed_now es w starts_reader s a = tt
freed_now es w (edits conn edit) s a = tt
freed_now es w (calls conn name node deed) s a = tt
freed_now es w swaps_face s a = tt
freed_now es w (exits conn) s a = tt
freed_now es w (shows conn app) s a = tt
freed_now es w (tells_busy turns) s a = tt
freed_now es w tells_quiet s a = tt
freed_now es w (routes conn) s a = tt
freed_now es w (unjoins conn) s a = tt

-- THE LAW OF LISTS
abbrev IsAllowedAlive : List Entry → Entry → List Entry → Type 0
IsAllowedAlive before entry behind = Lives before → IsAllowedCall before entry behind

weaker : (ys before : List Entry) (entry : Entry) (behind : List Entry) → IsAllowedCall before entry behind → IsAllowedCall before entry (behind ++ ys)
weaker ys before (sent (Reader r) e) behind h = h
weaker ys before (sent The_bus e) behind h = tt
weaker ys before (sent Registry e) behind h = tt
weaker ys before (sent (App a) e) behind h = tt
weaker ys before entry behind h = tt

all_weaker : (ys early xs : List Entry) → Each IsAllowedAlive early xs → Each (λ before entry behind. IsAllowedAlive before entry (behind ++ ys)) early xs
all_weaker ys early [] e = tt
all_weaker ys early (x ∷ xs) e = ((λ live. weaker ys early x xs (e.0 live)), all_weaker ys (early ++ x ∷ []) xs e.1)

law_more : (es ys : List Entry) → Each IsAllowedAlive [] es → Each IsAllowedAlive es ys → Each IsAllowedAlive [] (es ++ ys)
law_more es ys a b = each_more IsAllowedAlive [] es ys (all_weaker ys [] es a) b

-- entries without an own call
abbrev Calm : Entry → Type 0
Calm (sent (Reader r) e) = question_in e ≡ None
Calm entry = Unit {0}

calm_law : (before : List Entry) (entry : Entry) (behind : List Entry) → Calm entry → IsAllowedAlive before entry behind
calm_law before (sent (Reader r) e) behind n = λ live question h. absurd (no_none question (sym n ∙ h))
calm_law before (sent The_bus e) behind n = λ live. tt
calm_law before (sent Registry e) behind n = λ live. tt
calm_law before (sent (App a) e) behind n = λ live. tt
calm_law before entry behind n = λ live. tt

calmly : (es : List Entry) (d x : Done) → d ≡ x → AllByRecursion Calm x.entries → Each IsAllowedAlive es d.entries
calmly es d x is a = each_of Calm IsAllowedAlive es d.entries calm_law (subst (λ y. AllByRecursion Calm y.entries) (sym is) a)

did_calm : (app : ℕ) (hs : List Happening) → AllByRecursion Calm (map (did app) hs)
did_calm app [] = tt
did_calm app (steps step ∷ hs) = (tt, did_calm app hs)
did_calm app (sends e ∷ hs) = (tt, did_calm app hs)
did_calm app (hears listener pattern ∷ hs) = (tt, did_calm app hs)
did_calm app (deaf listener pattern ∷ hs) = (tt, did_calm app hs)

registry_calm : (es : List Envelope) → AllByRecursion Calm (map (sent Registry) es)
registry_calm [] = tt
registry_calm (e ∷ es) = (tt, registry_calm es)

sent_calm : (who : Party) (es : List Envelope) → who ≡ Registry → AllByRecursion Calm (map (sent who) es)
sent_calm who es h = subst (λ p. AllByRecursion Calm (map (sent p) es)) (sym h) (registry_calm es)

call_calm : (who : Party) (e : Envelope) → question_in e ≡ None → Calm (sent who e)
call_calm The_bus e h = tt
call_calm Registry e h = tt
call_calm (App a) e h = tt
call_calm (Reader r) e h = h

bus_calm : (ends : List End) (own : List Envelope) (closings : List Closing) → AllByRecursion Calm (bus_entries ends own closings)
bus_calm ends own closings =
    bus_all Calm (λ e. tt) ends own closings (all_any (λ (x : Closing). (queued len : ℕ) → Calm (dropped (party_at ends x.conn) queued len)) (λ x queued len. tt) closings)

-- a reader's Hello
starting : (es : List Entry) (w : World) (d : Done) → Numbered es w → d ≡ reader_starts w → Each IsAllowedAlive es d.entries
starting es w d m is =
    subst (λ x. Each IsAllowedAlive es x.entries) (sym is) (
      (λ live. tt),
      (
        (λ live question h. record {
          behind_got = λ k. absurd (nothing (messages before (Reader n)) none k);
          answered = λ serial some. absurd (unasked serial some);
          registered = subst (WantsRegistrations before n) (same_some Hello question (sym hello_read ∙ h)) tt;
        }),
        tt,
      ),
    )
  where
    n : ℕ
    n = reader_count w.ends

    before : List Entry
    before = es ++ started (Reader n) None ∷ []

    least : (k : ℕ) → k ≤ k
    least k = omega arith

    none : messages before (Reader n) ≡ []
    none = messages_more es (started (Reader n) None ∷ []) (Reader n) ∙ ap (λ l. l ++ []) (m.2 (Reader n) (least n))

    nothing : (l : List Envelope) → l ≡ [] → 0 < length l → ⊥
    nothing l h k = absurd (omega (arith, ap length h, k))

    unasked : (serial : ℕ) → is_some (own_call before n serial) ≡ true → ⊥
    unasked serial some = false_true (ap (λ l. is_some (question_if (with_serial serial l))) (sym none) ∙ some)

caused_law : (es : List Entry) (w : World) (d : Done) → Numbered es w → Effect w d → Each IsAllowedAlive es d.entries
caused_law es w d m (resets quota few is) = calmly es d _ is tt
caused_law es w d m (app_joins name short is) =
    calmly es d _ is (tt, did_calm (number_of (party_at (w.ends ++ put_up [] (newcomer (App (app_count w.ends)) (an_application (begins_app name))) ∷ []) (length w.ends))) (starts (begins_app name)).out)
caused_law es w d m (reader_joins few is) = starting es w d m is
caused_law es w d m (app_edited b) = calmly es d _ b.is (did_calm _ b.after.out)
caused_law es w d m (app_took b) = calmly es d _ b.is (tt, did_calm _ (app_takes b.before b.letter.said.message).out)
caused_law es w d m (reader_called b) = calmly es d _ b.is (call_calm (party_at w.ends b.conn) _ (user_plain b.hearer.next b.name b.node b.deed), tt)
caused_law es w d m (swapped b) = calmly es d _ b.is tt
caused_law es w d m (exited_ b) = calmly es d _ b.is (tt, tt)
caused_law es w d m (showed_ b) = calmly es d _ b.is (tt, tt)
caused_law es w d m (told_busy turns is) = calmly es d _ is (tt, tt)
caused_law es w d m (told_quiet none is) = calmly es d _ is (tt, tt)
caused_law es w d m (bus_took b) =
    let c = carrying.takes (record { bus = w.bus; ends = w.ends }) b.conn b.e.who b.said in
    calmly es d _ b.is (tt, bus_calm c.ends c.bus.own c.bus.closings)
caused_law es w d m (bus_ended b) =
    let c = carrying.takes_end (record { bus = w.bus; ends = w.ends }) b.conn in
    calmly es d _ b.is (bus_calm c.ends c.bus.own c.bus.closings)
caused_law es w d m (registry_took b) = calmly es d _ b.is (tt, sent_calm b.e.who (registry_takes b.before b.letter.said.message).sent b.whose)
caused_law es w d m (reader_took b) =
    calmly es d _ b.is (tt, heard_all Calm (λ r app line. tt) (λ r app. tt) (number_of b.e.who) b.hearer (received w b.conn b.e b.letter).ends b.letter)

-- AN OWN CALL
pub record Reading (es : List Entry) (w : World) (free : Option ℕ) : Type 0 where
  pub below : Shaped (And Holding_told Fated) es w free
  pub freed_ : Freed es w free
  pub law : Each IsAllowedAlive [] es

free_call : (es : List Entry) (w : World) (conn r : ℕ) (m : Envelope) (question : Question) → Reading es w (Some conn) → (a : Asks w conn r m question) → Lives es → (other : Question) → question_in m ≡ Some other
    → IsFreeCall es r m other
free_call es w conn r m question i a live other h = record {
  behind_got = λ k. i.freed_ r a.asker a.is_here.there a.whose;
  answered = λ serial some. all_answered es r serial a.hearer.asked fates a.answered (ap is_some (sym (reader.calls serial)) ∙ some);
  registered = subst (WantsRegistrations es r) (same_some question other (sym a.read ∙ h)) (wants es r question a.hearer fates a.allowed);
}
  where
    fated : Fated es w
    fated = i.below.1.1

    fates : AllByRecursion (FateIs es r) a.hearer.asked
    fates = fated live conn r a.asker a.hearer a.is_here.there a.whose a.reader

    holds_ : Holds es w
    holds_ = i.below.1.0.0.1

    reader : ReaderIs es r a.hearer
    reader = holds_.1 conn r a.asker a.hearer a.is_here.there a.whose a.reader

numbered_of : (es : List Entry) (w : World) → Holding_told es w → Numbered es w
numbered_of es w a = a.0.0.0.0.0.1

reading_keeps : Keeps Reading
reading_keeps = record {
  begins = record { below = fated_keeps.begins; freed_ = tt; law = tt };
  caused = λ es w c i a. record {
    below = fated_keeps.caused es w c i.below a;
    freed_ = freed_now es w c i.below.0 a;
    law = law_more es (does w c).entries i.law (caused_law es w (does w c) (numbered_of es w i.below.1.0) (effect w c i.below.0 a));
  };
  moved = λ es w v i m. record { below = fated_keeps.moved es w v i.below m; freed_ = tt; law = i.law };
  passed = λ es w free i. record { below = fated_keeps.passed es w free i.below; freed_ = tt; law = i.law };
  asked = λ es w conn r m question i a. record {
    below = fated_keeps.asked es w conn r m question i.below a;
    freed_ = tt;
    law = law_more es (sent (Reader r) m ∷ []) i.law ((λ live other h. free_call es w conn r m question i a live other h), tt);
  };
}

each_front : (xs ys : List Entry) (early : List Entry) → Each IsAllowedAlive early (xs ++ ys) → Each IsAllowedAlive early xs
each_front [] ys early e = tt
each_front (x ∷ xs) ys early e = ((λ live. fewer x (e.0 live)), each_front xs ys (early ++ x ∷ []) e.1)
  where
    fewer : (entry : Entry) → IsAllowedCall early entry (xs ++ ys) → IsAllowedCall early entry xs
    fewer (sent (Reader r) m) law = law
    fewer (sent The_bus m) law = tt
    fewer (sent Registry m) law = tt
    fewer (sent (App a) m) law = tt
    fewer entry law = tt

pub readers_law : (lines : List Line) (trace : List Entry) → CanAllStand lines → Goes (begins lines) trace → LawOfReaders trace
readers_law lines trace a g before entry behind h =
    let k = kept Reading reading_keeps lines trace a g in
    everywhere IsAllowedAlive trace (each_front trace _ [] k.state.law) before entry behind h (registry_lives lines trace a g before entry behind h)
