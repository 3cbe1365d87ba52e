-- An application signs with its own unique name, along a lawful trace.
use Rattle.std.proofs.Common.{◌≡◌, ◌⊎◌, inl, inr, ℕ, suc, List, [], ◌∷◌, ◌++◌, map, None, Some, sym, ap, ◌∙◌, subst, arith}
use Rattle.std.specs.Prelude.{option_map}
use Rattle.std.specs.List.{AllByRecursion}
use Rattle.std.proofs.lemmas.List.{append-nil, append_assoc}
use Rattle.atspi_script_lines.specs.declared.line.Line.{Line}
use Rattle.atspi_script_lines.specs.declared.line.Party.TheVariants.{Bus as The_bus, Registry, App, Reader}
use Rattle.atspi_names.specs.Owners.{unique_name}
use Rattle.atspi_protocol.specs.registering.Steps.{registry_takes}
use Rattle.atspi_protocol.specs.exporting.Exporter.{Happening, steps, sends, hears, deaf, Exporter}
use Rattle.atspi_protocol.specs.exporting.Starting.{name_or_empty}
use Rattle.atspi_protocol.specs.exporting.Taking.{app_takes}
use Rattle.atspi_trace.specs.Entry.{Entry, changed, sent, got, heard, unheard}
use Rattle.atspi_trace.specs.World.{World}
use Rattle.atspi_trace.specs.Ends.{same_party, number_of, whose, party_at, taken_down}
use Rattle.atspi_trace.specs.Carrying as carrying
use Rattle.atspi_trace.specs.Causes.{Done, did, app_starts, reader_starts}
use Rattle.atspi_trace.specs.Due.{begins, after_all, Goes}
use Rattle.atspi_trace_laws.specs.laws.Words.{name_in}
use Rattle.atspi_trace_laws.specs.laws.NineLaws.{Everywhere, IsTold, IsSignalOfStep, LawOfApplications}
use Rattle.atspi_trace_laws.specs.order.Scripts.{CanAllStand}
use Rattle.atspi_trace_laws.specs.heard.Laws.{signals_under, IsAmong}
use Rattle.atspi_trace_laws.specs.signed.Laws.{IsItsName, IsSignedTruly}
use Rattle.atspi_trace_laws.proofs.OfOrder.Parties.{all_front}
use Rattle.atspi_trace_laws.proofs.OfOrder.Effects.{received, AppEdits, AppTakes, Effect, resets, app_joins, reader_joins, app_edited, app_took, reader_called, swapped, exited_, showed_, told_busy, told_quiet, bus_took, bus_ended, registry_took, reader_took}
use Rattle.atspi_trace_laws.proofs.OfOrder.Shaped.{received_at}
use Rattle.atspi_trace_laws.proofs.OfOrder.Along.{Keeps, kept}
use Rattle.atspi_trace_laws.proofs.OfOrder.Growing.{Grows, Shaped, And, grown}
use Rattle.atspi_trace_laws.proofs.OfOrder.Each.{Each, everywhere, each_more, each_of}
use Rattle.atspi_trace_laws.proofs.OfOrder.Acts.{number_at}
use Rattle.atspi_trace_laws.proofs.OfSteps.Steps.{Trees}
use Rattle.atspi_trace_laws.proofs.OfSerials.Numbers.{Numbered}
use Rattle.atspi_trace_laws.proofs.OfLinks.LawLinks.{NotTaken}
use Rattle.atspi_trace_laws.proofs.OfHeard.Telling.{Under, At}
use Rattle.atspi_trace_laws.proofs.OfHeard.Heeding.{IsNameOf, Plainly, Properly, Says, takes_says, edit_says}
use Rattle.atspi_trace_laws.proofs.OfHeard.Quiet.{IsQuiet, bus_quiet, heard_all}
use Rattle.atspi_trace_laws.proofs.OfHeard.LawHeard.{Heard, at_es, at_got, quiet_of, sent_quiet, all_sent_quiet}
use Rattle.atspi_trace_laws.proofs.OfNames.Places.{first_at, greeted, greeted_more, none_greeted, name_told, told_is}
use Rattle.atspi_trace_laws.proofs.OfDelivered.LawLinks.{serials_rise}
use Rattle.atspi_trace_laws.proofs.OfSigned.Between.{OfMessage, signal_messages}
use Rattle.atspi_trace_laws.proofs.OfSigned.Mail.{told_more}
use Rattle.atspi_trace_laws.proofs.OfSigned.Self.{IsSelf, Selves}
use Rattle.atspi_trace_laws.proofs.OfSigned.LawMail.{Under_mail, Known_mail, mail_keeps}

-- THE LAW OF LISTS
weaker : (ys before : List Entry) (entry : Entry) (behind : List Entry) → IsSignedTruly before entry behind → IsSignedTruly before entry (behind ++ ys)
weaker ys before (changed app step) behind h = λ name its. let f = h name its in (f.0 ++ ys, ap (λ l. l ++ ys) f.1 ∙ append_assoc (signals_under name before app step) f.0 ys)
weaker ys before (sent (App app) e) behind h = h
weaker ys before (sent The_bus e) behind h = tt
weaker ys before (sent Registry e) behind h = tt
weaker ys before (sent (Reader r) e) behind h = tt
weaker ys before entry behind h = tt

all_weaker : (ys early xs : List Entry) → Each IsSignedTruly early xs → Each (λ before entry behind. IsSignedTruly before entry (behind ++ ys)) early xs
all_weaker ys early [] e = tt
all_weaker ys early (x ∷ xs) e = (weaker ys early x xs e.0, all_weaker ys (early ++ x ∷ []) xs e.1)

truly_more : (early xs ys : List Entry) → Each IsSignedTruly early xs → Each IsSignedTruly (early ++ xs) ys → Each IsSignedTruly early (xs ++ ys)
truly_more early xs ys a b = each_more IsSignedTruly early xs ys (all_weaker ys early xs a) b

quiet_truly : (before : List Entry) (entry : Entry) (behind : List Entry) → IsQuiet entry → IsSignedTruly before entry behind
quiet_truly before (changed app step) behind q = absurd q
quiet_truly before (sent (App app) e) behind q = absurd q
quiet_truly before (sent The_bus e) behind q = tt
quiet_truly before (sent Registry e) behind q = tt
quiet_truly before (sent (Reader r) e) behind q = tt
quiet_truly before entry behind q = tt

-- what an application does, under each name that is its own
module _ (app : ℕ) (s : Exporter) (deaf_ : s.name ≡ None → s.heard ≡ []) where
  its_own : (early : List Entry) → ((own : List ℕ) → s.name ≡ Some own → name_told early (App app) ≡ Some own) → (name : List ℕ) → IsItsName early app name → IsNameOf s name
  its_own early known name its = record { deaf_ = deaf_; same = λ own h. its own (told_is early (App app) ∙ known own h) }

  truly_of : (early : List Entry) (hs : List Happening) → ((own : List ℕ) → s.name ≡ Some own → name_told early (App app) ≡ Some own)
      → ((name : List ℕ) → IsNameOf s name → Each (Under name) early (map (did app) hs)) → Each IsSignedTruly early (map (did app) hs)
  truly_of early [] known f = tt
  truly_of early (steps step ∷ hs) known f = (
    (λ name its. (f name (its_own early known name its)).0),
    truly_of (early ++ changed app step ∷ []) hs (λ own h. told_more early (changed app step ∷ []) (App app) own (known own h)) (λ name is. (f name is).1),
  )
  truly_of early (sends e ∷ hs) known f = (
    (λ four name its. (f name (its_own early known name its)).0 four),
    truly_of (early ++ sent (App app) e ∷ []) hs (λ own h. told_more early (sent (App app) e ∷ []) (App app) own (known own h)) (λ name is. (f name is).1),
  )
  truly_of early (hears listener pattern ∷ hs) known f =
      (tt, truly_of (early ++ heard app listener pattern ∷ []) hs (λ own h. told_more early (heard app listener pattern ∷ []) (App app) own (known own h)) (λ name is. (f name is).1))
  truly_of early (deaf listener pattern ∷ hs) known f =
      (tt, truly_of (early ++ unheard app listener pattern ∷ []) hs (λ own h. told_more early (unheard app listener pattern ∷ []) (App app) own (known own h)) (λ name is. (f name is).1))

abbrev pub Signed : List Entry → World → Type 0
Signed es w = Each IsSignedTruly [] es

more_signed : (es ys : List Entry) → Each IsSignedTruly [] es → AllByRecursion IsQuiet ys → Each IsSignedTruly [] (es ++ ys)
more_signed es ys i q = truly_more [] es ys i (each_of IsQuiet IsSignedTruly es ys quiet_truly q)

-- an application acts
acted_signed : (es front : List Entry) (app : ℕ) (s t : Exporter) → Each IsSignedTruly [] es → (says : Says app s t) → s.out ≡ [] → AllByRecursion IsQuiet front → At (es ++ front) app s.heard s.tree s.next → IsSelf es app s
    → Each IsSignedTruly [] (es ++ (front ++ map (did app) t.out))
acted_signed es front app s t i says empty q at old =
    truly_more [] es (front ++ map (did app) t.out) i
    (truly_more es front (map (did app) t.out) (each_of IsQuiet IsSignedTruly es front quiet_truly q)
    (subst (λ hs. Each IsSignedTruly (es ++ front) (map (did app) hs)) (sym (says.out ∙ ap (λ l. l ++ says.doings) empty))
    (truly_of app s old.deaf_ (es ++ front) says.doings (λ own h. told_more es front (App app) own (old.told own h)) (λ name own. by name own says.signed))))
  where
    by : (name : List ℕ) → IsNameOf s name → (Plainly app says.doings ⊎ Properly app s says.doings) → Each (Under name) (es ++ front) (map (did app) says.doings)
    by name own (inl plain) = plain name (es ++ front)
    by name own (inr proper) = proper name own (es ++ front) at

-- EACH CAUSE
signed_as : (es xs ys : List Entry) → xs ≡ ys → Each IsSignedTruly [] (es ++ ys) → Each IsSignedTruly [] (es ++ xs)
signed_as es xs ys h i = subst (λ l. Each IsSignedTruly [] (es ++ l)) (sym h) i

edits_signed : (es : List Entry) (w : World) (d : Done) → Trees es w → Numbered es w → Heard es w → Selves es w → Signed es w → AppEdits w d → Signed (es ++ d.entries) d.world
edits_signed es w d t m h selves i b =
    let at = at_es es w b.conn b.app b.e b.before t m.1 h.1 b.is_here.there b.whose b.role in
    signed_as es d.entries (map (did b.app) b.after.out) (ap (λ x. x.entries) b.is ∙ ap (λ n. map (did n) b.after.out) (number_at w.ends b.conn b.app b.e b.is_here.there b.whose))
    (acted_signed es [] b.app b.before b.after i (edit_says b.app b.before b.after b.edit b.done) (t b.conn b.app b.e b.before b.is_here.there b.whose b.role).empty tt
    (subst (λ l. At l b.app b.before.heard b.before.tree b.before.next) (sym (append-nil es)) at) (selves b.conn b.app b.e b.before b.is_here.there b.whose b.role))

takes_signed : (es : List Entry) (w : World) (d : Done) → Trees es w → Numbered es w → Heard es w → Selves es w → Signed es w → AppTakes w d → Signed (es ++ d.entries) d.world
takes_signed es w d t m h selves i b =
    let after : Exporter = app_takes b.before b.letter.said.message in
    let first : Entry = got b.e.who b.letter.from b.letter.said.message.serial in
    let at = at_es es w b.conn b.app b.e b.before t m.1 h.1 b.is_here.there b.whose b.role in
    signed_as es d.entries (first ∷ map (did b.app) after.out)
    (ap (λ x. x.entries) b.is ∙ ap (λ n. first ∷ map (did n) after.out) (number_at (received w b.conn b.e b.letter).ends b.conn b.app (taken_down b.e) (received_at w b.conn b.e b.letter b.is_here.there) b.whose))
    (acted_signed es (first ∷ []) b.app b.before after i (takes_says b.app b.before b.letter.said.message) (t b.conn b.app b.e b.before b.is_here.there b.whose b.role).empty (tt, tt)
    (at_got es b.e.who b.letter.from b.letter.said.message.serial b.app b.before at) (selves b.conn b.app b.e b.before b.is_here.there b.whose b.role))

one_not_four : ◌≡◌ {A = ℕ} 1 4 → ⊥
one_not_four h = omega (arith, h)

caused : (es : List Entry) (w : World) (d : Done) → Trees es w → Numbered es w → Heard es w → Selves es w → Signed es w → Effect w d → Signed (es ++ d.entries) d.world
caused es w d t m h selves i (resets quota old is) = more_signed es d.entries i (quiet_of d _ is tt)
caused es w d t m h selves i (app_joins name short is) =
    subst (λ x. Each IsSignedTruly [] (es ++ x.entries)) (sym is) (truly_more [] es (app_starts w name).entries i (tt, ((λ four. absurd (one_not_four four)), tt)))
caused es w d t m h selves i (reader_joins old is) = more_signed es d.entries i (quiet_of d (reader_starts w) is (tt, (tt, tt)))
caused es w d t m h selves i (app_edited b) = edits_signed es w d t m h selves i b
caused es w d t m h selves i (app_took b) = takes_signed es w d t m h selves i b
caused es w d t m h selves i (reader_called b) = more_signed es d.entries i (quiet_of d _ b.is (sent_quiet (party_at w.ends b.conn) b.reader _ (ap whose b.is_here.there ∙ b.whose), tt))
caused es w d t m h selves i (swapped b) = more_signed es d.entries i (quiet_of d _ b.is tt)
caused es w d t m h selves i (exited_ b) = more_signed es d.entries i (quiet_of d _ b.is (tt, tt))
caused es w d t m h selves i (showed_ b) = more_signed es d.entries i (quiet_of d _ b.is (tt, tt))
caused es w d t m h selves i (told_busy turns is) = more_signed es d.entries i (quiet_of d _ is (tt, tt))
caused es w d t m h selves i (told_quiet none is) = more_signed es d.entries i (quiet_of d _ is (tt, tt))
caused es w d t m h selves i (bus_took b) =
    let c = carrying.takes (record { bus = w.bus; ends = w.ends }) b.conn b.e.who b.said in more_signed es d.entries i (quiet_of d _ b.is (tt, bus_quiet c.ends c.bus.own c.bus.closings))
caused es w d t m h selves i (bus_ended b) =
    let c = carrying.takes_end (record { bus = w.bus; ends = w.ends }) b.conn in more_signed es d.entries i (quiet_of d _ b.is (bus_quiet c.ends c.bus.own c.bus.closings))
caused es w d t m h selves i (registry_took b) = more_signed es d.entries i (quiet_of d _ b.is (tt, all_sent_quiet b.e.who (registry_takes b.before b.letter.said.message).sent b.whose))
caused es w d t m h selves i (reader_took b) =
    more_signed es d.entries i (quiet_of d _ b.is (tt, heard_all IsQuiet (λ r app line. tt) (λ r app. tt) (number_of b.e.who) b.hearer (received w b.conn b.e b.letter).ends b.letter))

abbrev pub Under_signed : List Entry → World → Type 0
Under_signed es w = And Under_mail Known_mail es w

signed_grows : Grows Under_signed Signed
signed_grows = record {
  begins = tt;
  caused = λ es w d s a i e after b. let u = a.0.1.0.0 in caused es w d u.0.0.0.1.1 u.0.0.1 u.1 a.1.1 i e;
  moved = λ es w v s a i m. i;
  asked = λ es w conn r m question s a i asks. more_signed es (sent (Reader r) m ∷ []) i (tt, tt);
}

pub signed_keeps : Keeps (Shaped (And Under_signed Signed))
signed_keeps = grown Under_signed Signed mail_keeps signed_grows

-- THE LAWS
pub signed_law : (lines : List Line) (trace : List Entry) → CanAllStand lines → Goes (begins lines) trace → (after_all (begins lines) trace).owing ≡ [] → Everywhere IsSignedTruly trace
signed_law lines trace a g none =
    let k = kept (Shaped (And Under_signed Signed)) signed_keeps lines trace a g in
    everywhere IsSignedTruly trace (subst (Each IsSignedTruly []) (ap (λ l. trace ++ l) none ∙ append-nil trace) k.state.1.1)

-- the name that the trace tells is its own
told_own : (before : List Entry) (app : ℕ) → IsItsName before app (name_or_empty (name_in before (App app)))
told_own before app own h = sym (ap name_or_empty h)

is_told : (before : List Entry) (entry : Entry) (behind : List Entry) → IsSignedTruly before entry behind → IsTold before entry behind
is_told before (changed app step) behind h = h (name_or_empty (name_in before (App app))) (told_own before app)
is_told before entry behind h = tt

-- nobody is greeted among the signals of a step
no_greeting : (app : ℕ) (xs : List Entry) → AllByRecursion (OfMessage (λ y. y.kind ≡ 4) app) xs → AllByRecursion NotTaken xs
no_greeting app [] a = tt
no_greeting app (sent (App n) e ∷ xs) a = (tt, no_greeting app xs a.1)
no_greeting app (x ∷ xs) a = absurd a.0

is_of_step : (before : List Entry) (entry : Entry) (behind : List Entry) → IsSignedTruly before entry behind → IsSignalOfStep before entry behind
is_of_step before (sent (App app) e) behind h = λ four.
    let x = h four (name_or_empty (name_in before (App app))) (told_own before app) in
    let a : IsAmong before app e = x.0 in
    let fours : AllByRecursion (OfMessage (λ y. y.kind ≡ 4) app) (a.front ++ sent (App app) e ∷ a.back) = subst (AllByRecursion (OfMessage (λ y. y.kind ≡ 4) app)) a.listed (signal_messages a.early app a.name a.step) in
    let quiet : greeted (changed app a.step ∷ a.front) ≡ [] = none_greeted (changed app a.step ∷ a.front) (tt, no_greeting app a.front (all_front (OfMessage (λ y. y.kind ≡ 4) app) a.front (sent (App app) e ∷ a.back) fours)) in
    let names : name_told before (App app) ≡ name_told a.early (App app) =
    ap (λ l. name_told l (App app)) a.stands
    ∙ ap (λ l. option_map (λ n. unique_name (suc n)) (first_at (same_party (App app)) l)) (greeted_more a.early (changed app a.step ∷ a.front) ∙ ap (λ l. greeted a.early ++ l) quiet ∙ append-nil (greeted a.early)) in
    let same : a.name ≡ name_or_empty (name_in a.early (App app)) = x.1 ∙ ap name_or_empty (told_is before (App app) ∙ names ∙ sym (told_is a.early (App app))) in
    record { early = a.early; step = a.step; front = a.front; back = a.back; stands = a.stands; listed = ap (λ n. signals_under n a.early app a.step) (sym same) ∙ a.listed }
is_of_step before (sent The_bus e) behind h = tt
is_of_step before (sent Registry e) behind h = tt
is_of_step before (sent (Reader r) e) behind h = tt
is_of_step before entry behind h = tt

pub applications_law : (lines : List Line) (trace : List Entry) → CanAllStand lines → Goes (begins lines) trace → (after_all (begins lines) trace).owing ≡ [] → LawOfApplications trace
applications_law lines trace a g none = record {
  told = λ before entry behind h. is_told before entry behind (signed_law lines trace a g none before entry behind h);
  no_others = λ before entry behind h. is_of_step before entry behind (signed_law lines trace a g none before entry behind h);
  serials = serials_rise lines trace a g;
}
