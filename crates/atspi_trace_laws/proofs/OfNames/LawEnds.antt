-- A reader tells the end of an application exactly where it takes the news of it, along a lawful trace.
use Rattle.std.proofs.Common.{◌≡◌, ℕ, zero, suc, ◌+◌, ◌≤◌, Bool, true, false, List, [], ◌∷◌, ◌++◌, length, map, Option, None, Some, refl, sym, ap, ap₂, ◌∙◌, subst, arith}
use Rattle.std.specs.Prelude.{bytes_eq, option_map, if◌then◌else◌}
use Rattle.std.specs.List.{AllByRecursion}
use Rattle.std.proofs.lemmas.List.{append-nil, append_assoc}
use Rattle.std.proofs.lemmas.Slice.Eq.{bytes_eq-Decides}
use Rattle.atspi_tree_model.specs.Forest.{first_of}
use Rattle.atspi_script_lines.specs.declared.line.Line.{Line}
use Rattle.atspi_script_lines.specs.declared.line.Party.{Party}
use Rattle.atspi_script_lines.specs.declared.line.Party.TheVariants.{Bus as The_bus, Registry, App, Reader}
use Rattle.atspi_message.specs.Envelope.{Envelope}
use Rattle.atspi_names.specs.Owners.{unique_name}
use Rattle.atspi_match.specs.declared.routing.closing.Closing.{Closing}
use Rattle.atspi_protocol.specs.following.Known.{told_end}
use Rattle.atspi_protocol.specs.registering.Steps.{registry_takes}
use Rattle.atspi_protocol.specs.exporting.Exporter.{Happening, steps, sends, hears, deaf}
use Rattle.atspi_protocol.specs.exporting.Taking.{app_takes}
use Rattle.atspi_speech.specs.Speech.{closing_says}
use Rattle.atspi_trace.specs.Entry.{Entry, sent, spoke, gone, got, dropped}
use Rattle.atspi_trace.specs.World.{Holding, Hearer, Said, End, World}
use Rattle.atspi_trace.specs.Ends.{same_party, number_of, party_at, end_at, taken_down, number_if, app_named, app_count, reader_count}
use Rattle.atspi_trace.specs.Carrying as carrying
use Rattle.atspi_trace.specs.Carrying.{bus_entries}
use Rattle.atspi_trace.specs.Hearing.{holding_of, last_lines, ended_entries, app_with, heard_entries}
use Rattle.atspi_trace.specs.Causes.{Done, did, app_starts, reader_starts}
use Rattle.atspi_trace.specs.Due.{after_all, begins, Goes}
use Rattle.atspi_trace_laws.specs.laws.Words.{message, messages, name_in, Kept, held, as_of}
use Rattle.atspi_trace_laws.specs.laws.NineLaws.{Everywhere, closing_due, TellsEnd, LawOfExits}
use Rattle.atspi_trace_laws.specs.order.Scripts.{CanAllStand}
use Rattle.atspi_trace_laws.proofs.OfOrder.Parties.{no_none, same_some, false_true}
use Rattle.atspi_trace_laws.proofs.OfOrder.BusWords.{all_any, bus_all}
use Rattle.atspi_trace_laws.proofs.OfOrder.Frame.{over_with}
use Rattle.atspi_trace_laws.proofs.OfOrder.Effects.{received, ReaderTakes, Effect, resets, app_joins, reader_joins, app_edited, app_took, reader_called, swapped, exited_, showed_, told_busy, told_quiet, bus_took, bus_ended, registry_took, reader_took}
use Rattle.atspi_trace_laws.proofs.OfOrder.Along.{Keeps, kept}
use Rattle.atspi_trace_laws.proofs.OfOrder.Growing.{Grows, Shaped, Nothing, And, grown}
use Rattle.atspi_trace_laws.proofs.OfOrder.Each.{Each, everywhere, each_more, each_of}
use Rattle.atspi_trace_laws.proofs.OfOrder.Exits.{nothing_follows}
use Rattle.atspi_trace_laws.proofs.OfHeard.Quiet.{heard_all}
use Rattle.atspi_trace_laws.proofs.OfHeld.Keeping.{SameKept, ReaderIs}
use Rattle.atspi_trace_laws.proofs.OfHeld.LawHeld.{Below_held, Holds, holds_keep}
use Rattle.atspi_trace_laws.proofs.OfOwn.Writing.{Lives}
use Rattle.atspi_trace_laws.proofs.OfLost.Alive.{registry_lives}
use Rattle.atspi_trace_laws.proofs.OfReaders.BusSaid.{OwnIs}
use Rattle.atspi_trace_laws.proofs.OfReaders.TellsBus.{Speaks_true, Below_told, told_keeps}
use Rattle.atspi_trace_laws.proofs.OfReaders.Fates.{both_keep}
use Rattle.atspi_trace_laws.proofs.OfNames.Places.{first_at, greeted, name_told, told_is, told_among, names_differ, count_ends, count_least}
use Rattle.atspi_trace_laws.proofs.OfNames.LawNames.{has_name, IsAt, Named, SameName, same_name, down_same, still_quiet, Under_names, names_keep}
use Rattle.atspi_trace_laws.proofs.OfNames.Bounds.{Fits, Bounded, bounds_keep}

-- so few parties were greeted
pub few_greeted : (es : List Entry) (w : World) → Named es w → Fits w → length (greeted es) ≤ 1000
few_greeted es w i f =
    let size : suc (length (greeted es)) ≡ count_ends has_name w.ends = i.size in
    let least : count_ends has_name w.ends ≤ length w.ends = count_least has_name w.ends in
    let apps : app_count w.ends ≤ 16 = f.0 in
    let readers : reader_count w.ends ≤ 4 = f.1 in
    let all : length w.ends ≤ suc (app_count w.ends + reader_count w.ends) = f.2 in
    omega (arith, size, least, apps, readers, all)

-- whose number a name gives
pub number_is : (name : List ℕ) (p : Party) (v : Option (List ℕ)) (a : ℕ) → number_if name p v ≡ Some a → (p ≡ App a) × (v ≡ Some name)
number_is name (App b) (Some other) a g = at (bytes_eq other name) refl g
  where
    at : (t : Bool) → bytes_eq other name ≡ t → (if t then Some b else None) ≡ Some a → (App b ≡ App a) × (Some other ≡ Some name)
    at true s q = (ap App (same_some b a q), ap Some ((bytes_eq-Decides other name).0 s))
    at false s q = absurd (no_none a q)
number_is name (App b) None a g = absurd (no_none a g)
number_is name The_bus v a g = absurd (no_none a g)
number_is name Registry v a g = absurd (no_none a g)
number_is name (Reader r) v a g = absurd (no_none a g)

-- the application that a name tells of
named_found : (app : ℕ) (name : List ℕ) (ends : List End) → ((k : ℕ) (e : End) (a : ℕ) → end_at ends k ≡ Some e → e.who ≡ App a → e.unique ≡ Some name → a ≡ app) → (k : ℕ) (e : End) → end_at ends k ≡ Some e → e.who ≡ App app
    → e.unique ≡ Some name → app_named name ends ≡ Some app
named_found app name [] f k e h who u = absurd (no_none e h)
named_found app name (x ∷ xs) f k e h who u = by (number_if name x.who x.unique) refl k h (λ j g. named_found app name xs (λ j y a. f (suc j) y a) j e g who u)
  where
    has_it : (p : Party) (v : Option (List ℕ)) → p ≡ App app → v ≡ Some name → number_if name p v ≡ Some app
    has_it p v g q = ap (λ o. number_if name p o) q ∙ ap (λ o. number_if name o (Some name)) g ∙ ap (λ t. if t then Some app else None) ((bytes_eq-Decides name name).1 refl)

    by : (o : Option ℕ) → number_if name x.who x.unique ≡ o → (k : ℕ) → end_at (x ∷ xs) k ≡ Some e → ((j : ℕ) → end_at xs j ≡ Some e → app_named name xs ≡ Some app) → first_of (number_if name x.who x.unique) (app_named name xs) ≡ Some app
    by (Some a) g k there rest =
        let y = number_is name x.who x.unique a g in
        ap (λ o. first_of o (app_named name xs)) g ∙ ap Some (f 0 x a refl y.0 y.1)
    by None g zero there rest =
        let same : x ≡ e = same_some x e there in
        absurd (no_none app (sym g ∙ has_it x.who x.unique (ap (λ (z : End). z.who) same ∙ who) (ap (λ (z : End). z.unique) same ∙ u)))
    by None g (suc j) there rest = ap (λ o. first_of o (app_named name xs)) g ∙ rest j there

no_app : (a : ℕ) → App a ≡ Registry → ⊥
no_app a h = false_true (ap is_registry h)
  where
    is_registry : Party → Bool
    is_registry Registry = true
    is_registry p = false

same_number : (a b : ℕ) → App a ≡ App b → a ≡ b
same_number a b h = ap number h
  where
    number : Party → ℕ
    number (App n) = n
    number p = 0

app_is : (es : List Entry) (w : World) (app : ℕ) (name : List ℕ) → Named es w → length (greeted es) ≤ 1000 → name_in es (App app) ≡ Some name → app_named name w.ends ≡ Some app
app_is es w app name i few h = by (first_at (same_party (App app)) (greeted es)) refl
  where
    told : name_told es (App app) ≡ Some name
    told = sym (told_is es (App app)) ∙ h

    only_it : (k : ℕ) (e : End) (a : ℕ) → end_at w.ends k ≡ Some e → e.who ≡ App a → e.unique ≡ Some name → a ≡ app
    only_it k e a there who u =
        let known : e.unique ≡ name_told es e.who = (i.ends k e there).known (λ r. no_app a (sym who ∙ r)) in
        same_number a app (names_differ es (App a) (App app) name few (ap (name_told es) (sym who) ∙ sym known ∙ u) told)

    by : (o : Option ℕ) → first_at (same_party (App app)) (greeted es) ≡ o → app_named name w.ends ≡ Some app
    by None g = absurd (no_none name (ap (option_map (λ n. unique_name (suc n))) (sym g) ∙ told))
    by (Some j) g =
        let x : IsAt w (App app) = told_among (IsAt w) (App app) (greeted es) j i.among g in
        let known : x.1.unique ≡ name_told es x.1.who = (i.ends x.0 x.1 x.2).known (λ r. no_app app (sym x.3 ∙ r)) in
        named_found app name w.ends only_it x.0 x.1 x.2 x.3 (known ∙ ap (name_told es) x.3 ∙ told)

-- WHAT IS WRITTEN
closing_lines_due : (es : List Entry) (r app : ℕ) (h : Hearer) → ReaderIs es r h → map (spoke r app) (last_lines (holding_of app h.holds)) ≡ closing_due es r app (held es r app)
closing_lines_due es r app h i = by (held es r app) (holding_of app h.holds) (i.holds app)
  where
    by : (k : Option Kept) (o : Option Holding) → SameKept es app k o → map (spoke r app) (last_lines o) ≡ closing_due es r app k
    by None None s = refl
    by (Some k) (Some o) s = ap (λ t. map (spoke r app) (closing_says t)) (sym (ap (as_of es app) s.last ∙ s.tree))
    by None (Some o) s = absurd s
    by (Some k) None s = absurd s

tells_bus : (es : List Entry) (v : World) (r : ℕ) (h : Hearer) (said : Said) → ReaderIs es r h → Named es v → length (greeted es) ≤ 1000 → message es The_bus said.message.serial ≡ Some said.message
    → TellsEnd es (got (Reader r) The_bus said.message.serial) (heard_entries r h v.ends (record { from = The_bus; said = said }))
tells_bus es v r h said i n few is app name e found ends named_ = (
  [],
  ap (λ o. ended_entries r h o) (ap (app_with v.ends) (ap told_end (same_some said.message e (sym is ∙ found)) ∙ ends) ∙ app_is es v app name n few named_)
      ∙ ap (λ l. gone r app ∷ l) (closing_lines_due es r app h i)
      ∙ sym (append-nil (gone r app ∷ closing_due es r app (held es r app))),
)

tells_from : (es : List Entry) (v : World) (r : ℕ) (h : Hearer) (said : Said) (from : Party) → ReaderIs es r h → Named es v → length (greeted es) ≤ 1000
    → (from ≡ The_bus → message es The_bus said.message.serial ≡ Some said.message) → TellsEnd es (got (Reader r) from said.message.serial) (heard_entries r h v.ends (record { from = from; said = said }))
tells_from es v r h said The_bus i n few is = tells_bus es v r h said i n few (is refl)
tells_from es v r h said Registry i n few is = tt
tells_from es v r h said (App a) i n few is = tt
tells_from es v r h said (Reader q) i n few is = tt

-- THE LAW OF LISTS
abbrev TellsAlive : Entry → Type 0
TellsAlive (got (Reader r) The_bus serial) = ⊥
TellsAlive entry = Unit {0}

abbrev EndsAlive : List Entry → Entry → List Entry → Type 0
EndsAlive before entry behind = Lives before → TellsEnd before entry behind

weaker : (ys before : List Entry) (entry : Entry) (behind : List Entry) → TellsEnd before entry behind → TellsEnd before entry (behind ++ ys)
weaker ys before (got (Reader r) The_bus serial) behind h = λ app name e a b c. let x = h app name e a b c in (x.0 ++ ys, ap (λ l. l ++ ys) x.1 ∙ append_assoc (gone r app ∷ closing_due before r app (held before r app)) x.0 ys)
weaker ys before (got (Reader r) Registry serial) behind h = tt
weaker ys before (got (Reader r) (App a) serial) behind h = tt
weaker ys before (got (Reader r) (Reader q) serial) behind h = tt
weaker ys before (got The_bus from serial) behind h = tt
weaker ys before (got Registry from serial) behind h = tt
weaker ys before (got (App a) from serial) behind h = tt
weaker ys before entry behind h = tt

all_weaker : (ys early xs : List Entry) → Each EndsAlive early xs → Each (λ before entry behind. EndsAlive before entry (behind ++ ys)) early xs
all_weaker ys early [] e = tt
all_weaker ys early (x ∷ xs) e = ((λ live. weaker ys early x xs (e.0 live)), all_weaker ys (early ++ x ∷ []) xs e.1)

law_more : (es ys : List Entry) → Each EndsAlive [] es → Each EndsAlive es ys → Each EndsAlive [] (es ++ ys)
law_more es ys a b = each_more EndsAlive [] es ys (all_weaker ys [] es a) b

quiet_law : (before : List Entry) (entry : Entry) (behind : List Entry) → TellsAlive entry → EndsAlive before entry behind
quiet_law before (got (Reader r) The_bus serial) behind h = absurd h
quiet_law before (got (Reader r) Registry serial) behind h = λ live. tt
quiet_law before (got (Reader r) (App a) serial) behind h = λ live. tt
quiet_law before (got (Reader r) (Reader q) serial) behind h = λ live. tt
quiet_law before (got The_bus from serial) behind h = λ live. tt
quiet_law before (got Registry from serial) behind h = λ live. tt
quiet_law before (got (App a) from serial) behind h = λ live. tt
quiet_law before entry behind h = λ live. tt

quietly : (es : List Entry) (d x : Done) → d ≡ x → AllByRecursion TellsAlive x.entries → Each EndsAlive es d.entries
quietly es d x is a = each_of TellsAlive EndsAlive es d.entries quiet_law (subst (λ y. AllByRecursion TellsAlive y.entries) (sym is) a)

did_quiet : (app : ℕ) (hs : List Happening) → AllByRecursion TellsAlive (map (did app) hs)
did_quiet app [] = tt
did_quiet app (steps step ∷ hs) = (tt, did_quiet app hs)
did_quiet app (sends e ∷ hs) = (tt, did_quiet app hs)
did_quiet app (hears listener pattern ∷ hs) = (tt, did_quiet app hs)
did_quiet app (deaf listener pattern ∷ hs) = (tt, did_quiet app hs)

sent_quiet : (who : Party) (es : List Envelope) → AllByRecursion TellsAlive (map (sent who) es)
sent_quiet who [] = tt
sent_quiet who (e ∷ es) = (tt, sent_quiet who es)

bus_quiet : (ends : List End) (own : List Envelope) (closings : List Closing) → AllByRecursion TellsAlive (bus_entries ends own closings)
bus_quiet ends own closings =
    bus_all TellsAlive (λ e. tt) ends own closings (all_any (λ (x : Closing). (queued len : ℕ) → TellsAlive (dropped (party_at ends x.conn) queued len)) (λ x queued len. tt) closings)

got_app : (who from : Party) (serial a : ℕ) → who ≡ App a → TellsAlive (got who from serial)
got_app who from serial a h = subst (λ p. TellsAlive (got p from serial)) (sym h) tt

got_registry : (who from : Party) (serial : ℕ) → who ≡ Registry → TellsAlive (got who from serial)
got_registry who from serial h = subst (λ p. TellsAlive (got p from serial)) (sym h) tt

-- EACH CAUSE
took_law : (es : List Entry) (w : World) (d : Done) → Holds es w → Speaks_true es w → Named es w → Fits w → ReaderTakes w d → Each EndsAlive es d.entries
took_law es w d i t n f b =
    let v : World = received w b.conn b.e b.letter in
    let number : number_of b.e.who ≡ b.reader = ap number_of b.whose in
    let rest : List Entry = heard_entries b.reader b.hearer v.ends b.letter in
    let wrote : d.entries ≡ got (Reader b.reader) b.letter.from b.letter.said.message.serial ∷ rest =
    ap (λ x. x.entries) b.is ∙ ap₂ (λ p n. got p b.letter.from b.letter.said.message.serial ∷ heard_entries n b.hearer v.ends b.letter) b.whose number in
    let named_ : Named es v = subst (λ l. Named l v) (append-nil es) (still_quiet es [] w v n (over_with SameName same_name taken_down down_same b.conn w.ends) tt refl) in
    let reader : ReaderIs es b.reader b.hearer = i.1 b.conn b.reader b.e b.hearer b.is_here.there b.whose b.role in
    subst (Each EndsAlive es) (sym wrote) (
      (λ live.
          let own : OwnIs (messages es The_bus) b.letter = (subst (AllByRecursion (OwnIs (messages es The_bus))) b.link ((t live).links b.conn b.e b.is_here.there)).0 in
          tells_from es v b.reader b.hearer b.letter.said b.letter.from reader named_ (few_greeted es w n f) own),
      each_of TellsAlive EndsAlive (es ++ got (Reader b.reader) b.letter.from b.letter.said.message.serial ∷ []) rest quiet_law (heard_all TellsAlive (λ r app line. tt) (λ r app. tt) b.reader b.hearer v.ends b.letter),
    )

caused_law : (es : List Entry) (w : World) (d : Done) → Holds es w → Speaks_true es w → Named es w → Fits w → Effect w d → Each EndsAlive es d.entries
caused_law es w d i t n f (resets quota few is) = quietly es d _ is tt
caused_law es w d i t n f (app_joins name short is) = quietly es d (app_starts w name) is (tt, (tt, tt))
caused_law es w d i t n f (reader_joins few is) = quietly es d (reader_starts w) is (tt, (tt, tt))
caused_law es w d i t n f (app_edited b) = quietly es d _ b.is (did_quiet _ b.after.out)
caused_law es w d i t n f (app_took b) = quietly es d _ b.is (got_app b.e.who b.letter.from b.letter.said.message.serial b.app b.whose, did_quiet _ (app_takes b.before b.letter.said.message).out)
caused_law es w d i t n f (reader_called b) = quietly es d _ b.is (tt, tt)
caused_law es w d i t n f (swapped b) = quietly es d _ b.is tt
caused_law es w d i t n f (exited_ b) = quietly es d _ b.is (tt, tt)
caused_law es w d i t n f (showed_ b) = quietly es d _ b.is (tt, tt)
caused_law es w d i t n f (told_busy turns is) = quietly es d _ is (tt, tt)
caused_law es w d i t n f (told_quiet none is) = quietly es d _ is (tt, tt)
caused_law es w d i t n f (bus_took b) =
    let c = carrying.takes (record { bus = w.bus; ends = w.ends }) b.conn b.e.who b.said in
    quietly es d _ b.is (tt, bus_quiet c.ends c.bus.own c.bus.closings)
caused_law es w d i t n f (bus_ended b) =
    let c = carrying.takes_end (record { bus = w.bus; ends = w.ends }) b.conn in
    quietly es d _ b.is (bus_quiet c.ends c.bus.own c.bus.closings)
caused_law es w d i t n f (registry_took b) =
    quietly es d _ b.is (got_registry b.e.who b.letter.from b.letter.said.message.serial b.whose, sent_quiet b.e.who (registry_takes b.before b.letter.said.message).sent)
caused_law es w d i t n f (reader_took b) = took_law es w d i t n f b

abbrev Ended_below : List Entry → World → Type 0
Ended_below es w = And (And (And Nothing Bounded) (And Under_names Named)) (And (And Below_held Holds) (And Below_told Speaks_true)) es w

abbrev Ended : List Entry → World → Type 0
Ended es w = Each EndsAlive [] es

ended_grows : Grows Ended_below Ended
ended_grows = record {
  begins = tt;
  caused = λ es w d s a i e after x. law_more es d.entries i (caused_law es w d a.1.0.1 a.1.1.1 a.0.1.1 a.0.0.1 e);
  moved = λ es w v s a i m. i;
  asked = λ es w conn r m question s a i asks. law_more es (sent (Reader r) m ∷ []) i ((λ live. tt), tt);
}

ended_keeps : Keeps (Shaped (And Ended_below Ended))
ended_keeps =
    grown Ended_below Ended
    (both_keep (And (And Nothing Bounded) (And Under_names Named)) (And (And Below_held Holds) (And Below_told Speaks_true)) (both_keep (And Nothing Bounded) (And Under_names Named) bounds_keep names_keep)
    (both_keep (And Below_held Holds) (And Below_told Speaks_true) holds_keep told_keeps)) ended_grows

pub ends_told : (lines : List Line) (trace : List Entry) → CanAllStand lines → Goes (begins lines) trace → (after_all (begins lines) trace).owing ≡ [] → Everywhere TellsEnd trace
ends_told lines trace a g none before entry behind h =
    let k = kept (Shaped (And Ended_below Ended)) ended_keeps lines trace a g in
    let whole : Each EndsAlive [] trace = subst (Each EndsAlive []) (ap (λ l. trace ++ l) none ∙ append-nil trace) k.state.1.1 in
    everywhere EndsAlive trace whole before entry behind h (registry_lives lines trace a g before entry behind h)

pub exits_law : (lines : List Line) (trace : List Entry) → CanAllStand lines → Goes (begins lines) trace → (after_all (begins lines) trace).owing ≡ [] → LawOfExits trace
exits_law lines trace a g none = record { last = nothing_follows lines trace a g; told = ends_told lines trace a g none }
