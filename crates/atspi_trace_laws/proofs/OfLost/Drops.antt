-- Where a cause writes that the registry was dropped, it writes nothing behind, and the registry is not there any more.
use Rattle.std.proofs.Common.{◌≡◌, ◌⊎◌, inl, inr, ℕ, zero, suc, Bool, true, false, List, [], ◌∷◌, ◌++◌, None, Some, refl, sym, ap, ◌∙◌, subst}
use Rattle.std.specs.Prelude.{Option, map, filter, not, if◌then◌else◌}
use Rattle.std.specs.List.{AllByRecursion}
use Rattle.atspi_script_lines.specs.declared.line.Party.{Party}
use Rattle.atspi_script_lines.specs.declared.line.Party.TheVariants.{Bus as The_bus, Registry, App, Reader}
use Rattle.atspi_message.specs.Envelope.{Envelope}
use Rattle.atspi_protocol.specs.registering.Steps.{registry_takes}
use Rattle.atspi_protocol.specs.exporting.Exporter.{Happening}
use Rattle.atspi_protocol.specs.exporting.Taking.{app_takes}
use Rattle.atspi_match.specs.declared.routing.closing.Why.{Why}
use Rattle.atspi_match.specs.declared.routing.closing.Why.TheVariants.{NotHello, Quota}
use Rattle.atspi_match.specs.declared.routing.closing.Closing.{Closing}
use Rattle.atspi_trace.specs.Entry.{Entry, sent, dropped}
use Rattle.atspi_trace.specs.World.{Role, the_registry, an_application, a_reader, Hearer, Letter, End, World}
use Rattle.atspi_trace.specs.Ends.{is_here, same_party, party_at, number_of, end_at}
use Rattle.atspi_trace.specs.Hearing.{heard_entries}
use Rattle.atspi_trace.specs.Carrying as carrying
use Rattle.atspi_trace.specs.Carrying.{is_upto, dropped_if, sent_by_bus, bus_entries}
use Rattle.atspi_trace.specs.Causes.{Cause, renews, starts_app, starts_reader, edits, calls, swaps_face, exits, shows, tells_busy, tells_quiet, routes, unjoins, gets, Done, did, taken, took, on_end, does}
use Rattle.atspi_trace.specs.Due.{freed, is_lost}
use Rattle.atspi_trace_laws.proofs.OfOrder.Parties.{no_none, same_some, false_true, all_append}
use Rattle.atspi_trace_laws.proofs.OfOrder.Each.{all_map}
use Rattle.atspi_trace_laws.proofs.OfOrder.Shape.{Shape}
use Rattle.atspi_trace_laws.proofs.OfOrder.Gone.{IsGone}
use Rattle.atspi_trace_laws.proofs.OfOrder.Closed.{IsTold, IsDropped}
use Rattle.atspi_trace_laws.proofs.OfOrder.Acts.{Act, OfBus, Written, acted, told, stopped_, acts, did_act, sent_act, heard_act}
use Rattle.atspi_trace_laws.proofs.OfOrder.Effects.{received, Effect, resets, app_joins, reader_joins, app_edited, app_took, reader_called, swapped, exited_, showed_, told_busy, told_quiet, bus_took, bus_ended, registry_took, reader_took}

abbrev pub is_drop : Entry → Bool
is_drop (dropped Registry queued len) = true
is_drop entry = false

abbrev pub NoDrop : Entry → Type 0
NoDrop entry = is_drop entry ≡ false

-- nothing stands behind the registry's drop
abbrev pub DropsLast : List Entry → Type 0
DropsLast [] = Unit {0}
DropsLast (entry ∷ entries) = (is_drop entry ≡ true → entries ≡ []) × DropsLast entries

act_plain : (P : Party → Type 0) (entry : Entry) → Act P entry → NoDrop entry
act_plain P (dropped who queued len) a = absurd a
act_plain P entry a = refl

no_drop : (entry : Entry) → NoDrop entry → is_drop entry ≡ true → ⊥
no_drop entry n h = false_true (sym n ∙ h)

none_last : (l : List Entry) → AllByRecursion NoDrop l → DropsLast l
none_last [] a = tt
none_last (entry ∷ entries) a = ((λ h. absurd (no_drop entry a.0 h)), none_last entries a.1)

plain_then : (xs ys : List Entry) → AllByRecursion NoDrop xs → DropsLast ys → DropsLast (xs ++ ys)
plain_then [] ys a d = d
plain_then (x ∷ xs) ys a d = ((λ h. absurd (no_drop x a.0 h)), plain_then xs ys a.1 d)

sent_plain : (es : List Envelope) → AllByRecursion NoDrop (sent_by_bus es)
sent_plain [] = tt
sent_plain (e ∷ es) = (refl, sent_plain es)

-- what is written of the bus
bus_last : (ends : List End) (own : List Envelope) (closings : List Closing) → DropsLast (bus_entries ends own closings)
bus_last ends own [] = none_last (sent_by_bus own) (sent_plain own)
bus_last ends own (c ∷ cs) =
    let rest : List Entry = bus_entries ends (filter (λ e. not (is_upto c.after e)) own) cs in
    let who : Party = party_at ends c.conn in
    plain_then (sent_by_bus (filter (is_upto c.after) own)) (dropped_if who c.why ++ (if same_party who Registry then [] else rest)) (sent_plain (filter (is_upto c.after) own))
    (by c.why who rest (bus_last ends (filter (λ e. not (is_upto c.after e)) own) cs))
  where
    unless : (b : Bool) (rest : List Entry) → DropsLast rest → DropsLast (if b then [] else rest)
    unless true rest r = tt
    unless false rest r = r

    by : (why : Why) (who : Party) (rest : List Entry) → DropsLast rest → DropsLast (dropped_if who why ++ (if same_party who Registry then [] else rest))
    by NotHello who rest r = unless (same_party who Registry) rest r
    by (Quota queued len) Registry rest r = ((λ h. refl), tt)
    by (Quota queued len) The_bus rest r = ((λ h. absurd (false_true h)), r)
    by (Quota queued len) (App a) rest r = ((λ h. absurd (false_true h)), r)
    by (Quota queued len) (Reader k) rest r = ((λ h. absurd (false_true h)), r)

-- the registry is not there any more
lost_at : (v : World) (ends : List End) (e : End) → end_at ends 0 ≡ Some e → is_here e.standing ≡ false → is_lost (record v { ends = ends }) ≡ true
lost_at v [] e h g = absurd (no_none e h)
lost_at v (x ∷ xs) e h g = ap (λ b. if b then false else true) (ap (λ (y : End). is_here y.standing) (same_some x e h) ∙ g)

first_of : (ends : List End) (k : ℕ) (e : End) → end_at ends k ≡ Some e → (x : End) × (end_at ends 0 ≡ Some x)
first_of [] zero e g = absurd (no_none e g)
first_of [] (suc k) e g = absurd (no_none e g)
first_of (x ∷ xs) k e g = (x, refl)

lost_of : (v : World) → Shape v → IsGone v Registry → is_lost v ≡ true
lost_of v s g =
    let x = first_of v.ends g.conn g.e g.there in
    let first : 0 ≡ g.conn = s.one 0 g.conn x.0 g.e x.1 g.there (s.registry x.0 x.1 ∙ sym g.whose) in
    lost_at v v.ends g.e (ap (end_at v.ends) first ∙ g.there) g.gone

abbrev pub LostIf : World → Entry → Type 0
LostIf v entry = is_drop entry ≡ true → is_lost v ≡ true

registry_lost : (v : World) → Shape v → IsDropped v Registry → is_lost v ≡ true
registry_lost v s (inl g) = absurd (false_true (ap (λ p. same_party p The_bus) g))
registry_lost v s (inr g) = lost_of v s g

bus_lost : (v : World) → Shape v → (entry : Entry) → OfBus v entry → LostIf v entry
bus_lost v s (dropped Registry queued len) g h = registry_lost v s g
bus_lost v s entry g h = absurd (false_true h)

written_lost : (w : World) (d : Done) → Shape d.world → Written w d → AllByRecursion (LostIf d.world) d.entries
written_lost w d s (acted a) = all_map (Act _) (LostIf d.world) d.entries (λ entry x h. absurd (no_drop entry (act_plain _ entry x) h)) a
written_lost w d s (told front back is a b) =
    subst (AllByRecursion (LostIf d.world)) (sym is)
    (all_append (LostIf d.world) front back (all_map (Act _) (LostIf d.world) front (λ entry x h. absurd (no_drop entry (act_plain _ entry x) h)) a) (all_map (OfBus d.world) (LostIf d.world) back (bus_lost d.world s) b))
written_lost w d s (stopped_ b) = subst (λ x. AllByRecursion (LostIf d.world) x.entries) (sym b.is) ((λ h. absurd (false_true h)), tt)

-- what ends write
abbrev Any : Party → Type 0
Any who = Unit {0}

did_plain : (app : ℕ) (hs : List Happening) → AllByRecursion NoDrop (map (did app) hs)
did_plain app hs = all_map (Act Any) NoDrop (map (did app) hs) (act_plain Any) (did_act Any app hs tt)

said_plain : (who : Party) (es : List Envelope) → AllByRecursion NoDrop (map (sent who) es)
said_plain who es = all_map (Act Any) NoDrop (map (sent who) es) (act_plain Any) (sent_act Any who es tt)

heard_plain : (reader : ℕ) (h : Hearer) (ends : List End) (letter : Letter) → AllByRecursion NoDrop (heard_entries reader h ends letter)
heard_plain reader h ends letter = all_map (Act Any) NoDrop (heard_entries reader h ends letter) (act_plain Any) (heard_act Any reader h ends letter letter.from refl)

plain_last : (d c : Done) → d ≡ c → AllByRecursion NoDrop c.entries → DropsLast d.entries
plain_last d c is a = none_last d.entries (subst (λ x. AllByRecursion NoDrop x.entries) (sym is) a)

effect_last : (w : World) (d : Done) → Effect w d → DropsLast d.entries
effect_last w d (resets quota few is) = plain_last d _ is tt
effect_last w d (app_joins name short is) = plain_last d _ is (refl, (refl, tt))
effect_last w d (reader_joins few is) = plain_last d _ is (refl, (refl, tt))
effect_last w d (app_edited b) = plain_last d _ b.is (did_plain _ b.after.out)
effect_last w d (app_took b) = plain_last d _ b.is (refl, did_plain _ (app_takes b.before b.letter.said.message).out)
effect_last w d (reader_called b) = plain_last d _ b.is (refl, tt)
effect_last w d (swapped b) = plain_last d _ b.is tt
effect_last w d (exited_ b) = plain_last d _ b.is (refl, tt)
effect_last w d (showed_ b) = plain_last d _ b.is (refl, tt)
effect_last w d (told_busy turns is) = plain_last d _ is (refl, tt)
effect_last w d (told_quiet none is) = plain_last d _ is (refl, tt)
effect_last w d (bus_took b) =
    let c = carrying.takes (record { bus = w.bus; ends = w.ends }) b.conn b.e.who b.said in
    subst (λ x. DropsLast x.entries) (sym b.is) ((λ h. absurd (false_true h)), bus_last c.ends c.bus.own c.bus.closings)
effect_last w d (bus_ended b) =
    let c = carrying.takes_end (record { bus = w.bus; ends = w.ends }) b.conn in
    subst (λ x. DropsLast x.entries) (sym b.is) (bus_last c.ends c.bus.own c.bus.closings)
effect_last w d (registry_took b) = plain_last d _ b.is (refl, said_plain b.e.who (registry_takes b.before b.letter.said.message).sent)
effect_last w d (reader_took b) = plain_last d _ b.is (refl, heard_plain (number_of b.e.who) b.hearer (received w b.conn b.e b.letter).ends b.letter)

took_plain : (w : World) (conn : ℕ) (letter : Letter) (who : Party) (role : Role) → AllByRecursion NoDrop (took w conn letter who role).entries
took_plain w conn letter who (the_registry s) = (refl, said_plain who (registry_takes s letter.said.message).sent)
took_plain w conn letter who (an_application s) = (refl, did_plain _ (app_takes s letter.said.message).out)
took_plain w conn letter who (a_reader h) = (refl, heard_plain (number_of who) h w.ends letter)

taken_plain : (w : World) (conn : ℕ) (e : End) (link : List Letter) → AllByRecursion NoDrop (taken w conn e link).entries
taken_plain w conn e [] = tt
taken_plain w conn e (letter ∷ rest) = took_plain (received w conn e letter) conn letter e.who e.role

gets_plain : (w : World) (conn : ℕ) (o : Option End) → AllByRecursion NoDrop (on_end w o (λ e. taken w conn e e.down)).entries
gets_plain w conn None = tt
gets_plain w conn (Some e) = taken_plain w conn e e.down

-- a cause that frees a reader to call drops nobody
frees : (w : World) (c : Cause) → (freed c ≡ None) ⊎ AllByRecursion NoDrop (does w c).entries
frees w (renews quota) = inl refl
frees w (starts_app name) = inl refl
frees w starts_reader = inl refl
frees w (edits conn edit) = inl refl
frees w (calls conn name node deed) = inl refl
frees w swaps_face = inl refl
frees w (exits conn) = inl refl
frees w (shows conn app) = inl refl
frees w (tells_busy turns) = inl refl
frees w tells_quiet = inl refl
frees w (routes conn) = inl refl
frees w (unjoins conn) = inl refl
frees w (gets conn) = inr (gets_plain w conn (end_at w.ends conn))

-- WHAT IS OWED: nothing behind the registry's drop; where it is owed the registry is not there, and nobody may send a call of its own
abbrev pub Over_if : World → Option ℕ → Entry → Type 0
Over_if w free entry = is_drop entry ≡ true → (is_lost w ≡ true) × (free ≡ None)

abbrev pub Owes : List Entry → World → Option ℕ → Type 0
Owes l w free = AllByRecursion (Over_if w free) l × DropsLast l

pub cause_owes : (w : World) (c : Cause) → Shape w → IsTold w → Effect w (does w c) → Shape (does w c).world → Owes (does w c).entries (does w c).world (freed c)
cause_owes w c s t e after = (by (frees w c), effect_last w (does w c) e)
  where
    lost : AllByRecursion (LostIf (does w c).world) (does w c).entries
    lost = written_lost w (does w c) after (acts w (does w c) s t e)

    by : ((freed c ≡ None) ⊎ AllByRecursion NoDrop (does w c).entries) → AllByRecursion (Over_if (does w c).world (freed c)) (does w c).entries
    by (inl none) = all_map (LostIf (does w c).world) (Over_if (does w c).world (freed c)) (does w c).entries (λ entry f h. (f h, none)) lost
    by (inr plain) = all_map NoDrop (Over_if (does w c).world (freed c)) (does w c).entries (λ entry n h. absurd (no_drop entry n h)) plain
