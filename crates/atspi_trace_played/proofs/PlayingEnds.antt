-- Causes that are no reader's: what they write is of no reader, and each reader is afterwards what it was.
use Rattle.std.proofs.Common.{◌≡◌, ◌⊎◌, inl, inr, ℕ, suc, Bool, true, false, List, [], ◌∷◌, ◌++◌, ◌+◌, length, map, Option, None, Some, refl, sym, ap, ◌∙◌, subst, cond}
use Rattle.std.specs.Prelude.{filter, Result, Ok, Err}
use Rattle.std.specs.List.{AllByRecursion}
use Rattle.atspi_tree_model.specs.declared.edit.Edit.{Edit}
use Rattle.atspi_tree_model.specs.declared.edit.EditFault.{EditFault}
use Rattle.atspi_script_lines.specs.declared.line.Party.{Party}
use Rattle.atspi_script_lines.specs.declared.line.Party.TheVariants.{Bus as The_bus, Registry, App, Reader}
use Rattle.atspi_message.specs.Envelope.{Envelope}
use Rattle.atspi_match.specs.declared.routing.closing.Closing.{Closing}
use Rattle.atspi_protocol.specs.registering.Steps.{registry_takes}
use Rattle.atspi_protocol.specs.exporting.Exporter.{Happening, steps, sends, hears, deaf, Exporter, begins}
use Rattle.atspi_protocol.specs.exporting.Starting.{starts}
use Rattle.atspi_protocol.specs.exporting.Taking.{app_edits, app_takes}
use Rattle.atspi_trace.specs.Entry.{Entry, sent, got, gone, dropped}
use Rattle.atspi_trace.specs.World.{Role, the_registry, an_application, a_reader, Hearer, Said, Letter, End, World, newcomer}
use Rattle.atspi_trace.specs.Ends.{number_of, whose, party_at, end_at, with_end, is_reader, app_count, reader_count, put_up, taken_down, stops}
use Rattle.atspi_trace.specs.Carrying as carrying
use Rattle.atspi_trace.specs.Carrying.{bus_entries}
use Rattle.atspi_trace.specs.Causes.{Cause, renews, starts_app, starts_reader, edits, calls, swaps_face, exits, shows, tells_busy, tells_quiet, routes, unjoins}
use Rattle.atspi_trace.specs.Causes.{gets, Done, did, has_done, app_did, edited_to, edited, registry_did, routed, took, taken, on_end, does}
use Rattle.atspi_trace_laws.proofs.OfOrder.Parties.{false_true}
use Rattle.atspi_trace_laws.proofs.OfOrder.Allowed.{Allowed, MovedUp, MovedDown, Moves}
use Rattle.atspi_trace_laws.proofs.OfOrder.BusWords.{all_any, bus_all}
use Rattle.atspi_trace_laws.proofs.OfOrder.Frame.{Over, IsOrder, joined_cases, over_same, over_both, over_with, over_at, takes_over, ends_over}
use Rattle.atspi_trace_laws.proofs.OfOrder.Shape.{RoleFits, Shape, counts}
use Rattle.atspi_trace_laws.proofs.OfOrder.Shaped.{received_at, new_app, app_joined}
use Rattle.atspi_trace_laws.proofs.OfOrder.Effects.{received}

-- entries of no reader
abbrev pub NoReader : Entry → Type 0
NoReader (got (Reader r) sender serial) = ⊥
NoReader (sent (Reader r) m) = ⊥
NoReader (gone r app) = ⊥
NoReader entry = Unit {0}

-- each reader is what it was
pub record KeepsReader (e d : End) : Type 0 where
  pub whose : d.who ≡ e.who
  pub role : (h : Hearer) → e.role ≡ a_reader h → d.role ≡ a_reader h

pub keeping_readers : IsOrder KeepsReader
keeping_readers = record {
  same = λ e. record { whose = refl; role = λ h r. r };
  both = λ e d c f g. record { whose = g.whose ∙ f.whose; role = λ h r. g.role h (f.role h r) };
}

stays : (e d : End) → d.who ≡ e.who → d.role ≡ e.role → KeepsReader e d
stays e d w r = record { whose = w; role = λ h g. r ∙ g }

pub record Untouched (w v : World) : Type 0 where
  pub back : (k r : ℕ) (d : End) → end_at v.ends k ≡ Some d → d.who ≡ Reader r → (e : End) × (end_at w.ends k ≡ Some e) × (e.who ≡ Reader r) × ((h : Hearer) → e.role ≡ a_reader h → d.role ≡ a_reader h)
  pub count : reader_count v.ends ≡ reader_count w.ends

untouched_over : (w v : World) → Over KeepsReader w.ends v.ends → Untouched w v
untouched_over w v o = record {
  back = λ k r d h who. let x = o.back k d h in (x.0, x.1, sym x.2.whose ∙ who, x.2.role);
  count = counts is_reader w.ends v.ends o.size (λ k d h. let x = o.back k d h in (x.0, x.1, x.2.whose));
}

pub untouched_same : (w v : World) → v.ends ≡ w.ends → Untouched w v
untouched_same w v h = untouched_over w v (subst (Over KeepsReader w.ends) (sym h) (over_same KeepsReader keeping_readers w.ends))

pub record Apart (w : World) (d : Done) : Type 0 where
  pub entries : AllByRecursion NoReader d.entries
  pub ends : Untouched w d.world

-- WHAT IS WRITTEN
did_apart : (app : ℕ) (hs : List Happening) → AllByRecursion NoReader (map (did app) hs)
did_apart app [] = tt
did_apart app (steps step ∷ hs) = (tt, did_apart app hs)
did_apart app (sends e ∷ hs) = (tt, did_apart app hs)
did_apart app (hears listener pattern ∷ hs) = (tt, did_apart app hs)
did_apart app (deaf listener pattern ∷ hs) = (tt, did_apart app hs)

registry_apart : (es : List Envelope) → AllByRecursion NoReader (map (sent Registry) es)
registry_apart [] = tt
registry_apart (e ∷ es) = (tt, registry_apart es)

bus_apart : (ends : List End) (own : List Envelope) (closings : List Closing) → AllByRecursion NoReader (bus_entries ends own closings)
bus_apart ends own closings =
    bus_all NoReader (λ e. tt) ends own closings (all_any (λ (x : Closing). (queued len : ℕ) → NoReader (dropped (party_at ends x.conn) queued len)) (λ x queued len. tt) closings)

-- A NEW APPLICATION
count_joined : (xs : List End) (n : End) → is_reader n.who ≡ false → reader_count (xs ++ n ∷ []) ≡ reader_count xs
count_joined [] n h = ap (λ b. length (cond b (n ∷ []) [])) h
count_joined (x ∷ xs) n h = by (is_reader x.who) (count_joined xs n h)
  where
    by : (b : Bool) → reader_count (xs ++ n ∷ []) ≡ reader_count xs
        → length (cond b (x ∷ filter (λ (e : End). is_reader e.who) (xs ++ n ∷ [])) (filter (λ (e : End). is_reader e.who) (xs ++ n ∷ []))) ≡ length
        (cond b (x ∷ filter (λ (e : End). is_reader e.who) xs) (filter (λ (e : End). is_reader e.who) xs))
    by true g = ap suc g
    by false g = g

no_app_reader : (a r : ℕ) → App a ≡ Reader r → ⊥
no_app_reader a r h = false_true (ap is_reader h)

joined_apart : (w v : World) (n : End) (a : ℕ) → n.who ≡ App a → v.ends ≡ w.ends ++ n ∷ [] → Untouched w v
joined_apart w v n a who is = record {
  back = λ k r d h g. by k r d g (joined_cases w.ends n k d (ap (λ l. end_at l k) (sym is) ∙ h));
  count = ap reader_count is ∙ count_joined w.ends n (ap is_reader who);
}
  where
    by : (k r : ℕ) (d : End) → d.who ≡ Reader r → ((end_at w.ends k ≡ Some d) ⊎ ((k ≡ length w.ends) × (d ≡ n)))
        → (e : End) × (end_at w.ends k ≡ Some e) × (e.who ≡ Reader r) × ((h : Hearer) → e.role ≡ a_reader h → d.role ≡ a_reader h)
    by k r d g (inl h) = (d, h, g, λ h r. r)
    by k r d g (inr h) = absurd (no_app_reader a r (sym who ∙ ap (λ (x : End). x.who) (sym h.1) ∙ g))

-- ONE END THAT IS NO READER
no_role : (role : Role) → ((h : Hearer) → role ≡ a_reader h → ⊥) → (e d : End) → e.role ≡ role → d.who ≡ e.who → KeepsReader e d
no_role role never e d is same = record { whose = same; role = λ h r. absurd (never h (sym is ∙ r)) }

app_none : (s : Exporter) (h : Hearer) → an_application s ≡ a_reader h → ⊥
app_none s h e = cc

abbrev is_the_registry : Role → Bool
is_the_registry (the_registry s) = true
is_the_registry role = false

at_one : (w v : World) (conn : ℕ) (e : End) (f : End → End) → end_at w.ends conn ≡ Some e → v.ends ≡ with_end conn f w.ends → KeepsReader e (f e) → Untouched w v
at_one w v conn e f there is k = untouched_over w v (subst (Over KeepsReader w.ends) (sym is) (over_at KeepsReader keeping_readers f conn w.ends e there k))

-- behind a message that it took
at_taker : (w v : World) (conn : ℕ) (e : End) (letter : Letter) (f : End → End) → end_at w.ends conn ≡ Some e → v.ends ≡ with_end conn f (received w conn e letter).ends → KeepsReader (taken_down e) (f (taken_down e))
    → Untouched w v
at_taker w v conn e letter f there is k =
    untouched_over w v
    (subst (Over KeepsReader w.ends) (sym is)
    (over_both KeepsReader keeping_readers w.ends (received w conn e letter).ends _ (over_with KeepsReader keeping_readers taken_down (λ x. stays x (taken_down x) refl refl) conn w.ends)
    (over_at KeepsReader keeping_readers f conn (received w conn e letter).ends (taken_down e) (received_at w conn e letter there) k)))

edited_apart : (w : World) (conn : ℕ) (e : End) (s : Exporter) → end_at w.ends conn ≡ Some e → e.role ≡ an_application s → (r : Result Exporter EditFault) → Apart w (edited_to w conn s r)
edited_apart w conn e s there role (Ok t) = record {
  entries = did_apart (number_of (party_at w.ends conn)) t.out;
  ends = at_one w (app_did w conn [] s t).world conn e (has_done s t) there refl (no_role (an_application s) (app_none s) e (has_done s t e) role refl);
}
edited_apart w conn e s there role (Err fault) = record { entries = tt; ends = untouched_same w w refl }

edits_apart : (w : World) (conn a : ℕ) (edit : Edit) (e : End) → end_at w.ends conn ≡ Some e → (role : Role) → RoleFits (App a) role → e.role ≡ role → Apart w (edited w conn edit role)
edits_apart w conn a edit e there (an_application s) f is = edited_apart w conn e s there is (app_edits s edit)
edits_apart w conn a edit e there (the_registry s) f is = absurd f
edits_apart w conn a edit e there (a_reader h) f is = absurd f

registry_none : (e d : End) (s : Role) → is_the_registry s ≡ true → e.role ≡ s → d.who ≡ e.who → KeepsReader e d
registry_none e d s t is same = no_role s (λ h g. false_true (sym (ap is_the_registry g) ∙ t)) e d is same

took_apart : (w : World) (conn : ℕ) (e : End) (letter : Letter) (who : Party) (role : Role) → end_at w.ends conn ≡ Some e → e.role ≡ role → RoleFits who role → ((r : ℕ) → who ≡ Reader r → ⊥)
    → Apart w (took (received w conn e letter) conn letter who role)
took_apart w conn e letter Registry (the_registry s) there is f never = record {
  entries = (tt, registry_apart (registry_takes s letter.said.message).sent);
  ends = at_taker w (took (received w conn e letter) conn letter Registry (the_registry s)).world conn e letter (registry_did (registry_takes s letter.said.message)) there refl
      (registry_none (taken_down e) (registry_did (registry_takes s letter.said.message) (taken_down e)) (the_registry s) refl is refl);
}
took_apart w conn e letter (App a) (an_application s) there is f never = record {
  entries = (tt, did_apart (number_of (party_at (received w conn e letter).ends conn)) (app_takes s letter.said.message).out);
  ends = at_taker w (took (received w conn e letter) conn letter (App a) (an_application s)).world conn e letter (has_done s (app_takes s letter.said.message)) there refl
      (no_role (an_application s) (app_none s) (taken_down e) (has_done s (app_takes s letter.said.message) (taken_down e)) is refl);
}
took_apart w conn e letter (Reader r) role there is f never = absurd (never r refl)
took_apart w conn e letter The_bus role there is f never = absurd f
took_apart w conn e letter Registry (an_application s) there is f never = absurd f
took_apart w conn e letter Registry (a_reader h) there is f never = absurd f
took_apart w conn e letter (App a) (the_registry s) there is f never = absurd f
took_apart w conn e letter (App a) (a_reader h) there is f never = absurd f

-- THE BUS
routed_apart : (w : World) (conn : ℕ) (who : Party) (link : List Said) → Apart w (routed w conn who link)
routed_apart w conn who [] = record { entries = tt; ends = untouched_same w w refl }
routed_apart w conn who (said ∷ rest) =
    let c = carrying.takes (record { bus = w.bus; ends = w.ends }) conn who said in
    record {
      entries = (tt, bus_apart c.ends c.bus.own c.bus.closings);
      ends = untouched_over w (routed w conn who (said ∷ rest)).world
          (takes_over KeepsReader keeping_readers (λ m e. stays e _ refl refl) (λ e. stays e _ refl refl) (λ b k e. stays e _ refl refl) (λ e. stays e _ refl refl) (record { bus = w.bus; ends = w.ends }) conn who said
          (λ m e. stays e _ refl refl));
    }

routes_apart : (w : World) (conn : ℕ) (o : Option End) → Apart w (on_end w o (λ e. routed w conn e.who e.up))
routes_apart w conn None = record { entries = tt; ends = untouched_same w w refl }
routes_apart w conn (Some e) = routed_apart w conn e.who e.up

unjoins_apart : (w : World) (conn : ℕ) → Apart w (does w (unjoins conn))
unjoins_apart w conn =
    let c = carrying.takes_end (record { bus = w.bus; ends = w.ends }) conn in
    record {
      entries = bus_apart c.ends c.bus.own c.bus.closings;
      ends = untouched_over w (does w (unjoins conn)).world
          (ends_over KeepsReader keeping_readers (λ m e. stays e _ refl refl) (λ e. stays e _ refl refl) (record { bus = w.bus; ends = w.ends }) conn);
    }

-- EACH CAUSE THAT IS NO READER'S
abbrev pub IsApart : World → Cause → Type 0
IsApart w (renews quota) = ⊥
IsApart w starts_reader = ⊥
IsApart w (calls conn name node deed) = ⊥
IsApart w (shows conn app) = ⊥
IsApart w (gets conn) = (r : ℕ) → party_at w.ends conn ≡ Reader r → ⊥
IsApart w c = Unit {0}

pub apart : (w : World) (c : Cause) → Shape w → Allowed w c → IsApart w c → Apart w (does w c)
apart w (renews quota) s a i = absurd i
apart w starts_reader s a i = absurd i
apart w (calls conn name node deed) s a i = absurd i
apart w (shows conn app) s a i = absurd i
apart w (starts_app name) s a i = record {
  entries = (tt, did_apart (number_of (party_at (w.ends ++ put_up [] (newcomer (App (app_count w.ends)) (an_application (begins name))) ∷ []) (length w.ends))) (starts (begins name)).out);
  ends = joined_apart w (does w (starts_app name)).world (new_app w name) (app_count w.ends) refl (app_joined w name);
}
apart w (edits conn edit) s a i =
    subst (Apart w) (sym (ap (λ o. on_end w o (λ e. edited w conn edit e.role)) a.2.there))
    (edits_apart w conn a.1 edit a.0 a.2.there a.0.role (subst (λ p. RoleFits p a.0.role) a.3 (s.roles conn a.0 a.2.there)) refl)
apart w swaps_face s a i = record { entries = tt; ends = untouched_same w (does w swaps_face).world refl }
apart w (exits conn) s a i = record {
  entries = (tt, tt);
  ends = untouched_over w (does w (exits conn)).world (over_with KeepsReader keeping_readers stops (λ e. stays e (stops e) refl refl) conn w.ends);
}
apart w (tells_busy turns) s a i = record { entries = (tt, tt); ends = untouched_same w w refl }
apart w tells_quiet s a i = record { entries = (tt, tt); ends = untouched_same w w refl }
apart w (routes conn) s a i = routes_apart w conn (end_at w.ends conn)
apart w (unjoins conn) s a i = unjoins_apart w conn
apart w (gets conn) s a i =
    subst (Apart w) (sym (ap (λ o. on_end w o (λ e. taken w conn e e.down)) a.3.there ∙ ap (taken w conn a.0) a.4))
    (took_apart w conn a.0 a.1 a.0.who a.0.role a.3.there refl (s.roles conn a.0 a.3.there) (λ r h. i r (ap whose a.3.there ∙ h)))

-- bytes that complete no message
pub moves_apart : (w v : World) → Moves w v → Untouched w v
moves_apart w v (inl same) = untouched_same w v (ap (λ (x : World). x.ends) same)
moves_apart w v (inr m) = by m
  where
    by : (MovedUp w v ⊎ MovedDown w v) → Untouched w v
    by (inl m) =
        untouched_over w v
        (subst (λ (x : World). Over KeepsReader w.ends x.ends) (sym m.after) (over_with KeepsReader keeping_readers (λ e. record e { up_moved = e.up_moved + m.count }) (λ e. stays e _ refl refl) m.conn w.ends))
    by (inr m) =
        untouched_over w v
        (subst (λ (x : World). Over KeepsReader w.ends x.ends) (sym m.after) (over_with KeepsReader keeping_readers (λ e. record e { down_moved = e.down_moved + m.count }) (λ e. stays e _ refl refl) m.conn w.ends))
