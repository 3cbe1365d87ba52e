-- THE REGISTRY: its state is the one that the run tells, and what it sends stands behind what it takes.
use Rattle.std.proofs.Common.{◌≡◌, ◌⊎◌, inl, inr, ℕ, zero, suc, ◌+◌, ◌≤◌, false, List, [], ◌∷◌, ◌++◌, length, map, Option, None, Some, refl, sym, ap, ◌∙◌, subst, arith}
use Rattle.std.specs.List.{AllByRecursion}
use Rattle.std.proofs.lemmas.Bool.{ltb-false}
use Rattle.std.proofs.lemmas.List.{append-nil, append_assoc}
use Rattle.atspi_script_lines.specs.declared.limits.TheConstants.{QUOTA_MOST}
use Rattle.atspi_script_lines.specs.declared.line.Line.{Line}
use Rattle.atspi_script_lines.specs.declared.line.Party.{Party}
use Rattle.atspi_script_lines.specs.declared.line.Party.TheVariants.{Bus as The_bus, Registry, App, Reader}
use Rattle.atspi_message.specs.Envelope.{Envelope}
use Rattle.atspi_protocol.specs.registering.RegistryState.{RegistryState}
use Rattle.atspi_protocol.specs.registering.Steps.{RegistryStep, registry_takes}
use Rattle.atspi_protocol.specs.declared.following.question.Question.{Question}
use Rattle.atspi_protocol.specs.following.Calls.{user_call}
use Rattle.atspi_protocol.specs.exporting.Exporter.{Exporter, begins}
use Rattle.atspi_protocol.specs.exporting.Starting.{starts}
use Rattle.atspi_protocol.specs.exporting.Taking.{app_takes}
use Rattle.atspi_trace.specs.Entry.{Entry, sent, got, busy, quiet}
use Rattle.atspi_trace.specs.World.{Role, the_registry, an_application, a_reader, Hearer, Letter, End, World, first_registry as first_end, first_world}
use Rattle.atspi_trace.specs.Ends.{number_of, whose, party_at, end_of, end_at, with_end, put_down, taken_up, taken_down, stops, leaves}
use Rattle.atspi_match.specs.routing.Queues.{Bus}
use Rattle.atspi_trace.specs.Carrying as carrying
use Rattle.atspi_trace.specs.Carrying.{own_letter, letter_of, named}
use Rattle.atspi_trace.specs.Hearing.{hears_letter, heard_entries}
use Rattle.atspi_trace.specs.Causes.{Cause, Done, does, at_end, has_done, reader_sends, registry_did}
use Rattle.atspi_trace.specs.Due.{asks_as, asks_at}
use Rattle.atspi_trace.specs.Work.{Work, name_of, work_of}
use Rattle.atspi_headline.specs.Words.{Act, begins_line, moves_bytes, takes_end, writes, entries_in, of_registry, is_a, Along, next_of, AreDue, gathered}
use Rattle.atspi_headline.specs.Headline.{first_registry, registry_took as took_step, registry_does, registry_after, registry_words_due}
use Rattle.atspi_trace_laws.proofs.OfOrder.Parties.{no_none, same_some}
use Rattle.atspi_trace_laws.proofs.OfOrder.Allowed.{Moves}
use Rattle.atspi_trace_laws.proofs.OfOrder.Frame.{Over, IsOrder, over_same, over_both, over_with, with_cases, joined_cases, takes_over, ends_over}
use Rattle.atspi_trace_laws.proofs.OfOrder.Shape.{RoleFits, Shape}
use Rattle.atspi_trace_laws.proofs.OfOrder.Effects.{received, RegistryTakes}
use Rattle.atspi_trace_laws.proofs.OfOrder.Shaped.{new_app, new_reader, app_joined}
use Rattle.atspi_trace_laws.proofs.OfHeard.Quiet.{heard_all}
use Rattle.atspi_trace_laws.proofs.OfOwn.Writing.{Lives}
use Rattle.atspi_headline_laws.proofs.Ran.{Ran, nothing_yet, did, began, caused, rested, asked, moves_for, line_moves}
use Rattle.atspi_headline_laws.proofs.Making.{AllMoves, moves_are, line_moves_are}
use Rattle.atspi_headline_laws.proofs.Keeping.{shape_along}
use Rattle.atspi_headline_laws.proofs.Dues.{IsOwed, Still, still_along, still_writes}
use Rattle.atspi_headline_laws.proofs.Acting.{of_registry as registry_alone, LineDid, line_did, renewed, app_began, reader_began, edited_app, called_app, swapped, app_stopped, reader_stopped, showed, TurnDid, turn_did, bare_quiet, told_busy, told_quiet, bus_took, bus_ended, registry_took, app_took, reader_took}
use Rattle.atspi_headline_laws.proofs.Sorting.{AppSorts, BusSorts, LineSorts, app_all, of_bus_all, line_all, new_number}
use Rattle.atspi_headline_laws.proofs.Growing.{Origin, Front, front_of, front_moved, lived_before, Written, still_written, IsLaw, law_along}
use Rattle.atspi_headline_laws.proofs.Handing.{shape, handed_is}

-- A VALUE GATHERED along a run
pub gathered_more : {A : Type 0} (change : List Act → A → Act → A) (x : A) (before xs ys : List Act)
    → gathered change x before (xs ++ ys) ≡ gathered change (gathered change x before xs) (before ++ xs) ys
gathered_more change x before [] ys = ap (λ l. gathered change x l ys) (sym (append-nil before))
gathered_more change x before (act ∷ xs) ys =
    gathered_more change (change before x act) (before ++ act ∷ []) xs ys
    ∙ ap (λ l. gathered change (gathered change (change before x act) (before ++ act ∷ []) xs) l ys) (append_assoc before (act ∷ []) xs)

-- acts by which it does not change
abbrev pub Stays : {A : Type 0} (change : List Act → A → Act → A) → Act → Type 0
Stays {A = A} change act = (before : List Act) (x : A) → change before x act ≡ x

pub gathered_stays : {A : Type 0} (change : List Act → A → Act → A) (x : A) (before acts : List Act) → AllByRecursion (Stays change) acts → gathered change x before acts ≡ x
gathered_stays change x before [] a = refl
gathered_stays change x before (act ∷ acts) a =
    ap (λ y. gathered change y (before ++ act ∷ []) acts) (a.0 before x) ∙ gathered_stays change x (before ++ act ∷ []) acts a.1

-- THE STATE
abbrev pub RegistryIs : List Act → World → Type 0
RegistryIs run w = (k : ℕ) (e : End) (s : RegistryState) → end_at w.ends k ≡ Some e → e.role ≡ the_registry s → s ≡ gathered registry_after first_registry [] run

-- the registry of an end afterwards was there before
abbrev SameRegistry : End → End → Type 0
SameRegistry e d = (s : RegistryState) → d.role ≡ the_registry s → e.role ≡ the_registry s

same_registry : IsOrder SameRegistry
same_registry = record { same = λ e s h. h; both = λ e d c f g s h. f s (g s h) }

alike : (e d : End) → d.role ≡ e.role → SameRegistry e d
alike e d same s h = sym same ∙ h

app_no : (e d : End) (t : Exporter) → d.role ≡ an_application t → SameRegistry e d
app_no e d t is s h = absurd (no (sym is ∙ h))
  where
    no : an_application t ≡ the_registry s → ⊥
    no g = cc

reader_no : (e d : End) (t : Hearer) → d.role ≡ a_reader t → SameRegistry e d
reader_no e d t is s h = absurd (no (sym is ∙ h))
  where
    no : a_reader t ≡ the_registry s → ⊥
    no g = cc

-- acts that are no message taken by the registry
abbrev Idle : Act → Type 0
Idle act = Stays registry_after act

idle_writes : (es : List Entry) → AllByRecursion (λ entry. Idle (writes entry)) es → AllByRecursion Idle (map writes es)
idle_writes [] a = tt
idle_writes (e ∷ es) a = (a.0, idle_writes es a.1)

idle_moves : (acts : List Act) → AllMoves acts → AllByRecursion Idle acts
idle_moves [] m = tt
idle_moves (moves_bytes who up count ∷ acts) m = ((λ before x. refl), idle_moves acts m)
idle_moves (takes_end who ∷ acts) m = ((λ before x. refl), idle_moves acts m)
idle_moves (begins_line line ∷ acts) m = absurd m
idle_moves (writes entry ∷ acts) m = absurd m

same_state : (run acts : List Act) → AllByRecursion Idle acts → gathered registry_after first_registry [] (run ++ acts) ≡ gathered registry_after first_registry [] run
same_state run acts a = gathered_more registry_after first_registry [] run acts ∙ gathered_stays registry_after (gathered registry_after first_registry [] run) run acts a

still_registry : (run acts : List Act) (w v : World) → Over SameRegistry w.ends v.ends → AllByRecursion Idle acts → RegistryIs run w → RegistryIs (run ++ acts) v
still_registry run acts w v o a i k e s there role = let x = o.back k e there in i k x.0 s x.1 (x.2 s role) ∙ sym (same_state run acts a)

pub moved_registry : (run moves : List Act) (w : World) → AllMoves moves → RegistryIs run w → RegistryIs (run ++ moves) w
moved_registry run moves w m i = still_registry run moves w w (over_same SameRegistry same_registry w.ends) (idle_moves moves m) i

-- LINES
apps_idle : AppSorts (λ entry. Idle (writes entry))
apps_idle = record { steps_ = λ app step before x. refl; sends_ = λ app e before x. refl; hears_ = λ app listener pattern before x. refl; deaf_ = λ app listener pattern before x. refl }

bus_idle : BusSorts (λ entry. Idle (writes entry))
bus_idle = record { says_ = λ e before x. refl; drops_ = λ who queued len before x. refl }

lines_idle : LineSorts (λ entry. Idle (writes entry))
lines_idle = record {
  app = apps_idle;
  starts_ = λ who name before x. refl;
  calls_ = λ who e before x. refl;
  exits_ = λ who before x. refl;
  shows_ = λ reader app rows before x. refl;
}

new_only : (s : RegistryState) (e : End) (t : Exporter) → e.role ≡ an_application t → e.role ≡ the_registry s → ⊥
new_only s e t is h = no (sym is ∙ h)
  where
    no : an_application t ≡ the_registry s → ⊥
    no g = cc

new_reader_only : (s : RegistryState) (e : End) (t : Hearer) → e.role ≡ a_reader t → e.role ≡ the_registry s → ⊥
new_reader_only s e t is h = no (sym is ∙ h)
  where
    no : a_reader t ≡ the_registry s → ⊥
    no g = cc

joined_registry : (run acts : List Act) (w v : World) (n : End) → v.ends ≡ w.ends ++ n ∷ [] → ((s : RegistryState) → n.role ≡ the_registry s → ⊥) → AllByRecursion Idle acts → RegistryIs run w → RegistryIs (run ++ acts) v
joined_registry run acts w v n more other a i k e s there role = by (joined_cases w.ends n k e (ap (λ es. end_at es k) (sym more) ∙ there))
  where
    by : ((end_at w.ends k ≡ Some e) ⊎ ((k ≡ length w.ends) × (e ≡ n))) → s ≡ gathered registry_after first_registry [] (run ++ acts)
    by (inl h) = i k e s h role ∙ sym (same_state run acts a)
    by (inr h) = absurd (other s (ap (λ (x : End). x.role) (sym h.1) ∙ role))

anew : (run acts : List Act) (w : World) (quota : ℕ) → Shape w → length w.ends ≤ 1 → AllByRecursion Idle acts → RegistryIs run w → RegistryIs (run ++ acts) (first_world quota)
anew run acts w quota s few a i zero e t there role =
    let first : RegistryIs run (first_world w.bus.quota) = by s.alone in first 0 e t there role ∙ sym (same_state run acts a)
  where
    by : ((2 ≤ length w.ends) ⊎ (w ≡ first_world w.bus.quota)) → RegistryIs run (first_world w.bus.quota)
    by (inl two) = absurd (omega (arith, two, few))
    by (inr h) = subst (RegistryIs run) h i
anew run acts w quota s few a i (suc k) e t there role = absurd (no_none e there)

line_registry : (run : List Act) (w : World) (line : Line) (d : Done) → Shape w → RegistryIs run w → LineDid w line d → RegistryIs (run ++ begins_line line ∷ map writes d.entries) d.world
line_registry run w line d s i l = by line d l (idle_line line d.entries (line_all (λ entry. Idle (writes entry)) lines_idle w line d l))
  where
    idle_line : (line : Line) (es : List Entry) → AllByRecursion (λ entry. Idle (writes entry)) es → AllByRecursion Idle (begins_line line ∷ map writes es)
    idle_line line es a = ((λ before x. refl), idle_writes es a)

    stop_over : (d : Done) (conn : ℕ) → d.world.ends ≡ with_end conn stops w.ends → Over SameRegistry w.ends d.world.ends
    stop_over d conn is = subst (Over SameRegistry w.ends) (sym is) (over_with SameRegistry same_registry stops (λ x. alike x (stops x) refl) conn w.ends)

    still : (line : Line) (d : Done) → Over SameRegistry w.ends d.world.ends → AllByRecursion Idle (begins_line line ∷ map writes d.entries) → RegistryIs (run ++ begins_line line ∷ map writes d.entries) d.world
    still line d o a = still_registry run (begins_line line ∷ map writes d.entries) w d.world o a i

    by : (line : Line) (d : Done) → LineDid w line d → AllByRecursion Idle (begins_line line ∷ map writes d.entries) → RegistryIs (run ++ begins_line line ∷ map writes d.entries) d.world
    by line _ (renewed quota few) a = anew run (begins_line line ∷ []) w quota s (ltb-false 1 (length w.ends) few) a i
    by line d (app_began name short few) a =
        joined_registry run (begins_line line ∷ map writes d.entries) w d.world (new_app w name) (app_joined w name) (λ t h. new_only t (new_app w name) _ refl h) a i
    by line d (reader_began few) a = joined_registry run (begins_line line ∷ map writes d.entries) w d.world (new_reader w) refl (λ t h. new_reader_only t (new_reader w) _ refl h) a i
    by line d (edited_app app conn edit e before after h who role done_ can) a =
        still line d (over_with SameRegistry same_registry (has_done before after) (λ x. app_no x (has_done before after x) _ refl) conn w.ends) a
    by line d (called_app reader app node conn deed e hearer h who role) a = still line d (over_with SameRegistry same_registry (reader_sends (record hearer { next = suc hearer.next }) (user_call hearer.next (name_of (end_of w.ends (App app))) node deed))
        (λ x. reader_no x (reader_sends (record hearer { next = suc hearer.next }) (user_call hearer.next (name_of (end_of w.ends (App app))) node deed) x) (record hearer { next = suc hearer.next }) refl) conn w.ends) a
    by line d (swapped app) a = still line d (over_same SameRegistry same_registry w.ends) a
    by line _ (app_stopped app d b who) a = still line d (stop_over d b.conn (ap (λ (x : Done). x.world.ends) b.is)) a
    by line _ (reader_stopped reader d b who) a = still line d (stop_over d b.conn (ap (λ (x : Done). x.world.ends) b.is)) a
    by line d (showed reader app conn e hearer there who role) a = still line d (over_same SameRegistry same_registry w.ends) a

-- TURNS
sent_idle : (who : Party) (es : List Envelope) → AllByRecursion (λ entry. Idle (writes entry)) (map (sent who) es)
sent_idle who [] = tt
sent_idle who (e ∷ es) = ((λ before x. refl), sent_idle who es)

heard_idle : (r : ℕ) (h : Hearer) (ends : List End) (letter : Letter) → AllByRecursion (λ entry. Idle (writes entry)) (heard_entries r h ends letter)
heard_idle r h ends letter = heard_all (λ entry. Idle (writes entry)) (λ n app line before x. refl) (λ n app before x. refl) r h ends letter

got_idle : (who from : Party) (serial : ℕ) → (who ≡ Registry → ⊥) → Idle (writes (got who from serial))
got_idle Registry from serial other = absurd (other refl)
got_idle The_bus from serial other = λ before x. refl
got_idle (App a) from serial other = λ before x. refl
got_idle (Reader r) from serial other = λ before x. refl

not_app : (who : Party) (a : ℕ) → who ≡ App a → who ≡ Registry → ⊥
not_app who a h g = by (sym h ∙ g)
  where
    by : App a ≡ Registry → ⊥
    by e = cc

not_reader : (who : Party) (r : ℕ) → who ≡ Reader r → who ≡ Registry → ⊥
not_reader who r h g = by (sym h ∙ g)
  where
    by : Reader r ≡ Registry → ⊥
    by e = cc

put_ : (letter : Letter) (e : End) → SameRegistry e (put_down letter e)
put_ letter e = alike e (put_down letter e) refl

leave_ : (e : End) → SameRegistry e (leaves e)
leave_ e = alike e (leaves e) refl

name_ : (b : Bus) (conn : ℕ) (e : End) → SameRegistry e (named b conn e)
name_ b conn e = alike e (named b conn e) refl

acting_over : (w : World) (conn : ℕ) (f : End → End) → ((x : End) → SameRegistry x (f x)) → Over SameRegistry w.ends (with_end conn f (with_end conn taken_down w.ends))
acting_over w conn f same =
    over_both SameRegistry same_registry w.ends (with_end conn taken_down w.ends) (with_end conn f (with_end conn taken_down w.ends))
    (over_with SameRegistry same_registry taken_down (λ x. alike x (taken_down x) refl) conn w.ends) (over_with SameRegistry same_registry f same conn (with_end conn taken_down w.ends))

abbrev state_of : Role → RegistryState → RegistryState
state_of (the_registry s) t = s
state_of role t = t

same_state_of : (s t : RegistryState) → the_registry s ≡ the_registry t → s ≡ t
same_state_of s t h = ap (λ r. state_of r s) h

-- it takes a message
module _ (front : List Act) (w : World) (d : Done) (f : Front front w None) (b : RegistryTakes w d) (i : RegistryIs front w) where
  abbrev pub step : RegistryStep
  step = registry_takes b.before b.letter.said.message

  abbrev pub its_entries : List Entry
  its_entries = got Registry b.letter.from b.letter.said.message.serial ∷ map (sent Registry) step.sent

  pub wrote : d.entries ≡ its_entries
  wrote = ap (λ (x : Done). x.entries) b.is ∙ ap (λ p. got p b.letter.from b.letter.said.message.serial ∷ map (sent p) step.sent) b.whose

  abbrev pub told_before : RegistryState
  told_before = gathered registry_after first_registry [] front

  pub before_is : b.before ≡ told_before
  before_is = i b.conn b.e b.before b.is_here.there b.role

  pub does_so : registry_does front told_before (writes (got Registry b.letter.from b.letter.said.message.serial)) ≡ step
  does_so =
      ap (took_step told_before) (handed_is front w None f b.conn b.e b.letter b.rest b.is_here.there b.is_here.standing b.link)
      ∙ ap (λ s. registry_takes s b.letter.said.message) (sym before_is)

  told_now : gathered registry_after first_registry [] (front ++ map writes its_entries) ≡ step.state
  told_now =
      gathered_more registry_after first_registry [] front (map writes its_entries)
      ∙ gathered_stays registry_after (registry_after front told_before (writes (got Registry b.letter.from b.letter.said.message.serial))) (front ++ writes (got Registry b.letter.from b.letter.said.message.serial) ∷ [])
      (map writes (map (sent Registry) step.sent)) (idle_writes (map (sent Registry) step.sent) (sent_idle Registry step.sent))
      ∙ ap (λ (x : RegistryStep). x.state) does_so

  pub registry_now : RegistryIs (front ++ map writes d.entries) d.world
  registry_now k x s there role =
      by (with_cases (registry_did step) (with_end b.conn taken_down w.ends) b.conn k x (ap (λ es. end_at es k) (sym (ap (λ (y : Done). y.world.ends) b.is)) ∙ there))
    where
      now : (t : RegistryState) → t ≡ step.state → t ≡ gathered registry_after first_registry [] (front ++ map writes d.entries)
      now t h = h ∙ sym told_now ∙ ap (λ es. gathered registry_after first_registry [] (front ++ map writes es)) (sym wrote)

      s_shape : Shape w
      s_shape = shape front w None f

      by : ((y : End) × (end_at (with_end b.conn taken_down w.ends) k ≡ Some y) × (((k ≡ b.conn) × (x ≡ registry_did step y)) ⊎ ((k ≡ b.conn → ⊥) × (x ≡ y))))
          → s ≡ gathered registry_after first_registry [] (front ++ map writes d.entries)
      by y = one y.2
        where
          one : (((k ≡ b.conn) × (x ≡ registry_did step y.0)) ⊎ ((k ≡ b.conn → ⊥) × (x ≡ y.0))) → s ≡ gathered registry_after first_registry [] (front ++ map writes d.entries)
          one (inl c) = now s (sym (same_state_of step.state s (ap (λ (t : End). t.role) (sym c.1) ∙ role)))
          one (inr c) =
              let z = (over_with SameRegistry same_registry taken_down (λ t. alike t (taken_down t) refl) b.conn w.ends).back k y.0 y.1 in
              let its_role : z.0.role ≡ the_registry s = z.2 s (ap (λ (t : End). t.role) (sym c.1) ∙ role) in
              let who : z.0.who ≡ Registry = registry_alone z.0.who s (subst (RoleFits z.0.who) its_role (s_shape.roles k z.0 z.1)) in
              absurd (c.0 (s_shape.one k b.conn z.0 b.e z.1 b.is_here.there (who ∙ sym b.whose)))

turn_registry : (front : List Act) (w : World) (c : Cause) (d : Done) → Front front w None → TurnDid w c d → RegistryIs front w → RegistryIs (front ++ map writes d.entries) d.world
turn_registry front w _ _ f (told_busy turns) i = still_registry front (writes (busy turns) ∷ []) w w (over_same SameRegistry same_registry w.ends) ((λ before x. refl), tt) i
turn_registry front w _ _ f (told_quiet none) i = still_registry front (writes quiet ∷ []) w w (over_same SameRegistry same_registry w.ends) ((λ before x. refl), tt) i
turn_registry front w _ _ f (bus_took d b) i =
    let c = carrying.takes (record { bus = w.bus; ends = w.ends }) b.conn b.e.who b.said in
    still_registry front (map writes d.entries) w d.world
    (subst (λ (x : Done). Over SameRegistry w.ends x.world.ends) (sym b.is)
    (takes_over SameRegistry same_registry (λ m e. put_ (own_letter m) e) leave_ name_ (λ e. alike e (taken_up e) refl) (record { bus = w.bus; ends = w.ends }) b.conn b.e.who b.said
    (λ m e. put_ (letter_of b.e.who b.said m) e)))
    (idle_writes d.entries (subst (λ (x : Done). AllByRecursion (λ entry. Idle (writes entry)) x.entries) (sym b.is) ((λ before x. refl), of_bus_all (λ entry. Idle (writes entry)) bus_idle c.ends c.bus.own c.bus.closings))) i
turn_registry front w _ _ f (bus_ended d b) i =
    let c = carrying.takes_end (record { bus = w.bus; ends = w.ends }) b.conn in
    still_registry front (map writes d.entries) w d.world
    (subst (λ (x : Done). Over SameRegistry w.ends x.world.ends) (sym b.is) (ends_over SameRegistry same_registry (λ m e. put_ (own_letter m) e) leave_ (record { bus = w.bus; ends = w.ends }) b.conn))
    (idle_writes d.entries (subst (λ (x : Done). AllByRecursion (λ entry. Idle (writes entry)) x.entries) (sym b.is) (of_bus_all (λ entry. Idle (writes entry)) bus_idle c.ends c.bus.own c.bus.closings))) i
turn_registry front w _ _ f (registry_took d b) i = registry_now front w d f b i
turn_registry front w _ _ f (app_took d b) i =
    still_registry front (map writes d.entries) w d.world
    (subst (λ (x : Done). Over SameRegistry w.ends x.world.ends) (sym b.is)
    (acting_over w b.conn (has_done b.before (app_takes b.before b.letter.said.message)) (λ x. app_no x (has_done b.before (app_takes b.before b.letter.said.message) x) _ refl)))
    (idle_writes d.entries (subst (λ (x : Done). AllByRecursion (λ entry. Idle (writes entry)) x.entries) (sym b.is)
    (got_idle b.e.who b.letter.from b.letter.said.message.serial (not_app b.e.who b.app b.whose), app_all (λ entry. Idle (writes entry)) apps_idle _ (app_takes b.before b.letter.said.message).out))) i
turn_registry front w _ _ f (reader_took d b) i =
    let v : World = received w b.conn b.e b.letter in
    still_registry front (map writes d.entries) w d.world
    (subst (λ (x : Done). Over SameRegistry w.ends x.world.ends) (sym b.is)
    (acting_over w b.conn (λ e. record e { role = a_reader (hears_letter b.hearer v.ends b.letter) }) (λ x. reader_no x (record x { role = a_reader (hears_letter b.hearer v.ends b.letter) }) _ refl)))
    (idle_writes d.entries (subst (λ (x : Done). AllByRecursion (λ entry. Idle (writes entry)) x.entries) (sym b.is)
    (got_idle b.e.who b.letter.from b.letter.said.message.serial (not_reader b.e.who b.reader b.whose), heard_idle (number_of b.e.who) b.hearer v.ends b.letter))) i

asks_no : (m : Envelope) (question : Question) (e : End) → SameRegistry e (asks_at m question e)
asks_no m question e = by e.role refl
  where
    by : (role : Role) → e.role ≡ role → SameRegistry e (asks_as role m question e)
    by (a_reader h) g = reader_no e (asks_as (a_reader h) m question e) _ refl
    by (the_registry s) g = alike e e refl
    by (an_application s) g = alike e e refl

moved_over : (w v : World) → Moves w v → Over SameRegistry w.ends v.ends
moved_over w v (inl same) = subst (λ (x : World). Over SameRegistry w.ends x.ends) (sym same) (over_same SameRegistry same_registry w.ends)
moved_over w v (inr (inl m)) =
    subst (λ (x : World). Over SameRegistry w.ends x.ends) (sym m.after)
    (over_with SameRegistry same_registry (λ e. record e { up_moved = e.up_moved + m.count }) (λ e. alike e (record e { up_moved = e.up_moved + m.count }) refl) m.conn w.ends)
moved_over w v (inr (inr m)) =
    subst (λ (x : World). Over SameRegistry w.ends x.ends) (sym m.after)
    (over_with SameRegistry same_registry (λ e. record e { down_moved = e.down_moved + m.count }) (λ e. alike e (record e { down_moved = e.down_moved + m.count }) refl) m.conn w.ends)

first_is : RegistryIs [] (first_world QUOTA_MOST)
first_is zero e s there role = sym (same_state_of (state_of first_end.role s) s (ap (λ (x : End). x.role) (same_some first_end e there) ∙ role))
first_is (suc k) e s there role = absurd (no_none e there)

pub registry_along : (run : List Act) (w : World) (free : Option ℕ) (at : Option Work) → Ran run w free at → Lives (entries_in run) → RegistryIs run w
registry_along _ _ _ _ nothing_yet live = first_is
registry_along _ _ _ _ (did run w line c r ok can is a) live =
    line_registry run w line (does w c) (shape_along run w None None r) (registry_along run w None None r (lived_before run (begins_line line ∷ map writes (does w c).entries) live))
    (line_did w line c (shape_along run w None None r) ok can a is)
registry_along _ _ _ _ (began run w line r ok can b) live =
    still_registry run (begins_line line ∷ line_moves w (work_of w line)) w w (over_same SameRegistry same_registry w.ends)
    ((λ before x. refl), idle_moves (line_moves w (work_of w line)) (line_moves_are w (work_of w line)))
    (registry_along run w None None r (lived_before run (begins_line line ∷ line_moves w (work_of w line)) live))
registry_along _ _ _ _ (caused run w free work left c r is b a) live =
    let before : Lives (entries_in run) = lived_before run (moves_for w work c ++ map writes (does w c).entries) live in
    let front : List Act = run ++ moves_for w work c in
    let f : Front front w None = front_moved run (moves_for w work c) w free (moves_are w work c) (front_of run w free (Some work) r before) in
    subst (λ l. RegistryIs l (does w c).world) (append_assoc run (moves_for w work c) (map writes (does w c).entries))
    (turn_registry front w c (does w c) f (turn_did w c (shape_along run w free (Some work) r) (bare_quiet w work left c b is) a)
    (moved_registry run (moves_for w work c) w (moves_are w work c) (registry_along run w free (Some work) r before)))
registry_along _ _ _ _ (rested run w v free work r is m well) live =
    subst (λ l. RegistryIs l v) (append-nil run) (still_registry run [] w v (moved_over w v m) tt (registry_along run w free (Some work) r live))
registry_along _ _ _ _ (asked run w conn q m question work r a) live =
    still_registry run (writes (sent (Reader q) m) ∷ []) w (at_end w conn (asks_at m question)) (over_with SameRegistry same_registry (asks_at m question) (asks_no m question) conn w.ends) ((λ before x. refl), tt)
    (registry_along run w (Some conn) work r (lived_before run (writes (sent (Reader q) m) ∷ []) live))

-- THE LAW: what it sends
abbrev Stills : Entry → Type 0
Stills entry = Still of_registry registry_words_due (writes entry)

apps_still : AppSorts Stills
apps_still = record {
  steps_ = λ app step. record { none = refl; nothing = λ before. refl };
  sends_ = λ app e. record { none = refl; nothing = λ before. refl };
  hears_ = λ app listener pattern. record { none = refl; nothing = λ before. refl };
  deaf_ = λ app listener pattern. record { none = refl; nothing = λ before. refl };
}

bus_still : BusSorts Stills
bus_still = record { says_ = λ e. record { none = refl; nothing = λ before. refl }; drops_ = λ who queued len. record { none = refl; nothing = λ before. refl } }

-- nobody else is the registry
sent_still : (who : Party) (e : Envelope) → (who ≡ Registry → ⊥) → Stills (sent who e)
sent_still Registry e other = absurd (other refl)
sent_still The_bus e other = record { none = refl; nothing = λ before. refl }
sent_still (App a) e other = record { none = refl; nothing = λ before. refl }
sent_still (Reader r) e other = record { none = refl; nothing = λ before. refl }

got_still : (who from : Party) (serial : ℕ) → (who ≡ Registry → ⊥) → Stills (got who from serial)
got_still Registry from serial other = absurd (other refl)
got_still The_bus from serial other = record { none = refl; nothing = λ before. refl }
got_still (App a) from serial other = record { none = refl; nothing = λ before. refl }
got_still (Reader r) from serial other = record { none = refl; nothing = λ before. refl }

line_still : (w : World) (line : Line) (d : Done) → LineDid w line d → AllByRecursion Stills d.entries
line_still w _ _ (renewed quota few) = tt
line_still w _ _ (app_began name short few) = (record { none = refl; nothing = λ before. refl }, app_all Stills apps_still (new_number w name) (starts (begins name)).out)
line_still w _ _ (reader_began few) = (record { none = refl; nothing = λ before. refl }, (record { none = refl; nothing = λ before. refl }, tt))
line_still w _ _ (edited_app app conn edit e before after h who role done_ can) = app_all Stills apps_still (number_of (party_at w.ends conn)) after.out
line_still w _ _ (called_app reader app node conn deed e hearer h who role) =
    (sent_still (party_at w.ends conn) (user_call hearer.next (name_of (end_of w.ends (App app))) node deed) (not_reader (party_at w.ends conn) reader (ap whose h.there ∙ who)), tt)
line_still w _ _ (swapped app) = tt
line_still w _ _ (app_stopped app d b who) = subst (λ (x : Done). AllByRecursion Stills x.entries) (sym b.is) (record { none = refl; nothing = λ before. refl }, tt)
line_still w _ _ (reader_stopped reader d b who) = subst (λ (x : Done). AllByRecursion Stills x.entries) (sym b.is) (record { none = refl; nothing = λ before. refl }, tt)
line_still w _ _ (showed reader app conn e hearer there who role) = (record { none = refl; nothing = λ before. refl }, tt)

words_line : (run : List Act) (w : World) (line : Line) (d : Done) → Front run w None → LineDid w line d → Along (IsOwed of_registry registry_words_due) run (begins_line line ∷ map writes d.entries)
words_line run w line d f l =
    still_along of_registry registry_words_due run (begins_line line ∷ map writes d.entries)
    (record { none = refl; nothing = λ before. refl }, still_writes of_registry registry_words_due d.entries (line_still w line d l))

words_next : (es : List Envelope) → next_of (is_a of_registry) (map writes (map (sent Registry) es)) ≡ map (sent Registry) es
words_next [] = refl
words_next (e ∷ es) = ap (λ l. sent Registry e ∷ l) (words_next es)

words_along : (before : List Act) (es : List Envelope) → Along (IsOwed of_registry registry_words_due) before (map writes (map (sent Registry) es))
words_along before [] = tt
words_along before (e ∷ es) = (tt, words_along (before ++ writes (sent Registry e) ∷ []) es)

-- where moves stand behind a run whose registry is known
state_at : (front : List Act) (w : World) → Front front w None → RegistryIs front w
state_at front w f =
    let o : Origin front w = f.origin in
    let live : Lives (entries_in o.base) = lived_before o.base o.moves (subst (λ l. Lives (entries_in l)) o.is f.lives) in
    subst (λ l. RegistryIs l w) (sym o.is) (moved_registry o.base o.moves w o.all_moves (registry_along o.base w o.free o.at o.ran live))

words_turn : (front : List Act) (w : World) (c : Cause) (d : Done) → Front front w None → TurnDid w c d → Written of_registry registry_words_due front d.entries
words_turn front w _ _ f (told_busy turns) = still_written of_registry registry_words_due front (busy turns ∷ []) (record { none = refl; nothing = λ before. refl }, tt)
words_turn front w _ _ f (told_quiet none) = still_written of_registry registry_words_due front (quiet ∷ []) (record { none = refl; nothing = λ before. refl }, tt)
words_turn front w _ _ f (bus_took d b) =
    let c = carrying.takes (record { bus = w.bus; ends = w.ends }) b.conn b.e.who b.said in
    still_written of_registry registry_words_due front d.entries
    (subst (λ (x : Done). AllByRecursion Stills x.entries) (sym b.is) (record { none = refl; nothing = λ before. refl }, of_bus_all Stills bus_still c.ends c.bus.own c.bus.closings))
words_turn front w _ _ f (bus_ended d b) =
    let c = carrying.takes_end (record { bus = w.bus; ends = w.ends }) b.conn in
    still_written of_registry registry_words_due front d.entries (subst (λ (x : Done). AllByRecursion Stills x.entries) (sym b.is) (of_bus_all Stills bus_still c.ends c.bus.own c.bus.closings))
words_turn front w _ _ f (registry_took d b) =
    let i : RegistryIs front w = state_at front w f in
    let es : List Envelope = (step front w d f b i).sent in
    subst (Written of_registry registry_words_due front) (sym (wrote front w d f b i)) (record {
      first = refl;
      along = (
        words_next es ∙ ap (λ (x : RegistryStep). map (sent Registry) x.sent) (sym (does_so front w d f b i)),
        words_along (front ++ writes (got Registry b.letter.from b.letter.said.message.serial) ∷ []) es,
      );
    })
words_turn front w _ _ f (app_took d b) =
    still_written of_registry registry_words_due front d.entries
    (subst (λ (x : Done). AllByRecursion Stills x.entries) (sym b.is)
    (got_still b.e.who b.letter.from b.letter.said.message.serial (not_app b.e.who b.app b.whose), app_all Stills apps_still _ (app_takes b.before b.letter.said.message).out))
words_turn front w _ _ f (reader_took d b) =
    still_written of_registry registry_words_due front d.entries
    (subst (λ (x : Done). AllByRecursion Stills x.entries) (sym b.is) (
      got_still b.e.who b.letter.from b.letter.said.message.serial (not_reader b.e.who b.reader b.whose),
      heard_all Stills (λ n app line. record { none = refl; nothing = λ before. refl }) (λ n app. record { none = refl; nothing = λ before. refl }) (number_of b.e.who) b.hearer (received w b.conn b.e b.letter).ends b.letter,
    ))

words_law : IsLaw of_registry registry_words_due
words_law = record {
  line = words_line;
  turn = words_turn;
  bare = λ line b. record { none = refl; nothing = λ before. refl };
  moving = λ who up count. record { none = refl; nothing = λ before. refl };
  ending = λ who. record { none = refl; nothing = λ before. refl };
  asks = λ r m. record { none = refl; nothing = λ before. refl };
}

pub registry_sends : (run : List Act) (w : World) (free : Option ℕ) (at : Option Work) → Ran run w free at → Lives (entries_in run) → AreDue false of_registry registry_words_due run
registry_sends run w free at r live = law_along of_registry registry_words_due words_law run w free at r live
