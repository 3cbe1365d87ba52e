-- That readers are told of each child of the registry is kept along a lawful trace, where the calls of their start are returned.
use Rattle.std.proofs.Common.{◌≡◌, ◌⊎◌, inl, inr, ℕ, zero, suc, ◌+◌, ◌≤◌, Bool, true, false, List, [], ◌∷◌, ◌++◌, length, Some, refl, sym, ap, ◌∙◌, subst, arith, length-append}
use Rattle.std.specs.Prelude.{◌==◌, ◌||◌, codes}
use Rattle.std.specs.List.{AllByRecursion}
use Rattle.std.proofs.lemmas.List.{append-nil}
use Rattle.atspi_script_lines.specs.declared.limits.TheConstants.{QUOTA_MOST}
use Rattle.atspi_script_lines.specs.declared.line.Party.TheVariants.{Registry, Reader}
use Rattle.atspi_message.specs.Envelope.{Envelope}
use Rattle.atspi_protocol.specs.registering.RegistryState.{RegistryState}
use Rattle.atspi_protocol.specs.registering.Told.{is_asked_for}
use Rattle.atspi_protocol.specs.registering.Steps.{registry_takes}
use Rattle.atspi_protocol.specs.exporting.Taking.{app_takes}
use Rattle.atspi_protocol.specs.following.Calls.{user_call}
use Rattle.atspi_protocol.specs.declared.following.question.Question.{Question}
use Rattle.atspi_trace.specs.Entry.{Entry, sent}
use Rattle.atspi_trace.specs.World.{here, waits, Asked, Hearer, Role, the_registry, an_application, a_reader, End, World, first_registry, first_world}
use Rattle.atspi_trace.specs.Ends.{end_at, with_end, same_party, taken_down, stops}
use Rattle.atspi_trace.specs.Hearing.{hears_letter}
use Rattle.atspi_trace.specs.Causes.{Done, only, at_end, has_done, asks, reader_sends, registry_did}
use Rattle.atspi_trace.specs.Due.{asks_as, asks_at}
use Rattle.atspi_trace_laws.specs.laws.Words.{messages, message}
use Rattle.atspi_trace_laws.proofs.OfOrder.Parties.{no_none, same_some, false_true}
use Rattle.atspi_trace_laws.proofs.OfOrder.Along.{Keeps}
use Rattle.atspi_trace_laws.proofs.OfOrder.Allowed.{MovedUp, MovedDown, Asks}
use Rattle.atspi_trace_laws.proofs.OfOrder.Each.{all_map}
use Rattle.atspi_trace_laws.proofs.OfOrder.Frame.{Over, IsOrder, over_same, over_both, over_with, at_changed, joined_cases}
use Rattle.atspi_trace_laws.proofs.OfOrder.Shape.{Shape, RoleFits}
use Rattle.atspi_trace_laws.proofs.OfOrder.Shaped.{received_at, new_app, new_reader, app_joined, registry_over}
use Rattle.atspi_trace_laws.proofs.OfOrder.Growing.{Grows, Shaped, Nothing, And, grown}
use Rattle.atspi_trace_laws.proofs.OfOrder.Effects.{received, RegistryTakes, Effect, resets, app_joins, reader_joins, app_edited, app_took, reader_called, swapped, exited_, showed_, told_busy, told_quiet, bus_took, bus_ended, registry_took, reader_took}
use Rattle.atspi_trace_laws.proofs.OfReaders.Fates.{FateIs, Fated, both_keep}
use Rattle.atspi_trace_laws.proofs.OfOwn.Writing.{Lives, lived}
use Rattle.atspi_trace_laws.proofs.OfSerials.Serial.{messages_more}
use Rattle.atspi_trace_laws.proofs.OfSerials.Speaking.{next_of}
use Rattle.atspi_trace_laws.proofs.OfSerials.Numbers.{Numbered}
use Rattle.atspi_trace_laws.proofs.OfTaken.LawTaken.{not_sent_at}
use Rattle.atspi_trace_laws.proofs.OfNames.Places.{greeted, greeted_more, name_told}
use Rattle.atspi_trace_laws.proofs.OfNames.LawNames.{Named}
use Rattle.atspi_trace_laws.proofs.OfNames.LawEnds.{few_greeted}
use Rattle.atspi_trace_laws.proofs.OfSigned.Mail.{NameIs, name_more, IsMail}
use Rattle.atspi_trace_laws.proofs.OfSigned.LawMail.{Mail}
use Rattle.atspi_trace_laws.proofs.OfMissed.Arriving.{Goes_on, took_goes, ended_goes}
use Rattle.atspi_trace_laws.proofs.OfMissed.Registering.{HasTold, NotRegistry, none_sent, same_state, role_registry}
use Rattle.atspi_trace_caches.proofs.OfServed.Facts.{AllEntered}
use Rattle.atspi_trace_caches.proofs.OfServed.Entering.{Under_entered, entered_keep}
use Rattle.atspi_trace_caches.proofs.OfServed.Spelling.{Spelled}
use Rattle.atspi_trace_caches.proofs.OfSettled.Facts.{StartsReturn}
use Rattle.atspi_trace_caches.proofs.OfSettled.Answering.{Answers, Answering, Under_answering, answering_keeps, registry_or, registry_wrote}
use Rattle.atspi_trace_caches.proofs.OfSettled.TellingWords.{Names, all_those}
use Rattle.atspi_trace_caches.proofs.OfSettled.TellingAsked.{Ordered, IsWell, well_more, AskedBack, Reading, reads_on, joins, begins_, reading, moved_back, asked_cases, AllOrdered, ordered_keep}
use Rattle.atspi_trace_caches.proofs.OfSettled.Telling_of.{ToldSince, told_map, told_named, IsReturn, named_then, begins_well, asks_for_news}
use Rattle.atspi_trace_caches.proofs.OfSettled.TellingAll.{step_told}

-- THE REGISTRY, where it takes no message, knows what it knew
abbrev pub SameRegistry : End → End → Type 0
SameRegistry e d = (s : RegistryState) → d.role ≡ the_registry s → e.role ≡ the_registry s

pub same_registry : IsOrder SameRegistry
same_registry = record { same = λ e s h. h; both = λ e d c f g s h. f s (g s h) }

abbrev is_registry_role : Role → Bool
is_registry_role (the_registry s) = true
is_registry_role role = false

other_role : (e d : End) → is_registry_role d.role ≡ false → SameRegistry e d
other_role e d none s is = absurd (false_true (sym none ∙ ap is_registry_role is))

goes_same : (xs zs : List End) → Over Goes_on xs zs → Over SameRegistry xs zs
goes_same xs zs o = record { size = o.size; back = λ k d there. let x = o.back k d there in (x.0, x.1, λ s role. sym x.2.role ∙ role) }

pub data Registers (w : World) (d : Done) : Type 0 where
  same_ : Over SameRegistry w.ends d.world.ends → Registers w d
  joined_ : (nu : End) → d.world.ends ≡ w.ends ++ nu ∷ [] → is_registry_role nu.role ≡ false → Registers w d
  first_ : (quota : ℕ) → d ≡ only (first_world quota) [] → Registers w d
  takes_ : RegistryTakes w d → Registers w d

module _ (w : World) (d : Done) where
  as_is : (x : Done) → d ≡ x → Over SameRegistry w.ends x.world.ends → Registers w d
  as_is x is o = same_ (subst (λ y. Over SameRegistry w.ends y.world.ends) (sym is) o)

  one : (f : End → End) → ((e : End) → SameRegistry e (f e)) → (conn : ℕ) → Over SameRegistry w.ends (with_end conn f w.ends)
  one f r conn = over_with SameRegistry same_registry f r conn w.ends

  two : (f : End → End) → ((e : End) → SameRegistry e (f e)) → (conn : ℕ) → Over SameRegistry w.ends (with_end conn f (with_end conn taken_down w.ends))
  two f r conn =
      over_both SameRegistry same_registry w.ends (with_end conn taken_down w.ends) (with_end conn f (with_end conn taken_down w.ends)) (over_with SameRegistry same_registry taken_down (λ e s h. h) conn w.ends)
      (over_with SameRegistry same_registry f r conn (with_end conn taken_down w.ends))

  none : Over SameRegistry w.ends w.ends
  none = over_same SameRegistry same_registry w.ends

  pub registers : Effect w d → Registers w d
  registers (resets quota old is) = first_ quota is
  registers (app_joins name short is) = joined_ (new_app w name) (ap (λ x. x.world.ends) is ∙ app_joined w name) refl
  registers (reader_joins old is) = joined_ (new_reader w) (ap (λ x. x.world.ends) is) refl
  registers (app_edited b) = as_is _ b.is (one (has_done b.before b.after) (λ e. other_role e (has_done b.before b.after e) refl) b.conn)
  registers (app_took b) =
      let f : End → End = has_done b.before (app_takes b.before b.letter.said.message) in
      as_is _ b.is (two f (λ e. other_role e (f e) refl) b.conn)
  registers (reader_called b) =
      let g : Hearer = record b.hearer { next = suc b.hearer.next } in
      let m : Envelope = user_call b.hearer.next b.name b.node b.deed in
      as_is _ b.is (one (reader_sends g m) (λ e. other_role e (reader_sends g m e) refl) b.conn)
  registers (swapped b) = as_is _ b.is none
  registers (exited_ b) = as_is _ b.is (one stops (λ e s h. h) b.conn)
  registers (showed_ b) = as_is _ b.is none
  registers (told_busy turns is) = as_is _ is none
  registers (told_quiet quiet is) = as_is _ is none
  registers (bus_took b) = as_is _ b.is (goes_same w.ends _ (took_goes (record { bus = w.bus; ends = w.ends }) b.conn b.e.who b.said))
  registers (bus_ended b) = as_is _ b.is (goes_same w.ends _ (ended_goes (record { bus = w.bus; ends = w.ends }) b.conn))
  registers (registry_took b) = takes_ b
  registers (reader_took b) =
      let g : Hearer = hears_letter b.hearer (received w b.conn b.e b.letter).ends b.letter in
      as_is _ b.is (two (λ x. record x { role = a_reader g }) (λ e. other_role e (record e { role = a_reader g }) refl) b.conn)

-- WHAT IS KEPT
abbrev pub AllToldOf : List Entry → ℕ → List Asked → List (List ℕ × List ℕ) → Type 0
AllToldOf es r asked_ children = AllByRecursion (λ (c : List ℕ × List ℕ). ToldSince c.0 (IsReturn es r asked_) (messages es Registry)) children

abbrev pub Telling : List Entry → World → Type 0
Telling es w =
    Lives es → (j : ℕ) (f : End) (s : RegistryState) → end_at w.ends j ≡ Some f → f.role ≡ the_registry s
    → (k r : ℕ) (e : End) (h : Hearer) → end_at w.ends k ≡ Some e → e.who ≡ Reader r → e.role ≡ a_reader h → e.standing ≡ here → AllToldOf es r h.asked s.children

-- with more entries, in which the registry sends nothing, and calls that were such before
was_returns : (es ys : List Entry) (r : ℕ) (g h : List Asked) (ms : List Envelope) → length (greeted (es ++ ys)) ≤ 1000 → AllByRecursion (Answers es) ms → ((first : Envelope) (n : ℕ) → message es (Reader r) n ≡ Some first → IsWell h n → IsWell g n)
    → AllByRecursion (λ m. IsReturn (es ++ ys) r h m → IsReturn es r g m) ms
was_returns es ys r g h ms few a back = all_map (Answers es) (λ m. IsReturn (es ++ ys) r h m → IsReturn es r g m) ms one a
  where
    one : (m : Envelope) → Answers es m → IsReturn (es ++ ys) r h m → IsReturn es r g m
    one m f x =
        let y = named_then es ys (Reader r) m x.caller few (f (ap (λ k. k == 2 || k == 3) x.kind)) x.to x.name in
        let number : y.1 ≡ x.serial = same_some y.1 x.serial (sym y.3 ∙ x.reply) in
        record { kind = x.kind; caller = x.caller; to = x.to; name = y.2; serial = x.serial; reply = x.reply; well = back y.0 x.serial (ap (message es (Reader r)) (sym number) ∙ y.4) x.well }

all_told_map : (es later : List Entry) (r : ℕ) (g h : List Asked) (children : List (List ℕ × List ℕ)) → messages later Registry ≡ messages es Registry → AllByRecursion (λ m. IsReturn later r h m → IsReturn es r g m) (messages es Registry)
    → AllToldOf es r g children → AllToldOf later r h children
all_told_map es later r g h children same was a =
    all_map (λ (c : List ℕ × List ℕ). ToldSince c.0 (IsReturn es r g) (messages es Registry)) (λ (c : List ℕ × List ℕ). ToldSince c.0 (IsReturn later r h) (messages later Registry)) children
    (λ c t. subst (ToldSince c.0 (IsReturn later r h)) (sym same) (told_map c.0 (IsReturn es r g) (IsReturn later r h) (messages es Registry) was t)) a

nothing_told : (later : List Entry) (r : ℕ) (h : List Asked) (children : List (List ℕ × List ℕ)) → ((n : ℕ) → IsWell h n → ⊥) → AllToldOf later r h children
nothing_told later r h children none = all_those (λ (c : List ℕ × List ℕ). ToldSince c.0 (IsReturn later r h) (messages later Registry)) children (λ c at. told_named c.0 (IsReturn later r h) (messages later Registry) (each c.0 (messages later Registry)))
  where
    each : (u : List ℕ) (ms : List Envelope) → AllByRecursion (λ m. IsReturn later r h m → Names u m) ms
    each u [] = tt
    each u (m ∷ ms) = ((λ x. absurd (none x.serial x.well)), each u ms)

pub same_messages : (es ys : List Entry) → AllByRecursion NotRegistry ys → messages (es ++ ys) Registry ≡ messages es Registry
same_messages es ys n = messages_more es ys Registry ∙ ap (λ l. messages es Registry ++ l) (none_sent ys n) ∙ append-nil (messages es Registry)

abbrev is_reader_role : Role → Bool
is_reader_role (a_reader h) = true
is_reader_role role = false

no_reader_first : (quota k : ℕ) (e : End) (h : Hearer) → end_at (first_world quota).ends k ≡ Some e → e.role ≡ a_reader h → ⊥
no_reader_first quota zero e h there role = false_true (ap is_reader_role (ap (λ (x : End). x.role) (same_some first_registry e there) ∙ role))
no_reader_first quota (suc k) e h there role = no_none e there

-- who a call changes, and whose it stays
pub asks_same : (m : Envelope) (question : Question) (e : End) → SameRegistry e (asks_at m question e)
asks_same m question e = by e.role refl
  where
    by : (role : Role) → e.role ≡ role → SameRegistry e (asks_as role m question e)
    by (a_reader h) is = other_role e (asks_as (a_reader h) m question e) refl
    by (the_registry x) is = λ s h. h
    by (an_application x) is = λ s h. h

abbrev AskedBack_who : End → End → Type 0
AskedBack_who e d = d.who ≡ e.who

who_order : IsOrder AskedBack_who
who_order = record { same = λ e. refl; both = λ e d c f g. g ∙ f }

asks_who : (m : Envelope) (question : Question) (e : End) → AskedBack_who e (asks_at m question e)
asks_who m question e = by e.role
  where
    by : (role : Role) → (asks_as role m question e).who ≡ e.who
    by (a_reader h) = refl
    by (the_registry x) = refl
    by (an_application x) = refl

abbrev hearer_in : Role → Hearer → Hearer
hearer_in (a_reader h) g = h
hearer_in role g = g

same_hearer : (g h : Hearer) → a_reader g ≡ a_reader h → g ≡ h
same_hearer g h is = ap (λ r. hearer_in r g) is

pub moved_registry : (w v : World) → (MovedUp w v ⊎ MovedDown w v) → Over SameRegistry w.ends v.ends
moved_registry w v (inl m) =
    subst (λ (x : World). Over SameRegistry w.ends x.ends) (sym m.after) (over_with SameRegistry same_registry (λ e. record e { up_moved = e.up_moved + m.count }) (λ e s h. h) m.conn w.ends)
moved_registry w v (inr m) =
    subst (λ (x : World). Over SameRegistry w.ends x.ends) (sym m.after) (over_with SameRegistry same_registry (λ e. record e { down_moved = e.down_moved + m.count }) (λ e s h. h) m.conn w.ends)

pub one_longer : (a b : List End) (n : End) → length b ≡ length a → b ≡ a ++ n ∷ [] → ⊥
one_longer a b n same is = let longer : length b ≡ length (a ++ n ∷ []) = ap length is in let sum = length-append a (n ∷ []) in absurd (omega (arith, same, longer, sum))

-- the registry is the end that took it
pub state_now : (w : World) (d : Done) → Shape d.world → (b : RegistryTakes w d) (j : ℕ) (f : End) (t : RegistryState) → end_at d.world.ends j ≡ Some f → f.role ≡ the_registry t → (registry_takes b.before b.letter.said.message).state ≡ t
state_now w d after b j f t there role =
    let now_end : End = registry_did (registry_takes b.before b.letter.said.message) (taken_down b.e) in
    let now_there : end_at d.world.ends b.conn ≡ Some now_end =
    ap (λ x. end_at x.world.ends b.conn) b.is
    ∙ at_changed (registry_did (registry_takes b.before b.letter.said.message)) (received w b.conn b.e b.letter).ends b.conn (taken_down b.e) (received_at w b.conn b.e b.letter b.is_here.there) in
    let who : f.who ≡ Registry = role_registry f.who t (subst (RoleFits f.who) role (after.roles j f there)) in
    let at : j ≡ b.conn = after.one j b.conn f now_end there now_there (who ∙ sym b.whose) in
    let same : now_end ≡ f = same_some now_end f (sym now_there ∙ ap (end_at d.world.ends) (sym at) ∙ there) in
    same_state (registry_takes b.before b.letter.said.message).state t (ap (λ (y : End). y.role) same ∙ role)

first_telling : (es : List Entry) (d : Done) (quota : ℕ) → d ≡ only (first_world quota) [] → Telling (es ++ d.entries) d.world
first_telling es d quota is = subst (λ y. Telling (es ++ y.entries) y.world) (sym is) (λ live j f t at_f role_f k r e h there who role on. absurd (no_reader_first quota k e h there role))

-- OVER WHAT IS KEPT of a reader's start
module _ (F : List Entry → World → Type 0) (starts : (es : List Entry) (w : World) → F es w → StartsReturn es w) (f_keep : Keeps (Shaped F)) where
  abbrev pub Under_telling : List Entry → World → Type 0
  Under_telling es w = And F (And (And Under_entered AllEntered) (And (And Under_answering Answering) (And Nothing AllOrdered))) es w

  pub under_telling_keep : Keeps (Shaped Under_telling)
  under_telling_keep =
      both_keep F (And (And Under_entered AllEntered) (And (And Under_answering Answering) (And Nothing AllOrdered))) f_keep
      (both_keep (And Under_entered AllEntered) (And (And Under_answering Answering) (And Nothing AllOrdered)) entered_keep (both_keep (And Under_answering Answering) (And Nothing AllOrdered) answering_keeps ordered_keep))

  fated_of : (es : List Entry) (w : World) → Under_telling es w → Fated es w
  fated_of es w u = u.1.0.0.0.0.0.0.0.1

  spelled_of : (es : List Entry) (w : World) → Under_telling es w → Spelled es w
  spelled_of es w u = u.1.0.0.0.1.1.0.1.1.1

  named_of : (es : List Entry) (w : World) → Under_telling es w → Named es w
  named_of es w u = u.1.1.0.0.0.0.1.1.1

  few_of : (es : List Entry) (w : World) → Under_telling es w → length (greeted es) ≤ 1000
  few_of es w u = few_greeted es w (named_of es w u) u.1.1.0.0.0.0.0.1

  mail_of : (es : List Entry) (w : World) → Under_telling es w → Mail es w
  mail_of es w u = u.1.1.0.0.0.1.0

  numbers_of : (es : List Entry) (w : World) → Under_telling es w → Numbered es w
  numbers_of es w u = u.1.1.0.0.0.0.1.0.0.0.0.1

  module _ (es : List Entry) (w : World) (d : Done) (s : Shape w) (u : Under_telling es w) (after : Shape d.world) (few_later : length (greeted (es ++ d.entries)) ≤ 1000) (i : Telling es w) where
    abbrev later : List Entry
    later = es ++ d.entries

    answers : AllByRecursion (Answers es) (messages es Registry)
    answers = u.1.1.0.1

    -- no word of the registry's
    quiet_told : Over SameRegistry w.ends d.world.ends → Over AskedBack w.ends d.world.ends → AllByRecursion NotRegistry d.entries → Telling later d.world
    quiet_told o p n live j f t at_f role_f k r e h there who role on =
        let x = o.back j f at_f in
        let y = p.back k e there in
        let g = y.2.calls h role in
        all_told_map es later r g.0.asked h.asked t.children (same_messages es d.entries n) (was_returns es d.entries r g.0.asked h.asked (messages es Registry) few_later answers (λ first m was. g.3 m))
        (i (lived es d.entries live) j x.0 t x.1 (x.2 t role_f) k r y.0 g.0 y.1 (sym y.2.whose ∙ who) g.1 (y.2.on on))

    -- an end joins
    joined_told : (nu mu : End) → d.world.ends ≡ w.ends ++ nu ∷ [] → is_registry_role nu.role ≡ false → d.world.ends ≡ w.ends ++ mu ∷ [] → ((h : Hearer) → mu.role ≡ a_reader h → Ordered h.asked × ((n : ℕ) → IsWell h.asked n → ⊥)) → AllByRecursion NotRegistry d.entries
        → Telling later d.world
    joined_told nu mu is none_ are new n live j f t at_f role_f k r e h there who role on = registry_at (joined_cases w.ends nu j f (ap (λ l. end_at l j) (sym is) ∙ at_f))
      where
        reader_at : end_at w.ends j ≡ Some f → (end_at w.ends k ≡ Some e) ⊎ ((k ≡ length w.ends) × (e ≡ mu)) → AllToldOf later r h.asked t.children
        reader_at g (inl x) =
            all_told_map es later r h.asked h.asked t.children (same_messages es d.entries n) (was_returns es d.entries r h.asked h.asked (messages es Registry) few_later answers (λ first m was y. y))
            (i (lived es d.entries live) j f t g role_f k r e h x who role on)
        reader_at g (inr x) = nothing_told later r h.asked t.children (new h (ap (λ (z : End). z.role) (sym x.1) ∙ role)).1

        registry_at : (end_at w.ends j ≡ Some f) ⊎ ((j ≡ length w.ends) × (f ≡ nu)) → AllToldOf later r h.asked t.children
        registry_at (inl g) = reader_at g (joined_cases w.ends mu k e (ap (λ l. end_at l k) (sym are) ∙ there))
        registry_at (inr g) = absurd (false_true (sym none_ ∙ ap is_registry_role (ap (λ (x : End). x.role) (sym g.1) ∙ role_f)))

    -- the registry takes a message
    took_told : RegistryTakes w d → Over AskedBack w.ends d.world.ends → Telling later d.world
    took_told b p live j f t at_f role_f k r e h there who role on =
        subst (AllToldOf later r h.asked) (ap (λ (x : RegistryState). x.children) state)
        (subst (λ ms. AllByRecursion (λ (c : List ℕ × List ℕ). ToldSince c.0 (IsReturn later r h.asked) ms) (registry_takes b.before b.letter.said.message).state.children) (sym (messages_more es d.entries Registry ∙ ap (λ l. messages es Registry ++ l) (registry_wrote w d b)))
        (step_told es w r g.0 h b.before told.own b.e.who b.letter its_mail (few_of es w u) fates (spelled_of es w u) later few_later (λ q name. name_more es d.entries q name) g.3 (messages es Registry) was (news (messages es Registry) was)
        (i before_live b.conn b.e b.before b.is_here.there b.role k r y.0 g.0 y.1 y_who g.1 (y.2.on on))))
      where
        before_live : Lives es
        before_live = lived es d.entries live

        y : (x : End) × (end_at w.ends k ≡ Some x) × AskedBack x e
        y = p.back k e there

        y_who : y.0.who ≡ Reader r
        y_who = sym y.2.whose ∙ who

        g : (x : Hearer) × (y.0.role ≡ a_reader x) × (Ordered x.asked → Ordered h.asked) × ((n : ℕ) → IsWell h.asked n → IsWell x.asked n)
        g = y.2.calls h role

        told : HasTold es b.before
        told = u.1.1.0.0.1.registry b.conn b.e b.before b.is_here.there b.role

        its_mail : IsMail es b.e.who b.letter
        its_mail = (subst (AllByRecursion (IsMail es b.e.who)) b.link ((mail_of es w u).downs b.conn b.e b.is_here.there b.is_here.standing)).0

        fates : AllByRecursion (FateIs es r) g.0.asked
        fates = fated_of es w u before_live k r y.0 g.0 y.1 y_who g.1

        was : AllByRecursion (λ m. IsReturn later r h.asked m → IsReturn es r g.0.asked m) (messages es Registry)
        was = was_returns es d.entries r g.0.asked h.asked (messages es Registry) few_later answers (λ first m found. g.3 m)

        -- its name, and so its patterns
        one_news : (m : Envelope) → IsReturn es r g.0.asked m → is_asked_for b.before.pairs (codes "add") ≡ true
        one_news m x =
            asks_for_news es b.before x.caller g.0.asked x.serial told.pairs (u.1.0.1 before_live k r y.0 g.0 x.caller y.1 y_who g.1 (y.2.on on) (unique_is x.name)) x.well (u.1.1.1.1 k y.0 g.0 y.1 g.1)
            (starts es w u.0 before_live k r y.0 g.0 y.1 y_who g.1 (y.2.on on) (begins_well g.0.asked x.serial x.well))
          where
            unique_is : NameIs es (Reader r) x.caller → y.0.unique ≡ Some x.caller
            unique_is (inl q) = absurd (false_true (ap (λ z. same_party z Registry) q.0))
            unique_is (inr q) = ((named_of es w u).ends k y.0 y.1).known (λ z. false_true (ap (λ v. same_party v Registry) (sym y_who ∙ z))) ∙ ap (name_told es) y_who ∙ q

        news : (ms : List Envelope) → AllByRecursion (λ m. IsReturn later r h.asked m → IsReturn es r g.0.asked m) ms → AllByRecursion (λ m. IsReturn later r h.asked m → is_asked_for b.before.pairs (codes "add") ≡ true) ms
        news ms a = all_map (λ m. IsReturn later r h.asked m → IsReturn es r g.0.asked m) (λ m. IsReturn later r h.asked m → is_asked_for b.before.pairs (codes "add") ≡ true) ms (λ m q x. one_news m (q x)) a

        -- the registry is the end that took it
        state : (registry_takes b.before b.letter.said.message).state ≡ t
        state = state_now w d after b j f t at_f role_f

  telling_kept : (es : List Entry) (w : World) (d : Done) → Shape w → Under_telling es w → Shape d.world → length (greeted (es ++ d.entries)) ≤ 1000 → Telling es w → Registers w d → Reading w d → AllByRecursion NotRegistry d.entries ⊎ RegistryTakes w d → Telling (es ++ d.entries) d.world
  telling_kept es w d s u after few i (first_ quota is) y n = first_telling es d quota is
  telling_kept es w d s u after few i (takes_ b) (begins_ quota is) n = first_telling es d quota is
  telling_kept es w d s u after few i (same_ o) (begins_ quota is) n = first_telling es d quota is
  telling_kept es w d s u after few i (joined_ nu are none) (begins_ quota is) n = first_telling es d quota is
  telling_kept es w d s u after few i (takes_ b) (reads_on p) n = took_told es w d s u after few i b p
  telling_kept es w d s u after few i (takes_ b) (joins mu are new) n = absurd (one_longer w.ends d.world.ends mu (registry_over w d b).size are)
  telling_kept es w d s u after few i (same_ o) (reads_on p) (inl n) = quiet_told es w d s u after few i o p n
  telling_kept es w d s u after few i (same_ o) (reads_on p) (inr b) = took_told es w d s u after few i b p
  telling_kept es w d s u after few i (same_ o) (joins mu are new) n = absurd (one_longer w.ends d.world.ends mu o.size are)
  telling_kept es w d s u after few i (joined_ nu is none) (reads_on p) n = absurd (one_longer w.ends d.world.ends nu p.size is)
  telling_kept es w d s u after few i (joined_ nu is none) (joins mu are new) (inl n) = joined_told es w d s u after few i nu mu is none are new n
  telling_kept es w d s u after few i (joined_ nu is none) (joins mu are new) (inr b) = absurd (one_longer w.ends d.world.ends mu (registry_over w d b).size are)

  -- bytes that complete no message, and an own call
  moved_telling : (es : List Entry) (w v : World) → Under_telling es w → Over SameRegistry w.ends v.ends → Over AskedBack w.ends v.ends → Telling es w → Telling es v
  moved_telling es w v u o p i live j f t at_f role_f k r e h there who role on =
      let x = o.back j f at_f in
      let y = p.back k e there in
      let g = y.2.calls h role in
      all_told_map es es r g.0.asked h.asked t.children refl (plainly r g.0.asked h.asked g.3 (messages es Registry)) (i live j x.0 t x.1 (x.2 t role_f) k r y.0 g.0 y.1 (sym y.2.whose ∙ who) g.1 (y.2.on on))
    where
      plainly : (r : ℕ) (g h : List Asked) → ((n : ℕ) → IsWell h n → IsWell g n) → (ms : List Envelope) → AllByRecursion (λ m. IsReturn es r h m → IsReturn es r g m) ms
      plainly r g h back [] = tt
      plainly r g h back (m ∷ ms) = ((λ x. record { kind = x.kind; caller = x.caller; to = x.to; name = x.name; serial = x.serial; reply = x.reply; well = back x.serial x.well }), plainly r g h back ms)

  asked_telling : (es : List Entry) (w : World) (conn r : ℕ) (m : Envelope) (question : Question) → Shape w → Under_telling es w → Telling es w → Asks w conn r m question → Telling (es ++ sent (Reader r) m ∷ []) (at_end w conn (asks_at m question))
  asked_telling es w conn r m question s u i a live j f t at_f role_f k q e h there who role on = by (asked_cases w conn r m question a k e there)
    where
      ys : List Entry
      ys = sent (Reader r) m ∷ []

      few : length (greeted (es ++ ys)) ≤ 1000
      few = subst (λ l. length l ≤ 1000) (sym (greeted_more es ys ∙ append-nil (greeted es))) (few_of es w u)

      before_live : Lives es
      before_live = lived es ys live

      registry_at : (x : End) × (end_at w.ends j ≡ Some x) × SameRegistry x f
      registry_at = (over_with SameRegistry same_registry (asks_at m question) (λ x. asks_same m question x) conn w.ends).back j f at_f

      answers : AllByRecursion (Answers es) (messages es Registry)
      answers = u.1.1.0.1

      told_by : (g : Hearer) (y : End) → end_at w.ends k ≡ Some y → y.who ≡ Reader q → y.role ≡ a_reader g → y.standing ≡ here → ((first : Envelope) (n : ℕ) → message es (Reader q) n ≡ Some first → IsWell h.asked n → IsWell g.asked n) → AllToldOf (es ++ ys) q h.asked t.children
      told_by g y at_y who_y role_y on_y back =
          all_told_map es (es ++ ys) q g.asked h.asked t.children (same_messages es ys (refl, tt)) (was_returns es ys q g.asked h.asked (messages es Registry) few answers back)
          (i before_live j registry_at.0 t registry_at.1 (registry_at.2 t role_f) k q y g at_y who_y role_y on_y)

      by : (end_at w.ends k ≡ Some e) ⊎ (e ≡ reader_sends (asks question a.hearer) m a.asker) → AllToldOf (es ++ ys) q h.asked t.children
      by (inl g) = told_by h e g who role on (λ first n was x. x)
      by (inr same) = told_by a.hearer a.asker asker_at its_who a.reader a.is_here.standing back
        where
          its_who : a.asker.who ≡ Reader q
          its_who = ap (λ (x : End). x.who) (sym same) ∙ who

          is : asks question a.hearer ≡ h
          is = same_hearer (asks question a.hearer) h (ap (λ (x : End). x.role) (sym same) ∙ role)

          asker_at : end_at w.ends k ≡ Some a.asker
          asker_at = by_one ((over_with AskedBack_who who_order (asks_at m question) (λ x. asks_who m question x) conn w.ends).back k e there)
            where
              by_one : ((x : End) × (end_at w.ends k ≡ Some x) × (e.who ≡ x.who)) → end_at w.ends k ≡ Some a.asker
              by_one x =
                  let at : k ≡ conn = s.one k conn x.0 a.asker x.1 a.is_here.there (sym x.2 ∙ who ∙ sym its_who) in
                  ap (end_at w.ends) at ∙ a.is_here.there

          back : (first : Envelope) (n : ℕ) → message es (Reader q) n ≡ Some first → IsWell h.asked n → IsWell a.hearer.asked n
          back first n was x = pick (well_more a.hearer.asked (record { serial = a.hearer.next; question = question; fate = waits }) n (subst (λ (g : Hearer). IsWell g.asked n) (sym is) x))
            where
              not_yet : a.hearer.next ≡ n → ⊥
              not_yet same_number =
                  no_none first
                  (sym (not_sent_at es w conn a.asker (Reader q) a.hearer.next s (numbers_of es w u) a.is_here.there its_who (ap next_of a.reader) n (at_most a.hearer.next n same_number)) ∙ was)
                where
                  at_most : (x y : ℕ) → x ≡ y → x ≤ y
                  at_most x y z = omega (arith, z)

              pick : IsWell a.hearer.asked n ⊎ (a.hearer.next ≡ n) → IsWell a.hearer.asked n
              pick (inl y) = y
              pick (inr y) = absurd (not_yet y)

  telling_grow : Grows Under_telling Telling
  telling_grow = record {
    begins = λ live j f t at_f role_f k r e h there who role on. absurd (no_reader_first QUOTA_MOST k e h there role);
    caused = λ es w d s u i e after v. telling_kept es w d s u after (few_of (es ++ d.entries) d.world v) i (registers w d e) (reading w d e) (registry_or w d e);
    moved = λ es w v s u i m. moved_telling es w v u (moved_registry w v m) (moved_back w v m) i;
    asked = λ es w conn r m question s u i a. asked_telling es w conn r m question s u i a;
  }

  pub telling_keep : Keeps (Shaped (And Under_telling Telling))
  telling_keep = grown Under_telling Telling under_telling_keep telling_grow
