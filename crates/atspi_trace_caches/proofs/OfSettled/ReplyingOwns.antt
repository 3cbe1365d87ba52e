-- Who owns a name has a unique name of its own, and who left has none: of each front of a lawful trace.
use Rattle.std.proofs.Common.{◌≡◌, ◌⊎◌, inl, inr, ℕ, zero, suc, ◌+◌, ◌<◌, ◌≤◌, ◌^◌, Bool, true, false, List, [], ◌∷◌, ◌++◌, length, None, Some, refl, sym, ap, ◌∙◌, subst, arith, is_some, cond}
use Rattle.std.specs.Prelude.{codes, decimal, unwrap_or}
use Rattle.std.specs.List.{AllByRecursion}
use Rattle.std.specs.FinMap.{get-from_sorted, nat_cmp-IsAntisymmetric}
use Rattle.std.specs.Ordering.{nat_cmp, eq_by_cmp}
use Rattle.std.specs.Cmp.Lexicographic.{slice_cmp}
use Rattle.std.proofs.lemmas.Fmt.{decimal_is_IsNumeral}
use Rattle.std.specs.Str.Parse.{digits_value}
use Rattle.atspi_base.specs.valid_names.Names.{is_unique_name}
use Rattle.atspi_script_lines.specs.declared.limits.TheConstants.{QUOTA_MOST}
use Rattle.atspi_message.specs.Envelope.{Envelope}
use Rattle.atspi_names.specs.Owners.{list_of, unique_name, NoneTooEarly}
use Rattle.atspi_names.proofs.ListsLemmas.{names_apart}
use Rattle.atspi_protocol.specs.ends.Places.{registry}
use Rattle.atspi_protocol.specs.declared.following.question.Question.{Question}
use Rattle.atspi_match.specs.routing.BusState.{unique_of}
use Rattle.atspi_trace.specs.Entry.{Entry}
use Rattle.atspi_trace.specs.World.{Standing, here, stopped, away, Role, a_reader, first_unique, first_lists, first_owners, first_registry, first_world, End, World}
use Rattle.atspi_trace.specs.Ends.{is_here, end_at, with_end, taken_down, stops}
use Rattle.atspi_trace.specs.Hearing.{hears_letter}
use Rattle.atspi_trace.specs.Carrying.{takes, takes_end}
use Rattle.atspi_trace.specs.Causes.{Done, at_end, has_done, reader_sends, registry_did}
use Rattle.atspi_trace.specs.Due.{asks_as, asks_at}
use Rattle.atspi_protocol.specs.following.Calls.{user_call}
use Rattle.atspi_protocol.specs.exporting.Taking.{app_takes}
use Rattle.atspi_protocol.specs.registering.Steps.{registry_takes}
use Rattle.atspi_trace_laws.proofs.OfOrder.Parties.{no_none, same_some, false_true}
use Rattle.atspi_trace_laws.proofs.OfOrder.Allowed.{MovedUp, MovedDown, Asks}
use Rattle.atspi_trace_laws.proofs.OfOrder.Along.{Keeps}
use Rattle.atspi_trace_laws.proofs.OfOrder.Frame.{Over, IsOrder, over_same, over_both, over_with, joined_cases}
use Rattle.atspi_trace_laws.proofs.OfOrder.Growing.{Grows, Shaped, And, grown}
use Rattle.atspi_trace_laws.proofs.OfOrder.Effects.{received, Effect, resets, app_joins, reader_joins, app_edited, app_took, reader_called, swapped, exited_, showed_, told_busy, told_quiet, bus_took, bus_ended, registry_took, reader_took}
use Rattle.atspi_trace_laws.proofs.OfOrder.Shaped.{new_app, new_reader, app_joined}
use Rattle.atspi_trace_laws.proofs.OfQuiet.Hello.{equal_of_tie}
use Rattle.atspi_trace_laws.proofs.OfNames.LawNames.{Named}
use Rattle.atspi_trace_laws.proofs.OfNames.LawEnds.{few_greeted}
use Rattle.atspi_trace_laws.proofs.OfNames.Places.{greeted}
use Rattle.atspi_trace_caches.proofs.OfServed.Returned.{Rightly, Under_rightly, rightly_keeps}
use Rattle.atspi_trace_caches.proofs.OfSettled.Replying.{carried}
use Rattle.atspi_trace_caches.proofs.OfSettled.ReplyingOwners.{IsOwner, Owned}
use Rattle.atspi_trace_caches.proofs.OfSettled.ReplyingNamed.{HasName, ListsNamed, Owns, takes_owns, ends_owns}

abbrev pub OwnsWell : List Entry → World → Type 0
OwnsWell es w = Owns (carried w)

-- the names of the bus are few enough to be numbers
pub small_given : (es : List Entry) (w : World) → Named es w → length (greeted es) ≤ 1000 → w.bus.state.owners.given < 2 ^ 32
small_given es w n few = let count : w.bus.state.owners.given ≡ suc (length (greeted es)) = n.count in omega (arith, count, few)

-- AT THE BEGINNING the registry alone has names
first_list : (name : List ℕ) → list_of first_owners.lists name ≡ unwrap_or (cond (eq_by_cmp (slice_cmp nat_cmp) name (codes ":1.0")) (Some ((0, 0) ∷ [])) (cond (eq_by_cmp (slice_cmp nat_cmp) name registry) (Some ((0, 4) ∷ [])) None)) []
first_list name = ap (λ o. unwrap_or o []) (get-from_sorted (slice_cmp nat_cmp) first_lists name tt)

first_alone : list_of first_owners.lists (codes ":1.0") ≡ (0, 0) ∷ []
first_alone = first_list (codes ":1.0")

first_names : (k : ℕ) (name : List ℕ) → unique_of first_owners k ≡ Some name → IsOwner first_owners k name
first_names zero name h =
    let same : codes ":1.0" ≡ name = same_some (codes ":1.0") name (sym (get-from_sorted nat_cmp first_unique 0 tt) ∙ h) in
    record { flags = 0; alone = ap (list_of first_owners.lists) (sym same) ∙ first_alone; unique = ap is_unique_name (sym same) }
first_names (suc k) name h = absurd (none (eq_by_cmp nat_cmp (suc k) 0) refl (sym (get-from_sorted nat_cmp first_unique (suc k) tt) ∙ h))
  where
    none : (b : Bool) → eq_by_cmp nat_cmp (suc k) 0 ≡ b → cond b (Some (codes ":1.0")) None ≡ Some name → ⊥
    none true g q = let zero_ : suc k ≡ 0 = nat_cmp-IsAntisymmetric (suc k) 0 (equal_of_tie _ g) in absurd (omega (arith, zero_))
    none false g q = no_none name q

abbrev digits_behind : List ℕ → List ℕ
digits_behind (a ∷ (b ∷ (c ∷ ds))) = ds
digits_behind ds = ds

first_early : NoneTooEarly 1 first_owners.lists
first_early n from below = first_list (unique_name n) ∙ by (eq_by_cmp (slice_cmp nat_cmp) (unique_name n) (codes ":1.0")) refl (eq_by_cmp (slice_cmp nat_cmp) (unique_name n) registry) refl
  where
    listed : Bool → Bool → List (ℕ × ℕ)
    listed a b = unwrap_or (cond a (Some ((0, 0) ∷ [])) (cond b (Some ((0, 4) ∷ [])) None)) []

    by : (a : Bool) → eq_by_cmp (slice_cmp nat_cmp) (unique_name n) (codes ":1.0") ≡ a → (b : Bool) → eq_by_cmp (slice_cmp nat_cmp) (unique_name n) registry ≡ b
        → listed a b ≡ []
    by true g b h =
        let digits : decimal n ≡ 48 ∷ [] = ap digits_behind (names_apart (unique_name n) (codes ":1.0") (equal_of_tie _ g)) in
        let value : digits_value 10 (decimal n) ≡ n = (decimal_is_IsNumeral n (omega (arith, below))).1 in
        let zero_ : 0 ≡ n = ap (digits_value 10) (sym digits) ∙ value in
        absurd (omega (arith, zero_, from))
    by false g true h = absurd (false_true (ap is_unique_name (sym (names_apart (unique_name n) registry (equal_of_tie _ h)))))
    by false g false h = refl

has_first : HasName first_owners 0
has_first = ap is_some (get-from_sorted nat_cmp first_unique 0 tt)

first_lists_named : ListsNamed first_owners
first_lists_named q = subst (AllByRecursion (λ (p : ℕ × ℕ). HasName first_owners p.0)) (sym (first_list q)) (by _ _)
  where
    by : (a b : Bool) → AllByRecursion (λ (p : ℕ × ℕ). HasName first_owners p.0) (unwrap_or (cond a (Some ((0, 0) ∷ [])) (cond b (Some ((0, 4) ∷ [])) None)) [])
    by true b = (has_first, tt)
    by false true = (has_first, tt)
    by false false = tt

here_away : (s : Standing) → s ≡ here → s ≡ away → ⊥
here_away s h g = false_true (sym (ap is_here g) ∙ ap is_here h)

first_owns : (quota : ℕ) → Owns (carried (first_world quota))
first_owns quota = record { owned = record { lists = first_names; early = first_early }; lists = first_lists_named; none = λ k e h gone. absurd (by k e h gone) }
  where
    by : (k : ℕ) (e : End) → end_at (first_registry ∷ []) k ≡ Some e → e.standing ≡ away → ⊥
    by zero e h gone = here_away e.standing (ap (λ (x : End). x.standing) (sym (same_some first_registry e h))) gone
    by (suc k) e h gone = no_none e h

-- WHO IS AWAY was away, where the bus takes nothing
abbrev StaysAway : End → End → Type 0
StaysAway e d = d.standing ≡ away → e.standing ≡ away

staying_away : IsOrder StaysAway
staying_away = record { same = λ e h. h; both = λ e d c f g h. f (g h) }

still_owns : (w v : World) → Owns (carried w) → Over StaysAway w.ends v.ends → v.bus.state.owners ≡ w.bus.state.owners → Owns (carried v)
still_owns w v o over is = record {
  owned = subst Owned (sym is) o.owned;
  lists = subst ListsNamed (sym is) o.lists;
  none = λ k d there gone. let x = over.back k d there in ap (λ y. unique_of y k) is ∙ o.none k x.0 x.1 (x.2 gone);
}

by_same : (w v : World) → Owns (carried w) → v.bus.state.owners ≡ w.bus.state.owners → v.ends ≡ w.ends → Owns (carried v)
by_same w v o owners is = still_owns w v o (subst (Over StaysAway w.ends) (sym is) (over_same StaysAway staying_away w.ends)) owners

by_end : (w v : World) → Owns (carried w) → v.bus.state.owners ≡ w.bus.state.owners → (f : End → End) (conn : ℕ) → ((e : End) → StaysAway e (f e)) → v.ends ≡ with_end conn f w.ends → Owns (carried v)
by_end w v o owners f conn g is = still_owns w v o (subst (Over StaysAway w.ends) (sym is) (over_with StaysAway staying_away f g conn w.ends)) owners

by_both : (w v : World) → Owns (carried w) → v.bus.state.owners ≡ w.bus.state.owners → (f : End → End) (conn : ℕ) → ((e : End) → StaysAway e (f e)) → v.ends ≡ with_end conn f (with_end conn taken_down w.ends) → Owns (carried v)
by_both w v o owners f conn g is =
    still_owns w v o
    (subst (Over StaysAway w.ends) (sym is)
    (over_both StaysAway staying_away w.ends (with_end conn taken_down w.ends) (with_end conn f (with_end conn taken_down w.ends)) (over_with StaysAway staying_away taken_down (λ e h. h) conn w.ends)
    (over_with StaysAway staying_away f g conn (with_end conn taken_down w.ends))))
    owners

by_join : (w v : World) (n : End) → Owns (carried w) → v.bus.state.owners ≡ w.bus.state.owners → v.ends ≡ w.ends ++ n ∷ [] → n.standing ≡ here → Owns (carried v)
by_join w v n o owners is on = record {
  owned = subst Owned (sym owners) o.owned;
  lists = subst ListsNamed (sym owners) o.lists;
  none = λ k d there gone. ap (λ y. unique_of y k) owners ∙ by k d gone (joined_cases w.ends n k d (ap (λ l. end_at l k) (sym is) ∙ there));
}
  where
    by : (k : ℕ) (d : End) → d.standing ≡ away → ((end_at w.ends k ≡ Some d) ⊎ ((k ≡ length w.ends) × (d ≡ n))) → unique_of w.bus.state.owners k ≡ None
    by k d gone (inl h) = o.none k d h gone
    by k d gone (inr h) = absurd (here_away d.standing (ap (λ (x : End). x.standing) h.1 ∙ on) gone)

stopped_away : (e : End) → StaysAway e (stops e)
stopped_away e h = absurd (no h)
  where
    no : stopped ≡ away → ⊥
    no z = cc

-- EACH CAUSE
caused : (es : List Entry) (w : World) (d : Done) → Named es w → length (greeted es) ≤ 1000 → Owns (carried w) → Effect w d → Owns (carried d.world)
caused es w d n few o (resets quota old is) = subst (λ x. Owns (carried x.world)) (sym is) (first_owns quota)
caused es w d n few o (app_joins name short is) = by_join w d.world (new_app w name) o (ap (λ x. x.world.bus.state.owners) is) (ap (λ x. x.world.ends) is ∙ app_joined w name) refl
caused es w d n few o (reader_joins old is) = by_join w d.world (new_reader w) o (ap (λ x. x.world.bus.state.owners) is) (ap (λ x. x.world.ends) is) refl
caused es w d n few o (app_edited b) = by_end w d.world o (ap (λ x. x.world.bus.state.owners) b.is) (has_done b.before b.after) b.conn (λ e h. h) (ap (λ x. x.world.ends) b.is)
caused es w d n few o (app_took b) = by_both w d.world o (ap (λ x. x.world.bus.state.owners) b.is) (has_done b.before (app_takes b.before b.letter.said.message)) b.conn (λ e h. h) (ap (λ x. x.world.ends) b.is)
caused es w d n few o (reader_called b) =
    by_end w d.world o (ap (λ x. x.world.bus.state.owners) b.is) (reader_sends (record b.hearer { next = suc b.hearer.next }) (user_call b.hearer.next b.name b.node b.deed)) b.conn (λ e h. h) (ap (λ x. x.world.ends) b.is)
caused es w d n few o (swapped b) = by_same w d.world o (ap (λ x. x.world.bus.state.owners) b.is) (ap (λ x. x.world.ends) b.is)
caused es w d n few o (exited_ b) = by_end w d.world o (ap (λ x. x.world.bus.state.owners) b.is) stops b.conn stopped_away (ap (λ x. x.world.ends) b.is)
caused es w d n few o (showed_ b) = by_same w d.world o (ap (λ x. x.world.bus.state.owners) b.is) (ap (λ x. x.world.ends) b.is)
caused es w d n few o (told_busy turns is) = by_same w d.world o (ap (λ x. x.world.bus.state.owners) is) (ap (λ x. x.world.ends) is)
caused es w d n few o (told_quiet none is) = by_same w d.world o (ap (λ x. x.world.bus.state.owners) is) (ap (λ x. x.world.ends) is)
caused es w d n few o (bus_took b) =
    let x : Owns (takes (carried w) b.conn b.e.who b.said) = takes_owns (carried w) b.conn b.e.who b.said b.e b.is_here.there b.is_here.standing (small_given es w n few) o in
    subst (λ y. Owns (carried y.world)) (sym b.is) (record { owned = x.owned; lists = x.lists; none = x.none })
caused es w d n few o (bus_ended b) =
    let x : Owns (takes_end (carried w) b.conn) = ends_owns (carried w) b.conn o in
    subst (λ y. Owns (carried y.world)) (sym b.is) (record { owned = x.owned; lists = x.lists; none = x.none })
caused es w d n few o (registry_took b) = by_both w d.world o (ap (λ x. x.world.bus.state.owners) b.is) (registry_did (registry_takes b.before b.letter.said.message)) b.conn (λ e h. h) (ap (λ x. x.world.ends) b.is)
caused es w d n few o (reader_took b) =
    by_both w d.world o (ap (λ x. x.world.bus.state.owners) b.is) (λ x. record x { role = a_reader (hears_letter b.hearer (received w b.conn b.e b.letter).ends b.letter) }) b.conn (λ e h. h) (ap (λ x. x.world.ends) b.is)

asks_away : (conn r : ℕ) (w : World) (m : Envelope) (question : Question) → Asks w conn r m question → (e : End) → StaysAway e (asks_at m question e)
asks_away conn r w m question a e = by e.role
  where
    by : (role : Role) → StaysAway e (asks_as role m question e)
    by (a_reader h) g = g
    by role g = g

abbrev pub Under_owns : List Entry → World → Type 0
Under_owns es w = And Under_rightly Rightly es w

owns_grow : Grows Under_owns OwnsWell
owns_grow = record {
  begins = first_owns QUOTA_MOST;
  caused = λ es w d s u o e after v.
      let n : Named es w = u.0.0.1.1.1 in
      caused es w d n (few_greeted es w n u.0.0.0.1) o e;
  moved = λ es w v s u o m. by w v o m;
  asked = λ es w conn r m question s u o a. by_end w (at_end w conn (asks_at m question)) o refl (asks_at m question) conn (asks_away conn r w m question a) refl;
}
  where
    by : (w v : World) → Owns (carried w) → (MovedUp w v ⊎ MovedDown w v) → Owns (carried v)
    by w v o (inl m) = by_end w v o (ap (λ (x : World). x.bus.state.owners) m.after) (λ e. record e { up_moved = e.up_moved + m.count }) m.conn (λ e h. h) (ap (λ (x : World). x.ends) m.after)
    by w v o (inr m) = by_end w v o (ap (λ (x : World). x.bus.state.owners) m.after) (λ e. record e { down_moved = e.down_moved + m.count }) m.conn (λ e h. h) (ap (λ (x : World). x.ends) m.after)

pub owns_keep : Keeps (Shaped (And Under_owns OwnsWell))
owns_keep = grown Under_owns OwnsWell rightly_keeps owns_grow
