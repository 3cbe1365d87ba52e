-- Each end has the unique name that the trace tells of its party, along a lawful trace.
use Rattle.std.proofs.Common.{◌≡◌, ◌⊎◌, inl, inr, ℕ, zero, suc, ◌+◌, ◌≤◌, ◌<◌, Bool, true, false, List, [], ◌∷◌, ◌++◌, length, Option, None, Some, refl, sym, ap, ◌∙◌, subst, arith, cond, is_some}
use Rattle.std.specs.Prelude.{◌==◌, codes, nat_lt, option_map, if◌then◌else◌}
use Rattle.std.specs.List.{AllByRecursion, list_any, cons_option}
use Rattle.std.specs.FinMap as finmap
use Rattle.std.specs.FinMap.{get-from_sorted, nat_cmp-IsAntisymmetric}
use Rattle.std.specs.Ordering.{nat_cmp, eq_by_cmp}
use Rattle.std.proofs.lemmas.Bool.{eqb-true, eq-eqb, ltb-false}
use Rattle.std.proofs.lemmas.List.{append-nil}
use Rattle.atspi_tree_model.specs.Forest.{first_of}
use Rattle.atspi_script_lines.specs.declared.limits.TheConstants.{QUOTA_MOST}
use Rattle.atspi_script_lines.specs.declared.line.Party.{Party}
use Rattle.atspi_script_lines.specs.declared.line.Party.TheVariants.{Bus as The_bus, Registry, App, Reader}
use Rattle.atspi_message.specs.Envelope.{Envelope}
use Rattle.atspi_names.specs.Owners.{Owners, unique_name}
use Rattle.atspi_match.specs.routing.BusState.{unique_of}
use Rattle.atspi_match.specs.routing.Steps.{BusStep, is_hello, greets, bus_takes}
use Rattle.atspi_protocol.specs.exporting.Taking.{app_takes}
use Rattle.atspi_protocol.specs.registering.Steps.{registry_takes}
use Rattle.atspi_protocol.specs.following.Calls.{user_call}
use Rattle.atspi_protocol.specs.declared.following.question.Question.{Question}
use Rattle.atspi_protocol.specs.exporting.Exporter.{Exporter}
use Rattle.atspi_trace.specs.Entry.{Entry, sent, got}
use Rattle.atspi_trace.specs.Rules.{rule_in}
use Rattle.atspi_trace.specs.World.{here, a_reader, an_application, the_registry, Role, Hearer, Said, Letter, first_unique, first_registry, first_world, End, World}
use Rattle.atspi_trace.specs.Ends.{is_here, same_party, number_of, end_at, with_end, put_down, taken_up, taken_down, stops, leaves, app_count, reader_count}
use Rattle.atspi_trace.specs.Carrying as carrying
use Rattle.atspi_trace.specs.Carrying.{Carried, own_letter, letter_of, stepped, named, with_name, settled, bus_entries}
use Rattle.atspi_trace.specs.Hearing.{hears_letter, heard_entries}
use Rattle.atspi_trace.specs.Causes.{Done, only, at_end, has_done, reader_sends, asks, registry_did, app_starts, reader_starts}
use Rattle.atspi_trace.specs.Due.{asks_as, asks_at}
use Rattle.atspi_trace_laws.specs.laws.NineLaws.{sent_before, count_got_by_bus}
use Rattle.atspi_trace_laws.proofs.OfOrder.Parties.{no_none, same_some, same-party, party-same, false_true, all_append}
use Rattle.atspi_trace_laws.proofs.OfOrder.Allowed.{MovedUp, MovedDown}
use Rattle.atspi_trace_laws.proofs.OfOrder.Frame.{Over, IsOrder, over_same, over_both, over_with, stepped_over, settled_over, ends_over, with_cases, joined_cases, at_below}
use Rattle.atspi_trace_laws.proofs.OfOrder.Shape.{Lasts, Shape}
use Rattle.atspi_trace_laws.proofs.OfOrder.Effects.{received, BusTakes, BusEnds, Effect, resets, app_joins, reader_joins, app_edited, app_took, reader_called, swapped, exited_, showed_, told_busy, told_quiet, bus_took, bus_ended, registry_took, reader_took}
use Rattle.atspi_trace_laws.proofs.OfOrder.Shaped.{new_app, new_reader, app_joined, bus_takes_over}
use Rattle.atspi_trace_laws.proofs.OfOrder.Along.{Keeps}
use Rattle.atspi_trace_laws.proofs.OfOrder.Growing.{Grows, Shaped, Nothing, And, grown}
use Rattle.atspi_trace_laws.proofs.OfOrder.Gone.{at_front}
use Rattle.atspi_trace_laws.proofs.OfOrder.Acts.{Act, heard_act}
use Rattle.atspi_trace_laws.proofs.OfOrder.Each.{all_map}
use Rattle.atspi_trace_laws.proofs.OfOrder.Closed.{IsTold, takes_closes, ends_closes}
use Rattle.atspi_trace_laws.proofs.OfOrder.Told.{Tells}
use Rattle.atspi_trace_laws.proofs.OfSerials.Numbers.{Numbered, IsFresh, known_not_fresh}
use Rattle.atspi_trace_laws.proofs.OfLinks.LawLinks.{NotTaken, none_taken, count_more, counted, did_free, sent_free, got_free, word_free, bus_free, no_bus, first_unread, Linked}
use Rattle.atspi_trace_laws.proofs.OfLinks.Ups.{Ups}
use Rattle.atspi_trace_laws.proofs.OfLinks.TakenInOrder.{Base, links_keep}
use Rattle.atspi_trace_laws.proofs.OfReaders.Fates.{both_keep}
use Rattle.atspi_trace_laws.proofs.OfQuiet.Hello.{equal_of_tie, is_of, Nobody, takes_hello}
use Rattle.atspi_trace_laws.proofs.OfQuiet.Here.{Greeted, Present, closed_gone, forward, present_keeps}
use Rattle.atspi_trace_laws.proofs.OfNames.Naming.{SameAs, takes_same, hello_here, hello_other, gone_less, KeptNames, settled_names, left_names}
use Rattle.atspi_trace_laws.proofs.OfNames.Places.{first_at, first_last, first_same, greeted, name_told, greeted_more, none_greeted, told_among, count_ends, count_same, count_one, count_joined, count_least}

-- WHAT IS KEPT
abbrev pub has_name : End → Bool
has_name e = is_some e.unique

pub record NamedAt (es : List Entry) (o : Owners) (k : ℕ) (e : End) : Type 0 where
  pub known : (e.who ≡ Registry → ⊥) → e.unique ≡ name_told es e.who
  pub registry : e.who ≡ Registry → is_some e.unique ≡ true
  pub owner : e.standing ≡ here → unique_of o k ≡ e.unique
  pub unsaid : e.unique ≡ None → count_got_by_bus es e.who ≡ 0
  pub said : is_some e.unique ≡ true → (e.who ≡ Registry) ⊎ (1 ≤ count_got_by_bus es e.who)

abbrev pub IsAt : World → Party → Type 0
IsAt w who = (k : ℕ) × (e : End) × (end_at w.ends k ≡ Some e) × (e.who ≡ who)

pub record Named (es : List Entry) (w : World) : Type 0 where
  pub count : w.bus.state.owners.given ≡ suc (length (greeted es))
  pub ends : (k : ℕ) (e : End) → end_at w.ends k ≡ Some e → NamedAt es w.bus.state.owners k e
  pub free : (k : ℕ) → length w.ends ≤ k → unique_of w.bus.state.owners k ≡ None
  pub size : suc (length (greeted es)) ≡ count_ends has_name w.ends
  pub among : AllByRecursion (IsAt w) (greeted es)

-- ends that keep their names
pub record SameName (e d : End) : Type 0 where
  pub whose : d.who ≡ e.who
  pub unique : d.unique ≡ e.unique
  pub on : d.standing ≡ here → e.standing ≡ here

pub same_name : IsOrder SameName
same_name = record {
  same = λ e. record { whose = refl; unique = refl; on = λ h. h };
  both = λ e d c f g. record { whose = g.whose ∙ f.whose; unique = g.unique ∙ f.unique; on = λ h. f.on (g.on h) };
}

pub alike : (e d : End) → d.who ≡ e.who → d.unique ≡ e.unique → d.standing ≡ e.standing → SameName e d
alike e d who unique standing = record { whose = who; unique = unique; on = λ h. sym standing ∙ h }

all_to : {X : Type 0} (P Q : X → Type 0) (xs : List X) → ((x : X) → P x → Q x) → AllByRecursion P xs → AllByRecursion Q xs
all_to P Q [] f a = tt
all_to P Q (x ∷ xs) f a = (f x a.0, all_to P Q xs f a.1)

moved_at : (w v : World) → Over SameName w.ends v.ends → (who : Party) → IsAt w who → IsAt v who
moved_at w v o who a = let x = forward SameName w.ends v.ends a.0 a.1 o a.2 in (a.0, x.0, x.1, x.2.whose ∙ a.3)

more_count : (es ys : List Entry) (who : Party) → 1 ≤ count_got_by_bus es who → 1 ≤ count_got_by_bus (es ++ ys) who
more_count es ys who h = let sum : count_got_by_bus (es ++ ys) who ≡ count_got_by_bus es who + count_got_by_bus ys who = count_more es ys who in omega (arith, sum, h)

same_greeted : (es ys : List Entry) → greeted ys ≡ [] → greeted (es ++ ys) ≡ greeted es
same_greeted es ys h = greeted_more es ys ∙ ap (λ l. greeted es ++ l) h ∙ append-nil (greeted es)

named_with : (es ys : List Entry) (who : Party) → greeted (es ++ ys) ≡ greeted es → name_told (es ++ ys) who ≡ name_told es who
named_with es ys who same = ap (λ l. option_map (λ n. unique_name (suc n)) (first_at (same_party who) l)) same

-- where nobody gets a name
module _ (es ys : List Entry) (w v : World) (i : Named es w) (o : Over SameName w.ends v.ends) (same : greeted (es ++ ys) ≡ greeted es) where
  pub still : v.bus.state.owners.given ≡ w.bus.state.owners.given
      → ((k : ℕ) (d : End) → end_at v.ends k ≡ Some d → d.standing ≡ here → unique_of v.bus.state.owners k ≡ unique_of w.bus.state.owners k)
      → ((k : ℕ) → unique_of w.bus.state.owners k ≡ None → unique_of v.bus.state.owners k ≡ None)
      → ((k : ℕ) (e : End) → end_at w.ends k ≡ Some e → e.unique ≡ None → count_got_by_bus ys e.who ≡ 0)
      → Named (es ++ ys) v
  still given owners less none = record {
    count = given ∙ i.count ∙ ap (λ l. suc (length l)) (sym same);
    ends = λ k d h. at k d h (o.back k d h);
    free = λ k h. less k (i.free k (subst (λ n. n ≤ k) o.size h));
    size = ap (λ l. suc (length l)) same ∙ i.size ∙ sym (count_same has_name w.ends v.ends o.size (λ k d h. let x = o.back k d h in (x.0, x.1, ap is_some x.2.unique)));
    among = subst (AllByRecursion (IsAt v)) (sym same) (all_to (IsAt w) (IsAt v) (greeted es) (moved_at w v o) i.among);
  }
    where
      zero_sum : (a b c : ℕ) → c ≡ a + b → a ≡ 0 → b ≡ 0 → c ≡ 0
      zero_sum a b c s h g = omega (arith, s, h, g)

      at : (k : ℕ) (d : End) → end_at v.ends k ≡ Some d → ((e : End) × (end_at w.ends k ≡ Some e) × SameName e d) → NamedAt (es ++ ys) v.bus.state.owners k d
      at k d there x =
          let old = i.ends k x.0 x.1 in
          record {
            known = λ differ. x.2.unique ∙ old.known (λ h. differ (x.2.whose ∙ h)) ∙ sym (named_with es ys x.0.who same) ∙ ap (name_told (es ++ ys)) (sym x.2.whose);
            registry = λ h. ap is_some x.2.unique ∙ old.registry (sym x.2.whose ∙ h);
            owner = λ h. owners k d there h ∙ old.owner (x.2.on h) ∙ sym x.2.unique;
            unsaid = λ h.
                ap (count_got_by_bus (es ++ ys)) x.2.whose
                ∙ zero_sum (count_got_by_bus es x.0.who) (count_got_by_bus ys x.0.who) (count_got_by_bus (es ++ ys) x.0.who) (count_more es ys x.0.who) (old.unsaid (sym x.2.unique ∙ h)) (none k x.0 x.1 (sym x.2.unique ∙ h));
            said = λ h. by (old.said (ap is_some (sym x.2.unique) ∙ h));
          }
        where
          by : (x.0.who ≡ Registry) ⊎ (1 ≤ count_got_by_bus es x.0.who) → (d.who ≡ Registry) ⊎ (1 ≤ count_got_by_bus (es ++ ys) d.who)
          by (inl h) = inl (x.2.whose ∙ h)
          by (inr h) = inr (subst (λ p. 1 ≤ count_got_by_bus (es ++ ys) p) (sym x.2.whose) (more_count es ys x.0.who h))

pub still_quiet : (es ys : List Entry) (w v : World) → Named es w → Over SameName w.ends v.ends → AllByRecursion NotTaken ys → v.bus.state.owners ≡ w.bus.state.owners → Named (es ++ ys) v
still_quiet es ys w v i o quiet owners =
    still es ys w v i o (same_greeted es ys (none_greeted ys quiet)) (ap (λ (x : Owners). x.given) owners) (λ k d h s. ap (λ x. unique_of x k) owners) (λ k h. ap (λ x. unique_of x k) owners ∙ h)
    (λ k e h none. none_taken e.who ys quiet)

-- THE END OF ONE
put_same : (letter : Letter) (e : End) → SameName e (put_down letter e)
put_same letter e = alike e (put_down letter e) refl refl refl

leave_same : (e : End) → SameName e (leaves e)
leave_same e = record { whose = refl; unique = refl; on = λ h. absurd (false_true (ap is_here h)) }

not_here : (d : End) → is_here d.standing ≡ false → d.standing ≡ here → ⊥
not_here d h g = false_true (sym h ∙ ap is_here g)

free_as : (d x : Done) → d ≡ x → AllByRecursion NotTaken x.entries → AllByRecursion NotTaken d.entries
free_as d x is a = subst (λ y. AllByRecursion NotTaken y.entries) (sym is) a

module _ (es : List Entry) (w : World) (d : Done) (s : Shape w) (t : IsTold w) (i : Named es w) (b : BusEnds w d) where
  abbrev c0 : Carried
  c0 = record { bus = w.bus; ends = w.ends }

  abbrev c : Carried
  c = carrying.takes_end c0 b.conn

  kept : KeptNames (unique_of w.bus.state.owners) w.bus.state.owners.given (λ k. b.conn ≡ k) c
  kept = settled_names (unique_of w.bus.state.owners) w.bus.state.owners.given (λ k. b.conn ≡ k) (length w.bus.state.joined) (carrying.left c0 b.conn) (record {
    count = refl;
    same = λ k differ. inl (left_names c0 b.conn k differ);
    less = λ k none. gone_less w.bus.state.owners b.conn k none;
  })

  o : Over SameName w.ends d.world.ends
  o = subst (λ x. Over SameName w.ends x.world.ends) (sym b.is) (ends_over SameName same_name (λ m e. put_same (own_letter m) e) leave_same c0 b.conn)

  pub ended_named : Named (es ++ d.entries) d.world
  ended_named =
      let quiet : AllByRecursion NotTaken d.entries = free_as d _ b.is (bus_free c.ends c.bus.own c.bus.closings) in
      still es d.entries w d.world i o (same_greeted es d.entries (none_greeted d.entries quiet)) (ap (λ x. x.world.bus.state.owners.given) b.is ∙ kept.count)
      (λ k z h stands. ap (λ x. unique_of x.world.bus.state.owners k) b.is ∙ by k z h stands (kept.same k (no_leaver k z h stands)))
      (λ k h. ap (λ x. unique_of x.world.bus.state.owners k) b.is ∙ kept.less k h) (λ k e h none. none_taken e.who d.entries quiet)
    where
      no_leaver : (k : ℕ) (z : End) → end_at d.world.ends k ≡ Some z → z.standing ≡ here → b.conn ≡ k → ⊥
      no_leaver k z h stands is =
          let x = o.back k z h in
          let one : b.e ≡ x.0 = same_some b.e x.0 (sym b.there ∙ ap (end_at w.ends) is ∙ x.1) in
          false_true (ap is_here (sym b.standing ∙ ap (λ (y : End). y.standing) one ∙ x.2.on stands))

      by : (k : ℕ) (z : End) → end_at d.world.ends k ≡ Some z → z.standing ≡ here → ((unique_of c.bus.state.owners k ≡ unique_of w.bus.state.owners k) ⊎ (list_any (is_of k) c.bus.closings ≡ true))
          → unique_of c.bus.state.owners k ≡ unique_of w.bus.state.owners k
      by k z h stands (inl g) = g
      by k z h stands (inr g) =
          absurd (not_here z (closed_gone c.ends k c.bus.closings (ends_closes c0 b.conn t.closings) g z (ap (λ x. end_at x.world.ends k) (sym b.is) ∙ h)) stands)

-- THE BUS TAKES A MESSAGE
zero_before : (p : Party) → (p ≡ The_bus → ⊥) → (p ≡ Registry → ⊥) → sent_before p ≡ 0
zero_before The_bus f g = absurd (f refl)
zero_before Registry f g = absurd (g refl)
zero_before (App a) f g = refl
zero_before (Reader r) f g = refl

pub not_first : (p : Party) (serial count : ℕ) → (p ≡ The_bus → ⊥) → serial ≡ suc (sent_before p + count) → ((p ≡ Registry) ⊎ (1 ≤ count)) → (serial == 1) ≡ false
not_first p serial count nb h c = by (serial == 1) refl
  where
    never : (p : Party) → (p ≡ The_bus → ⊥) → serial ≡ suc (sent_before p + count) → ((p ≡ Registry) ⊎ (1 ≤ count)) → serial ≡ 1 → ⊥
    never The_bus f g x e = absurd (f refl)
    never Registry f g x e = let same : serial ≡ suc (3 + count) = g in absurd (omega (arith, same, e))
    never (App a) f g (inl x) e = absurd (false_true (ap (same_party Registry) x))
    never (App a) f g (inr x) e = let same : serial ≡ suc (0 + count) = g in absurd (omega (arith, same, e, x))
    never (Reader a) f g (inl x) e = absurd (false_true (ap (same_party Registry) x))
    never (Reader a) f g (inr x) e = let same : serial ≡ suc (0 + count) = g in absurd (omega (arith, same, e, x))

    by : (t : Bool) → (serial == 1) ≡ t → (serial == 1) ≡ false
    by true g = absurd (never p nb h c (eqb-true serial 1 g))
    by false g = g

len_last : {X : Type 0} (xs : List X) (x : X) → length (xs ++ x ∷ []) ≡ suc (length xs)
len_last [] x = refl
len_last (y ∷ ys) x = ap suc (len_last ys x)

no_place : (o : Option ℕ) → option_map (λ n. unique_name (suc n)) o ≡ None → o ≡ None
no_place None h = refl
no_place (Some n) h = absurd (no_none (unique_name (suc n)) (sym h))

module _ (es : List Entry) (w : World) (d : Done) (s : Shape w) (t : IsTold w) (g : Greeted w) (numbers : Numbered es w) (l : Linked es w) (i : Named es w) (b : BusTakes w d) where
  abbrev t0 : Carried
  t0 = record { bus = w.bus; ends = w.ends }

  abbrev t1 : Carried
  t1 = carrying.takes t0 b.conn b.e.who b.said

  abbrev step : BusStep
  step = bus_takes w.bus.state b.conn b.said.message (rule_in b.said.message)

  abbrev base : Carried
  base = record t0 { ends = with_end b.conn taken_up w.ends }

  abbrev st : Carried
  st = stepped (letter_of b.e.who b.said) base step

  abbrev nm : Carried
  nm = with_name b.conn st

  kept_t : KeptNames (unique_of step.state.owners) step.state.owners.given Nobody t1
  kept_t = settled_names (unique_of step.state.owners) step.state.owners.given Nobody (length w.bus.state.joined) nm (record { count = refl; same = λ k x. inl refl; less = λ k h. h })

  before : Over SameName w.ends st.ends
  before =
      over_both SameName same_name w.ends base.ends st.ends (over_with SameName same_name taken_up (λ e. alike e (taken_up e) refl refl refl) b.conn w.ends)
      (stepped_over SameName same_name (letter_of b.e.who b.said) (λ m e. put_same (letter_of b.e.who b.said m) e) base step)

  behind : Over SameName nm.ends d.world.ends
  behind = subst (λ x. Over SameName nm.ends x.world.ends) (sym b.is) (settled_over SameName same_name (λ m e. put_same (own_letter m) e) leave_same (length w.bus.state.joined) nm)

  abbrev After : ℕ → End → Type 0
  After k z =
      (x : End) × (end_at w.ends k ≡ Some x) × (z.who ≡ x.who) × (z.standing ≡ here → x.standing ≡ here)
      × (((k ≡ b.conn) × (x ≡ b.e) × (z.unique ≡ first_of b.e.unique (unique_of step.state.owners b.conn))) ⊎ ((k ≡ b.conn → ⊥) × (z.unique ≡ x.unique)))

  after : (k : ℕ) (z : End) → end_at d.world.ends k ≡ Some z → After k z
  after k z h = let y = behind.back k z h in by k z y.0 y.2 (with_cases (named st.bus b.conn) st.ends b.conn k y.0 y.1)
    where
      by : (k : ℕ) (z y : End) → SameName y z → ((u : End) × (end_at st.ends k ≡ Some u) × (((k ≡ b.conn) × (y ≡ named st.bus b.conn u)) ⊎ ((k ≡ b.conn → ⊥) × (y ≡ u)))) → After k z
      by k z y q u = at (before.back k u.0 u.1) u.2
        where
          at : ((x : End) × (end_at w.ends k ≡ Some x) × SameName x u.0) → (((k ≡ b.conn) × (y ≡ named st.bus b.conn u.0)) ⊎ ((k ≡ b.conn → ⊥) × (y ≡ u.0))) → After k z
          at x (inl h) =
              let same : x.0 ≡ b.e = same_some x.0 b.e (sym x.1 ∙ ap (end_at w.ends) h.0 ∙ b.is_here.there) in (
                x.0,
                x.1,
                q.whose ∙ ap (λ (n : End). n.who) h.1 ∙ x.2.whose,
                (λ stands. x.2.on (ap (λ (n : End). n.standing) (sym h.1) ∙ q.on stands)),
                inl (h.0, same, q.unique ∙ ap (λ (n : End). n.unique) h.1 ∙ ap (λ n. first_of n (unique_of step.state.owners b.conn)) (x.2.unique ∙ ap (λ (n : End). n.unique) same)),
              )
          at x (inr h) = (
            x.0,
            x.1,
            q.whose ∙ ap (λ (n : End). n.who) h.1 ∙ x.2.whose,
            (λ stands. x.2.on (ap (λ (n : End). n.standing) (sym h.1) ∙ q.on stands)),
            inr (h.0, q.unique ∙ ap (λ (n : End). n.unique) h.1 ∙ x.2.unique),
          )

  pub owner_now : (k : ℕ) (z : End) → end_at d.world.ends k ≡ Some z → z.standing ≡ here → unique_of d.world.bus.state.owners k ≡ unique_of step.state.owners k
  owner_now k z h stands = ap (λ x. unique_of x.world.bus.state.owners k) b.is ∙ by (kept_t.same k (λ x. x))
    where
      by : ((unique_of t1.bus.state.owners k ≡ unique_of step.state.owners k) ⊎ (list_any (is_of k) t1.bus.closings ≡ true)) → unique_of t1.bus.state.owners k ≡ unique_of step.state.owners k
      by (inl e) = e
      by (inr e) =
          absurd (not_here z (closed_gone t1.ends k t1.bus.closings (takes_closes t0 b.conn b.e.who b.said t.closings) e z (ap (λ x. end_at x.world.ends k) (sym b.is) ∙ h)) stands)

  less_now : (k : ℕ) → unique_of step.state.owners k ≡ None → unique_of d.world.bus.state.owners k ≡ None
  less_now k h = ap (λ x. unique_of x.world.bus.state.owners k) b.is ∙ kept_t.less k h

  given_now : d.world.bus.state.owners.given ≡ step.state.owners.given
  given_now = ap (λ x. x.world.bus.state.owners.given) b.is ∙ kept_t.count

  abbrev words_now : List Entry
  words_now = bus_entries t1.ends t1.bus.own t1.bus.closings

  wrote : d.entries ≡ got The_bus b.e.who b.said.message.serial ∷ words_now
  wrote = ap (λ x. x.entries) b.is

  greeted_now : greeted d.entries ≡ cons_option (if b.said.message.serial == 1 then Some b.e.who else None) []
  greeted_now = ap greeted wrote ∙ ap (cons_option (if b.said.message.serial == 1 then Some b.e.who else None)) (none_greeted words_now (bus_free t1.ends t1.bus.own t1.bus.closings))

  counts : (p : Party) → same_party b.e.who p ≡ false → count_got_by_bus d.entries p ≡ 0
  counts p h = ap (λ es. count_got_by_bus es p) wrote ∙ counted es w d s numbers l b p false h

  counts_one : count_got_by_bus d.entries b.e.who ≡ 1
  counts_one = ap (λ es. count_got_by_bus es b.e.who) wrote ∙ counted es w d s numbers l b b.e.who true (party-same b.e.who)

  old : NamedAt es w.bus.state.owners b.conn b.e
  old = i.ends b.conn b.e b.is_here.there

  pub serial_is : b.said.message.serial ≡ suc (sent_before b.e.who + count_got_by_bus es b.e.who)
  serial_is = (subst (Ups (first_unread es b.e.who)) b.link (l.1 b.conn b.e b.is_here.there (ap is_here b.is_here.standing)).ups).0

  -- of one that has its name
  took_some : (name : List ℕ) → b.e.unique ≡ Some name → Named (es ++ d.entries) d.world
  took_some name h =
      still es d.entries w d.world i o (same_greeted es d.entries (greeted_now ∙ ap (λ t. cons_option (if t then Some b.e.who else None) []) later)) (given_now ∙ sa.1)
      (λ k z there stands. owner_now k z there stands ∙ ap (λ u. finmap.get u k) sa.0)
      (λ k none. less_now k (ap (λ u. finmap.get u k) sa.0 ∙ none)) none_of
    where
      sa : SameAs w.bus.state.owners step.state.owners
      sa = takes_same w.bus.state b.conn b.said.message (rule_in b.said.message) name (old.owner b.is_here.standing ∙ h)

      later : (b.said.message.serial == 1) ≡ false
      later = not_first b.e.who b.said.message.serial (count_got_by_bus es b.e.who) (no_bus w b.conn b.e s b.is_here.there) serial_is (old.said (ap is_some h))

      o : Over SameName w.ends d.world.ends
      o = record { size = (bus_takes_over w d b).size; back = λ k z there. by k z (after k z there) }
        where
          by : (k : ℕ) (z : End) → After k z → (x : End) × (end_at w.ends k ≡ Some x) × SameName x z
          by k z x = (x.0, x.1, record { whose = x.2; unique = at x.4; on = x.3 })
            where
              at : (((k ≡ b.conn) × (x.0 ≡ b.e) × (z.unique ≡ first_of b.e.unique (unique_of step.state.owners b.conn))) ⊎ ((k ≡ b.conn → ⊥) × (z.unique ≡ x.0.unique))) → z.unique ≡ x.0.unique
              at (inl y) = y.2 ∙ ap (λ n. first_of n (unique_of step.state.owners b.conn)) h ∙ sym h ∙ ap (λ (n : End). n.unique) (sym y.1)
              at (inr y) = y.1

      none_of : (k : ℕ) (e : End) → end_at w.ends k ≡ Some e → e.unique ≡ None → count_got_by_bus d.entries e.who ≡ 0
      none_of k e there none = by (same_party b.e.who e.who) refl
        where
          by : (t : Bool) → same_party b.e.who e.who ≡ t → count_got_by_bus d.entries e.who ≡ 0
          by true same =
              let at : k ≡ b.conn = s.one k b.conn e b.e there b.is_here.there (sym (same-party b.e.who e.who same)) in
              let one : e ≡ b.e = same_some e b.e (sym there ∙ ap (end_at w.ends) at ∙ b.is_here.there) in
              absurd (no_none name (sym none ∙ ap (λ (n : End). n.unique) one ∙ h))
          by false same = counts e.who same

  -- of one that says Hello
  took_none : b.e.unique ≡ None → Named (es ++ d.entries) d.world
  took_none h = record {
    count = given_now ∙ given_step ∙ more ∙ ap (λ l. suc (length l)) (sym greeted_all);
    ends = λ k z there. of_end k z there (after k z there);
    free = λ k below. less_now k (other_is k (λ is. out k (subst (λ n. n ≤ k) (bus_takes_over w d b).size below) is) ∙ i.free k (subst (λ n. n ≤ k) (bus_takes_over w d b).size below));
    size = ap (λ l. suc (length l)) greeted_all ∙ ap suc (len_last (greeted es) b.e.who) ∙ ap suc i.size
        ∙ sym (count_one has_name w.ends d.world.ends b.conn (bus_takes_over w d b).size (at_below w.ends b.conn b.e b.is_here.there) (λ k z there. named_one k z (after k z there)));
    among = subst (AllByRecursion (IsAt d.world)) (sym greeted_all)
        (all_append (IsAt d.world) (greeted es) (b.e.who ∷ []) (all_to (IsAt w) (IsAt d.world) (greeted es) still_at i.among) (still_at b.e.who (b.conn, b.e, b.is_here.there, refl), tt));
  }
    where
      not_registry : b.e.who ≡ Registry → ⊥
      not_registry r = false_true (ap is_some (sym h) ∙ old.registry r)

      serial_one : b.said.message.serial ≡ 1
      serial_one =
          let zero_ : sent_before b.e.who ≡ 0 = zero_before b.e.who (no_bus w b.conn b.e s b.is_here.there) not_registry in
          let none : count_got_by_bus es b.e.who ≡ 0 = old.unsaid h in
          let is : b.said.message.serial ≡ suc (sent_before b.e.who + count_got_by_bus es b.e.who) = serial_is in
          omega (arith, zero_, none, is)

      unowned : unique_of w.bus.state.owners b.conn ≡ None
      unowned = old.owner b.is_here.standing ∙ h

      hello : is_hello b.said.message ≡ true
      hello =
          let y = g.hello b.conn b.e b.is_here.there b.is_here.standing unowned in
          let same : y.0 ≡ b.said = ap (first_said b.said) (sym y.2 ∙ b.link) in
          subst (λ (m : Said). is_hello m.message ≡ true) same y.3
        where
          first_said : Said → List Said → Said
          first_said z [] = z
          first_said z (x ∷ xs) = x

      step_is : step ≡ greets w.bus.state b.conn b.said.message
      step_is = takes_hello w.bus.state b.conn b.said.message unowned hello

      given_step : step.state.owners.given ≡ w.bus.state.owners.given + 1
      given_step = ap (λ (x : BusStep). x.state.owners.given) step_is

      here_is : unique_of step.state.owners b.conn ≡ Some (unique_name w.bus.state.owners.given)
      here_is = ap (λ (x : BusStep). unique_of x.state.owners b.conn) step_is ∙ hello_here w.bus.state b.conn b.said.message

      other_is : (k : ℕ) → (k ≡ b.conn → ⊥) → unique_of step.state.owners k ≡ unique_of w.bus.state.owners k
      other_is k differ = ap (λ (x : BusStep). unique_of x.state.owners k) step_is ∙ hello_other w.bus.state b.conn k b.said.message differ

      greeted_all : greeted (es ++ d.entries) ≡ greeted es ++ b.e.who ∷ []
      greeted_all =
          greeted_more es d.entries
          ∙ ap (λ l. greeted es ++ l) (greeted_now ∙ ap (λ t. cons_option (if t then Some b.e.who else None) []) (eq-eqb b.said.message.serial 1 serial_one))

      more : w.bus.state.owners.given + 1 ≡ suc (length (greeted es ++ b.e.who ∷ []))
      more =
          let len : length (greeted es ++ b.e.who ∷ []) ≡ suc (length (greeted es)) = len_last (greeted es) b.e.who in
          let was : w.bus.state.owners.given ≡ suc (length (greeted es)) = i.count in
          omega (arith, len, was)

      no_place_yet : first_at (same_party b.e.who) (greeted es) ≡ None
      no_place_yet = no_place (first_at (same_party b.e.who) (greeted es)) (sym (old.known not_registry) ∙ h)

      told_now : name_told (es ++ d.entries) b.e.who ≡ Some (unique_name (suc (length (greeted es))))
      told_now =
          ap (λ l. option_map (λ n. unique_name (suc n)) (first_at (same_party b.e.who) l)) greeted_all
          ∙ ap (option_map (λ n. unique_name (suc n))) (first_last (same_party b.e.who) (greeted es) b.e.who no_place_yet (party-same b.e.who))

      told_other : (who : Party) → same_party who b.e.who ≡ false → name_told (es ++ d.entries) who ≡ name_told es who
      told_other who differ =
          ap (λ l. option_map (λ n. unique_name (suc n)) (first_at (same_party who) l)) greeted_all
          ∙ ap (option_map (λ n. unique_name (suc n))) (first_same (same_party who) (greeted es) b.e.who differ)

      out : (k : ℕ) → length w.ends ≤ k → k ≡ b.conn → ⊥
      out k below is = let less : b.conn < length w.ends = at_below w.ends b.conn b.e b.is_here.there in absurd (omega (arith, below, is, less))

      still_at : (who : Party) → IsAt w who → IsAt d.world who
      still_at who a = let x = forward Lasts w.ends d.world.ends a.0 a.1 (bus_takes_over w d b) a.2 in (a.0, x.0, x.1, x.2.whose ∙ a.3)

      new_name : (z : End) → z.unique ≡ first_of b.e.unique (unique_of step.state.owners b.conn) → z.unique ≡ Some (unique_name w.bus.state.owners.given)
      new_name z u = u ∙ ap (λ n. first_of n (unique_of step.state.owners b.conn)) h ∙ here_is

      named_one : (k : ℕ) (z : End) → After k z → (e : End) × (end_at w.ends k ≡ Some e) × (k ≡ b.conn → (has_name z ≡ true) × (has_name e ≡ false)) × ((k ≡ b.conn → ⊥) → has_name z ≡ has_name e)
      named_one k z x = (x.0, x.1, (λ is. mine is x.4), (λ differ. other differ x.4))
        where
          mine : k ≡ b.conn → (((k ≡ b.conn) × (x.0 ≡ b.e) × (z.unique ≡ first_of b.e.unique (unique_of step.state.owners b.conn))) ⊎ ((k ≡ b.conn → ⊥) × (z.unique ≡ x.0.unique))) → (has_name z ≡ true) × (has_name x.0 ≡ false)
          mine is (inl y) = (ap is_some (new_name z y.2), ap has_name y.1 ∙ ap is_some h)
          mine is (inr y) = absurd (y.0 is)

          other : (k ≡ b.conn → ⊥) → (((k ≡ b.conn) × (x.0 ≡ b.e) × (z.unique ≡ first_of b.e.unique (unique_of step.state.owners b.conn))) ⊎ ((k ≡ b.conn → ⊥) × (z.unique ≡ x.0.unique))) → has_name z ≡ has_name x.0
          other differ (inl y) = absurd (differ y.0)
          other differ (inr y) = ap is_some y.1

      one_more : (a b c : ℕ) → c ≡ a + b → b ≡ 1 → 1 ≤ c
      one_more a b c e f = omega (arith, e, f)

      zero_sum : (a b c : ℕ) → c ≡ a + b → a ≡ 0 → b ≡ 0 → c ≡ 0
      zero_sum a b c e f k = omega (arith, e, f, k)

      of_end : (k : ℕ) (z : End) → end_at d.world.ends k ≡ Some z → After k z → NamedAt (es ++ d.entries) d.world.bus.state.owners k z
      of_end k z there x = by x.4
        where
          by : (((k ≡ b.conn) × (x.0 ≡ b.e) × (z.unique ≡ first_of b.e.unique (unique_of step.state.owners b.conn))) ⊎ ((k ≡ b.conn → ⊥) × (z.unique ≡ x.0.unique))) → NamedAt (es ++ d.entries) d.world.bus.state.owners k z
          by (inl y) =
              let who : z.who ≡ b.e.who = x.2 ∙ ap (λ (n : End). n.who) y.1 in
              let has : z.unique ≡ Some (unique_name w.bus.state.owners.given) = new_name z y.2 in
              record {
                known = λ differ. has ∙ ap (λ n. Some (unique_name n)) i.count ∙ sym told_now ∙ ap (name_told (es ++ d.entries)) (sym who);
                registry = λ r. ap is_some has;
                owner = λ stands. owner_now k z there stands ∙ ap (unique_of step.state.owners) y.0 ∙ here_is ∙ sym has;
                unsaid = λ none. absurd (no_none (unique_name w.bus.state.owners.given) (sym none ∙ has));
                said = λ some. inr (subst (λ p. 1 ≤ count_got_by_bus (es ++ d.entries) p) (sym who)
                    (one_more (count_got_by_bus es b.e.who) (count_got_by_bus d.entries b.e.who) (count_got_by_bus (es ++ d.entries) b.e.who) (count_more es d.entries b.e.who) counts_one));
              }
          by (inr y) =
              let was = i.ends k x.0 x.1 in
              record {
                known = λ differ. y.1 ∙ was.known (λ r. differ (x.2 ∙ r)) ∙ sym (told_other x.0.who (turned (same_party x.0.who b.e.who) refl)) ∙ ap (name_told (es ++ d.entries)) (sym x.2);
                registry = λ r. ap is_some y.1 ∙ was.registry (sym x.2 ∙ r);
                owner = λ stands. owner_now k z there stands ∙ other_is k y.0 ∙ was.owner (x.3 stands) ∙ sym y.1;
                unsaid = λ none.
                    ap (count_got_by_bus (es ++ d.entries)) x.2
                    ∙ zero_sum (count_got_by_bus es x.0.who) (count_got_by_bus d.entries x.0.who) (count_got_by_bus (es ++ d.entries) x.0.who) (count_more es d.entries x.0.who) (was.unsaid (sym y.1 ∙ none))
                    (counts x.0.who (straight (same_party b.e.who x.0.who) refl));
                said = λ some. more_said (was.said (ap is_some (sym y.1) ∙ some));
              }
            where
              apart : x.0.who ≡ b.e.who → ⊥
              apart same = y.0 (s.one k b.conn x.0 b.e x.1 b.is_here.there same)

              turned : (t : Bool) → same_party x.0.who b.e.who ≡ t → same_party x.0.who b.e.who ≡ false
              turned true same = absurd (apart (same-party x.0.who b.e.who same))
              turned false same = same

              straight : (t : Bool) → same_party b.e.who x.0.who ≡ t → same_party b.e.who x.0.who ≡ false
              straight true same = absurd (apart (sym (same-party b.e.who x.0.who same)))
              straight false same = same

              more_said : (x.0.who ≡ Registry) ⊎ (1 ≤ count_got_by_bus es x.0.who) → (z.who ≡ Registry) ⊎ (1 ≤ count_got_by_bus (es ++ d.entries) z.who)
              more_said (inl r) = inl (x.2 ∙ r)
              more_said (inr n) = inr (subst (λ p. 1 ≤ count_got_by_bus (es ++ d.entries) p) (sym x.2) (more_count es d.entries x.0.who n))

  pub took_named : Named (es ++ d.entries) d.world
  took_named = by b.e.unique refl
    where
      by : (o : Option (List ℕ)) → b.e.unique ≡ o → Named (es ++ d.entries) d.world
      by None h = took_none h
      by (Some name) h = took_some name h

-- ONE JOINS
module _ (es ys : List Entry) (w v : World) (s : Shape w) (l : Linked es w) (i : Named es w) where
  joined_named : (n : End) → v.ends ≡ w.ends ++ n ∷ [] → n.unique ≡ None → IsFresh w n.who → v.bus.state.owners ≡ w.bus.state.owners → AllByRecursion NotTaken ys → Named (es ++ ys) v
  joined_named n is unnamed fresh owners quiet = record {
    count = ap (λ (x : Owners). x.given) owners ∙ i.count ∙ ap (λ l. suc (length l)) (sym same);
    ends = λ k d h. at k d (joined_cases w.ends n k d (ap (λ l. end_at l k) (sym is) ∙ h));
    free = λ k below. ap (λ x. unique_of x k) owners ∙ i.free k (less k (subst (λ m. m ≤ k) (ap length is ∙ longer w.ends) below));
    size = ap (λ l. suc (length l)) same ∙ i.size ∙ sym (count_joined has_name w.ends n (ap is_some unnamed)) ∙ ap (count_ends has_name) (sym is);
    among = subst (AllByRecursion (IsAt v)) (sym same) (all_to (IsAt w) (IsAt v) (greeted es) front i.among);
  }
    where
      longer : (xs : List End) → length (xs ++ n ∷ []) ≡ suc (length xs)
      longer xs = len_last xs n

      less : (k : ℕ) → suc (length w.ends) ≤ k → length w.ends ≤ k
      less k h = omega (arith, h)

      here_too : (k : ℕ) → k ≡ length w.ends → length w.ends ≤ k
      here_too k h = omega (arith, h)

      same : greeted (es ++ ys) ≡ greeted es
      same = same_greeted es ys (none_greeted ys quiet)

      front : (who : Party) → IsAt w who → IsAt v who
      front who a = (a.0, a.1, ap (λ l. end_at l a.0) is ∙ at_front w.ends n a.0 a.1 a.2, a.3)

      no_told : name_told es n.who ≡ None
      no_told = by (first_at (same_party n.who) (greeted es)) refl
        where
          by : (o : Option ℕ) → first_at (same_party n.who) (greeted es) ≡ o → name_told es n.who ≡ None
          by None h = ap (option_map (λ k. unique_name (suc k))) h
          by (Some j) h = let a = told_among (IsAt w) n.who (greeted es) j i.among h in absurd (known_not_fresh w a.0 a.1 n.who s a.2 a.3 fresh)

      zero_sum : (a b c : ℕ) → c ≡ a + b → a ≡ 0 → b ≡ 0 → c ≡ 0
      zero_sum a b c e f k = omega (arith, e, f, k)

      count_zero : (p : Party) → count_got_by_bus es p ≡ 0 → count_got_by_bus (es ++ ys) p ≡ 0
      count_zero p h = zero_sum (count_got_by_bus es p) (count_got_by_bus ys p) (count_got_by_bus (es ++ ys) p) (count_more es ys p) h (none_taken p ys quiet)

      at : (k : ℕ) (d : End) → (end_at w.ends k ≡ Some d) ⊎ ((k ≡ length w.ends) × (d ≡ n)) → NamedAt (es ++ ys) v.bus.state.owners k d
      at k d (inl there) =
          let old = i.ends k d there in
          record {
            known = λ differ. old.known differ ∙ sym (named_with es ys d.who same);
            registry = old.registry;
            owner = λ stands. ap (λ x. unique_of x k) owners ∙ old.owner stands;
            unsaid = λ h. count_zero d.who (old.unsaid h);
            said = λ h. by (old.said h);
          }
        where
          by : (d.who ≡ Registry) ⊎ (1 ≤ count_got_by_bus es d.who) → (d.who ≡ Registry) ⊎ (1 ≤ count_got_by_bus (es ++ ys) d.who)
          by (inl h) = inl h
          by (inr h) = inr (more_count es ys d.who h)
      at k d (inr x) = subst (NamedAt (es ++ ys) v.bus.state.owners k) (sym x.1) (record {
        known = λ differ. unnamed ∙ sym (named_with es ys n.who same ∙ no_told);
        registry = λ r. absurd (subst (IsFresh w) r fresh);
        owner = λ stands. ap (λ y. unique_of y k) owners ∙ i.free k (here_too k x.0) ∙ sym unnamed;
        unsaid = λ h. count_zero n.who (l.2 n.who fresh);
        said = λ h. absurd (false_true (ap is_some (sym unnamed) ∙ h));
      })

-- AT THE BEGINNING
first_named : (es : List Entry) (quota : ℕ) → greeted es ≡ [] → Named es (first_world quota)
first_named es quota none = record {
  count = ap (λ l. suc (length l)) (sym none);
  ends = λ k e h. at k e h;
  free = λ k below. out k below;
  size = ap (λ l. suc (length l)) none;
  among = subst (AllByRecursion (IsAt (first_world quota))) (sym none) tt;
}
  where
    registry_at : NamedAt es (first_world quota).bus.state.owners 0 first_registry
    registry_at = record {
      known = λ differ. absurd (differ refl);
      registry = λ r. refl;
      owner = λ stands. get-from_sorted nat_cmp first_unique 0 tt;
      unsaid = λ h. absurd (no_none _ (sym h));
      said = λ h. inl refl;
    }

    at : (k : ℕ) (e : End) → end_at (first_registry ∷ []) k ≡ Some e → NamedAt es (first_world quota).bus.state.owners k e
    at zero e h = subst (NamedAt es (first_world quota).bus.state.owners 0) (same_some first_registry e h) registry_at
    at (suc k) e h = absurd (no_none e h)

    out : (k : ℕ) → 1 ≤ k → unique_of (first_world quota).bus.state.owners k ≡ None
    out zero below = absurd (omega (arith, below))
    out (suc k) below = get-from_sorted nat_cmp first_unique (suc k) tt ∙ other (eq_by_cmp nat_cmp (suc k) 0) refl
      where
        differ : suc k ≡ 0 → ⊥
        differ h = absurd (omega (arith, h))

        other : (t : Bool) → eq_by_cmp nat_cmp (suc k) 0 ≡ t → cond t (Some (codes ":1.0")) None ≡ None
        other true g = absurd (differ (nat_cmp-IsAntisymmetric (suc k) 0 (equal_of_tie _ g)))
        other false g = refl

anew : (es : List Entry) (w : World) (d : Done) (quota : ℕ) → Named es w → nat_lt 1 (length w.ends) ≡ false → d ≡ only (first_world quota) [] → Named (es ++ d.entries) d.world
anew es w d quota i few is = subst (λ x. Named (es ++ x.entries) x.world) (sym is) (first_named (es ++ []) quota (ap greeted (append-nil es) ∙ empty (greeted es) none))
  where
    none : length (greeted es) ≡ 0
    none =
        let less : length w.ends ≤ 1 = ltb-false 1 (length w.ends) few in
        let size : suc (length (greeted es)) ≡ count_ends has_name w.ends = i.size in
        let least : count_ends has_name w.ends ≤ length w.ends = count_least has_name w.ends in
        omega (arith, less, size, least)

    empty : (xs : List Party) → length xs ≡ 0 → xs ≡ []
    empty [] h = refl
    empty (x ∷ xs) h = absurd (omega (arith, h))

-- EACH CAUSE
pub down_same : (e : End) → SameName e (taken_down e)
down_same e = alike e (taken_down e) refl refl refl

done_same : (x y : Exporter) (e : End) → SameName e (has_done x y e)
done_same x y e = alike e (has_done x y e) refl refl refl

sends_same : (h : Hearer) (m : Envelope) (e : End) → SameName e (reader_sends h m e)
sends_same h m e = alike e (reader_sends h m e) refl refl refl

asks_same : (m : Envelope) (question : Question) (e : End) → SameName e (asks_at m question e)
asks_same m question e = by e.role
  where
    by : (role : Role) → SameName e (asks_as role m question e)
    by (a_reader h) = sends_same (asks question h) m e
    by (the_registry x) = same_name.same e
    by (an_application x) = same_name.same e

module _ (es : List Entry) (w : World) (d : Done) (i : Named es w) where
  by_end : (f : End → End) (conn : ℕ) → ((e : End) → SameName e (f e)) → d.world.ends ≡ with_end conn f w.ends → AllByRecursion NotTaken d.entries → d.world.bus.state.owners ≡ w.bus.state.owners → Named (es ++ d.entries) d.world
  by_end f conn k is quiet owners = still_quiet es d.entries w d.world i (subst (Over SameName w.ends) (sym is) (over_with SameName same_name f k conn w.ends)) quiet owners

  by_both : (f : End → End) (conn : ℕ) → ((e : End) → SameName e (f e)) → d.world.ends ≡ with_end conn f (with_end conn taken_down w.ends) → AllByRecursion NotTaken d.entries → d.world.bus.state.owners ≡ w.bus.state.owners
      → Named (es ++ d.entries) d.world
  by_both f conn k is quiet owners =
      still_quiet es d.entries w d.world i
      (subst (Over SameName w.ends) (sym is)
      (over_both SameName same_name w.ends (with_end conn taken_down w.ends) (with_end conn f (with_end conn taken_down w.ends)) (over_with SameName same_name taken_down down_same conn w.ends)
      (over_with SameName same_name f k conn (with_end conn taken_down w.ends)))) quiet owners

  by_same : d.world.ends ≡ w.ends → AllByRecursion NotTaken d.entries → d.world.bus.state.owners ≡ w.bus.state.owners → Named (es ++ d.entries) d.world
  by_same is quiet owners = still_quiet es d.entries w d.world i (subst (Over SameName w.ends) (sym is) (over_same SameName same_name w.ends)) quiet owners

least : (n : ℕ) → n ≤ n
least n = omega arith

caused : (es : List Entry) (w : World) (d : Done) → Shape w → IsTold w → Greeted w → Numbered es w → Linked es w → Named es w → Effect w d → Named (es ++ d.entries) d.world
caused es w d s t g m l i (resets quota few is) = anew es w d quota i few is
caused es w d s t g m l i (app_joins name short is) =
    joined_named es d.entries w d.world s l i (new_app w name) (ap (λ x. x.world.ends) is ∙ app_joined w name) refl (least (app_count w.ends)) (ap (λ x. x.world.bus.state.owners) is)
    (free_as d (app_starts w name) is (tt, (tt, tt)))
caused es w d s t g m l i (reader_joins few is) =
    joined_named es d.entries w d.world s l i (new_reader w) (ap (λ x. x.world.ends) is) refl (least (reader_count w.ends)) (ap (λ x. x.world.bus.state.owners) is) (free_as d (reader_starts w) is (tt, (tt, tt)))
caused es w d s t g m l i (app_edited b) =
    by_end es w d i (has_done b.before b.after) b.conn (done_same b.before b.after) (ap (λ x. x.world.ends) b.is) (free_as d _ b.is (did_free _ b.after.out)) (ap (λ x. x.world.bus.state.owners) b.is)
caused es w d s t g m l i (app_took b) =
    let after : Exporter = app_takes b.before b.letter.said.message in
    by_both es w d i (has_done b.before after) b.conn (done_same b.before after) (ap (λ x. x.world.ends) b.is)
    (free_as d _ b.is (got_free b.e.who b.letter.from b.letter.said.message.serial (no_bus w b.conn b.e s b.is_here.there), did_free _ after.out)) (ap (λ x. x.world.bus.state.owners) b.is)
caused es w d s t g m l i (reader_called b) =
    by_end es w d i (reader_sends (record b.hearer { next = suc b.hearer.next }) (user_call b.hearer.next b.name b.node b.deed)) b.conn (sends_same _ _) (ap (λ x. x.world.ends) b.is) (free_as d _ b.is (tt, tt))
    (ap (λ x. x.world.bus.state.owners) b.is)
caused es w d s t g m l i (swapped b) = by_same es w d i (ap (λ x. x.world.ends) b.is) (free_as d _ b.is tt) (ap (λ x. x.world.bus.state.owners) b.is)
caused es w d s t g m l i (exited_ b) =
    by_end es w d i stops b.conn (λ e. record { whose = refl; unique = refl; on = λ h. absurd (false_true (ap is_here h)) }) (ap (λ x. x.world.ends) b.is) (free_as d _ b.is (tt, tt)) (ap (λ x. x.world.bus.state.owners) b.is)
caused es w d s t g m l i (showed_ b) = by_same es w d i (ap (λ x. x.world.ends) b.is) (free_as d _ b.is (tt, tt)) (ap (λ x. x.world.bus.state.owners) b.is)
caused es w d s t g m l i (told_busy turns is) = by_same es w d i (ap (λ x. x.world.ends) is) (free_as d _ is (tt, tt)) (ap (λ x. x.world.bus.state.owners) is)
caused es w d s t g m l i (told_quiet none is) = by_same es w d i (ap (λ x. x.world.ends) is) (free_as d _ is (tt, tt)) (ap (λ x. x.world.bus.state.owners) is)
caused es w d s t g m l i (bus_took b) = took_named es w d s t g m l i b
caused es w d s t g m l i (bus_ended b) = ended_named es w d s t i b
caused es w d s t g m l i (registry_took b) =
    by_both es w d i (registry_did (registry_takes b.before b.letter.said.message)) b.conn (λ e. alike e (registry_did (registry_takes b.before b.letter.said.message) e) refl refl refl) (ap (λ x. x.world.ends) b.is)
    (free_as d _ b.is (got_free b.e.who b.letter.from b.letter.said.message.serial (no_bus w b.conn b.e s b.is_here.there), sent_free b.e.who (registry_takes b.before b.letter.said.message).sent))
    (ap (λ x. x.world.bus.state.owners) b.is)
caused es w d s t g m l i (reader_took b) =
    let v : World = received w b.conn b.e b.letter in
    by_both es w d i (λ x. record x { role = a_reader (hears_letter b.hearer v.ends b.letter) }) b.conn (λ e. alike e (record e { role = a_reader (hears_letter b.hearer v.ends b.letter) }) refl refl refl) (ap (λ x. x.world.ends) b.is)
    (free_as d _ b.is (
      got_free b.e.who b.letter.from b.letter.said.message.serial (no_bus w b.conn b.e s b.is_here.there),
      all_map (Act (λ p. ⊥)) NotTaken (heard_entries (number_of b.e.who) b.hearer v.ends b.letter) word_free (heard_act (λ p. ⊥) (number_of b.e.who) b.hearer v.ends b.letter b.letter.from refl),
    ))
    (ap (λ x. x.world.bus.state.owners) b.is)

abbrev pub Under_names : List Entry → World → Type 0
Under_names es w = And (And (And Nothing Tells) Present) (And Base Linked) es w

names_grow : Grows Under_names Named
names_grow = record {
  begins = first_named [] QUOTA_MOST refl;
  caused = λ es w d s a i e after x. caused es w d s a.0.0.1 a.0.1.0 a.1.0.1 a.1.1 i e;
  moved = λ es w v s a i m. subst (λ l. Named l v) (append-nil es) (by es w v i m);
  asked = λ es w conn r m question s a i asked.
      still_quiet es (sent (Reader r) m ∷ []) w (at_end w conn (asks_at m question)) i (over_with SameName same_name (asks_at m question) (asks_same m question) conn w.ends) (tt, tt) refl;
}
  where
    by : (es : List Entry) (w v : World) → Named es w → (MovedUp w v ⊎ MovedDown w v) → Named (es ++ []) v
    by es w v i (inl m) =
        still_quiet es [] w v i
        (subst (λ (x : World). Over SameName w.ends x.ends) (sym m.after) (over_with SameName same_name (λ e. record e { up_moved = e.up_moved + m.count }) (λ e. alike e (record e { up_moved = e.up_moved + m.count }) refl refl refl) m.conn w.ends))
        tt (ap (λ (x : World). x.bus.state.owners) m.after)
    by es w v i (inr m) =
        still_quiet es [] w v i
        (subst (λ (x : World). Over SameName w.ends x.ends) (sym m.after) (over_with SameName same_name (λ e. record e { down_moved = e.down_moved + m.count }) (λ e. alike e (record e { down_moved = e.down_moved + m.count }) refl refl refl) m.conn w.ends))
        tt (ap (λ (x : World). x.bus.state.owners) m.after)

pub names_keep : Keeps (Shaped (And Under_names Named))
names_keep = grown Under_names Named (both_keep (And (And Nothing Tells) Present) (And Base Linked) present_keeps links_keep) names_grow
