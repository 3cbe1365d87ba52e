-- On each down link nothing of an end stands behind the news that its name is nobody's, whatever the bus does.
use Rattle.std.proofs.Common.{◌≡◌, ◌⊎◌, inl, inr, ℕ, zero, suc, Bool, true, false, List, [], ◌∷◌, ◌++◌, Option, None, Some, refl, sym, ap, ◌∙◌, subst, cond}
use Rattle.std.specs.Prelude.{◌==◌, if◌then◌else◌}
use Rattle.std.specs.List.{AllByRecursion}
use Rattle.std.specs.FinMap as finmap
use Rattle.std.specs.FinMap.{get-remove}
use Rattle.std.specs.Ordering.{nat_cmp, eq_by_cmp}
use Rattle.std.proofs.lemmas.Cmp.{nat_cmp_total}
use Rattle.std.proofs.lemmas.Bool.{eqb-true, eq-eqb}
use Rattle.atspi_tree_model.specs.Forest.{first_of}
use Rattle.atspi_script_lines.specs.declared.line.Party.{Party}
use Rattle.atspi_script_lines.specs.declared.line.Party.TheVariants.{Bus as The_bus, App, Reader}
use Rattle.atspi_message.specs.Envelope.{Envelope}
use Rattle.atspi_match.specs.declared.condition.Condition.{Condition}
use Rattle.atspi_names.specs.Owners.{Owners, own_name, after_gone}
use Rattle.atspi_match.specs.declared.routing.closing.Why.{Why}
use Rattle.atspi_match.specs.routing.BusState.{BusState, unique_of}
use Rattle.atspi_match.specs.routing.Members.{is_text}
use Rattle.atspi_match.specs.routing.Queues.{Bus, without_queue}
use Rattle.atspi_match.specs.routing.Steps.{Move, says, delivers, closes, BusStep, is_hello, greets, bus_takes, bus_leaves}
use Rattle.atspi_protocol.specs.following.Known.{told_end}
use Rattle.atspi_trace.specs.Entry.{Entry, gone}
use Rattle.atspi_trace.specs.Rules.{rule_in}
use Rattle.atspi_trace.specs.World.{away, Said, Letter, End}
use Rattle.atspi_trace.specs.Ends.{end_at, with_end, put_down, rest_of, taken_up, taken_down, leaves}
use Rattle.atspi_trace.specs.Carrying.{Carried, own_letter, letter_of, stepped, left, one_closed, settled, named, with_name}
use Rattle.atspi_trace_laws.proofs.OfOrder.Parties.{no_none, false_true, all_append}
use Rattle.atspi_trace_laws.proofs.OfOrder.Frame.{Over, IsOrder, over_same, over_both, over_with, at_changed, stepped_over, left_over, settled_over}
use Rattle.atspi_trace_laws.proofs.OfOrder.Each.{all_map}
use Rattle.atspi_trace_laws.proofs.OfTaken.Handing.{HandsOn, stepped_put}
use Rattle.atspi_trace_laws.proofs.OfDelivered.Bounds.{NoneIsBus}
use Rattle.atspi_trace_laws.proofs.OfQuiet.Here.{forward}
use Rattle.atspi_trace_laws.proofs.OfNames.Naming.{takes_same, hello_other}
use Rattle.atspi_trace_laws.proofs.OfNames.LawNames.{SameName, same_name, alike}
use Rattle.atspi_trace_laws.proofs.OfEnds.News.{TellsOf, IsPlain, Comes, takes_comes, Leaving, leaves_tell}

-- LETTERS ON A LINK
abbrev pub NotFrom : Party → Letter → Type 0
NotFrom who l = l.from ≡ who → ⊥

-- the news of a name is that of a well-known one, or of one of these parties, and nothing of that one stands behind it
abbrev pub IsNews : (Party → List ℕ → Type 0) → Letter → List Letter → Type 0
IsNews P l ls =
    l.from ≡ The_bus → (name : List ℕ) → told_end l.said.message ≡ Some name → IsPlain name ⊎ ((who : Party) × P who name × AllByRecursion (NotFrom who) ls)

abbrev pub Ordered : (Party → List ℕ → Type 0) → List Letter → Type 0
Ordered P [] = Unit {0}
Ordered P (l ∷ ls) = IsNews P l ls × Ordered P ls

put_ordered : (P : Party → List ℕ → Type 0) (ls : List Letter) (l : Letter) → ((who : Party) (name : List ℕ) → P who name → l.from ≡ who → ⊥) → IsNews P l [] → Ordered P ls → Ordered P (ls ++ l ∷ [])
put_ordered P [] l other news o = (news, tt)
put_ordered P (x ∷ xs) l other news o = ((λ from name told. by name (o.0 from name told)), put_ordered P xs l other news o.1)
  where
    by : (name : List ℕ) → IsPlain name ⊎ ((who : Party) × P who name × AllByRecursion (NotFrom who) xs) → IsPlain name ⊎ ((who : Party) × P who name × AllByRecursion (NotFrom who) (xs ++ l ∷ []))
    by name (inl p) = inl p
    by name (inr a) = inr (a.0, a.1, all_append (NotFrom a.0) xs (l ∷ []) a.2 (other a.0 name a.1, tt))

pub ordered_of : (P Q : Party → List ℕ → Type 0) (ls : List Letter) → ((who : Party) (name : List ℕ) → P who name → Q who name) → Ordered P ls → Ordered Q ls
ordered_of P Q [] f o = tt
ordered_of P Q (x ∷ xs) f o = ((λ from name told. by name (o.0 from name told)), ordered_of P Q xs f o.1)
  where
    by : (name : List ℕ) → IsPlain name ⊎ ((who : Party) × P who name × AllByRecursion (NotFrom who) xs) → IsPlain name ⊎ ((who : Party) × Q who name × AllByRecursion (NotFrom who) xs)
    by name (inl p) = inl p
    by name (inr a) = inr (a.0, f a.0 name a.1, a.2)

-- CHANGES OF AN END
pub record Keeps_order (P : Party → List ℕ → Type 0) (e d : End) : Type 0 where
  pub whose : d.who ≡ e.who
  pub order : Ordered P e.down → Ordered P d.down
  pub silent : (who : Party) (name : List ℕ) → P who name → AllByRecursion (NotFrom who) e.down → AllByRecursion (NotFrom who) d.down

rest_ordered : (P : Party → List ℕ → Type 0) (ls : List Letter) → Ordered P ls → Ordered P (rest_of ls)
rest_ordered P [] o = tt
rest_ordered P (x ∷ xs) o = o.1

all_rest : (Q : Letter → Type 0) (ls : List Letter) → AllByRecursion Q ls → AllByRecursion Q (rest_of ls)
all_rest Q [] a = tt
all_rest Q (x ∷ xs) a = a.1

pub ordering : (P : Party → List ℕ → Type 0) → IsOrder (Keeps_order P)
ordering P = record {
  same = λ e. record { whose = refl; order = λ o. o; silent = λ who name p a. a };
  both = λ e d c f g. record { whose = g.whose ∙ f.whose; order = λ o. g.order (f.order o); silent = λ who name p a. g.silent who name p (f.silent who name p a) };
}

pub same_order : (P : Party → List ℕ → Type 0) (e d : End) → d.who ≡ e.who → d.down ≡ e.down → Keeps_order P e d
same_order P e d who down = record { whose = who; order = λ o. subst (Ordered P) (sym down) o; silent = λ party name p a. subst (AllByRecursion (NotFrom party)) (sym down) a }

put_order : (P : Party → List ℕ → Type 0) (l : Letter) → ((who : Party) (name : List ℕ) → P who name → l.from ≡ who → ⊥) → IsNews P l [] → (e : End) → Keeps_order P e (put_down l e)
put_order P l other news e = record {
  whose = refl;
  order = λ o. put_ordered P e.down l other news o;
  silent = λ who name p a. all_append (NotFrom who) e.down (l ∷ []) a (other who name p, tt);
}

leave_order : (P : Party → List ℕ → Type 0) (e : End) → Keeps_order P e (leaves e)
leave_order P e = record { whose = refl; order = λ o. tt; silent = λ who name p a. tt }

pub rest_order : (P : Party → List ℕ → Type 0) (e : End) → Keeps_order P e (taken_down e)
rest_order P e = record { whose = refl; order = λ o. rest_ordered P e.down o; silent = λ who name p a. all_rest (NotFrom who) e.down a }

-- WHO LEFT, and under which name
pub record AwayAs (ends : List End) (who : Party) (name : List ℕ) : Type 0 where
  pub conn : ℕ
  pub e : End
  pub there : end_at ends conn ≡ Some e
  pub whose : e.who ≡ who
  pub unique : e.unique ≡ Some name
  pub out : e.standing ≡ away

pub record Stays (e d : End) : Type 0 where
  pub whose : d.who ≡ e.who
  pub keeps : (name : List ℕ) → e.unique ≡ Some name → d.unique ≡ Some name
  pub out : e.standing ≡ away → d.standing ≡ away

pub staying : IsOrder Stays
staying = record {
  same = λ e. record { whose = refl; keeps = λ name h. h; out = λ h. h };
  both = λ e d c f g. record { whose = g.whose ∙ f.whose; keeps = λ name h. g.keeps name (f.keeps name h); out = λ h. g.out (f.out h) };
}

pub stays_as : (e d : End) → d.who ≡ e.who → d.unique ≡ e.unique → d.standing ≡ e.standing → Stays e d
stays_as e d who unique standing = record { whose = who; keeps = λ name h. unique ∙ h; out = λ h. standing ∙ h }

put_stays : (l : Letter) (e : End) → Stays e (put_down l e)
put_stays l e = stays_as e (put_down l e) refl refl refl

leave_stays : (e : End) → Stays e (leaves e)
leave_stays e = record { whose = refl; keeps = λ name h. h; out = λ h. refl }

name_stays : (b : Bus) (conn : ℕ) (e : End) → Stays e (named b conn e)
name_stays b conn e = record { whose = refl; keeps = λ name h. ap (λ o. first_of o (unique_of b.state.owners conn)) h; out = λ h. h }

pub away_over : (a b : List End) → Over Stays a b → (who : Party) (name : List ℕ) → AwayAs a who name → AwayAs b who name
away_over a b o who name x =
    let d = forward Stays a b x.conn x.e o x.there in
    record { conn = x.conn; e = d.0; there = d.1; whose = d.2.whose ∙ x.whose; unique = d.2.keeps name x.unique; out = d.2.out x.out }

-- WHAT IS KEPT: the order on each link; and of each end that was told, that it left and that nothing of it is on its way to who told it
abbrev pub Silent : List End → Entry → Type 0
Silent ends (gone r a) = ((name : List ℕ) × AwayAs ends (App a) name) × ((k : ℕ) (e : End) → end_at ends k ≡ Some e → e.who ≡ Reader r → AllByRecursion (NotFrom (App a)) e.down)
Silent ends entry = Unit {0}

pub record Told_ends (es : List Entry) (ends : List End) : Type 0 where
  pub links : (k : ℕ) (e : End) → end_at ends k ≡ Some e → Ordered (AwayAs ends) e.down
  pub ended : AllByRecursion (Silent ends) es

pub transfer : (es : List Entry) (a b : List End) (P : Party → List ℕ → Type 0) → ((who : Party) (name : List ℕ) → AwayAs a who name → P who name) → ((who : Party) (name : List ℕ) → P who name → AwayAs b who name)
    → Over (Keeps_order P) a b → Told_ends es a → Told_ends es b
transfer es a b P into out o t = record {
  links = λ k d h. let x = o.back k d h in ordered_of P (AwayAs b) d.down out (x.2.order (ordered_of (AwayAs a) P x.0.down into (t.links k x.0 x.1)));
  ended = all_map (Silent a) (Silent b) es one t.ended;
}
  where
    one : (entry : Entry) → Silent a entry → Silent b entry
    one (gone r app) s =
        ((s.0.0, out (App app) s.0.0 (into (App app) s.0.0 s.0.1)), λ k d h who. let x = o.back k d h in x.2.silent (App app) s.0.0 (into (App app) s.0.0 s.0.1) (s.1 k x.0 x.1 (sym x.2.whose ∙ who)))
    one entry s = tt

-- NAMES that the bus knows are those of ends
abbrev pub HasName : List End → ℕ → List ℕ → Type 0
HasName ends k name = (e : End) × (end_at ends k ≡ Some e) × (e.unique ≡ Some name)

abbrev pub HasNames : Owners → List End → Type 0
HasNames owners ends = (k : ℕ) (name : List ℕ) → unique_of owners k ≡ Some name → HasName ends k name

pub name_over : (a b : List End) → Over Stays a b → (k : ℕ) (name : List ℕ) → HasName a k name → HasName b k name
name_over a b o k name h = let d = forward Stays a b k h.0 o h.1 in (d.0, d.1, d.2.keeps name h.2)

gone_has : (owners : Owners) (conn k : ℕ) (name : List ℕ) → unique_of (after_gone owners conn) k ≡ Some name → unique_of owners k ≡ Some name
gone_has owners conn k name h = by (eq_by_cmp nat_cmp k conn) (sym (get-remove nat_cmp_total owners.unique conn k) ∙ h)
  where
    by : (b : Bool) → cond b None (finmap.get owners.unique k) ≡ Some name → unique_of owners k ≡ Some name
    by true g = absurd (no_none name g)
    by false g = g

-- A CONNECTION LEAVES
pub left_stays : (c : Carried) (conn : ℕ) → Over Stays c.ends (left c conn).ends
left_stays c conn = left_over Stays staying (λ m e. put_stays (own_letter m) e) leave_stays c conn

pub settled_stays : (rounds : ℕ) (c : Carried) → Over Stays c.ends (settled rounds c).ends
settled_stays rounds c = settled_over Stays staying (λ m e. put_stays (own_letter m) e) leave_stays rounds c

abbrev without : Carried → ℕ → Carried
without c conn = record { bus = record c.bus { waiting = without_queue c.bus.waiting conn }; ends = with_end conn leaves c.ends }

leaver : (c : Carried) (conn : ℕ) (name : List ℕ) → HasName c.ends conn name → (who : Party) × AwayAs (left c conn).ends who name
leaver c conn name h =
    let at : AwayAs (without c conn).ends h.0.who name = record { conn = conn; e = leaves h.0; there = at_changed leaves c.ends conn h.0 h.1; whose = refl; unique = h.2; out = refl } in
    (h.0.who, away_over (without c conn).ends (left c conn).ends (stepped_over Stays staying own_letter (λ m e. put_stays (own_letter m) e) (without c conn) (bus_leaves c.bus.state conn)) h.0.who name at)

module _ (P : Party → List ℕ → Type 0) (no_bus : (who : Party) (name : List ℕ) → P who name → who ≡ The_bus → ⊥) where
  pub left_order : (c : Carried) (conn : ℕ) → HasNames c.bus.state.owners c.ends → ((who : Party) (name : List ℕ) → AwayAs (left c conn).ends who name → P who name) → Over (Keeps_order P) c.ends (left c conn).ends
  left_order c conn names up =
      over_both (Keeps_order P) (ordering P) c.ends (with_end conn leaves c.ends) _ (over_with (Keeps_order P) (ordering P) leaves (leave_order P) conn c.ends)
      (stepped_put (Keeps_order P) (ordering P) own_letter (without c conn) (bus_leaves c.bus.state conn)
      (all_map (HandsOn (TellsOf (Leaving c.bus.state conn))) (HandsOn (λ m. (e : End) → Keeps_order P e (put_down (own_letter m) e))) (bus_leaves c.bus.state conn).moves puts (leaves_tell c.bus.state conn)))
    where
      by : (name : List ℕ) → Leaving c.bus.state conn name → IsPlain name ⊎ ((who : Party) × P who name × AllByRecursion (NotFrom who) [])
      by name (inl p) = inl p
      by name (inr u) = let x = leaver c conn name (names conn name u) in inr (x.0, up x.0 name x.1, tt)

      puts : (move : Move) → HandsOn (TellsOf (Leaving c.bus.state conn)) move → HandsOn (λ m. (e : End) → Keeps_order P e (put_down (own_letter m) e)) move
      puts (delivers k m) t = put_order P (own_letter m) (λ who name p is. no_bus who name p (sym is)) (λ from name told. by name (t name told))
      puts (says m) t = tt
      puts (closes k) t = tt

  one_order : (c : Carried) (due : List (ℕ × Why)) → HasNames c.bus.state.owners c.ends → ((who : Party) (name : List ℕ) → AwayAs (one_closed c due).ends who name → P who name)
      → Over (Keeps_order P) c.ends (one_closed c due).ends
  one_order c [] names up = over_same (Keeps_order P) (ordering P) c.ends
  one_order c (first ∷ rest) names up = left_order c first.0 names up

pub left_names : (c : Carried) (conn : ℕ) → HasNames c.bus.state.owners c.ends → HasNames (after_gone c.bus.state.owners conn) (left c conn).ends
left_names c conn names k name h = name_over c.ends (left c conn).ends (left_stays c conn) k name (names k name (gone_has c.bus.state.owners conn k name h))

one_names : (c : Carried) (due : List (ℕ × Why)) → HasNames c.bus.state.owners c.ends → HasNames (one_closed c due).bus.state.owners (one_closed c due).ends
one_names c [] names = names
one_names c (first ∷ rest) names = left_names c first.0 names

pub settled_names : (rounds : ℕ) (c : Carried) → HasNames c.bus.state.owners c.ends → HasNames (settled rounds c).bus.state.owners (settled rounds c).ends
settled_names zero c names = names
settled_names (suc rounds) c names = settled_names rounds (one_closed c c.bus.waiting.due) (one_names c c.bus.waiting.due names)

pub settled_order : (P : Party → List ℕ → Type 0) → ((who : Party) (name : List ℕ) → P who name → who ≡ The_bus → ⊥) → (rounds : ℕ) (c : Carried) → HasNames c.bus.state.owners c.ends
    → ((who : Party) (name : List ℕ) → AwayAs (settled rounds c).ends who name → P who name) → Over (Keeps_order P) c.ends (settled rounds c).ends
settled_order P no_bus zero c names up = over_same (Keeps_order P) (ordering P) c.ends
settled_order P no_bus (suc rounds) c names up =
    let d : Carried = one_closed c c.bus.waiting.due in
    over_both (Keeps_order P) (ordering P) c.ends d.ends (settled rounds d).ends
    (one_order P no_bus c c.bus.waiting.due names (λ who name a. up who name (away_over d.ends (settled rounds d).ends (settled_stays rounds d) who name a)))
    (settled_order P no_bus rounds d (one_names c c.bus.waiting.due names) up)

-- THE BUS TAKES A MESSAGE
other_same : (s : BusState) (conn : ℕ) (e : Envelope) (rule : Option (List Condition)) (k : ℕ) → (k ≡ conn → ⊥) → unique_of (bus_takes s conn e rule).state.owners k ≡ unique_of s.owners k
other_same s conn e rule k differ = by (unique_of s.owners conn) refl
  where
    hello_by : (b : Bool) → unique_of (if b then greets s conn e else record { state = s; moves = closes conn ∷ [] }).state.owners k ≡ unique_of s.owners k
    hello_by true = hello_other s conn k e differ
    hello_by false = refl

    by : (o : Option (List ℕ)) → unique_of s.owners conn ≡ o → unique_of (bus_takes s conn e rule).state.owners k ≡ unique_of s.owners k
    by (Some own) h = ap (λ u. finmap.get u k) (takes_same s conn e rule own h).0
    by None h = rw h (hello_by (is_hello e))

own_same : (s : BusState) (conn : ℕ) (e : Envelope) (rule : Option (List Condition)) (o : Option (List ℕ)) → unique_of s.owners conn ≡ o
    → (o ≡ None) ⊎ (unique_of (bus_takes s conn e rule).state.owners conn ≡ o)
own_same s conn e rule None h = inl refl
own_same s conn e rule (Some own) h = inr (ap (λ u. finmap.get u conn) (takes_same s conn e rule own h).0 ∙ h)

module _ (c : Carried) (conn : ℕ) (who : Party) (said : Said) where
  abbrev step : BusStep
  step = bus_takes c.bus.state conn said.message (rule_in said.message)

  abbrev base : Carried
  base = record c { ends = with_end conn taken_up c.ends }

  abbrev st : Carried
  st = stepped (letter_of who said) base step

  abbrev pub now_named : Carried
  now_named = with_name conn st

  same_before : Over SameName c.ends st.ends
  same_before =
      over_both SameName same_name c.ends base.ends st.ends (over_with SameName same_name taken_up (λ e. alike e (taken_up e) refl refl refl) conn c.ends)
      (stepped_over SameName same_name (letter_of who said) (λ m e. alike e (put_down (letter_of who said m) e) refl refl refl) base step)

  pub named_stays : Over Stays c.ends now_named.ends
  named_stays =
      over_both Stays staying c.ends base.ends now_named.ends (over_with Stays staying taken_up (λ e. stays_as e (taken_up e) refl refl refl) conn c.ends)
      (over_both Stays staying base.ends st.ends now_named.ends (stepped_over Stays staying (letter_of who said) (λ m e. put_stays (letter_of who said m) e) base step)
      (over_with Stays staying (named st.bus conn) (name_stays st.bus conn) conn st.ends))

  pub named_names : (x : End) → end_at c.ends conn ≡ Some x → unique_of c.bus.state.owners conn ≡ x.unique → HasNames c.bus.state.owners c.ends → HasNames now_named.bus.state.owners now_named.ends
  named_names x there owner names k name h = by (k == conn) refl
    where
      picked : (o u : Option (List ℕ)) → (o ≡ None) ⊎ (u ≡ o) → u ≡ Some name → first_of o u ≡ Some name
      picked None u g q = q
      picked (Some own) u (inl g) q = absurd (no_none own (sym g))
      picked (Some own) u (inr g) q = sym g ∙ q

      by : (b : Bool) → (k == conn) ≡ b → HasName now_named.ends k name
      by true g =
          let at : k ≡ conn = eqb-true k conn g in
          let y = forward SameName c.ends st.ends conn x same_before there in
          let has : unique_of step.state.owners conn ≡ Some name = ap (unique_of step.state.owners) (sym at) ∙ h in (
            named st.bus conn y.0,
            ap (end_at now_named.ends) at ∙ at_changed (named st.bus conn) st.ends conn y.0 y.1,
            ap (λ o. first_of o (unique_of step.state.owners conn)) (y.2.unique ∙ sym owner)
                ∙ picked (unique_of c.bus.state.owners conn) (unique_of step.state.owners conn) (own_same c.bus.state conn said.message (rule_in said.message) (unique_of c.bus.state.owners conn) refl) has,
          )
      by false g =
          name_over c.ends now_named.ends named_stays k name
          (names k name (sym (other_same c.bus.state conn said.message (rule_in said.message) k (λ same. false_true (sym g ∙ eq-eqb k conn same))) ∙ h))

  pub named_order : (P : Party → List ℕ → Type 0) → NoneIsBus c.bus.state.owners → (who ≡ The_bus → ⊥) → ((party : Party) (name : List ℕ) → P party name → party ≡ The_bus → ⊥)
      → ((party : Party) (name : List ℕ) → P party name → who ≡ party → ⊥) → Over (Keeps_order P) c.ends now_named.ends
  named_order P none not_bus no_bus other =
      over_both (Keeps_order P) (ordering P) c.ends base.ends now_named.ends (over_with (Keeps_order P) (ordering P) taken_up (λ e. same_order P e (taken_up e) refl refl) conn c.ends)
      (over_both (Keeps_order P) (ordering P) base.ends st.ends now_named.ends
      (stepped_put (Keeps_order P) (ordering P) (letter_of who said) base step
      (all_map (HandsOn Comes) (HandsOn (λ m. (e : End) → Keeps_order P e (put_down (letter_of who said m) e))) step.moves puts (takes_comes c.bus.state conn said.message (rule_in said.message) none)))
      (over_with (Keeps_order P) (ordering P) (named st.bus conn) (λ e. same_order P e (named st.bus conn e) refl refl) conn st.ends))
    where
      put : (m : Envelope) → Comes m → (e : End) → Keeps_order P e (put_down (letter_of who said m) e)
      put m h e = by (is_text m.sender own_name) refl h
        where
          by : (b : Bool) → is_text m.sender own_name ≡ b → Comes m → Keeps_order P e (put_down (if b then own_letter m else record { from = who; said = record said { message = m } }) e)
          by true g (inl t) = put_order P (own_letter m) (λ party name p is. no_bus party name p (sym is)) (λ from name told. inl (t name told)) e
          by true g (inr o) = absurd (false_true (sym o ∙ g))
          by false g t = put_order P (record { from = who; said = record said { message = m } }) other (λ from name told. absurd (not_bus from)) e

      puts : (move : Move) → HandsOn Comes move → HandsOn (λ m. (e : End) → Keeps_order P e (put_down (letter_of who said m) e)) move
      puts (delivers k m) h = put m h
      puts (says m) h = tt
      puts (closes k) h = tt
