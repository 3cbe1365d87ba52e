-- Who owns a name has a unique name of its own and an end, and nobody who left has one, along a lawful trace.
use Rattle.std.proofs.Common.{◌≡◌, ◌⊎◌, inl, inr, ℕ, zero, suc, ◌<◌, ◌^◌, Bool, true, false, List, [], ◌∷◌, length, Option, None, Some, refl, sym, ap, ◌∙◌, subst, is_some, cond}
use Rattle.std.specs.Prelude.{◌==◌, nat_le, get_or, if◌then◌else◌, Result, Ok, Err}
use Rattle.std.specs.List.{AllByRecursion}
use Rattle.std.specs.FinMap as finmap
use Rattle.std.specs.FinMap.{get-remove}
use Rattle.std.specs.Cmp.{nat_cmp_total, eq_by_cmp_equiv}
use Rattle.std.proofs.lemmas.Bool.{leb-true, leb-false}
use Rattle.std.proofs.lemmas.Option.{slice_get-get_or}
use Rattle.atspi_script_lines.specs.declared.line.Party.{Party}
use Rattle.atspi_match.specs.declared.condition.Condition.{Condition}
use Rattle.atspi_message.specs.Envelope.{Envelope}
use Rattle.atspi_names.specs.Owners.{Owners, list_of, unique_name, after_gone}
use Rattle.atspi_names.specs.Queue.{owner_in}
use Rattle.atspi_names.proofs.BookLemmas.{list_of-lists_without}
use Rattle.atspi_protocol.specs.ends.Places.{registry}
use Rattle.atspi_match.specs.declared.routing.closing.Why.{Why}
use Rattle.atspi_match.specs.declared.routing.member.BusMember.{BusMember}
use Rattle.atspi_match.specs.routing.BusState.{OpenCall, BusState, unique_of}
use Rattle.atspi_match.specs.routing.Members.{member_of}
use Rattle.atspi_match.specs.routing.Routing.{receivers, is_for_bus, owners_of, one_or_none}
use Rattle.atspi_match.specs.routing.Steps.{handed, speaks, called, undeliverable, is_unowned, calls_after_all, is_hello, greets, closes, bus_takes, bus_leaves}
use Rattle.atspi_match.specs.routing.Queues.{without_queue}
use Rattle.atspi_trace.specs.Entry.{Entry}
use Rattle.atspi_trace.specs.Rules.{rule_in}
use Rattle.atspi_trace.specs.World.{Standing, here, away, Said, first_registry, End, World}
use Rattle.atspi_trace.specs.Ends.{is_here, is_reader, end_at, with_end, taken_up, leaves}
use Rattle.atspi_trace.specs.Carrying.{Carried, own_letter, letter_of, stepped, left, one_closed, settled, named, with_name, takes, takes_end}
use Rattle.atspi_trace_laws.proofs.OfOrder.Parties.{same_some, false_true}
use Rattle.atspi_trace_laws.proofs.OfOrder.Frame.{over_with, stepped_over, with_cases}
use Rattle.atspi_trace_laws.proofs.OfOrder.Each.{all_map}
use Rattle.atspi_trace_laws.proofs.OfDrops.Reaching.{AreIn, answers_in, with_in}
use Rattle.atspi_trace_laws.proofs.OfNames.Naming.{called_same, takes_same, hello_here, hello_other, gone_other, gone_less}
use Rattle.atspi_trace_laws.proofs.OfNames.LawNames.{Named}
use Rattle.atspi_trace_laws.proofs.OfSigned.Unique.{IsIn, owner_has}
use Rattle.atspi_trace_laws.proofs.OfSigned.LawMail.{Mail}
use Rattle.atspi_trace_laws.proofs.OfOrder.Shape.{Shape}
use Rattle.atspi_trace_caches.proofs.OfServed.Owning.{KeepsName, alone}
use Rattle.atspi_trace_laws.proofs.OfMissed.Settling.{others_in}
use Rattle.atspi_trace_caches.proofs.OfSettled.Replying.{carried, Keeps_links, keeping, put_keeps, name_keeps}
use Rattle.atspi_trace_caches.proofs.OfSettled.ReplyingOwners.{Owned, takes_owned, gone_owned}
use Rattle.atspi_trace_caches.proofs.OfSettled.ReplyingCarried.{CalleesAre}

-- WHO STANDS IN A LIST has a unique name
abbrev pub HasName : Owners → ℕ → Type 0
HasName o c = is_some (unique_of o c) ≡ true

abbrev pub ListsNamed : Owners → Type 0
ListsNamed o = AreIn (HasName o) o.lists

-- lists of those of whom this is said, where it is said of more
more_in : (P Q : ℕ → Type 0) (o : Owners) → ((c : ℕ) → P c → Q c) → AreIn P o.lists → AreIn Q o.lists
more_in P Q o f a q = all_map (λ (p : ℕ × ℕ). P p.0) (λ (p : ℕ × ℕ). Q p.0) (list_of o.lists q) (λ p h. f p.0 h) (a q)

called_in : (P : ℕ → Type 0) (s : BusState) (conn : ℕ) (e : Envelope) (rule : Option (List Condition)) → P conn → AreIn P s.owners.lists → AreIn P (called s conn e rule).state.owners.lists
called_in P s conn e rule h a = by (member_of e) refl
  where
    by : (r : Result BusMember (List ℕ)) → member_of e ≡ r → AreIn P (called s conn e rule).state.owners.lists
    by (Ok member) g = rw g (answers_in P member s conn e.body rule h a)
    by (Err name) g = rw g a

pub called_lists_named : (s : BusState) (conn : ℕ) (e : Envelope) (rule : Option (List Condition)) → HasName s.owners conn → ListsNamed s.owners → ListsNamed (called s conn e rule).state.owners
called_lists_named s conn e rule h a =
    more_in (HasName s.owners) (HasName (called s conn e rule).state.owners) (called s conn e rule).state.owners (λ c g. ap (λ u. is_some (finmap.get u c)) (called_same s conn e rule).0 ∙ g) (called_in (HasName s.owners) s conn e rule h a)

named_in : (P : ℕ → Type 0) (a b c : Bool) (s : BusState) (conn : ℕ) (e : Envelope) (rule : Option (List Condition)) (calls : List OpenCall) → P conn → AreIn P s.owners.lists
    → AreIn P (if a then (if b then called s conn e rule else speaks s []) else (if c then undeliverable s conn e else record { state = record s { calls = calls }; moves = handed s e })).state.owners.lists
named_in P true true c s conn e rule calls h l = called_in P s conn e rule h l
named_in P true false c s conn e rule calls h l = l
named_in P false b true s conn e rule calls h l = l
named_in P false b false s conn e rule calls h l = l

-- the names of all but who says Hello are as before
pub takes_other : (s : BusState) (conn k : ℕ) (e : Envelope) (rule : Option (List Condition)) → (k ≡ conn → ⊥) → unique_of (bus_takes s conn e rule).state.owners k ≡ unique_of s.owners k
takes_other s conn k e rule differ = by (unique_of s.owners conn) refl
  where
    hello_by : (b : Bool) → unique_of (if b then greets s conn e else record { state = s; moves = closes conn ∷ [] }).state.owners k ≡ unique_of s.owners k
    hello_by true = hello_other s conn k e differ
    hello_by false = refl

    by : (o : Option (List ℕ)) → unique_of s.owners conn ≡ o → unique_of (bus_takes s conn e rule).state.owners k ≡ unique_of s.owners k
    by (Some own) h = ap (λ u. finmap.get u k) (takes_same s conn e rule own h).0
    by None h = rw h (hello_by (is_hello e))

pub takes_lists_named : (s : BusState) (conn : ℕ) (e : Envelope) (rule : Option (List Condition)) → ListsNamed s.owners → ListsNamed (bus_takes s conn e rule).state.owners
takes_lists_named s conn e rule a = by (unique_of s.owners conn) refl
  where
    -- whoever had a name has one
    still : unique_of s.owners conn ≡ None → (c : ℕ) → HasName s.owners c → HasName (greets s conn e).state.owners c
    still none c h = ap is_some (hello_other s conn c e (λ same. false_true (sym (ap is_some (ap (unique_of s.owners) same ∙ none)) ∙ h))) ∙ h

    hello_by : (b : Bool) → unique_of s.owners conn ≡ None → ListsNamed (if b then greets s conn e else record { state = s; moves = closes conn ∷ [] }).state.owners
    hello_by true none =
        with_in (HasName (greets s conn e).state.owners) s.owners.lists (unique_name s.owners.given) ((conn, 0) ∷ []) (more_in (HasName s.owners) (HasName (greets s conn e).state.owners) s.owners (still none) a) (ap is_some (hello_here s conn e), tt)
    hello_by false none = a

    as_before : (own : List ℕ) → unique_of s.owners conn ≡ Some own → (c : ℕ) → HasName s.owners c → HasName (bus_takes s conn e rule).state.owners c
    as_before own h c g = ap (λ u. is_some (finmap.get u c)) (takes_same s conn e rule own h).0 ∙ g

    lists_by : (own : List ℕ) → unique_of s.owners conn ≡ Some own → AreIn (HasName s.owners) (bus_takes s conn e rule).state.owners.lists
    lists_by own h =
        let m : Envelope = record e { sender = Some own } in
        rw h (named_in (HasName s.owners) (is_for_bus m) (e.kind == 1) (is_unowned e.destination (receivers s m)) s conn m rule (calls_after_all s.calls conn m (receivers s m)) (ap is_some h) a)

    by : (o : Option (List ℕ)) → unique_of s.owners conn ≡ o → ListsNamed (bus_takes s conn e rule).state.owners
    by (Some own) h = more_in (HasName s.owners) (HasName (bus_takes s conn e rule).state.owners) (bus_takes s conn e rule).state.owners (as_before own h) (lists_by own h)
    by None h = rw h (hello_by (is_hello e) h)

pub gone_lists_named : (o : Owners) (conn : ℕ) → ListsNamed o → ListsNamed (after_gone o conn)
gone_lists_named o conn a q =
    subst (AllByRecursion (λ (p : ℕ × ℕ). HasName (after_gone o conn) p.0)) (sym (list_of-lists_without conn o.lists q))
    (others_in (HasName o) (HasName (after_gone o conn)) conn (λ c h differ. ap is_some (gone_other o conn c (λ same. differ (sym same))) ∙ h) (list_of o.lists q) (a q))

-- WHO LEFT HAS NONE
abbrev pub AwayNone : Carried → Type 0
AwayNone c = (k : ℕ) (e : End) → end_at c.ends k ≡ Some e → e.standing ≡ away → unique_of c.bus.state.owners k ≡ None

gone_none : (o : Owners) (conn : ℕ) → unique_of (after_gone o conn) conn ≡ None
gone_none o conn = get-remove nat_cmp_total o.unique conn conn ∙ ap (λ b. cond b None (finmap.get o.unique conn)) ((eq_by_cmp_equiv nat_cmp_total).refl conn)

left_none : (c : Carried) (conn : ℕ) → AwayNone c → AwayNone (left c conn)
left_none c conn a k z there gone = at y.2
  where
    x : (e : End) × (end_at (with_end conn leaves c.ends) k ≡ Some e) × Keeps_links e z
    x = (stepped_over Keeps_links keeping own_letter (λ m e. put_keeps (own_letter m) e) (record { bus = record c.bus { waiting = without_queue c.bus.waiting conn }; ends = with_end conn leaves c.ends }) (bus_leaves c.bus.state conn)).back k z there

    y : (e : End) × (end_at c.ends k ≡ Some e) × (((k ≡ conn) × (x.0 ≡ leaves e)) ⊎ ((k ≡ conn → ⊥) × (x.0 ≡ e)))
    y = with_cases leaves c.ends conn k x.0 x.1

    at : (((k ≡ conn) × (x.0 ≡ leaves y.0)) ⊎ ((k ≡ conn → ⊥) × (x.0 ≡ y.0))) → unique_of (after_gone c.bus.state.owners conn) k ≡ None
    at (inl h) = ap (unique_of (after_gone c.bus.state.owners conn)) h.0 ∙ gone_none c.bus.state.owners conn
    at (inr h) = gone_less c.bus.state.owners conn k (a k y.0 y.1 (ap (λ (e : End). e.standing) (sym h.1) ∙ sym x.2.standing ∙ gone))

-- THE LISTS, and who left, of a bus at work
pub record Owns (c : Carried) : Type 0 where
  pub owned : Owned c.bus.state.owners
  pub lists : ListsNamed c.bus.state.owners
  pub none : AwayNone c

pub left_owns : (c : Carried) (conn : ℕ) → Owns c → Owns (left c conn)
left_owns c conn o = record { owned = gone_owned c.bus.state.owners conn o.owned; lists = gone_lists_named c.bus.state.owners conn o.lists; none = left_none c conn o.none }

pub one_owns : (c : Carried) (due : List (ℕ × Why)) → Owns c → Owns (one_closed c due)
one_owns c [] o = o
one_owns c (first ∷ rest) o = let x : Owns (left c first.0) = left_owns c first.0 o in record { owned = x.owned; lists = x.lists; none = x.none }

settled_owns : (rounds : ℕ) (c : Carried) → Owns c → Owns (settled rounds c)
settled_owns zero c o = o
settled_owns (suc rounds) c o = settled_owns rounds (one_closed c c.bus.waiting.due) (one_owns c c.bus.waiting.due o)

pub ends_owns : (c : Carried) (conn : ℕ) → Owns c → Owns (takes_end c conn)
ends_owns c conn o = settled_owns (length c.bus.state.joined) (left c conn) (left_owns c conn o)

here_not_away : (s : Standing) → s ≡ here → s ≡ away → ⊥
here_not_away s h g = false_true (sym (ap is_here g) ∙ ap is_here h)

-- before those are closed who are to be
abbrev pub took_step : Carried → ℕ → Party → Said → Carried
took_step c conn who said = stepped (letter_of who said) (record c { ends = with_end conn taken_up c.ends }) (bus_takes c.bus.state conn said.message (rule_in said.message))

took_none : (c : Carried) (conn : ℕ) (who : Party) (said : Said) (e : End) → end_at c.ends conn ≡ Some e → e.standing ≡ here → AwayNone c → AwayNone (with_name conn (took_step c conn who said))
took_none c conn who said e there on none k z at gone = by y.2
  where
    v : (d : End) × (end_at (took_step c conn who said).ends k ≡ Some d) × Keeps_links d z
    v =
        (over_with Keeps_links keeping (named (took_step c conn who said).bus conn) (name_keeps (took_step c conn who said).bus conn) conn (took_step c conn who said).ends).back k z at

    x : (d : End) × (end_at (with_end conn taken_up c.ends) k ≡ Some d) × Keeps_links d v.0
    x =
        (stepped_over Keeps_links keeping (letter_of who said) (λ m d. put_keeps (letter_of who said m) d) (record c { ends = with_end conn taken_up c.ends }) (bus_takes c.bus.state conn said.message (rule_in said.message))).back k v.0 v.1

    y : (d : End) × (end_at c.ends k ≡ Some d) × (((k ≡ conn) × (x.0 ≡ taken_up d)) ⊎ ((k ≡ conn → ⊥) × (x.0 ≡ d)))
    y = with_cases taken_up c.ends conn k x.0 x.1

    was : x.0.standing ≡ away
    was = sym x.2.standing ∙ sym v.2.standing ∙ gone

    by : (((k ≡ conn) × (x.0 ≡ taken_up y.0)) ⊎ ((k ≡ conn → ⊥) × (x.0 ≡ y.0))) → unique_of (bus_takes c.bus.state conn said.message (rule_in said.message)).state.owners k ≡ None
    by (inl h) =
        let same : y.0 ≡ e = same_some y.0 e (sym y.1 ∙ ap (end_at c.ends) h.0 ∙ there) in
        absurd (here_not_away y.0.standing (ap (λ (d : End). d.standing) same ∙ on) (ap (λ (d : End). d.standing) (sym h.1) ∙ was))
    by (inr h) = takes_other c.bus.state conn k said.message (rule_in said.message) h.0 ∙ none k y.0 y.1 (ap (λ (d : End). d.standing) (sym h.1) ∙ was)

pub took_owns : (c : Carried) (conn : ℕ) (who : Party) (said : Said) (e : End) → end_at c.ends conn ≡ Some e → e.standing ≡ here → c.bus.state.owners.given < 2 ^ 32 → Owns c → Owns (with_name conn (took_step c conn who said))
took_owns c conn who said e there on small o = record {
  owned = takes_owned c.bus.state conn said.message (rule_in said.message) small o.owned;
  lists = takes_lists_named c.bus.state conn said.message (rule_in said.message) o.lists;
  none = took_none c conn who said e there on o.none;
}

pub takes_owns : (c : Carried) (conn : ℕ) (who : Party) (said : Said) (e : End) → end_at c.ends conn ≡ Some e → e.standing ≡ here → c.bus.state.owners.given < 2 ^ 32 → Owns c → Owns (takes c conn who said)
takes_owns c conn who said e there on small o = settled_owns (length c.bus.state.joined) (with_name conn (took_step c conn who said)) (took_owns c conn who said e there on small o)

-- SO WHO OWNS A NAME is such that a call can be answered
first_is : (P : ℕ → Type 0) (x : ℕ) (l : List (ℕ × ℕ)) → AllByRecursion (λ (p : ℕ × ℕ). P p.0) l → IsIn x (one_or_none (owner_in l)) → P x
first_is P x [] a i = absurd i
first_is P x (p ∷ ps) a (inl same) = subst P (sym same) a.0
first_is P x (p ∷ ps) a (inr i) = absurd i

pub callees_are : (es : List Entry) (w : World) → Shape w → Named es w → Mail es w → KeepsName w.bus.state.owners → Owns (carried w) → CalleesAre (carried w)
callees_are es w s n mail keeps o x to i = record {
  known = known;
  d = get_or w.ends x first_registry;
  there = there;
  mute = λ on reader. (λ unique. sym ((n.ends x (get_or w.ends x first_registry) there).owner on) ∙ owner_has w.bus.state to x mail.lists unique i, λ same. no_reader reader (its_owner keeps (subst (λ q. IsIn x (owners_of w.bus.state q)) same i)));
}
  where
    -- the registry alone owns its name
    first_alone : (l : List (ℕ × ℕ)) → (l ≡ alone) ⊎ (l ≡ []) → IsIn x (one_or_none (owner_in l)) → x ≡ 0
    first_alone l (inl h) g = by_alone (subst (λ y. IsIn x (one_or_none (owner_in y))) h g)
      where
        by_alone : (x ≡ 0) ⊎ ⊥ → x ≡ 0
        by_alone (inl q) = q
        by_alone (inr q) = absurd q
    first_alone l (inr h) g = absurd (subst (λ y. IsIn x (one_or_none (owner_in y))) h g)

    its_owner : KeepsName w.bus.state.owners → IsIn x (owners_of w.bus.state registry) → x ≡ 0
    its_owner (inl h) g = first_alone (list_of w.bus.state.owners.lists registry) (inl h) g
    its_owner (inr h) g = first_alone (list_of w.bus.state.owners.lists registry) (inr h.0) g

    known : HasName w.bus.state.owners x
    known = first_is (HasName w.bus.state.owners) x (list_of w.bus.state.owners.lists to) (o.lists to) i

    below : (b : Bool) → nat_le (length w.ends) x ≡ b → x < length w.ends
    below true h = absurd (false_true (sym (ap is_some (n.free x (leb-true (length w.ends) x h))) ∙ known))
    below false h = leb-false (length w.ends) x h

    there : end_at w.ends x ≡ Some (get_or w.ends x first_registry)
    there = slice_get-get_or w.ends x first_registry (below (nat_le (length w.ends) x) refl)

    no_reader : is_reader (get_or w.ends x first_registry).who ≡ true → x ≡ 0 → ⊥
    no_reader reader first = false_true (ap is_reader (sym (s.registry (get_or w.ends x first_registry) (ap (end_at w.ends) (sym first) ∙ there))) ∙ reader)
