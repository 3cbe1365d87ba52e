-- WHO STANDS HOW by the words of the run: an end is here until it exits, stopped until the bus takes its end, and away from then on, or from its drop on.
use Rattle.std.proofs.Common.{◌≡◌, ◌⊎◌, inl, inr, ℕ, zero, suc, ◌+◌, ◌≤◌, is_some, Bool, true, false, List, [], ◌∷◌, ◌++◌, length, map, Option, None, Some, refl, sym, ap, ap₂, ◌∙◌, subst, arith}
use Rattle.std.specs.Prelude.{◌==◌, ◌||◌, ◌-◌, not, filter, if◌then◌else◌, nat_le}
use Rattle.std.specs.List.{AllByRecursion, list_any}
use Rattle.std.proofs.lemmas.Bool.{eq-eqb, eqb-true, ltb-false, or_from, or_parts}
use Rattle.std.proofs.lemmas.List.{append-nil}
use Rattle.atspi_script_lines.specs.declared.limits.TheConstants.{QUOTA_MOST}
use Rattle.atspi_script_lines.specs.declared.line.Line.{Line}
use Rattle.atspi_script_lines.specs.declared.line.Party.{Party}
use Rattle.atspi_script_lines.specs.declared.line.Party.TheVariants.{Bus as The_bus, Registry, App, Reader}
use Rattle.atspi_message.specs.Envelope.{Envelope}
use Rattle.atspi_match.specs.declared.routing.closing.Why.{Why}
use Rattle.atspi_match.specs.declared.routing.closing.Why.TheVariants.{NotHello, Quota}
use Rattle.atspi_match.specs.declared.routing.closing.Closing.{Closing}
use Rattle.atspi_match.specs.routing.BusState.{unique_of}
use Rattle.atspi_match.specs.routing.Steps.{is_hello, bus_takes, bus_leaves}
use Rattle.atspi_match.specs.routing.Queues.{without_queue}
use Rattle.atspi_protocol.specs.registering.Steps.{registry_takes}
use Rattle.atspi_protocol.specs.exporting.Exporter.{begins}
use Rattle.atspi_protocol.specs.exporting.Starting.{starts}
use Rattle.atspi_protocol.specs.exporting.Taking.{app_takes}
use Rattle.atspi_trace.specs.Rules.{rule_in}
use Rattle.atspi_trace.specs.Entry.{Entry, sent, got, exited, dropped}
use Rattle.atspi_trace.specs.World.{Standing, here, stopped, away, Role, Said, Letter, End, World, first_registry, first_world}
use Rattle.atspi_trace.specs.Ends.{is_here, same_party, number_of, whose, party_at, end_at, with_end, put_down, taken_up, stops, leaves}
use Rattle.atspi_trace.specs.Carrying as carrying
use Rattle.atspi_trace.specs.Carrying.{Carried, own_letter, letter_of, stepped, left, one_closed, settled, with_name, sent_by_bus, is_upto, dropped_if, bus_entries}
use Rattle.atspi_trace.specs.Causes as causes
use Rattle.atspi_trace.specs.Causes.{Cause, unjoins, Done, has_done, at_end, app_starts, reader_starts, does}
use Rattle.atspi_trace.specs.Due.{freed, asks_at}
use Rattle.atspi_trace.specs.Work.{Work, resting, doing, moving_up, moving_down, turning, draining, work_of, Next, cause, rests, next_of, next_down, of_end, moved_down}
use Rattle.atspi_headline.specs.Words.{Act, begins_line, moves_bytes, takes_end, writes, entries_in, is_same, is_exit_of, is_out}
use Rattle.atspi_trace_laws.specs.laws.Words.{stops_it}
use Rattle.atspi_trace_laws.proofs.OfOrder.Parties.{no_none, same_some, false_true, same-party, party-same, all_append}
use Rattle.atspi_trace_laws.proofs.OfOrder.BusWords.{bus_all}
use Rattle.atspi_trace_laws.proofs.OfOrder.Allowed.{IsBare, Moves}
use Rattle.atspi_trace_laws.proofs.OfOrder.Each.{all_map}
use Rattle.atspi_trace_laws.proofs.OfOrder.Frame.{Over, IsOrder, over_same, over_with, with_cases, joined_cases, stepped_over, left_over}
use Rattle.atspi_trace_laws.proofs.OfOrder.Shape.{RoleFits, Lasts, Shape, IsNew, not_new}
use Rattle.atspi_trace_laws.proofs.OfOrder.Gone.{at_front}
use Rattle.atspi_trace_laws.proofs.OfOrder.Closed.{IsTold}
use Rattle.atspi_trace_laws.proofs.OfOrder.Effects.{received, Stopping, BusTakes, BusEnds}
use Rattle.atspi_trace_laws.proofs.OfOrder.Shaped.{new_app, new_reader, app_joined, bus_takes_over, bus_ends_over}
use Rattle.atspi_trace_laws.proofs.OfHeard.Quiet.{heard_all}
use Rattle.atspi_trace_laws.proofs.OfOrder.Growing.{Shaped, Nothing, And}
use Rattle.atspi_trace_laws.proofs.OfOrder.Told.{Tells}
use Rattle.atspi_trace_laws.proofs.OfOwn.Writing.{Lives, stopped_not}
use Rattle.atspi_trace_laws.proofs.OfOwn.Counting.{is_quota}
use Rattle.atspi_trace_laws.proofs.OfQuiet.Hello.{ToldForRoom, Greets, AsItWas, is_of, Settling, NamedThen, Nobody, takes_settling, ends_settling}
use Rattle.atspi_trace_laws.proofs.OfQuiet.Here.{forward, Greeted, Present, present_keeps}
use Rattle.atspi_headline_laws.proofs.Ran.{Ran, nothing_yet, did, began, caused, rested, asked, moves_for, up_move, down_move, at_known, line_moves}
use Rattle.atspi_headline_laws.proofs.Making.{AllMoves, entries_more, entries_written, entries_of_both, moves_are, line_moves_are}
use Rattle.atspi_headline_laws.proofs.Keeping.{kept_along, shape_along}
use Rattle.atspi_headline_laws.proofs.Reading.{same_who}
use Rattle.atspi_headline_laws.proofs.Acting.{LineDid, renewed, app_began, reader_began, edited_app, called_app, swapped, app_stopped, reader_stopped, showed, line_did, TurnDid, turn_did, bare_quiet, told_busy, told_quiet, bus_took, bus_ended, registry_took, app_took, reader_took}
use Rattle.atspi_headline_laws.proofs.Sorting.{AppSorts, sent_all, app_all, new_number}
use Rattle.atspi_headline_laws.proofs.Growing.{lived_before}
use Rattle.atspi_headline_quiet.proofs.Changing.{Speaks, got_over, asked_over}

-- BY THE RUN
abbrev pub exits_of : List Act → Party → Bool
exits_of run who = list_any (is_exit_of who) run

abbrev pub outs_of : List Act → Party → Bool
outs_of run who = list_any (is_out who) run

abbrev pub standing_by : Bool → Bool → Standing
standing_by true exits = away
standing_by false true = stopped
standing_by false false = here

abbrev pub standing_in : List Act → Party → Standing
standing_in run who = standing_by (outs_of run who) (exits_of run who)

pub any_append : {X : Type 0} (p : X → Bool) (xs ys : List X) → list_any p (xs ++ ys) ≡ (list_any p xs || list_any p ys)
any_append p [] ys = refl
any_append p (x ∷ xs) ys = by (p x) (any_append p xs ys)
  where
    by : (b : Bool) → list_any p (xs ++ ys) ≡ (list_any p xs || list_any p ys) → (b || list_any p (xs ++ ys)) ≡ ((b || list_any p xs) || list_any p ys)
    by true h = refl
    by false h = h

pub or_false : (a b : Bool) → b ≡ false → (a || b) ≡ a
or_false true b h = refl
or_false false b h = h

or_true : (a b : Bool) → b ≡ true → (a || b) ≡ true
or_true true b h = refl
or_true false b h = h

none_any : {X : Type 0} (p : X → Bool) (xs : List X) → AllByRecursion (λ x. p x ≡ false) xs → list_any p xs ≡ false
none_any p [] a = refl
none_any p (x ∷ xs) a = or_from (p x) (list_any p xs) a.0 (none_any p xs a.1)

any_none : {X : Type 0} (p : X → Bool) (xs : List X) → list_any p xs ≡ false → AllByRecursion (λ x. p x ≡ false) xs
any_none p [] h = tt
any_none p (x ∷ xs) h = let r = or_parts (p x) (list_any p xs) h in (r.0, any_none p xs r.1)

any_written : (p : Act → Bool) (es : List Entry) → list_any p (map writes es) ≡ list_any (λ e. p (writes e)) es
any_written p [] = refl
any_written p (e ∷ es) = ap (λ b. p (writes e) || b) (any_written p es)

-- acts that end nobody
abbrev Still : Party → Act → Type 0
Still who act = (is_exit_of who act ≡ false) × (is_out who act ≡ false)

abbrev Stills : Entry → Type 0
Stills entry = (who : Party) → Still who (writes entry)

still_moves : (who : Party) (acts : List Act) → (exits_of acts who ≡ false) × (outs_of acts who ≡ false) → (run : List Act) → standing_in (run ++ acts) who ≡ standing_in run who
still_moves who acts h run =
    ap₂ standing_by (any_append (is_out who) run acts ∙ or_false (outs_of run who) (outs_of acts who) h.1) (any_append (is_exit_of who) run acts ∙ or_false (exits_of run who) (exits_of acts who) h.0)

of_still : (who : Party) (acts : List Act) → AllByRecursion (Still who) acts → (exits_of acts who ≡ false) × (outs_of acts who ≡ false)
of_still who acts a = (none_any (is_exit_of who) acts (all_map (Still who) _ acts (λ act s. s.0) a), none_any (is_out who) acts (all_map (Still who) _ acts (λ act s. s.1) a))

written_still : (who : Party) (es : List Entry) → AllByRecursion Stills es → AllByRecursion (Still who) (map writes es)
written_still who [] a = tt
written_still who (e ∷ es) a = (a.0 who, written_still who es a.1)

apps_still : AppSorts Stills
apps_still = record { steps_ = λ app step who. (refl, refl); sends_ = λ app e who. (refl, refl); hears_ = λ app listener pattern who. (refl, refl); deaf_ = λ app listener pattern who. (refl, refl) }

-- THE TIE
pub record Stands (run : List Act) (w : World) : Type 0 where
  pub known : (k : ℕ) (e : End) → end_at w.ends k ≡ Some e → e.standing ≡ standing_in run e.who
  pub unknown : (who : Party) → same_party who The_bus ≡ false → ((k : ℕ) (e : End) → end_at w.ends k ≡ Some e → e.who ≡ who → ⊥) → (exits_of run who ≡ false) × (outs_of run who ≡ false)

abbrev pub NoEnd : World → Party → Type 0
NoEnd w who = (k : ℕ) (e : End) → end_at w.ends k ≡ Some e → e.who ≡ who → ⊥

-- ends that stand as they stood
pub record SameStanding (e d : End) : Type 0 where
  pub whose : d.who ≡ e.who
  pub standing : d.standing ≡ e.standing

pub same_standing : IsOrder SameStanding
same_standing = record {
  same = λ e. record { whose = refl; standing = refl };
  both = λ e d c f g. record { whose = g.whose ∙ f.whose; standing = g.standing ∙ f.standing };
}

pub stands_speak : Speaks SameStanding
stands_speak = record {
  order = same_standing;
  says_ = λ saids role e. record { whose = refl; standing = refl };
  plays_ = λ role e. record { whose = refl; standing = refl };
  takes_ = λ e. record { whose = refl; standing = refl };
}

pub nobody_before : (R : End → End → Type 0) (a b : List End) → Over R a b → ((e d : End) → R e d → d.who ≡ e.who) → (who : Party) → ((k : ℕ) (d : End) → end_at b k ≡ Some d → d.who ≡ who → ⊥) → (k : ℕ) (e : End) → end_at a k ≡ Some e → e.who ≡ who → ⊥
nobody_before R a b o f who never k e h is = let x = forward R a b k e o h in never k x.0 x.1 (f e x.0 x.2 ∙ is)

nobody_more : (run acts : List Act) (who : Party) → (exits_of acts who ≡ false) × (outs_of acts who ≡ false) → (exits_of run who ≡ false) × (outs_of run who ≡ false) → (exits_of (run ++ acts) who ≡ false) × (outs_of (run ++ acts) who ≡ false)
nobody_more run acts who h g =
    (any_append (is_exit_of who) run acts ∙ or_from (exits_of run who) (exits_of acts who) g.0 h.0, any_append (is_out who) run acts ∙ or_from (outs_of run who) (outs_of acts who) g.1 h.1)

same_stands : (run acts : List Act) (w v : World) → Stands run w → ((who : Party) → (exits_of acts who ≡ false) × (outs_of acts who ≡ false)) → Over SameStanding w.ends v.ends → Stands (run ++ acts) v
same_stands run acts w v i n o = record {
  known = λ k d h.
      let x = o.back k d h in
      x.2.standing ∙ i.known k x.0 x.1 ∙ ap (standing_in run) (sym x.2.whose) ∙ sym (still_moves d.who acts (n d.who) run);
  unknown = λ who other never. nobody_more run acts who (n who) (i.unknown who other (nobody_before SameStanding w.ends v.ends o (λ e d r. r.whose) who never));
}

-- WHO IS CLOSED is away
record StaysAway (e d : End) : Type 0 where
  pub stays : e.standing ≡ away → d.standing ≡ away

staying_away : IsOrder StaysAway
staying_away = record { same = λ e. record { stays = λ h. h }; both = λ e d c f g. record { stays = λ h. g.stays (f.stays h) } }

put_away : (letter : Letter) (e : End) → StaysAway e (put_down letter e)
put_away letter e = record { stays = λ h. h }

leaves_away : (e : End) → StaysAway e (leaves e)
leaves_away e = record { stays = λ h. refl }

abbrev pub AwayAt : List End → Closing → Type 0
AwayAt es c = (d : End) → end_at es c.conn ≡ Some d → d.standing ≡ away

left_away : (c : Carried) (conn : ℕ) (d : End) → end_at (left c conn).ends conn ≡ Some d → d.standing ≡ away
left_away c conn d h =
    let o = stepped_over StaysAway staying_away own_letter (λ m e. put_away (own_letter m) e)
    (record { bus = record c.bus { waiting = without_queue c.bus.waiting conn }; ends = with_end conn leaves c.ends }) (bus_leaves c.bus.state conn) in
    let x = o.back conn d h in
    x.2.stays (by x.0 (with_cases leaves c.ends conn conn x.0 x.1))
  where
    by : (e : End) → ((b : End) × (end_at c.ends conn ≡ Some b) × (((conn ≡ conn) × (e ≡ leaves b)) ⊎ ((conn ≡ conn → ⊥) × (e ≡ b)))) → e.standing ≡ away
    by e g = at g.2
      where
        at : (((conn ≡ conn) × (e ≡ leaves g.0)) ⊎ ((conn ≡ conn → ⊥) × (e ≡ g.0))) → e.standing ≡ away
        at (inl k) = ap (λ (y : End). y.standing) k.1
        at (inr k) = absurd (k.0 refl)

left_stays : (c : Carried) (conn : ℕ) → Over StaysAway c.ends (left c conn).ends
left_stays c conn = left_over StaysAway staying_away (λ m e. put_away (own_letter m) e) leaves_away c conn

-- those that were away, too
pub record Aways (c : Carried) (leaver : ℕ → Type 0) : Type 0 where
  pub closed : AllByRecursion (AwayAt c.ends) c.bus.closings
  pub left : (k : ℕ) → leaver k → (d : End) → end_at c.ends k ≡ Some d → d.standing ≡ away

one_away : (leaver : ℕ → Type 0) (c : Carried) (due : List (ℕ × Why)) → Aways c leaver → Aways (one_closed c due) leaver
one_away leaver c [] f = f
one_away leaver c (first ∷ rest) f =
    let told : Closing = record { conn = first.0; why = first.1; after = c.bus.state.next - 1 } in
    let o : Over StaysAway c.ends (left c first.0).ends = left_stays c first.0 in
    record {
      closed = all_append (AwayAt (left c first.0).ends) c.bus.closings (told ∷ [])
          (all_map (AwayAt c.ends) (AwayAt (left c first.0).ends) c.bus.closings (λ x g d h. let y = o.back x.conn d h in y.2.stays (g y.0 y.1)) f.closed) (left_away c first.0, tt);
      left = λ k l d h. let y = o.back k d h in y.2.stays (f.left k l y.0 y.1);
    }

settled_away : (leaver : ℕ → Type 0) (rounds : ℕ) (c : Carried) → Aways c leaver → Aways (settled rounds c) leaver
settled_away leaver zero c f = f
settled_away leaver (suc rounds) c f = settled_away leaver rounds (one_closed c c.bus.waiting.due) (one_away leaver c c.bus.waiting.due f)

pub takes_away : (c : Carried) (conn : ℕ) (who : Party) (said : Said) → c.bus.closings ≡ [] → Aways (carrying.takes c conn who said) Nobody
takes_away c conn who said none =
    let first : Carried = with_name conn (stepped (letter_of who said) (record c { ends = with_end conn taken_up c.ends }) (bus_takes c.bus.state conn said.message (rule_in said.message))) in
    settled_away Nobody (length c.bus.state.joined) first (record { closed = subst (AllByRecursion (AwayAt first.ends)) (sym none) tt; left = λ k l d h. absurd l })

pub ends_away : (c : Carried) (conn : ℕ) → c.bus.closings ≡ [] → Aways (carrying.takes_end c conn) (λ k. conn ≡ k)
ends_away c conn none =
    settled_away (λ k. conn ≡ k) (length c.bus.state.joined) (left c conn)
    (record { closed = subst (AllByRecursion (AwayAt (left c conn).ends)) (sym none) tt; left = λ k l d h. left_away c conn d (ap (end_at (left c conn).ends) l ∙ h) })

-- WHAT IS TOLD of those that are closed
abbrev pub outs_in : Party → Entry → Bool
outs_in who entry = is_out who (writes entry)

pub self_same : (p : Party) → is_same p p ≡ true
self_same p = same_who p p ∙ party-same p

closed_out : (es : List End) (own : List Envelope) (k : ℕ) (cs : List Closing) → AllByRecursion ToldForRoom cs → list_any (is_of k) cs ≡ true
    → (list_any (outs_in (party_at es k)) (bus_entries es own cs) ≡ true) ⊎ (list_any (outs_in Registry) (bus_entries es own cs) ≡ true)
closed_out es own k [] a h = absurd (false_true h)
closed_out es own k (c ∷ cs) a h = by (c.conn == k) refl h (λ s. closed_out es (filter (λ e. not (is_upto c.after e)) own) k cs a.1 s)
  where
    who : Party
    who = party_at es c.conn

    front : List Entry
    front = sent_by_bus (filter (is_upto c.after) own)

    rest : List Entry
    rest = bus_entries es (filter (λ e. not (is_upto c.after e)) own) cs

    behind : (p : Entry → Bool) (xs ys : List Entry) → list_any p ys ≡ true → list_any p (xs ++ ys) ≡ true
    behind p xs ys s = any_append p xs ys ∙ or_true (list_any p xs) (list_any p ys) s

    told : (why : Why) → is_quota why ≡ true → (p : Party) → is_same who p ≡ true → list_any (outs_in p) (dropped_if who why ++ (if same_party who Registry then [] else rest)) ≡ true
    told (Quota queued len) q p same = ap (λ b. b || list_any (outs_in p) (if same_party who Registry then [] else rest)) same
    told NotHello q p same = absurd (false_true q)

    later : (why : Why) (p : Party) (b : Bool) → b ≡ false → list_any (outs_in p) rest ≡ true → list_any (outs_in p) (dropped_if who why ++ (if b then [] else rest)) ≡ true
    later why p true g s = absurd (false_true (sym g))
    later why p false g s = behind (outs_in p) (dropped_if who why) rest s

    Result : Type 0
    Result =
        (list_any (outs_in (party_at es k)) (front ++ (dropped_if who c.why ++ (if same_party who Registry then [] else rest))) ≡ true)
        ⊎ (list_any (outs_in Registry) (front ++ (dropped_if who c.why ++ (if same_party who Registry then [] else rest))) ≡ true)

    other : (b : Bool) → same_party who Registry ≡ b → ((list_any (outs_in (party_at es k)) rest ≡ true) ⊎ (list_any (outs_in Registry) rest ≡ true)) → Result
    other true g s = inr (behind (outs_in Registry) front _ (told c.why a.0 Registry (same_who who Registry ∙ g)))
    other false g (inl s) = inl (behind (outs_in (party_at es k)) front _ (later c.why (party_at es k) (same_party who Registry) g s))
    other false g (inr s) = inr (behind (outs_in Registry) front _ (later c.why Registry (same_party who Registry) g s))

    by : (b : Bool) → (c.conn == k) ≡ b → (b || list_any (is_of k) cs) ≡ true → (list_any (is_of k) cs ≡ true → (list_any (outs_in (party_at es k)) rest ≡ true) ⊎ (list_any (outs_in Registry) rest ≡ true)) → Result
    by true g s ih =
        inl (behind (outs_in (party_at es k)) front _ (told c.why a.0 (party_at es k) (ap (λ j. is_same who (party_at es j)) (sym (eqb-true c.conn k g)) ∙ self_same who)))
    by false g s ih = other (same_party who Registry) refl (ih s)

none_out : (es : List End) (own : List Envelope) (cs : List Closing) (who : Party) → AllByRecursion (λ (c : Closing). is_same (party_at es c.conn) who ≡ false) cs → list_any (outs_in who) (bus_entries es own cs) ≡ false
none_out es own cs who a =
    none_any (outs_in who) (bus_entries es own cs)
    (bus_all (λ entry. outs_in who entry ≡ false) (λ e. refl) es own cs (all_map (λ (c : Closing). is_same (party_at es c.conn) who ≡ false) _ cs (λ c h queued len. h) a))

none_exits : (es : List End) (own : List Envelope) (cs : List Closing) (who : Party) → list_any (λ e. is_exit_of who (writes e)) (bus_entries es own cs) ≡ false
none_exits es own cs who =
    none_any (λ e. is_exit_of who (writes e)) (bus_entries es own cs)
    (bus_all (λ entry. is_exit_of who (writes entry) ≡ false) (λ e. refl) es own cs (all_map (λ (c : Closing). Unit {0}) _ cs (λ c h queued len. refl) (units cs)))
  where
    units : (xs : List Closing) → AllByRecursion (λ (c : Closing). Unit {0}) xs
    units [] = tt
    units (x ∷ xs) = (tt, units xs)

no_bus : (s : Role) → RoleFits The_bus s → ⊥
no_bus s f = f

pub end_is_other : (w : World) → Shape w → (k : ℕ) (e : End) → end_at w.ends k ≡ Some e → same_party e.who The_bus ≡ false
end_is_other w s k e h = by (same_party e.who The_bus) refl
  where
    by : (b : Bool) → same_party e.who The_bus ≡ b → b ≡ false
    by false g = refl
    by true g = absurd (no_bus e.role (subst (λ p. RoleFits p e.role) (same-party e.who The_bus g) (s.roles k e h)))

-- the party of a connection is another than one whose end stands elsewhere, or nowhere
not_at : (w : World) → (conn : ℕ) (who : Party) → same_party who The_bus ≡ false → ((x : End) → end_at w.ends conn ≡ Some x → x.who ≡ who → ⊥) → is_same (party_at w.ends conn) who ≡ false
not_at w conn who other never = by (end_at w.ends conn) refl
  where
    bus_other : (p : Party) → same_party p The_bus ≡ false → is_same The_bus p ≡ false
    bus_other The_bus h = absurd (false_true (sym h))
    bus_other Registry h = refl
    bus_other (App a) h = refl
    bus_other (Reader r) h = refl

    at : (x : End) → end_at w.ends conn ≡ Some x → (b : Bool) → is_same x.who who ≡ b → b ≡ false
    at x h false g = refl
    at x h true g = absurd (never x h (same-party x.who who (sym (same_who x.who who) ∙ g)))

    by : (o : Option End) → end_at w.ends conn ≡ o → is_same (whose o) who ≡ false
    by None h = bus_other who other
    by (Some x) h = at x h (is_same x.who who) refl

-- THE BUS takes a message, or an end
record BusDid (w v : World) (acts : List Act) (leaver named_ : ℕ → Type 0) (base : List End) (c : Carried) (first : Party → Bool) : Type 0 where
  pub shape : Shape v
  pub lasts : Over Lasts w.ends v.ends
  pub ends_are : v.ends ≡ c.ends
  pub settling : Settling base named_ leaver c
  pub aways : Aways c leaver
  pub before : (k : ℕ) (x : End) → end_at base k ≡ Some x → (e : End) × (end_at w.ends k ≡ Some e) × SameStanding e x
  pub decide : (k : ℕ) → leaver k ⊎ (leaver k → ⊥)
  pub outs : (who : Party) → outs_of acts who ≡ (first who || list_any (outs_in who) (bus_entries c.ends c.bus.own c.bus.closings))
  pub exits : (who : Party) → exits_of acts who ≡ false
  pub first_left : (k : ℕ) (d : End) → end_at v.ends k ≡ Some d → leaver k → first d.who ≡ true
  pub first_other : (k : ℕ) (d : End) → end_at v.ends k ≡ Some d → (leaver k → ⊥) → first d.who ≡ false
  pub first_none : (who : Party) → same_party who The_bus ≡ false → NoEnd v who → first who ≡ false
  pub registry : list_any (outs_in Registry) (bus_entries c.ends c.bus.own c.bus.closings) ≡ true → ⊥

pub closed_at : (P : End → Type 0) (es : List End) (k : ℕ) (cs : List Closing) → AllByRecursion (λ (c : Closing). (d : End) → end_at es c.conn ≡ Some d → P d) cs → list_any (is_of k) cs ≡ true → (d : End) → end_at es k ≡ Some d → P d
closed_at P es k [] a h d at = absurd (false_true h)
closed_at P es k (c ∷ cs) a h d at = by (c.conn == k) refl h (λ s. closed_at P es k cs a.1 s d at)
  where
    by : (b : Bool) → (c.conn == k) ≡ b → (b || list_any (is_of k) cs) ≡ true → (list_any (is_of k) cs ≡ true → P d) → P d
    by true g s ih = a.0 d (ap (end_at es) (eqb-true c.conn k g) ∙ at)
    by false g s ih = ih s

module _ (run acts : List Act) (w v : World) (leaver named_ : ℕ → Type 0) (base : List End) (c : Carried) (first : Party → Bool) (i : Stands run w) (b : BusDid w v acts leaver named_ base c first) where
  abbrev told : List Entry
  told = bus_entries c.ends c.bus.own c.bus.closings

  is_out_now : (who : Party) → outs_of acts who ≡ true → standing_in (run ++ acts) who ≡ away
  is_out_now who h =
      ap (λ o. standing_by o (exits_of (run ++ acts) who)) (any_append (is_out who) run acts ∙ or_true (outs_of run who) (outs_of acts who) h)

  at_c : (k : ℕ) (d : End) → end_at v.ends k ≡ Some d → end_at c.ends k ≡ Some d
  at_c k d h = ap (λ es. end_at es k) (sym b.ends_are) ∙ h

  others_stay : (who : Party) → same_party who The_bus ≡ false → AllByRecursion (λ (x : Closing). (y : End) → end_at v.ends x.conn ≡ Some y → y.who ≡ who → ⊥) c.bus.closings → list_any (outs_in who) told ≡ false
  others_stay who other a =
      none_out c.ends c.bus.own c.bus.closings who
      (all_map (λ (x : Closing). (y : End) → end_at v.ends x.conn ≡ Some y → y.who ≡ who → ⊥) (λ (x : Closing). is_same (party_at c.ends x.conn) who ≡ false) c.bus.closings
      (λ x never. ap (λ es. is_same (party_at es x.conn) who) (sym b.ends_are) ∙ not_at v x.conn who other never) a)

  closed_known : (k : ℕ) (d : End) → end_at v.ends k ≡ Some d → list_any (is_of k) c.bus.closings ≡ true → d.standing ≡ standing_in (run ++ acts) d.who
  closed_known k d h g =
      closed_at (λ e. e.standing ≡ away) c.ends k c.bus.closings b.aways.closed g d (at_c k d h)
      ∙ sym (is_out_now d.who (b.outs d.who ∙ or_true (first d.who) (list_any (outs_in d.who) told) (by (closed_out c.ends c.bus.own k c.bus.closings b.settling.told g))))
    where
      by : (list_any (outs_in (party_at c.ends k)) told ≡ true) ⊎ (list_any (outs_in Registry) told ≡ true) → list_any (outs_in d.who) told ≡ true
      by (inl s) = subst (λ p. list_any (outs_in p) told ≡ true) (ap whose (at_c k d h)) s
      by (inr s) = absurd (b.registry s)

  open_known : (k : ℕ) (d : End) → (leaver k → ⊥) → end_at v.ends k ≡ Some d → list_any (is_of k) c.bus.closings ≡ false → d.standing ≡ standing_in (run ++ acts) d.who
  open_known k d stays h g = by ((b.settling.since k stays).stands d (at_c k d h))
    where
      apart : (x : Closing) → is_of k x ≡ false → (y : End) → end_at v.ends x.conn ≡ Some y → y.who ≡ d.who → ⊥
      apart x never y at same = false_true (sym never ∙ eq-eqb x.conn k (b.shape.one x.conn k y d at h same))

      none : outs_of acts d.who ≡ false
      none =
          b.outs d.who
          ∙ or_from (first d.who) (list_any (outs_in d.who) told) (b.first_other k d h stays)
          (others_stay d.who (end_is_other v b.shape k d h) (all_map (λ x. is_of k x ≡ false) (λ (x : Closing). (y : End) → end_at v.ends x.conn ≡ Some y → y.who ≡ d.who → ⊥) c.bus.closings apart (any_none (is_of k) c.bus.closings g)))

      by : (((y : End) × (end_at base k ≡ Some y) × AsItWas y d) ⊎ (list_any (is_of k) c.bus.closings ≡ true)) → d.standing ≡ standing_in (run ++ acts) d.who
      by (inl y) =
          let e = b.before k y.0 y.1 in
          y.2.standing ∙ e.2.standing ∙ i.known k e.0 e.1 ∙ ap (standing_in run) (sym (y.2.whose ∙ e.2.whose)) ∙ sym (still_moves d.who acts (b.exits d.who, none) run)
      by (inr s) = absurd (false_true (sym g ∙ s))

  known_now : (k : ℕ) (d : End) → end_at v.ends k ≡ Some d → d.standing ≡ standing_in (run ++ acts) d.who
  known_now k d h = by (b.decide k)
    where
      at : (t : Bool) → list_any (is_of k) c.bus.closings ≡ t → (leaver k → ⊥) → d.standing ≡ standing_in (run ++ acts) d.who
      at true g n = closed_known k d h g
      at false g n = open_known k d n h g

      by : leaver k ⊎ (leaver k → ⊥) → d.standing ≡ standing_in (run ++ acts) d.who
      by (inl l) =
          b.aways.left k l d (at_c k d h)
          ∙ sym (is_out_now d.who (b.outs d.who ∙ ap (λ t. t || list_any (outs_in d.who) told) (b.first_left k d h l)))
      by (inr n) = at (list_any (is_of k) c.bus.closings) refl n

  unknown_now : (who : Party) → same_party who The_bus ≡ false → NoEnd v who → (exits_of (run ++ acts) who ≡ false) × (outs_of (run ++ acts) who ≡ false)
  unknown_now who other never =
      nobody_more run acts who (
        b.exits who,
        b.outs who ∙ or_from (first who) (list_any (outs_in who) told) (b.first_none who other never) (others_stay who other (units c.bus.closings)),
      )
      (i.unknown who other (nobody_before Lasts w.ends v.ends b.lasts (λ e d l. l.whose) who never))
    where
      units : (xs : List Closing) → AllByRecursion (λ (x : Closing). (y : End) → end_at v.ends x.conn ≡ Some y → y.who ≡ who → ⊥) xs
      units [] = tt
      units (x ∷ xs) = ((λ y at same. never x.conn y at same), units xs)

  bus_stands : Stands (run ++ acts) v
  bus_stands = record { known = known_now; unknown = unknown_now }

-- the acts of a turn
moves_still : (who : Party) (acts : List Act) → AllMoves acts → AllByRecursion (λ act. is_exit_of who act ≡ false) acts
moves_still who [] m = tt
moves_still who (moves_bytes other up count ∷ acts) m = (refl, moves_still who acts m)
moves_still who (takes_end other ∷ acts) m = (refl, moves_still who acts m)
moves_still who (begins_line line ∷ acts) m = absurd m
moves_still who (writes entry ∷ acts) m = absurd m

no_exits : (who : Party) (moves : List Act) (es : List Entry) → AllMoves moves → list_any (λ e. is_exit_of who (writes e)) es ≡ false → exits_of (moves ++ map writes es) who ≡ false
no_exits who moves es m h =
    any_append (is_exit_of who) moves (map writes es)
    ∙ or_from (exits_of moves who) (exits_of (map writes es) who) (none_any (is_exit_of who) moves (moves_still who moves m)) (any_written (is_exit_of who) es ∙ h)

-- which acts are moves of a taken message, and of an end
pub no_outs_routes : (w : World) (work : Work) (conn : ℕ) (who : Party) → outs_of (moves_for w work (causes.routes conn)) who ≡ false
no_outs_routes w (turning count left) conn who = refl
no_outs_routes w draining conn who = refl
no_outs_routes w (moving_up k count) conn who = refl
no_outs_routes w (moving_down k count) conn who = refl
no_outs_routes w resting conn who = refl
no_outs_routes w (doing c) conn who = refl

pub no_outs_gets : (w : World) (work : Work) (conn : ℕ) (who : Party) → outs_of (moves_for w work (causes.gets conn)) who ≡ false
no_outs_gets w (turning count left) conn who = refl
no_outs_gets w draining conn who = refl
no_outs_gets w (moving_up k count) conn who = refl
no_outs_gets w (moving_down k count) conn who = refl
no_outs_gets w resting conn who = refl
no_outs_gets w (doing c) conn who = refl

abbrev cause_in : Next → Cause → Cause
cause_in (cause c v left) d = c
cause_in (rests v) d = d

abbrev NotUnjoins : Next → Type 0
NotUnjoins (cause (unjoins conn) v left) = ⊥
NotUnjoins x = Unit {0}

down_no : (w : World) (conn count : ℕ) (st : Standing) (m : ℕ) (l : List Letter) → NotUnjoins (next_down w conn count st m l)
down_no w conn count here m (letter ∷ rest) = by (nat_le (causes.missing letter.said.message m) count)
  where
    by : (b : Bool) → NotUnjoins (if b then cause (causes.gets conn) w (moving_down conn (count - causes.missing letter.said.message m)) else rests (moved_down w conn count))
    by true = tt
    by false = tt
down_no w conn count here m [] = tt
down_no w conn count stopped m l = tt
down_no w conn count away m l = tt

down_at_no : (w : World) (conn count : ℕ) (o : Option End) → NotUnjoins (of_end w o (λ e. next_down w conn count e.standing e.down_moved e.down))
down_at_no w conn count None = tt
down_at_no w conn count (Some e) = down_no w conn count e.standing e.down_moved e.down

rests_not : (w v : World) (c : Cause) (left : Work) → rests w ≡ cause c v left → ⊥
rests_not w v c left h = cc

pub end_is_moved : (w : World) (work left : Work) (conn : ℕ) → IsBare work → next_of w work ≡ cause (unjoins conn) w left → moves_for w work (unjoins conn) ≡ takes_end (party_at w.ends conn) ∷ []
end_is_moved w (turning count n) left conn bare is = refl
end_is_moved w draining left conn bare is = refl
end_is_moved w (moving_up k count) left conn bare is = refl
end_is_moved w (moving_down k count) left conn bare is = absurd (subst NotUnjoins is (down_at_no w k count (end_at w.ends k)))
end_is_moved w resting left conn bare is = absurd (rests_not w w (unjoins conn) left is)
end_is_moved w (doing c) left conn bare is = absurd bare

-- THE REGISTRY is not dropped
out_stops : (who : Party) (entry : Entry) → outs_in who entry ≡ true → stops_it who entry ≡ true
out_stops who (dropped other queued len) g = sym (same_who other who) ∙ g
out_stops who entry g = absurd (false_true g)

outs_stop : (who : Party) (es : List Entry) → list_any (outs_in who) es ≡ true → list_any (stops_it who) es ≡ true
outs_stop who [] h = absurd (false_true h)
outs_stop who (x ∷ es) h = by (outs_in who x) refl h (outs_stop who es)
  where
    by : (b : Bool) → outs_in who x ≡ b → (b || list_any (outs_in who) es) ≡ true → (list_any (outs_in who) es ≡ true → list_any (stops_it who) es ≡ true) → (stops_it who x || list_any (stops_it who) es) ≡ true
    by true g k ih = ap (λ b. b || list_any (stops_it who) es) (out_stops who x g)
    by false g k ih = or_true (stops_it who x) (list_any (stops_it who) es) (ih k)

pub never_out : (run acts : List Act) (es : List Entry) → entries_in acts ≡ es → Lives (entries_in (run ++ acts)) → list_any (outs_in Registry) es ≡ true → ⊥
never_out run acts es is live h =
    stopped_not (entries_in run ++ es)
    (any_append (stops_it Registry) (entries_in run) es ∙ or_true (list_any (stops_it Registry) (entries_in run)) (list_any (stops_it Registry) es) (outs_stop Registry es h))
    (subst Lives (entries_more run acts ∙ ap (λ l. entries_in run ++ l) is) live)

abbrev first_said : Said → List Said → Said
first_said z [] = z
first_said z (x ∷ xs) = x

pub greets_of : (w : World) (d : Done) (b : BusTakes w d) → Greeted w → Greets w.bus.state b.conn b.said.message
greets_of w d b g = by (unique_of w.bus.state.owners b.conn) refl
  where
    by : (o : Option (List ℕ)) → unique_of w.bus.state.owners b.conn ≡ o → Greets w.bus.state b.conn b.said.message
    by (Some name) h = inl (ap is_some h)
    by None h =
        let y = g.hello b.conn b.e b.is_here.there b.is_here.standing h in
        let same : y.0 ≡ b.said = ap (first_said b.said) (sym y.2 ∙ b.link) in
        inr (subst (λ (m : Said). is_hello m.message ≡ true) same y.3)

took_stands : (run moves : List Act) (w : World) (d : Done) (b : BusTakes w d) → AllMoves moves → ((who : Party) → outs_of moves who ≡ false) → Shape d.world → IsTold w → Greeted w → Lives (entries_in (run ++ (moves ++ map writes d.entries)))
    → Stands run w → Stands (run ++ (moves ++ map writes d.entries)) d.world
took_stands run moves w d b m none s t g live i = bus_stands run acts w d.world Nobody (NamedThen c0 b.conn) (with_end b.conn taken_up w.ends) c (λ who. false) i (record {
  shape = s;
  lasts = bus_takes_over w d b;
  ends_are = ap (λ x. x.world.ends) b.is;
  settling = takes_settling c0 b.conn b.e.who b.said g.due t.closings (greets_of w d b g);
  aways = takes_away c0 b.conn b.e.who b.said t.closings;
  before = λ k x h. by k x (with_cases taken_up w.ends b.conn k x h);
  decide = λ k. inr (λ n. n);
  outs = λ who.
      any_append (is_out who) moves (map writes d.entries) ∙ ap (λ z. z || outs_of (map writes d.entries) who) (none who)
      ∙ any_written (is_out who) d.entries ∙ ap (list_any (outs_in who)) wrote;
  exits = λ who. no_exits who moves d.entries m (ap (list_any (λ e. is_exit_of who (writes e))) wrote ∙ none_exits c.ends c.bus.own c.bus.closings who);
  first_left = λ k x h l. absurd l;
  first_other = λ k x h n. refl;
  first_none = λ who other n. refl;
  registry = λ h. never_out run acts (got The_bus b.e.who b.said.message.serial ∷ bus_entries c.ends c.bus.own c.bus.closings) (entries_of_both moves d.entries m ∙ wrote) live h;
})
  where
    c0 : Carried
    c0 = record { bus = w.bus; ends = w.ends }

    c : Carried
    c = carrying.takes c0 b.conn b.e.who b.said

    acts : List Act
    acts = moves ++ map writes d.entries

    wrote : d.entries ≡ got The_bus b.e.who b.said.message.serial ∷ bus_entries c.ends c.bus.own c.bus.closings
    wrote = ap (λ x. x.entries) b.is

    by : (k : ℕ) (x : End) → ((y : End) × (end_at w.ends k ≡ Some y) × (((k ≡ b.conn) × (x ≡ taken_up y)) ⊎ ((k ≡ b.conn → ⊥) × (x ≡ y)))) → (e : End) × (end_at w.ends k ≡ Some e) × SameStanding e x
    by k x y = (y.0, y.1, at y.2)
      where
        at : (((k ≡ b.conn) × (x ≡ taken_up y.0)) ⊎ ((k ≡ b.conn → ⊥) × (x ≡ y.0))) → SameStanding y.0 x
        at (inl h) = subst (SameStanding y.0) (sym h.1) (record { whose = refl; standing = refl })
        at (inr h) = subst (SameStanding y.0) (sym h.1) (record { whose = refl; standing = refl })

ended_stands : (run : List Act) (w : World) (d : Done) (b : BusEnds w d) → Shape w → Shape d.world → IsTold w → Greeted w → Lives (entries_in (run ++ takes_end (party_at w.ends b.conn) ∷ map writes d.entries))
    → Stands run w → Stands (run ++ takes_end (party_at w.ends b.conn) ∷ map writes d.entries) d.world
ended_stands run w d b s0 s t g live i = bus_stands run acts w d.world (λ k. b.conn ≡ k) (λ k. is_some (unique_of w.bus.state.owners k) ≡ true) w.ends c (is_same (party_at w.ends b.conn)) i (record {
  shape = s;
  lasts = lasts;
  ends_are = ap (λ x. x.world.ends) b.is;
  settling = ends_settling c0 b.conn g.due t.closings;
  aways = ends_away c0 b.conn t.closings;
  before = λ k x h. (x, h, record { whose = refl; standing = refl });
  decide = λ k. decide k (b.conn == k) refl;
  outs = λ who. ap (λ z. is_same (party_at w.ends b.conn) who || z) (any_written (is_out who) d.entries ∙ ap (list_any (outs_in who)) wrote);
  exits = λ who. any_written (λ act. is_exit_of who act) d.entries ∙ ap (list_any (λ e. is_exit_of who (writes e))) wrote ∙ none_exits c.ends c.bus.own c.bus.closings who;
  first_left = left_so;
  first_other = other_so;
  first_none = λ who other never. not_at w b.conn who other (λ x at same. nobody_before Lasts w.ends d.world.ends lasts (λ e z l. l.whose) who never b.conn x at same);
  registry = λ h. never_out run acts (bus_entries c.ends c.bus.own c.bus.closings) (entries_written d.entries ∙ wrote) live h;
})
  where
    c0 : Carried
    c0 = record { bus = w.bus; ends = w.ends }

    c : Carried
    c = carrying.takes_end c0 b.conn

    acts : List Act
    acts = takes_end (party_at w.ends b.conn) ∷ map writes d.entries

    lasts : Over Lasts w.ends d.world.ends
    lasts = bus_ends_over w d b

    wrote : d.entries ≡ bus_entries c.ends c.bus.own c.bus.closings
    wrote = ap (λ x. x.entries) b.is

    decide : (k : ℕ) (z : Bool) → (b.conn == k) ≡ z → (b.conn ≡ k) ⊎ (b.conn ≡ k → ⊥)
    decide k true h = inl (eqb-true b.conn k h)
    decide k false h = inr (λ same. false_true (sym h ∙ eq-eqb b.conn k same))

    left_so : (k : ℕ) (x : End) → end_at d.world.ends k ≡ Some x → b.conn ≡ k → is_same (party_at w.ends b.conn) x.who ≡ true
    left_so k x h l =
        let y = lasts.back k x h in
        let one : b.e ≡ y.0 = same_some b.e y.0 (sym b.there ∙ ap (end_at w.ends) l ∙ y.1) in
        ap (λ p. is_same p x.who) (ap whose b.there ∙ ap (λ (z : End). z.who) one ∙ sym y.2.whose) ∙ self_same x.who

    other_so : (k : ℕ) (x : End) → end_at d.world.ends k ≡ Some x → (b.conn ≡ k → ⊥) → is_same (party_at w.ends b.conn) x.who ≡ false
    other_so k x h never =
        let y = lasts.back k x h in
        not_at w b.conn x.who (end_is_other d.world s k x h) (λ z at same. never (s0.one b.conn k z y.0 at y.1 (same ∙ y.2.whose)))

-- A TURN
data TurnKind (w : World) (c : Cause) (d : Done) : Type 0 where
  bus_takes_ : (b : BusTakes w d) → c ≡ causes.routes b.conn → TurnKind w c d
  bus_ends_ : (b : BusEnds w d) → c ≡ unjoins b.conn → TurnKind w c d
  silent_ : ((work : Work) (who : Party) → outs_of (moves_for w work c) who ≡ false) → AllByRecursion Stills d.entries → Over SameStanding w.ends d.world.ends → TurnKind w c d

pub no_outs_busy : (w : World) (work : Work) (turns : ℕ) (who : Party) → outs_of (moves_for w work (causes.tells_busy turns)) who ≡ false
no_outs_busy w (turning count left) turns who = refl
no_outs_busy w draining turns who = refl
no_outs_busy w (moving_up k count) turns who = refl
no_outs_busy w (moving_down k count) turns who = refl
no_outs_busy w resting turns who = refl
no_outs_busy w (doing c) turns who = refl

pub no_outs_quiet : (w : World) (work : Work) (who : Party) → outs_of (moves_for w work causes.tells_quiet) who ≡ false
no_outs_quiet w (turning count left) who = refl
no_outs_quiet w draining who = refl
no_outs_quiet w (moving_up k count) who = refl
no_outs_quiet w (moving_down k count) who = refl
no_outs_quiet w resting who = refl
no_outs_quiet w (doing c) who = refl

turn_kind : (w : World) (c : Cause) (d : Done) → TurnDid w c d → TurnKind w c d
turn_kind w _ _ (told_busy turns) = silent_ (λ work who. no_outs_busy w work turns who) ((λ who. (refl, refl)), tt) (over_same SameStanding same_standing w.ends)
turn_kind w _ _ (told_quiet none) = silent_ (λ work who. no_outs_quiet w work who) ((λ who. (refl, refl)), tt) (over_same SameStanding same_standing w.ends)
turn_kind w _ _ (bus_took d b) = bus_takes_ b refl
turn_kind w _ _ (bus_ended d b) = bus_ends_ b refl
turn_kind w _ _ (registry_took d b) =
    silent_ (λ work who. no_outs_gets w work b.conn who)
    (subst (λ (x : Done). AllByRecursion Stills x.entries) (sym b.is) ((λ who. (refl, refl)), sent_all Stills b.e.who (λ e who. (refl, refl)) (registry_takes b.before b.letter.said.message).sent))
    (subst (λ (x : Done). Over SameStanding w.ends x.world.ends) (sym b.is) (got_over SameStanding stands_speak w b.conn _ (λ e. stands_speak.says_ _ _ e)))
turn_kind w _ _ (app_took d b) =
    silent_ (λ work who. no_outs_gets w work b.conn who)
    (subst (λ (x : Done). AllByRecursion Stills x.entries) (sym b.is) ((λ who. (refl, refl)), app_all Stills apps_still _ (app_takes b.before b.letter.said.message).out))
    (subst (λ (x : Done). Over SameStanding w.ends x.world.ends) (sym b.is) (got_over SameStanding stands_speak w b.conn _ (λ e. stands_speak.says_ _ _ e)))
turn_kind w _ _ (reader_took d b) =
    silent_ (λ work who. no_outs_gets w work b.conn who)
    (subst (λ (x : Done). AllByRecursion Stills x.entries) (sym b.is)
    ((λ who. (refl, refl)), heard_all Stills (λ r app line who. (refl, refl)) (λ r app who. (refl, refl)) (number_of b.e.who) b.hearer (received w b.conn b.e b.letter).ends b.letter))
    (subst (λ (x : Done). Over SameStanding w.ends x.world.ends) (sym b.is) (got_over SameStanding stands_speak w b.conn _ (λ e. stands_speak.plays_ _ e)))

turn_stands : (run : List Act) (w : World) (work left : Work) (c : Cause) (d : Done) → d ≡ does w c → IsBare work → next_of w work ≡ cause c w left → Shape w → Shape d.world → IsTold w → Greeted w
    → Lives (entries_in (run ++ (moves_for w work c ++ map writes d.entries))) → Stands run w → TurnKind w c d → Stands (run ++ (moves_for w work c ++ map writes d.entries)) d.world
turn_stands run w work left c d same bare is s0 s t g live i (silent_ moves es o) =
    same_stands run (moves_for w work c ++ map writes d.entries) w d.world i
    (λ who. (
      no_exits who (moves_for w work c) d.entries (moves_are w work c) (none_any (λ e. is_exit_of who (writes e)) d.entries (all_map Stills _ d.entries (λ e h. (h who).0) es)),
      any_append (is_out who) (moves_for w work c) (map writes d.entries)
          ∙ or_from (outs_of (moves_for w work c) who) (outs_of (map writes d.entries) who) (moves work who) (of_still who (map writes d.entries) (written_still who d.entries es)).1,
    )) o
turn_stands run w work left c d same bare is s0 s t g live i (bus_takes_ b route) =
    took_stands run (moves_for w work c) w d b (moves_are w work c) (λ who. ap (λ x. outs_of (moves_for w work x) who) route ∙ no_outs_routes w work b.conn who) s t g live i
turn_stands run w work left c d same bare is s0 s t g live i (bus_ends_ b ends_) =
    let moved : moves_for w work c ≡ takes_end (party_at w.ends b.conn) ∷ [] = ap (moves_for w work) ends_ ∙ end_is_moved w work left b.conn bare (is ∙ ap (λ x. cause x w left) ends_) in
    subst (λ l. Stands (run ++ (l ++ map writes d.entries)) d.world) (sym moved) (ended_stands run w d b s0 s t g (subst (λ l. Lives (entries_in (run ++ (l ++ map writes d.entries)))) moved live) i)

-- A LINE
stop_stands : (run : List Act) (w : World) (line : Line) (d : Done) (b : Stopping w d) → Shape w → Stands run w → Stands (run ++ begins_line line ∷ map writes d.entries) d.world
stop_stands run w line d b s i =
    subst (λ (x : Done). Stands (run ++ begins_line line ∷ map writes x.entries) x.world) (sym b.is) (record { known = λ k x h. by k x (with_cases stops w.ends b.conn k x h); unknown = unknown_now })
  where
    acts : List Act
    acts = begins_line line ∷ writes (exited (party_at w.ends b.conn)) ∷ []

    mine : party_at w.ends b.conn ≡ b.e.who
    mine = ap whose b.is_here.there

    exits_now : (who : Party) → exits_of acts who ≡ is_same (party_at w.ends b.conn) who
    exits_now who = or_false (is_same (party_at w.ends b.conn) who) false refl

    by : (k : ℕ) (x : End) → ((y : End) × (end_at w.ends k ≡ Some y) × (((k ≡ b.conn) × (x ≡ stops y)) ⊎ ((k ≡ b.conn → ⊥) × (x ≡ y)))) → x.standing ≡ standing_in (run ++ acts) x.who
    by k x y = at y.2
      where
        not_out : (o x : Bool) → here ≡ standing_by o x → o ≡ false
        not_out false x h = refl
        not_out true x h = absurd (false_true (sym (ap is_here h)))

        at : (((k ≡ b.conn) × (x ≡ stops y.0)) ⊎ ((k ≡ b.conn → ⊥) × (x ≡ y.0))) → x.standing ≡ standing_in (run ++ acts) x.who
        at (inl h) =
            let one : y.0 ≡ b.e = same_some y.0 b.e (sym y.1 ∙ ap (end_at w.ends) h.0 ∙ b.is_here.there) in
            let was : here ≡ standing_in run b.e.who = sym b.is_here.standing ∙ i.known b.conn b.e b.is_here.there in
            let whose_ : x.who ≡ b.e.who = ap (λ (z : End). z.who) h.1 ∙ ap (λ (z : End). z.who) one in
            ap (λ (z : End). z.standing) h.1
            ∙ sym (ap (standing_in (run ++ acts)) whose_
            ∙ ap₂ standing_by (any_append (is_out b.e.who) run acts ∙ or_false (outs_of run b.e.who) false refl ∙ not_out (outs_of run b.e.who) (exits_of run b.e.who) was)
            (any_append (is_exit_of b.e.who) run acts ∙ or_true (exits_of run b.e.who) (exits_of acts b.e.who) (exits_now b.e.who ∙ ap (λ p. is_same p b.e.who) mine ∙ self_same b.e.who)))
        at (inr h) =
            let other : exits_of acts x.who ≡ false =
            exits_now x.who ∙ not_at w b.conn x.who (ap (λ (z : End). same_party z.who The_bus) h.1 ∙ end_is_other w s k y.0 y.1) (λ z there same. h.0 (sym (s.one b.conn k z y.0 there y.1 (same ∙ ap (λ (z : End). z.who) h.1)))) in
            ap (λ (z : End). z.standing) h.1 ∙ i.known k y.0 y.1 ∙ ap (λ (z : End). standing_in run z.who) (sym h.1) ∙ sym (still_moves x.who acts (other, refl) run)

    unknown_now : (who : Party) → same_party who The_bus ≡ false → NoEnd (at_end w b.conn stops) who → (exits_of (run ++ acts) who ≡ false) × (outs_of (run ++ acts) who ≡ false)
    unknown_now who other never =
        let before : NoEnd w who = nobody_before Same w.ends (at_end w b.conn stops).ends (over_with Same same_ stops (λ e. refl) b.conn w.ends) (λ e z l. l) who never in
        nobody_more run acts who (exits_now who ∙ not_at w b.conn who other (λ x at same. before b.conn x at same), refl) (i.unknown who other before)
      where
        Same : End → End → Type 0
        Same e z = z.who ≡ e.who

        same_ : IsOrder Same
        same_ = record { same = λ e. refl; both = λ e x z f g. g ∙ f }

joined_stands : (run : List Act) (w v : World) (line : Line) (es : List Entry) (n : End) → Shape w → IsNew w n.who → n.standing ≡ here → v.ends ≡ w.ends ++ n ∷ [] → AllByRecursion Stills es → Stands run w → Stands (run ++ begins_line line ∷ map writes es) v
joined_stands run w v line es n s new on is still i = record { known = λ k x h. by k x (joined_cases w.ends n k x (sym (ap (λ l. end_at l k) is) ∙ h)); unknown = unknown_now }
  where
    acts : List Act
    acts = begins_line line ∷ map writes es

    none : (who : Party) → (exits_of acts who ≡ false) × (outs_of acts who ≡ false)
    none who = of_still who acts ((refl, refl), written_still who es still)

    no_bus_new : (p : Party) → IsNew w p → same_party p The_bus ≡ false
    no_bus_new (App a) h = refl
    no_bus_new (Reader r) h = refl
    no_bus_new The_bus h = absurd h
    no_bus_new Registry h = absurd h

    new_here : here ≡ standing_in run n.who
    new_here = let x = i.unknown n.who (no_bus_new n.who new) (λ k e h same. not_new w s k e n.who h new same) in sym (ap₂ standing_by x.1 x.0)

    by : (k : ℕ) (x : End) → ((end_at w.ends k ≡ Some x) ⊎ ((k ≡ length w.ends) × (x ≡ n))) → x.standing ≡ standing_in (run ++ acts) x.who
    by k x (inl h) = i.known k x h ∙ sym (still_moves x.who acts (none x.who) run)
    by k x (inr h) =
        ap (λ (z : End). z.standing) h.1 ∙ on ∙ new_here ∙ ap (λ (z : End). standing_in run z.who) (sym h.1) ∙ sym (still_moves x.who acts (none x.who) run)

    unknown_now : (who : Party) → same_party who The_bus ≡ false → NoEnd v who → (exits_of (run ++ acts) who ≡ false) × (outs_of (run ++ acts) who ≡ false)
    unknown_now who other never =
        nobody_more run acts who (none who) (i.unknown who other (λ k e h same. never k e (ap (λ l. end_at l k) is ∙ at_front w.ends n k e h) same))

silent_line : (run : List Act) (w v : World) (line : Line) (es : List Entry) → AllByRecursion Stills es → Over SameStanding w.ends v.ends → Stands run w → Stands (run ++ begins_line line ∷ map writes es) v
silent_line run w v line es still o i = same_stands run (begins_line line ∷ map writes es) w v i (λ who. of_still who (begins_line line ∷ map writes es) ((refl, refl), written_still who es still)) o

alone_over : (w : World) (quota : ℕ) → Shape w → length w.ends ≤ 1 → Over SameStanding w.ends (first_world quota).ends
alone_over w quota s few = by s.alone
  where
    by : ((2 ≤ length w.ends) ⊎ (w ≡ first_world w.bus.quota)) → Over SameStanding w.ends (first_world quota).ends
    by (inl two) = absurd (omega (arith, two, few))
    by (inr h) = subst (λ (x : World). Over SameStanding x.ends (first_world quota).ends) (sym h) (over_same SameStanding same_standing (first_world quota).ends)

line_stands : (run : List Act) (w : World) (line : Line) (d : Done) → Shape w → Stands run w → LineDid w line d → Stands (run ++ begins_line line ∷ map writes d.entries) d.world
line_stands run w line _ s i (renewed quota few) = silent_line run w (first_world quota) line [] tt (alone_over w quota s (ltb-false 1 (length w.ends) few)) i
line_stands run w line _ s i (app_began name short few) =
    joined_stands run w (app_starts w name).world line (app_starts w name).entries (new_app w name) s refl refl (app_joined w name) ((λ who. (refl, refl)), app_all Stills apps_still (new_number w name) (starts (begins name)).out) i
line_stands run w line _ s i (reader_began few) =
    joined_stands run w (reader_starts w).world line (reader_starts w).entries (new_reader w) s refl refl refl ((λ who. (refl, refl)), ((λ who. (refl, refl)), tt)) i
line_stands run w line d s i (edited_app app conn edit e before after h who role done_ can) =
    silent_line run w d.world line d.entries (app_all Stills apps_still _ after.out) (over_with SameStanding same_standing (has_done before after) (λ x. stands_speak.says_ _ _ x) conn w.ends) i
line_stands run w line d s i (called_app reader app node conn deed e hearer h who role) =
    silent_line run w d.world line d.entries ((λ who. (refl, refl)), tt) (over_with SameStanding same_standing _ (λ x. stands_speak.says_ _ _ x) conn w.ends) i
line_stands run w line d s i (swapped app) = silent_line run w d.world line [] tt (over_same SameStanding same_standing w.ends) i
line_stands run w line _ s i (app_stopped app d b who) = stop_stands run w line d b s i
line_stands run w line _ s i (reader_stopped reader d b who) = stop_stands run w line d b s i
line_stands run w line d s i (showed reader app conn e hearer there who role) = silent_line run w d.world line d.entries ((λ who. (refl, refl)), tt) (over_same SameStanding same_standing w.ends) i

-- ALONG RUNS
first_stands : Stands [] (first_world QUOTA_MOST)
first_stands = record { known = known_now; unknown = λ who other never. (refl, refl) }
  where
    known_now : (k : ℕ) (e : End) → end_at (first_registry ∷ []) k ≡ Some e → e.standing ≡ here
    known_now zero e h = ap (λ (x : End). x.standing) (sym (same_some first_registry e h))
    known_now (suc k) e h = absurd (no_none e h)

moved_same : (w v : World) → Moves w v → Over SameStanding w.ends v.ends
moved_same w v (inl same) = subst (λ (x : World). Over SameStanding w.ends x.ends) (sym same) (over_same SameStanding same_standing w.ends)
moved_same w v (inr (inl m)) =
    subst (λ (x : World). Over SameStanding w.ends x.ends) (sym m.after) (over_with SameStanding same_standing (λ e. record e { up_moved = e.up_moved + m.count }) (λ e. record { whose = refl; standing = refl }) m.conn w.ends)
moved_same w v (inr (inr m)) =
    subst (λ (x : World). Over SameStanding w.ends x.ends) (sym m.after) (over_with SameStanding same_standing (λ e. record e { down_moved = e.down_moved + m.count }) (λ e. record { whose = refl; standing = refl }) m.conn w.ends)

pub stands_along : (run : List Act) (w : World) (free : Option ℕ) (at : Option Work) → Ran run w free at → Lives (entries_in run) → Stands run w
stands_along _ _ _ _ nothing_yet live = first_stands
stands_along _ _ _ _ (did run w line c r ok can is a) live =
    line_stands run w line (does w c) (shape_along run w None None r) (stands_along run w None None r (lived_before run (begins_line line ∷ map writes (does w c).entries) live)) (line_did w line c (shape_along run w None None r) ok can a is)
stands_along _ _ _ _ (began run w line r ok can b) live =
    same_stands run (begins_line line ∷ line_moves w (work_of w line)) w w (stands_along run w None None r (lived_before run (begins_line line ∷ line_moves w (work_of w line)) live))
    (λ who. (none_any (is_exit_of who) (line_moves w (work_of w line)) (moves_still who (line_moves w (work_of w line)) (line_moves_are w (work_of w line))), line_outs w (work_of w line) who))
    (over_same SameStanding same_standing w.ends)
  where
    up_outs : (count : ℕ) (e : End) (st : Standing) (who : Party) → outs_of (up_move count e st) who ≡ false
    up_outs count e here who = refl
    up_outs zero e stopped who = refl
    up_outs zero e away who = refl
    up_outs (suc count) e stopped who = refl
    up_outs (suc count) e away who = refl

    down_outs : (count : ℕ) (e : End) (st : Standing) (who : Party) → outs_of (down_move count e st) who ≡ false
    down_outs count e here who = refl
    down_outs count e stopped who = refl
    down_outs count e away who = refl

    at_outs : (o : Option End) (acts : End → List Act) (who : Party) → ((e : End) → outs_of (acts e) who ≡ false) → outs_of (at_known o acts) who ≡ false
    at_outs None acts who f = refl
    at_outs (Some e) acts who f = f e

    line_outs : (u : World) (work : Work) (who : Party) → outs_of (line_moves u work) who ≡ false
    line_outs u (moving_up conn count) who = at_outs (end_at u.ends conn) (λ e. up_move count e e.standing) who (λ e. up_outs count e e.standing who)
    line_outs u (moving_down conn count) who = at_outs (end_at u.ends conn) (λ e. down_move count e e.standing) who (λ e. down_outs count e e.standing who)
    line_outs u (turning count left) who = refl
    line_outs u draining who = refl
    line_outs u resting who = refl
    line_outs u (doing c) who = refl
stands_along _ _ _ _ (caused run w free work left c r is b a) live =
    let before : Lives (entries_in run) = lived_before run (moves_for w work c ++ map writes (does w c).entries) live in
    let k = kept_along (Shaped (And (And Nothing Tells) Present)) present_keeps run w free (Some work) r in
    turn_stands run w work left c (does w c) refl b is k.0 (shape_along (run ++ (moves_for w work c ++ map writes (does w c).entries)) (does w c).world (freed c) (Some left) (caused run w free work left c r is b a)) k.1.0.1 k.1.1.0 live
    (stands_along run w free (Some work) r before) (turn_kind w c (does w c) (turn_did w c k.0 (bare_quiet w work left c b is) a))
stands_along _ _ _ _ (rested run w v free work r is m well) live =
    subst (λ l. Stands l v) (append-nil run) (same_stands run [] w v (stands_along run w free (Some work) r live) (λ who. (refl, refl)) (moved_same w v m))
stands_along _ _ _ _ (asked run w conn q m question work r a) live =
    same_stands run (writes (sent (Reader q) m) ∷ []) w (at_end w conn (asks_at m question)) (stands_along run w (Some conn) work r (lived_before run (writes (sent (Reader q) m) ∷ []) live)) (λ who. (refl, refl))
    (asked_over SameStanding stands_speak w conn m question)
