-- Where a world rests nobody is due, and each end that is here has joined, along a lawful trace.
use Rattle.std.proofs.Common.{◌≡◌, ◌⊎◌, inl, inr, ℕ, zero, suc, Bool, true, false, List, [], ◌∷◌, ◌++◌, length, None, Some, refl, sym, ap, ◌∙◌, subst, cond}
use Rattle.std.specs.Prelude.{◌==◌, not, filter, unwrap_or}
use Rattle.std.specs.List.{AllByRecursion}
use Rattle.std.specs.FinMap.{get-from_sorted}
use Rattle.std.specs.Ordering.{nat_cmp}
use Rattle.std.specs.Cmp.Lexicographic.{slice_cmp}
use Rattle.atspi_script_lines.specs.declared.limits.TheConstants.{QUOTA_MOST}
use Rattle.atspi_script_lines.specs.declared.line.Party.{Party}
use Rattle.atspi_names.specs.Owners.{list_of}
use Rattle.atspi_match.specs.declared.routing.closing.Why.{Why}
use Rattle.atspi_match.specs.routing.Steps.{BusStep, bus_takes, bus_leaves}
use Rattle.atspi_match.specs.routing.Queues.{without_queue}
use Rattle.atspi_trace.specs.Entry.{Entry}
use Rattle.atspi_trace.specs.Rules.{rule_in}
use Rattle.atspi_trace.specs.World.{Standing, here, stopped, away, Said, first_lists, first_registry, first_world, End, World}
use Rattle.atspi_trace.specs.Ends.{is_here, end_at, with_end, taken_up, leaves}
use Rattle.atspi_trace.specs.Carrying.{Carried, own_letter, letter_of, stepped, left, one_closed, settled, named, with_name, takes}
use Rattle.atspi_trace.specs.Causes.{Done, at_end}
use Rattle.atspi_trace.specs.Due.{asks_at}
use Rattle.atspi_trace_laws.proofs.OfOrder.Parties.{no_none, false_true}
use Rattle.atspi_trace_laws.proofs.OfOrder.Allowed.{MovedUp, MovedDown}
use Rattle.atspi_trace_laws.proofs.OfOrder.Frame.{Over, over_same, over_with, stepped_over, with_cases, joined_cases}
use Rattle.atspi_trace_laws.proofs.OfOrder.Shape.{Lasts, lasting}
use Rattle.atspi_trace_laws.proofs.OfOrder.Effects.{BusTakes, BusEnds, Effect, resets, app_joins, reader_joins, app_edited, app_took, reader_called, swapped, exited_, showed_, told_busy, told_quiet, bus_took, bus_ended, registry_took, reader_took}
use Rattle.atspi_trace_laws.proofs.OfOrder.Shaped.{new_app, new_reader, app_joined, edits_over, app_takes_over, calls_over, stopping_over, registry_over, reader_over, up_moved_over, down_moved_over, asked_over}
use Rattle.atspi_trace_laws.proofs.OfOrder.Along.{Keeps}
use Rattle.atspi_trace_laws.proofs.OfOrder.Growing.{Grows, Shaped, Nothing, And, grown, shaped_keeps}
use Rattle.atspi_trace_laws.proofs.OfOrder.Each.{all_map}
use Rattle.atspi_trace_laws.proofs.OfDrops.Reaching.{AreIn}
use Rattle.atspi_trace_laws.proofs.OfSigned.Unique.{IsIn}
use Rattle.atspi_trace_laws.proofs.OfTurns.Doing.{takes_joined}
use Rattle.atspi_trace_laws.proofs.OfMissed.Settling.{Joins, in_rest, DueJoined, takes_settle, ends_settle}
use Rattle.atspi_trace_laws.proofs.OfMissed.Arriving.{Goes_on, going, put_goes, name_goes, up_goes}

pub record Rested (w : World) : Type 0 where
  pub lists : AreIn (Joins w.bus.state.joined) w.bus.state.owners.lists
  pub due : w.bus.waiting.due ≡ []
  pub joined : (k : ℕ) (e : End) → end_at w.ends k ≡ Some e → e.standing ≡ here → IsIn k w.bus.state.joined

abbrev pub Rests : List Entry → World → Type 0
Rests es w = Rested w

pub here_is : (s : Standing) → is_here s ≡ true → s ≡ here
here_is here h = refl
here_is stopped h = absurd (false_true h)
here_is away h = absurd (false_true h)

-- who is here was here
pub was_here : (e d : End) → Lasts e d → d.standing ≡ here → e.standing ≡ here
was_here e d l on = by (is_here e.standing) refl
  where
    by : (b : Bool) → is_here e.standing ≡ b → e.standing ≡ here
    by true h = here_is e.standing h
    by false h = absurd (false_true (sym (l.gone h) ∙ ap is_here on))

still : (w v : World) → Rested w → Over Lasts w.ends v.ends → v.bus.state.joined ≡ w.bus.state.joined → v.bus.state.owners ≡ w.bus.state.owners → v.bus.waiting.due ≡ w.bus.waiting.due → Rested v
still w v i o joined owners due = record {
  lists = subst (λ js. AreIn (Joins js) v.bus.state.owners.lists) (sym joined) (subst (λ x. AreIn (Joins w.bus.state.joined) x.lists) (sym owners) i.lists);
  due = due ∙ i.due;
  joined = λ k d h on. let x = o.back k d h in subst (IsIn k) (sym joined) (i.joined k x.0 x.1 (was_here x.0 d x.2 on));
}

same_ends : (w v : World) → v.ends ≡ w.ends → Over Lasts w.ends v.ends
same_ends w v h = subst (Over Lasts w.ends) (sym h) (over_same Lasts lasting w.ends)

-- one joins
in_front : (c : ℕ) (xs ys : List ℕ) → IsIn c xs → IsIn c (xs ++ ys)
in_front c [] ys i = absurd i
in_front c (x ∷ xs) ys (inl h) = inl h
in_front c (x ∷ xs) ys (inr h) = inr (in_front c xs ys h)

in_last : (c : ℕ) (xs : List ℕ) → IsIn c (xs ++ c ∷ [])
in_last c [] = inl refl
in_last c (x ∷ xs) = inr (in_last c xs)

joins_rest : (w v : World) (n : End) → Rested w → v.ends ≡ w.ends ++ n ∷ [] → v.bus.state.joined ≡ w.bus.state.joined ++ length w.ends ∷ [] → v.bus.state.owners ≡ w.bus.state.owners → v.bus.waiting.due ≡ w.bus.waiting.due → Rested v
joins_rest w v n i is joined owners due = record {
  lists = subst (λ js. AreIn (Joins js) v.bus.state.owners.lists) (sym joined) (subst (λ x. AreIn (Joins more) x.lists) (sym owners) lists);
  due = due ∙ i.due;
  joined = λ k d h on. subst (IsIn k) (sym joined) (by k d on (joined_cases w.ends n k d (ap (λ l. end_at l k) (sym is) ∙ h)));
}
  where
    more : List ℕ
    more = w.bus.state.joined ++ length w.ends ∷ []

    lists : AreIn (Joins more) w.bus.state.owners.lists
    lists q =
        all_map (λ (p : ℕ × ℕ). IsIn p.0 w.bus.state.joined) (λ (p : ℕ × ℕ). IsIn p.0 more) (list_of w.bus.state.owners.lists q) (λ p h. in_front p.0 w.bus.state.joined (length w.ends ∷ []) h) (i.lists q)

    by : (k : ℕ) (d : End) → d.standing ≡ here → ((end_at w.ends k ≡ Some d) ⊎ ((k ≡ length w.ends) × (d ≡ n))) → IsIn k more
    by k d on (inl g) = in_front k w.bus.state.joined (length w.ends ∷ []) (i.joined k d g on)
    by k d on (inr g) = subst (λ c. IsIn c more) (sym g.0) (in_last (length w.ends) w.bus.state.joined)

-- THE BUS: who is here has joined, whatever it closes
abbrev HereJoined : Carried → Type 0
HereJoined c = (k : ℕ) (e : End) → end_at c.ends k ≡ Some e → e.standing ≡ here → IsIn k c.bus.state.joined

left_here : (c : Carried) (conn : ℕ) → HereJoined c → HereJoined (left c conn)
left_here c conn h k e there on = by (with_cases leaves c.ends conn k x.0 x.1)
  where
    without : Carried
    without = record { bus = record c.bus { waiting = without_queue c.bus.waiting conn }; ends = with_end conn leaves c.ends }

    x : (d : End) × (end_at without.ends k ≡ Some d) × Goes_on d e
    x = (stepped_over Goes_on going own_letter (λ m d. put_goes (own_letter m) d) without (bus_leaves c.bus.state conn)).back k e there

    by : ((d : End) × (end_at c.ends k ≡ Some d) × (((k ≡ conn) × (x.0 ≡ leaves d)) ⊎ ((k ≡ conn → ⊥) × (x.0 ≡ d)))) → IsIn k (filter (λ c. not (c == conn)) c.bus.state.joined)
    by g = at g.2
      where
        at : (((k ≡ conn) × (x.0 ≡ leaves g.0)) ⊎ ((k ≡ conn → ⊥) × (x.0 ≡ g.0))) → IsIn k (filter (λ c. not (c == conn)) c.bus.state.joined)
        at (inl a) = absurd (false_true (ap (λ (y : End). is_here y.standing) (sym a.1) ∙ ap is_here (x.2.on on)))
        at (inr a) = in_rest c.bus.state.joined conn k (h k g.0 g.1 (ap (λ (y : End). y.standing) (sym a.1) ∙ x.2.on on)) a.0

one_here : (c : Carried) (due : List (ℕ × Why)) → HereJoined c → HereJoined (one_closed c due)
one_here c [] h = h
one_here c (first ∷ rest) h = left_here c first.0 h

settled_here : (rounds : ℕ) (c : Carried) → HereJoined c → HereJoined (settled rounds c)
settled_here zero c h = h
settled_here (suc rounds) c h = settled_here rounds (one_closed c c.bus.waiting.due) (one_here c c.bus.waiting.due h)

takes_here : (c : Carried) (conn : ℕ) (who : Party) (said : Said) → HereJoined c → HereJoined (takes c conn who said)
takes_here c conn who said h = settled_here (length c.bus.state.joined) (with_name conn b) now
  where
    a : Carried
    a = record c { ends = with_end conn taken_up c.ends }

    step : BusStep
    step = bus_takes c.bus.state conn said.message (rule_in said.message)

    b : Carried
    b = stepped (letter_of who said) a step

    now : HereJoined (with_name conn b)
    now k e there on =
        let x = (over_with Goes_on going (named b.bus conn) (name_goes b.bus conn) conn b.ends).back k e there in
        let y = (stepped_over Goes_on going (letter_of who said) (λ m d. put_goes (letter_of who said m) d) a step).back k x.0 x.1 in
        let z = (over_with Goes_on going taken_up up_goes conn c.ends).back k y.0 y.1 in
        subst (IsIn k) (sym (takes_joined c.bus.state conn said.message (rule_in said.message))) (h k z.0 z.1 (z.2.on (y.2.on (x.2.on on))))

no_due_yet : (w : World) → Rested w → DueJoined (record { bus = w.bus; ends = w.ends })
no_due_yet w i = record { lists = i.lists; due = subst (AllByRecursion (λ (d : ℕ × Why). IsIn d.0 w.bus.state.joined)) (sym i.due) tt }

pub due_joined : (w : World) → Rested w → DueJoined (record { bus = w.bus; ends = w.ends })
due_joined w i = no_due_yet w i

took_rest : (w : World) (d : Done) → Rested w → BusTakes w d → Rested d.world
took_rest w d i b =
    let c0 : Carried = record { bus = w.bus; ends = w.ends } in
    let x = takes_settle c0 b.conn b.e.who b.said (i.joined b.conn b.e b.is_here.there b.is_here.standing) (no_due_yet w i) in
    subst (λ y. Rested y.world) (sym b.is) (record { lists = x.0.lists; due = x.1; joined = takes_here c0 b.conn b.e.who b.said i.joined })

ended_rest : (w : World) (d : Done) → Rested w → BusEnds w d → Rested d.world
ended_rest w d i b =
    let c0 : Carried = record { bus = w.bus; ends = w.ends } in
    let x = ends_settle c0 b.conn (no_due_yet w i) in
    subst (λ y. Rested y.world) (sym b.is) (record { lists = x.0.lists; due = x.1; joined = settled_here (length w.bus.state.joined) (left c0 b.conn) (left_here c0 b.conn i.joined) })

-- AT THE BEGINNING
first_rests : (quota : ℕ) → Rested (first_world quota)
first_rests quota = record {
  lists = λ q. subst (AllByRecursion (λ (p : ℕ × ℕ). IsIn p.0 (0 ∷ []))) (sym (ap (λ o. unwrap_or o []) (get-from_sorted (slice_cmp nat_cmp) first_lists q tt))) (by _ _);
  due = refl;
  joined = λ k e h on. at k e h;
}
  where
    by : (a b : Bool) → AllByRecursion (λ (p : ℕ × ℕ). IsIn p.0 (0 ∷ [])) (unwrap_or (cond a (Some ((0, 0) ∷ [])) (cond b (Some ((0, 4) ∷ [])) None)) [])
    by true b = (inl refl, tt)
    by false true = (inl refl, tt)
    by false false = tt

    at : (k : ℕ) (e : End) → end_at (first_registry ∷ []) k ≡ Some e → IsIn k (0 ∷ [])
    at zero e h = inl refl
    at (suc k) e h = absurd (no_none e h)

caused : (w : World) (d : Done) → Rested w → Effect w d → Rested d.world
caused w d i (resets quota few is) = subst (λ x. Rested x.world) (sym is) (first_rests quota)
caused w d i (app_joins name short is) = joins_rest w d.world (new_app w name) i (ap (λ x. x.world.ends) is ∙ app_joined w name) (ap (λ x. x.world.bus.state.joined) is) (ap (λ x. x.world.bus.state.owners) is) (ap (λ x. x.world.bus.waiting.due) is)
caused w d i (reader_joins few is) = joins_rest w d.world (new_reader w) i (ap (λ x. x.world.ends) is) (ap (λ x. x.world.bus.state.joined) is) (ap (λ x. x.world.bus.state.owners) is) (ap (λ x. x.world.bus.waiting.due) is)
caused w d i (app_edited b) = still w d.world i (edits_over w d b) (ap (λ x. x.world.bus.state.joined) b.is) (ap (λ x. x.world.bus.state.owners) b.is) (ap (λ x. x.world.bus.waiting.due) b.is)
caused w d i (app_took b) = still w d.world i (app_takes_over w d b) (ap (λ x. x.world.bus.state.joined) b.is) (ap (λ x. x.world.bus.state.owners) b.is) (ap (λ x. x.world.bus.waiting.due) b.is)
caused w d i (reader_called b) = still w d.world i (calls_over w d b) (ap (λ x. x.world.bus.state.joined) b.is) (ap (λ x. x.world.bus.state.owners) b.is) (ap (λ x. x.world.bus.waiting.due) b.is)
caused w d i (swapped b) = still w d.world i (same_ends w d.world (ap (λ x. x.world.ends) b.is)) (ap (λ x. x.world.bus.state.joined) b.is) (ap (λ x. x.world.bus.state.owners) b.is) (ap (λ x. x.world.bus.waiting.due) b.is)
caused w d i (exited_ b) = still w d.world i (stopping_over w d b) (ap (λ x. x.world.bus.state.joined) b.is) (ap (λ x. x.world.bus.state.owners) b.is) (ap (λ x. x.world.bus.waiting.due) b.is)
caused w d i (showed_ b) = still w d.world i (same_ends w d.world (ap (λ x. x.world.ends) b.is)) (ap (λ x. x.world.bus.state.joined) b.is) (ap (λ x. x.world.bus.state.owners) b.is) (ap (λ x. x.world.bus.waiting.due) b.is)
caused w d i (told_busy turns is) = still w d.world i (same_ends w d.world (ap (λ x. x.world.ends) is)) (ap (λ x. x.world.bus.state.joined) is) (ap (λ x. x.world.bus.state.owners) is) (ap (λ x. x.world.bus.waiting.due) is)
caused w d i (told_quiet none is) = still w d.world i (same_ends w d.world (ap (λ x. x.world.ends) is)) (ap (λ x. x.world.bus.state.joined) is) (ap (λ x. x.world.bus.state.owners) is) (ap (λ x. x.world.bus.waiting.due) is)
caused w d i (bus_took b) = took_rest w d i b
caused w d i (bus_ended b) = ended_rest w d i b
caused w d i (registry_took b) = still w d.world i (registry_over w d b) (ap (λ x. x.world.bus.state.joined) b.is) (ap (λ x. x.world.bus.state.owners) b.is) (ap (λ x. x.world.bus.waiting.due) b.is)
caused w d i (reader_took b) = still w d.world i (reader_over w d b) (ap (λ x. x.world.bus.state.joined) b.is) (ap (λ x. x.world.bus.state.owners) b.is) (ap (λ x. x.world.bus.waiting.due) b.is)

rests_grow : Grows Nothing Rests
rests_grow = record {
  begins = first_rests QUOTA_MOST;
  caused = λ es w d s a i e after b. caused w d i e;
  moved = λ es w v s a i m. by w v i m;
  asked = λ es w conn r m question s a i asks. still w (at_end w conn (asks_at m question)) i (asked_over w conn r m question asks) refl refl refl;
}
  where
    by : (w v : World) → Rested w → (MovedUp w v ⊎ MovedDown w v) → Rested v
    by w v i (inl m) = still w v i (up_moved_over w v m) (ap (λ (x : World). x.bus.state.joined) m.after) (ap (λ (x : World). x.bus.state.owners) m.after) (ap (λ (x : World). x.bus.waiting.due) m.after)
    by w v i (inr m) = still w v i (down_moved_over w v m) (ap (λ (x : World). x.bus.state.joined) m.after) (ap (λ (x : World). x.bus.state.owners) m.after) (ap (λ (x : World). x.bus.waiting.due) m.after)

pub rests_keep : Keeps (Shaped (And Nothing Rests))
rests_keep = grown Nothing Rests shaped_keeps rests_grow
