-- The law of dropped ends, along a lawful trace.
use Rattle.std.proofs.Common.{◌≡◌, ◌⊎◌, inl, inr, ℕ, suc, ◌+◌, ◌<◌, Bool, true, false, List, [], ◌∷◌, ◌++◌, length, map, Option, None, Some, refl, sym, ap, ◌∙◌, subst, arith, cond, length-append}
use Rattle.std.specs.Prelude.{get_or, unwrap_or}
use Rattle.std.specs.List.{AllByRecursion}
use Rattle.std.specs.FinMap.{get-from_sorted}
use Rattle.std.specs.Ordering.{nat_cmp}
use Rattle.std.specs.Cmp.Lexicographic.{slice_cmp}
use Rattle.std.proofs.lemmas.Option.{slice_get-get_or}
use Rattle.atspi_script_lines.specs.declared.limits.TheConstants.{QUOTA_MOST}
use Rattle.atspi_script_lines.specs.declared.line.Line.{Line}
use Rattle.atspi_script_lines.specs.declared.line.Party.{Party}
use Rattle.atspi_script_lines.specs.declared.line.Party.TheVariants.{Bus as The_bus, Registry, App, Reader}
use Rattle.atspi_message.specs.Envelope.{Envelope}
use Rattle.atspi_names.specs.Owners.{list_of}
use Rattle.atspi_match.specs.declared.routing.closing.Closing.{Closing}
use Rattle.atspi_protocol.specs.registering.Steps.{registry_takes}
use Rattle.atspi_protocol.specs.exporting.Exporter.{Happening, steps, sends, hears, deaf, begins as begins_app}
use Rattle.atspi_protocol.specs.exporting.Starting.{starts}
use Rattle.atspi_protocol.specs.exporting.Taking.{app_takes}
use Rattle.atspi_trace.specs.Entry.{Entry, sent, dropped}
use Rattle.atspi_trace.specs.World.{an_application, first_lists, first_world, End, World, newcomer}
use Rattle.atspi_trace.specs.Ends.{number_of, whose, party_at, end_at, app_count, put_up}
use Rattle.atspi_trace.specs.Carrying as carrying
use Rattle.atspi_trace.specs.Carrying.{Carried, bus_entries}
use Rattle.atspi_trace.specs.Causes.{Done, at_end, did}
use Rattle.atspi_trace.specs.Due.{asks_at, begins, Goes}
use Rattle.atspi_trace_laws.specs.laws.NineLaws.{Everywhere, IsOver, LawOfDroppedEnds}
use Rattle.atspi_trace_laws.specs.order.Scripts.{CanAllStand}
use Rattle.atspi_trace_laws.specs.order.Laws.{IsOut}
use Rattle.atspi_trace_laws.specs.lost.Laws.{IsAllOver}
use Rattle.atspi_trace_laws.specs.drops.Laws.{IsOfAnEnd}
use Rattle.atspi_trace_laws.proofs.OfOrder.Parties.{all_append}
use Rattle.atspi_trace_laws.proofs.OfOrder.BusWords.{bus_all}
use Rattle.atspi_trace_laws.proofs.OfOrder.Allowed.{MovedUp, MovedDown}
use Rattle.atspi_trace_laws.proofs.OfOrder.Frame.{Over, at_below}
use Rattle.atspi_trace_laws.proofs.OfOrder.Shape.{Lasts, Shape}
use Rattle.atspi_trace_laws.proofs.OfOrder.Effects.{received, BusTakes, BusEnds, Effect, resets, app_joins, reader_joins, app_edited, app_took, reader_called, swapped, exited_, showed_, told_busy, told_quiet, bus_took, bus_ended, registry_took, reader_took}
use Rattle.atspi_trace_laws.proofs.OfOrder.Shaped.{new_app, new_reader, app_joined, bus_takes_over, bus_ends_over, edits_over, app_takes_over, calls_over, stopping_over, registry_over, reader_over, up_moved_over, down_moved_over, asked_over}
use Rattle.atspi_trace_laws.proofs.OfOrder.Along.{Keeps, kept}
use Rattle.atspi_trace_laws.proofs.OfOrder.Growing.{Grows, Shaped, Nothing, And, grown}
use Rattle.atspi_trace_laws.proofs.OfOrder.Each.{Each, everywhere, each_more, each_of, all_map}
use Rattle.atspi_trace_laws.proofs.OfOrder.Closed.{IsTold}
use Rattle.atspi_trace_laws.proofs.OfOrder.Told.{Tells, told_keeps}
use Rattle.atspi_trace_laws.proofs.OfOrder.Exits.{nobody_returns}
use Rattle.atspi_trace_laws.proofs.OfHeard.Quiet.{heard_all}
use Rattle.atspi_trace_laws.proofs.OfLinks.LawLinks.{no_bus}
use Rattle.atspi_trace_laws.proofs.OfLost.Lost.{nothing_behind}
use Rattle.atspi_trace_laws.proofs.OfDrops.Reaching.{Reach, Within, DueBelow, ClosedBelow, IsIn, AreIn, Below, takes_within, ends_within}

-- entries that drop nobody
abbrev NoDrop : Entry → Type 0
NoDrop (dropped who queued len) = ⊥
NoDrop entry = Unit {0}

-- or an end
abbrev OfEnd : Entry → Type 0
OfEnd (dropped who queued len) = who ≡ The_bus → ⊥
OfEnd entry = Unit {0}

no_drop_end : (entry : Entry) → NoDrop entry → OfEnd entry
no_drop_end (dropped who queued len) n = absurd n
no_drop_end entry n = tt

of_end_law : (before : List Entry) (entry : Entry) (behind : List Entry) → OfEnd entry → IsOfAnEnd before entry behind
of_end_law before (dropped who queued len) behind h = h
of_end_law before entry behind h = tt

weaker : (ys before : List Entry) (entry : Entry) (behind : List Entry) → IsOfAnEnd before entry behind → IsOfAnEnd before entry (behind ++ ys)
weaker ys before (dropped who queued len) behind h = h
weaker ys before entry behind h = tt

all_weaker : (ys early xs : List Entry) → Each IsOfAnEnd early xs → Each (λ before entry behind. IsOfAnEnd before entry (behind ++ ys)) early xs
all_weaker ys early [] e = tt
all_weaker ys early (x ∷ xs) e = (weaker ys early x xs e.0, all_weaker ys (early ++ x ∷ []) xs e.1)

law_more : (es ys : List Entry) → Each IsOfAnEnd [] es → AllByRecursion OfEnd ys → Each IsOfAnEnd [] (es ++ ys)
law_more es ys a b = each_more IsOfAnEnd [] es ys (all_weaker ys [] es a) (each_of OfEnd IsOfAnEnd es ys of_end_law b)

did_none : (app : ℕ) (hs : List Happening) → AllByRecursion NoDrop (map (did app) hs)
did_none app [] = tt
did_none app (steps step ∷ hs) = (tt, did_none app hs)
did_none app (sends e ∷ hs) = (tt, did_none app hs)
did_none app (hears listener pattern ∷ hs) = (tt, did_none app hs)
did_none app (deaf listener pattern ∷ hs) = (tt, did_none app hs)

sent_none : (who : Party) (es : List Envelope) → AllByRecursion NoDrop (map (sent who) es)
sent_none who [] = tt
sent_none who (e ∷ es) = (tt, sent_none who es)

none_of : (d x : Done) → d ≡ x → AllByRecursion NoDrop x.entries → AllByRecursion OfEnd d.entries
none_of d x is a = all_map NoDrop OfEnd d.entries no_drop_end (subst (λ y. AllByRecursion NoDrop y.entries) (sym is) a)

-- THE STATE: who may be handed something is below so many, which is to say that it has an end
abbrev Under : ℕ → ℕ → Type 0
Under n c = c < n

pub record Ends_all (n : ℕ) (w : World) : Type 0 where
  pub state : Reach (Under n) w.bus.state
  pub due : AllByRecursion (DueBelow (Under n)) w.bus.waiting.due

abbrev pub HasEnds : World → Type 0
HasEnds w = Ends_all (length w.ends) w

abbrev pub Dropping : List Entry → World → Type 0
Dropping es w = Each IsOfAnEnd [] es × HasEnds w

same_ends : (w v : World) → HasEnds w → length v.ends ≡ length w.ends → v.bus.state ≡ w.bus.state → v.bus.waiting.due ≡ w.bus.waiting.due → HasEnds v
same_ends w v i size state due = subst (λ n. Ends_all n v) (sym size) (record { state = subst (Reach (Under (length w.ends))) (sym state) i.state; due = subst (AllByRecursion (DueBelow (Under (length w.ends)))) (sym due) i.due })

quietly : (es : List Entry) (w : World) (d : Done) → Dropping es w → AllByRecursion OfEnd d.entries → length d.world.ends ≡ length w.ends → d.world.bus.state ≡ w.bus.state → d.world.bus.waiting.due ≡ w.bus.waiting.due
    → Dropping (es ++ d.entries) d.world
quietly es w d i n size state due = (law_more es d.entries i.0 n, same_ends w d.world i.1 size state due)

-- one end more
higher : (n : ℕ) (w : World) → Ends_all n w → Ends_all (suc n) w
higher n w i = record {
  state = record {
    joined = all_map (Below (Under n)) (Below (Under (suc n))) w.bus.state.joined (λ c h. up c n h) i.state.joined;
    lists = λ q. all_map (IsIn (Under n)) (IsIn (Under (suc n))) (list_of w.bus.state.owners.lists q) (λ p h. up p.0 n h) (i.state.lists q);
  };
  due = all_map (DueBelow (Under n)) (DueBelow (Under (suc n))) w.bus.waiting.due (λ d h. up d.0 n h) i.due;
}
  where
    up : (c n : ℕ) → c < n → c < suc n
    up c n h = omega (arith, h)

least : (n : ℕ) → n < suc n
least n = omega arith

joins_ends : (w v : World) (n : End) → HasEnds w → v.ends ≡ w.ends ++ n ∷ [] → v.bus.state.joined ≡ w.bus.state.joined ++ length w.ends ∷ [] → v.bus.state.owners ≡ w.bus.state.owners → v.bus.waiting.due ≡ w.bus.waiting.due → HasEnds v
joins_ends w v n i is joined owners due =
    let x : Ends_all (suc (length w.ends)) w = higher (length w.ends) w i in
    subst (λ k. Ends_all k v) (sym (size (ap length is ∙ length-append w.ends (n ∷ [])))) (record {
      state = record {
        joined = subst (AllByRecursion (Below (Under (suc (length w.ends))))) (sym joined) (all_append (Below (Under (suc (length w.ends)))) w.bus.state.joined (length w.ends ∷ []) x.state.joined (least (length w.ends), tt));
        lists = subst (λ o. AreIn (Under (suc (length w.ends))) o.lists) (sym owners) x.state.lists;
      };
      due = subst (AllByRecursion (DueBelow (Under (suc (length w.ends))))) (sym due) x.due;
    })
  where
    size : length v.ends ≡ length w.ends + 1 → length v.ends ≡ suc (length w.ends)
    size h = omega (arith, h)

-- each connection that was closed is one of an end
closed_ends : (v : World) (n : ℕ) (ends : List End) → Shape v → v.ends ≡ ends → length ends ≡ n → (cs : List Closing) → AllByRecursion (ClosedBelow (Under n)) cs
    → AllByRecursion (λ (c : Closing). (queued len : ℕ) → OfEnd (dropped (party_at ends c.conn) queued len)) cs
closed_ends v n ends s is size cs a = all_map (ClosedBelow (Under n)) _ cs (λ c h. λ queued len. no_party c h) a
  where
    none : (o : Option End) → (e : End) → o ≡ Some e → whose o ≡ e.who
    none o e h = ap whose h

    end_there : (l : List End) (k : ℕ) → k < length l → (e : End) × (end_at l k ≡ Some e)
    end_there [] k h = absurd (omega (arith, h))
    end_there (x ∷ xs) k h = (get_or (x ∷ xs) k x, slice_get-get_or (x ∷ xs) k x h)

    no_party : (c : Closing) → c.conn < n → party_at ends c.conn ≡ The_bus → ⊥
    no_party c h bus =
        let x = end_there ends c.conn (subst (λ k. c.conn < k) (sym size) h) in
        no_bus v c.conn x.0 s (ap (λ l. end_at l c.conn) is ∙ x.1) (sym (ap whose x.1) ∙ bus)

took_drops : (es : List Entry) (w : World) (d : Done) → Shape d.world → IsTold w → Dropping es w → BusTakes w d → Over Lasts w.ends d.world.ends → Dropping (es ++ d.entries) d.world
took_drops es w d s t i b o =
    let c0 : Carried = record { bus = w.bus; ends = w.ends } in
    let c : Carried = carrying.takes c0 b.conn b.e.who b.said in
    let r : Within (Under (length w.ends)) c =
    takes_within (Under (length w.ends)) c0 b.conn b.e.who b.said (at_below w.ends b.conn b.e b.is_here.there) (record { state = i.1.state; due = i.1.due; told = subst (AllByRecursion (ClosedBelow (Under (length w.ends)))) (sym t.closings) tt }) in
    let ends : d.world.ends ≡ c.ends = ap (λ x. x.world.ends) b.is in (
      law_more es d.entries i.0
          (subst (λ x. AllByRecursion OfEnd x.entries) (sym b.is) (
            tt,
            bus_all OfEnd (λ e. tt) c.ends c.bus.own c.bus.closings (closed_ends d.world (length w.ends) c.ends s ends (ap length (sym ends) ∙ o.size) c.bus.closings r.told),
          )),
      subst (λ n. Ends_all n d.world) (sym o.size) (record {
        state = subst (λ x. Reach (Under (length w.ends)) x.world.bus.state) (sym b.is) r.state;
        due = subst (λ x. AllByRecursion (DueBelow (Under (length w.ends))) x.world.bus.waiting.due) (sym b.is) r.due;
      }),
    )

ended_drops : (es : List Entry) (w : World) (d : Done) → Shape d.world → IsTold w → Dropping es w → BusEnds w d → Over Lasts w.ends d.world.ends → Dropping (es ++ d.entries) d.world
ended_drops es w d s t i b o =
    let c0 : Carried = record { bus = w.bus; ends = w.ends } in
    let c : Carried = carrying.takes_end c0 b.conn in
    let r : Within (Under (length w.ends)) c =
    ends_within (Under (length w.ends)) c0 b.conn (record { state = i.1.state; due = i.1.due; told = subst (AllByRecursion (ClosedBelow (Under (length w.ends)))) (sym t.closings) tt }) in
    let ends : d.world.ends ≡ c.ends = ap (λ x. x.world.ends) b.is in (
      law_more es d.entries i.0
          (subst (λ x. AllByRecursion OfEnd x.entries) (sym b.is)
          (bus_all OfEnd (λ e. tt) c.ends c.bus.own c.bus.closings (closed_ends d.world (length w.ends) c.ends s ends (ap length (sym ends) ∙ o.size) c.bus.closings r.told))),
      subst (λ n. Ends_all n d.world) (sym o.size) (record {
        state = subst (λ x. Reach (Under (length w.ends)) x.world.bus.state) (sym b.is) r.state;
        due = subst (λ x. AllByRecursion (DueBelow (Under (length w.ends))) x.world.bus.waiting.due) (sym b.is) r.due;
      }),
    )

-- AT THE BEGINNING
first_ends : (quota : ℕ) → HasEnds (first_world quota)
first_ends quota = record { state = record { joined = (one, tt); lists = λ q. subst (AllByRecursion (IsIn (Under 1))) (sym (ap (λ o. unwrap_or o []) (get-from_sorted (slice_cmp nat_cmp) first_lists q tt))) (by _ _) }; due = tt }
  where
    one : 0 < 1
    one = omega arith

    by : (a b : Bool) → AllByRecursion (IsIn (Under 1)) (unwrap_or (cond a (Some ((0, 0) ∷ [])) (cond b (Some ((0, 4) ∷ [])) None)) [])
    by true b = (one, tt)
    by false true = (one, tt)
    by false false = tt

caused : (es : List Entry) (w : World) (d : Done) → Shape w → Shape d.world → IsTold w → Dropping es w → Effect w d → Dropping (es ++ d.entries) d.world
caused es w d s after t i (resets quota few is) = (law_more es d.entries i.0 (none_of d _ is tt), subst (λ x. HasEnds x.world) (sym is) (first_ends quota))
caused es w d s after t i (app_joins name short is) = (
  law_more es d.entries i.0
      (none_of d _ is (tt, did_none (number_of (party_at (w.ends ++ put_up [] (newcomer (App (app_count w.ends)) (an_application (begins_app name))) ∷ []) (length w.ends))) (starts (begins_app name)).out)),
  joins_ends w d.world (new_app w name) i.1 (ap (λ x. x.world.ends) is ∙ app_joined w name) (ap (λ x. x.world.bus.state.joined) is) (ap (λ x. x.world.bus.state.owners) is) (ap (λ x. x.world.bus.waiting.due) is),
)
caused es w d s after t i (reader_joins few is) = (
  law_more es d.entries i.0 (none_of d _ is (tt, (tt, tt))),
  joins_ends w d.world (new_reader w) i.1 (ap (λ x. x.world.ends) is) (ap (λ x. x.world.bus.state.joined) is) (ap (λ x. x.world.bus.state.owners) is) (ap (λ x. x.world.bus.waiting.due) is),
)
caused es w d s after t i (app_edited b) =
    quietly es w d i (none_of d _ b.is (did_none _ b.after.out)) (edits_over w d b).size (ap (λ x. x.world.bus.state) b.is) (ap (λ x. x.world.bus.waiting.due) b.is)
caused es w d s after t i (app_took b) =
    quietly es w d i (none_of d _ b.is (tt, did_none _ (app_takes b.before b.letter.said.message).out)) (app_takes_over w d b).size (ap (λ x. x.world.bus.state) b.is) (ap (λ x. x.world.bus.waiting.due) b.is)
caused es w d s after t i (reader_called b) = quietly es w d i (none_of d _ b.is (tt, tt)) (calls_over w d b).size (ap (λ x. x.world.bus.state) b.is) (ap (λ x. x.world.bus.waiting.due) b.is)
caused es w d s after t i (swapped b) = quietly es w d i (none_of d _ b.is tt) (ap (λ x. length x.world.ends) b.is) (ap (λ x. x.world.bus.state) b.is) (ap (λ x. x.world.bus.waiting.due) b.is)
caused es w d s after t i (exited_ b) = quietly es w d i (none_of d _ b.is (tt, tt)) (stopping_over w d b).size (ap (λ x. x.world.bus.state) b.is) (ap (λ x. x.world.bus.waiting.due) b.is)
caused es w d s after t i (showed_ b) = quietly es w d i (none_of d _ b.is (tt, tt)) (ap (λ x. length x.world.ends) b.is) (ap (λ x. x.world.bus.state) b.is) (ap (λ x. x.world.bus.waiting.due) b.is)
caused es w d s after t i (told_busy turns is) = quietly es w d i (none_of d _ is (tt, tt)) (ap (λ x. length x.world.ends) is) (ap (λ x. x.world.bus.state) is) (ap (λ x. x.world.bus.waiting.due) is)
caused es w d s after t i (told_quiet none is) = quietly es w d i (none_of d _ is (tt, tt)) (ap (λ x. length x.world.ends) is) (ap (λ x. x.world.bus.state) is) (ap (λ x. x.world.bus.waiting.due) is)
caused es w d s after t i (bus_took b) = took_drops es w d after t i b (bus_takes_over w d b)
caused es w d s after t i (bus_ended b) = ended_drops es w d after t i b (bus_ends_over w d b)
caused es w d s after t i (registry_took b) =
    quietly es w d i (none_of d _ b.is (tt, sent_none b.e.who (registry_takes b.before b.letter.said.message).sent)) (registry_over w d b).size (ap (λ x. x.world.bus.state) b.is) (ap (λ x. x.world.bus.waiting.due) b.is)
caused es w d s after t i (reader_took b) =
    quietly es w d i (none_of d _ b.is (tt, heard_all NoDrop (λ r app line. tt) (λ r app. tt) (number_of b.e.who) b.hearer (received w b.conn b.e b.letter).ends b.letter)) (reader_over w d b).size
    (ap (λ x. x.world.bus.state) b.is) (ap (λ x. x.world.bus.waiting.due) b.is)

drops_grow : Grows (And Nothing Tells) Dropping
drops_grow = record {
  begins = (tt, first_ends QUOTA_MOST);
  caused = λ es w d s a i e after b. caused es w d s after a.1 i e;
  moved = λ es w v s a i m. (i.0, by w v i.1 m);
  asked = λ es w conn r m question s a i asks. (
    law_more es (sent (Reader r) m ∷ []) i.0 (tt, tt),
    same_ends w (at_end w conn (asks_at m question)) i.1 (asked_over w conn r m question asks).size refl refl,
  );
}
  where
    by : (w v : World) → HasEnds w → (MovedUp w v ⊎ MovedDown w v) → HasEnds v
    by w v i (inl m) = same_ends w v i (up_moved_over w v m).size (ap (λ (x : World). x.bus.state) m.after) (ap (λ (x : World). x.bus.waiting.due) m.after)
    by w v i (inr m) = same_ends w v i (down_moved_over w v m).size (ap (λ (x : World). x.bus.state) m.after) (ap (λ (x : World). x.bus.waiting.due) m.after)

drops_keep : Keeps (Shaped (And (And Nothing Tells) Dropping))
drops_keep = grown (And Nothing Tells) Dropping told_keeps drops_grow

each_front : (xs ys : List Entry) (early : List Entry) → Each IsOfAnEnd early (xs ++ ys) → Each IsOfAnEnd early xs
each_front [] ys early e = tt
each_front (x ∷ xs) ys early e = (fewer x e.0, each_front xs ys (early ++ x ∷ []) e.1)
  where
    fewer : (entry : Entry) → IsOfAnEnd early entry (xs ++ ys) → IsOfAnEnd early entry xs
    fewer (dropped who queued len) law = law
    fewer entry law = tt

ends_alone : (lines : List Line) (trace : List Entry) → CanAllStand lines → Goes (begins lines) trace → Everywhere IsOfAnEnd trace
ends_alone lines trace a g =
    let k = kept (Shaped (And (And Nothing Tells) Dropping)) drops_keep lines trace a g in
    everywhere IsOfAnEnd trace (each_front trace _ [] k.state.1.1.0)

-- THE LAW
over : (before : List Entry) (entry : Entry) (behind : List Entry) → IsOfAnEnd before entry behind → IsOut before entry behind → IsAllOver before entry behind → IsOver before entry behind
over before (dropped Registry queued len) behind e o a = a
over before (dropped The_bus queued len) behind e o a = absurd (e refl)
over before (dropped (App b) queued len) behind e o a = o e
over before (dropped (Reader r) queued len) behind e o a = o e
over before entry behind e o a = tt

pub drops_law : (lines : List Line) (trace : List Entry) → CanAllStand lines → Goes (begins lines) trace → LawOfDroppedEnds trace
drops_law lines trace a g before entry behind h =
    over before entry behind (ends_alone lines trace a g before entry behind h) (nobody_returns lines trace a g before entry behind h) (nothing_behind lines trace a g before entry behind h)
