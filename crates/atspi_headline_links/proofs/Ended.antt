-- EACH CONNECTION that the bus knows, along a run, is one of an end.
use Rattle.std.proofs.Common.{◌≡◌, ◌⊎◌, inl, inr, ℕ, suc, ◌+◌, ◌<◌, Bool, true, false, List, [], ◌∷◌, ◌++◌, length, None, Some, refl, sym, ap, ◌∙◌, subst, arith, cond, length-append}
use Rattle.std.specs.Prelude.{unwrap_or}
use Rattle.std.specs.List.{AllByRecursion}
use Rattle.std.specs.FinMap.{get-from_sorted}
use Rattle.std.specs.Ordering.{nat_cmp}
use Rattle.std.specs.Cmp.Lexicographic.{slice_cmp}
use Rattle.atspi_script_lines.specs.declared.limits.TheConstants.{QUOTA_MOST}
use Rattle.atspi_names.specs.Owners.{list_of}
use Rattle.atspi_trace.specs.Entry.{Entry}
use Rattle.atspi_trace.specs.World.{first_lists, first_world, End, World}
use Rattle.atspi_trace.specs.Carrying as carrying
use Rattle.atspi_trace.specs.Carrying.{Carried}
use Rattle.atspi_trace.specs.Causes.{Done, at_end}
use Rattle.atspi_trace.specs.Due.{asks_at}
use Rattle.atspi_trace_laws.proofs.OfOrder.Parties.{all_append}
use Rattle.atspi_trace_laws.proofs.OfOrder.Allowed.{MovedUp, MovedDown}
use Rattle.atspi_trace_laws.proofs.OfOrder.Frame.{at_below}
use Rattle.atspi_trace_laws.proofs.OfOrder.Effects.{BusTakes, BusEnds, Effect, resets, app_joins, reader_joins, app_edited, app_took, reader_called, swapped, exited_, showed_, told_busy, told_quiet, bus_took, bus_ended, registry_took, reader_took}
use Rattle.atspi_trace_laws.proofs.OfOrder.Shaped.{new_app, new_reader, app_joined, bus_takes_over, bus_ends_over, edits_over, app_takes_over, calls_over, stopping_over, registry_over, reader_over, up_moved_over, down_moved_over, asked_over}
use Rattle.atspi_trace_laws.proofs.OfOrder.Along.{Keeps}
use Rattle.atspi_trace_laws.proofs.OfOrder.Growing.{Grows, Shaped, Nothing, And, grown}
use Rattle.atspi_trace_laws.proofs.OfOrder.Each.{all_map}
use Rattle.atspi_trace_laws.proofs.OfOrder.Closed.{IsTold}
use Rattle.atspi_trace_laws.proofs.OfOrder.Told.{Tells, told_keeps}
use Rattle.atspi_trace_laws.proofs.OfDrops.Reaching.{Reach, Within, DueBelow, ClosedBelow, IsIn, AreIn, Below, takes_within, ends_within}

abbrev pub Under : ℕ → ℕ → Type 0
Under n c = c < n

pub record Knows (n : ℕ) (w : World) : Type 0 where
  pub state : Reach (Under n) w.bus.state
  pub due : AllByRecursion (DueBelow (Under n)) w.bus.waiting.due

abbrev pub KnowsEnds : World → Type 0
KnowsEnds w = Knows (length w.ends) w

abbrev pub Ended : List Entry → World → Type 0
Ended es w = KnowsEnds w

same_ends : (w v : World) → KnowsEnds w → length v.ends ≡ length w.ends → v.bus.state ≡ w.bus.state → v.bus.waiting.due ≡ w.bus.waiting.due → KnowsEnds v
same_ends w v i size state due =
    subst (λ n. Knows n v) (sym size) (record { state = subst (Reach (Under (length w.ends))) (sym state) i.state; due = subst (AllByRecursion (DueBelow (Under (length w.ends)))) (sym due) i.due })

quietly : (w : World) (d : Done) → KnowsEnds w → length d.world.ends ≡ length w.ends → d.world.bus.state ≡ w.bus.state → d.world.bus.waiting.due ≡ w.bus.waiting.due → KnowsEnds d.world
quietly w d i size state due = same_ends w d.world i size state due

-- one end more
higher : (n : ℕ) (w : World) → Knows n w → Knows (suc n) w
higher n w i = record {
  state = record {
    joined = all_map (Below (Under n)) (Below (Under (suc n))) w.bus.state.joined (λ c h. up c n h) i.state.joined;
    lists = λ q. all_map (IsIn (Under n)) (IsIn (Under (suc n))) (list_of w.bus.state.owners.lists q) (λ p h. up p.0 n h) (i.state.lists q);
  };
  due = all_map (DueBelow (Under n)) (DueBelow (Under (suc n))) w.bus.waiting.due (λ d h. up d.0 n h) i.due;
}
  where
    up : (c n : ℕ) → c < n → c < suc n
    up c n h = omega (arith, h)

least : (n : ℕ) → n < suc n
least n = omega arith

joins_ends : (w v : World) (n : End) → KnowsEnds w → v.ends ≡ w.ends ++ n ∷ [] → v.bus.state.joined ≡ w.bus.state.joined ++ length w.ends ∷ [] → v.bus.state.owners ≡ w.bus.state.owners → v.bus.waiting.due ≡ w.bus.waiting.due → KnowsEnds v
joins_ends w v n i is joined owners due =
    let x : Knows (suc (length w.ends)) w = higher (length w.ends) w i in
    subst (λ k. Knows k v) (sym (size (ap length is ∙ length-append w.ends (n ∷ [])))) (record {
      state = record {
        joined = subst (AllByRecursion (Below (Under (suc (length w.ends))))) (sym joined) (all_append (Below (Under (suc (length w.ends)))) w.bus.state.joined (length w.ends ∷ []) x.state.joined (least (length w.ends), tt));
        lists = subst (λ o. AreIn (Under (suc (length w.ends))) o.lists) (sym owners) x.state.lists;
      };
      due = subst (AllByRecursion (DueBelow (Under (suc (length w.ends))))) (sym due) x.due;
    })
  where
    size : length v.ends ≡ length w.ends + 1 → length v.ends ≡ suc (length w.ends)
    size h = omega (arith, h)

-- THE BUS: whoever is closed has an end
pub took_within : (w : World) (d : Done) → IsTold w → KnowsEnds w → (b : BusTakes w d) → Within (Under (length w.ends)) (carrying.takes (record { bus = w.bus; ends = w.ends }) b.conn b.e.who b.said)
took_within w d t i b =
    takes_within (Under (length w.ends)) (record { bus = w.bus; ends = w.ends }) b.conn b.e.who b.said (at_below w.ends b.conn b.e b.is_here.there)
    (record { state = i.state; due = i.due; told = subst (AllByRecursion (ClosedBelow (Under (length w.ends)))) (sym t.closings) tt })

pub ended_within : (w : World) (d : Done) → IsTold w → KnowsEnds w → (b : BusEnds w d) → Within (Under (length w.ends)) (carrying.takes_end (record { bus = w.bus; ends = w.ends }) b.conn)
ended_within w d t i b =
    ends_within (Under (length w.ends)) (record { bus = w.bus; ends = w.ends }) b.conn
    (record { state = i.state; due = i.due; told = subst (AllByRecursion (ClosedBelow (Under (length w.ends)))) (sym t.closings) tt })

took_ends : (w : World) (d : Done) → IsTold w → KnowsEnds w → BusTakes w d → KnowsEnds d.world
took_ends w d t i b =
    let r = took_within w d t i b in
    subst (λ n. Knows n d.world) (sym (bus_takes_over w d b).size) (record {
      state = subst (λ (x : Done). Reach (Under (length w.ends)) x.world.bus.state) (sym b.is) r.state;
      due = subst (λ (x : Done). AllByRecursion (DueBelow (Under (length w.ends))) x.world.bus.waiting.due) (sym b.is) r.due;
    })

ended_ends : (w : World) (d : Done) → IsTold w → KnowsEnds w → BusEnds w d → KnowsEnds d.world
ended_ends w d t i b =
    let r = ended_within w d t i b in
    subst (λ n. Knows n d.world) (sym (bus_ends_over w d b).size) (record {
      state = subst (λ (x : Done). Reach (Under (length w.ends)) x.world.bus.state) (sym b.is) r.state;
      due = subst (λ (x : Done). AllByRecursion (DueBelow (Under (length w.ends))) x.world.bus.waiting.due) (sym b.is) r.due;
    })

-- AT THE BEGINNING
first_ends : (quota : ℕ) → KnowsEnds (first_world quota)
first_ends quota = record { state = record { joined = (one, tt); lists = λ q. subst (AllByRecursion (IsIn (Under 1))) (sym (ap (λ o. unwrap_or o []) (get-from_sorted (slice_cmp nat_cmp) first_lists q tt))) (by _ _) }; due = tt }
  where
    one : 0 < 1
    one = omega arith

    by : (a b : Bool) → AllByRecursion (IsIn (Under 1)) (unwrap_or (cond a (Some ((0, 0) ∷ [])) (cond b (Some ((0, 4) ∷ [])) None)) [])
    by true b = (one, tt)
    by false true = (one, tt)
    by false false = tt

caused : (w : World) (d : Done) → IsTold w → KnowsEnds w → Effect w d → KnowsEnds d.world
caused w d t i (resets quota few is) = subst (λ (x : Done). KnowsEnds x.world) (sym is) (first_ends quota)
caused w d t i (app_joins name short is) =
    joins_ends w d.world (new_app w name) i (ap (λ x. x.world.ends) is ∙ app_joined w name) (ap (λ x. x.world.bus.state.joined) is) (ap (λ x. x.world.bus.state.owners) is) (ap (λ x. x.world.bus.waiting.due) is)
caused w d t i (reader_joins few is) =
    joins_ends w d.world (new_reader w) i (ap (λ x. x.world.ends) is) (ap (λ x. x.world.bus.state.joined) is) (ap (λ x. x.world.bus.state.owners) is) (ap (λ x. x.world.bus.waiting.due) is)
caused w d t i (app_edited b) = quietly w d i (edits_over w d b).size (ap (λ x. x.world.bus.state) b.is) (ap (λ x. x.world.bus.waiting.due) b.is)
caused w d t i (app_took b) = quietly w d i (app_takes_over w d b).size (ap (λ x. x.world.bus.state) b.is) (ap (λ x. x.world.bus.waiting.due) b.is)
caused w d t i (reader_called b) = quietly w d i (calls_over w d b).size (ap (λ x. x.world.bus.state) b.is) (ap (λ x. x.world.bus.waiting.due) b.is)
caused w d t i (swapped b) = quietly w d i (ap (λ x. length x.world.ends) b.is) (ap (λ x. x.world.bus.state) b.is) (ap (λ x. x.world.bus.waiting.due) b.is)
caused w d t i (exited_ b) = quietly w d i (stopping_over w d b).size (ap (λ x. x.world.bus.state) b.is) (ap (λ x. x.world.bus.waiting.due) b.is)
caused w d t i (showed_ b) = quietly w d i (ap (λ x. length x.world.ends) b.is) (ap (λ x. x.world.bus.state) b.is) (ap (λ x. x.world.bus.waiting.due) b.is)
caused w d t i (told_busy turns is) = quietly w d i (ap (λ x. length x.world.ends) is) (ap (λ x. x.world.bus.state) is) (ap (λ x. x.world.bus.waiting.due) is)
caused w d t i (told_quiet none is) = quietly w d i (ap (λ x. length x.world.ends) is) (ap (λ x. x.world.bus.state) is) (ap (λ x. x.world.bus.waiting.due) is)
caused w d t i (bus_took b) = took_ends w d t i b
caused w d t i (bus_ended b) = ended_ends w d t i b
caused w d t i (registry_took b) = quietly w d i (registry_over w d b).size (ap (λ x. x.world.bus.state) b.is) (ap (λ x. x.world.bus.waiting.due) b.is)
caused w d t i (reader_took b) = quietly w d i (reader_over w d b).size (ap (λ x. x.world.bus.state) b.is) (ap (λ x. x.world.bus.waiting.due) b.is)

ended_grows : Grows (And Nothing Tells) Ended
ended_grows = record {
  begins = first_ends QUOTA_MOST;
  caused = λ es w d s a i e after b. caused w d a.1 i e;
  moved = λ es w v s a i m. by w v i m;
  asked = λ es w conn r m question s a i asks. same_ends w (at_end w conn (asks_at m question)) i (asked_over w conn r m question asks).size refl refl;
}
  where
    by : (w v : World) → KnowsEnds w → (MovedUp w v ⊎ MovedDown w v) → KnowsEnds v
    by w v i (inl m) = same_ends w v i (up_moved_over w v m).size (ap (λ (x : World). x.bus.state) m.after) (ap (λ (x : World). x.bus.waiting.due) m.after)
    by w v i (inr m) = same_ends w v i (down_moved_over w v m).size (ap (λ (x : World). x.bus.state) m.after) (ap (λ (x : World). x.bus.waiting.due) m.after)

pub ended_keep : Keeps (Shaped (And (And Nothing Tells) Ended))
ended_keep = grown (And Nothing Tells) Ended told_keeps ended_grows
