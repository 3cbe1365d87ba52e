-- Why the script of `make` stops: at a line that is its next one, for a cause that a lawful trace has.
use Rattle.std.proofs.Common.{◌≡◌, ◌⊎◌, ◌<◌, ◌≤◌, ◌-◌, ℕ, zero, suc, inl, inr, arith, List, [], ◌∷◌, ◌++◌, map, Option, None, Some, refl, sym, ap, subst, ◌∙◌}
use Rattle.std.specs.Prelude.{◌%◌, codes, option_map, slice_get}
use Rattle.std.specs.List.{AllByRecursion}
use Rattle.atspi_tree_model.specs.declared.edit.Edit.{Edit}
use Rattle.atspi_tree_model.specs.Edits.{IsEdit}
use Rattle.atspi_script_lines.specs.declared.line.Line.{Line}
use Rattle.atspi_script_lines.specs.declared.line.Line.TheVariants.{App as App_line, Reader, Drain, Turns, Edit as Edit_line}
use Rattle.atspi_script_lines.specs.declared.line.Party.TheVariants.{App}
use Rattle.atspi_protocol.specs.exporting.Exporter.{Exporter}
use Rattle.atspi_run_make.specs.Draws.{drawn, drawn_of, next_state}
use Rattle.atspi_run_make.specs.Drawing.{drawn_edit, live_nodes}
use Rattle.atspi_run_make.proofs.Lawful.{drawn_lawful}
use Rattle.atspi_tree.specs.TreeShape.{TreeShape}
use Rattle.atspi_trace.specs.Entry.{Entry, entries_of}
use Rattle.atspi_trace.specs.World.{End}
use Rattle.atspi_trace.specs.Ends.{end_of}
use Rattle.atspi_trace.specs.Work.{edit_refusal, if_here, if_started, no_party, work_of}
use Rattle.atspi_trace.specs.Due.{Lawful}
use Rattle.atspi_world_links.proofs.Changes.{get-map}
use Rattle.atspi_trace_laws.specs.order.Scripts.{CanAllStand}
use Rattle.atspi_trace_played.specs.Turns.{IsUnspent}
use Rattle.atspi_trace_played.proofs.PlayedTurns.{drains_end}
use Rattle.atspi_trace.specs.play.Breaking.{IsLostAt, IsSpentAt}
use Rattle.atspi_trace.specs.play.Played as playing
use Rattle.atspi_world.specs.declared.fault.ActFault.{ActFault}
use Rattle.atspi_world.specs.declared.fault.ActFault.TheVariants as act
use Rattle.atspi_world_parties.specs.declared.refusing.Refusal.{Refusal}
use Rattle.atspi_world_parties.specs.declared.refusing.Refusal.TheVariants.{NoParty}
use Rattle.atspi_world.specs.Halts.{LineLost, LineSpent, ManyTurns, WorkSpent}
use Rattle.atspi_world.specs.Lines.{LineDone}
use Rattle.atspi_world.specs.MayAct.{MayAct}
use Rattle.atspi_world_parties.specs.Refusals.{refusal_of}
use Rattle.atspi_world.specs.Refusals.{RefusedFor}
use Rattle.atspi_world.specs.Worlds.{Staged}
use Rattle.atspi_run_replay.specs.declared.naming.Halt.{Halt}
use Rattle.atspi_run_replay.specs.declared.naming.Halt.TheVariants.{RegistryLost, Spent}
use Rattle.atspi_run_replay.specs.declared.naming.Refused.TheVariants.{World}
use Rattle.atspi_run_replay.specs.declared.naming.Stop.{Stop}
use Rattle.atspi_run_replay.specs.declared.naming.Stop.TheVariants.{Refused}
use Rattle.atspi_run_replay.specs.Done.{BreaksOff, EndsWith}
use Rattle.atspi_run_replay.specs.Made.{IsHaltedOf, IsRefusedOf, StandsBehind, in_opening, last_drain, next_edit}
use Rattle.atspi_run_replay.specs.Made.{next_turns, tree_told}
use Rattle.atspi_run_replay.specs.inner.Made.{HasDrawn, HasPlayed, ScriptStops, StopsAt}
use Rattle.atspi_run_replay.specs.inner.Run.{stop_of}
use Rattle.atspi_run_replay.proofs.Course.{can_more}
use Rattle.atspi_run_replay.proofs.Refusing.{begins_so, drops_last, is_refused}
use Rattle.atspi_run_replay.proofs.Script.{lawful_so, played_line}
use Rattle.atspi_run_replay.proofs.Segments.{stands}

-- A LINE OF A SCRIPT, behind those that were played
module _ (count seed : ℕ) (lines : List Line) (line : Line) (s : Staged) (may : MayAct line) (h : HasPlayed lines s) (next : StandsBehind seed count lines line (entries_of s.trace)) where
  can : CanAllStand (lines ++ line ∷ [])
  can = can_more lines line h.can (stands line may)

  -- it is refused
  refused_of : (why : Refusal) → RefusedFor line why s → IsRefusedOf count seed
  refused_of why r = record {
    lines = lines;
    line = line;
    trace = entries_of s.trace;
    next = next;
    why = refusal_of why;
    refused = is_refused lines (entries_of s.trace) h.now line (refusal_of why) can h.played (r h.now h.is);
  }

  -- the world comes to its end at it
  halted_of : (why : Halt) (more : List Entry) → AllByRecursion IsUnspent (entries_of s.trace ++ more) → playing.refused h.now line ≡ None → BreaksOff why h.now (work_of h.now.world line) more
      → (IsLostAt h.now (work_of h.now.world line) more ⊎ IsSpentAt h.now (work_of h.now.world line) more) → EndsWith why more → IsHaltedOf why count seed
  halted_of why more fits accepted breaks broken ends = record {
    lines = lines;
    line = line;
    trace = entries_of s.trace;
    more = more;
    next = next;
    broken = record {
      now = h.now;
      played = h.played;
      accepted = accepted;
      breaks = breaks;
      begun = begins_so lines (entries_of s.trace) h.now line more can h.played accepted broken;
      unspent = fits;
      last = ends;
    };
  }

  lost_of : (new : Staged) → LineLost line s new → AllByRecursion IsUnspent (entries_of new.trace) → IsHaltedOf RegistryLost count seed
  lost_of new lost fits =
      let x = lost h.now h.is in
      halted_of RegistryLost x.1.0 (subst (AllByRecursion IsUnspent) x.1.2 fits) x.0 x.1.1 (inl x.1.1) (drops_last lines (entries_of s.trace) h.now line x.1.0 can h.played x.0 x.1.1)

  spent_of : (new : Staged) → LineSpent line s new → AllByRecursion IsUnspent (entries_of new.trace) → IsHaltedOf Spent count seed
  spent_of new spent fits =
      let x = spent h.now h.is in
      by x.0 x.1
    where
      by : playing.refused h.now line ≡ None → (WorkSpent h.now (work_of h.now.world line) s new ⊎ ManyTurns h.now s new) → IsHaltedOf Spent count seed
      by accepted (inl x) = halted_of Spent x.0 (subst (AllByRecursion IsUnspent) x.2 fits) accepted x.1 (inr x.1) tt
      by accepted (inr x) =
          let fewer : 4398046511104 < 4398046511104 = drains_end lines (entries_of s.trace) h.now h.can h.played 4398046511104 x.0 x.1 x.2 x.3 (subst (AllByRecursion IsUnspent) x.4 fits) in
          absurd (omega (arith, fewer))

-- WHY A WORLD DOES NOT DO A LINE is why the script stops
pub act_stops : (fault : ActFault) (line : Line) (old new : Staged) → MayAct line → ((why : Refusal) → fault ≡ act.Refused why → RefusedFor line why old)
    → (fault ≡ act.RegistryLost → LineLost line old new) → (fault ≡ act.Spent → LineSpent line old new) → AllByRecursion IsUnspent (entries_of new.trace) → StopsAt line old (stop_of fault)
act_stops (act.Refused why) line old new may refuses loses spends fits = λ count seed lines h next. refused_of count seed lines line old may h next why (refuses why refl)
act_stops act.Spent line old new may refuses loses spends fits = λ count seed lines h next. spent_of count seed lines line old may h next new (spends refl) fits
act_stops act.RegistryLost line old new may refuses loses spends fits = λ count seed lines h next. lost_of count seed lines line old may h next new (loses refl) fits
act_stops act.Unsendable line old new may refuses loses spends fits = λ count seed lines h next. tt
act_stops act.NoMemory line old new may refuses loses spends fits = λ count seed lines h next. tt

-- at the exit of a `?` it is the same stop
pub same_stop : (line : Line) (s : Staged) (stop other : Stop) → stop ≡ other → StopsAt line s other → StopsAt line s stop
same_stop line s stop other same = subst (StopsAt line s) (sym same)

-- an edit of an application that was not started is refused, whichever it is
unstarted : {A : Type 0} (exporter : A → Exporter) (apps : List A) (edit : Edit) (s : Staged) → s.apps ≡ map exporter apps → None ≡ slice_get apps 0 → RefusedFor (Edit_line 0 edit) NoParty s
unstarted exporter apps edit s are none p is = by (end_of p.world.ends (App 0)) refl
  where
    no_app : slice_get s.apps 0 ≡ None
    no_app = ap (λ l. slice_get l 0) are ∙ get-map exporter apps 0 ∙ ap (option_map exporter) (sym none)

    by : (o : Option End) → end_of p.world.ends (App 0) ≡ o → if_started o (λ e. if_here e (λ a. edit_refusal edit a.role)) ≡ Some no_party
    by None so = refl
    by (Some e) so =
        let x = is.is.apps_play 0 e so in
        let clash : None ≡ Some x.player = sym no_app ∙ x.there in
        absurd cc

pub none_drawn_of : {A : Type 0} (exporter : A → Exporter) (apps : List A) (t : TreeShape) (k x : ℕ) (s : Staged) → s.apps ≡ map exporter apps → None ≡ slice_get apps 0
    → StopsAt (Edit_line 0 (drawn_edit t k x).edit) s (Refused (World NoParty))
none_drawn_of exporter apps t k x s are none = λ count seed lines h next.
    let may : IsEdit (drawn_edit t k x).edit = drawn_lawful t (drawn x % 8) (drawn_of (live_nodes t) (next_state x)) k (next_state (next_state x)) in
    refused_of count seed lines (Edit_line 0 (drawn_edit t k x).edit) s may h next NoParty (unstarted exporter apps (drawn_edit t k x).edit s are none)

-- THE OPENING: each of its lines is the next one behind those before it
pub first_stops : (name : List ℕ) (stop : Stop) (s : Staged) → name ≡ codes "Made" → HasPlayed [] s → StopsAt (App_line name) s stop → (count seed : ℕ) → ScriptStops count seed stop
first_stops name stop s is h stops count seed =
    subst (λ n. StopsAt (App_line n) s stop) is stops count seed [] h (in_opening [] (Reader ∷ Drain ∷ []) (App_line (codes "Made")) (entries_of s.trace) refl (lawful_so [] s h))

pub second_stops : (name : List ℕ) (stop : Stop) (s t : Staged) → name ≡ codes "Made" → HasPlayed [] s → LineDone (App_line name) s t → StopsAt Reader t stop → (count seed : ℕ) → ScriptStops count seed stop
second_stops name stop s t is h first stops count seed =
    let done : LineDone (App_line (codes "Made")) s t = subst (λ n. LineDone (App_line n) s t) is first in
    let p = played_line [] (App_line (codes "Made")) s t tt h done in
    stops count seed (App_line (codes "Made") ∷ []) p.played
    (in_opening (App_line (codes "Made") ∷ []) (Drain ∷ []) Reader (entries_of t.trace) refl (lawful_so (App_line (codes "Made") ∷ []) t p.played))

pub third_stops : (name : List ℕ) (stop : Stop) (s t u : Staged) → name ≡ codes "Made" → HasPlayed [] s → LineDone (App_line name) s t → LineDone Reader t u → StopsAt Drain u stop
    → (count seed : ℕ) → ScriptStops count seed stop
third_stops name stop s t u is h first second stops count seed =
    let done : LineDone (App_line (codes "Made")) s t = subst (λ n. LineDone (App_line n) s t) is first in
    let p = played_line [] (App_line (codes "Made")) s t tt h done in
    let q = played_line (App_line (codes "Made") ∷ []) Reader t u tt p.played second in
    stops count seed (App_line (codes "Made") ∷ Reader ∷ []) q.played
    (in_opening (App_line (codes "Made") ∷ Reader ∷ []) [] Drain (entries_of u.trace) refl (lawful_so (App_line (codes "Made") ∷ Reader ∷ []) u q.played))

-- THE EDIT WITH A NUMBER is the next line behind those before it
pub edit_stops : (number x : ℕ) (stop : Stop) (s : Staged) → 0 < number → StopsAt (Edit_line 0 (drawn_edit (tree_told (entries_of s.trace)) number x).edit) s stop
    → (count seed : ℕ) → number ≤ count → HasDrawn seed (number - 1) x s → ScriptStops count seed stop
edit_stops zero x stop s some stops count seed within h = absurd (omega arith)
edit_stops (suc k) x stop s some stops count seed within h =
    let same : suc k - 1 ≡ k = omega arith in
    let d = subst (λ j. HasDrawn seed j x s) same h in
    stops count seed d.lines d.played (next_edit k x d.lines (entries_of s.trace) d.drawn (omega arith))

pub made_edit_stops : (number x : ℕ) (edit : Edit) (stop : Stop) (s : Staged) → 0 < number → StopsAt (Edit_line 0 edit) s stop → edit ≡ (drawn_edit (tree_told (entries_of s.trace)) number x).edit
    → (count seed : ℕ) → number ≤ count → HasDrawn seed (number - 1) x s → ScriptStops count seed stop
made_edit_stops number x edit stop s some stops edit_is = edit_stops number x stop s some (subst (λ e. StopsAt (Edit_line 0 e) s stop) edit_is stops)

-- and the turns behind a sixteenth one are
pub turns_stop : (number x : ℕ) (edit : Edit) (stop : Stop) (s t : Staged) → 0 < number → IsEdit edit → LineDone (Edit_line 0 edit) s t → edit ≡ (drawn_edit (tree_told (entries_of s.trace)) number x).edit
    → number % 16 ≡ 0 → StopsAt (Turns 64) t stop → (count seed : ℕ) → number ≤ count → HasDrawn seed (number - 1) x s → ScriptStops count seed stop
turns_stop zero x edit stop s t some may done edit_is sixteenth stops count seed within h = absurd (omega arith)
turns_stop (suc k) x edit stop s t some may done edit_is sixteenth stops count seed within h =
    let same : suc k - 1 ≡ k = omega arith in
    let d = subst (λ j. HasDrawn seed j x s) same h in
    let due : Edit = (drawn_edit (tree_told (entries_of s.trace)) (suc k) x).edit in
    let p = played_line d.lines (Edit_line 0 due) s t (subst IsEdit edit_is may) d.played (subst (λ e. LineDone (Edit_line 0 e) s t) edit_is done) in
    let law : Lawful (d.lines ++ Edit_line 0 due ∷ []) (entries_of s.trace ++ p.more) = subst (Lawful (d.lines ++ Edit_line 0 due ∷ [])) p.so (lawful_so (d.lines ++ Edit_line 0 due ∷ []) t p.played) in
    stops count seed (d.lines ++ Edit_line 0 due ∷ []) p.played
    (subst (StandsBehind seed count (d.lines ++ Edit_line 0 due ∷ []) (Turns 64)) (sym p.so) (next_turns k x d.lines (entries_of s.trace) p.more d.drawn (omega arith) sixteenth law))

-- THE LAST DRAIN is, behind all edits
pub drain_stops : (count number x seed : ℕ) (stop : Stop) (s : Staged) → number - 1 ≡ count → HasDrawn seed (number - 1) x s → StopsAt Drain s stop → ScriptStops count seed stop
drain_stops count number x seed stop s all h stops =
    let d = subst (λ k. HasDrawn seed k x s) all h in
    stops count seed d.lines d.played (last_drain x d.lines (entries_of s.trace) d.drawn)
