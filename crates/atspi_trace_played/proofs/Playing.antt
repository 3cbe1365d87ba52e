-- WHAT IS PLAYED IS LAWFUL, from the pieces: by induction along the lines and the causes of each.
use Rattle.std.proofs.Common.{◌≡◌, ℕ, zero, suc, false, List, [], ◌∷◌, ◌++◌, Option, None, Some, refl, sym, ap, ◌∙◌, subst}
use Rattle.std.specs.Prelude.{if◌then◌else◌}
use Rattle.std.proofs.lemmas.List.{append-nil, append_assoc}
use Rattle.atspi_script_lines.specs.declared.line.Line.{Line}
use Rattle.atspi_script_lines.specs.declared.line.Line.TheVariants.{Blank, Quota, App as App_line, Reader as Reader_line, Edit as Edit_line, Call, Swap, Exit, Leave, Bytes, Turns, Drain, Show}
use Rattle.atspi_script_lines.specs.declared.line.Party.{Party}
use Rattle.atspi_script_lines.specs.declared.line.Party.TheVariants.{Bus as The_bus, Registry, App, Reader}
use Rattle.atspi_trace.specs.Entry.{Entry}
use Rattle.atspi_trace.specs.World.{Letter, End, World, first_registry}
use Rattle.atspi_trace.specs.Ends.{is_here, is_reader, same_party, whose, party_at, conn_of, end_at, end_if, end_of}
use Rattle.atspi_trace.specs.Causes.{Cause, renews, starts_app, starts_reader, edits, calls, swaps_face, exits, shows, tells_busy, tells_quiet, routes, unjoins, gets, does}
use Rattle.atspi_trace.specs.Work as work
use Rattle.atspi_trace.specs.Work.{Refusal, no_party, dead, if_started, if_here, call_refusal, if_held, Work, resting, work_of, cause, rests, next_turn, next_of}
use Rattle.atspi_trace.specs.Due.{is_lost, RestsWell, SettledUnless}
use Rattle.atspi_trace_laws.specs.order.Scripts.{CanAllStand}
use Rattle.atspi_trace_laws.proofs.OfOrder.Parties.{no_none, same_some, same-party, found, false_true}
use Rattle.atspi_trace_laws.proofs.OfOrder.Allowed.{IsHere, Moves, NextFine}
use Rattle.atspi_trace_laws.proofs.OfOrder.Next.{next_fine}
use Rattle.atspi_trace_laws.proofs.OfOrder.Each.{no_entries}
use Rattle.atspi_script_lines.specs.declared.limits.TheConstants.{QUOTA_MOST}
use Rattle.atspi_trace.specs.play.Playing.{Playing, Happened, held_by, unique_in, view_in, first_playing}
use Rattle.atspi_trace.specs.play.Plays.{only, reader_got, got_at, got_by, plays}
use Rattle.atspi_trace.specs.play.Played.{if_viewed, refused, PlaysOut, at_rest, caused, IsPlayed, begun, did}
use Rattle.atspi_trace_played.specs.Laws.{PlayedIsLawful, RefusalsAgree}
use Rattle.atspi_trace_played.proofs.Facts.{AllTied}
use Rattle.atspi_trace_played.proofs.Pieces.{Pieces}
use Rattle.atspi_trace_played.proofs.Building.{begins_midway, comes_to_rest, line_begins, all_done}
use Rattle.atspi_trace_played.proofs.BuildingCourse.{began, moved}
use Rattle.atspi_trace_played.proofs.PlayingEnds.{apart, moves_apart}
use Rattle.atspi_trace_played.proofs.PlayingLives.{here_all_along}
use Rattle.atspi_trace_played.proofs.PlayingStage.{Stage, ground, shape, allowed, stage_apart}
use Rattle.atspi_trace_played.proofs.PlayingSteps.{renews_step, start_step, show_step, call_step}
use Rattle.atspi_trace_played.proofs.PlayingTaking.{takes_step}
use Rattle.atspi_trace_played.proofs.PlayingTied.{tied_apart}

module _ (pieces : Pieces) (script : List Line) (more : List Line) where
  -- AN END TAKES A MESSAGE
  module _ (es : List Entry) (p : Playing) (work rest : Work) (conn : ℕ) (st : Stage script es p work more) (is : next_of p.world work ≡ cause (gets conn) p.world rest) where
    abbrev Behind_it : Happened → Type 0
    Behind_it x = is_lost x.now.world ≡ false → Stage script (es ++ x.entries) x.now rest more

    of_others : (e : End) → end_at p.world.ends conn ≡ Some e → ((r : ℕ) → e.who ≡ Reader r → ⊥) → Behind_it (only p (does p.world (gets conn)))
    of_others e there never lives =
        let no_reader : (r : ℕ) → party_at p.world.ends conn ≡ Reader r → ⊥ = λ r h. never r (sym (ap whose there) ∙ h) in
        stage_apart pieces script es p work rest more (gets conn) st is
        (apart p.world (gets conn) (shape pieces script es p work rest more (gets conn) st is) (allowed pieces script es p work rest more (gets conn) st is) no_reader) no_reader lives

    of_party : (e : End) (letter : Letter) (link : List Letter) → IsHere p.world.ends conn e → e.down ≡ letter ∷ link → (who : Party) → e.who ≡ who → Behind_it (got_at p conn who (letter ∷ link))
    of_party e letter link h down (Reader r) who =
        let o = st.tied.tied conn r e h.there who in
        subst (λ x. Behind_it (reader_got p conn r letter x)) (sym o.2.1)
        (λ lives. takes_step pieces script es p work rest more conn r e o.0 letter link o.2.0 st is (record { is_here = h; whose = who; role = o.1; link = down }) o.2.1 o.2.2 lives)
    of_party e letter link h down The_bus who = of_others e h.there (λ r g. bus_no r (sym who ∙ g))
      where
        bus_no : (r : ℕ) → The_bus ≡ Reader r → ⊥
        bus_no r g = cc
    of_party e letter link h down Registry who = of_others e h.there (λ r g. registry_no r (sym who ∙ g))
      where
        registry_no : (r : ℕ) → Registry ≡ Reader r → ⊥
        registry_no r g = cc
    of_party e letter link h down (App a) who = of_others e h.there (λ r g. app_no r (sym who ∙ g))
      where
        app_no : (r : ℕ) → App a ≡ Reader r → ⊥
        app_no r g = cc

    gets_step : Behind_it (plays p (gets conn))
    gets_step =
        let a = allowed pieces script es p work rest more (gets conn) st is in
        subst Behind_it (sym (ap (got_by p conn) a.3.there ∙ ap (got_at p conn a.0.who) a.4)) (of_party a.0 a.1 a.2 a.3 a.4 a.0.who refl)

  -- EACH CAUSE
  pub cause_step : (es : List Entry) (p : Playing) (work rest : Work) (c : Cause) → Stage script es p work more → next_of p.world work ≡ cause c p.world rest → is_lost (plays p c).now.world ≡ false
      → Stage script (es ++ (plays p c).entries) (plays p c).now rest more
  cause_step es p work rest (renews quota) st is lives = renews_step pieces script es p work rest more quota st is
  cause_step es p work rest starts_reader st is lives = start_step pieces script es p work rest more st is lives
  cause_step es p work rest (calls conn name node deed) st is lives = call_step pieces script es p work rest more conn name node deed st is lives
  cause_step es p work rest (shows conn app) st is lives = show_step pieces script es p work rest more conn app st is
  cause_step es p work rest (gets conn) st is lives = gets_step es p work rest conn st is lives
  cause_step es p work rest (starts_app name) st is lives = stage_apart pieces script es p work rest more (starts_app name) st is
      (apart p.world (starts_app name) (shape pieces script es p work rest more (starts_app name) st is) (allowed pieces script es p work rest more (starts_app name) st is) tt) (λ r. tt) lives
  cause_step es p work rest (edits conn edit) st is lives = stage_apart pieces script es p work rest more (edits conn edit) st is
      (apart p.world (edits conn edit) (shape pieces script es p work rest more (edits conn edit) st is) (allowed pieces script es p work rest more (edits conn edit) st is) tt) (λ r. tt) lives
  cause_step es p work rest swaps_face st is lives = stage_apart pieces script es p work rest more swaps_face st is
      (apart p.world swaps_face (shape pieces script es p work rest more swaps_face st is) (allowed pieces script es p work rest more swaps_face st is) tt) (λ r. tt) lives
  cause_step es p work rest (exits conn) st is lives = stage_apart pieces script es p work rest more (exits conn) st is
      (apart p.world (exits conn) (shape pieces script es p work rest more (exits conn) st is) (allowed pieces script es p work rest more (exits conn) st is) tt) (λ r. tt) lives
  cause_step es p work rest (tells_busy turns) st is lives = stage_apart pieces script es p work rest more (tells_busy turns) st is
      (apart p.world (tells_busy turns) (shape pieces script es p work rest more (tells_busy turns) st is) (allowed pieces script es p work rest more (tells_busy turns) st is) tt) (λ r. tt) lives
  cause_step es p work rest tells_quiet st is lives = stage_apart pieces script es p work rest more tells_quiet st is
      (apart p.world tells_quiet (shape pieces script es p work rest more tells_quiet st is) (allowed pieces script es p work rest more tells_quiet st is) tt) (λ r. tt) lives
  cause_step es p work rest (routes conn) st is lives = stage_apart pieces script es p work rest more (routes conn) st is
      (apart p.world (routes conn) (shape pieces script es p work rest more (routes conn) st is) (allowed pieces script es p work rest more (routes conn) st is) tt) (λ r. tt) lives
  cause_step es p work rest (unjoins conn) st is lives = stage_apart pieces script es p work rest more (unjoins conn) st is
      (apart p.world (unjoins conn) (shape pieces script es p work rest more (unjoins conn) st is) (allowed pieces script es p work rest more (unjoins conn) st is) tt) (λ r. tt) lives

  -- WHAT IS LEFT OF A LINE
  rests_stage : (es : List Entry) (p : Playing) (v : World) (left : Work) → Stage script es p left more → next_of p.world left ≡ rests v → is_lost v ≡ false → Stage script es (record p { world = v }) resting more
  rests_stage es p v left st is last =
      let moves : Moves p.world v = subst (NextFine p.world) is (next_fine p.world left st.midway.fine) in
      let g = ground script es p left more st in
      record {
        can = st.can;
        midway = comes_to_rest script es p.world v left more st.midway is;
        course = moved es p.world v st.course moves;
        tied = tied_apart es es p v (moves_apart p.world v moves)
            (λ k r e h s there who role t. record { asks = t.asks; sees = t.sees; wants = pieces.wants_moved script es p.world v r h s g moves t.wants }) st.tied.of_nodes st.tied;
        here = last;
      }

  -- behind a cause of it
  pub stage_at : (es : List Entry) (p : Playing) (v : World) (left rest : Work) (c : Cause) → v ≡ p.world → Stage script es p left more → next_of p.world left ≡ cause c v rest
      → is_lost (plays (record p { world = v }) c).now.world ≡ false → Stage script (es ++ (plays (record p { world = v }) c).entries) (plays (record p { world = v }) c).now rest more
  stage_at es p v left rest c same st is now =
      subst (λ x. is_lost (plays (record p { world = x }) c).now.world ≡ false → Stage script (es ++ (plays (record p { world = x }) c).entries) (plays (record p { world = x }) c).now rest more) (sym same)
      (cause_step es p left rest c st (is ∙ ap (λ x. cause c x rest) same)) now

  pub plays_on : (es : List Entry) (p : Playing) (left : Work) (entries : List Entry) (q : Playing) → PlaysOut p left entries q → Stage script es p left more → is_lost q.world ≡ false
      → Stage script (es ++ entries) q resting more
  plays_on es _ _ _ _ (at_rest p v left is) st last = subst (λ l. Stage script l (record p { world = v }) resting more) (sym (append-nil es)) (rests_stage es p v left st is last)
  plays_on es _ _ _ _ (caused p q v left rest c entries is h) st last =
      let fine : NextFine p.world (cause c v rest) = subst (NextFine p.world) is (next_fine p.world left st.midway.fine) in
      let now : is_lost (plays (record p { world = v }) c).now.world ≡ false = here_all_along (plays (record p { world = v }) c).now rest entries q h fine.2 last in
      let stage : Stage script (es ++ (plays (record p { world = v }) c).entries) (plays (record p { world = v }) c).now rest more = stage_at es p v left rest c fine.0 st is now in
      subst (λ l. Stage script l q resting more) (append_assoc es (plays (record p { world = v }) c).entries entries)
      (plays_on (es ++ (plays (record p { world = v }) c).entries) (plays (record p { world = v }) c).now rest entries q h stage last)

  -- WHERE ALL RESTS, IT RESTS WELL
  rests_so : (es : List Entry) (p : Playing) (left : Work) → Stage script es p left more → RestsWell p.world
  rests_so es p left st = by (next_turn p.world) refl
    where
      by : (o : Option Cause) → next_turn p.world ≡ o → SettledUnless p.world o
      by None none = pieces.rests_settled script es p (ground script es p left more st) st.tied none
      by (Some c) h = tt

  -- A LINE IS REFUSED JUST WHERE A LAWFUL TRACE REFUSES IT
  module _ (es : List Entry) (p : Playing) (left : Work) (st : Stage script es p left more) where
    call_same : (reader app : ℕ) (e : End) (conn : ℕ) (o : Option End) → end_at p.world.ends conn ≡ Some e → e.who ≡ Reader reader → end_of p.world.ends (App app) ≡ o
        → if_started o (λ a. if_here e (λ caller. if_viewed (view_in p reader a.unique))) ≡ if_started o (λ a. if_here e (λ caller. call_refusal app caller.role))
    call_same reader app e conn None there who at = refl
    call_same reader app e conn (Some a) there who at =
        let o = st.tied.tied conn reader e there who in
        let due = (pieces.shows_due script es p.world conn reader app e o.0 o.2.0 (ground script es p left more st) there who o.1 o.2.2).1 in
        ap (λ x. if is_here e.standing then x else Some dead)
        (ap (λ s. if_viewed (held_by s a.unique)) o.2.1 ∙ ap (λ x. if_viewed (held_by (Some o.2.0) (unique_in x))) (sym at) ∙ due ∙ ap (call_refusal app) (sym o.1))

    end_same : (reader app : ℕ) (k : Option ℕ) → conn_of p.world.ends (Reader reader) ≡ k
        → if_started (end_if p.world.ends k) (λ r. if_started (end_of p.world.ends (App app)) (λ a. if_here r (λ caller. if_viewed (view_in p reader a.unique))))
        ≡ if_started (end_if p.world.ends k) (λ r. if_started (end_of p.world.ends (App app)) (λ a. if_here r (λ caller. call_refusal app caller.role)))
    end_same reader app None h = refl
    end_same reader app (Some conn) h =
        let f = found (λ (e : End). same_party e.who (Reader reader)) p.world.ends conn h in
        ap (λ x. if_started x (λ r. if_started (end_of p.world.ends (App app)) (λ a. if_here r (λ caller. if_viewed (view_in p reader a.unique))))) f.1
        ∙ call_same reader app f.0 conn (end_of p.world.ends (App app)) f.1 (same-party f.0.who (Reader reader) f.2) refl
        ∙ sym (ap (λ x. if_started x (λ r. if_started (end_of p.world.ends (App app)) (λ a. if_here r (λ caller. call_refusal app caller.role)))) f.1)

    pub agrees : (line : Line) → refused p line ≡ work.refused p.world line
    agrees (Call reader app node deed) = end_same reader app (conn_of p.world.ends (Reader reader)) refl
    agrees Blank = refl
    agrees (Quota quota) = refl
    agrees (App_line name) = refl
    agrees Reader_line = refl
    agrees (Edit_line app edit) = refl
    agrees (Swap app) = refl
    agrees (Exit app) = refl
    agrees (Leave reader) = refl
    agrees (Bytes who up count) = refl
    agrees (Turns count) = refl
    agrees Drain = refl
    agrees (Show reader app) = refl

-- THE NEXT LINE is at work where it is not refused
at_line : (pieces : Pieces) (script : List Line) (es : List Entry) (p : Playing) (line : Line) (more : List Line) → refused p line ≡ None → Stage script es p resting (line ∷ more)
    → Stage script es p (work_of p.world line) more
at_line pieces script es p line more ok st = record {
  can = st.can;
  midway = line_begins script es p.world line more st.midway (rests_so pieces script (line ∷ more) es p resting st) (sym (agrees pieces script (line ∷ more) es p resting st line) ∙ ok);
  course = st.course;
  tied = st.tied;
  here = st.here;
}

-- THE BEGINNING
none_tied : AllTied [] (first_playing QUOTA_MOST)
none_tied = record {
  tied = λ k r d there who. absurd (nobody k r d there who);
  count = refl;
  of_nodes = λ before entry behind h. absurd (no_entries before entry behind h);
}
  where
    nobody : (k r : ℕ) (d : End) → end_at (first_registry ∷ []) k ≡ Some d → d.who ≡ Reader r → ⊥
    nobody zero r d there who = false_true (ap is_reader (ap (λ (x : End). x.who) (same_some first_registry d there) ∙ who))
    nobody (suc k) r d there who = no_none d there

-- ALL LINES
module _ (pieces : Pieces) where
  pub played_stage : (lines : List Line) (es : List Entry) (p : Playing) → IsPlayed lines es p → (more : List Line) → CanAllStand (lines ++ more) → Stage (lines ++ more) es p resting more
  played_stage _ _ _ begun more can = record { can = can; midway = begins_midway more can; course = began; tied = none_tied; here = refl }
  played_stage _ _ _ (did lines line es entries p q h ok out here) more can =
      let same : (lines ++ line ∷ []) ++ more ≡ lines ++ line ∷ more = append_assoc lines (line ∷ []) more in
      let at_work = at_line pieces (lines ++ line ∷ more) es p line more ok (played_stage lines es p h (line ∷ more) (subst CanAllStand same can)) in
      subst (λ l. Stage l (es ++ entries) q resting more) (sym same) (plays_on pieces (lines ++ line ∷ more) more es p (work_of p.world line) entries q out at_work here)

  -- the next line, which is not refused, is at work
  pub line_stage : (lines : List Line) (es : List Entry) (p : Playing) → IsPlayed lines es p → (line : Line) (more : List Line) → refused p line ≡ None → CanAllStand (lines ++ line ∷ more)
      → Stage (lines ++ line ∷ more) es p (work_of p.world line) more
  line_stage lines es p h line more ok can = at_line pieces (lines ++ line ∷ more) es p line more ok (played_stage lines es p h (line ∷ more) can)

  whole : (lines : List Line) (es : List Entry) (p : Playing) → CanAllStand lines → IsPlayed lines es p → Stage lines es p resting []
  whole lines es p can h =
      subst (λ l. Stage l es p resting []) (append-nil lines) (played_stage lines es p h [] (subst CanAllStand (sym (append-nil lines)) can))

  pub is_lawful : PlayedIsLawful
  is_lawful lines es p can h =
      let st = whole lines es p can h in
      all_done lines es p.world st.midway (rests_so pieces lines [] es p resting st)

  pub refusals : RefusalsAgree
  refusals lines es p line can h stands = agrees pieces lines [] es p resting (whole lines es p can h) line
