-- Where a line is broken off, what was written is still the front of a lawful trace.
use Rattle.std.proofs.Common.{◌≡◌, ◌⊎◌, inl, inr, ℕ, zero, suc, true, false, List, [], ◌∷◌, ◌++◌, length, Option, None, Some, refl, sym, ap, ◌∙◌, subst, arith}
use Rattle.std.specs.Prelude.{if◌then◌else◌}
use Rattle.std.proofs.lemmas.List.{append-nil, append_assoc}
use Rattle.atspi_script_lines.specs.declared.deed.Deed.{Deed}
use Rattle.atspi_script_lines.specs.declared.line.Line.{Line}
use Rattle.atspi_trace.specs.Entry.{Entry}
use Rattle.atspi_trace.specs.World.{Standing, here, Role, the_registry, an_application, a_reader, End, World}
use Rattle.atspi_trace.specs.Ends.{is_here, end_at}
use Rattle.atspi_trace.specs.Causes.{Cause, renews, starts_app, starts_reader, edits, calls, swaps_face, exits, shows, tells_busy, tells_quiet, routes, unjoins, gets, on_end, called, does}
use Rattle.atspi_trace.specs.Work.{Work, work_of, cause, next_of}
use Rattle.atspi_trace.specs.Due.{Scene, begins, happens, is_lost, Goes, Begun}
use Rattle.atspi_trace_laws.specs.order.Scripts.{CanAllStand}
use Rattle.atspi_trace_laws.proofs.OfOrder.Allowed.{NextFine}
use Rattle.atspi_trace_laws.proofs.OfOrder.Frame.{Over, IsOrder, over_same, over_with}
use Rattle.atspi_trace_laws.proofs.OfOrder.Next.{next_fine}
use Rattle.atspi_trace_laws.proofs.OfOrder.Parties.{same_some}
use Rattle.atspi_trace.specs.play.Playing.{Playing}
use Rattle.atspi_trace.specs.play.Plays.{plays}
use Rattle.atspi_trace.specs.play.Played.{refused, IsPlayed}
use Rattle.atspi_trace.specs.play.Breaking.{PlaysOn, so_far, caused, IsAtWork, does_next, IsLostAt, IsSpentAt}
use Rattle.atspi_trace_played.proofs.Pieces.{Pieces}
use Rattle.atspi_trace_played.proofs.Building.{wrote_some, wrote_none}
use Rattle.atspi_trace_played.proofs.Playing.{cause_step, stage_at, line_stage}
use Rattle.atspi_trace_played.proofs.PlayingLives.{by_over, here_so_far}
use Rattle.atspi_trace_played.proofs.PlayingStage.{Stage, truly}
use Rattle.atspi_trace_played.proofs.PlayingSteps.{renews_step, show_step}

-- WHO STANDS AS BEFORE
pub record Stands (e d : End) : Type 0 where
  pub same : d.standing ≡ e.standing

standing_still : IsOrder Stands
standing_still = record { same = λ e. record { same = refl }; both = λ e d c f g. record { same = g.same ∙ f.same } }

stands : (e d : End) → d.standing ≡ e.standing → Stands e d
stands e d h = record { same = h }

-- the registry is here still
here_still : (w v : World) → Over Stands w.ends v.ends → is_lost w ≡ false → is_lost v ≡ false
here_still w v o h = by w.ends v.ends o h
  where
    by : (xs ys : List End) → Over Stands xs ys → is_lost (record w { ends = xs }) ≡ false → is_lost (record v { ends = ys }) ≡ false
    by xs [] r g = refl
    by [] (y ∷ ys) r g = let size : suc (length ys) ≡ 0 = r.size in absurd (omega (arith, size))
    by (x ∷ xs) (y ∷ ys) r g =
        let b = r.back 0 y refl in
        ap (λ s. if is_here s then false else true) (b.2.same ∙ sym (ap (λ (e : End). e.standing) (same_some x b.0 b.1))) ∙ g

-- and where one joins
here_joined : (w v : World) (n : End) → v.ends ≡ w.ends ++ n ∷ [] → n.standing ≡ here → is_lost w ≡ false → is_lost v ≡ false
here_joined w v n is stand h = ap (λ l. is_lost (record v { ends = l })) is ∙ by w.ends h
  where
    by : (xs : List End) → is_lost (record w { ends = xs }) ≡ false → is_lost (record v { ends = xs ++ n ∷ [] }) ≡ false
    by [] g = ap (λ s. if is_here s then false else true) stand
    by (x ∷ xs) g = g

call_over : (w : World) (conn : ℕ) (name : List ℕ) (node : ℕ) (deed : Deed) (role : Role) → Over Stands w.ends (called w conn name node deed role).world.ends
call_over w conn name node deed (a_reader h) = over_with Stands standing_still _ (λ e. stands e _ refl) conn w.ends
call_over w conn name node deed (the_registry s) = over_same Stands standing_still w.ends
call_over w conn name node deed (an_application s) = over_same Stands standing_still w.ends

calls_over : (w : World) (conn : ℕ) (name : List ℕ) (node : ℕ) (deed : Deed) (o : Option End) → Over Stands w.ends (on_end w o (λ e. called w conn name node deed e.role)).world.ends
calls_over w conn name node deed None = over_same Stands standing_still w.ends
calls_over w conn name node deed (Some e) = call_over w conn name node deed e.role

-- WHAT READERS DO loses nobody
pub starts_lives : (p : Playing) → is_lost p.world ≡ false → is_lost (plays p starts_reader).now.world ≡ false
starts_lives p h = here_joined p.world (does p.world starts_reader).world _ refl refl h

pub calls_lives : (p : Playing) (conn : ℕ) (name : List ℕ) (node : ℕ) (deed : Deed) → is_lost p.world ≡ false → is_lost (plays p (calls conn name node deed)).now.world ≡ false
calls_lives p conn name node deed h = here_still p.world (does p.world (calls conn name node deed)).world (calls_over p.world conn name node deed (end_at p.world.ends conn)) h

pub gets_lives : (p : Playing) (conn : ℕ) → is_lost p.world ≡ false → is_lost (plays p (gets conn)).now.world ≡ false
gets_lives p conn h = here_still p.world (plays p (gets conn)).now.world (by_over Stands standing_still stands p conn (end_at p.world.ends conn)) h

module _ (pieces : Pieces) (script : List Line) (more : List Line) where
  -- A CAUSE WRITES WHAT MAY STAND, whether the registry is lost by it or not
  module _ (es : List Entry) (p : Playing) (work rest : Work) where
    does_goes : (c : Cause) → Stage script es p work more → next_of p.world work ≡ cause c p.world rest → Goes (begins script) (es ++ (does p.world c).entries)
    does_goes c st is = by (does p.world c).entries refl
      where
        by : (l : List Entry) → (does p.world c).entries ≡ l → Goes (begins script) (es ++ (does p.world c).entries)
        by [] none = (wrote_none script es p.world work rest more c st.midway is none).goes
        by (e ∷ l) some = (wrote_some script es p.world work rest more c st.midway is e l some (truly pieces script es p work rest more c st is)).goes

    cause_goes : (c : Cause) → Stage script es p work more → next_of p.world work ≡ cause c p.world rest → Goes (begins script) (es ++ (plays p c).entries)
    cause_goes (renews quota) st is = (renews_step pieces script es p work rest more quota st is).midway.goes
    cause_goes (shows conn app) st is = (show_step pieces script es p work rest more conn app st is).midway.goes
    cause_goes starts_reader st is = (cause_step pieces script more es p work rest starts_reader st is (starts_lives p st.here)).midway.goes
    cause_goes (calls conn name node deed) st is = (cause_step pieces script more es p work rest (calls conn name node deed) st is (calls_lives p conn name node deed st.here)).midway.goes
    cause_goes (gets conn) st is = (cause_step pieces script more es p work rest (gets conn) st is (gets_lives p conn st.here)).midway.goes
    cause_goes (starts_app name) st is = does_goes (starts_app name) st is
    cause_goes (edits conn edit) st is = does_goes (edits conn edit) st is
    cause_goes swaps_face st is = does_goes swaps_face st is
    cause_goes (exits conn) st is = does_goes (exits conn) st is
    cause_goes (tells_busy turns) st is = does_goes (tells_busy turns) st is
    cause_goes tells_quiet st is = does_goes tells_quiet st is
    cause_goes (routes conn) st is = does_goes (routes conn) st is
    cause_goes (unjoins conn) st is = does_goes (unjoins conn) st is

  goes_at : (es : List Entry) (p : Playing) (v : World) (work rest : Work) (c : Cause) → v ≡ p.world → Stage script es p work more → next_of p.world work ≡ cause c v rest
      → Goes (begins script) (es ++ (plays (record p { world = v }) c).entries)
  goes_at es p v work rest c same st is =
      subst (λ x. Goes (begins script) (es ++ (plays (record p { world = x }) c).entries)) (sym same) (cause_goes es p work rest c st (is ∙ ap (λ x. cause c x rest) same))

  -- SOME CAUSES OF WHAT IS LEFT
  pub so_far_stage : (es : List Entry) (p : Playing) (left : Work) (entries : List Entry) (q : Playing) (last : Work) → PlaysOn p left entries q last → Stage script es p left more → is_lost q.world ≡ false
      → Stage script (es ++ entries) q last more
  so_far_stage es _ _ _ _ _ (so_far p left) st lives = subst (λ l. Stage script l p left more) (sym (append-nil es)) st
  so_far_stage es _ _ _ _ _ (caused p q v left rest last c entries is h) st lives =
      let fine : NextFine p.world (cause c v rest) = subst (NextFine p.world) is (next_fine p.world left st.midway.fine) in
      let now : is_lost (plays (record p { world = v }) c).now.world ≡ false = here_so_far (plays (record p { world = v }) c).now rest entries q last h fine.2 lives in
      let stage = stage_at pieces script more es p v left rest c fine.0 st is now in
      subst (λ l. Stage script l q last more) (append_assoc es (plays (record p { world = v }) c).entries entries)
      (so_far_stage (es ++ (plays (record p { world = v }) c).entries) (plays (record p { world = v }) c).now rest entries q last h stage lives)

  -- AND WHAT THE NEXT WRITES
  next_goes : (es : List Entry) (p : Playing) (left : Work) (a : IsAtWork p left) → Stage script es p left more → Goes (begins script) ((es ++ a.entries) ++ (does_next a).entries)
  next_goes es p left a st =
      let stage = so_far_stage es p left a.entries a.now a.last a.done st a.lives in
      let fine : NextFine a.now.world (cause a.next a.moved a.rest) = subst (NextFine a.now.world) a.is_next (next_fine a.now.world a.last stage.midway.fine) in
      goes_at (es ++ a.entries) a.now a.moved a.last a.rest a.next fine.0 stage a.is_next

-- A FRONT
goes_front : (s : Scene) (xs ys : List Entry) → Goes s (xs ++ ys) → Goes s xs
goes_front s [] ys g = tt
goes_front s (x ∷ xs) ys g = (g.0, goes_front (happens s x) xs ys g.1)

module _ (pieces : Pieces) where
  pub broken_begun : (lines : List Line) (es : List Entry) (p : Playing) (line : Line) (more : List Entry) → CanAllStand (lines ++ line ∷ []) → IsPlayed lines es p → refused p line ≡ None
      → (IsLostAt p (work_of p.world line) more ⊎ IsSpentAt p (work_of p.world line) more) → Begun (lines ++ line ∷ []) (es ++ more)
  broken_begun lines es p line more can h ok (inl x) =
      let st = line_stage pieces lines es p h line [] ok can in
      subst (λ l. Goes (begins (lines ++ line ∷ [])) l) (append_assoc es x.at.entries (does_next x.at).entries ∙ ap (λ l. es ++ l) (sym x.wrote))
      (next_goes pieces (lines ++ line ∷ []) [] es p (work_of p.world line) x.at st)
  broken_begun lines es p line more can h ok (inr x) =
      let st = line_stage pieces lines es p h line [] ok can in
      let whole = next_goes pieces (lines ++ line ∷ []) [] es p (work_of p.world line) x.at st in
      let split : (es ++ x.at.entries) ++ (does_next x.at).entries ≡ (es ++ more) ++ x.missing =
      ap (λ l. (es ++ x.at.entries) ++ l) x.front ∙ sym (append_assoc (es ++ x.at.entries) x.part x.missing)
      ∙ ap (λ l. l ++ x.missing) (append_assoc es x.at.entries x.part ∙ ap (λ l. es ++ l) (sym x.wrote)) in
      goes_front (begins (lines ++ line ∷ [])) (es ++ more) x.missing (subst (Goes (begins (lines ++ line ∷ []))) split whole)
