-- What a line that was done or refused says of any world that this is.
use Rattle.std.proofs.Common.{◌≡◌, ℕ, ◌+◌, Bool, true, false, List, [], ◌∷◌, length, map, Option, None, Some, refl, sym, ap, ◌∙◌, subst}
use Rattle.std.specs.Prelude.{Result, Ok, Err, OnOk, IsErrOf, if◌then◌else◌}
use Rattle.std.proofs.lemmas.Option.{same_Some}
use Rattle.atspi_script_lines.specs.declared.line.Line.{Line}
use Rattle.atspi_script_lines.specs.declared.line.Line.TheVariants as lines
use Rattle.atspi_script_lines.specs.declared.line.Party.TheVariants.{App, Reader}
use Rattle.atspi_trace.specs.World.{Standing, here, stopped, away, End, World}
use Rattle.atspi_trace.specs.Ends.{is_here, end_of}
use Rattle.atspi_trace.specs.Work as work
use Rattle.atspi_trace.specs.Work.{edit_refusal, if_started, if_here, no_more}
use Rattle.atspi_world_links.specs.declared.post.Post.{Post}
use Rattle.atspi_world_moves.specs.Carried.{standing_at, post_of}
use Rattle.atspi_trace.specs.play.Playing.{Playing, view_in}
use Rattle.atspi_trace.specs.play.Played.{if_viewed, refused}
use Rattle.atspi_world.specs.Lines.{LineDone}
use Rattle.atspi_world_parties.specs.Refusals.{standing_of, refusal_of, seat_of_end, seat_of_post, HaveSeats, IsOf, first_refusal}
use Rattle.atspi_world.specs.Refusals.{RefusedFor, Refuses}
use Rattle.atspi_world.specs.Worlds.{Staged, IsWorld, IsPlaying}
use Rattle.atspi_world.specs.declared.fault.ActFault.{ActFault}
use Rattle.atspi_world.specs.declared.fault.ActFault.TheVariants.{Refused, Spent, RegistryLost, Unsendable, NoMemory}
use Rattle.atspi_world_parties.specs.declared.refusing.Refusal.{Refusal}
use Rattle.atspi_world.proofs.Reasons.{fault_or, why_or}

-- what is refused at first is refused so in the end
still_refused : (o : Option End) (then_ : End → Option work.Refusal) (x : work.Refusal) → if_started o (λ e. if_here e no_more) ≡ Some x → if_started o (λ e. if_here e then_) ≡ Some x
still_refused None then_ x h = h
still_refused (Some e) then_ x h = by (is_here e.standing) h
  where
    by : (b : Bool) → (if b then no_more e else Some work.dead) ≡ Some x → (if b then then_ e else Some work.dead) ≡ Some x
    by true i = absurd cc
    by false i = i

call_still : (r a : Option End) (f : End → Option work.Refusal) (x : work.Refusal) → if_started r (λ u. if_started a (λ b. if_here u no_more)) ≡ Some x
    → if_started r (λ u. if_started a (λ b. if_here u (λ c. f b))) ≡ Some x
call_still None a f x h = h
call_still (Some u) None f x h = h
call_still (Some u) (Some b) f x h = by (is_here u.standing) h
  where
    by : (t : Bool) → (if t then no_more u else Some work.dead) ≡ Some x → (if t then f b else Some work.dead) ≡ Some x
    by true i = absurd cc
    by false i = i

first_stays : (p : Playing) (line : Line) (x : work.Refusal) → first_refusal p.world line ≡ Some x → refused p line ≡ Some x
first_stays p (lines.Edit app edit) x h = still_refused (end_of p.world.ends (App app)) (λ a. edit_refusal edit a.role) x h
first_stays p (lines.Call reader app node deed) x h = call_still (end_of p.world.ends (Reader reader)) (end_of p.world.ends (App app)) (λ a. if_viewed (view_in p reader a.unique)) x h
first_stays p lines.Blank x h = h
first_stays p (lines.Quota quota) x h = h
first_stays p (lines.App name) x h = h
first_stays p lines.Reader x h = h
first_stays p (lines.Swap app) x h = h
first_stays p (lines.Exit app) x h = h
first_stays p (lines.Leave reader) x h = h
first_stays p (lines.Bytes who up count) x h = h
first_stays p (lines.Turns count) x h = h
first_stays p lines.Drain x h = h
first_stays p (lines.Show reader app) x h = h

-- a world that this is has its ends in the seats of the connections
stands : (s : Standing) → s ≡ standing_of (standing_at s)
stands here = refl
stands stopped = refl
stands away = refl

seats_of : (ends : List End) → map seat_of_end ends ≡ map seat_of_post (map post_of ends)
seats_of [] = refl
seats_of (e ∷ es) = ap (λ s. (e.who, s) ∷ map seat_of_end es) (stands e.standing) ∙ ap (λ l. (e.who, standing_of (standing_at e.standing)) ∷ l) (seats_of es)

of_world : (w : World) (s : Staged) (apps readers : ℕ) → IsWorld w s → apps ≡ length s.apps → readers ≡ length s.readers → IsOf w s.posts apps readers s.spares
of_world w s apps readers is apps_are readers_are = record {
  seats = record { same = seats_of w.ends ∙ ap (map seat_of_post) (sym is.carried.posts_are) };
  apps_are = is.apps_are ∙ sym apps_are;
  readers_are = is.readers_are ∙ sym readers_are;
  spares_are = is.spares_are;
}

module _ (line : Line) (s : Staged) (apps readers : ℕ) (apps_are : apps ≡ length s.apps) (readers_are : readers ≡ length s.readers) where
  -- a line that is refused before any of it is done
  pub first_refused : (why : Refusal) → ((w : World) → IsOf w s.posts apps readers s.spares → Some (refusal_of why) ≡ first_refusal w line) → RefusedFor line why s
  first_refused why exact = λ p is. first_stays p line (refusal_of why) (sym (exact p.world (of_world p.world s apps readers is.is apps_are readers_are)))

  -- and one that is not
  pub not_first : ((w : World) → IsOf w s.posts apps readers s.spares → None ≡ first_refusal w line) → (p : Playing) → IsPlaying p s → first_refusal p.world line ≡ None
  not_first exact p is = sym (exact p.world (of_world p.world s apps readers is.is apps_are readers_are))

-- a refusal is told once
pub same_why : {T : Type 0} (a b : Refusal) → ◌≡◌ {A = Result T ActFault} (Err (Refused a)) (Err (Refused b)) → a ≡ b
same_why a b h = ap (λ r. why_or a (fault_or Spent r)) h

-- a line that a world refuses is not done
pub refuses_of : {T : Type 0} (r : Result T ActFault) (line : Line) (old new : Staged) → OnOk r (LineDone line old new) → ((why : Refusal) → IsErrOf r (Refused why) → RefusedFor line why old)
    → (p : Playing) (due : work.Refusal) → IsPlaying p old → refused p line ≡ Some due → Refuses r due
refuses_of (Ok x) line old new does_ says p due is h = let clash : None ≡ Some due = sym (does_ p is).not_refused ∙ h in absurd cc
refuses_of (Err (Refused why)) line old new does_ says p due is h = same_Some (refusal_of why) due (sym (says why refl p is) ∙ h)
refuses_of (Err Spent) line old new does_ says p due is h = tt
refuses_of (Err RegistryLost) line old new does_ says p due is h = tt
refuses_of (Err Unsendable) line old new does_ says p due is h = tt
refuses_of (Err NoMemory) line old new does_ says p due is h = tt

-- a world that is this one, where its parts are counted anew
pub same_of : (w : World) (posts posts' : List Post) (apps apps' readers readers' spares spares' : ℕ) → posts' ≡ posts → apps' ≡ apps → readers' ≡ readers → spares' ≡ spares → IsOf w posts apps readers spares
    → IsOf w posts' apps' readers' spares'
same_of w posts posts' apps apps' readers readers' spares spares' ep ea er es is = record {
  seats = subst (HaveSeats w.ends) (sym ep) is.seats;
  apps_are = is.apps_are ∙ sym ea;
  readers_are = is.readers_are ∙ sym er;
  spares_are = ap (λ n. w.swaps + n) es ∙ is.spares_are;
}
