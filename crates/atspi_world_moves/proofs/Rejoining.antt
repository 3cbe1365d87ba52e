-- What a step told apart, behind what was told before it.
use Rattle.std.proofs.Common.{◌≡◌, ◌⊎◌, ℕ, Bool, false, List, [], ◌++◌, Err, sym, ap, ◌∙◌, subst}
use Rattle.std.specs.Prelude.{Result, Ok, OnOk}
use Rattle.std.proofs.lemmas.List.{map-append}
use Rattle.atspi_match.specs.routing.Queues.{Bus}
use Rattle.atspi_trace_events.specs.declared.event.Event.{Event}
use Rattle.atspi_world_links.specs.declared.post.Post.{Post}
use Rattle.atspi_trace.specs.Entry.{Entry, entry_of, entries_of}
use Rattle.atspi_trace.specs.World.{World}
use Rattle.atspi_trace.specs.Causes.{Done}
use Rattle.atspi_trace.specs.Work.{Work}
use Rattle.atspi_world_moves.specs.Beginning.{with_one_taken, IsGreeted}
use Rattle.atspi_world_moves.specs.Carried.{IsCarried, IsDone}
use Rattle.atspi_world_moves.specs.inner.GivenUp.{UnlessGivenUp}
use Rattle.atspi_world_moves.specs.Halted.{does_next, HaveNames, IsLostBy, IsLostOn, IsPartDone, IsSpentBy, IsSpentOn}
use Rattle.atspi_world_moves.specs.Linked.{IsLinked}
use Rattle.atspi_world_moves.specs.Segments.{IsWorked}

-- a step that was told is the step that was done, and so is a line
module _ {A F H : Type 0} (is_given_up : F → Bool) where
  pub told_ok : {P Q : Type 0} → (r d : Result A F) → UnlessGivenUp is_given_up r ((r ≡ d) × H) → OnOk d P → (P → H → Q) → OnOk r Q
  told_ok {P} (Ok x) d told ok f = f (subst (λ (y : Result A F). OnOk y P) (sym told.0) ok) told.1
  told_ok (Err e) d told ok f = tt

  pub told_err : (r d : Result A F) (e : F) → is_given_up e ≡ false → UnlessGivenUp is_given_up r ((r ≡ d) × H) → r ≡ Err e → (d ≡ Err e) × H
  told_err r d e kept told is = let at = subst (λ (y : Result A F). UnlessGivenUp is_given_up y ((y ≡ d) × H)) is told kept in (sym at.0, at.1)

-- entries that were told apart stand behind those before
pub entries_on : (old apart told new : List Event) (es : List Entry) → apart ≡ [] → new ≡ old ++ told → entries_of told ≡ entries_of apart ++ es → entries_of new ≡ entries_of old ++ es
entries_on old apart told new es none behind wrote =
    ap entries_of behind ∙ map-append entry_of old told ∙ ap (λ l. entries_of old ++ l) (wrote ∙ ap (λ (a : List Event). entries_of a ++ es) none)

carried_on : (w : World) (b b' : Bus) (posts posts' : List Post) → b' ≡ b → posts' ≡ posts → IsCarried w b posts → IsCarried w b' posts'
carried_on w b b' posts posts' bus same is = subst (λ (x : Bus). IsCarried w x posts') (sym bus) (subst (IsCarried w b) (sym same) is)

pub done_on : (d : Done) (b b' : Bus) (posts posts' : List Post) (old apart told new : List Event) → apart ≡ [] → b' ≡ b → posts' ≡ posts → new ≡ old ++ told → IsDone d b posts apart told → IsDone d b' posts' old new
done_on d b b' posts posts' old apart told new none bus same behind is = record {
  tied = carried_on d.world b b' posts posts' bus same is.tied;
  wrote = entries_on old apart told new d.entries none behind is.wrote;
}

pub lost_on : (d : Done) (posts posts' : List Post) (old apart told new : List Event) → apart ≡ [] → posts' ≡ posts → new ≡ old ++ told → IsLostBy d posts apart told → IsLostBy d posts' old new
lost_on d posts posts' old apart told new none same behind is = record {
  lost = is.lost;
  wrote = entries_on old apart told new d.entries none behind is.wrote;
  names = subst (HaveNames d.world) (sym same) is.names;
}

part_on : (d : Done) (old apart told new : List Event) → apart ≡ [] → new ≡ old ++ told → IsPartDone d apart told → IsPartDone d old new
part_on d old apart told new none behind is = record {
  part = is.part;
  missing = is.missing;
  front = is.front;
  wrote = entries_on old apart told new is.part none behind is.wrote;
}

pub spent_on : (w : World) (d : Done) (posts posts' : List Post) (old apart told new : List Event) → apart ≡ [] → posts' ≡ posts → new ≡ old ++ told → IsSpentBy w d posts apart told → IsSpentBy w d posts' old new
spent_on w d posts posts' old apart told new none same behind is =
    (is.0, part_on d old apart told new none behind is.1, subst (λ (l : List Post). HaveNames w l ⊎ HaveNames d.world l) (sym same) is.2)

pub greeted_on : (w : World) (conn : ℕ) (b b' : Bus) (posts posts' : List Post) (old apart told new : List Event) → apart ≡ [] → b' ≡ b → posts' ≡ posts → new ≡ old ++ told → IsGreeted w conn b posts apart told
    → IsGreeted w conn b' posts' old new
greeted_on w conn b b' posts posts' old apart told new none bus same behind is = record {
  carried = carried_on (with_one_taken (with_one_taken (with_one_taken w conn) conn) conn) b b' posts posts' bus same is.carried;
  extends = record { more = is.extends.more; wrote = entries_on old apart told new is.extends.more none behind is.extends.wrote };
}

pub worked_on : (w : World) (work : Work) (b b' : Bus) (posts posts' : List Post) (given mid given' : List (List ℕ)) (old apart told new : List Event) → apart ≡ [] → b' ≡ b → posts' ≡ posts → given' ≡ mid → new ≡ old ++ told
    → IsWorked w work b posts given mid apart told → IsWorked w work b' posts' given given' old new
worked_on w work b b' posts posts' given mid given' old apart told new none bus same lies behind is = record {
  after = is.after;
  entries = is.entries;
  works = is.works;
  tied = carried_on is.after b b' posts posts' bus same is.tied;
  linked = λ linked. subst (IsLinked is.after) (sym lies) (is.linked linked);
  wrote = entries_on old apart told new is.entries none behind is.wrote;
}

pub lost_at : (w : World) (work : Work) (posts posts' : List Post) (old apart told new : List Event) → apart ≡ [] → posts' ≡ posts → new ≡ old ++ told → IsLostOn w work posts apart told → IsLostOn w work posts' old new
lost_at w work posts posts' old apart told new none same behind is = record {
  at = is.at;
  lost = is.lost;
  wrote = entries_on old apart told new (is.at.entries ++ (does_next is.at).entries) none behind is.wrote;
  names = subst (HaveNames (does_next is.at).world) (sym same) is.names;
}

pub spent_at : (w : World) (work : Work) (posts posts' : List Post) (old apart told new : List Event) → apart ≡ [] → posts' ≡ posts → new ≡ old ++ told → IsSpentOn w work posts apart told → IsSpentOn w work posts' old new
spent_at w work posts posts' old apart told new none same behind is = record {
  at = is.at;
  spent = is.spent;
  part = is.part;
  missing = is.missing;
  front = is.front;
  wrote = entries_on old apart told new (is.at.entries ++ is.part) none behind is.wrote;
  names = subst (λ (l : List Post). HaveNames is.at.moved l ⊎ HaveNames (does_next is.at).world l) (sym same) is.names;
}
