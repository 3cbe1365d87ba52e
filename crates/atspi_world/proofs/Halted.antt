-- Work that was done in part, and then the registry was lost, or serials were spent: so is the work.
use Rattle.std.proofs.Common.{◌≡◌, ◌⊎◌, inl, inr, List, ◌++◌, map, refl, ap, ◌∙◌, append_assoc}
use Rattle.atspi_trace_events.specs.declared.event.Event.{Event}
use Rattle.atspi_world_links.specs.declared.post.Post.{Post}
use Rattle.atspi_trace.specs.Entry.{entries_of}
use Rattle.atspi_trace.specs.Causes.{Cause}
use Rattle.atspi_trace.specs.Work.{Work, doing, resting, cause, next_of}
use Rattle.atspi_world_moves.specs.Halted.{naming_of, AreNamedAs, HaveNames}
use Rattle.atspi_trace.specs.play.Breaking.{IsAtWork}
use Rattle.atspi_trace.specs.play.Playing.{Playing}
use Rattle.atspi_trace.specs.play.Plays.{plays}
use Rattle.atspi_world.specs.Halts.{IsLostBy, IsSpentBy, WorkLost, WorkSpent}
use Rattle.atspi_world.specs.inner.Turns.{PartDone}
use Rattle.atspi_world.specs.Worlds.{Staged, IsPlaying}
use Rattle.atspi_world.proofs.Parts.{none_done}

-- a line that is broken off says no more of a stage than its connections and what it told
abbrev pub with_told : {p : Playing} {old : Staged} → IsPlaying p old → List Post → List Event → Staged
with_told {old = old} playing posts trace = record old { posts = posts; trace = trace }

module _ (p : Playing) (work left next : Work) (c : Cause) (old mid new : Staged) (t : PartDone p work left old mid) (is : next_of t.now.world left ≡ cause c t.now.world next) where
  abbrev at_next : IsAtWork p work
  at_next = record { entries = t.entries; now = t.now; last = left; done = t.on; lives = t.is.is.lives; moved = t.now.world; rest = next; next = c; is_next = is }

  pub then_lost : IsLostBy (plays t.now c) mid new → WorkLost p work old new
  then_lost h =
      let more = (plays t.now c).entries in (
        t.entries ++ more,
        record { at = at_next; lost = h.lost; wrote = refl },
        h.wrote ∙ ap (λ l. l ++ more) t.wrote ∙ append_assoc (entries_of old.trace) t.entries more,
        h.names,
      )

  names : AreNamedAs mid.posts new.posts ⊎ HaveNames (plays t.now c).now.world new.posts → HaveNames t.now.world new.posts ⊎ HaveNames (plays t.now c).now.world new.posts
  names (inl before) = inl (before ∙ ap (map naming_of) t.is.is.carried.posts_are)
  names (inr behind) = inr behind

  pub then_spent : IsSpentBy (plays t.now c) mid new → WorkSpent p work old new
  then_spent h = (
    t.entries ++ h.part,
    record { at = at_next; spent = h.spent; part = h.part; missing = h.missing; front = h.front; wrote = refl },
    h.wrote ∙ ap (λ l. l ++ h.part) t.wrote ∙ append_assoc (entries_of old.trace) t.entries h.part,
    names h.names,
  )

-- of a line that is one cause
pub once_spent : (p : Playing) (c : Cause) (old new : Staged) → IsPlaying p old → IsSpentBy (plays p c) old new → WorkSpent p (doing c) old new
once_spent p c old new playing h = then_spent p (doing c) (doing c) resting c old old new (none_done p (doing c) old playing) refl h
