-- What is done of some work, cause by cause.
use Rattle.std.proofs.Common.{◌≡◌, List, [], ◌∷◌, ◌++◌, refl, sym, ap, ◌∙◌, subst, append-nil, append_assoc}
use Rattle.std.specs.Prelude.{Result, Ok, Err, OnOk}
use Rattle.std.proofs.lemmas.List.{map-append}
use Rattle.atspi_trace_events.specs.declared.event.Event.{Event}
use Rattle.atspi_trace.specs.Entry.{entry_of, entries_of}
use Rattle.atspi_trace.specs.World.{World}
use Rattle.atspi_trace.specs.Causes.{Cause}
use Rattle.atspi_trace.specs.Work.{Work, cause, rests, next_of}
use Rattle.atspi_trace.specs.play.Breaking as breaking
use Rattle.atspi_trace.specs.play.Playing.{Playing}
use Rattle.atspi_trace.specs.play.Plays.{only, plays}
use Rattle.atspi_trace.specs.play.Played.{PlaysOut, at_rest, caused}
use Rattle.atspi_world.specs.Lines.{IsSegment}
use Rattle.atspi_world.specs.inner.Turns.{PartDone}
use Rattle.atspi_world.specs.Worlds.{Staged, IsPlaying, Happens}
use Rattle.atspi_world.proofs.Onward.{on_more}
use Rattle.atspi_world.proofs.Stays.{same_world}

-- what follows of two that an answer promises
pub on_ok_both : {T F P Q R : Type 0} (r : Result T F) → (P → Q → R) → OnOk r P → OnOk r Q → OnOk r R
on_ok_both (Ok t) f p q = f p q
on_ok_both (Err e) f p q = tt

-- nothing yet
abbrev pub none_done : (p : Playing) (work : Work) (s : Staged) → IsPlaying p s → PartDone p work work s s
none_done p work s is = record { now = p; entries = []; is = is; wrote = sym (append-nil (entries_of s.trace)); on = breaking.so_far p work; completes = λ es q h. h }

-- one cause more
abbrev pub one_done : (p : Playing) (work left next : Work) (c : Cause) (old mid new : Staged) → (t : PartDone p work left old mid) → next_of t.now.world left ≡ cause c t.now.world next → Happens (plays t.now c) mid new
    → PartDone p work next old new
one_done p work left next c old mid new t is done =
    let h = plays t.now c in
    record {
      now = h.now;
      entries = t.entries ++ h.entries;
      is = done.is;
      wrote = done.wrote ∙ ap (λ l. l ++ h.entries) t.wrote ∙ append_assoc (entries_of old.trace) t.entries h.entries;
      on = on_more p t.now t.now.world work left next c t.entries t.on is;
      completes = λ es q out. subst (λ l. PlaysOut p work l q) (sym (append_assoc t.entries h.entries es)) (t.completes (h.entries ++ es) q (caused t.now q t.now.world left next c es is out));
    }

-- ALL OF IT
pub all_done : (p : Playing) (work left : Work) (v : World) (old mid new : Staged) → (t : PartDone p work left old mid) → next_of t.now.world left ≡ rests v → IsPlaying (record t.now { world = v }) new
    → entries_of new.trace ≡ entries_of mid.trace → IsSegment p work old new
all_done p work left v old mid new t is playing same = record {
  after = record t.now { world = v };
  entries = t.entries;
  plays = subst (λ l. PlaysOut p work l (record t.now { world = v })) (append-nil t.entries) (t.completes [] (record t.now { world = v }) (at_rest t.now v left is));
  is = playing;
  wrote = same ∙ t.wrote;
}

-- a world whose trace alone is another
pub traced : (p : Playing) (s : Staged) (trace : List Event) → IsPlaying p s → IsPlaying p (record s { trace = trace })
traced p s trace playing =
    let is = playing.is in
    record {
      is = same_world p.world p.world s (record s { trace = trace }) is refl refl is.carried is.linked is.lives refl refl (record { registry = refl; kits = refl; spares = refl });
      readers = playing.readers;
    }

-- an event is told, and nothing else happens
pub noted : (p : Playing) (s : Staged) (trace : List Event) (c : Cause) (event : Event) → plays p c ≡ only p (record { world = p.world; entries = entry_of event ∷ [] }) → trace ≡ s.trace ++ event ∷ [] → IsPlaying p s
    → Happens (plays p c) s (record s { trace = trace })
noted p s trace c event is told playing =
    subst (λ h. Happens h s (record s { trace = trace })) (sym is) (record { is = traced p s trace playing; wrote = ap entries_of told ∙ map-append entry_of s.trace (event ∷ []) })
