-- The run so far: which lines were done, the world that they came to, and what was told of them.
use Rattle.std.proofs.Common.{◌≡◌, ℕ, ◌+◌, ◌<◌, List, [], ◌∷◌, ◌++◌, length, refl, sym, ap, subst, ◌∙◌, arith, append_assoc, append-nil, length-append, Option, None, inl, inr, ◌⊎◌}
use Rattle.std.specs.Io.KnownBytes.{Appends}
use Rattle.std.specs.List.{AllByRecursion}
use Rattle.atspi_base.specs.Outside.{appends_both, appends_part}
use Rattle.atspi_trace_texts.specs.declared.options.TraceOptions.{TraceOptions}
use Rattle.atspi_script_lines.specs.declared.limits.TheConstants.{QUOTA_MOST}
use Rattle.atspi_script_lines.specs.declared.line.Line.{Line}
use Rattle.atspi_script_lines.specs.Line.{Spells}
use Rattle.atspi_trace_laws.specs.order.Scripts.{CanStand, CanAllStand}
use Rattle.atspi_trace.specs.Entry.{Entry, entries_of}
use Rattle.atspi_trace.specs.World as worlds
use Rattle.atspi_trace.specs.Work.{work_of}
use Rattle.atspi_trace.specs.Due.{Begun}
use Rattle.atspi_trace.specs.play.Playing.{Playing, first_playing}
use Rattle.atspi_trace.specs.play.Played.{refused, PlaysOut, IsPlayed, begun}
use Rattle.atspi_trace.specs.play.Breaking.{does_next, IsLostAt, IsSpentAt}
use Rattle.atspi_world_moves.specs.Halted.{HaveNames}
use Rattle.atspi_world.specs.Worlds.{Staged, IsPlaying}
use Rattle.atspi_world.specs.Lines.{IsLineDone}
use Rattle.atspi_trace_played.specs.Turns.{IsUnspent}
use Rattle.atspi_trace_played.proofs.PlayedTurns.{drains_end}
use Rattle.atspi_world.specs.Halts.{ManyTurns, WorkSpent}
use Rattle.atspi_world_parties.specs.Refusals.{refusal_of}
use Rattle.atspi_run_replay.specs.declared.naming.Halt.{Halt}
use Rattle.atspi_run_replay.specs.declared.naming.Halt.TheVariants.{RegistryLost, Spent}
use Rattle.atspi_run_replay.specs.declared.naming.Refused as refused
use Rattle.atspi_run_replay.specs.declared.naming.Refused.TheVariants.{Long, NotUtf8, Form, World}
use Rattle.atspi_run_replay.specs.Names.{refused_text}
use Rattle.atspi_run_replay.specs.Told.{Told, entries_told, told_text}
use Rattle.atspi_run_replay.specs.Wired as wired
use Rattle.atspi_run_replay.specs.Wired.{AreWired, IsTold}
use Rattle.atspi_run_replay.specs.Done.{AreSpelled, BreaksOff, IsReached, EndsWith, IsHaltedBehind, IsLawfulOf, IsRefusedBehind, Upto}
use Rattle.atspi_run_replay.specs.Play.{DoneText, HaltedText, PlayedHalted, PlayedPart, PlayedRefused, RefusedText}
use Rattle.atspi_run_replay.specs.inner.Play.{Did, DidLine, HaltedIn, IsLineText, RefusedIn, StoppedAt, added}
use Rattle.atspi_run_replay.proofs.DoneLemmas.{added_are, added_unspent, all_unspent, spelled_more, entries_both, text_more}
use Rattle.atspi_run_replay.proofs.Segments.{can_stand, played_more}
use Rattle.atspi_run_replay.proofs.Wiring.{wired_by, added_wired}
use Rattle.atspi_run_replay.proofs.Refusing.{begins_so, drops_last, is_refused, lawful, there}

-- so many lines were done: the lines still to come, and the number of the one that comes next
pub record SoFar (lines rest : List (List ℕ)) (told : List Told) (number : ℕ) (s : Staged) : Type 0 where
  pub done : List (List ℕ)
  pub front : lines ≡ done ++ rest
  pub counted : number ≡ length done
  pub script : List Line
  pub spelled : AreSpelled done script
  pub can : CanAllStand script
  pub now : Playing
  pub is : IsPlaying now s
  pub played : IsPlayed script (entries_told told) now
  pub told_so : IsTold script told now
  pub entries : entries_told told ≡ entries_of s.trace
  pub unspent : AllByRecursion IsUnspent (entries_told told)

pub so_far_start : (lines : List (List ℕ)) (s : Staged) → IsPlaying (first_playing QUOTA_MOST) s → s.trace ≡ [] → SoFar lines lines [] 0 s
so_far_start lines s is silent = record {
  done = [];
  front = refl;
  counted = refl;
  script = [];
  spelled = tt;
  can = tt;
  now = first_playing QUOTA_MOST;
  is = is;
  played = begun;
  told_so = wired.begun;
  entries = ap entries_of (sym silent);
  unspent = tt;
}

pub can_more : (lines : List Line) (line : Line) → CanAllStand lines → CanStand line → CanAllStand (lines ++ line ∷ [])
can_more [] line all can = (can, tt)
can_more (other ∷ lines) line all can = (all.0, can_more lines line all.1 can)

-- ONE MORE LINE IS DONE
pub so_far_more : {lines rest : List (List ℕ)} {told : List Told} {bytes : List ℕ} {number : ℕ} {s : Staged} (new : Staged) → SoFar lines (bytes ∷ rest) told number s → DidLine bytes s new
    → SoFar lines rest (told ++ added s new) (number + 1) new
so_far_more {rest = rest} {told = told} {bytes = bytes} {s = s} new c d =
    let line : IsLineDone c.now d.0 s new = d.2 c.now c.is in
    let are : entries_told (added s new) ≡ line.done.entries = added_are s new line.done.entries line.done.wrote in
    let entries : entries_told (told ++ added s new) ≡ entries_told told ++ line.done.entries = entries_both told (added s new) ∙ ap (λ es. entries_told told ++ es) are in
    record {
      done = c.done ++ bytes ∷ [];
      front = c.front ∙ sym (append_assoc c.done (bytes ∷ []) rest);
      counted = omega (arith, c.counted, length-append c.done (bytes ∷ []));
      script = c.script ++ d.0 ∷ [];
      spelled = spelled_more c.done c.script bytes d.0 c.spelled d.1;
      can = can_more c.script d.0 c.can (can_stand d.0 bytes d.1);
      now = line.done.after;
      is = line.done.is;
      played = subst (λ es. IsPlayed (c.script ++ d.0 ∷ []) es line.done.after) (sym entries) (played_more c.script (entries_told told) c.now d.0 s new c.played line);
      told_so =
          wired.did c.script d.0 told (added s new) c.now line.done.after c.told_so line.not_refused (subst (λ es. PlaysOut c.now (work_of c.now.world d.0) es line.done.after) (sym are) line.done.plays)
          line.done.is.is.lives
          (subst (λ es. AreWired line.done.after.world es (added s new)) (sym c.entries) (added_wired line.done.after s new line.done.entries line.done.is line.done.wrote));
      entries = entries ∙ ap (λ es. es ++ line.done.entries) c.entries ∙ sym line.done.wrote;
      unspent = added_unspent told s new c.unspent d.3;
    }

-- and what it added is written
pub one_more : (options : TraceOptions) {lines rest : List (List ℕ)} {told : List Told} {bytes : List ℕ} {number : ℕ} {s : Staged} (new : Staged) (w w' w'' : Option (List ℕ)) → SoFar lines (bytes ∷ rest) told number s
    → Appends w w' (told_text options told) → Did options bytes s new w' w'' → (more : List Told) × SoFar lines rest more (number + 1) new × Appends w w'' (told_text options more)
one_more options {told = told} {s = s} new w w' w'' c a did = (
  told ++ added s new,
  so_far_more new c did.0,
  subst (λ x. Appends w w'' x) (sym (text_more options told (added s new))) (appends_both w w' w'' (told_text options told) (told_text options (added s new)) a did.1),
)

-- WHAT WAS TOLD IS A LAWFUL TRACE OF THEM
abbrev pub so_far_upto : {lines rest : List (List ℕ)} {told : List Told} {number : ℕ} {s : Staged} → SoFar lines rest told number s → Upto lines rest told
so_far_upto {told = told} c = record { done = c.done; front = c.front; lawful = record { lines = c.script; spelled = c.spelled; lawful = lawful c.script (entries_told told) c.now c.can c.played; there = there c.script (entries_told told) c.now c.can c.played; unspent = c.unspent; now = c.now; told_so = c.told_so } }

pub so_far_end : {lines : List (List ℕ)} {told : List Told} {number : ℕ} {s : Staged} → SoFar lines [] told number s → IsLawfulOf lines told
so_far_end {told = told} c = subst (λ ls. IsLawfulOf ls told) (sym (c.front ∙ append-nil c.done)) (so_far_upto c).lawful

-- and the next line is refused by it where it is refused
pub refused_behind : {lines rest : List (List ℕ)} {told : List Told} {number : ℕ} {s : Staged} (c : SoFar lines rest told number s) (bytes : List ℕ) (why : refused.Refused) → RefusedIn s bytes why
    → IsRefusedBehind c.script told bytes why
refused_behind c bytes Long r = record { bytes_are = r; lawful = tt }
refused_behind c bytes NotUtf8 r = record { bytes_are = r; lawful = tt }
refused_behind c bytes Form r = record { bytes_are = r; lawful = tt }
refused_behind {told = told} c bytes (World why) r = record {
  bytes_are = (r.0, r.1);
  lawful = (r.0, r.1, is_refused c.script (entries_told told) c.now r.0 (refusal_of why) (can_more c.script r.0 c.can (can_stand r.0 bytes r.1)) c.played (r.2 c.now c.is));
}

-- the text of the next line's refusal
refused_so : {options : TraceOptions} {lines rest : List (List ℕ)} {told : List Told} {bytes : List ℕ} {number : ℕ} {s : Staged} (why : refused.Refused) (text : List ℕ) → SoFar lines (bytes ∷ rest) told number s
    → RefusedIn s bytes why → text ≡ told_text options told ++ refused_text (number + 1) why → RefusedText options lines text
refused_so {options = options} {rest = rest} {told = told} {bytes = bytes} why text c r are = record {
  line = bytes;
  rest = rest;
  told = told;
  why = why;
  upto = so_far_upto c;
  refused = refused_behind c bytes why r;
  are = are ∙ ap (λ n. told_text options told ++ refused_text n why) (omega (arith, c.counted));
}

-- THE WORLD COMES TO ITS END AT THE NEXT LINE: what that added is what its causes wrote up to there, with the bytes of its messages
breaks_off : {lines rest : List (List ℕ)} {told : List Told} {number : ℕ} {s : Staged} (c : SoFar lines rest told number s) (new : Staged) (bytes : List ℕ) (line : Line) (why : Halt) → Spells line bytes
    → AllByRecursion IsUnspent (entries_of new.trace) → refused c.now line ≡ None → (entries : List Entry) → entries_of new.trace ≡ entries_of s.trace ++ entries → (breaks : BreaksOff why c.now (work_of c.now.world line) entries)
    → (IsLostAt c.now (work_of c.now.world line) entries ⊎ IsSpentAt c.now (work_of c.now.world line) entries)
    → EndsWith why entries → (w : worlds.World) → IsReached why c.now (work_of c.now.world line) entries breaks w → HaveNames w new.posts → IsHaltedBehind c.script told (added s new) c.now bytes why
breaks_off {told = told} {s = s} c new bytes line why spells fits ok entries wrote breaks broken ends w reached names =
    let are : entries_told (added s new) ≡ entries = added_are s new entries wrote in
    let both : (b : BreaksOff why c.now (work_of c.now.world line) (entries_told (added s new))) × IsReached why c.now (work_of c.now.world line) (entries_told (added s new)) b w =
    subst (λ (es : List Entry). (b : BreaksOff why c.now (work_of c.now.world line) es) × IsReached why c.now (work_of c.now.world line) es b w) (sym are) (breaks, reached) in
    record {
      line = line;
      spells = spells;
      told_so = c.told_so;
      accepted = ok;
      breaks = both.0;
      begun =
          subst (Begun (c.script ++ line ∷ [])) (sym (entries_both told (added s new) ∙ ap (λ es. entries_told told ++ es) are))
          (begins_so c.script (entries_told told) c.now line entries (can_more c.script line c.can (can_stand line bytes spells)) c.played ok broken);
      unspent = all_unspent told s new entries c.entries wrote fits;
      last = subst (EndsWith why) (sym are) ends;
      reached = w;
      is_reached = both.1;
      wired = subst (λ es. AreWired w es (added s new)) (sym c.entries) (wired_by w s new entries names wrote);
    }

-- serials are spent at it, in the world before the cause that spends them, or behind it
spent_behind : {lines rest : List (List ℕ)} {told : List Told} {number : ℕ} {s : Staged} (c : SoFar lines rest told number s) (new : Staged) (bytes : List ℕ) (line : Line) → Spells line bytes → AllByRecursion IsUnspent (entries_of new.trace) → refused c.now line ≡ None
    → (entries : List Entry) (b : IsSpentAt c.now (work_of c.now.world line) entries) → entries_of new.trace ≡ entries_of s.trace ++ entries
    → HaveNames b.at.moved new.posts ⊎ HaveNames (does_next b.at).now.world new.posts → IsHaltedBehind c.script told (added s new) c.now bytes Spent
spent_behind c new bytes line spells fits ok entries b wrote (inl names) = breaks_off c new bytes line Spent spells fits ok entries wrote b (inr b) tt b.at.moved (inl refl) names
spent_behind c new bytes line spells fits ok entries b wrote (inr names) = breaks_off c new bytes line Spent spells fits ok entries wrote b (inr b) tt (does_next b.at).now.world (inr refl) names

pub halted_behind : {lines rest : List (List ℕ)} {told : List Told} {number : ℕ} {s : Staged} (c : SoFar lines rest told number s) (new : Staged) (bytes : List ℕ) (why : Halt) → HaltedIn s new bytes why
    → IsHaltedBehind c.script told (added s new) c.now bytes why
halted_behind {told = told} {s = s} c new bytes RegistryLost h =
    let x = h.2 c.now c.is in
    breaks_off c new bytes h.0 RegistryLost h.1 h.3 x.0 x.1.0 x.1.2 x.1.1 (inl x.1.1)
    (drops_last c.script (entries_told told) c.now h.0 x.1.0 (can_more c.script h.0 c.can (can_stand h.0 bytes h.1)) c.played x.0 x.1.1) (does_next x.1.1.at).now.world refl x.1.3
halted_behind {told = told} {s = s} c new bytes Spent h =
    let x = h.2 c.now c.is in
    by x.0 x.1
  where
    by : refused c.now h.0 ≡ None → (WorkSpent c.now (work_of c.now.world h.0) s new ⊎ ManyTurns c.now s new) → IsHaltedBehind c.script told (added s new) c.now bytes Spent
    by ok (inl x) = spent_behind c new bytes h.0 h.1 h.3 ok x.0 x.1 x.2 x.3
    by ok (inr x) =
        let all : entries_of new.trace ≡ entries_told told ++ x.0 = x.4 ∙ ap (λ es. es ++ x.0) (sym c.entries) in
        let fewer : 4398046511104 < 4398046511104 = drains_end c.script (entries_told told) c.now c.can c.played 4398046511104 x.0 x.1 x.2 x.3 (subst (AllByRecursion IsUnspent) all h.3) in
        absurd (omega (arith, fewer))

halted_so : {options : TraceOptions} {lines rest : List (List ℕ)} {told : List Told} {bytes : List ℕ} {number : ℕ} {s : Staged} (why : Halt) (new : Staged) (text : List ℕ) → SoFar lines (bytes ∷ rest) told number s
    → HaltedIn s new bytes why → text ≡ told_text options told ++ told_text options (added s new) → HaltedText options why lines text
halted_so {options = options} {rest = rest} {told = told} {bytes = bytes} {s = s} why new text c h are = record {
  line = bytes;
  rest = rest;
  told = told;
  more = added s new;
  upto = so_far_upto c;
  halted = halted_behind c new bytes why h;
  are = are ∙ sym (text_more options told (added s new));
}

-- a part of what the next line writes is a part of such a text
pub stopped_part : {options : TraceOptions} {lines rest : List (List ℕ)} {told : List Told} {bytes : List ℕ} {number : ℕ} {s : Staged} (new : Staged) (w w' w'' : Option (List ℕ)) → SoFar lines (bytes ∷ rest) told number s
    → Appends w w' (told_text options told) → StoppedAt options bytes (number + 1) s new w' w'' → PlayedPart options lines w w''
stopped_part {options = options} {lines = lines} {rest = rest} {told = told} {bytes = bytes} {number = number} {s = s} new w w' w'' c a p =
    (told_text options told ++ p.0, text p.0 p.1, appends_part w w' w'' (told_text options told) p.0 a p.2)
  where
    text : (t : List ℕ) → IsLineText options bytes (number + 1) s new t
        → DoneText options lines (told_text options told ++ t) ⊎ (((why : Halt) × HaltedText options why lines (told_text options told ++ t)) ⊎ RefusedText options lines (told_text options told ++ t))
    text t (inl none) = inl record { rest = bytes ∷ rest; told = told; upto = so_far_upto c; are = ap (λ x. told_text options told ++ x) none ∙ append-nil (told_text options told) }
    text t (inr (inl d)) =
        inl record {
          rest = rest;
          told = told ++ added s new;
          upto = so_far_upto (so_far_more new c d.0);
          are = ap (λ x. told_text options told ++ x) d.1 ∙ sym (text_more options told (added s new));
        }
    text t (inr (inr (inl h))) = inr (inl (h.0, halted_so h.0 new (told_text options told ++ t) c h.1 (ap (λ x. told_text options told ++ x) h.2)))
    text t (inr (inr (inr r))) = inr (inr (refused_so r.0 (told_text options told ++ t) c r.1 (ap (λ x. told_text options told ++ x) r.2)))

-- the next line is refused
pub refused_next : {options : TraceOptions} {lines rest : List (List ℕ)} {told : List Told} {bytes : List ℕ} {number : ℕ} {s : Staged} (why : refused.Refused) (w w' w'' : Option (List ℕ))
    → SoFar lines (bytes ∷ rest) told number s → Appends w w' (told_text options told) → RefusedIn s bytes why → Appends w' w'' (refused_text (number + 1) why) → PlayedRefused options lines w w''
refused_next {options = options} {told = told} {number = number} why w w' w'' c a r b = (
  told_text options told ++ refused_text (number + 1) why,
  refused_so why (told_text options told ++ refused_text (number + 1) why) c r refl,
  appends_both w w' w'' (told_text options told) (refused_text (number + 1) why) a b,
)

-- the world ends at the next line
pub halted_next : {options : TraceOptions} {lines rest : List (List ℕ)} {told : List Told} {bytes : List ℕ} {number : ℕ} {s : Staged} (why : Halt) (new : Staged) (w w' w'' : Option (List ℕ))
    → SoFar lines (bytes ∷ rest) told number s → Appends w w' (told_text options told) → HaltedIn s new bytes why → Appends w' w'' (told_text options (added s new)) → PlayedHalted options why lines w w''
halted_next {options = options} {told = told} {s = s} why new w w' w'' c a h b = (
  told_text options told ++ told_text options (added s new),
  halted_so why new (told_text options told ++ told_text options (added s new)) c h refl,
  appends_both w w' w'' (told_text options told) (told_text options (added s new)) a b,
)

-- nothing was told of no lines
pub nothing_told : (lines : List (List ℕ)) → Upto lines lines []
nothing_told lines = record { done = []; front = refl; lawful = record { lines = []; spelled = tt; lawful = lawful [] [] (first_playing QUOTA_MOST) tt begun; there = refl; unspent = tt; now = first_playing QUOTA_MOST; told_so = wired.begun } }
