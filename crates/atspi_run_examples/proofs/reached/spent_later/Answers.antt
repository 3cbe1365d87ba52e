use Rattle.std.proofs.Common.{◌≡◌, ◌⊎◌, inl, inr, ℕ, List, [], ◌∷◌, ◌++◌, length, refl, sym, ap, ◌∙◌, arith, length-append}
use Rattle.std.specs.Prelude.{Option, None, Some}
use Rattle.atspi_script_lines.specs.declared.line.Party.TheVariants.{Bus as The_bus, Reader}
use Rattle.atspi_match.specs.routing.Queues.{Bus}
use Rattle.atspi_trace.specs.Causes.{gets}
use Rattle.atspi_trace.specs.Ends.{end_at}
use Rattle.atspi_trace.specs.Entry.{Entry, got}
use Rattle.atspi_trace.specs.Work.{turning}
use Rattle.atspi_trace.specs.World.{End, World}
use Rattle.atspi_trace.specs.play.Breaking.{IsAtWork, IsSpentAt, caused, does_next, so_far}
use Rattle.atspi_trace.specs.play.Playing.{Happened, Playing}
use Rattle.atspi_trace.specs.play.Plays.{plays}
use Rattle.atspi_run_replay.specs.declared.naming.Halt.TheVariants.{Spent}
use Rattle.atspi_run_examples.specs.Small.{Reaches, one_taken, two_letters}
use Rattle.atspi_run_examples.proofs.CauseByCause.{NoneDone, SomeDone, causes, none_caused, no_next, that_next}
use Rattle.atspi_run_examples.proofs.reached.spent_later.Goals as goal

abbrev taken : Entry
taken = got (Reader 0) The_bus 33

abbrev both_taken : Bus → Playing
both_taken b = (plays (one_taken b) (gets 1)).now

pub returns-clause-second : goal.returns-clause-second
returns-clause-second c = λ b past. (
  record {
    at = record {
      entries = taken ∷ [];
      now = one_taken b;
      last = turning 2 1;
      done = caused (two_letters b) (one_taken b) (two_letters b).world (turning 2 2) (turning 2 1) (turning 2 1) (gets 1) [] refl (so_far (one_taken b) (turning 2 1));
      lives = refl;
      moved = (one_taken b).world;
      rest = turning 2 0;
      next = gets 1;
      is_next = refl;
    };
    spent = inl past;
    part = taken ∷ [];
    missing = [];
    front = refl;
    wrote = refl;
  },
  inl refl,
)

-- how many letters lie on the reader's link
abbrev letters_of : Option End → ℕ
letters_of None = 0
letters_of (Some e) = length e.down

abbrev letters_in : World → ℕ
letters_in w = letters_of (end_at w.ends 1)

-- at the first turn only one entry can be written
not_first : (b : Bus) (s : IsSpentAt (two_letters b) (turning 2 2) (taken ∷ taken ∷ [])) → s.at.now ≡ two_letters b → s.at.last ≡ turning 2 2 → s.at.entries ≡ [] → ⊥
not_first b s now last none =
    let next = that_next (two_letters b) (turning 2 2) s.at (two_letters b) (turning 2 2) now last (gets 1) (turning 2 1) refl in
    let wrote : taken ∷ taken ∷ [] ≡ s.part = s.wrote ∙ ap (λ (es : List Entry). es ++ s.part) none in
    let front : taken ∷ [] ≡ s.part ++ s.missing = sym (ap (λ (h : Happened). h.entries) next.1) ∙ s.front in
    omega (arith, ap (λ (es : List Entry). length es) wrote, ap (λ (es : List Entry). length es) front, length-append s.part s.missing)

-- at the second a letter is gone
two_or_less : (b : Bus) (at : IsAtWork (two_letters b) (turning 2 2)) → at.now ≡ one_taken b → at.last ≡ turning 2 1
    → ((two_letters b).world ≡ at.moved) ⊎ ((two_letters b).world ≡ (does_next at).now.world) → ⊥
two_or_less b at now last reached = by reached
  where
    next : (at.moved ≡ (one_taken b).world) × (does_next at ≡ plays (one_taken b) (gets 1))
    next = that_next (two_letters b) (turning 2 2) at (one_taken b) (turning 2 1) now last (gets 1) (turning 2 0) refl

    by : ((two_letters b).world ≡ at.moved) ⊎ ((two_letters b).world ≡ (does_next at).now.world) → ⊥
    by (inl e) = let clash : 2 ≡ 1 = ap letters_in (e ∙ next.0) in omega (arith, clash)
    by (inr e) = let clash : 2 ≡ 0 = ap letters_in (e ∙ ap (λ (h : Happened). h.now.world) next.1) in omega (arith, clash)

not_before : (b : Bus) → Reaches Spent (two_letters b) (turning 2 2) (taken ∷ taken ∷ []) (two_letters b).world → ⊥
not_before b r = by (causes (two_letters b) r.0.at.now (turning 2 2) r.0.at.last r.0.at.entries r.0.at.done (gets 1) (turning 2 1) refl)
  where
    last_turn : (es : List Entry) → NoneDone (both_taken b) (turning 2 0) es r.0.at.now r.0.at.last → ⊥
    last_turn es x = no_next (two_letters b) (turning 2 2) r.0.at (both_taken b) (turning 2 0) x.1 x.2 (both_taken b).world refl

    second : (es : List Entry) → NoneDone (one_taken b) (turning 2 1) es r.0.at.now r.0.at.last ⊎ SomeDone (one_taken b) (turning 2 0) (gets 1) es r.0.at.now r.0.at.last → ⊥
    second es (inl x) = two_or_less b r.0.at x.1 x.2 r.1
    second es (inr x) = last_turn x.0 (none_caused (both_taken b) r.0.at.now (turning 2 0) r.0.at.last x.0 x.2 (both_taken b).world refl)

    by : NoneDone (two_letters b) (turning 2 2) r.0.at.entries r.0.at.now r.0.at.last ⊎ SomeDone (two_letters b) (turning 2 1) (gets 1) r.0.at.entries r.0.at.now r.0.at.last → ⊥
    by (inl x) = not_first b r.0 x.1 x.2 x.0
    by (inr x) = second x.0 (causes (one_taken b) r.0.at.now (turning 2 1) r.0.at.last x.0 x.2 (gets 1) (turning 2 0) refl)

pub returns-clause-not_before : goal.returns-clause-not_before
returns-clause-not_before c = not_before
