-- What a line writes, by what came of it.
use Rattle.std.proofs.Common.{◌≡◌, ◌+◌, ℕ, List, [], ◌∷◌, Option, Result, Ok, Err, IsErr, OnOk, OnErr, refl, sym, subst, append-nil, inl, inr}
use Rattle.std.proofs.lemmas.Bool.{false≢true}
use Rattle.std.specs.Io.KnownBytes.{Appends}
use Rattle.atspi_base.specs.Outside.{AppendsPart}
use Rattle.atspi_trace_texts.specs.declared.options.TraceOptions.{TraceOptions}
use Rattle.atspi_world.specs.Worlds.{Staged}
use Rattle.atspi_run_replay.specs.declared.naming.Halt.{Halt}
use Rattle.atspi_run_replay.specs.declared.naming.Refused as refused
use Rattle.atspi_run_replay.specs.Names.{refused_text}
use Rattle.atspi_run_replay.specs.Told.{Told, told_text}
use Rattle.atspi_run_replay.specs.declared.naming.Stop.{Stop}
use Rattle.atspi_run_replay.specs.declared.naming.Stop.TheVariants.{Refused, Halted, Write, NoMemory}
use Rattle.atspi_run_replay.specs.Play.{PlayedHalted, PlayedPart, PlayedRefused}
use Rattle.atspi_run_replay.specs.inner.Play.{Did, DidLine, Ended, HaltedIn, IfHalted, IfRefused, RefusedIn, StoppedAt}
use Rattle.atspi_run_replay.specs.inner.Play.{added}
use Rattle.atspi_run_replay.proofs.Course.{SoFar, halted_next, nothing_told, refused_next}
use Rattle.atspi_run_replay.proofs.DoneLemmas.{appends_nothing}
use Rattle.atspi_run_replay.proofs.StopLemmas.{halted_weaker, refused_weaker}

-- a line was done, and what it added was written
pub did_if : {T E : Type 0} (r : Result T E) (options : TraceOptions) (bytes : List ℕ) (old new : Staged) (w w' : Option (List ℕ)) → DidLine bytes old new → OnOk r (Appends w w' (told_text options (added old new)))
    → OnOk r (Did options bytes old new w w')
did_if (Ok x) options bytes old new w w' d a = (d, a)
did_if (Err x) options bytes old new w w' d a = tt

-- a part of it was
pub did_part_if : {T E : Type 0} (r : Result T E) (options : TraceOptions) (bytes : List ℕ) (number : ℕ) (old new : Staged) (w w' : Option (List ℕ)) → DidLine bytes old new
    → OnErr r (AppendsPart w w' (told_text options (added old new))) → OnErr r (StoppedAt options bytes number old new w w')
did_part_if (Ok x) options bytes number old new w w' d a = tt
did_part_if (Err x) options bytes number old new w w' d a = (told_text options (added old new), inr (inl (d, refl)), a)

-- the world came to its end at a line, and what that added was written
same_halt : (old new : Staged) (options : TraceOptions) (bytes : List ℕ) (why said : Halt) (w w' : Option (List ℕ)) → HaltedIn old new bytes why
    → (said ≡ why) × Appends w w' (told_text options (added old new)) → Ended options bytes said old new w w'
same_halt old new options bytes why said w w' because f = (subst (λ (x : Halt). HaltedIn old new bytes x) (sym f.0) because, f.1)

pub was_halted : {T : Type 0} (r : Result T Stop) (options : TraceOptions) (bytes : List ℕ) (old new : Staged) (why : Halt) (w w' : Option (List ℕ)) → HaltedIn old new bytes why
    → IfHalted r (λ said. (said ≡ why) × Appends w w' (told_text options (added old new))) → IfHalted r (λ said. Ended options bytes said old new w w')
was_halted r options bytes old new why w w' because h = halted_weaker r _ _ (λ said f. same_halt old new options bytes why said w w' because f) h

pub halted_part_if : {T E : Type 0} (r : Result T E) (options : TraceOptions) (bytes : List ℕ) (number : ℕ) (old new : Staged) (why : Halt) (w w' : Option (List ℕ)) → HaltedIn old new bytes why
    → OnErr r (AppendsPart w w' (told_text options (added old new))) → OnErr r (StoppedAt options bytes number old new w w')
halted_part_if (Ok x) options bytes number old new why w w' because a = tt
halted_part_if (Err x) options bytes number old new why w w' because a = (told_text options (added old new), inr (inr (inl (why, because, refl))), a)

-- all of it is a part of it
pub all_part : (text : List ℕ) (old new : Option (List ℕ)) → Appends old new text → AppendsPart old new text
all_part text old new a = (text, [], append-nil text, a)

pub nothing : (options : TraceOptions) (bytes : List ℕ) (number : ℕ) (old new : Staged) (w : Option (List ℕ)) → StoppedAt options bytes number old new w w
nothing options bytes number old new w = ([], inl refl, ([], [], refl, appends_nothing w))

-- what does not end well has no fact of a good end
pub never_ok : {T E : Type 0} (r : Result T E) (P : Type 0) → IsErr r → OnOk r P
never_ok (Ok x) P e = absurd (false≢true e)
never_ok (Err x) P e = tt

-- a fact holds where it holds at any rate
pub ok_holds : {T E : Type 0} (r : Result T E) (P : Type 0) → P → OnOk r P
ok_holds (Ok x) P p = p
ok_holds (Err x) P p = tt

-- a line was refused, and that was written
same_refusal : (s : Staged) (bytes : List ℕ) (number : ℕ) (why said : refused.Refused) (w w' : Option (List ℕ)) → RefusedIn s bytes why → (said ≡ why) × Appends w w' (refused_text number why)
    → RefusedIn s bytes said × Appends w w' (refused_text number said)
same_refusal s bytes number why said w w' because f = (
  subst (λ (x : refused.Refused). RefusedIn s bytes x) (sym f.0) because,
  subst (λ (x : refused.Refused). Appends w w' (refused_text number x)) (sym f.0) f.1,
)

pub was_refused : {T : Type 0} (r : Result T Stop) (s : Staged) (bytes : List ℕ) (number : ℕ) (why : refused.Refused) (w w' : Option (List ℕ)) → RefusedIn s bytes why
    → IfRefused r (λ said. (said ≡ why) × Appends w w' (refused_text number why)) → IfRefused r (λ said. RefusedIn s bytes said × Appends w w' (refused_text number said))
was_refused r s bytes number why w w' because h = refused_weaker r _ _ (λ said f. same_refusal s bytes number why said w w' because f) h

pub refused_part_if : {T E : Type 0} (r : Result T E) (options : TraceOptions) (bytes : List ℕ) (number : ℕ) (old new : Staged) (why : refused.Refused) (w w' : Option (List ℕ)) → RefusedIn old bytes why
    → OnErr r (AppendsPart w w' (refused_text number why)) → OnErr r (StoppedAt options bytes number old new w w')
refused_part_if (Ok x) options bytes number old new why w w' because p = tt
refused_part_if (Err x) options bytes number old new why w w' because p = (refused_text number why, inr (inr (inr (why, because, refl))), p)

-- nothing was written of any lines
pub played_nothing : (options : TraceOptions) (lines : List (List ℕ)) (w : Option (List ℕ)) → PlayedPart options lines w w
played_nothing options lines w = ([], inl record { rest = lines; told = []; upto = nothing_told lines; are = refl }, ([], [], refl, appends_nothing w))

-- behind lines that were done: the next one is refused, or the world ends at it
pub then_refused : {T : Type 0} (r : Result T Stop) (options : TraceOptions) (lines rest : List (List ℕ)) (told : List Told) (bytes : List ℕ) (number : ℕ) (s : Staged) (old mid new : Option (List ℕ))
    → SoFar lines (bytes ∷ rest) told number s → Appends old mid (told_text options told) → IfRefused r (λ why. RefusedIn s bytes why × Appends mid new (refused_text (number + 1) why)) → IfRefused r (λ why. PlayedRefused options lines old new)
then_refused (Ok x) options lines rest told bytes number s old mid new w a h = tt
then_refused (Err (Refused why)) options lines rest told bytes number s old mid new w a h = refused_next why old mid new w a h.0 h.1
then_refused (Err (Halted halt)) options lines rest told bytes number s old mid new w a h = tt
then_refused (Err Write) options lines rest told bytes number s old mid new w a h = tt
then_refused (Err NoMemory) options lines rest told bytes number s old mid new w a h = tt

pub then_halted : {T : Type 0} (r : Result T Stop) (options : TraceOptions) (lines rest : List (List ℕ)) (told : List Told) (bytes : List ℕ) (number : ℕ) (s t : Staged) (old mid new : Option (List ℕ))
    → SoFar lines (bytes ∷ rest) told number s → Appends old mid (told_text options told) → IfHalted r (λ why. Ended options bytes why s t mid new) → IfHalted r (λ why. PlayedHalted options why lines old new)
then_halted (Ok x) options lines rest told bytes number s t old mid new w a h = tt
then_halted (Err (Refused why)) options lines rest told bytes number s t old mid new w a h = tt
then_halted (Err (Halted halt)) options lines rest told bytes number s t old mid new w a h = halted_next halt t old mid new w a h.0 h.1
then_halted (Err Write) options lines rest told bytes number s t old mid new w a h = tt
then_halted (Err NoMemory) options lines rest told bytes number s t old mid new w a h = tt
