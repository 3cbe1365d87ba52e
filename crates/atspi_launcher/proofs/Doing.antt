-- A step that was done, or was not, by the parts of the launcher before and after it.
use Rattle.std.proofs.Common.{◌≡◌, ℕ, ◌+◌, ◌≤◌, ◌==◌, Bool, true, false, cond, None, List, [], ◌++◌, refl, sym, ap, ◌∙◌, subst, arith}
use Rattle.std.proofs.lemmas.List.{append-nil}
use Rattle.std.specs.Prelude.{Result, Ok, Err}
use Rattle.atspi_message.specs.Envelope.{Envelope}
use Rattle.atspi_protocol.specs.declared.ends.fault.EndFault.{EndFault}
use Rattle.atspi_protocol.specs.declared.ends.fault.EndFault.TheVariants.{Spent}
use Rattle.atspi_protocol.specs.ends.Messages.{Queue, posted}
use Rattle.atspi_launcher.specs.Launching.{LauncherState, Launcher, LauncherStep, queued, speaks, called_by, launcher_takes}
use Rattle.atspi_launcher.specs.inner.Does.{Does}

abbrev pub state_of : List ℕ → Bool → Bool → ℕ → LauncherState
state_of address enabled screen_reader next = record { address = address; enabled = enabled; screen_reader = screen_reader; next = next }

abbrev pub view : List ℕ → Bool → Bool → Queue → Launcher
view address enabled screen_reader q = record { state = state_of address enabled screen_reader q.next; out = q.out }

no_err : {T : Type 0} (r : Result T EndFault) (x : T) (fault : EndFault) → r ≡ Ok x → r ≡ Err fault → ⊥
no_err r x fault e h = cc

pub does : {T : Type 0} (old new : Launcher) (step : LauncherStep) (x : T) → new ≡ queued old step → step.state.next ≤ 4294967296 → Does {T = T} (Ok x) old new step
does old new step x e l = record { done = e; room = l; spent = λ h. absurd (no_err (Ok x) x Spent refl h); kept = tt }

-- from a launcher that is known by its parts
pub from_parts : {T : Type 0} (r : Result T EndFault) (old old' new : Launcher) (f : Launcher → LauncherStep) → old ≡ old' → Does r old new (f old) → Does r old' new (f old')
from_parts r old old' new f e d = subst (λ (o : Launcher). Does r o new (f o)) e d

pub same_step : {T : Type 0} (r : Result T EndFault) (old new : Launcher) (s t : LauncherStep) → s ≡ t → Does r old new s → Does r old new t
same_step r old new s t is d = subst (Does r old new) is d

-- messages were queued
pub spoke : {T : Type 0} (address : List ℕ) (enabled enabled' reader reader' : Bool) (q q' : Queue) (mail es : List Envelope) (x : T)
    → q' ≡ posted q mail → q'.next ≤ 4294967296 → mail ≡ es
    → Does {T = T} (Ok x) (view address enabled reader q) (view address enabled' reader' q') (speaks (state_of address enabled' reader' q.next) es)
spoke address enabled enabled' reader reader' q q' mail es x e l f =
    let is : q' ≡ posted q es = e ∙ ap (posted q) f in
    does _ _ _ x (ap (view address enabled' reader') is) (subst (λ (p : Queue). p.next ≤ 4294967296) is l)

posted_nil : (q : Queue) → q ≡ posted q []
posted_nil q =
    let next : q.next ≡ q.next + 0 = omega arith in
    let out : q.out ≡ q.out ++ [] = sym (append-nil q.out) in
    ap (λ (n : ℕ). record { next = n; out = q.out }) next ∙ ap (λ (o : List Envelope). record { next = q.next + 0; out = o }) out

-- nothing is told
pub quiet : {T : Type 0} (x : T) (l : Launcher) → l.state.next ≤ 4294967296 → Does {T = T} (Ok x) l l (speaks l.state [])
quiet x l room =
    spoke l.state.address l.state.enabled l.state.enabled l.state.screen_reader l.state.screen_reader
    (record { next = l.state.next; out = l.out }) (record { next = l.state.next; out = l.out }) [] [] x
    (posted_nil (record { next = l.state.next; out = l.out })) room refl

-- a call without a sender
pub called_nobody : (s : LauncherState) (e : Envelope) → (e.kind == 1) ≡ true → e.sender ≡ None → launcher_takes s e ≡ speaks s []
called_nobody s e call nobody =
    ap (λ (b : Bool). cond b (called_by s e e.sender) (speaks s [])) call ∙ ap (called_by s e) nobody

-- what is no call
pub no_call : (s : LauncherState) (e : Envelope) → (e.kind == 1) ≡ false → launcher_takes s e ≡ speaks s []
no_call s e other = ap (λ (b : Bool). cond b (called_by s e e.sender) (speaks s [])) other
