-- A launcher that takes messages and hands out its own stands where the definitions say, and what it hands out meets the rules.
use Rattle.std.proofs.Common.{◌≡◌, ◌<◌, ◌≤◌, ℕ, false, List, [], ◌∷◌, ◌++◌, length, fold, Option, None, Some, refl, sym, ap, subst, ◌∙◌, append_assoc, arith}
use Rattle.std.specs.Prelude.{IfSome, IfNone, MatchOption, Result, Ok, Err, OnErr, OnOk, is_err}
use Rattle.atspi_message.specs.declared.message.Message.{Message}
use Rattle.atspi_message.specs.Envelope.{Envelope, envelope_of}
use Rattle.atspi_message.specs.Rules.{MeetsRules}
use Rattle.atspi_launcher.specs.Launching.{LauncherState, Launcher, launcher_starts, launcher_takes, begins, started, starts, takes}
use Rattle.atspi_launcher.specs.Laws as laws
use Rattle.atspi_launcher.proofs.Sending.{all_meet}
use Rattle.atspi_live_conversation.specs.Sent.{AllMeet}
use Rattle.atspi_live_conversation.specs.Talking.{Takes, HandsOut, Rests, MaySend}
use Rattle.atspi_live_launcher.specs.Standing.{IsAfter}
use Rattle.atspi_live_launcher.specs.inner.Talks.{StandsOf}
use Rattle.atspi_live_launcher.specs.declared.live_launcher.LiveLauncher.{LiveLauncher}

-- a launcher by its parts
abbrev launcher_of : LauncherState → List Envelope → Launcher
launcher_of s out = record { state = s; out = out }

fold-one : (r : Launcher) (es : List Envelope) (e : Envelope) → fold takes r (es ++ e ∷ []) ≡ takes (fold takes r es) e
fold-one r [] e = refl
fold-one r (x ∷ xs) e = fold-one (takes r x) xs e

-- one message more was taken
took_one : (address : List ℕ) (old new : LiveLauncher) (e : Envelope) → new.launcher ≡ takes old.launcher e → (launcher_takes old.launcher.state e).state.next ≤ 4294967296 → Takes (StandsOf address) old new e
took_one address old new e is room took said stands =
    let step = launcher_takes old.launcher.state e in
    record {
      whole = ap (λ (r : Launcher). launcher_of r.state (said ++ r.out)) is
          ∙ ap (λ (w : List Envelope). launcher_of step.state w) (sym (append_assoc said old.launcher.out step.sent))
          ∙ ap (λ (r : Launcher). takes r e) stands.whole
          ∙ sym (fold-one (started address) took e);
      numbered = subst (λ (r : Launcher). r.state.next ≤ 4294967296) (sym is) room;
    }

pub take_took : {T X : Type 0} (r : Result T X) (old new : LiveLauncher) (e : Envelope) → OnOk r (new.launcher ≡ takes old.launcher e) → OnOk r ((launcher_takes old.launcher.state e).state.next ≤ 4294967296)
    → OnOk r ((aside : List ℕ) → Takes (StandsOf aside) old new e)
take_took (Ok x) old new e is room = λ aside. took_one aside old new e is room
take_took (Err x) old new e is room = tt

-- it has started
pub begun : {T X : Type 0} (address : List ℕ) (r : Result T X) (old new : Launcher) → old ≡ launcher_of (begins address) [] → OnOk r (new ≡ starts old) → OnOk r ((launcher_starts old.state).state.next ≤ 4294967296) → is_err r ≡ false → IsAfter address new [] []
begun address (Ok x) old new first is room ok =
    let all : new ≡ started address = is ∙ ap starts first in
    record { whole = all; numbered = subst (λ (r : Launcher). r.state.next ≤ 4294967296) (sym is) room }
begun address (Err x) old new first is room ok = absurd cc

-- and its address is the one that it was given
pub told_address : {T X : Type 0} (address : List ℕ) (r : Result T X) (old new : Launcher) → old ≡ launcher_of (begins address) [] → OnOk r (new ≡ starts old) → is_err r ≡ false → new.state.address ≡ address
told_address address (Ok x) old new first is ok = ap (λ (l : Launcher). l.state.address) (is ∙ ap starts first)
told_address address (Err x) old new first is ok = absurd cc

handed_one : (address : List ℕ) (old new : LiveLauncher) (e : Envelope) → old.launcher.out ≡ e ∷ new.launcher.out → new.launcher.state ≡ old.launcher.state → HandsOut (StandsOf address) old new e
handed_one address old new e out state took said stands =
    record {
      whole = ap (λ (s : LauncherState). launcher_of s ((said ++ e ∷ []) ++ new.launcher.out)) state
          ∙ ap (λ (w : List Envelope). launcher_of old.launcher.state w) (append_assoc said (e ∷ []) new.launcher.out ∙ ap (λ (w : List Envelope). said ++ w) (sym out))
          ∙ stands.whole;
      numbered = subst (λ (s : LauncherState). s.next ≤ 4294967296) (sym state) stands.numbered;
    }

all_of : (es : List Envelope) → AllMeet es → laws.AllMeet es
all_of [] m = tt
all_of (e ∷ es) m = (m.0, all_of es m.1)

meets_at : (said : List Envelope) (e : Envelope) (rest : List Envelope) → laws.AllMeet (said ++ e ∷ rest) → MeetsRules e
meets_at [] e rest m = m.0
meets_at (x ∷ said) e rest m = meets_at said e rest m.1

may_send : (address : List ℕ) (old new : LiveLauncher) (e : Envelope) → old.launcher.out ≡ e ∷ new.launcher.out → MaySend (StandsOf address) old e
may_send address old new e out took said stands meet =
    let all : (fold takes (started address) took).out ≡ said ++ e ∷ new.launcher.out = sym (ap (λ (r : Launcher). r.out) stands.whole) ∙ ap (λ (w : List Envelope). said ++ w) out in
    meets_at said e new.launcher.out (subst (λ (w : List Envelope). laws.AllMeet w) all (all_meet address took (all_of took meet)))

-- what handing out the oldest message answers
pub next_hands_out : (r : Option Message) (old new : LiveLauncher) → MatchOption r (old.launcher.out ≡ []) (λ m. old.launcher.out ≡ envelope_of m ∷ new.launcher.out)
    → MatchOption r (new.launcher ≡ old.launcher) (λ m. new.launcher.state ≡ old.launcher.state) → IfSome r (λ m. (aside : List ℕ) → HandsOut (StandsOf aside) old new (envelope_of m))
next_hands_out None old new front state = tt
next_hands_out (Some m) old new front state = λ aside. handed_one aside old new (envelope_of m) front state

pub next_may_send : (r : Option Message) (old new : LiveLauncher) → MatchOption r (old.launcher.out ≡ []) (λ m. old.launcher.out ≡ envelope_of m ∷ new.launcher.out)
    → IfSome r (λ m. (aside : List ℕ) → MaySend (StandsOf aside) old (envelope_of m))
next_may_send None old new front = tt
next_may_send (Some m) old new front = λ aside. may_send aside old new (envelope_of m) front

pub next_fewer : (r : Option Message) (old new : LiveLauncher) → MatchOption r (old.launcher.out ≡ []) (λ m. old.launcher.out ≡ envelope_of m ∷ new.launcher.out)
    → IfSome r (λ m. length new.launcher.out < length old.launcher.out)
next_fewer None old new front = tt
next_fewer (Some m) old new front = omega (arith, ap (λ (w : List Envelope). length w) front)

pub next_none : (r : Option Message) (old new : LiveLauncher) → MatchOption r (new.launcher ≡ old.launcher) (λ m. new.launcher.state ≡ old.launcher.state)
    → IfNone r ((aside : List ℕ) → Rests (StandsOf aside) old new)
next_none None old new state = λ aside took said s. subst (λ (w : Launcher). IsAfter aside w took said) (sym state) s
next_none (Some m) old new state = tt

pub next_empty : (r : Option Message) (old new : LiveLauncher) → MatchOption r (old.launcher.out ≡ []) (λ m. old.launcher.out ≡ envelope_of m ∷ new.launcher.out)
    → MatchOption r (new.launcher ≡ old.launcher) (λ m. new.launcher.state ≡ old.launcher.state) → IfNone r (length new.launcher.out ≡ 0)
next_empty None old new front state = ap (λ (r : Launcher). length r.out) state ∙ ap (λ (w : List Envelope). length w) front
next_empty (Some m) old new front state = tt

pub take_rests : {T X : Type 0} (r : Result T X) (old new : LiveLauncher) → OnErr r (new.launcher ≡ old.launcher) → OnErr r ((aside : List ℕ) → Rests (StandsOf aside) old new)
take_rests (Ok x) old new e = tt
take_rests (Err x) old new e = λ aside took said s. subst (λ (w : Launcher). IsAfter aside w took said) (sym e) s
