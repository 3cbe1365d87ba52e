-- What the launcher sends meets the rules of messages.
use Rattle.std.proofs.Common.{◌≡◌, ◌≢◌, ℕ, ◌+◌, Bool, true, false, cond, List, [], ◌∷◌, ◌++◌, fold, Option, None, Some, refl, sym, ◌∙◌, arith}
use Rattle.std.specs.Prelude.{◌==◌, Result, Ok, Err}
use Rattle.atspi_types.specs.Data.{Data, items_of, AreWellTyped}
use Rattle.atspi_message.specs.Envelope.{Envelope}
use Rattle.atspi_message.specs.Rules.{MeetsRules}
use Rattle.atspi_protocol.specs.declared.ends.error.CallError.{CallError}
use Rattle.atspi_protocol.specs.ends.Messages.{Reply, returns, fails, call_to, signal_of, return_to, error_to, reply_to, expects_reply, replies, numbered, error_word}
use Rattle.atspi_launcher.specs.declared.ask.Status.{Status}
use Rattle.atspi_launcher.specs.declared.ask.Status.TheVariants.{IsEnabled, ScreenReaderEnabled}
use Rattle.atspi_launcher.specs.declared.ask.Ask.{Ask}
use Rattle.atspi_launcher.specs.declared.ask.Ask.TheVariants as asks
use Rattle.atspi_launcher.specs.Asked.{asked}
use Rattle.atspi_launcher.specs.Launching.{LauncherState, LauncherStep, Launcher, speaks, changed, told_of, is_same, value_of, values_of, news_of, done, answered, called_by, launcher_takes, started, takes}
use Rattle.atspi_launcher.specs.Laws.{AllMeet}

-- with any serial but 0 the message meets the rules
abbrev MaySend : Envelope → Type 0
MaySend e = (n : ℕ) → n ≢ 0 → MeetsRules (record e { serial = n })

abbrev AllMaySend : List Envelope → Type 0
AllMaySend [] = Unit {0}
AllMaySend (e ∷ es) = MaySend e × AllMaySend es

call_may : (destination path interface member : List ℕ) (body : List Data) → AreWellTyped (items_of body) → MaySend (call_to destination path interface member body)
call_may destination path interface member body typed n some = record {
  typed = λ e. absurd (omega (arith, e));
  required = record {
    call = λ e. (refl, refl);
    return_ = λ e. absurd (omega (arith, e));
    error = λ e. absurd (omega (arith, e));
    signal = λ e. absurd (omega (arith, e));
  };
  numbered = some;
  replies = tt;
  body = typed;
}

signal_may : (path interface member : List ℕ) (body : List Data) → AreWellTyped (items_of body) → MaySend (signal_of path interface member body)
signal_may path interface member body typed n some = record {
  typed = λ e. absurd (omega (arith, e));
  required = record {
    call = λ e. absurd (omega (arith, e));
    return_ = λ e. absurd (omega (arith, e));
    error = λ e. absurd (omega (arith, e));
    signal = λ e. (refl, refl, refl);
  };
  numbered = some;
  replies = tt;
  body = typed;
}

return_may : (caller : List ℕ) (serial : ℕ) (values : List Data) → serial ≢ 0 → AreWellTyped (items_of values) → MaySend (return_to caller serial values)
return_may caller serial values replied typed n some = record {
  typed = λ e. absurd (omega (arith, e));
  required = record {
    call = λ e. absurd (omega (arith, e));
    return_ = λ e. refl;
    error = λ e. absurd (omega (arith, e));
    signal = λ e. absurd (omega (arith, e));
  };
  numbered = some;
  replies = replied;
  body = typed;
}

error_may : (caller : List ℕ) (serial : ℕ) (word : List ℕ) → serial ≢ 0 → MaySend (error_to caller serial word)
error_may caller serial word replied n some = record {
  typed = λ e. absurd (omega (arith, e));
  required = record {
    call = λ e. absurd (omega (arith, e));
    return_ = λ e. absurd (omega (arith, e));
    error = λ e. (refl, refl);
    signal = λ e. absurd (omega (arith, e));
  };
  numbered = some;
  replies = replied;
  body = (tt, tt);
}

both_may : (es fs : List Envelope) → AllMaySend es → AllMaySend fs → AllMaySend (es ++ fs)
both_may [] fs a b = b
both_may (e ∷ es) fs a b = (a.0, both_may es fs a.1 b)

both_meet : (es fs : List Envelope) → AllMeet es → AllMeet fs → AllMeet (es ++ fs)
both_meet [] fs a b = b
both_meet (e ∷ es) fs a b = (a.0, both_meet es fs a.1 b)

numbered_meet : (n : ℕ) (es : List Envelope) → n ≢ 0 → AllMaySend es → AllMeet (numbered n es)
numbered_meet n [] some m = tt
numbered_meet n (e ∷ es) some m = (m.0 n some, numbered_meet (n + 1) es (λ z. absurd (omega (arith, z))) m.1)

-- the values of a reply are well typed
abbrev IsTyped : Reply → Type 0
IsTyped (returns values) = AreWellTyped (items_of values)
IsTyped (fails word) = Unit {0}

reply_may : (caller : List ℕ) (serial : ℕ) (reply : Reply) → serial ≢ 0 → IsTyped reply → MaySend (reply_to caller serial reply)
reply_may caller serial (returns values) some typed = return_may caller serial values some typed
reply_may caller serial (fails word) some typed = error_may caller serial word some

replies_may : (caller : List ℕ) (e : Envelope) (reply : Reply) → e.serial ≢ 0 → IsTyped reply → AllMaySend (replies caller e reply)
replies_may caller e reply some typed = by (expects_reply e)
  where
    by : (b : Bool) → AllMaySend (cond b (reply_to caller e.serial reply ∷ []) [])
    by true = (reply_may caller e.serial reply some typed, tt)
    by false = tt

values_typed : (s : LauncherState) (ask : Ask) → AreWellTyped (items_of (values_of s ask))
values_typed s asks.Address = (tt, tt)
values_typed s (asks.Get p) = ((tt, refl, tt), tt)
values_typed s asks.AllProperties = ((tt, tt, (refl, refl, tt, (tt, refl, tt), (refl, refl, tt, (tt, refl, tt), tt))), tt)
values_typed s asks.NoProperties = ((tt, tt, tt), tt)
values_typed s (asks.Set p on) = tt
values_typed s asks.Introspect = (tt, tt)
values_typed s asks.Ping = tt

changed_may : (p : Status) (on : Bool) → MaySend (changed p on)
changed_may p on = signal_may _ _ _ _ (tt, ((tt, tt, (refl, refl, tt, (tt, refl, tt), tt)), ((tt, tt), tt)))

told_may : (s : LauncherState) (p : Status) (on : Bool) → AllMaySend (told_of s p on)
told_may s p on = by (is_same (value_of s p) on)
  where
    by : (b : Bool) → AllMaySend (cond b [] (changed p on ∷ []))
    by true = tt
    by false = (changed_may p on, tt)

news_may : (s : LauncherState) (ask : Ask) → AllMaySend (news_of s ask)
news_may s (asks.Set p on) = told_may s p on
news_may s asks.Address = tt
news_may s (asks.Get p) = tt
news_may s asks.AllProperties = tt
news_may s asks.NoProperties = tt
news_may s asks.Introspect = tt
news_may s asks.Ping = tt

-- a step's messages meet the rules, and the next number is not 0
record IsFit (step : LauncherStep) : Type 0 where
  sent : AllMeet step.sent
  next : step.state.next ≢ 0

speaks_fit : (s t : LauncherState) (es : List Envelope) → s.next ≢ 0 → t.next ≡ s.next → AllMaySend es → IsFit (speaks t es)
speaks_fit s t es some same may = record {
  sent = numbered_meet t.next es (λ z. some (sym same ∙ z)) may;
  next = λ z. absurd (omega (arith, z, some, same));
}

done_next : (s : LauncherState) (ask : Ask) → (done s ask).next ≡ s.next
done_next s (asks.Set IsEnabled on) = refl
done_next s (asks.Set ScreenReaderEnabled on) = refl
done_next s asks.Address = refl
done_next s (asks.Get p) = refl
done_next s asks.AllProperties = refl
done_next s asks.NoProperties = refl
done_next s asks.Introspect = refl
done_next s asks.Ping = refl

answered_fit : (s : LauncherState) (caller : List ℕ) (e : Envelope) (r : Result Ask CallError) → s.next ≢ 0 → e.serial ≢ 0 → IsFit (answered s caller e r)
answered_fit s caller e (Ok ask) some numbered =
    speaks_fit s (done s ask) _ some (done_next s ask)
    (both_may (news_of s ask) _ (news_may s ask) (replies_may caller e (returns (values_of s ask)) numbered (values_typed s ask)))
answered_fit s caller e (Err error) some numbered =
    speaks_fit s s _ some refl (replies_may caller e (fails (error_word error)) numbered tt)

called_fit : (s : LauncherState) (e : Envelope) (caller : Option (List ℕ)) → s.next ≢ 0 → e.serial ≢ 0 → IsFit (called_by s e caller)
called_fit s e None some numbered = speaks_fit s s [] some refl tt
called_fit s e (Some caller) some numbered = answered_fit s caller e (asked e) some numbered

takes_fit : (s : LauncherState) (e : Envelope) → s.next ≢ 0 → e.serial ≢ 0 → IsFit (launcher_takes s e)
takes_fit s e some numbered = by (e.kind == 1)
  where
    by : (b : Bool) → IsFit (cond b (called_by s e e.sender) (speaks s []))
    by true = called_fit s e e.sender some numbered
    by false = speaks_fit s s [] some refl tt

all_from : (l : Launcher) (took : List Envelope) → l.state.next ≢ 0 → AllMeet l.out → AllMeet took → AllMeet (fold takes l took).out
all_from l [] some out meet = out
all_from l (e ∷ took) some out meet =
    let step = takes_fit l.state e some meet.0.numbered in
    all_from (takes l e) took step.next (both_meet l.out _ out step.sent) meet.1

pub all_meet : (address : List ℕ) (took : List Envelope) → AllMeet took → AllMeet (fold takes (started address) took).out
all_meet address took meet =
    all_from (started address) took (λ z. absurd (omega (arith, z)))
    (call_may _ _ _ _ [] tt 1 (λ z. absurd (omega (arith, z))), (call_may _ _ _ _ _ (tt, (tt, tt)) 2 (λ z. absurd (omega (arith, z))), tt))
    meet

-- the address
stays_done : (s : LauncherState) (ask : Ask) → (done s ask).address ≡ s.address
stays_done s (asks.Set IsEnabled on) = refl
stays_done s (asks.Set ScreenReaderEnabled on) = refl
stays_done s asks.Address = refl
stays_done s (asks.Get p) = refl
stays_done s asks.AllProperties = refl
stays_done s asks.NoProperties = refl
stays_done s asks.Introspect = refl
stays_done s asks.Ping = refl

stays_answered : (s : LauncherState) (caller : List ℕ) (e : Envelope) (r : Result Ask CallError) → (answered s caller e r).state.address ≡ s.address
stays_answered s caller e (Ok ask) = stays_done s ask
stays_answered s caller e (Err error) = refl

stays_called : (s : LauncherState) (e : Envelope) (caller : Option (List ℕ)) → (called_by s e caller).state.address ≡ s.address
stays_called s e None = refl
stays_called s e (Some caller) = stays_answered s caller e (asked e)

pub stays : (s : LauncherState) (e : Envelope) → (launcher_takes s e).state.address ≡ s.address
stays s e = by (e.kind == 1)
  where
    by : (b : Bool) → (cond b (called_by s e e.sender) (speaks s [])).state.address ≡ s.address
    by true = stays_called s e e.sender
    by false = refl
