-- Rounds of a reader that has started, to which no message comes.
use Rattle.std.proofs.Common.{◌≡◌, ◌<◌, ◌≤◌, ◌⊎◌, ℕ, zero, suc, List, [], ◌∷◌, ◌++◌, length, Option, None, Some, refl, sym, ap, subst, ◌∙◌, inl, inr, append-nil, arith, lit<, lit≤}
use Rattle.std.specs.Io.KnownBytes.{Appends}
use Rattle.atspi_auth.specs.Lines.{lines_of, joined}
use Rattle.atspi_auth.specs.Replies.{answer, reply_to}
use Rattle.atspi_auth.specs.Requests.{is_grant, is_number}
use Rattle.atspi_auth.specs.Talk.{after, behind, client_start, fault_in, heard, hears, hears_bytes}
use Rattle.atspi_auth.specs.declared.stage.Stage.TheVariants.{Over}
use Rattle.atspi_script.specs.FaultText.{fault_line}
use Rattle.atspi_message.specs.Envelope.{Envelope}
use Rattle.atspi_live_host.specs.Calls.{given, taken}
use Rattle.atspi_live_host.specs.declared.call.Call.{Call}
use Rattle.atspi_live_host.specs.declared.call.Call.TheVariants.{Read, Write}
use Rattle.atspi_live_host.specs.declared.call.Did.{Did}
use Rattle.atspi_live_host.specs.declared.call.Did.TheVariants.{Done, NotYet}
use Rattle.atspi_stream.specs.Stream.{few}
use Rattle.atspi_protocol.specs.following.ReaderState.{begins}
use Rattle.atspi_protocol.specs.following.Takes.{starts}
use Rattle.atspi_live_conversation.specs.Moved.{GoesOn}
use Rattle.atspi_live_conversation.specs.Rounds.{AreRounds, Breaks, EndsBehind, IsRead, IsRound, IsRun}
use Rattle.atspi_live_conversation.specs.Speech.{IsAllGiven, IsInOrder, envelopes, line_bytes, lines_for}
use Rattle.atspi_live_conversation.specs.declared.ending.Ending.{Ending}
use Rattle.atspi_live_conversation.specs.declared.ending.Ending.TheVariants as endings
use Rattle.atspi_live_reader.specs.Following.{IsUntold}
use Rattle.atspi_live_reader.specs.Runs.{ReportsLast}
use Rattle.atspi_live_reader.specs.Spoken.{IsAfter, IsAllSpoken, IsEmpty, following, spoken_in}
use Rattle.atspi_live_examples.specs.reader.Started.{hail}
use Rattle.atspi_live_examples.proofs.OfReader.Started.{lines_first, none_first, none_parted, said_first, stands_first}

-- nothing of no bytes is at fault
sound : fault_in (after client_start []).stage ≡ None
unfolding heard hears hears_bytes lines_of joined answer reply_to is_grant is_number
sound = refl

pub in_order : IsInOrder IsAfter []
in_order = record { authenticated = sound; messages = []; rest = []; parted = record { are = tt; parted = none_first }; awaits = few (lit< tt); end = starts begins; said = []; stands = stands_first }

not_over : (after client_start []).stage ≡ Over → ⊥
unfolding heard hears hears_bytes lines_of joined answer reply_to is_grant is_number
not_over h = cc

-- its first line is all that is due
pub all_given : IsAllGiven IsAfter IsEmpty [] hail
all_given = record {
  speech = record {
    messages = [];
    rest = [];
    parted = record { are = tt; parted = none_first };
    end = starts begins;
    said = [];
    stands = stands_first;
    sent = [];
    spelled = refl;
    over = inl refl;
    more = [];
    front = append-nil hail ∙ sym lines_first ∙ sym (append-nil (line_bytes (lines_for [])));
  };
  awaits = few (lit< tt);
  none_left = λ over. absurd (not_over over);
  no_more = refl;
}

pub due : IsAllGiven IsAfter IsEmpty [] [] → ⊥
due a = by (sym a.no_more ∙ a.speech.front ∙ ap (λ (w : List ℕ). w ++ a.speech.sent) lines_first)
  where
    by : [] ≡ hail ++ a.speech.sent → ⊥
    by h = cc

-- the first round, and one in which nothing is due
pub first_round : IsRound IsAfter IsEmpty 0 4096 [] [] (Read 0 [] NotYet ∷ Write 0 hail (Done 16) ∷ [])
first_round = (Read 0 [] NotYet ∷ [], Write 0 hail (Done 16) ∷ [], ([], NotYet, tt, lit≤ tt, refl), inr (Done 16, tt, (hail, lit< tt, lit≤ tt, said_first hail [] refl, refl)), refl)

pub next_round : IsRound IsAfter IsEmpty 0 4096 [] hail (Read 0 [] NotYet ∷ [])
next_round = (Read 0 [] NotYet ∷ [], [], ([], NotYet, tt, lit≤ tt, refl), inl (refl, all_given), refl)

pub one_round : AreRounds (λ _. IsAfter) IsEmpty 0 4096 1 (Read 0 [] NotYet ∷ Write 0 hail (Done 16) ∷ [])
one_round = ([], Read 0 [] NotYet ∷ Write 0 hail (Done 16) ∷ [], refl, first_round, refl)

-- A round begins with a read behind which the run can go on, and which takes no more than it may.
abbrev pub Opens : ℕ → ℕ → List Call → Type 0
Opens k most calls = (bytes : List ℕ) × (did : Did) × (more : List Call) × GoesOn did × (length bytes ≤ most) × (calls ≡ Read k bytes did ∷ more)

pub opens : (k most : ℕ) (t g : List ℕ) (calls : List Call) → IsRound IsAfter IsEmpty k most t g calls → Opens k most calls
opens k most t g calls r = (r.2.0, r.2.1, r.1, r.2.2, r.2.3, r.4 ∙ ap (λ (w : List Call). w ++ r.1) r.2.4)

opens_all : (k most n : ℕ) (calls : List Call) → AreRounds (λ _. IsAfter) IsEmpty k most n calls → (calls ≡ []) ⊎ Opens k most calls
opens_all k most zero calls a = inl a
opens_all k most (suc n) calls a = by (opens_all k most n a.0 a.2)
  where
    by : (a.0 ≡ []) ⊎ Opens k most a.0 → (calls ≡ []) ⊎ Opens k most calls
    by (inl none) =
        let o = opens k most (taken k a.0) (given k a.0) a.1 a.3 in
        inr (o.0, o.1, o.2, o.3, o.4, a.4 ∙ ap (λ (w : List Call). w ++ a.1) none ∙ o.5)
    by (inr o) = inr (o.0, o.1, o.2 ++ a.1, o.3, o.4, a.4 ∙ ap (λ (w : List Call). w ++ a.1) o.5)

-- so whole rounds of one call or more begin
pub rounds_open : (k most n : ℕ) (c : Call) (calls : List Call) → AreRounds (λ _. IsAfter) IsEmpty k most n (c ∷ calls) → Opens k most (c ∷ calls)
rounds_open k most n c calls a = by (opens_all k most n (c ∷ calls) a)
  where
    by : (c ∷ calls ≡ []) ⊎ Opens k most (c ∷ calls) → Opens k most (c ∷ calls)
    by (inl none) = absurd cc
    by (inr o) = o

-- one that found the end, or failed, opens none; and of one that is opened the bytes are few
pub not_open : (k most : ℕ) (calls : List Call) (did : Did) → (GoesOn did → ⊥) → Opens k most (Read k [] did ∷ calls) → ⊥
not_open k most calls did ends o = ends (subst (λ (d : Did). GoesOn d) (same o.5) o.3)
  where
    same : {bytes : List ℕ} {d : Did} {more : List Call} → Read k [] did ∷ calls ≡ Read k bytes d ∷ more → d ≡ did
    same h = cc

pub few_read : (k most : ℕ) (calls : List Call) (t : List ℕ) (did : Did) → Opens k most (Read k t did ∷ calls) → length t ≤ most
few_read k most calls t did o = subst (λ (x : List ℕ). length x ≤ most) (same o.5) o.4
  where
    same : {bytes : List ℕ} {d : Did} {more : List Call} → Read k t did ∷ calls ≡ Read k bytes d ∷ more → bytes ≡ t
    same h = cc

pub read_opens : (k most : ℕ) (calls : List Call) → IsRead k most calls → Opens k most calls
read_opens k most calls r = (r.0, r.1, [], r.2, r.3, r.4)

-- a run that makes no call did all its rounds, of which there are none
pub none_made : (k most rounds : ℕ) (ending : Ending) → IsRun (λ _. IsAfter) IsEmpty k most ending rounds [] → (ending ≡ endings.RoundsDone) × (rounds ≡ 0)
none_made k most rounds ending r = by ending (last_none r.done r.last r.all) r.ends
  where
    last_none : (done last : List Call) → [] ≡ done ++ last → last ≡ []
    last_none [] last h = sym h
    last_none (x ∷ done) last h = absurd cc

    none_read : (last : List Call) → last ≡ [] → Opens k most last → ⊥
    none_read last none o = cut (sym none ∙ o.5)
      where
        cut : {c : Call} {cs : List Call} → [] ≡ c ∷ cs → ⊥
        cut h = cc

    none_whole : (n : ℕ) (done : List Call) → done ≡ [] → AreRounds (λ _. IsAfter) IsEmpty k most n done → n ≡ 0
    none_whole zero done none a = refl
    none_whole (suc n) done none a = absurd (none_read a.1 (last_none a.0 a.1 (sym none ∙ a.4)) (opens k most (taken k a.0) (given k a.0) a.1 a.3))

    first_none : (done last : List Call) → [] ≡ done ++ last → done ≡ []
    first_none [] last h = refl
    first_none (x ∷ done) last h = absurd cc

    failed : (last : List Call) (t g : List ℕ) → last ≡ [] → Breaks IsAfter IsEmpty k most endings.HostFailed t g last → ⊥
    failed last t g none (inl h) = cc
    failed last t g none (inr h) = none_read h.0 (first_none h.0 h.1 (sym none ∙ h.4)) (read_opens k most h.0 h.2)

    wanting : (last : List Call) (t g : List ℕ) → last ≡ [] → Breaks IsAfter IsEmpty k most endings.NoMemory t g last → ⊥
    wanting last t g none (inl h) = none_read last none (read_opens k most last h)
    wanting last t g none (inr h) = none_read last none (opens k most t g last h)

    by : (e : Ending) → r.last ≡ [] → EndsBehind IsAfter IsEmpty k most e r.whole rounds (taken k r.done) (given k r.done) r.last → (e ≡ endings.RoundsDone) × (rounds ≡ 0)
    by endings.RoundsDone none b = (refl, sym b.0 ∙ none_whole r.whole r.done (first_none r.done r.last r.all) r.are)
    by endings.PeerEnded none b = absurd cc
    by endings.HostFailed none b = absurd (failed r.last (taken k r.done) (given k r.done) none b.1)
    by endings.NotAuthenticated none b = absurd (none_read r.last none (read_opens k most r.last b.1))
    by (endings.Malformed start fault) none b = absurd (none_read r.last none (read_opens k most r.last b.1))
    by endings.Spent none b = absurd (none_read r.last none (read_opens k most r.last b.1))
    by endings.NoMemory none b = absurd (wanting r.last (taken k r.done) (given k r.done) none b.1)

-- what a report writes stands behind what was written
quiet : {w v : List ℕ} → Some v ≡ Some w → v ≡ w ++ []
quiet {w} {v} h = same h ∙ sym (append-nil w)
  where
    same : Some v ≡ Some w → v ≡ w
    same h = cc

pub reported : (words : List ℕ) (ending : Ending) (status : ℕ) (w v : List ℕ) → ReportsLast words ending status (Some w) (Some v) → (x : List ℕ) × (v ≡ w ++ x)
reported words endings.PeerEnded status w v (inl h) = (words, h.1)
reported words endings.PeerEnded status w v (inr h) = (h.1.0, h.1.3)
reported words endings.RoundsDone status w v (inl h) = (words, h.1)
reported words endings.RoundsDone status w v (inr h) = (h.1.0, h.1.3)
reported words endings.HostFailed status w v (inl h) = (words, h.1)
reported words endings.HostFailed status w v (inr h) = (h.1.0, h.1.3)
reported words endings.NotAuthenticated status w v h = ([], quiet h.1)
reported words (endings.Malformed start fault) status w v (inl h) = (words ++ fault_line start fault.place fault.reason, h.1)
reported words (endings.Malformed start fault) status w v (inr h) = (h.1.0, h.1.3)
reported words endings.Spent status w v (inl h) = (words, h.1)
reported words endings.Spent status w v (inr h) = (h.1.0, h.1.3)
reported words endings.NoMemory status w v h = ([], quiet h.1)

seven : IsUntold 7 → ⊥
seven (inl h) = omega (arith, h)
seven (inr h) = omega (arith, h)

zeroth : IsUntold 0 → ⊥
zeroth (inl h) = omega (arith, h)
zeroth (inr h) = omega (arith, h)

tenth : IsUntold 10 → ⊥
tenth (inl h) = omega (arith, h)
tenth (inr h) = omega (arith, h)

first : IsUntold 1 → ⊥
first (inl h) = omega (arith, h)
first (inr h) = omega (arith, h)

-- status 7 tells that the host failed, and then all words were written; 0 that the peer ended; 1 tells nothing
pub host_failed : (words : List ℕ) (ending : Ending) (w v : Option (List ℕ)) → ReportsLast words ending 7 w v → (ending ≡ endings.HostFailed) × Appends w v words
host_failed words endings.PeerEnded w v (inl h) = absurd (omega (arith, h.0))
host_failed words endings.PeerEnded w v (inr h) = absurd (seven h.0)
host_failed words endings.RoundsDone w v (inl h) = absurd (omega (arith, h.0))
host_failed words endings.RoundsDone w v (inr h) = absurd (seven h.0)
host_failed words endings.HostFailed w v (inl h) = (refl, h.1)
host_failed words endings.HostFailed w v (inr h) = absurd (seven h.0)
host_failed words endings.NotAuthenticated w v h = absurd (omega (arith, h.0))
host_failed words (endings.Malformed start fault) w v (inl h) = absurd (omega (arith, h.0))
host_failed words (endings.Malformed start fault) w v (inr h) = absurd (seven h.0)
host_failed words endings.Spent w v (inl h) = absurd (omega (arith, h.0))
host_failed words endings.Spent w v (inr h) = absurd (seven h.0)
host_failed words endings.NoMemory w v h = absurd (omega (arith, h.0))

pub peer_ended : (words : List ℕ) (ending : Ending) (w v : Option (List ℕ)) → ReportsLast words ending 0 w v → ending ≡ endings.PeerEnded
peer_ended words endings.PeerEnded w v h = refl
peer_ended words endings.RoundsDone w v (inl h) = absurd (omega (arith, h.0))
peer_ended words endings.RoundsDone w v (inr h) = absurd (zeroth h.0)
peer_ended words endings.HostFailed w v (inl h) = absurd (omega (arith, h.0))
peer_ended words endings.HostFailed w v (inr h) = absurd (zeroth h.0)
peer_ended words endings.NotAuthenticated w v h = absurd (omega (arith, h.0))
peer_ended words (endings.Malformed start fault) w v (inl h) = absurd (omega (arith, h.0))
peer_ended words (endings.Malformed start fault) w v (inr h) = absurd (zeroth h.0)
peer_ended words endings.Spent w v (inl h) = absurd (omega (arith, h.0))
peer_ended words endings.Spent w v (inr h) = absurd (zeroth h.0)
peer_ended words endings.NoMemory w v h = absurd (omega (arith, h.0))

pub not_authenticated : (words : List ℕ) (ending : Ending) (w v : Option (List ℕ)) → ReportsLast words ending 10 w v → ending ≡ endings.NotAuthenticated
not_authenticated words endings.PeerEnded w v (inl h) = absurd (omega (arith, h.0))
not_authenticated words endings.PeerEnded w v (inr h) = absurd (tenth h.0)
not_authenticated words endings.RoundsDone w v (inl h) = absurd (omega (arith, h.0))
not_authenticated words endings.RoundsDone w v (inr h) = absurd (tenth h.0)
not_authenticated words endings.HostFailed w v (inl h) = absurd (omega (arith, h.0))
not_authenticated words endings.HostFailed w v (inr h) = absurd (tenth h.0)
not_authenticated words endings.NotAuthenticated w v h = refl
not_authenticated words (endings.Malformed start fault) w v (inl h) = absurd (omega (arith, h.0))
not_authenticated words (endings.Malformed start fault) w v (inr h) = absurd (tenth h.0)
not_authenticated words endings.Spent w v (inl h) = absurd (omega (arith, h.0))
not_authenticated words endings.Spent w v (inr h) = absurd (tenth h.0)
not_authenticated words endings.NoMemory w v h = absurd (omega (arith, h.0))

pub no_status : (words : List ℕ) (ending : Ending) (w v : Option (List ℕ)) → ReportsLast words ending 1 w v → ⊥
no_status words endings.PeerEnded w v (inl h) = omega (arith, h.0)
no_status words endings.PeerEnded w v (inr h) = first h.0
no_status words endings.RoundsDone w v (inl h) = omega (arith, h.0)
no_status words endings.RoundsDone w v (inr h) = first h.0
no_status words endings.HostFailed w v (inl h) = omega (arith, h.0)
no_status words endings.HostFailed w v (inr h) = first h.0
no_status words endings.NotAuthenticated w v h = omega (arith, h.0)
no_status words (endings.Malformed start fault) w v (inl h) = omega (arith, h.0)
no_status words (endings.Malformed start fault) w v (inr h) = first h.0
no_status words endings.Spent w v (inl h) = omega (arith, h.0)
no_status words endings.Spent w v (inr h) = first h.0
no_status words endings.NoMemory w v h = omega (arith, h.0)

-- where nothing was taken, nothing is spoken
pub nothing_spoken : (w : List ℕ) → IsAllSpoken [] w → w ≡ []
nothing_spoken w s = s.all ∙ ap (λ (ms : List (Envelope × List ℕ)). spoken_in (following (envelopes ms)).out) (none_parted (behind client_start []) s.messages s.rest none_first s.parted)
