-- The first rounds of a reader to which nothing comes, and how rounds begin.
use Rattle.std.proofs.Common.{◌≡◌, ◌≤◌, ◌⊎◌, ℕ, zero, suc, List, [], ◌∷◌, ◌++◌, length, None, refl, sym, ap, subst, ◌∙◌, inl, inr, append-nil, lit<, lit≤}
use Rattle.atspi_auth.specs.Lines.{lines_of, joined}
use Rattle.atspi_auth.specs.Replies.{answer, reply_to}
use Rattle.atspi_auth.specs.Requests.{is_grant, is_number}
use Rattle.atspi_auth.specs.Talk.{after, client_start, fault_in, heard, hears, hears_bytes}
use Rattle.atspi_auth.specs.declared.stage.Stage.TheVariants.{Over}
use Rattle.atspi_live_host.specs.Calls.{given, taken}
use Rattle.atspi_live_host.specs.declared.call.Call.{Call}
use Rattle.atspi_live_host.specs.declared.call.Call.TheVariants.{Read, Write}
use Rattle.atspi_live_host.specs.declared.call.Did.{Did}
use Rattle.atspi_live_host.specs.declared.call.Did.TheVariants.{Done, NotYet}
use Rattle.atspi_stream.specs.Stream.{few}
use Rattle.atspi_protocol.specs.following.ReaderState.{begins}
use Rattle.atspi_protocol.specs.following.Takes.{starts}
use Rattle.atspi_live_conversation.specs.Moved.{GoesOn}
use Rattle.atspi_live_conversation.specs.Rounds.{AreRounds, IsRead, IsRound}
use Rattle.atspi_live_conversation.specs.Speech.{IsAllGiven, IsInOrder, line_bytes, lines_for}
use Rattle.atspi_live_conversation.proofs.LineLemmas.{none_behind}
use Rattle.atspi_live_reader.specs.Cases.{hail}
use Rattle.atspi_live_reader.specs.Spoken.{IsAfter, IsEmpty}
use Rattle.atspi_live_reader.proofs.Started.{lines_first, said_first, stands_first}

-- nothing of no bytes is at fault
sound : fault_in (after client_start []).stage ≡ None
unfolding heard hears hears_bytes lines_of joined answer reply_to is_grant is_number
sound = refl

pub in_order : IsInOrder IsAfter []
in_order = record { authenticated = sound; messages = []; rest = []; parted = record { are = tt; parted = none_behind }; awaits = few (lit< tt); end = starts begins; said = []; stands = stands_first }

not_over : (after client_start []).stage ≡ Over → ⊥
unfolding heard hears hears_bytes lines_of joined answer reply_to is_grant is_number
not_over h = cc

-- its first line is all that is due
pub all_given : IsAllGiven IsAfter IsEmpty [] hail
all_given = record {
  speech = record {
    messages = [];
    rest = [];
    parted = record { are = tt; parted = none_behind };
    end = starts begins;
    said = [];
    stands = stands_first;
    sent = [];
    spelled = refl;
    over = inl refl;
    more = [];
    front = append-nil hail ∙ sym lines_first ∙ sym (append-nil (line_bytes (lines_for [])));
  };
  awaits = few (lit< tt);
  none_left = λ over. absurd (not_over over);
  no_more = refl;
}

-- the first round, and one in which nothing is due
pub first_round : IsRound IsAfter IsEmpty 0 4096 [] [] (Read 0 [] NotYet ∷ Write 0 hail (Done 16) ∷ [])
first_round = (Read 0 [] NotYet ∷ [], Write 0 hail (Done 16) ∷ [], ([], NotYet, tt, lit≤ tt, refl), inr (Done 16, tt, (hail, lit< tt, lit≤ tt, said_first hail [] refl, refl)), refl)

pub next_round : IsRound IsAfter IsEmpty 0 4096 [] hail (Read 0 [] NotYet ∷ [])
next_round = (Read 0 [] NotYet ∷ [], [], ([], NotYet, tt, lit≤ tt, refl), inl (refl, all_given), refl)

pub one_round : AreRounds (λ _. IsAfter) IsEmpty 0 4096 1 (Read 0 [] NotYet ∷ Write 0 hail (Done 16) ∷ [])
one_round = ([], Read 0 [] NotYet ∷ Write 0 hail (Done 16) ∷ [], refl, first_round, refl)

-- A round begins with a read behind which the run can go on, and which takes no more than it may.
abbrev pub Opens : ℕ → ℕ → List Call → Type 0
Opens k most calls = (bytes : List ℕ) × (did : Did) × (more : List Call) × GoesOn did × (length bytes ≤ most) × (calls ≡ Read k bytes did ∷ more)

pub opens : (k most : ℕ) (t g : List ℕ) (calls : List Call) → IsRound IsAfter IsEmpty k most t g calls → Opens k most calls
opens k most t g calls r = (r.2.0, r.2.1, r.1, r.2.2, r.2.3, r.4 ∙ ap (λ (w : List Call). w ++ r.1) r.2.4)

opens_all : (k most n : ℕ) (calls : List Call) → AreRounds (λ _. IsAfter) IsEmpty k most n calls → (calls ≡ []) ⊎ Opens k most calls
opens_all k most zero calls a = inl a
opens_all k most (suc n) calls a = by (opens_all k most n a.0 a.2)
  where
    by : (a.0 ≡ []) ⊎ Opens k most a.0 → (calls ≡ []) ⊎ Opens k most calls
    by (inl none) =
        let o = opens k most (taken k a.0) (given k a.0) a.1 a.3 in
        inr (o.0, o.1, o.2, o.3, o.4, a.4 ∙ ap (λ (w : List Call). w ++ a.1) none ∙ o.5)
    by (inr o) = inr (o.0, o.1, o.2 ++ a.1, o.3, o.4, a.4 ∙ ap (λ (w : List Call). w ++ a.1) o.5)

-- so whole rounds of one call or more begin
pub rounds_open : (k most n : ℕ) (c : Call) (calls : List Call) → AreRounds (λ _. IsAfter) IsEmpty k most n (c ∷ calls) → Opens k most (c ∷ calls)
rounds_open k most n c calls a = by (opens_all k most n (c ∷ calls) a)
  where
    by : (c ∷ calls ≡ []) ⊎ Opens k most (c ∷ calls) → Opens k most (c ∷ calls)
    by (inl none) = absurd cc
    by (inr o) = o

-- one that found the end, or failed, opens none; and of one that is opened the bytes are few
pub not_open : (k most : ℕ) (calls : List Call) (did : Did) → (GoesOn did → ⊥) → Opens k most (Read k [] did ∷ calls) → ⊥
not_open k most calls did ends o = ends (subst (λ (d : Did). GoesOn d) (same o.5) o.3)
  where
    same : {bytes : List ℕ} {d : Did} {more : List Call} → Read k [] did ∷ calls ≡ Read k bytes d ∷ more → d ≡ did
    same h = cc

pub few_read : (k most : ℕ) (calls : List Call) (t : List ℕ) (did : Did) → Opens k most (Read k t did ∷ calls) → length t ≤ most
few_read k most calls t did o = subst (λ (x : List ℕ). length x ≤ most) (same o.5) o.4
  where
    same : {bytes : List ℕ} {d : Did} {more : List Call} → Read k t did ∷ calls ≡ Read k bytes d ∷ more → bytes ≡ t
    same h = cc

pub read_opens : (k most : ℕ) (calls : List Call) → IsRead k most calls → Opens k most calls
read_opens k most calls r = (r.0, r.1, [], r.2, r.3, r.4)
