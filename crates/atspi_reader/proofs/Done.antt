-- A step that was done, or was not, by the call that was queued in it.
use Rattle.std.proofs.Common.{◌≡◌, ℕ, ◌<◌, ◌≤◌, List, [], length, take, Option, None, refl, sym, ap, subst, ◌∙◌, arith}
use Rattle.std.specs.Prelude.{Result, Ok, Err}
use Rattle.std.proofs.lemmas.List.{append-nil, take-append-le, take_all}
use Rattle.atspi_message.specs.Envelope.{Envelope}
use Rattle.atspi_protocol.specs.declared.ends.fault.EndFault.{EndFault}
use Rattle.atspi_protocol.specs.declared.ends.fault.EndFault.TheVariants.{Spent, NoMemory}
use Rattle.atspi_protocol.specs.declared.following.question.Question.{Question}
use Rattle.atspi_protocol.specs.following.ReaderState.{Followed, Pending, Done, ReaderState}
use Rattle.atspi_protocol.specs.following.Wishes.{wishes}
use Rattle.atspi_protocol.specs.following.Takes.{goes_on, notes}
use Rattle.atspi_reader_known.specs.Wanted.{first}
use Rattle.atspi_reader.specs.declared.asks.Next.{Next}
use Rattle.atspi_reader.specs.inner.Asked.{chosen, next_for, sent, number_after, went_on, Queues}
use Rattle.atspi_reader.specs.inner.Turns.{did}
use Rattle.atspi_reader.specs.Steps.{Does, Fine, IsState}
use Rattle.atspi_reader.proofs.Goes.{asked_at, gone, goes-next, goes-apps, goes-notes, goes_rests}

not_err : {T E : Type 0} (r : Result T E) (x : T) (fault : E) → r ≡ Ok x → r ≡ Err fault → ⊥
not_err r x fault e h = cc

pub same_err : {T E : Type 0} (r : Result T E) (a b : E) → r ≡ Err a → r ≡ Err b → a ≡ b
same_err r a b e h = cc

pub does_done : {T : Type 0} (x : T) (old new t : ReaderState) → new ≡ goes_on t → number_after t.next (asked_at t) ≤ 4294967296 → Does {T = T} (Ok x) old new (goes_on t)
does_done x old new t e l = record {
  done = e;
  room = subst (λ (n : ℕ). n ≤ 4294967296) (sym (goes-next t)) l;
  spent = λ h. absurd (not_err _ x Spent refl h);
  kept = tt;
}

pub does_failed : {T : Type 0} (fault : EndFault) (old new t : ReaderState) → new ≡ old → (fault ≡ Spent → 4294967296 < number_after t.next (asked_at t))
    → Does {T = T} (Err fault) old new (goes_on t)
does_failed fault old new t e l = record {
  done = tt;
  room = tt;
  spent = λ h. subst (λ (n : ℕ). 4294967296 < n) (sym (goes-next t)) (l (same_err _ fault Spent refl h));
  kept = e;
}

-- for want of memory
pub lacks : {T : Type 0} (old new step : ReaderState) → new ≡ old → Does {T = T} (Err NoMemory) old new step
lacks old new step e = record { done = tt; room = tt; spent = λ h. absurd (apart (same_err _ NoMemory Spent refl h)); kept = e }
  where
    apart : NoMemory ≡ Spent → ⊥
    apart h = cc

-- one step told as another
pub same_step : {T : Type 0} (r : Result T EndFault) (old new s t : ReaderState) → s ≡ t → Does r old new s → Does r old new t
same_step r old new s t is d = subst (Does r old new) is d

-- a state by its parts
abbrev pub at : List Question → Option Pending → Option (List ℕ) → List Followed → ℕ → List Done → ReaderState
at to_come pending registry apps next out = record { to_come = to_come; pending = pending; registry = registry; apps = apps; next = next; out = out }

-- what a call that was queued comes to, where no call waits any more
module _ (old mid : ReaderState) (to_come : List Question) (registry : Option (List ℕ)) (apps : List Followed) (wish : Option Question) (same : wish ≡ first (wishes apps)) where
  then_asked : chosen {P = Pending} None to_come wish ≡ asked_at (at to_come None registry apps old.next old.out)
  then_asked = ap (chosen {P = Pending} None to_come) same

  pub queued_done : {T : Type 0} (x : T) (n : Next) (new : ReaderState) → Queues (Ok n) old mid to_come wish
      → new ≡ went_on n (at to_come None registry apps mid.next mid.out) → Does {T = T} (Ok x) old new (goes_on (at to_come None registry apps old.next old.out))
  queued_done x n new q e =
      let t = at to_come None registry apps old.next old.out in
      let ds = sent old.next (chosen {P = Pending} None to_come wish) in
      does_done x old new t
      (e ∙ ap (λ (m : ReaderState). went_on n (at to_come None registry apps m.next m.out)) q.queued
      ∙ gone t n ds (q.next ∙ ap (next_for {P = Pending} None old.next to_come) same) (ap (sent old.next) then_asked))
      (subst (λ (o : Option Question). number_after old.next o ≤ 4294967296) then_asked q.room)

  pub queued_failed : {T : Type 0} (fault : EndFault) (new : ReaderState) → Queues (Err fault) old mid to_come wish → new ≡ mid
      → Does {T = T} (Err fault) old new (goes_on (at to_come None registry apps old.next old.out))
  queued_failed fault new q e =
      does_failed fault old new (at to_come None registry apps old.next old.out) (e ∙ q.kept)
      (λ h. subst (λ (o : Option Question). 4294967296 < number_after old.next o) then_asked (q.spent (ap Err h)))

-- a message of which nothing but its serial is noted
module _ (old : ReaderState) (e : Envelope) where
  same_number : (goes_on old).next ≡ (goes_on (notes old e)).next
  same_number = sym (ap (λ (s : ReaderState). s.next) (goes-notes old e))

  pub noted_done : {S T : Type 0} (y : S) (x : T) (mid new : ReaderState) → Does {T = S} (Ok y) old mid (goes_on old) → new ≡ notes mid e → Does {T = T} (Ok x) old new (goes_on (notes old e))
  noted_done y x mid new d n = record {
    done = n ∙ ap (λ (s : ReaderState). notes s e) d.done ∙ sym (goes-notes old e);
    room = subst (λ (k : ℕ). k ≤ 4294967296) same_number d.room;
    spent = λ h. absurd (not_err _ x Spent refl h);
    kept = tt;
  }

  pub noted_failed : {S T : Type 0} (fault : EndFault) (new : ReaderState) → Does {T = S} (Err fault) old new (goes_on old) → Does {T = T} (Err fault) old new (goes_on (notes old e))
  noted_failed fault new d = record {
    done = tt;
    room = tt;
    spent = λ h. subst (λ (k : ℕ). 4294967296 < k) same_number (d.spent (ap Err (same_err _ fault Spent refl h)));
    kept = d.kept;
  }

-- where nothing is said
pub unsaid : (s : ReaderState) → s ≡ record (did s []) { apps = s.apps }
unsaid s = ap (λ (l : List Done). record s { out = l }) (sym (append-nil s.out))

-- what was queued is taken back
pub unqueued : (s : ReaderState) (ds : List Done) (n : ℕ) → n ≡ length s.out → record (did s ds) { out = take n (did s ds).out } ≡ s
unqueued s ds n e =
    let within : n ≤ length s.out = omega (arith, e) in
    ap (λ (l : List Done). record s { out = l }) (take-append-le n s.out ds within ∙ ap (λ (k : ℕ). take k s.out) e ∙ take_all (length s.out) s.out (omega arith))

-- the state after a step is one of a reader's
module _ (t : ReaderState) (fine : Fine t.apps) where
  gone_state : (goes_on t).next ≤ 4294967296 → IsState (goes_on t)
  gone_state l = record { resting = goes_rests t; fine = subst Fine (sym (goes-apps t)) fine; within = l }

  pub does_stays : {T : Type 0} (r : Result T EndFault) (old new : ReaderState) → IsState old → Does r old new (goes_on t) → IsState new
  does_stays (Ok x) old new is d = subst IsState (sym d.done) (gone_state d.room)
  does_stays (Err fault) old new is d = subst IsState (sym d.kept) is
