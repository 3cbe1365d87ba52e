-- What was read from a link and given on it, and where nothing waits there any more.
use Rattle.std.proofs.Common.{◌≡◌, ℕ, ◌<◌, ◌≤◌, Bool, true, false, List, [], ◌∷◌, ◌++◌, length, suc, zero, slice_index_or, slice_set, Option, Result, Ok, Err, refl, sym, ap, subst, ◌∙◌, inl, inr, append-nil, arith}
use Rattle.std.specs.Prelude.{◌⊎◌, IfOk, MatchResult}
use Rattle.atspi_bus.specs.declared.bus.Bus.{Bus}
use Rattle.atspi_bus.specs.View.{bus_of}
use Rattle.atspi_message.specs.Envelope.{Envelope}
use Rattle.atspi_match.specs.routing.Queues as queues
use Rattle.std.proofs.Math.Seq.{take-length}
use Rattle.std.proofs.lemmas.Bool.Decides.{eqb_tells}
use Rattle.atspi_live_host.specs.Calls.{Adds, front, taken, given}
use Rattle.atspi_live_host.specs.declared.call.Did.{Did}
use Rattle.atspi_live_host.specs.declared.call.Did.TheVariants.{Done, NotYet, Failed}
use Rattle.atspi_live_host.specs.declared.call.Call.{Call}
use Rattle.atspi_live_host.specs.declared.call.Call.TheVariants.{Read, Write}
use Rattle.atspi_live_bus.specs.Asked.{messages_of, handed_to}
use Rattle.atspi_live_bus.specs.Course.{Course}
use Rattle.atspi_live_bus.specs.Due.{HasAllGiven}
use Rattle.atspi_live_bus.specs.Rounds.{Wait}
use Rattle.atspi_live_bus.specs.inner.Rounds.{Does, GoesOn}
use Rattle.atspi_live_bus.specs.inner.Seats.{HasRead, HasReadOnly, HasSent}
use Rattle.atspi_live_bus.specs.Service.{IsSaid, IsSpeech}
use Rattle.atspi_live_bus.specs.Turns.{Converses}
use Rattle.atspi_live_bus.specs.inner.Turns.{Goes, IsSeated, IsSilent, Remains}
use Rattle.atspi_live_bus.specs.declared.link.Link.{Link}
use Rattle.atspi_live_bus.specs.declared.stop.Stop.{Stop}
use Rattle.atspi_live_bus.proofs.Calling.{given_more, gives_write, others_write, taken_still}
use Rattle.atspi_live_bus.proofs.Conversing.{all_said, converses_same, not_lost, offered, over_there, speech_more, speech_of, speech_same}
use Rattle.atspi_live_bus.proofs.Going.{course_of, each_at, said_same}
use Rattle.atspi_live_bus.proofs.Telling.{does_none, does_one}

-- a read
pub has_read : (k : ℕ) (goes_on : Bool) (l m : Link) (bytes : List ℕ) (did : Did) (old new : Option (List Call)) → length bytes ≤ 4096
    → ((took : List Envelope) (handed t g : List ℕ) → Converses took handed l t g → Remains goes_on did took handed m (t ++ bytes) g) → Adds old new (Read k bytes did) → Does old new (HasRead k goes_on l m)
has_read k goes_on l m bytes did old new few f a = does_one old new (Read k bytes did) (HasRead k goes_on l m) (λ past. (bytes, did, few, refl, λ took handed g v. f took handed (taken k past) g v)) a

pub has_read_only : (k : ℕ) (l : Link) (bytes : List ℕ) (did : Did) (old new : Option (List Call)) → length bytes ≤ 4096 → Adds old new (Read k bytes did) → Does old new (HasReadOnly k l)
has_read_only k l bytes did old new few a =
    does_one old new (Read k bytes did) (HasReadOnly k l)
    (λ past. (bytes, did, few, refl, λ took handed g v. speech_more took handed (taken k past) bytes g (speech_of took handed l (taken k past) g v))) a

pub read_either : (r : Result Bool Stop) (k : ℕ) (l m : Link) (bytes : List ℕ) (n : ℕ) (old new : Option (List Call)) → length bytes ≤ 4096
    → IfOk r (λ goes_on. (i : ℕ) (took : List Envelope) (handed t g : List ℕ) → Converses took handed l t g → Remains goes_on (Done i) took handed m (t ++ bytes) g) → Adds old new (Read k bytes (Done n))
    → MatchResult r (λ goes_on. Does old new (HasRead k goes_on l m)) (λ stop. Does old new (HasReadOnly k l))
read_either (Ok goes_on) k l m bytes n old new few f a = has_read k goes_on l m bytes (Done n) old new few (f n) a
read_either (Err stop) k l m bytes n old new few f a = has_read_only k l bytes (Done n) old new few a

-- one that brought nothing
pub still_there : (took : List Envelope) (handed : List ℕ) (l : Link) (t g : List ℕ) → Converses took handed l t g → Remains true NotYet took handed l (t ++ []) g
still_there took handed l t g v =
    let w : Converses took handed l (t ++ []) g = subst (λ (s : List ℕ). Converses took handed l s g) (sym (append-nil t)) v in
    ((λ lost. not_lost took handed l (t ++ []) g NotYet w tt lost), w)

-- a write, or none
pub sent_none : (k : ℕ) (b : queues.Bus) (l : Link) (calls : Option (List Call)) → l.out.items ≡ [] → IsSilent b l → Does calls calls (HasSent k true b l)
sent_none k b l calls none silent = does_none calls (HasSent k true b l) (λ past. inl (refl, none, silent))

pub sent_some : (k : ℕ) (b : queues.Bus) (l : Link) (bytes rest : List ℕ) (did : Did) (old new : Option (List Call)) → 0 < length bytes → length bytes ≤ 4096 → front did bytes ++ l.out.items ≡ bytes ++ rest → GoesOn did → Adds old new (Write k bytes did)
    → Does old new (HasSent k true b l)
sent_some k b l bytes rest did old new some few e g a = does_one old new (Write k bytes did) (HasSent k true b l) (λ past. inr (bytes, did, some, few, (rest, e), g, refl)) a

pub sent_lost : (k : ℕ) (b : queues.Bus) (l : Link) (bytes rest : List ℕ) (old new : Option (List Call)) → 0 < length bytes → length bytes ≤ 4096 → l.out.items ≡ bytes ++ rest → Adds old new (Write k bytes Failed)
    → Does old new (HasSent k false b l)
sent_lost k b l bytes rest old new some few e a = does_one old new (Write k bytes Failed) (HasSent k false b l) (λ past. (bytes, some, few, (rest, e), refl)) a

-- all that was due was given
all_given : (b : Bus) (links : List Link) (at k : ℕ) (m : Link) (x : Course) (cs : List Call) → at < length links → m ≡ slice_index_or links at m → m.number ≡ k → m.out.items ≡ [] → IsSilent (bus_of b) m → Goes b links x cs → HasAllGiven x cs k
all_given b links at k m x cs h e n none silent g = subst (λ (j : ℕ). HasAllGiven x cs j) n whole
  where
    here : IsSeated x.asked x.conn cs m
    here = each_at (λ i. IsSeated x.asked x.conn cs i) links at m h e g.each

    whole : HasAllGiven x cs m.number
    whole = record {
      fits = course_of b links x cs g;
      conn = m.conn;
      seated = here.0;
      all = all_said (messages_of m.conn x.asked) (handed_to m.conn x.asked) m (taken m.number cs) (given m.number cs) none silent.0 here.1;
      none_waits = λ over. ap (λ (w : queues.Bus). queues.queue_of w.waiting.queues m.conn) g.bus_is ∙ silent.1 (over_there (messages_of m.conn x.asked) (handed_to m.conn x.asked) m (taken m.number cs) (given m.number cs) here.1 over);
    }

pub set_there : (links : List Link) (at : ℕ) (m : Link) → at < length links → m ≡ slice_index_or (slice_set links at m) at m
set_there [] at m h = absurd (omega (arith, h))
set_there (l ∷ ls) zero m h = refl
set_there (l ∷ ls) (suc at) m h = set_there ls at m (omega (arith, h))

set_length : (links : List Link) (at : ℕ) (m : Link) → length (slice_set links at m) ≡ length links
set_length [] zero m = refl
set_length [] (suc at) m = refl
set_length (l ∷ ls) zero m = refl
set_length (l ∷ ls) (suc at) m = ap (λ (n : ℕ). suc n) (set_length ls at m)

-- and where not, what was offered waits
bytes_wait : (b : Bus) (links : List Link) (at k : ℕ) (m : Link) (x : Course) (past : List Call) (bytes rest : List ℕ) (did : Did) → at < length links → m ≡ slice_index_or links at m → m.number ≡ k → front did bytes ++ m.out.items ≡ bytes ++ rest
    → Goes b links x (past ++ Write k bytes did ∷ []) → Wait x past k bytes
bytes_wait b links at k m x past bytes rest did h e n r g = record { run = (course_of b links x (past ++ Write k bytes did ∷ []) g).run; apart = g.apart; said = said }
  where
    here : IsSeated x.asked x.conn (past ++ Write k bytes did ∷ []) m
    here = each_at (λ i. IsSeated x.asked x.conn (past ++ Write k bytes did ∷ []) i) links at m h e g.each

    talks : Converses (messages_of m.conn x.asked) (handed_to m.conn x.asked) m (taken k past) (given k past ++ front did bytes)
    talks =
        converses_same (messages_of m.conn x.asked) (messages_of m.conn x.asked) (handed_to m.conn x.asked) (handed_to m.conn x.asked) m
        (taken m.number (past ++ Write k bytes did ∷ [])) (taken k past) (given m.number (past ++ Write k bytes did ∷ [])) (given k past ++ front did bytes) refl refl
        (sym (ap (λ (j : ℕ). taken j (past ++ Write k bytes did ∷ [])) n ∙ taken_still k past (Write k bytes did) refl))
        (sym (ap (λ (j : ℕ). given j (past ++ Write k bytes did ∷ [])) n ∙ given_more k past (Write k bytes did) ∙ ap (λ (w : List ℕ). given k past ++ w) (gives_write k bytes did))) here.1

    own : IsSpeech (messages_of m.conn x.asked) (handed_to m.conn x.asked) (taken k (past ++ Write k bytes (Done (length bytes)) ∷ [])) (given k (past ++ Write k bytes (Done (length bytes)) ∷ []))
    own =
        speech_same (messages_of m.conn x.asked) (messages_of m.conn x.asked) (handed_to m.conn x.asked) (handed_to m.conn x.asked) (taken k past) (taken k (past ++ Write k bytes (Done (length bytes)) ∷ []))
        (given k past ++ bytes) (given k (past ++ Write k bytes (Done (length bytes)) ∷ [])) refl refl (taken_still k past (Write k bytes (Done (length bytes))) refl)
        (given_more k past (Write k bytes (Done (length bytes))) ∙ ap (λ (w : List ℕ). given k past ++ w) (gives_write k bytes (Done (length bytes)) ∙ take-length bytes))
        (offered (messages_of m.conn x.asked) (handed_to m.conn x.asked) m (taken k past) (given k past) (front did bytes) bytes rest r talks)

    said : (j : ℕ) → IsSaid x.asked (x.conn j) (taken j (past ++ Write k bytes (Done (length bytes)) ∷ [])) (given j (past ++ Write k bytes (Done (length bytes)) ∷ []))
    said j = elim (eqb_tells j k) [
      | inl s ↦
          subst (λ (i : ℕ). IsSaid x.asked (x.conn i) (taken i (past ++ Write k bytes (Done (length bytes)) ∷ [])) (given i (past ++ Write k bytes (Done (length bytes)) ∷ []))) (sym s.1)
          (subst (λ (o : Option ℕ). IsSaid x.asked o (taken k (past ++ Write k bytes (Done (length bytes)) ∷ [])) (given k (past ++ Write k bytes (Done (length bytes)) ∷ [])))
          (sym (ap (λ (i : ℕ). x.conn i) (sym n) ∙ here.0)) own)
      | inr s ↦
          let was = others_write k past bytes did j s.1 in
          let now = others_write k past bytes (Done (length bytes)) j s.1 in
          said_same x.asked (x.conn j) (taken j (past ++ Write k bytes did ∷ [])) (taken j (past ++ Write k bytes (Done (length bytes)) ∷ [])) (given j (past ++ Write k bytes did ∷ []))
          (given j (past ++ Write k bytes (Done (length bytes)) ∷ [])) (now.0 ∙ sym was.0) (now.1 ∙ sym was.1) (g.said j)
    ]

-- no write, where all that waits was given, or one of bytes that wait
abbrev pub HasWritten : ℕ → Bool → Course → List Call → List Call → Type 0
HasWritten k true x past calls =
    ((calls ≡ []) × HasAllGiven x past k)
    ⊎ ((bytes : List ℕ) × (did : Did) × (0 < length bytes) × (length bytes ≤ 4096) × Wait x past k bytes × GoesOn did × (calls ≡ Write k bytes did ∷ []))
HasWritten k false x past calls = (bytes : List ℕ) × (0 < length bytes) × (length bytes ≤ 4096) × Wait x past k bytes × (calls ≡ Write k bytes Failed ∷ [])

pub has_written : (goes_on : Bool) (b : Bus) (links : List Link) (at : ℕ) (l m : Link) (x : Course) (past calls : List Call) → at < length links → m.number ≡ l.number → Goes b (slice_set links at m) x (past ++ calls)
    → HasSent l.number goes_on (bus_of b) m past calls → HasWritten l.number goes_on x past calls
has_written true b links at l m x past calls h n g (inl v) =
    inl (
      v.0,
      all_given b (slice_set links at m) at l.number m x past (subst (λ (k : ℕ). at < k) (sym (set_length links at m)) h) (set_there links at m h) n v.1 v.2
          (subst (λ (w : List Call). Goes b (slice_set links at m) x w) (ap (λ (w : List Call). past ++ w) v.0 ∙ append-nil past) g),
    )
has_written true b links at l m x past calls h n g (inr v) =
    inr (
      v.0,
      v.1,
      v.2,
      v.3,
      bytes_wait b (slice_set links at m) at l.number m x past v.0 v.4.0 v.1 (subst (λ (k : ℕ). at < k) (sym (set_length links at m)) h) (set_there links at m h) n v.4.1
          (subst (λ (w : List Call). Goes b (slice_set links at m) x w) (ap (λ (w : List Call). past ++ w) v.6) g),
      v.5,
      v.6,
    )
has_written false b links at l m x past calls h n g v = (
  v.0,
  v.1,
  v.2,
  bytes_wait b (slice_set links at m) at l.number m x past v.0 v.3.0 Failed (subst (λ (k : ℕ). at < k) (sym (set_length links at m)) h) (set_there links at m h) n v.3.1
      (subst (λ (w : List Call). Goes b (slice_set links at m) x w) (ap (λ (w : List Call). past ++ w) v.4) g),
  v.4,
)
