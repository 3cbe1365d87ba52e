-- What each read of some calls took.
use Rattle.std.proofs.Common.{◌≡◌, ℕ, ◌==◌, Bool, true, false, List, [], ◌∷◌, ◌++◌, length, Option, refl, sym, ap, ◌∙◌, inl, inr, append_assoc, append-nil, length-append, arith}
use Rattle.std.specs.Prelude.{if◌then◌else◌}
use Rattle.std.specs.List.{concat}
use Rattle.std.proofs.lemmas.Bool.Decides.{eqb_tells}
use Rattle.std.proofs.lemmas.List.Folds.{concat-append}
use Rattle.atspi_live_host.specs.declared.call.Did.{Did}
use Rattle.atspi_live_host.specs.declared.call.Did.TheVariants.{End, Failed}
use Rattle.atspi_live_host.specs.declared.call.Call.{Call}
use Rattle.atspi_live_host.specs.declared.call.Call.TheVariants.{Listen, Accept, Connect, Read, Write, Close}
use Rattle.atspi_live_host.specs.Calls.{taken, takes}
use Rattle.atspi_live_conversation.specs.Moved.{answer_of_read, reads}
use Rattle.atspi_live_conversation.specs.Rounds.{Breaks, IsRead, IsRound, IsWrite, Makes, WritesIfDue}
use Rattle.atspi_live_conversation.specs.declared.ending.Ending.{Ending}
use Rattle.atspi_live_conversation.specs.declared.ending.Ending.TheVariants as endings
use Rattle.atspi_live_conversation.proofs.MovedLemmas.{taken_append}
use Rattle.atspi_live_conversation.proofs.RoundLemmas.{makes_if}
use Rattle.atspi_live_app.specs.Standing.{Event, IsAfter, IsEmpty}
use Rattle.atspi_live_app.specs.Turns.{pieces, read_by}

-- all of it is what was taken
one_taken : (k : ℕ) (c : Call) → concat (read_by k c) ≡ takes k c
one_taken k (Listen path did) = refl
one_taken k (Accept did) = refl
one_taken k (Connect path did) = refl
one_taken k (Read link bytes did) = by (link == k)
  where
    by : (b : Bool) → concat (if b then bytes ∷ [] else []) ≡ (if b then bytes else [])
    by true = append-nil bytes
    by false = refl
one_taken k (Write link bytes did) = refl
one_taken k (Close link) = refl

pub all_taken : (k : ℕ) (cs : List Call) → concat (pieces k cs) ≡ taken k cs
all_taken k [] = refl
all_taken k (c ∷ cs) =
    concat-append (read_by k c) (pieces k cs) ∙ ap (λ (w : List ℕ). concat (read_by k c) ++ w) (all_taken k cs) ∙ ap (λ (w : List ℕ). w ++ taken k cs) (one_taken k c)

pub pieces_both : (k : ℕ) (cs ds : List Call) → pieces k (cs ++ ds) ≡ pieces k cs ++ pieces k ds
pieces_both k [] ds = refl
pieces_both k (c ∷ cs) ds = ap (λ (w : List (List ℕ)). read_by k c ++ w) (pieces_both k cs ds) ∙ sym (append_assoc (read_by k c) (pieces k cs) (pieces k ds))

-- one for each answer
one_count : (k : ℕ) (c : Call) → length (read_by k c) ≡ length (answer_of_read k c)
one_count k (Listen path did) = refl
one_count k (Accept did) = refl
one_count k (Connect path did) = refl
one_count k (Read link bytes did) = by (link == k)
  where
    by : (b : Bool) → length (if b then bytes ∷ [] else []) ≡ length (if b then did ∷ [] else [])
    by true = refl
    by false = refl
one_count k (Write link bytes did) = refl
one_count k (Close link) = refl

pub count_pieces : (k : ℕ) (cs : List Call) → length (pieces k cs) ≡ length (reads k cs)
count_pieces k [] = refl
count_pieces k (c ∷ cs) =
    omega (arith, length-append (read_by k c) (pieces k cs), length-append (answer_of_read k c) (reads k cs), one_count k c, count_pieces k cs)

-- of these calls one is a read
abbrev pub ReadsOne : ℕ → List Call → Type 0
ReadsOne k calls = (bytes : List ℕ) × (pieces k calls ≡ bytes ∷ [])

abbrev pub HasRead : ℕ → Option (List Call) → Option (List Call) → Type 0
HasRead k old new = Makes old new (ReadsOne k)

same_link : (k : ℕ) → (k == k) ≡ true
same_link k = elim (eqb_tells k k) [ inl e ↦ e.0 | inr e ↦ absurd (e.1 refl) ]

a_read : (k : ℕ) (bytes : List ℕ) (did : Did) → pieces k (Read k bytes did ∷ []) ≡ bytes ∷ []
a_read k bytes did = rw (same_link k) refl

reads_one : (k most : ℕ) (calls : List Call) → IsRead k most calls → ReadsOne k calls
reads_one k most calls r = (r.0, ap (pieces k) r.4 ∙ a_read k r.0 r.1)

writes_none : (P : List Event → List (List ℕ) → Type 0) (lines : List (List ℕ)) (k : ℕ) (t g : List ℕ) (did : Did) (calls : List Call) → IsWrite (IsAfter P lines) k t g did calls → pieces k calls ≡ []
writes_none P lines k t g did calls w = ap (pieces k) w.4

due_none : (P : List Event → List (List ℕ) → Type 0) (lines : List (List ℕ)) (k : ℕ) (t g : List ℕ) (calls : List Call) → WritesIfDue (IsAfter P lines) IsEmpty k t g calls → pieces k calls ≡ []
due_none P lines k t g calls (inl w) = ap (pieces k) w.0
due_none P lines k t g calls (inr w) = writes_none P lines k t g w.0 calls w.2

then_none : (k most : ℕ) (calls read write : List Call) → IsRead k most read → pieces k write ≡ [] → calls ≡ read ++ write → ReadsOne k calls
then_none k most calls read write r none e =
    let one = reads_one k most read r in
    (one.0, ap (pieces k) e ∙ pieces_both k read write ∙ ap (λ (w : List (List ℕ)). pieces k read ++ w) none ∙ append-nil (pieces k read) ∙ one.1)

-- all of it is what its read took
read_took : (k : ℕ) (calls read write : List Call) → pieces k write ≡ [] → calls ≡ read ++ write → taken k calls ≡ taken k read
read_took k calls read write none e =
    ap (taken k) e ∙ taken_append k read write ∙ ap (λ (w : List ℕ). taken k read ++ w) (sym (all_taken k write) ∙ ap concat none) ∙ append-nil (taken k read)

pub round_took : (P : List Event → List (List ℕ) → Type 0) (lines : List (List ℕ)) (k most : ℕ) (t g : List ℕ) (calls : List Call) (r : IsRound (IsAfter P lines) IsEmpty k most t g calls) → taken k calls ≡ taken k r.0
round_took P lines k most t g calls r = read_took k calls r.0 r.1 (due_none P lines k (t ++ taken k r.0) g r.1 r.3) r.4

pub write_took : (P : List Event → List (List ℕ) → Type 0) (lines : List (List ℕ)) (k : ℕ) (t g : List ℕ) (did : Did) (calls read write : List Call) → IsWrite (IsAfter P lines) k t g did write → calls ≡ read ++ write → taken k calls ≡ taken k read
write_took P lines k t g did calls read write w e = read_took k calls read write (writes_none P lines k t g did write w) e

pub round_one : (P : List Event → List (List ℕ) → Type 0) (lines : List (List ℕ)) (k most : ℕ) (t g : List ℕ) (calls : List Call) → IsRound (IsAfter P lines) IsEmpty k most t g calls → ReadsOne k calls
round_one P lines k most t g calls r = then_none k most calls r.0 r.1 r.2 (due_none P lines k (t ++ taken k r.0) g r.1 r.3) r.4

pub broken_one : (P : List Event → List (List ℕ) → Type 0) (lines : List (List ℕ)) (k most : ℕ) (ending : Ending) (t g : List ℕ) (calls : List Call) → Breaks (IsAfter P lines) IsEmpty k most ending t g calls → ReadsOne k calls
broken_one P lines k most endings.RoundsDone t g calls b = absurd b
broken_one P lines k most endings.PeerEnded t g calls b = ([], ap (pieces k) b ∙ a_read k [] End)
broken_one P lines k most endings.HostFailed t g calls (inl b) = ([], ap (pieces k) b ∙ a_read k [] Failed)
broken_one P lines k most endings.HostFailed t g calls (inr b) = then_none k most calls b.0 b.1 b.2 (writes_none P lines k (t ++ taken k b.0) g Failed b.1 b.3) b.4
broken_one P lines k most endings.NotAuthenticated t g calls b = reads_one k most calls b
broken_one P lines k most (endings.Malformed start fault) t g calls b = reads_one k most calls b
broken_one P lines k most endings.Spent t g calls b = reads_one k most calls b
broken_one P lines k most endings.NoMemory t g calls (inl b) = reads_one k most calls b
broken_one P lines k most endings.NoMemory t g calls (inr b) = round_one P lines k most t g calls b

-- a whole round has one, and so has one in which a run ends
pub has_round : (P : List Event → List (List ℕ) → Type 0) (lines : List (List ℕ)) (k most : ℕ) (t g : List ℕ) (old new : Option (List Call)) → Makes old new (IsRound (IsAfter P lines) IsEmpty k most t g) → HasRead k old new
has_round P lines k most t g old new m = makes_if old new (IsRound (IsAfter P lines) IsEmpty k most t g) (ReadsOne k) (λ calls. round_one P lines k most t g calls) m

pub has_broken : (P : List Event → List (List ℕ) → Type 0) (lines : List (List ℕ)) (k most : ℕ) (ending : Ending) (t g : List ℕ) (old new : Option (List Call)) → Makes old new (Breaks (IsAfter P lines) IsEmpty k most ending t g) → HasRead k old new
has_broken P lines k most ending t g old new m = makes_if old new (Breaks (IsAfter P lines) IsEmpty k most ending t g) (ReadsOne k) (λ calls. broken_one P lines k most ending t g calls) m
