-- What the calls of a host moved on a link, call behind call.
use Rattle.std.proofs.Common.{◌≡◌, ℕ, ◌==◌, true, List, [], ◌∷◌, ◌++◌, Option, None, Some, refl, sym, ap, ◌∙◌, inl, inr, append_assoc, append-nil}
use Rattle.std.proofs.lemmas.Bool.Decides.{eqb_tells}
use Rattle.atspi_live_host.specs.declared.call.Did.{Did}
use Rattle.atspi_live_host.specs.declared.call.Call.{Call}
use Rattle.atspi_live_host.specs.declared.call.Call.TheVariants.{Read, Write}
use Rattle.atspi_live_host.specs.Calls.{Adds, front, takes, gives, taken, given}
use Rattle.atspi_live_conversation.specs.Moved.{answer_of_read, reads, GoesOn, AllGoOn, Grows, Tells}
use Rattle.atspi_live_conversation.specs.inner.Moved.{Gives}

pub taken_append : (k : ℕ) (cs ds : List Call) → taken k (cs ++ ds) ≡ taken k cs ++ taken k ds
taken_append k [] ds = refl
taken_append k (c ∷ cs) ds = ap (λ (w : List ℕ). takes k c ++ w) (taken_append k cs ds) ∙ sym (append_assoc (takes k c) (taken k cs) (taken k ds))

pub given_append : (k : ℕ) (cs ds : List Call) → given k (cs ++ ds) ≡ given k cs ++ given k ds
given_append k [] ds = refl
given_append k (c ∷ cs) ds = ap (λ (w : List ℕ). gives k c ++ w) (given_append k cs ds) ∙ sym (append_assoc (gives k c) (given k cs) (given k ds))

pub reads_append : (k : ℕ) (cs ds : List Call) → reads k (cs ++ ds) ≡ reads k cs ++ reads k ds
reads_append k [] ds = refl
reads_append k (c ∷ cs) ds = ap (λ (w : List Did). answer_of_read k c ++ w) (reads_append k cs ds) ∙ sym (append_assoc (answer_of_read k c) (reads k cs) (reads k ds))

same_link : (k : ℕ) → (k == k) ≡ true
same_link k = elim (eqb_tells k k) [ inl e ↦ e.0 | inr e ↦ absurd (e.1 refl) ]

takes_read : (k : ℕ) (bytes : List ℕ) (did : Did) → takes k (Read k bytes did) ≡ bytes
takes_read k bytes did = rw (same_link k) refl

answers_read : (k : ℕ) (bytes : List ℕ) (did : Did) → answer_of_read k (Read k bytes did) ≡ did ∷ []
answers_read k bytes did = rw (same_link k) refl

gives_write : (k : ℕ) (bytes : List ℕ) (did : Did) → gives k (Write k bytes did) ≡ front did bytes
gives_write k bytes did = rw (same_link k) refl

-- one more call of a list
taken_more : (k : ℕ) (cs : List Call) (c : Call) → taken k (cs ++ c ∷ []) ≡ taken k cs ++ takes k c
taken_more k cs c = taken_append k cs (c ∷ []) ∙ ap (λ (w : List ℕ). taken k cs ++ w) (append-nil (takes k c))

given_more : (k : ℕ) (cs : List Call) (c : Call) → given k (cs ++ c ∷ []) ≡ given k cs ++ gives k c
given_more k cs c = given_append k cs (c ∷ []) ∙ ap (λ (w : List ℕ). given k cs ++ w) (append-nil (gives k c))

reads_more : (k : ℕ) (cs : List Call) (c : Call) → reads k (cs ++ c ∷ []) ≡ reads k cs ++ answer_of_read k c
reads_more k cs c = reads_append k cs (c ∷ []) ∙ ap (λ (w : List Did). reads k cs ++ w) (append-nil (answer_of_read k c))

-- a read: the bytes that it took, and its answer
pub read_tells : (k : ℕ) (old new : Option (List Call)) (bytes : List ℕ) (did : Did) (t g : List ℕ) (dids : List Did) → Adds old new (Read k bytes did) → Tells k old t g dids → Tells k new (t ++ bytes) g (dids ++ did ∷ [])
read_tells k old None bytes did t g dids a p = tt
read_tells k None (Some ds) bytes did t g dids a p = absurd a
read_tells k (Some cs) (Some ds) bytes did t g dids a p = rw a (
  taken_more k cs (Read k bytes did) ∙ ap (λ (w : List ℕ). taken k cs ++ w) (takes_read k bytes did) ∙ ap (λ (w : List ℕ). w ++ bytes) p.0,
  given_more k cs (Read k bytes did) ∙ append-nil (given k cs) ∙ p.1,
  reads_more k cs (Read k bytes did) ∙ ap (λ (w : List Did). reads k cs ++ w) (answers_read k bytes did) ∙ ap (λ (w : List Did). w ++ did ∷ []) p.2,
)

-- a write: the bytes that it gave
pub write_gives : (k : ℕ) (old new : Option (List Call)) (bytes : List ℕ) (did : Did) → Adds old new (Write k bytes did) → Gives k old new (front did bytes)
write_gives k old None bytes did a = tt
write_gives k None (Some ds) bytes did a = absurd a
write_gives k (Some cs) (Some ds) bytes did a = rw a (
  taken_more k cs (Write k bytes did) ∙ append-nil (taken k cs),
  given_more k cs (Write k bytes did) ∙ ap (λ (w : List ℕ). given k cs ++ w) (gives_write k bytes did),
  reads_more k cs (Write k bytes did) ∙ append-nil (reads k cs),
)

pub gives_none : (k : ℕ) (calls : Option (List Call)) → Gives k calls calls []
gives_none k None = tt
gives_none k (Some cs) = (refl, sym (append-nil (given k cs)), refl)

-- bytes given behind others
pub gives_tells : (k : ℕ) (old new : Option (List Call)) (part t g : List ℕ) (dids : List Did) → Gives k old new part → Tells k old t g dids → Tells k new t (g ++ part) dids
gives_tells k old None part t g dids a p = tt
gives_tells k None (Some ds) part t g dids a p = absurd a
gives_tells k (Some cs) (Some ds) part t g dids a p = (a.0 ∙ p.0, a.1 ∙ ap (λ (w : List ℕ). w ++ part) p.1, a.2 ∙ p.2)

-- one more answer with which the run goes on
pub go_on_more : (dids : List Did) (did : Did) → AllGoOn dids → GoesOn did → AllGoOn (dids ++ did ∷ [])
go_on_more [] did a g = (g, tt)
go_on_more (d ∷ dids) did a g = (a.0, go_on_more dids did a.1 g)

-- what was taken grows
pub read_grows : (k : ℕ) (old new : Option (List Call)) (bytes : List ℕ) (did : Did) → Adds old new (Read k bytes did) → Grows k old new
read_grows k old None bytes did a = tt
read_grows k None (Some ds) bytes did a = absurd a
read_grows k (Some cs) (Some ds) bytes did a = rw a (takes k (Read k bytes did), sym (taken_more k cs (Read k bytes did)))

pub gives_grows : (k : ℕ) (old new : Option (List Call)) (part : List ℕ) → Gives k old new part → Grows k old new
gives_grows k old None part g = tt
gives_grows k None (Some ds) part g = absurd g
gives_grows k (Some cs) (Some ds) part g = ([], append-nil (taken k cs) ∙ sym g.0)

pub grows_both : (k : ℕ) (old mid new : Option (List Call)) → Grows k old mid → Grows k mid new → Grows k old new
grows_both k old mid None a b = tt
grows_both k old None (Some ds) a b = absurd b
grows_both k None (Some cs) (Some ds) a b = absurd a
grows_both k (Some bs) (Some cs) (Some ds) a b = (a.0 ++ b.0, sym (append_assoc (taken k bs) a.0 b.0) ∙ ap (λ (w : List ℕ). w ++ b.0) a.1 ∙ b.1)
