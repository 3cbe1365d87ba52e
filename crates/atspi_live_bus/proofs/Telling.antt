-- What a host tells behind other calls, and where a bus stands then.
use Rattle.std.proofs.Common.{◌≡◌, List, [], ◌∷◌, ◌++◌, Option, None, Some, sym, ap, subst, ◌∙◌, append_assoc, append-nil}
use Rattle.atspi_live_host.specs.declared.call.Call.{Call}
use Rattle.atspi_live_host.specs.Calls.{Adds}
use Rattle.atspi_live_bus.specs.Course.{Course}
use Rattle.atspi_live_bus.specs.inner.Rounds.{Does, Moves}
use Rattle.atspi_live_bus.specs.Service.{OfTold}

pub does_none : (calls : Option (List Call)) (P : List Call → List Call → Type 0) → ((past : List Call) → P past []) → Does calls calls P
does_none None P p = tt
does_none (Some cs) P p = ([], p cs, sym (append-nil cs))

pub does_one : (old new : Option (List Call)) (c : Call) (P : List Call → List Call → Type 0) → ((past : List Call) → P past (c ∷ [])) → Adds old new c → Does old new P
does_one old None c P p a = tt
does_one None (Some ds) c P p a = absurd a
does_one (Some cs) (Some ds) c P p a = (c ∷ [], p cs, a)

-- no call
pub moves_none : (calls : Option (List Call)) (S T : Course → List Call → Type 0) (P : Course → List Call → List Call → Course → Type 0)
    → ((past : List Call) (x : Course) → S x past → (y : Course) × P x past [] y × T y past) → Moves calls calls S P T
moves_none None S T P f = tt
moves_none (Some cs) S T P f = λ x s.
    let r : (y : Course) × P x cs [] y × T y cs = f cs x s in
    (r.0, [], r.1, r.2, sym (append-nil cs))

-- one call
pub moves_one : (old new : Option (List Call)) (c : Call) (S T : Course → List Call → Type 0) (P : Course → List Call → List Call → Course → Type 0)
    → ((past : List Call) (x : Course) → S x past → (y : Course) × P x past (c ∷ []) y × T y (past ++ c ∷ [])) → Adds old new c → Moves old new S P T
moves_one old None c S T P f a = tt
moves_one None (Some ds) c S T P f a = absurd a
moves_one (Some cs) (Some ds) c S T P f a = λ x s.
    let r : (y : Course) × P x cs (c ∷ []) y × T y (cs ++ c ∷ []) = f cs x s in
    (r.0, c ∷ [], r.1, subst (λ (w : List Call). T r.0 w) (sym a) r.2, a)

-- calls of which this is known
pub moves_of : (old new : Option (List Call)) (D : List Call → List Call → Type 0) (S T : Course → List Call → Type 0) (P : Course → List Call → List Call → Course → Type 0)
    → ((past calls : List Call) (x : Course) → D past calls → S x past → (y : Course) × P x past calls y × T y (past ++ calls)) → Does old new D → Moves old new S P T
moves_of old None D S T P f m = tt
moves_of None (Some ds) D S T P f m = absurd m
moves_of (Some cs) (Some ds) D S T P f m = λ x s.
    let r : (y : Course) × P x cs m.0 y × T y (cs ++ m.0) = f cs m.0 x m.1 s in
    (r.0, m.0, r.1, subst (λ (w : List Call). T r.0 w) (sym m.2) r.2, m.2)

-- calls behind others
pub moves_both : (old mid new : Option (List Call)) (S T U : Course → List Call → Type 0) (P Q R : Course → List Call → List Call → Course → Type 0)
    → ((x y z : Course) (past xs ys : List Call) → S x past → P x past xs y → T y (past ++ xs) → Q y (past ++ xs) ys z → R x past (xs ++ ys) z) → Moves old mid S P T → Moves mid new T Q U → Moves old new S R U
moves_both old mid None S T U P Q R f m n = tt
moves_both old None (Some ds) S T U P Q R f m n = absurd n
moves_both None (Some cs) (Some ds) S T U P Q R f m n = absurd m
moves_both (Some bs) (Some cs) (Some ds) S T U P Q R f m n = λ x s.
    let r : (y : Course) × (calls : List Call) × P x bs calls y × T y cs × (cs ≡ bs ++ calls) = m x s in
    let q : (z : Course) × (calls : List Call) × Q r.0 cs calls z × U z ds × (ds ≡ cs ++ calls) = n r.0 r.3 in (
      q.0,
      r.1 ++ q.1,
      f x r.0 q.0 bs r.1 q.1 s r.2 (subst (λ (w : List Call). T r.0 w) r.4 r.3) (subst (λ (w : List Call). Q r.0 w q.1 q.0) r.4 q.2),
      q.3,
      q.4 ∙ ap (λ (w : List Call). w ++ q.1) r.4 ∙ append_assoc bs r.1 q.1,
    )

-- of which more is known
pub moves_if : (old new : Option (List Call)) (S T U : Course → List Call → Type 0) (P R : Course → List Call → List Call → Course → Type 0)
    → ((x y : Course) (past calls : List Call) → S x past → P x past calls y → T y (past ++ calls) → R x past calls y × U y (past ++ calls)) → Moves old new S P T → Moves old new S R U
moves_if old None S T U P R f m = tt
moves_if None (Some ds) S T U P R f m = absurd m
moves_if (Some cs) (Some ds) S T U P R f m = λ x s.
    let r : (y : Course) × (calls : List Call) × P x cs calls y × T y ds × (ds ≡ cs ++ calls) = m x s in
    let q : R x cs r.1 r.0 × U r.0 (cs ++ r.1) = f x r.0 cs r.1 s r.2 (subst (λ (w : List Call). T r.0 w) r.4 r.3) in
    (r.0, r.1, q.0, subst (λ (w : List Call). U r.0 w) (sym r.4) q.1, r.4)

pub moves_with : (old new : Option (List Call)) (S S' T U : Course → List Call → Type 0) (P R : Course → List Call → List Call → Course → Type 0) → ((x : Course) (past : List Call) → S' x past → S x past)
    → ((x y : Course) (past calls : List Call) → S' x past → P x past calls y → T y (past ++ calls) → R x past calls y × U y (past ++ calls)) → Moves old new S P T → Moves old new S' R U
moves_with old None S S' T U P R e f m = tt
moves_with None (Some ds) S S' T U P R e f m = absurd m
moves_with (Some cs) (Some ds) S S' T U P R e f m = λ x s.
    let r : (y : Course) × (calls : List Call) × P x cs calls y × T y ds × (ds ≡ cs ++ calls) = m x (e x cs s) in
    let q : R x cs r.1 r.0 × U r.0 (cs ++ r.1) = f x r.0 cs r.1 s r.2 (subst (λ (w : List Call). T r.0 w) r.4 r.3) in
    (r.0, r.1, q.0, subst (λ (w : List Call). U r.0 w) (sym r.4) q.1, r.4)

-- what is told afterwards
pub told_then : (old new : Option (List Call)) (S T : Course → List Call → Type 0) (P : Course → List Call → List Call → Course → Type 0) (A B : List Call → Type 0) → ((past : List Call) → A past → (x : Course) × S x past × ((calls : List Call) (y : Course) → P x past calls y → T y (past ++ calls) → B (past ++ calls)))
    → OfTold A old → Moves old new S P T → OfTold B new
told_then old None S T P A B f a m = tt
told_then None (Some ds) S T P A B f a m = absurd m
told_then (Some cs) (Some ds) S T P A B f a m =
    let s : (x : Course) × S x cs × ((calls : List Call) (y : Course) → P x cs calls y → T y (cs ++ calls) → B (cs ++ calls)) = f cs a in
    let r : (y : Course) × (calls : List Call) × P s.0 cs calls y × T y ds × (ds ≡ cs ++ calls) = m s.0 s.1 in
    subst B (sym r.4) (s.2 r.1 r.0 r.2 (subst (λ (w : List Call). T r.0 w) r.4 r.3))

-- behind what the bus did without a call
pub moves_step : (old new : Option (List Call)) (S T U : Course → List Call → Type 0) (P R : Course → List Call → List Call → Course → Type 0)
    → ((past : List Call) (x : Course) → S x past → (y : Course) × T y past × ((calls : List Call) (z : Course) → P y past calls z → R x past calls z)) → Moves old new T P U → Moves old new S R U
moves_step old None S T U P R f m = tt
moves_step None (Some ds) S T U P R f m = absurd m
moves_step (Some cs) (Some ds) S T U P R f m = λ x s.
    let a : (y : Course) × T y cs × ((calls : List Call) (z : Course) → P y cs calls z → R x cs calls z) = f cs x s in
    let r : (z : Course) × (calls : List Call) × P a.0 cs calls z × U z ds × (ds ≡ cs ++ calls) = m a.0 a.1 in
    (r.0, r.1, a.2 r.1 r.0 r.2, r.3, r.4)
