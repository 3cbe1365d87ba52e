-- What calls of a host moved on each link, call behind call.
use Rattle.std.proofs.Common.{◌≡◌, ℕ, ◌==◌, true, List, [], ◌∷◌, ◌++◌, Option, None, Some, refl, sym, ap, subst, ◌∙◌, inl, inr, append_assoc, append-nil}
use Rattle.std.proofs.lemmas.Bool.Decides.{eqb_tells}
use Rattle.atspi_live_host.specs.declared.call.Did.{Did}
use Rattle.atspi_live_host.specs.declared.call.Call.{Call}
use Rattle.atspi_live_host.specs.declared.call.Call.TheVariants.{Read, Write}
use Rattle.atspi_live_host.specs.Calls.{Adds, front, takes, gives, taken, given}
use Rattle.atspi_live_bus.specs.Service.{OfTold}
use Rattle.atspi_live_bus.specs.inner.Turns.{Carries, OthersRest}

pub taken_append : (k : ℕ) (cs ds : List Call) → taken k (cs ++ ds) ≡ taken k cs ++ taken k ds
taken_append k [] ds = refl
taken_append k (c ∷ cs) ds = ap (λ (w : List ℕ). takes k c ++ w) (taken_append k cs ds) ∙ sym (append_assoc (takes k c) (taken k cs) (taken k ds))

pub given_append : (k : ℕ) (cs ds : List Call) → given k (cs ++ ds) ≡ given k cs ++ given k ds
given_append k [] ds = refl
given_append k (c ∷ cs) ds = ap (λ (w : List ℕ). gives k c ++ w) (given_append k cs ds) ∙ sym (append_assoc (gives k c) (given k cs) (given k ds))

pub taken_more : (k : ℕ) (cs : List Call) (c : Call) → taken k (cs ++ c ∷ []) ≡ taken k cs ++ takes k c
taken_more k cs c = taken_append k cs (c ∷ []) ∙ ap (λ (w : List ℕ). taken k cs ++ w) (append-nil (takes k c))

pub given_more : (k : ℕ) (cs : List Call) (c : Call) → given k (cs ++ c ∷ []) ≡ given k cs ++ gives k c
given_more k cs c = given_append k cs (c ∷ []) ∙ ap (λ (w : List ℕ). given k cs ++ w) (append-nil (gives k c))

-- a call that moved nothing on a link
pub taken_still : (k : ℕ) (cs : List Call) (c : Call) → takes k c ≡ [] → taken k (cs ++ c ∷ []) ≡ taken k cs
taken_still k cs c e = taken_more k cs c ∙ ap (λ (w : List ℕ). taken k cs ++ w) e ∙ append-nil (taken k cs)

pub given_still : (k : ℕ) (cs : List Call) (c : Call) → gives k c ≡ [] → given k (cs ++ c ∷ []) ≡ given k cs
given_still k cs c e = given_more k cs c ∙ ap (λ (w : List ℕ). given k cs ++ w) e ∙ append-nil (given k cs)

same_link : (k : ℕ) → (k == k) ≡ true
same_link k = elim (eqb_tells k k) [ inl e ↦ e.0 | inr e ↦ absurd (e.1 refl) ]

pub takes_read : (k : ℕ) (bytes : List ℕ) (did : Did) → takes k (Read k bytes did) ≡ bytes
takes_read k bytes did = rw (same_link k) refl

pub gives_write : (k : ℕ) (bytes : List ℕ) (did : Did) → gives k (Write k bytes did) ≡ front did bytes
gives_write k bytes did = rw (same_link k) refl

others_take : (k j : ℕ) (bytes : List ℕ) (did : Did) → (j ≡ k → ⊥) → takes j (Read k bytes did) ≡ []
others_take k j bytes did n = elim (eqb_tells k j) [ inl e ↦ absurd (n (sym e.1)) | inr e ↦ rw e.0 refl ]

others_give : (k j : ℕ) (bytes : List ℕ) (did : Did) → (j ≡ k → ⊥) → gives j (Write k bytes did) ≡ []
others_give k j bytes did n = elim (eqb_tells k j) [ inl e ↦ absurd (n (sym e.1)) | inr e ↦ rw e.0 refl ]

pub others_read : (k : ℕ) (cs : List Call) (bytes : List ℕ) (did : Did) → OthersRest k cs (cs ++ Read k bytes did ∷ [])
others_read k cs bytes did j n = (taken_still j cs (Read k bytes did) (others_take k j bytes did n), given_still j cs (Read k bytes did) refl)

pub others_write : (k : ℕ) (cs : List Call) (bytes : List ℕ) (did : Did) → OthersRest k cs (cs ++ Write k bytes did ∷ [])
others_write k cs bytes did j n = (taken_still j cs (Write k bytes did) refl, given_still j cs (Write k bytes did) (others_give k j bytes did n))

-- no call
pub carries_none : (k : ℕ) (calls : Option (List Call)) (P Q : List ℕ → List ℕ → Type 0) → ((t g : List ℕ) → P t g → Q t g) → Carries k calls calls P Q
carries_none k None P Q f = tt
carries_none k (Some cs) P Q f = ((λ j n. (refl, refl)), f (taken k cs) (given k cs))

-- a read
pub carries_read : (k : ℕ) (old new : Option (List Call)) (bytes : List ℕ) (did : Did) (P Q : List ℕ → List ℕ → Type 0) → Adds old new (Read k bytes did) → ((t g : List ℕ) → P t g → Q (t ++ bytes) g) → Carries k old new P Q
carries_read k old None bytes did P Q a f = tt
carries_read k None (Some ds) bytes did P Q a f = absurd a
carries_read k (Some cs) (Some ds) bytes did P Q a f =
    let c : Call = Read k bytes did in
    let t : taken k (cs ++ c ∷ []) ≡ taken k cs ++ bytes = taken_more k cs c ∙ ap (λ (w : List ℕ). taken k cs ++ w) (takes_read k bytes did) in
    let g : given k (cs ++ c ∷ []) ≡ given k cs = given_still k cs c refl in
    subst (λ (w : List Call). OthersRest k cs w × (P (taken k cs) (given k cs) → Q (taken k w) (given k w))) (sym a) (
      others_read k cs bytes did,
      λ p. subst (λ (w : List ℕ). Q w (given k (cs ++ c ∷ []))) (sym t) (subst (λ (w : List ℕ). Q (taken k cs ++ bytes) w) (sym g) (f (taken k cs) (given k cs) p)),
    )

-- a write
pub carries_write : (k : ℕ) (old new : Option (List Call)) (bytes : List ℕ) (did : Did) (P Q : List ℕ → List ℕ → Type 0) → Adds old new (Write k bytes did) → ((t g : List ℕ) → P t g → Q t (g ++ front did bytes)) → Carries k old new P Q
carries_write k old None bytes did P Q a f = tt
carries_write k None (Some ds) bytes did P Q a f = absurd a
carries_write k (Some cs) (Some ds) bytes did P Q a f =
    let c : Call = Write k bytes did in
    let t : taken k (cs ++ c ∷ []) ≡ taken k cs = taken_still k cs c refl in
    let g : given k (cs ++ c ∷ []) ≡ given k cs ++ front did bytes = given_more k cs c ∙ ap (λ (w : List ℕ). given k cs ++ w) (gives_write k bytes did) in
    subst (λ (w : List Call). OthersRest k cs w × (P (taken k cs) (given k cs) → Q (taken k w) (given k w))) (sym a) (
      others_write k cs bytes did,
      λ p. subst (λ (w : List ℕ). Q w (given k (cs ++ c ∷ []))) (sym t) (subst (λ (w : List ℕ). Q (taken k cs) w) (sym g) (f (taken k cs) (given k cs) p)),
    )

-- what is known before the first of them, from what is known now
pub carries_from : (k : ℕ) (old new : Option (List Call)) (O P Q : List ℕ → List ℕ → Type 0) → ((t g : List ℕ) → O t g → P t g) → Carries k old new P Q → Carries k old new O Q
carries_from k old None O P Q f c = tt
carries_from k None (Some ds) O P Q f c = c
carries_from k (Some cs) (Some ds) O P Q f c = (c.0, λ o. c.1 (f (taken k cs) (given k cs) o))

-- of the calls that a host tells
pub told_map : (P Q : List Call → Type 0) (calls : Option (List Call)) → ((cs : List Call) → P cs → Q cs) → OfTold P calls → OfTold Q calls
told_map P Q None f p = tt
told_map P Q (Some cs) f p = f cs p

pub told_more : (P Q : List Call → Type 0) (old new : Option (List Call)) (c : Call) → Adds old new c → ((cs : List Call) → P cs → Q (cs ++ c ∷ [])) → OfTold P old → OfTold Q new
told_more P Q old None c a f p = tt
told_more P Q None (Some ds) c a f p = absurd a
told_more P Q (Some cs) (Some ds) c a f p = subst Q (sym a) (f cs p)

pub told_carried : (k : ℕ) (P Q : List Call → Type 0) (old new : Option (List Call)) (R S : List ℕ → List ℕ → Type 0) → Carries k old new R S
    → ((cs ds : List Call) → OthersRest k cs ds → (R (taken k cs) (given k cs) → S (taken k ds) (given k ds)) → P cs → Q ds) → OfTold P old → OfTold Q new
told_carried k P Q old None R S c f p = tt
told_carried k P Q None (Some ds) R S c f p = absurd c
told_carried k P Q (Some cs) (Some ds) R S c f p = f cs ds c.0 c.1 p
