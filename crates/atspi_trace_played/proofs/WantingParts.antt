-- A PART THAT WAS ASKED FOR since the load stays so behind entries that load nothing.
use Rattle.std.proofs.Common.{◌≡◌, ◌⊎◌, inl, inr, ℕ, List, [], ◌∷◌, ◌++◌, refl, sym, ap, ◌∙◌, subst}
use Rattle.std.specs.List.{AllByRecursion}
use Rattle.std.proofs.lemmas.List.{append-nil, append_assoc}
use Rattle.atspi_script_lines.specs.declared.line.Party.TheVariants.{App, Reader}
use Rattle.atspi_message.specs.Envelope.{Envelope}
use Rattle.atspi_protocol.specs.declared.news.part.PartName.{PartName}
use Rattle.atspi_protocol.specs.declared.following.question.Question.TheVariants.{GetPart}
use Rattle.atspi_protocol.specs.following.Calls.{asking}
use Rattle.atspi_trace.specs.Entry.{Entry, sent, got}
use Rattle.atspi_trace_laws.specs.laws.Words.{message, answers_question}
use Rattle.atspi_trace_laws.specs.missed.Laws.{IsLoad}
use Rattle.atspi_trace_caches.specs.settled.Laws.{NoLoad, IsPartAsked}

-- where two lists are one, what stands in the second stands behind the first, or before its end
pub cut_at : {X : Type 0} (a b xs ys : List X) (y : X) → a ++ b ≡ xs ++ y ∷ ys → ((zs : List X) × (a ≡ xs ++ y ∷ zs)) ⊎ ((zs : List X) × (xs ≡ a ++ zs) × (b ≡ zs ++ y ∷ ys))
cut_at [] b xs ys y h = inr (xs, refl, h)
cut_at (x ∷ a) b [] ys y h = inl (a, ap (λ z. z ∷ a) (ap (first_or x) h))
  where
    first_or : {X : Type 0} → X → List X → X
    first_or d [] = d
    first_or d (z ∷ zs) = z
cut_at {X = X} (x ∷ a) b (z ∷ xs) ys y h = by (cut_at a b xs ys y (ap rest_of h))
  where
    rest_of : {X : Type 0} → List X → List X
    rest_of [] = []
    rest_of (u ∷ us) = us

    first_or : {X : Type 0} → X → List X → X
    first_or d [] = d
    first_or d (u ∷ us) = u

    same : x ≡ z
    same = ap (first_or x) h

    by : ((zs : List X) × (a ≡ xs ++ y ∷ zs)) ⊎ ((zs : List X) × (xs ≡ a ++ zs) × (b ≡ zs ++ y ∷ ys)) → ((zs : List X) × (x ∷ a ≡ z ∷ (xs ++ y ∷ zs))) ⊎ ((zs : List X) × (z ∷ xs ≡ x ∷ (a ++ zs)) × (b ≡ zs ++ y ∷ ys))
    by (inl k) = inl (k.0, ap (λ l. x ∷ l) k.1 ∙ ap (λ u. u ∷ (xs ++ y ∷ k.0)) same)
    by (inr k) = inr (k.0, ap (λ l. z ∷ l) k.1 ∙ ap (λ u. u ∷ (a ++ k.0)) (sym same), k.2)

-- no load in some entries, and none in those behind them
pub no_load_both : (early a b : List Entry) (r app : ℕ) → NoLoad early r app a → NoLoad (early ++ a) r app b → NoLoad early r app (a ++ b)
no_load_both early a b r app none later xs ys serial is load = by (cut_at a b xs ys (got (Reader r) (App app) serial) is)
  where
    by : ((zs : List Entry) × (a ≡ xs ++ got (Reader r) (App app) serial ∷ zs)) ⊎ ((zs : List Entry) × (xs ≡ a ++ zs) × (b ≡ zs ++ got (Reader r) (App app) serial ∷ ys)) → ⊥
    by (inl k) = none xs k.0 serial k.1 load
    by (inr k) =
        later k.0 ys serial k.2
        (subst (λ l. IsLoad (answers_question l r (message l (App app) serial))) (ap (λ l. early ++ l) k.1 ∙ sym (append_assoc early a k.0)) load)

pub part_more : (es ys : List Entry) (r a : ℕ) (name path : List ℕ) (part : PartName) → NoLoad es r a ys → IsPartAsked es r a name path part → IsPartAsked (es ++ ys) r a name path part
part_more es ys r a name path part none p = record {
  early = p.early;
  serial = p.serial;
  late = p.late ++ ys;
  is = ap (λ l. l ++ ys) p.is ∙ append_assoc (p.early ++ sent (Reader r) (asking p.serial (GetPart name path part)) ∷ []) p.late ys;
  no_load = no_load_both (p.early ++ sent (Reader r) (asking p.serial (GetPart name path part)) ∷ []) p.late ys r a p.no_load (subst (λ l. NoLoad l r a ys) p.is none);
}

-- ENTRIES IN WHICH THE READER TAKES NOTHING
abbrev pub NoGot : ℕ → Entry → Type 0
NoGot r (got taker sender serial) = taker ≡ Reader r → ⊥
NoGot r entry = Unit {0}

pub no_got_splits : (r a : ℕ) (xs ys : List Entry) (serial : ℕ) → AllByRecursion (NoGot r) (xs ++ got (Reader r) (App a) serial ∷ ys) → ⊥
no_got_splits r a [] ys serial all = all.0 refl
no_got_splits r a (x ∷ xs) ys serial all = no_got_splits r a xs ys serial all.1

pub no_got_load : (es ys : List Entry) (r a : ℕ) → AllByRecursion (NoGot r) ys → NoLoad es r a ys
no_got_load es ys r a all xs zs serial is load = no_got_splits r a xs zs serial (subst (AllByRecursion (NoGot r)) is all)

-- one just sent
pub part_sent : (es : List Entry) (r a serial : ℕ) (name path : List ℕ) (part : PartName) (m : Envelope) → m ≡ asking serial (GetPart name path part) → IsPartAsked (es ++ sent (Reader r) m ∷ []) r a name path part
part_sent es r a serial name path part m is = record {
  early = es;
  serial = serial;
  late = [];
  is = ap (λ x. es ++ sent (Reader r) x ∷ []) is ∙ sym (append-nil (es ++ sent (Reader r) (asking serial (GetPart name path part)) ∷ []));
  no_load = no_got_load (es ++ sent (Reader r) (asking serial (GetPart name path part)) ∷ []) [] r a tt;
}
