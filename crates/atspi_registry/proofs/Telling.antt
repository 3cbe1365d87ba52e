-- The news that a connection left.
use Rattle.std.proofs.Common.{◌≡◌, ℕ, ◌+◌, ◌<◌, Bool, true, false, cond, List, [], ◌∷◌, ◌++◌, length, map, take, get_or, Option, Some, None, refl, sym, ap, ◌∙◌}
use Rattle.std.specs.Prelude.{if◌then◌else◌, codes, slice_get}
use Rattle.std.proofs.lemmas.List.{map-append}
use Rattle.std.proofs.lemmas.List.Elements.{filter_more}
use Rattle.atspi_message.specs.Envelope.{Envelope}
use Rattle.atspi_protocol.specs.registering.RegistryState.{is_of, pairs_of}
use Rattle.atspi_protocol.specs.registering.Told.{deregistered, is_asked_for, children_changed, child_added, child_removed}
use Rattle.atspi_protocol.specs.registering.Answers.{news_of_removal, news_of_removal_at}
use Rattle.atspi_registry.specs.inner.Steps.{told_at, removal_told, told_pair}

abbrev Pairs : Type 0
Pairs = List (List ℕ × List ℕ)

at_place : (pairs : Pairs) (i : ℕ) (child : Option (List ℕ × List ℕ)) → news_of_removal_at pairs i child ≡ told_at (is_asked_for pairs (codes "remove")) i child
at_place pairs i None = refl
at_place pairs i (Some child) = refl

pub removal : (pairs children : Pairs) (place : Option ℕ) → news_of_removal pairs children place ≡ removal_told (is_asked_for pairs (codes "remove")) children place
removal pairs children None = refl
removal pairs children (Some i) = at_place pairs i (slice_get children i)

pub told_one : (asked : Bool) (place : ℕ) (child : List ℕ × List ℕ) → asked ≡ true → told_at asked place (Some child) ≡ children_changed (codes "remove") place child ∷ []
told_one asked place child h = ap (λ (b : Bool). if b then children_changed (codes "remove") place child ∷ [] else []) h

pub added : (pairs : Pairs) (i : ℕ) (child : List ℕ × List ℕ) → is_asked_for pairs (codes "add") ≡ true → child_added pairs i child ≡ children_changed (codes "add") i child ∷ []
added pairs i child h = ap (λ (b : Bool). if b then children_changed (codes "add") i child ∷ [] else []) h

-- one pair more, which is the listener's or another's
pub told_more : (name : List ℕ) (pairs : Pairs) (i : ℕ) (d : List ℕ × List ℕ) → i < length pairs
    → map deregistered (pairs_of (take (i + 1) pairs) name) ≡ map deregistered (pairs_of (take i pairs) name) ++ told_pair name (get_or pairs i d)
told_more name pairs i d l =
    ap (map deregistered) (filter_more (is_of name) pairs i d l)
    ∙ map-append deregistered (pairs_of (take i pairs) name) (cond (is_of name (get_or pairs i d)) (get_or pairs i d ∷ []) [])
    ∙ ap (λ (es : List Envelope). map deregistered (pairs_of (take i pairs) name) ++ es) (chosen (is_of name (get_or pairs i d)) (get_or pairs i d))
  where
    chosen : (b : Bool) (p : List ℕ × List ℕ) → map deregistered (cond b (p ∷ []) []) ≡ (if b then deregistered p ∷ [] else [])
    chosen true p = refl
    chosen false p = refl
