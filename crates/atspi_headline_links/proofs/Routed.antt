-- THE MESSAGES ROUTED to an end: as long as its quota lets each in, all that were delivered to it.
use Rattle.std.proofs.Common.{◌≡◌, ℕ, zero, suc, Bool, true, false, List, [], ◌∷◌, ◌++◌, None, Some, refl, sym, ap, ap₂, ◌∙◌, subst, cond}
use Rattle.std.specs.Prelude.{Option, ◌||◌, filter, filter_map, option_map, slice_get, if◌then◌else◌}
use Rattle.std.specs.List.{list_any, cons_option}
use Rattle.std.proofs.lemmas.List.{append-nil, append_assoc}
use Rattle.atspi_script_lines.specs.declared.line.Party.{Party}
use Rattle.atspi_match.specs.routing.Steps.{Move, says, delivers, closes}
use Rattle.atspi_headline.specs.Words.{Act, gathered, is_same, ends}
use Rattle.atspi_headline.specs.Links.{Delivery, delivery_to, delivery_in, delivered_after, deliveries, sender_at, moves_at, letters, passes, kept, is_to}
use Rattle.atspi_trace_laws.proofs.OfOrder.Parties.{no_none, same_some, false_true}
use Rattle.atspi_headline_links.proofs.Moved.{itself, another}
use Rattle.atspi_headline_links.proofs.Known.{IsUnknown, unknown_front}

-- LISTS
pub filter_more : {A : Type 0} (p : A → Bool) (xs ys : List A) → filter p (xs ++ ys) ≡ filter p xs ++ filter p ys
filter_more p [] ys = refl
filter_more p (x ∷ xs) ys = by (p x) (filter_more p xs ys)
  where
    by : (b : Bool) → filter p (xs ++ ys) ≡ filter p xs ++ filter p ys → cond b (x ∷ filter p (xs ++ ys)) (filter p (xs ++ ys)) ≡ cond b (x ∷ filter p xs) (filter p xs) ++ filter p ys
    by true h = ap (λ l. x ∷ l) h
    by false h = h

pub letters_more : (xs ys : List Delivery) → letters (xs ++ ys) ≡ letters xs ++ letters ys
letters_more [] ys = refl
letters_more (x ∷ xs) ys = ap (λ l. (x.from, x.letter) ∷ l) (letters_more xs ys)

-- EACH IS LET IN
abbrev pub AllIn : ℕ → List Delivery → List Delivery → Type 0
AllIn quota made [] = Unit {0}
AllIn quota made (d ∷ ds) = (passes quota made d ≡ false) × AllIn quota (made ++ d ∷ []) ds

pub kept_all : (quota : ℕ) (made ds : List Delivery) → AllIn quota made ds → kept quota made ds ≡ made ++ ds
kept_all quota made [] a = sym (append-nil made)
kept_all quota made (d ∷ ds) a =
    ap (λ b. if b then made else kept quota (made ++ d ∷ []) ds) a.0 ∙ kept_all quota (made ++ d ∷ []) ds a.1 ∙ append_assoc made (d ∷ []) ds

pub in_more : (quota : ℕ) (made ds : List Delivery) (d : Delivery) → AllIn quota made ds → passes quota (made ++ ds) d ≡ false → AllIn quota made (ds ++ d ∷ [])
in_more quota made [] d a h = (subst (λ l. passes quota l d ≡ false) (append-nil made) h, tt)
in_more quota made (x ∷ ds) d a h = (a.0, in_more quota (made ++ x ∷ []) ds d a.1 (subst (λ l. passes quota l d ≡ false) (sym (append_assoc made (x ∷ []) ds)) h))

-- WHO NEVER JOINED is handed nothing
among_false : (ps : List Party) (p : Party) (place : ℕ) (to : Party) → IsUnknown ps p → slice_get ps place ≡ Some to → is_same to p ≡ false
among_false [] p place to u h = absurd (no_none to h)
among_false (q ∷ ps) p zero to u h =
    another to p (λ same. false_true (sym (first (is_same p q) (list_any (is_same p) ps) u) ∙ is_itself same))
  where
    first : (a b : Bool) → (a || b) ≡ false → a ≡ false
    first true b g = g
    first false b g = refl

    is_itself : to ≡ p → is_same p q ≡ true
    is_itself same = ap (is_same p) (same_some q to h ∙ same) ∙ itself p
among_false (q ∷ ps) p (suc place) to u h = among_false ps p place to (rest (is_same p q) (list_any (is_same p) ps) u) h
  where
    rest : (a b : Bool) → (a || b) ≡ false → b ≡ false
    rest true b g = absurd (false_true (sym g))
    rest false b g = g

none_in : (before : List Act) (sender p : Party) (moves : List Move) → IsUnknown (ends before) p → filter (is_to p) (filter_map (delivery_in before sender) moves) ≡ []
none_in before sender p [] u = refl
none_in before sender p (says e ∷ moves) u = none_in before sender p moves u
none_in before sender p (closes conn ∷ moves) u = none_in before sender p moves u
none_in before sender p (delivers place e ∷ moves) u = by (slice_get (ends before) place) refl (none_in before sender p moves u)
  where
    by : (o : Option Party) → slice_get (ends before) place ≡ o → filter (is_to p) (filter_map (delivery_in before sender) moves) ≡ []
        → filter (is_to p) (cons_option (option_map (delivery_to before sender e) o) (filter_map (delivery_in before sender) moves)) ≡ []
    by None h rest = rest
    by (Some to) h rest =
        ap (λ b. cond b (delivery_to before sender e to ∷ filter (is_to p) (filter_map (delivery_in before sender) moves)) (filter (is_to p) (filter_map (delivery_in before sender) moves)))
        (among_false (ends before) p place to u h) ∙ rest

none_gathered : (p : Party) (ds : List Delivery) (before acts : List Act) → IsUnknown (ends (before ++ acts)) p → filter (is_to p) ds ≡ [] → filter (is_to p) (gathered delivered_after ds before acts) ≡ []
none_gathered p ds before [] u h = h
none_gathered p ds before (act ∷ acts) u h =
    none_gathered p (delivered_after before ds act) (before ++ act ∷ []) acts (subst (λ l. IsUnknown (ends l) p) (sym (append_assoc before (act ∷ []) acts)) u)
    (filter_more (is_to p) ds (filter_map (delivery_in before (sender_at act)) (moves_at before act))
    ∙ ap₂ (λ x y. x ++ y) h (none_in before (sender_at act) p (moves_at before act) (unknown_front before (act ∷ acts) p u)))

pub none_delivered : (run : List Act) (p : Party) → IsUnknown (ends run) p → filter (is_to p) (deliveries run) ≡ []
none_delivered run p u = none_gathered p [] [] run u refl
