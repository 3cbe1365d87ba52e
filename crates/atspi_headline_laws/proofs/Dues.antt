-- Laws along a run that grows at its end: what is due of a kind of entries directly behind each act.
use Rattle.std.proofs.Common.{◌≡◌, Bool, true, false, List, [], ◌∷◌, ◌++◌, map, refl, sym, ap, ◌∙◌, subst}
use Rattle.std.specs.Prelude.{if◌then◌else◌}
use Rattle.std.specs.List.{AllByRecursion}
use Rattle.std.proofs.lemmas.List.{append-nil, append_assoc}
use Rattle.atspi_trace.specs.Entry.{Entry}
use Rattle.atspi_headline.specs.Words.{Act, begins_line, moves_bytes, takes_end, writes, Kind, is_a, writes_a, Along, next_of, Unless, AreDue}

-- a law of a run in two parts
pub along_more : (Law : List Act → Act → List Act → Type 0) (before xs ys : List Act) → Along (λ early act behind. Law early act (behind ++ ys)) before xs → Along Law (before ++ xs) ys → Along Law before (xs ++ ys)
along_more Law before [] ys a b = subst (λ l. Along Law l ys) (append-nil before) b
along_more Law before (x ∷ xs) ys a b =
    (a.0, along_more Law (before ++ x ∷ []) xs ys a.1 (subst (λ l. Along Law l ys) (sym (append_assoc before (x ∷ []) xs)) b))

-- another law, where each act is of some kind
pub along_map : (Law Other : List Act → Act → List Act → Type 0) (before xs : List Act) → ((early : List Act) (act : Act) (behind : List Act) → Law early act behind → Other early act behind)
    → Along Law before xs → Along Other before xs
along_map Law Other before [] f a = tt
along_map Law Other before (x ∷ xs) f a = (f before x xs a.0, along_map Law Other (before ++ x ∷ []) xs f a.1)

pub along_of : (P : Act → Type 0) (Law : List Act → Act → List Act → Type 0) (before xs : List Act) → ((early : List Act) (act : Act) (behind : List Act) → P act → AllByRecursion P behind → Law early act behind)
    → AllByRecursion P xs → Along Law before xs
along_of P Law before [] f p = tt
along_of P Law before (x ∷ xs) f p = (f before x xs p.0 p.1, along_of P Law (before ++ x ∷ []) xs f p.1)

pub unless : (b : Bool) (P : Type 0) → P → Unless b P
unless true P p = tt
unless false P p = p

pub unless_map : (b : Bool) (P Q : Type 0) → (P → Q) → Unless b P → Unless b Q
unless_map true P Q f p = tt
unless_map false P Q f p = f p

-- what stands next, where no more of the kind stands behind
pub next_more : (kind : Entry → Bool) (xs ys : List Act) → next_of kind ys ≡ [] → next_of kind (xs ++ ys) ≡ next_of kind xs
next_more kind [] ys none = none
next_more kind (begins_line line ∷ xs) ys none = refl
next_more kind (moves_bytes who up count ∷ xs) ys none = refl
next_more kind (takes_end who ∷ xs) ys none = refl
next_more kind (writes entry ∷ xs) ys none = ap (λ l. if kind entry then entry ∷ l else []) (next_more kind xs ys none)

-- WHAT IS DUE OF A KIND
abbrev pub IsOwed : Kind → (List Act → Act → List Entry) → List Act → Act → List Act → Type 0
IsOwed kind due before act behind = Unless (writes_a kind act) (next_of (is_a kind) behind ≡ due before act)

pub due_more : (kind : Kind) (due : List Act → Act → List Entry) (run acts : List Act) → next_of (is_a kind) acts ≡ [] → AreDue false kind due run → Along (IsOwed kind due) run acts
    → AreDue false kind due (run ++ acts)
due_more kind due run acts none old new =
    along_more (IsOwed kind due) [] run acts
    (along_map (IsOwed kind due) (λ before act behind. IsOwed kind due before act (behind ++ acts)) [] run
    (λ before act behind law. unless_map (writes_a kind act) (next_of (is_a kind) behind ≡ due before act) (next_of (is_a kind) (behind ++ acts) ≡ due before act)
    (λ h. next_more (is_a kind) behind acts none ∙ h) law) old)
    new

-- acts that write none of a kind, and behind which none is due
pub record Still (kind : Kind) (due : List Act → Act → List Entry) (act : Act) : Type 0 where
  pub none : writes_a kind act ≡ false
  pub nothing : (before : List Act) → due before act ≡ []

pub none_next : (kind : Kind) (due : List Act → Act → List Entry) (acts : List Act) → AllByRecursion (Still kind due) acts → next_of (is_a kind) acts ≡ []
none_next kind due [] s = refl
none_next kind due (begins_line line ∷ acts) s = refl
none_next kind due (moves_bytes who up count ∷ acts) s = refl
none_next kind due (takes_end who ∷ acts) s = refl
none_next kind due (writes entry ∷ acts) s = ap (λ b. if b then entry ∷ next_of (is_a kind) acts else []) s.0.none

pub still_along : (kind : Kind) (due : List Act → Act → List Entry) (before acts : List Act) → AllByRecursion (Still kind due) acts → Along (IsOwed kind due) before acts
still_along kind due before acts s =
    along_of (Still kind due) (IsOwed kind due) before acts
    (λ early act behind h rest. unless (writes_a kind act) (next_of (is_a kind) behind ≡ due early act) (none_next kind due behind rest ∙ sym (h.nothing early))) s

pub still_more : (kind : Kind) (due : List Act → Act → List Entry) (run acts : List Act) → AllByRecursion (Still kind due) acts → AreDue false kind due run → AreDue false kind due (run ++ acts)
still_more kind due run acts s old = due_more kind due run acts (none_next kind due acts s) old (still_along kind due run acts s)

-- entries of which none is of the kind, and behind which none is due
pub still_writes : (kind : Kind) (due : List Act → Act → List Entry) (es : List Entry) → AllByRecursion (λ entry. Still kind due (writes entry)) es → AllByRecursion (Still kind due) (map writes es)
still_writes kind due [] s = tt
still_writes kind due (e ∷ es) s = (s.0, still_writes kind due es s.1)
