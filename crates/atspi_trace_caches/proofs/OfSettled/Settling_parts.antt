-- A part that a reader asked for since it loaded an application that is here, of a node that was added to it: the call waits, or the part was told, or the tree has no node there that has it.
use Rattle.std.proofs.Common.{◌≡◌, ◌⊎◌, inl, inr, ℕ, ◌≤◌, Bool, true, false, List, [], ◌∷◌, ◌++◌, Option, None, Some, refl, sym, ap, ap₂, ◌∙◌, subst, arith}
use Rattle.std.specs.Prelude.{◌==◌, ◌||◌, ◌&&◌, bytes_eq, fold, if◌then◌else◌}
use Rattle.std.specs.List.{AllByRecursion}
use Rattle.std.proofs.lemmas.Bool.{eqb-true}
use Rattle.std.proofs.lemmas.List.{append-nil, append_assoc}
use Rattle.std.proofs.lemmas.Slice.Eq.{bytes_eq-Decides}
use lib.Utf8.{encode}
use Rattle.atspi_tree_model.specs.declared.step.Step.{Step}
use Rattle.atspi_tree_model.specs.declared.step.Step.TheVariants.{Add, Remove, Move, SetName, SetDescription, SetRole, SetState, Insert, Delete, Caret as Caret_step, TextSelect, Relate}
use Rattle.atspi_tree_model.specs.Tree.{added_after}
use Rattle.atspi_script_lines.specs.declared.line.Party.TheVariants.{Bus as The_bus, Registry, App, Reader}
use Rattle.atspi_message.specs.Envelope.{Envelope}
use Rattle.atspi_match.specs.routing.Routing.{is_reply}
use Rattle.atspi_protocol.specs.declared.news.part.PartName.{PartName}
use Rattle.atspi_protocol.specs.declared.news.part.PartName.TheVariants.{Text, Caret, Columns}
use Rattle.atspi_protocol.specs.declared.following.question.Question.{Question}
use Rattle.atspi_protocol.specs.declared.following.question.Question.TheVariants.{Hello, AddMatch, RegisterEvent, GetChildren, GetItems, GetPart}
use Rattle.atspi_protocol.specs.following.Calls.{asking}
use Rattle.atspi_protocol.specs.following.Wishes.{same_part, is_refused}
use Rattle.atspi_trace.specs.Entry.{Entry, changed, sent, got, gone}
use Rattle.atspi_trace.specs.World.{here, waits, Asked, End, World}
use Rattle.atspi_trace.specs.Ends.{end_at}
use Rattle.atspi_trace.specs.Hearing.{question_in}
use Rattle.atspi_trace_laws.specs.laws.Words.{added, count_after, message, before_sent, answers_question, Kept, kept_with, kept_after, held_on}
use Rattle.atspi_trace_laws.specs.serials.Laws.{HasNextNumber}
use Rattle.atspi_trace_laws.specs.missed.Laws.{IsLoad}
use Rattle.atspi_trace_caches.specs.settled.Laws.{NoLoad}
use Rattle.atspi_trace_laws.proofs.OfOrder.Parties.{no_none, same_some, false_true}
use Rattle.atspi_trace_laws.proofs.OfOrder.Each.{Each}
use Rattle.atspi_trace_laws.proofs.OfOwn.Writing.{Lives}
use Rattle.atspi_trace_laws.proofs.OfSteps.Trees.{count_more}
use Rattle.atspi_trace_laws.proofs.OfHeld.Holdings.{call_at}
use Rattle.atspi_trace_laws.proofs.OfNames.Places.{name_told}
use Rattle.atspi_trace_caches.proofs.OfServed.Asking.{Among}
use Rattle.atspi_trace_caches.proofs.OfSettled.Facts.{WaitsFor}

-- AN ERROR OF THE BUS'S to a call that went to an application's unique name, given when the call was sent, is for one that is gone
abbrev pub BusKnows : List Entry → World → Type 0
BusKnows es w =
    Lives es → (before behind : List Entry) (r n serial : ℕ) (m first : Envelope) (name : List ℕ) (a : ℕ) → es ≡ before ++ got (Reader r) The_bus serial ∷ behind → message es The_bus serial ≡ Some m → is_reply m ≡ true → (m.kind ≡ 2 → ⊥)
    → m.reply ≡ Some n → message es (Reader r) n ≡ Some first → first.destination ≡ Some name → name_told (before_sent (Reader r) n es) (App a) ≡ Some name
    → (j : ℕ) (d : End) → end_at w.ends j ≡ Some d → d.who ≡ App a → d.standing ≡ here → ⊥

-- LISTS
pub splits : (X Y B D : List Entry) (g : Entry) → X ++ Y ≡ B ++ g ∷ D → ((Z : List Entry) × (X ≡ B ++ g ∷ Z)) ⊎ ((Z : List Entry) × (B ≡ X ++ Z) × (Y ≡ Z ++ g ∷ D))
splits [] Y B D g is = inr (B, refl, is)
splits (x ∷ X) Y [] D g is = inl (X, ap (λ z. z ∷ X) (ap (first_or x) is))
  where
    first_or : Entry → List Entry → Entry
    first_or e [] = e
    first_or e (y ∷ ys) = y
splits (x ∷ X) Y (b ∷ B) D g is = by (splits X Y B D g (ap rest_of is))
  where
    first_or : Entry → List Entry → Entry
    first_or e [] = e
    first_or e (y ∷ ys) = y

    rest_of : List Entry → List Entry
    rest_of [] = []
    rest_of (y ∷ ys) = ys

    same : x ≡ b
    same = ap (first_or x) is

    by : ((Z : List Entry) × (X ≡ B ++ g ∷ Z)) ⊎ ((Z : List Entry) × (B ≡ X ++ Z) × (Y ≡ Z ++ g ∷ D))
        → ((Z : List Entry) × (x ∷ X ≡ (b ∷ B) ++ g ∷ Z)) ⊎ ((Z : List Entry) × (b ∷ B ≡ (x ∷ X) ++ Z) × (Y ≡ Z ++ g ∷ D))
    by (inl h) = inl (h.0, ap₂ (λ y ys. y ∷ ys) same h.1)
    by (inr h) = inr (h.0, ap₂ (λ y ys. y ∷ ys) (sym same) h.1, h.2)

pub each_behind : (Law : List Entry → Entry → List Entry → Type 0) (early xs ys : List Entry) → Each Law early (xs ++ ys) → Each Law (early ++ xs) ys
each_behind Law early [] ys e = subst (λ l. Each Law l ys) (sym (append-nil early)) e
each_behind Law early (x ∷ xs) ys e = subst (λ l. Each Law l ys) (append_assoc early (x ∷ []) xs) (each_behind Law (early ++ x ∷ []) xs ys e.1)

pub numbers_front : (early xs ys : List Entry) → Each HasNextNumber early (xs ++ ys) → Each HasNextNumber early xs
numbers_front early [] ys e = tt
numbers_front early (x ∷ xs) ys e = (by x e.0, numbers_front (early ++ x ∷ []) xs ys e.1)
  where
    by : (x : Entry) → HasNextNumber early x (xs ++ ys) → HasNextNumber early x xs
    by (sent The_bus m) h = tt
    by (sent Registry m) h = h
    by (sent (App a) m) h = h
    by (sent (Reader r) m) h = h
    by x h = tt

pub among_split : (x : Entry) (xs : List Entry) → Among x xs → (ys zs : List Entry) × (xs ≡ ys ++ x ∷ zs)
among_split x [] a = absurd a
among_split x (y ∷ ys) (inl same) = ([], ys, ap (λ z. z ∷ ys) same)
among_split x (y ∷ ys) (inr a) = let s = among_split x ys a in (y ∷ s.0, s.1, ap (λ l. y ∷ l) s.2)

step_more : (n : ℕ) (step : Step) → n ≤ added_after n step
step_more n (Add m p i seed) = omega arith
step_more n (Remove m) = omega arith
step_more n (Move m p i) = omega arith
step_more n (SetName m x) = omega arith
step_more n (SetDescription m x) = omega arith
step_more n (SetRole m x) = omega arith
step_more n (SetState m s on) = omega arith
step_more n (Insert m at x) = omega arith
step_more n (Delete m at x) = omega arith
step_more n (Caret_step m at) = omega arith
step_more n (TextSelect m marks) = omega arith
step_more n (Relate m kind targets) = omega arith

one_more : (app n : ℕ) (entry : Entry) → n ≤ count_after app n entry
one_more app n (changed a step) = by (a == app)
  where
    by : (b : Bool) → n ≤ (if b then added_after n step else n)
    by true = step_more n step
    by false = omega arith
one_more app n entry = omega arith

fold_more : (app n : ℕ) (xs : List Entry) → n ≤ fold (count_after app) n xs
fold_more app n [] = omega arith
fold_more app n (x ∷ xs) = let one = one_more app n x in let rest = fold_more app (count_after app n x) xs in omega (arith, one, rest)

pub added_more : (xs ys : List Entry) (app : ℕ) → added xs app ≤ added (xs ++ ys) app
added_more xs ys app = subst (λ k. added xs app ≤ k) (sym (count_more app xs ys)) (fold_more app (added xs app) ys)

-- THE CALL for a part
pub part_read : (n : ℕ) (name path : List ℕ) (part : PartName) → question_in (asking n (GetPart name path part)) ≡ Some (GetPart name path part)
unfolding encode
part_read n name path Text = refl
part_read n name path Caret = refl
part_read n name path Columns = refl

pub part_to : (n : ℕ) (name path : List ℕ) (part : PartName) → (asking n (GetPart name path part)).destination ≡ Some name
part_to n name path Text = refl
part_to n name path Caret = refl
part_to n name path Columns = refl

-- the own call with a serial
pub record Found (P : Asked → Type 0) (n : ℕ) (q : Question) (asked : List Asked) : Type 0 where
  pub x : Asked
  pub has : P x
  pub serial : x.serial ≡ n
  pub question : x.question ≡ q
  pub waiting : x.fate ≡ waits → WaitsFor q asked

pub found_call : (P : Asked → Type 0) (n : ℕ) (asked : List Asked) (q : Question) → AllByRecursion P asked → call_at n asked ≡ Some q → Found P n q asked
found_call P n [] q a h = absurd (no_none q h)
found_call P n (y ∷ ys) q a h = by (n == y.serial) refl h (λ g. found_call P n ys q a.1 g)
  where
    by : (b : Bool) → (n == y.serial) ≡ b → (if b then Some y.question else call_at n ys) ≡ Some q → (call_at n ys ≡ Some q → Found P n q ys) → Found P n q (y ∷ ys)
    by true is g ih = let same : y.question ≡ q = same_some y.question q g in record { x = y; has = a.0; serial = sym (eqb-true n y.serial is); question = same; waiting = λ w. inl (same, w) }
    by false is g ih = let f = ih g in record { x = f.x; has = f.has; serial = f.serial; question = f.question; waiting = λ w. inr (f.waiting w) }

-- WHAT WAS TOLD stays told as long as nothing is loaded
refused_last : (xs : List (List ℕ × PartName)) (path : List ℕ) (part : PartName) → is_refused (xs ++ (path, part) ∷ []) path part ≡ true
refused_last [] path part = ap (λ b. (b && same_part part part) || false) ((bytes_eq-Decides path path).1 refl) ∙ by part
  where
    by : (p : PartName) → (same_part p p || false) ≡ true
    by Text = refl
    by Caret = refl
    by Columns = refl
refused_last (x ∷ xs) path part = by (bytes_eq x.0 path && same_part x.1 part) (refused_last xs path part)
  where
    by : (b : Bool) → is_refused (xs ++ (path, part) ∷ []) path part ≡ true → (b || is_refused (xs ++ (path, part) ∷ []) path part) ≡ true
    by true h = refl
    by false h = h

refused_more : (xs ys : List (List ℕ × PartName)) (path : List ℕ) (part : PartName) → is_refused xs path part ≡ true → is_refused (xs ++ ys) path part ≡ true
refused_more [] ys path part h = absurd (false_true h)
refused_more (x ∷ xs) ys path part h = by (bytes_eq x.0 path && same_part x.1 part) h (refused_more xs ys path part)
  where
    by : (b : Bool) → (b || is_refused xs path part) ≡ true → (is_refused xs path part ≡ true → is_refused (xs ++ ys) path part ≡ true) → (b || is_refused (xs ++ ys) path part) ≡ true
    by true g ih = refl
    by false g ih = ih g

module _ (path : List ℕ) (part : PartName) where
  abbrev pub HasIt : Option Kept → Type 0
  HasIt None = Unit {0}
  HasIt (Some k) = is_refused k.told path part ≡ true

  pub told_now : (serial : ℕ) (name : List ℕ) (kept : Option Kept) → HasIt (kept_with serial (Some (GetPart name path part)) kept)
  told_now serial name None = tt
  told_now serial name (Some k) = refused_last k.told path part

  with_it : (serial : ℕ) (q : Option Question) (kept : Option Kept) → (IsLoad q → ⊥) → HasIt kept → HasIt (kept_with serial q kept)
  with_it serial (Some (GetItems name)) kept none h = absurd (none tt)
  with_it serial (Some (GetPart name p other)) None none h = tt
  with_it serial (Some (GetPart name p other)) (Some k) none h = refused_more k.told ((p, other) ∷ []) path part h
  with_it serial None None none h = tt
  with_it serial None (Some k) none h = h
  with_it serial (Some Hello) None none h = tt
  with_it serial (Some Hello) (Some k) none h = h
  with_it serial (Some (AddMatch rule)) None none h = tt
  with_it serial (Some (AddMatch rule)) (Some k) none h = h
  with_it serial (Some (RegisterEvent pattern)) None none h = tt
  with_it serial (Some (RegisterEvent pattern)) (Some k) none h = h
  with_it serial (Some GetChildren) None none h = tt
  with_it serial (Some GetChildren) (Some k) none h = h

  after_it : (front : List Entry) (r a : ℕ) (xs : List Entry) (entry : Entry) (kept : Option Kept) → NoLoad front r a (entry ∷ xs) → HasIt kept → HasIt (kept_after front r a kept entry)
  after_it front r a xs (got (Reader q) (App b) serial) kept none h = by (q == r) refl (b == a) refl
    where
      by : (c : Bool) → (q == r) ≡ c → (d : Bool) → (b == a) ≡ d → HasIt (if c && d then kept_with serial (answers_question front r (message front (App a) serial)) kept else kept)
      by true is true same =
          with_it serial (answers_question front r (message front (App a) serial)) kept
          (λ load. none [] xs serial (ap₂ (λ x y. got (Reader x) (App y) serial ∷ xs) (eqb-true q r is) (eqb-true b a same)) (subst (λ l. IsLoad (answers_question l r (message l (App a) serial))) (sym (append-nil front)) load)) h
      by true is false same = h
      by false is d same = h
  after_it front r a xs (gone q b) kept none h = by (q == r && b == a)
    where
      by : (c : Bool) → HasIt (if c then None else kept)
      by true = tt
      by false = h
  after_it front r a xs entry kept none h = h

  load_rest : (front : List Entry) (r a : ℕ) (xs : List Entry) (entry : Entry) → NoLoad front r a (entry ∷ xs) → NoLoad (front ++ entry ∷ []) r a xs
  load_rest front r a xs entry none zs ys serial is load =
      none (entry ∷ zs) ys serial (ap (λ l. entry ∷ l) is) (subst (λ l. IsLoad (answers_question l r (message l (App a) serial))) (append_assoc front (entry ∷ []) zs) load)

  pub along_it : (front xs : List Entry) (r a : ℕ) (kept : Option Kept) → NoLoad front r a xs → HasIt kept → HasIt (held_on front r a kept xs)
  along_it front [] r a kept none h = h
  along_it front (x ∷ xs) r a kept none h = along_it (front ++ x ∷ []) xs r a (kept_after front r a kept x) (load_rest front r a xs x none) (after_it front r a xs x kept none h)

  pub load_behind : (front zs ys late : List Entry) (r a : ℕ) → late ≡ zs ++ ys → NoLoad front r a late → NoLoad (front ++ zs) r a ys
  load_behind front zs ys late r a is none xs back serial at load =
      none (zs ++ xs) back serial (is ∙ ap (λ l. zs ++ l) at ∙ sym (append_assoc zs xs (got (Reader r) (App a) serial ∷ back))) (subst (λ l. IsLoad (answers_question l r (message l (App a) serial))) (append_assoc front zs xs) load)
