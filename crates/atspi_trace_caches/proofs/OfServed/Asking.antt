-- A reader that an application served is heard of at each of its steps behind that; so each step behind the last message that the reader took of it was asked for whole.
use Rattle.std.proofs.Common.{◌≡◌, ◌⊎◌, inl, inr, ℕ, suc, ◌+◌, ◌<◌, ◌≤◌, Bool, true, false, List, [], ◌∷◌, ◌++◌, length, Option, None, Some, refl, sym, ap, ◌∙◌, subst, arith, is_some}
use Rattle.std.specs.Prelude.{◌==◌, ◌&&◌, option_map, if◌then◌else◌}
use Rattle.std.specs.List.{AllByRecursion}
use Rattle.std.proofs.lemmas.Bool.{eqb-true}
use Rattle.std.proofs.lemmas.List.{append-nil, append_assoc}
use Rattle.atspi_tree_model.specs.declared.step.Step.{Step}
use Rattle.atspi_script_lines.specs.declared.line.Party.{Party}
use Rattle.atspi_script_lines.specs.declared.line.Party.TheVariants.{Bus as The_bus, App, Reader}
use Rattle.atspi_message.specs.Envelope.{Envelope}
use Rattle.atspi_protocol.specs.declared.following.question.Question.{Question}
use Rattle.atspi_protocol.specs.declared.following.question.Question.TheVariants.{Hello, AddMatch, RegisterEvent, GetChildren, GetItems, GetPart}
use Rattle.atspi_trace.specs.Entry.{Entry, changed, got, gone}
use Rattle.atspi_trace.specs.Ends.{same_party}
use Rattle.atspi_trace_laws.specs.laws.Words.{messages, message, with_serial, before_sent, heard_pairs, own_call, answers_question, Kept, kept_with, kept_after, held_on, held}
use Rattle.atspi_trace_laws.specs.laws.NineLaws.{sent_before}
use Rattle.atspi_trace_laws.specs.serials.Laws.{HasNextNumber}
use Rattle.atspi_trace_laws.specs.turns.Laws.{IsEarlier, IsTakenInTurn}
use Rattle.atspi_trace_laws.specs.missed.Laws.{IsLoad, AreHeardOf}
use Rattle.atspi_trace_laws.proofs.OfOrder.Parties.{no_none, party-same, false_true}
use Rattle.atspi_trace_laws.proofs.OfOrder.Each.{Each, each_split}
use Rattle.atspi_trace_laws.proofs.OfSerials.Serial.{messages_more}
use Rattle.atspi_trace_laws.proofs.OfLinks.Ups.{From, serials_from}
use Rattle.atspi_trace_laws.proofs.OfTaken.Found.{found_more, none_more, front_more, sent_split}

-- SERVED. An application took a call of the reader's for all its items
abbrev pub IsService : List Entry → ℕ → ℕ → Entry → Type 0
IsService before r a (got (App b) (Reader q) n) = (b ≡ a) × (q ≡ r) × (name : List ℕ) × (own_call before r n ≡ Some (GetItems name))
IsService before r a entry = ⊥

abbrev pub ServedOn : List Entry → ℕ → ℕ → List Entry → Type 0
ServedOn before r a [] = ⊥
ServedOn before r a (x ∷ xs) = IsService before r a x ⊎ ServedOn (before ++ x ∷ []) r a xs

abbrev pub Served : List Entry → ℕ → ℕ → Type 0
Served es r a = ServedOn [] r a es

pub served_front : (before xs ys : List Entry) (r a : ℕ) → ServedOn before r a xs → ServedOn before r a (xs ++ ys)
served_front before [] ys r a s = absurd s
served_front before (x ∷ xs) ys r a (inl s) = inl s
served_front before (x ∷ xs) ys r a (inr s) = inr (served_front (before ++ x ∷ []) xs ys r a s)

pub served_split : (before xs ys : List Entry) (r a : ℕ) → ServedOn before r a (xs ++ ys) → ServedOn before r a xs ⊎ ServedOn (before ++ xs) r a ys
served_split before [] ys r a s = inr (subst (λ l. ServedOn l r a ys) (sym (append-nil before)) s)
served_split before (x ∷ xs) ys r a (inl s) = inl (inl s)
served_split before (x ∷ xs) ys r a (inr s) = by (served_split (before ++ x ∷ []) xs ys r a s)
  where
    by : ServedOn (before ++ x ∷ []) r a xs ⊎ ServedOn ((before ++ x ∷ []) ++ xs) r a ys → ServedOn before r a (x ∷ xs) ⊎ ServedOn (before ++ x ∷ xs) r a ys
    by (inl t) = inl (inr t)
    by (inr t) = inr (subst (λ l. ServedOn l r a ys) (append_assoc before (x ∷ []) xs) t)

pub served_behind : (before xs ys : List Entry) (r a : ℕ) → ServedOn (before ++ xs) r a ys → ServedOn before r a (xs ++ ys)
served_behind before [] ys r a s = subst (λ l. ServedOn l r a ys) (append-nil before) s
served_behind before (x ∷ xs) ys r a s = inr (served_behind (before ++ x ∷ []) xs ys r a (subst (λ l. ServedOn l r a ys) (sym (append_assoc before (x ∷ []) xs)) s))

-- HEARD OF. Each step of an application that stands behind such a call
abbrev pub HeardAt : ℕ → ℕ → List Entry → Entry → List Entry → Type 0
HeardAt r a before (changed b step) behind = b ≡ a → Served before r a → AreHeardOf (heard_pairs before a)
HeardAt r a before entry behind = Unit {0}

-- LOADED. A return that a reader takes as one to its call for all items was sent behind that call was taken
abbrev pub LoadIsServed : List Entry → Entry → List Entry → Type 0
LoadIsServed before (got (Reader r) (App a) serial) behind = IsLoad (answers_question before r (message before (App a) serial)) → Served (before_sent (App a) serial before) r a
LoadIsServed before entry behind = Unit {0}

-- an entry stands among others
abbrev pub Among : Entry → List Entry → Type 0
Among e [] = ⊥
Among e (x ∷ xs) = (x ≡ e) ⊎ Among e xs

pub among_front : (e : Entry) (xs ys : List Entry) → Among e xs → Among e (xs ++ ys)
among_front e [] ys h = absurd h
among_front e (x ∷ xs) ys (inl h) = inl h
among_front e (x ∷ xs) ys (inr h) = inr (among_front e xs ys h)

pub among_here : (e : Entry) (xs ys : List Entry) → Among e (xs ++ e ∷ ys)
among_here e [] ys = inl refl
among_here e (x ∷ xs) ys = inr (among_here e xs ys)

below_taken : (xs : List Entry) (who from : Party) (s t : ℕ) → AllByRecursion (IsEarlier who from s) xs → Among (got who from t) xs → t < s
below_taken [] who from s t a h = absurd h
below_taken (x ∷ xs) who from s t a (inl same) = at (subst (IsEarlier who from s) same a.0)
  where
    at : (who ≡ who → from ≡ from → t < s) → t < s
    at f = f refl refl
below_taken (x ∷ xs) who from s t a (inr h) = below_taken xs who from s t a.1 h

-- what a reader has of an application was loaded with such a return, and the last message that it took is that or one behind it
pub record LoadedBy (es : List Entry) (r a : ℕ) (k : Kept) : Type 0 where
  pub base : ℕ
  pub first : Envelope
  pub was : message es (App a) base ≡ Some first
  pub served : Served (before_sent (App a) base es) r a
  pub low : base ≤ k.last
  pub taken : Among (got (Reader r) (App a) k.last) es

abbrev Loaded : List Entry → ℕ → ℕ → Option Kept → Type 0
Loaded es r a None = Unit {0}
Loaded es r a (Some k) = LoadedBy es r a k

loaded_more : (es ys : List Entry) (r a : ℕ) (kept : Option Kept) → Loaded es r a kept → Loaded (es ++ ys) r a kept
loaded_more es ys r a None i = tt
loaded_more es ys r a (Some k) i = record {
  base = i.base;
  first = i.first;
  was = found_more es ys (App a) i.base i.first i.was;
  served = subst (λ l. Served l r a) (sym (front_more es ys (App a) i.base i.first i.was)) i.served;
  low = i.low;
  taken = among_front (got (Reader r) (App a) k.last) es ys i.taken;
}

has_message : (before : List Entry) (r : ℕ) (o : Option Envelope) → IsLoad (answers_question before r o) → (m : Envelope) × (o ≡ Some m)
has_message before r None load = absurd load
has_message before r (Some m) load = (m, refl)

-- the reader takes a message of the application
module _ (early rest : List Entry) (r a serial : ℕ) (kept : Option Kept) (served : LoadIsServed early (got (Reader r) (App a) serial) rest) (turn : AllByRecursion (IsEarlier (Reader r) (App a) serial) early) (i : Loaded early r a kept) where
  abbrev later : List Entry
  later = early ++ got (Reader r) (App a) serial ∷ []

  now : Among (got (Reader r) (App a) serial) later
  now = among_here (got (Reader r) (App a) serial) early []

  load : (told : Kept) → told.last ≡ serial → IsLoad (answers_question early r (message early (App a) serial)) → LoadedBy later r a told
  load told last is =
      let m = has_message early r (message early (App a) serial) is in
      record {
        base = serial;
        first = m.0;
        was = found_more early (got (Reader r) (App a) serial ∷ []) (App a) serial m.0 m.1;
        served = subst (λ l. Served l r a) (sym (front_more early (got (Reader r) (App a) serial ∷ []) (App a) serial m.0 m.1)) (served is);
        low = same last;
        taken = subst (λ n. Among (got (Reader r) (App a) n) later) (sym last) now;
      }
    where
      same : told.last ≡ serial → serial ≤ told.last
      same h = omega (arith, h)

  noted : (f : Kept → Kept) → ((k : Kept) → (f k).last ≡ serial) → (o : Option Kept) → Loaded early r a o → Loaded later r a (option_map f o)
  unfolding loaded_more
  noted f last None j = tt
  noted f last (Some k) j =
      let old : LoadedBy later r a k = loaded_more early (got (Reader r) (App a) serial ∷ []) r a (Some k) j in
      record {
        base = old.base;
        first = old.first;
        was = old.was;
        served = old.served;
        low = lower (below_taken early (Reader r) (App a) serial k.last turn j.taken) j.low (last k);
        taken = subst (λ n. Among (got (Reader r) (App a) n) later) (sym (last k)) now;
      }
    where
      lower : k.last < serial → j.base ≤ k.last → (f k).last ≡ serial → j.base ≤ (f k).last
      lower h g is = omega (arith, h, g, is)

  pub takes : Loaded later r a (kept_with serial (answers_question early r (message early (App a) serial)) kept)
  takes = by (answers_question early r (message early (App a) serial)) refl
    where
      by : (o : Option Question) → answers_question early r (message early (App a) serial) ≡ o → Loaded later r a (kept_with serial o kept)
      by (Some (GetItems name)) is = load (record { last = serial; told = [] }) refl (subst IsLoad (sym is) tt)
      by (Some (GetPart name path part)) is = noted (λ (k : Kept). record { last = serial; told = k.told ++ (path, part) ∷ [] }) (λ k. refl) kept i
      by None is = noted (λ (k : Kept). record k { last = serial }) (λ k. refl) kept i
      by (Some Hello) is = noted (λ (k : Kept). record k { last = serial }) (λ k. refl) kept i
      by (Some (AddMatch rule)) is = noted (λ (k : Kept). record k { last = serial }) (λ k. refl) kept i
      by (Some (RegisterEvent pattern)) is = noted (λ (k : Kept). record k { last = serial }) (λ k. refl) kept i
      by (Some GetChildren) is = noted (λ (k : Kept). record k { last = serial }) (λ k. refl) kept i

-- entry by entry
abbrev Takes : List Entry → List Entry → ℕ → ℕ → ℕ → Option Kept → ℕ → ℕ → Type 0
Takes early rest r a serial kept q b =
    LoadIsServed early (got (Reader q) (App b) serial) rest → AllByRecursion (IsEarlier (Reader q) (App b) serial) early → Loaded (early ++ got (Reader q) (App b) serial ∷ []) r a (kept_with serial (answers_question early r (message early (App a) serial)) kept)

one_loaded : (early rest : List Entry) (r a : ℕ) (kept : Option Kept) (x : Entry) → LoadIsServed early x rest → IsTakenInTurn early x rest → Loaded early r a kept → Loaded (early ++ x ∷ []) r a (kept_after early r a kept x)
one_loaded early rest r a kept (got (Reader q) (App b) serial) l t i = by (q == r) refl (b == a) refl
  where
    by : (s : Bool) → (q == r) ≡ s → (u : Bool) → (b == a) ≡ u → Loaded (early ++ got (Reader q) (App b) serial ∷ []) r a (if s && u then kept_with serial (answers_question early r (message early (App a) serial)) kept else kept)
    by true g true h =
        subst (λ z. Takes early rest r a serial kept z b) (sym (eqb-true q r g)) (subst (λ z. Takes early rest r a serial kept r z) (sym (eqb-true b a h)) (λ l t. takes early rest r a serial kept l t i)) l t
    by true g false h = loaded_more early (got (Reader q) (App b) serial ∷ []) r a kept i
    by false g u h = loaded_more early (got (Reader q) (App b) serial ∷ []) r a kept i
one_loaded early rest r a kept (gone q b) l t i = by (q == r && b == a)
  where
    by : (s : Bool) → Loaded (early ++ gone q b ∷ []) r a (if s then None else kept)
    by true = tt
    by false = loaded_more early (gone q b ∷ []) r a kept i
one_loaded early rest r a kept x l t i = loaded_more early (x ∷ []) r a kept i

loaded_along : (early xs : List Entry) (r a : ℕ) (kept : Option Kept) → Each LoadIsServed early xs → Each IsTakenInTurn early xs → Loaded early r a kept → Loaded (early ++ xs) r a (held_on early r a kept xs)
loaded_along early [] r a kept l t i = subst (λ z. Loaded z r a kept) (sym (append-nil early)) i
loaded_along early (x ∷ xs) r a kept l t i =
    subst (λ z. Loaded z r a (held_on (early ++ x ∷ []) r a (kept_after early r a kept x) xs)) (append_assoc early (x ∷ []) xs)
    (loaded_along (early ++ x ∷ []) xs r a (kept_after early r a kept x) l.1 t.1 (one_loaded early xs r a kept x l.0 t.0 i))

pub loaded_by : (es : List Entry) (r a : ℕ) → Each LoadIsServed [] es → Each IsTakenInTurn [] es → (k : Kept) → held es r a ≡ Some k → LoadedBy es r a k
loaded_by es r a l t k h = subst (Loaded es r a) h (loaded_along [] es r a None l t tt)

-- A MESSAGE IN FRONT OF ANOTHER stands in each front that the other stands in
none_low : (n s : ℕ) (xs : List Envelope) → From n xs → s < n → with_serial s xs ≡ None
none_low n s [] f less = refl
none_low n s (x ∷ xs) f less = by (x.serial == s) refl (none_low (n + 1) s xs f.1 (omega (arith, less)))
  where
    by : (b : Bool) → (x.serial == s) ≡ b → with_serial s xs ≡ None → (if b then Some x else with_serial s xs) ≡ None
    by true g h = let is : x.serial ≡ s = eqb-true x.serial s g in let first : x.serial ≡ n = f.0 in absurd (omega (arith, is, first, less))
    by false g h = h

from_back : (n : ℕ) (xs ys : List Envelope) → From n (xs ++ ys) → From (n + length xs) ys
from_back n [] ys f = subst (λ k. From k ys) same f
  where
    same : n ≡ n + 0
    same = omega arith
from_back n (x ∷ xs) ys f = subst (λ k. From k ys) same (from_back (n + 1) xs ys f.1)
  where
    same : n + 1 + length xs ≡ n + suc (length xs)
    same = omega arith

found_below : (n s : ℕ) (xs : List Envelope) (m : Envelope) → From n xs → with_serial s xs ≡ Some m → s < n + length xs
found_below n s [] m f h = absurd (no_none m h)
found_below n s (x ∷ xs) m f h = by (x.serial == s) refl (λ k. found_below (n + 1) s xs m f.1 k) h
  where
    by : (b : Bool) → (x.serial == s) ≡ b → (with_serial s xs ≡ Some m → s < n + 1 + length xs) → (if b then Some x else with_serial s xs) ≡ Some m → s < n + suc (length xs)
    by true g ih k = let is : x.serial ≡ s = eqb-true x.serial s g in let first : x.serial ≡ n = f.0 in omega (arith, is, first)
    by false g ih k = let less : s < n + 1 + length xs = ih k in omega (arith, less)

front_front : (xs ys : List Envelope) → From 1 (xs ++ ys) → From 1 xs
front_front xs ys f = go 1 xs f
  where
    go : (n : ℕ) (xs : List Envelope) → From n (xs ++ ys) → From n xs
    go n [] f = tt
    go n (x ∷ xs) f = (f.0, go (n + 1) xs f.1)

earlier_found : (early ys : List Entry) (a base last : ℕ) (first : Envelope) → Each HasNextNumber [] (early ++ ys) → base ≤ last → is_some (message early (App a) last) ≡ true → message (early ++ ys) (App a) base ≡ Some first
    → message early (App a) base ≡ Some first
earlier_found early ys a base last first numbers low there was = by (message early (App a) base) refl
  where
    not_bus : App a ≡ The_bus → ⊥
    not_bus h = false_true (ap (same_party (App a)) (sym h) ∙ party-same (App a))

    from : From (suc (sent_before (App a) + length (messages [] (App a)))) (messages (early ++ ys) (App a))
    from = serials_from (App a) not_bus [] (early ++ ys) numbers

    whole : From 1 (messages early (App a) ++ messages ys (App a))
    whole = subst (From 1) (messages_more early ys (App a)) (subst (λ n. From n (messages (early ++ ys) (App a))) one from)
      where
        one : suc (0 + 0) ≡ 1
        one = omega arith

    later : (o : Option Envelope) → message early (App a) last ≡ o → is_some o ≡ true → last < 1 + length (messages early (App a))
    later None h s = absurd (false_true s)
    later (Some m) h s = found_below 1 last (messages early (App a)) m (front_front (messages early (App a)) (messages ys (App a)) whole) h

    by : (o : Option Envelope) → message early (App a) base ≡ o → message early (App a) base ≡ Some first
    by (Some m) h = h ∙ sym (found_more early ys (App a) base m h) ∙ was
    by None h =
        let less : last < 1 + length (messages early (App a)) = later (message early (App a) last) refl there in
        let none : with_serial base (messages ys (App a)) ≡ None = none_low (1 + length (messages early (App a))) base (messages ys (App a)) (from_back 1 (messages early (App a)) (messages ys (App a)) whole) (omega (arith, less, low)) in
        absurd (no_none first (sym none ∙ sym (none_more early ys (App a) base h) ∙ was))

-- SO EACH STEP IS HEARD OF behind the last message that the reader took
abbrev pub AreHeardSince : List Entry → ℕ → ℕ → Type 0
AreHeardSince es a last = (early ys : List Entry) (step : Step) → es ≡ early ++ changed a step ∷ ys → is_some (message early (App a) last) ≡ true → AreHeardOf (heard_pairs early a)

pub heard_since : (es : List Entry) (r a : ℕ) → Each HasNextNumber [] es → Each LoadIsServed [] es → Each IsTakenInTurn [] es → Each (HeardAt r a) [] es → (k : Kept) → held es r a ≡ Some k → AreHeardSince es a k.last
heard_since es r a numbers loads turn law k h early ys step is there = each_split (HeardAt r a) [] es law early (changed a step) ys is refl served
  where
    b : LoadedBy es r a k
    b = loaded_by es r a loads turn k h

    found : message early (App a) b.base ≡ Some b.first
    found =
        earlier_found early (changed a step ∷ ys) a b.base k.last b.first (subst (Each HasNextNumber []) is numbers) b.low there
        (ap (λ l. message l (App a) b.base) (sym is) ∙ b.was)

    front : before_sent (App a) b.base es ≡ before_sent (App a) b.base early
    front = ap (before_sent (App a) b.base) is ∙ front_more early (changed a step ∷ ys) (App a) b.base b.first found

    served : Served early r a
    served =
        let x = sent_split early (App a) b.base b.first found in
        subst (λ l. Served l r a) (sym x.1) (served_front [] (before_sent (App a) b.base early) _ r a (subst (λ l. Served l r a) front b.served))
