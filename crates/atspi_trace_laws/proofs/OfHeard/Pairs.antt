-- The pairs that an application has heard of, by what happened at it.
use Rattle.std.proofs.Common.{◌≡◌, ℕ, suc, ◌+◌, Bool, true, false, List, [], ◌∷◌, ◌++◌, map, refl, sym, ap, ap₂, ◌∙◌, arith}
use Rattle.std.specs.Prelude.{◌==◌, ◌&&◌, ◌||◌, not, filter, bytes_eq, if◌then◌else◌}
use Rattle.std.specs.List.{AllByRecursion, list_any, fold}
use Rattle.std.proofs.lemmas.Bool.{eq-eqb}
use Rattle.std.proofs.lemmas.List.{append-nil, append_assoc}
use Rattle.std.proofs.lemmas.Slice.Eq.{bytes_eq-Decides}
use Rattle.atspi_protocol.specs.exporting.Exporter.{Happening, steps, sends, hears, deaf, numbered, sent_in}
use Rattle.atspi_protocol.specs.exporting.Hearing.{is_pair, is_heard, firsts, exchanged}
use Rattle.atspi_trace.specs.Entry.{Entry, heard, unheard}
use Rattle.atspi_trace.specs.Causes.{did}
use Rattle.atspi_trace_laws.specs.laws.Words.{pairs_after, heard_pairs}
use Rattle.atspi_trace_laws.proofs.OfOrder.Parties.{false_true}
use Rattle.atspi_trace_laws.proofs.OfSteps.Trees.{fold_append}

-- the pairs after what happened
abbrev pub heard_by : List (List ℕ × List ℕ) → List Happening → List (List ℕ × List ℕ)
heard_by ps [] = ps
heard_by ps (hears listener pattern ∷ hs) = heard_by (ps ++ (listener, pattern) ∷ []) hs
heard_by ps (deaf listener pattern ∷ hs) = heard_by (filter (λ p. not (is_pair (listener, pattern) p)) ps) hs
heard_by ps (steps step ∷ hs) = heard_by ps hs
heard_by ps (sends e ∷ hs) = heard_by ps hs

pub heard_append : (ps : List (List ℕ × List ℕ)) (hs ks : List Happening) → heard_by ps (hs ++ ks) ≡ heard_by (heard_by ps hs) ks
heard_append ps [] ks = refl
heard_append ps (hears listener pattern ∷ hs) ks = heard_append (ps ++ (listener, pattern) ∷ []) hs ks
heard_append ps (deaf listener pattern ∷ hs) ks = heard_append (filter (λ p. not (is_pair (listener, pattern) p)) ps) hs ks
heard_append ps (steps step ∷ hs) ks = heard_append ps hs ks
heard_append ps (sends e ∷ hs) ks = heard_append ps hs ks

-- numbers change nothing
pub heard_numbered : (ps : List (List ℕ × List ℕ)) (n : ℕ) (hs : List Happening) → heard_by ps (numbered n hs) ≡ heard_by ps hs
heard_numbered ps n [] = refl
heard_numbered ps n (hears listener pattern ∷ hs) = heard_numbered (ps ++ (listener, pattern) ∷ []) n hs
heard_numbered ps n (deaf listener pattern ∷ hs) = heard_numbered (filter (λ p. not (is_pair (listener, pattern) p)) ps) n hs
heard_numbered ps n (steps step ∷ hs) = heard_numbered ps n hs
heard_numbered ps n (sends e ∷ hs) = heard_numbered ps (n + 1) hs

pub sent_numbered : (n : ℕ) (hs : List Happening) → sent_in (numbered n hs) ≡ sent_in hs
sent_numbered n [] = refl
sent_numbered n (hears listener pattern ∷ hs) = sent_numbered n hs
sent_numbered n (deaf listener pattern ∷ hs) = sent_numbered n hs
sent_numbered n (steps step ∷ hs) = sent_numbered n hs
sent_numbered n (sends e ∷ hs) = ap suc (sent_numbered (n + 1) hs)

pub sent_append : (hs ks : List Happening) → sent_in (hs ++ ks) ≡ sent_in hs + sent_in ks
sent_append [] ks = omega arith
sent_append (hears listener pattern ∷ hs) ks = sent_append hs ks
sent_append (deaf listener pattern ∷ hs) ks = sent_append hs ks
sent_append (steps step ∷ hs) ks = sent_append hs ks
sent_append (sends e ∷ hs) ks = let rest : sent_in (hs ++ ks) ≡ sent_in hs + sent_in ks = sent_append hs ks in omega (arith, rest)

pub numbered_append : (n : ℕ) (hs ks : List Happening) → numbered n (hs ++ ks) ≡ numbered n hs ++ numbered (n + sent_in hs) ks
numbered_append n [] ks = let none : n ≡ n + 0 = omega arith in ap (λ m. numbered m ks) none
numbered_append n (hears listener pattern ∷ hs) ks = ap (λ l. hears listener pattern ∷ l) (numbered_append n hs ks)
numbered_append n (deaf listener pattern ∷ hs) ks = ap (λ l. deaf listener pattern ∷ l) (numbered_append n hs ks)
numbered_append n (steps step ∷ hs) ks = ap (λ l. steps step ∷ l) (numbered_append n hs ks)
numbered_append n (sends e ∷ hs) ks =
    let one : (n + 1) + sent_in hs ≡ n + suc (sent_in hs) = omega arith in
    ap (λ l. sends (record e { serial = n }) ∷ l) (numbered_append (n + 1) hs ks ∙ ap (λ m. numbered (n + 1) hs ++ numbered m ks) one)

-- as the entries tell it
pub heard_more : (app : ℕ) (es ys : List Entry) → heard_pairs (es ++ ys) app ≡ fold (pairs_after app) (heard_pairs es app) ys
heard_more app es ys = fold_append (pairs_after app) [] es ys

pub did_heard : (app : ℕ) (ps : List (List ℕ × List ℕ)) (hs : List Happening) → fold (pairs_after app) ps (map (did app) hs) ≡ heard_by ps hs
did_heard app ps [] = refl
did_heard app ps (hears listener pattern ∷ hs) =
    ap (λ b. fold (pairs_after app) (if b then ps ++ (listener, pattern) ∷ [] else ps) (map (did app) hs)) (eq-eqb app app refl)
    ∙ did_heard app (ps ++ (listener, pattern) ∷ []) hs
did_heard app ps (deaf listener pattern ∷ hs) =
    ap (λ b. fold (pairs_after app) (if b then filter (λ p. not (is_pair (listener, pattern) p)) ps else ps) (map (did app) hs)) (eq-eqb app app refl)
    ∙ did_heard app (filter (λ p. not (is_pair (listener, pattern) p)) ps) hs
did_heard app ps (steps step ∷ hs) = did_heard app ps hs
did_heard app ps (sends e ∷ hs) = did_heard app ps hs

-- an entry that changes none of an application's pairs
abbrev pub NotHeard : ℕ → Entry → Type 0
NotHeard app (heard a listener pattern) = (a == app) ≡ false
NotHeard app (unheard a listener pattern) = (a == app) ≡ false
NotHeard app entry = Unit {0}

heard_same : (app : ℕ) (ps : List (List ℕ × List ℕ)) (entry : Entry) → NotHeard app entry → pairs_after app ps entry ≡ ps
heard_same app ps (heard a listener pattern) h = ap (λ b. if b then ps ++ (listener, pattern) ∷ [] else ps) h
heard_same app ps (unheard a listener pattern) h = ap (λ b. if b then filter (λ p. not (is_pair (listener, pattern) p)) ps else ps) h
heard_same app ps entry h = refl

pub all_heard_same : (app : ℕ) (ps : List (List ℕ × List ℕ)) (ys : List Entry) → AllByRecursion (NotHeard app) ys → fold (pairs_after app) ps ys ≡ ps
all_heard_same app ps [] a = refl
all_heard_same app ps (y ∷ ys) a = ap (λ t. fold (pairs_after app) t ys) (heard_same app ps y a.0) ∙ all_heard_same app ps ys a.1

pub did_not_heard : (app a : ℕ) (hs : List Happening) → (a == app) ≡ false → AllByRecursion (NotHeard app) (map (did a) hs)
did_not_heard app a [] h = tt
did_not_heard app a (steps step ∷ hs) h = (tt, did_not_heard app a hs h)
did_not_heard app a (sends e ∷ hs) h = (tt, did_not_heard app a hs h)
did_not_heard app a (hears listener pattern ∷ hs) h = (h, did_not_heard app a hs h)
did_not_heard app a (deaf listener pattern ∷ hs) h = (h, did_not_heard app a hs h)

-- OTHER PAIRS IN PLACE OF THOSE THAT WERE HEARD
abbrev Pair : Type 0
Pair = List ℕ × List ℕ

-- what is left of a list without some pairs
abbrev is_among : List Pair → Pair → Bool
is_among ps q = list_any (λ p. is_pair p q) ps

two_filters : (f g : Pair → Bool) (qs : List Pair) → filter f (filter g qs) ≡ filter (λ q. g q && f q) qs
two_filters f g [] = refl
two_filters f g (q ∷ qs) = by (g q) refl (two_filters f g qs)
  where
    by : (b : Bool) → g q ≡ b → filter f (filter g qs) ≡ filter (λ q. g q && f q) qs
        → filter f (if b then q ∷ filter g qs else filter g qs) ≡ (if b && f q then q ∷ filter (λ q. g q && f q) qs else filter (λ q. g q && f q) qs)
    by true h ih = ap (λ l. if f q then q ∷ l else l) ih
    by false h ih = ih

-- two tests that agree on the elements of a list
same_filter : (f g : Pair → Bool) (qs : List Pair) → AllByRecursion (λ q. f q ≡ g q) qs → filter f qs ≡ filter g qs
same_filter f g [] a = refl
same_filter f g (q ∷ qs) a = ap₂ (λ b l. if b then q ∷ l else l) a.0 (same_filter f g qs a.1)

de_morgan : (a b : Bool) → (not a && not b) ≡ not (a || b)
de_morgan true b = refl
de_morgan false b = refl

all_any : (P : Pair → Type 0) → ((q : Pair) → P q) → (qs : List Pair) → AllByRecursion P qs
all_any P f [] = tt
all_any P f (q ∷ qs) = (f q, all_any P f qs)

dropped_pairs : (ps qs : List Pair) → heard_by qs (map (λ (p : List ℕ × List ℕ). deaf p.0 p.1) ps) ≡ filter (λ q. not (is_among ps q)) qs
dropped_pairs [] qs = sym (all_left qs)
  where
    all_left : (xs : List Pair) → filter (λ q. not (is_among [] q)) xs ≡ xs
    all_left [] = refl
    all_left (x ∷ xs) = ap (λ l. x ∷ l) (all_left xs)
dropped_pairs (p ∷ ps) qs =
    dropped_pairs ps (filter (λ q. not (is_pair p q)) qs)
    ∙ two_filters (λ q. not (is_among ps q)) (λ q. not (is_pair p q)) qs
    ∙ same_filter (λ q. not (is_pair p q) && not (is_among ps q)) (λ q. not (is_among (p ∷ ps) q)) qs (all_any _ (λ q. de_morgan (is_pair p q) (is_among ps q)) qs)

pub added_pairs : (ps qs : List Pair) → heard_by qs (map (λ (p : List ℕ × List ℕ). hears p.0 p.1) ps) ≡ qs ++ ps
added_pairs [] qs = sym (append-nil qs)
added_pairs (p ∷ ps) qs = added_pairs ps (qs ++ p ∷ []) ∙ append_assoc qs (p ∷ []) ps

-- a pair is itself, and no other
pair_self : (q : Pair) → is_pair q q ≡ true
pair_self q = ap₂ (λ a b. a && b) ((bytes_eq-Decides q.0 q.0).1 refl) ((bytes_eq-Decides q.1 q.1).1 refl)

both_true : (a b : Bool) → (a && b) ≡ true → (a ≡ true) × (b ≡ true)
both_true true b h = (refl, h)
both_true false b h = absurd (false_true h)

same_heard : (listed : List Pair) (p q : Pair) → is_pair p q ≡ true → is_heard listed p ≡ is_heard listed q
same_heard listed p q h =
    let parts = both_true (bytes_eq p.0 q.0) (bytes_eq p.1 q.1) h in
    let first : p.0 ≡ q.0 = (bytes_eq-Decides p.0 q.0).0 parts.0 in
    let second : p.1 ≡ q.1 = (bytes_eq-Decides p.1 q.1).0 parts.1 in
    ap₂ (λ a b. list_any (λ (x : List ℕ × List ℕ). bytes_eq a x.0 && bytes_eq b x.1) listed) first second

-- a pair that stands in a filtered list passes, and one that passes stands in it where it stood in the list
passes_of : (listed qs : List Pair) (q : Pair) → is_among (filter (λ p. not (is_heard listed p)) qs) q ≡ true → is_heard listed q ≡ false
passes_of listed [] q h = absurd (false_true h)
passes_of listed (x ∷ qs) q h = by (is_heard listed x) refl (passes_of listed qs q) h
  where
    first : (b : Bool) → is_pair x q ≡ b → is_heard listed x ≡ false → (is_among (filter (λ p. not (is_heard listed p)) qs) q ≡ true → is_heard listed q ≡ false)
        → (b || is_among (filter (λ p. not (is_heard listed p)) qs) q) ≡ true → is_heard listed q ≡ false
    first true e n ih g = sym (same_heard listed x q e) ∙ n
    first false e n ih g = ih g

    by : (b : Bool) → is_heard listed x ≡ b → (is_among (filter (λ p. not (is_heard listed p)) qs) q ≡ true → is_heard listed q ≡ false)
        → is_among (if not b then x ∷ filter (λ p. not (is_heard listed p)) qs else filter (λ p. not (is_heard listed p)) qs) q ≡ true → is_heard listed q ≡ false
    by true e ih g = ih g
    by false e ih g = first (is_pair x q) refl e ih g

or_right : (a b : Bool) → b ≡ true → (a || b) ≡ true
or_right true b h = refl
or_right false b h = h

-- each element of a list that passes is among the filtered ones: by a list that the elements stand in
among_more : (listed : List Pair) (x : Pair) (qs : List Pair) (q : Pair) → is_among (filter (λ p. not (is_heard listed p)) qs) q ≡ true
    → is_among (filter (λ p. not (is_heard listed p)) (x ∷ qs)) q ≡ true
among_more listed x qs q h = by (is_heard listed x)
  where
    by : (b : Bool) → is_among (if not b then x ∷ filter (λ p. not (is_heard listed p)) qs else filter (λ p. not (is_heard listed p)) qs) q ≡ true
    by true = h
    by false = or_right (is_pair x q) (is_among (filter (λ p. not (is_heard listed p)) qs) q) h

stands_among : (listed : List Pair) (q : Pair) (qs : List Pair) → is_heard listed q ≡ false → is_among (filter (λ p. not (is_heard listed p)) (q ∷ qs)) q ≡ true
stands_among listed q qs h =
    ap (λ b. is_among (if not b then q ∷ filter (λ p. not (is_heard listed p)) qs else filter (λ p. not (is_heard listed p)) qs) q) h
    ∙ ap (λ b. b || is_among (filter (λ p. not (is_heard listed p)) qs) q) (pair_self q)

abbrev Agrees : List Pair → List Pair → Pair → Type 0
Agrees listed whole q = is_heard listed q ≡ false → is_among (filter (λ p. not (is_heard listed p)) whole) q ≡ true

all_stand : (listed qs : List Pair) → AllByRecursion (Agrees listed qs) qs
all_stand listed [] = tt
all_stand listed (q ∷ qs) = (stands_among listed q qs, wider qs (all_stand listed qs))
  where
    wider : (xs : List Pair) → AllByRecursion (Agrees listed qs) xs → AllByRecursion (Agrees listed (q ∷ qs)) xs
    wider [] a = tt
    wider (x ∷ xs) a = ((λ h. among_more listed q qs x (a.0 h)), wider xs a.1)

not_among : (listed whole : List Pair) (q : Pair) → Agrees listed whole q → not (is_among (filter (λ p. not (is_heard listed p)) whole) q) ≡ is_heard listed q
not_among listed whole q agrees = by (is_heard listed q) refl (is_among (filter (λ p. not (is_heard listed p)) whole) q) refl
  where
    by : (a : Bool) → is_heard listed q ≡ a → (b : Bool) → is_among (filter (λ p. not (is_heard listed p)) whole) q ≡ b → not b ≡ a
    by true e false g = refl
    by false e true g = refl
    by true e true g = absurd (false_true (sym (passes_of listed whole q g) ∙ e))
    by false e false g = absurd (false_true (sym g ∙ agrees e))

pub exchanged_heard : (ps listed : List Pair) → heard_by ps (exchanged ps listed).told ≡ (exchanged ps listed).heard
exchanged_heard ps listed =
    let fallen : List Pair = filter (λ p. not (is_heard listed p)) ps in
    let added : List Pair = filter (λ p. not (is_heard ps p)) (firsts listed) in
    heard_append ps (map (λ (p : List ℕ × List ℕ). deaf p.0 p.1) fallen) (map (λ (p : List ℕ × List ℕ). hears p.0 p.1) added)
    ∙ ap (λ l. heard_by l (map (λ (p : List ℕ × List ℕ). hears p.0 p.1) added))
    (dropped_pairs fallen ps ∙ same_filter (λ q. not (is_among fallen q)) (is_heard listed) ps (all_agree ps (all_stand listed ps)))
    ∙ added_pairs added (filter (is_heard listed) ps)
  where
    all_agree : (xs : List Pair) → AllByRecursion (Agrees listed ps) xs → AllByRecursion (λ q. not (is_among (filter (λ p. not (is_heard listed p)) ps) q) ≡ is_heard listed q) xs
    all_agree [] a = tt
    all_agree (x ∷ xs) a = (not_among listed ps x a.0, all_agree xs a.1)
