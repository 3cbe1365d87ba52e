-- What is sent of one signal, and of signals behind others.
use Rattle.std.proofs.Common.{◌≡◌, ℕ, Bool, true, false, cond, List, [], ◌∷◌, ◌++◌, map, refl, sym, ap, ◌∙◌, append_assoc}
use Rattle.std.proofs.lemmas.List.{append-nil}
use Rattle.atspi_message.specs.Envelope.{Envelope}
use Rattle.atspi_protocol.specs.announcing.Signals.{Signal}
use Rattle.atspi_protocol.specs.exporting.Hearing.{is_covered}
use Rattle.atspi_protocol.specs.exporting.Telling.{asked_for}
use Rattle.atspi_app_signals.specs.Asked.{messages_asked}

abbrev pub Pairs : Type 0
Pairs = List (List ℕ × List ℕ)

pub asked_one : (heard : Pairs) (s : Signal) (new old : List Envelope) → is_covered heard s.event s.minor ≡ true → new ≡ old ++ s.message ∷ []
    → new ≡ old ++ messages_asked heard (s ∷ [])
asked_one heard s new old c e = e ∙ sym (ap (λ b. old ++ map (λ (x : Signal). x.message) (cond b (s ∷ []) [])) c)

pub asked_none : (heard : Pairs) (s : Signal) (old : List Envelope) → is_covered heard s.event s.minor ≡ false → old ≡ old ++ messages_asked heard (s ∷ [])
asked_none heard s old c = sym (append-nil old) ∙ sym (ap (λ b. old ++ map (λ (x : Signal). x.message) (cond b (s ∷ []) [])) c)

pub asked-append : (heard : Pairs) (xs ys : List Signal) → messages_asked heard (xs ++ ys) ≡ messages_asked heard xs ++ messages_asked heard ys
asked-append heard [] ys = refl
asked-append heard (s ∷ xs) ys = at (is_covered heard s.event s.minor) (asked-append heard xs ys)
  where
    at : (b : Bool) → messages_asked heard (xs ++ ys) ≡ messages_asked heard xs ++ messages_asked heard ys
        → map (λ (x : Signal). x.message) (cond b (s ∷ asked_for heard (xs ++ ys)) (asked_for heard (xs ++ ys)))
        ≡ map (λ (x : Signal). x.message) (cond b (s ∷ asked_for heard xs) (asked_for heard xs)) ++ messages_asked heard ys
    at true e = ap (λ l. s.message ∷ l) e
    at false e = e

-- a message that was made and put behind others
pub asked_pushed : (heard : Pairs) (s : Signal) (m : Envelope) (new old : List Envelope) → is_covered heard s.event s.minor ≡ true → m ≡ s.message
    → new ≡ old ++ m ∷ [] → new ≡ old ++ messages_asked heard (s ∷ [])
asked_pushed heard s m new old c k e = asked_one heard s new old c (e ∙ ap (λ x. old ++ x ∷ []) k)

-- some, and more behind them
pub asked_two : (heard : Pairs) (xs ys : List Signal) (first second third : List Envelope) → second ≡ first ++ messages_asked heard xs
    → third ≡ second ++ messages_asked heard ys → third ≡ first ++ messages_asked heard (xs ++ ys)
asked_two heard xs ys first second third d e =
    e ∙ ap (λ l. l ++ messages_asked heard ys) d ∙ append_assoc first (messages_asked heard xs) (messages_asked heard ys)
    ∙ ap (λ l. first ++ l) (sym (asked-append heard xs ys))

-- signals of one event, all or none of which are covered
pub asked_all : {A : Type 0} (heard : Pairs) (tell : A → Signal) (xs : List A) → ((x : A) → is_covered heard (tell x).event (tell x).minor ≡ true)
    → messages_asked heard (map tell xs) ≡ map (λ x. (tell x).message) xs
asked_all heard tell [] c = refl
asked_all heard tell (x ∷ xs) c =
    ap (λ b. map (λ (s : Signal). s.message) (cond b (tell x ∷ asked_for heard (map tell xs)) (asked_for heard (map tell xs)))) (c x)
    ∙ ap (λ l. (tell x).message ∷ l) (asked_all heard tell xs c)

pub asked_nothing : {A : Type 0} (heard : Pairs) (tell : A → Signal) (xs : List A) → ((x : A) → is_covered heard (tell x).event (tell x).minor ≡ false)
    → messages_asked heard (map tell xs) ≡ []
asked_nothing heard tell [] c = refl
asked_nothing heard tell (x ∷ xs) c =
    ap (λ b. map (λ (s : Signal). s.message) (cond b (tell x ∷ asked_for heard (map tell xs)) (asked_for heard (map tell xs)))) (c x)
    ∙ asked_nothing heard tell xs c

-- one message, and others behind it
pub asked_front : (heard : Pairs) (signals : List Signal) (m k : Envelope) (ms new mid old : List Envelope) → messages_asked heard signals ≡ k ∷ ms → m ≡ k
    → mid ≡ old ++ m ∷ [] → new ≡ mid ++ ms → new ≡ old ++ messages_asked heard signals
asked_front heard signals m k ms new mid old a is d e =
    e ∙ ap (λ l. l ++ ms) (d ∙ ap (λ x. old ++ x ∷ []) is) ∙ append_assoc old (k ∷ []) ms ∙ ap (λ l. old ++ l) (sym a)

pub asked_empty : (heard : Pairs) (signals : List Signal) (old : List Envelope) → messages_asked heard signals ≡ [] → old ≡ old ++ messages_asked heard signals
asked_empty heard signals old a = sym (append-nil old) ∙ ap (λ l. old ++ l) (sym a)
