-- What a reader asks next, and the state in which its call waits.
use Rattle.std.proofs.Common.{◌≡◌, ℕ, List, [], ◌∷◌, ◌++◌, Option, Some, None, refl, sym, ap, ◌∙◌, append_assoc}
use Rattle.std.proofs.lemmas.List.{append-nil}
use Rattle.atspi_message.specs.Envelope.{Envelope}
use Rattle.atspi_tree_model.specs.declared.view.Row.{Row}
use Rattle.atspi_tree_model.specs.Forest.{Forest}
use Rattle.atspi_protocol.specs.news.NewsOf.{or_empty}
use Rattle.atspi_protocol.specs.declared.following.question.Question.{Question}
use Rattle.atspi_protocol.specs.following.ReaderState.{Followed, Pending, Done, ReaderState}
use Rattle.atspi_protocol.specs.following.Wishes.{wishes, wishes_of}
use Rattle.atspi_protocol.specs.following.Replied.{changed}
use Rattle.atspi_protocol.specs.following.Takes.{goes_on, notes, noted, asks_first}
use Rattle.atspi_reader_known.specs.Wanted.{first}
use Rattle.atspi_reader.specs.declared.asks.Next.{Next}
use Rattle.atspi_reader.specs.declared.asks.Next.TheVariants.{Nothing, Start, Wish}
use Rattle.atspi_reader.specs.inner.Asked.{chosen, next_for, sent, number_after, started, went_on}
use Rattle.atspi_reader.specs.inner.Turns.{did}
use Rattle.atspi_reader.proofs.Changed.{wishes_changed}

-- what is asked in a state, and what then happens
abbrev pub asked_at : ReaderState → Option Question
asked_at s = chosen s.pending s.to_come (first (wishes s.apps))

abbrev pub next_at : ReaderState → Next
next_at s = next_for s.pending s.next s.to_come (first (wishes s.apps))

-- a state by its parts
abbrev state : List Question → Option Pending → Option (List ℕ) → List Followed → ℕ → List Done → ReaderState
state to_come pending registry apps next out = record { to_come = to_come; pending = pending; registry = registry; apps = apps; next = next; out = out }

module _ (registry : Option (List ℕ)) (apps : List Followed) (next : ℕ) (out : List Done) where
  goes_by : (to_come : List Question) (pending : Option Pending) (ws : List Question) → wishes apps ≡ ws
      → goes_on (state to_come pending registry apps next out)
      ≡ did (went_on (next_for pending next to_come (first ws)) (state to_come pending registry apps next out)) (sent next (chosen pending to_come (first ws)))
  goes_by to_come (Some p) ws e = ap (state to_come (Some p) registry apps next) (sym (append-nil out))
  goes_by (start ∷ to_come) None ws e = refl
  goes_by [] None [] e = ap (asks_first (state [] None registry apps next out)) e ∙ ap (state [] None registry apps next) (sym (append-nil out))
  goes_by [] None (w ∷ ws) e = ap (asks_first (state [] None registry apps next out)) e

  number_by : (to_come : List Question) (pending : Option Pending) (ws : List Question) → wishes apps ≡ ws
      → (goes_on (state to_come pending registry apps next out)).next ≡ number_after next (chosen pending to_come (first ws))
  number_by to_come (Some p) ws e = refl
  number_by (start ∷ to_come) None ws e = refl
  number_by [] None [] e = ap (λ (l : List Question). (asks_first (state [] None registry apps next out) l).next) e
  number_by [] None (w ∷ ws) e = ap (λ (l : List Question). (asks_first (state [] None registry apps next out) l).next) e

  apps_by : (to_come : List Question) (pending : Option Pending) (ws : List Question) → wishes apps ≡ ws
      → (goes_on (state to_come pending registry apps next out)).apps ≡ apps
  apps_by to_come (Some p) ws e = refl
  apps_by (start ∷ to_come) None ws e = refl
  apps_by [] None [] e = ap (λ (l : List Question). (asks_first (state [] None registry apps next out) l).apps) e
  apps_by [] None (w ∷ ws) e = ap (λ (l : List Question). (asks_first (state [] None registry apps next out) l).apps) e

  rests_by : (to_come : List Question) (pending : Option Pending) (ws : List Question) → wishes apps ≡ ws
      → (goes_on (state to_come pending registry apps next out)).pending ≡ None → wishes apps ≡ []
  rests_by to_come (Some p) ws e h = absurd cc
  rests_by (start ∷ to_come) None ws e h = absurd cc
  rests_by [] None [] e h = e
  rests_by [] None (w ∷ ws) e h =
      let some = sym (ap (λ (l : List Question). (asks_first (state [] None registry apps next out) l).pending) e) ∙ h in absurd cc

pub goes : (s : ReaderState) → goes_on s ≡ did (went_on (next_at s) s) (sent s.next (asked_at s))
goes s = goes_by s.registry s.apps s.next s.out s.to_come s.pending (wishes s.apps) refl

pub goes-next : (s : ReaderState) → (goes_on s).next ≡ number_after s.next (asked_at s)
goes-next s = number_by s.registry s.apps s.next s.out s.to_come s.pending (wishes s.apps) refl

pub goes-apps : (s : ReaderState) → (goes_on s).apps ≡ s.apps
goes-apps s = apps_by s.registry s.apps s.next s.out s.to_come s.pending (wishes s.apps) refl

-- where no call waits then, nothing is wanted
pub goes_rests : (s : ReaderState) → (goes_on s).pending ≡ None → wishes (goes_on s).apps ≡ []
goes_rests s h = ap wishes (goes-apps s) ∙ rests_by s.registry s.apps s.next s.out s.to_come s.pending (wishes s.apps) refl h

went-did : (n : Next) (s : ReaderState) (ds : List Done) → did (went_on n s) ds ≡ went_on n (did s ds)
went-did Nothing s ds = refl
went-did (Start number) s ds = by s.to_come
  where
    by : (to_come : List Question) → did (started s number to_come) ds ≡ started (did s ds) number to_come
    by [] = refl
    by (start ∷ to_come) = refl
went-did (Wish number question) s ds = refl

-- a question that was queued, and waits
pub gone : (s : ReaderState) (n : Next) (ds : List Done) → n ≡ next_at s → ds ≡ sent s.next (asked_at s) → went_on n (did s ds) ≡ goes_on s
gone s n ds e f =
    ap (λ (m : Next). went_on m (did s ds)) e ∙ ap (λ (l : List Done). went_on (next_at s) (did s l)) f
    ∙ sym (went-did (next_at s) s (sent s.next (asked_at s))) ∙ sym (goes s)

-- what was spoken before it
pub did-did : (s : ReaderState) (xs ys : List Done) → did s (xs ++ ys) ≡ did (did s xs) ys
did-did s xs ys = ap (λ (l : List Done). record s { out = l }) (sym (append_assoc s.out xs ys))

-- what is wanted does not depend on the serials
pub noted_wishes : (serial : ℕ) (app : Followed) → wishes_of (noted serial app) ≡ wishes_of app
noted_wishes serial app = by app.view refl
  where
    by : (v : Option (Forest Row)) → app.view ≡ v → wishes_of (noted serial app) ≡ wishes_of app
    by None e = rw e refl
    by (Some v) e = rw e refl

pub wishes-noted : (serial : ℕ) (name : List ℕ) (apps : List Followed) → wishes (changed (noted serial) name apps) ≡ wishes apps
wishes-noted serial name apps = wishes_changed (noted serial) (noted_wishes serial) name apps

notes_by : (s : ReaderState) (e : Envelope) (to_come : List Question) (pending : Option Pending) (ws : List Question) → wishes s.apps ≡ ws
    → goes_on (notes (state to_come pending s.registry s.apps s.next s.out) e) ≡ notes (goes_on (state to_come pending s.registry s.apps s.next s.out)) e
notes_by s e to_come (Some p) ws h = refl
notes_by s e (start ∷ to_come) None ws h = refl
notes_by s e [] None [] h =
    let apps = changed (noted e.serial) (or_empty e.sender) s.apps in
    ap (asks_first (state [] None s.registry apps s.next s.out)) (wishes-noted e.serial (or_empty e.sender) s.apps ∙ h)
    ∙ sym (ap (λ (l : List Question). notes (asks_first (state [] None s.registry s.apps s.next s.out) l) e) h)
notes_by s e [] None (w ∷ ws) h =
    let apps = changed (noted e.serial) (or_empty e.sender) s.apps in
    ap (asks_first (state [] None s.registry apps s.next s.out)) (wishes-noted e.serial (or_empty e.sender) s.apps ∙ h)
    ∙ sym (ap (λ (l : List Question). notes (asks_first (state [] None s.registry s.apps s.next s.out) l) e) h)

pub goes-notes : (s : ReaderState) (e : Envelope) → goes_on (notes s e) ≡ notes (goes_on s) e
goes-notes s e = notes_by s e s.to_come s.pending (wishes s.apps) refl
