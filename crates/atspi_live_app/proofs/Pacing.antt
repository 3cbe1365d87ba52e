-- The lines of an input and the rounds that they take, one behind the other.
use Rattle.std.proofs.Common.{◌≡◌, ◌<◌, ◌≤◌, ℕ, ◌+◌, ◌-◌, List, [], ◌∷◌, ◌++◌, map, Option, refl, sym, ap, subst, ◌∙◌, inl, inr, arith}
use Rattle.std.specs.Prelude.{◌⊎◌, Ok}
use Rattle.atspi_live_host.specs.declared.call.Call.{Call}
use Rattle.atspi_live_conversation.specs.Moved.{Tells}
use Rattle.atspi_live_conversation.specs.Rounds.{Makes}
use Rattle.atspi_live_app.specs.Input.{left_in}
use Rattle.atspi_live_app.specs.inner.Input.{Passes}
use Rattle.atspi_live_app.specs.Lines.{lines_of}
use Rattle.atspi_live_app.specs.Pace.{AllTake, BreaksOver, EndsTurn, GoesOn, Heard, IsPaced, Proceeds, Starts, StopsAt, Takes, rounds_of, total}
use Rattle.atspi_live_app.specs.Standing.{Event}
use Rattle.atspi_live_app.specs.declared.asking.Ask.{Ask}
use Rattle.atspi_live_app.specs.declared.asking.Ask.TheVariants as ask
use Rattle.atspi_live_app.specs.declared.over.Over.{Over}
use Rattle.atspi_live_app.specs.declared.over.Over.TheVariants as overs
use Rattle.atspi_live_app.proofs.Pieces.{HasRead, has_broken}
use Rattle.atspi_live_app.proofs.Hears.{AllHeardBy, heard_first, heard_next, heard_on, heard_same}

lines_in : List (List ℕ × ℕ) → List (List ℕ)
lines_in ts = map (λ (t : List ℕ × ℕ). t.0) ts

-- one more line
lines_more : (ts : List (List ℕ × ℕ)) (t : List ℕ × ℕ) (rest : List (List ℕ)) → map (λ (x : List ℕ × ℕ). x.0) (ts ++ t ∷ []) ++ rest ≡ map (λ (x : List ℕ × ℕ). x.0) ts ++ t.0 ∷ rest
lines_more [] t rest = refl
lines_more (x ∷ xs) t rest = ap (λ (w : List (List ℕ)). x.0 ∷ w) (lines_more xs t rest)

total_more : (ts : List (List ℕ × ℕ)) (t : List ℕ × ℕ) → total (ts ++ t ∷ []) ≡ total ts + t.1
total_more [] t = omega arith
total_more (x ∷ xs) t = omega (arith, total_more xs t)

take_more : (ts : List (List ℕ × ℕ)) (t : List ℕ × ℕ) → AllTake ts → Takes t → AllTake (ts ++ t ∷ [])
take_more [] t a b = (b, tt)
take_more (x ∷ xs) t a b = (a.0, take_more xs t a.1 b)

starts_later : (before n m : ℕ) (ts : List (List ℕ × ℕ)) → n ≤ m → Starts before n ts → Starts before m ts
starts_later before n m [] h s = tt
starts_later before n m (x ∷ xs) h s = (omega (arith, h, s.0), starts_later (before + x.1) n m xs h s.1)

starts_more : (before n : ℕ) (ts : List (List ℕ × ℕ)) (t : List ℕ × ℕ) → Starts before n ts → before + total ts < n → Starts before n (ts ++ t ∷ [])
starts_more before n [] t s h = (omega (arith, h), tt)
starts_more before n (x ∷ xs) t s h = (s.0, starts_more (before + x.1) n xs t s.1 (omega (arith, h)))

some_rounds : (what : Ask) → 0 < rounds_of what
some_rounds (ask.Wait n) = omega arith
some_rounds (ask.Start name) = omega arith
some_rounds (ask.Edit edit) = omega arith
some_rounds ask.Nothing = omega arith

takes_some : (t : List ℕ × ℕ) → Takes t → 0 < t.1
takes_some t h = omega (arith, h.2, some_rounds h.0)

-- the line that was passed
pub proceeds : (held text marks : List ℕ) (at number at' number' place count rounds : ℕ) (what : Ask) → held ≡ text → at ≡ place → Passes (Ok what) held at number at' number' → rounds ≡ rounds_of what
    → Proceeds text place marks count rounds at' (marks ++ count ∷ [])
proceeds held text marks at number at' number' place count rounds what same stays p r =
    inl (
      p.line,
      subst (λ (x : ℕ). left_in text x ≡ p.line ∷ left_in text at') stays (subst (λ (x : List ℕ). left_in x at ≡ p.line ∷ left_in x at') same p.first),
      (what, p.asks, r),
      refl,
    )

pub none_proceeds : (held text marks : List ℕ) (at at' place count : ℕ) → held ≡ text → at ≡ place → left_in held at ≡ [] → at' ≡ at → Proceeds text place marks count 1 at' marks
none_proceeds held text marks at at' place count same stays none passed =
    inr (subst (λ (x : ℕ). left_in text x ≡ []) stays (subst (λ (x : List ℕ). left_in x at ≡ []) same none), passed ∙ stays, refl, refl)

-- so many rounds have begun, of the lines those before a place were done, each behind so many messages, and the last of them takes so many rounds more
pub record Paced (text : List ℕ) (place begun takes k : ℕ) (calls : Option (List Call)) (marks : List ℕ) : Type 0 where
  pub done : List (List ℕ × ℕ)
  pub all : map (λ (t : List ℕ × ℕ). t.0) done ++ left_in text place ≡ lines_of text
  pub take : AllTake done
  pub started : Starts 0 begun done
  pub heard : AllHeardBy k calls begun done marks
  pub rest : (total done ≡ begun + takes) ⊎ ((left_in text place ≡ []) × (total done ≤ begun) × (takes ≡ 0))

pub paced_first : (text : List ℕ) (k : ℕ) (calls : Option (List Call)) → Tells k calls [] [] [] → Paced text 0 0 0 k calls []
paced_first text k calls fresh = record { done = []; all = refl; take = tt; started = tt; heard = heard_first k calls fresh; rest = inl refl }

-- the last line goes on
paced_on : (text : List ℕ) (place n takes due place' k : ℕ) (old new : Option (List Call)) (marks marks' : List ℕ) → Paced text place n takes k old marks → HasRead k old new → 0 < takes → due ≡ takes → place' ≡ place → marks' ≡ marks
    → Paced text place' (n + 1) (due - 1) k new marks'
paced_on text place n takes due place' k old new marks marks' p one some same stays still = record {
  done = p.done;
  all = subst (λ (x : ℕ). map (λ (t : List ℕ × ℕ). t.0) p.done ++ left_in text x ≡ lines_of text) (sym stays) p.all;
  take = p.take;
  started = starts_later 0 n (n + 1) p.done (omega arith) p.started;
  heard = subst (λ (ms : List ℕ). AllHeardBy k new (n + 1) p.done ms) (sym still) (heard_on k n old new p.done marks p.heard one);
  rest = by p.rest;
}
  where
    by : (total p.done ≡ n + takes) ⊎ ((left_in text place ≡ []) × (total p.done ≤ n) × (takes ≡ 0))
        → (total p.done ≡ (n + 1) + (due - 1)) ⊎ ((left_in text place' ≡ []) × (total p.done ≤ n + 1) × (due - 1 ≡ 0))
    by (inl e) = inl (omega (arith, e, some, same))
    by (inr e) = absurd (omega (arith, e.2, some))

-- the next line is done
paced_next : (text : List ℕ) (place n takes due place' k count : ℕ) (old new : Option (List Call)) (marks marks' line : List ℕ) → Paced text place n takes k old marks → HasRead k old new → Heard k old count → takes ≡ 0
    → left_in text place ≡ line ∷ left_in text place' → Takes (line, due) → marks' ≡ marks ++ count ∷ [] → Paced text place' (n + 1) (due - 1) k new marks'
paced_next text place n takes due place' k count old new marks marks' line p one behind zero first t more = by p.rest
  where
    by : (total p.done ≡ n + takes) ⊎ ((left_in text place ≡ []) × (total p.done ≤ n) × (takes ≡ 0)) → Paced text place' (n + 1) (due - 1) k new marks'
    by (inl e) = record {
      done = p.done ++ (line, due) ∷ [];
      all = lines_more p.done (line, due) (left_in text place') ∙ ap (λ (w : List (List ℕ)). map (λ (t : List ℕ × ℕ). t.0) p.done ++ w) (sym first) ∙ p.all;
      take = take_more p.done (line, due) p.take t;
      started = starts_more 0 (n + 1) p.done (line, due) (starts_later 0 n (n + 1) p.done (omega arith) p.started) (omega (arith, e, zero));
      heard = subst (λ (ms : List ℕ). AllHeardBy k new (n + 1) (p.done ++ (line, due) ∷ []) ms) (sym more) (heard_next k n count old new p.done (line, due) marks p.heard behind (omega (arith, e, zero)) one);
      rest = inl (omega (arith, total_more p.done (line, due), e, zero, takes_some (line, due) t));
    }
    by (inr e) = absurd (none e.0)
      where
        none : left_in text place ≡ [] → ⊥
        none h = cc

-- no line is left
paced_out : (text : List ℕ) (place n takes due place' k : ℕ) (old new : Option (List Call)) (marks marks' : List ℕ) → Paced text place n takes k old marks → HasRead k old new → takes ≡ 0 → left_in text place ≡ [] → place' ≡ place → due ≡ 1
    → marks' ≡ marks → Paced text place' (n + 1) (due - 1) k new marks'
paced_out text place n takes due place' k old new marks marks' p one zero none stays first still = record {
  done = p.done;
  all = subst (λ (x : ℕ). map (λ (t : List ℕ × ℕ). t.0) p.done ++ left_in text x ≡ lines_of text) (sym stays) p.all;
  take = p.take;
  started = starts_later 0 n (n + 1) p.done (omega arith) p.started;
  heard = subst (λ (ms : List ℕ). AllHeardBy k new (n + 1) p.done ms) (sym still) (heard_on k n old new p.done marks p.heard one);
  rest = inr (subst (λ (x : ℕ). left_in text x ≡ []) (sym stays) none, by p.rest, omega (arith, first));
}
  where
    by : (total p.done ≡ n + takes) ⊎ ((left_in text place ≡ []) × (total p.done ≤ n) × (takes ≡ 0)) → total p.done ≤ n + 1
    by (inl e) = omega (arith, e, zero)
    by (inr e) = omega (arith, e.1)

pub paced_more : (text : List ℕ) (place n takes due place' k count : ℕ) (old new : Option (List Call)) (marks marks' : List ℕ) → Paced text place n takes k old marks → HasRead k old new → Heard k old count
    → GoesOn text place marks count takes due place' marks' → Paced text place' (n + 1) (due - 1) k new marks'
paced_more text place n takes due place' k count old new marks marks' p one behind (inl g) = paced_on text place n takes due place' k old new marks marks' p one g.0 g.1 g.2 g.3
paced_more text place n takes due place' k count old new marks marks' p one behind (inr g) = by g.1
  where
    by : Proceeds text place marks count due place' marks' → Paced text place' (n + 1) (due - 1) k new marks'
    by (inl x) = paced_next text place n takes due place' k count old new marks marks' x.0 p one behind g.0 x.1 x.2 x.3
    by (inr x) = paced_out text place n takes due place' k old new marks marks' p one g.0 x.0 x.1 x.2 x.3

-- behind a turn that ended the run: in a round, or before it
pub paced_last : (P : List Event → List (List ℕ) → Type 0) (text : List ℕ) (place n takes k most : ℕ) (over : Over) (old new : Option (List Call)) (t g marks marks' : List ℕ) → Paced text place n takes k old marks → EndsTurn text place marks takes k old over marks'
    → Makes old new (BreaksOver P (lines_of text) k most over t g) → (place' takes' n' : ℕ) × Paced text place' n' takes' k new marks'
paced_last P text place n takes k most (overs.Ended ending) old new t g marks marks' p e b =
    (e.1, e.0 - 1, n + 1, paced_more text place n takes e.0 e.1 k e.2 old new marks marks' p (has_broken P (lines_of text) k most ending t g old new b) e.4 e.3)
paced_last P text place n takes k most (overs.Stopped stop) old new t g marks marks' p e b = (
  place,
  takes,
  n,
  record {
    done = p.done;
    all = p.all;
    take = p.take;
    started = p.started;
    heard = subst (λ (ms : List ℕ). AllHeardBy k new n p.done ms) (sym e.1) (heard_same k n old new p.done marks p.heard b);
    rest = p.rest;
  },
)

pub is_paced : (text : List ℕ) (place n takes k : ℕ) (calls : Option (List Call)) (marks : List ℕ) → Paced text place n takes k calls marks → IsPaced (lines_of text) n
is_paced text place n takes k calls marks p = record { done = p.done; left = left_in text place; all = p.all; take = p.take; started = p.started; due = by p.rest }
  where
    by : (total p.done ≡ n + takes) ⊎ ((left_in text place ≡ []) × (total p.done ≤ n) × (takes ≡ 0)) → (left_in text place ≡ []) ⊎ (n ≤ total p.done)
    by (inl e) = inr (omega (arith, e))
    by (inr e) = inl e.0

pub stops_at : (text : List ℕ) (place n takes k : ℕ) (calls : Option (List Call)) (marks : List ℕ) → Paced text place n takes k calls marks → takes ≡ 0 → StopsAt (lines_of text) n
stops_at text place n takes k calls marks p zero = record { done = p.done; left = left_in text place; all = p.all; take = p.take; started = p.started; due = by p.rest }
  where
    by : (total p.done ≡ n + takes) ⊎ ((left_in text place ≡ []) × (total p.done ≤ n) × (takes ≡ 0)) → (n ≡ total p.done) ⊎ ((left_in text place ≡ []) × (total p.done ≤ n))
    by (inl e) = inl (omega (arith, e, zero))
    by (inr e) = inr (e.0, e.1)
