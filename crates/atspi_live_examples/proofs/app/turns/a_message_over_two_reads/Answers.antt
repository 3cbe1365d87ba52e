use Rattle.std.proofs.Common.{◌≡◌, ℕ, List, [], ◌∷◌, ◌++◌, map, take, refl, subst, inl, arith}
use Rattle.std.specs.List.{concat}
use Rattle.atspi_stream.specs.Stream.{few}
use Rattle.atspi_live_conversation.proofs.LineLemmas.{none_behind}
use Rattle.atspi_message.specs.Envelope.{Envelope}
use Rattle.atspi_live_app.specs.Asking.{IsAsk}
use Rattle.atspi_live_app.specs.Pace.{AllTake, Takes, rounds_of, total}
use Rattle.atspi_live_app.specs.Standing.{Event, does, takes}
use Rattle.atspi_live_app.specs.Turns.{AreWhole, IsBefore}
use Rattle.atspi_live_app.specs.declared.asking.Ask.{Ask}
use Rattle.atspi_live_examples.proofs.app.turns.a_message_over_two_reads.Goals as goal

-- of nothing no message is whole
none_whole : AreWhole [] []
none_whole = record {
  messages = [];
  rest = [];
  parted = record { are = tt; parted = none_behind };
  awaits = few (omega arith);
  are = refl;
}

pub returns-clause-between : goal.returns-clause-between
returns-clause-between c = λ app wait name t b u e one two three first whole. record {
  each = by app wait name t b u e one two first whole;
  done = (app, 1) ∷ (wait, 2) ∷ (name, 1) ∷ [];
  lines = refl;
  timed = (one, (two, (three, tt)));
  due = inl refl;
}
  where
    by : (app wait name t b u : List ℕ) (e : Envelope) → Takes (app, 1) → Takes (wait, 2) → AreWhole [] (concat (t ∷ [])) → AreWhole (e ∷ []) (concat (t ∷ b ∷ u ∷ []))
        → (before after : List Event) (line : List ℕ) → before ++ does line ∷ after ≡ does app ∷ does wait ∷ takes e ∷ does name ∷ [] → IsBefore (t ∷ b ∷ u ∷ [] ∷ []) before
    by app wait name t b u e one two first whole [] after line h = record { done = []; lines = refl; timed = tt; begun = omega arith; whole = none_whole }
    by app wait name t b u e one two first whole (x ∷ []) after line h =
        let same : does app ≡ x = cc in subst (λ (z : Event). IsBefore (t ∷ b ∷ u ∷ [] ∷ []) (z ∷ [])) same (record { done = (app, 1) ∷ []; lines = refl; timed = (one, tt); begun = omega arith; whole = first })
    by app wait name t b u e one two first whole (x ∷ y ∷ []) after line h = absurd cc
    by app wait name t b u e one two first whole (x ∷ y ∷ z ∷ []) after line h =
        let same : does app ∷ does wait ∷ takes e ∷ [] ≡ x ∷ y ∷ z ∷ [] = cc in subst (λ (w : List Event). IsBefore (t ∷ b ∷ u ∷ [] ∷ []) w) same
        (record { done = (app, 1) ∷ (wait, 2) ∷ []; lines = refl; timed = (one, (two, tt)); begun = omega arith; whole = whole })
    by app wait name t b u e one two first whole (x ∷ y ∷ z ∷ w ∷ more) after line h = absurd (long more h)
      where
        long : (more : List Event) → x ∷ y ∷ z ∷ w ∷ (more ++ does line ∷ after) ≡ does app ∷ does wait ∷ takes e ∷ does name ∷ [] → ⊥
        long [] k = cc
        long (v ∷ vs) k = cc

-- two lines that take one round and two
three_rounds : (app wait : List ℕ) (ts : List (List ℕ × ℕ)) → ((what : Ask) → IsAsk what app → rounds_of what ≡ 1) → ((what : Ask) → IsAsk what wait → rounds_of what ≡ 2) → map (λ (t : List ℕ × ℕ). t.0) ts ≡ app ∷ wait ∷ [] → AllTake ts
    → total ts ≡ 3
three_rounds app wait [] one two e a = absurd cc
three_rounds app wait (x ∷ []) one two e a = absurd cc
three_rounds app wait (x ∷ y ∷ []) one two e a =
    let first : x.0 ≡ app = cc in
    let second : y.0 ≡ wait = cc in
    omega (arith, a.0.2, one a.0.0 (subst (λ (l : List ℕ). IsAsk a.0.0 l) first a.0.1), a.1.0.2, two a.1.0.0 (subst (λ (l : List ℕ). IsAsk a.1.0.0 l) second a.1.0.1))
three_rounds app wait (x ∷ y ∷ z ∷ more) one two e a = absurd cc

pub returns-clause-not_behind : goal.returns-clause-not_behind
returns-clause-not_behind c = λ app wait name t b u e one two none w.
    let x = w.each (does app ∷ does wait ∷ []) (takes e ∷ []) name refl in
    none (subst (λ (n : ℕ). AreWhole [] (concat (take n (t ∷ b ∷ u ∷ [] ∷ [])))) (three_rounds app wait x.done one two x.lines x.timed) x.whole)
