-- Which step a message announces: by the words of the headline just the step that the laws of traces say.
use Rattle.std.proofs.Common.{◌≡◌, ℕ, Bool, true, false, List, [], ◌∷◌, ◌++◌, length, Option, None, Some, refl, sym, ap, ap₂, ◌∙◌, subst, arith, is_some}
use Rattle.std.specs.Prelude.{◌==◌, ◌&&◌, if◌then◌else◌}
use Rattle.std.proofs.lemmas.Bool.{eq-eqb, eqb-true}
use Rattle.std.proofs.lemmas.List.{append_assoc}
use Rattle.atspi_tree_model.specs.declared.step.Step.{Step}
use Rattle.atspi_script_lines.specs.declared.line.Party.{Party}
use Rattle.atspi_script_lines.specs.declared.line.Party.TheVariants.{App}
use Rattle.atspi_protocol.specs.announcing.Signals.{Signal}
use Rattle.atspi_protocol.specs.announcing.Announced.{announced}
use Rattle.atspi_protocol.specs.exporting.Starting.{name_or_empty}
use Rattle.atspi_trace.specs.Entry.{Entry, started, changed, sent, got, heard, unheard, spoke, showed, exited, gone, dropped, busy, quiet}
use Rattle.atspi_trace.specs.World.{Said}
use Rattle.atspi_headline.specs.Words as here
use Rattle.atspi_headline.specs.Words.{Act, begins_line, moves_bytes, takes_end, writes, entries_in, Along, last_of, without_last, before_sent}
use Rattle.atspi_headline.specs.Headline.{signals_of, is_first_covered, step_told, step_of}
use Rattle.atspi_trace_laws.specs.laws.Words as told
use Rattle.atspi_trace_laws.specs.laws.NineLaws.{IsAskedFor, Announces}
use Rattle.atspi_trace_laws.proofs.OfOrder.Parties.{no_none, same_some, false_true}
use Rattle.atspi_trace_laws.proofs.OfTaken.Said.{TellsTree}
use Rattle.atspi_headline_laws.proofs.Making.{entries_more}
use Rattle.atspi_headline_laws.proofs.Reading.{before_told, pairs_told}
use Rattle.atspi_headline_laws.proofs.Telling.{signals_same, HasNext, IsTight, along_split}

-- LISTS AND THEIR LAST
last_split : (xs : List Act) (x : Act) → last_of xs ≡ Some x → xs ≡ without_last xs ++ x ∷ []
last_split [] x h = absurd (no_none x h)
last_split (y ∷ []) x h = ap (λ z. z ∷ []) (same_some y x h)
last_split (y ∷ (z ∷ zs)) x h = ap (λ l. y ∷ l) (last_split (z ∷ zs) x h)

last_is : (xs : List Act) (x : Act) → last_of (xs ++ x ∷ []) ≡ Some x
last_is [] x = refl
last_is (y ∷ []) x = refl
last_is (y ∷ (z ∷ zs)) x = last_is (z ∷ zs) x

front_is : (xs : List Act) (x : Act) → without_last (xs ++ x ∷ []) ≡ xs
front_is [] x = refl
front_is (y ∷ []) x = refl
front_is (y ∷ (z ∷ zs)) x = ap (λ l. y ∷ l) (front_is (z ∷ zs) x)

-- the entries of a run, split at one
pub record Splits (run : List Act) (early : List Entry) (entry : Entry) (later : List Entry) : Type 0 where
  pub front : List Act
  pub behind : List Act
  pub is : run ≡ front ++ writes entry ∷ behind
  pub before : entries_in front ≡ early
  pub after : entries_in behind ≡ later

abbrev first_or : Entry → List Entry → Entry
first_or x [] = x
first_or x (y ∷ ys) = y

abbrev rest_of : List Entry → List Entry
rest_of [] = []
rest_of (x ∷ xs) = xs

no_entry : (early : List Entry) (entry : Entry) (later : List Entry) → [] ≡ early ++ entry ∷ later → ⊥
no_entry [] entry later h = absurd (omega (arith, ap length h))
no_entry (e ∷ es) entry later h = absurd (omega (arith, ap length h))

behind_act : (act : Act) (run : List Act) (early : List Entry) (entry : Entry) (later : List Entry) → entries_in (act ∷ []) ≡ [] → Splits run early entry later → Splits (act ∷ run) early entry later
behind_act act run early entry later none s = record {
  front = act ∷ s.front;
  behind = s.behind;
  is = ap (λ l. act ∷ l) s.is;
  before = entries_more (act ∷ []) s.front ∙ ap (λ l. l ++ entries_in s.front) none ∙ s.before;
  after = s.after;
}

split_at : (run : List Act) (early : List Entry) (entry : Entry) (later : List Entry) → entries_in run ≡ early ++ entry ∷ later → Splits run early entry later
split_at [] early entry later h = absurd (no_entry early entry later h)
split_at (begins_line line ∷ run) early entry later h = behind_act (begins_line line) run early entry later refl (split_at run early entry later h)
split_at (moves_bytes who up count ∷ run) early entry later h = behind_act (moves_bytes who up count) run early entry later refl (split_at run early entry later h)
split_at (takes_end who ∷ run) early entry later h = behind_act (takes_end who) run early entry later refl (split_at run early entry later h)
split_at (writes x ∷ run) [] entry later h =
    record { front = []; behind = run; is = ap (λ y. writes y ∷ run) (ap (first_or x) h); before = refl; after = ap rest_of h }
split_at (writes x ∷ run) (e ∷ early) entry later h =
    let s = split_at run early entry later (ap rest_of h) in
    record {
      front = writes x ∷ s.front;
      behind = s.behind;
      is = ap (λ l. writes x ∷ l) s.is;
      before = ap₂ (λ y l. y ∷ l) (ap (first_or x) h) s.before;
      after = s.after;
    }

-- what stands before a message is a front
front_rest : (who : Party) (serial : ℕ) (run : List Act) → (rest : List Act) × (run ≡ before_sent who serial run ++ rest)
front_rest who serial [] = ([], refl)
front_rest who serial (act ∷ run) = by (here.is_sent_as who serial act) (front_rest who serial run)
  where
    by : (b : Bool) → ((rest : List Act) × (run ≡ before_sent who serial run ++ rest)) → (rest : List Act) × (act ∷ run ≡ (if b then [] else act ∷ before_sent who serial run) ++ rest)
    by true x = (act ∷ run, refl)
    by false x = (x.0, ap (λ l. act ∷ l) x.1)

-- WHAT IS ASKED FOR, both ways
asked_of : (pairs : List (List ℕ × List ℕ)) (signals : List Signal) → is_first_covered pairs signals ≡ true → IsAskedFor pairs signals
asked_of pairs [] h = absurd (false_true h)
asked_of pairs (signal ∷ echoes) h = h

covered_of : (pairs : List (List ℕ × List ℕ)) (signals : List Signal) → IsAskedFor pairs signals → is_first_covered pairs signals ≡ true
covered_of pairs [] h = absurd h
covered_of pairs (signal ∷ echoes) h = h

abbrev first_act : Act → List Act → Act
first_act y [] = y
first_act y (z ∷ zs) = z

other_next : (act : Act) (acts : List Act) → here.is_entry act ≡ false → HasNext (act ∷ acts) → ⊥
other_next act acts h x = false_true (sym h ∙ ap (λ l. here.is_entry (first_act act l)) x.2)

-- no act that writes nothing stands next, where an entry stands next
none_behind : (acts rest : List Act) → entries_in acts ≡ [] → HasNext (acts ++ rest) → acts ≡ []
none_behind [] rest none n = refl
none_behind (writes entry ∷ acts) rest none n = absurd (omega (arith, ap length none))
none_behind (begins_line line ∷ acts) rest none n = absurd (other_next (begins_line line) (acts ++ rest) refl n)
none_behind (moves_bytes who up count ∷ acts) rest none n = absurd (other_next (moves_bytes who up count) (acts ++ rest) refl n)
none_behind (takes_end who ∷ acts) rest none n = absurd (other_next (takes_end who) (acts ++ rest) refl n)

-- A STEP THAT IS TOLD
told_if : (b : Bool) (step other : Step) → (if b then Some step else None) ≡ Some other → (b ≡ true) × (step ≡ other)
told_if true step other h = (refl, same_some step other h)
told_if false step other h = absurd (no_none other h)

both_true : (a b : Bool) → (a && b) ≡ true → (a ≡ true) × (b ≡ true)
both_true true b h = (refl, h)
both_true false b h = absurd (false_true h)

pub record IsStepAt (early : List Act) (app : ℕ) (act : Option Act) (step : Step) : Type 0 where
  pub is : act ≡ Some (writes (changed app step))
  pub covered : is_first_covered (here.heard_pairs early app) (signals_of early app step) ≡ true

told_at : (early : List Act) (app : ℕ) (act : Option Act) (step : Step) → step_told early app act ≡ Some step → IsStepAt early app act step
told_at early app (Some (writes (changed a s))) step h =
    let x = told_if (a == app && is_first_covered (here.heard_pairs early app) (signals_of early app s)) s step h in
    let y = both_true (a == app) (is_first_covered (here.heard_pairs early app) (signals_of early app s)) x.0 in
    record {
      is = ap₂ (λ n t. Some (writes (changed n t))) (eqb-true a app y.0) x.1;
      covered = subst (λ t. is_first_covered (here.heard_pairs early app) (signals_of early app t) ≡ true) x.1 y.1;
    }
told_at early app None step h = absurd (no_none step h)
told_at early app (Some (begins_line line)) step h = absurd (no_none step h)
told_at early app (Some (moves_bytes who up count)) step h = absurd (no_none step h)
told_at early app (Some (takes_end who)) step h = absurd (no_none step h)
told_at early app (Some (writes (started who name))) step h = absurd (no_none step h)
told_at early app (Some (writes (sent who e))) step h = absurd (no_none step h)
told_at early app (Some (writes (got taker sender serial))) step h = absurd (no_none step h)
told_at early app (Some (writes (heard a listener pattern))) step h = absurd (no_none step h)
told_at early app (Some (writes (unheard a listener pattern))) step h = absurd (no_none step h)
told_at early app (Some (writes (spoke r a text))) step h = absurd (no_none step h)
told_at early app (Some (writes (showed r a rows))) step h = absurd (no_none step h)
told_at early app (Some (writes (exited who))) step h = absurd (no_none step h)
told_at early app (Some (writes (gone r a))) step h = absurd (no_none step h)
told_at early app (Some (writes (dropped who queued len))) step h = absurd (no_none step h)
told_at early app (Some (writes (busy turns))) step h = absurd (no_none step h)
told_at early app (Some (writes quiet)) step h = absurd (no_none step h)

module _ (run : List Act) (app serial : ℕ) where
  abbrev pub es : List Entry
  es = entries_in run

  abbrev pub front : List Act
  front = before_sent (App app) serial run

  announces_of : (step : Step) → is_some (told.message es (App app) serial) ≡ true → step_of run app serial ≡ Some step → Announces es app serial step
  announces_of step was h =
      let early : List Act = without_last front in
      let at : IsStepAt early app (last_of front) step = told_at early app (last_of front) step h in
      let split : front ≡ early ++ writes (changed app step) ∷ [] = last_split front (writes (changed app step)) at.is in
      record {
        early = entries_in early;
        is_sent = was;
        stands = sym (before_told (App app) serial run) ∙ ap entries_in split ∙ entries_more early (writes (changed app step) ∷ []);
        asked =
            asked_of (told.heard_pairs (entries_in early) app) (announced (name_or_empty (told.name_in (entries_in early) (App app))) (told.live_tree (entries_in early) app) step)
            (sym (ap₂ is_first_covered (pairs_told early app) (signals_same early app step)) ∙ at.covered);
      }

  step_of_announced : (step : Step) → Along IsTight [] run → Announces es app serial step → step_of run app serial ≡ Some step
  step_of_announced step tight a =
      let s : Splits front a.early (changed app step) [] = split_at front a.early (changed app step) [] (before_told (App app) serial run ∙ a.stands) in
      let rest = front_rest (App app) serial run in
      let whole : run ≡ s.front ++ writes (changed app step) ∷ (s.behind ++ rest.0) =
      rest.1 ∙ ap (λ l. l ++ rest.0) s.is ∙ append_assoc s.front (writes (changed app step) ∷ s.behind) rest.0 in
      let law : IsTight s.front (writes (changed app step)) (s.behind ++ rest.0) = along_split IsTight [] run tight s.front (writes (changed app step)) (s.behind ++ rest.0) whole in
      let asked : IsAskedFor (told.heard_pairs (entries_in s.front) app) (announced (name_or_empty (told.name_in (entries_in s.front) (App app))) (told.live_tree (entries_in s.front) app) step) =
      subst (λ l. IsAskedFor (told.heard_pairs l app) (announced (name_or_empty (told.name_in l (App app))) (told.live_tree l app) step)) (sym s.before) a.asked in
      let covered : is_first_covered (here.heard_pairs s.front app) (signals_of s.front app step) ≡ true =
      ap₂ is_first_covered (pairs_told s.front app) (signals_same s.front app step)
      ∙ covered_of (told.heard_pairs (entries_in s.front) app) (announced (name_or_empty (told.name_in (entries_in s.front) (App app))) (told.live_tree (entries_in s.front) app) step) asked in
      let nothing : s.behind ≡ [] = none_behind s.behind rest.0 s.after (law covered) in
      let is : front ≡ s.front ++ writes (changed app step) ∷ [] = s.is ∙ ap (λ l. s.front ++ writes (changed app step) ∷ l) nothing in
      ap₂ (λ l o. step_told l app o) (ap without_last is ∙ front_is s.front (writes (changed app step))) (ap last_of is ∙ last_is s.front (writes (changed app step)))
      ∙ ap₂ (λ x y. if x && y then Some step else None) (eq-eqb app app refl) covered

  pub step_is : (said : Said) → said.message.serial ≡ serial → is_some (told.message es (App app) serial) ≡ true → Along IsTight [] run → TellsTree es app said → step_of run app serial ≡ said.announces
  step_is said same was tight t = by (step_of run app serial) refl said.announces refl
    where
      by : (o : Option Step) → step_of run app serial ≡ o → (p : Option Step) → said.announces ≡ p → o ≡ p
      by (Some step) h p g =
          let a : Announces es app serial step = announces_of step was h in
          sym (t.step step (subst (λ n. Announces es app n step) (sym same) a)) ∙ g
      by None h None g = refl
      by None h (Some step) g =
          let a : Announces es app serial step = subst (λ n. Announces es app n step) same (t.announced step g) in
          sym h ∙ step_of_announced step tight a
