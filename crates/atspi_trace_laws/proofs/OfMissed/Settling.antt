-- Whoever is to be closed is closed: nobody is due where the bus rests, since each closing takes one from those who have joined.
use Rattle.std.proofs.Common.{◌≡◌, ◌⊎◌, inl, inr, ℕ, zero, suc, ◌<◌, ◌≤◌, Bool, true, false, List, [], ◌∷◌, length, refl, sym, ap, ◌∙◌, subst, arith}
use Rattle.std.specs.Prelude.{◌==◌, not, filter, if◌then◌else◌}
use Rattle.std.specs.List.{AllByRecursion, fold}
use Rattle.std.proofs.lemmas.Bool.{eqb-true, eq-eqb}
use Rattle.atspi_script_lines.specs.declared.line.Party.{Party}
use Rattle.atspi_match.specs.RuleIndex.{without_rules}
use Rattle.atspi_names.specs.Queue.{without}
use Rattle.atspi_names.specs.Owners.{list_of, lists_without, after_gone}
use Rattle.atspi_names.proofs.BookLemmas.{list_of-lists_without}
use Rattle.atspi_match.specs.declared.routing.closing.Why.{Why}
use Rattle.atspi_match.specs.routing.BusState.{BusState, unique_of, calls_without}
use Rattle.atspi_match.specs.routing.Steps.{BusStep, farewell, bus_takes, bus_leaves}
use Rattle.atspi_match.specs.routing.Queues as queues
use Rattle.atspi_match.specs.routing.Queues.{without_queue}
use Rattle.atspi_trace.specs.Rules.{rule_in}
use Rattle.atspi_trace.specs.World.{Said}
use Rattle.atspi_trace.specs.Ends.{with_end, taken_up}
use Rattle.atspi_trace.specs.Carrying.{Carried, letter_of, stepped, left, one_closed, settled, with_name, takes, takes_end}
use Rattle.atspi_trace_laws.proofs.OfDrops.Reaching.{Steps_in, AreIn, DueBelow, speaks_in, takes_in, all_moved_below}
use Rattle.atspi_trace_laws.proofs.OfSigned.Unique.{IsIn}
use Rattle.atspi_trace_laws.proofs.OfTurns.Doing.{takes_joined}

-- one of those who have joined
abbrev pub Joins : List ℕ → ℕ → Type 0
Joins joined c = IsIn c joined

pub in_rest : (xs : List ℕ) (conn c : ℕ) → IsIn c xs → (c ≡ conn → ⊥) → IsIn c (filter (λ k. not (k == conn)) xs)
in_rest [] conn c i differ = i
in_rest (x ∷ xs) conn c i differ = by (x == conn) refl i (λ j. in_rest xs conn c j differ)
  where
    by : (b : Bool) → (x == conn) ≡ b → (c ≡ x) ⊎ IsIn c xs → (IsIn c xs → IsIn c (filter (λ k. not (k == conn)) xs))
        → IsIn c (if not b then x ∷ filter (λ k. not (k == conn)) xs else filter (λ k. not (k == conn)) xs)
    by true g (inl same) f = absurd (differ (same ∙ eqb-true x conn g))
    by true g (inr j) f = f j
    by false g (inl same) f = inl same
    by false g (inr j) f = inr (f j)

pub in_all : (xs ys : List ℕ) → ((c : ℕ) → IsIn c xs → IsIn c ys) → AllByRecursion (Joins ys) xs
in_all [] ys f = tt
in_all (x ∷ xs) ys f = (f x (inl refl), in_all xs ys (λ c i. f c (inr i)))

pub all_in : (xs : List ℕ) → AllByRecursion (Joins xs) xs
all_in xs = in_all xs xs (λ c i. i)

-- one goes: the list is shorter
fewer : (xs : List ℕ) (conn : ℕ) → length (filter (λ k. not (k == conn)) xs) ≤ length xs
fewer [] conn = omega arith
fewer (x ∷ xs) conn = by (x == conn) (fewer xs conn)
  where
    by : (b : Bool) → length (filter (λ k. not (k == conn)) xs) ≤ length xs → length (if not b then x ∷ filter (λ k. not (k == conn)) xs else filter (λ k. not (k == conn)) xs) ≤ suc (length xs)
    by true h = omega (arith, h)
    by false h = omega (arith, h)

pub one_fewer : (xs : List ℕ) (conn : ℕ) → IsIn conn xs → length (filter (λ k. not (k == conn)) xs) < length xs
one_fewer [] conn i = absurd i
one_fewer (x ∷ xs) conn i = by (x == conn) refl i (λ j. one_fewer xs conn j) (fewer xs conn)
  where
    by : (b : Bool) → (x == conn) ≡ b → (conn ≡ x) ⊎ IsIn conn xs → (IsIn conn xs → length (filter (λ k. not (k == conn)) xs) < length xs) → length (filter (λ k. not (k == conn)) xs) ≤ length xs
        → length (if not b then x ∷ filter (λ k. not (k == conn)) xs else filter (λ k. not (k == conn)) xs) < suc (length xs)
    by true g j f less = omega (arith, less)
    by false g (inl same) f less = absurd (no (sym g ∙ eq-eqb x conn (sym same)))
      where
        no : false ≡ true → ⊥
        no z = cc
    by false g (inr j) f less = let shorter = f j in omega (arith, shorter)

-- WHO IS DUE HAS JOINED, and so have all who stand in the lists of names
pub record DueJoined (c : Carried) : Type 0 where
  pub lists : AreIn (Joins c.bus.state.joined) c.bus.state.owners.lists
  pub due : AllByRecursion (DueBelow (Joins c.bus.state.joined)) c.bus.waiting.due

pub others_in : (P Q : ℕ → Type 0) (conn : ℕ) → ((c : ℕ) → P c → (c ≡ conn → ⊥) → Q c) → (list : List (ℕ × ℕ)) → AllByRecursion (λ (p : ℕ × ℕ). P p.0) list → AllByRecursion (λ (p : ℕ × ℕ). Q p.0) (without conn list)
others_in P Q conn f [] a = tt
others_in P Q conn f (p ∷ ps) a = by (p.0 == conn) refl (others_in P Q conn f ps a.1)
  where
    by : (b : Bool) → (p.0 == conn) ≡ b → AllByRecursion (λ (q : ℕ × ℕ). Q q.0) (without conn ps) → AllByRecursion (λ (q : ℕ × ℕ). Q q.0) (if not b then p ∷ without conn ps else without conn ps)
    by true g h = h
    by false g h = (f p.0 a.0 (λ same. no (sym g ∙ eq-eqb p.0 conn same)), h)
      where
        no : false ≡ true → ⊥
        no z = cc

others_due : (P Q : ℕ → Type 0) (conn : ℕ) → ((c : ℕ) → P c → (c ≡ conn → ⊥) → Q c) → (due : List (ℕ × Why)) → AllByRecursion (λ (d : ℕ × Why). P d.0) due
    → AllByRecursion (λ (d : ℕ × Why). Q d.0) (filter (λ (d : ℕ × Why). not (d.0 == conn)) due)
others_due P Q conn f [] a = tt
others_due P Q conn f (d ∷ ds) a = by (d.0 == conn) refl (others_due P Q conn f ds a.1)
  where
    by : (b : Bool) → (d.0 == conn) ≡ b → AllByRecursion (λ (e : ℕ × Why). Q e.0) (filter (λ (e : ℕ × Why). not (e.0 == conn)) ds)
        → AllByRecursion (λ (e : ℕ × Why). Q e.0) (if not b then d ∷ filter (λ (e : ℕ × Why). not (e.0 == conn)) ds else filter (λ (e : ℕ × Why). not (e.0 == conn)) ds)
    by true g h = h
    by false g h = (f d.0 a.0 (λ same. no (sym g ∙ eq-eqb d.0 conn same)), h)
      where
        no : false ≡ true → ⊥
        no z = cc

-- one leaves
pub left_due : (c : Carried) (conn : ℕ) → DueJoined c → DueJoined (left c conn)
left_due c conn j = record { lists = x.state.lists; due = all_moved_below Q c.bus.quota (without_queue c.bus.waiting conn) (bus_leaves c.bus.state conn).moves x.moves (others_due P Q conn rest c.bus.waiting.due j.due) }
  where
    after : List ℕ
    after = filter (λ k. not (k == conn)) c.bus.state.joined

    P : ℕ → Type 0
    P = Joins c.bus.state.joined

    Q : ℕ → Type 0
    Q = Joins after

    rest : (k : ℕ) → P k → (k ≡ conn → ⊥) → Q k
    rest k i differ = in_rest c.bus.state.joined conn k i differ

    lists : AreIn Q (lists_without conn c.bus.state.owners.lists)
    lists q = subst (AllByRecursion (λ (p : ℕ × ℕ). Q p.0)) (sym (list_of-lists_without conn c.bus.state.owners.lists q)) (others_in P Q conn rest (list_of c.bus.state.owners.lists q) (j.lists q))

    state : BusState
    state = record c.bus.state {
      joined = after;
      owners = after_gone c.bus.state.owners conn;
      rules = without_rules conn c.bus.state.rules;
      calls = calls_without conn c.bus.state.calls;
    }

    x : Steps_in Q (bus_leaves c.bus.state conn)
    x = speaks_in Q state (farewell c.bus.state (after_gone c.bus.state.owners conn) conn (unique_of c.bus.state.owners conn)) (record { joined = all_in after; lists = lists })

one_due : (c : Carried) (due : List (ℕ × Why)) → DueJoined c → DueJoined (one_closed c due)
one_due c [] j = j
one_due c (first ∷ rest) j = let x : DueJoined (left c first.0) = left_due c first.0 j in record { lists = x.lists; due = x.due }

-- where nobody is due nothing more is done
rests_settled : (rounds : ℕ) (c : Carried) → c.bus.waiting.due ≡ [] → (settled rounds c).bus.waiting.due ≡ []
rests_settled zero c none = none
rests_settled (suc rounds) c none = rests_settled rounds (one_closed c c.bus.waiting.due) (ap (λ l. (one_closed c l).bus.waiting.due) none ∙ none)

no_due : (js : List ℕ) (due : List (ℕ × Why)) → length js ≤ 0 → AllByRecursion (DueBelow (Joins js)) due → due ≡ []
no_due js [] none a = refl
no_due [] (d ∷ ds) none a = absurd a.0
no_due (x ∷ xs) (d ∷ ds) none a = absurd (omega (arith, none))

pub settled_joins : (rounds : ℕ) (c : Carried) → DueJoined c → DueJoined (settled rounds c)
settled_joins zero c j = j
settled_joins (suc rounds) c j = settled_joins rounds (one_closed c c.bus.waiting.due) (one_due c c.bus.waiting.due j)

pub all_settled : (rounds : ℕ) (c : Carried) → DueJoined c → length c.bus.state.joined ≤ rounds → (settled rounds c).bus.waiting.due ≡ []
all_settled zero c j few = no_due c.bus.state.joined c.bus.waiting.due few j.due
all_settled (suc rounds) c j few = by c.bus.waiting.due refl (λ d i less. all_settled rounds d i less)
  where
    by : (due : List (ℕ × Why)) → c.bus.waiting.due ≡ due → ((d : Carried) → DueJoined d → length d.bus.state.joined ≤ rounds → (settled rounds d).bus.waiting.due ≡ []) → (settled rounds (one_closed c c.bus.waiting.due)).bus.waiting.due ≡ []
    by [] is ih = rests_settled rounds (one_closed c c.bus.waiting.due) (ap (λ l. (one_closed c l).bus.waiting.due) is ∙ is)
    by (first ∷ rest) is ih =
        subst (λ l. (settled rounds (one_closed c l)).bus.waiting.due ≡ []) (sym is)
        (ih (one_closed c (first ∷ rest)) (one_due c (first ∷ rest) j) (less (one_fewer c.bus.state.joined first.0 (subst (AllByRecursion (DueBelow (Joins c.bus.state.joined))) is j.due).0)))
      where
        less : length (filter (λ k. not (k == first.0)) c.bus.state.joined) < length c.bus.state.joined → length (filter (λ k. not (k == first.0)) c.bus.state.joined) ≤ rounds
        less h = omega (arith, h, few)

-- WHERE THE BUS TOOK A MESSAGE, or an end
pub took_step : (c : Carried) (conn : ℕ) (who : Party) (said : Said) → IsIn conn c.bus.state.joined → DueJoined c
    → DueJoined (with_name conn (stepped (letter_of who said) (record c { ends = with_end conn taken_up c.ends }) (bus_takes c.bus.state conn said.message (rule_in said.message))))
took_step c conn who said here_ j =
    let P : ℕ → Type 0 = Joins c.bus.state.joined in
    let step : BusStep = bus_takes c.bus.state conn said.message (rule_in said.message) in
    let x : Steps_in P step = takes_in P c.bus.state conn said.message (rule_in said.message) here_ (record { joined = all_in c.bus.state.joined; lists = j.lists }) in
    let same : step.state.joined ≡ c.bus.state.joined = takes_joined c.bus.state conn said.message (rule_in said.message) in
    record {
      lists = subst (λ js. AreIn (Joins js) step.state.owners.lists) (sym same) x.state.lists;
      due = subst (λ js. AllByRecursion (DueBelow (Joins js)) (fold (queues.moved c.bus.quota) c.bus.waiting step.moves).due) (sym same) (all_moved_below P c.bus.quota c.bus.waiting step.moves x.moves j.due);
    }

same_least : (a b : ℕ) → a ≡ b → a ≤ b
same_least a b h = omega (arith, h)

pub takes_settle : (c : Carried) (conn : ℕ) (who : Party) (said : Said) → IsIn conn c.bus.state.joined → DueJoined c → DueJoined (takes c conn who said) × ((takes c conn who said).bus.waiting.due ≡ [])
takes_settle c conn who said here_ j =
    let b : Carried = with_name conn (stepped (letter_of who said) (record c { ends = with_end conn taken_up c.ends }) (bus_takes c.bus.state conn said.message (rule_in said.message))) in
    let x : DueJoined b = took_step c conn who said here_ j in
    (settled_joins (length c.bus.state.joined) b x, all_settled (length c.bus.state.joined) b x (same_least (length b.bus.state.joined) (length c.bus.state.joined) (ap length (takes_joined c.bus.state conn said.message (rule_in said.message)))))

pub ends_settle : (c : Carried) (conn : ℕ) → DueJoined c → DueJoined (takes_end c conn) × ((takes_end c conn).bus.waiting.due ≡ [])
ends_settle c conn j =
    let x : DueJoined (left c conn) = left_due c conn j in
    (settled_joins (length c.bus.state.joined) (left c conn) x, all_settled (length c.bus.state.joined) (left c conn) x (fewer c.bus.state.joined conn))
