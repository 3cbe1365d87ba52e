-- WHAT STANDS BEHIND STEPS: of entries left out and put in again by the law of applications. Entries that no application sends, and that are no step,
-- stand as they are; steps stand with the signals of each, and behind all of them what the application says then.
use Rattle.std.proofs.Common.{◌≡◌, ℕ, suc, ◌+◌, Bool, true, false, List, [], ◌∷◌, ◌++◌, length, map, Option, None, Some, refl, sym, ap, ap₂, ◌∙◌, subst, arith, cond}
use Rattle.std.specs.Prelude.{not, filter, filter_map, fold, option_map, position, if◌then◌else◌}
use Rattle.std.specs.List.{AllByRecursion, cons_option}
use Rattle.std.proofs.lemmas.Bool.{eq-eqb}
use Rattle.std.proofs.lemmas.List.{append-nil, append_assoc, length-append}
use Rattle.atspi_names.specs.Owners.{unique_name}
use Rattle.atspi_tree_model.specs.declared.step.Step.{Step}
use Rattle.atspi_tree_model.specs.Forest.{Forest, nil}
use Rattle.atspi_tree_model.specs.Row.{TreeRow}
use Rattle.atspi_tree_model.specs.RowRules.{rows}
use Rattle.atspi_tree_model.specs.Tree.{after as after_step}
use Rattle.atspi_script_lines.specs.declared.line.Party.{Party}
use Rattle.atspi_script_lines.specs.declared.line.Party.TheVariants.{Registry, App}
use Rattle.atspi_message.specs.Envelope.{Envelope}
use Rattle.atspi_protocol.specs.ends.Messages as messages_of
use Rattle.atspi_protocol.specs.announcing.Signals.{Signal}
use Rattle.atspi_protocol.specs.announcing.Announced.{announced}
use Rattle.atspi_protocol.specs.exporting.Exporter.{Happening, steps, sends, hears, deaf, numbered, sent_in}
use Rattle.atspi_protocol.specs.exporting.Telling.{asked_for, steps_told}
use Rattle.atspi_protocol.specs.news.NewsOf.{or_empty}
use Rattle.atspi_trace.specs.Entry.{Entry, changed, sent, heard, unheard}
use Rattle.atspi_trace.specs.Causes.{did}
use Rattle.atspi_headline.specs.Words.{Act, writes, of_app, is_a, tree_after, live_tree, pairs_after, heard_pairs, greeting_in, name_of, sent_by, messages, next_serial, is_same}
use Rattle.atspi_headline.specs.Headline.{sends as sends_now, signals_due, put_in}
use Rattle.atspi_trace_laws.proofs.OfOrder.Parties.{party-same}
use Rattle.atspi_trace_laws.proofs.OfSteps.Trees.{fold_append}
use Rattle.atspi_trace_laws.proofs.OfHeard.Pairs.{numbered_append}
use Rattle.atspi_headline_laws.proofs.Words.{chosen_more}

abbrev pub is_other : Entry → Bool
is_other entry = not (is_a of_app entry)

-- ENTRIES that no application sends, and that are no step
pub record IsAside (entry : Entry) : Type 0 where
  pub other : is_a of_app entry ≡ false
  pub none : (before : List Act) → signals_due before entry ≡ []

pub put_aside : (before : List Act) (words : ℕ × List Envelope) (es : List Entry) → AllByRecursion IsAside es → put_in before words (filter is_other es) ≡ es ++ sends_now (before ++ map writes es) words.0 words.1
put_aside before words [] a = ap (λ l. sends_now l words.0 words.1) (sym (append-nil before))
put_aside before words (e ∷ es) a =
    ap (λ b. put_in before words (cond (not b) (e ∷ filter is_other es) (filter is_other es))) a.0.other
    ∙ ap (λ s. e ∷ (s ++ put_in (before ++ writes e ∷ map writes s) words (filter is_other es))) (a.0.none before)
    ∙ ap (λ l. e ∷ l) (put_aside (before ++ writes e ∷ []) words es a.1 ∙ ap (λ l. es ++ sends_now l words.0 words.1) (append_assoc before (writes e ∷ []) (map writes es)))

-- where nothing is said behind them they stand alone
pub put_alone : (before : List Act) (n : ℕ) (es : List Entry) → AllByRecursion IsAside es → es ≡ put_in before (n, []) (filter is_other es)
put_alone before n es a = sym (put_aside before (n, []) es a ∙ append-nil es)

-- nobody says nothing
pub put_nobody : (before : List Act) (n k : ℕ) (es : List Entry) → put_in before (n, []) es ≡ put_in before (k, []) es
put_nobody before n k [] = refl
put_nobody before n k (e ∷ es) =
    ap (λ l. e ∷ (signals_due before e ++ l)) (put_nobody (before ++ writes e ∷ map writes (signals_due before e)) n k es)

-- WHAT IS LEFT of what an application did
abbrev pub left_of : ℕ → List Happening → List Entry
left_of a [] = []
left_of a (steps step ∷ hs) = changed a step ∷ left_of a hs
left_of a (sends e ∷ hs) = left_of a hs
left_of a (hears listener pattern ∷ hs) = heard a listener pattern ∷ left_of a hs
left_of a (deaf listener pattern ∷ hs) = unheard a listener pattern ∷ left_of a hs

pub others_left : (a n : ℕ) (hs : List Happening) → filter is_other (map (did a) (numbered n hs)) ≡ left_of a hs
others_left a n [] = refl
others_left a n (steps step ∷ hs) = ap (λ l. changed a step ∷ l) (others_left a n hs)
others_left a n (sends e ∷ hs) = others_left a (n + 1) hs
others_left a n (hears listener pattern ∷ hs) = ap (λ l. heard a listener pattern ∷ l) (others_left a n hs)
others_left a n (deaf listener pattern ∷ hs) = ap (λ l. unheard a listener pattern ∷ l) (others_left a n hs)

pub left_both : (a : ℕ) (hs ks : List Happening) → left_of a (hs ++ ks) ≡ left_of a hs ++ left_of a ks
left_both a [] ks = refl
left_both a (steps step ∷ hs) ks = ap (λ l. changed a step ∷ l) (left_both a hs ks)
left_both a (sends e ∷ hs) ks = left_both a hs ks
left_both a (hears listener pattern ∷ hs) ks = ap (λ l. heard a listener pattern ∷ l) (left_both a hs ks)
left_both a (deaf listener pattern ∷ hs) ks = ap (λ l. unheard a listener pattern ∷ l) (left_both a hs ks)

left_signals : (a : ℕ) (xs : List Signal) → left_of a (map (λ (s : Signal). sends s.message) xs) ≡ []
left_signals a [] = refl
left_signals a (x ∷ xs) = left_signals a xs

pub left_sends : (a : ℕ) (es : List Envelope) → left_of a (map sends es) ≡ []
left_sends a [] = refl
left_sends a (e ∷ es) = left_sends a es

left_told : (a : ℕ) (ps : List (List ℕ × List ℕ)) (name : List ℕ) (f : Forest TreeRow) (ss : List Step) → left_of a (steps_told ps name f ss) ≡ map (changed a) ss
left_told a ps name f [] = refl
left_told a ps name f (step ∷ ss) =
    ap (λ l. changed a step ∷ l)
    (left_both a (map (λ (s : Signal). sends s.message) (asked_for ps (announced name f step))) (steps_told ps name (after_step rows f step) ss)
    ∙ ap₂ (λ x y. x ++ y) (left_signals a (asked_for ps (announced name f step))) (left_told a ps name (after_step rows f step) ss))

pub steps_left : (a n : ℕ) (ps : List (List ℕ × List ℕ)) (name : List ℕ) (f : Forest TreeRow) (ss : List Step) (es : List Envelope) → filter is_other (map (did a) (numbered n (steps_told ps name f ss ++ map sends es))) ≡ map (changed a) ss
steps_left a n ps name f ss es =
    others_left a n (steps_told ps name f ss ++ map sends es)
    ∙ left_both a (steps_told ps name f ss) (map sends es) ∙ ap₂ (λ x y. x ++ y) (left_told a ps name f ss) (left_sends a es) ∙ append-nil (map (changed a) ss)

-- WHAT THE RUN SAYS of an application that acts
pub record Stands (before : List Act) (a : ℕ) (ps : List (List ℕ × List ℕ)) (called : List ℕ) (f : Forest TreeRow) (n : ℕ) : Type 0 where
  pub pairs : heard_pairs before a ≡ ps
  pub name : or_empty (name_of before (App a)) ≡ called
  pub tree : live_tree before a ≡ f
  pub next : next_serial before (App a) ≡ n

-- messages, with the numbers that follow
sent_numbered : (a n : ℕ) (es : List Envelope) → map (sent (App a)) (messages_of.numbered n es) ≡ map (did a) (numbered n (map sends es))
sent_numbered a n [] = refl
sent_numbered a n (e ∷ es) = ap (λ l. sent (App a) (record e { serial = n }) ∷ l) (sent_numbered a (n + 1) es)

signals_numbered : (a n : ℕ) (xs : List Signal) → map (sent (App a)) (messages_of.numbered n (map (λ (s : Signal). s.message) xs)) ≡ map (did a) (numbered n (map (λ (s : Signal). sends s.message) xs))
signals_numbered a n [] = refl
signals_numbered a n (x ∷ xs) = ap (λ l. sent (App a) (record x.message { serial = n }) ∷ l) (signals_numbered a (n + 1) xs)

pub said_now : (before : List Act) (a n : ℕ) (es : List Envelope) → next_serial before (App a) ≡ n → sends_now before a es ≡ map (did a) (numbered n (map sends es))
said_now before a n es next = ap (λ k. map (sent (App a)) (messages_of.numbered k es)) next ∙ sent_numbered a n es

-- acts by which an application sends so many messages, and changes nothing else of this
pub record Adds (a count : ℕ) (acts : List Act) : Type 0 where
  pub greets : filter_map greeting_in acts ≡ []
  pub pairs : (ps : List (List ℕ × List ℕ)) → fold (pairs_after a) ps acts ≡ ps
  pub tree : (f : Forest TreeRow) → fold (tree_after a) f acts ≡ f
  pub sent_ : length (messages acts (App a)) ≡ count

signals_add : (a n : ℕ) (xs : List Signal) → Adds a (sent_in (map (λ (s : Signal). sends s.message) xs)) (map writes (map (did a) (numbered n (map (λ (s : Signal). sends s.message) xs))))
signals_add a n [] = record { greets = refl; pairs = λ ps. refl; tree = λ f. refl; sent_ = refl }
signals_add a n (x ∷ xs) =
    let rest = signals_add a (n + 1) xs in
    let e : Envelope = record x.message { serial = n } in
    record {
      greets = rest.greets;
      pairs = rest.pairs;
      tree = rest.tree;
      sent_ =
          ap (λ b. length (cons_option (if b then Some e else None) (messages (map writes (map (did a) (numbered (n + 1) (map (λ (s : Signal). sends s.message) xs)))) (App a)))) (party-same (App a)) ∙ ap suc rest.sent_;
    }

names_more : (before acts : List Act) (p : Party) → filter_map greeting_in acts ≡ [] → name_of (before ++ acts) p ≡ name_of before p
names_more before acts p none =
    ap (λ l. option_map unique_name (position (is_same p) (Registry ∷ l)))
    (chosen_more greeting_in before acts ∙ ap (λ l. filter_map greeting_in before ++ l) none ∙ append-nil (filter_map greeting_in before))

pub serials_more : (before acts : List Act) (a n count : ℕ) → next_serial before (App a) ≡ n → length (messages acts (App a)) ≡ count → next_serial (before ++ acts) (App a) ≡ n + count
serials_more before acts a n count h g =
    sum (length (messages before (App a))) (length (messages acts (App a))) (length (messages (before ++ acts) (App a))) h g
    (ap length (chosen_more (sent_by (App a)) before acts) ∙ length-append (messages before (App a)) (messages acts (App a)))
  where
    sum : (x y z : ℕ) → suc x ≡ n → y ≡ count → z ≡ x + y → suc z ≡ n + count
    sum x y z p q r = omega (arith, p, q, r)

pub stands_step : (before : List Act) (a : ℕ) (ps : List (List ℕ × List ℕ)) (name : List ℕ) (f : Forest TreeRow) (n : ℕ) (step : Step) (acts : List Act) (count : ℕ) → Stands before a ps name f n → Adds a count acts
    → Stands (before ++ writes (changed a step) ∷ acts) a ps name (after_step rows f step) (n + count)
stands_step before a ps name f n step acts count s m = record {
  pairs = fold_append (pairs_after a) [] before (writes (changed a step) ∷ acts) ∙ m.pairs (heard_pairs before a) ∙ s.pairs;
  name = ap or_empty (names_more before (writes (changed a step) ∷ acts) (App a) m.greets) ∙ s.name;
  tree = fold_append (tree_after a) nil before (writes (changed a step) ∷ acts)
      ∙ ap (λ b. fold (tree_after a) (if b then after_step rows (live_tree before a) step else live_tree before a) acts) (eq-eqb a a refl)
      ∙ m.tree (after_step rows (live_tree before a) step) ∙ ap (λ t. after_step rows t step) s.tree;
  next = serials_more before (writes (changed a step) ∷ acts) a n count s.next m.sent_;
}

-- acts before which and behind which the same holds, but for the numbers
pub stands_more : (before acts : List Act) (a : ℕ) (ps : List (List ℕ × List ℕ)) (name : List ℕ) (f : Forest TreeRow) (n count : ℕ) → Stands before a ps name f n → Adds a count acts → Stands (before ++ acts) a ps name f (n + count)
stands_more before acts a ps name f n count s m = record {
  pairs = fold_append (pairs_after a) [] before acts ∙ m.pairs (heard_pairs before a) ∙ s.pairs;
  name = ap or_empty (names_more before acts (App a) m.greets) ∙ s.name;
  tree = fold_append (tree_after a) nil before acts ∙ m.tree (live_tree before a) ∙ s.tree;
  next = serials_more before acts a n count s.next m.sent_;
}

-- STEPS with their signals, and what is said behind them
did_both : (a : ℕ) (hs ks : List Happening) → map (did a) (hs ++ ks) ≡ map (did a) hs ++ map (did a) ks
did_both a [] ks = refl
did_both a (h ∷ hs) ks = ap (λ l. did a h ∷ l) (did_both a hs ks)

pub steps_put : (before : List Act) (a : ℕ) (ps : List (List ℕ × List ℕ)) (name : List ℕ) (f : Forest TreeRow) (n : ℕ) (ss : List Step) (es : List Envelope) → Stands before a ps name f n
    → put_in before (a, es) (map (changed a) ss) ≡ map (did a) (numbered n (steps_told ps name f ss ++ map sends es))
steps_put before a ps name f n [] es s = said_now before a n es s.next
steps_put before a ps name f n (step ∷ ss) es s =
    let later : Forest TreeRow = after_step rows f step in
    let xs : List Signal = asked_for ps (announced name f step) in
    let hs : List Happening = map (λ (x : Signal). sends x.message) xs in
    let rest : List Happening = steps_told ps name later ss ++ map sends es in
    let acts : List Act = map writes (map (did a) (numbered n hs)) in
    ap (λ l. changed a step ∷ (l ++ put_in (before ++ writes (changed a step) ∷ map writes l) (a, es) (map (changed a) ss))) signals
    ∙ ap (λ l. changed a step ∷ (map (did a) (numbered n hs) ++ l))
    (steps_put (before ++ writes (changed a step) ∷ acts) a ps name later (n + sent_in hs) ss es (stands_step before a ps name f n step acts (sent_in hs) s (signals_add a n xs)))
    ∙ ap (λ l. changed a step ∷ l) (sym (did_both a (numbered n hs) (numbered (n + sent_in hs) rest)) ∙ ap (map (did a)) (sym (numbered_append n hs rest)))
    ∙ ap (λ l. changed a step ∷ map (did a) (numbered n l)) (sym (append_assoc hs (steps_told ps name later ss) (map sends es)))
  where
    signals : signals_due before (changed a step) ≡ map (did a) (numbered n (map (λ (x : Signal). sends x.message) (asked_for ps (announced name f step))))
    signals =
        ap₂ (λ k l. map (sent (App a)) (messages_of.numbered k (map (λ (x : Signal). x.message) l))) s.next
        (ap₂ asked_for s.pairs (ap₂ (λ x y. announced x y step) s.name s.tree))
        ∙ signals_numbered a n (asked_for ps (announced name f step))
