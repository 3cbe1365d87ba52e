-- What an application tells of its steps: directly behind each step its signals, and no signal elsewhere.
use Rattle.std.proofs.Common.{◌≡◌, ℕ, suc, ◌+◌, List, [], ◌∷◌, ◌++◌, length, map, None, Some, refl, sym, ap, ap₂, ◌∙◌, subst, arith, length-append}
use Rattle.std.specs.Prelude.{if◌then◌else◌}
use Rattle.std.specs.List.{cons_option, fold}
use Rattle.std.proofs.lemmas.List.{append-nil, append_assoc}
use Rattle.atspi_tree_model.specs.declared.step.Step.{Step}
use Rattle.atspi_tree_model.specs.Forest.{Forest}
use Rattle.atspi_tree_model.specs.Row.{TreeRow}
use Rattle.atspi_tree_model.specs.RowRules.{rows}
use Rattle.atspi_tree_model.specs.Tree.{after}
use Rattle.atspi_script_lines.specs.declared.line.Party.TheVariants.{Bus as The_bus, Registry, App, Reader}
use Rattle.atspi_message.specs.Envelope.{Envelope}
use Rattle.atspi_protocol.specs.ends.Messages as messages_of
use Rattle.atspi_protocol.specs.announcing.Signals.{Signal}
use Rattle.atspi_protocol.specs.announcing.Announced.{announced}
use Rattle.atspi_protocol.specs.exporting.Exporter.{Happening, steps, sends, hears, deaf, numbered, sent_in}
use Rattle.atspi_protocol.specs.exporting.Telling.{asked_for, step_told, steps_told}
use Rattle.atspi_trace.specs.Entry.{Entry, changed, sent}
use Rattle.atspi_trace.specs.Causes.{did}
use Rattle.atspi_trace_laws.specs.laws.Words.{tree_after, pairs_after, live_tree, messages, heard_pairs}
use Rattle.atspi_trace_laws.specs.laws.NineLaws.{Follow}
use Rattle.atspi_trace_laws.proofs.OfOrder.Parties.{party-same}
use Rattle.atspi_trace_laws.proofs.OfOrder.Each.{Each, each_more}
use Rattle.atspi_trace_laws.proofs.OfSteps.Doings.{tree_by, tree_numbered, still_tree, still_sends}
use Rattle.atspi_trace_laws.proofs.OfSteps.Trees.{tree_more, did_tree}
use Rattle.atspi_trace_laws.proofs.OfSerials.Serial.{messages_more}
use Rattle.atspi_trace_laws.specs.heard.Laws.{signals_under, IsToldUnder, IsAmong, IsOneOfThem}
use Rattle.atspi_trace_laws.proofs.OfHeard.Pairs.{heard_by, heard_append, heard_numbered, sent_numbered, numbered_append, heard_more, did_heard}

-- both laws of an entry, under one name: behind a step stand its signals, and each signal stands in such a list
abbrev pub Under : List ℕ → List Entry → Entry → List Entry → Type 0
Under name before (changed app step) behind = Follow (signals_under name before app step) behind
Under name before (sent (App app) e) behind = e.kind ≡ 4 → (among : IsAmong before app e) × (among.name ≡ name)
Under name before entry behind = Unit {0}

-- and under some name
abbrev pub Both : List Entry → Entry → List Entry → Type 0
Both before entry behind = IsToldUnder before entry behind × IsOneOfThem before entry behind

under_both : (name : List ℕ) (before : List Entry) (entry : Entry) (behind : List Entry) → Under name before entry behind → Both before entry behind
under_both name before (changed app step) behind h = ((name, h), tt)
under_both name before (sent (App app) e) behind h = (tt, λ k. (h k).0)
under_both name before (sent The_bus e) behind h = (tt, tt)
under_both name before (sent Registry e) behind h = (tt, tt)
under_both name before (sent (Reader r) e) behind h = (tt, tt)
under_both name before entry behind h = (tt, tt)

all_both : (name : List ℕ) (early xs : List Entry) → Each (Under name) early xs → Each Both early xs
all_both name early [] e = tt
all_both name early (x ∷ xs) e = (under_both name early x xs e.0, all_both name (early ++ x ∷ []) xs e.1)

follow_more : (entries behind ys : List Entry) → Follow entries behind → Follow entries (behind ++ ys)
follow_more entries behind ys f = (f.0 ++ ys, ap (λ l. l ++ ys) f.1 ∙ append_assoc entries f.0 ys)

told_more : (ys before : List Entry) (entry : Entry) (behind : List Entry) → IsToldUnder before entry behind → IsToldUnder before entry (behind ++ ys)
told_more ys before (changed app step) behind h = (h.0, follow_more (signals_under h.0 before app step) behind ys h.1)
told_more ys before entry behind h = tt

one_more : (ys before : List Entry) (entry : Entry) (behind : List Entry) → IsOneOfThem before entry behind → IsOneOfThem before entry (behind ++ ys)
one_more ys before (sent (App app) e) behind h = h
one_more ys before entry behind h = tt

all_more : (ys early xs : List Entry) → Each Both early xs → Each (λ before entry behind. Both before entry (behind ++ ys)) early xs
all_more ys early [] e = tt
all_more ys early (x ∷ xs) e = ((told_more ys early x xs e.0.0, one_more ys early x xs e.0.1), all_more ys (early ++ x ∷ []) xs e.1)

under_more : (name : List ℕ) (ys before : List Entry) (entry : Entry) (behind : List Entry) → Under name before entry behind → Under name before entry (behind ++ ys)
under_more name ys before (changed app step) behind h = follow_more (signals_under name before app step) behind ys h
under_more name ys before (sent (App app) e) behind h = h
under_more name ys before (sent The_bus e) behind h = tt
under_more name ys before (sent Registry e) behind h = tt
under_more name ys before (sent (Reader r) e) behind h = tt
under_more name ys before entry behind h = tt

all_under : (name : List ℕ) (ys early xs : List Entry) → Each (Under name) early xs → Each (λ before entry behind. Under name before entry (behind ++ ys)) early xs
all_under name ys early [] e = tt
all_under name ys early (x ∷ xs) e = (under_more name ys early x xs e.0, all_under name ys (early ++ x ∷ []) xs e.1)

pub under_both_lists : (name : List ℕ) (early xs ys : List Entry) → Each (Under name) early xs → Each (Under name) (early ++ xs) ys → Each (Under name) early (xs ++ ys)
under_both_lists name early xs ys a b = each_more (Under name) early xs ys (all_under name ys early xs a) b

pub both_more : (early xs ys : List Entry) → Each Both early xs → Each Both (early ++ xs) ys → Each Both early (xs ++ ys)
both_more early xs ys a b = each_more Both early xs ys (all_more ys early xs a) b

-- an application's tree, pairs and next number are those that the entries tell
pub record At (early : List Entry) (app : ℕ) (ps : List (List ℕ × List ℕ)) (f : Forest TreeRow) (n : ℕ) : Type 0 where
  pub pairs : heard_pairs early app ≡ ps
  pub tree : live_tree early app ≡ f
  pub next : n ≡ suc (length (messages early (App app)))

did_count : (app : ℕ) (hs : List Happening) → length (messages (map (did app) hs) (App app)) ≡ sent_in hs
did_count app [] = refl
did_count app (sends e ∷ hs) =
    ap (λ b. length (cons_option (if b then Some e else None) (messages (map (did app) hs) (App app)))) (party-same (App app)) ∙ ap suc (did_count app hs)
did_count app (steps step ∷ hs) = did_count app hs
did_count app (hears listener pattern ∷ hs) = did_count app hs
did_count app (deaf listener pattern ∷ hs) = did_count app hs

-- so it is behind what it did
pub at_behind : (early : List Entry) (app : ℕ) (ps : List (List ℕ × List ℕ)) (f : Forest TreeRow) (n : ℕ) (hs : List Happening) → At early app ps f n
    → At (early ++ map (did app) hs) app (heard_by ps hs) (tree_by f hs) (n + sent_in hs)
at_behind early app ps f n hs a = record {
  pairs = heard_more app early (map (did app) hs) ∙ ap (λ p. fold (pairs_after app) p (map (did app) hs)) a.pairs ∙ did_heard app ps hs;
  tree = tree_more app early (map (did app) hs) ∙ ap (λ t. fold (tree_after app) t (map (did app) hs)) a.tree ∙ did_tree app f hs;
  next = sum a.next (ap length (messages_more early (map (did app) hs) (App app)) ∙ length-append (messages early (App app)) (messages (map (did app) hs) (App app))) (did_count app hs);
}
  where
    sum : n ≡ suc (length (messages early (App app)))
        → length (messages (early ++ map (did app) hs) (App app)) ≡ length (messages early (App app)) + length (messages (map (did app) hs) (App app))
        → length (messages (map (did app) hs) (App app)) ≡ sent_in hs → n + sent_in hs ≡ suc (length (messages (early ++ map (did app) hs) (App app)))
    sum p q r = omega (arith, p, q, r)

-- what happens is told, from this number on
abbrev pub Tells : ℕ → List (List ℕ × List ℕ) → Forest TreeRow → ℕ → List Happening → Type 0
Tells app ps f n hs = (early : List Entry) → At early app ps f n → Each Both early (map (did app) (numbered n hs))

-- and so under this name
abbrev pub TellsUnder : List ℕ → ℕ → List (List ℕ × List ℕ) → Forest TreeRow → ℕ → List Happening → Type 0
TellsUnder name app ps f n hs = (early : List Entry) → At early app ps f n → Each (Under name) early (map (did app) (numbered n hs))

did_append : (app : ℕ) (hs ks : List Happening) → map (did app) (hs ++ ks) ≡ map (did app) hs ++ map (did app) ks
did_append app [] ks = refl
did_append app (h ∷ hs) ks = ap (λ l. did app h ∷ l) (did_append app hs ks)

at_numbered : (early : List Entry) (app : ℕ) (ps : List (List ℕ × List ℕ)) (f : Forest TreeRow) (n : ℕ) (hs : List Happening) → At early app ps f n
    → At (early ++ map (did app) (numbered n hs)) app (heard_by ps hs) (tree_by f hs) (n + sent_in hs)
at_numbered early app ps f n hs a =
    subst (λ p. At (early ++ map (did app) (numbered n hs)) app p (tree_by f hs) (n + sent_in hs)) (heard_numbered ps n hs)
    (subst (λ t. At (early ++ map (did app) (numbered n hs)) app (heard_by ps (numbered n hs)) t (n + sent_in hs)) (tree_numbered f n hs)
    (subst (λ m. At (early ++ map (did app) (numbered n hs)) app (heard_by ps (numbered n hs)) (tree_by f (numbered n hs)) (n + m)) (sent_numbered n hs)
    (at_behind early app ps f n (numbered n hs) a)))

pub tells_both : (app : ℕ) (ps : List (List ℕ × List ℕ)) (f : Forest TreeRow) (n : ℕ) (hs ks : List Happening) → Tells app ps f n hs
    → Tells app (heard_by ps hs) (tree_by f hs) (n + sent_in hs) ks → Tells app ps f n (hs ++ ks)
tells_both app ps f n hs ks a b early at =
    subst (Each Both early) (sym (ap (map (did app)) (numbered_append n hs ks) ∙ did_append app (numbered n hs) (numbered (n + sent_in hs) ks)))
    (both_more early (map (did app) (numbered n hs)) (map (did app) (numbered (n + sent_in hs) ks)) (a early at)
    (b (early ++ map (did app) (numbered n hs)) (at_numbered early app ps f n hs at)))

pub under_tells : (name : List ℕ) (app : ℕ) (ps : List (List ℕ × List ℕ)) (f : Forest TreeRow) (n : ℕ) (hs ks : List Happening) → TellsUnder name app ps f n hs
    → TellsUnder name app (heard_by ps hs) (tree_by f hs) (n + sent_in hs) ks → TellsUnder name app ps f n (hs ++ ks)
under_tells name app ps f n hs ks a b early at =
    subst (Each (Under name) early) (sym (ap (map (did app)) (numbered_append n hs ks) ∙ did_append app (numbered n hs) (numbered (n + sent_in hs) ks)))
    (under_both_lists name early (map (did app) (numbered n hs)) (map (did app) (numbered (n + sent_in hs) ks)) (a early at)
    (b (early ++ map (did app) (numbered n hs)) (at_numbered early app ps f n hs at)))

-- neither a step nor a signal
abbrev pub IsPlain : List Happening → Type 0
IsPlain [] = Unit {0}
IsPlain (steps step ∷ hs) = ⊥
IsPlain (sends e ∷ hs) = (e.kind ≡ 4 → ⊥) × IsPlain hs
IsPlain (h ∷ hs) = IsPlain hs

pub plain_each : (name : List ℕ) (app n : ℕ) (hs : List Happening) → IsPlain hs → (early : List Entry) → Each (Under name) early (map (did app) (numbered n hs))
plain_each name app n [] p early = tt
plain_each name app n (steps step ∷ hs) p early = absurd p
plain_each name app n (sends e ∷ hs) p early = ((λ k. absurd (p.0 k)), plain_each name app (n + 1) hs p.1 (early ++ sent (App app) (record e { serial = n }) ∷ []))
plain_each name app n (hears listener pattern ∷ hs) p early = (tt, plain_each name app n hs p (early ++ did app (hears listener pattern) ∷ []))
plain_each name app n (deaf listener pattern ∷ hs) p early = (tt, plain_each name app n hs p (early ++ did app (deaf listener pattern) ∷ []))

pub plain_under : (name : List ℕ) (app : ℕ) (ps : List (List ℕ × List ℕ)) (f : Forest TreeRow) (n : ℕ) (hs : List Happening) → IsPlain hs → TellsUnder name app ps f n hs
plain_under name app ps f n hs p early at = plain_each name app n hs p early

pub plain_tells : (app : ℕ) (ps : List (List ℕ × List ℕ)) (f : Forest TreeRow) (n : ℕ) (hs : List Happening) → IsPlain hs → Tells app ps f n hs
plain_tells app ps f n hs p early at = all_both [] early (map (did app) (numbered n hs)) (plain_each [] app n hs p early)

-- THE SIGNALS OF ONE STEP
signal_sends : (app n : ℕ) (xs : List Signal)
    → map (sent (App app)) (messages_of.numbered n (map (λ (s : Signal). s.message) xs)) ≡ map (did app) (numbered n (map (λ (s : Signal). sends s.message) xs))
signal_sends app n [] = refl
signal_sends app n (x ∷ xs) = ap (λ l. sent (App app) (record x.message { serial = n }) ∷ l) (signal_sends app (n + 1) xs)

-- those that a step's list ends with, behind those before
sents_each : (app : ℕ) (early : List Entry) (step : Step) (name : List ℕ) (front : List Entry) (n : ℕ) (xs : List Signal)
    → signals_under name early app step ≡ front ++ map (did app) (numbered n (map (λ (s : Signal). sends s.message) xs))
    → Each (Under name) (early ++ changed app step ∷ front) (map (did app) (numbered n (map (λ (s : Signal). sends s.message) xs)))
sents_each app early step name front n [] h = tt
sents_each app early step name front n (x ∷ xs) h =
    let e : Envelope = record x.message { serial = n } in
    let back : List Entry = map (did app) (numbered (n + 1) (map (λ (s : Signal). sends s.message) xs)) in (
      (λ k. (record { name = name; early = early; step = step; front = front; back = back; stands = refl; listed = h }, refl)),
      subst (λ l. Each (Under name) l back) (sym (append_assoc early (changed app step ∷ front) (sent (App app) e ∷ [])))
          (sents_each app early step name (front ++ sent (App app) e ∷ []) (n + 1) xs (h ∙ sym (append_assoc front (sent (App app) e ∷ []) back))),
    )

-- they are those that the entries call for
listed_at : (early : List Entry) (app : ℕ) (ps : List (List ℕ × List ℕ)) (f : Forest TreeRow) (n : ℕ) (name : List ℕ) (step : Step) → At early app ps f n
    → signals_under name early app step ≡ map (did app) (numbered n (map (λ (s : Signal). sends s.message) (asked_for ps (announced name f step))))
listed_at early app ps f n name step a =
    ap (λ m. map (sent (App app)) (messages_of.numbered m (map (λ (s : Signal). s.message) (asked_for (heard_pairs early app) (announced name (live_tree early app) step))))) (sym a.next)
    ∙ ap₂ (λ p t. map (sent (App app)) (messages_of.numbered n (map (λ (s : Signal). s.message) (asked_for p (announced name t step))))) a.pairs a.tree
    ∙ signal_sends app n (asked_for ps (announced name f step))

step_under : (app : ℕ) (ps : List (List ℕ × List ℕ)) (f : Forest TreeRow) (n : ℕ) (name : List ℕ) (step : Step) → TellsUnder name app ps f n (step_told ps name f step)
step_under app ps f n name step early at =
    let xs : List Signal = asked_for ps (announced name f step) in
    let listed = listed_at early app ps f n name step at in
    (([], sym (append-nil (signals_under name early app step) ∙ listed)), sents_each app early step name [] n xs listed)

-- and those of steps one after another
sends_heard : (ps : List (List ℕ × List ℕ)) (xs : List Signal) → heard_by ps (map (λ (s : Signal). sends s.message) xs) ≡ ps
sends_heard ps [] = refl
sends_heard ps (x ∷ xs) = sends_heard ps xs

pub told_heard : (ps : List (List ℕ × List ℕ)) (name : List ℕ) (f : Forest TreeRow) (ss : List Step) → heard_by ps (steps_told ps name f ss) ≡ ps
told_heard ps name f [] = refl
told_heard ps name f (step ∷ ss) =
    let signals : List Happening = map (λ (s : Signal). sends s.message) (asked_for ps (announced name f step)) in
    heard_append ps signals (steps_told ps name (after rows f step) ss)
    ∙ ap (λ p. heard_by p (steps_told ps name (after rows f step) ss)) (sends_heard ps (asked_for ps (announced name f step)))
    ∙ told_heard ps name (after rows f step) ss

pub steps_under : (app : ℕ) (ps : List (List ℕ × List ℕ)) (f : Forest TreeRow) (n : ℕ) (name : List ℕ) (ss : List Step) → TellsUnder name app ps f n (steps_told ps name f ss)
steps_under app ps f n name [] early at = tt
steps_under app ps f n name (step ∷ ss) early at =
    let xs : List Signal = asked_for ps (announced name f step) in
    let signals : List Happening = map (λ (s : Signal). sends s.message) xs in
    let g : Forest TreeRow = after rows f step in
    let tree : tree_by g signals ≡ g = still_tree g signals (still_sends (λ (s : Signal). s.message) xs) in
    under_tells name app ps f n (step_told ps name f step) (steps_told ps name g ss) (step_under app ps f n name step)
    (subst (λ p. TellsUnder name app p (tree_by g signals) (n + sent_in signals) (steps_told ps name g ss)) (sym (sends_heard ps xs))
    (subst (λ t. TellsUnder name app ps t (n + sent_in signals) (steps_told ps name g ss)) (sym tree) (λ e a. steps_under app ps g (n + sent_in signals) name ss e a)))
    early at

pub steps_tell : (app : ℕ) (ps : List (List ℕ × List ℕ)) (f : Forest TreeRow) (n : ℕ) (name : List ℕ) (ss : List Step) → Tells app ps f n (steps_told ps name f ss)
steps_tell app ps f n name ss early at = all_both name early (map (did app) (numbered n (steps_told ps name f ss))) (steps_under app ps f n name ss early at)
