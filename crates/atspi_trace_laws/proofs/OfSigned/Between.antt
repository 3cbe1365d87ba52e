-- What stands between two messages of an application, where no signal of it stands there: steps that are not told, and at most one that the second
-- message announces.
use Rattle.std.proofs.Common.{◌≡◌, ◌⊎◌, inl, inr, ℕ, suc, ◌+◌, Bool, true, false, List, [], ◌∷◌, ◌++◌, length, map, Option, None, Some, refl, sym, ap, ◌∙◌, subst, arith}
use Rattle.std.specs.Prelude.{◌==◌, if◌then◌else◌, cond}
use Rattle.std.specs.List.{AllByRecursion}
use Rattle.std.proofs.lemmas.Bool.{eq-eqb, eqb-true, ne_eqb}
use Rattle.std.proofs.lemmas.List.{append-nil, append_assoc}
use Rattle.atspi_tree_model.specs.declared.news.News.{News}
use Rattle.atspi_tree_model.specs.declared.news.News.TheVariants.{Nothing}
use Rattle.atspi_tree_model.specs.declared.step.Step.{Step}
use Rattle.atspi_tree_model.specs.declared.step.Step.TheVariants.{Add, Remove, Move, SetName, SetDescription, SetRole, SetState, Insert, Delete, Caret, TextSelect, Relate}
use Rattle.atspi_tree_model.specs.declared.view.Row.{Row}
use Rattle.atspi_tree_model.specs.Forest.{Forest, labels, width, pick, find, children_at}
use Rattle.atspi_tree_model.specs.Row.{TreeRow, Each}
use Rattle.atspi_tree_model.specs.RowRules.{rows}
use Rattle.atspi_tree_model.specs.Tree.{is_node, first_tree, after, added_after, seat_of}
use Rattle.atspi_tree_model.specs.Path.{path_of}
use Rattle.atspi_tree_model.specs.View.{Told, view}
use Rattle.atspi_tree_model.specs.News.{effect}
use Rattle.atspi_tree_model.specs.Announce.{announcement, echoes, Idle}
use Rattle.atspi_tree_model.specs.Laws.{UntoldOfNew}
use Rattle.atspi_speech.specs.Speech.{lines as read_lines, says_after}
use Rattle.atspi_speech.proofs.DueLemmas.{echoes_silent}
use Rattle.atspi_script_lines.specs.declared.line.Party.TheVariants.{App}
use Rattle.atspi_message.specs.Envelope.{Envelope}
use Rattle.atspi_protocol.specs.ends.Messages.{numbered}
use Rattle.atspi_protocol.specs.announcing.Signals.{Signal, removed}
use Rattle.atspi_protocol.specs.announcing.Announced.{told_node, left, announced}
use Rattle.atspi_protocol.specs.announcing.Laws.{told}
use Rattle.atspi_protocol.specs.exporting.Hearing.{is_covered}
use Rattle.atspi_protocol.specs.exporting.Telling.{asked_for}
use Rattle.atspi_protocol.specs.news.NewsOf.{news_of}
use Rattle.atspi_trace.specs.Entry.{Entry, started, changed, sent}
use Rattle.atspi_trace_laws.specs.laws.Words.{tree_after, live_tree, count_after, added, messages, heard_pairs}
use Rattle.atspi_trace_laws.specs.laws.NineLaws.{Everywhere, Follow}
use Rattle.atspi_trace_laws.specs.heard.Laws.{signals_under, IsAmong}
use Rattle.atspi_trace_laws.specs.folds.Laws.{AreAllCovered}
use Rattle.atspi_trace_laws.specs.views.Laws.{IsCarried, StepIsCarried}
use Rattle.atspi_trace_laws.specs.missed.Laws.{IsNoSignal}
use Rattle.atspi_trace_laws.proofs.OfOrder.Parties.{false_true, all_append}
use Rattle.atspi_trace_laws.proofs.OfSteps.Trees.{tree_more, count_more}
use Rattle.atspi_trace_laws.proofs.OfSerials.Serial.{messages_more}
use Rattle.atspi_trace_laws.proofs.OfFolds.LawFolds.{all_asked}
use Rattle.atspi_trace_laws.proofs.OfSigned.Starts.{StartsAnew}

-- The signals of each step of the application are those of an application with this name, and it sends no others.
abbrev pub IsSigned : List ℕ → ℕ → List Entry → Entry → List Entry → Type 0
IsSigned name app before (changed a step) behind = a ≡ app → Follow (signals_under name before app step) behind
IsSigned name app before (sent (App a) e) behind = a ≡ app → e.kind ≡ 4 → (among : IsAmong before app e) × (among.name ≡ name)
IsSigned name app before entry behind = Unit {0}

-- EACH SIGNAL IS ONE
abbrev pub IsSignal : Signal → Type 0
IsSignal s = s.message.kind ≡ 4

node_signals : (b : List ℕ) (p i n : ℕ) (o : Option TreeRow) → AllByRecursion IsSignal (told_node b p i n o)
node_signals b p i n None = tt
node_signals b p i n (Some row) = (refl, tt)

left_signals : (b : List ℕ) (n : ℕ) (o : Option (Option ℕ × ℕ)) → AllByRecursion IsSignal (left b n o)
left_signals b n None = tt
left_signals b n (Some (None, index)) = tt
left_signals b n (Some (Some parent, index)) = (refl, tt)

removed_signals : (b : List ℕ) (rs : List TreeRow) → AllByRecursion IsSignal (map (λ (row : TreeRow). removed b row.shape.node) rs)
removed_signals b [] = tt
removed_signals b (r ∷ rs) = (refl, removed_signals b rs)

pub all_signals : (b : List ℕ) (f : Forest TreeRow) (step : Step) → AllByRecursion IsSignal (announced b f step)
all_signals b f (Add n p i seed) = (refl, (refl, tt))
all_signals b f (Remove n) =
    all_append IsSignal (left b n (seat_of rows n f)) (map (λ (row : TreeRow). removed b row.shape.node) (labels (pick (is_node n) f))) (left_signals b n (seat_of rows n f))
    (removed_signals b (labels (pick (is_node n) f)))
all_signals b f (Move n p i) =
    let g : Forest TreeRow = after rows f (Move n p i) in
    all_append IsSignal (told_node b p i (width (children_at (is_node n) g)) (find (is_node n) g) ++ left b n (seat_of rows n f)) _
    (all_append IsSignal (told_node b p i (width (children_at (is_node n) g)) (find (is_node n) g)) (left b n (seat_of rows n f)) (node_signals b p i (width (children_at (is_node n) g)) (find (is_node n) g))
    (left_signals b n (seat_of rows n f)))
    (refl, (refl, tt))
all_signals b f (SetName n x) = (refl, tt)
all_signals b f (SetDescription n x) = (refl, tt)
all_signals b f (SetRole n role) = (refl, tt)
all_signals b f (SetState n state on) = (refl, tt)
all_signals b f (Insert n at x) = (refl, tt)
all_signals b f (Delete n at x) = (refl, tt)
all_signals b f (Caret n at) = (refl, tt)
all_signals b f (TextSelect n marks) = tt
all_signals b f (Relate n kind targets) = tt

-- of those that are asked for the same holds, as of the entries that they are
pub asked_all : (P : Signal → Type 0) (pairs : List (List ℕ × List ℕ)) (xs : List Signal) → AllByRecursion P xs → AllByRecursion P (asked_for pairs xs)
asked_all P pairs [] a = tt
asked_all P pairs (x ∷ xs) a = by (is_covered pairs x.event x.minor) (asked_all P pairs xs a.1)
  where
    by : (b : Bool) → AllByRecursion P (asked_for pairs xs) → AllByRecursion P (if b then x ∷ asked_for pairs xs else asked_for pairs xs)
    by true r = (a.0, r)
    by false r = r

abbrev pub behind_first : {X : Type 0} → List X → List X
behind_first [] = []
behind_first (x ∷ xs) = xs

pub asked_behind : (P : Signal → Type 0) (pairs : List (List ℕ × List ℕ)) (xs : List Signal) → AllByRecursion P (behind_first xs) → AllByRecursion P (behind_first (asked_for pairs xs))
asked_behind P pairs [] a = tt
asked_behind P pairs (x ∷ xs) a = by (is_covered pairs x.event x.minor) (asked_all P pairs xs a)
  where
    rest : (l : List Signal) → AllByRecursion P l → AllByRecursion P (behind_first l)
    rest [] r = tt
    rest (y ∷ ys) r = r.1

    by : (b : Bool) → AllByRecursion P (asked_for pairs xs) → AllByRecursion P (behind_first (if b then x ∷ asked_for pairs xs else asked_for pairs xs))
    by true r = r
    by false r = rest (asked_for pairs xs) r

-- an entry that is such a message of the application
abbrev pub OfMessage : (Envelope → Type 0) → ℕ → Entry → Type 0
OfMessage P app (sent (App a) e) = (a ≡ app) × P e
OfMessage P app entry = ⊥

pub sent_each : (P : Envelope → Type 0) (app n : ℕ) (xs : List Signal) → AllByRecursion (λ (s : Signal). (m : ℕ) → P (record s.message { serial = m })) xs
    → AllByRecursion (OfMessage P app) (map (sent (App app)) (numbered n (map (λ (s : Signal). s.message) xs)))
sent_each P app n [] a = tt
sent_each P app n (x ∷ xs) a = ((refl, a.0 n), sent_each P app (n + 1) xs a.1)

-- WHAT A STEP TELLS
-- nothing, and then it changes no view; or its announcement and its echoes
pub record IsSilent (name : List ℕ) (f : Forest TreeRow) (step : Step) : Type 0 where
  pub none : told name f step ≡ []
  pub nothing : announcement name f step ≡ Nothing
  pub untold : (parts : List ℕ → Told) → UntoldOfNew parts step
  pub count : (n : ℕ) → added_after n step ≡ n

pub telling : (name : List ℕ) (f : Forest TreeRow) (step : Step) → IsSilent name f step ⊎ (told name f step ≡ announcement name f step ∷ echoes name f step)
telling name f (Add n p i seed) = inr refl
telling name f (Remove n) = inr refl
telling name f (Move n p i) = inr refl
telling name f (SetName n x) = inr refl
telling name f (SetDescription n x) = inr refl
telling name f (SetRole n role) = inr refl
telling name f (SetState n state on) = inr refl
telling name f (Insert n at x) = inr refl
telling name f (Delete n at x) = inr refl
telling name f (Caret n at) = inr refl
telling name f (TextSelect n marks) = inl (record { none = refl; nothing = refl; untold = λ parts. tt; count = λ n. refl })
telling name f (Relate n kind targets) = inl (record { none = refl; nothing = refl; untold = λ parts. tt; count = λ n. refl })

no_cons : {X : Type 0} (x : X) (xs : List X) → [] ≡ x ∷ xs → ⊥
no_cons x xs h = absurd (omega (arith, ap length h))

abbrev first_or : {X : Type 0} → X → List X → X
first_or d [] = d
first_or d (x ∷ xs) = x

-- the news of a signal as its application's reader reads it
abbrev pub news_in : List ℕ → Signal → News
news_in name s = news_of name (record s.message { serial = 0; sender = Some name })

-- a step that is announced by nothing is silent
pub silent_step : (early : List Entry) (app : ℕ) (name : List ℕ) (step : Step) → IsCarried early app step → announced name (live_tree early app) step ≡ [] → IsSilent name (live_tree early app) step
silent_step early app name step c none = by (telling name (live_tree early app) step)
  where
    by : (IsSilent name (live_tree early app) step ⊎ (told name (live_tree early app) step ≡ announcement name (live_tree early app) step ∷ echoes name (live_tree early app) step)) → IsSilent name (live_tree early app) step
    by (inl s) = s
    by (inr h) = absurd (no_cons (announcement name (live_tree early app) step) (echoes name (live_tree early app) step) (ap (map (news_in name)) (sym none) ∙ c.news name 0 ∙ h))

-- the first signal of one that is announced is its announcement, and the others are its echoes
pub record IsAnnounced (name : List ℕ) (f : Forest TreeRow) (step : Step) (x : Signal) (more : List Signal) : Type 0 where
  pub first : news_in name x ≡ announcement name f step
  pub rest : map (news_in name) more ≡ echoes name f step

pub announced_step : (early : List Entry) (app : ℕ) (name : List ℕ) (step : Step) (x : Signal) (more : List Signal) → IsCarried early app step → announced name (live_tree early app) step ≡ x ∷ more
    → IsAnnounced name (live_tree early app) step x more
announced_step early app name step x more c is = by (telling name (live_tree early app) step)
  where
    all : news_in name x ∷ map (news_in name) more ≡ told name (live_tree early app) step
    all = ap (map (news_in name)) (sym is) ∙ c.news name 0

    by : (IsSilent name (live_tree early app) step ⊎ (told name (live_tree early app) step ≡ announcement name (live_tree early app) step ∷ echoes name (live_tree early app) step))
        → IsAnnounced name (live_tree early app) step x more
    by (inl s) = absurd (no_cons (news_in name x) (map (news_in name) more) (sym (all ∙ s.none)))
    by (inr h) = record { first = ap (first_or (news_in name x)) (all ∙ h); rest = ap behind_first (all ∙ h) }

-- the echoes change no view behind the step
abbrev pub Stays : List ℕ → Forest Row → News → Type 0
Stays name v n = effect (path_of 0) name v n ≡ v

idle_stays : (name : List ℕ) (v : Forest Row) (ns : List News) → Idle (path_of 0) name v ns → AllByRecursion (Stays name v) ns
idle_stays name v [] i = tt
idle_stays name v (n ∷ ns) i = (i.0, idle_stays name v ns i.2)

echoes_stay : (early : List Entry) (app : ℕ) (name : List ℕ) (parts : List ℕ → Told) (step : Step) → IsCarried early app step
    → AllByRecursion (Stays name (view parts (live_tree (early ++ changed app step ∷ []) app))) (echoes name (live_tree early app) step)
echoes_stay early app name parts (Add n p i seed) c = (refl, tt)
echoes_stay early app name parts (Remove n) c = idle_stays name (view parts (live_tree (early ++ changed app (Remove n) ∷ []) app)) (echoes name (live_tree early app) (Remove n)) (c.echoes name parts tt)
echoes_stay early app name parts (Move n p i) c = idle_stays name (view parts (live_tree (early ++ changed app (Move n p i) ∷ []) app)) (echoes name (live_tree early app) (Move n p i)) (c.echoes name parts tt)
echoes_stay early app name parts (SetName n x) c = tt
echoes_stay early app name parts (SetDescription n x) c = tt
echoes_stay early app name parts (SetRole n role) c = tt
echoes_stay early app name parts (SetState n state on) c = tt
echoes_stay early app name parts (Insert n at x) c = tt
echoes_stay early app name parts (Delete n at x) c = tt
echoes_stay early app name parts (Caret n at) c = tt
echoes_stay early app name parts (TextSelect n marks) c = tt
echoes_stay early app name parts (Relate n kind targets) c = tt

-- what holds of the news of some signals holds of the news of their messages
news_in_each : (name : List ℕ) (P : News → Type 0) (xs : List Signal) → AllByRecursion P (map (news_in name) xs) → AllByRecursion (λ (s : Signal). (m : ℕ) → P (news_of name (record s.message { serial = m }))) xs
news_in_each name P [] a = tt
news_in_each name P (x ∷ xs) a = ((λ m. a.0), news_in_each name P xs a.1)

-- of the signals that a step sends, each behind the first is an echo
pub echo_news : (early : List Entry) (app : ℕ) (name : List ℕ) (step : Step) (P : News → Type 0) → IsCarried early app step → AllByRecursion P (echoes name (live_tree early app) step)
    → AllByRecursion (OfMessage (λ e. P (news_of name e)) app) (behind_first (signals_under name early app step))
echo_news early app name step P c holds =
    by (asked_for (heard_pairs early app) (announced name (live_tree early app) step))
    (asked_behind Good (heard_pairs early app) (announced name (live_tree early app) step) (good (announced name (live_tree early app) step) refl))
  where
    Good : Signal → Type 0
    Good s = (m : ℕ) → P (news_of name (record s.message { serial = m }))

    good : (l : List Signal) → announced name (live_tree early app) step ≡ l → AllByRecursion Good (behind_first l)
    good [] h = tt
    good (x ∷ more) h = let is = announced_step early app name step x more c h in news_in_each name P more (subst (AllByRecursion P) (sym is.rest) holds)

    n : ℕ
    n = suc (length (messages early (App app)))

    by : (l : List Signal) → AllByRecursion Good (behind_first l)
        → AllByRecursion (OfMessage (λ e. P (news_of name e)) app) (behind_first (map (sent (App app)) (numbered n (map (λ (s : Signal). s.message) l))))
    by [] a = tt
    by (x ∷ xs) a = sent_each (λ e. P (news_of name e)) app (n + 1) xs a

pub echo_messages : (early : List Entry) (app : ℕ) (name : List ℕ) (parts : List ℕ → Told) (step : Step) → IsCarried early app step
    → AllByRecursion (OfMessage (λ e. Stays name (view parts (live_tree (early ++ changed app step ∷ []) app)) (news_of name e)) app) (behind_first (signals_under name early app step))
echo_messages early app name parts step c = echo_news early app name step (Stays name (view parts (live_tree (early ++ changed app step ∷ []) app))) c (echoes_stay early app name parts step c)

-- and nothing is spoken at it
pub echo_lines : (early : List Entry) (app : ℕ) (name : List ℕ) (v : Forest Row) (step : Step) → IsCarried early app step
    → AllByRecursion (OfMessage (λ e. read_lines (path_of 0) name v (news_of name e) ≡ []) app) (behind_first (signals_under name early app step))
echo_lines early app name v step c = echo_news early app name step (λ news. read_lines (path_of 0) name v news ≡ []) c (all_of (echoes name (live_tree early app) step) (echoes_silent name (live_tree early app) v step))
  where
    all_of : (xs : List News) → Each (λ news. read_lines (path_of 0) name v news ≡ []) xs → AllByRecursion (λ news. read_lines (path_of 0) name v news ≡ []) xs
    all_of [] a = tt
    all_of (x ∷ xs) a = (a.0, all_of xs a.1)

-- nothing is due at a step that is announced by nothing
pub none_due : (name : List ℕ) (f g : Forest TreeRow) (step : Step) → IsSilent name f step → says_after g step ≡ []
none_due name f g (Add n p i seed) s = absurd (no_cons (announcement name f (Add n p i seed)) (echoes name f (Add n p i seed)) (sym s.none))
none_due name f g (Remove n) s = refl
none_due name f g (Move n p i) s = refl
none_due name f g (SetName n x) s = absurd (no_cons (announcement name f (SetName n x)) (echoes name f (SetName n x)) (sym s.none))
none_due name f g (SetDescription n x) s = refl
none_due name f g (SetRole n role) s = refl
none_due name f g (SetState n state on) s = absurd (no_cons (announcement name f (SetState n state on)) (echoes name f (SetState n state on)) (sym s.none))
none_due name f g (Insert n at x) s = absurd (no_cons (announcement name f (Insert n at x)) (echoes name f (Insert n at x)) (sym s.none))
none_due name f g (Delete n at x) s = absurd (no_cons (announcement name f (Delete n at x)) (echoes name f (Delete n at x)) (sym s.none))
none_due name f g (Caret n at) s = refl
none_due name f g (TextSelect n marks) s = refl
none_due name f g (Relate n kind targets) s = refl

pub signal_messages : (early : List Entry) (app : ℕ) (name : List ℕ) (step : Step) → AllByRecursion (OfMessage (λ e. e.kind ≡ 4) app) (signals_under name early app step)
signal_messages early app name step =
    sent_each (λ e. e.kind ≡ 4) app (suc (length (messages early (App app)))) (asked_for (heard_pairs early app) (announced name (live_tree early app) step))
    (asked_all (λ (s : Signal). (m : ℕ) → s.message.kind ≡ 4) (heard_pairs early app) (announced name (live_tree early app) step) (each (announced name (live_tree early app) step) (all_signals name (live_tree early app) step)))
  where
    each : (xs : List Signal) → AllByRecursion IsSignal xs → AllByRecursion (λ (s : Signal). (m : ℕ) → s.message.kind ≡ 4) xs
    each [] a = tt
    each (x ∷ xs) a = ((λ m. a.0), each xs a.1)

-- an entry that is a step
abbrev pub IsStep : Entry → Type 0
IsStep (changed app step) = Unit {0}
IsStep entry = ⊥

-- WALKING
-- two trees look the same to every reader, and as many nodes were added
pub record SameViews (xs ys : List Entry) (app : ℕ) : Type 0 where
  pub views : (parts : List ℕ → Told) → view parts (live_tree ys app) ≡ view parts (live_tree xs app)
  pub count : added ys app ≡ added xs app

same_views : (xs : List Entry) (app : ℕ) → SameViews xs xs app
same_views xs app = record { views = λ parts. refl; count = refl }

views_both : (xs ys zs : List Entry) (app : ℕ) → SameViews xs ys app → SameViews ys zs app → SameViews xs zs app
views_both xs ys zs app a b = record { views = λ parts. b.views parts ∙ a.views parts; count = b.count ∙ a.count }

-- all steps are silent
pub record AllSilent (name : List ℕ) (early between : List Entry) (app : ℕ) : Type 0 where
  pub same : SameViews early (early ++ between) app
  pub silent : (xs ys : List Entry) (step : Step) → between ≡ xs ++ changed app step ∷ ys → announced name (live_tree (early ++ xs) app) step ≡ []

-- or the last entry is a step that the message announces, and all before it are silent
pub record OneStep (name : List ℕ) (early between : List Entry) (app : ℕ) (e : Envelope) : Type 0 where
  pub front : List Entry
  pub step : Step
  pub first : Signal
  pub more : List Signal
  pub serial : ℕ
  pub stands : between ≡ front ++ changed app step ∷ []
  pub told : announced name (live_tree (early ++ front) app) step ≡ first ∷ more
  pub message : e ≡ record first.message { serial = serial }
  pub same : SameViews early (early ++ front) app

abbrev pub Walked : List ℕ → List Entry → List Entry → ℕ → Envelope → Type 0
Walked name early between app e = AllSilent name early between app ⊎ OneStep name early between app e

abbrev pub Asked : List ℕ → List Entry → List Entry → ℕ → Type 0
Asked name early between app =
    (xs ys : List Entry) (step : Step) → between ≡ xs ++ changed app step ∷ ys → AreAllCovered (heard_pairs (early ++ xs) app) (announced name (live_tree (early ++ xs) app) step)

module _ (T : List Entry) (name : List ℕ) (app : ℕ) (signed : Everywhere (IsSigned name app) T) (carried : Everywhere StepIsCarried T) (starts : Everywhere StartsAnew T) (e : Envelope) (post : List Entry) where
  -- one entry more that changes no view
  longer : (early : List Entry) (y : Entry) (ys : List Entry) → SameViews early (early ++ y ∷ []) app
      → ((step : Step) → y ≡ changed app step → announced name (live_tree early app) step ≡ []) → Walked name (early ++ y ∷ []) ys app e → Walked name early (y ∷ ys) app e
  longer early y ys same here (inl s) =
      inl (record {
        same = subst (λ l. SameViews early l app) (append_assoc early (y ∷ []) ys) (views_both early (early ++ y ∷ []) ((early ++ y ∷ []) ++ ys) app same s.same);
        silent = λ xs zs step h. by xs zs step h;
      })
    where
      by : (xs zs : List Entry) (step : Step) → y ∷ ys ≡ xs ++ changed app step ∷ zs → announced name (live_tree (early ++ xs) app) step ≡ []
      by [] zs step h = subst (λ l. announced name (live_tree l app) step ≡ []) (sym (append-nil early)) (here step (ap (first_or y) h))
      by (x ∷ xs) zs step h =
          subst (λ l. announced name (live_tree l app) step ≡ []) (append_assoc early (y ∷ []) xs ∙ ap (λ z. early ++ z ∷ xs) (ap (first_or y) h)) (s.silent xs zs step (ap behind_first h))
  longer early y ys same here (inr o) =
      inr (record {
        front = y ∷ o.front;
        step = o.step;
        first = o.first;
        more = o.more;
        serial = o.serial;
        stands = ap (λ l. y ∷ l) o.stands;
        told = subst (λ l. announced name (live_tree l app) o.step ≡ o.first ∷ o.more) (append_assoc early (y ∷ []) o.front) o.told;
        message = o.message;
        same = subst (λ l. SameViews early l app) (append_assoc early (y ∷ []) o.front) (views_both early (early ++ y ∷ []) ((early ++ y ∷ []) ++ o.front) app same o.same);
      })

  -- a step of the application
  at_step : (early ys : List Entry) (step : Step) → T ≡ early ++ changed app step ∷ (ys ++ sent (App app) e ∷ post) → AllByRecursion (IsNoSignal app) ys
      → AreAllCovered (heard_pairs early app) (announced name (live_tree early app) step) → Walked name (early ++ changed app step ∷ []) ys app e → Walked name early (changed app step ∷ ys) app e
  at_step early ys step at none covered ih = by (announced name (live_tree early app) step) refl
    where
      c : IsCarried early app step
      c = carried early (changed app step) (ys ++ sent (App app) e ∷ post) at

      n : ℕ
      n = suc (length (messages early (App app)))

      follows : Follow (signals_under name early app step) (ys ++ sent (App app) e ∷ post)
      follows = signed early (changed app step) (ys ++ sent (App app) e ∷ post) at refl

      silent : IsSilent name (live_tree early app) step → SameViews early (early ++ changed app step ∷ []) app
      silent s = record {
        views = λ parts. sym (c.announcement name parts (s.untold parts)) ∙ ap (effect (path_of 0) name (view parts (live_tree early app))) s.nothing;
        count = count_more app early (changed app step ∷ []) ∙ ap (λ b. cond b (added_after (added early app) step) (added early app)) (eq-eqb app app refl) ∙ s.count (added early app);
      }

      announces : (x : Signal) (more : List Signal) → announced name (live_tree early app) step ≡ x ∷ more → (l : List Entry) → l ≡ ys
          → map (sent (App app)) (numbered n (map (λ (s : Signal). s.message) (x ∷ more))) ++ follows.0 ≡ l ++ sent (App app) e ∷ post → Walked name early (changed app step ∷ ys) app e
      announces x more is [] l h =
          inr (record {
            front = [];
            step = step;
            first = x;
            more = more;
            serial = n;
            stands = ap (λ z. changed app step ∷ z) (sym l);
            told = subst (λ z. announced name (live_tree z app) step ≡ x ∷ more) (sym (append-nil early)) is;
            message = sym (ap (said_or e) (ap (first_or (sent (App app) e)) h));
            same = subst (λ z. SameViews early z app) (sym (append-nil early)) (same_views early app);
          })
        where
          said_or : Envelope → Entry → Envelope
          said_or d (sent who m) = m
          said_or d entry = d
      announces x more is (z ∷ zs) l h =
          let here : sent (App app) (record x.message { serial = n }) ≡ z = ap (first_or z) h in
          let no : IsNoSignal app z = (subst (AllByRecursion (IsNoSignal app)) (sym l) none).0 in
          absurd (subst (IsNoSignal app) (sym here) no refl (subst (AllByRecursion IsSignal) is (all_signals name (live_tree early app) step)).0)

      by : (l : List Signal) → announced name (live_tree early app) step ≡ l → Walked name early (changed app step ∷ ys) app e
      by [] is =
          longer early (changed app step) ys (silent (silent_step early app name step c is))
          (λ other same. subst (λ s. announced name (live_tree early app) s ≡ []) (step_same step other same) is) ih
        where
          step_or : Step → Entry → Step
          step_or d (changed a s) = s
          step_or d entry = d

          step_same : (s t : Step) → changed app s ≡ changed app t → s ≡ t
          step_same s t h = ap (step_or s) h
      by (x ∷ more) is =
          announces x more is ys refl
          (ap (λ l. map (sent (App app)) (numbered n (map (λ (s : Signal). s.message) l)) ++ follows.0) (sym is ∙ sym (all_asked (heard_pairs early app) (announced name (live_tree early app) step) covered))
          ∙ sym follows.1)

  -- no entry of a tree
  still : (early : List Entry) (y : Entry) → tree_after app (live_tree early app) y ≡ live_tree early app → count_after app (added early app) y ≡ added early app → SameViews early (early ++ y ∷ []) app
  still early y tree count = record { views = λ parts. ap (view parts) (tree_more app early (y ∷ []) ∙ tree); count = count_more app early (y ∷ []) ∙ count }

  other_step : (early : List Entry) (a : ℕ) (step : Step) → (a ≡ app → ⊥) → SameViews early (early ++ changed a step ∷ []) app
  other_step early a step differ =
      still early (changed a step) (ap (λ b. cond b (after rows (live_tree early app) step) (live_tree early app)) (ne_eqb a app differ))
      (ap (λ b. cond b (added_after (added early app) step) (added early app)) (ne_eqb a app differ))

  -- it started before
  other_start : (early : List Entry) (a : ℕ) (text : List ℕ) → (a ≡ app → ⊥) → SameViews early (early ++ started (App a) (Some text) ∷ []) app
  other_start early a text differ = still early (started (App a) (Some text)) (ap (λ b. cond b (first_tree rows text) (live_tree early app)) (ne_eqb a app differ)) refl

  abbrev NotMine : Entry → Type 0
  NotMine (started (App a) (Some text)) = ⊥
  NotMine (changed a step) = ⊥
  NotMine entry = Unit {0}

  not_mine : (early : List Entry) (y : Entry) → NotMine y → SameViews early (early ++ y ∷ []) app
  not_mine early (started (App a) (Some text)) h = absurd h
  not_mine early (changed a step) h = absurd h
  not_mine early y h = still early y refl refl

  no_step : (y : Entry) → NotMine y → (step : Step) → y ≡ changed app step → ⊥
  no_step y h step is = subst NotMine is h

  abbrev pub HasSent : List Entry → Type 0
  HasSent early = messages early (App app) ≡ [] → ⊥

  step_by : (early ys : List Entry) (y : Entry) → T ≡ early ++ y ∷ (ys ++ sent (App app) e ∷ post) → AllByRecursion (IsNoSignal app) ys → HasSent early
      → Asked name early (y ∷ ys) app → Walked name (early ++ y ∷ []) ys app e → Walked name early (y ∷ ys) app e
  step_by early ys (changed a step) at none has asked ih = by (a == app) refl
    where
      mine : (b : ℕ) → b ≡ app → T ≡ early ++ changed b step ∷ (ys ++ sent (App app) e ∷ post) → Asked name early (changed b step ∷ ys) app → Walked name (early ++ changed b step ∷ []) ys app e
          → Walked name early (changed b step ∷ ys) app e
      mine b same here ask walked =
          subst (λ n. Walked name early (changed n step ∷ ys) app e) (sym same)
          (at_step early ys step (here ∙ ap (λ n. early ++ changed n step ∷ (ys ++ sent (App app) e ∷ post)) same) none
          (subst (λ l. AreAllCovered (heard_pairs l app) (announced name (live_tree l app) step)) (append-nil early) (ask [] ys step (ap (λ n. changed n step ∷ ys) same)))
          (subst (λ n. Walked name (early ++ changed n step ∷ []) ys app e) same walked))

      by : (b : Bool) → (a == app) ≡ b → Walked name early (changed a step ∷ ys) app e
      by true g = mine a (eqb-true a app g) at asked ih
      by false g =
          let differ : a ≡ app → ⊥ = λ same. false_true (sym g ∙ eq-eqb a app same) in
          longer early (changed a step) ys (other_step early a step differ) (λ other is. absurd (differ (ap (number_or a) is))) ih
        where
          number_or : ℕ → Entry → ℕ
          number_or d (changed n s) = n
          number_or d entry = d
  step_by early ys (started (App a) (Some text)) at none has asked ih =
      longer early (started (App a) (Some text)) ys
      (other_start early a text (λ same. has (subst (λ n. messages early (App n) ≡ []) same (starts early (started (App a) (Some text)) (ys ++ sent (App app) e ∷ post) at))))
      (λ step is. absurd (no_start step is)) ih
    where
      no_start : (step : Step) → started (App a) (Some text) ≡ changed app step → ⊥
      no_start step is = subst IsStep (sym is) tt
  step_by early ys y at none has asked ih = longer early y ys (not_mine early y tt) (λ step is. absurd (no_step y tt step is)) ih

  pub walk : (early between : List Entry) → T ≡ early ++ (between ++ sent (App app) e ∷ post) → AllByRecursion (IsNoSignal app) between → HasSent early → Asked name early between app
      → Walked name early between app e
  walk early [] at none has asked =
      inl (record {
        same = subst (λ l. SameViews early l app) (sym (append-nil early)) (same_views early app);
        silent = λ xs ys step h. absurd (empty xs ys step h);
      })
    where
      empty : (xs ys : List Entry) (step : Step) → [] ≡ xs ++ changed app step ∷ ys → ⊥
      empty [] ys step h = no_cons (changed app step) ys h
      empty (x ∷ xs) ys step h = no_cons x (xs ++ changed app step ∷ ys) h
  walk early (y ∷ ys) at none has asked =
      step_by early ys y at none.1 has asked
      (walk (early ++ y ∷ []) ys (at ∙ sym (append_assoc early (y ∷ []) (ys ++ sent (App app) e ∷ post))) none.1 has_more
      (λ xs zs step h. subst (λ l. AreAllCovered (heard_pairs l app) (announced name (live_tree l app) step)) (sym (append_assoc early (y ∷ []) xs)) (asked (y ∷ xs) zs step (ap (λ l. y ∷ l) h))))
    where
      has_more : HasSent (early ++ y ∷ [])
      has_more h = has (front_empty (messages early (App app)) (messages (y ∷ []) (App app)) (sym (messages_more early (y ∷ []) (App app)) ∙ h))
        where
          front_empty : (xs ys : List Envelope) → xs ++ ys ≡ [] → xs ≡ []
          front_empty [] ys h = refl
          front_empty (x ∷ xs) ys h = absurd (no_cons x (xs ++ ys) (sym h))
