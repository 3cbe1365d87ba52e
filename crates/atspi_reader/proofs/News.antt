-- The end of a name, and news with a new application, as a reader takes them.
use Rattle.std.proofs.Common.{◌≡◌, ℕ, ◌<◌, ◌≤◌, Bool, true, false, cond, not, List, [], ◌∷◌, ◌++◌, filter, flat_map, length, take, Option, Some, None, refl, sym, ap, subst, ◌∙◌, append_assoc}
use Rattle.std.specs.Prelude.{bytes_eq, if◌then◌else◌, Result, Ok, Err, OnOk, OnErr, IfSome}
use Rattle.std.specs.List.{list_any}
use Rattle.std.proofs.lemmas.List.{append-nil}
use Rattle.std.proofs.lemmas.List.Concat.{flat_map-append}
use Rattle.atspi_message.specs.Envelope.{Envelope}
use Rattle.atspi_protocol.specs.declared.ends.fault.EndFault.{EndFault}
use Rattle.atspi_protocol.specs.declared.ends.fault.EndFault.TheVariants.{Spent}
use Rattle.atspi_tree_model.specs.declared.view.Row.{Row}
use Rattle.atspi_tree_model.specs.declared.news.News.{News}
use Rattle.atspi_tree_model.specs.declared.news.Reference.{Reference}
use Rattle.atspi_tree_model.specs.Forest.{Forest, first_of}
use Rattle.atspi_protocol.specs.news.NewsOf.{news_of, or_empty}
use Rattle.atspi_protocol.specs.declared.following.question.Question.{Question}
use Rattle.atspi_protocol.specs.declared.following.question.Question.TheVariants.{GetItems}
use Rattle.atspi_protocol.specs.following.ReaderState.{Followed, Pending, Done, ReaderState, is_named}
use Rattle.atspi_protocol.specs.following.Wishes.{wishes, wishes_of}
use Rattle.atspi_protocol.specs.following.Known.{new_child, with_child, takes_child, with_end, end_of_connection, closing_of, closings}
use Rattle.atspi_protocol.specs.following.Replied.{changed}
use Rattle.atspi_protocol.specs.following.Takes.{noted, notes, folded, lines_at, takes_news, goes_on}
use Rattle.atspi_reader_known.specs.Wanted.{first}
use Rattle.atspi_reader_known.proofs.Uniqueness.{changed_none}
use Rattle.atspi_reader_known.proofs.Firsts.{first-append}
use Rattle.atspi_reader_known.proofs.Names.{folded_name}
use Rattle.atspi_reader.specs.declared.asks.Next.{Next}
use Rattle.atspi_reader.specs.inner.Asked.{chosen, next_for, sent, number_after, went_on, Asks}
use Rattle.atspi_reader.specs.inner.Turns.{did, with_apps, listed, IsNewTo, noted_if}
use Rattle.atspi_reader.specs.inner.Heard.{heard, Speaks}
use Rattle.atspi_reader.specs.Steps.{Does}
use Rattle.atspi_reader.proofs.Changed.{filter_changed, changed-changed, changed-append, only_none, wishes_filter}
use Rattle.atspi_reader.proofs.Adopted.{known-changed}
use Rattle.atspi_reader.proofs.Goes.{asked_at, next_at, gone, wishes-noted}
use Rattle.atspi_reader.proofs.Done.{does_done, does_failed, same_step, unqueued}

-- what was asked, where that depends on the first wish only while no call waits
by_pending : (p : Option Pending) (wish other : Option Question) → (p ≡ None → wish ≡ other) → (to_come : List Question) → chosen p to_come wish ≡ chosen p to_come other
by_pending None wish other e to_come = ap (chosen {P = Pending} None to_come) (e refl)
by_pending (Some p) wish other e to_come = refl

next_by : (p : Option Pending) (wish other : Option Question) → (p ≡ None → wish ≡ other) → (n : ℕ) (to_come : List Question) → next_for p n to_come wish ≡ next_for p n to_come other
next_by None wish other e n to_come = ap (next_for {P = Pending} None n to_come) (e refl)
next_by (Some p) wish other e n to_come = refl

-- a step without a reply: what was said and asked is queued, and the applications are others
module _ (s t : ReaderState) (said : List Done) (apps : List Followed) (wish : Option Question) (is : t ≡ with_apps (did s said) apps)
    (wanted : s.pending ≡ None → wish ≡ first (wishes apps)) where
  abbrev now : ReaderState
  now = with_apps (did s said) apps

  then_asked : chosen s.pending s.to_come wish ≡ asked_at now
  then_asked = by_pending s.pending wish (first (wishes apps)) wanted s.to_come

  pub rested_done : {T : Type 0} (x : T) (n : Next) (after : List Done) (new : ReaderState) → Asks (Ok n) said after s.pending s.next s.to_come wish
      → new ≡ went_on n (with_apps (did s after) apps) → Does {T = T} (Ok x) s new (goes_on t)
  rested_done x n after new asks e =
      let ds = sent s.next (chosen s.pending s.to_come wish) in
      let next : n ≡ next_at now = asks.next ∙ next_by s.pending wish (first (wishes apps)) wanted s.next s.to_come in
      let more : with_apps (did s after) apps ≡ did now ds = ap (λ (l : List Done). with_apps (record s { out = s.out ++ l }) apps) asks.queued ∙ ap (λ (l : List Done). with_apps (record s { out = l }) apps) (sym (append_assoc s.out said ds)) in
      same_step _ s new (goes_on now) (goes_on t) (ap goes_on (sym is))
      (does_done x s new now
      (e ∙ ap (went_on n) more ∙ gone now n ds next (ap (sent s.next) then_asked))
      (subst (λ (o : Option Question). number_after s.next o ≤ 4294967296) then_asked asks.room))

  pub rested_failed : {T : Type 0} (fault : EndFault) (after : List Done) (new : ReaderState) → Asks (Err fault) said after s.pending s.next s.to_come wish → new ≡ s
      → Does {T = T} (Err fault) s new (goes_on t)
  rested_failed fault after new asks e =
      same_step _ s new (goes_on now) (goes_on t) (ap goes_on (sym is))
      (does_failed fault s new now e (λ h. subst (λ (o : Option Question). 4294967296 < number_after s.next o) then_asked (asks.spent (ap Err h))))

-- what is spoken does not depend on the serials
closing_noted : (serial : ℕ) (app : Followed) → closing_of (noted serial app) ≡ closing_of app
closing_noted serial app = by app.view refl
  where
    by : (v : Option (Forest Row)) → app.view ≡ v → closing_of (noted serial app) ≡ closing_of app
    by None e = rw e refl
    by (Some v) e = rw e refl

closings-noted : (serial : ℕ) (name : List ℕ) (apps : List Followed) → closings (changed (noted serial) name apps) ≡ closings apps
closings-noted serial name [] = refl
closings-noted serial name (app ∷ apps) =
    ap (λ (l : List Done). l ++ closings (changed (noted serial) name apps)) (by (is_named name app)) ∙ ap (λ (l : List Done). closing_of app ++ l) (closings-noted serial name apps)
  where
    by : (b : Bool) → closing_of (if b then noted serial app else app) ≡ closing_of app
    by true = closing_noted serial app
    by false = refl

lines_noted : (news : News) (serial : ℕ) (app : Followed) → lines_at news (noted serial app) ≡ lines_at news app
lines_noted news serial app = by app.view refl
  where
    by : (v : Option (Forest Row)) → app.view ≡ v → lines_at news (noted serial app) ≡ lines_at news app
    by None e = rw e refl
    by (Some v) e = rw e refl

all_lines-noted : (news : News) (serial : ℕ) (name : List ℕ) (apps : List Followed) → flat_map (lines_at news) (changed (noted serial) name apps) ≡ flat_map (lines_at news) apps
all_lines-noted news serial name [] = refl
all_lines-noted news serial name (app ∷ apps) =
    ap (λ (l : List Done). l ++ flat_map (lines_at news) (changed (noted serial) name apps)) (by (is_named name app)) ∙ ap (λ (l : List Done). lines_at news app ++ l) (all_lines-noted news serial name apps)
  where
    by : (b : Bool) → lines_at news (if b then noted serial app else app) ≡ lines_at news app
    by true = lines_noted news serial app
    by false = refl

-- the end of a name
module _ (s : ReaderState) (e : Envelope) (name : List ℕ) where
  abbrev sender : List ℕ
  sender = or_empty e.sender

  abbrev left : List Followed
  left = filter (λ app. not (is_named name app)) s.apps

  pub ended_is : with_end (notes s e) (Some name)
      ≡ with_apps (did s (end_of_connection name ++ closings (filter (is_named name) s.apps))) (changed (noted e.serial) sender left)
  ended_is =
      ap (λ (l : List Followed). record s { apps = l; out = s.out ++ (end_of_connection name ++ closings (filter (is_named name) (changed (noted e.serial) sender s.apps))) })
      (filter_changed (noted e.serial) (λ a. refl) (λ app. not (is_named name app)) (λ a b h. ap (λ (n : List ℕ). not (bytes_eq n name)) h) sender s.apps)
      ∙ ap (λ (l : List Done). record s { apps = changed (noted e.serial) sender left; out = s.out ++ (end_of_connection name ++ l) })
      (ap closings (filter_changed (noted e.serial) (λ a. refl) (is_named name) (λ a b h. ap (λ (n : List ℕ). bytes_eq n name) h) sender s.apps)
      ∙ closings-noted e.serial sender (filter (is_named name) s.apps))

  -- nothing is wanted then either
  pub ended_wishes : wishes s.apps ≡ [] → None ≡ first (wishes (changed (noted e.serial) sender left))
  ended_wishes h = sym (ap first (wishes-noted e.serial sender left ∙ wishes_filter (λ app. not (is_named name app)) s.apps h))

-- an application that is not held
unheld_folded : (news : News) (app : Followed) → app.view ≡ None → folded news app ≡ app
unheld_folded news app e = rw e refl

unheld_lines : (news : News) (app : Followed) → app.view ≡ None → lines_at news app ≡ []
unheld_lines news app e = rw e refl

unheld_changed : (news : News) (name : List ℕ) (apps : List Followed) (child : Option Followed) → IfSome child (IsNewTo apps) → changed (folded news) name (listed child) ≡ listed child
unheld_changed news name apps None new = refl
unheld_changed news name apps (Some app) new = ap (λ (a : Followed). a ∷ []) (by (is_named name app))
  where
    by : (b : Bool) → (if b then folded news app else app) ≡ app
    by true = unheld_folded news app new.unheld
    by false = refl

unheld_said : (news : News) (name : List ℕ) (apps : List Followed) (child : Option Followed) → IfSome child (IsNewTo apps) → flat_map (lines_at news) (filter (is_named name) (listed child)) ≡ []
unheld_said news name apps None new = refl
unheld_said news name apps (Some app) new = by (is_named name app)
  where
    by : (b : Bool) → flat_map (lines_at news) (cond b (app ∷ []) []) ≡ []
    by true = ap (λ (l : List Done). l ++ []) (unheld_lines news app new.unheld)
    by false = refl

filter-append : {X : Type 0} (p : X → Bool) (xs ys : List X) → filter p (xs ++ ys) ≡ filter p xs ++ filter p ys
filter-append p [] ys = refl
filter-append p (x ∷ xs) ys = by (p x) (filter-append p xs ys)
  where
    by : (b : Bool) → filter p (xs ++ ys) ≡ filter p xs ++ filter p ys → cond b (x ∷ filter p (xs ++ ys)) (filter p (xs ++ ys)) ≡ cond b (x ∷ filter p xs) (filter p xs) ++ filter p ys
    by true h = ap (λ (l : List _). x ∷ l) h
    by false h = h

folded_noted : (news : News) (serial : ℕ) (app : Followed) → folded news (noted serial app) ≡ noted serial (folded news app)
folded_noted news serial app = by app.view refl
  where
    by : (v : Option (Forest Row)) → app.view ≡ v → folded news (noted serial app) ≡ noted serial (folded news app)
    by None e = rw e refl
    by (Some v) e = rw e refl

-- applications, whose serials are noted where one was known
abbrev pub note_in : Bool → ℕ → List ℕ → List Followed → List Followed
note_in known serial name apps = if known then changed (noted serial) name apps else apps

pub noted_in : (b : Bool) (s : ReaderState) (apps : List Followed) (e : Envelope) → noted_if b (with_apps s apps) e ≡ with_apps s (note_in b e.serial (or_empty e.sender) apps)
noted_in true s apps e = refl
noted_in false s apps e = refl

folded_in : (news : News) (b : Bool) (serial : ℕ) (name : List ℕ) (apps : List Followed) → changed (folded news) name (note_in b serial name apps) ≡ note_in b serial name (changed (folded news) name apps)
folded_in news true serial name apps = changed-changed (folded news) (noted serial) (folded_name news) (λ a. refl) (folded_noted news serial) name name apps
folded_in news false serial name apps = refl

said_in : (news : News) (b : Bool) (serial : ℕ) (name : List ℕ) (apps : List Followed)
    → flat_map (lines_at news) (filter (is_named name) (note_in b serial name apps)) ≡ flat_map (lines_at news) (filter (is_named name) apps)
said_in news true serial name apps =
    ap (flat_map (lines_at news)) (filter_changed (noted serial) (λ a. refl) (is_named name) (λ a b h. ap (λ (n : List ℕ). bytes_eq n name) h) name apps)
    ∙ all_lines-noted news serial name (filter (is_named name) apps)
said_in news false serial name apps = refl

pub wanted_in : (b : Bool) (serial : ℕ) (name : List ℕ) (apps : List Followed) → wishes (note_in b serial name apps) ≡ wishes apps
wanted_in true serial name apps = wishes-noted serial name apps
wanted_in false serial name apps = refl

-- the new child of a state in which the serial was noted
child_in : (s : ReaderState) (e : Envelope) (o : Option Reference)
    → (with_child (notes s e) o).apps ≡ note_in (list_any (is_named (or_empty e.sender)) s.apps) e.serial (or_empty e.sender) (with_child s o).apps
child_in s e None = sym (known-changed (noted e.serial) (λ a. refl) (or_empty e.sender) (list_any (is_named (or_empty e.sender)) s.apps) [] s.apps refl)
child_in s e (Some root) = sym (known-changed (noted e.serial) (λ a. refl) (or_empty e.sender) (list_any (is_named (or_empty e.sender)) s.apps) (root ∷ []) s.apps refl)

news_with : (s : ReaderState) (e : Envelope) (o : Option Reference) (news : News)
    → record (with_child (notes s e) o) {
      apps = changed (folded news) (or_empty e.sender) (with_child (notes s e) o).apps;
      out = (with_child (notes s e) o).out ++ flat_map (lines_at news) (filter (is_named (or_empty e.sender)) (with_child (notes s e) o).apps);
    }
    ≡ with_apps (did s (flat_map (lines_at news) (filter (is_named (or_empty e.sender)) (with_child (notes s e) o).apps))) (changed (folded news) (or_empty e.sender) (with_child (notes s e) o).apps)
news_with s e None news = refl
news_with s e (Some root) news = refl

module _ (s : ReaderState) (e : Envelope) (child : Option Followed) (new : IfSome child (IsNewTo s.apps)) (made : s.apps ++ listed child ≡ (takes_child s e).apps) where
  abbrev from : List ℕ
  from = or_empty e.sender

  abbrev told : News
  told = news_of from e

  abbrev is_known : Bool
  is_known = list_any (is_named from) s.apps

  -- what is spoken is what is spoken of those that were known before
  all_said : flat_map (lines_at told) (filter (is_named from) (takes_child (notes s e) e).apps) ≡ flat_map (lines_at told) (filter (is_named from) s.apps)
  all_said =
      ap (λ (l : List Followed). flat_map (lines_at told) (filter (is_named from) l)) (child_in s e (new_child s e))
      ∙ said_in told is_known e.serial from (takes_child s e).apps
      ∙ ap (λ (l : List Followed). flat_map (lines_at told) (filter (is_named from) l)) (sym made)
      ∙ ap (flat_map (lines_at told)) (filter-append (is_named from) s.apps (listed child))
      ∙ flat_map-append (lines_at told) (filter (is_named from) s.apps) (filter (is_named from) (listed child))
      ∙ ap (λ (l : List Done). flat_map (lines_at told) (filter (is_named from) s.apps) ++ l) (unheld_said told from s.apps child new)
      ∙ append-nil (flat_map (lines_at told) (filter (is_named from) s.apps))

  module _ (news : News) (same : is_known ≡ true → news ≡ told) where
    abbrev after : List Followed
    after = note_in is_known e.serial from (changed (folded news) from (s.apps ++ listed child))

    -- news of an application that is not known change nothing
    told_changes : (b : Bool) → is_known ≡ b → changed (folded told) from (s.apps ++ listed child) ≡ changed (folded news) from (s.apps ++ listed child)
    told_changes true h = ap (λ (n : News). changed (folded n) from (s.apps ++ listed child)) (sym (same h))
    told_changes false h =
        nothing told ∙ sym (nothing news)
      where
        nothing : (n : News) → changed (folded n) from (s.apps ++ listed child) ≡ s.apps ++ listed child
        nothing n =
            changed-append (folded n) from s.apps (listed child)
            ∙ ap (λ (l : List Followed). l ++ changed (folded n) from (listed child)) (changed_none (folded n) from s.apps h)
            ∙ ap (λ (l : List Followed). s.apps ++ l) (unheld_changed n from s.apps child new)

    pub told_is : takes_news (takes_child (notes s e) e) e ≡ with_apps (did s (flat_map (lines_at told) (filter (is_named from) s.apps))) after
    told_is =
        news_with s e (new_child s e) told
        ∙ ap (λ (l : List Done). with_apps (did s l) (changed (folded told) from (takes_child (notes s e) e).apps)) all_said
        ∙ ap (with_apps (did s (flat_map (lines_at told) (filter (is_named from) s.apps))))
        (ap (changed (folded told) from) (child_in s e (new_child s e) ∙ ap (note_in is_known e.serial from) (sym made))
        ∙ folded_in told is_known e.serial from (s.apps ++ listed child)
        ∙ ap (note_in is_known e.serial from) (told_changes is_known refl))

    pub told_wishes : first (wishes (changed (folded news) from (s.apps ++ listed child))) ≡ first (wishes after)
    told_wishes = ap first (sym (wanted_in is_known e.serial from (changed (folded news) from (s.apps ++ listed child))))

    heard_is : (n : Next) (done : List Done) → heard (did s done) e (listed child) news n ≡ went_on n (with_apps (did s done) after)
    heard_is n done = ap (went_on n) (noted_in is_known (did s done) (changed (folded news) from (s.apps ++ listed child)) e)

    abbrev said : News → List Done
    said n = flat_map (lines_at n) (filter (is_named from) s.apps)

    -- nothing is spoken of an application that is not known
    said_same : said news ≡ said told
    said_same = by is_known refl
      where
        by : (b : Bool) → is_known ≡ b → said news ≡ said told
        by true h = ap said (same h)
        by false h = ap (flat_map (lines_at news)) (only_none from s.apps h) ∙ sym (ap (flat_map (lines_at told)) (only_none from s.apps h))

    abbrev wish : Option Question
    wish = first (wishes (changed (folded news) from (s.apps ++ listed child)))

    -- news as they are taken, once what they say and make wanted is queued
    pub heard_does : {T : Type 0} (r : Result T EndFault) (n : Next) (mid new' : ReaderState) (queued : ℕ) → Speaks (Ok n) s mid (said news) wish → queued ≡ length s.out
        → OnOk r (new' ≡ heard mid e (listed child) news n) → OnErr r (new' ≡ record mid { out = take queued mid.out }) → (r ≡ Err Spent → ⊥)
        → Does r s new' (goes_on (takes_news (takes_child (notes s e) e) e))
    heard_does (Ok x) n mid new' queued speaks is ok err memory =
        let done = said told ++ sent s.next (chosen s.pending s.to_come wish) in
        rested_done s _ (said told) after wish told_is (λ h. told_wishes) x n done new' (record { queued = refl; next = speaks.next; room = speaks.room; spent = speaks.spent })
        (ok
        ∙ ap (λ (m : ReaderState). heard m e (listed child) news n) speaks.queued
        ∙ ap (λ (l : List Done). heard (did s (l ++ sent s.next (chosen s.pending s.to_come wish))) e (listed child) news n) said_same
        ∙ heard_is n done)
    heard_does (Err fault) n mid new' queued speaks is ok err memory = record {
      done = tt;
      room = tt;
      spent = λ h. absurd (memory h);
      kept = err ∙ ap (λ (m : ReaderState). record m { out = take queued m.out }) speaks.queued
          ∙ unqueued s (said news ++ sent s.next (chosen s.pending s.to_come wish)) queued is;
    }

    pub unheard : {T : Type 0} (fault : EndFault) (mid : ReaderState) → Speaks (Err fault) s mid (said news) wish
        → Does {T = T} (Err fault) s mid (goes_on (takes_news (takes_child (notes s e) e) e))
    unheard fault mid speaks =
        rested_failed s _ (said told) after wish told_is (λ h. told_wishes) fault [] mid (record { queued = tt; next = tt; room = tt; spent = speaks.spent }) speaks.kept

-- what is said and asked is queued, or was not
module _ (s new : ReaderState) (said before after : List Done) (wish other : Option Question) (same : s.pending ≡ None → wish ≡ other) where
  same_asked : chosen s.pending s.to_come wish ≡ chosen s.pending s.to_come other
  same_asked = by_pending s.pending wish other same s.to_come

  pub spoken : (n : Next) → before ≡ said → Asks (Ok n) before after s.pending s.next s.to_come wish → new ≡ did s after → Speaks (Ok n) s new said other
  spoken n b asks e = record {
    queued = e ∙ ap (did s) (asks.queued
        ∙ ap (λ (l : List Done). l ++ sent s.next (chosen s.pending s.to_come wish)) b
        ∙ ap (λ (o : Option Question). said ++ sent s.next o) same_asked);
    next = asks.next ∙ next_by s.pending wish other same s.next s.to_come;
    room = subst (λ (o : Option Question). number_after s.next o ≤ 4294967296) same_asked asks.room;
    spent = λ h. subst (λ (o : Option Question). 4294967296 < number_after s.next o) same_asked (asks.spent h);
    kept = tt;
  }

  pub unspoken : (fault : EndFault) → Asks (Err fault) before after s.pending s.next s.to_come wish → new ≡ s → Speaks (Err fault) s new said other
  unspoken fault asks e = record {
    queued = tt;
    next = tt;
    room = tt;
    spent = λ h. subst (λ (o : Option Question). 4294967296 < number_after s.next o) same_asked (asks.spent h);
    kept = e;
  }

-- what was new is not held
pub if_unheld : (apps : List Followed) (child : Option Followed) → IfSome child (IsNewTo apps) → IfSome child (λ (a : Followed). a.view ≡ None)
if_unheld apps None new = tt
if_unheld apps (Some app) new = new.unheld

-- what is wanted after a news of the sender and with a new application, where nothing was wanted
pub news_wanted : (news : News) (name : List ℕ) (apps : List Followed) (child : Option Followed) → IfSome child (λ (a : Followed). a.view ≡ None)
    → first (wishes (changed (folded news) name (apps ++ listed child))) ≡ first_of (first (wishes (changed (folded news) name apps))) (first (wishes (listed child)))
news_wanted news name apps child unheld =
    ap (λ (l : List Followed). first (wishes l)) (changed-append (folded news) name apps (listed child))
    ∙ ap first (flat_map-append wishes_of (changed (folded news) name apps) (changed (folded news) name (listed child)))
    ∙ first-append (wishes (changed (folded news) name apps)) (wishes (changed (folded news) name (listed child)))
    ∙ ap (λ (l : List Followed). first_of (first (wishes (changed (folded news) name apps))) (first (wishes l))) (same child unheld)
  where
    same : (child : Option Followed) → IfSome child (λ (a : Followed). a.view ≡ None) → changed (folded news) name (listed child) ≡ listed child
    same None u = refl
    same (Some app) u = ap (λ (a : Followed). a ∷ []) (by (is_named name app))
      where
        by : (b : Bool) → (if b then folded news app else app) ≡ app
        by true = unheld_folded news app u
        by false = refl

-- an application that is not held is wanted
pub unheld_wish : (app : Followed) → app.view ≡ None → first (wishes (listed (Some app))) ≡ Some (GetItems app.name)
unheld_wish app e = ap first (append-nil (wishes_of app)) ∙ (rw e refl)

-- where nobody has the name, nothing is wanted
pub nobody_wants : (news : News) (name : List ℕ) (apps : List Followed) → wishes apps ≡ [] → list_any (is_named name) apps ≡ false → first (wishes (changed (folded news) name apps)) ≡ None
nobody_wants news name apps w h = ap (λ (l : List Followed). first (wishes l)) (changed_none (folded news) name apps h) ∙ ap first w

pub some_wanted : (app : Followed) (o : Option Followed) → Some app ≡ o → IfSome o (λ (a : Followed). a.view ≡ None) → (name : List ℕ) → name ≡ app.name → Some (GetItems name) ≡ first (wishes (listed o))
some_wanted app None e u name n = absurd cc
some_wanted app (Some a) e u name n =
    let same : app ≡ a = cc in
    ap (λ (x : List ℕ). Some (GetItems x)) (n ∙ ap (λ (x : Followed). x.name) same) ∙ sym (unheld_wish a u)

pub none_wanted : (o : Option Followed) → None ≡ o → None ≡ first (wishes (listed o))
none_wanted None e = refl
none_wanted (Some a) e = absurd cc
