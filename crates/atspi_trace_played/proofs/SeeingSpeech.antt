-- A reader takes a letter: what it speaks is what is due.
use Rattle.std.proofs.Common.{◌≡◌, inl, inr, ℕ, Bool, true, false, List, [], ◌∷◌, ◌++◌, map, Option, None, Some, refl, sym, ap, ap₂, ◌∙◌, subst}
use Rattle.std.specs.Prelude.{◌==◌, flat_map, filter}
use Rattle.std.specs.List.{AllByRecursion}
use Rattle.std.proofs.lemmas.Bool.{eqb-true}
use Rattle.std.proofs.lemmas.List.{append-nil}
use Rattle.atspi_tree_model.specs.declared.news.News.TheVariants.{Nothing}
use Rattle.atspi_tree_model.specs.declared.view.Row.{Row}
use Rattle.atspi_tree_model.specs.Forest.{Forest}
use Rattle.atspi_tree_model.specs.View.{view}
use Rattle.atspi_speech.specs.Speech.{lines as read_lines}
use Rattle.atspi_tree_model.specs.declared.news.Reference.{Reference}
use Rattle.atspi_tree_model.specs.Path.{path_of}
use Rattle.atspi_script_lines.specs.declared.line.Line.{Line}
use Rattle.atspi_script_lines.specs.declared.line.Party.TheVariants.{App, Reader}
use Rattle.atspi_message.specs.Envelope.{Envelope}
use Rattle.atspi_protocol.specs.declared.following.question.Question.{Question}
use Rattle.atspi_protocol.specs.declared.following.question.Question.TheVariants.{Hello, AddMatch, RegisterEvent, GetChildren, GetItems, GetPart}
use Rattle.atspi_protocol.specs.news.NewsOf.{news_of, or_empty}
use Rattle.atspi_protocol.specs.following.ReaderState.{speaks, Followed, ReaderState, is_named}
use Rattle.atspi_protocol.specs.following.Known.{closings, end_of_connection, new_child, with_child, told_end, with_end}
use Rattle.atspi_protocol.specs.following.Takes.{lines_at, found_in, noted}
use Rattle.atspi_trace.specs.Entry.{Entry, got, spoke}
use Rattle.atspi_trace.specs.World.{Asked, Holding, Hearer, Letter, World}
use Rattle.atspi_trace.specs.Ends.{app_named}
use Rattle.atspi_trace.specs.Hearing.{step_lines, lines_if_held, holding_of, question_returned, heard_entries}
use Rattle.atspi_trace_laws.specs.laws.Words.{message, name_in, answers_question, as_of, Kept, held}
use Rattle.atspi_trace_caches.specs.caches.Caches as caches
use Rattle.atspi_trace_caches.specs.caches.Caches.{followed}
use Rattle.atspi_trace_laws.proofs.OfOrder.Parties.{no_none, same_some}
use Rattle.atspi_trace_laws.proofs.OfHeld.Keeping.{ReaderIs, SameKept}
use Rattle.atspi_trace_laws.specs.missed.Laws.{IsLoad}
use Rattle.atspi_trace_laws.specs.signed.Laws.{IsItsName}
use Rattle.atspi_trace_caches.specs.caches.Laws.{CacheIs, IsViewed}
use Rattle.atspi_trace_caches.proofs.OfCaches.LawCaches.{caches_follow}
use Rattle.atspi_trace_caches.proofs.OfServed.LawServed.{steps_asked}
use Rattle.atspi_trace.specs.Causes.{told_in}
use Rattle.atspi_trace_laws.proofs.OfTaken.Said.{IsLetter, TellsTree, TellsOf}
use Rattle.atspi_trace.specs.play.Plays.{told as told_to}
use Rattle.atspi_trace_played.proofs.Pieces.{IsNoCall}
use Rattle.atspi_trace_played.proofs.SeeingLines.{due_lines}
use Rattle.atspi_trace_played.proofs.SeeingWell.{known_apart}
use Rattle.atspi_trace_played.proofs.Facts.{Ground}
use Rattle.atspi_trace_played.proofs.SeeingApps.{found_list, those_named}
use Rattle.atspi_trace_played.proofs.SeeingSame.{Same, IsRooted, followed_rooted}
use Rattle.atspi_trace_played.proofs.SeeingReplies as replies
use Rattle.atspi_trace_played.proofs.SeeingReplies.{Brings, items, told, refuses, fails, children}
use Rattle.atspi_trace_played.proofs.SeeingTaken.{answers_as, Sees}
use Rattle.atspi_trace_played.proofs.SeeingGround.{is_name, no_bus_name, end_from_bus, app_is}
use Rattle.atspi_trace_played.proofs.SeeingStep as step
use Rattle.atspi_trace_played.proofs.SeeingSeen.{IsQuiet, unheld, found_own, replied_seen}
use Rattle.atspi_trace_played.proofs.SeeingChildren.{took, Taking}
use Rattle.atspi_trace_played.proofs.SeeingBehind.{same_question, written_app}
use Rattle.atspi_trace_played.proofs.SeeingWords.{told_lines, no_calls, lines_none, lines_some, lines_nothing, all_lines, all_closings, an_end_said, no_news}

module _ (script : List Line) (es : List Entry) (w : World) (r : ℕ) (h : Hearer) (letter : Letter) (s : ReaderState) (t : Taking script es w r h letter s) (quiet : IsQuiet es r h letter) (readers : ReaderIs es r h) where
  abbrev m : Envelope
  m = letter.said.message

  abbrev n : List ℕ
  n = or_empty m.sender

  abbrev later : List Entry
  later = es ++ took r h w.ends letter

  abbrev q : Option Question
  q = question_returned m h.asked

  abbrev noted_all : ReaderState
  noted_all = step.noted_all script es w r h letter s t

  abbrev replied_all : ReaderState
  replied_all = step.replied_all script es w r h letter s t

  abbrev ended_all : ReaderState
  ended_all = step.ended_all script es w r h letter s t

  abbrev known_all : ReaderState
  known_all = step.known_all script es w r h letter s t

  abbrev read_all : ReaderState
  read_all = step.read_all script es w r h letter s t

  -- what it did, but for what it asks
  silent_before : replied_all.out ≡ []
  silent_before = (step.reply script es w r h letter s t).out ∙ t.asks.silent

  known_out : known_all.out ≡ ended_all.out
  known_out = by (new_child ended_all m)
    where
      by : (o : Option Reference) → (with_child ended_all o).out ≡ ended_all.out
      by None = refl
      by (Some root) = refl

  pub read_said : AllByRecursion IsNoCall read_all.out
  read_said =
      no_calls known_all.out (flat_map (lines_at (news_of n m)) (filter (is_named n) known_all.apps)) (subst (AllByRecursion IsNoCall) (sym known_out) (by (told_end m))) (all_lines (news_of n m) (filter (is_named n) known_all.apps))
    where
      by : (o : Option (List ℕ)) → AllByRecursion IsNoCall (with_end replied_all o).out
      by None = subst (AllByRecursion IsNoCall) (sym silent_before) tt
      by (Some k) =
          no_calls replied_all.out (end_of_connection k ++ closings (filter (is_named k) replied_all.apps)) (subst (AllByRecursion IsNoCall) (sym silent_before) tt)
          (no_calls (end_of_connection k) (closings (filter (is_named k) replied_all.apps)) (an_end_said k) (all_closings (filter (is_named k) replied_all.apps)))

  abbrev Whole : Type 0
  Whole = flat_map (told_to r w.ends) read_all.out ≡ heard_entries r h w.ends letter

  -- the law about caches, before
  its_own : (b : ℕ) (x : List ℕ) → name_in es (App b) ≡ Some x → IsItsName es b x
  its_own b x is own at = same_some own x (sym at ∙ is)

  cache : (b : ℕ) (x : List ℕ) → name_in es (App b) ≡ Some x → CacheIs es b (held es r b) (followed x es r b)
  cache b x is =
      caches_follow script es t.ground.can t.ground.goes t.ground.nothing_owed x r b (its_own b x is) (steps_asked script es t.ground.can t.ground.goes x r b) es [] (sym (append-nil es))

  -- A MESSAGE OF AN APPLICATION
  module _ (b : ℕ) (x : List ℕ) (its_name : name_in es (App b) ≡ Some x) (is : letter.from ≡ App b) (c : IsLetter es letter) (own : n ≡ x) where
    abbrev f : Followed
    f = followed x es r b

    named : app_named x w.ends ≡ Some b
    named = app_is script es w None t.ground x b its_name

    no_end : told_end m ≡ None
    no_end = by (told_end m) refl
      where
        by : (o : Option (List ℕ)) → told_end m ≡ o → o ≡ None
        by None e = refl
        by (Some k) e = absurd (no_bus_name script es w None t.ground (App b) x (is_name script es w None t.ground (App b) x its_name) (sym (end_from_bus m k e) ∙ own))

    before_lines : ended_all.out ≡ []
    before_lines = ap (λ o. (with_end replied_all o).out) no_end ∙ silent_before

    abbrev found : Option Followed
    found = found_in x replied_all.apps

    words_are : read_all.out ≡ flat_map (lines_at (news_of x m)) (found_list found)
    words_are =
        ap₂ (λ l k. l ++ k) (known_out ∙ before_lines)
        (ap (λ z. flat_map (lines_at (news_of z m)) (filter (is_named z) known_all.apps)) own
        ∙ ap (flat_map (lines_at (news_of x m))) (those_named x known_all.apps (known_apart script es w r h letter s t quiet readers)
        ∙ ap found_list (found_own script es w r h letter s t quiet b x its_name is c own)))

    -- what is not held is not loaded where something is held
    no_load : (k : Kept) → held es r b ≡ Some k → (IsLoad q → ⊥)
    no_load k is_held load = by (step.reply script es w r h letter s t).brings
      where
        viewed : IsViewed es b k f
        viewed = subst (λ o. CacheIs es b o f) is_held (cache b x its_name)

        none_held : f.view ≡ None → ⊥
        none_held e = no_none (view (told_in k.told) (as_of es b k.last)) (sym e ∙ viewed.shows)

        plain_load : (p : Option Question) → replies.IsPlain p → IsLoad p → ⊥
        plain_load (Some (GetItems name)) a l = a
        plain_load (Some (GetPart name path part)) a l = l
        plain_load (Some GetChildren) a l = l
        plain_load (Some Hello) a l = l
        plain_load (Some (AddMatch rule)) a l = l
        plain_load (Some (RegisterEvent rule)) a l = l
        plain_load None a l = l

        by : Brings m s.pending s.registry noted_all.apps q replied_all → ⊥
        by (replies.same plain e reg) = plain_load q plain load
        by (items p name all at asks_ qs two not_bus may tells is_apps reg) =
            none_held (unheld script es w r h letter s t quiet b x its_name p at (asks_ ∙ ap GetItems (sym (answers_as m name not_bus may) ∙ own)))
        by (told name path which news qs two not_bus may tells is_apps reg) = subst IsLoad qs load
        by (refuses name path which (inl none) not_bus may tells no_four is_apps reg) = subst IsLoad none load
        by (refuses name path which (inr some) not_bus may tells no_four is_apps reg) = subst IsLoad some load
        by (fails p name at asks_ qs no_four is_apps reg) = subst IsLoad qs load
        by (children qs two is_apps reg) = subst IsLoad qs load

    was : message es (App b) m.serial ≡ Some c.first
    was = ap (λ p. message es p m.serial) (sym is) ∙ c.was

    tells : TellsTree es b letter.said
    tells = subst (λ p. TellsOf es p letter.said) is c.tells

    asked_same : answers_question es r (message es (App b) m.serial) ≡ q
    asked_same = same_question es r b h m c.first readers was c.alike

    -- where it holds the application, what is due is what is read from what it had
    due : (k : Kept) → held es r b ≡ Some k → (v : Forest Row) → f.view ≡ Some v → read_lines (path_of 0) x v (news_of x c.first) ≡ step_lines letter.said letter.said.announces
    due k is_held v has =
        due_lines script es (heard_entries r h w.ends letter) t.after t.free r b x letter.said c.first
        (subst (λ p. Ground script (es ++ got (Reader r) p m.serial ∷ heard_entries r h w.ends letter) t.after t.free) is t.behind)
        (subst (λ p. IsItsName (es ++ got (Reader r) p m.serial ∷ heard_entries r h w.ends letter) b x) is
        (λ o at. same_some o x (sym at ∙ step.name_before script es w r h letter s t (App b) ∙ its_name)))
        was tells (λ l. no_load k is_held (subst IsLoad asked_same l)) k is_held v has

    -- what the reader has after the reply, where the message is a signal
    not_reply : m.kind ≡ 4 → q ≡ None
    not_reply four = by h.asked
      where
        by : (l : List Asked) → question_returned m l ≡ None
        by [] = refl
        by (a ∷ l) = rw four (by l)

    read_name : news_of x m ≡ news_of x c.first
    read_name = ap (news_of x) c.alike

    abbrev IsDueNow : Option Followed → Option Holding → Type 0
    IsDueNow o k = flat_map (told_to r w.ends) (flat_map (lines_at (news_of x m)) (found_list o)) ≡ map (spoke r b) (lines_if_held k letter.said)

    -- no signal: nothing is read, and nothing is due
    nothing_read : (o : Option Followed) → flat_map (lines_at Nothing) (found_list o) ≡ []
    nothing_read None = refl
    nothing_read (Some g) = ap (λ l. l ++ []) (lines_nothing g)

    no_signal : (m.kind == 4) ≡ false → (k : Option Kept) → held es r b ≡ k → (o : Option Holding) → SameKept es b k o → IsDueNow found o
    no_signal no_four k is_held o like = ap (flat_map (told_to r w.ends)) (ap (λ z. flat_map (lines_at z) (found_list found)) (no_news x m no_four) ∙ nothing_read found) ∙ ap (map (spoke r b)) (by k is_held o like)
      where
        by : (k : Option Kept) → held es r b ≡ k → (o : Option Holding) → SameKept es b k o → [] ≡ lines_if_held o letter.said
        by None e None y = refl
        by (Some j) e (Some o) y =
            let viewed : IsViewed es b j f = subst (λ z. CacheIs es b z f) e (cache b x its_name) in
            let v : Forest Row = view (told_in j.told) (as_of es b j.last) in
            ap (read_lines (path_of 0) x v) (sym (no_news x m no_four) ∙ read_name) ∙ due j e v viewed.shows
        by (Some j) e None y = absurd y
        by None e (Some o) y = absurd y

    -- a signal, read from what it had before
    a_signal : m.kind ≡ 4 → (k : Option Kept) → held es r b ≡ k → (o : Option Holding) → SameKept es b k o → IsDueNow found o
    a_signal four k is_held o like = by found seen_after k is_held o like
      where
        seen_after : Sees found (noted c.first.serial f)
        seen_after = subst (λ p. Sees found (caches.replied p c.first (noted c.first.serial f))) (not_reply four) (replied_seen script es w r h letter s t quiet b x its_name is c own)

        nobody : (k : Option Kept) → held es r b ≡ k → (o : Option Holding) → SameKept es b k o → f.view ≡ None → [] ≡ map (spoke r b) (lines_if_held o letter.said)
        nobody None e None y none = refl
        nobody (Some j) e (Some o) y none =
            let viewed : IsViewed es b j f = subst (λ z. CacheIs es b z f) e (cache b x its_name) in
            absurd (no_none (view (told_in j.told) (as_of es b j.last)) (sym none ∙ viewed.shows))
        nobody (Some j) e None y none = absurd y
        nobody None e (Some o) y none = absurd y

        some_lines : (k : Option Kept) → held es r b ≡ k → (o : Option Holding) → SameKept es b k o → (v : Forest Row) → f.view ≡ Some v
            → map (spoke r b) (read_lines (path_of 0) x v (news_of x m)) ≡ map (spoke r b) (lines_if_held o letter.said)
        some_lines (Some j) e (Some o) y v has = ap (map (spoke r b)) (ap (read_lines (path_of 0) x v) read_name ∙ due j e v has)
        some_lines None e None y v has = absurd (no_none v (sym (subst (λ z. CacheIs es b z f) e (cache b x its_name)) ∙ has))
        some_lines (Some j) e None y v has = absurd y
        some_lines None e (Some o) y v has = absurd y

        rooted : IsRooted x f
        rooted = followed_rooted x es r b

        of_one : (g : Followed) → Same g (noted c.first.serial f) → (z : Option (Forest Row)) → f.view ≡ z → (k : Option Kept) → held es r b ≡ k → (o : Option Holding) → SameKept es b k o → IsDueNow (Some g) o
        of_one g y None none k e o z = ap (λ l. flat_map (told_to r w.ends) (l ++ [])) (lines_none (news_of x m) g (y.view ∙ none)) ∙ nobody k e o z none
        of_one g y (Some v) has k e o z =
            ap (flat_map (told_to r w.ends)) (append-nil (lines_at (news_of x m) g) ∙ lines_some (news_of x m) g v (y.view ∙ has)
            ∙ ap₂ (λ a d. map (λ (line : List ℕ). speaks a line) (read_lines d a v (news_of x m))) (y.name ∙ rooted.0) (y.root ∙ rooted.1))
            ∙ told_lines r b w.ends x (read_lines (path_of 0) x v (news_of x m)) named ∙ some_lines k e o z v has

        by : (p : Option Followed) → Sees p (noted c.first.serial f) → (k : Option Kept) → held es r b ≡ k → (o : Option Holding) → SameKept es b k o → IsDueNow p o
        by None y k e o z = nobody k e o z y
        by (Some g) y k e o z = of_one g y f.view refl k e o z

    pub app_words : Whole
    app_words = ap (flat_map (told_to r w.ends)) words_are ∙ by (m.kind == 4) refl ∙ sym (written_app r b h w.ends letter is)
      where
        by : (z : Bool) → (m.kind == 4) ≡ z → IsDueNow found (holding_of b h.holds)
        by true e = a_signal (eqb-true m.kind 4 e) (held es r b) refl (holding_of b h.holds) (readers.holds b)
        by false e = no_signal e (held es r b) refl (holding_of b h.holds) (readers.holds b)
