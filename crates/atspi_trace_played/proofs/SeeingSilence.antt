-- A reader takes a letter that is of no application: what it speaks is what is due, at the end of one its closing line.
use Rattle.std.proofs.Common.{◌≡◌, ℕ, Bool, true, false, List, [], ◌∷◌, ◌++◌, map, Option, None, Some, refl, sym, ap, ap₂, ◌∙◌, subst}
use Rattle.std.specs.Prelude.{◌&&◌, flat_map, filter, if◌then◌else◌}
use Rattle.std.proofs.lemmas.List.{append-nil}
use Rattle.atspi_tree_model.specs.declared.view.Row.{Row}
use Rattle.atspi_tree_model.specs.Forest.{Forest}
use Rattle.atspi_tree_model.specs.View.{view}
use Rattle.atspi_speech.specs.Speech.{closing_lines, closing_says}
use Rattle.atspi_speech.proofs.DueLemmas.{closes_due}
use Rattle.atspi_tree_model.specs.declared.news.Reference.{Reference}
use Rattle.atspi_script_lines.specs.declared.line.Line.{Line}
use Rattle.atspi_script_lines.specs.declared.line.Party.TheVariants.{Bus as The_bus, App}
use Rattle.atspi_message.specs.Envelope.{Envelope}
use Rattle.atspi_protocol.specs.declared.following.question.Question.{Question}
use Rattle.atspi_protocol.specs.news.NewsOf.{news_of, or_empty}
use Rattle.atspi_protocol.specs.following.ReaderState.{speaks, tells_end, Followed, ReaderState, is_named}
use Rattle.atspi_protocol.specs.following.Known.{closing_of, closings, end_of_connection, new_child, with_child, told_end, with_end}
use Rattle.atspi_protocol.specs.following.Takes.{lines_at, found_in}
use Rattle.atspi_trace.specs.Entry.{Entry, spoke, gone}
use Rattle.atspi_trace.specs.World.{Holding, Hearer, Letter, World}
use Rattle.atspi_trace.specs.Ends.{app_named}
use Rattle.atspi_trace.specs.Hearing.{ended_entries, last_lines, holding_of, question_returned, app_with, heard_entries}
use Rattle.atspi_trace_laws.specs.laws.Words.{name_in, as_of, Kept, held}
use Rattle.atspi_trace_caches.specs.caches.Caches.{followed}
use Rattle.atspi_trace_laws.proofs.OfOrder.Parties.{no_none, same_some}
use Rattle.atspi_trace_laws.proofs.OfHeld.Keeping.{ReaderIs, SameKept}
use Rattle.atspi_base.specs.valid_names.Names.{is_bus_name, is_unique_name}
use Rattle.atspi_trace_laws.specs.signed.Laws.{IsItsName}
use Rattle.atspi_trace_caches.specs.caches.Laws.{CacheIs, IsViewed}
use Rattle.atspi_trace_caches.proofs.OfCaches.LawCaches.{caches_follow}
use Rattle.atspi_trace_caches.proofs.OfServed.LawServed.{steps_asked}
use Rattle.atspi_trace_laws.proofs.OfMissed.Registering.{name_is_bus_name}
use Rattle.atspi_trace.specs.Causes.{told_in}
use Rattle.atspi_trace_laws.proofs.OfSigned.Self.{unique_told}
use Rattle.atspi_trace.specs.play.Plays.{of_app, told as told_to}
use Rattle.atspi_trace_played.proofs.SeeingWords.{told_both, told_lines, closing_none, closing_some}
use Rattle.atspi_trace_played.proofs.SeeingWell.{replied_apart}
use Rattle.atspi_trace_played.proofs.Facts.{IsOfApp}
use Rattle.atspi_trace_played.proofs.SeeingApps.{found_list, those_named, not_named, each_weaker}
use Rattle.atspi_trace_played.proofs.SeeingSame.{Same, followed_rooted}
use Rattle.atspi_trace_played.proofs.SeeingTaken.{Sees}
use Rattle.atspi_trace_played.proofs.SeeingGround.{its, is_name, named_is, app_is}
use Rattle.atspi_trace_played.proofs.SeeingStep as step
use Rattle.atspi_trace_played.proofs.SeeingSeen.{IsQuiet, other_replied}
use Rattle.atspi_trace_played.proofs.SeeingChildren.{took, Taking}
use Rattle.atspi_trace_played.proofs.SeeingBehind.{written_bus}

module _ (script : List Line) (es : List Entry) (w : World) (r : ℕ) (h : Hearer) (letter : Letter) (s : ReaderState) (t : Taking script es w r h letter s) (quiet : IsQuiet es r h letter) (readers : ReaderIs es r h) where
  abbrev m : Envelope
  m = letter.said.message

  abbrev n : List ℕ
  n = or_empty m.sender

  abbrev later : List Entry
  later = es ++ took r h w.ends letter

  abbrev q : Option Question
  q = question_returned m h.asked

  abbrev noted_all : ReaderState
  noted_all = step.noted_all script es w r h letter s t

  abbrev replied_all : ReaderState
  replied_all = step.replied_all script es w r h letter s t

  abbrev ended_all : ReaderState
  ended_all = step.ended_all script es w r h letter s t

  abbrev known_all : ReaderState
  known_all = step.known_all script es w r h letter s t

  abbrev read_all : ReaderState
  read_all = step.read_all script es w r h letter s t

  -- what it did, but for what it asks
  silent_before : replied_all.out ≡ []
  silent_before = (step.reply script es w r h letter s t).out ∙ t.asks.silent

  known_out : known_all.out ≡ ended_all.out
  known_out = by (new_child ended_all m)
    where
      by : (o : Option Reference) → (with_child ended_all o).out ≡ ended_all.out
      by None = refl
      by (Some root) = refl

  abbrev Whole : Type 0
  Whole = flat_map (told_to r w.ends) read_all.out ≡ heard_entries r h w.ends letter

  -- the law about caches, before
  its_own : (b : ℕ) (x : List ℕ) → name_in es (App b) ≡ Some x → IsItsName es b x
  its_own b x is own at = same_some own x (sym at ∙ is)

  cache : (b : ℕ) (x : List ℕ) → name_in es (App b) ≡ Some x → CacheIs es b (held es r b) (followed x es r b)
  cache b x is =
      caches_follow script es t.ground.can t.ground.goes t.ground.nothing_owed x r b (its_own b x is) (steps_asked script es t.ground.can t.ground.goes x r b) es [] (sym (append-nil es))

  -- A MESSAGE OF NOBODY THAT IT FOLLOWS
  module _ (nobodys : (a : ℕ) (x : List ℕ) → name_in es (App a) ≡ Some x → n ≡ x → ⊥) where
    none_read : filter (is_named n) known_all.apps ≡ []
    none_read = not_named n known_all.apps (each_weaker (IsOfApp later) (λ (g : Followed). g.name ≡ n → ⊥) known_all.apps other (step.ones_known script es w r h letter s t))
      where
        other : (g : Followed) → IsOfApp later g → g.name ≡ n → ⊥
        other g i e = nobodys i.app g.name (sym (step.name_before script es w r h letter s t (App i.app)) ∙ i.its_name) (sym e)

    pub words_ended : read_all.out ≡ ended_all.out
    words_ended = ap₂ (λ l k. l ++ flat_map (lines_at (news_of n m)) k) known_out none_read ∙ append-nil ended_all.out

    pub no_words : told_end m ≡ None → heard_entries r h w.ends letter ≡ [] → Whole
    no_words none nothing = ap (flat_map (told_to r w.ends)) (words_ended ∙ ap (λ o. (with_end replied_all o).out) none ∙ silent_before) ∙ sym nothing

    -- the bus's news of an end
    module _ (is : letter.from ≡ The_bus) (k : List ℕ) (tells : told_end m ≡ Some k) where
      abbrev ended_ones : List Followed
      ended_ones = filter (is_named k) replied_all.apps

      ended_out : read_all.out ≡ end_of_connection k ++ closings ended_ones
      ended_out = words_ended ∙ ap (λ o. (with_end replied_all o).out) tells ∙ ap (λ l. l ++ (end_of_connection k ++ closings ended_ones)) silent_before

      abbrev Said_end : Option ℕ → Type 0
      Said_end o = flat_map (told_to r w.ends) (end_of_connection k ++ closings ended_ones) ≡ ended_entries r h o

      -- of no application
      end_told : (t : Bool) → app_named k w.ends ≡ None → flat_map (told_to r w.ends) (if t then tells_end k ∷ [] else []) ≡ []
      end_told true none = ap (λ o. of_app o (λ app. gone r app) ++ []) none
      end_told false none = refl

      of_nobody : app_named k w.ends ≡ None → Said_end None
      of_nobody none =
          told_both (told_to r w.ends) (end_of_connection k) (closings ended_ones) ∙ ap₂ (λ a c. a ++ c) (end_told (is_bus_name k && is_unique_name k) none) (ap (λ l. flat_map (told_to r w.ends) (closings l)) no_ones)
        where
          other : (g : Followed) → IsOfApp later g → g.name ≡ k → ⊥
          other g i e =
              no_none i.app (sym none ∙ app_is script es w None t.ground k i.app (sym (step.name_before script es w r h letter s t (App i.app)) ∙ i.its_name ∙ ap Some e))

          no_ones : ended_ones ≡ []
          no_ones = not_named k replied_all.apps (each_weaker (IsOfApp later) (λ (g : Followed). g.name ≡ k → ⊥) replied_all.apps other (step.ones_replied script es w r h letter s t))

      -- of one
      module _ (a : ℕ) (named : app_named k w.ends ≡ Some a) where
        its_name : name_in es (App a) ≡ Some k
        its_name = named_is script es w None t.ground k a named

        abbrev f : Followed
        f = followed k es r a

        is_one : (is_bus_name k && is_unique_name k) ≡ true
        is_one =
            ap₂ (λ y z. y && z) (name_is_bus_name es (App a) k (its script es w None t.ground).few (is_name script es w None t.ground (App a) k its_name))
            (unique_told es (App a) k (is_name script es w None t.ground (App a) k its_name))

        told_gone : flat_map (told_to r w.ends) (end_of_connection k) ≡ gone r a ∷ []
        told_gone = ap (λ y. flat_map (told_to r w.ends) (if y then tells_end k ∷ [] else [])) is_one ∙ ap (λ o. of_app o (λ app. gone r app) ++ []) named

        ones_are : ended_ones ≡ found_list (found_in k replied_all.apps)
        ones_are = those_named k replied_all.apps (replied_apart script es w r h letter s t quiet readers)

        abbrev Closes : Option Followed → Option Holding → Type 0
        Closes o j = flat_map (told_to r w.ends) (closings (found_list o)) ≡ map (spoke r a) (last_lines j)

        nobody : (j : Option Kept) → held es r a ≡ j → (o : Option Holding) → SameKept es a j o → f.view ≡ None → [] ≡ map (spoke r a) (last_lines o)
        nobody None e None y none = refl
        nobody (Some j) e (Some o) y none =
            let viewed : IsViewed es a j f = subst (λ z. CacheIs es a z f) e (cache a k its_name) in
            absurd (no_none (view (told_in j.told) (as_of es a j.last)) (sym none ∙ viewed.shows))
        nobody (Some j) e None y none = absurd y
        nobody None e (Some o) y none = absurd y

        closes : (j : Option Kept) → held es r a ≡ j → (o : Option Holding) → SameKept es a j o → (v : Forest Row) → f.view ≡ Some v → map (spoke r a) (closing_lines v) ≡ map (spoke r a) (last_lines o)
        closes (Some j) e (Some o) y v has =
            let viewed : IsViewed es a j f = subst (λ z. CacheIs es a z f) e (cache a k its_name) in
            let same : view (told_in j.told) (as_of es a j.last) ≡ v = same_some (view (told_in j.told) (as_of es a j.last)) v (sym viewed.shows ∙ has) in
            ap (map (spoke r a)) (ap closing_lines (sym same) ∙ closes_due (told_in j.told) (as_of es a j.last) ∙ ap closing_says (ap (as_of es a) y.last ∙ y.tree))
        closes None e None y v has = absurd (no_none v (sym (subst (λ z. CacheIs es a z f) e (cache a k its_name)) ∙ has))
        closes (Some j) e None y v has = absurd y
        closes None e (Some o) y v has = absurd y

        of_one : (g : Followed) → Same g f → (z : Option (Forest Row)) → f.view ≡ z → (j : Option Kept) → held es r a ≡ j → (o : Option Holding) → SameKept es a j o → Closes (Some g) o
        of_one g y None none j e o z = ap (λ l. flat_map (told_to r w.ends) (l ++ [])) (closing_none g (y.view ∙ none)) ∙ nobody j e o z none
        of_one g y (Some v) has j e o z =
            ap (flat_map (told_to r w.ends)) (append-nil (closing_of g) ∙ closing_some g v (y.view ∙ has) ∙ ap (λ d. map (λ (line : List ℕ). speaks d line) (closing_lines v)) (y.name ∙ (followed_rooted k es r a).0))
            ∙ told_lines r a w.ends k (closing_lines v) named ∙ closes j e o z v has

        by_found : (o : Option Followed) → Sees o f → Closes o (holding_of a h.holds)
        by_found None y = nobody (held es r a) refl (holding_of a h.holds) (readers.holds a) y
        by_found (Some g) y = of_one g y f.view refl (held es r a) refl (holding_of a h.holds) (readers.holds a)

        of_app_end : Said_end (Some a)
        of_app_end =
            told_both (told_to r w.ends) (end_of_connection k) (closings ended_ones)
            ∙ ap₂ (λ y z. y ++ z) told_gone (ap (λ l. flat_map (told_to r w.ends) (closings l)) ones_are
            ∙ by_found (found_in k replied_all.apps) (other_replied script es w r h letter s t quiet a k its_name (nobodys a k its_name)))

      pub end_words : Whole
      end_words = ap (flat_map (told_to r w.ends)) ended_out ∙ by (app_named k w.ends) refl ∙ sym (written_bus r h w.ends letter is)
        where
          by : (o : Option ℕ) → app_named k w.ends ≡ o → Said_end (app_with w.ends (told_end m))
          by None e = subst Said_end (sym (ap (app_with w.ends) tells ∙ e)) (of_nobody e)
          by (Some a) e = subst Said_end (sym (ap (app_with w.ends) tells ∙ e)) (of_app_end a e)
