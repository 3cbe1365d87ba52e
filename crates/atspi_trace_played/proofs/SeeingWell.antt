-- A reader takes a letter: it then sees well, and whom it asked for items it knows and does not hold, or the end of it was told.
use Rattle.std.proofs.Common.{◌≡◌, ◌⊎◌, inl, inr, ℕ, false, List, [], ◌∷◌, ◌++◌, map, Option, None, Some, refl, sym, ap, ◌∙◌, subst}
use Rattle.std.specs.Prelude.{not, filter, fold, option_map}
use Rattle.std.specs.List.{AllByRecursion}
use Rattle.std.proofs.lemmas.List.{append_assoc}
use Rattle.atspi_tree_model.specs.declared.news.News.{News}
use Rattle.atspi_tree_model.specs.News.{effect}
use Rattle.atspi_tree_model.specs.declared.news.Reference.{Reference}
use Rattle.atspi_script_lines.specs.declared.line.Line.{Line}
use Rattle.atspi_script_lines.specs.declared.line.Party.{Party}
use Rattle.atspi_script_lines.specs.declared.line.Party.TheVariants.{Bus as The_bus, Registry, App, Reader}
use Rattle.atspi_message.specs.Envelope.{Envelope}
use Rattle.atspi_protocol.specs.declared.following.question.Question.{Question}
use Rattle.atspi_protocol.specs.declared.following.question.Question.TheVariants.{GetItems}
use Rattle.atspi_protocol.specs.news.NewsOf.{news_of, or_empty}
use Rattle.atspi_protocol.specs.news.Replies.{elements_of}
use Rattle.atspi_protocol.specs.following.ReaderState.{Followed, Pending, ReaderState, is_named}
use Rattle.atspi_protocol.specs.following.Known.{unasked, made_known, references_among, new_child, with_child, told_end, with_end}
use Rattle.atspi_protocol.specs.following.Replied.{changed, loaded, told_part, refused_part}
use Rattle.atspi_protocol.specs.following.Takes.{asks, reader_takes, found_in, noted, folded}
use Rattle.atspi_trace.specs.Entry.{Entry, got, spoke, gone}
use Rattle.atspi_trace.specs.World.{Hearer, Letter, World}
use Rattle.atspi_trace.specs.Ends.{app_named}
use Rattle.atspi_trace.specs.Hearing.{ended_entries, last_lines, holding_of, question_returned, app_with}
use Rattle.atspi_trace_laws.specs.laws.Words.{name_in}
use Rattle.atspi_trace_caches.specs.caches.Caches.{followed}
use Rattle.atspi_trace_laws.proofs.OfOrder.Parties.{no_none, same_some}
use Rattle.atspi_trace_laws.proofs.OfHeld.Keeping.{ReaderIs}
use Rattle.atspi_trace_laws.proofs.OfNames.Places.{told_is}
use Rattle.atspi_trace_laws.proofs.OfSigned.Self.{app_name}
use Rattle.atspi_trace_laws.proofs.OfSigned.Mail.{NameIs}
use Rattle.atspi_trace.specs.play.Playing.{silent}
use Rattle.atspi_trace_played.proofs.Facts.{AreDistinct, Awaits, NoItems, SeesWell, IsOfApp, IsAwaited, IsGoneFor}
use Rattle.atspi_trace_played.proofs.SeeingApps.{FoundAfter, same, new, distinct_changed, distinct_without, distinct_made, distinct_fold, found_it, found_other, found_without, found_kept, found_made, found_is}
use Rattle.atspi_trace_played.proofs.SeeingSame.{folded_is, loaded_keeps, refused_keeps, noted_keeps, folded_keeps, told_keeps}
use Rattle.atspi_trace_played.proofs.SeeingReplies as replies
use Rattle.atspi_trace_played.proofs.SeeingReplies.{Brings, items, told, refuses, fails, children}
use Rattle.atspi_trace_played.proofs.SeeingTaken.{Sees, is_seen, same_or}
use Rattle.atspi_trace_played.proofs.SeeingGround.{no_bus_name, Sender, of_bus, of_end, end_from_bus, named_is, app_is}
use Rattle.atspi_trace_played.proofs.SeeingStep as step
use Rattle.atspi_trace_played.proofs.SeeingSeen.{IsQuiet, seen_behind}
use Rattle.atspi_trace_played.proofs.SeeingWishes.{IsFound, each_found, IsWished, first_wish, GoesOn, stays, begins_one, wishes_one, next_of}
use Rattle.atspi_trace_played.proofs.SeeingChildren.{took, Taking, from}
use Rattle.atspi_trace_played.proofs.SeeingBehind.{written_bus, behind_other, behind_registry, behind_reader, behind_bus, behind_other_end}

-- WHO WAITS: one that is known and not held, or none, whose end was told
abbrev pub IsBare : List ℕ → List Followed → Type 0
IsBare x l = (g : Followed) × (found_in x l ≡ Some g) × (g.view ≡ None)

abbrev pub KeepsBare : (Followed → Followed) → Type 0
KeepsBare change = (g : Followed) → g.view ≡ None → (change g).view ≡ None

bare_changed : (change : Followed → Followed) (n x : List ℕ) (l : List Followed) → ((g : Followed) → (change g).name ≡ g.name) → KeepsBare change → IsBare x l → IsBare x (changed change n l)
bare_changed change n x l names bare i = by (same_or n x)
  where
    by : (n ≡ x) ⊎ (n ≡ x → ⊥) → IsBare x (changed change n l)
    by (inl e) = (change i.0, ap (λ k. found_in x (changed change k l)) e ∙ found_it change x l names ∙ ap (option_map change) i.1, bare i.0 i.2)
    by (inr differ) = (i.0, found_other change n x l names differ ∙ i.1, i.2)

none_changed : (change : Followed → Followed) (n x : List ℕ) (l : List Followed) → ((g : Followed) → (change g).name ≡ g.name) → found_in x l ≡ None → found_in x (changed change n l) ≡ None
none_changed change n x l names i = by (same_or n x)
  where
    by : (n ≡ x) ⊎ (n ≡ x → ⊥) → found_in x (changed change n l) ≡ None
    by (inl e) = ap (λ k. found_in x (changed change k l)) e ∙ found_it change x l names ∙ ap (option_map change) i
    by (inr differ) = found_other change n x l names differ ∙ i

folded_bare : (news : News) → KeepsBare (folded news)
folded_bare news g h = (folded_is news g).view_is ∙ ap (option_map (λ v. effect g.root g.name v news)) h

module _ (script : List Line) (es : List Entry) (w : World) (r : ℕ) (h : Hearer) (letter : Letter) (s : ReaderState) (t : Taking script es w r h letter s) (quiet : IsQuiet es r h letter) (readers : ReaderIs es r h) where
  abbrev m : Envelope
  m = letter.said.message

  abbrev pub later : List Entry
  later = es ++ took r h w.ends letter

  abbrev q : Option Question
  q = question_returned m h.asked

  abbrev noted_all : ReaderState
  noted_all = step.noted_all script es w r h letter s t

  abbrev replied_all : ReaderState
  replied_all = step.replied_all script es w r h letter s t

  abbrev ended_all : ReaderState
  ended_all = step.ended_all script es w r h letter s t

  abbrev known_all : ReaderState
  known_all = step.known_all script es w r h letter s t

  abbrev read_all : ReaderState
  read_all = step.read_all script es w r h letter s t

  noted_apart : AreDistinct noted_all.apps
  noted_apart = distinct_changed (noted m.serial) (or_empty m.sender) s.apps (noted_keeps m.serial) t.asks.distinct

  pub replied_apart : AreDistinct replied_all.apps
  replied_apart = by (step.reply script es w r h letter s t).brings
    where
      to : (l : List Followed) → replied_all.apps ≡ l → AreDistinct l → AreDistinct replied_all.apps
      to l is a = subst AreDistinct (sym is) a

      by : Brings m s.pending s.registry noted_all.apps q replied_all → AreDistinct replied_all.apps
      by (replies.same plain is reg) = to noted_all.apps is noted_apart
      by (items p name all is asks_ qs two not_bus may tells is_apps reg) = to (changed (loaded all) name noted_all.apps) is_apps (distinct_changed (loaded all) name noted_all.apps (loaded_keeps all) noted_apart)
      by (told name path which news qs two not_bus may tells is_apps reg) = to (changed (told_part news) name noted_all.apps) is_apps (distinct_changed (told_part news) name noted_all.apps (told_keeps news) noted_apart)
      by (refuses name path which qs not_bus may tells no_four is_apps reg) =
          to (changed (refused_part path which) name noted_all.apps) is_apps (distinct_changed (refused_part path which) name noted_all.apps (refused_keeps path which) noted_apart)
      by (fails p name is asks_ qs no_four is_apps reg) = to (filter (λ app. not (is_named name app)) noted_all.apps) is_apps (distinct_without name noted_all.apps noted_apart)
      by (children qs two is_apps reg) =
          to (fold made_known noted_all.apps (references_among (elements_of m.body))) is_apps (distinct_fold noted_all.apps (references_among (elements_of m.body)) noted_apart)

  ended_apart : AreDistinct ended_all.apps
  ended_apart = by (told_end m)
    where
      by : (o : Option (List ℕ)) → AreDistinct (with_end replied_all o).apps
      by None = replied_apart
      by (Some k) = distinct_without k replied_all.apps replied_apart

  pub known_apart : AreDistinct known_all.apps
  known_apart = by (new_child ended_all m)
    where
      by : (o : Option Reference) → AreDistinct (with_child ended_all o).apps
      by None = ended_apart
      by (Some root) = distinct_made ended_all.apps root ended_apart

  pub read_apart : AreDistinct read_all.apps
  read_apart = distinct_changed (folded (news_of (or_empty m.sender) m)) (or_empty m.sender) known_all.apps (folded_keeps (news_of (or_empty m.sender) m)) known_apart

  seen_now : (b : ℕ) (x : List ℕ) → name_in later (App b) ≡ Some x → Sees (found_in x read_all.apps) (followed x later r b)
  seen_now b x its_name = seen_behind script es w r h letter s t quiet b x (sym (step.name_before script es w r h letter s t (App b)) ∙ its_name) readers

  none_anew : AllByRecursion (λ (g : Followed). g.reload ≡ false) read_all.apps
  none_anew = all read_all.apps (each_found read_all.apps read_apart) (step.ones_read script es w r h letter s t)
    where
      all : (l : List Followed) → AllByRecursion (IsFound read_all.apps) l → AllByRecursion (IsOfApp later) l → AllByRecursion (λ (g : Followed). g.reload ≡ false) l
      all [] a b = tt
      all (g ∷ gs) a b = ((subst (λ o. Sees o (followed g.name later r b.0.app)) a.0 (seen_now b.0.app g.name b.0.its_name)).reload, all gs a.1 b.1)

  -- WHAT IT WAITS FOR
  bare_noted : (x : List ℕ) → IsAwaited es r x s.apps → IsAwaited later r x noted_all.apps
  bare_noted x (inl i) = inl (bare_changed (noted m.serial) (or_empty m.sender) x s.apps (noted_keeps m.serial) (λ g e. e) i)
  bare_noted x (inr i) =
      let later_gone : IsGoneFor later r i.1.0 =
      (i.1.2.0, i.1.2.1 ++ took r h w.ends letter, ap (λ l. l ++ took r h w.ends letter) i.1.2.2 ∙ append_assoc i.1.2.0 (gone r i.1.0 ∷ i.1.2.1) (took r h w.ends letter)) in
      inr (none_changed (noted m.serial) (or_empty m.sender) x s.apps (noted_keeps m.serial) i.0, (i.1.0, step.name_stays es (took r h w.ends letter) (App i.1.0) x i.1.1, later_gone))

  -- the end of one
  gone_now : (a : ℕ) (x : List ℕ) → name_in es (App a) ≡ Some x → told_end m ≡ Some x → IsGoneFor later r a
  gone_now a x its_name tells = by (from script es w r h letter s t)
    where
      by : Sender es letter → IsGoneFor later r a
      by (of_end caller some named apart c) = absurd (no_bus_name script es w None t.ground letter.from caller named (sym (end_from_bus m x tells) ∙ ap or_empty some))
      by (of_bus is empty some) = (
        es ++ got (Reader r) letter.from m.serial ∷ [],
        map (spoke r a) (last_lines (holding_of a h.holds)),
        ap (λ l. es ++ got (Reader r) letter.from m.serial ∷ l) (written_bus r h w.ends letter is ∙ ap (ended_entries r h) (ap (app_with w.ends) tells ∙ app_is script es w None t.ground x a its_name))
            ∙ sym (append_assoc es (got (Reader r) letter.from m.serial ∷ []) (gone r a ∷ map (spoke r a) (last_lines (holding_of a h.holds)))),
      )

  bare_ended : (x : List ℕ) → AllByRecursion (IsOfApp later) replied_all.apps → IsAwaited later r x replied_all.apps → IsAwaited later r x ended_all.apps
  bare_ended x ones i = by (told_end m) refl
    where
      is_none : (k : List ℕ) → k ≡ x → found_in x (filter (λ app. not (is_named k app)) replied_all.apps) ≡ None
      is_none k e = ap (λ z. found_in x (filter (λ app. not (is_named z app)) replied_all.apps)) e ∙ found_without x replied_all.apps

      with_name : (k : List ℕ) → told_end m ≡ Some k → (k ≡ x) ⊎ (k ≡ x → ⊥) → IsAwaited later r x replied_all.apps → IsAwaited later r x (filter (λ app. not (is_named k app)) replied_all.apps)
      with_name k tells (inl e) (inl y) =
          let one = found_is (IsOfApp later) x replied_all.apps y.0 y.1 ones in
          let its_name : name_in es (App one.0.app) ≡ Some x = sym (step.name_before script es w r h letter s t (App one.0.app)) ∙ one.0.its_name ∙ ap Some one.1 in
          inr (is_none k e, (one.0.app, one.0.its_name ∙ ap Some one.1, gone_now one.0.app x its_name (tells ∙ ap Some e)))
      with_name k tells (inl e) (inr y) = inr (is_none k e, y.1)
      with_name k tells (inr differ) (inl y) = inl (y.0, found_kept k x replied_all.apps differ ∙ y.1, y.2)
      with_name k tells (inr differ) (inr y) = inr (found_kept k x replied_all.apps differ ∙ y.0, y.1)

      by : (o : Option (List ℕ)) → told_end m ≡ o → IsAwaited later r x (with_end replied_all o).apps
      by None e = i
      by (Some k) e = with_name k e (same_or k x) i

  bare_known : (x : List ℕ) → IsAwaited later r x ended_all.apps → IsAwaited later r x known_all.apps
  bare_known x i = by (new_child ended_all m)
    where
      with_root : (l : List Followed) → FoundAfter x ended_all.apps l → IsAwaited later r x ended_all.apps → IsAwaited later r x l
      with_root l (same e) (inl y) = inl (y.0, e ∙ y.1, y.2)
      with_root l (same e) (inr y) = inr (e ∙ y.0, y.1)
      with_root l (new none root e) y = inl (unasked root, e, refl)

      by : (o : Option Reference) → IsAwaited later r x (with_child ended_all o).apps
      by None = i
      by (Some root) = with_root (made_known ended_all.apps root) (found_made x ended_all.apps root) i

  bare_read : (x : List ℕ) → IsAwaited later r x known_all.apps → IsAwaited later r x read_all.apps
  bare_read x (inl i) = inl (bare_changed (folded (news_of (or_empty m.sender) m)) (or_empty m.sender) x known_all.apps (folded_keeps (news_of (or_empty m.sender) m)) (folded_bare (news_of (or_empty m.sender) m)) i)
  bare_read x (inr i) = inr (none_changed (folded (news_of (or_empty m.sender) m)) (or_empty m.sender) x known_all.apps (folded_keeps (news_of (or_empty m.sender) m)) i.0, i.1)

  -- the call that waits, and the calls to come, are no matter of what follows the reply
  pending_same : read_all.pending ≡ replied_all.pending
  pending_same = by (new_child ended_all m) ∙ ends (told_end m)
    where
      by : (o : Option Reference) → (with_child ended_all o).pending ≡ ended_all.pending
      by None = refl
      by (Some root) = refl

      ends : (o : Option (List ℕ)) → (with_end replied_all o).pending ≡ replied_all.pending
      ends None = refl
      ends (Some k) = refl

  to_come_same : read_all.to_come ≡ replied_all.to_come
  to_come_same = by (new_child ended_all m) ∙ ends (told_end m)
    where
      by : (o : Option Reference) → (with_child ended_all o).to_come ≡ ended_all.to_come
      by None = refl
      by (Some root) = refl

      ends : (o : Option (List ℕ)) → (with_end replied_all o).to_come ≡ replied_all.to_come
      ends None = refl
      ends (Some k) = refl

  waits_read : Awaits later r read_all.pending read_all.apps
  waits_read p is x asks_ = by (step.reply script es w r h letter s t).still
    where
      by : (replied_all.pending ≡ None) ⊎ (replied_all ≡ noted_all) → IsAwaited later r x read_all.apps
      by (inl none) = absurd (no_none p (sym none ∙ sym pending_same ∙ is))
      by (inr still) =
          let before : s.pending ≡ Some p = sym (ap (λ (z : ReaderState). z.pending) still) ∙ sym pending_same ∙ is in
          bare_read x (bare_known x (bare_ended x (step.ones_replied script es w r h letter s t)
          (subst (λ (z : ReaderState). IsAwaited later r x z.apps) (sym still) (bare_noted x (t.sees.asking p before x asks_)))))

  starts_read : AllByRecursion NoItems read_all.to_come
  starts_read = by (step.reply script es w r h letter s t).to_come
    where
      by : (replied_all.to_come ≡ s.to_come) ⊎ (replied_all.to_come ≡ []) → AllByRecursion NoItems read_all.to_come
      by (inl e) = subst (AllByRecursion NoItems) (sym (to_come_same ∙ e)) t.sees.to_come
      by (inr e) = subst (AllByRecursion NoItems) (sym (to_come_same ∙ e)) tt

  -- IT SEES WELL
  pub record Whole (u : ReaderState) : Type 0 where
    pub apps : u.apps ≡ read_all.apps
    pub waits_on : Awaits later r u.pending read_all.apps
    pub to_come : AllByRecursion NoItems u.to_come

  asks_well : (u : ReaderState) (question : Question) → u.apps ≡ read_all.apps → AllByRecursion NoItems u.to_come → ((x : List ℕ) → question ≡ GetItems x → IsAwaited later r x read_all.apps) → Whole (asks u question)
  asks_well u question is starts waits_ = record {
    apps = is;
    waits_on = λ p e x k. waits_ x (ap (λ (z : Pending). z.question) (same_some (record { serial = u.next; question = question }) p e) ∙ k);
    to_come = starts;
  }

  pub went_on : Whole (reader_takes s m)
  went_on = by (next_of read_all)
    where
      by : GoesOn read_all → Whole (reader_takes s m)
      by (stays e) = subst Whole (sym e) (record { apps = refl; waits_on = waits_read; to_come = starts_read })
      by (begins_one question rest is e) =
          let starts : NoItems question × AllByRecursion NoItems rest = subst (AllByRecursion NoItems) is starts_read in
          subst Whole (sym e) (asks_well (record read_all { to_come = rest }) question refl starts.1 (λ x k. absurd (subst NoItems k starts.0)))
      by (wishes_one question rest is none e) =
          subst Whole (sym e) (asks_well read_all question refl starts_read (λ x k. wished x (first_wish read_all.apps read_all.apps x rest (each_found read_all.apps read_apart) none_anew (is ∙ ap (λ z. z ∷ rest) k))))
        where
          wished : (x : List ℕ) → IsWished read_all.apps x → IsAwaited later r x read_all.apps
          wished x i = inl (i.one, i.found, i.unheld)

  -- of one that has no name yet
  unnamed : (a : ℕ) → name_in later (App a) ≡ None → (x : List ℕ) → (followed x later r a).view ≡ None
  unnamed a none x = ap (λ (z : Followed). z.view) (by (from script es w r h letter s t)) ∙ t.sees.unnamed a none_before x
    where
      none_before : name_in es (App a) ≡ None
      none_before = sym (step.name_before script es w r h letter s t (App a)) ∙ none

      of_party : (p : Party) → letter.from ≡ p → (caller : List ℕ) → NameIs es letter.from caller → (letter.from ≡ The_bus → ⊥) → followed x later r a ≡ followed x es r a
      of_party The_bus is caller named apart = absurd (apart is)
      of_party Registry is caller named apart = behind_registry es r a h w.ends letter x is
      of_party (Reader p) is caller named apart = behind_reader es r a h w.ends letter x p is
      of_party (App b) is caller named apart =
          behind_other es r a h w.ends letter x b is
          (λ same. no_none caller (sym none_before ∙ told_is es (App a) ∙ app_name es a caller (subst (λ p. NameIs es p caller) (is ∙ ap App same) named)))

      by : Sender es letter → followed x later r a ≡ followed x es r a
      by (of_end caller some named apart c) = of_party letter.from refl caller named apart
      by (of_bus is empty some) = ends (told_end m) refl
        where
          of_name : (k : List ℕ) → told_end m ≡ Some k → (o : Option ℕ) → app_named k w.ends ≡ o → followed x later r a ≡ followed x es r a
          of_name k e None f = behind_bus es r a h w.ends letter x is (ap (app_with w.ends) e ∙ f)
          of_name k e (Some b) f =
              behind_other_end es r a h w.ends letter x b is (ap (app_with w.ends) e ∙ f)
              (λ same. no_none k (sym none_before ∙ ap (λ z. name_in es (App z)) (sym same) ∙ named_is script es w None t.ground k b f))

          ends : (o : Option (List ℕ)) → told_end m ≡ o → followed x later r a ≡ followed x es r a
          ends None e = behind_bus es r a h w.ends letter x is (ap (app_with w.ends) e)
          ends (Some k) e = of_name k e (app_named k w.ends) refl

  pub sees_well : SeesWell later r (silent (reader_takes s m))
  sees_well = record {
    seen = λ x b its_name. is_seen (found_in x (reader_takes s m).apps) (followed x later r b) (subst (λ l. Sees (found_in x l) (followed x later r b)) (sym went_on.apps) (seen_now b x its_name));
    apps = subst (AllByRecursion (IsOfApp later)) (sym went_on.apps) (step.ones_read script es w r h letter s t);
    asking = subst (Awaits later r (reader_takes s m).pending) (sym went_on.apps) went_on.waits_on;
    to_come = went_on.to_come;
    unnamed = unnamed;
  }
