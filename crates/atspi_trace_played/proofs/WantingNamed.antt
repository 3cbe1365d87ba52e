-- Each name that it was told of is known, was asked for or is gone, behind a letter that it took.
use Rattle.std.proofs.Common.{◌≡◌, ◌⊎◌, inl, inr, ℕ, Bool, true, false, List, [], ◌∷◌, ◌++◌, map, Option, None, Some, refl, sym, ap, ◌∙◌, subst}
use Rattle.std.specs.Prelude.{◌==◌, ◌&&◌, ◌||◌, not, filter, fold, bytes_eq, option_map, if◌then◌else◌}
use Rattle.std.specs.List.{AllByRecursion, list_any}
use Rattle.atspi_tree_model.specs.declared.news.Reference.{Reference}
use Rattle.atspi_script_lines.specs.declared.line.Line.{Line}
use Rattle.atspi_message.specs.Envelope.{Envelope}
use Rattle.atspi_protocol.specs.declared.following.question.Question.{Question}
use Rattle.atspi_protocol.specs.declared.following.question.Question.TheVariants.{Hello, AddMatch, RegisterEvent, GetChildren, GetItems, GetPart}
use Rattle.atspi_protocol.specs.news.NewsOf.{news_of, or_empty}
use Rattle.atspi_protocol.specs.news.Replies.{elements_of}
use Rattle.atspi_protocol.specs.following.ReaderState.{Followed, Pending, ReaderState, is_named, begins}
use Rattle.atspi_protocol.specs.following.Known.{is_connection, unasked, made_known, references_among, new_child, with_child, takes_child, told_end, with_end, takes_end}
use Rattle.atspi_protocol.specs.following.Replied.{changed, loaded, told_part, refused_part, takes_reply}
use Rattle.atspi_protocol.specs.following.Takes.{noted, notes, folded, takes_news, found_in, reader_takes}
use Rattle.atspi_trace.specs.Entry.{Entry}
use Rattle.atspi_trace.specs.World.{Hearer, Letter, End, World}
use Rattle.atspi_trace.specs.Hearing.{question_returned, child_name, names_told, hears_letter}
use Rattle.atspi_trace_caches.specs.settled.Laws.{IsAsked}
use Rattle.atspi_trace_laws.proofs.OfOrder.Parties.{false_true, all_append}
use Rattle.atspi_trace_caches.proofs.OfServed.ListingTold.{Embedded}
use Rattle.atspi_trace_caches.proofs.OfSettled.Settling_ground.{embedded_app}
use Rattle.atspi_trace_played.proofs.Facts.{Ground, RepliesWell, IsGone, IsKnownOrGone, Tied}
use Rattle.atspi_trace_played.proofs.Pieces.{IsTaking, entries_behind, world_behind}
use Rattle.atspi_trace_played.proofs.SeeingApps.{KeepsNames, FoundAfter, found_it, found_other, found_kept, found_made, named_same}
use Rattle.atspi_trace_played.proofs.SeeingApps as apps
use Rattle.atspi_trace_played.proofs.SeeingSame.{noted_keeps, loaded_keeps, refused_keeps, told_keeps, folded_keeps}
use Rattle.atspi_trace_played.proofs.SeeingGround.{end_is_signal}
use Rattle.atspi_trace_played.proofs.SeeingReplies as replying
use Rattle.atspi_trace_played.proofs.SeeingReplies.{IsPlain, Brings, items, told, refuses, fails, children, replied_to}
use Rattle.atspi_trace_played.proofs.SeeingTaken.{same_or}
use Rattle.atspi_trace_played.proofs.WantingGround.{shape, known, live}
use Rattle.atspi_trace_played.proofs.WantingGone.{gone_more, gone_told}
use Rattle.atspi_trace_played.proofs.WantingReplied.{asked_still, waits_asked}
use Rattle.atspi_trace_played.proofs.WantingEach.{goes_apps}

abbrev IsFound : List ℕ → List Followed → Type 0
IsFound name l = (g : Followed) × (found_in name l ≡ Some g)

-- it stays found
still_found : (change : Followed → Followed) (n name : List ℕ) (l : List Followed) → KeepsNames change → IsFound name l → IsFound name (changed change n l)
still_found change n name l keeps f = by (same_or n name)
  where
    by : (n ≡ name) ⊎ (n ≡ name → ⊥) → IsFound name (changed change n l)
    by (inl same) = (change f.0, subst (λ k. found_in name (changed change k l) ≡ Some (change f.0)) (sym same) (found_it change name l keeps ∙ ap (option_map change) f.1))
    by (inr differ) = (f.0, found_other change n name l keeps differ ∙ f.1)

after_found : (name : List ℕ) (a b : List Followed) → FoundAfter name a b → IsFound name a → IsFound name b
after_found name a b (apps.same is) f = (f.0, is ∙ f.1)
after_found name a b (apps.new none root is) f = (unasked root, is)

-- one that becomes known is found
found_any : (name : List ℕ) (l : List Followed) → list_any (is_named name) l ≡ true → IsFound name l
found_any name [] h = absurd (false_true h)
found_any name (f ∷ fs) h = by (is_named name f) refl h (λ k. found_any name fs k)
  where
    by : (b : Bool) → is_named name f ≡ b → (b || list_any (is_named name) fs) ≡ true → (list_any (is_named name) fs ≡ true → IsFound name fs) → IsFound name (f ∷ fs)
    by true is k ih = (f, ap (λ b. if b then Some f else found_in name fs) is)
    by false is k ih = let x = ih k in (x.0, ap (λ b. if b then Some f else found_in name fs) is ∙ x.1)

found_end : (name : List ℕ) (l : List Followed) (g : Followed) → g.name ≡ name → IsFound name (l ++ g ∷ [])
found_end name [] g is = (g, ap (λ b. if b then Some g else None) (ap (λ k. bytes_eq k name) is ∙ named_same name))
found_end name (f ∷ fs) g is = by (is_named name f) refl (found_end name fs g is)
  where
    by : (b : Bool) → is_named name f ≡ b → IsFound name (fs ++ g ∷ []) → IsFound name (f ∷ (fs ++ g ∷ []))
    by true named x = (f, ap (λ b. if b then Some f else found_in name (fs ++ g ∷ [])) named)
    by false named x = (x.0, ap (λ b. if b then Some f else found_in name (fs ++ g ∷ [])) named ∙ x.1)

made_found : (l : List Followed) (root : Reference) → is_connection root.bus ≡ true → IsFound root.bus (made_known l root)
made_found l root is = by (is_connection root.bus) is (list_any (is_named root.bus) l) refl
  where
    by : (b : Bool) → b ≡ true → (c : Bool) → list_any (is_named root.bus) l ≡ c → IsFound root.bus (if b && not c then l ++ unasked root ∷ [] else l)
    by true h true any = found_any root.bus l any
    by true h false any = found_end root.bus l (unasked root) refl
    by false h c any = absurd (false_true h)

module _ (script : List Line) (es : List Entry) (w : World) (g : Ground script es w None) (conn r : ℕ) (e : End) (h : Hearer) (letter : Letter) (rest : List Letter) (x : IsTaking w conn r e h letter rest)
    (behind : Ground script (es ++ entries_behind w conn) (world_behind w conn) (Some conn)) (s : ReaderState) (t : Tied es w r h s) (replies : RepliesWell w letter.said.message h.asked) where
  abbrev m : Envelope
  m = letter.said.message

  abbrev hearer : Hearer
  hearer = hears_letter h w.ends letter

  -- what is to be shown of a name, of the applications at a stage
  abbrev Known : List ℕ → List Followed → Type 0
  Known name l = IsFound name l ⊎ (IsAsked (GetItems name) hearer.asked ⊎ IsGone (world_behind w conn) name)

  maps : (name : List ℕ) (a b : List Followed) → (IsFound name a → IsFound name b) → Known name a → Known name b
  maps name a b f (inl i) = inl (f i)
  maps name a b f (inr i) = inr i

  known_changed : (change : Followed → Followed) (n name : List ℕ) (l : List Followed) → KeepsNames change → Known name l → Known name (changed change n l)
  known_changed change n name l keeps = maps name l (changed change n l) (still_found change n name l keeps)

  known_without : (n name : List ℕ) (l : List Followed) → (n ≡ name → IsAsked (GetItems name) hearer.asked ⊎ IsGone (world_behind w conn) name) → Known name l → Known name (filter (λ app. not (is_named n app)) l)
  known_without n name l why i = by (same_or n name)
    where
      by : (n ≡ name) ⊎ (n ≡ name → ⊥) → Known name (filter (λ app. not (is_named n app)) l)
      by (inl same) = inr (why same)
      by (inr differ) = maps name l (filter (λ app. not (is_named n app)) l) (λ f. (f.0, found_kept n name l differ ∙ f.1)) i

  known_made : (name : List ℕ) (l : List Followed) (root : Reference) → Known name l → Known name (made_known l root)
  known_made name l root = maps name l (made_known l root) (after_found name l (made_known l root) (found_made name l root))

  known_fold : (name : List ℕ) (l : List Followed) (roots : List Reference) → Known name l → Known name (fold made_known l roots)
  known_fold name l [] i = i
  known_fold name l (root ∷ roots) i = known_fold name (made_known l root) roots (known_made name l root i)

  fold_known : (l : List Followed) (roots : List Reference) → AllByRecursion (λ name. is_connection name ≡ true → Known name (fold made_known l roots)) (map (λ (root : Reference). root.bus) roots)
  fold_known l [] = tt
  fold_known l (root ∷ roots) = ((λ is. known_fold root.bus (made_known l root) roots (inl (made_found l root is))), fold_known (made_known l root) roots)

  -- ITS REPLY
  abbrev replied_state : ReaderState
  replied_state = takes_reply (notes s m) m

  brings : Brings m s.pending s.registry (notes s m).apps (question_returned m h.asked) replied_state
  brings = (replied_to w m h s replies t.asks.waiting).brings

  to : (name : List ℕ) (l : List Followed) → replied_state.apps ≡ l → Known name l → Known name replied_state.apps
  to name l is i = subst (Known name) (sym is) i

  known_replied : (name : List ℕ) → Known name (notes s m).apps → Known name replied_state.apps
  known_replied name i = by brings
    where
      was_asked : (p : Pending) (n : List ℕ) → s.pending ≡ Some p → p.question ≡ GetItems n → n ≡ name → IsAsked (GetItems name) hearer.asked
      was_asked p n pending is same = asked_still (GetItems name) m h.asked (subst (λ q. IsAsked q h.asked) (is ∙ ap GetItems same) (waits_asked p s.pending h.asked pending t.asks.waiting))

      by : Brings m s.pending s.registry (notes s m).apps (question_returned m h.asked) replied_state → Known name replied_state.apps
      by (replying.same plain is reg) = to name (notes s m).apps is i
      by (items p n all pending asks q two not_bus may tells is reg) = to name (changed (loaded all) n (notes s m).apps) is (known_changed (loaded all) n name (notes s m).apps (loaded_keeps all) i)
      by (told n path which news q two not_bus may tells is reg) = to name (changed (told_part news) n (notes s m).apps) is (known_changed (told_part news) n name (notes s m).apps (told_keeps news) i)
      by (refuses n path which q not_bus may tells no_four is reg) =
          to name (changed (refused_part path which) n (notes s m).apps) is (known_changed (refused_part path which) n name (notes s m).apps (refused_keeps path which) i)
      by (fails p n pending asks q no_four is reg) =
          to name (filter (λ app. not (is_named n app)) (notes s m).apps) is (known_without n name (notes s m).apps (λ same. inl (was_asked p n pending asks same)) i)
      by (children q two is reg) = to name (fold made_known (notes s m).apps (references_among (elements_of m.body))) is (known_fold name (notes s m).apps (references_among (elements_of m.body)) i)

  -- AND THE REST
  abbrev ended_state : ReaderState
  ended_state = takes_end replied_state m

  abbrev child_state : ReaderState
  child_state = takes_child ended_state m

  known_ended : (name : List ℕ) → (IsGone w name → IsGone (world_behind w conn) name) → Known name replied_state.apps → Known name ended_state.apps
  known_ended name more i = by (told_end m) refl
    where
      by : (o : Option (List ℕ)) → told_end m ≡ o → Known name (with_end replied_state o).apps
      by None is = i
      by (Some n) is =
          known_without n name replied_state.apps (λ same. inr (more (subst (IsGone w) same (gone_told script es w None g conn e letter rest x.is_here.there x.is_here.standing x.link n is)))) i

  known_child : (name : List ℕ) (o : Option Reference) → Known name ended_state.apps → Known name (with_child ended_state o).apps
  known_child name None i = i
  known_child name (Some root) i = known_made name ended_state.apps root i

  known_last : (name : List ℕ) → Known name child_state.apps → Known name (reader_takes s m).apps
  known_last name i =
      subst (Known name) (sym (goes_apps (takes_news child_state m)))
      (known_changed (folded (news_of (or_empty m.sender) m)) (or_empty m.sender) name child_state.apps (folded_keeps (news_of (or_empty m.sender) m)) i)

  known_through : (name : List ℕ) → (IsGone w name → IsGone (world_behind w conn) name) → Known name replied_state.apps → Known name (reader_takes s m).apps
  known_through name more i = known_last name (known_child name (new_child ended_state m) (known_ended name more i))

  -- who is gone stays so
  goes : (name : List ℕ) → Embedded es name → IsGone w name → IsGone (world_behind w conn) name
  goes name was gone =
      let a = embedded_app es w (shape script es w None g) (known script es w None g) name was in
      gone_more script script es (entries_behind w conn) w (world_behind w conn) None (Some conn) g behind name a.0 a.1 gone

  old : (names : List (List ℕ)) → AllByRecursion (Embedded es) names → AllByRecursion (λ name. is_connection name ≡ true → IsKnownOrGone w s h name) names
      → AllByRecursion (λ name. is_connection name ≡ true → Known name (reader_takes s m).apps) names
  old [] a b = tt
  old (name ∷ names) a b = ((λ is. known_through name (goes name a.0) (known_replied name (by (b.0 is)))), old names a.1 b.1)
    where
      by : IsKnownOrGone w s h name → Known name (notes s m).apps
      by (inl f) = inl (still_found (noted m.serial) (or_empty m.sender) name s.apps (noted_keeps m.serial) f)
      by (inr (inl asked)) = inr (inl (asked_still (GetItems name) m h.asked asked))
      by (inr (inr gone)) = inr (inr (goes name a.0 gone))

  embedded : AllByRecursion (Embedded es) h.named
  embedded = (((known script es w None g).listed (live script es w None g)).readers conn e h x.is_here.there x.role).named

  -- THE NEW ONES
  child_same : (y z : ReaderState) → y.registry ≡ z.registry → new_child y m ≡ new_child z m
  child_same y z is = ap (λ (l : Option (List ℕ)). new_child (record y { registry = l }) m) is

  ended_registry : (o : Option (List ℕ)) → (with_end replied_state o).registry ≡ replied_state.registry
  ended_registry None = refl
  ended_registry (Some n) = refl

  child_known : (o : Option Reference) → AllByRecursion (λ name. is_connection name ≡ true → Known name (with_child ended_state o).apps) (child_name o)
  child_known None = tt
  child_known (Some root) = ((λ is. inl (made_found ended_state.apps root is)), tt)

  later : (names : List (List ℕ)) → AllByRecursion (λ name. is_connection name ≡ true → Known name child_state.apps) names → AllByRecursion (λ name. is_connection name ≡ true → Known name (reader_takes s m).apps) names
  later [] a = tt
  later (name ∷ names) a = ((λ is. known_last name (a.0 is)), later names a.1)

  new_child_known : replied_state.registry ≡ s.registry → AllByRecursion (λ name. is_connection name ≡ true → Known name (reader_takes s m).apps) (child_name (new_child (record begins { registry = h.registry }) m))
  new_child_known is =
      subst (λ o. AllByRecursion (λ name. is_connection name ≡ true → Known name (reader_takes s m).apps) (child_name o))
      (child_same ended_state (record begins { registry = h.registry }) (ended_registry (told_end m) ∙ is ∙ t.asks.registry))
      (later (child_name (new_child ended_state m)) (child_known (new_child ended_state m)))

  other_names : (q : Option Question) → (q ≡ Some GetChildren → ⊥) → names_told h m q ≡ child_name (new_child (record begins { registry = h.registry }) m)
  other_names None no_children = refl
  other_names (Some Hello) no_children = refl
  other_names (Some (AddMatch rule)) no_children = refl
  other_names (Some (RegisterEvent pattern)) no_children = refl
  other_names (Some GetChildren) no_children = absurd (no_children refl)
  other_names (Some (GetItems n)) no_children = refl
  other_names (Some (GetPart n path which)) no_children = refl

  is_children : Option Question → Bool
  is_children (Some GetChildren) = true
  is_children q = false

  All_known : List (List ℕ) → Type 0
  All_known names = AllByRecursion (λ name. is_connection name ≡ true → Known name (reader_takes s m).apps) names

  others : (q : Option Question) → question_returned m h.asked ≡ q → (q ≡ Some GetChildren → ⊥) → replied_state.registry ≡ s.registry → All_known (names_told h m (question_returned m h.asked))
  unfolding All_known
  others q is no_children reg = subst All_known (sym (other_names (question_returned m h.asked) (λ k. no_children (sym is ∙ k)))) (new_child_known reg)

  -- of a return with the children: nobody's end is told with it
  listed : (names : List (List ℕ)) → AllByRecursion (λ name. is_connection name ≡ true → Known name replied_state.apps) names → ((name : List ℕ) → Known name replied_state.apps → Known name ended_state.apps) → All_known names
  unfolding All_known
  listed [] a f = tt
  listed (name ∷ names) a f = ((λ is. known_last name (known_child name (new_child ended_state m) (f name (a.0 is)))), listed names a.1 f)

  no_end : m.kind ≡ 2 → told_end m ≡ None
  no_end two = by (told_end m) refl
    where
      by : (o : Option (List ℕ)) → told_end m ≡ o → o ≡ None
      by None is = refl
      by (Some n) is = absurd (false_true (ap (λ k. k == 4) (sym two ∙ end_is_signal m n is)))

  new_names : All_known (names_told h m (question_returned m h.asked))
  unfolding is_children All_known
  new_names = by brings
    where
      plain_apart : (q : Option Question) → IsPlain q → q ≡ Some GetChildren → ⊥
      plain_apart q i is = subst IsPlain is i

      by : Brings m s.pending s.registry (notes s m).apps (question_returned m h.asked) replied_state → All_known (names_told h m (question_returned m h.asked))
      by (replying.same plain is reg) = others (question_returned m h.asked) refl (plain_apart (question_returned m h.asked) plain) reg
      by (items p n all pending asks q two not_bus may tells is reg) = others (Some (GetItems n)) q (λ k. false_true (ap is_children k)) reg
      by (told n path which news q two not_bus may tells is reg) = others (Some (GetPart n path which)) q (λ k. false_true (ap is_children k)) reg
      by (refuses n path which (inl q) not_bus may tells no_four is reg) = others None q (λ k. false_true (ap is_children k)) reg
      by (refuses n path which (inr q) not_bus may tells no_four is reg) = others (Some (GetPart n path which)) q (λ k. false_true (ap is_children k)) reg
      by (fails p n pending asks q no_four is reg) = others None q (λ k. false_true (ap is_children k)) reg
      by (children q two is reg) =
          subst All_known (sym (ap (names_told h m) q))
          (listed (map (λ (root : Reference). root.bus) (references_among (elements_of m.body)))
          (subst (λ l. AllByRecursion (λ name. is_connection name ≡ true → Known name l) (map (λ (root : Reference). root.bus) (references_among (elements_of m.body)))) (sym is)
          (fold_known (notes s m).apps (references_among (elements_of m.body))))
          (λ name i. subst (λ o. Known name (with_end replied_state o).apps) (sym (no_end two)) i))

  pub named_behind : AllByRecursion (λ name. is_connection name ≡ true → IsKnownOrGone (world_behind w conn) (reader_takes s m) hearer name) hearer.named
  unfolding All_known
  named_behind = all_append (λ name. is_connection name ≡ true → Known name (reader_takes s m).apps) h.named (names_told h m (question_returned m h.asked)) (old h.named embedded t.wants.named) new_names
