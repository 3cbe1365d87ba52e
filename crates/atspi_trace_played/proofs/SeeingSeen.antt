-- A reader takes a letter: what its own state then has of each application is what the trace then says, application by application.
use Rattle.std.proofs.Common.{◌≡◌, ◌⊎◌, inl, inr, ℕ, Bool, true, false, List, ◌∷◌, ◌++◌, Option, None, Some, refl, sym, ap, ◌∙◌, subst}
use Rattle.std.specs.Prelude.{◌==◌, not, filter, option_map}
use Rattle.std.specs.List.{AllByRecursion}
use Rattle.std.proofs.lemmas.Bool.{eq-eqb, eqb-true}
use Rattle.atspi_tree_model.specs.News.{effect}
use Rattle.atspi_tree_model.specs.declared.news.Reference.{Reference}
use Rattle.atspi_tree_model.specs.Path.{path_of}
use Rattle.atspi_script_lines.specs.declared.line.Line.{Line}
use Rattle.atspi_script_lines.specs.declared.line.Party.{Party}
use Rattle.atspi_script_lines.specs.declared.line.Party.TheVariants.{Bus as The_bus, Registry, App, Reader}
use Rattle.atspi_message.specs.Envelope.{Envelope}
use Rattle.atspi_protocol.specs.declared.following.question.Question.{Question}
use Rattle.atspi_protocol.specs.declared.following.question.Question.TheVariants.{GetChildren, GetItems}
use Rattle.atspi_protocol.specs.news.NewsOf.{news_of, or_empty}
use Rattle.atspi_protocol.specs.following.ReaderState.{Followed, Pending, ReaderState, is_named}
use Rattle.atspi_protocol.specs.following.Known.{made_known, new_child, with_child, told_end, with_end}
use Rattle.atspi_protocol.specs.following.Replied.{changed}
use Rattle.atspi_protocol.specs.following.Takes.{found_in, noted, folded}
use Rattle.atspi_trace.specs.Entry.{Entry, got, gone}
use Rattle.atspi_trace.specs.World.{Hearer, Letter, World}
use Rattle.atspi_trace.specs.Ends.{same_party, app_named}
use Rattle.atspi_trace.specs.Hearing.{question_returned, app_with, heard_entries}
use Rattle.atspi_trace_laws.specs.laws.Words.{name_in}
use Rattle.atspi_trace_caches.specs.caches.Caches as caches
use Rattle.atspi_trace_caches.specs.caches.Caches.{followed}
use Rattle.atspi_trace_laws.proofs.OfOrder.Parties.{no_none, same_some, party-same, false_true, all_back}
use Rattle.atspi_trace_laws.proofs.OfOrder.Each.{everywhere}
use Rattle.atspi_trace_laws.specs.exits.Laws.{ComesBeforeEnd, IsNotEndOf}
use Rattle.atspi_trace_laws.proofs.OfHeld.Keeping.{ReaderIs}
use Rattle.atspi_trace_laws.proofs.OfTaken.Said.{IsLetter}
use Rattle.atspi_trace_laws.proofs.OfNames.Places.{told_is}
use Rattle.atspi_trace_laws.proofs.OfSigned.Self.{app_name}
use Rattle.atspi_trace_laws.proofs.OfSigned.Mail.{NameIs}
use Rattle.atspi_trace_played.proofs.Facts.{IsOfApp, IsSeen, IsAwaited, IsGoneFor}
use Rattle.atspi_trace_played.proofs.SeeingApps.{found_it, found_other, found_without, found_kept, found_made, found_is, each_made, each_weaker}
use Rattle.atspi_trace_played.proofs.SeeingSame.{folded_is, noted_keeps, folded_keeps, marks_of, Same, same_noted, same_folded, IsRooted, followed_rooted}
use Rattle.atspi_trace_played.proofs.SeeingReplies.{Brings}
use Rattle.atspi_trace_played.proofs.SeeingTaken.{Sees, sees_both, same_or, sees_new, others_see, own_sees}
use Rattle.atspi_trace_played.proofs.SeeingGround.{its, is_name, no_bus_name, one_party, Sender, of_bus, of_end, end_from_bus, named_is, app_is, same_number}
use Rattle.atspi_trace_played.proofs.SeeingStep as step
use Rattle.atspi_trace_played.proofs.SeeingChildren.{took, Taking, from, children_from_registry}
use Rattle.atspi_trace_played.proofs.SeeingBehind.{behind_own, behind_other, behind_registry, behind_reader, behind_bus, behind_its_end, behind_other_end}

-- where the message is of the application, its news ask for no load (SeeingReloads)
abbrev pub IsQuiet : List Entry → ℕ → Hearer → Letter → Type 0
IsQuiet es r h letter =
    (b : ℕ) (x : List ℕ) (c : IsLetter es letter) → letter.from ≡ App b → name_in es (App b) ≡ Some x
    → marks_of (caches.replied (question_returned letter.said.message h.asked) c.first (noted c.first.serial (followed x es r b))).view (news_of x c.first) ≡ false

module _ (script : List Line) (es : List Entry) (w : World) (r : ℕ) (h : Hearer) (letter : Letter) (s : ReaderState) (t : Taking script es w r h letter s) (quiet : IsQuiet es r h letter)
    (b : ℕ) (x : List ℕ) (its_name : name_in es (App b) ≡ Some x) where
  abbrev pub m : Envelope
  m = letter.said.message

  abbrev pub n : List ℕ
  n = or_empty m.sender

  abbrev pub f : Followed
  f = followed x es r b

  abbrev pub now : Followed
  now = followed x (es ++ took r h w.ends letter) r b

  abbrev noted_all : ReaderState
  noted_all = step.noted_all script es w r h letter s t

  abbrev replied_all : ReaderState
  replied_all = step.replied_all script es w r h letter s t

  abbrev ended_all : ReaderState
  ended_all = step.ended_all script es w r h letter s t

  abbrev known_all : ReaderState
  known_all = step.known_all script es w r h letter s t

  abbrev read_all : ReaderState
  read_all = step.read_all script es w r h letter s t

  abbrev q : Option Question
  q = question_returned m h.asked

  named_x : NameIs es (App b) x
  named_x = is_name script es w None t.ground (App b) x its_name

  rooted : IsRooted x f
  rooted = followed_rooted x es r b

  -- before
  pub seen_before : Sees (found_in x s.apps) f
  seen_before = by (found_in x s.apps) refl (t.sees.seen x b its_name)
    where
      by : (o : Option Followed) → found_in x s.apps ≡ o → IsSeen o f → Sees o f
      by None is i = i
      by (Some g) is i =
          let k = found_is (IsOfApp es) x s.apps g is t.sees.apps in
          record { name = k.1 ∙ sym rooted.0; root = k.0.root ∙ sym rooted.1; view = i.0; reload = i.1 }

  -- one whose items it waits for is not held
  pub unheld : (p : Pending) → s.pending ≡ Some p → p.question ≡ GetItems x → f.view ≡ None
  unheld p is asks = by (t.sees.asking p is x asks)
    where
      by : IsAwaited es r x s.apps → f.view ≡ None
      by (inl i) = let same : Same i.0 f = subst (λ o. Sees o f) i.1 seen_before in sym same.view ∙ i.2
      by (inr i) = subst (λ o. Sees o f) i.0 seen_before

  -- no message of it comes behind its end
  not_gone : letter.from ≡ App b → IsGoneFor es r b → ⊥
  not_gone is gone_ = (all_back (IsNotEndOf r b) gone_.0 (gone r b ∷ gone_.1) (subst (AllByRecursion (IsNotEndOf r b)) gone_.2 before_it)).0 refl refl
    where
      before_it : AllByRecursion (IsNotEndOf r b) es
      before_it =
          subst (λ p. ComesBeforeEnd es (got (Reader r) p m.serial) (heard_entries r h w.ends letter)) is
          (everywhere ComesBeforeEnd (es ++ took r h w.ends letter) (its script (es ++ took r h w.ends letter) t.after t.free t.behind).ends.law es (got (Reader r) letter.from m.serial)
          (heard_entries r h w.ends letter) refl)

  reply : Brings m s.pending s.registry noted_all.apps q replied_all
  reply = (step.reply script es w r h letter s t).brings

  -- A MESSAGE OF THE APPLICATION
  module _ (is : letter.from ≡ App b) (c : IsLetter es letter) (own : n ≡ x) where
    abbrev f1 : Followed
    f1 = noted c.first.serial f

    noted_seen : Sees (found_in x noted_all.apps) f1
    noted_seen =
        subst (λ k. Sees (found_in x (changed (noted m.serial) k s.apps)) f1) (sym own)
        (subst (λ o. Sees o f1) (sym (found_it (noted m.serial) x s.apps (noted_keeps m.serial)))
        (sees_both (found_in x s.apps) f (noted m.serial) (noted c.first.serial) (λ g at y. same_noted m.serial c.first.serial g f y) (λ at y. y) seen_before))

    no_children : q ≡ Some GetChildren → ⊥
    no_children asks = false_true (ap (λ p. same_party p Registry) (sym is ∙ children_from_registry script es w r h letter s t asks))

    known : (p : Pending) → s.pending ≡ Some p → p.question ≡ GetItems x → m.kind ≡ 2 → found_in x noted_all.apps ≡ None → ⊥
    known p at asks two none = by (t.sees.asking p at x asks)
      where
        found : found_in x noted_all.apps ≡ option_map (noted m.serial) (found_in x s.apps)
        found = ap (λ k. found_in x (changed (noted m.serial) k s.apps)) own ∙ found_it (noted m.serial) x s.apps (noted_keeps m.serial)

        by : IsAwaited es r x s.apps → ⊥
        by (inl i) = no_none (noted m.serial i.0) (sym none ∙ found ∙ ap (option_map (noted m.serial)) i.1)
        by (inr i) =
            let same : i.1.0 ≡ b = same_number i.1.0 b (one_party script es w None t.ground (App i.1.0) (App b) x (is_name script es w None t.ground (App i.1.0) x i.1.1) named_x) in
            not_gone is (subst (IsGoneFor es r) same i.1.2)

    pub replied_seen : Sees (found_in x replied_all.apps) (caches.replied q c.first f1)
    replied_seen = own_sees m x f1 rooted s.pending s.registry noted_all.apps q replied_all unheld reply c.first c.alike own no_children known noted_seen

    ended_same : ended_all.apps ≡ replied_all.apps
    ended_same = by (told_end m) refl
      where
        by : (o : Option (List ℕ)) → told_end m ≡ o → (with_end replied_all o).apps ≡ replied_all.apps
        by None e = refl
        by (Some k) e = absurd (no_bus_name script es w None t.ground (App b) x named_x (sym (end_from_bus m k e) ∙ own))

    known_same : known_all.apps ≡ ended_all.apps
    known_same = by (new_child ended_all m) refl
      where
        by : (o : Option Reference) → new_child ended_all m ≡ o → (with_child ended_all o).apps ≡ ended_all.apps
        by None e = refl
        by (Some root) e = absurd (false_true (ap (λ p. same_party p Registry) (sym is ∙ (step.a_child script es w r h letter s t root e).1)))

    pub found_own : found_in x known_all.apps ≡ found_in x replied_all.apps
    found_own = ap (found_in x) (known_same ∙ ended_same)

    read_seen : Sees (found_in x read_all.apps) (folded (news_of x c.first) (caches.replied q c.first f1))
    read_seen =
        subst (λ k. Sees (found_in x (changed (folded (news_of k m)) k known_all.apps)) (folded (news_of x c.first) (caches.replied q c.first f1))) (sym own)
        (subst (λ (e : Envelope). Sees (found_in x (changed (folded (news_of x e)) x known_all.apps)) (folded (news_of x c.first) (caches.replied q c.first f1))) (sym c.alike)
        (subst (λ o. Sees o (folded (news_of x c.first) (caches.replied q c.first f1)))
        (sym (found_it (folded (news_of x c.first)) x known_all.apps (folded_keeps (news_of x c.first)) ∙ ap (option_map (folded (news_of x c.first))) found_own))
        (sees_both (found_in x replied_all.apps) (caches.replied q c.first f1) (folded (news_of x c.first)) (folded (news_of x c.first))
        (λ g at y. same_folded (news_of x c.first) g (caches.replied q c.first f1) y (quiet b x c is its_name))
        (λ at y. (folded_is (news_of x c.first) (caches.replied q c.first f1)).view_is ∙ ap (λ v. option_map (λ u. effect (caches.replied q c.first f1).root (caches.replied q c.first f1).name u (news_of x c.first)) v) y) replied_seen)))

    pub own_seen : ReaderIs es r h → Sees (found_in x read_all.apps) now
    own_seen i =
        subst (Sees (found_in x read_all.apps))
        (sym (behind_own es r b h w.ends letter x i is c ∙ ap (λ k. folded (news_of k c.first) (caches.replied q c.first f1)) rooted.0)) read_seen

  -- A MESSAGE OF ANOTHER
  module _ (differ : n ≡ x → ⊥) where
    other_noted : Sees (found_in x noted_all.apps) f
    other_noted = subst (λ o. Sees o f) (sym (found_other (noted m.serial) n x s.apps (noted_keeps m.serial) differ)) seen_before

    roots_of : (l : List Followed) → AllByRecursion (IsOfApp (es ++ took r h w.ends letter)) l → AllByRecursion (λ (g : Followed). g.root ≡ path_of 0) l
    roots_of l a = each_weaker (IsOfApp (es ++ took r h w.ends letter)) (λ (g : Followed). g.root ≡ path_of 0) l (λ g i. i.root) a

    pub other_replied : Sees (found_in x replied_all.apps) f
    other_replied = others_see m x f rooted s.pending s.registry noted_all.apps q replied_all unheld reply differ (roots_of replied_all.apps (step.ones_replied script es w r h letter s t)) other_noted

    -- from there on
    onward : Sees (found_in x ended_all.apps) now → Sees (found_in x read_all.apps) now
    onward y =
        subst (λ o. Sees o now) (sym (found_other (folded (news_of n m)) n x known_all.apps (folded_keeps (news_of n m)) differ)) (by (new_child ended_all m) refl)
      where
        by : (o : Option Reference) → new_child ended_all m ≡ o → Sees (found_in x (with_child ended_all o).apps) now
        by None e = y
        by (Some root) e =
            sees_new x now ended_all.apps (made_known ended_all.apps root) (followed_rooted x (es ++ took r h w.ends letter) r b) (found_made x ended_all.apps root)
            (roots_of (made_known ended_all.apps root) (each_made (IsOfApp (es ++ took r h w.ends letter)) ended_all.apps root (step.a_child script es w r h letter s t root e).0 (step.ones_ended script es w r h letter s t))) y

    -- where nothing ended
    unended : told_end m ≡ None → now ≡ f → Sees (found_in x read_all.apps) now
    unended e same = onward (by (told_end m) e)
      where
        by : (o : Option (List ℕ)) → o ≡ None → Sees (found_in x (with_end replied_all o).apps) now
        by None z = subst (Sees (found_in x replied_all.apps)) (sym same) other_replied
        by (Some k) z = absurd (no_none k (sym z))

    -- where one did
    module _ (is : letter.from ≡ The_bus) (k : List ℕ) (tells : told_end m ≡ Some k) where
      with_it : Sees (found_in x (filter (λ app. not (is_named k app)) replied_all.apps)) now → Sees (found_in x read_all.apps) now
      with_it y = onward (subst (λ o. Sees (found_in x (with_end replied_all o).apps) now) (sym tells) y)

      its_end : k ≡ x → Sees (found_in x read_all.apps) now
      its_end same =
          with_it (subst (λ z. Sees (found_in x (filter (λ app. not (is_named z app)) replied_all.apps)) now) (sym same) (subst (λ o. Sees o now) (sym (found_without x replied_all.apps)) none))
        where
          none : now.view ≡ None
          none = ap (λ (z : Followed). z.view) (behind_its_end es r b h w.ends letter x is (ap (app_with w.ends) (tells ∙ ap Some same) ∙ app_is script es w None t.ground x b its_name))

      other_end : (k ≡ x → ⊥) → Sees (found_in x read_all.apps) now
      other_end apart = with_it (subst (λ o. Sees o now) (sym (found_kept k x replied_all.apps apart)) (subst (Sees (found_in x replied_all.apps)) (sym (by (app_named k w.ends) refl)) other_replied))
        where
          by : (o : Option ℕ) → app_named k w.ends ≡ o → now ≡ f
          by None e = behind_bus es r b h w.ends letter x is (ap (app_with w.ends) tells ∙ e)
          by (Some a) e =
              behind_other_end es r b h w.ends letter x a is (ap (app_with w.ends) tells ∙ e)
              (λ same. apart (same_some k x (sym (named_is script es w None t.ground k a e) ∙ ap (λ z. name_in es (App z)) same ∙ its_name)))

      one_ended : Sees (found_in x read_all.apps) now
      one_ended = by (same_or k x)
        where
          by : (k ≡ x) ⊎ (k ≡ x → ⊥) → Sees (found_in x read_all.apps) now
          by (inl e) = its_end e
          by (inr e) = other_end e

  -- BY WHO SENT IT
  pub seen_behind : ReaderIs es r h → Sees (found_in x read_all.apps) now
  seen_behind i = by (from script es w r h letter s t)
    where
      no_end : (caller : List ℕ) → m.sender ≡ Some caller → NameIs es letter.from caller → told_end m ≡ None
      no_end caller some named = nothing (told_end m) refl
        where
          nothing : (o : Option (List ℕ)) → told_end m ≡ o → o ≡ None
          nothing None e = refl
          nothing (Some k) e = absurd (no_bus_name script es w None t.ground letter.from caller named (sym (end_from_bus m k e) ∙ ap or_empty some))

      of_party : (p : Party) → letter.from ≡ p → (caller : List ℕ) → m.sender ≡ Some caller → NameIs es letter.from caller → (letter.from ≡ The_bus → ⊥) → IsLetter es letter → Sees (found_in x read_all.apps) now
      of_party The_bus is caller some named apart c = absurd (apart is)
      of_party Registry is caller some named apart c =
          unended (λ e. other (sym (ap or_empty some) ∙ e)) (no_end caller some named) (behind_registry es r b h w.ends letter x is)
        where
          other : caller ≡ x → ⊥
          other e = false_true (ap (λ p. same_party p Registry) (one_party script es w None t.ground (App b) Registry x named_x (subst (NameIs es Registry) e (subst (λ p. NameIs es p caller) is named))))
      of_party (Reader p) is caller some named apart c =
          unended (λ e. other (sym (ap or_empty some) ∙ e)) (no_end caller some named) (behind_reader es r b h w.ends letter x p is)
        where
          other : caller ≡ x → ⊥
          other e = false_true (ap (λ z. same_party z (Reader p)) (one_party script es w None t.ground (App b) (Reader p) x named_x (subst (NameIs es (Reader p)) e (subst (λ z. NameIs es z caller) is named))) ∙ party-same (Reader p))
      of_party (App a) is caller some named apart c = of_app (a == b) refl
        where
          of_app : (z : Bool) → (a == b) ≡ z → Sees (found_in x read_all.apps) now
          of_app true e =
              let same : letter.from ≡ App b = is ∙ ap App (eqb-true a b e) in
              own_seen same c (ap or_empty some ∙ same_name (subst (λ p. NameIs es p caller) same named)) i
            where
              same_name : NameIs es (App b) caller → caller ≡ x
              same_name k = same_some caller x (sym (app_name es b caller k) ∙ sym (told_is es (App b)) ∙ its_name)
          of_app false e =
              unended (λ d. other (sym (ap or_empty some) ∙ d)) (no_end caller some named) (behind_other es r b h w.ends letter x a is (λ same. false_true (sym e ∙ eq-eqb a b same)))
            where
              other : caller ≡ x → ⊥
              other d =
                  false_true (sym e ∙ eq-eqb a b (same_number a b (one_party script es w None t.ground (App a) (App b) x (subst (NameIs es (App a)) d (subst (λ p. NameIs es p caller) is named)) named_x)))

      by : Sender es letter → Sees (found_in x read_all.apps) now
      by (of_end caller some named apart c) = of_party letter.from refl caller some named apart c
      by (of_bus is empty some) = ends (told_end m) refl
        where
          differ : n ≡ x → ⊥
          differ e = no_bus_name script es w None t.ground (App b) x named_x (sym empty ∙ e)

          ends : (o : Option (List ℕ)) → told_end m ≡ o → Sees (found_in x read_all.apps) now
          ends None e = unended differ e (behind_bus es r b h w.ends letter x is (ap (app_with w.ends) e))
          ends (Some k) e = one_ended differ is k e
