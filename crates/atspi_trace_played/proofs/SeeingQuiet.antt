-- A reader takes a message of an application: its news ask for no load of what it has.
use Rattle.std.proofs.Common.{◌≡◌, ◌⊎◌, inl, inr, ℕ, Bool, true, false, List, [], ◌∷◌, ◌++◌, Option, None, Some, refl, sym, ap, ap₂, ◌∙◌, subst}
use Rattle.std.specs.Prelude.{◌==◌, ◌&&◌, option_map, if◌then◌else◌}
use Rattle.std.proofs.lemmas.Bool.{eq-eqb, eqb-true}
use Rattle.std.proofs.lemmas.List.{append_assoc}
use Rattle.atspi_tree_model.specs.declared.news.News.{News}
use Rattle.atspi_tree_model.specs.declared.news.News.TheVariants.{Item as NewItem, Removed, ChildAdded, ChildRemoved, Name, Description, Role, State, Inserted, Deleted, Caret, TextIs, CaretIs, ColumnsIs, Nothing}
use Rattle.atspi_tree_model.specs.declared.view.Row.{Row}
use Rattle.atspi_tree_model.specs.Forest.{Forest}
use Rattle.atspi_tree_model.specs.News.{effect, marks_reload}
use Rattle.atspi_tree_model.specs.View.{view}
use Rattle.atspi_script_lines.specs.declared.line.Line.{Line}
use Rattle.atspi_script_lines.specs.declared.line.Party.TheVariants.{App, Reader}
use Rattle.atspi_message.specs.Envelope.{Envelope}
use Rattle.atspi_protocol.specs.news.NewsOf.{news_of}
use Rattle.atspi_protocol.specs.following.ReaderState.{Followed, ReaderState}
use Rattle.atspi_protocol.specs.following.Takes.{noted, folded}
use Rattle.atspi_trace.specs.Entry.{Entry, changed, sent, got}
use Rattle.atspi_trace.specs.World.{Asked, Hearer, Letter, World}
use Rattle.atspi_trace.specs.Hearing.{question_returned, heard_entries}
use Rattle.atspi_trace.specs.Causes.{told_in}
use Rattle.atspi_trace_laws.specs.laws.Words.{message, before_sent, live_tree, answers_question, name_in, Kept, held}
use Rattle.atspi_trace_caches.specs.caches.Caches as caches
use Rattle.atspi_trace_caches.specs.caches.Caches.{reads_if, followed}
use Rattle.atspi_trace_caches.specs.caches.Laws.{CacheIs}
use Rattle.atspi_trace_laws.specs.heard.Laws.{signals_under, IsAmong}
use Rattle.atspi_trace_laws.specs.signed.Laws.{IsItsName}
use Rattle.atspi_trace_laws.specs.views.Laws.{IsCarried}
use Rattle.atspi_trace_laws.proofs.OfOrder.Parties.{no_none, same_some}
use Rattle.atspi_trace_laws.proofs.OfTaken.Found.{front_more, sent_split}
use Rattle.atspi_trace_laws.proofs.OfTaken.Said.{IsLetter}
use Rattle.atspi_trace_laws.proofs.OfHeld.Keeping.{ReaderIs}
use Rattle.atspi_trace_laws.proofs.OfViews.LawViews.{announcements_carry}
use Rattle.atspi_trace_laws.proofs.OfSigned.LawSigned.{signed_law}
use Rattle.atspi_trace_caches.proofs.OfServed.LawServed.{steps_asked}
use Rattle.atspi_trace_caches.proofs.OfCaches.LawCaches.{caches_follow}
use Rattle.atspi_trace_played.proofs.SeeingSame.{folded_is, marks_of, followed_more, followed_rooted}
use Rattle.atspi_trace_played.proofs.SeeingSeen.{IsQuiet}
use Rattle.atspi_trace_played.proofs.SeeingStep as step
use Rattle.atspi_trace_played.proofs.SeeingChildren.{took, Taking}
use Rattle.atspi_trace_played.proofs.SeeingBehind.{same_question}
use Rattle.atspi_trace_played.proofs.SeeingReloads.{one_signal, tree_behind}

-- news of an added child, or others
added_or : (n : News) → ((child : List ℕ) × (n ≡ ChildAdded child)) ⊎ ((v : Forest Row) → marks_reload v n ≡ false)
added_or (ChildAdded child) = inl (child, refl)
added_or (NewItem item) = inr (λ v. refl)
added_or (Removed path) = inr (λ v. refl)
added_or (ChildRemoved p i child) = inr (λ v. refl)
added_or (Name p x) = inr (λ v. refl)
added_or (Description p x) = inr (λ v. refl)
added_or (Role p x) = inr (λ v. refl)
added_or (State p s on) = inr (λ v. refl)
added_or (Inserted p at x) = inr (λ v. refl)
added_or (Deleted p at k x) = inr (λ v. refl)
added_or (Caret p at) = inr (λ v. refl)
added_or (TextIs p x) = inr (λ v. refl)
added_or (CaretIs p at) = inr (λ v. refl)
added_or (ColumnsIs p k) = inr (λ v. refl)
added_or Nothing = inr (λ v. refl)

no_marks : (o : Option (Forest Row)) → marks_of o Nothing ≡ false
no_marks None = refl
no_marks (Some v) = refl

no_news : (x : List ℕ) (e : Envelope) → (e.kind == 4) ≡ false → news_of x e ≡ Nothing
no_news x e h = rw h refl

last_stays : (n : News) (f : Followed) → (folded n f).last ≡ f.last
last_stays n f = by f.view refl
  where
    by : (o : Option (Forest Row)) → f.view ≡ o → (folded n f).last ≡ f.last
    by None h = rw h refl
    by (Some v) h = rw h refl

no_reply : (m : Envelope) → m.kind ≡ 4 → (l : List Asked) → question_returned m l ≡ None
no_reply m four [] = refl
no_reply m four (a ∷ l) = rw four (no_reply m four l)

module _ (script : List Line) (es : List Entry) (w : World) (r : ℕ) (h : Hearer) (letter : Letter) (s : ReaderState) (t : Taking script es w r h letter s) (readers : ReaderIs es r h) where
  abbrev m : Envelope
  m = letter.said.message

  abbrev rest : List Entry
  rest = heard_entries r h w.ends letter

  abbrev later : List Entry
  later = es ++ took r h w.ends letter

  module _ (b : ℕ) (x : List ℕ) (c : IsLetter es letter) (is : letter.from ≡ App b) (its_name : name_in es (App b) ≡ Some x) (four : m.kind ≡ 4) (child : List ℕ) (adds : news_of x c.first ≡ ChildAdded child)
      (v : Forest Row) (has : (followed x es r b).view ≡ Some v) where
    abbrev f : Followed
    f = followed x es r b

    abbrev it : Entry
    it = got (Reader r) (App b) m.serial

    abbrev front : List Entry
    front = es ++ it ∷ []

    was : message es (App b) m.serial ≡ Some c.first
    was = ap (λ p. message es p m.serial) (sym is) ∙ c.was

    whole : later ≡ front ++ rest
    whole = ap (λ p. es ++ got (Reader r) p m.serial ∷ rest) is ∙ sym (append_assoc es (it ∷ []) rest)

    its : IsItsName later b x
    its own at = same_some own x (sym at ∙ step.name_before script es w r h letter s t (App b) ∙ its_name)

    its_first : IsItsName es b x
    its_first own at = same_some own x (sym at ∙ its_name)

    cache : CacheIs front b (held front r b) (followed x front r b)
    cache = caches_follow script later t.behind.can t.behind.goes t.behind.nothing_owed x r b its (steps_asked script later t.behind.can t.behind.goes x r b) front rest whole

    -- what it has behind it
    behind : followed x front r b ≡ folded (news_of f.name c.first) (noted c.first.serial f)
    behind =
        followed_more x es (it ∷ []) r b
        ∙ ap₂ (λ y z. if y && z then reads_if (answers_question es r (message es (App b) m.serial)) (message es (App b) m.serial) f else f) (eq-eqb r r refl) (eq-eqb b b refl)
        ∙ ap₂ (λ p o. reads_if p o f) (same_question es r b h m c.first readers was c.alike ∙ no_reply m four h.asked) was

    read : News
    read = news_of f.name c.first

    read_is : news_of f.name c.first ≡ ChildAdded child
    read_is = ap (λ z. news_of z c.first) (followed_rooted x es r b).0 ∙ adds

    same_view : (followed x front r b).view ≡ Some v
    same_view =
        ap (λ (z : Followed). z.view) behind ∙ (folded_is (news_of f.name c.first) (noted c.first.serial f)).view_is
        ∙ ap₂ (λ n o. option_map (λ u. effect f.root f.name u n) o) read_is has

    same_last : (followed x front r b).last ≡ c.first.serial
    same_last = ap (λ (z : Followed). z.last) behind ∙ last_stays (news_of f.name c.first) (noted c.first.serial f)

    abbrev now : List Entry
    now = before_sent (App b) m.serial es

    now_same : before_sent (App b) m.serial front ≡ now
    now_same = front_more es (it ∷ []) (App b) m.serial c.first was

    viewed : (k : Option Kept) → held front r b ≡ k → CacheIs front b k (followed x front r b) → (j : Kept) × (v ≡ view (told_in j.told) (live_tree now b))
    viewed None e i = absurd (no_none v (sym i ∙ same_view))
    viewed (Some j) e i =
        let number : j.last ≡ m.serial = sym i.last ∙ same_last ∙ ap (λ (z : Envelope). z.serial) (sym c.alike) in (
          j,
          same_some v (view (told_in j.told) (live_tree now b))
              (sym same_view ∙ i.shows ∙ ap (λ z. Some (view (told_in j.told) (live_tree (before_sent (App b) z front) b))) number ∙ ap (λ z. Some (view (told_in j.told) (live_tree z b))) now_same),
        )

    abbrev post : List Entry
    post = (sent_split es (App b) m.serial c.first was).0

    stands : later ≡ now ++ sent (App b) c.first ∷ (post ++ it ∷ rest)
    stands =
        ap (λ p. es ++ got (Reader r) p m.serial ∷ rest) is
        ∙ ap (λ l. l ++ it ∷ rest) (sent_split es (App b) m.serial c.first was).1
        ∙ append_assoc now (sent (App b) c.first ∷ post) (it ∷ rest)

    its_now : IsItsName now b x
    its_now own at =
        its own (ap (λ l. name_in l (App b)) stands ∙ step.name_stays now (sent (App b) c.first ∷ (post ++ it ∷ rest)) (App b) own at)

    among : (a : IsAmong now b c.first) × (a.name ≡ x)
    among =
        signed_law script later t.behind.can t.behind.goes t.behind.nothing_owed now (sent (App b) c.first) (post ++ it ∷ rest) stands (ap (λ (z : Envelope). z.kind) (sym c.alike) ∙ four) x its_now

    an_added : marks_reload v (news_of x c.first) ≡ false
    an_added =
        let a = among.0 in
        let listed : signals_under x a.early b a.step ≡ a.front ++ sent (App b) c.first ∷ a.back = ap (λ z. signals_under z a.early b a.step) (sym among.1) ∙ a.listed in
        let carried : IsCarried a.early b a.step =
        announcements_carry script later t.behind.can t.behind.goes a.early (changed b a.step) (a.front ++ sent (App b) c.first ∷ (post ++ it ∷ rest))
        (stands ∙ ap (λ l. l ++ sent (App b) c.first ∷ (post ++ it ∷ rest)) a.stands ∙ append_assoc a.early (changed b a.step ∷ a.front) (sent (App b) c.first ∷ (post ++ it ∷ rest))) in
        let had = viewed (held front r b) refl cache in
        ap (λ z. marks_reload z (news_of x c.first)) (had.1 ∙ ap (view (told_in had.0.told)) (ap (λ l. live_tree l b) a.stands ∙ tree_behind a.early b x a.step carried a.front a.back c.first listed))
        ∙ one_signal a.early b x a.step carried a.front a.back c.first listed (told_in had.0.told)

  pub quiet : IsQuiet es r h letter
  quiet b x c is its_name = by (m.kind == 4) refl
    where
      first_kind : (c.first.kind == 4) ≡ (m.kind == 4)
      first_kind = ap (λ (z : Envelope). z.kind == 4) (sym c.alike)

      seen : m.kind ≡ 4 → (o : Option (Forest Row)) → (followed x es r b).view ≡ o → marks_of o (news_of x c.first) ≡ false
      seen four None has = refl
      seen four (Some v) has = of_news (added_or (news_of x c.first))
        where
          of_news : ((child : List ℕ) × (news_of x c.first ≡ ChildAdded child)) ⊎ ((u : Forest Row) → marks_reload u (news_of x c.first) ≡ false) → marks_reload v (news_of x c.first) ≡ false
          of_news (inl y) = an_added b x c is its_name four y.0 y.1 v has
          of_news (inr y) = y v

      by : (z : Bool) → (m.kind == 4) ≡ z → marks_of (caches.replied (question_returned m h.asked) c.first (noted c.first.serial (followed x es r b))).view (news_of x c.first) ≡ false
      by true e =
          subst (λ p. marks_of (caches.replied p c.first (noted c.first.serial (followed x es r b))).view (news_of x c.first) ≡ false) (sym (no_reply m (eqb-true m.kind 4 e) h.asked))
          (seen (eqb-true m.kind 4 e) (followed x es r b).view refl)
      by false e =
          let o : Option (Forest Row) = (caches.replied (question_returned m h.asked) c.first (noted c.first.serial (followed x es r b))).view in
          ap (marks_of o) (no_news x c.first (first_kind ∙ e)) ∙ no_marks o
