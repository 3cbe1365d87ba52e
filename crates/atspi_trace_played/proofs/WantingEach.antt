-- What it wants of each application that it knows, behind a letter that it took.
use Rattle.std.proofs.Common.{◌≡◌, ◌⊎◌, inl, inr, ℕ, Bool, true, false, cond, List, [], ◌∷◌, ◌++◌, Option, None, Some, refl, sym, ap, ◌∙◌, subst}
use Rattle.std.specs.Prelude.{◌==◌, ◌&&◌, not, filter, fold, bytes_eq, if◌then◌else◌}
use Rattle.std.specs.List.{AllByRecursion}
use Rattle.std.proofs.lemmas.Slice.Eq.{bytes_eq-Decides}
use Rattle.atspi_tree_model.specs.declared.news.Item.{Item}
use Rattle.atspi_tree_model.specs.declared.news.News.{News}
use Rattle.atspi_tree_model.specs.declared.news.News.TheVariants.{Removed, ChildAdded, ChildRemoved, Name, Description, Role, State, Inserted, Deleted, Caret, TextIs, CaretIs, ColumnsIs, Nothing, Item as NewItem}
use Rattle.atspi_tree_model.specs.declared.news.Reference.{Reference}
use Rattle.atspi_tree_model.specs.declared.view.Row.{Row}
use Rattle.atspi_tree_model.specs.Forest.{Forest, has}
use Rattle.atspi_tree_model.specs.News.{is_path}
use Rattle.atspi_script_lines.specs.declared.line.Line.{Line}
use Rattle.atspi_script_lines.specs.declared.line.Party.TheVariants.{App}
use Rattle.atspi_message.specs.Envelope.{Envelope}
use Rattle.atspi_protocol.specs.declared.news.part.PartName.{PartName}
use Rattle.atspi_protocol.specs.declared.following.question.Question.{Question}
use Rattle.atspi_protocol.specs.declared.following.question.Question.TheVariants.{Hello, AddMatch, RegisterEvent, GetChildren, GetItems, GetPart}
use Rattle.atspi_protocol.specs.news.Arguments.{signature_of}
use Rattle.atspi_protocol.specs.news.NewsOf.{news_of, or_empty}
use Rattle.atspi_protocol.specs.news.Replies.{elements_of, items_told, part_told}
use Rattle.atspi_protocol.specs.following.ReaderState.{Followed, Pending, ReaderState, is_named}
use Rattle.atspi_protocol.specs.following.Known.{unasked, made_known, references_among, new_child, with_child, takes_child, told_end, with_end, takes_end}
use Rattle.atspi_protocol.specs.following.Replied.{changed, loaded, told_part, refused_part, goes_on_if, is_unique_name_alone, children_signature, with_items, with_part, replied, takes_reply}
use Rattle.atspi_protocol.specs.following.Takes.{noted, notes, folded, still_refused, takes_news, asks_first, goes_on, reader_takes}
use Rattle.atspi_protocol.specs.following.Wishes.{of_others, wishes}
use Rattle.atspi_trace.specs.Entry.{Entry}
use Rattle.atspi_trace.specs.World.{Hearer, Letter, End, World}
use Rattle.atspi_trace.specs.Ends.{number_of}
use Rattle.atspi_trace.specs.Hearing.{question_returned, hears_letter}
use Rattle.atspi_trace_laws.specs.laws.Words.{name_in}
use Rattle.atspi_trace_caches.specs.settled.Laws.{IsAsked, IsPartAsked}
use Rattle.atspi_trace_laws.proofs.OfOrder.Parties.{no_none, same_some, false_true, all_append}
use Rattle.atspi_trace_laws.proofs.OfOrder.Each.{all_map}
use Rattle.atspi_trace_laws.proofs.OfNames.Places.{told_is}
use Rattle.atspi_trace_laws.proofs.OfSigned.Mail.{told_more}
use Rattle.atspi_trace_laws.proofs.OfSigned.Self.{one_named}
use Rattle.atspi_trace_played.proofs.Facts.{Ground, RepliesWell, IsOfApp, WantsOf, Tied}
use Rattle.atspi_trace_played.proofs.Pieces.{IsTaking, entries_behind, world_behind}
use Rattle.atspi_trace_played.proofs.SeeingApps.{each_changed, each_kept, each_made, each_fold, each_weaker}
use Rattle.atspi_trace_played.proofs.SeeingReplies as replying
use Rattle.atspi_trace_played.proofs.SeeingReplies.{Reply, reply}
use Rattle.atspi_trace_played.proofs.WantingGround.{known}
use Rattle.atspi_trace_played.proofs.WantingParts.{part_more}
use Rattle.atspi_trace_played.proofs.WantingReplied.{asked_still, waits_asked, step_load}

-- EACH, where those with a name change, or are left out
split_changed : (P Q : Followed → Type 0) (change : Followed → Followed) (n : List ℕ) (apps : List Followed) → ((g : Followed) → P g → g.name ≡ n → Q (change g)) → ((g : Followed) → P g → (g.name ≡ n → ⊥) → Q g)
    → AllByRecursion P apps → AllByRecursion Q (changed change n apps)
split_changed P Q change n [] its other a = tt
split_changed P Q change n (g ∷ gs) its other a = (by (bytes_eq g.name n) refl, split_changed P Q change n gs its other a.1)
  where
    by : (b : Bool) → bytes_eq g.name n ≡ b → Q (if b then change g else g)
    by true h = its g a.0 ((bytes_eq-Decides g.name n).0 h)
    by false h = other g a.0 (λ same. false_true (sym h ∙ (bytes_eq-Decides g.name n).1 same))

split_kept : (P Q : Followed → Type 0) (n : List ℕ) (apps : List Followed) → ((g : Followed) → P g → (g.name ≡ n → ⊥) → Q g) → AllByRecursion P apps → AllByRecursion Q (filter (λ app. not (is_named n app)) apps)
split_kept P Q n [] other a = tt
split_kept P Q n (g ∷ gs) other a = by (bytes_eq g.name n) refl (split_kept P Q n gs other a.1)
  where
    by : (b : Bool) → bytes_eq g.name n ≡ b → AllByRecursion Q (filter (λ app. not (is_named n app)) gs)
        → AllByRecursion Q (if not b then g ∷ filter (λ app. not (is_named n app)) gs else filter (λ app. not (is_named n app)) gs)
    by true h rest = rest
    by false h rest = (other g a.0 (λ same. false_true (sym h ∙ (bytes_eq-Decides g.name n).1 same)), rest)

each_root : (P : Followed → Type 0) (roots : List Reference) → ((root : Reference) → P (unasked root)) → AllByRecursion (λ root. P (unasked root)) roots
each_root P [] f = tt
each_root P (root ∷ roots) f = (f root, each_root P roots f)

-- what stays refused at news was refused
all_others : (P : List ℕ × PartName → Type 0) (path : List ℕ) (refused : List (List ℕ × PartName)) → AllByRecursion P refused → AllByRecursion P (of_others path refused)
all_others P path [] a = tt
all_others P path (part ∷ refused) a = by (bytes_eq part.0 path) (all_others P path refused a.1)
  where
    by : (b : Bool) → AllByRecursion P (of_others path refused) → AllByRecursion P (cond (not b) (part ∷ of_others path refused) (of_others path refused))
    by true rest = rest
    by false rest = (a.0, rest)

all_still : (P : List ℕ × PartName → Type 0) (v : Forest Row) (news : News) (refused : List (List ℕ × PartName)) → AllByRecursion P refused → AllByRecursion P (still_refused v news refused)
all_still P v (NewItem item) refused a = by (has (is_path item.object.path) v)
  where
    by : (b : Bool) → AllByRecursion P (if b then refused else of_others item.object.path refused)
    by true = a
    by false = all_others P item.object.path refused a
all_still P v (Removed path) refused a = a
all_still P v (ChildAdded child) refused a = a
all_still P v (ChildRemoved p i child) refused a = a
all_still P v (Name p x) refused a = a
all_still P v (Description p x) refused a = a
all_still P v (Role p x) refused a = a
all_still P v (State p s on) refused a = a
all_still P v (Inserted p at x) refused a = a
all_still P v (Deleted p at n x) refused a = a
all_still P v (Caret p at) refused a = a
all_still P v (TextIs p x) refused a = a
all_still P v (CaretIs p at) refused a = a
all_still P v (ColumnsIs p n) refused a = a
all_still P v Nothing refused a = a

-- what goes on changes no application
pub goes_apps : (x : ReaderState) → (goes_on x).apps ≡ x.apps
goes_apps x = by x.pending x.to_come
  where
    first : (y : ReaderState) (questions : List Question) → (asks_first y questions).apps ≡ y.apps
    first y [] = refl
    first y (q ∷ qs) = refl

    by : (o : Option Pending) (l : List Question) → (goes_on (record x { pending = o; to_come = l })).apps ≡ x.apps
    by (Some p) l = refl
    by None (q ∷ l) = refl
    by None [] = first (record x { pending = None; to_come = [] }) (wishes x.apps)

-- the name of one that is known is that of one application
pub name_before : (script : List Line) (es ys : List Entry) (v : World) (after : Option ℕ) → Ground script (es ++ ys) v after
    → (a b : ℕ) (name : List ℕ) → name_in es (App b) ≡ Some name → name_in (es ++ ys) (App a) ≡ Some name → App b ≡ App a
name_before script es ys v after h a b name was is =
    one_named (es ++ ys) (App b) (App a) name (known script (es ++ ys) v after h).few (inr (told_more es ys (App b) name (sym (told_is es (App b)) ∙ was))) (inr (sym (told_is (es ++ ys) (App a)) ∙ is))

module _ (script : List Line) (es : List Entry) (w : World) (g : Ground script es w None) (conn r : ℕ) (e : End) (h : Hearer) (letter : Letter) (rest : List Letter) (x : IsTaking w conn r e h letter rest)
    (behind : Ground script (es ++ entries_behind w conn) (world_behind w conn) (Some conn)) (s : ReaderState) (t : Tied es w r h s) (replies : RepliesWell w letter.said.message h.asked) where
  abbrev pub m : Envelope
  m = letter.said.message

  abbrev pub ys : List Entry
  ys = entries_behind w conn

  abbrev pub Behind : Followed → Type 0
  Behind = WantsOf (es ++ ys) r (hears_letter h w.ends letter)

  abbrev Before : Followed → Type 0
  Before g = WantsOf es r h g × IsOfApp es g

  pub same_app : (a b : ℕ) (name : List ℕ) → name_in es (App b) ≡ Some name → name_in (es ++ ys) (App a) ≡ Some name → App b ≡ App a
  same_app a b name was is = name_before script es ys (world_behind w conn) (Some conn) behind a b name was is

  -- of one that is not loaded
  stays : (f : Followed) → Before f → ((n : List ℕ) → question_returned m h.asked ≡ Some (GetItems n) → n ≡ f.name → ⊥) → Behind f
  stays f p other = record {
    parts = λ a is.
        let was : name_in es (App a) ≡ Some f.name = subst (λ q. name_in es q ≡ Some f.name) (same_app a p.1.app f.name p.1.its_name is) p.1.its_name in
        all_map (λ (y : List ℕ × PartName). IsPartAsked es r a f.name y.0 y.1) (λ (y : List ℕ × PartName). IsPartAsked (es ++ ys) r a f.name y.0 y.1) f.refused
        (λ y part. part_more es ys r a f.name y.0 y.1 (step_load script es w g conn r e h letter rest x s replies t.asks.waiting a f.name was other) part) (p.0.parts a was);
    held = λ v is. asked_still (GetItems f.name) m h.asked (p.0.held v is);
  }

  noted_still : (f : Followed) → Before f → Before (noted m.serial f)
  noted_still f p = (record { parts = p.0.parts; held = p.0.held }, record { app = p.1.app; its_name = p.1.its_name; root = p.1.root })

  zipped : (apps : List Followed) → AllByRecursion (WantsOf es r h) apps → AllByRecursion (IsOfApp es) apps → AllByRecursion Before apps
  zipped [] a b = tt
  zipped (f ∷ fs) a b = ((a.0, b.0), zipped fs a.1 b.1)

  before : AllByRecursion Before (notes s m).apps
  before = each_changed Before (noted m.serial) (or_empty m.sender) s.apps noted_still (zipped s.apps t.wants.each t.sees.apps)

  all_stay : ((n : List ℕ) → question_returned m h.asked ≡ Some (GetItems n) → ⊥) → AllByRecursion Behind (notes s m).apps
  all_stay none = each_weaker Before Behind (notes s m).apps (λ f p. stays f p (λ n is same. none n is)) before

  new_one : (root : Reference) → Behind (unasked root)
  new_one root = record { parts = λ a is. tt; held = λ v is. absurd (no_none v is) }

  told_still : (news : News) (f : Followed) → Behind f → Behind (told_part news f)
  told_still news f i = by f.view refl
    where
      by : (o : Option (Forest Row)) → f.view ≡ o → Behind (told_part news (record f { view = o }))
      by None is = record { parts = i.parts; held = λ v h. absurd (no_none v h) }
      by (Some v) is = record { parts = i.parts; held = λ u h. i.held v is }

  folded_still : (news : News) (f : Followed) → Behind f → Behind (folded news f)
  folded_still news f i = by f.view refl
    where
      by : (o : Option (Forest Row)) → f.view ≡ o → Behind (folded news (record f { view = o }))
      by None is = record { parts = i.parts; held = λ v h. absurd (no_none v h) }
      by (Some v) is = record {
        parts = λ a named. all_still (λ (y : List ℕ × PartName). IsPartAsked (es ++ ys) r a f.name y.0 y.1) v news f.refused (i.parts a named);
        held = λ u h. i.held v is;
      }

  -- ITS REPLY
  abbrev t0 : ReaderState
  t0 = record (notes s m) { pending = None }

  is_items : Question → Bool
  is_items (GetItems n) = true
  is_items q = false

  module _ (p : Pending) (pending : s.pending ≡ Some p) (asks : (question_returned m h.asked ≡ None) ⊎ (question_returned m h.asked ≡ Some p.question)) where
    no_items : (q : Question) → p.question ≡ q → is_items q ≡ false → (n : List ℕ) → question_returned m h.asked ≡ Some (GetItems n) → ⊥
    unfolding is_items
    no_items q is plain n returns = by asks
      where
        by : (question_returned m h.asked ≡ None) ⊎ (question_returned m h.asked ≡ Some p.question) → ⊥
        by (inl none) = no_none (GetItems n) (sym none ∙ returns)
        by (inr some) = false_true (sym plain ∙ ap is_items (sym is ∙ same_some p.question (GetItems n) (sym some ∙ returns)))

    of_items : (q : List ℕ) → p.question ≡ GetItems q → (f : Followed) → Before f → (f.name ≡ q → ⊥) → Behind f
    of_items q is f y other = stays f y (λ n returns same. other (sym same ∙ by n returns asks))
      where
        name_of : Question → List ℕ
        name_of (GetItems n) = n
        name_of k = q

        by : (n : List ℕ) → question_returned m h.asked ≡ Some (GetItems n) → (question_returned m h.asked ≡ None) ⊎ (question_returned m h.asked ≡ Some p.question) → n ≡ q
        by n returns (inl none) = absurd (no_none (GetItems n) (sym none ∙ returns))
        by n returns (inr some) = ap name_of (same_some (GetItems n) p.question (sym returns ∙ some) ∙ is)

    asked_it : (q : Question) → p.question ≡ q → IsAsked q (hears_letter h w.ends letter).asked
    asked_it q is = asked_still q m h.asked (subst (λ k. IsAsked k h.asked) is (waits_asked p s.pending h.asked pending t.asks.waiting))

    -- items, or none
    with_these : (n : List ℕ) → p.question ≡ GetItems n → (o : Option (List Item)) → AllByRecursion Behind (with_items t0 n o).apps
    with_these n is None = split_kept Before Behind n (notes s m).apps (of_items n is) before
    with_these n is (Some items) =
        split_changed Before Behind (loaded items) n (notes s m).apps
        (λ f y named. record { parts = λ a k. tt; held = λ v k. subst (λ l. IsAsked (GetItems l) (hears_letter h w.ends letter).asked) (sym named) (asked_it (GetItems n) is) }) (of_items n is) before

    -- a part, or none
    refused_still : (n path : List ℕ) (which : PartName) → p.question ≡ GetPart n path which → (f : Followed) → Before f → f.name ≡ n → Behind (refused_part path which f)
    unfolding is_items
    refused_still n path which is f y named =
        let i : Behind f = stays f y (λ k returns same. no_items (GetPart n path which) is refl k returns) in
        let q = t.wants.asking p pending n path which is in
        record {
          parts = λ a k.
              let one : App q.0 ≡ App a = same_app a q.0 n q.1 (k ∙ ap Some named) in
              let number : q.0 ≡ a = ap number_of one in
              let was : name_in es (App a) ≡ Some n = subst (λ b. name_in es (App b) ≡ Some n) number q.1 in
              let asked : IsPartAsked es r a n path which = subst (λ b. IsPartAsked es r b n path which) number q.2 in
              all_append (λ (z : List ℕ × PartName). IsPartAsked (es ++ ys) r a f.name z.0 z.1) f.refused ((path, which) ∷ []) (i.parts a k) (
                subst (λ l. IsPartAsked (es ++ ys) r a l path which) (sym named)
                    (part_more es ys r a n path which (step_load script es w g conn r e h letter rest x s replies t.asks.waiting a n was (λ l returns same. no_items (GetPart n path which) is refl l returns)) asked),
                tt,
              );
          held = i.held;
        }

    with_that : (n path : List ℕ) (which : PartName) → p.question ≡ GetPart n path which → (o : Option News) → AllByRecursion Behind (with_part t0 n path which o).apps
    unfolding is_items
    with_that n path which is (Some news) = each_changed Behind (told_part news) n (notes s m).apps (told_still news) (all_stay (no_items (GetPart n path which) is refl))
    with_that n path which is None =
        split_changed Before Behind (refused_part path which) n (notes s m).apps (refused_still n path which is) (λ f y other. stays f y (λ k returns same. no_items (GetPart n path which) is refl k returns)) before

    goes_if : (b : Bool) → AllByRecursion Behind (notes s m).apps → AllByRecursion Behind (goes_on_if b t0).apps
    goes_if true a = a
    goes_if false a = a

    with_roots : (b : Bool) → AllByRecursion Behind (notes s m).apps
        → AllByRecursion Behind (if b then record t0 { registry = m.sender; apps = fold made_known t0.apps (references_among (elements_of m.body)) } else goes_on_if false t0).apps
    with_roots true a = each_fold Behind t0.apps (references_among (elements_of m.body)) (each_root Behind (references_among (elements_of m.body)) new_one) a
    with_roots false a = a

    answered : (q : Question) → p.question ≡ q → AllByRecursion Behind (replied q t0 m).apps
    unfolding is_items
    answered Hello is = goes_if (m.kind == 2 && is_unique_name_alone m.body) (all_stay (no_items Hello is refl))
    answered (AddMatch rule) is = goes_if (m.kind == 2) (all_stay (no_items (AddMatch rule) is refl))
    answered (RegisterEvent pattern) is = goes_if (m.kind == 2) (all_stay (no_items (RegisterEvent pattern) is refl))
    answered GetChildren is = with_roots (m.kind == 2 && bytes_eq (signature_of m.body) children_signature) (all_stay (no_items GetChildren is refl))
    answered (GetItems n) is = with_these n is (items_told m)
    answered (GetPart n path which) is = with_that n path which is (part_told which path m)

  abbrev replied_state : ReaderState
  replied_state = takes_reply (notes s m) m

  each_replied : AllByRecursion Behind replied_state.apps
  each_replied = by (reply w m h s replies t.asks.waiting)
    where
      by : Reply w m h s → AllByRecursion Behind replied_state.apps
      by (replying.none q is) = subst (λ (z : ReaderState). AllByRecursion Behind z.apps) (sym is) (all_stay (λ n returns. no_none (GetItems n) (sym q ∙ returns)))
      by (replying.returned p pending two q may well is) = subst (λ (z : ReaderState). AllByRecursion Behind z.apps) (sym is) (answered p pending (inr q) p.question refl)
      by (replying.failed p pending three q may well is) = subst (λ (z : ReaderState). AllByRecursion Behind z.apps) (sym is) (answered p pending (inl q) p.question refl)

  -- AND THE REST
  each_end : (z : ReaderState) (o : Option (List ℕ)) → AllByRecursion Behind z.apps → AllByRecursion Behind (with_end z o).apps
  each_end z None a = a
  each_end z (Some n) a = each_kept Behind (λ app. not (is_named n app)) z.apps a

  each_child : (z : ReaderState) (o : Option Reference) → AllByRecursion Behind z.apps → AllByRecursion Behind (with_child z o).apps
  each_child z None a = a
  each_child z (Some root) a = each_made Behind z.apps root (new_one root) a

  abbrev ended_state : ReaderState
  ended_state = takes_end replied_state m

  abbrev child_state : ReaderState
  child_state = takes_child ended_state m

  pub each_behind : AllByRecursion Behind (reader_takes s m).apps
  each_behind =
      subst (AllByRecursion Behind) (sym (goes_apps (takes_news child_state m)))
      (each_changed Behind (folded (news_of (or_empty m.sender) m)) (or_empty m.sender) child_state.apps (folded_still (news_of (or_empty m.sender) m))
      (each_child ended_state (new_child ended_state m) (each_end replied_state (told_end m) each_replied)))
