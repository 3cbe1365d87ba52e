-- A message, and what a reader has of one application behind it: what its own state has is what the trace says.
use Rattle.std.proofs.Common.{◌≡◌, ◌⊎◌, inl, inr, ℕ, Bool, true, false, List, Option, None, Some, refl, sym, ap, ◌∙◌, subst}
use Rattle.std.specs.Prelude.{◌||◌, not, bytes_eq, filter, fold, option_map}
use Rattle.std.specs.List.{AllByRecursion}
use Rattle.std.proofs.lemmas.Slice.Eq.{bytes_eq-Decides}
use Rattle.atspi_tree_model.specs.declared.news.Item.{Item}
use Rattle.atspi_tree_model.specs.declared.news.News.{News}
use Rattle.atspi_tree_model.specs.Path.{path_of}
use Rattle.atspi_message.specs.Envelope.{Envelope}
use Rattle.atspi_protocol.specs.ends.Places.{bus}
use Rattle.atspi_protocol.specs.declared.news.part.PartName.{PartName}
use Rattle.atspi_protocol.specs.declared.following.question.Question.{Question}
use Rattle.atspi_protocol.specs.declared.following.question.Question.TheVariants.{Hello, AddMatch, RegisterEvent, GetChildren, GetItems, GetPart}
use Rattle.atspi_protocol.specs.news.NewsOf.{or_empty}
use Rattle.atspi_protocol.specs.news.Replies.{elements_of, items_told, part_told}
use Rattle.atspi_protocol.specs.following.ReaderState.{Followed, Pending, ReaderState, is_named}
use Rattle.atspi_protocol.specs.following.Known.{unasked, made_known, references_among}
use Rattle.atspi_protocol.specs.following.Replied.{changed, loaded, told_part, refused_part}
use Rattle.atspi_protocol.specs.following.Takes.{found_in}
use Rattle.atspi_trace_caches.specs.caches.Caches.{with_items, with_part, replied}
use Rattle.atspi_trace_laws.proofs.OfOrder.Parties.{false_true}
use Rattle.atspi_trace_played.proofs.Facts.{IsSeen}
use Rattle.atspi_trace_played.proofs.SeeingApps.{found_it, found_other, found_without, found_kept, FoundAfter, same, new, found_fold, found_is}
use Rattle.atspi_trace_played.proofs.SeeingSame.{told_is, loaded_keeps, refused_keeps, told_keeps, Same, same_loaded, same_refused_here, same_told, IsRooted}
use Rattle.atspi_trace_played.proofs.SeeingReplies as replies
use Rattle.atspi_trace_played.proofs.SeeingReplies.{IsPlain, NotBus, Brings, items, told, refuses, fails, children}

-- what it has, both ways
abbrev pub Sees : Option Followed → Followed → Type 0
Sees None f = f.view ≡ None
Sees (Some g) f = Same g f

pub is_seen : (o : Option Followed) (f : Followed) → Sees o f → IsSeen o f
is_seen None f s = s
is_seen (Some g) f s = (s.view, s.reload)

-- both change
pub sees_both : (o : Option Followed) (f : Followed) (change other : Followed → Followed) → ((g : Followed) → o ≡ Some g → Same g f → Same (change g) (other f)) → (o ≡ None → f.view ≡ None → (other f).view ≡ None) → Sees o f
    → Sees (option_map change o) (other f)
sees_both None f change other some none s = none refl s
sees_both (Some g) f change other some none s = some g refl s

-- whoever may answer a call of an application, and is not the bus, is the application
pub answers_as : (m : Envelope) (name : List ℕ) → NotBus m → (bytes_eq (or_empty m.sender) name || bytes_eq (or_empty m.sender) bus) ≡ true → or_empty m.sender ≡ name
answers_as m name not_bus h = by (bytes_eq (or_empty m.sender) name) refl (ap (λ b. bytes_eq (or_empty m.sender) name || b) (sym not_bus) ∙ h)
  where
    by : (t : Bool) → bytes_eq (or_empty m.sender) name ≡ t → (t || false) ≡ true → or_empty m.sender ≡ name
    by true e k = (bytes_eq-Decides (or_empty m.sender) name).0 e
    by false e k = absurd (false_true k)

-- a name is another, or the same
pub same_or : (a b : List ℕ) → (a ≡ b) ⊎ (a ≡ b → ⊥)
same_or a b = by (bytes_eq a b) refl
  where
    by : (t : Bool) → bytes_eq a b ≡ t → (a ≡ b) ⊎ (a ≡ b → ⊥)
    by true e = inl ((bytes_eq-Decides a b).0 e)
    by false e = inr (λ h. false_true (sym e ∙ (bytes_eq-Decides a b).1 h))

-- a plain question brings nothing
pub plain_brings : (q : Option Question) (e : Envelope) (f : Followed) → IsPlain q → replied q e f ≡ f
plain_brings (Some Hello) e f i = refl
plain_brings (Some (AddMatch rule)) e f i = refl
plain_brings (Some (RegisterEvent pattern)) e f i = refl
plain_brings (Some GetChildren) e f i = absurd i
plain_brings (Some (GetItems name)) e f i = absurd i
plain_brings (Some (GetPart name path part)) e f i = absurd i
plain_brings None e f i = refl

-- ones that become known
pub sees_new : (x : List ℕ) (f : Followed) (before after : List Followed) → IsRooted x f → FoundAfter x before after → AllByRecursion (λ (g : Followed). g.root ≡ path_of 0) after → Sees (found_in x before) f → Sees (found_in x after) f
sees_new x f before after rooted (same e) roots s = subst (λ o. Sees o f) (sym e) s
sees_new x f before after rooted (new none root e) roots s =
    let g = found_is (λ (g : Followed). g.root ≡ path_of 0) x after (unasked root) e roots in
    subst (λ o. Sees o f) (sym e) (record { name = g.1 ∙ sym rooted.0; root = g.0 ∙ sym rooted.1; view = sym (subst (λ o. Sees o f) none s); reload = refl })

-- WHERE THE MESSAGE IS OF ANOTHER, or of nobody that it follows
module _ (m : Envelope) (x : List ℕ) (f : Followed) (rooted : IsRooted x f) (pending : Option Pending) (registry : Option (List ℕ)) (apps : List Followed) (q : Option Question) (t : ReaderState)
    (unheld : (p : Pending) → pending ≡ Some p → p.question ≡ GetItems x → f.view ≡ None) (b : Brings m pending registry apps q t) where
  abbrev Differs : Type 0
  Differs = or_empty m.sender ≡ x → ⊥

  one_less : (name : List ℕ) (p : Pending) → pending ≡ Some p → p.question ≡ GetItems name → (name ≡ x) ⊎ (name ≡ x → ⊥) → Sees (found_in x apps) f → Sees (found_in x (filter (λ app. not (is_named name app)) apps)) f
  one_less name p is asks (inl e) s =
      subst (λ n. Sees (found_in x (filter (λ app. not (is_named n app)) apps)) f) (sym e)
      (subst (λ o. Sees o f) (sym (found_without x apps)) (unheld p is (asks ∙ ap GetItems e)))
  one_less name p is asks (inr differ) s = subst (λ o. Sees o f) (sym (found_kept name x apps differ)) s

  one_refused : (name path : List ℕ) (which : PartName) → (name ≡ x) ⊎ (name ≡ x → ⊥) → Sees (found_in x apps) f → Sees (found_in x (changed (refused_part path which) name apps)) f
  one_refused name path which (inl e) s =
      subst (λ n. Sees (found_in x (changed (refused_part path which) n apps)) f) (sym e)
      (subst (λ o. Sees o f) (sym (found_it (refused_part path which) x apps (refused_keeps path which)))
      (sees_both (found_in x apps) f (refused_part path which) (λ k. k) (λ g is y. same_refused_here path which g f y) (λ n y. y) s))
  one_refused name path which (inr differ) s = subst (λ o. Sees o f) (sym (found_other (refused_part path which) name x apps (refused_keeps path which) differ)) s

  pub others_see : Differs → AllByRecursion (λ (g : Followed). g.root ≡ path_of 0) t.apps → Sees (found_in x apps) f → Sees (found_in x t.apps) f
  others_see differ roots s = by b
    where
      moved : (l : List Followed) → t.apps ≡ l → Sees (found_in x l) f → Sees (found_in x t.apps) f
      moved l is y = subst (λ k. Sees (found_in x k) f) (sym is) y

      by : Brings m pending registry apps q t → Sees (found_in x t.apps) f
      by (replies.same plain is reg) = moved apps is s
      by (items p name all is asks qs two not_bus may tells is_apps reg) =
          moved (changed (loaded all) name apps) is_apps
          (subst (λ o. Sees o f) (sym (found_other (loaded all) name x apps (loaded_keeps all) (λ e. differ (answers_as m name not_bus may ∙ e)))) s)
      by (told name path which news qs two not_bus may tells is_apps reg) =
          moved (changed (told_part news) name apps) is_apps
          (subst (λ o. Sees o f) (sym (found_other (told_part news) name x apps (told_keeps news) (λ e. differ (answers_as m name not_bus may ∙ e)))) s)
      by (refuses name path which qs not_bus may tells no_four is_apps reg) = moved (changed (refused_part path which) name apps) is_apps (one_refused name path which (same_or name x) s)
      by (fails p name is asks qs no_four is_apps reg) = moved (filter (λ app. not (is_named name app)) apps) is_apps (one_less name p is asks (same_or name x) s)
      by (children qs two is_apps reg) =
          let l = fold made_known apps (references_among (elements_of m.body)) in
          moved l is_apps (sees_new x f apps l rooted (found_fold x apps (references_among (elements_of m.body))) (subst (AllByRecursion (λ (g : Followed). g.root ≡ path_of 0)) is_apps roots) s)

  -- WHERE IT IS OF THIS ONE: as the trace reads it, which has it without its sender
  pub own_sees : (first : Envelope) → m ≡ record first { sender = m.sender } → or_empty m.sender ≡ x → (q ≡ Some GetChildren → ⊥)
      → ((p : Pending) → pending ≡ Some p → p.question ≡ GetItems x → m.kind ≡ 2 → found_in x apps ≡ None → ⊥) → Sees (found_in x apps) f → Sees (found_in x t.apps) (replied q first f)
  own_sees first alike own no_children known s = by b
    where
      Goal : List Followed → Option Question → Type 0
      Goal l p = Sees (found_in x l) (replied p first f)

      moved : (l : List Followed) (p : Option Question) → t.apps ≡ l → q ≡ p → Goal l p → Goal t.apps q
      moved l p is qs y = subst (λ k. Goal k q) (sym is) (subst (Goal l) (sym qs) y)

      of_items : (name : List ℕ) (all : List Item) (p : Pending) → pending ≡ Some p → p.question ≡ GetItems name → m.kind ≡ 2 → name ≡ x → items_told m ≡ Some all → Goal (changed (loaded all) name apps) (Some (GetItems name))
      of_items name all p is asks two e tells =
          subst (λ n. Goal (changed (loaded all) n apps) (Some (GetItems n))) (sym e)
          (subst (λ o. Sees (found_in x (changed (loaded all) x apps)) (with_items o f)) (sym tells ∙ ap items_told alike)
          (subst (λ o. Sees o (loaded all f)) (sym (found_it (loaded all) x apps (loaded_keeps all)))
          (sees_both (found_in x apps) f (loaded all) (loaded all) (λ g at y. same_loaded all g f y) (λ at y. absurd (known p is (asks ∙ ap GetItems e) two at)) s)))

      of_told : (name path : List ℕ) (which : PartName) (news : News) → name ≡ x → part_told which path m ≡ Some news → Goal (changed (told_part news) name apps) (Some (GetPart name path which))
      of_told name path which news e tells =
          subst (λ n. Goal (changed (told_part news) n apps) (Some (GetPart n path which))) (sym e)
          (subst (λ o. Sees (found_in x (changed (told_part news) x apps)) (with_part path which o f)) (sym tells ∙ ap (part_told which path) alike)
          (subst (λ o. Sees o (told_part news f)) (sym (found_it (told_part news) x apps (told_keeps news)))
          (sees_both (found_in x apps) f (told_part news) (told_part news) (λ g at y. same_told news g f y)
          (λ at y. (told_is news f).view_is ∙ ap (option_map (λ v. Rattle.atspi_tree_model.specs.News.effect f.root f.name v news)) y) s)))

      -- a part that was refused, by a return or by an error
      of_refused : (name path : List ℕ) (which : PartName) → part_told which path m ≡ None → (q ≡ None) ⊎ (q ≡ Some (GetPart name path which)) → Sees (found_in x (changed (refused_part path which) name apps)) f
          → Goal (changed (refused_part path which) name apps) q
      of_refused name path which tells (inl none) y = subst (Goal (changed (refused_part path which) name apps)) (sym none) y
      of_refused name path which tells (inr some) y =
          subst (Goal (changed (refused_part path which) name apps)) (sym some)
          (subst (λ o. Sees (found_in x (changed (refused_part path which) name apps)) (with_part path which o f)) (sym tells ∙ ap (part_told which path) alike)
          (still (found_in x (changed (refused_part path which) name apps)) y))
        where
          still : (o : Option Followed) → Sees o f → Sees o (refused_part path which f)
          still None z = z
          still (Some g) z = record { name = z.name; root = z.root; view = z.view; reload = z.reload }

      by : Brings m pending registry apps q t → Goal t.apps q
      by (replies.same plain is reg) = subst (λ k. Sees (found_in x k) (replied q first f)) (sym is) (subst (Sees (found_in x apps)) (sym (plain_brings q first f plain)) s)
      by (items p name all is asks qs two not_bus may tells is_apps reg) =
          moved (changed (loaded all) name apps) (Some (GetItems name)) is_apps qs (of_items name all p is asks two (sym (answers_as m name not_bus may) ∙ own) tells)
      by (told name path which news qs two not_bus may tells is_apps reg) =
          moved (changed (told_part news) name apps) (Some (GetPart name path which)) is_apps qs (of_told name path which news (sym (answers_as m name not_bus may) ∙ own) tells)
      by (refuses name path which qs not_bus may tells no_four is_apps reg) =
          subst (λ k. Goal k q) (sym is_apps) (of_refused name path which tells qs (one_refused name path which (same_or name x) s))
      by (fails p name is asks qs no_four is_apps reg) = moved (filter (λ app. not (is_named name app)) apps) None is_apps qs (one_less name p is asks (same_or name x) s)
      by (children qs two is_apps reg) = absurd (no_children qs)
