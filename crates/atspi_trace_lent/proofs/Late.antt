-- What a message does to the serials that a reader noted of its applications: those of its sender get that of the message, others keep theirs, and who becomes
-- known is not held.
use Rattle.std.proofs.Common.{◌≡◌, ◌⊎◌, inl, inr, ℕ, Bool, true, false, List, Option, None, Some, refl, sym, ap, ◌∙◌, subst}
use Rattle.std.specs.Prelude.{◌||◌, bytes_eq, not, filter, option_map}
use Rattle.std.specs.List.{fold}
use Rattle.std.proofs.lemmas.Slice.Eq.{bytes_eq-Decides}
use Rattle.atspi_tree_model.specs.declared.news.Item.{Item}
use Rattle.atspi_tree_model.specs.declared.news.News.{News}
use Rattle.atspi_tree_model.specs.declared.news.Reference.{Reference}
use Rattle.atspi_tree_model.specs.declared.view.Row.{Row}
use Rattle.atspi_tree_model.specs.Forest.{Forest}
use Rattle.atspi_tree_model.specs.News.{effect}
use Rattle.atspi_message.specs.Envelope.{Envelope}
use Rattle.atspi_protocol.specs.declared.following.question.Question.{Question}
use Rattle.atspi_protocol.specs.declared.following.question.Question.TheVariants.{Hello, AddMatch, RegisterEvent, GetChildren, GetItems, GetPart}
use Rattle.atspi_protocol.specs.news.NewsOf.{news_of, or_empty}
use Rattle.atspi_protocol.specs.news.Replies.{elements_of, items_told, part_told}
use Rattle.atspi_protocol.specs.following.ReaderState.{Followed, ReaderState, is_named}
use Rattle.atspi_protocol.specs.following.Known.{made_known, references_among, unasked, new_child, with_child, told_end, with_end, takes_end, takes_child}
use Rattle.atspi_protocol.specs.following.Replied.{changed, loaded, told_part, refused_part, takes_reply}
use Rattle.atspi_protocol.specs.following.Takes.{found_in, noted, notes, folded, takes_news, reader_takes}
use Rattle.atspi_trace_caches.specs.caches.Caches as caches
use Rattle.atspi_trace_laws.proofs.OfOrder.Parties.{no_none, same_some, false_true}
use Rattle.atspi_trace_played.proofs.SeeingApps.{KeepsNames, FoundAfter, found_it, found_other, found_without, found_kept, found_made, found_fold}
use Rattle.atspi_trace_played.proofs.SeeingApps as apps
use Rattle.atspi_trace_played.proofs.SeeingReplies.{Brings}
use Rattle.atspi_trace_played.proofs.SeeingReplies as replies
use Rattle.atspi_trace_played.proofs.SeeingSame.{told_is, folded_is, noted_keeps, loaded_keeps, refused_keeps, told_keeps, folded_keeps}
use Rattle.atspi_trace_played.proofs.SeeingTaken.{same_or}
use Rattle.atspi_trace_played.proofs.SeeingWishes.{GoesOn, stays, begins_one, wishes_one, next_of}

-- not held, or with this serial
abbrev pub Late : ℕ → Followed → Type 0
Late k g = (g.view ≡ None) ⊎ (g.last ≡ k)

abbrev pub Found : (Followed → Type 0) → List ℕ → List Followed → Type 0
Found P x apps = (g : Followed) → found_in x apps ≡ Some g → P g

found_so : (P : Followed → Type 0) (x : List ℕ) (xs ys : List Followed) → found_in x ys ≡ found_in x xs → Found P x xs → Found P x ys
found_so P x xs ys same f g h = f g (sym same ∙ h)

found_at : (P : Followed → Type 0) (x : List ℕ) (xs ys : List Followed) → ys ≡ xs → Found P x xs → Found P x ys
found_at P x xs ys same f = subst (Found P x) (sym same) f

found_changed : (P : Followed → Type 0) (change : Followed → Followed) (k x : List ℕ) (xs : List Followed) → KeepsNames change → ((g : Followed) → P g → P (change g)) → Found P x xs → Found P x (changed change k xs)
found_changed P change k x xs keeps keep f g h = by (same_or k x)
  where
    of : (o : Option Followed) → found_in x xs ≡ o → option_map change o ≡ Some g → P g
    of None e i = absurd (no_none g i)
    of (Some y) e i = subst P (same_some (change y) g i) (keep y (f y e))

    by : (k ≡ x) ⊎ (k ≡ x → ⊥) → P g
    by (inl same) = of (found_in x xs) refl (sym (found_it change x xs keeps) ∙ ap (λ n. found_in x (changed change n xs)) (sym same) ∙ h)
    by (inr differ) = f g (sym (found_other change k x xs keeps differ) ∙ h)

found_filtered : (P : Followed → Type 0) (k x : List ℕ) (xs : List Followed) → Found P x xs → Found P x (filter (λ app. not (is_named k app)) xs)
found_filtered P k x xs f g h = by (same_or k x)
  where
    by : (k ≡ x) ⊎ (k ≡ x → ⊥) → P g
    by (inl same) = absurd (no_none g (sym (found_without x xs) ∙ ap (λ n. found_in x (filter (λ app. not (is_named n app)) xs)) (sym same) ∙ h))
    by (inr differ) = f g (sym (found_kept k x xs differ) ∙ h)

found_more : (P : Followed → Type 0) (x : List ℕ) (xs ys : List Followed) → ((root : Reference) → P (unasked root)) → FoundAfter x xs ys → Found P x xs → Found P x ys
found_more P x xs ys new (apps.same e) f g h = f g (sym e ∙ h)
found_more P x xs ys new (apps.new none root e) f g h = subst P (same_some (unasked root) g (sym e ∙ h)) (new root)

-- WHAT CHANGES KEEP
told_last : (n : News) (g : Followed) → (told_part n g).last ≡ g.last
told_last n g = by g.view refl
  where
    by : (o : Option (Forest Row)) → g.view ≡ o → (told_part n g).last ≡ g.last
    by None h = rw h refl
    by (Some v) h = rw h refl

folded_last : (n : News) (g : Followed) → (folded n g).last ≡ g.last
folded_last n g = by g.view refl
  where
    by : (o : Option (Forest Row)) → g.view ≡ o → (folded n g).last ≡ g.last
    by None h = rw h refl
    by (Some v) h = rw h refl

told_late : (k : ℕ) (n : News) (g : Followed) → Late k g → Late k (told_part n g)
told_late k n g (inl none) = inl ((told_is n g).view_is ∙ ap (option_map (λ v. effect g.root g.name v n)) none)
told_late k n g (inr last) = inr (told_last n g ∙ last)

folded_late : (k : ℕ) (n : News) (g : Followed) → Late k g → Late k (folded n g)
folded_late k n g (inl none) = inl ((folded_is n g).view_is ∙ ap (option_map (λ v. effect g.root g.name v n)) none)
folded_late k n g (inr last) = inr (folded_last n g ∙ last)

folded_none : (n : News) (g : Followed) → g.view ≡ None → (folded n g).view ≡ None
folded_none n g none = (folded_is n g).view_is ∙ ap (option_map (λ v. effect g.root g.name v n)) none

new_late : (k : ℕ) (root : Reference) → Late k (unasked root)
new_late k root = inl refl

-- A MESSAGE, from the reply on
module _ (m : Envelope) (s : ReaderState) (q : Option Question) (x : List ℕ) where
  abbrev pub n : List ℕ
  n = or_empty m.sender

  abbrev pub noted_all : ReaderState
  noted_all = notes s m

  abbrev pub replied_all : ReaderState
  replied_all = takes_reply noted_all m

  abbrev pub ended_all : ReaderState
  ended_all = takes_end replied_all m

  abbrev pub read_all : ReaderState
  read_all = takes_news (takes_child ended_all m) m

  -- those of the sender have its serial
  own_noted : n ≡ x → Found (λ (g : Followed). g.last ≡ m.serial) x noted_all.apps
  own_noted own g h = of (found_in x s.apps) refl (sym (found_it (noted m.serial) x s.apps (noted_keeps m.serial)) ∙ ap (λ k. found_in x (changed (noted m.serial) k s.apps)) (sym own) ∙ h)
    where
      of : (o : Option Followed) → found_in x s.apps ≡ o → option_map (noted m.serial) o ≡ Some g → g.last ≡ m.serial
      of None e i = absurd (no_none g i)
      of (Some y) e i = ap (λ (z : Followed). z.last) (sym (same_some (noted m.serial y) g i))

  abbrev HasSerial : Followed → Type 0
  HasSerial g = g.last ≡ m.serial

  weaken : (xs : List Followed) → Found HasSerial x xs → Found (Late m.serial) x xs
  weaken xs f g h = inr (f g h)

  own_replied : Brings m s.pending s.registry noted_all.apps q replied_all → Found HasSerial x noted_all.apps → Found (Late m.serial) x replied_all.apps
  own_replied (replies.same plain is reg) f = weaken replied_all.apps (found_at HasSerial x noted_all.apps replied_all.apps is f)
  own_replied (replies.items p name all is asks qs two not_bus may tells is_apps reg) f =
      weaken replied_all.apps (found_at HasSerial x (changed (loaded all) name noted_all.apps) replied_all.apps is_apps (found_changed HasSerial (loaded all) name x noted_all.apps (loaded_keeps all) (λ g l. l) f))
  own_replied (replies.told name path which news qs two not_bus may tells is_apps reg) f =
      weaken replied_all.apps
      (found_at HasSerial x (changed (told_part news) name noted_all.apps) replied_all.apps is_apps
      (found_changed HasSerial (told_part news) name x noted_all.apps (told_keeps news) (λ g l. told_last news g ∙ l) f))
  own_replied (replies.refuses name path which qs not_bus may tells no_four is_apps reg) f =
      weaken replied_all.apps
      (found_at HasSerial x (changed (refused_part path which) name noted_all.apps) replied_all.apps is_apps
      (found_changed HasSerial (refused_part path which) name x noted_all.apps (refused_keeps path which) (λ g l. l) f))
  own_replied (replies.fails p name is asks qs no_four is_apps reg) f =
      weaken replied_all.apps
      (found_at HasSerial x (filter (λ app. not (is_named name app)) noted_all.apps) replied_all.apps is_apps (found_filtered HasSerial name x noted_all.apps f))
  own_replied (replies.children qs two is_apps reg) f =
      found_at (Late m.serial) x (fold made_known noted_all.apps (references_among (elements_of m.body))) replied_all.apps is_apps
      (found_more (Late m.serial) x noted_all.apps (fold made_known noted_all.apps (references_among (elements_of m.body))) (new_late m.serial)
      (found_fold x noted_all.apps (references_among (elements_of m.body))) (weaken noted_all.apps f))

  -- those of others keep theirs
  other_noted : (P : Followed → Type 0) → (n ≡ x → ⊥) → Found P x s.apps → Found P x noted_all.apps
  other_noted P differ f = found_so P x s.apps noted_all.apps (found_other (noted m.serial) n x s.apps (noted_keeps m.serial) differ) f

  not_its : (name : List ℕ) → (n ≡ x → ⊥) → (bytes_eq n name || false) ≡ true → name ≡ x → ⊥
  not_its name differ may same = by (bytes_eq n name) refl may
    where
      by : (b : Bool) → bytes_eq n name ≡ b → (b || false) ≡ true → ⊥
      by true e g = differ ((bytes_eq-Decides n name).0 e ∙ same)
      by false e g = false_true g

  other_replied : (k : ℕ) → (n ≡ x → ⊥) → Brings m s.pending s.registry noted_all.apps q replied_all → Found (Late k) x noted_all.apps → Found (Late k) x replied_all.apps
  other_replied k differ (replies.same plain is reg) f = found_at (Late k) x noted_all.apps replied_all.apps is f
  other_replied k differ (replies.items p name all is asks qs two not_bus may tells is_apps reg) f =
      found_at (Late k) x (changed (loaded all) name noted_all.apps) replied_all.apps is_apps
      (found_so (Late k) x noted_all.apps (changed (loaded all) name noted_all.apps)
      (found_other (loaded all) name x noted_all.apps (loaded_keeps all) (not_its name differ (ap (λ b. bytes_eq n name || b) (sym not_bus) ∙ may))) f)
  other_replied k differ (replies.told name path which news qs two not_bus may tells is_apps reg) f =
      found_at (Late k) x (changed (told_part news) name noted_all.apps) replied_all.apps is_apps
      (found_changed (Late k) (told_part news) name x noted_all.apps (told_keeps news) (told_late k news) f)
  other_replied k differ (replies.refuses name path which qs not_bus may tells no_four is_apps reg) f =
      found_at (Late k) x (changed (refused_part path which) name noted_all.apps) replied_all.apps is_apps
      (found_changed (Late k) (refused_part path which) name x noted_all.apps (refused_keeps path which) (λ g l. l) f)
  other_replied k differ (replies.fails p name is asks qs no_four is_apps reg) f =
      found_at (Late k) x (filter (λ app. not (is_named name app)) noted_all.apps) replied_all.apps is_apps (found_filtered (Late k) name x noted_all.apps f)
  other_replied k differ (replies.children qs two is_apps reg) f =
      found_at (Late k) x (fold made_known noted_all.apps (references_among (elements_of m.body))) replied_all.apps is_apps
      (found_more (Late k) x noted_all.apps (fold made_known noted_all.apps (references_among (elements_of m.body))) (new_late k)
      (found_fold x noted_all.apps (references_among (elements_of m.body))) f)

  -- from there on
  ended : (P : Followed → Type 0) → Found P x replied_all.apps → Found P x ended_all.apps
  ended P f = by (told_end m)
    where
      by : (o : Option (List ℕ)) → Found P x (with_end replied_all o).apps
      by None = f
      by (Some k) = found_filtered P k x replied_all.apps f

  known : (P : Followed → Type 0) → ((root : Reference) → P (unasked root)) → Found P x ended_all.apps → Found P x (takes_child ended_all m).apps
  known P new f = by (new_child ended_all m)
    where
      by : (o : Option Reference) → Found P x (with_child ended_all o).apps
      by None = f
      by (Some root) = found_more P x ended_all.apps (made_known ended_all.apps root) new (found_made x ended_all.apps root) f

  read : (P : Followed → Type 0) → ((g : Followed) → P g → P (folded (news_of n m) g)) → Found P x (takes_child ended_all m).apps → Found P x read_all.apps
  read P keep f = found_changed P (folded (news_of n m)) n x (takes_child ended_all m).apps (folded_keeps (news_of n m)) keep f

  goes : (P : Followed → Type 0) → Found P x read_all.apps → Found P x (reader_takes s m).apps
  goes P f = by (next_of read_all)
    where
      by : GoesOn read_all → Found P x (reader_takes s m).apps
      by (stays e) = subst (λ (z : ReaderState). Found P x z.apps) (sym e) f
      by (begins_one question rest is e) = subst (λ (z : ReaderState). Found P x z.apps) (sym e) f
      by (wishes_one question rest is none e) = subst (λ (z : ReaderState). Found P x z.apps) (sym e) f

  late_on : (k : ℕ) → Found (Late k) x ended_all.apps → Found (Late k) x (reader_takes s m).apps
  late_on k f = goes (Late k) (read (Late k) (folded_late k (news_of n m)) (known (Late k) (new_late k) f))

  -- ITS SENDER, AND ANOTHER
  pub of_sender : n ≡ x → Brings m s.pending s.registry noted_all.apps q replied_all → Found (Late m.serial) x (reader_takes s m).apps
  of_sender own b = late_on m.serial (ended (Late m.serial) (own_replied b (own_noted own)))

  pub of_another : (k : ℕ) → (n ≡ x → ⊥) → Brings m s.pending s.registry noted_all.apps q replied_all → Found (Late k) x s.apps → Found (Late k) x (reader_takes s m).apps
  of_another k differ b f = late_on k (ended (Late k) (other_replied k differ b (other_noted (Late k) differ f)))

  -- ONE WHOSE END IT TELLS is not held
  pub of_ended : told_end m ≡ Some x → (k : ℕ) → Found (Late k) x (reader_takes s m).apps
  of_ended tells k = late_on k (subst (λ (o : Option (List ℕ)). Found (Late k) x (with_end replied_all o).apps) (sym tells) (λ g h. absurd (no_none g (sym (found_without x replied_all.apps) ∙ h))))

-- THE SERIAL THAT THE TRACE SAYS
replied_last : (q : Option Question) (e : Envelope) (f : Followed) → (caches.replied q e f).last ≡ f.last
replied_last (Some (GetItems name)) e f = by (items_told e)
  where
    by : (o : Option (List Item)) → (caches.with_items o f).last ≡ f.last
    by None = refl
    by (Some items) = refl
replied_last (Some (GetPart name path part)) e f = by (part_told part path e)
  where
    by : (o : Option News) → (caches.with_part path part o f).last ≡ f.last
    by None = refl
    by (Some news) = told_last news f
replied_last (Some Hello) e f = refl
replied_last (Some (AddMatch rule)) e f = refl
replied_last (Some (RegisterEvent pattern)) e f = refl
replied_last (Some GetChildren) e f = refl
replied_last None e f = refl

pub reads_last : (q : Option Question) (e : Envelope) (f : Followed) → (caches.reads q e f).last ≡ e.serial
reads_last q e f = folded_last (news_of f.name e) (caches.replied q e (noted e.serial f)) ∙ replied_last q e (noted e.serial f)
