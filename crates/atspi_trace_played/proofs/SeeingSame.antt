-- What a reader's own state has of an application, and what the trace says that it has: each change does the same to both.
use Rattle.std.proofs.Common.{◌≡◌, ℕ, Bool, true, false, List, [], ◌∷◌, ◌++◌, map, Option, None, Some, refl, sym, ap, ap₂, ◌∙◌}
use Rattle.std.specs.Prelude.{◌==◌, ◌&&◌, ◌||◌, option_map, if◌then◌else◌}
use Rattle.std.specs.List.{AllByRecursion}
use Rattle.std.proofs.lemmas.List.{append-nil, append_assoc}
use Rattle.atspi_tree_model.specs.declared.news.Item.{Item}
use Rattle.atspi_tree_model.specs.declared.news.News.{News}
use Rattle.atspi_tree_model.specs.declared.view.Row.{Row}
use Rattle.atspi_tree_model.specs.Forest.{Forest}
use Rattle.atspi_tree_model.specs.News.{load, effect, marks_reload}
use Rattle.atspi_tree_model.specs.Path.{path_of}
use Rattle.atspi_script_lines.specs.declared.line.Party.TheVariants.{App, Reader}
use Rattle.atspi_message.specs.Envelope.{Envelope}
use Rattle.atspi_protocol.specs.declared.news.part.PartName.{PartName}
use Rattle.atspi_protocol.specs.declared.following.question.Question.{Question}
use Rattle.atspi_protocol.specs.declared.following.question.Question.TheVariants.{Hello, AddMatch, RegisterEvent, GetChildren, GetItems, GetPart}
use Rattle.atspi_protocol.specs.news.NewsOf.{news_of}
use Rattle.atspi_protocol.specs.news.Replies.{items_told, part_told}
use Rattle.atspi_protocol.specs.following.ReaderState.{Followed}
use Rattle.atspi_protocol.specs.following.Replied.{loaded, told_part, refused_part}
use Rattle.atspi_protocol.specs.following.Takes.{noted, folded}
use Rattle.atspi_trace.specs.Entry.{Entry, got, spoke, gone}
use Rattle.atspi_trace_laws.specs.laws.Words.{message, answers_question}
use Rattle.atspi_trace_caches.specs.caches.Caches.{unasked, with_items, with_part, replied, reads_if, follows_after, follows_on, followed}
use Rattle.atspi_trace_laws.proofs.OfHeld.Keeping.{NotOfReader}
use Rattle.atspi_trace_played.proofs.SeeingApps.{KeepsNames}

-- WHAT CHANGES DO to one
abbrev pub marks_of : Option (Forest Row) → News → Bool
marks_of None n = false
marks_of (Some v) n = marks_reload v n

pub record Part (change : Followed → Followed) (g : Followed) (view : Option (Forest Row)) (reload : Bool) : Type 0 where
  pub name : (change g).name ≡ g.name
  pub root : (change g).root ≡ g.root
  pub view_is : (change g).view ≡ view
  pub reload_is : (change g).reload ≡ reload

pub told_is : (n : News) (g : Followed) → Part (told_part n) g (option_map (λ v. effect g.root g.name v n) g.view) g.reload
told_is n g = by g.view refl
  where
    by : (o : Option (Forest Row)) → g.view ≡ o → Part (told_part n) g (option_map (λ v. effect g.root g.name v n) g.view) g.reload
    by None h = record { name = rw h refl; root = rw h refl; view_is = rw h refl; reload_is = rw h refl }
    by (Some v) h = record { name = rw h refl; root = rw h refl; view_is = rw h refl; reload_is = rw h refl }

pub folded_is : (n : News) (g : Followed) → Part (folded n) g (option_map (λ v. effect g.root g.name v n) g.view) (g.reload || marks_of g.view n)
folded_is n g = by g.view refl
  where
    or_none : (b : Bool) → b ≡ (b || false)
    or_none true = refl
    or_none false = refl

    by : (o : Option (Forest Row)) → g.view ≡ o → Part (folded n) g (option_map (λ v. effect g.root g.name v n) g.view) (g.reload || marks_of g.view n)
    by None h = record { name = rw h refl; root = rw h refl; view_is = rw h refl; reload_is = rw h (or_none g.reload) }
    by (Some v) h = record { name = rw h refl; root = rw h refl; view_is = rw h refl; reload_is = rw h refl }

pub noted_keeps : (n : ℕ) → KeepsNames (noted n)
noted_keeps n g = refl

pub loaded_keeps : (items : List Item) → KeepsNames (loaded items)
loaded_keeps items g = refl

pub refused_keeps : (path : List ℕ) (which : PartName) → KeepsNames (refused_part path which)
refused_keeps path which g = refl

pub told_keeps : (n : News) → KeepsNames (told_part n)
told_keeps n g = (told_is n g).name

pub folded_keeps : (n : News) → KeepsNames (folded n)
folded_keeps n g = (folded_is n g).name

-- THE SAME OF BOTH
pub record Same (g f : Followed) : Type 0 where
  pub name : g.name ≡ f.name
  pub root : g.root ≡ f.root
  pub view : g.view ≡ f.view
  pub reload : g.reload ≡ false

pub same_noted : (n k : ℕ) (g f : Followed) → Same g f → Same (noted n g) (noted k f)
same_noted n k g f s = record { name = s.name; root = s.root; view = s.view; reload = s.reload }

pub same_loaded : (items : List Item) (g f : Followed) → Same g f → Same (loaded items g) (loaded items f)
same_loaded items g f s = record { name = s.name; root = s.root; view = ap₂ (λ r n. Some (load r n items)) s.root s.name; reload = refl }

pub same_refused : (path : List ℕ) (which : PartName) (g f : Followed) → Same g f → Same (refused_part path which g) (refused_part path which f)
same_refused path which g f s = record { name = s.name; root = s.root; view = s.view; reload = s.reload }

-- and nothing is refused by the trace where an error came
pub same_refused_here : (path : List ℕ) (which : PartName) (g f : Followed) → Same g f → Same (refused_part path which g) f
same_refused_here path which g f s = record { name = s.name; root = s.root; view = s.view; reload = s.reload }

effect_same : (n : News) (g f : Followed) → Same g f → option_map (λ v. effect g.root g.name v n) g.view ≡ option_map (λ v. effect f.root f.name v n) f.view
effect_same n g f s = ap (option_map (λ v. effect g.root g.name v n)) s.view ∙ ap₂ (λ r m. option_map (λ v. effect r m v n) f.view) s.root s.name

pub same_told : (n : News) (g f : Followed) → Same g f → Same (told_part n g) (told_part n f)
same_told n g f s =
    let a = told_is n g in
    let b = told_is n f in
    record { name = a.name ∙ s.name ∙ sym b.name; root = a.root ∙ s.root ∙ sym b.root; view = a.view_is ∙ effect_same n g f s ∙ sym b.view_is; reload = a.reload_is ∙ s.reload }

pub same_folded : (n : News) (g f : Followed) → Same g f → marks_of f.view n ≡ false → Same (folded n g) (folded n f)
same_folded n g f s quiet =
    let a = folded_is n g in
    let b = folded_is n f in
    record {
      name = a.name ∙ s.name ∙ sym b.name;
      root = a.root ∙ s.root ∙ sym b.root;
      view = a.view_is ∙ effect_same n g f s ∙ sym b.view_is;
      reload = a.reload_is ∙ ap₂ (λ x y. x || y) s.reload (ap (λ v. marks_of v n) s.view ∙ quiet);
    }

-- ALONG THE TRACE
pub follows_append : (early xs ys : List Entry) (r a : ℕ) (f : Followed) → follows_on early r a f (xs ++ ys) ≡ follows_on (early ++ xs) r a (follows_on early r a f xs) ys
follows_append early [] ys r a f = ap (λ l. follows_on l r a f ys) (sym (append-nil early))
follows_append early (x ∷ xs) ys r a f =
    follows_append (early ++ x ∷ []) xs ys r a (follows_after early r a f x)
    ∙ ap (λ l. follows_on l r a (follows_on (early ++ x ∷ []) r a (follows_after early r a f x) xs) ys) (append_assoc early (x ∷ []) xs)

pub followed_more : (name : List ℕ) (es ys : List Entry) (r a : ℕ) → followed name (es ++ ys) r a ≡ follows_on es r a (followed name es r a) ys
followed_more name es ys r a = follows_append [] es ys r a (unasked name)

pub spoken_follow : (early : List Entry) (r a q b : ℕ) (f : Followed) (lines : List (List ℕ)) → follows_on early r a f (map (spoke q b) lines) ≡ f
spoken_follow early r a q b f [] = refl
spoken_follow early r a q b f (line ∷ lines) = spoken_follow (early ++ spoke q b line ∷ []) r a q b f lines

-- entries of others
other_follows : (early : List Entry) (r a : ℕ) (f : Followed) (entry : Entry) → NotOfReader r entry → follows_after early r a f entry ≡ f
other_follows early r a f (got (Reader q) (App b) serial) h =
    ap (λ t. if t && b == a then reads_if (answers_question early r (message early (App a) serial)) (message early (App a) serial) f else f) h
other_follows early r a f (gone q b) h = ap (λ t. if t && b == a then unasked f.name else f) h
other_follows early r a f entry h = refl

pub others_follow : (early : List Entry) (r a : ℕ) (f : Followed) (ys : List Entry) → AllByRecursion (NotOfReader r) ys → follows_on early r a f ys ≡ f
others_follow early r a f [] h = refl
others_follow early r a f (y ∷ ys) h =
    ap (λ g. follows_on (early ++ y ∷ []) r a g ys) (other_follows early r a f y h.0) ∙ others_follow (early ++ y ∷ []) r a f ys h.1

-- its name, and the root's path
abbrev pub Stays : Followed → Followed → Type 0
Stays f g = (g.name ≡ f.name) × (g.root ≡ f.root)

replied_stays : (q : Option Question) (e : Envelope) (f : Followed) → Stays f (replied q e f)
replied_stays (Some (GetItems n)) e f = by (items_told e)
  where
    by : (o : Option (List Item)) → Stays f (with_items o f)
    by None = (refl, refl)
    by (Some items) = (refl, refl)
replied_stays (Some (GetPart n path which)) e f = by (part_told which path e)
  where
    by : (o : Option News) → Stays f (with_part path which o f)
    by None = (refl, refl)
    by (Some news) = ((told_is news f).name, (told_is news f).root)
replied_stays (Some Hello) e f = (refl, refl)
replied_stays (Some (AddMatch rule)) e f = (refl, refl)
replied_stays (Some (RegisterEvent pattern)) e f = (refl, refl)
replied_stays (Some GetChildren) e f = (refl, refl)
replied_stays None e f = (refl, refl)

pub reads_stays : (q : Option Question) (o : Option Envelope) (f : Followed) → Stays f (reads_if q o f)
reads_stays q None f = (refl, refl)
reads_stays q (Some e) f =
    let a = folded_is (news_of f.name e) (replied q e (noted e.serial f)) in
    let b = replied_stays q e (noted e.serial f) in (a.name ∙ b.0, a.root ∙ b.1)

abbrev pub IsRooted : List ℕ → Followed → Type 0
IsRooted name f = (f.name ≡ name) × (f.root ≡ path_of 0)

rooted_after : (early : List Entry) (r a : ℕ) (name : List ℕ) (f : Followed) (entry : Entry) → IsRooted name f → IsRooted name (follows_after early r a f entry)
rooted_after early r a name f (got (Reader q) (App b) serial) i = by (q == r && b == a)
  where
    by : (t : Bool) → IsRooted name (if t then reads_if (answers_question early r (message early (App a) serial)) (message early (App a) serial) f else f)
    by true = let x = reads_stays (answers_question early r (message early (App a) serial)) (message early (App a) serial) f in (x.0 ∙ i.0, x.1 ∙ i.1)
    by false = i
rooted_after early r a name f (gone q b) i = by (q == r && b == a)
  where
    by : (t : Bool) → IsRooted name (if t then unasked f.name else f)
    by true = (i.0, refl)
    by false = i
rooted_after early r a name f entry i = i

rooted_on : (early ys : List Entry) (r a : ℕ) (name : List ℕ) (f : Followed) → IsRooted name f → IsRooted name (follows_on early r a f ys)
rooted_on early [] r a name f i = i
rooted_on early (y ∷ ys) r a name f i = rooted_on (early ++ y ∷ []) ys r a name (follows_after early r a f y) (rooted_after early r a name f y i)

pub followed_rooted : (name : List ℕ) (es : List Entry) (r a : ℕ) → IsRooted name (followed name es r a)
followed_rooted name es r a = rooted_on [] es r a name (unasked name) (refl, refl)
