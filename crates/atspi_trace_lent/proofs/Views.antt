-- The fold of a view is what the law about caches follows.
use Rattle.std.proofs.Common.{◌≡◌, ℕ, Bool, true, false, List, [], ◌∷◌, ◌++◌, Option, None, Some, refl, ap, ap₂, ◌∙◌}
use Rattle.std.specs.Prelude.{◌==◌, ◌&&◌, option_map, if◌then◌else◌}
use Rattle.atspi_tree_model.specs.declared.news.Item.{Item}
use Rattle.atspi_tree_model.specs.declared.news.News.{News}
use Rattle.atspi_tree_model.specs.declared.view.Row.{Row}
use Rattle.atspi_tree_model.specs.Forest.{Forest}
use Rattle.atspi_tree_model.specs.News.{load, effect}
use Rattle.atspi_tree_model.specs.Path.{path_of}
use Rattle.atspi_message.specs.Envelope.{Envelope}
use Rattle.atspi_script_lines.specs.declared.line.Party.TheVariants.{App, Reader}
use Rattle.atspi_protocol.specs.declared.following.question.Question.{Question}
use Rattle.atspi_protocol.specs.declared.following.question.Question.TheVariants.{Hello, AddMatch, RegisterEvent, GetChildren, GetItems, GetPart}
use Rattle.atspi_protocol.specs.news.NewsOf.{news_of}
use Rattle.atspi_protocol.specs.news.Replies.{items_told, part_told}
use Rattle.atspi_protocol.specs.following.ReaderState.{Followed}
use Rattle.atspi_protocol.specs.following.Takes.{noted}
use Rattle.atspi_trace.specs.Entry.{Entry, got, gone}
use Rattle.atspi_trace_laws.specs.laws.Words.{message, answers_question}
use Rattle.atspi_trace_caches.specs.caches.Caches.{unasked, with_items, with_part, replied, reads_if, follows_after, follows_on, followed}
use Rattle.atspi_trace_played.proofs.SeeingSame.{IsRooted, folded_is, told_is, reads_stays}
use Rattle.atspi_trace_lent.specs.Lent.{with_news, with_reply, with_message, view_after, view_on, view_folded}

-- news of an application of this name, which has the first path
effect_same : (name : List ℕ) (news : News) (f : Followed) → IsRooted name f → (v : Option (Forest Row)) → option_map (λ x. effect f.root f.name x news) v ≡ option_map (λ x. effect (path_of 0) name x news) v
effect_same name news f i v = ap₂ (λ r n. option_map (λ x. effect r n x news) v) i.1 i.0

-- A REPLY
pub record Replies (name : List ℕ) (q : Option Question) (e : Envelope) (f : Followed) : Type 0 where
  pub rooted : IsRooted name (replied q e f)
  pub view : (replied q e f).view ≡ with_reply name q e f.view

reply_is : (name : List ℕ) (q : Option Question) (e : Envelope) (f : Followed) → IsRooted name f → Replies name q e f
reply_is name (Some (GetItems asked)) e f i = by (items_told e) refl
  where
    items_view : (o : Option (List Item)) → (with_items o f).view ≡ option_map (λ items. load (path_of 0) name items) o
    items_view None = refl
    items_view (Some items) = ap₂ (λ r n. Some (load r n items)) i.1 i.0

    items_rooted : (o : Option (List Item)) → IsRooted name (with_items o f)
    items_rooted None = i
    items_rooted (Some items) = i

    by : (o : Option (List Item)) → items_told e ≡ o → Replies name (Some (GetItems asked)) e f
    by o is = record { rooted = items_rooted (items_told e); view = items_view (items_told e) }
reply_is name (Some (GetPart asked path part)) e f i = record { rooted = rooted (part_told part path e); view = view (part_told part path e) }
  where
    rooted : (o : Option News) → IsRooted name (with_part path part o f)
    rooted None = i
    rooted (Some news) = let t = told_is news f in (t.name ∙ i.0, t.root ∙ i.1)

    view : (o : Option News) → (with_part path part o f).view ≡ with_news name o f.view
    view None = refl
    view (Some news) = (told_is news f).view_is ∙ effect_same name news f i f.view
reply_is name (Some Hello) e f i = record { rooted = i; view = refl }
reply_is name (Some (AddMatch rule)) e f i = record { rooted = i; view = refl }
reply_is name (Some (RegisterEvent pattern)) e f i = record { rooted = i; view = refl }
reply_is name (Some GetChildren) e f i = record { rooted = i; view = refl }
reply_is name None e f i = record { rooted = i; view = refl }

-- A MESSAGE
message_is : (name : List ℕ) (q : Option Question) (o : Option Envelope) (f : Followed) → IsRooted name f → (reads_if q o f).view ≡ with_message name q o f.view
message_is name q None f i = refl
message_is name q (Some e) f i =
    let r = reply_is name q e (noted e.serial f) i in
    let n = folded_is (news_of f.name e) (replied q e (noted e.serial f)) in
    n.view_is
    ∙ effect_same name (news_of f.name e) (replied q e (noted e.serial f)) r.rooted (replied q e (noted e.serial f)).view
    ∙ ap₂ (λ m v. option_map (λ x. effect (path_of 0) name x (news_of m e)) v) i.0 r.view

-- AN ENTRY
rooted_after : (early : List Entry) (r a : ℕ) (name : List ℕ) (f : Followed) (entry : Entry) → IsRooted name f → IsRooted name (follows_after early r a f entry)
rooted_after early r a name f (got (Reader q) (App b) serial) i = by (q == r && b == a)
  where
    by : (t : Bool) → IsRooted name (if t then reads_if (answers_question early r (message early (App a) serial)) (message early (App a) serial) f else f)
    by true = let x = reads_stays (answers_question early r (message early (App a) serial)) (message early (App a) serial) f in (x.0 ∙ i.0, x.1 ∙ i.1)
    by false = i
rooted_after early r a name f (gone q b) i = by (q == r && b == a)
  where
    by : (t : Bool) → IsRooted name (if t then unasked f.name else f)
    by true = (i.0, refl)
    by false = i
rooted_after early r a name f entry i = i

entry_is : (early : List Entry) (r a : ℕ) (name : List ℕ) (f : Followed) (entry : Entry) → IsRooted name f → (follows_after early r a f entry).view ≡ view_after name early r a f.view entry
entry_is early r a name f (got (Reader q) (App b) serial) i = by (q == r && b == a)
  where
    by : (t : Bool) → (if t then reads_if (answers_question early r (message early (App a) serial)) (message early (App a) serial) f else f).view
        ≡ (if t then with_message name (answers_question early r (message early (App a) serial)) (message early (App a) serial) f.view else f.view)
    by true = message_is name (answers_question early r (message early (App a) serial)) (message early (App a) serial) f i
    by false = refl
entry_is early r a name f (gone q b) i = by (q == r && b == a)
  where
    by : (t : Bool) → (if t then unasked f.name else f).view ≡ (if t then None else f.view)
    by true = refl
    by false = refl
entry_is early r a name f entry i = refl

-- ENTRIES
view_is : (early ys : List Entry) (r a : ℕ) (name : List ℕ) (f : Followed) → IsRooted name f → (follows_on early r a f ys).view ≡ view_on name early r a f.view ys
view_is early [] r a name f i = refl
view_is early (y ∷ ys) r a name f i =
    view_is (early ++ y ∷ []) ys r a name (follows_after early r a f y) (rooted_after early r a name f y i)
    ∙ ap (λ v. view_on name (early ++ y ∷ []) r a v ys) (entry_is early r a name f y i)

pub folds : (name : List ℕ) (trace : List Entry) (r a : ℕ) → (followed name trace r a).view ≡ view_folded name trace r a
folds name trace r a = view_is [] trace r a name (unasked name) (refl, refl)
