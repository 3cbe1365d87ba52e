-- What each part of a step keeps: no two applications have one name, and each name is a bus name.
use Rattle.std.proofs.Common.{◌≡◌, ℕ, Bool, true, false, not, List, Option, Some, None, refl}
use Rattle.std.specs.Prelude.{◌==◌, ◌&&◌, bytes_eq, if◌then◌else◌}
use Rattle.atspi_message.specs.Envelope.{Envelope}
use Rattle.atspi_tree_model.specs.declared.news.Item.{Item}
use Rattle.atspi_tree_model.specs.declared.news.News.{News}
use Rattle.atspi_tree_model.specs.declared.news.Reference.{Reference}
use Rattle.atspi_protocol.specs.declared.news.part.PartName.{PartName}
use Rattle.atspi_protocol.specs.news.Arguments.{signature_of}
use Rattle.atspi_protocol.specs.news.NewsOf.{news_of, or_empty}
use Rattle.atspi_protocol.specs.news.Replies.{elements_of, items_told, part_told}
use Rattle.atspi_protocol.specs.declared.following.question.Question.{Question}
use Rattle.atspi_protocol.specs.declared.following.question.Question.TheVariants.{Hello, AddMatch, RegisterEvent, GetChildren, GetItems, GetPart}
use Rattle.atspi_protocol.specs.following.ReaderState.{Pending, ReaderState, is_named}
use Rattle.atspi_protocol.specs.following.Known.{references_among, new_child, with_child, told_end, with_end}
use Rattle.atspi_protocol.specs.following.Replied.{loaded, told_part, refused_part, with_items, with_part, goes_on_if, with_children, children_signature, replied, ends_call, takes_reply}
use Rattle.atspi_protocol.specs.following.Takes.{noted, notes, folded, takes_news}
use Rattle.atspi_protocol.specs.following.Known.{takes_child, takes_end}
use Rattle.atspi_reader_known.proofs.Names.{folded_name, told_name}
use Rattle.atspi_reader.specs.Steps.{Fine}
use Rattle.atspi_reader.specs.inner.Turns.{rooted}
use Rattle.atspi_reader.proofs.Adopted.{fine_changed, fine_filter, fine_made, fine_fold}

pub notes_fine : (s : ReaderState) (e : Envelope) → Fine s.apps → Fine (notes s e).apps
notes_fine s e fine = fine_changed (noted e.serial) (λ a. refl) (or_empty e.sender) s.apps fine

goes_on_if_fine : (b : Bool) (s : ReaderState) → Fine s.apps → Fine (goes_on_if b s).apps
goes_on_if_fine true s fine = fine
goes_on_if_fine false s fine = fine

items_fine : (s : ReaderState) (name : List ℕ) (o : Option (List Item)) → Fine s.apps → Fine (with_items s name o).apps
items_fine s name (Some items) fine = fine_changed (loaded items) (λ a. refl) name s.apps fine
items_fine s name None fine = fine_filter (λ app. not (is_named name app)) s.apps fine

part_fine : (s : ReaderState) (name path : List ℕ) (part : PartName) (o : Option News) → Fine s.apps → Fine (with_part s name path part o).apps
part_fine s name path part (Some news) fine = fine_changed (told_part news) (told_name news) name s.apps fine
part_fine s name path part None fine = fine_changed (refused_part path part) (λ a. refl) name s.apps fine

children_fine : (s : ReaderState) (e : Envelope) → Fine s.apps → Fine (with_children s e).apps
children_fine s e fine = by (e.kind == 2 && bytes_eq (signature_of e.body) children_signature)
  where
    by : (b : Bool) → Fine (if b then rooted s e else goes_on_if false s).apps
    by true = fine_fold (references_among (elements_of e.body)) s.apps fine
    by false = fine

replied_fine : (q : Question) (s : ReaderState) (e : Envelope) → Fine s.apps → Fine (replied q s e).apps
replied_fine Hello s e fine = goes_on_if_fine _ s fine
replied_fine (AddMatch rule) s e fine = goes_on_if_fine _ s fine
replied_fine (RegisterEvent pattern) s e fine = goes_on_if_fine _ s fine
replied_fine GetChildren s e fine = children_fine s e fine
replied_fine (GetItems name) s e fine = items_fine s name (items_told e) fine
replied_fine (GetPart name path part) s e fine = part_fine s name path part (part_told part path e) fine

abbrev reply_at : ReaderState → Envelope → Option Pending → ReaderState
reply_at s e None = s
reply_at s e (Some p) = if ends_call p e then replied p.question (record s { pending = None }) e else s

reply_is : (s : ReaderState) (e : Envelope) → takes_reply s e ≡ reply_at s e s.pending
reply_is s e = refl

reply_fine : (s : ReaderState) (e : Envelope) → Fine s.apps → Fine (takes_reply s e).apps
reply_fine s e fine = by s.pending
  where
    if_ends : (b : Bool) (p : Pending) → Fine (if b then replied p.question (record s { pending = None }) e else s).apps
    if_ends true p = replied_fine p.question (record s { pending = None }) e fine
    if_ends false p = fine

    by : (o : Option Pending) → Fine (reply_at s e o).apps
    by None = fine
    by (Some p) = if_ends (ends_call p e) p

end_fine : (s : ReaderState) (o : Option (List ℕ)) → Fine s.apps → Fine (with_end s o).apps
end_fine s None fine = fine
end_fine s (Some name) fine = fine_filter (λ app. not (is_named name app)) s.apps fine

child_fine : (s : ReaderState) (o : Option Reference) → Fine s.apps → Fine (with_child s o).apps
child_fine s None fine = fine
child_fine s (Some root) fine = fine_made s.apps root fine

news_fine : (s : ReaderState) (e : Envelope) → Fine s.apps → Fine (takes_news s e).apps
news_fine s e fine = fine_changed (folded (news_of (or_empty e.sender) e)) (folded_name (news_of (or_empty e.sender) e)) (or_empty e.sender) s.apps fine

-- all that is done with a message before the next call goes out
abbrev pub before_going : ReaderState → Envelope → ReaderState
before_going s e = takes_news (takes_child (takes_end (takes_reply (notes s e) e) e) e) e

pub takes_fine : (s : ReaderState) (e : Envelope) → Fine s.apps → Fine (before_going s e).apps
takes_fine s e fine =
    let s1 = takes_reply (notes s e) e in
    let s2 = takes_end s1 e in
    let s3 = takes_child s2 e in
    news_fine s3 e (child_fine s2 (new_child s2 e) (end_fine s1 (told_end e) (reply_fine (notes s e) e (notes_fine s e fine))))
