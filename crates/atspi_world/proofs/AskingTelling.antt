-- What a reader does with a message before it asks: it speaks lines and tells ends, and sends nothing.
use Rattle.std.proofs.Common.{◌≡◌, ◌⊎◌, inl, inr, ℕ, Bool, true, false, List, [], ◌∷◌, ◌++◌, map, Option, None, Some, refl, sym, ap, ◌∙◌, append_assoc, append-nil}
use Rattle.std.specs.Prelude.{◌==◌, ◌&&◌, bytes_eq, filter, flat_map, if◌then◌else◌}
use Rattle.std.specs.List.{AllByRecursion, fold}
use Rattle.atspi_base.specs.valid_names.Names.{is_bus_name, is_unique_name}
use Rattle.atspi_message.specs.Envelope.{Envelope}
use Rattle.atspi_tree_model.specs.declared.news.Item.{Item}
use Rattle.atspi_tree_model.specs.declared.news.News.{News}
use Rattle.atspi_tree_model.specs.declared.news.Reference.{Reference}
use Rattle.atspi_tree_model.specs.declared.view.Row.{Row}
use Rattle.atspi_tree_model.specs.Forest.{Forest}
use Rattle.atspi_protocol.specs.declared.news.part.PartName.{PartName}
use Rattle.atspi_protocol.specs.news.Arguments.{signature_of}
use Rattle.atspi_protocol.specs.news.NewsOf.{news_of, or_empty}
use Rattle.atspi_protocol.specs.news.Replies.{elements_of, items_told, part_told}
use Rattle.atspi_protocol.specs.declared.following.question.Question.{Question}
use Rattle.atspi_protocol.specs.declared.following.question.Question.TheVariants.{Hello, AddMatch, RegisterEvent, GetChildren, GetItems, GetPart}
use Rattle.atspi_protocol.specs.following.ReaderState.{Followed, Pending, Done, sends, speaks, tells_end, ReaderState, is_named}
use Rattle.atspi_protocol.specs.following.Known.{made_known, references_among, new_child, with_child, takes_child, told_end, closing_of, closings, end_of_connection, with_end, takes_end}
use Rattle.atspi_protocol.specs.following.Replied.{with_items, with_part, goes_on_if, with_children, children_signature, replied, ends_call, takes_reply}
use Rattle.atspi_protocol.specs.following.Takes.{notes, lines_at, takes_news}
use Rattle.atspi_world.proofs.Asking.{either_way}
use Rattle.atspi_world.proofs.Signals.{all-append}

-- what a reader tells is no message
abbrev pub IsTold : Done → Type 0
IsTold (sends m) = ⊥
IsTold (speaks name line) = Unit {0}
IsTold (tells_end name) = Unit {0}

-- a reader told only, and the calls of its start that are to come stayed, or were dropped
pub record OnlyTells (s u : ReaderState) : Type 0 where
  pub told : List Done
  pub out : u.out ≡ s.out ++ told
  pub tells : AllByRecursion IsTold told
  pub next : u.next ≡ s.next
  pub to_come : (u.to_come ≡ s.to_come) ⊎ (u.to_come ≡ [])

tells_none : (s u : ReaderState) → u.out ≡ s.out → u.next ≡ s.next → (u.to_come ≡ s.to_come) ⊎ (u.to_come ≡ []) → OnlyTells s u
tells_none s u out next to_come = record { told = []; out = out ∙ sym (append-nil s.out); tells = tt; next = next; to_come = to_come }

tells_both : (s u v : ReaderState) → OnlyTells s u → OnlyTells u v → OnlyTells s v
tells_both s u v a b = record {
  told = a.told ++ b.told;
  out = b.out ∙ ap (λ l. l ++ b.told) a.out ∙ append_assoc s.out a.told b.told;
  tells = all-append IsTold a.told b.told a.tells b.tells;
  next = b.next ∙ a.next;
  to_come = left b.to_come a.to_come;
}
  where
    left : (v.to_come ≡ u.to_come) ⊎ (v.to_come ≡ []) → (u.to_come ≡ s.to_come) ⊎ (u.to_come ≡ []) → (v.to_come ≡ s.to_come) ⊎ (v.to_come ≡ [])
    left (inr none) g = inr none
    left (inl same) (inl g) = inl (same ∙ g)
    left (inl same) (inr g) = inr (same ∙ g)

-- A REPLY
goes_on_tells : (b : Bool) (s : ReaderState) → OnlyTells s (goes_on_if b s)
goes_on_tells true s = tells_none s s refl refl (inl refl)
goes_on_tells false s = tells_none s (goes_on_if false s) refl refl (inr refl)

items_tell : (s : ReaderState) (name : List ℕ) (o : Option (List Item)) → OnlyTells s (with_items s name o)
items_tell s name (Some items) = tells_none s (with_items s name (Some items)) refl refl (inl refl)
items_tell s name None = tells_none s (with_items s name None) refl refl (inl refl)

part_tells : (s : ReaderState) (name path : List ℕ) (part : PartName) (o : Option News) → OnlyTells s (with_part s name path part o)
part_tells s name path part (Some news) = tells_none s (with_part s name path part (Some news)) refl refl (inl refl)
part_tells s name path part None = tells_none s (with_part s name path part None) refl refl (inl refl)

children_tell : (s : ReaderState) (e : Envelope) → OnlyTells s (with_children s e)
children_tell s e = by (e.kind == 2 && bytes_eq (signature_of e.body) children_signature)
  where
    told : ReaderState
    told = record s { registry = e.sender; apps = fold made_known s.apps (references_among (elements_of e.body)) }

    by : (b : Bool) → OnlyTells s (if b then told else goes_on_if false s)
    by true = tells_none s told refl refl (inl refl)
    by false = goes_on_tells false s

replied_tells : (q : Question) (s : ReaderState) (e : Envelope) → OnlyTells s (replied q s e)
replied_tells Hello s e = goes_on_tells _ s
replied_tells (AddMatch rule) s e = goes_on_tells _ s
replied_tells (RegisterEvent pattern) s e = goes_on_tells _ s
replied_tells GetChildren s e = children_tell s e
replied_tells (GetItems name) s e = items_tell s name (items_told e)
replied_tells (GetPart name path part) s e = part_tells s name path part (part_told part path e)

reply_tells : (s : ReaderState) (e : Envelope) → OnlyTells s (takes_reply s e)
reply_tells s e = by s.pending
  where
    answered : Pending → ReaderState
    answered p = replied p.question (record s { pending = None }) e

    after : Option Pending → ReaderState
    after None = s
    after (Some p) = if ends_call p e then answered p else s

    if_ends : (b : Bool) (p : Pending) → OnlyTells s (if b then answered p else s)
    if_ends true p = tells_both s (record s { pending = None }) (answered p) (tells_none s (record s { pending = None }) refl refl (inl refl)) (replied_tells p.question (record s { pending = None }) e)
    if_ends false p = tells_none s s refl refl (inl refl)

    by : (o : Option Pending) → OnlyTells s (after o)
    by None = tells_none s s refl refl (inl refl)
    by (Some p) = if_ends (ends_call p e) p

-- AN END, what is spoken of it, and a new child
lines_told : (name : List ℕ) (ls : List (List ℕ)) → AllByRecursion IsTold (map (λ (line : List ℕ). speaks name line) ls)
lines_told name [] = tt
lines_told name (line ∷ ls) = (tt, lines_told name ls)

closing_told : (app : Followed) → AllByRecursion IsTold (closing_of app)
closing_told app = by app.view
  where
    by : (o : Option (Forest Row)) → AllByRecursion IsTold (closing_of (record app { view = o }))
    by None = tt
    by (Some view) = lines_told app.name _

closings_told : (apps : List Followed) → AllByRecursion IsTold (closings apps)
closings_told [] = tt
closings_told (app ∷ apps) = all-append IsTold (closing_of app) (closings apps) (closing_told app) (closings_told apps)

connection_told : (name : List ℕ) → AllByRecursion IsTold (end_of_connection name)
connection_told name = either_way (AllByRecursion IsTold) (is_bus_name name && is_unique_name name) (tells_end name ∷ []) [] (tt, tt) tt

end_tells : (s : ReaderState) (o : Option (List ℕ)) → OnlyTells s (with_end s o)
end_tells s None = tells_none s s refl refl (inl refl)
end_tells s (Some name) =
    let spoken : List Done = closings (filter (is_named name) s.apps) in
    record {
      told = end_of_connection name ++ spoken;
      out = refl;
      tells = all-append IsTold (end_of_connection name) spoken (connection_told name) (closings_told (filter (is_named name) s.apps));
      next = refl;
      to_come = inl refl;
    }

child_tells : (s : ReaderState) (o : Option Reference) → OnlyTells s (with_child s o)
child_tells s None = tells_none s s refl refl (inl refl)
child_tells s (Some root) = tells_none s (with_child s (Some root)) refl refl (inl refl)

-- THE NEWS of an application
news_told : (news : News) (app : Followed) → AllByRecursion IsTold (lines_at news app)
news_told news app = by app.view
  where
    by : (o : Option (Forest Row)) → AllByRecursion IsTold (lines_at news (record app { view = o }))
    by None = tt
    by (Some view) = lines_told app.name _

all_news_told : (news : News) (apps : List Followed) → AllByRecursion IsTold (flat_map (lines_at news) apps)
all_news_told news [] = tt
all_news_told news (app ∷ apps) = all-append IsTold (lines_at news app) (flat_map (lines_at news) apps) (news_told news app) (all_news_told news apps)

news_tells : (s : ReaderState) (e : Envelope) → OnlyTells s (takes_news s e)
news_tells s e =
    let name : List ℕ = or_empty e.sender in
    record {
      told = flat_map (lines_at (news_of name e)) (filter (is_named name) s.apps);
      out = refl;
      tells = all_news_told (news_of name e) (filter (is_named name) s.apps);
      next = refl;
      to_come = inl refl;
    }

-- ALL THAT IT DOES with a message before it asks
abbrev pub before_asking : ReaderState → Envelope → ReaderState
before_asking s e = takes_news (takes_child (takes_end (takes_reply (notes s e) e) e) e) e

pub message_tells : (s : ReaderState) (e : Envelope) → OnlyTells s (before_asking s e)
message_tells s e =
    let noted = notes s e in
    let replied_ = takes_reply noted e in
    let ended = takes_end replied_ e in
    let with_new = takes_child ended e in
    tells_both s noted (takes_news with_new e) (tells_none s noted refl refl (inl refl))
    (tells_both noted replied_ (takes_news with_new e) (reply_tells noted e)
    (tells_both replied_ ended (takes_news with_new e) (end_tells replied_ (told_end e))
    (tells_both ended with_new (takes_news with_new e) (child_tells ended (new_child ended e)) (news_tells with_new e))))
