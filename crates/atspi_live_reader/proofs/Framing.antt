-- What a reader did before stands in front of what a message makes it do: no step looks at it.
use Rattle.std.proofs.Common.{◌≡◌, ℕ, Bool, true, false, List, [], ◌∷◌, ◌++◌, fold, Option, Some, None, refl, ap, ◌∙◌, append_assoc}
use Rattle.std.specs.Prelude.{◌==◌, ◌&&◌, bytes_eq, filter, flat_map, if◌then◌else◌}
use Rattle.atspi_message.specs.Envelope.{Envelope}
use Rattle.atspi_tree_model.specs.declared.news.Item.{Item}
use Rattle.atspi_tree_model.specs.declared.news.News.{News}
use Rattle.atspi_tree_model.specs.declared.news.Reference.{Reference}
use Rattle.atspi_protocol.specs.declared.news.part.PartName.{PartName}
use Rattle.atspi_protocol.specs.news.Arguments.{signature_of}
use Rattle.atspi_protocol.specs.news.NewsOf.{news_of, or_empty}
use Rattle.atspi_protocol.specs.news.Replies.{elements_of, items_told, part_told}
use Rattle.atspi_protocol.specs.declared.following.question.Question.{Question}
use Rattle.atspi_protocol.specs.declared.following.question.Question.TheVariants.{Hello, AddMatch, RegisterEvent, GetChildren, GetItems, GetPart}
use Rattle.atspi_protocol.specs.following.ReaderState.{Pending, Done, sends, ReaderState, is_named}
use Rattle.atspi_protocol.specs.following.Calls.{asking}
use Rattle.atspi_protocol.specs.following.Wishes.{wishes}
use Rattle.atspi_protocol.specs.following.Known.{closings, end_of_connection, made_known, new_child, references_among, takes_child, takes_end, told_end, with_child, with_end}
use Rattle.atspi_protocol.specs.following.Replied.{children_signature, ends_call, goes_on_if, replied, takes_reply, with_children, with_items, with_part}
use Rattle.atspi_protocol.specs.following.Takes.{asks, asks_first, goes_on, lines_at, notes, reader_takes, takes_news}

-- these stand in front of what it did
abbrev pub put : List Done → ReaderState → ReaderState
put d s = record s { out = d ++ s.out }

asks_put : (d : List Done) (s : ReaderState) (q : Question) → asks (put d s) q ≡ put d (asks s q)
asks_put d s q = ap (λ (w : List Done). record (asks s q) { out = w }) (append_assoc d s.out (sends (asking s.next q) ∷ []))

first_put : (d : List Done) (s : ReaderState) (qs : List Question) → asks_first (put d s) qs ≡ put d (asks_first s qs)
first_put d s [] = refl
first_put d s (q ∷ qs) = asks_put d s q

-- what goes on, by the call that waits and those of the start
abbrev pub goes_at : ReaderState → Option Pending → List Question → ReaderState
goes_at s (Some p) to_come = s
goes_at s None (q ∷ to_come) = asks (record s { to_come = to_come }) q
goes_at s None [] = asks_first s (wishes s.apps)

pub goes_is : (s : ReaderState) → goes_on s ≡ goes_at s s.pending s.to_come
goes_is s = by s.pending refl s.to_come refl
  where
    by : (o : Option Pending) → s.pending ≡ o → (qs : List Question) → s.to_come ≡ qs → goes_on s ≡ goes_at s o qs
    by (Some p) e qs f = rw e refl
    by None e (q ∷ qs) f = rw e (rw f refl)
    by None e [] f = rw e (rw f refl)

goes_put_at : (d : List Done) (s : ReaderState) (o : Option Pending) (qs : List Question) → goes_at (put d s) o qs ≡ put d (goes_at s o qs)
goes_put_at d s (Some p) qs = refl
goes_put_at d s None (q ∷ qs) = asks_put d (record s { to_come = qs }) q
goes_put_at d s None [] = first_put d s (wishes s.apps)

goes_put : (d : List Done) (s : ReaderState) → goes_on (put d s) ≡ put d (goes_on s)
goes_put d s = goes_is (put d s) ∙ goes_put_at d s s.pending s.to_come ∙ ap (put d) (sym' (goes_is s))
  where
    sym' : {A : Type 0} {a b : A} → a ≡ b → b ≡ a
    sym' e = rw e refl

goes_on_if_put : (d : List Done) (b : Bool) (s : ReaderState) → goes_on_if b (put d s) ≡ put d (goes_on_if b s)
goes_on_if_put d true s = refl
goes_on_if_put d false s = refl

children_put : (d : List Done) (s : ReaderState) (e : Envelope) → with_children (put d s) e ≡ put d (with_children s e)
children_put d s e = by (e.kind == 2 && bytes_eq (signature_of e.body) children_signature)
  where
    rooted : ReaderState → ReaderState
    rooted r = record r { registry = e.sender; apps = fold made_known r.apps (references_among (elements_of e.body)) }

    by : (b : Bool) → (if b then record (put d s) { registry = e.sender; apps = fold made_known s.apps (references_among (elements_of e.body)) } else goes_on_if false (put d s))
        ≡ put d (if b then record s { registry = e.sender; apps = fold made_known s.apps (references_among (elements_of e.body)) } else goes_on_if false s)
    by true = refl
    by false = refl

items_put : (d : List Done) (s : ReaderState) (name : List ℕ) (o : Option (List Item)) → with_items (put d s) name o ≡ put d (with_items s name o)
items_put d s name (Some items) = refl
items_put d s name None = refl

part_put : (d : List Done) (s : ReaderState) (name path : List ℕ) (part : PartName) (o : Option News) → with_part (put d s) name path part o ≡ put d (with_part s name path part o)
part_put d s name path part (Some news) = refl
part_put d s name path part None = refl

replied_put : (d : List Done) (q : Question) (s : ReaderState) (e : Envelope) → replied q (put d s) e ≡ put d (replied q s e)
replied_put d Hello s e = goes_on_if_put d _ s
replied_put d (AddMatch rule) s e = goes_on_if_put d _ s
replied_put d (RegisterEvent pattern) s e = goes_on_if_put d _ s
replied_put d GetChildren s e = children_put d s e
replied_put d (GetItems name) s e = items_put d s name (items_told e)
replied_put d (GetPart name path part) s e = part_put d s name path part (part_told part path e)

-- the reply, by the call that waits
abbrev pub reply_at : ReaderState → Envelope → Option Pending → ReaderState
reply_at s e None = s
reply_at s e (Some p) = if ends_call p e then replied p.question (record s { pending = None }) e else s

reply_put_at : (d : List Done) (s : ReaderState) (e : Envelope) (o : Option Pending) → reply_at (put d s) e o ≡ put d (reply_at s e o)
reply_put_at d s e None = refl
reply_put_at d s e (Some p) = by (ends_call p e)
  where
    by : (b : Bool) → (if b then replied p.question (record (put d s) { pending = None }) e else put d s) ≡ put d (if b then replied p.question (record s { pending = None }) e else s)
    by true = replied_put d p.question (record s { pending = None }) e
    by false = refl

pub reply_is : (s : ReaderState) (e : Envelope) → takes_reply s e ≡ reply_at s e s.pending
reply_is s e = refl

reply_put : (d : List Done) (s : ReaderState) (e : Envelope) → takes_reply (put d s) e ≡ put d (takes_reply s e)
reply_put d s e = reply_put_at d s e s.pending

end_put : (d : List Done) (s : ReaderState) (o : Option (List ℕ)) → with_end (put d s) o ≡ put d (with_end s o)
end_put d s None = refl
end_put d s (Some name) =
    ap (λ (w : List Done). record (with_end s (Some name)) { out = w }) (append_assoc d s.out (end_of_connection name ++ closings (filter (is_named name) s.apps)))

child_put : (d : List Done) (s : ReaderState) (o : Option Reference) → with_child (put d s) o ≡ put d (with_child s o)
child_put d s None = refl
child_put d s (Some root) = refl

news_put : (d : List Done) (s : ReaderState) (e : Envelope) → takes_news (put d s) e ≡ put d (takes_news s e)
news_put d s e =
    let name : List ℕ = or_empty e.sender in
    ap (λ (w : List Done). record (takes_news s e) { out = w }) (append_assoc d s.out (flat_map (lines_at (news_of name e)) (filter (is_named name) s.apps)))

pub takes_put : (d : List Done) (s : ReaderState) (e : Envelope) → reader_takes (put d s) e ≡ put d (reader_takes s e)
takes_put d s e =
    let s0 : ReaderState = notes s e in
    let s1 : ReaderState = takes_reply s0 e in
    let s2 : ReaderState = takes_end s1 e in
    let s3 : ReaderState = takes_child s2 e in
    ap (λ (t : ReaderState). goes_on (takes_news (takes_child (takes_end t e) e) e)) (reply_put d s0 e)
    ∙ ap (λ (t : ReaderState). goes_on (takes_news (takes_child t e) e)) (end_put d s1 (told_end e))
    ∙ ap (λ (t : ReaderState). goes_on (takes_news t e)) (child_put d s2 (new_child s2 e))
    ∙ ap (λ (t : ReaderState). goes_on t) (news_put d s3 e)
    ∙ goes_put d (takes_news s3 e)
