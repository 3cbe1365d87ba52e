-- The messages that a reader sends meet the rules of messages.
use Rattle.std.proofs.Common.{◌≡◌, ◌≢◌, ℕ, ◌+◌, Bool, true, false, List, [], ◌∷◌, ◌++◌, map, filter, flat_map, fold, Option, Some, None, refl, subst, sym, arith}
use Rattle.std.specs.Prelude.{◌==◌, ◌&&◌, bytes_eq, if◌then◌else◌, ⊤}
use Rattle.atspi_message.specs.Envelope.{Envelope}
use Rattle.atspi_message.specs.Rules.{MeetsRules}
use Rattle.atspi_tree_model.specs.declared.view.Row.{Row}
use Rattle.atspi_tree_model.specs.declared.news.Item.{Item}
use Rattle.atspi_tree_model.specs.declared.news.News.{News}
use Rattle.atspi_tree_model.specs.declared.news.Reference.{Reference}
use Rattle.atspi_tree_model.specs.Forest.{Forest}
use Rattle.atspi_speech.specs.Speech.{closing_lines, lines}
use Rattle.atspi_base.specs.valid_names.Names.{is_bus_name, is_unique_name}
use Rattle.atspi_protocol.specs.declared.news.part.PartName.{PartName}
use Rattle.atspi_protocol.specs.news.Arguments.{signature_of}
use Rattle.atspi_protocol.specs.news.NewsOf.{news_of, or_empty}
use Rattle.atspi_protocol.specs.news.Replies.{elements_of, items_told, part_told}
use Rattle.atspi_protocol.specs.declared.following.question.Question.{Question}
use Rattle.atspi_protocol.specs.declared.following.question.Question.TheVariants.{Hello, AddMatch, RegisterEvent, GetChildren, GetItems, GetPart}
use Rattle.atspi_protocol.specs.following.ReaderState.{Followed, Pending, Done, sends, speaks, tells_end, ReaderState, begins, is_named}
use Rattle.atspi_protocol.specs.following.Calls.{asking}
use Rattle.atspi_protocol.specs.following.Wishes.{wishes}
use Rattle.atspi_protocol.specs.following.Known.{closing_of, closings, end_of_connection, made_known, new_child, references_among, takes_child, takes_end, told_end, with_child, with_end}
use Rattle.atspi_protocol.specs.following.Replied.{children_signature, ends_call, goes_on_if, replied, takes_reply, with_children, with_items, with_part}
use Rattle.atspi_protocol.specs.following.Takes.{asks, asks_first, goes_on, lines_at, notes, reader_takes, starts, takes_news}
use Rattle.atspi_reader_calls.proofs.Meets.{asking_meets}
use Rattle.atspi_live_reader.specs.Spoken.{following, sent_in}
use Rattle.atspi_live_reader.proofs.Framing.{goes_at, goes_is, reply_at}

-- each message among what a reader did meets the rules
abbrev pub AllSent : List Done → Type 0
AllSent [] = ⊤
AllSent (sends e ∷ ds) = MeetsRules e × AllSent ds
AllSent (speaks name text ∷ ds) = AllSent ds
AllSent (tells_end name ∷ ds) = AllSent ds

both_sent : (xs ys : List Done) → AllSent xs → AllSent ys → AllSent (xs ++ ys)
both_sent [] ys p q = q
both_sent (sends e ∷ xs) ys p q = (p.0, both_sent xs ys p.1 q)
both_sent (speaks name text ∷ xs) ys p q = both_sent xs ys p q
both_sent (tells_end name ∷ xs) ys p q = both_sent xs ys p q

said_only : (name : List ℕ) (texts : List (List ℕ)) → AllSent (map (λ (line : List ℕ). speaks name line) texts)
said_only name [] = tt
said_only name (t ∷ ts) = said_only name ts

lines_only : (news : News) (app : Followed) → AllSent (lines_at news app)
lines_only news app = by app.view refl
  where
    by : (v : Option (Forest Row)) → app.view ≡ v → AllSent (lines_at news app)
    by None e = rw e tt
    by (Some view) e = rw e (said_only app.name (lines app.root app.name view news))

all_lines_only : (news : News) (apps : List Followed) → AllSent (flat_map (lines_at news) apps)
all_lines_only news [] = tt
all_lines_only news (app ∷ apps) = both_sent (lines_at news app) (flat_map (lines_at news) apps) (lines_only news app) (all_lines_only news apps)

closing_only : (app : Followed) → AllSent (closing_of app)
closing_only app = by app.view refl
  where
    by : (v : Option (Forest Row)) → app.view ≡ v → AllSent (closing_of app)
    by None e = rw e tt
    by (Some view) e = rw e (said_only app.name (closing_lines view))

closings_only : (apps : List Followed) → AllSent (closings apps)
closings_only [] = tt
closings_only (app ∷ apps) = both_sent (closing_of app) (closings apps) (closing_only app) (closings_only apps)

end_only : (name : List ℕ) → AllSent (end_of_connection name)
end_only name = by (is_bus_name name && is_unique_name name)
  where
    by : (b : Bool) → AllSent (if b then tells_end name ∷ [] else [])
    by true = tt
    by false = tt

-- a reader whose messages meet the rules, and whose next number is not 0
record IsSound (s : ReaderState) : Type 0 where
  out : AllSent s.out
  next : s.next ≢ 0

asks_sound : (s : ReaderState) (q : Question) → IsSound s → IsSound (asks s q)
asks_sound s q sound = record {
  out = both_sent s.out (sends (asking s.next q) ∷ []) sound.out (asking_meets s.next q sound.next, tt);
  next = λ e. omega (arith, e);
}

first_sound : (s : ReaderState) (qs : List Question) → IsSound s → IsSound (asks_first s qs)
first_sound s [] sound = sound
first_sound s (q ∷ qs) sound = asks_sound s q sound

goes_sound_at : (s : ReaderState) (o : Option Pending) (qs : List Question) → IsSound s → IsSound (goes_at s o qs)
goes_sound_at s (Some p) qs sound = sound
goes_sound_at s None (q ∷ qs) sound = asks_sound (record s { to_come = qs }) q (record { out = sound.out; next = sound.next })
goes_sound_at s None [] sound = first_sound s (wishes s.apps) sound

goes_sound : (s : ReaderState) → IsSound s → IsSound (goes_on s)
goes_sound s sound = subst (λ (t : ReaderState). IsSound t) (sym (goes_is s)) (goes_sound_at s s.pending s.to_come sound)

-- a reader that did and numbers the same
same_sound : (s t : ReaderState) → t.out ≡ s.out → t.next ≡ s.next → IsSound s → IsSound t
same_sound s t o n sound = record {
  out = subst (λ (w : List Done). AllSent w) (sym o) sound.out;
  next = subst (λ (k : ℕ). k ≢ 0) (sym n) sound.next;
}

goes_on_if_sound : (b : Bool) (s : ReaderState) → IsSound s → IsSound (goes_on_if b s)
goes_on_if_sound true s sound = sound
goes_on_if_sound false s sound = same_sound s (goes_on_if false s) refl refl sound

children_sound : (s : ReaderState) (e : Envelope) → IsSound s → IsSound (with_children s e)
children_sound s e sound = by (e.kind == 2 && bytes_eq (signature_of e.body) children_signature)
  where
    by : (b : Bool) → IsSound (if b then record s { registry = e.sender; apps = fold made_known s.apps (references_among (elements_of e.body)) } else goes_on_if false s)
    by true = same_sound s (record s { registry = e.sender; apps = fold made_known s.apps (references_among (elements_of e.body)) }) refl refl sound
    by false = same_sound s (goes_on_if false s) refl refl sound

items_sound : (s : ReaderState) (name : List ℕ) (o : Option (List Item)) → IsSound s → IsSound (with_items s name o)
items_sound s name (Some items) sound = same_sound s (with_items s name (Some items)) refl refl sound
items_sound s name None sound = same_sound s (with_items s name None) refl refl sound

part_sound : (s : ReaderState) (name path : List ℕ) (part : PartName) (o : Option News) → IsSound s → IsSound (with_part s name path part o)
part_sound s name path part (Some news) sound = same_sound s (with_part s name path part (Some news)) refl refl sound
part_sound s name path part None sound = same_sound s (with_part s name path part None) refl refl sound

replied_sound : (q : Question) (s : ReaderState) (e : Envelope) → IsSound s → IsSound (replied q s e)
replied_sound Hello s e sound = goes_on_if_sound _ s sound
replied_sound (AddMatch rule) s e sound = goes_on_if_sound _ s sound
replied_sound (RegisterEvent pattern) s e sound = goes_on_if_sound _ s sound
replied_sound GetChildren s e sound = children_sound s e sound
replied_sound (GetItems name) s e sound = items_sound s name (items_told e) sound
replied_sound (GetPart name path part) s e sound = part_sound s name path part (part_told part path e) sound

reply_sound_at : (s : ReaderState) (e : Envelope) (o : Option Pending) → IsSound s → IsSound (reply_at s e o)
reply_sound_at s e None sound = sound
reply_sound_at s e (Some p) sound = by (ends_call p e)
  where
    by : (b : Bool) → IsSound (if b then replied p.question (record s { pending = None }) e else s)
    by true = replied_sound p.question (record s { pending = None }) e (same_sound s (record s { pending = None }) refl refl sound)
    by false = sound

reply_sound : (s : ReaderState) (e : Envelope) → IsSound s → IsSound (takes_reply s e)
reply_sound s e sound = reply_sound_at s e s.pending sound

end_sound : (s : ReaderState) (o : Option (List ℕ)) → IsSound s → IsSound (with_end s o)
end_sound s None sound = sound
end_sound s (Some name) sound = record {
  out = both_sent s.out _ sound.out (both_sent (end_of_connection name) _ (end_only name) (closings_only (filter (is_named name) s.apps)));
  next = sound.next;
}

child_sound : (s : ReaderState) (o : Option Reference) → IsSound s → IsSound (with_child s o)
child_sound s None sound = sound
child_sound s (Some root) sound = same_sound s (with_child s (Some root)) refl refl sound

news_sound : (s : ReaderState) (e : Envelope) → IsSound s → IsSound (takes_news s e)
news_sound s e sound = record {
  out = both_sent s.out _ sound.out (all_lines_only (news_of (or_empty e.sender) e) (filter (is_named (or_empty e.sender)) s.apps));
  next = sound.next;
}

takes_sound : (s : ReaderState) (e : Envelope) → IsSound s → IsSound (reader_takes s e)
takes_sound s e sound =
    let s0 : ReaderState = notes s e in
    let s1 : ReaderState = takes_reply s0 e in
    let s2 : ReaderState = takes_end s1 e in
    let s3 : ReaderState = takes_child s2 e in
    goes_sound (takes_news s3 e)
    (news_sound s3 e (child_sound s2 (new_child s2 e) (end_sound s1 (told_end e) (reply_sound s0 e (same_sound s s0 refl refl sound)))))

all_sound : (took : List Envelope) (s : ReaderState) → IsSound s → IsSound (fold reader_takes s took)
all_sound [] s sound = sound
all_sound (e ∷ es) s sound = all_sound es (reader_takes s e) (takes_sound s e sound)

pub all_meet : (took : List Envelope) → AllSent (following took).out
all_meet took = (all_sound took (starts begins) (goes_sound begins (record { out = tt; next = λ e. omega (arith, e) }))).out

-- the one message among these meets them
pub meets_in : (ds : List Done) (e : Envelope) → sent_in ds ≡ e ∷ [] → AllSent ds → MeetsRules e
meets_in [] e h a = absurd cc
meets_in (sends x ∷ ds) e h a = let same : x ≡ e = cc in subst (λ (y : Envelope). MeetsRules y) same a.0
meets_in (speaks name text ∷ ds) e h a = meets_in ds e h a
meets_in (tells_end name ∷ ds) e h a = meets_in ds e h a

pub front_sent : (xs ys : List Done) → AllSent (xs ++ ys) → AllSent xs
front_sent [] ys a = tt
front_sent (sends e ∷ xs) ys a = (a.0, front_sent xs ys a.1)
front_sent (speaks name text ∷ xs) ys a = front_sent xs ys a
front_sent (tells_end name ∷ xs) ys a = front_sent xs ys a

pub back_sent : (xs ys : List Done) → AllSent (xs ++ ys) → AllSent ys
back_sent [] ys a = a
back_sent (sends e ∷ xs) ys a = back_sent xs ys a.1
back_sent (speaks name text ∷ xs) ys a = back_sent xs ys a
back_sent (tells_end name ∷ xs) ys a = back_sent xs ys a
