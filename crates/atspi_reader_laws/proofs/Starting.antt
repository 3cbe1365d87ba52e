-- What a reader asks next, and how its start goes on and ends.
use Rattle.std.proofs.Common.{◌≡◌, ◌≢◌, ℕ, Bool, true, false, not, List, [], ◌∷◌, ◌++◌, map, filter, Option, Some, None, refl, sym, ap, subst, ◌∙◌, inl, inr}
use Rattle.std.specs.Prelude.{◌==◌, ◌||◌, ◌&&◌, ◌⊎◌, bytes_eq, flat_map, if◌then◌else◌}
use Rattle.std.specs.List.{list_all, fold}
use Rattle.std.proofs.lemmas.Bool.{and_parts, and_from, or_cases, eqb-true, not-true}
use Rattle.atspi_message.specs.Envelope.{Envelope}
use Rattle.atspi_tree_model.specs.declared.view.Row.{Row}
use Rattle.atspi_tree_model.specs.declared.news.Item.{Item}
use Rattle.atspi_tree_model.specs.declared.news.News.{News}
use Rattle.atspi_tree_model.specs.declared.news.Reference.{Reference}
use Rattle.atspi_tree_model.specs.Forest.{Forest, labels}
use Rattle.atspi_protocol.specs.declared.news.part.PartName.{PartName}
use Rattle.atspi_protocol.specs.news.Arguments.{signature_of}
use Rattle.atspi_protocol.specs.news.Replies.{elements_of, items_told, part_told}
use Rattle.atspi_protocol.specs.declared.following.question.Question.{Question}
use Rattle.atspi_protocol.specs.declared.following.question.Question.TheVariants.{Hello, AddMatch, RegisterEvent, GetChildren, GetItems, GetPart}
use Rattle.atspi_protocol.specs.following.ReaderState.{Followed, Pending, ReaderState}
use Rattle.atspi_protocol.specs.following.Wishes.{row_wishes, wishes_of, wishes, unknown_parts, is_refused}
use Rattle.atspi_protocol.specs.following.Known.{made_known, references_among, new_child, with_child, told_end, with_end, takes_end}
use Rattle.atspi_protocol.specs.following.Replied.{is_reply_to, may_answer, with_items, with_part, goes_on_if, is_unique_name_alone, children_signature, replied}
use Rattle.atspi_protocol.specs.following.Takes.{notes, asks, goes_on, reader_takes}
use Rattle.atspi_reader_laws.specs.Laws.{IsReplyTo, RestsOnlyAtEnd, is_of_start, fails_start, EndsStart, waits_for_start, IsStartOver, IsOfStart, AsksFirst, AsksInOrder}
use Rattle.atspi_reader_laws.proofs.Ways.{free, taken, by_reply, reply_is, by_asking}
use Rattle.atspi_reader_laws.proofs.Replies.{unnoted, as_noted}

pub rests : (s : ReaderState) → RestsOnlyAtEnd (goes_on s)
rests s = by_asking RestsOnlyAtEnd s (λ p w none. absurd (some_call p (sym w ∙ none))) (λ w c q none. (c, q))
    (λ question to_come w c none. absurd cc) (λ question questions w c q none. absurd cc)
  where
    some_call : (p : Pending) → Some p ≡ None → ⊥
    some_call p e = absurd cc

-- ends, children and news leave the start and the call that waits as they are
abbrev Same : ReaderState → ReaderState → Type 0
Same s now = (now.to_come ≡ s.to_come) × (now.pending ≡ s.pending)

child_same : (s : ReaderState) (child : Option Reference) → Same s (with_child s child)
child_same s None = (refl, refl)
child_same s (Some root) = (refl, refl)

end_same : (s : ReaderState) (gone : Option (List ℕ)) → Same s (with_end s gone)
end_same s None = (refl, refl)
end_same s (Some name) = (refl, refl)

taken_same : (s : ReaderState) (e : Envelope) → Same s (taken s e)
taken_same s e =
    let gone = end_same s (told_end e) in
    let child = child_same (takes_end s e) (new_child (takes_end s e) e) in
    (child.0 ∙ gone.0, child.1 ∙ gone.1)

-- a reply is a return or an error
return_or_error : (k : ℕ) → (k == 2 || k == 3) ≡ true → (k == 2) ≡ not (k == 3)
return_or_error k e = by (or_cases (k == 2) (k == 3) e)
  where
    by : ((k == 2) ≡ true) ⊎ ((k == 3) ≡ true) → (k == 2) ≡ not (k == 3)
    by (inl h) = rw (eqb-true k 2 h) refl
    by (inr h) = rw (eqb-true k 3 h) refl

either_kind : (question : Question) (s : ReaderState) (e : Envelope) → IsReplyTo question s e → (e.kind == 2) ≡ not (e.kind == 3)
either_kind question s e r =
    return_or_error e.kind (and_parts (e.kind == 2 || e.kind == 3) (is_reply_to r.serial e.reply && may_answer question e) r.ends).0

fits_or_fails : (returned failed fits : Bool) → returned ≡ not failed → (returned && fits) ≡ not (failed || not fits)
fits_or_fails true true fits e = absurd cc
fits_or_fails true false true e = refl
fits_or_fails true false false e = refl
fits_or_fails false true fits e = refl
fits_or_fails false false fits e = absurd cc

-- a reply that fails the start leaves nothing of it to come, and any other leaves it as it is
abbrev GoesOn : Bool → ReaderState → ReaderState → Type 0
GoesOn true s now = (now.to_come ≡ []) × (now.pending ≡ s.pending)
GoesOn false s now = Same s now

start_goes : (goes fails : Bool) → goes ≡ not fails → (s : ReaderState) → GoesOn fails s (goes_on_if goes s)
start_goes true true e s = absurd cc
start_goes true false e s = (refl, refl)
start_goes false true e s = (refl, refl)
start_goes false false e s = absurd cc

children_go : (goes fails : Bool) → goes ≡ not fails → (s : ReaderState) (e : Envelope)
    → GoesOn fails s (if goes then record s { registry = e.sender; apps = fold made_known s.apps (references_among (elements_of e.body)) } else goes_on_if false s)
children_go true true h s e = absurd cc
children_go true false h s e = (refl, refl)
children_go false true h s e = (refl, refl)
children_go false false h s e = absurd cc

items_go : (s : ReaderState) (name : List ℕ) (o : Option (List Item)) → Same s (with_items s name o)
items_go s name None = (refl, refl)
items_go s name (Some items) = (refl, refl)

part_goes : (s : ReaderState) (name path : List ℕ) (part : PartName) (o : Option News) → Same s (with_part s name path part o)
part_goes s name path part None = (refl, refl)
part_goes s name path part (Some news) = (refl, refl)

reply_goes : (question : Question) (s : ReaderState) (e : Envelope) → (e.kind == 2) ≡ not (e.kind == 3) → GoesOn (fails_start question e) s (replied question s e)
reply_goes Hello s e k =
    start_goes (e.kind == 2 && is_unique_name_alone e.body) (e.kind == 3 || not (is_unique_name_alone e.body)) (fits_or_fails (e.kind == 2) (e.kind == 3) (is_unique_name_alone e.body) k) s
reply_goes (AddMatch rule) s e k = start_goes (e.kind == 2) (e.kind == 3) k s
reply_goes (RegisterEvent pattern) s e k = start_goes (e.kind == 2) (e.kind == 3) k s
reply_goes GetChildren s e k =
    let fits = bytes_eq (signature_of e.body) children_signature in
    children_go (e.kind == 2 && fits) (e.kind == 3 || not fits) (fits_or_fails (e.kind == 2) (e.kind == 3) fits k) s e
reply_goes (GetItems name) s e k = items_go s name (items_told e)
reply_goes (GetPart name path part) s e k = part_goes s name path part (part_told part path e)

-- a reader that asks on asks in the order of what is to come
asks_on : (s now : ReaderState) → now.to_come ≡ s.to_come → AsksInOrder s (goes_on now)
asks_on s now same = by_asking (AsksInOrder s) now (λ p w. inl same) (λ w c q. inl same)
    (λ question to_come w c. inr (record { question = question; was = sym same ∙ c; serial = now.next; waits = refl })) (λ question questions w c q. inl same)

pub in_order : (s : ReaderState) (e : Envelope) → EndsStart s e ⊎ AsksInOrder s (reader_takes s e)
in_order s e = by_reply (λ (now : ReaderState). EndsStart s e ⊎ AsksInOrder s (goes_on (taken now e))) (notes s e) e
    (inr (asks_on s (taken (notes s e) e) (taken_same (notes s e) e).0))
    (λ question r. by question r (fails_start question e) refl (reply_goes question (free (notes s e)) e (either_kind question (notes s e) e r)))
  where
    by : (question : Question) → IsReplyTo question (notes s e) e → (fails : Bool) → fails_start question e ≡ fails → GoesOn fails (free (notes s e)) (replied question (free (notes s e)) e)
        → EndsStart s e ⊎ AsksInOrder s (goes_on (taken (replied question (free (notes s e)) e) e))
    by question r true fails goes = inl (record { question = question; reply = unnoted question s e r; fails = fails })
    by question r false fails goes =
        let now : ReaderState = replied question (free (notes s e)) e in
        inr (asks_on s (taken now e) ((taken_same now e).0 ∙ goes.0))

-- no wish is of the start
abbrev is_late : Question → Bool
is_late question = not (is_of_start question)

late_both : (xs ys : List Question) → list_all is_late xs ≡ true → list_all is_late ys ≡ true → list_all is_late (xs ++ ys) ≡ true
late_both [] ys p q = q
late_both (x ∷ xs) ys p q =
    let parts = and_parts (is_late x) (list_all is_late xs) p in
    and_from (is_late x) (list_all is_late (xs ++ ys)) parts.0 (late_both xs ys parts.1 q)

late_parts : (name path : List ℕ) (parts : List PartName) → list_all is_late (map (λ (part : PartName). GetPart name path part) parts) ≡ true
late_parts name path [] = refl
late_parts name path (part ∷ parts) = late_parts name path parts

late_rows : (app : Followed) (rows : List Row) → list_all is_late (flat_map (row_wishes app) rows) ≡ true
late_rows app [] = refl
late_rows app (row ∷ rows) =
    late_both (row_wishes app row) (flat_map (row_wishes app) rows)
    (late_parts app.name row.path (filter (λ (part : PartName). not (is_refused app.refused row.path part)) (unknown_parts row))) (late_rows app rows)

late_of : (app : Followed) → list_all is_late (wishes_of app) ≡ true
late_of app = by app.view refl
  where
    loads : (view : Forest Row) (b : Bool) → list_all is_late (if b then GetItems app.name ∷ [] else flat_map (row_wishes app) (labels view)) ≡ true
    loads view true = refl
    loads view false = late_rows app (labels view)

    by : (o : Option (Forest Row)) → app.view ≡ o → list_all is_late (wishes_of app) ≡ true
    by None e = rw e refl
    by (Some view) e = rw e (loads view app.reload)

wishes_late : (apps : List Followed) → list_all is_late (wishes apps) ≡ true
wishes_late [] = refl
wishes_late (app ∷ apps) = late_both (wishes_of app) (wishes apps) (late_of app) (wishes_late apps)

first_late : (apps : List Followed) (question : Question) (questions : List Question) → wishes apps ≡ question ∷ questions → is_of_start question ≡ false
first_late apps question questions e =
    not-true (is_of_start question) (and_parts (is_late question) (list_all is_late questions) (sym (ap (list_all is_late) e) ∙ wishes_late apps)).0

-- where nothing of the start is to come and no call waits, it is over
over : (now : ReaderState) → now.to_come ≡ [] → now.pending ≡ None → IsStartOver (goes_on now)
over now none free = by_asking IsStartOver now (λ p w. (none, ap waits_for_start free)) (λ w c q. (none, ap waits_for_start free))
    (λ question to_come w c. absurd (nothing question to_come (sym c ∙ none)))
    (λ question questions w c q. (none, first_late now.apps question questions q))
  where
    nothing : (question : Question) (to_come : List Question) → question ∷ to_come ≡ [] → ⊥
    nothing question to_come e = absurd cc

pub ended : (s : ReaderState) (e : Envelope) → EndsStart s e → IsStartOver (reader_takes s e)
ended s e ends =
    let question : Question = ends.question in
    let r = as_noted question s e ends.reply in
    let now : ReaderState = replied question (free (notes s e)) e in
    let fails : GoesOn true (free (notes s e)) now = subst (λ (b : Bool). GoesOn b (free (notes s e)) now) ends.fails (reply_goes question (free (notes s e)) e (either_kind question (notes s e) e r)) in
    let same : Same now (taken now e) = taken_same now e in
    subst (λ (t : ReaderState). IsStartOver (goes_on (taken t e))) (sym (reply_is question (notes s e) e r)) (over (taken now e) (same.0 ∙ fails.0) (same.1 ∙ fails.1))

-- the first of those to come, and the others
first_of : (question : Question) (s now : ReaderState) → IsOfStart s → s.to_come ≡ question ∷ now.to_come → (is_of_start question ≡ true) × IsOfStart now
first_of question s now all was = and_parts (is_of_start question) (list_all is_of_start now.to_come) (sym (ap (list_all is_of_start) was) ∙ all)

pub ended_only : (s : ReaderState) (e : Envelope) → IsOfStart s → s.to_come ≢ [] → IsStartOver (reader_takes s e) → EndsStart s e
ended_only s e all some is_over = by (in_order s e)
  where
    waits : (now : ReaderState) → IsStartOver now → AsksFirst s now → ⊥
    waits now is first =
        let yes : is_of_start first.question ≡ true = (first_of first.question s now all first.was).0 in
        let no : is_of_start first.question ≡ false = sym (ap waits_for_start first.waits) ∙ is.1 in
        let both : true ≡ false = sym yes ∙ no in absurd cc

    by : EndsStart s e ⊎ AsksInOrder s (reader_takes s e) → EndsStart s e
    by (inl ends) = ends
    by (inr (inl same)) = absurd (some (sym same ∙ is_over.0))
    by (inr (inr first)) = absurd (waits (reader_takes s e) is_over first)

-- all that is to come is of the start, once it was
pub start_of_start : (s : ReaderState) → IsOfStart s → IsOfStart (goes_on s)
start_of_start s all = by_asking IsOfStart s (λ p w. all) (λ w c q. all)
    (λ question to_come w c. (first_of question s (asks (record s { to_come = to_come }) question) all c).1) (λ question questions w c q. all)

pub message_of_start : (s : ReaderState) (e : Envelope) → IsOfStart s → IsOfStart (reader_takes s e)
message_of_start s e all = by (in_order s e)
  where
    by : EndsStart s e ⊎ AsksInOrder s (reader_takes s e) → IsOfStart (reader_takes s e)
    by (inl ends) = ap (list_all is_of_start) (ended s e ends).0
    by (inr (inl same)) = ap (list_all is_of_start) same ∙ all
    by (inr (inr first)) = (first_of first.question s (reader_takes s e) all first.was).1
