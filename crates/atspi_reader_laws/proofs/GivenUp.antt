-- Which parts are given up.
use Rattle.std.proofs.Common.{◌≡◌, ℕ, Bool, true, false, cond, not, List, [], ◌∷◌, ◌++◌, Option, Some, None, refl, sym, ap, subst, ◌∙◌, inl, inr}
use Rattle.std.specs.Prelude.{◌==◌, ◌||◌, ◌&&◌, ◌⊎◌, is_some, bytes_eq, if◌then◌else◌}
use Rattle.std.specs.List.{fold}
use Rattle.std.specs.Option.{option_map}
use Rattle.std.proofs.lemmas.Bool.{and_parts, or_cases, or_right}
use Rattle.std.proofs.lemmas.Slice.Eq.{bytes_eq-Decides}
use Rattle.atspi_message.specs.Envelope.{Envelope}
use Rattle.atspi_tree_model.specs.declared.view.Row.{Row}
use Rattle.atspi_tree_model.specs.declared.news.Item.{Item}
use Rattle.atspi_tree_model.specs.declared.news.News.{News}
use Rattle.atspi_tree_model.specs.declared.news.News.TheVariants.{Removed, ChildAdded, ChildRemoved, Name, Description, Role, State, Inserted, Deleted, Caret as CaretMoved, TextIs, CaretIs, ColumnsIs, Nothing, Item as NewItem}
use Rattle.atspi_tree_model.specs.declared.news.Reference.{Reference}
use Rattle.atspi_tree_model.specs.Forest.{Forest, has}
use Rattle.atspi_tree_model.specs.News.{is_path}
use Rattle.atspi_protocol.specs.declared.news.part.PartName.{PartName}
use Rattle.atspi_protocol.specs.declared.news.part.PartName.TheVariants.{Text, Caret, Columns}
use Rattle.atspi_protocol.specs.news.Arguments.{signature_of}
use Rattle.atspi_protocol.specs.news.NewsOf.{news_of, or_empty}
use Rattle.atspi_protocol.specs.news.Replies.{elements_of, items_told, part_told}
use Rattle.atspi_protocol.specs.declared.following.question.Question.{Question}
use Rattle.atspi_protocol.specs.declared.following.question.Question.TheVariants.{Hello, AddMatch, RegisterEvent, GetChildren, GetItems, GetPart}
use Rattle.atspi_protocol.specs.following.ReaderState.{Followed, ReaderState}
use Rattle.atspi_protocol.specs.following.Wishes.{same_part, is_refused, of_others}
use Rattle.atspi_protocol.specs.following.Known.{made_known, references_among, new_child, with_child, takes_child, told_end, with_end, takes_end}
use Rattle.atspi_protocol.specs.following.Replied.{changed, takes_reply, loaded, with_items, told_part, refused_part, with_part, goes_on_if, is_unique_name_alone, children_signature, replied}
use Rattle.atspi_protocol.specs.following.Takes.{noted, notes, folded, still_refused, reader_takes, found_in}
use Rattle.atspi_reader_laws.specs.Laws.{IsReplyTo, refused_of, is_given_up, GivesUp, BeginsAnew, ComesAnew, lacks, lacks_row, is_known}
use Rattle.atspi_reader_laws.proofs.Found.{IsAsBefore, changed_it, found_changed, found_without, without_it, found_made, found_all_made}
use Rattle.atspi_reader_laws.proofs.Ways.{free, taken, by_reply, no_news, reply_is_no_signal, apps_stay}
use Rattle.atspi_reader_laws.proofs.Tests.{IsLostAt, IsMild, IsTest, true_or_false, folded_name, folded_refused, still_in, noting, heard_before, heard_none, gone_at_end}
use Rattle.atspi_reader_laws.proofs.Forgotten.{is_there, there_test}
use Rattle.atspi_reader_laws.proofs.Replies.{told_mild, start_stays, unnoted, passes_on, after_reply}

abbrev Refusals : Type 0
Refusals = List (List ℕ × PartName)

-- the same part has the same name
same_part_is : (p q : PartName) → same_part p q ≡ true → p ≡ q
same_part_is Text Text e = refl
same_part_is Text Caret e = absurd cc
same_part_is Text Columns e = absurd cc
same_part_is Caret Text e = absurd cc
same_part_is Caret Caret e = refl
same_part_is Caret Columns e = absurd cc
same_part_is Columns Text e = absurd cc
same_part_is Columns Caret e = absurd cc
same_part_is Columns Columns e = refl

part_is_same : (p : PartName) → same_part p p ≡ true
part_is_same Text = refl
part_is_same Caret = refl
part_is_same Columns = refl

-- news are an item, or leave what was refused
item_or_same : (news : News) → ((item : Item) × (news ≡ NewItem item)) ⊎ ((view : Forest Row) (refused : Refusals) → still_refused view news refused ≡ refused)
item_or_same (NewItem item) = inl (item, refl)
item_or_same (Removed p) = inr (λ view refused. refl)
item_or_same (ChildAdded child) = inr (λ view refused. refl)
item_or_same (ChildRemoved p i child) = inr (λ view refused. refl)
item_or_same (Name p x) = inr (λ view refused. refl)
item_or_same (Description p x) = inr (λ view refused. refl)
item_or_same (Role p x) = inr (λ view refused. refl)
item_or_same (State p s on) = inr (λ view refused. refl)
item_or_same (Inserted p at x) = inr (λ view refused. refl)
item_or_same (Deleted p at n x) = inr (λ view refused. refl)
item_or_same (CaretMoved p at) = inr (λ view refused. refl)
item_or_same (TextIs p x) = inr (λ view refused. refl)
item_or_same (CaretIs p at) = inr (λ view refused. refl)
item_or_same (ColumnsIs p n) = inr (λ view refused. refl)
item_or_same Nothing = inr (λ view refused. refl)

module _ (path : List ℕ) (part : PartName) where
  -- those of the rows with other paths
  of_fewer : (p : List ℕ) (refused : Refusals) → is_refused (of_others p refused) path part ≡ true → is_refused refused path part ≡ true
  of_fewer p [] e = e
  of_fewer p (r ∷ refused) e = by (bytes_eq r.0 p) e (of_fewer p refused)
    where
      either : (b : Bool) → (b || is_refused (of_others p refused) path part) ≡ true → (is_refused (of_others p refused) path part ≡ true → is_refused refused path part ≡ true)
          → (b || is_refused refused path part) ≡ true
      either true e h = refl
      either false e h = h e

      by : (gone : Bool) → is_refused (cond (not gone) (r ∷ of_others p refused) (of_others p refused)) path part ≡ true
          → (is_refused (of_others p refused) path part ≡ true → is_refused refused path part ≡ true) → ((bytes_eq r.0 path && same_part r.1 part) || is_refused refused path part) ≡ true
      by true e h = or_right (bytes_eq r.0 path && same_part r.1 part) (is_refused refused path part) (h e)
      by false e h = either (bytes_eq r.0 path && same_part r.1 part) e h

  of_this : (refused : Refusals) → is_refused (of_others path refused) path part ≡ false
  of_this [] = refl
  of_this (r ∷ refused) = by (bytes_eq r.0 path) refl (of_this refused)
    where
      by : (gone : Bool) → bytes_eq r.0 path ≡ gone → is_refused (of_others path refused) path part ≡ false
          → is_refused (cond (not gone) (r ∷ of_others path refused) (of_others path refused)) path part ≡ false
      by true e h = h
      by false e h = ap (λ (b : Bool). (b && same_part r.1 part) || is_refused (of_others path refused) path part) e ∙ h

  of_other : (p : List ℕ) (refused : Refusals) → bytes_eq p path ≡ false → is_refused (of_others p refused) path part ≡ is_refused refused path part
  of_other p [] other = refl
  of_other p (r ∷ refused) other = by (bytes_eq r.0 p) refl (of_other p refused other)
    where
      by : (gone : Bool) → bytes_eq r.0 p ≡ gone → is_refused (of_others p refused) path part ≡ is_refused refused path part
          → is_refused (cond (not gone) (r ∷ of_others p refused) (of_others p refused)) path part ≡ ((bytes_eq r.0 path && same_part r.1 part) || is_refused refused path part)
      by true e h =
          let no : bytes_eq r.0 path ≡ false = ap (λ (q : List ℕ). bytes_eq q path) ((bytes_eq-Decides r.0 p).0 e) ∙ other in
          h ∙ sym (ap (λ (b : Bool). (b && same_part r.1 part) || is_refused refused path part) no)
      by false e h = ap (λ (b : Bool). (bytes_eq r.0 path && same_part r.1 part) || b) h

  -- what is refused behind news was so before them
  still_fewer : (o : Option (Forest Row)) (news : News) (refused : Refusals) → is_refused (still_in o news refused) path part ≡ true → is_refused refused path part ≡ true
  still_fewer None news refused e = e
  still_fewer (Some view) news refused e = by (item_or_same news)
    where
      either : (item : Item) (b : Bool) → is_refused (if b then refused else of_others item.object.path refused) path part ≡ true → is_refused refused path part ≡ true
      either item true e = e
      either item false e = of_fewer item.object.path refused e

      by : ((item : Item) × (news ≡ NewItem item)) ⊎ ((view : Forest Row) (refused : Refusals) → still_refused view news refused ≡ refused) → is_refused refused path part ≡ true
      by (inl is) = either is.0 (has (is_path is.0.object.path) view) (sym (ap (λ (n : News). is_refused (still_refused view n refused) path part) is.1) ∙ e)
      by (inr same) = sym (ap (λ (r : Refusals). is_refused r path part) (same view refused)) ∙ e

  -- and it is not any more only at an item of the path, which has no row
  abbrev IsAnew : Option (Forest Row) → News → Type 0
  IsAnew o news = (item : Item) × (news ≡ NewItem item) × (item.object.path ≡ path) × (lacks o path ≡ true)

  still_lost : (o : Option (Forest Row)) (news : News) (refused : Refusals) → is_refused refused path part ≡ true → is_refused (still_in o news refused) path part ≡ false → IsAnew o news
  still_lost None news refused was lost = absurd (true_or_false (is_refused refused path part) was lost)
  still_lost (Some view) news refused was lost = by (item_or_same news)
    where
      of_path : (item : Item) → news ≡ NewItem item → (same : Bool) → bytes_eq item.object.path path ≡ same → (there : Bool) → has (is_path item.object.path) view ≡ there
          → is_refused (if there then refused else of_others item.object.path refused) path part ≡ false → IsAnew (Some view) news
      of_path item is same e true h gone = absurd (true_or_false (is_refused refused path part) was gone)
      of_path item is false e false h gone = absurd (true_or_false (is_refused refused path part) was (sym (of_other item.object.path refused e) ∙ gone))
      of_path item is true e false h gone =
          let this : item.object.path ≡ path = (bytes_eq-Decides item.object.path path).0 e in
          (item, is, this, ap (λ (p : List ℕ). not (has (is_path p) view)) (sym this) ∙ ap not h)

      by : ((item : Item) × (news ≡ NewItem item)) ⊎ ((view : Forest Row) (refused : Refusals) → still_refused view news refused ≡ refused) → IsAnew (Some view) news
      by (inl is) =
          of_path is.0 is.1 (bytes_eq is.0.object.path path) refl (has (is_path is.0.object.path) view) refl
          (sym (ap (λ (n : News). is_refused (still_refused view n refused) path part) is.1) ∙ lost)
      by (inr same) = absurd (true_or_false (is_refused refused path part) was (sym (ap (λ (r : Refusals). is_refused r path part) (same view refused)) ∙ lost))

  -- at such an item nothing is refused of the path
  still_gone : (o : Option (Forest Row)) (item : Item) (refused : Refusals) → item.object.path ≡ path → lacks o path ≡ true → is_refused (still_in o (NewItem item) refused) path part ≡ false
  still_gone None item refused same none = absurd cc
  still_gone (Some view) item refused same none =
      ap (λ (p : List ℕ). is_refused (if has (is_path p) view then refused else of_others p refused) path part) same ∙ by (has (is_path path) view) none
    where
      by : (b : Bool) → not b ≡ true → is_refused (if b then refused else of_others path refused) path part ≡ false
      by true e = absurd cc
      by false e = of_this refused

  -- whether the part is refused by who was found
  abbrev pub refuses : Option Followed → Bool
  refuses o = is_refused (refused_of o) path part

  refuses_mildly : (change : Followed → Followed) → IsMild change → (o : Option Followed) → refuses (option_map change o) ≡ refuses o
  refuses_mildly change mild None = refl
  refuses_mildly change mild (Some app) = ap (λ (refused : Refusals). is_refused refused path part) (mild.refused app)

  refuses_heard : (news : News) (o : Option Followed) → refuses (option_map (folded news) o) ≡ true → refuses o ≡ true
  refuses_heard news None h = h
  refuses_heard news (Some app) h = still_fewer app.view news app.refused (sym (ap (λ (r : Refusals). is_refused r path part) (folded_refused news app)) ∙ h)

  pub refuses_test : IsTest refuses
  refuses_test = record { none = refl; mild = refuses_mildly; heard = refuses_heard }

  -- who refuses it no more behind news
  lost_item : (news : News) (o : Option Followed) → refuses o ≡ true → refuses (option_map (folded news) o) ≡ false
      → (item : Item) × (news ≡ NewItem item) × (item.object.path ≡ path) × (lacks_row o path ≡ true)
  lost_item news None was lost = absurd cc
  lost_item news (Some app) was lost = still_lost app.view news app.refused was (sym (ap (λ (r : Refusals). is_refused r path part) (folded_refused news app)) ∙ lost)

  gone_item : (item : Item) (o : Option Followed) → item.object.path ≡ path → lacks_row o path ≡ true → refuses (option_map (folded (NewItem item)) o) ≡ false
  gone_item item None same none = refl
  gone_item item (Some app) same none =
      ap (λ (r : Refusals). is_refused r path part) (folded_refused (NewItem item) app) ∙ still_gone app.view item app.refused same none

  -- one more
  one_more : (refused : Refusals) (p : List ℕ) (q : PartName) → is_refused refused path part ≡ true → is_refused (refused ++ (p, q) ∷ []) path part ≡ true
  one_more [] p q e = absurd cc
  one_more (r ∷ refused) p q e = by (bytes_eq r.0 path && same_part r.1 part) e (one_more refused p q)
    where
      by : (b : Bool) → (b || is_refused refused path part) ≡ true → (is_refused refused path part ≡ true → is_refused (refused ++ (p, q) ∷ []) path part ≡ true)
          → (b || is_refused (refused ++ (p, q) ∷ []) path part) ≡ true
      by true e h = refl
      by false e h = h e

  this_one : (refused : Refusals) → is_refused (refused ++ (path, part) ∷ []) path part ≡ true
  this_one [] = rw ((bytes_eq-Decides path path).1 refl, part_is_same part) refl
  this_one (r ∷ refused) = or_right (bytes_eq r.0 path && same_part r.1 part) (is_refused (refused ++ (path, part) ∷ []) path part) (this_one refused)

  or_before : (refused : Refusals) (p : List ℕ) (q : PartName) → is_refused (refused ++ (p, q) ∷ []) path part ≡ true → (is_refused refused path part ≡ true) ⊎ ((p ≡ path) × (q ≡ part))
  or_before [] p q e = by (or_cases (bytes_eq p path && same_part q part) false e)
    where
      by : ((bytes_eq p path && same_part q part) ≡ true) ⊎ (false ≡ true) → (is_refused [] path part ≡ true) ⊎ ((p ≡ path) × (q ≡ part))
      by (inl both) =
          let parts = and_parts (bytes_eq p path) (same_part q part) both in
          inr ((bytes_eq-Decides p path).0 parts.0, same_part_is q part parts.1)
      by (inr none) = absurd cc
  or_before (r ∷ refused) p q e = by (bytes_eq r.0 path && same_part r.1 part) e (or_before refused p q)
    where
      by : (b : Bool) → (b || is_refused (refused ++ (p, q) ∷ []) path part) ≡ true
          → (is_refused (refused ++ (p, q) ∷ []) path part ≡ true → (is_refused refused path part ≡ true) ⊎ ((p ≡ path) × (q ≡ part)))
          → ((b || is_refused refused path part) ≡ true) ⊎ ((p ≡ path) × (q ≡ part))
      by true e h = inl refl
      by false e h = h e

  more : (p : List ℕ) (q : PartName) (o : Option Followed) → refuses o ≡ true → refuses (option_map (refused_part p q) o) ≡ true
  more p q None e = e
  more p q (Some app) e = one_more app.refused p q e

  module _ (name : List ℕ) where
    abbrev given_up : List Followed → Bool
    given_up apps = refuses (found_in name apps)

    -- behind the reply to the call for all of the application nothing of it is refused
    none_loaded : (items : List Item) (o : Option Followed) → refuses (option_map (loaded items) o) ≡ false
    none_loaded items None = refl
    none_loaded items (Some app) = refl

    items_begin : (s : ReaderState) (o : Option (List Item)) → given_up (with_items s name o).apps ≡ false
    items_begin s (Some items) = ap refuses (changed_it (loaded items) (λ app. refl) name s.apps) ∙ none_loaded items (found_in name s.apps)
    items_begin s None = ap refuses (without_it name s.apps)

    pub begun_anew : (s : ReaderState) (e : Envelope) → BeginsAnew s e name → is_given_up (reader_takes s e) name path part ≡ false
    begun_anew s e (inl ended) =
        ap given_up (apps_stay (taken (takes_reply (notes s e) e) e)) ∙ gone_at_end refuses refuses_test name (takes_reply (notes s e) e) e ended
    begun_anew s e (inr r) = after_reply refuses refuses_test name (GetItems name) s e r ∙ items_begin (free (notes s e)) (items_told e)

    -- the call for a part of an application that is known
    refused_now : (o : Option Followed) → is_some o ≡ true → refuses (option_map (refused_part path part) o) ≡ true
    refused_now None known = absurd cc
    refused_now (Some app) known = this_one app.refused

    pub given_up_then : (s : ReaderState) (e : Envelope) → is_known s name ≡ true → GivesUp s e name path part → is_given_up (reader_takes s e) name path part ≡ true
    given_up_then s e known gives =
        let now : ReaderState = free (notes s e) in
        after_reply refuses refuses_test name (GetPart name path part) s e gives.0
        ∙ ap (λ (o : Option News). given_up (with_part now name path part o).apps) gives.1
        ∙ ap refuses (changed_it (refused_part path part) (λ app. refl) name now.apps)
        ∙ refused_now (found_in name now.apps) (noting is_there there_test name s e ∙ known)

    -- what is refused behind a message was so before it, or the message is the reply to the call for it and tells no such part
    as_before : (old now : Option Followed) → IsAsBefore old now → refuses now ≡ true → refuses old ≡ true
    as_before old now (inl same) e = sym (ap refuses same) ∙ e
    as_before old now (inr new) e = absurd (true_or_false (refuses now) e (ap refuses new.2))

    before_child : (s : ReaderState) (child : Option Reference) → given_up (with_child s child).apps ≡ true → given_up s.apps ≡ true
    before_child s None e = e
    before_child s (Some root) e = as_before (found_in name s.apps) (found_in name (made_known s.apps root)) (found_made name s.apps root) e

    before_end : (s : ReaderState) (gone : Option (List ℕ)) → given_up (with_end s gone).apps ≡ true → given_up s.apps ≡ true
    before_end s None e = e
    before_end s (Some n) e = found_without (λ o. refuses o ≡ true → given_up s.apps ≡ true) n name s.apps (λ same none. absurd cc) (λ was. was) e

    before_taken : (s : ReaderState) (e : Envelope) → given_up (taken s e).apps ≡ true → given_up s.apps ≡ true
    before_taken s e h =
        before_end s (told_end e) (before_child (takes_end s e) (new_child (takes_end s e) e) (heard_before refuses refuses_test name (takes_child (takes_end s e) e) e h))

    -- who refuses it before the news of a message is who was there before the message
    same_before : (s : ReaderState) (e : Envelope) → given_up (takes_child (takes_end s e) e).apps ≡ true
        → found_in name (takes_child (takes_end s e) e).apps ≡ found_in name s.apps
    same_before s e h =
        behind (takes_end s e) (new_child (takes_end s e) e) h ∙ ended s (told_end e) (before_child (takes_end s e) (new_child (takes_end s e) e) h)
      where
        made : (old now : Option Followed) → IsAsBefore old now → refuses now ≡ true → now ≡ old
        made old now (inl same) h = same
        made old now (inr new) h = absurd (true_or_false (refuses now) h (ap refuses new.2))

        behind : (t : ReaderState) (child : Option Reference) → given_up (with_child t child).apps ≡ true → found_in name (with_child t child).apps ≡ found_in name t.apps
        behind t None h = refl
        behind t (Some root) h = made (found_in name t.apps) (found_in name (made_known t.apps root)) (found_made name t.apps root) h

        ended : (t : ReaderState) (gone : Option (List ℕ)) → given_up (with_end t gone).apps ≡ true → found_in name (with_end t gone).apps ≡ found_in name t.apps
        ended t None h = refl
        ended t (Some n) h = found_without (λ o. refuses o ≡ true → o ≡ found_in name t.apps) n name t.apps (λ same none. absurd cc) (λ was. refl) h

    -- a serial that is noted changes no row
    lacks_noted : (serial : ℕ) (o : Option Followed) → lacks_row (option_map (noted serial) o) path ≡ lacks_row o path
    lacks_noted serial None = refl
    lacks_noted serial (Some app) = refl

    lacks_before : (s : ReaderState) (e : Envelope) → lacks_row (found_in name (notes s e).apps) path ≡ lacks_row (found_in name s.apps) path
    lacks_before s e =
        found_changed (noted e.serial) (λ app. refl) (λ o. lacks_row o path ≡ lacks_row (found_in name s.apps) path) (or_empty e.sender) name s.apps
        (λ same. lacks_noted e.serial (found_in name s.apps)) refl

    comes_anew : (s : ReaderState) (e : Envelope) → IsLostAt refuses refuses_test name (takes_child (takes_end (notes s e) e) e) e → ComesAnew s e name path
    comes_anew s e lost =
        let found = found_in name (takes_child (takes_end (notes s e) e) e).apps in
        let same = same_before (notes s e) e lost.1 in
        let why = lost_item (news_of (or_empty e.sender) e) found lost.1 lost.2 in
        record {
          sender = lost.0;
          item = why.0;
          told = ap (λ (n : List ℕ). news_of n e) (sym lost.0) ∙ why.1;
          of_path = why.2;
          no_row = sym (lacks_before s e) ∙ ap (λ (o : Option Followed). lacks_row o path) (sym same) ∙ why.3;
        }

    pub given_up_until : (s : ReaderState) (e : Envelope) → is_given_up s name path part ≡ true → is_given_up (reader_takes s e) name path part ≡ false
        → BeginsAnew s e name ⊎ ComesAnew s e name path
    given_up_until s e was lost = by (passes_on refuses refuses_test more name s e was lost)
      where
        by : BeginsAnew s e name ⊎ IsLostAt refuses refuses_test name (takes_child (takes_end (notes s e) e) e) e → BeginsAnew s e name ⊎ ComesAnew s e name path
        by (inl begun) = inl begun
        by (inr news) = inr (comes_anew s e news)

    pub row_anew : (s : ReaderState) (e : Envelope) → ComesAnew s e name path → is_given_up (reader_takes s e) name path part ≡ false
    row_anew s e c =
        ap given_up (apps_stay (taken (takes_reply (notes s e) e) e))
        ∙ by_reply (λ (now : ReaderState). given_up (taken now e).apps ≡ false) (notes s e) e (come (given_up (takes_child (takes_end (notes s e) e) e).apps) refl) answered
      where
        answered : (question : Question) → IsReplyTo question (notes s e) e → given_up (taken (replied question (free (notes s e)) e) e).apps ≡ false
        answered question r =
            let z : Nothing ≡ NewItem c.item = sym (no_news name e (reply_is_no_signal question (notes s e) e r)) ∙ c.told in
            absurd cc

        come : (b : Bool) → given_up (takes_child (takes_end (notes s e) e) e).apps ≡ b → given_up (taken (notes s e) e).apps ≡ false
        come false none = heard_none refuses refuses_test name (takes_child (takes_end (notes s e) e) e) e none
        come true was =
            let apps = (takes_child (takes_end (notes s e) e) e).apps in
            let same = same_before (notes s e) e was in
            ap (λ (n : List ℕ). refuses (found_in name (changed (folded (news_of n e)) n apps))) c.sender
            ∙ ap (λ (news : News). refuses (found_in name (changed (folded news) name apps))) c.told
            ∙ ap refuses (changed_it (folded (NewItem c.item)) (folded_name (NewItem c.item)) name apps)
            ∙ gone_item c.item (found_in name apps) c.of_path (ap (λ (o : Option Followed). lacks_row o path) same ∙ lacks_before s e ∙ c.no_row)

    abbrev WasOrGivesUp : ReaderState → Question → Envelope → Type 0
    WasOrGivesUp s question e = (given_up s.apps ≡ true) ⊎ ((question ≡ GetPart name path part) × (part_told part path e ≡ None))

    before_children : (s : ReaderState) (e : Envelope) (b : Bool)
        → given_up (if b then record s { registry = e.sender; apps = fold made_known s.apps (references_among (elements_of e.body)) } else goes_on_if false s).apps ≡ true → given_up s.apps ≡ true
    before_children s e true h =
        let roots = references_among (elements_of e.body) in
        as_before (found_in name s.apps) (found_in name (fold made_known s.apps roots)) (found_all_made name s.apps roots) h
    before_children s e false h = h

    before_items : (s : ReaderState) (n : List ℕ) (o : Option (List Item)) → given_up (with_items s n o).apps ≡ true → given_up s.apps ≡ true
    before_items s n (Some items) =
        found_changed (loaded items) (λ app. refl) (λ o. refuses o ≡ true → given_up s.apps ≡ true) n name s.apps
        (λ same now. absurd (true_or_false (refuses (option_map (loaded items) (found_in name s.apps))) now (none_loaded items (found_in name s.apps)))) (λ was. was)
    before_items s n None = found_without (λ o. refuses o ≡ true → given_up s.apps ≡ true) n name s.apps (λ same none. absurd cc) (λ was. was)

    was_or_this : (n p : List ℕ) (q : PartName) (e : Envelope) → n ≡ name → part_told q p e ≡ None → (o : Option Followed) → refuses (option_map (refused_part p q) o) ≡ true
        → (refuses o ≡ true) ⊎ ((GetPart n p q ≡ GetPart name path part) × (part_told part path e ≡ None))
    was_or_this n p q e same told None h = inl h
    was_or_this n p q e same told (Some app) h = by (or_before app.refused p q h)
      where
        by : (is_refused app.refused path part ≡ true) ⊎ ((p ≡ path) × (q ≡ part))
            → (is_refused app.refused path part ≡ true) ⊎ ((GetPart n p q ≡ GetPart name path part) × (part_told part path e ≡ None))
        by (inl was) = inl was
        by (inr this) = inr (
          rw (same, this.0, this.1) refl,
          subst (λ (x : List ℕ). part_told part x e ≡ None) this.0 (subst (λ (x : PartName). part_told x p e ≡ None) this.1 told),
        )

    before_part : (s : ReaderState) (n p : List ℕ) (q : PartName) (e : Envelope) (o : Option News) → part_told q p e ≡ o → given_up (with_part s n p q o).apps ≡ true
        → WasOrGivesUp s (GetPart n p q) e
    before_part s n p q e (Some news) told h =
        inl (found_changed (told_part news) (told_mild news).name (λ o. refuses o ≡ true → given_up s.apps ≡ true) n name s.apps
        (λ same now. sym (refuses_mildly (told_part news) (told_mild news) (found_in name s.apps)) ∙ now) (λ was. was) h)
    before_part s n p q e None told h =
        found_changed (refused_part p q) (λ app. refl) (λ o. refuses o ≡ true → WasOrGivesUp s (GetPart n p q) e) n name s.apps
        (λ same now. was_or_this n p q e same told (found_in name s.apps) now) (λ was. inl was) h

    before_start : (goes : Bool) (s : ReaderState) → given_up (goes_on_if goes s).apps ≡ true → given_up s.apps ≡ true
    before_start goes s h = sym (ap given_up (start_stays goes s)) ∙ h

    before_reply : (question : Question) (s : ReaderState) (e : Envelope) → given_up (replied question s e).apps ≡ true → WasOrGivesUp s question e
    before_reply Hello s e h = inl (before_start (e.kind == 2 && is_unique_name_alone e.body) s h)
    before_reply (AddMatch rule) s e h = inl (before_start (e.kind == 2) s h)
    before_reply (RegisterEvent pattern) s e h = inl (before_start (e.kind == 2) s h)
    before_reply GetChildren s e h = inl (before_children s e (e.kind == 2 && bytes_eq (signature_of e.body) children_signature) h)
    before_reply (GetItems n) s e h = inl (before_items s n (items_told e) h)
    before_reply (GetPart n p q) s e h = before_part s n p q e (part_told q p e) refl h

    pub given_up_only : (s : ReaderState) (e : Envelope) → is_given_up s name path part ≡ false → is_given_up (reader_takes s e) name path part ≡ true → GivesUp s e name path part
    given_up_only s e before after = by_reply (λ (now : ReaderState). given_up now.apps ≡ true → GivesUp s e name path part) (notes s e) e
        (λ was. absurd (true_or_false (given_up s.apps) (sym (noting refuses refuses_test name s e) ∙ was) before))
        (λ question r h. by question r (before_reply question (free (notes s e)) e h))
        (before_taken (takes_reply (notes s e) e) e (sym (ap given_up (apps_stay (taken (takes_reply (notes s e) e) e))) ∙ after))
      where
        by : (question : Question) → IsReplyTo question (notes s e) e → WasOrGivesUp (free (notes s e)) question e → GivesUp s e name path part
        by question r (inl was) = absurd (true_or_false (given_up s.apps) (sym (noting refuses refuses_test name s e) ∙ was) before)
        by question r (inr this) = (subst (λ (x : Question). IsReplyTo x s e) this.0 (unnoted question s e r), this.1)
