-- Parts of a step that are read of one application: its news, its load, its place among those that are held.
use Rattle.std.proofs.Common.{◌≡◌, ℕ, zero, suc, ◌+◌, ◌-◌, ◌<◌, Bool, true, false, cond, List, ◌∷◌, ◌++◌, filter, map, flat_map, length, drop, get_or, add-one, Option, Some, None, sym, ap, ◌∙◌, arith, chars}
use Rattle.std.specs.Prelude.{slice_get}
use Rattle.std.specs.List.{list_any}
use Rattle.std.proofs.Math.Seq.{drop-cons}
use Rattle.std.proofs.lemmas.List.{append-nil}
use Rattle.std.proofs.lemmas.Str.{chars-IsAscii}
use Rattle.atspi_base.specs.valid_names.Names.{IsBusName}
use Rattle.atspi_base.proofs.OfValidNames.NameLemmas.{IsAscii-IsBusName}
use Rattle.atspi_message.specs.Envelope.{Envelope}
use Rattle.atspi_tree_model.specs.declared.news.News.{News}
use Rattle.atspi_tree_model.specs.declared.news.Reference.{Reference}
use Rattle.atspi_protocol.specs.news.NewsOf.{news_of}
use Rattle.atspi_protocol.specs.following.ReaderState.{Followed, Done, ReaderState, is_named}
use Rattle.atspi_protocol.specs.following.Known.{made_known, new_child, with_child, takes_child}
use Rattle.atspi_protocol.specs.following.Takes.{lines_at, found_in, is_held}
use Rattle.atspi_reader_known.specs.Unique.{AreUnique}
use Rattle.atspi_reader.specs.inner.Turns.{listed}
use Rattle.atspi_reader.proofs.Changed.{only_found, only_none, nobody_found}

-- the new child of a message
pub child_some : (s : ReaderState) (e : Envelope) (root : Reference) → Some root ≡ new_child s e → made_known s.apps root ≡ (takes_child s e).apps
child_some s e root h = ap (λ (o : Option Reference). (with_child s o).apps) h

pub child_none : (s : ReaderState) (e : Envelope) → None ≡ new_child s e → s.apps ++ listed None ≡ (takes_child s e).apps
child_none s e h = append-nil s.apps ∙ ap (λ (o : Option Reference). (with_child s o).apps) h

-- what is spoken of the one of a name
pub lines_found : (told : News) (n : List ℕ) (apps : List Followed) (a : Followed) → AreUnique apps → found_in n apps ≡ Some a → lines_at told a ≡ flat_map (lines_at told) (filter (is_named n) apps)
lines_found told n apps a u f = sym (ap (flat_map (lines_at told)) (only_found n apps a u f) ∙ append-nil (lines_at told a))

pub lines_none : (told : News) (n : List ℕ) (apps : List Followed) (before : List Done) → found_in n apps ≡ None → before ≡ before ++ flat_map (lines_at told) (filter (is_named n) apps)
lines_none told n apps before f = sym (ap (λ (l : List Followed). before ++ flat_map (lines_at told) l) (only_none n apps (nobody_found n apps f)) ∙ append-nil before)

pub untold : (n : List ℕ) (apps : List Followed) (x y : News) → found_in n apps ≡ None → list_any (is_named n) apps ≡ true → x ≡ y
untold n apps x y f h = let none = nobody_found n apps f in absurd (apart (list_any (is_named n) apps) h none)
  where
    apart : (b : Bool) → b ≡ true → b ≡ false → ⊥
    apart b e f = cc

-- news are read by the application's name, which is the sender's
pub news_by_name : (spelled name sender : List ℕ) (e : Envelope) → IsBusName name → spelled ≡ name → name ≡ sender → news_of (chars spelled) e ≡ news_of sender e
news_by_name spelled name sender e rule s n =
    ap (λ (x : List ℕ). news_of x e) (ap chars s ∙ chars-IsAscii name (IsAscii-IsBusName name rule) ∙ n)

-- the names of those that are held
abbrev pub held_of : List Followed → List (List ℕ)
held_of apps = map (λ (app : Followed). app.name) (filter is_held apps)

module _ (apps : List Followed) (i : ℕ) (a : Followed) (l : i < length apps) (is : a ≡ get_or apps i a) where
  front : drop i apps ≡ a ∷ drop (i + 1) apps
  front = drop-cons apps i a l ∙ ap (λ (x : Followed). x ∷ drop (suc i) apps) (sym is) ∙ ap (λ (n : ℕ). a ∷ drop n apps) (sym (add-one i))

  pub held_first : is_held a ≡ true → held_of (drop i apps) ≡ a.name ∷ held_of (drop (i + 1) apps)
  held_first h = ap held_of front ∙ ap (λ (b : Bool). map (λ (app : Followed). app.name) (cond b (a ∷ filter is_held (drop (i + 1) apps)) (filter is_held (drop (i + 1) apps)))) h

  pub held_not : is_held a ≡ false → held_of (drop i apps) ≡ held_of (drop (i + 1) apps)
  held_not h = ap held_of front ∙ ap (λ (b : Bool). map (λ (app : Followed). app.name) (cond b (a ∷ filter is_held (drop (i + 1) apps)) (filter is_held (drop (i + 1) apps)))) h

  pub this_one : (left : ℕ) (whole : Option (List ℕ)) → is_held a ≡ true → left ≡ 0 → slice_get (held_of (drop i apps)) left ≡ whole → Some a.name ≡ whole
  this_one left whole h z e = sym (ap (λ (n : ℕ). slice_get (held_of (drop i apps)) n) z ∙ ap (λ (l : List (List ℕ)). slice_get l 0) (held_first h)) ∙ e

  pub another_one : (left : ℕ) (whole : Option (List ℕ)) → is_held a ≡ true → 0 < left → slice_get (held_of (drop i apps)) left ≡ whole → slice_get (held_of (drop (i + 1) apps)) (left - 1) ≡ whole
  another_one zero whole h z e = absurd (omega (arith, z))
  another_one (suc n) whole h z e =
      let less : suc n - 1 ≡ n = omega arith in
      ap (slice_get (held_of (drop (i + 1) apps))) less ∙ sym (ap (λ (l : List (List ℕ)). slice_get l (suc n)) (held_first h)) ∙ e

  pub no_one : (left : ℕ) (whole : Option (List ℕ)) → is_held a ≡ false → slice_get (held_of (drop i apps)) left ≡ whole → slice_get (held_of (drop (i + 1) apps)) left ≡ whole
  no_one left whole h e = sym (ap (λ (l : List (List ℕ)). slice_get l left) (held_not h)) ∙ e
