-- A test of the application with a name, before and after each change that a message makes: the test whether it is known, and whether a part of it is refused.
use Rattle.std.proofs.Common.{◌≡◌, ℕ, Bool, true, false, List, Option, Some, None, refl, sym, ap, ◌∙◌, inl, inr}
use Rattle.std.specs.Prelude.{◌==◌, ◌⊎◌}
use Rattle.std.specs.Option.{option_map}
use Rattle.atspi_message.specs.Envelope.{Envelope}
use Rattle.atspi_tree_model.specs.declared.view.Row.{Row}
use Rattle.atspi_tree_model.specs.declared.news.News.{News}
use Rattle.atspi_tree_model.specs.declared.news.News.TheVariants.{Nothing}
use Rattle.atspi_tree_model.specs.declared.news.Reference.{Reference}
use Rattle.atspi_tree_model.specs.Forest.{Forest}
use Rattle.atspi_protocol.specs.declared.news.part.PartName.{PartName}
use Rattle.atspi_protocol.specs.news.NewsOf.{news_of, or_empty}
use Rattle.atspi_protocol.specs.following.ReaderState.{Followed, ReaderState}
use Rattle.atspi_protocol.specs.following.Known.{made_known, new_child, with_child, takes_child, told_end, with_end, takes_end}
use Rattle.atspi_protocol.specs.following.Replied.{changed}
use Rattle.atspi_protocol.specs.following.Takes.{noted, notes, folded, still_refused, takes_news, found_in}
use Rattle.atspi_reader_laws.proofs.Found.{IsAsBefore, found_changed, found_without, without_it, found_made}
use Rattle.atspi_reader_laws.proofs.Ways.{taken, no_end, no_child, no_news, end_is_no_child}

-- a change of an application that keeps its name and its refused parts
pub record IsMild (change : Followed → Followed) : Type 0 where
  pub name : (app : Followed) → (change app).name ≡ app.name
  pub refused : (app : Followed) → (change app).refused ≡ app.refused

pub noted_mild : (serial : ℕ) → IsMild (noted serial)
noted_mild serial = record { name = λ app. refl; refused = λ app. refl }

pub folded_name : (news : News) (app : Followed) → (folded news app).name ≡ app.name
folded_name news app = by app.view refl
  where
    by : (o : Option (Forest Row)) → app.view ≡ o → (folded news app).name ≡ app.name
    by None e = rw e refl
    by (Some view) e = rw e refl

-- what stays refused of an application at news
abbrev pub still_in : Option (Forest Row) → News → List (List ℕ × PartName) → List (List ℕ × PartName)
still_in None news refused = refused
still_in (Some view) news refused = still_refused view news refused

pub folded_refused : (news : News) (app : Followed) → (folded news app).refused ≡ still_in app.view news app.refused
folded_refused news app = by app.view refl
  where
    by : (o : Option (Forest Row)) → app.view ≡ o → (folded news app).refused ≡ still_in o news app.refused
    by None e = rw e refl
    by (Some view) e = rw e refl

-- what is no news changes nothing of that
nothing_mild : IsMild (folded Nothing)
nothing_mild = record { name = folded_name Nothing; refused = λ app. folded_refused Nothing app ∙ by app.view app.refused }
  where
    by : (o : Option (Forest Row)) (refused : List (List ℕ × PartName)) → still_in o Nothing refused ≡ refused
    by None refused = refl
    by (Some view) refused = refl

-- A test that nobody passes where nothing is found, that asks for no more than the name and the refused parts, and that
-- nobody begins to pass at news.
pub record IsTest (test : Option Followed → Bool) : Type 0 where
  pub none : test None ≡ false
  pub mild : (change : Followed → Followed) → IsMild change → (o : Option Followed) → test (option_map change o) ≡ test o
  pub heard : (news : News) (o : Option Followed) → test (option_map (folded news) o) ≡ true → test o ≡ true

pub true_or_false : (b : Bool) → b ≡ true → b ≡ false → ⊥
true_or_false b p q = let no : true ≡ false = sym p ∙ q in absurd cc

module _ (test : Option Followed → Bool) (is : IsTest test) (name : List ℕ) where
  -- whether the application with the name passes
  abbrev pub passes : List Followed → Bool
  passes apps = test (found_in name apps)

  pub mildly : (change : Followed → Followed) → IsMild change → (n : List ℕ) (apps : List Followed) → passes (changed change n apps) ≡ passes apps
  mildly change mild n apps = found_changed change mild.name (λ o. test o ≡ passes apps) n name apps (λ same. is.mild change mild (found_in name apps)) refl

  pub noting : (s : ReaderState) (e : Envelope) → passes (notes s e).apps ≡ passes s.apps
  noting s e = mildly (noted e.serial) (noted_mild e.serial) (or_empty e.sender) s.apps

  -- who passes behind news passed before them
  pub heard_before : (s : ReaderState) (e : Envelope) → passes (takes_news s e).apps ≡ true → passes s.apps ≡ true
  heard_before s e =
      found_changed (folded (news_of (or_empty e.sender) e)) (folded_name (news_of (or_empty e.sender) e)) (λ o. test o ≡ true → passes s.apps ≡ true)
      (or_empty e.sender) name s.apps (λ same. is.heard (news_of (or_empty e.sender) e) (found_in name s.apps)) (λ was. was)

  pub heard_none : (s : ReaderState) (e : Envelope) → passes s.apps ≡ false → passes (takes_news s e).apps ≡ false
  heard_none s e none = by (passes (takes_news s e).apps) refl
    where
      by : (b : Bool) → passes (takes_news s e).apps ≡ b → passes (takes_news s e).apps ≡ false
      by true h = absurd (true_or_false (passes s.apps) (heard_before s e h) none)
      by false h = h

  hearing_nothing : (s : ReaderState) (e : Envelope) → (e.kind == 4) ≡ false → passes (takes_news s e).apps ≡ passes s.apps
  hearing_nothing s e other =
      ap (λ (news : News). passes (changed (folded news) (or_empty e.sender) s.apps)) (no_news (or_empty e.sender) e other)
      ∙ mildly (folded Nothing) nothing_mild (or_empty e.sender) s.apps

  -- who passed before news of its own, and does not behind them
  abbrev pub IsLostAt : ReaderState → Envelope → Type 0
  IsLostAt s e = (or_empty e.sender ≡ name) × (passes s.apps ≡ true) × (test (option_map (folded (news_of (or_empty e.sender) e)) (found_in name s.apps)) ≡ false)

  lost_hearing : (s : ReaderState) (e : Envelope) → passes s.apps ≡ true → passes (takes_news s e).apps ≡ false → IsLostAt s e
  lost_hearing s e passed =
      found_changed (folded (news_of (or_empty e.sender) e)) (folded_name (news_of (or_empty e.sender) e)) (λ o. test o ≡ false → IsLostAt s e)
      (or_empty e.sender) name s.apps (λ same lost. (same, passed, lost)) (λ lost. absurd (true_or_false (passes s.apps) passed lost))

  -- what was found stays so where others become known
  pub stays : (old now : Option Followed) → IsAsBefore old now → test old ≡ true → test now ≡ true
  stays old now (inl same) passed = ap test same ∙ passed
  stays old now (inr new) passed = absurd (true_or_false (test old) passed (ap test new.0 ∙ is.none))

  child_stays : (s : ReaderState) (child : Option Reference) → passes s.apps ≡ true → passes (with_child s child).apps ≡ true
  child_stays s None passed = passed
  child_stays s (Some root) passed = stays (found_in name s.apps) (found_in name (made_known s.apps root)) (found_made name s.apps root) passed

  -- who passed does not only where an end is told, or at news of its own
  end_stays : (s : ReaderState) (gone : Option (List ℕ)) → passes s.apps ≡ true → (passes (with_end s gone).apps ≡ true) ⊎ (gone ≡ Some name)
  end_stays s None passed = inl passed
  end_stays s (Some n) passed =
      found_without (λ o. (test o ≡ true) ⊎ (Some n ≡ Some name)) n name s.apps (λ (same : n ≡ name). inr (ap (λ (m : List ℕ). Some m) same)) (inl passed)

  pub lost_at : (s : ReaderState) (e : Envelope) → passes s.apps ≡ true → passes (taken s e).apps ≡ false
      → (told_end e ≡ Some name) ⊎ IsLostAt (takes_child (takes_end s e) e) e
  lost_at s e passed lost = by (end_stays s (told_end e) passed)
    where
      by : (passes (takes_end s e).apps ≡ true) ⊎ (told_end e ≡ Some name) → (told_end e ≡ Some name) ⊎ IsLostAt (takes_child (takes_end s e) e) e
      by (inr told) = inl told
      by (inl passed) = inr (lost_hearing (takes_child (takes_end s e) e) e (child_stays (takes_end s e) (new_child (takes_end s e) e) passed) lost)

  -- what is no signal changes nothing behind the reply
  pub no_signal_stays : (s : ReaderState) (e : Envelope) → (e.kind == 4) ≡ false → passes (taken s e).apps ≡ passes s.apps
  no_signal_stays s e other =
      hearing_nothing (takes_child (takes_end s e) e) e other
      ∙ ap (λ (child : Option Reference). passes (with_child (takes_end s e) child).apps) (no_child (takes_end s e) e other)
      ∙ ap (λ (gone : Option (List ℕ)). passes (with_end s gone).apps) (no_end e other)

  -- an end that is told leaves nobody with the name
  pub gone_at_end : (s : ReaderState) (e : Envelope) → told_end e ≡ Some name → passes (taken s e).apps ≡ false
  gone_at_end s e told =
      heard_none (takes_child (takes_end s e) e) e
      (ap (λ (child : Option Reference). passes (with_child (takes_end s e) child).apps) (end_is_no_child (takes_end s e) e name told)
      ∙ ap (λ (gone : Option (List ℕ)). passes (with_end s gone).apps) told
      ∙ ap test (nobody s)
      ∙ is.none)
    where
      nobody : (t : ReaderState) → found_in name (with_end t (Some name)).apps ≡ None
      nobody t = without_it name t.apps
