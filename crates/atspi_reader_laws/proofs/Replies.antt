-- A test of the application with a name, before and after a reply.
use Rattle.std.proofs.Common.{◌≡◌, ℕ, Bool, true, false, List, Option, Some, None, refl, sym, ap, subst, ◌∙◌, inl, inr}
use Rattle.std.specs.Prelude.{◌==◌, ◌&&◌, ◌⊎◌, bytes_eq, if◌then◌else◌}
use Rattle.std.specs.List.{fold}
use Rattle.std.specs.Option.{option_map}
use Rattle.atspi_message.specs.Envelope.{Envelope}
use Rattle.atspi_tree_model.specs.declared.view.Row.{Row}
use Rattle.atspi_tree_model.specs.declared.news.Item.{Item}
use Rattle.atspi_tree_model.specs.declared.news.News.{News}
use Rattle.atspi_tree_model.specs.Forest.{Forest}
use Rattle.atspi_protocol.specs.declared.news.part.PartName.{PartName}
use Rattle.atspi_protocol.specs.news.Arguments.{signature_of}
use Rattle.atspi_protocol.specs.news.Replies.{elements_of, items_told, part_told}
use Rattle.atspi_protocol.specs.declared.following.question.Question.{Question}
use Rattle.atspi_protocol.specs.declared.following.question.Question.TheVariants.{Hello, AddMatch, RegisterEvent, GetChildren, GetItems, GetPart}
use Rattle.atspi_protocol.specs.following.ReaderState.{Followed, ReaderState}
use Rattle.atspi_protocol.specs.following.Known.{made_known, references_among, takes_child, told_end, takes_end}
use Rattle.atspi_protocol.specs.following.Replied.{loaded, with_items, told_part, refused_part, with_part, goes_on_if, is_unique_name_alone, children_signature, replied, takes_reply}
use Rattle.atspi_protocol.specs.following.Takes.{notes, reader_takes, found_in}
use Rattle.atspi_reader_laws.specs.Laws.{IsReplyTo, BeginsAnew}
use Rattle.atspi_reader_laws.proofs.Found.{found_changed, found_without, found_all_made}
use Rattle.atspi_reader_laws.proofs.Ways.{free, taken, by_reply, reply_is, reply_is_no_signal, apps_stay}
use Rattle.atspi_reader_laws.proofs.Tests.{IsLostAt, IsMild, IsTest, true_or_false, noting, stays, lost_at, no_signal_stays}

pub told_mild : (news : News) → IsMild (told_part news)
told_mild news = record { name = λ app. named app app.view refl; refused = λ app. refuses app app.view refl }
  where
    named : (app : Followed) (o : Option (Forest Row)) → app.view ≡ o → (told_part news app).name ≡ app.name
    named app None e = rw e refl
    named app (Some view) e = rw e refl

    refuses : (app : Followed) (o : Option (Forest Row)) → app.view ≡ o → (told_part news app).refused ≡ app.refused
    refuses app None e = rw e refl
    refuses app (Some view) e = rw e refl

-- a reply to a call of the start changes no application but that some become known
pub start_stays : (goes : Bool) (s : ReaderState) → (goes_on_if goes s).apps ≡ s.apps
start_stays true s = refl
start_stays false s = refl

-- the same reply, before its serial was noted
pub unnoted : (question : Question) (s : ReaderState) (e : Envelope) → IsReplyTo question (notes s e) e → IsReplyTo question s e
unnoted question s e r = record { serial = r.serial; waits = r.waits; ends = r.ends }

pub as_noted : (question : Question) (s : ReaderState) (e : Envelope) → IsReplyTo question s e → IsReplyTo question (notes s e) e
as_noted question s e r = record { serial = r.serial; waits = r.waits; ends = r.ends }

-- a test that is still passed where one more part is refused
module _ (test : Option Followed → Bool) (is : IsTest test) (more : (path : List ℕ) (part : PartName) (o : Option Followed) → test o ≡ true → test (option_map (refused_part path part) o) ≡ true) (name : List ℕ) where
  -- who passed does, or the reply is to the call for all of the application
  abbrev Stays : ReaderState → Question → List Followed → Type 0
  Stays s question apps = (test (found_in name apps) ≡ true) ⊎ (question ≡ GetItems name)

  start_passes : (goes : Bool) (s : ReaderState) → test (found_in name s.apps) ≡ true → test (found_in name (goes_on_if goes s).apps) ≡ true
  start_passes goes s passed = ap (λ (apps : List Followed). test (found_in name apps)) (start_stays goes s) ∙ passed

  children_stay : (s : ReaderState) (e : Envelope) (b : Bool) → test (found_in name s.apps) ≡ true
      → test (found_in name (if b then record s { registry = e.sender; apps = fold made_known s.apps (references_among (elements_of e.body)) } else goes_on_if false s).apps) ≡ true
  children_stay s e true passed =
      let roots = references_among (elements_of e.body) in
      stays test is name (found_in name s.apps) (found_in name (fold made_known s.apps roots)) (found_all_made name s.apps roots) passed
  children_stay s e false passed = passed

  items_stay : (s : ReaderState) (n : List ℕ) (o : Option (List Item)) → test (found_in name s.apps) ≡ true → Stays s (GetItems n) (with_items s n o).apps
  items_stay s n (Some items) passed =
      found_changed (loaded items) (λ app. refl) (λ o. (test o ≡ true) ⊎ (GetItems n ≡ GetItems name)) n name s.apps (λ (same : n ≡ name). inr (ap GetItems same)) (inl passed)
  items_stay s n None passed = found_without (λ o. (test o ≡ true) ⊎ (GetItems n ≡ GetItems name)) n name s.apps (λ (same : n ≡ name). inr (ap GetItems same)) (inl passed)

  part_stays : (s : ReaderState) (n path : List ℕ) (part : PartName) (o : Option News) → test (found_in name s.apps) ≡ true → test (found_in name (with_part s n path part o).apps) ≡ true
  part_stays s n path part (Some news) passed =
      found_changed (told_part news) (told_mild news).name (λ o. test o ≡ true) n name s.apps (λ same. is.mild (told_part news) (told_mild news) (found_in name s.apps) ∙ passed) passed
  part_stays s n path part None passed =
      found_changed (refused_part path part) (λ app. refl) (λ o. test o ≡ true) n name s.apps (λ same. more path part (found_in name s.apps) passed) passed

  reply_stays : (question : Question) (s : ReaderState) (e : Envelope) → test (found_in name s.apps) ≡ true → Stays s question (replied question s e).apps
  reply_stays Hello s e passed = inl (start_passes (e.kind == 2 && is_unique_name_alone e.body) s passed)
  reply_stays (AddMatch rule) s e passed = inl (start_passes (e.kind == 2) s passed)
  reply_stays (RegisterEvent pattern) s e passed = inl (start_passes (e.kind == 2) s passed)
  reply_stays GetChildren s e passed = inl (children_stay s e (e.kind == 2 && bytes_eq (signature_of e.body) children_signature) passed)
  reply_stays (GetItems n) s e passed = items_stay s n (items_told e) passed
  reply_stays (GetPart n path part) s e passed = inl (part_stays s n path part (part_told part path e) passed)

  -- Who passed before a message does after it; or the message ends the name or is the reply to the call for all of the application, or it is lost at news
  -- of its own.
  pub passes_on : (s : ReaderState) (e : Envelope) → test (found_in name s.apps) ≡ true → test (found_in name (reader_takes s e).apps) ≡ false
      → BeginsAnew s e name ⊎ IsLostAt test is name (takes_child (takes_end (notes s e) e) e) e
  passes_on s e passed lost = by_reply (λ (now : ReaderState). test (found_in name (taken now e).apps) ≡ false → BeginsAnew s e name ⊎ IsLostAt test is name (takes_child (takes_end (notes s e) e) e) e) (notes s e) e
      (λ gone. unanswered (lost_at test is name (notes s e) e noted gone))
      (λ question r gone. inl (answered question r gone (reply_stays question (free (notes s e)) e noted)))
      (ap (λ (apps : List Followed). test (found_in name apps)) (sym (apps_stay (taken (takes_reply (notes s e) e) e))) ∙ lost)
    where
      noted : test (found_in name (notes s e).apps) ≡ true
      noted = noting test is name s e ∙ passed

      unanswered : (told_end e ≡ Some name) ⊎ IsLostAt test is name (takes_child (takes_end (notes s e) e) e) e
          → BeginsAnew s e name ⊎ IsLostAt test is name (takes_child (takes_end (notes s e) e) e) e
      unanswered (inl ended) = inl (inl ended)
      unanswered (inr news) = inr news

      answered : (question : Question) → IsReplyTo question (notes s e) e → test (found_in name (taken (replied question (free (notes s e)) e) e).apps) ≡ false
          → Stays (notes s e) question (replied question (free (notes s e)) e).apps → BeginsAnew s e name
      answered question r gone (inl still) =
          let other = reply_is_no_signal question (notes s e) e r in
          absurd (true_or_false (test (found_in name (replied question (free (notes s e)) e).apps)) still
          (sym (no_signal_stays test is name (replied question (free (notes s e)) e) e other) ∙ gone))
      answered question r gone (inr asked) = inr (subst (λ (q : Question). IsReplyTo q s e) asked (unnoted question s e r))

-- what a test says after a reply, which tells of no end and of no child
pub after_reply : (test : Option Followed → Bool) → IsTest test → (name : List ℕ) (question : Question) (s : ReaderState) (e : Envelope) → IsReplyTo question s e
    → test (found_in name (reader_takes s e).apps) ≡ test (found_in name (replied question (free (notes s e)) e).apps)
after_reply test is name question s e r =
    let now : ReaderState = takes_reply (notes s e) e in
    ap (λ (apps : List Followed). test (found_in name apps)) (apps_stay (taken now e))
    ∙ no_signal_stays test is name now e (reply_is_no_signal question s e r)
    ∙ ap (λ (t : ReaderState). test (found_in name t.apps)) (reply_is question (notes s e) e (as_noted question s e r))
