-- Which applications are forgotten.
use Rattle.std.proofs.Common.{◌≡◌, ℕ, Bool, true, false, List, Option, Some, None, refl, sym, ap, ◌∙◌, inl, inr}
use Rattle.std.specs.Prelude.{◌⊎◌, is_some}
use Rattle.std.specs.Option.{option_map}
use Rattle.atspi_message.specs.Envelope.{Envelope}
use Rattle.atspi_tree_model.specs.declared.news.Item.{Item}
use Rattle.atspi_protocol.specs.news.NewsOf.{news_of, or_empty}
use Rattle.atspi_protocol.specs.news.Replies.{items_told}
use Rattle.atspi_protocol.specs.declared.following.question.Question.TheVariants.{GetItems}
use Rattle.atspi_protocol.specs.following.ReaderState.{Followed, ReaderState}
use Rattle.atspi_protocol.specs.following.Known.{takes_child, takes_end}
use Rattle.atspi_protocol.specs.following.Replied.{takes_reply, loaded, refused_part, with_items}
use Rattle.atspi_protocol.specs.following.Takes.{notes, folded, reader_takes, found_in}
use Rattle.atspi_reader_laws.specs.Laws.{IsReplyTo, BeginsAnew, is_known, Forgets}
use Rattle.atspi_reader_laws.proofs.Found.{changed_it, without_it}
use Rattle.atspi_reader_laws.proofs.Ways.{free, taken, apps_stay}
use Rattle.atspi_reader_laws.proofs.Tests.{IsLostAt, IsTest, true_or_false, noting, gone_at_end}
use Rattle.atspi_reader_laws.proofs.Replies.{passes_on, after_reply}

abbrev pub is_there : Option Followed → Bool
is_there o = is_some o

made_there : (change : Followed → Followed) (o : Option Followed) → is_there (option_map change o) ≡ is_there o
made_there change None = refl
made_there change (Some app) = refl

pub there_test : IsTest is_there
there_test = record { none = refl; mild = λ change mild o. made_there change o; heard = λ news o h. sym (made_there (folded news) o) ∙ h }

-- a reply with items forgets nobody
items_keep : (s : ReaderState) (name : List ℕ) (items : List Item) → is_known s name ≡ true → is_known (with_items s name (Some items)) name ≡ true
items_keep s name items known = ap is_there (changed_it (loaded items) (λ app. refl) name s.apps) ∙ made_there (loaded items) (found_in name s.apps) ∙ known

pub forgotten_only : (s : ReaderState) (e : Envelope) (name : List ℕ) → is_known s name ≡ true → is_known (reader_takes s e) name ≡ false → Forgets s e name
forgotten_only s e name known lost =
    by (passes_on is_there there_test (λ path part o h. made_there (refused_part path part) o ∙ h) name s e known lost)
  where
    told : IsReplyTo (GetItems name) s e → (o : Option (List Item)) → items_told e ≡ o → Forgets s e name
    told r None is = inr (r, is)
    told r (Some items) is =
        let now : ReaderState = free (notes s e) in
        let still : is_known (reader_takes s e) name ≡ true =
        after_reply is_there there_test name (GetItems name) s e r
        ∙ ap (λ (o : Option (List Item)). is_known (with_items now name o) name) is
        ∙ items_keep now name items (noting is_there there_test name s e ∙ known) in
        absurd (true_or_false (is_known (reader_takes s e) name) still lost)

    by : BeginsAnew s e name ⊎ IsLostAt is_there there_test name (takes_child (takes_end (notes s e) e) e) e → Forgets s e name
    by (inl (inl ended)) = inl ended
    by (inl (inr r)) = told r (items_told e) refl
    by (inr news) =
        let found = found_in name (takes_child (takes_end (notes s e) e) e).apps in
        absurd (true_or_false (is_there (option_map (folded (news_of (or_empty e.sender) e)) found))
        (made_there (folded (news_of (or_empty e.sender) e)) found ∙ news.1) news.2)

pub forgotten_each : (s : ReaderState) (e : Envelope) (name : List ℕ) → Forgets s e name → is_known (reader_takes s e) name ≡ false
forgotten_each s e name (inl ended) =
    ap (λ (apps : List Followed). is_there (found_in name apps)) (apps_stay (taken (takes_reply (notes s e) e) e)) ∙ gone_at_end is_there there_test name (takes_reply (notes s e) e) e ended
forgotten_each s e name (inr reply) =
    let now : ReaderState = free (notes s e) in
    after_reply is_there there_test name (GetItems name) s e reply.0
    ∙ ap (λ (o : Option (List Item)). is_known (with_items now name o) name) reply.1
    ∙ ap is_there (without_it name now.apps)
