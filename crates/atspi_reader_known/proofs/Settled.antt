-- That nothing is wanted of an application stays so where no news adds a wish.
use Rattle.std.proofs.Common.{◌≡◌, ℕ, List, [], ◌∷◌, Option, Some, None, refl, sym, ◌∙◌}
use Rattle.atspi_tree_model.specs.declared.view.Row.{Row}
use Rattle.atspi_tree_model.specs.declared.news.News.{News}
use Rattle.atspi_tree_model.specs.Forest.{Forest}
use Rattle.atspi_protocol.specs.declared.following.question.Question.TheVariants.{GetItems}
use Rattle.atspi_protocol.specs.following.ReaderState.{Followed}
use Rattle.atspi_protocol.specs.following.Takes.{folded, noted}
use Rattle.atspi_protocol.specs.following.Wishes.{wishes_of}
use Rattle.atspi_reader_known.specs.Wanted.{first, wish_at}
use Rattle.atspi_reader_known.proofs.News.{news_wish_is}

no_first : {A : Type 0} (xs : List A) → first xs ≡ None → xs ≡ []
no_first [] e = refl
no_first (x ∷ xs) e = absurd cc

-- a serial that is noted
pub noted_wishes : (serial : ℕ) (app : Followed) → wishes_of (noted serial app) ≡ wishes_of app
noted_wishes serial app = by app.view refl
  where
    by : (o : Option (Forest Row)) → app.view ≡ o → wishes_of (noted serial app) ≡ wishes_of app
    by None e = rw e refl
    by (Some v) e = rw e refl

-- a news that adds no wish
pub folded_settled : (app : Followed) (news : News) → wishes_of app ≡ [] → ((a : Followed) (view : Forest Row) → wish_at a view news ≡ None) → wishes_of (folded news app) ≡ []
folded_settled app news w n = by app.view refl
  where
    by : (o : Option (Forest Row)) → app.view ≡ o → wishes_of (folded news app) ≡ []
    by None e = let z : wishes_of app ≡ GetItems app.name ∷ [] = rw e refl in absurd cc
    by (Some v) e = no_first (wishes_of (folded news app)) (sym (news_wish_is app v news e w) ∙ n app v)
