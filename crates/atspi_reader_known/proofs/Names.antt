-- The name stays through each change of an application.
use Rattle.std.proofs.Common.{◌≡◌, Option, Some, None, Result, refl, ap, ◌∙◌}
use Rattle.std.specs.Prelude.{Ok, Err, OnOk, OnErr}
use Rattle.atspi_tree_model.specs.declared.view.Row.{Row}
use Rattle.atspi_tree_model.specs.declared.news.News.{News}
use Rattle.atspi_tree_model.specs.Forest.{Forest}
use Rattle.atspi_protocol.specs.following.ReaderState.{Followed}
use Rattle.atspi_protocol.specs.following.Replied.{told_part}
use Rattle.atspi_protocol.specs.following.Takes.{folded}

pub folded_name : (news : News) (app : Followed) → (folded news app).name ≡ app.name
folded_name news app = by app.view refl
  where
    by : (o : Option (Forest Row)) → app.view ≡ o → (folded news app).name ≡ app.name
    by None e = rw e refl
    by (Some v) e = rw e refl

pub told_name : (news : News) (app : Followed) → (told_part news app).name ≡ app.name
told_name news app = by app.view refl
  where
    by : (o : Option (Forest Row)) → app.view ≡ o → (told_part news app).name ≡ app.name
    by None e = rw e refl
    by (Some v) e = rw e refl

-- after a change that may have failed
pub either_name : {T E : Type 0} (f : Followed → Followed) → ((a : Followed) → (f a).name ≡ a.name) → (r : Result T E) (new old : Followed)
    → OnOk r (new ≡ f old) → OnErr r (new ≡ old) → new.name ≡ old.name
either_name f keeps (Ok x) new old ok err = ap (λ (a : Followed). a.name) ok ∙ keeps old
either_name f keeps (Err e) new old ok err = ap (λ (a : Followed). a.name) err
