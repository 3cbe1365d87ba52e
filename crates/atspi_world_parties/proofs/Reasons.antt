-- Why an end refuses what its user asks for.
use Rattle.std.proofs.Common.{◌≡◌, ℕ, List, map, set, get_or, Option, None, Some, refl, sym, ap, ◌∙◌}
use Rattle.std.specs.Prelude.{Result, Ok, Err, OnOk, OnErr, IsErrOf, ◌↔◌}
use Rattle.atspi_tree_model.specs.declared.view.Row.{Row}
use Rattle.atspi_tree_model.specs.Forest.{Forest}
use Rattle.atspi_protocol.specs.following.ReaderState.{ReaderState}
use Rattle.atspi_protocol.specs.following.Takes.{held_view}
use Rattle.atspi_trace.specs.Work as work
use Rattle.atspi_trace.specs.play.Playing.{held_by}
use Rattle.atspi_trace.specs.play.Played.{if_viewed}
use Rattle.atspi_reader_calls.specs.declared.fault.CallFault.{CallFault}
use Rattle.atspi_reader_calls.specs.declared.fault.CallFault.TheVariants as call
use Rattle.atspi_world_parties.specs.Asked.{CallIsRefused}
use Rattle.atspi_world_parties.proofs.Elements.{same_there, seen_there}

no_fault : {T : Type 0} {x : T} → IsErrOf (Ok x) call.NotHeld → ⊥
no_fault h = cc

-- one of many that is as before is so among all
pub err_at : {A X T F : Type 0} (g : A → X) (r : Result T F) (xs : List A) (i : ℕ) (x y : A) → x ≡ get_or xs i x → OnErr r (g y ≡ g x) → OnErr r (map g (set xs i y) ≡ map g xs)
err_at g (Ok z) xs i x y is same = tt
err_at g (Err e) xs i x y is same = same_there g xs i x y is same

module _ {R : Type 0} (follower : R → ReaderState) where
  -- a call that was made is of an application that is held
  pub call_held : {T : Type 0} (r : Result T CallFault) (readers : List R) (a : R) (number : ℕ) (name : List ℕ) (callee : Option (List ℕ)) → a ≡ get_or readers number a → callee ≡ Some name
      → (IsErrOf r call.NotHeld ↔ (held_view (follower a) name ≡ None)) → OnOk r (CallIsRefused None (map follower readers) number callee)
  call_held (Err e) readers a number name callee reader_is named exact = tt
  call_held (Ok x) readers a number name callee reader_is named exact = λ s at.
      let s_is : follower a ≡ s = ap follower reader_is ∙ seen_there follower readers number a s at in
      ap (λ c. if_viewed (held_by (Some s) c)) named ∙ ap (λ t. if_viewed (held_view t name)) (sym s_is) ∙ by (held_view (follower a) name) exact
    where
      by : (o : Option (Forest Row)) → (IsErrOf (Ok x) call.NotHeld ↔ (o ≡ None)) → if_viewed o ≡ None
      by None e = absurd (no_fault (e.1 refl))
      by (Some v) e = refl

  -- one that was not is of one that is not
  pub call_not_held : {T : Type 0} (r : Result T CallFault) (readers : List R) (a : R) (number : ℕ) (name : List ℕ) (callee : Option (List ℕ)) → a ≡ get_or readers number a → callee ≡ Some name
      → (IsErrOf r call.NotHeld ↔ (held_view (follower a) name ≡ None)) → IsErrOf r call.NotHeld → CallIsRefused (Some work.not_held) (map follower readers) number callee
  call_not_held r readers a number name callee reader_is named exact is = λ s at.
      let s_is : follower a ≡ s = ap follower reader_is ∙ seen_there follower readers number a s at in
      ap (λ c. if_viewed (held_by (Some s) c)) named ∙ ap (λ t. if_viewed (held_view t name)) (sym s_is) ∙ ap if_viewed (exact.0 is)
