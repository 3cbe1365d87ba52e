-- What a node tells is what the object tells.
use Rattle.std.proofs.Common.{◌≡◌, ℕ, ℤ, true, List, [], Option, Some, sym, ap, subst, ◌∙◌}
use Rattle.std.specs.Prelude.{Result, Ok, Err, IfOk, IfSome, MatchResult}
use Rattle.std.specs.Option.{option_map}
use Rattle.atspi_types.specs.Data.{Data}
use Rattle.atspi_tree_model.specs.Forest.{has}
use Rattle.atspi_tree_model.specs.Row.{ShapeRow}
use Rattle.atspi_tree_model.specs.Tree.{is_shape}
use Rattle.atspi_tree_model.proofs.Found.{find-has, count-has}
use Rattle.atspi_protocol.specs.ends.Messages.{returns}
use Rattle.atspi_tree.specs.TreeShape.{TreeShape, row_of}
use Rattle.atspi_protocol.specs.whole.Whole.{Faces, filled}
use Rattle.atspi_protocol.specs.objects.Places.{Place, node}
use Rattle.atspi_protocol.specs.objects.Answers.{Answer, node_answers, place_answers, tells_all, refuses}
use Rattle.atspi_protocol.specs.members.Arguments.{int, signed_in}
use Rattle.atspi_protocol.specs.declared.members.member.ObjectMember.{ObjectMember}
use Rattle.atspi_protocol.specs.declared.members.property.ObjectProperty.{ObjectProperty}
use Rattle.atspi_base.specs.declared.outside.NoMemory.{NoMemory}
use Rattle.atspi_protocol.specs.ends.Messages.{error_word}
use Rattle.atspi_app_calls.specs.declared.interface.AppInterface.{AppInterface}
use Rattle.atspi_app_calls.specs.Interface.{properties_in}
use Rattle.atspi_app_calls.specs.declared.ask.Ask.{Ask}
use Rattle.atspi_app_calls.specs.declared.ask.Ask.TheVariants as asks
use Rattle.atspi_app_calls.specs.Ask.{asked_of}
use Rattle.atspi_app_answers.specs.declared.counts.Counts.{Counts}
use Rattle.atspi_app_answers.specs.declared.place.AppPlace.TheVariants.{Node}
use Rattle.atspi_app_answers.specs.Seen.{seen}
use Rattle.atspi_app_answers.specs.Place.{place_of}
use Rattle.atspi_app_answers.specs.Counted.{HasCountsAsked}
use Rattle.atspi_app_answers.specs.declared.fault.AnswerFault.{AnswerFault}
use Rattle.atspi_app_answers.specs.declared.fault.AnswerFault.TheVariants as faults
use Rattle.atspi_app_answers.specs.inner.Faults.{or_fault}
use Rattle.atspi_app_answers.specs.Told.{TellsAll, Refuses, ReturnsProperty, ReturnsProperties, Returns, Fails, id_after}

-- the row of a node that is there
pub row_there : (t : TreeShape) (n : ℕ) → has (is_shape n) t.rows ≡ true → (s : ShapeRow) × (row_of n t ≡ Some s)
row_there t n h = find-has (is_shape n) t.rows (count-has (is_shape n) t.rows h)

abbrev place_if : Faces → Option ShapeRow → Option Place
place_if faces o = option_map (λ (s : ShapeRow). node (filled faces s)) o

module _ (t : TreeShape) (name : List ℕ) (id : ℤ) (counts : Counts) (n : ℕ) (body : List Data) (ask : Ask) (there : has (is_shape n) t.rows ≡ true) where
  -- with values
  pub node_returns : (values : List Data)
      → ((faces : Faces) (s : ShapeRow) → row_of n t ≡ Some s → HasCountsAsked counts (filled faces s) ask
      → node_answers (seen t faces name id) (filled faces s) (asked_of body ask) ≡ record { reply = returns values; steps = []; id = id_after id ask })
      → Returns t name id counts (Node n) body ask values
  node_returns values h faces k =
      let x = row_there t n there in
      ap (λ o. place_answers (seen t faces name id) (place_if faces o) (Ok (asked_of body ask))) x.1
      ∙ h faces x.0 x.1 (subst (λ (o : Option ShapeRow). IfSome o (λ s. HasCountsAsked counts (filled faces s) ask)) x.1 k)

  -- with an error
  pub node_fails : (answer : Faces → Answer)
      → ((faces : Faces) (s : ShapeRow) → row_of n t ≡ Some s → node_answers (seen t faces name id) (filled faces s) (asked_of body ask) ≡ answer faces)
      → (faces : Faces) → place_answers (seen t faces name id) (place_of t faces (Node n)) (Ok (asked_of body ask)) ≡ answer faces
  node_fails answer h faces =
      let x = row_there t n there in
      ap (λ o. place_answers (seen t faces name id) (place_if faces o) (Ok (asked_of body ask))) x.1 ∙ h faces x.0 x.1

-- what Set is answered, whatever values stand for none
abbrev set_answer : ℤ → List Data → Answer
set_answer m values = record { reply = returns values; steps = []; id = signed_in (Some (int m)) }

-- want of memory is no claim
pub with_fault : {X : Type 0} (r : Result X NoMemory) (q : Result X AnswerFault) (P : X → Type 0) (Q : AnswerFault → Type 0) → q ≡ or_fault r → IfOk r P → Q faults.NoMemory → MatchResult q P Q
with_fault {X = X} (Ok x) q P Q e h k = subst (λ (z : Result X AnswerFault). MatchResult z P Q) (sym e) h
with_fault {X = X} (Err y) q P Q e h k = subst (λ (z : Result X AnswerFault). MatchResult z P Q) (sym e) k

module _ (t : TreeShape) (name : List ℕ) (id : ℤ) (counts : Counts) (n : ℕ) (body : List Data) (there : has (is_shape n) t.rows ≡ true) where
  pub call_returns : (member : ObjectMember) (values : List Data) → TellsAll t name n member body values → Returns t name id counts (Node n) body (asks.Call member) values
  call_returns member values h = node_returns t name id counts n body (asks.Call member) there values (λ faces s is _. h faces id s is)

  pub call_fails : (member : ObjectMember) (fault : AnswerFault) → Refuses t name n member body fault → Fails t name id (Node n) body (asks.Call member) fault
  call_fails member (faults.Refused error) h =
      node_fails t name id counts n body (asks.Call member) there (λ faces. refuses (seen t faces name id) (error_word error)) (λ faces s is. h faces id s is)
  call_fails _ faults.NoMemory _ = tt

  pub get_returns : (property : ObjectProperty) (values : List Data) → ReturnsProperty t name id counts n property values → Returns t name id counts (Node n) body (asks.Get property) values
  get_returns property values h =
      node_returns t name id counts n body (asks.Get property) there values (λ faces s is k. ap (tells_all (seen t faces name id)) (h faces s is k))

  pub all_returns : (interface : AppInterface) (values : List Data) → ReturnsProperties t name id counts n (properties_in interface) values
      → Returns t name id counts (Node n) body (asks.GetAll interface) values
  all_returns interface values h =
      node_returns t name id counts n body (asks.GetAll interface) there values (λ faces s is k. ap (tells_all (seen t faces name id)) (h faces s is k))

  pub set_returns : (m : ℤ) (values : List Data) → values ≡ [] → Returns t name id counts (Node n) body (asks.SetId m) values
  set_returns m values e = node_returns t name id counts n body (asks.SetId m) there values (λ faces s is _. ap (set_answer m) (sym e))
