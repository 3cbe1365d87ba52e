-- What a call comes to, by its parts.
use Rattle.std.proofs.Common.{◌≡◌, ℕ, ℤ, true, List, [], Option, Some, None, refl, sym, ap, ◌∙◌, subst, inl}
use Rattle.std.specs.Prelude.{Result, Ok, Err}
use Rattle.std.specs.Option.{option_map}
use Rattle.atspi_types.specs.Data.{Data}
use Rattle.atspi_types.specs.DataView.{all_data}
use Rattle.atspi_types.specs.declared.value.Values.{Values}
use Rattle.atspi_tree_model.specs.declared.step.Step.{Step}
use Rattle.atspi_tree_model.specs.Forest.{has}
use Rattle.atspi_tree_model.specs.Row.{ShapeRow}
use Rattle.atspi_tree_model.specs.RowRules.{rows}
use Rattle.atspi_tree_model.specs.Tree.{is_shape, IsTree}
use Rattle.atspi_protocol.specs.ends.Messages.{Reply, returns, fails, error_word}
use Rattle.atspi_protocol.specs.declared.ends.error.CallError.{CallError}
use Rattle.atspi_tree.specs.TreeShape.{TreeShape, row_of}
use Rattle.atspi_protocol.specs.whole.Whole.{Faces, whole, filled}
use Rattle.atspi_protocol.specs.declared.members.member.ObjectMember.{ObjectMember}
use Rattle.atspi_protocol.specs.objects.Application.{Application}
use Rattle.atspi_protocol.specs.objects.Places.{Place, node}
use Rattle.atspi_protocol.specs.objects.Answers.{Answer, called, changes, place_answers}
use Rattle.atspi_app_calls.specs.declared.ask.Ask.{Ask}
use Rattle.atspi_app_calls.specs.declared.ask.Ask.TheVariants as asks
use Rattle.atspi_app_calls.specs.Ask.{asked_of}
use Rattle.atspi_app_answers.specs.declared.place.AppPlace.{AppPlace}
use Rattle.atspi_app_answers.specs.declared.place.AppPlace.TheVariants as places
use Rattle.atspi_app_answers.specs.Place.{place_of}
use Rattle.atspi_app_answers.specs.Seen.{seen}
use Rattle.atspi_app_answers.specs.declared.counts.Counts.{Counts}
use Rattle.atspi_app_answers.specs.declared.fault.AnswerFault.TheVariants as faults
use Rattle.atspi_app_answers.specs.Counted.{HasCountsAt}
use Rattle.atspi_app_answers.specs.Told.{Returns, Fails, id_after}
use Rattle.atspi_app_answers.proofs.Answering.{row_there}
use Rattle.atspi_app_contents.specs.answers.Told.{Tells}
use Rattle.atspi_app_contents.specs.changes.Changing.{Changes}
use Rattle.atspi_app_exported.specs.Doing.{CanBeDone}
use Rattle.atspi_app.specs.declared.called.outcome.Called.{Called}
use Rattle.atspi_app.specs.called.Called.{answer_of}
use Rattle.atspi_app.specs.called.inner.Told.{ComesTo, PlaceComesTo}
use Rattle.atspi_app.proofs.OfCalled.Done.{called_done}

-- no steps are done as a whole
pub nothing_done : (steps : List Step) → steps ≡ [] → CanBeDone steps
nothing_done steps e = subst CanBeDone (sym e) (inl tt)

-- what is asked of a node is asked of its row
abbrev place_if : Faces → Option ShapeRow → Option Place
place_if faces o = option_map (λ (s : ShapeRow). node (filled faces s)) o

pub member_comes : (t : TreeShape) (faces : Faces) (name : List ℕ) (id : ℤ) (n : ℕ) (body : List Data) (ask : Ask) (member : ObjectMember) (c : Called)
    → has (is_shape n) t.rows ≡ true → ask ≡ asks.Call member → ComesTo t faces name id n member body c → PlaceComesTo t faces name id (places.Node n) body ask c
member_comes t faces name id n body ask member c there is h =
    let x = row_there t n there in
    ap (λ (a : Ask). place_answers (seen t faces name id) (place_of t faces (places.Node n)) (Ok (asked_of body a))) is
    ∙ ap (λ o. place_answers (seen t faces name id) (place_if faces o) (Ok (asked_of body (asks.Call member)))) x.1
    ∙ h x.0 x.1

-- the same where the number is told in another way
pub member_comes_at : (t : TreeShape) (faces : Faces) (name : List ℕ) (z id : ℤ) (n : ℕ) (body : List Data) (ask : Ask) (member : ObjectMember) (c : Called)
    → z ≡ id → has (is_shape n) t.rows ≡ true → ask ≡ asks.Call member → ComesTo t faces name z n member body c → PlaceComesTo t faces name id (places.Node n) body ask c
member_comes_at t faces name z id n body ask member c e there is h =
    subst (λ (x : ℤ). PlaceComesTo t faces name x (places.Node n) body ask c) e (member_comes t faces name z n body ask member c there is h)

-- the steps of a member that changes something
pub changes_come : (t : TreeShape) (faces : Faces) (k n : ℕ) (id : ℤ) (member : ObjectMember) (body : List Data) (c : Called) → IsTree rows (whole t.rows faces) k
    → has (is_shape n) t.rows ≡ true → ((name : List ℕ) → ComesTo t faces name id n member body c) → CanBeDone c.steps
changes_come t faces k n id member body c tree there h =
    let x = row_there t n there in
    subst CanBeDone (ap (λ (a : Answer). a.steps) (h [] x.0 x.1)) (called_done t faces k n [] id x.0 member body tree x.1)

-- an object's answer where that looks into no contents
pub shape_returns : (t : TreeShape) (name : List ℕ) (id : ℤ) (counts : Counts) (place : AppPlace) (body : List Data) (ask : Ask) (values : Values) (steps : List Step) (m : ℤ)
    → Returns t name id counts place body ask (all_data values) → steps ≡ [] → m ≡ id_after id ask → (faces : Faces) → HasCountsAt counts t faces place ask
    → PlaceComesTo t faces name id place body ask (record { reply = Ok values; steps = steps; id = m })
shape_returns t name id counts place body ask values steps m h e f faces k =
    h faces k ∙ sym (λ i. record { reply = returns (all_data values); steps = e i; id = f i })

pub shape_fails : (t : TreeShape) (name : List ℕ) (id : ℤ) (place : AppPlace) (body : List Data) (ask : Ask) (error : CallError) (steps : List Step)
    → Fails t name id place body ask (faults.Refused error) → steps ≡ [] → (faces : Faces) → PlaceComesTo t faces name id place body ask (record { reply = Err error; steps = steps; id = id })
shape_fails t name id place body ask error steps h e faces = h faces ∙ sym (λ i. record { reply = fails (error_word error); steps = e i; id = id })

-- a member that reads
pub reads_come : (t : TreeShape) (faces : Faces) (name : List ℕ) (id : ℤ) (n : ℕ) (member : ObjectMember) (body : List Data) (values : Values) (steps : List Step)
    → Tells t faces name n member body (all_data values) → steps ≡ [] → ComesTo t faces name id n member body (record { reply = Ok values; steps = steps; id = id })
reads_come t faces name id n member body values steps h e s is = h id s is ∙ sym (λ i. record { reply = returns (all_data values); steps = e i; id = id })

-- one that changes something
pub changed_comes : (t : TreeShape) (faces : Faces) (n : ℕ) (id : ℤ) (member : ObjectMember) (body : List Data) (steps : Option (List Step)) (c : Called)
    → Changes t faces.chars faces.deeds n member body steps → ((a : Application) → a.id ≡ id → answer_of c ≡ changes a steps)
    → (name : List ℕ) → ComesTo t faces name id n member body c
changed_comes t faces n id member body steps c h k name s is = h faces.grid name id s is ∙ sym (k (seen t faces name id) refl)
