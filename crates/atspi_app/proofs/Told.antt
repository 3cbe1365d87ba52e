-- What is told of steps, each of one tree.
use Rattle.std.proofs.Common.{◌≡◌, ℕ, ◌+◌, ◌<◌, suc, List, [], ◌∷◌, ◌++◌, length, drop, refl, sym, ap, ◌∙◌, subst, append_assoc, get_or, add-one, drop-cons}
use Rattle.std.specs.Prelude.{map}
use Rattle.std.specs.FinMap.{empty}
use Rattle.std.proofs.lemmas.List.{append-nil}
use Rattle.atspi_tree_model.specs.declared.step.Step.{Step}
use Rattle.atspi_tree_model.specs.Forest.{Forest}
use Rattle.atspi_tree_model.specs.Row.{ShapeRow, TreeRow, Each}
use Rattle.atspi_tree_model.specs.Tree.{shape_of}
use Rattle.atspi_message.specs.Envelope.{Envelope}
use Rattle.atspi_protocol.specs.announcing.Announced.{announced}
use Rattle.atspi_protocol.specs.announcing.Signals.{Signal}
use Rattle.atspi_protocol.specs.exporting.Exporter.{Happening, steps, sends}
use Rattle.atspi_protocol.specs.exporting.Telling.{asked_for, step_told}
use Rattle.atspi_tree.specs.TreeShape.{TreeShape}
use Rattle.atspi_protocol.specs.whole.Whole.{Faces, whole}
use Rattle.atspi_protocol.proofs.OfWhole.Followed.{shape_is_kept}
use Rattle.atspi_app_signals.specs.Asked.{messages_asked, CanBeTold}
use Rattle.atspi_app_signals.specs.Laws.{told_of_one}
use Rattle.atspi_app.specs.inner.Seen.{AreUnnumbered}
use Rattle.atspi_app.proofs.Unnumbered.{messages_unnumbered}

no_faces : Faces
no_faces = record { chars = empty; grid = empty; deeds = empty }

-- a mail that is that of each whole tree of a shape has no numbers, since there is one
pub mail_unnumbered : (heard : List (List ℕ × List ℕ)) (bus : List ℕ) (shape : Forest ShapeRow) (step : Step) (mail : List Envelope)
    → ((f : Forest TreeRow) → shape_of f ≡ shape → mail ≡ messages_asked heard (announced bus f step)) → AreUnnumbered mail
mail_unnumbered heard bus shape step mail h =
    subst AreUnnumbered (sym (h (whole shape no_faces) (shape_is_kept shape no_faces))) (messages_unnumbered heard bus (whole shape no_faces) step)

sends_messages : (signals : List Signal) → map (λ (s : Signal). sends s.message) signals ≡ map sends (map (λ (s : Signal). s.message) signals)
sends_messages [] = refl
sends_messages (s ∷ signals) = ap (λ l. sends s.message ∷ l) (sends_messages signals)

-- a step, and behind it its messages
pub step_is_told : (heard : List (List ℕ × List ℕ)) (bus : List ℕ) (f : Forest TreeRow) (step copy : Step) (old with_step new : List Happening) (mail : List Envelope)
    → copy ≡ step → with_step ≡ old ++ steps copy ∷ [] → new ≡ with_step ++ map sends mail → mail ≡ messages_asked heard (announced bus f step)
    → new ≡ old ++ step_told heard bus f step
step_is_told heard bus f step copy old with_step new mail c w n m =
    n ∙ ap (λ hs. hs ++ map sends mail) w ∙ append_assoc old (steps copy ∷ []) (map sends mail)
    ∙ ap (λ s. old ++ steps s ∷ map sends mail) c ∙ ap (λ (l : List Envelope). old ++ steps step ∷ map sends l) m
    ∙ ap (λ hs. old ++ steps step ∷ hs) (sym (sends_messages (asked_for heard (announced bus f step))))

-- what is told so far, and of the steps that are left, is all; and these can be told
pub record IsTelling (t : TreeShape) (heard : List (List ℕ × List ℕ)) (bus : List ℕ) (told : List Happening) (left all : List Step) : Type 0 where
  pub can : Each (CanBeTold t) left
  pub all_told : (f : Forest TreeRow) → shape_of f ≡ t.rows → told ++ told_of_one heard bus f left ≡ told_of_one heard bus f all

pub telling_starts : (t : TreeShape) (heard : List (List ℕ × List ℕ)) (bus : List ℕ) (told : List Happening) (all : List Step) → Each (CanBeTold t) all → told ≡ []
    → IsTelling t heard bus told all all
telling_starts t heard bus told all can none = record { can = can; all_told = λ f e. ap (λ hs. hs ++ told_of_one heard bus f all) none }

pub telling_goes_on : (t : TreeShape) (heard : List (List ℕ × List ℕ)) (bus : List ℕ) (now next : List Happening) (left rest all : List Step) (step : Step) → left ≡ step ∷ rest
    → IsTelling t heard bus now left all → ((f : Forest TreeRow) → shape_of f ≡ t.rows → next ≡ now ++ step_told heard bus f step)
    → IsTelling t heard bus next rest all
telling_goes_on t heard bus now next left rest all step is h more = record {
  can = (subst (Each (CanBeTold t)) is h.can).1;
  all_told = λ f e.
      ap (λ hs. hs ++ told_of_one heard bus f rest) (more f e)
      ∙ append_assoc now (step_told heard bus f step) (told_of_one heard bus f rest)
      ∙ ap (λ l. now ++ told_of_one heard bus f l) (sym is) ∙ h.all_told f e;
}

pub telling_can : (t : TreeShape) (heard : List (List ℕ × List ℕ)) (bus : List ℕ) (now : List Happening) (left rest all : List Step) (step : Step) → left ≡ step ∷ rest
    → IsTelling t heard bus now left all → CanBeTold t step
telling_can t heard bus now left rest all step is h = (subst (Each (CanBeTold t)) is h.can).0

pub telling_ends : (t : TreeShape) (heard : List (List ℕ × List ℕ)) (bus : List ℕ) (told : List Happening) (left all : List Step) → left ≡ []
    → IsTelling t heard bus told left all → (f : Forest TreeRow) → shape_of f ≡ t.rows → told ≡ told_of_one heard bus f all
telling_ends t heard bus told left all none h f e =
    sym (append-nil told) ∙ sym (ap (λ l. told ++ told_of_one heard bus f l) none) ∙ h.all_told f e

-- what is left from an index on
pub drop_here : (xs : List Step) (i : ℕ) (x : Step) → i < length xs → x ≡ get_or xs i x → drop i xs ≡ x ∷ drop (i + 1) xs
drop_here xs i x h e =
    drop-cons xs i x h ∙ ap (λ y. y ∷ drop (suc i) xs) (sym e) ∙ ap (λ n. x ∷ drop n xs) (sym (add-one i))
