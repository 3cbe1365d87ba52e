-- An application as it is seen, after its calls.
use Rattle.std.proofs.Common.{◌≡◌, ℕ, List, [], ◌∷◌, None, refl, ap, ◌∙◌}
use Rattle.std.specs.Prelude.{ℤ, negsuc, Err}
use Rattle.atspi_tree_model.specs.declared.edit.Edit.{Edit}
use Rattle.atspi_tree_model.specs.declared.edit.EditFault.{EditFault}
use Rattle.atspi_tree_model.specs.declared.step.Step.{Step}
use Rattle.atspi_tree_model.specs.Edits.{steps_of_tree}
use Rattle.atspi_tree_model.specs.RowRules.{rows}
use Rattle.atspi_tree_model.specs.Tree.{first_tree, added_after, after_all}
use Rattle.atspi_protocol.specs.exporting.Exporter.{Exporter, new, begins, Happening, queues}
use Rattle.atspi_protocol.specs.exporting.Taking.{added_by, stepped, app_edits}
use Rattle.atspi_app_known.specs.happenings.View.{next_of, out_of}
use Rattle.atspi_app_known.specs.declared.starting.known.Known.{Known}
use Rattle.atspi_app_known.specs.starting.KnownView.{known_in, phase_of}
use Rattle.atspi_app_exported.specs.Parts.{Parts, whole_of}
use Rattle.atspi_app_exported.specs.Doing.{added_all}
use Rattle.atspi_app.specs.Seen.{seen, with_tree}

-- the root alone
pub seen_begins : (p : Parts) (id : ℤ) (k : Known) (name : List ℕ) → whole_of p ≡ first_tree rows name → p.tree.added ≡ 0 → id ≡ negsuc 0
    → k.name ≡ None → k.heard ≡ [] → phase_of k.waiting ≡ new → next_of k.queue ≡ 1 → out_of k.queue ≡ [] → seen p id k ≡ begins name
seen_begins p id k name tree added number named heard phase next out =
    λ i. record { tree = tree i; added = added i; id = number i; name = named i; heard = heard i; phase = phase i; next = next i; out = out i }

pub added_same : (added : ℕ) (steps : List Step) → added_all added steps ≡ added_by added steps
added_same added [] = refl
added_same added (step ∷ steps) = added_same (added_after added step) steps

-- steps are done, and what is told of them is queued
pub seen_steps : (p q : Parts) (id : ℤ) (k l : Known) (steps : List Step) (hs : List Happening) → whole_of q ≡ after_all rows (whole_of p) steps
    → q.tree.added ≡ added_all p.tree.added steps → ((s : Exporter) → known_in l s ≡ queues (known_in k s) hs)
    → seen q id l ≡ queues (stepped (seen p id k) steps) hs
seen_steps p q id k l steps hs tree added known =
    known (with_tree q id)
    ∙ (λ i. queues (known_in k (record (with_tree p id) { tree = tree i; added = (added ∙ added_same p.tree.added steps) i })) hs)

-- an edit that is refused
pub edit_refused : (p : Parts) (id : ℤ) (k : Known) (edit : Edit) (fault : EditFault) → steps_of_tree (whole_of p) p.tree.added edit ≡ Err fault
    → app_edits (seen p id k) edit ≡ Err fault
edit_refused p id k edit fault is = rw is refl

-- the same parts, and what is known is seen alike
pub seen_same : (p q : Parts) (id : ℤ) (k l : Known) → q ≡ p → ((s : Exporter) → known_in l s ≡ known_in k s) → seen q id l ≡ seen p id k
seen_same p q id k l e known = known (with_tree q id) ∙ ap (λ (x : Parts). known_in k (with_tree x id)) e
