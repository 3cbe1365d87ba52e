-- What a call of a member asks.
use Rattle.std.proofs.Common.{◌≡◌, ℕ, List, [], ◌∷◌, Option, None, Some, refl, sym, ap, ◌∙◌, chars, codes}
use Rattle.std.proofs.lemmas.Str.{chars-nil}
use Rattle.std.specs.Prelude.{unwrap_or, Result, Ok, Err}
use Rattle.atspi_types.specs.Data.{Data, text_data, path_data, structure_data, no_items, item}
use Rattle.atspi_protocol.specs.declared.ends.error.CallError.{CallError}
use Rattle.atspi_protocol.specs.ends.Messages.{error_word, fails}
use Rattle.atspi_protocol.specs.declared.members.member.ObjectMember.TheVariants as members
use Rattle.atspi_protocol.specs.members.Objects.{Object}
use Rattle.atspi_protocol.specs.members.Table.{PropertyLine}
use Rattle.atspi_protocol.specs.members.Asked.{and_then, gets, gets_all, set_to, asked_by}
use Rattle.atspi_protocol.specs.registering.RegistryState.{RegistryState}
use Rattle.atspi_protocol.specs.registering.Answers.{Answer, only, reference_in, if_own, adopts, releases}
use Rattle.atspi_protocol.specs.registering.Steps.{answer_to}
use Rattle.atspi_registry.specs.declared.calls.ask.Ask.{Ask}
use Rattle.atspi_registry.specs.declared.calls.ask.Ask.TheVariants.{Name, ChildCount, AllProperties, NoProperties}
use Rattle.atspi_registry.specs.calls.inner.Arguments.{reference_of}
use Rattle.atspi_registry.specs.calls.Ask.{ask_answer}
use Rattle.atspi_registry.specs.calls.inner.Ask.{IsProperty, AreProperties, refusal_of}

-- a reference, or an empty one
pub reference_is : (ds : List Data) → reference_in ds ≡ unwrap_or (reference_of ds) ([], [])
reference_is [] = refl
reference_is (structure_data (item (text_data name) (item (path_data place) no_items)) ∷ ds) = refl
reference_is (_ ∷ ds) = refl

-- a property, all of them, and another value for one
pub got : (r : Result Ask CallError) (found : Result PropertyLine (List ℕ)) → IsProperty r found → (s : RegistryState) (own caller : List ℕ)
    → answer_to s own caller (and_then (λ (l : PropertyLine). Ok (gets l.property)) found) ≡ ask_answer r s own caller
got (Ok Name) (Ok l) p s own caller = ap (λ q. answer_to s own caller (Ok (gets q))) p.0
got (Ok ChildCount) (Ok l) p s own caller = ap (λ q. answer_to s own caller (Ok (gets q))) p.0
got (Ok Name) (Err e) p s own caller = absurd p
got (Ok ChildCount) (Err e) p s own caller = absurd p
got (Err error) found p s own caller = ap (λ f. answer_to s own caller (and_then (λ (l : PropertyLine). Ok (gets l.property)) f)) p
got (Ok _) found p s own caller = absurd p

pub got_all : (r : Result Ask CallError) (found : Result (List PropertyLine) (List ℕ)) → AreProperties r found → (s : RegistryState) (own caller : List ℕ)
    → answer_to s own caller (and_then (λ ls. Ok (gets_all ls)) found) ≡ ask_answer r s own caller
got_all (Ok AllProperties) found p s own caller = ap (λ f. answer_to s own caller (and_then (λ ls. Ok (gets_all ls)) f)) p
got_all (Ok NoProperties) found p s own caller = ap (λ f. answer_to s own caller (and_then (λ ls. Ok (gets_all ls)) f)) p
got_all (Err error) found p s own caller = ap (λ f. answer_to s own caller (and_then (λ ls. Ok (gets_all ls)) f)) p
got_all (Ok _) found p s own caller = absurd p

pub not_set : (r : Result Ask CallError) (found : Result PropertyLine (List ℕ)) (value : Option Data) → IsProperty r found → (s : RegistryState) (own caller : List ℕ)
    → answer_to s own caller (and_then (set_to value) found) ≡ only s (fails (error_word (refusal_of r)))
not_set (Ok Name) (Ok l) value p s own caller = rw (p.1) refl
not_set (Ok ChildCount) (Ok l) value p s own caller = rw (p.1) refl
not_set (Ok Name) (Err e) value p s own caller = absurd p
not_set (Ok ChildCount) (Err e) value p s own caller = absurd p
not_set (Err error) found value p s own caller = ap (λ f. answer_to s own caller (and_then (set_to value) f)) p
not_set (Ok _) found value p s own caller = absurd p

-- nothing is of the name that is empty
nobody : (s : RegistryState) (caller : List ℕ) (a : Answer) → (caller ≡ [] → ⊥) → if_own s caller ([], []) a ≡ only s (fails (codes "InvalidArgs"))
nobody s [] a h = absurd (h refl)
nobody s (b ∷ bs) a h = refl

-- Embed and Unembed of what is no reference, and Unembed of one
module _ (o : Object) (body : List Data) (s : RegistryState) (own caller : List ℕ) where
  none : reference_of body ≡ None → reference_in body ≡ ([], [])
  none e = reference_is body ∙ ap (λ r. unwrap_or r ([], [])) e

  pub embeds_nothing : reference_of body ≡ None → (caller ≡ [] → ⊥) → answer_to s own caller (asked_by o body members.Embed) ≡ only s (fails (codes "InvalidArgs"))
  embeds_nothing e h = ap (λ (r : List ℕ × List ℕ). if_own s caller r (adopts s (caller, r.1))) (none e) ∙ nobody s caller (adopts s (caller, [])) h

  pub releases_nothing : reference_of body ≡ None → (caller ≡ [] → ⊥) → answer_to s own caller (asked_by o body members.Unembed) ≡ only s (fails (codes "InvalidArgs"))
  releases_nothing e h = ap (λ (r : List ℕ × List ℕ). if_own s caller r (releases s caller)) (none e) ∙ nobody s caller (releases s caller) h

  pub releases_one : (r : List ℕ × List ℕ) → reference_of body ≡ Some r → answer_to s own caller (asked_by o body members.Unembed) ≡ if_own s caller r (releases s caller)
  releases_one r e = ap (λ (q : List ℕ × List ℕ). if_own s caller q (releases s caller)) (reference_is body ∙ ap (λ q. unwrap_or q ([], [])) e)
