-- Answers by what the tests say, and the messages of each.
use Rattle.std.proofs.Common.{◌≡◌, ℕ, ◌<◌, Bool, true, false, List, [], ◌∷◌, ◌++◌, length, Option, Some, None, refl, sym, ap, ◌∙◌, append_assoc}
use Rattle.std.proofs.lemmas.List.{append-nil}
use Rattle.std.specs.Prelude.{if◌then◌else◌, codes, IfSome, slice_get}
use Rattle.std.specs.List.{list_any}
use Rattle.std.proofs.lemmas.List.Quantifiers.{position-Some}
use Rattle.atspi_message.specs.Envelope.{Envelope}
use Rattle.atspi_protocol.specs.ends.Places.{registry_root}
use Rattle.atspi_protocol.specs.ends.Messages.{returns, fails, replies}
use Rattle.atspi_protocol.specs.registering.RegistryState.{RegistryState, is_of, has_pair, without_pair, child_place}
use Rattle.atspi_protocol.specs.registering.Told.{registered, deregistered, is_asked_for, child_removed}
use Rattle.atspi_protocol.specs.registering.Answers.{Answer, only, registers, deregisters, new_child, adopts, children_without, news_of_removal}
use Rattle.atspi_registry.specs.declared.calls.ask.Ask.{Ask}
use Rattle.atspi_registry.specs.declared.calls.ask.Ask.TheVariants.{Register, Deregister, Registered, Embed, Unembed, Children, ChildAt, Role, RoleName, Name, ChildCount, AllProperties, NoProperties, Ping}
use Rattle.atspi_registry.specs.calls.Ask.{answers_ask}
use Rattle.atspi_registry.specs.inner.Questions.{IsQuestion, question_data}
use Rattle.atspi_registry.specs.inner.Steps.{told_at, removal_told}

-- a question is answered by its values, and changes nothing
pub question : (ask : Ask) (s : RegistryState) (own caller : List ℕ) → IsQuestion ask → answers_ask ask s own caller ≡ only s (returns (question_data ask s.pairs s.children own))
question (Register pattern) s own caller q = absurd q
question (Deregister pattern) s own caller q = absurd q
question (Embed name path) s own caller q = absurd q
question (Unembed name path) s own caller q = absurd q
question Registered s own caller q = refl
question Children s own caller q = refl
question (ChildAt index) s own caller q = refl
question Role s own caller q = refl
question RoleName s own caller q = refl
question Name s own caller q = refl
question ChildCount s own caller q = refl
question AllProperties s own caller q = refl
question NoProperties s own caller q = refl
question Ping s own caller q = refl

abbrev new_pair : RegistryState → List ℕ → List ℕ → Answer
new_pair s caller pattern = record (only s (returns [])) { pairs = s.pairs ++ (caller, pattern) ∷ []; before = registered (caller, pattern) ∷ [] }

abbrev pair_less : RegistryState → List ℕ → List ℕ → Answer
pair_less s caller pattern = record (only s (returns [])) { pairs = without_pair s.pairs caller pattern; before = deregistered (caller, pattern) ∷ [] }

module _ (s : RegistryState) (caller pattern : List ℕ) where
  pub registers_again : has_pair s.pairs caller pattern ≡ true → registers s caller pattern ≡ only s (returns [])
  registers_again h = ap (λ (b : Bool). if b then only s (returns []) else new_pair s caller pattern) h

  pub registers_new : has_pair s.pairs caller pattern ≡ false
      → registers s caller pattern ≡ record (only s (returns [])) { pairs = s.pairs ++ (caller, pattern) ∷ []; before = registered (caller, pattern) ∷ [] }
  registers_new h = ap (λ (b : Bool). if b then only s (returns []) else new_pair s caller pattern) h

  pub deregisters_none : has_pair s.pairs caller pattern ≡ false → deregisters s caller pattern ≡ only s (returns [])
  deregisters_none h = ap (λ (b : Bool). if b then pair_less s caller pattern else only s (returns [])) h

  pub deregisters_one : has_pair s.pairs caller pattern ≡ true
      → deregisters s caller pattern ≡ record (only s (returns [])) { pairs = without_pair s.pairs caller pattern; before = deregistered (caller, pattern) ∷ [] }
  deregisters_one h = ap (λ (b : Bool). if b then pair_less s caller pattern else only s (returns [])) h

module _ (s : RegistryState) (child : List ℕ × List ℕ) where
  pub adopts_again : list_any (is_of child.0) s.children ≡ true → adopts s child ≡ only s (returns (registry_root ∷ []))
  adopts_again h = ap (λ (b : Bool). if b then only s (returns (registry_root ∷ [])) else new_child s child) h

  pub adopts_new : list_any (is_of child.0) s.children ≡ false → adopts s child ≡ new_child s child
  adopts_new h = ap (λ (b : Bool). if b then only s (returns (registry_root ∷ [])) else new_child s child) h

-- the messages: nothing stands behind a reply, or before it
pub alone : (reply : List Envelope) → reply ≡ [] ++ (reply ++ [])
alone reply = sym (append-nil reply)

pub behind_one : (x : Envelope) (reply : List Envelope) → x ∷ reply ≡ (x ∷ []) ++ (reply ++ [])
behind_one x reply = ap (λ (es : List Envelope). x ∷ es) (sym (append-nil reply))

pub behind_some : (xs reply : List Envelope) → xs ++ reply ≡ xs ++ (reply ++ [])
behind_some xs reply = ap (λ (es : List Envelope). xs ++ es) (sym (append-nil reply))

pub before_news : (reply : List Envelope) (x : Envelope) (news : List Envelope) → (reply ++ x ∷ []) ++ news ≡ [] ++ (reply ++ (x ∷ news))
before_news reply x news = append_assoc reply (x ∷ []) news

-- where the child of a connection stands there is one
pub place_within : (children : List (List ℕ × List ℕ)) (name : List ℕ) (place : Option ℕ) → place ≡ child_place children name → IfSome place (λ i. i < length children)
place_within children name None e = tt
place_within children name (Some i) e = (position-Some (is_of name) children i ([], []) (sym e)).0
