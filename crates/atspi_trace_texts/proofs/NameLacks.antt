-- Names have neither a space nor a line feed.
use Rattle.std.proofs.Common.{◌≡◌, ◌≢◌, ℕ, Bool, true, false, ◌==◌, List, [], ◌∷◌, refl, sym, subst, ◌∙◌, arith, inl, inr, ◌⊎◌}
use Rattle.std.proofs.lemmas.Bool.{false≢true, eqb-true}
use Rattle.std.specs.Prelude.{IsTrue, if◌then◌else◌}
use Rattle.std.specs.List.{AllByRecursion}
use Rattle.atspi_base.specs.valid_names.Elements.{parts_of, in_front, may_begin, may_follow}
use Rattle.atspi_base.specs.valid_names.Names.{IsElement, IsPath, IsInterface, IsMember, IsBusName, HasBusElements}
use Rattle.atspi_base.specs.declared.valid_names.elements.Form.{Form}
use Rattle.atspi_base.specs.declared.valid_names.elements.Form.TheVariants.{Path, Interface, WellKnown, Unique}
use Rattle.atspi_trace_texts.proofs.Lacks.{Lacks}

-- a byte that stands in no element, and is no separator
pub record IsStrange (x : ℕ) : Type 0 where
  pub first : (form : Form) → may_begin form x ≡ false
  pub later : (form : Form) → may_follow form x ≡ false
  pub no_dot : 46 ≢ x
  pub no_slash : 47 ≢ x
  pub no_colon : 58 ≢ x

pub strange_space : IsStrange 32
strange_space = record { first = first; later = later; no_dot = λ e. omega (arith, e); no_slash = λ e. omega (arith, e); no_colon = λ e. omega (arith, e) }
  where
    first : (form : Form) → may_begin form 32 ≡ false
    first Path = refl
    first Interface = refl
    first WellKnown = refl
    first Unique = refl

    later : (form : Form) → may_follow form 32 ≡ false
    later Path = refl
    later Interface = refl
    later WellKnown = refl
    later Unique = refl

pub strange_feed : IsStrange 10
strange_feed = record { first = first; later = later; no_dot = λ e. omega (arith, e); no_slash = λ e. omega (arith, e); no_colon = λ e. omega (arith, e) }
  where
    first : (form : Form) → may_begin form 10 ≡ false
    first Path = refl
    first Interface = refl
    first WellKnown = refl
    first Unique = refl

    later : (form : Form) → may_follow form 10 ≡ false
    later Path = refl
    later Interface = refl
    later WellKnown = refl
    later Unique = refl

follow_lacks : (x : ℕ) (form : Form) (bytes : List ℕ) → IsStrange x → AllByRecursion (λ c. IsTrue (may_follow form c)) bytes → Lacks x bytes
follow_lacks x form [] s h = tt
follow_lacks x form (b ∷ bytes) s h =
    ((λ e. false≢true (sym (s.later form) ∙ subst (λ n. may_follow form n ≡ true) e h.0)), follow_lacks x form bytes s h.1)

pub element_lacks : (x : ℕ) (form : Form) (part : List ℕ) → IsStrange x → IsElement form part → Lacks x part
element_lacks x form [] s h = absurd h
element_lacks x form (b ∷ part) s h =
    ((λ e. false≢true (sym (s.first form) ∙ subst (λ n. may_begin form n ≡ true) e h.0)), follow_lacks x form part s h.1)

each_lacks : (x : ℕ) (form : Form) (parts : List (List ℕ)) → IsStrange x → AllByRecursion (IsElement form) parts → AllByRecursion (Lacks x) parts
each_lacks x form [] s h = tt
each_lacks x form (part ∷ parts) s h = (element_lacks x form part s h.0, each_lacks x form parts s h.1)

parts_lack : (x separator : ℕ) (bytes : List ℕ) → separator ≢ x → AllByRecursion (Lacks x) (parts_of separator bytes) → Lacks x bytes
unfolding parts_of
parts_lack x separator [] other h = tt
parts_lack x separator (b ∷ bytes) other h = by (b == separator) refl h (parts_lack x separator bytes other)
  where
    front : (parts : List (List ℕ)) → AllByRecursion (Lacks x) (in_front b parts) → (AllByRecursion (Lacks x) parts → Lacks x bytes) → Lacks x (b ∷ bytes)
    front [] h more = (h.0.0, more tt)
    front (part ∷ parts) h more = (h.0.0, more (h.0.1, h.1))

    by : (t : Bool) → (b == separator) ≡ t → AllByRecursion (Lacks x) (if t then [] ∷ parts_of separator bytes else in_front b (parts_of separator bytes))
        → (AllByRecursion (Lacks x) (parts_of separator bytes) → Lacks x bytes) → Lacks x (b ∷ bytes)
    by true t h more = ((λ e. other (sym (eqb-true b separator t) ∙ e)), more h.1)
    by false t h more = front (parts_of separator bytes) h more

elements_lack : (x : ℕ) (form : Form) (separator : ℕ) (bytes : List ℕ) → IsStrange x → separator ≢ x → AllByRecursion (IsElement form) (parts_of separator bytes) → Lacks x bytes
elements_lack x form separator bytes s other h = parts_lack x separator bytes other (each_lacks x form (parts_of separator bytes) s h)

pub path_lacks : (x : ℕ) (bytes : List ℕ) → IsStrange x → IsPath bytes → Lacks x bytes
path_lacks x [] s h = absurd h
path_lacks x (b ∷ bytes) s h = ((λ e. s.no_slash (sym h.0 ∙ e)), by h.1)
  where
    by : (bytes ≡ []) ⊎ AllByRecursion (IsElement Path) (parts_of 47 bytes) → Lacks x bytes
    by (inl e) = subst (Lacks x) (sym e) tt
    by (inr h) = elements_lack x Path 47 bytes s s.no_slash h

pub interface_lacks : (x : ℕ) (bytes : List ℕ) → IsStrange x → IsInterface bytes → Lacks x bytes
interface_lacks x bytes s h = elements_lack x Interface 46 bytes s s.no_dot h.elements.each

pub member_lacks : (x : ℕ) (bytes : List ℕ) → IsStrange x → IsMember bytes → Lacks x bytes
member_lacks x bytes s h = element_lacks x Interface bytes s h.element

pub bus_name_lacks : (x : ℕ) (bytes : List ℕ) → IsStrange x → IsBusName bytes → Lacks x bytes
bus_name_lacks x bytes s h = by bytes h.elements
  where
    by : (bytes : List ℕ) → HasBusElements bytes → Lacks x bytes
    by [] h = absurd h
    by (b ∷ bytes) (inl h) = ((λ e. s.no_colon (sym h.0 ∙ e)), elements_lack x Unique 46 bytes s s.no_dot h.1.each)
    by (b ∷ bytes) (inr h) = elements_lack x WellKnown 46 (b ∷ bytes) s s.no_dot h.each
