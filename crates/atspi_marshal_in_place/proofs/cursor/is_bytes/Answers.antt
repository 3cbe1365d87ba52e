use Rattle.std.proofs.Common.{◌≡◌, sym, ap, ◌∙◌, arith}
use Rattle.std.proofs.lemmas.Bool.{eqb-true, eq-eqb, false≢true}
use Rattle.atspi_types.specs.Kinds.{Kind, array, number, byte}
use Rattle.atspi_marshal_in_place.specs.codes.Codes.{head_code, is_array}
use Rattle.atspi_marshal_in_place.specs.codes.TyRefs.{ref_kind}
use Rattle.atspi_marshal_in_place.proofs.Opens.{leaf_kind}
use Rattle.atspi_marshal_in_place.proofs.cursor.is_bytes.Goals as goal

element_of : {j k : Kind} → array j ≡ array k → j ≡ k
element_of e = cc

pub returns-in-Some : goal.returns-in-Some
returns-in-Some c = (
  λ s.
      let e : c.code.result ≡ 121 = eqb-true c.code.result 121 s in
      let kind : ref_kind c.in-Some.element ≡ number byte = leaf_kind (ref_kind c.in-Some.element) c.code.result 121 e (λ q. absurd (omega (arith, q))) (λ q. absurd (omega (arith, q))) c.code.ensures.leaf in
      c.in-Some.ensures.element ∙ ap array kind,
  λ e.
      let kind : ref_kind c.in-Some.element ≡ number byte = element_of (sym c.in-Some.ensures.element ∙ e) in
      eq-eqb c.code.result 121 (c.code.ensures.head ∙ ap head_code kind),
)

pub returns-in-None : goal.returns-in-None
returns-in-None c = (λ s. absurd (false≢true s), λ e. c.in-None.ensures.is.1 (ap is_array e))
