use Rattle.std.proofs.Common.{◌≡◌, sym, subst, ◌∙◌, true≢false}
use Rattle.std.specs.Prelude.{codes}
use Rattle.std.proofs.lemmas.Slice.Eq.{bytes_eq-Decides}
use Rattle.atspi_app_calls.proofs.PathLemmas.{Behind, Spelled, IsOfNone, no_base, no_word, no_zero, root_found, number_found}
use Rattle.atspi_app_calls.proofs.paths.node_at.Goals as goal

pub returns-in_default : goal.returns-in_default
returns-in_default c =
    let bytes = c.as_bytes.result.now in
    subst IsOfNone c.as_bytes.ensures.value (no_base bytes (subst (Behind bytes) c.in_default.is c.behind_base.ensures))

pub returns-then-is_root : goal.returns-then-is_root
returns-then-is_root c =
    let bytes = c.as_bytes.result.now in
    let word = c.in-Some.word.now in
    root_found bytes word (subst (Behind bytes) c.in-Some.is c.behind_base.ensures) ((bytes_eq-Decides word (codes "root")).0 (sym c.is_root.ensures ∙ c.if-is_root.true)) ∙ c.as_bytes.ensures.value

pub returns-in_default-read_number : goal.returns-in_default-read_number
returns-in_default-read_number c =
    let bytes = c.as_bytes.result.now in
    let word = c.in-Some.word.now in
    let other : word ≡ codes "root" → ⊥ = λ e. true≢false (sym ((bytes_eq-Decides word (codes "root")).1 e) ∙ sym c.is_root.ensures ∙ c.if-is_root.false) in
    subst IsOfNone c.as_bytes.ensures.value
    (no_word bytes word (subst (Behind bytes) c.in-Some.is c.behind_base.ensures) other (subst (Spelled word) c.in_default-read_number.is c.read_number.ensures))

pub returns-then-number-eq0 : goal.returns-then-number-eq0
returns-then-number-eq0 c =
    let bytes = c.as_bytes.result.now in
    let word = c.in-Some.word.now in
    let other : word ≡ codes "root" → ⊥ = λ e. true≢false (sym ((bytes_eq-Decides word (codes "root")).1 e) ∙ sym c.is_root.ensures ∙ c.if-is_root.false) in
    subst IsOfNone c.as_bytes.ensures.value
    (no_zero bytes word c.in-Some-read_number.number (subst (Behind bytes) c.in-Some.is c.behind_base.ensures) other (subst (Spelled word) c.in-Some-read_number.is c.read_number.ensures) c.if-number-eq0.true)

pub returns : goal.returns
returns c =
    let bytes = c.as_bytes.result.now in
    let word = c.in-Some.word.now in
    number_found bytes word c.in-Some-read_number.number (subst (Behind bytes) c.in-Some.is c.behind_base.ensures) (subst (Spelled word) c.in-Some-read_number.is c.read_number.ensures) c.if-number-eq0.false
    ∙ c.as_bytes.ensures.value
