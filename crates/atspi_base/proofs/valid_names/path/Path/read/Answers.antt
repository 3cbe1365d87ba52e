use Rattle.std.proofs.Common.{refl}
use Rattle.std.proofs.lemmas.Result.{err_from_is_err_and}
use Rattle.atspi_base.proofs.OfValidNames.NameLemmas.{no_memory_is_no_form, IsPath-from_test, is_path-from_IsPath, IsAscii-IsPath}
use Rattle.atspi_base.proofs.valid_names.path.Path.read.Goals as goal

pub returns-then-not-is_rule-clause-form : goal.returns-then-not-is_rule-clause-form
returns-then-not-is_rule-clause-form c = (λ _ h. absurd (cc (is_path-from_IsPath c.args.bytes.now h)), λ _. refl)

pub ascii_text-requires : goal.ascii_text-requires
ascii_text-requires c = IsAscii-IsPath c.args.bytes.now (IsPath-from_test c.args.bytes.now cc)

pub returns-in_err-ascii_text-clause-form : goal.returns-in_err-ascii_text-clause-form
returns-in_err-ascii_text-clause-form c =
    let p = err_from_is_err_and c.from_residual.result c.from_residual.ensures.1 in
    rw (p.1, p.2) (λ h. absurd (no_memory_is_no_form h), λ refuted. absurd (refuted (IsPath-from_test c.args.bytes.now cc)))

pub invariant_of-result : goal.invariant_of-result
invariant_of-result c = rw c.in_ok-ascii_text.ensures (IsPath-from_test c.args.bytes.now cc)

pub returns-clause-ok : goal.returns-clause-ok
returns-clause-ok c = (c.in_ok-ascii_text.ensures, IsPath-from_test c.args.bytes.now cc)

pub returns-clause-form : goal.returns-clause-form
returns-clause-form c = (λ h. absurd cc, λ refuted. absurd (refuted (IsPath-from_test c.args.bytes.now cc)))
