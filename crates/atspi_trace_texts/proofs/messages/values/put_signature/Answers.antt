use Rattle.std.proofs.Common.{◌≡◌, ℕ, List, [], ◌∷◌, ◌++◌, append_assoc, sym, ap, ◌∙◌}
use Rattle.atspi_types.specs.SignatureView.{signature_kinds}
use Rattle.atspi_types.specs.Signatures.{signature_bytes}
use Rattle.atspi_base.specs.Quoted.{in_quotes}
use Rattle.atspi_types.specs.Kinds.{Kinds}
use Rattle.atspi_trace_texts.proofs.OfMessages.TypeLemmas.{plain_types}
use Rattle.atspi_trace_texts.proofs.messages.values.put_signature.Goals as goal

written : (ks : Kinds) (out a b new : List ℕ) → a ≡ out ++ 34 ∷ [] → b ≡ a ++ signature_bytes ks → new ≡ b ++ 34 ∷ [] → new ≡ out ++ in_quotes (signature_bytes ks)
written ks out a b new e f g =
    g
    ∙ ap (λ w. w ++ 34 ∷ []) (f ∙ ap (λ w. w ++ signature_bytes ks) e ∙ append_assoc out (34 ∷ []) (signature_bytes ks))
    ∙ append_assoc out (34 ∷ signature_bytes ks) (34 ∷ [])
    ∙ sym (ap (λ w. out ++ 34 ∷ (w ++ 34 ∷ [])) (plain_types ks))

pub returns-clause-ok : goal.returns-clause-ok
returns-clause-ok c =
    written (signature_kinds c.args.signature.now) c.args.out.now c.push.new.self c.write.new.out c.push-2.new.self c.in_ok-push.ensures.ok c.in_ok-write.ensures.ok c.in_ok-push-2.ensures.ok
