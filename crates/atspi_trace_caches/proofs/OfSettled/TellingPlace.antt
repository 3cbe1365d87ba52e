-- WHERE A CALL FOR THE REGISTRY'S CHILDREN STANDS: of a reader that began well, each stands behind the rest of the start, which has none.
use Rattle.std.proofs.Common.{◌≡◌, Bool, true, false, List, [], ◌∷◌, ◌++◌, map, refl, sym, ap, ◌∙◌}
use Rattle.std.specs.Prelude.{take}
use Rattle.std.specs.List.{AllByRecursion}
use Rattle.atspi_protocol.specs.declared.following.question.Question.{Question}
use Rattle.atspi_protocol.specs.declared.following.question.Question.TheVariants.{Hello, GetChildren}
use Rattle.atspi_protocol.specs.following.ReaderState.{start_calls}
use Rattle.atspi_trace.specs.World.{Asked}
use Rattle.atspi_trace_caches.specs.settled.Laws.{question_of, BeginsWell}
use Rattle.atspi_trace_laws.proofs.OfOrder.Parties.{false_true}

is_get : Question → Bool
is_get GetChildren = true
is_get question = false

head_is : Question → List Question → Question
head_is q [] = q
head_is q (x ∷ xs) = x

rest_is : List Question → List Question
rest_is [] = []
rest_is (x ∷ xs) = xs

place : (pre post : List Question) → AllByRecursion (λ (q : Question). is_get q ≡ false) pre → (early late : List Asked) (x : Asked) → map question_of (early ++ x ∷ late) ≡ pre ++ GetChildren ∷ post → x.question ≡ GetChildren
    → (rest : List Question) × (map question_of (early ++ x ∷ []) ≡ pre ++ GetChildren ∷ rest)
unfolding head_is is_get rest_is
place [] post without [] late x h q = ([], ap (λ (z : Question). z ∷ []) q)
place [] post without (e ∷ es) late x h q = (map question_of (es ++ x ∷ []), ap (λ (z : Question). z ∷ map question_of (es ++ x ∷ [])) (ap (head_is Hello) h))
place (p ∷ ps) post without [] late x h q = absurd (false_true (sym without.0 ∙ ap is_get (sym (ap (head_is Hello) h) ∙ q)))
place (p ∷ ps) post without (e ∷ es) late x h q =
    let r = place ps post without.1 es late x (ap rest_is h) q in
    (r.0, ap (λ (z : Question). z ∷ map question_of (es ++ x ∷ [])) (ap (head_is Hello) h) ∙ ap (λ (zs : List Question). p ∷ zs) r.1)

abbrev first_nine : List Question
first_nine = take 9 start_calls

pub get_is_well : (early late : List Asked) (x : Asked) → BeginsWell (early ++ x ∷ late) → x.question ≡ GetChildren → BeginsWell (early ++ x ∷ [])
unfolding is_get
get_is_well early late x begins q = place first_nine begins.0 (refl, (refl, (refl, (refl, (refl, (refl, (refl, (refl, (refl, tt))))))))) early late x begins.1 q
