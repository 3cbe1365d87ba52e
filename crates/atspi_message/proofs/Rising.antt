-- The fields in rising order are those of the message.
use Rattle.std.proofs.Common.{◌≡◌, ℕ, zero, suc, ◌+◌, ◌<◌, ◌≤◌, Bool, true, false, cond, List, [], ◌∷◌, ◌++◌, length, take, drop, Option, Some, None, Result, Ok, Err, refl, sym, ap, subst, ◌∙◌, arith, inl, inr, ◌⊎◌}
use Rattle.std.specs.Prelude.{◌==◌}
use Rattle.std.proofs.lemmas.List.{length-append, take_at, take-append-le}
use Rattle.atspi_types.specs.Kinds.{Kind, number, text, path, signature, u32}
use Rattle.atspi_types.specs.Data.{Data, number_data, text_data, path_data, signature_data, items_of, types_of}
use Rattle.atspi_types.specs.declared.fault.Fault.{Fault}
use Rattle.atspi_marshal.proofs.Places.{IsBytes}
use Rattle.atspi_message.specs.Envelope.{Envelope}
use Rattle.atspi_message.specs.Rules.{MeetsRules, HasNames}
use Rattle.atspi_message.specs.Bytes.{Field, with_code, at_most_one, HasFields, FitsWire, IsMessage, field_if, signature_if, rising_fields, written}
use Rattle.atspi_message.specs.Front.{length_in}
use Rattle.atspi_message.proofs.Found.{with_code-append, append_none}
use Rattle.atspi_message.proofs.Rest.{IsWhole}
use Rattle.atspi_message.proofs.IsSpelled.{FrontIs, front_is}
use Rattle.atspi_message.proofs.FrontLaws.{same_length}

of_if : {A : Type 0} (n c : ℕ) (k : Kind) (view : A → Data) (o : Option A) → with_code n (field_if c k view o) ≡ cond (c == n) (at_most_one view o) []
of_if n c k view (Some x) = refl
of_if n c k view None = same (c == n)
  where
    same : (t : Bool) → [] ≡ cond {A = List Data} t [] []
    same true = refl
    same false = refl

abbrev pub body_list : List Data → List Data
body_list [] = []
body_list (d ∷ ds) = signature_data (types_of (items_of (d ∷ ds))) ∷ []

of_signature : (n : ℕ) (ds : List Data) → with_code n (signature_if ds) ≡ cond (8 == n) (body_list ds) []
of_signature n (d ∷ ds) = refl
of_signature n [] = same (8 == n)
  where
    same : (t : Bool) → [] ≡ cond {A = List Data} t [] []
    same true = refl
    same false = refl

abbrev all_parts : ℕ → Envelope → List Data
all_parts n e =
    cond (1 == n) (at_most_one path_data e.path) [] ++ (cond (2 == n) (at_most_one text_data e.interface) [] ++ (cond (3 == n) (at_most_one text_data e.member) []
    ++ (cond (4 == n) (at_most_one text_data e.error) [] ++ (cond (5 == n) (at_most_one (number_data u32) e.reply) [] ++ (cond (6 == n) (at_most_one text_data e.destination) []
    ++ (cond (7 == n) (at_most_one text_data e.sender) [] ++ cond (8 == n) (body_list e.body) []))))))

two : (n : ℕ) (fs gs : List Field) (a b : List Data) → with_code n fs ≡ a → with_code n gs ≡ b → with_code n (fs ++ gs) ≡ a ++ b
two n fs gs a b p q = with_code-append n fs gs ∙ rw (p, q) refl

parts_are : (n : ℕ) (e : Envelope) → with_code n (rising_fields e) ≡ all_parts n e
unfolding rising_fields
parts_are n e =
    two n _ _ _ _ (of_if n 1 path path_data e.path) (two n _ _ _ _ (of_if n 2 text text_data e.interface) (two n _ _ _ _ (of_if n 3 text text_data e.member)
    (two n _ _ _ _ (of_if n 4 text text_data e.error) (two n _ _ _ _ (of_if n 5 (number u32) (number_data u32) e.reply) (two n _ _ _ _ (of_if n 6 text text_data e.destination)
    (two n _ _ _ _ (of_if n 7 text text_data e.sender) (of_signature n e.body)))))))

signature_part : (ds : List Data) → (body_list ds ≡ signature_data (types_of (items_of ds)) ∷ []) ⊎ ((ds ≡ []) × (body_list ds ≡ []))
signature_part [] = inr (refl, refl)
signature_part (d ∷ ds) = inl refl

pub rising_held : (e : Envelope) → HasFields e (rising_fields e)
rising_held e = record {
  no_code = parts_are 0 e;
  path = parts_are 1 e ∙ append_none (at_most_one path_data e.path);
  interface = parts_are 2 e ∙ append_none (at_most_one text_data e.interface);
  member = parts_are 3 e ∙ append_none (at_most_one text_data e.member);
  error = parts_are 4 e ∙ append_none (at_most_one text_data e.error);
  reply = parts_are 5 e ∙ append_none (at_most_one (number_data u32) e.reply);
  destination = parts_are 6 e ∙ append_none (at_most_one text_data e.destination);
  sender = parts_are 7 e ∙ append_none (at_most_one text_data e.sender);
  signature = by (signature_part e.body);
  descriptors = inr (parts_are 9 e);
}
  where
    by : (body_list e.body ≡ signature_data (types_of (items_of e.body)) ∷ []) ⊎ ((e.body ≡ []) × (body_list e.body ≡ []))
        → (with_code 8 (rising_fields e) ≡ signature_data (types_of (items_of e.body)) ∷ []) ⊎ ((e.body ≡ []) × (with_code 8 (rising_fields e) ≡ []))
    by (inl is) = inl (parts_are 8 e ∙ is)
    by (inr none) = inr (none.0, parts_are 8 e ∙ none.1)

pub written_is : (e : Envelope) → MeetsRules e → HasNames e → FitsWire e (rising_fields e) → IsMessage e (written e)
written_is e meets named fits = record { meets = meets; named = named; fields = rising_fields e; held = rising_held e; fits = fits; spelled = refl }

nothing_more : (more : List ℕ) → length more ≡ 0 → more ≡ []
nothing_more [] e = refl
nothing_more (x ∷ more) e = absurd (omega (arith, e))

-- bytes that begin others state the same length
pub no_front : (e d : Envelope) (bytes more : List ℕ) → IsMessage e bytes → IsMessage d (bytes ++ more) → more ≡ []
no_front e d bytes more m n =
    let a = (front_is bytes e m.fields m.meets m.fits m.spelled).whole in
    let b = (front_is (bytes ++ more) d n.fields n.meets n.fits n.spelled).whole in
    let front : take 16 (bytes ++ more) ≡ take 16 bytes = take-append-le 16 bytes more a.long in
    let same : length_in bytes ≡ length_in (bytes ++ more) = sym (same_length bytes) ∙ ap length_in (sym front) ∙ same_length (bytes ++ more) in
    nothing_more more (omega (arith, a.whole, b.whole, same, length-append bytes more))
