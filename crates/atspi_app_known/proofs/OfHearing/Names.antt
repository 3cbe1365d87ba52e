-- A text is a bus name by its characters where it is one by its bytes, and then they are the same.
use Rattle.std.proofs.Common.{◌≡◌, ℕ, Bool, true, false, cond, List, Option, None, Some, refl, sym, ap, ◌∙◌, chars, IsUtf8}
use Rattle.std.specs.Prelude.{encode_utf8_all}
use Rattle.std.proofs.lemmas.Str.{chars-IsAscii, encodes-chars, encodes-IsAscii}
use Rattle.atspi_base.specs.valid_names.Names.{is_bus_name}
use Rattle.atspi_base.proofs.OfValidNames.NameLemmas.{IsAscii-IsBusName, IsBusName-from_test}
use Rattle.atspi_app_known.specs.hearing.inner.Lent.{pair_by}

pub name_plain : (s : List ℕ) → is_bus_name s ≡ true → chars s ≡ s
name_plain s e = chars-IsAscii s (IsAscii-IsBusName s (IsBusName-from_test s e))

written_plain : (s : List ℕ) → IsUtf8 s → is_bus_name (chars s) ≡ true → chars s ≡ s
written_plain s u e = sym (encodes-IsAscii (chars s) (IsAscii-IsBusName (chars s) (IsBusName-from_test (chars s) e))) ∙ encodes-chars s u

pub name_rule : (s : List ℕ) → IsUtf8 s → is_bus_name (chars s) ≡ is_bus_name s
name_rule s u = by (is_bus_name s) refl (is_bus_name (chars s)) refl
  where
    by : (a : Bool) → is_bus_name s ≡ a → (b : Bool) → is_bus_name (chars s) ≡ b → is_bus_name (chars s) ≡ is_bus_name s
    by true p b q = ap is_bus_name (name_plain s p)
    by false p true q = ap is_bus_name (written_plain s u q)
    by false p false q = q ∙ sym p

pub pair_named : (s p : List ℕ) → IsUtf8 s → is_bus_name s ≡ true → Some (s, p) ≡ pair_by (chars s) p
pair_named s p u e =
    ap (λ (n : List ℕ). Some (n, p)) (sym (name_plain s e))
    ∙ sym (ap (λ b. cond b (Some (chars s, p)) None) (name_rule s u ∙ e))

pub pair_unnamed : (s p : List ℕ) → IsUtf8 s → is_bus_name s ≡ false → None ≡ pair_by (chars s) p
pair_unnamed s p u e = sym (ap (λ b. cond b (Some (chars s, p)) None) (name_rule s u ∙ e))
