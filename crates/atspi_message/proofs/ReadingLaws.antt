-- What the reading of values owes is what is proved of it.
use Rattle.std.proofs.Common.{◌≡◌, ℕ, ◌<◌, ◌≤◌, List, length, Result, Ok, Err, sym, ◌∙◌, ap, refl, [], ◌∷◌}
use Rattle.atspi_types.specs.Kinds.{Kind, Kinds, kinds_of, types_in, IsLawful}
use Rattle.atspi_types.specs.Signatures.{signature_bytes, IsSignature}
use Rattle.atspi_types.specs.SignatureReading.{signature_in}
use Rattle.atspi_types.specs.Data.{Data}
use Rattle.atspi_types.specs.declared.fault.Fault.{Fault}
use Rattle.atspi_types.proofs.SignatureLaws.{signature_in-read, signature_in-again}
use Rattle.atspi_marshal.specs.declared.input.Bound.{Bound}
use Rattle.atspi_marshal.specs.Input.{Input}
use Rattle.atspi_marshal.specs.Faults.{IsItem}
use Rattle.atspi_marshal.specs.Reading.{read}
use Rattle.atspi_marshal.proofs.Places.{IsBytes, IsValid}
use Rattle.atspi_marshal.proofs.Sound.{IsSound-read}
use Rattle.atspi_marshal.proofs.Complete.{IsComplete-read}
use Rattle.atspi_marshal.proofs.There.{IsThere-read}
use Rattle.atspi_marshal.proofs.Least.{IsLeast-read, wrong_behind}
use Rattle.atspi_message.proofs.Told.{ReadLaws}

same_types : (ks : List Kind) → types_in (kinds_of ks) ≡ ks
same_types [] = refl
same_types (k ∷ ks) = ap (λ (js : List Kind). k ∷ js) (same_types ks)

took : (i : Input) (levels : ℕ) (k : Kind) (b : Bound) (at : ℕ) (x : Data × ℕ) → IsBytes i.bytes → IsLawful k → IsValid i b → read i levels k b at ≡ Ok x → IsItem i levels k b at x.1 x.0 × (at < x.1)
took i levels k b at x h lawful valid e = let t = IsSound-read i levels h k b at x lawful valid e in (t.is, t.more)

abbrev types_are : List Kind → Result (List Kind) Fault
types_are ks = Ok ks

pub read_laws : (i : Input) → IsBytes i.bytes → ReadLaws i
read_laws i h = record {
  sound = λ levels k b at x lawful valid e. took i levels k b at x h lawful valid e;
  complete = λ levels k b at next d lawful valid is. IsComplete-read i levels k b at next d lawful valid is;
  there = λ levels k b at f lawful valid le e. IsThere-read i levels h k b at f lawful valid le e;
  least = λ levels k b at q s lawful valid le wrong. (let t = IsLeast-read i levels k b at q s lawful valid le wrong in (t.told, t.is, t.before));
  behind = λ levels k b at q s wrong. wrong_behind i levels k b at q s wrong;
  signature_is = λ bytes ks e. (let r = signature_in-read bytes ks e in (sym r.spelled, r.is));
  signature_again = λ ks is. signature_in-again (kinds_of ks) is ∙ ap types_are (same_types ks);
}
