use Rattle.std.proofs.Common.{◌≡◌, ◌≤◌, List, ℕ, Bool, true, false, refl, sym, ◌∙◌, arith, length, take, drop, None, Option}
use Rattle.std.proofs.lemmas.Bool.{le-ltb}
use Rattle.std.proofs.lemmas.List.{take_rest}
use Rattle.std.specs.Prelude.{codes, bytes_eq, nat_lt}
use Rattle.atspi_match.specs.inner.Keys.{named_key, arg_key, key_in}
use Rattle.atspi_match.proofs.key.read_key.Goals as goal

at_arg : (bytes : List ℕ) → named_key bytes ≡ None → 3 ≤ length bytes → bytes_eq (take 3 bytes) (codes "arg") ≡ true → key_in bytes ≡ arg_key (drop 3 bytes)
unfolding key_in
at_arg bytes e le t = rw (e, le-ltb (length bytes) 3 le, t) refl

pub returns : goal.returns
returns c =
    let none : named_key c.args.bytes.now ≡ None = cc in
    let arg : bytes_eq (take 3 c.args.bytes.now) (codes "arg") ≡ true = sym c.is.ensures ∙ c.if-not-is.false in
    rw (c.arg_key.ensures, take_rest c.args.bytes.now 3) (sym (at_arg c.args.bytes.now none (omega arith) arg))
