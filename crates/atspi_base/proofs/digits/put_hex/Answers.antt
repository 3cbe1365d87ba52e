use Rattle.std.proofs.Common.{◌≡◌, ℕ, zero, suc, ◌+◌, ◌-◌, ◌/◌, ◌%◌, ◌≤◌, List, [], ◌∷◌, ◌++◌, length, drop, set, sym, ap, ◌∙◌, arith, append_assoc, length-set}
use Rattle.std.proofs.lemmas.List.{drop-set}
use Rattle.atspi_base.specs.Digits.{hex_digits}
use Rattle.atspi_base.specs.Quoted.{hex_digit}
use Rattle.atspi_base.proofs.digits.put_hex.Goals as goal

hex_more : (i k n : ℕ) → i ≡ suc k → hex_digits i n ≡ hex_digits k (n / 16) ++ hex_digit (n % 16) ∷ []
unfolding hex_digits
hex_more i k n e = ap (λ j. hex_digits j n) e

step : (i k rest x : ℕ) (digits all : List ℕ) → i ≡ suc k → i ≤ length digits → all ≡ hex_digits i rest ++ drop i digits → x ≡ hex_digit (rest % 16) → all ≡ hex_digits k (rest / 16) ++ drop k (set digits k x)
step i k rest x digits all e l h d =
    let written : drop k (set digits k x) ≡ x ∷ drop (k + 1) digits = drop-set digits k x (omega arith) in
    let at : drop (k + 1) digits ≡ drop i digits = ap (λ j. drop j digits) (omega arith) in
    h
    ∙ ap (λ w. w ++ drop i digits) (hex_more i k rest e)
    ∙ append_assoc (hex_digits k (rest / 16)) (hex_digit (rest % 16) ∷ []) (drop i digits)
    ∙ ap (λ w. hex_digits k (rest / 16) ++ w) (ap (λ y. y ∷ drop i digits) (sym d) ∙ sym (written ∙ ap (λ w. x ∷ w) at))

pub loop-i-preserved : goal.loop-i-preserved
loop-i-preserved c =
    record {
      so_far = step c.loop-i.i (c.loop-i.i - 1) c.loop-i.rest c.hex_digit_of.result c.loop-i.digits (hex_digits 16 c.args.n) (omega arith) (omega arith) c.loop-i.invariant.so_far c.hex_digit_of.ensures;
      size = length-set c.loop-i.digits (c.loop-i.i - 1) c.hex_digit_of.result ∙ c.loop-i.invariant.size;
    }

none_left : (i rest : ℕ) (digits all : List ℕ) → i ≤ 0 → all ≡ hex_digits i rest ++ drop i digits → all ≡ digits
unfolding hex_digits
none_left zero rest digits all l h = h
none_left (suc i) rest digits all l h = absurd (omega arith)

pub returns-clause-ok : goal.returns-clause-ok
returns-clause-ok c =
    let all : hex_digits 16 c.args.n ≡ c.loop-i.digits = none_left c.loop-i.i c.loop-i.rest c.loop-i.digits (hex_digits 16 c.args.n) (omega arith) c.loop-i.invariant.so_far in
    rw all c.extend.ensures.ok
