use Rattle.std.proofs.Common.{◌≡◌, ◌↔◌, ◌&&◌, Bool, sym, ◌∙◌, IsTrue, ltb, leb}
use Rattle.std.proofs.lemmas.Bool.{and_from, and_parts, le-leb, leb-true, lt-ltb, ltb-true}
use Rattle.atspi_run.specs.declared.words.Script.{Script}
use Rattle.atspi_run.specs.Words.{IsAllowed}
use Rattle.atspi_run.proofs.words.Script.is_allowed.Goals as goal

allowed : (s : Script) (r : Bool) → r ≡ ltb 0 s.count && (leb s.count 20000 && ltb s.seed 2147483648) → IsTrue r ↔ IsAllowed s
allowed s r e = (
  λ t. let both = and_parts (ltb 0 s.count) (leb s.count 20000 && ltb s.seed 2147483648) (sym e ∙ t) in let late = and_parts (leb s.count 20000) (ltb s.seed 2147483648) both.1 in
      record { some = ltb-true 0 s.count both.0; few = leb-true s.count 20000 late.0; small = ltb-true s.seed 2147483648 late.1 },
  λ a. e ∙ and_from (ltb 0 s.count) (leb s.count 20000 && ltb s.seed 2147483648) (lt-ltb 0 s.count a.some)
      (and_from (leb s.count 20000) (ltb s.seed 2147483648) (le-leb s.count 20000 a.few) (lt-ltb s.seed 2147483648 a.small)),
)

pub returns : goal.returns
returns c = allowed c.args.self c.all_three.result c.all_three.ensures
