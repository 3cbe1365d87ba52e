-- Causes of a line that were done, and one more; turns, and one more.
use Rattle.std.proofs.Common.{◌≡◌, ℕ, zero, suc, List, [], ◌++◌, Some, refl, sym, ap, ◌∙◌, subst, append-nil, append_assoc}
use Rattle.atspi_trace.specs.Entry.{Entry}
use Rattle.atspi_trace.specs.World.{World}
use Rattle.atspi_trace.specs.Causes.{Cause}
use Rattle.atspi_trace.specs.Work.{Work, cause, next_of, next_turn}
use Rattle.atspi_trace.specs.play.Breaking.{PlaysOn, so_far, caused, PlayedTurns}
use Rattle.atspi_trace.specs.play.Playing.{Playing}
use Rattle.atspi_trace.specs.play.Plays.{plays}

pub on_more : (p q : Playing) (v : World) (left last rest : Work) (c : Cause) (es : List Entry) → PlaysOn p left es q last → next_of q.world last ≡ cause c v rest
    → PlaysOn p left (es ++ (plays (record q { world = v }) c).entries) (plays (record q { world = v }) c).now rest
on_more _ _ v _ _ rest c _ (so_far p left) is =
    let h = plays (record p { world = v }) c in
    subst (λ l. PlaysOn p left l h.now rest) (append-nil h.entries) (caused p h.now v left rest rest c [] is (so_far h.now rest))
on_more _ _ v _ _ rest c _ (caused p q u left next last d es first on) is =
    let h = plays (record p { world = u }) d in
    let more = plays (record q { world = v }) c in
    subst (λ l. PlaysOn p left l more.now rest) (sym (append_assoc h.entries es more.entries)) (caused p more.now u left next rest d (es ++ more.entries) first (on_more h.now q v next last rest c es on is))

pub turned_on : (n : ℕ) (p q : Playing) (c : Cause) (es : List Entry) → PlayedTurns n p es q → next_turn q.world ≡ Some c → PlayedTurns (suc n) p (es ++ (plays q c).entries) (plays q c).now
turned_on zero p q c es (none, same) is = (
  c,
  [],
  ap (λ (x : Playing). next_turn x.world) (sym same) ∙ is,
  ap (λ l. l ++ (plays q c).entries) none ∙ ap (λ x. (plays x c).entries) same ∙ sym (append-nil (plays p c).entries),
  (refl, ap (λ x. (plays x c).now) same),
)
turned_on (suc n) p q c es (d, rest, first, es_are, more) is = (
  d,
  rest ++ (plays q c).entries,
  first,
  ap (λ l. l ++ (plays q c).entries) es_are ∙ append_assoc (plays p d).entries rest (plays q c).entries,
  turned_on n (plays p d).now q c rest more is,
)
