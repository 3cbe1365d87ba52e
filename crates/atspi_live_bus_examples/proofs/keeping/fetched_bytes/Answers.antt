use Rattle.std.proofs.Common.{[], ◌++◌, refl, sym, subst, append-nil}
use Rattle.std.specs.Prelude.{ℕ, List}
use Rattle.atspi_live_bus.specs.Asked.{handed_to}
use Rattle.atspi_live_bus.specs.Turns.{Converses}
use Rattle.atspi_live_bus_examples.proofs.Facts.{some_byte}
use Rattle.atspi_live_bus_examples.proofs.Linked.{five_three}
use Rattle.atspi_live_bus_examples.proofs.Kept.{none_given, none_waits}
use Rattle.atspi_live_bus_examples.proofs.keeping.fetched_bytes.Goals as goal

pub returns-clause-none : goal.returns-clause-none
returns-clause-none c b l = record {
  asked = [];
  run = refl;
  only = λ d n. (refl, refl);
  none_taken = refl;
  are = tt;
  talks = λ took handed t g talks. subst (λ (w : List ℕ). Converses took w l t g) (sym (append-nil handed)) talks;
}

pub returns-clause-early : goal.returns-clause-early
returns-clause-early c b d l m f talks is = none_waits [] ([] ++ handed_to 0 f.asked) m (f.talks [] [] [] [] talks) is

pub returns-clause-none_given : goal.returns-clause-none_given
returns-clause-none_given c b l = record {
  asked = [];
  run = refl;
  only = λ d n. (refl, refl);
  none_taken = refl;
  are = tt;
  talks = λ took handed. ((λ j n. (refl, refl)), λ talks. subst (λ (w : List ℕ). Converses took w l [] []) (sym (append-nil handed)) talks);
}

pub returns-clause-given_early : goal.returns-clause-given_early
returns-clause-given_early c b d l m g talks = none_given [] ([] ++ handed_to 0 g.asked) m ((g.talks [] []).1 talks)

pub returns-clause-given_another : goal.returns-clause-given_another
returns-clause-given_another c b d l m g = some_byte 7 [] ((g.talks [] []).0 5 five_three).1

pub returns-clause-told_again : goal.returns-clause-told_again
returns-clause-told_again c b d l m g = g.talks [] []
