use Rattle.std.proofs.Common.{◌≡◌, List, [], ◌∷◌, get_or, inl, inr, refl, ap, arith}
use Rattle.std.specs.Prelude.{codes}
use Rattle.std.proofs.lemmas.List.Sorted.{IsPermutation-refl}
use Rattle.atspi_match.specs.Conditions.{value_text}
use Rattle.atspi_match.specs.Grammar.{is_quotable, Item, IsItem, quoted, SayRule, IsRuleText}
use Rattle.atspi_match.specs.declared.condition.Condition.{Condition}
use Rattle.atspi_match.specs.declared.condition.Condition.TheVariants.{Kind, Member}
use Rattle.atspi_match.specs.declared.condition.MessageType.TheVariants.{Signal, Error}
use Rattle.atspi_match.proofs.RuleLemmas.{no_wrong}
use Rattle.atspi_match.proofs.UniqueLemmas.{same_rule}
use Rattle.atspi_bus_examples.proofs.Faults.{are, word, plain_item, are_plain, no_conditions, signal_rule, is_signal_rule}
use Rattle.atspi_bus_examples.proofs.rules.spelled.Goals as goal

abbrev signal_item : Item
signal_item = plain_item (codes "type") (codes "signal")

is_signal_item : IsItem signal_item
is_signal_item = record { blanks = tt; key = word (codes "type") refl refl; parts = are_plain (codes "signal") [] refl }

say_signal : SayRule (signal_item ∷ []) signal_rule
say_signal = record {
  conditions = signal_rule;
  each = (is_signal_item, tt);
  say = ((refl, refl), tt);
  order = IsPermutation-refl signal_rule;
  is_rule = is_signal_rule;
}

without : IsRuleText (codes "type=signal") signal_rule
without =
    record { spells = record { items = signal_item ∷ []; joined = inr refl; say_rule = say_signal }; short = omega arith }

pub returns-clause-empty : goal.returns-clause-empty
returns-clause-empty c = record {
  spells = record {
    items = [];
    joined = inl refl;
    say_rule = record { conditions = []; each = tt; say = tt; order = IsPermutation-refl []; is_rule = no_conditions };
  };
  short = omega arith;
}

pub returns-clause-in_apostrophes : goal.returns-clause-in_apostrophes
returns-clause-in_apostrophes c = record {
  spells = record {
    items = record { blanks = []; key = codes "type"; parts = quoted (codes "signal") ∷ [] } ∷ [];
    joined = inr refl;
    say_rule = record {
      conditions = signal_rule;
      each = (record { blanks = tt; key = word (codes "type") refl refl; parts = (are is_quotable (codes "signal") refl, tt) }, tt);
      say = ((refl, refl), tt);
      order = IsPermutation-refl signal_rule;
      is_rule = is_signal_rule;
    };
  };
  short = omega arith;
}

pub returns-clause-without : goal.returns-clause-without
returns-clause-without c = without

pub returns-clause-comma_behind : goal.returns-clause-comma_behind
returns-clause-comma_behind c = record {
  spells = record { items = signal_item ∷ []; joined = inl refl; say_rule = say_signal };
  short = omega arith;
}

any_order : IsRuleText (codes "member=M, type=signal") (Kind Signal ∷ Member (codes "M") ∷ [])
any_order = record {
  spells = record {
    items = plain_item (codes "member") (codes "M") ∷ record signal_item { blanks = codes " " } ∷ [];
    joined = inr refl;
    say_rule = record {
      conditions = Member (codes "M") ∷ Kind Signal ∷ [];
      each = (
        record { blanks = tt; key = word (codes "member") refl refl; parts = are_plain (codes "M") [] refl },
        (record { blanks = (refl, tt); key = word (codes "type") refl refl; parts = are_plain (codes "signal") [] refl }, tt),
      );
      say = ((refl, refl), ((refl, refl), tt));
      order = record { moves = (0, 1) ∷ []; below = (omega arith, omega arith, tt); is = refl };
      is_rule = record {
        rising = ((omega arith, tt), (tt, tt));
        each = (tt, (record { element = (refl, tt); short = omega arith }, tt));
        one_path = refl;
      };
    };
  };
  short = omega arith;
}

pub returns-clause-any_order : goal.returns-clause-any_order
returns-clause-any_order c = any_order

pub returns-clause-not_the_second : goal.returns-clause-not_the_second
returns-clause-not_the_second c = λ other.
    let same : (Kind Signal ∷ Member (codes "M") ∷ []) ≡ (Kind Signal ∷ Member (codes "N") ∷ []) =
    same_rule (codes "member=M, type=signal") (Kind Signal ∷ Member (codes "M") ∷ []) (Kind Signal ∷ Member (codes "N") ∷ []) any_order other in
    let letters : 77 ≡ 78 = ap (λ (rule : List Condition). get_or (value_text (get_or rule 1 (Kind Signal))) 0 0) same in
    omega (arith, letters)

pub returns-clause-not_error : goal.returns-clause-not_error
returns-clause-not_error c = λ other.
    let same : signal_rule ≡ Kind Error ∷ [] = same_rule (codes "type=signal") signal_rule (Kind Error ∷ []) without other in
    absurd cc

pub returns-clause-no_fault : goal.returns-clause-no_fault
returns-clause-no_fault c = λ text fault. no_wrong (codes "type=signal") signal_rule text 0 1 fault.there
