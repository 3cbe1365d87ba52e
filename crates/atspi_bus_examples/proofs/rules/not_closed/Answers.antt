use Rattle.std.proofs.Common.{◌≡◌, zero, suc, [], ◌∷◌, map, length, inl, inr, refl, sym, ap, arith, encode_utf8_all}
use Rattle.std.specs.Prelude.{codes, Contains}
use Rattle.std.specs.Fmt.{digits}
use Rattle.std.proofs.lemmas.List.Sorted.{IsPermutation-refl}
use Rattle.atspi_match.specs.Conditions.{IsText, key_text}
use Rattle.atspi_match.specs.Grammar.{is_quotable, escaped, quoted, plain, IsRuleText}
use Rattle.atspi_match.specs.RuleFaults.{IsUnknown, IsRival, FirstRuleFault}
use Rattle.atspi_match.specs.declared.condition.Condition.TheVariants.{Arg, Member}
use Rattle.atspi_match.proofs.FaultLemmas.{MayStand, open_first}
use Rattle.atspi_match.proofs.RuleLemmas.{no_wrong}
use Rattle.atspi_bus_examples.proofs.Faults.{at_first, behind, only, one_ascii, word, key_at, are, are_plain, may_stand, signal_rule, after_signal}
use Rattle.atspi_bus_examples.proofs.rules.not_closed.Goals as goal

known : IsUnknown (codes "member") → ⊥
known unknown = unknown (Member (codes "M")) (record { element = (refl, tt); short = omega arith }) refl

behind_type : MayStand (codes "type" ∷ []) (codes "member")
behind_type = record { known = known; once = once; no_rival = no_rival }
  where
    once : Contains (codes "type" ∷ []) (codes "member") → ⊥
    once (zero, within, is) = omega (arith, ap length is)
    once (suc n, within, is) = omega (arith, within)

    no_rival : IsRival (codes "type" ∷ []) (codes "member") → ⊥
    no_rival (inl x) = omega (arith, ap length x.0)
    no_rival (inr x) = omega (arith, ap length x.0)

at_value : FirstRuleFault (codes "member='M") 7 4
at_value =
    at_first (codes "member='M") 7 4 (omega arith)
    (open_first [] (codes "member='M") [] (codes "member") [] (codes "M") (key_at (codes "member='M") 0 6 refl refl refl refl).key
    (may_stand (codes "member") known) tt (are is_quotable (codes "M") refl))

pub returns-clause-at_value : goal.returns-clause-at_value
returns-clause-at_value c = at_value

pub returns-clause-inside : goal.returns-clause-inside
returns-clause-inside c =
    at_first (codes "member=M'") 8 4 (omega arith)
    (open_first [] (codes "member=M'") [] (codes "member") (map plain (codes "M")) [] (key_at (codes "member=M'") 0 6 refl refl refl refl).key
    (may_stand (codes "member") known) (are_plain (codes "M") (39 ∷ []) refl) (are is_quotable [] refl))

pub returns-clause-second : goal.returns-clause-second
returns-clause-second c =
    at_first (codes "member='M''") 10 4 (omega arith)
    (open_first [] (codes "member='M''") [] (codes "member") (quoted (codes "M") ∷ []) [] (key_at (codes "member='M''") 0 6 refl refl refl refl).key
    (may_stand (codes "member") known) (are is_quotable (codes "M") refl, tt) (are is_quotable [] refl))

pub returns-clause-comma_within : goal.returns-clause-comma_within
returns-clause-comma_within c =
    at_first (codes "member='M,type=signal") 7 4 (omega arith)
    (open_first [] (codes "member='M,type=signal") [] (codes "member") [] (codes "M,type=signal") (key_at (codes "member='M,type=signal") 0 6 refl refl refl refl).key
    (may_stand (codes "member") known) tt (are is_quotable (codes "M,type=signal") refl))

pub returns-clause-behind_an_item : goal.returns-clause-behind_an_item
returns-clause-behind_an_item c =
    behind (codes "type=signal,member='") 12 signal_rule 7 4 (after_signal (codes "member='")) (omega arith) (omega arith)
    (open_first (codes "type" ∷ []) (codes "member='") [] (codes "member") [] [] (key_at (codes "member='") 0 6 refl refl refl refl).key
    behind_type tt tt)

pub returns-clause-not_the_key : goal.returns-clause-not_the_key
returns-clause-not_the_key c = λ other. omega (arith, (only (codes "member='M") 7 4 0 4 at_value other).0)

-- an apostrophe behind a backslash opens nothing
is_apostrophe : IsText (codes "'")
is_apostrophe = (one_ascii 39 (omega arith) refl refl).0

its_bytes : codes "'" ≡ encode_utf8_all (codes "'")
its_bytes = sym (one_ascii 39 (omega arith) refl refl).1

first_argument : codes "arg0" ≡ key_text (Arg 0 (codes "'"))
unfolding digits
first_argument = refl

escaped_rule : IsRuleText (codes "arg0=\\'") (Arg 0 (codes "'") ∷ [])
escaped_rule = record {
  spells = record {
    items = record { blanks = []; key = codes "arg0"; parts = escaped ∷ [] } ∷ [];
    joined = inr refl;
    say_rule = record {
      conditions = Arg 0 (codes "'") ∷ [];
      each = (record { blanks = tt; key = word (codes "arg0") refl refl; parts = (tt, tt) }, tt);
      say = ((first_argument, its_bytes), tt);
      order = IsPermutation-refl (Arg 0 (codes "'") ∷ []);
      is_rule = record { rising = (tt, tt); each = ((omega arith, is_apostrophe), tt); one_path = refl };
    };
  };
  short = omega arith;
}

pub returns-clause-not_an_escaped_one : goal.returns-clause-not_an_escaped_one
returns-clause-not_an_escaped_one c = λ fault. no_wrong (codes "arg0=\\'") (Arg 0 (codes "'") ∷ []) escaped_rule 6 4 fault.there
