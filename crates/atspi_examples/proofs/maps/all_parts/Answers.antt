use Rattle.std.proofs.Common.{arith}
use Rattle.atspi_examples.proofs.maps.all_parts.Goals as goal

pub returns : goal.returns
returns c = λ row children numbers root below list reached there numbered own short each lawful targets. record {
  root = root;
  root_below_none = below;
  in_one_list = list;
  reached = reached;
  children_there = there;
  numbered = numbered;
  own_number = own;
  few = (numbers, omega (arith, short), each);
  few_ever = omega arith;
  lawful = lawful;
  targets = targets;
}
