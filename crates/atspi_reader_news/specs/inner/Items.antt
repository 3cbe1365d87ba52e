-- How contracts see an item that lies in a body.
use Rattle.std.specs.Prelude.{◌≡◌, ℕ, ℤ, List, Option, None, Some, chars, map, option_and_then}
use Rattle.atspi_types.specs.Data.{Data}
use Rattle.atspi_marshal_in_place.specs.Items.{elements_data}
use Rattle.atspi_tree_model.specs.declared.news.Reference.{Reference}
use Rattle.atspi_tree_model.specs.declared.news.Item.{Item}
use Rattle.atspi_protocol.specs.news.Arguments.{text_in, number_in, then_text, then_texts, then_unsigned, then_numbers}
use Rattle.atspi_protocol.specs.news.Arguments.{then_end}
use Rattle.atspi_protocol.specs.news.CacheSignals.{item_of, states_in}
use Rattle.atspi_reader_news.specs.declared.borrowed.ItemFront.{ItemFront}
use Rattle.atspi_reader_news.specs.declared.borrowed.ItemRef.{ItemRef}
use Rattle.atspi_reader_news.specs.Seen.{reference_seen}

abbrev pub item_seen : ItemRef → Item
item_seen i = record {
  object = reference_seen i.front.object;
  application = reference_seen i.front.application;
  parent = reference_seen i.front.parent;
  index = i.front.index;
  children = i.front.children;
  interfaces = map text_in (elements_data i.interfaces);
  name = chars i.name.now;
  role = i.role;
  description = chars i.description.now;
  states = states_in (map number_in (elements_data i.states));
}

-- a word of states, or 0 where there is none
abbrev pub word_seen : Option Data → ℕ
word_seen None = 0
word_seen (Some value) = number_in value

-- the front of an item comes, and the other fields stand behind it: what is made of both is made of them; or it is none
abbrev pub behind_front : Reference → Reference → Reference → ℤ → ℤ → List Data → Option Item
behind_front o a p i c =
    then_texts (λ xs. then_text (λ n. then_unsigned (λ r. then_text (λ d. then_numbers (λ states. then_end (record {
      object = o;
      application = a;
      parent = p;
      index = i;
      children = c;
      interfaces = xs;
      name = n;
      role = r;
      description = d;
      states = states_in states;
    }))))))

abbrev pub with_front : ItemFront → List Data → Option Item
with_front f =
    behind_front (reference_seen f.object) (reference_seen f.application) (reference_seen f.parent) f.index f.children

abbrev pub FrontComes : Option ItemFront → List Data → List Data → Type 0
FrontComes result old new = item_of old ≡ option_and_then (λ f. with_front f new) result
