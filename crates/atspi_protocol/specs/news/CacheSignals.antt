-- The news in the signals of an application's cache, and the items of a tree (AT-SPI2, interface Cache).
use Rattle.std.specs.Prelude.{ℕ, ◌+◌, ◌*◌, ◌^◌, List, [], ◌∷◌, Option, Some, None, codes}
use Rattle.atspi_types.specs.Data.{Data, values_in, structure_data}
use Rattle.atspi_tree_model.specs.declared.news.Reference.{Reference}
use Rattle.atspi_tree_model.specs.declared.news.Item.{Item}
use Rattle.atspi_tree_model.specs.declared.news.News.{News}
use Rattle.atspi_tree_model.specs.declared.news.News.TheVariants.{Removed, Nothing, Item as NewItem}
use Rattle.atspi_protocol.specs.news.Arguments.{reference_in, then_reference, then_signed, then_unsigned, then_text}
use Rattle.atspi_protocol.specs.news.Arguments.{then_texts, then_numbers, then_end}
use Rattle.atspi_protocol.specs.news.Events.{own_child, named_in}

-- the states in words of 32, the low one first: missing words are 0, and more than two are left out
abbrev pub states_in : List ℕ → ℕ
states_in [] = 0
states_in (low ∷ []) = low
states_in (low ∷ (high ∷ more)) = low + high * 2 ^ 32

-- an item: three references, index and count of children, interfaces, name, role, description and states
abbrev pub item_of : List Data → Option Item
item_of =
    then_reference
    (λ object. then_reference
    (λ application. then_reference
    (λ parent. then_signed (λ index. then_signed (λ children. then_texts (λ interfaces.
    then_text (λ name. then_unsigned (λ role. then_text (λ description. then_numbers (λ states. then_end (record {
      object = object;
      application = application;
      parent = parent;
      index = index;
      children = children;
      interfaces = interfaces;
      name = name;
      role = role;
      description = description;
      states = states_in states;
    })))))))))))

abbrev pub item_in : Data → Option Item
item_in (structure_data fields) = item_of (values_in fields)
item_in value = None

-- the one argument of a signal
abbrev pub only_of : List Data → Option Data
only_of (value ∷ []) = Some value
only_of body = None

abbrev pub added : Option Item → News
added None = Nothing
added (Some item) = NewItem item

abbrev pub if_item : Option Data → Option Item
if_item None = None
if_item (Some value) = item_in value

abbrev pub if_reference : Option Data → Option Reference
if_reference None = None
if_reference (Some value) = reference_in value

-- what a signal of the cache says, by the signal's name: its one argument is an item, or a reference to one of the
-- application's own objects
abbrev pub cache_news : List ℕ → List ℕ → List Data → News
cache_news bus member body =
    named_in
    ((codes "AddAccessible", added (if_item (only_of body)))
    ∷ ((codes "RemoveAccessible", own_child bus (if_reference (only_of body)) Removed)
    ∷ [])) member
