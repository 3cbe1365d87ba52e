-- What reading an item gives.
use Rattle.std.specs.Prelude.{◌≡◌, ◌<◌, ◌≤◌, ◌+◌, ◌⊎◌, ℕ, Bool, false, List, [], ◌∷◌, ◌++◌, length, drop, map, Option}
use Rattle.std.specs.Prelude.{None}
use Rattle.std.specs.List.{AllByRecursion}
use Rattle.atspi_types.specs.SignatureFaults.{Before}
use Rattle.atspi_match.specs.Conditions.{IsCondition, IsRule, key_text, value_text}
use Rattle.atspi_match.specs.Grammar.{EndsItem, Item, item_text, item_value, IsItem, with_commas, SayRule}
use Rattle.atspi_match.specs.inner.Keys.{key_of, key_refusal, NoCondition}
use Rattle.atspi_match.specs.RuleFaults.{ItemAt, WrongItem, WrongRule}
use Rattle.atspi_match.specs.inner.Values.{IsSpelled, IsOpen}
use Rattle.atspi_match.specs.declared.condition.Condition.{Condition}
use Rattle.atspi_match.specs.declared.item.ItemRead.{ItemRead}
use Rattle.atspi_match.specs.declared.item.ItemFault.{ItemFault}
use Rattle.atspi_match.specs.declared.item.ItemFault.TheVariants.{Bad, NoMemory}
use Rattle.atspi_match.specs.declared.key.Key.{Key}
use Rattle.atspi_match.specs.declared.key.Key.TheVariants as keys

-- the condition is on the key and has the value that the first bytes spell
pub record ReadsValue (key : Key) (bytes : List ℕ) (at : ℕ) (item : ItemRead) : Type 0 where
  pub len : ℕ
  pub spelled : IsSpelled bytes (value_text item.condition) len
  pub is_condition : IsCondition item.condition
  pub on_key : key_of item.condition ≡ key
  pub len_is : item.len ≡ at + len

-- the reason of a value that the key may not have
abbrev pub value_reason : Key → ℕ
value_reason keys.Kind = 5
value_reason key = 6

-- the bytes begin with a value that the key may not have
pub record HasNoValue (key : Key) (bytes : List ℕ) : Type 0 where
  pub value : List ℕ
  pub len : ℕ
  pub spelled : IsSpelled bytes value len
  pub none : NoCondition key value

-- a quoted part is not closed, or the value is none of the key's
pub data RefusesValueFor (key : Key) (bytes : List ℕ) (at : ℕ) : ℕ → ℕ → Type 0 where
  still_open : (place : ℕ) → IsOpen bytes place → RefusesValueFor key bytes at (at + place) 4
  no_value : HasNoValue key bytes → RefusesValueFor key bytes at at (value_reason key)

abbrev pub RefusesValue : ItemFault → Key → List ℕ → ℕ → Type 0
RefusesValue (Bad place reason) key bytes at = RefusesValueFor key bytes at place reason
RefusesValue NoMemory key bytes at = Unit {0}

-- the bytes begin with an item that says the condition, whose key may come behind these conditions
pub record ReadsItem (bytes : List ℕ) (conditions : List Condition) (read : ItemRead) : Type 0 where
  pub item : Item
  pub here : ItemAt bytes item (drop read.len bytes)
  pub len_is : read.len ≡ length (item_text item)
  pub key : item.key ≡ key_text read.condition
  pub value : item_value item ≡ value_text read.condition
  pub is_condition : IsCondition read.condition
  pub may_come : key_refusal (key_of read.condition) conditions ≡ None

-- the first of what is wrong with the item
pub record FirstItemFault (keys : List (List ℕ)) (bytes : List ℕ) (place reason : ℕ) : Type 0 where
  pub there : WrongItem keys bytes place reason
  pub first : (q s : ℕ) → WrongItem keys bytes q s → Before place reason q s

abbrev pub RefusesItem : ItemFault → List ℕ → List Condition → Type 0
RefusesItem (Bad place reason) bytes conditions = FirstItemFault (map key_text conditions) bytes place reason
RefusesItem NoMemory bytes conditions = Unit {0}

-- the bytes before the place are items that say the conditions, each with its comma
pub record ReadSoFar (bytes : List ℕ) (at : ℕ) (rule : List Condition) : Type 0 where
  pub items : List Item
  pub say_rule : SayRule items rule
  pub text : bytes ≡ with_commas items ++ drop at bytes
  pub at_is : at ≡ length (with_commas items)

-- the first of what is wrong with the items of the bytes
pub record FirstFaultOfItems (bytes : List ℕ) (place reason : ℕ) : Type 0 where
  pub there : WrongRule bytes place reason
  pub first : (items : List Item) (rest : List ℕ) (q s : ℕ) → AllByRecursion IsItem items
      → bytes ≡ with_commas items ++ rest
      → WrongItem (map (λ item. item.key) items) rest q s → Before place reason (length (with_commas items) + q) s
  pub within : place ≤ length bytes
  pub small : reason < 8

abbrev pub RefusesItems : ItemFault → List ℕ → Type 0
RefusesItems (Bad place reason) bytes = FirstFaultOfItems bytes place reason
RefusesItems NoMemory bytes = Unit {0}
