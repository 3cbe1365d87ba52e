-- The calls of a reader: each own call is read as the question that it asks, a user's call as none, and each call of the start asks for a rule of
-- the table, or for none.
use Rattle.std.proofs.Common.{◌≡◌, ℕ, List, None, Some, refl}
use Rattle.std.specs.Prelude.{codes}
use Rattle.std.specs.List.{AllByRecursion}
use lib.Utf8.{encode}
use Rattle.atspi_script_lines.specs.declared.deed.Deed.{Deed}
use Rattle.atspi_script_lines.specs.declared.deed.Deed.TheVariants.{SetCaret, InsertText, DeleteText, SetText, SelectChild, DeselectChild, SelectAll, ClearSelection, DoAction}
use Rattle.atspi_protocol.specs.declared.news.part.PartName.{PartName}
use Rattle.atspi_protocol.specs.declared.news.part.PartName.TheVariants.{Text, Caret, Columns}
use Rattle.atspi_protocol.specs.declared.following.question.Question.{Question}
use Rattle.atspi_protocol.specs.declared.following.question.Question.TheVariants.{Hello, AddMatch, RegisterEvent, GetChildren, GetItems, GetPart}
use Rattle.atspi_protocol.specs.following.Calls.{asking, user_call}
use Rattle.atspi_protocol.specs.following.ReaderState.{start_calls}
use Rattle.atspi_match.specs.declared.routing.member.BusMember.TheVariants as members
use Rattle.atspi_bus_steps.specs.Spoken.{IsRuleOf}
use Rattle.atspi_trace.specs.Hearing.{question_in}
use Rattle.atspi_trace.specs.Rules.{rule_in}
use Rattle.atspi_trace.proofs.RulesRead.{rules_read}
use Rattle.atspi_world.proofs.Asking.{AsksTruly, foreign_asks, plain_asks, no_removal}

-- an own call is read as its question
pub question_read : (n : ℕ) (q : Question) → question_in (asking n q) ≡ Some q
unfolding encode
question_read n Hello = refl
question_read n (AddMatch rule) = refl
question_read n (RegisterEvent pattern) = refl
question_read n GetChildren = refl
question_read n (GetItems name) = refl
question_read n (GetPart name path Text) = refl
question_read n (GetPart name path Caret) = refl
question_read n (GetPart name path Columns) = refl

-- a user's call as none
pub user_unread : (n : ℕ) (name : List ℕ) (node : ℕ) (deed : Deed) → question_in (user_call n name node deed) ≡ None
unfolding encode
user_unread n name node (SetCaret at) = refl
user_unread n name node (InsertText at text) = refl
user_unread n name node (DeleteText from to) = refl
user_unread n name node (SetText text) = refl
user_unread n name node (SelectChild index) = refl
user_unread n name node (DeselectChild index) = refl
user_unread n name node SelectAll = refl
user_unread n name node ClearSelection = refl
user_unread n name node (DoAction index) = refl

-- whatever its number, the call of a question asks for a rule of the table, or for none
abbrev pub IsAskedTruly : Question → Type 0
IsAskedTruly q = (n : ℕ) → AsksTruly (asking n q)

hello_asks : IsAskedTruly Hello
hello_asks n = plain_asks (asking n Hello) members.Hello refl refl

pattern_asks : (pattern : List ℕ) → IsAskedTruly (RegisterEvent pattern)
pattern_asks pattern n = foreign_asks (asking n (RegisterEvent pattern)) refl

children_asks : IsAskedTruly GetChildren
children_asks n = foreign_asks (asking n GetChildren) refl

pub items_ask : (name : List ℕ) → IsAskedTruly (GetItems name)
items_ask name n = foreign_asks (asking n (GetItems name)) refl

pub part_asks : (name path : List ℕ) (part : PartName) → IsAskedTruly (GetPart name path part)
part_asks name path Text n = foreign_asks (asking n (GetPart name path Text)) refl
part_asks name path Caret n = foreign_asks (asking n (GetPart name path Caret)) refl
part_asks name path Columns n = foreign_asks (asking n (GetPart name path Columns)) refl

-- THE THREE RULES of the start
abbrev owner_text : List ℕ
owner_text = codes "type='signal',interface='org.freedesktop.DBus',member='NameOwnerChanged'"

abbrev cache_text : List ℕ
cache_text = codes "type='signal',interface='org.a11y.atspi.Cache'"

abbrev event_text : List ℕ
event_text = codes "type='signal',interface='org.a11y.atspi.Event.Object'"

owner_read : (n : ℕ) → IsRuleOf (asking n (AddMatch owner_text)) (rule_in (asking n (AddMatch owner_text)))
unfolding encode
owner_read n members.AddMatch is = rules_read.1.0
owner_read n members.RemoveMatch is = absurd (no_removal is)
owner_read n _ is = tt

owner_asks : IsAskedTruly (AddMatch owner_text)
owner_asks n = λ for_bus one. owner_read n

cache_read : (n : ℕ) → IsRuleOf (asking n (AddMatch cache_text)) (rule_in (asking n (AddMatch cache_text)))
unfolding encode
cache_read n members.AddMatch is = rules_read.1.1.0
cache_read n members.RemoveMatch is = absurd (no_removal is)
cache_read n _ is = tt

cache_asks : IsAskedTruly (AddMatch cache_text)
cache_asks n = λ for_bus one. cache_read n

event_read : (n : ℕ) → IsRuleOf (asking n (AddMatch event_text)) (rule_in (asking n (AddMatch event_text)))
unfolding encode
event_read n members.AddMatch is = rules_read.1.1.1.0
event_read n members.RemoveMatch is = absurd (no_removal is)
event_read n _ is = tt

event_asks : IsAskedTruly (AddMatch event_text)
event_asks n = λ for_bus one. event_read n

pub start_asks : AllByRecursion IsAskedTruly start_calls
start_asks = (
  hello_asks,
  (
    owner_asks,
    (
      cache_asks,
      (
        event_asks,
        (
          pattern_asks (codes "object:children-changed"),
          (
            pattern_asks (codes "object:property-change"),
            (pattern_asks (codes "object:state-changed"), (pattern_asks (codes "object:text-changed"), (pattern_asks (codes "object:text-caret-moved"), (children_asks, tt)))),
          ),
        ),
      ),
    ),
  ),
)
