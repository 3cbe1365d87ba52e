-- A reader's calls meet the rules of messages where they have a number.
use Rattle.std.proofs.Common.{◌≡◌, ◌≢◌, ℕ, List, [], ◌∷◌, sym, subst, rules, arith}
use Rattle.atspi_types.specs.Data.{Data, items_of, AreWellTyped}
use Rattle.atspi_message.specs.Envelope.{Envelope}
use Rattle.atspi_message.specs.Rules.{MeetsRules, HasRequired}
use Rattle.atspi_tree_model.specs.Path.{path_of}
use Rattle.atspi_script_lines.specs.declared.deed.Deed.{Deed}
use Rattle.atspi_script_lines.specs.declared.deed.Deed.TheVariants.{SetCaret, InsertText, DeleteText, SetText, SelectChild, DeselectChild, SelectAll, ClearSelection, DoAction}
use Rattle.atspi_protocol.specs.declared.news.part.PartName.TheVariants.{Text, Caret, Columns}
use Rattle.atspi_protocol.specs.ends.Messages.{call_to}
use Rattle.atspi_protocol.specs.declared.following.question.Question.{Question}
use Rattle.atspi_protocol.specs.declared.following.question.Question.TheVariants.{Hello, AddMatch, RegisterEvent, GetChildren, GetItems, GetPart}
use Rattle.atspi_protocol.specs.following.Calls.{asking, user_call, deed_call}

call_meets : (serial : ℕ) (destination path interface member : List ℕ) (body : List Data) → serial ≢ 0 → AreWellTyped (items_of body) → MeetsRules (record (call_to destination path interface member body) { serial = serial })
call_meets serial destination path interface member body some typed = record {
  typed = λ e. omega (arith, e);
  required = record {
    call = λ e. search rules;
    return_ = λ e. absurd (omega (arith, e));
    error = λ e. absurd (omega (arith, e));
    signal = λ e. absurd (omega (arith, e));
  };
  numbered = some;
  replies = tt;
  body = typed;
}

pub asking_meets : (serial : ℕ) (question : Question) → serial ≢ 0 → MeetsRules (asking serial question)
asking_meets serial Hello some = call_meets serial _ _ _ _ _ some tt
asking_meets serial (AddMatch rule) some = call_meets serial _ _ _ _ _ some (tt, tt)
asking_meets serial (RegisterEvent pattern) some = call_meets serial _ _ _ _ _ some (tt, tt)
asking_meets serial GetChildren some = call_meets serial _ _ _ _ _ some tt
asking_meets serial (GetItems name) some = call_meets serial _ _ _ _ _ some tt
asking_meets serial (GetPart name path Text) some = call_meets serial _ _ _ _ _ some (tt, (tt, tt))
asking_meets serial (GetPart name path Caret) some = call_meets serial _ _ _ _ _ some (tt, (tt, tt))
asking_meets serial (GetPart name path Columns) some = call_meets serial _ _ _ _ _ some (tt, (tt, tt))

pub user_meets : (serial : ℕ) (name : List ℕ) (node : ℕ) (deed : Deed) → serial ≢ 0 → MeetsRules (user_call serial name node deed)
user_meets serial name node (SetCaret at) some = call_meets serial _ _ _ _ _ some (tt, tt)
user_meets serial name node (InsertText at text) some = call_meets serial _ _ _ _ _ some (tt, (tt, (tt, tt)))
user_meets serial name node (DeleteText from to) some = call_meets serial _ _ _ _ _ some (tt, (tt, tt))
user_meets serial name node (SetText text) some = call_meets serial _ _ _ _ _ some (tt, tt)
user_meets serial name node (SelectChild index) some = call_meets serial _ _ _ _ _ some (tt, tt)
user_meets serial name node (DeselectChild index) some = call_meets serial _ _ _ _ _ some (tt, tt)
user_meets serial name node SelectAll some = call_meets serial _ _ _ _ _ some tt
user_meets serial name node ClearSelection some = call_meets serial _ _ _ _ _ some tt
user_meets serial name node (DoAction index) some = call_meets serial _ _ _ _ _ some (tt, tt)

-- what is true of the message that is meant is true of the one that is made
pub of_made : (made meant : Envelope) → made ≡ meant → MeetsRules meant → MeetsRules made
of_made made meant e h = subst (λ (x : Envelope). MeetsRules x) (sym e) h
