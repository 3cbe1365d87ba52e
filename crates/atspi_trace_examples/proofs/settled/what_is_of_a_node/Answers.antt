use Rattle.std.proofs.Common.{◌≡◌, Bool, true, ℕ, zero, suc, ◌≤◌, List, [], ◌∷◌, Option, None, Some, refl, sym, ap, ◌∙◌, arith}
use Rattle.std.specs.Prelude.{◌==◌, bytes_eq, codes, option_map, filter_map, position}
use lib.Utf8.{encode}
use Rattle.std.specs.Fmt.{digits}
use Rattle.atspi_names.specs.Owners.{unique_name}
use Rattle.atspi_tree_model.specs.Path.{path_of}
use Rattle.atspi_script_lines.specs.declared.line.Party.TheVariants.{App}
use Rattle.atspi_protocol.specs.declared.news.part.PartName.{PartName}
use Rattle.atspi_protocol.specs.declared.news.part.PartName.TheVariants.{Text}
use Rattle.atspi_protocol.specs.declared.following.question.Question.{Question}
use Rattle.atspi_protocol.specs.declared.following.question.Question.TheVariants.{GetPart}
use Rattle.atspi_protocol.specs.following.Calls.{asking}
use Rattle.atspi_trace.specs.Ends.{same_party}
use Rattle.atspi_trace.specs.Hearing.{question_in}
use Rattle.atspi_trace_laws.specs.laws.Words.{name_in, hello_of}
use Rattle.atspi_trace_examples.specs.settled.Cases.{greeted, given_name}
use Rattle.atspi_trace_laws.proofs.OfOrder.Parties.{false_true, same_some}
use Rattle.atspi_trace_caches.proofs.OfSettled.Settling_parts.{part_read}
use Rattle.atspi_trace_examples.proofs.settled.what_is_of_a_node.Goals as goal

-- the name and the path that a call for a part says
abbrev name_asked : Question → List ℕ
name_asked (GetPart name path part) = name
name_asked question = []

abbrev path_asked : Question → List ℕ
path_asked (GetPart name path part) = path
path_asked question = []

same_call : (node : ℕ) (name path : List ℕ) (part : PartName) → question_in (asking 6 (GetPart given_name (path_of node) Text)) ≡ Some (GetPart name path part)
    → GetPart given_name (path_of node) Text ≡ GetPart name path part
same_call node name path part is = same_some _ _ (sym (part_read 6 given_name (path_of node) Text) ∙ is)

is_given : name_in greeted (App 0) ≡ Some given_name
is_given = refl

pub returns-clause-root : goal.returns-clause-root
returns-clause-root c name path part is = record {
  app = 0;
  its_name = is_given ∙ ap (λ q. Some (name_asked q)) (same_call 0 name path part is);
  node = 0;
  is_of = sym (ap path_asked (same_call 0 name path part is));
  was_added = omega arith;
}

not_there : (n : ℕ) → n ≤ 0 → path_of 1 ≡ path_of n → ⊥
unfolding encode path_of digits
not_there zero few is = false_true (sym (ap (bytes_eq (path_of 1)) is) ∙ refl)
not_there (suc n) few is = absurd (omega (arith, few))

pub returns-clause-not_added : goal.returns-clause-not_added
returns-clause-not_added c h = let o = h given_name (path_of 1) Text (part_read 6 given_name (path_of 1) Text) in not_there o.node o.was_added o.is_of

pub returns-clause-added_then : goal.returns-clause-added_then
returns-clause-added_then c name path part is = record {
  app = 0;
  its_name = is_given ∙ ap (λ q. Some (name_asked q)) (same_call 1 name path part is);
  node = 1;
  is_of = sym (ap path_asked (same_call 1 name path part is));
  was_added = omega arith;
}

-- each name that the bus gives begins with a colon
abbrev begins_so : Option (List ℕ) → Bool
begins_so (Some (n ∷ ns)) = n == 58
begins_so name = true

begins : (o : Option ℕ) → begins_so (option_map (λ n. unique_name (suc n)) o) ≡ true
begins None = refl
begins (Some n) = refl

pub returns-clause-no_name : goal.returns-clause-no_name
unfolding encode
returns-clause-no_name c h =
    let o = h (codes "Demo") (path_of 0) Text (part_read 6 (codes "Demo") (path_of 0) Text) in
    false_true (sym (ap begins_so o.its_name) ∙ begins (position (same_party (App o.app)) (filter_map hello_of greeted)))

pub returns-clause-other_entry : goal.returns-clause-other_entry
returns-clause-other_entry c = tt
