-- How a reader is served by an application: under which name it signs, what its returns tell, and that nothing is missed: no signal, and each step between was asked for whole.
use Rattle.std.proofs.Common.{◌≡◌, ℕ, true, List, [], ◌∷◌, ◌++◌, Option, None, Some, refl, sym, ap, ◌∙◌, subst}
use Rattle.std.specs.Prelude.{is_some}
use Rattle.std.proofs.lemmas.List.{append_assoc}
use Rattle.atspi_tree_model.specs.Forest.{Forest}
use Rattle.atspi_tree_model.specs.Row.{TreeRow}
use Rattle.atspi_script_lines.specs.declared.line.Party.TheVariants.{Bus as The_bus, Registry, App, Reader}
use Rattle.atspi_message.specs.Envelope.{Envelope}
use Rattle.atspi_protocol.specs.declared.news.part.PartName.{PartName}
use Rattle.atspi_protocol.specs.declared.following.question.Question.{Question}
use Rattle.atspi_protocol.specs.declared.following.question.Question.TheVariants.{Hello, AddMatch, RegisterEvent, GetChildren, GetItems, GetPart}
use Rattle.atspi_trace.specs.Entry.{Entry, changed, sent, got}
use Rattle.atspi_trace_laws.specs.laws.Words.{added, message, before_sent, as_of, answers_question, Kept, held}
use Rattle.atspi_trace_laws.specs.laws.NineLaws.{Everywhere, Follow}
use Rattle.atspi_trace_laws.specs.heard.Laws.{signals_under, IsAmong}
use Rattle.atspi_trace_laws.specs.signed.Laws.{IsItsName, IsSignedTruly}
use Rattle.atspi_trace_laws.specs.answered.Laws.{IsItemsTold, IsPartTold, TellsItems, TellsPart}
use Rattle.atspi_trace_caches.specs.caches.Laws.{AsksAll, IsServed}
use Rattle.atspi_trace_laws.specs.missed.Laws.{NoSignalBetween, IsLoad, TookAll}
use Rattle.atspi_trace_caches.specs.ways.Laws.{MissesNothing}
use Rattle.atspi_trace_laws.proofs.OfNames.Places.{told_is}
use Rattle.atspi_trace_laws.proofs.OfSigned.Mail.{told_more}
use Rattle.atspi_trace_laws.proofs.OfSigned.Between.{IsSigned}
use Rattle.atspi_trace_laws.proofs.OfTaken.Found.{found_more, found_here}

-- a return tells the tree
abbrev pub Tells : List ℕ → Forest TreeRow → ℕ → Option Question → Envelope → Type 0
Tells name its_tree count (Some (GetItems n)) e = TellsItems name its_tree e
Tells name its_tree count (Some (GetPart n path part)) e = TellsPart name its_tree count path part e
Tells name its_tree count question e = Unit {0}

abbrev pub IsAnswered : List ℕ → ℕ → ℕ → List Entry → Entry → List Entry → Type 0
IsAnswered name reader app before (got (Reader r) (App a) serial) behind =
    r ≡ reader → a ≡ app → (e : Envelope) → message before (App app) serial ≡ Some e
    → Tells name (as_of before app serial) (added (before_sent (App app) serial before) app) (answers_question before reader (Some e)) e
IsAnswered name reader app before entry behind = Unit {0}

abbrev pub MissesNone : List ℕ → ℕ → ℕ → List Entry → Entry → List Entry → Type 0
MissesNone name reader app before (got (Reader r) (App a) serial) behind =
    r ≡ reader → a ≡ app → (IsLoad (answers_question before reader (message before (App app) serial)) → ⊥) → (k : Kept) → held before reader app ≡ Some k → MissesNothing name before app k.last serial
MissesNone name reader app before entry behind = Unit {0}

pub record IsWholly (trace : List Entry) (name : List ℕ) (reader app : ℕ) : Type 0 where
  pub signed : Everywhere (IsSigned name app) trace
  pub answered : Everywhere (IsAnswered name reader app) trace
  pub nothing_missed : Everywhere (MissesNone name reader app) trace

-- the name of the whole trace is that of each front
front_name : (before rest : List Entry) (app : ℕ) (name : List ℕ) → IsItsName (before ++ rest) app name → IsItsName before app name
front_name before rest app name its own h = its own (told_is (before ++ rest) (App app) ∙ told_more before rest (App app) own (sym (told_is before (App app)) ∙ h))

-- a message with its serial stands in the front that it ends
pub found_last : (app : ℕ) (early xs : List Entry) (e : Envelope) → is_some (message ((early ++ sent (App app) e ∷ []) ++ xs) (App app) e.serial) ≡ true
found_last app early xs e = by (message early (App app) e.serial) refl
  where
    by : (o : Option Envelope) → message early (App app) e.serial ≡ o → is_some (message ((early ++ sent (App app) e ∷ []) ++ xs) (App app) e.serial) ≡ true
    by (Some m) h = ap is_some (found_more (early ++ sent (App app) e ∷ []) xs (App app) e.serial m (found_more early (sent (App app) e ∷ []) (App app) e.serial m h))
    by None h = ap is_some (found_more (early ++ sent (App app) e ∷ []) xs (App app) e.serial e (found_here early [] (App app) e h))

module _ (T : List Entry) (name : List ℕ) (reader app : ℕ) (its : IsItsName T app name) where
  name_at : (before : List Entry) (entry : Entry) (behind : List Entry) → T ≡ before ++ entry ∷ behind → IsItsName before app name
  name_at before entry behind at = front_name before (entry ∷ behind) app name (subst (λ l. IsItsName l app name) at its)

  signed_by : (before : List Entry) (entry : Entry) (behind : List Entry) → IsItsName before app name → IsSignedTruly before entry behind → IsSigned name app before entry behind
  signed_by before (changed a step) behind own h = λ same. subst (λ n. Follow (signals_under name before n step) behind) same (h name (subst (λ n. IsItsName before n name) (sym same) own))
  signed_by before (sent (App a) e) behind own h = λ same four.
      subst (λ n. (among : IsAmong before n e) × (among.name ≡ name)) same (h four name (subst (λ n. IsItsName before n name) (sym same) own))
  signed_by before (sent The_bus e) behind own h = tt
  signed_by before (sent Registry e) behind own h = tt
  signed_by before (sent (Reader r) e) behind own h = tt
  signed_by before entry behind own h = tt

  tells_by : (before : List Entry) (serial : ℕ) (e : Envelope) (q : Option Question) → ((asked : List ℕ) → q ≡ Some (GetItems asked) → TellsItems name (as_of before app serial) e)
      → ((asked path : List ℕ) (part : PartName) → q ≡ Some (GetPart asked path part) → TellsPart name (as_of before app serial) (added (before_sent (App app) serial before) app) path part e)
      → Tells name (as_of before app serial) (added (before_sent (App app) serial before) app) q e
  tells_by before serial e (Some (GetItems asked)) f g = f asked refl
  tells_by before serial e (Some (GetPart n path part)) f g = g n path part refl
  tells_by before serial e (Some Hello) f g = tt
  tells_by before serial e (Some (AddMatch rule)) f g = tt
  tells_by before serial e (Some (RegisterEvent pattern)) f g = tt
  tells_by before serial e (Some GetChildren) f g = tt
  tells_by before serial e None f g = tt

  answered_by : (before : List Entry) (entry : Entry) (behind : List Entry) → IsItsName before app name → IsItemsTold before entry behind → IsPartTold before entry behind → IsAnswered name reader app before entry behind
  answered_by before (got (Reader r) (App a) serial) behind own h g = λ rs bs e found.
      tells_by before serial e (answers_question before reader (Some e))
      (λ asked q.
      subst (λ n. IsItsName before n name → message before (App n) serial ≡ Some e → TellsItems name (as_of before n serial) e) bs
      (λ its_own was. h name asked e its_own was (ap (λ n. answers_question before n (Some e)) rs ∙ q)) own found)
      (λ asked path part q.
      subst (λ n. message before (App n) serial ≡ Some e → TellsPart name (as_of before n serial) (added (before_sent (App n) serial before) n) path part e) bs
      (λ was. g name asked path part e was (ap (λ n. answers_question before n (Some e)) rs ∙ q)) found)
  answered_by before (got (Reader r) The_bus serial) behind own h g = tt
  answered_by before (got (Reader r) Registry serial) behind own h g = tt
  answered_by before (got (Reader r) (Reader q) serial) behind own h g = tt
  answered_by before (got The_bus from serial) behind own h g = tt
  answered_by before (got Registry from serial) behind own h g = tt
  answered_by before (got (App a) from serial) behind own h g = tt
  answered_by before entry behind own h g = tt

  missed_by : (before : List Entry) (entry : Entry) (behind : List Entry) → TookAll before entry behind → AsksAll name reader app before entry behind → MissesNone name reader app before entry behind
  missed_by before (got (Reader r) (App a) serial) behind t q = λ rs bs no_load k is.
      let no : NoSignalBetween before app k.last serial =
      subst (λ n. (IsLoad (answers_question before n (message before (App app) serial)) → ⊥) → (j : Kept) → held before n app ≡ Some j → NoSignalBetween before app j.last serial) rs
      (subst (λ n. (IsLoad (answers_question before r (message before (App n) serial)) → ⊥) → (j : Kept) → held before r n ≡ Some j → NoSignalBetween before n j.last serial) bs t) no_load k is in
      let front : List Entry = before_sent (App app) k.last before in
      record {
        first = no.first;
        between = no.between;
        stands = no.stands;
        no_signal = no.no_signal;
        asked = λ xs ys step here.
            q rs bs no_load k is ((front ++ sent (App app) no.first ∷ []) ++ xs) ys step
            (no.stands ∙ ap (λ l. (front ++ sent (App app) no.first ∷ []) ++ l) here ∙ sym (append_assoc (front ++ sent (App app) no.first ∷ []) xs (changed app step ∷ ys)))
            (ap (λ n. is_some (message ((front ++ sent (App app) no.first ∷ []) ++ xs) (App app) n)) (sym no.has_serial) ∙ found_last app front xs no.first);
      }
  missed_by before (got (Reader r) The_bus serial) behind t q = tt
  missed_by before (got (Reader r) Registry serial) behind t q = tt
  missed_by before (got (Reader r) (Reader p) serial) behind t q = tt
  missed_by before (got The_bus from serial) behind t q = tt
  missed_by before (got Registry from serial) behind t q = tt
  missed_by before (got (App a) from serial) behind t q = tt
  missed_by before entry behind t q = tt

  pub wholly : Everywhere IsSignedTruly T → Everywhere IsItemsTold T → Everywhere IsPartTold T → Everywhere TookAll T → IsServed T name reader app → IsWholly T name reader app
  wholly signed items parts took served = record {
    signed = λ before entry behind at. signed_by before entry behind (name_at before entry behind at) (signed before entry behind at);
    answered = λ before entry behind at. answered_by before entry behind (name_at before entry behind at) (items before entry behind at) (parts before entry behind at);
    nothing_missed = λ before entry behind at. missed_by before entry behind (took before entry behind at) (served.all_asked before entry behind at);
  }
