-- The answers of single members as the answer to a call, and that only bus names have owners after it.
use Rattle.std.proofs.Common.{◌≡◌, ◌≢◌, ℕ, Bool, true, false, cond, ◌&&◌, not, List, [], ◌∷◌, ◌++◌, map, Option, None, Some, refl, sym, ap, ◌∙◌, subst, append-nil, chars, IsUtf8}
use Rattle.std.specs.Prelude.{Result, Ok, Err, IfOk, OnErr, unwrap_or, bytes_eq, codes, encode_utf8_all}
use Rattle.std.specs.Ordering.{nat_cmp, eq_by_cmp}
use Rattle.std.specs.Cmp.Lexicographic.{slice_cmp, nat_list_cmp_total}
use Rattle.std.specs.FinMap as finmap
use Rattle.std.specs.FinMap.{get-insert, get-remove}
use Rattle.std.proofs.lemmas.Bool.{and_parts}
use Rattle.std.proofs.lemmas.Str.{encodes-chars}
use Rattle.atspi_types.specs.Data.{Data}
use Rattle.atspi_base.specs.valid_names.Names.{is_bus_name, is_unique_name}
use Rattle.atspi_message.specs.Envelope.{envelope_of}
use Rattle.atspi_message.specs.declared.message.Message.{Message}
use Rattle.atspi_names.specs.Owners.{Owners, Lists, list_of, with_list, own_name}
use Rattle.atspi_names.proofs.Maps.{equal_of_tie}
use Rattle.atspi_names.proofs.ListsLemmas.{names_apart}
use Rattle.atspi_match.specs.declared.condition.Condition.{Condition}
use Rattle.atspi_match.specs.declared.routing.member.BusMember.{BusMember}
use Rattle.atspi_match.specs.declared.routing.member.BusMember.TheVariants.{RequestName, ReleaseName, AddMatch, RemoveMatch}
use Rattle.atspi_match.specs.routing.BusState.{BusState}
use Rattle.atspi_match.specs.routing.Answers as answers
use Rattle.atspi_match.specs.routing.Answers.{Answer, first_text, second_number, may_be_asked_for, requests, releases, only, fails, adds_rule, removes_rule}
use Rattle.atspi_bus_answers.specs.declared.answering.Reply.{Reply}
use Rattle.atspi_bus_answers.specs.Answered.{with_parts, IsAnswer, AreNamed, Spells, IsSpokenOf}
use Rattle.atspi_bus_answers.specs.inner.Members.{requested_answer, released_answer}

abbrev Rules : Type 0
Rules = List (ℕ × List Condition)

-- what is said of no message is said of any
told_any : (a : Answer) (owners : Owners) (rules : Rules) (told : List Message) (given : Reply) → IsAnswer a owners rules [] [] given → IsAnswer a owners rules told told given
told_any a owners rules told given h = record {
  owners = h.owners;
  rules = h.rules;
  told = sym (append-nil (map envelope_of told)) ∙ ap (λ l. map envelope_of told ++ l) h.told;
  reply = h.reply;
}

module _ (owners after : Owners) (rules kept : Rules) (conn : ℕ) (args : List Data) (old new : List Message) (given : Reply) where
  abbrev Answers : BusMember → Type 0
  Answers member = (rule : Option (List Condition)) × IsSpokenOf member args rule × IsAnswer (answers.answers member (with_parts owners rules) conn args rule) after kept old new given

module _ (owners after : Owners) (rules : Rules) (conn : ℕ) (args : List Data) (old new : List Message) (given : Reply) (member : BusMember) where
  pub as_requested : member ≡ RequestName → (name : List ℕ) (flags : ℕ) → name ≡ first_text args → flags ≡ second_number args
      → IsAnswer (requested_answer (with_parts owners rules) conn name flags) after rules old new given
      → (rule : Option (List Condition)) × IsSpokenOf member args rule × IsAnswer (answers.answers member (with_parts owners rules) conn args rule) after rules old new given
  as_requested is name flags t f h =
      subst (Answers owners after rules rules conn args old new given) (sym is) (
        None,
        tt,
        subst (λ n. IsAnswer (requested_answer (with_parts owners rules) conn n (second_number args)) after rules old new given) t
            (subst (λ k. IsAnswer (requested_answer (with_parts owners rules) conn name k) after rules old new given) f h),
      )

  pub as_released : member ≡ ReleaseName → (name : List ℕ) → name ≡ first_text args
      → IsAnswer (released_answer (with_parts owners rules) conn name) after rules old new given
      → (rule : Option (List Condition)) × IsSpokenOf member args rule × IsAnswer (answers.answers member (with_parts owners rules) conn args rule) after rules old new given
  as_released is name t h =
      subst (Answers owners after rules rules conn args old new given) (sym is)
      (None, tt, subst (λ n. IsAnswer (released_answer (with_parts owners rules) conn n) after rules old new given) t h)

-- the bytes of the text that a call of AddMatch or RemoveMatch has
bytes_of_text : (text : List ℕ) (args : List Data) → IsUtf8 text → chars text ≡ first_text args → text ≡ encode_utf8_all (first_text args)
bytes_of_text text args utf8 t = sym (encodes-chars text utf8) ∙ ap encode_utf8_all t

module _ (owners : Owners) (rules kept : Rules) (conn : ℕ) (args : List Data) (told : List Message) (given : Reply) (member : BusMember) (text : List ℕ) (utf8 : IsUtf8 text) (t : chars text ≡ first_text args) where
  pub as_added : member ≡ AddMatch
      → (rule : Option (List Condition)) × Spells text rule × ((o : Owners) → IsAnswer (adds_rule (with_parts o rules) conn rule) o kept [] [] given)
      → (rule : Option (List Condition)) × IsSpokenOf member args rule × IsAnswer (answers.answers member (with_parts owners rules) conn args rule) owners kept told told given
  as_added is h =
      subst (Answers owners owners rules kept conn args told told given) (sym is)
      (h.0, subst (λ b. Spells b h.0) (bytes_of_text text args utf8 t) h.1, told_any (adds_rule (with_parts owners rules) conn h.0) owners kept told given (h.2 owners))

  pub as_removed : member ≡ RemoveMatch
      → (rule : Option (List Condition)) × Spells text rule × ((o : Owners) → IsAnswer (removes_rule (with_parts o rules) conn rule) o kept [] [] given)
      → (rule : Option (List Condition)) × IsSpokenOf member args rule × IsAnswer (answers.answers member (with_parts owners rules) conn args rule) owners kept told told given
  as_removed is h =
      subst (Answers owners owners rules kept conn args told told given) (sym is)
      (h.0, subst (λ b. Spells b h.0) (bytes_of_text text args utf8 t) h.1, told_any (removes_rule (with_parts owners rules) conn h.0) owners kept told given (h.2 owners))

-- a bus name's list is no other name's
module _ (lists : Lists) (named : AreNamed lists) (name : List ℕ) (is_name : is_bus_name name ≡ true) where
  apart : (q : List ℕ) → is_bus_name q ≡ false → (b : Bool) → eq_by_cmp (slice_cmp nat_cmp) q name ≡ b → b ≡ false
  apart q other true e = absurd (clash (sym (ap is_bus_name (names_apart q name (equal_of_tie _ e)) ∙ is_name) ∙ other))
    where
      clash : true ≡ false → ⊥
      clash e = cc
  apart q other false e = refl

  pub named-with_list : (list : List (ℕ × ℕ)) → AreNamed (with_list lists name list)
  named-with_list [] q other =
      ap (λ o. unwrap_or o []) (get-remove nat_list_cmp_total lists name q ∙ ap (λ b. cond b None (finmap.get lists q)) (apart q other (eq_by_cmp (slice_cmp nat_cmp) q name) refl))
      ∙ named q other
  named-with_list (e ∷ list) q other =
      ap (λ o. unwrap_or o []) (get-insert nat_list_cmp_total lists name (e ∷ list) q ∙ ap (λ b. cond b (Some (e ∷ list)) (finmap.get lists q)) (apart q other (eq_by_cmp (slice_cmp nat_cmp) q name) refl))
      ∙ named q other

asked_is_name : (name : List ℕ) → may_be_asked_for name ≡ true → is_bus_name name ≡ true
asked_is_name name e = (and_parts (is_bus_name name) (not (is_unique_name name) && not (bytes_eq name own_name)) e).0

pub named-requested : (s : BusState) (conn : ℕ) (name : List ℕ) (flags : ℕ) → AreNamed s.owners.lists → AreNamed (requested_answer s conn name flags).owners.lists
named-requested s conn name flags named = by (may_be_asked_for name) refl
  where
    by : (b : Bool) → may_be_asked_for name ≡ b → AreNamed (cond b (requests s conn name flags) (only s (fails (codes "InvalidArgs")))).owners.lists
    by true e = named-with_list s.owners.lists named name (asked_is_name name e) _
    by false e = named

pub named-released : (s : BusState) (conn : ℕ) (name : List ℕ) → AreNamed s.owners.lists → AreNamed (released_answer s conn name).owners.lists
named-released s conn name named = by (may_be_asked_for name) refl
  where
    by : (b : Bool) → may_be_asked_for name ≡ b → AreNamed (cond b (releases s conn name) (only s (fails (codes "InvalidArgs")))).owners.lists
    by true e = named-with_list s.owners.lists named name (asked_is_name name e) _
    by false e = named

pub named-either : {T E : Type 0} (r : Result T E) (after a old : Owners) → IfOk r (λ (x : T). after ≡ a) → OnErr r (after ≡ old) → AreNamed a.lists → AreNamed old.lists → AreNamed after.lists
named-either (Ok x) after a old is kept p q = subst (λ (o : Owners). AreNamed o.lists) (sym is) p
named-either (Err e) after a old is kept p q = subst (λ (o : Owners). AreNamed o.lists) (sym kept) q
