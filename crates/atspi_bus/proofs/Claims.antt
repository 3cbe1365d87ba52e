-- A name that nobody had, requested in place and released again.
use Rattle.std.proofs.Common.{◌≡◌, ℕ, true, false, cond, List, [], ◌∷◌, ◌++◌, map, Option, None, Some, sym, ap, ◌∙◌, arith, append-nil}
use Rattle.std.proofs.lemmas.Grind.{common_steps}
use Rattle.std.specs.Prelude.{unwrap_or, codes}
use Rattle.std.specs.Ordering.{nat_cmp, eq_by_cmp}
use Rattle.std.specs.Cmp.Lexicographic.{slice_cmp, nat_list_cmp_total}
use Rattle.std.specs.FinMap as finmap
use Rattle.std.specs.FinMap.{get-insert, get-remove, same_map}
use Rattle.atspi_types.specs.Data.{Data}
use Rattle.atspi_message.specs.Envelope.{Envelope, envelope_of}
use Rattle.atspi_message.specs.declared.message.Message.{Message}
use Rattle.atspi_match.specs.declared.condition.Condition.{Condition}
use Rattle.atspi_names.specs.Queue.{requested, released, without}
use Rattle.atspi_names.specs.Owners.{Owners, Lists, list_of, with_list, after_request, after_release}
use Rattle.atspi_names.proofs.Maps.{later, same_write, equal_of_tie}
use Rattle.atspi_names.proofs.ListsLemmas.{names_apart}
use Rattle.atspi_names.proofs.BookLemmas.{list_here}
use Rattle.atspi_match.specs.declared.routing.member.BusMember.TheVariants.{RequestName}
use Rattle.atspi_match.specs.routing.BusState.{BusState}
use Rattle.atspi_match.specs.routing.Answers.{Reply, fails, Answer, only, answers, requests, first_text, second_number}
use Rattle.atspi_match.specs.routing.Routing.{expects_reply}
use Rattle.atspi_match.specs.routing.Queues.{Bus, stepped}
use Rattle.atspi_match.specs.routing.Steps.{speaks, replies, answered}
use Rattle.atspi_bus_answers.specs.Answered.{IsAnswer, reply_of}
use Rattle.atspi_bus_answers.specs.Free.{IsFreeName}
use Rattle.atspi_bus_answers.specs.declared.answering.Reply.{Reply as Given}
use Rattle.atspi_bus_steps.specs.Sayable.{reply_message}
use Rattle.atspi_bus_steps.proofs.Replies.{replied, unreplied}

-- what is told, and the reply behind it where one is expected
pub told-replied : (s : BusState) (conn : ℕ) (e : Envelope) (reply : Reply) (told : List Envelope) (d : Envelope) → expects_reply e ≡ true → d ≡ reply_message s conn e.serial reply
    → told ++ d ∷ [] ≡ told ++ replies s conn e reply
told-replied s conn e reply told d asked message = ap (λ (x : Envelope). told ++ x ∷ []) message ∙ ap (λ (l : List Envelope). told ++ l) (sym (replied s conn e reply asked))

pub told-quiet : (s : BusState) (conn : ℕ) (e : Envelope) (reply : Reply) (told : List Envelope) → expects_reply e ≡ false → told ≡ told ++ replies s conn e reply
told-quiet s conn e reply told silent = sym (append-nil told) ∙ ap (λ (l : List Envelope). told ++ l) (sym (unreplied s conn e reply silent))

-- an answer is done once all of it is said
pub answered-in_place : (b next : Bus) (conn : ℕ) (e : Envelope) (a : Answer) (owners : Owners) (rules : List (ℕ × List Condition)) (new : List Message) (given : Given)
    → IsAnswer a owners rules [] new given
    → next ≡ stepped b (speaks (record b.state { owners = owners; rules = rules }) (map envelope_of new ++ replies (record b.state { owners = owners; rules = rules }) conn e (reply_of given)))
    → next ≡ stepped b (answered b.state conn e a)
answered-in_place b next conn e a owners rules new given h is =
    let said : Owners → List (ℕ × List Condition) → List Envelope → Reply → Bus =
    λ o r told reply. stepped b (speaks (record b.state { owners = o; rules = r }) (told ++ replies (record b.state { owners = o; rules = r }) conn e reply)) in
    is ∙ ap (λ (o : Owners). said o rules (map envelope_of new) (reply_of given)) h.owners
    ∙ ap (λ (r : List (ℕ × List Condition)). said a.owners r (map envelope_of new) (reply_of given)) h.rules
    ∙ ap (λ (t : List Envelope). said a.owners a.rules t (reply_of given)) h.told
    ∙ ap (said a.owners a.rules a.told) h.reply

-- a list that is put where there was none, and taken out again
put_and_taken : (m : Lists) (name : List ℕ) (list : List (ℕ × ℕ)) → finmap.get m name ≡ None → finmap.remove (finmap.insert m name list) name ≡ m
put_and_taken m name list none = same_map nat_list_cmp_total names_apart _ _ (λ q.
    get-remove nat_list_cmp_total (finmap.insert m name list) name q
    ∙ ap (cond (eq_by_cmp (slice_cmp nat_cmp) q name) None) (get-insert nat_list_cmp_total m name list q)
    ∙ later (eq_by_cmp (slice_cmp nat_cmp) q name) None (Some list) (finmap.get m q)
    ∙ same_write (eq_by_cmp (slice_cmp nat_cmp) q name) None (finmap.get m q) (λ tied. ap (finmap.get m) (names_apart q name (equal_of_tie _ tied)) ∙ none))

without-alone : (conn flags : ℕ) → without conn ((conn, flags) ∷ []) ≡ []
without-alone conn flags = grind (arith, common_steps)

lists-claimed : (lists : Lists) (conn flags : ℕ) (name : List ℕ) → finmap.get lists name ≡ None
    → with_list lists name (requested (list_of lists name) conn flags).0 ≡ finmap.insert lists name ((conn, flags) ∷ [])
lists-claimed lists conn flags name none = ap (λ o. with_list lists name (requested (unwrap_or o []) conn flags).0) none

lists-released : (lists : Lists) (conn flags : ℕ) (name : List ℕ) → finmap.get lists name ≡ None
    → with_list (finmap.insert lists name ((conn, flags) ∷ [])) name (released (list_of (finmap.insert lists name ((conn, flags) ∷ [])) name) conn).0 ≡ lists
lists-released lists conn flags name none =
    let alone : List (ℕ × ℕ) = (conn, flags) ∷ [] in
    ap (λ l. with_list (finmap.insert lists name alone) name (released l conn).0) (list_here lists name alone)
    ∙ ap (with_list (finmap.insert lists name alone) name) (without-alone conn flags)
    ∙ put_and_taken lists name alone none

-- who asks for a name that nobody has and then gives it back leaves all as before
pub claim-undone : (owners : Owners) (conn flags : ℕ) (name : List ℕ) → finmap.get owners.lists name ≡ None → after_release (after_request owners conn name flags) conn name ≡ owners
claim-undone owners conn flags name none =
    let back : Lists → Owners = λ l. record owners { lists = with_list l name (released (list_of l name) conn).0 } in
    ap back (lists-claimed owners.lists conn flags name none)
    ∙ ap (λ (l : Lists). record owners { lists = l }) (lists-released owners.lists conn flags name none)

-- the owners after a call that asks for such a name
pub claimed-owners : (s : BusState) (conn : ℕ) (args : List Data) (rule : Option (List Condition)) (name : List ℕ) → IsFreeName s.owners args name
    → (answers RequestName s conn args rule).owners ≡ after_request s.owners conn name (second_number args)
claimed-owners s conn args rule name h =
    ap (λ b. (cond b (requests s conn (first_text args) (second_number args)) (only s (fails (codes "InvalidArgs")))).owners) h.asked
    ∙ ap (λ n. after_request s.owners conn n (second_number args)) (sym h.is)

-- a bus on which the name was given back is the one before
pub claimed-back : (b next : Bus) (owners back : Owners) (rules : List (ℕ × List Condition)) → next ≡ record b { state = record b.state { owners = owners; rules = rules } }
    → rules ≡ b.state.rules → back ≡ b.state.owners → record next { state = record next.state { owners = back } } ≡ b
claimed-back b next owners back rules is kept same =
    ap (λ (x : Bus). record x { state = record x.state { owners = back } }) is
    ∙ ap (λ (r : List (ℕ × List Condition)). record b { state = record b.state { owners = back; rules = r } }) kept
    ∙ ap (λ (o : Owners). record b { state = record b.state { owners = o } }) same
