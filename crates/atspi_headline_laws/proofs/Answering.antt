-- WHAT AN APPLICATION ANSWERS, steps and hears of where it takes a message is what the run says.
use Rattle.std.proofs.Common.{◌≡◌, ◌⊎◌, inl, inr, ℕ, suc, ◌+◌, ℤ, Bool, true, false, List, [], ◌∷◌, ◌++◌, length, map, Option, None, Some, refl, sym, ap, ap₂, ◌∙◌, subst, arith, is_some}
use Rattle.std.specs.Prelude.{◌==◌, ◌&&◌, ◌||◌, codes, filter, filter_map, option_map, if◌then◌else◌}
use Rattle.std.specs.List.{AllByRecursion, cons_option}
use Rattle.std.proofs.lemmas.Bool.{eqb-true, eq-eqb}
use Rattle.std.proofs.lemmas.List.{append-nil}
use Rattle.atspi_tree_model.specs.declared.step.Step.{Step}
use Rattle.atspi_tree_model.specs.Forest.{Forest}
use Rattle.atspi_tree_model.specs.Row.{TreeRow}
use Rattle.atspi_script_lines.specs.declared.line.Party.TheVariants.{App}
use Rattle.atspi_message.specs.Envelope.{Envelope}
use Rattle.atspi_protocol.specs.ends.Messages.{replies, expects_reply, reply_to}
use Rattle.atspi_protocol.specs.objects.Application.{Application}
use Rattle.atspi_protocol.specs.objects.Answers.{Answer, answer}
use Rattle.atspi_protocol.specs.exporting.Exporter.{StartCall, hello, add_match, get_registered_events, embed, Phase, new, awaits, over, Happening, steps, sends, hears, deaf, Exporter, named, numbered, sent_in}
use Rattle.atspi_protocol.specs.exporting.Hearing.{Change, unchanged, exchanged, heard_after, pairs_in}
use Rattle.atspi_protocol.specs.exporting.Starting.{is_number, name_or_empty, unique_name_in, start_call, greeted, listened, goes_on}
use Rattle.atspi_protocol.specs.exporting.Telling.{steps_told}
use Rattle.atspi_protocol.specs.exporting.Taking.{answer_to}
use Rattle.atspi_protocol.specs.registering.Steps.{is_reply_to}
use Rattle.atspi_protocol.specs.news.NewsOf.{or_empty}
use Rattle.atspi_trace.specs.Entry.{heard, unheard}
use Rattle.atspi_trace.specs.Causes.{did}
use Rattle.atspi_headline.specs.Words as words
use Rattle.atspi_headline.specs.Words.{Act, writes, hearing, is_a, next_of, live_tree, added, name_of, is_returned, answers_last, calls_of, heard_pairs, last_of, next_serial}
use Rattle.atspi_headline.specs.Headline.{application, is_answerable, answer_as, answered, id_by, steps_called, change_by, hearing_of, hearing_as, listed}
use Rattle.atspi_trace_laws.specs.laws.Words as told
use Rattle.atspi_trace_laws.proofs.OfHeard.Heeding.{IsOfListeners, heard_told, exchanged_told}
use Rattle.atspi_trace_laws.proofs.OfSigned.Self.{InStart}
use Rattle.atspi_headline_laws.proofs.Naming.{empty_same}
use Rattle.atspi_headline_laws.proofs.Stepping.{steps_in, steps_numbered, steps_of_told, steps_both, no_steps_sent, no_steps_heard, no_steps, one_sent, queued_steps}
use Rattle.atspi_headline_laws.proofs.Knowing.{id_of, members, start_words, AreCalls}
use Rattle.atspi_headline_laws.proofs.Replied.{turned}
use Rattle.atspi_headline_laws.proofs.Receiving.{AwaitsNot, Took, answers_it, heeds_it, ignores_it, starts_on, ends_so}

-- WHAT IS KNOWN where it takes a message
pub record Tells (front : List Act) (a : ℕ) (s : Exporter) : Type 0 where
  pub tree : s.tree ≡ live_tree front a
  pub count : s.added ≡ added front a
  pub name : (name : List ℕ) → s.name ≡ Some name → or_empty (name_of front (App a)) ≡ name
  pub returned : is_some s.name ≡ true → is_returned front (App a) 1 ≡ true
  pub id : s.id ≡ id_of front a
  pub pairs : s.heard ≡ heard_pairs front a
  pub empty : s.out ≡ []
  pub calls : AreCalls s.phase (calls_of front a)
  pub next : s.next ≡ next_serial front (App a)
  pub start : InStart s.phase s.name

abbrev app_from : Forest TreeRow → ℕ → List ℕ → ℤ → Application
app_from tree count name id = record { tree = tree; added = count; name = name; id = id }

-- CHANGES OF WHAT IS HEARD stand first
heard_next : (a n : ℕ) (hs ks : List Happening) → IsOfListeners hs → next_of (is_a hearing) (map writes (map (did a) ks)) ≡ [] → next_of (is_a hearing) (map writes (map (did a) (numbered n hs ++ ks))) ≡ filter_map (hearing_as a) hs
heard_next a n [] ks l none = none
heard_next a n (hears listener pattern ∷ hs) ks l none = ap (λ es. heard a listener pattern ∷ es) (heard_next a n hs ks l none)
heard_next a n (deaf listener pattern ∷ hs) ks l none = ap (λ es. unheard a listener pattern ∷ es) (heard_next a n hs ks l none)
heard_next a n (steps step ∷ hs) ks l none = absurd l
heard_next a n (sends e ∷ hs) ks l none = absurd l

all_heard : (a n : ℕ) (hs : List Happening) → IsOfListeners hs → next_of (is_a hearing) (map writes (map (did a) (numbered n hs))) ≡ filter_map (hearing_as a) hs
all_heard a n hs l = ap (λ ks. next_of (is_a hearing) (map writes (map (did a) ks))) (sym (append-nil (numbered n hs))) ∙ heard_next a n hs [] l refl

abbrev no_hearing : ℕ → List Happening → Type 0
no_hearing a hs = next_of (is_a hearing) (map writes (map (did a) hs)) ≡ []

module _ (front : List Act) (a : ℕ) (s : Exporter) (m : Envelope) (i : Tells front a s) where
  its_application : (name : List ℕ) → s.name ≡ Some name → named s name ≡ application front a (id_of front a)
  its_application name is =
      ap₂ (λ x y. app_from x y name s.id) i.tree i.count ∙ ap₂ (λ x y. app_from (live_tree front a) (added front a) x y) (sym (i.name name is)) i.id

  pub its_answer : (name : List ℕ) → s.name ≡ Some name → answer_to s name m ≡ answered front a m
  its_answer name is = ap₂ (λ x p. answer x p m.interface m.member m.body) (its_application name is) (sym (empty_same m.path))

  -- WHOM IT ANSWERS
  pub answers_one : (name caller : List ℕ) → s.name ≡ Some name → m.kind ≡ 1 → m.sender ≡ Some caller → is_answerable front a m ≡ true
  answers_one name caller is one from =
      ap (λ k. (k == 1) && (is_some m.sender && is_returned front (App a) 1)) one ∙ ap (λ o. is_some o && is_returned front (App a) 1) from ∙ i.returned (ap is_some is)

  pub answers_none : (k : ℕ) → m.kind ≡ k → (k == 1) ≡ false → is_answerable front a m ≡ false
  answers_none k is other = ap (λ n. (n == 1) && (is_some m.sender && is_returned front (App a) 1)) is ∙ ap (λ b. b && (is_some m.sender && is_returned front (App a) 1)) other

  pub nobody_asks : (m.kind ≡ 1 → m.sender ≡ None) → is_answerable front a m ≡ false
  nobody_asks from = by (m.kind == 1) refl
    where
      by : (b : Bool) → (m.kind == 1) ≡ b → (b && (is_some m.sender && is_returned front (App a) 1)) ≡ false
      by true h = ap (λ o. is_some o && is_returned front (App a) 1) (from (eqb-true m.kind 1 h))
      by false h = refl

  -- ITS NUMBER
  same_number : (t : Exporter) → t.id ≡ s.id → is_answerable front a m ≡ false → t.id ≡ id_by front a s.id m
  same_number t same unasked = same ∙ sym (ap (λ b. if b then (answer_as front a s.id m).id else s.id) unasked)

  goes_number : (call : StartCall) → (goes_on s call m.body).id ≡ s.id
  goes_number hello = by (unique_name_in m.body)
    where
      by : (o : Option (List ℕ)) → (greeted s o).id ≡ s.id
      by None = refl
      by (Some name) = refl
  goes_number add_match = refl
  goes_number get_registered_events = by (pairs_in m.body)
    where
      by : (o : Option (List (List ℕ × List ℕ))) → (listened s o).id ≡ s.id
      by None = refl
      by (Some pairs) = refl
  goes_number embed = refl

  pub number_so : (t : Exporter) → Took s m t → t.id ≡ id_by front a s.id m
  number_so t (answers_it name caller is one from made) =
      ap (λ (x : Exporter). x.id) made
      ∙ ap (λ (x : Answer). x.id) (its_answer name is)
      ∙ ap (λ n. (answer_as front a n m).id) (sym i.id)
      ∙ sym (ap (λ b. if b then (answer_as front a s.id m).id else s.id) (answers_one name caller is one from))
  number_so t (heeds_it name is four made) = same_number t (ap (λ (x : Exporter). x.id) made) (answers_none 4 four refl)
  number_so t (ignores_it other from waits made) = same_number t (ap (λ (x : Exporter). x.id) made) (nobody_asks from)
  number_so t (starts_on call n at two reply made) = same_number t (ap (λ (x : Exporter). x.id) made ∙ goes_number call) (answers_none 2 two refl)
  number_so t (ends_so call n at three reply made) = same_number t (ap (λ (x : Exporter). x.id) made) (answers_none 3 three refl)

  -- ITS STEPS
  no_step_due : (t : Exporter) → steps_in t.out ≡ [] → is_answerable front a m ≡ false → steps_in t.out ≡ steps_called front a m
  no_step_due t none unasked = none ∙ sym (ap (λ b. if b then (answered front a m).steps else []) unasked)

  none_out : steps_in s.out ≡ []
  none_out = ap steps_in i.empty ∙ no_steps

  goes_steps : (call : StartCall) → steps_in (goes_on s call m.body).out ≡ []
  goes_steps hello = by (unique_name_in m.body)
    where
      by : (o : Option (List ℕ)) → steps_in (greeted s o).out ≡ []
      by None = none_out
      by (Some name) = queued_steps s.out (sends (start_call name add_match) ∷ []) s.next i.empty ∙ one_sent (start_call name add_match)
  goes_steps add_match =
      queued_steps s.out (sends (start_call (name_or_empty s.name) get_registered_events) ∷ []) s.next i.empty ∙ one_sent (start_call (name_or_empty s.name) get_registered_events)
  goes_steps get_registered_events = by (pairs_in m.body)
    where
      by : (o : Option (List (List ℕ × List ℕ))) → steps_in (listened s o).out ≡ []
      by None = none_out
      by (Some pairs) =
          let change : Change = exchanged s.heard pairs in
          let last : List Happening = sends (start_call (name_or_empty s.name) embed) ∷ [] in
          steps_both (s.out ++ numbered s.next change.told) (numbered (s.next + sent_in change.told) last)
          ∙ ap₂ (λ x y. x ++ y) (queued_steps s.out change.told s.next i.empty ∙ no_steps_heard change.told (exchanged_told s.heard pairs).listeners)
          (steps_numbered (s.next + sent_in change.told) last ∙ one_sent (start_call (name_or_empty s.name) embed))
  goes_steps embed = none_out

  pub steps_so : (t : Exporter) → Took s m t → steps_in t.out ≡ steps_called front a m
  steps_so t (answers_it name caller is one from made) =
      let x : Answer = answer_to s name m in
      ap (λ (y : Exporter). steps_in y.out) made
      ∙ queued_steps s.out (steps_told s.heard name s.tree x.steps ++ map sends (replies caller m x.reply)) s.next i.empty
      ∙ steps_both (steps_told s.heard name s.tree x.steps) (map sends (replies caller m x.reply))
      ∙ ap₂ (λ y z. y ++ z) (steps_of_told s.heard name s.tree x.steps) (no_steps_sent (replies caller m x.reply))
      ∙ append-nil x.steps
      ∙ ap (λ (y : Answer). y.steps) (its_answer name is)
      ∙ sym (ap (λ b. if b then (answered front a m).steps else []) (answers_one name caller is one from))
  steps_so t (heeds_it name is four made) =
      no_step_due t
      (ap (λ (y : Exporter). steps_in y.out) made ∙ queued_steps s.out (heard_after s.heard m).told s.next i.empty ∙ no_steps_heard (heard_after s.heard m).told (heard_told s.heard m).listeners)
      (answers_none 4 four refl)
  steps_so t (ignores_it other from waits made) = no_step_due t (ap (λ (y : Exporter). steps_in y.out) made ∙ none_out) (nobody_asks from)
  steps_so t (starts_on call n at two reply made) = no_step_due t (ap (λ (y : Exporter). steps_in y.out) made ∙ goes_steps call) (answers_none 2 two refl)
  steps_so t (ends_so call n at three reply made) = no_step_due t (ap (λ (y : Exporter). steps_in y.out) made ∙ none_out) (answers_none 3 three refl)

  -- THE CALL OF ITS START that is answered
  abbrev cs : List Envelope
  cs = calls_of front a

  numbered_same : (n : ℕ) (o : Option ℕ) → is_number o n ≡ is_reply_to (Some n) o
  numbered_same n None = refl
  numbered_same n (Some k) = turned k n

  pub waited_last : (call : StartCall) (n : ℕ) → s.phase ≡ awaits call n → answers_last cs m ≡ (m.kind == 2 && is_number m.reply n)
  waited_last call n at =
      let had : AreCalls (awaits call n) cs = subst (λ p. AreCalls p cs) at i.calls in
      ap (λ o. m.kind == 2 && is_reply_to o m.reply) had.1 ∙ ap (λ b. m.kind == 2 && b) (sym (numbered_same n m.reply))

  pub sized : (p : Phase) → s.phase ≡ p → AreCalls p cs
  sized p at = subst (λ q. AreCalls q cs) at i.calls

  long : (xs : List Envelope) → length (members xs) ≡ length xs
  long [] = refl
  long (x ∷ xs) = ap suc (long xs)

  count_is : (call : StartCall) (n : ℕ) → s.phase ≡ awaits call n → length cs ≡ length (start_words call)
  count_is call n at = sym (long cs) ∙ ap length (sized (awaits call n) at).0

  over_count : s.phase ≡ over → length cs ≡ 4
  over_count at = sym (long cs) ∙ ap length (sized over at)

  -- WHAT IT HEARS OF
  abbrev change_if : Bool → Bool → Change
  change_if x y = if x then listed (heard_pairs front a) (pairs_in m.body) else if y then heard_after (heard_pairs front a) m else unchanged (heard_pairs front a)

  changed_by : (x y : Bool) → (answers_last cs m && (length cs == 3)) ≡ x → (m.kind == 4 && is_returned front (App a) 1) ≡ y → change_by front a m ≡ change_if x y
  changed_by x y h g = ap₂ change_if h g

  nothing_heard : (t : Exporter) → no_hearing a t.out → change_by front a m ≡ unchanged (heard_pairs front a) → next_of (is_a hearing) (map writes (map (did a) t.out)) ≡ hearing_of front a m
  nothing_heard t none is = none ∙ sym (ap (λ (c : Change). filter_map (hearing_as a) c.told) is)

  other_kind : (k : ℕ) → m.kind ≡ k → (k == 4) ≡ false → (m.kind == 4 && is_returned front (App a) 1) ≡ false
  other_kind k is other = ap (λ n. n == 4 && is_returned front (App a) 1) is ∙ ap (λ b. b && is_returned front (App a) 1) other

  pub no_return : (k : ℕ) → m.kind ≡ k → (k == 2) ≡ false → (answers_last cs m && (length cs == 3)) ≡ false
  no_return k is other =
      let last : Option ℕ = option_map (λ (c : Envelope). c.serial) (last_of cs) in
      ap (λ n. (n == 2 && is_reply_to last m.reply) && (length cs == 3)) is ∙ ap (λ b. (b && is_reply_to last m.reply) && (length cs == 3)) other

  and_false : (b : Bool) → (b && false) ≡ false
  and_false true = refl
  and_false false = refl

  other_count : (n : ℕ) → length cs ≡ n → (n == 3) ≡ false → (answers_last cs m && (length cs == 3)) ≡ false
  other_count n is other = ap (λ k. answers_last cs m && (k == 3)) is ∙ ap (λ b. answers_last cs m && b) other ∙ and_false (answers_last cs m)

  -- a message that it ignores answers no call that it waits for
  none_listed : AwaitsNot s m → (answers_last cs m && (length cs == 3)) ≡ false
  none_listed waits = by s.phase refl
    where
      by : (p : Phase) → s.phase ≡ p → (answers_last cs m && (length cs == 3)) ≡ false
      by new at = absurd (sized new at)
      by (awaits call n) at = ap (λ b. b && (length cs == 3)) (waited_last call n at ∙ waits call n at)
      by over at = other_count 4 (over_count at) refl

  nothing_out : no_hearing a s.out
  nothing_out = ap (λ hs. next_of (is_a hearing) (map writes (map (did a) hs))) i.empty

  no_signal : (m.kind ≡ 4 → ⊥) → (m.kind == 4 && is_returned front (App a) 1) ≡ false
  no_signal other = by (m.kind == 4) refl
    where
      by : (b : Bool) → (m.kind == 4) ≡ b → (b && is_returned front (App a) 1) ≡ false
      by true h = absurd (other (eqb-true m.kind 4 h))
      by false h = refl

  -- an answer begins with a step, or is a reply alone
  answer_out : (name caller : List ℕ) (x : Answer) (ss : List Step) (b : Bool) → no_hearing a (numbered s.next (steps_told s.heard name s.tree ss ++ map sends (if b then reply_to caller m.serial x.reply ∷ [] else [])))
  answer_out name caller x (step ∷ ss) b = refl
  answer_out name caller x [] true = refl
  answer_out name caller x [] false = refl

  at_empty : (hs : List Happening) → no_hearing a (numbered s.next hs) → no_hearing a (s.out ++ numbered s.next hs)
  at_empty hs h = ap (λ out. next_of (is_a hearing) (map writes (map (did a) (out ++ numbered s.next hs)))) i.empty ∙ h

  pub answers_all : (call : StartCall) (n : ℕ) → s.phase ≡ awaits call n → m.kind ≡ 2 → m.reply ≡ Some n → answers_last cs m ≡ true
  answers_all call n at two reply = waited_last call n at ∙ ap (λ k. k == 2 && is_number m.reply n) two ∙ ap (λ o. is_number o n) reply ∙ eq-eqb n n refl

  goes_heard : (call : StartCall) (n : ℕ) → s.phase ≡ awaits call n → m.kind ≡ 2 → m.reply ≡ Some n → next_of (is_a hearing) (map writes (map (did a) (goes_on s call m.body).out)) ≡ hearing_of front a m
  goes_heard hello n at two reply =
      nothing_heard (goes_on s hello m.body) (by (unique_name_in m.body)) (changed_by false false (other_count 1 (count_is hello n at) refl) (other_kind 2 two refl))
    where
      by : (o : Option (List ℕ)) → no_hearing a (greeted s o).out
      by None = nothing_out
      by (Some name) = at_empty (sends (start_call name add_match) ∷ []) refl
  goes_heard add_match n at two reply =
      nothing_heard (goes_on s add_match m.body) (at_empty (sends (start_call (name_or_empty s.name) get_registered_events) ∷ []) refl)
      (changed_by false false (other_count 2 (count_is add_match n at) refl) (other_kind 2 two refl))
  goes_heard embed n at two reply = nothing_heard (goes_on s embed m.body) nothing_out (changed_by false false (other_count 4 (count_is embed n at) refl) (other_kind 2 two refl))
  goes_heard get_registered_events n at two reply =
      by (pairs_in m.body)
      ∙ sym (ap (λ (c : Change). filter_map (hearing_as a) c.told) (changed_by true false third (other_kind 2 two refl)))
    where
      third : (answers_last cs m && (length cs == 3)) ≡ true
      third = ap₂ (λ x k. x && (k == 3)) (answers_all get_registered_events n at two reply) (count_is get_registered_events n at)

      by : (o : Option (List (List ℕ × List ℕ))) → next_of (is_a hearing) (map writes (map (did a) (listened s o).out)) ≡ filter_map (hearing_as a) (listed (heard_pairs front a) o).told
      by None = nothing_out
      by (Some pairs) =
          let change : Change = exchanged s.heard pairs in
          let last : List Happening = numbered (s.next + sent_in change.told) (sends (start_call (name_or_empty s.name) embed) ∷ []) in
          ap (λ out. next_of (is_a hearing) (map writes (map (did a) ((out ++ numbered s.next change.told) ++ last)))) i.empty
          ∙ heard_next a s.next change.told last (exchanged_told s.heard pairs).listeners refl
          ∙ ap (λ ps. filter_map (hearing_as a) (exchanged ps pairs).told) i.pairs

  pub hears_so : (t : Exporter) → Took s m t → next_of (is_a hearing) (map writes (map (did a) t.out)) ≡ hearing_of front a m
  hears_so t (answers_it name caller is one from made) =
      let x : Answer = answer_to s name m in
      nothing_heard t
      (ap (λ (y : Exporter). next_of (is_a hearing) (map writes (map (did a) y.out))) made
      ∙ at_empty (steps_told s.heard name s.tree x.steps ++ map sends (replies caller m x.reply)) (answer_out name caller x x.steps (expects_reply m)))
      (changed_by false false (no_return 1 one refl) (other_kind 1 one refl))
  hears_so t (heeds_it name is four made) =
      ap (λ (y : Exporter). next_of (is_a hearing) (map writes (map (did a) y.out))) made
      ∙ ap (λ out. next_of (is_a hearing) (map writes (map (did a) (out ++ numbered s.next (heard_after s.heard m).told)))) i.empty
      ∙ all_heard a s.next (heard_after s.heard m).told (heard_told s.heard m).listeners
      ∙ ap (λ ps. filter_map (hearing_as a) (heard_after ps m).told) i.pairs
      ∙ sym (ap (λ (c : Change). filter_map (hearing_as a) c.told) (changed_by false true (no_return 4 four refl) (ap₂ (λ k b. k == 4 && b) four (i.returned (ap is_some is)))))
  hears_so t (ignores_it other from waits made) =
      nothing_heard t (ap (λ (y : Exporter). next_of (is_a hearing) (map writes (map (did a) y.out))) made ∙ nothing_out) (changed_by false false (none_listed waits) (no_signal other))
  hears_so t (starts_on call n at two reply made) = ap (λ (y : Exporter). next_of (is_a hearing) (map writes (map (did a) y.out))) made ∙ goes_heard call n at two reply
  hears_so t (ends_so call n at three reply made) =
      nothing_heard t (ap (λ (y : Exporter). next_of (is_a hearing) (map writes (map (did a) y.out))) made ∙ nothing_out) (changed_by false false (no_return 3 three refl) (other_kind 3 three refl))
