-- WHAT AN APPLICATION SAYS where it takes a message is what the run says: the signals of its steps and the reply, or the next call of its start.
use Rattle.std.proofs.Common.{◌≡◌, ◌⊎◌, inl, inr, ℕ, suc, ◌+◌, Bool, true, false, List, [], ◌∷◌, ◌++◌, length, map, Option, None, Some, refl, sym, ap, ap₂, ◌∙◌, subst, arith, is_some}
use Rattle.std.specs.Prelude.{◌==◌, ◌&&◌, filter, filter_map, option_map, if◌then◌else◌}
use Rattle.std.proofs.lemmas.List.{append-nil}
use Rattle.atspi_script_lines.specs.declared.line.Party.{Party}
use Rattle.atspi_script_lines.specs.declared.line.Party.TheVariants.{App}
use Rattle.atspi_message.specs.Envelope.{Envelope}
use Rattle.atspi_protocol.specs.ends.Messages.{replies}
use Rattle.atspi_protocol.specs.objects.Answers.{Answer}
use Rattle.atspi_protocol.specs.exporting.Exporter.{StartCall, hello, add_match, get_registered_events, embed, Phase, new, awaits, over, Happening, steps, sends, hears, deaf, Exporter, numbered, sent_in}
use Rattle.atspi_protocol.specs.exporting.Hearing.{Change, exchanged, heard_after, pairs_in}
use Rattle.atspi_protocol.specs.exporting.Starting.{name_or_empty, unique_name_in, start_call, greeted, listened, goes_on, ends_start}
use Rattle.atspi_protocol.specs.exporting.Telling.{steps_told}
use Rattle.atspi_protocol.specs.exporting.Taking.{answer_to}
use Rattle.atspi_protocol.specs.registering.Steps.{is_reply_to}
use Rattle.atspi_protocol.specs.news.NewsOf.{or_empty}
use Rattle.atspi_trace.specs.Entry.{Entry, sent, got, heard, unheard}
use Rattle.atspi_trace.specs.Causes.{did}
use Rattle.atspi_headline.specs.Words.{Act, writes, messages, calls_of, answers_last, last_of, next_serial, name_of}
use Rattle.atspi_headline.specs.Headline.{is_answerable, answered, next_call, words_to, put_in}
use Rattle.atspi_trace_laws.proofs.OfOrder.Parties.{false_true}
use Rattle.atspi_trace_laws.proofs.OfHeard.Heeding.{IsOfListeners, heard_told, exchanged_told}
use Rattle.atspi_trace_laws.proofs.OfHeard.Pairs.{numbered_append}
use Rattle.atspi_trace_laws.proofs.OfSigned.Self.{InStart}
use Rattle.atspi_headline_laws.proofs.Knowing.{members, start_words, AreCalls, is_call, sends_in}
use Rattle.atspi_headline_laws.proofs.Receiving.{AwaitsNot, Took, answers_it, heeds_it, ignores_it, starts_on, ends_so}
use Rattle.atspi_headline_laws.proofs.Answering.{Tells, its_answer, answers_one, answers_none, nobody_asks, waited_last, answers_all, sized}
use Rattle.atspi_headline_laws.proofs.Saying.{is_other, left_of, others_left, left_both, left_sends, steps_left, Stands, said_now, Adds, serials_more, stands_more, steps_put}

-- an entry with which nothing is sent
no_more : (n k : ℕ) → k ≡ n + 0 → k ≡ n
no_more n k h = omega (arith, h)

serials_same : (before : List Act) (a n : ℕ) (e : Entry) → length (messages (writes e ∷ []) (App a)) ≡ 0 → next_serial before (App a) ≡ n → next_serial (before ++ writes e ∷ []) (App a) ≡ n
serials_same before a n e none next = no_more n (next_serial (before ++ writes e ∷ []) (App a)) (serials_more before (writes e ∷ []) a n 0 next none)

-- LISTENERS, and what is said behind them
listeners_put : (before : List Act) (a n : ℕ) (hs : List Happening) (es : List Envelope) → IsOfListeners hs → next_serial before (App a) ≡ n → put_in before (a, es) (left_of a hs) ≡ map (did a) (numbered n (hs ++ map sends es))
listeners_put before a n [] es l next = said_now before a n es next
listeners_put before a n (hears listener pattern ∷ hs) es l next =
    ap (λ x. heard a listener pattern ∷ x) (listeners_put (before ++ writes (heard a listener pattern) ∷ []) a n hs es l (serials_same before a n (heard a listener pattern) refl next))
listeners_put before a n (deaf listener pattern ∷ hs) es l next =
    ap (λ x. unheard a listener pattern ∷ x) (listeners_put (before ++ writes (unheard a listener pattern) ∷ []) a n hs es l (serials_same before a n (unheard a listener pattern) refl next))
listeners_put before a n (steps step ∷ hs) es l next = absurd l
listeners_put before a n (sends e ∷ hs) es l next = absurd l

listened_put : (before : List Act) (a n : ℕ) (hs : List Happening) (es : List Envelope) → IsOfListeners hs → next_serial before (App a) ≡ n
    → map (did a) (numbered n (hs ++ map sends es)) ≡ put_in before (a, es) (filter is_other (map (did a) (numbered n (hs ++ map sends es))))
listened_put before a n hs es l next =
    sym (ap (put_in before (a, es)) (others_left a n (hs ++ map sends es) ∙ left_both a hs (map sends es) ∙ ap (λ x. left_of a hs ++ x) (left_sends a es) ∙ append-nil (left_of a hs)) ∙ listeners_put before a n hs es l next)

-- THE NEXT CALL OF ITS START
abbrev later : List ℕ → StartCall → List Envelope
later name hello = start_call name add_match ∷ []
later name add_match = start_call name get_registered_events ∷ []
later name get_registered_events = start_call name embed ∷ []
later name embed = []

next_is : (name : List ℕ) (call : StartCall) (cs : List Envelope) → members cs ≡ start_words call → next_call name cs ≡ later name call
next_is name hello (c ∷ []) h = refl
next_is name add_match (c ∷ (d ∷ [])) h = refl
next_is name get_registered_events (c ∷ (d ∷ (e ∷ []))) h = refl
next_is name embed (c ∷ (d ∷ (e ∷ (f ∷ cs)))) h = refl
next_is name hello [] h = absurd (omega (arith, ap length h))
next_is name hello (c ∷ (d ∷ cs)) h = absurd (omega (arith, ap length h))
next_is name add_match [] h = absurd (omega (arith, ap length h))
next_is name add_match (c ∷ []) h = absurd (omega (arith, ap length h))
next_is name add_match (c ∷ (d ∷ (e ∷ cs))) h = absurd (omega (arith, ap length h))
next_is name get_registered_events [] h = absurd (omega (arith, ap length h))
next_is name get_registered_events (c ∷ []) h = absurd (omega (arith, ap length h))
next_is name get_registered_events (c ∷ (d ∷ [])) h = absurd (omega (arith, ap length h))
next_is name get_registered_events (c ∷ (d ∷ (e ∷ (f ∷ cs)))) h = absurd (omega (arith, ap length h))
next_is name embed [] h = absurd (omega (arith, ap length h))
next_is name embed (c ∷ []) h = absurd (omega (arith, ap length h))
next_is name embed (c ∷ (d ∷ [])) h = absurd (omega (arith, ap length h))
next_is name embed (c ∷ (d ∷ (e ∷ []))) h = absurd (omega (arith, ap length h))

module _ (front : List Act) (a : ℕ) (s : Exporter) (m : Envelope) (i : Tells front a s) (from : Party) (serial : ℕ) where
  abbrev behind : List Act
  behind = front ++ writes (got (App a) from serial) ∷ []

  abbrev cs : List Envelope
  cs = calls_of front a

  abbrev Said : Exporter → Type 0
  Said t = map (did a) t.out ≡ put_in behind (a, words_to front a m) (filter is_other (map (did a) t.out))

  next_now : next_serial behind (App a) ≡ s.next
  next_now = serials_same front a s.next (got (App a) from serial) refl (sym i.next)

  -- listeners, and what it says then
  said_of : (t : Exporter) (hs : List Happening) (es : List Envelope) → t.out ≡ numbered s.next (hs ++ map sends es) → IsOfListeners hs → words_to front a m ≡ es → Said t
  said_of t hs es out l words =
      subst (λ o. map (did a) o ≡ put_in behind (a, words_to front a m) (filter is_other (map (did a) o))) (sym out)
      (subst (λ ws. map (did a) (numbered s.next (hs ++ map sends es)) ≡ put_in behind (a, ws) (filter is_other (map (did a) (numbered s.next (hs ++ map sends es))))) (sym words)
      (listened_put behind a s.next hs es l next_now))

  -- which words are due
  abbrev words_if : Bool → Bool → List Envelope
  words_if x y = if x then next_call (or_empty (name_of front (App a))) cs else if y then replies (or_empty m.sender) m (answered front a m).reply else []

  words_by : (x y : Bool) → answers_last cs m ≡ x → is_answerable front a m ≡ y → words_to front a m ≡ words_if x y
  words_by x y h g = ap₂ words_if h g

  no_return : (k : ℕ) → m.kind ≡ k → (k == 2) ≡ false → answers_last cs m ≡ false
  no_return k is other =
      let last : Option ℕ = option_map (λ (c : Envelope). c.serial) (last_of cs) in
      ap (λ n. n == 2 && is_reply_to last m.reply) is ∙ ap (λ b. b && is_reply_to last m.reply) other

  at_empty : (hs : List Happening) → s.out ++ numbered s.next hs ≡ numbered s.next hs
  at_empty hs = ap (λ out. out ++ numbered s.next hs) i.empty

  -- its start goes on
  call_words : (call : StartCall) (n : ℕ) → s.phase ≡ awaits call n → m.kind ≡ 2 → m.reply ≡ Some n → words_to front a m ≡ later (or_empty (name_of front (App a))) call
  call_words call n at two reply =
      words_by true (is_answerable front a m) (answers_all front a s m i call n at two reply) refl
      ∙ next_is (or_empty (name_of front (App a))) call cs (sized front a s m i (awaits call n) at).0

  -- no start ends before its last call was sent
  no_end : (call : StartCall) (n : ℕ) → s.phase ≡ awaits call n → (length (start_words call) ≡ 4 → ⊥) → members (cs ++ filter is_call (sends_in s.out)) ≡ start_words embed → ⊥
  no_end call n at short all =
      short
      (ap length (sym (sized front a s m i (awaits call n) at).0)
      ∙ ap (λ l. length (members l)) (sym (ap (λ out. cs ++ filter is_call (sends_in out)) i.empty ∙ append-nil cs)) ∙ ap length all)

  one_four : ◌≡◌ {A = ℕ} 1 4 → ⊥
  one_four h = absurd (omega (arith, h))

  three_four : ◌≡◌ {A = ℕ} 3 4 → ⊥
  three_four h = absurd (omega (arith, h))

  its_own_name : is_some s.name ≡ true → name_or_empty s.name ≡ or_empty (name_of front (App a))
  its_own_name h = by s.name refl h
    where
      by : (o : Option (List ℕ)) → s.name ≡ o → is_some o ≡ true → name_or_empty o ≡ or_empty (name_of front (App a))
      by None is k = absurd (false_true k)
      by (Some name) is k = sym (i.name name is)

  goes_said : (t : Exporter) (call : StartCall) (n : ℕ) → s.phase ≡ awaits call n → m.kind ≡ 2 → m.reply ≡ Some n → t ≡ goes_on s call m.body → AreCalls t.phase (cs ++ filter is_call (sends_in t.out)) → Said t
  goes_said t hello n at two reply made after = by (unique_name_in m.body) refl
    where
      by : (o : Option (List ℕ)) → unique_name_in m.body ≡ o → Said t
      by None h =
          let ended : t ≡ ends_start s = made ∙ ap (greeted s) h in
          absurd (no_end hello n at one_four (subst (λ (y : Exporter). AreCalls y.phase (cs ++ filter is_call (sends_in y.out))) ended after))
      by (Some name) h =
          let greets : t ≡ greeted s (Some name) = made ∙ ap (greeted s) h in
          said_of t [] (start_call name add_match ∷ []) (ap (λ (y : Exporter). y.out) greets ∙ at_empty (sends (start_call name add_match) ∷ [])) tt (call_words hello n at two reply)
  goes_said t add_match n at two reply made after =
      said_of t [] (start_call (name_or_empty s.name) get_registered_events ∷ []) (ap (λ (y : Exporter). y.out) made ∙ at_empty (sends (start_call (name_or_empty s.name) get_registered_events) ∷ [])) tt (call_words add_match n at two reply)
  goes_said t embed n at two reply made after = said_of t [] [] (ap (λ (y : Exporter). y.out) made ∙ i.empty) tt (call_words embed n at two reply)
  goes_said t get_registered_events n at two reply made after = by (pairs_in m.body) refl
    where
      named_ : is_some s.name ≡ true
      named_ = subst (λ p. InStart p s.name) at i.start

      by : (o : Option (List (List ℕ × List ℕ))) → pairs_in m.body ≡ o → Said t
      by None h =
          let ended : t ≡ ends_start s = made ∙ ap (listened s) h in
          absurd (no_end get_registered_events n at three_four (subst (λ (y : Exporter). AreCalls y.phase (cs ++ filter is_call (sends_in y.out))) ended after))
      by (Some pairs) h =
          let change : Change = exchanged s.heard pairs in
          let last : Envelope = start_call (name_or_empty s.name) embed in
          let lists : t ≡ listened s (Some pairs) = made ∙ ap (listened s) h in
          said_of t change.told (last ∷ [])
          (ap (λ (y : Exporter). y.out) lists ∙ ap (λ out. out ++ numbered (s.next + sent_in change.told) (sends last ∷ [])) (at_empty change.told) ∙ sym (numbered_append s.next change.told (sends last ∷ [])))
          (exchanged_told s.heard pairs).listeners (call_words get_registered_events n at two reply ∙ ap (λ name. start_call name embed ∷ []) (sym (its_own_name named_)))

  -- it ignores what it takes
  none_due : AwaitsNot s m → is_answerable front a m ≡ false → words_to front a m ≡ []
  none_due waits unasked = by s.phase refl
    where
      by : (p : Phase) → s.phase ≡ p → words_to front a m ≡ []
      by new at = absurd (sized front a s m i new at)
      by (awaits call n) at = words_by false false (waited_last front a s m i call n at ∙ waits call n at) unasked
      by over at = words_by (answers_last cs m) false refl unasked ∙ both (answers_last cs m)
        where
          both : (b : Bool) → words_if b false ≡ []
          both true = next_is (or_empty (name_of front (App a))) embed cs (sized front a s m i over at)
          both false = refl

  -- it answers
  stands_now : (name : List ℕ) → s.name ≡ Some name → Stands behind a s.heard name s.tree s.next
  stands_now name is =
      let got_adds : Adds a 0 (writes (got (App a) from serial) ∷ []) = record { greets = refl; pairs = λ ps. refl; tree = λ f. refl; sent_ = refl } in
      let old : Stands front a s.heard name s.tree s.next = record { pairs = sym i.pairs; name = i.name name is; tree = sym i.tree; next = sym i.next } in
      let now = stands_more front (writes (got (App a) from serial) ∷ []) a s.heard name s.tree s.next 0 old got_adds in
      record { pairs = now.pairs; name = now.name; tree = now.tree; next = next_now }

  answer_said : (t : Exporter) (name caller : List ℕ) → s.name ≡ Some name → m.kind ≡ 1 → m.sender ≡ Some caller → t.out ≡ s.out ++ numbered s.next (steps_told s.heard name s.tree (answer_to s name m).steps ++ map sends (replies caller m (answer_to s name m).reply)) → Said t
  answer_said t name caller is one asks out =
      let x : Answer = answer_to s name m in
      let hs : List Happening = steps_told s.heard name s.tree x.steps ++ map sends (replies caller m x.reply) in
      let words : words_to front a m ≡ replies caller m x.reply =
      words_by false true (no_return 1 one refl) (answers_one front a s m i name caller is one asks)
      ∙ ap₂ (λ o (y : Answer). replies (or_empty o) m y.reply) asks (sym (its_answer front a s m i name is)) in
      let made : t.out ≡ numbered s.next hs = out ∙ at_empty hs in
      subst (λ o. map (did a) o ≡ put_in behind (a, words_to front a m) (filter is_other (map (did a) o))) (sym made)
      (subst (λ ws. map (did a) (numbered s.next hs) ≡ put_in behind (a, ws) (filter is_other (map (did a) (numbered s.next hs)))) (sym words)
      (sym (ap (put_in behind (a, replies caller m x.reply)) (steps_left a s.next s.heard name s.tree x.steps (replies caller m x.reply))
      ∙ steps_put behind a s.heard name s.tree s.next x.steps (replies caller m x.reply) (stands_now name is))))

  pub said_so : (t : Exporter) → Took s m t → AreCalls t.phase (cs ++ filter is_call (sends_in t.out)) → Said t
  said_so t (answers_it name caller is one asks made) after = answer_said t name caller is one asks (ap (λ (y : Exporter). y.out) made)
  said_so t (heeds_it name is four made) after =
      said_of t (heard_after s.heard m).told []
      (ap (λ (y : Exporter). y.out) made ∙ at_empty (heard_after s.heard m).told ∙ ap (numbered s.next) (sym (append-nil (heard_after s.heard m).told))) (heard_told s.heard m).listeners
      (words_by false false (no_return 4 four refl) (answers_none front a s m i 4 four refl))
  said_so t (ignores_it other asks waits made) after = said_of t [] [] (ap (λ (y : Exporter). y.out) made ∙ i.empty) tt (none_due waits (nobody_asks front a s m i asks))
  said_so t (starts_on call n at two reply made) after = goes_said t call n at two reply made after
  said_so t (ends_so call n at three reply made) after = said_of t [] [] (ap (λ (y : Exporter). y.out) made ∙ i.empty) tt (words_by false false (no_return 3 three refl) (answers_none front a s m i 3 three refl))
