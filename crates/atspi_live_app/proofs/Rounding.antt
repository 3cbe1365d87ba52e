-- The calls of a run, round by round, with what is in turn in each.
use Rattle.std.proofs.Common.{◌≡◌, ◌<◌, ◌≤◌, ℕ, zero, suc, ◌+◌, ◌-◌, List, [], ◌++◌, length, take, Option, None, Some, refl, sym, ap, subst, ◌∙◌, inl, inr, append_assoc, append-nil, length-append, take_at, arith}
use Rattle.std.proofs.lemmas.List.{take-append-le}
use Rattle.atspi_live_host.specs.declared.call.Did.{Did}
use Rattle.atspi_live_host.specs.declared.call.Did.TheVariants.{Failed}
use Rattle.atspi_live_host.specs.declared.call.Call.{Call}
use Rattle.atspi_live_host.specs.Calls.{taken, given}
use Rattle.atspi_live_conversation.specs.Moved.{Tells, reads}
use Rattle.atspi_live_conversation.specs.Rounds.{AreRounds, Breaks, IsRound, IsWrite, Makes, WritesIfDue}
use Rattle.atspi_live_conversation.specs.Speech.{IsAllGiven}
use Rattle.atspi_live_conversation.specs.declared.ending.Ending.{Ending}
use Rattle.atspi_live_conversation.specs.declared.ending.Ending.TheVariants as endings
use Rattle.atspi_live_conversation.proofs.MovedLemmas.{given_append, taken_append}
use Rattle.atspi_live_conversation.proofs.RoundLemmas.{makes_if, none_wait}
use Rattle.atspi_live_app.specs.Lines.{lines_of}
use Rattle.atspi_live_app.specs.Live.{IsMarked}
use Rattle.atspi_live_app.specs.Pace.{BreaksOver, EndsTurn, IsPaced, StopsAt}
use Rattle.atspi_live_app.specs.Rounds.{IsAfterReads, RunsPaced}
use Rattle.atspi_live_app.specs.Standing.{Event, IsAfter, IsEmpty}
use Rattle.atspi_live_app.specs.Turns.{IsInTurn, pieces}
use Rattle.atspi_live_app.specs.declared.live_app.Stop.{Stop}
use Rattle.atspi_live_app.specs.declared.over.Over.{Over}
use Rattle.atspi_live_app.specs.declared.over.Over.TheVariants as overs
use Rattle.atspi_live_app.proofs.Ordering.{Leads, speech_in}
use Rattle.atspi_live_app.proofs.Pacing.{Paced, is_paced, paced_more, stops_at}
use Rattle.atspi_live_app.proofs.Pieces.{ReadsOne, broken_one, count_pieces, has_broken, pieces_both, round_one, round_took, write_took}
use Rattle.atspi_live_app.proofs.Turns.{in_turn}

-- the calls of a round in the one order are such in the other
all_given_in : (P Q : List Event → List (List ℕ) → Type 0) (lines : List (List ℕ)) (t g : List ℕ) → Leads P Q lines t → IsAllGiven (IsAfter P lines) IsEmpty t g → IsAllGiven (IsAfter Q lines) IsEmpty t g
all_given_in P Q lines t g f a = record { speech = speech_in P Q lines t g f a.speech; awaits = a.awaits; none_left = a.none_left; no_more = a.no_more }

write_in : (P Q : List Event → List (List ℕ) → Type 0) (lines : List (List ℕ)) (k : ℕ) (t g : List ℕ) (did : Did) (calls : List Call) → Leads P Q lines t → IsWrite (IsAfter P lines) k t g did calls → IsWrite (IsAfter Q lines) k t g did calls
write_in P Q lines k t g did calls f w = (w.0, w.1, w.2, speech_in P Q lines t (g ++ w.0) f w.3, w.4)

due_in : (P Q : List Event → List (List ℕ) → Type 0) (lines : List (List ℕ)) (k : ℕ) (t g : List ℕ) (calls : List Call) → Leads P Q lines t → WritesIfDue (IsAfter P lines) IsEmpty k t g calls → WritesIfDue (IsAfter Q lines) IsEmpty k t g calls
due_in P Q lines k t g calls f (inl w) = inl (w.0, all_given_in P Q lines t g f w.1)
due_in P Q lines k t g calls f (inr w) = inr (w.0, w.1, write_in P Q lines k t g w.0 calls f w.2)

round_in : (P Q : List Event → List (List ℕ) → Type 0) (lines : List (List ℕ)) (k most : ℕ) (t g : List ℕ) (calls : List Call) → Leads P Q lines (t ++ taken k calls) → IsRound (IsAfter P lines) IsEmpty k most t g calls
    → IsRound (IsAfter Q lines) IsEmpty k most t g calls
round_in P Q lines k most t g calls f r =
    let same : Leads P Q lines (t ++ taken k r.0) = subst (λ (w : List ℕ). Leads P Q lines (t ++ w)) (round_took P lines k most t g calls r) f in
    (r.0, r.1, r.2, due_in P Q lines k (t ++ taken k r.0) g r.1 same r.3, r.4)

breaks_in : (P Q : List Event → List (List ℕ) → Type 0) (lines : List (List ℕ)) (k most : ℕ) (ending : Ending) (t g : List ℕ) (calls : List Call) → Leads P Q lines (t ++ taken k calls) → Breaks (IsAfter P lines) IsEmpty k most ending t g calls
    → Breaks (IsAfter Q lines) IsEmpty k most ending t g calls
breaks_in P Q lines k most endings.RoundsDone t g calls f b = b
breaks_in P Q lines k most endings.PeerEnded t g calls f b = b
breaks_in P Q lines k most endings.HostFailed t g calls f (inl b) = inl b
breaks_in P Q lines k most endings.HostFailed t g calls f (inr b) =
    let same : Leads P Q lines (t ++ taken k b.0) = subst (λ (w : List ℕ). Leads P Q lines (t ++ w)) (write_took P lines k (t ++ taken k b.0) g Failed calls b.0 b.1 b.3 b.4) f in
    inr (b.0, b.1, b.2, write_in P Q lines k (t ++ taken k b.0) g Failed b.1 same b.3, b.4)
breaks_in P Q lines k most endings.NotAuthenticated t g calls f b = b
breaks_in P Q lines k most (endings.Malformed start fault) t g calls f b = b
breaks_in P Q lines k most endings.Spent t g calls f b = b
breaks_in P Q lines k most endings.NoMemory t g calls f (inl b) = inl b
breaks_in P Q lines k most endings.NoMemory t g calls f (inr b) = inr (round_in P Q lines k most t g calls f b)

-- what the reads took before stays, whatever is read behind them
rounds_on : (lines : List (List ℕ)) (k n : ℕ) (reads more : List (List ℕ)) (calls : List Call) → n ≤ length reads → AreRounds (λ (b : ℕ). IsAfter (IsInTurn (take b reads)) lines) IsEmpty k 4096 n calls
    → AreRounds (λ (b : ℕ). IsAfter (IsInTurn (take b (reads ++ more))) lines) IsEmpty k 4096 n calls
rounds_on lines k zero reads more calls few a = a
rounds_on lines k (suc n) reads more calls few a = (
  a.0,
  a.1,
  rounds_on lines k n reads more a.0 (omega (arith, few)) a.2,
  subst (λ (w : List (List ℕ)). IsRound (IsAfter (IsInTurn w) lines) IsEmpty k 4096 (taken k a.0) (given k a.0) a.1) (sym (take-append-le (suc n) reads more few)) a.3,
  a.4,
)

-- so many whole rounds, each in turn by what the reads till then took
abbrev pub TurnRounds : List (List ℕ) → ℕ → ℕ → List Call → Type 0
TurnRounds lines k n calls = AreRounds (IsAfterReads k lines calls) IsEmpty k 4096 n calls

rounds_before : (lines : List (List ℕ)) (k n : ℕ) (xs ys : List Call) → length (pieces k xs) ≡ n → TurnRounds lines k n xs → AreRounds (IsAfterReads k lines (xs ++ ys)) IsEmpty k 4096 n xs
rounds_before lines k n xs ys count a =
    subst (λ (w : List (List ℕ)). AreRounds (λ (b : ℕ). IsAfter (IsInTurn (take b w)) lines) IsEmpty k 4096 n xs) (sym (pieces_both k xs ys)) (rounds_on lines k n (pieces k xs) (pieces k ys) xs (omega (arith, count)) a)

-- calls behind others that had nothing to do with a link, of which so many are its reads, and then some by which it is read once
record Behind (text : List ℕ) (k n : ℕ) (xs ys : List Call) (t g marks : List ℕ) : Type 0 where
  took : t ≡ taken k xs
  gave : g ≡ given k xs
  count : length (pieces k xs) ≡ n
  leads : Leads (IsMarked marks) (IsInTurn (take (suc n) (pieces k (xs ++ ys)))) (lines_of text) (t ++ taken k ys)

none_read : (k : ℕ) (cs : List Call) → reads k cs ≡ [] → pieces k cs ≡ []
none_read k cs none = none_wait (pieces k cs) (length (pieces k cs)) refl (omega (arith, count_pieces k cs, ap (λ (w : List Did). length w) none))

all_of : (reads : List (List ℕ)) (n : ℕ) → length reads ≡ n → take n reads ≡ reads
all_of reads n e = ap (take n) (sym (append-nil reads)) ∙ take_at reads [] n e

behind : (text : List ℕ) (place n takes k : ℕ) (bs cs ds xs ys : List Call) (t g marks : List ℕ) (dids : List Did) → Tells k (Some bs) [] [] [] → Tells k (Some cs) t g dids → Paced text place (n + 1) takes k (Some ds) marks → ReadsOne k ys → cs ≡ bs ++ xs → ds ≡ cs ++ ys
    → Behind text k n xs ys t g marks
behind text place n takes k bs cs ds xs ys t g marks dids fresh told p one e f =
    let all : pieces k ds ≡ pieces k (xs ++ ys) =
    ap (pieces k) (f ∙ ap (λ (w : List Call). w ++ ys) e ∙ append_assoc bs xs ys) ∙ pieces_both k bs (xs ++ ys) ∙ ap (λ (w : List (List ℕ)). w ++ pieces k (xs ++ ys)) (none_read k bs fresh.2) in
    let whole : take (suc n) (pieces k (xs ++ ys)) ≡ pieces k (xs ++ ys) = all_of (pieces k (xs ++ ys)) (suc n) (omega (arith, p.heard.0, ap (λ (w : List (List ℕ)). length w) all)) in
    let here : taken k ds ≡ t ++ taken k ys = ap (taken k) f ∙ taken_append k cs ys ∙ ap (λ (w : List ℕ). w ++ taken k ys) told.0 in
    record {
      took = sym told.0 ∙ ap (taken k) e ∙ taken_append k bs xs ∙ ap (λ (w : List ℕ). w ++ taken k xs) fresh.0;
      gave = sym told.1 ∙ ap (given k) e ∙ given_append k bs xs ∙ ap (λ (w : List ℕ). w ++ given k xs) fresh.1;
      count = omega (
        arith,
        p.heard.0,
        ap (λ (w : List (List ℕ)). length w) all,
        ap (λ (w : List (List ℕ)). length w) (pieces_both k xs ys),
        length-append (pieces k xs) (pieces k ys),
        ap (λ (w : List (List ℕ)). length w) one.1,
      );
      leads = subst (λ (w : List (List ℕ)). Leads (IsMarked marks) (IsInTurn w) (lines_of text) (t ++ taken k ys)) (all ∙ sym whole)
          (subst (λ (w : List ℕ). Leads (IsMarked marks) (IsInTurn (pieces k ds)) (lines_of text) w) here (in_turn text place (n + 1) takes k ds marks p));
    }

-- before the first round
pub rounds_first : (lines : List (List ℕ)) (k : ℕ) → TurnRounds lines k 0 []
rounds_first lines k = refl

-- one more whole round
one_round : (text : List ℕ) (k n : ℕ) (xs ys : List Call) (t g marks : List ℕ) → Behind text k n xs ys t g marks → TurnRounds (lines_of text) k n xs → IsRound (IsAfter (IsMarked marks) (lines_of text)) IsEmpty k 4096 t g ys
    → TurnRounds (lines_of text) k (n + 1) (xs ++ ys)
one_round text k n xs ys t g marks b a r =
    let last = round_in (IsMarked marks) (IsInTurn (take (suc n) (pieces k (xs ++ ys)))) (lines_of text) k 4096 t g ys b.leads r in
    let last' : IsRound (IsAfter (IsInTurn (take (suc n) (pieces k (xs ++ ys)))) (lines_of text)) IsEmpty k 4096 (taken k xs) (given k xs) ys =
    subst (λ (w : List ℕ). IsRound (IsAfter (IsInTurn (take (suc n) (pieces k (xs ++ ys)))) (lines_of text)) IsEmpty k 4096 w (given k xs) ys) b.took
    (subst (λ (w : List ℕ). IsRound (IsAfter (IsInTurn (take (suc n) (pieces k (xs ++ ys)))) (lines_of text)) IsEmpty k 4096 t w ys) b.gave last) in
    subst (λ (m : ℕ). TurnRounds (lines_of text) k m (xs ++ ys)) (one_more n) (xs, ys, rounds_before (lines_of text) k n xs ys b.count a, last', refl)
  where
    one_more : (m : ℕ) → suc m ≡ m + 1
    one_more m = omega arith

pub rounds_turned : (text : List ℕ) (place n takes k : ℕ) (old mid new : Option (List Call)) (t g marks : List ℕ) (dids : List Did) → Tells k old [] [] [] → Tells k mid t g dids → Paced text place (n + 1) takes k new marks
    → Makes old mid (TurnRounds (lines_of text) k n) → Makes mid new (IsRound (IsAfter (IsMarked marks) (lines_of text)) IsEmpty k 4096 t g) → Makes old new (TurnRounds (lines_of text) k (n + 1))
rounds_turned text place n takes k old mid None t g marks dids fresh told p a r = tt
rounds_turned text place n takes k old None (Some ds) t g marks dids fresh told p a r = absurd r
rounds_turned text place n takes k None (Some cs) (Some ds) t g marks dids fresh told p a r = absurd a
rounds_turned text place n takes k (Some bs) (Some cs) (Some ds) t g marks dids fresh told p a r = (
  a.0 ++ r.0,
  one_round text k n a.0 r.0 t g marks (behind text place n takes k bs cs ds a.0 r.0 t g marks dids fresh told p (round_one (IsMarked marks) (lines_of text) k 4096 t g r.0 r.1) a.2 r.2) a.1 r.1,
  r.2 ∙ ap (λ (w : List Call). w ++ r.0) a.2 ∙ append_assoc bs a.0 r.0,
)

-- a run that was broken off in a round
ended_paced : (lines : List (List ℕ)) (k n rounds : ℕ) (ending : Ending) (xs ys : List Call) → n < rounds → IsPaced lines (n + 1) → AreRounds (IsAfterReads k lines (xs ++ ys)) IsEmpty k 4096 n xs
    → Breaks (IsAfterReads k lines (xs ++ ys) (suc n)) IsEmpty k 4096 ending (taken k xs) (given k xs) ys → RunsPaced lines k (overs.Ended ending) rounds (xs ++ ys)
ended_paced lines k n rounds endings.RoundsDone xs ys few p a b = absurd b
ended_paced lines k n rounds endings.PeerEnded xs ys few p a b = (record { whole = n; done = xs; last = ys; are = a; ends = (few, b); all = refl }, p)
ended_paced lines k n rounds endings.HostFailed xs ys few p a b = (record { whole = n; done = xs; last = ys; are = a; ends = (few, b); all = refl }, p)
ended_paced lines k n rounds endings.NotAuthenticated xs ys few p a b = (record { whole = n; done = xs; last = ys; are = a; ends = (few, b); all = refl }, p)
ended_paced lines k n rounds (endings.Malformed start fault) xs ys few p a b = (record { whole = n; done = xs; last = ys; are = a; ends = (few, b); all = refl }, p)
ended_paced lines k n rounds endings.Spent xs ys few p a b = (record { whole = n; done = xs; last = ys; are = a; ends = (few, b); all = refl }, p)
ended_paced lines k n rounds endings.NoMemory xs ys few p a b = (record { whole = n; done = xs; last = ys; are = a; ends = (few, b); all = refl }, p)

broken_paced : (text : List ℕ) (k n rounds : ℕ) (ending : Ending) (xs ys : List Call) (t g marks : List ℕ) → n < rounds → IsPaced (lines_of text) (n + 1) → Behind text k n xs ys t g marks → TurnRounds (lines_of text) k n xs
    → Breaks (IsAfter (IsMarked marks) (lines_of text)) IsEmpty k 4096 ending t g ys → RunsPaced (lines_of text) k (overs.Ended ending) rounds (xs ++ ys)
broken_paced text k n rounds ending xs ys t g marks few p b a r =
    let last = breaks_in (IsMarked marks) (IsInTurn (take (suc n) (pieces k (xs ++ ys)))) (lines_of text) k 4096 ending t g ys b.leads r in
    ended_paced (lines_of text) k n rounds ending xs ys few p (rounds_before (lines_of text) k n xs ys b.count a)
    (subst (λ (w : List ℕ). Breaks (IsAfterReads k (lines_of text) (xs ++ ys) (suc n)) IsEmpty k 4096 ending w (given k xs) ys) b.took
    (subst (λ (w : List ℕ). Breaks (IsAfterReads k (lines_of text) (xs ++ ys) (suc n)) IsEmpty k 4096 ending t w ys) b.gave last))

ended_turned : (text : List ℕ) (place n takes k rounds : ℕ) (ending : Ending) (old mid new : Option (List Call)) (t g marks : List ℕ) (dids : List Did) → n < rounds → Tells k old [] [] [] → Tells k mid t g dids → Paced text place (n + 1) takes k new marks
    → Makes old mid (TurnRounds (lines_of text) k n) → Makes mid new (Breaks (IsAfter (IsMarked marks) (lines_of text)) IsEmpty k 4096 ending t g) → Makes old new (RunsPaced (lines_of text) k (overs.Ended ending) rounds)
ended_turned text place n takes k rounds ending old mid None t g marks dids few fresh told p a r = tt
ended_turned text place n takes k rounds ending old None (Some ds) t g marks dids few fresh told p a r = absurd r
ended_turned text place n takes k rounds ending None (Some cs) (Some ds) t g marks dids few fresh told p a r = absurd a
ended_turned text place n takes k rounds ending (Some bs) (Some cs) (Some ds) t g marks dids few fresh told p a r = (
  a.0 ++ r.0,
  broken_paced text k n rounds ending a.0 r.0 t g marks few (is_paced text place (n + 1) takes k (Some ds) marks p)
      (behind text place n takes k bs cs ds a.0 r.0 t g marks dids fresh told p (broken_one (IsMarked marks) (lines_of text) k 4096 ending t g r.0 r.1) a.2 r.2) a.1 r.1,
  r.2 ∙ ap (λ (w : List Call). w ++ r.0) a.2 ∙ append_assoc bs a.0 r.0,
)

-- one that was stopped before a round
stopped_turned : (text : List ℕ) (n k rounds : ℕ) (stop : Stop) (old mid new : Option (List Call)) → n < rounds → StopsAt (lines_of text) n → Makes old mid (TurnRounds (lines_of text) k n) → Makes mid new (λ (calls : List Call). calls ≡ [])
    → Makes old new (RunsPaced (lines_of text) k (overs.Stopped stop) rounds)
stopped_turned text n k rounds stop old mid None few s a r = tt
stopped_turned text n k rounds stop old None (Some ds) few s a r = absurd r
stopped_turned text n k rounds stop None (Some cs) (Some ds) few s a r = absurd a
stopped_turned text n k rounds stop (Some bs) (Some cs) (Some ds) few s a r =
    (a.0, (n, few, a.1, s), r.2 ∙ ap (λ (w : List Call). cs ++ w) r.1 ∙ append-nil cs ∙ a.2)

pub over_turned : (text : List ℕ) (place n takes k rounds : ℕ) (over : Over) (old mid new : Option (List Call)) (t g marks marks' : List ℕ) (dids : List Did) → n < rounds → Tells k old [] [] [] → Tells k mid t g dids → Paced text place n takes k mid marks
    → EndsTurn text place marks takes k mid over marks' → Makes old mid (TurnRounds (lines_of text) k n) → Makes mid new (BreaksOver (IsMarked marks') (lines_of text) k 4096 over t g) → Makes old new (RunsPaced (lines_of text) k over rounds)
over_turned text place n takes k rounds (overs.Ended ending) old mid new t g marks marks' dids few fresh told p e a b =
    ended_turned text e.1 n (e.0 - 1) k rounds ending old mid new t g marks' dids few fresh told
    (paced_more text place n takes e.0 e.1 k e.2 mid new marks marks' p (has_broken (IsMarked marks') (lines_of text) k 4096 ending t g mid new b) e.4 e.3) a b
over_turned text place n takes k rounds (overs.Stopped stop) old mid new t g marks marks' dids few fresh told p e a b = stopped_turned text n k rounds stop old mid new few (stops_at text place n takes k mid marks p e.0) a b

-- one whose rounds were all done
pub done_turned : (text : List ℕ) (place n takes k rounds : ℕ) (old new : Option (List Call)) (marks : List ℕ) → n ≡ rounds → Paced text place n takes k new marks → Makes old new (TurnRounds (lines_of text) k n)
    → Makes old new (RunsPaced (lines_of text) k (overs.Ended endings.RoundsDone) rounds)
done_turned text place n takes k rounds old new marks e p a =
    makes_if old new (TurnRounds (lines_of text) k n) (RunsPaced (lines_of text) k (overs.Ended endings.RoundsDone) rounds)
    (λ calls r. (record { whole = n; done = calls; last = []; are = r; ends = (e, refl); all = sym (append-nil calls) }, is_paced text place n takes k new marks p)) a
