use Rattle.std.proofs.Common.{◌≡◌, ◌<◌, ◌≤◌, List, ℕ, zero, suc, [], ◌∷◌, ◌++◌, length, Some, refl, sym, ap, subst, ◌∙◌, inl, arith, lit<}
use Rattle.std.specs.Prelude.{codes}
use Rattle.atspi_live_host.specs.declared.call.Call.{Call}
use Rattle.atspi_live_host.specs.declared.call.Call.TheVariants.{Connect, Read, Write}
use Rattle.atspi_live_host.specs.declared.call.Did.{Did}
use Rattle.atspi_live_host.specs.declared.call.Did.TheVariants.{Done, End, Failed, NotYet}
use Rattle.atspi_stream.specs.Stream.{few}
use Rattle.atspi_live_conversation.specs.Rounds.{AreRounds, IsRun}
use Rattle.atspi_live_conversation.specs.Speech.{Ends}
use Rattle.atspi_live_conversation.specs.declared.ending.Ending.{Ending}
use Rattle.atspi_live_conversation.specs.declared.ending.Ending.TheVariants as endings
use Rattle.atspi_live_reader.specs.Runs.{AreLast}
use Rattle.atspi_live_reader.specs.Spoken.{IsAfter, IsEmpty, IsSpent}
use Rattle.atspi_live_examples.specs.reader.Started.{hail}
use Rattle.atspi_live_examples.proofs.OfReader.Started.{first_is, none_first, tail_is}
use Rattle.atspi_live_examples.proofs.OfReader.FirstRounds.{few_read, host_failed, in_order, no_status, none_made, not_authenticated, nothing_spoken, one_round, peer_ended, read_opens}
use Rattle.atspi_live_examples.proofs.reader.runs.ended_runs.Goals as goal

pub returns-clause-peer : goal.returns-clause-peer
returns-clause-peer c = record {
  ending = endings.PeerEnded;
  ends = (in_order, (NotYet ∷ [], refl, (tt, tt)));
  run = (
    Read 0 [] NotYet ∷ Write 0 hail (Done 16) ∷ Read 0 [] End ∷ [],
    record { whole = 1; done = Read 0 [] NotYet ∷ Write 0 hail (Done 16) ∷ []; last = Read 0 [] End ∷ []; are = one_round; ends = (lit< tt, refl); all = refl },
    refl,
  );
  words = [];
  last = record { messages = []; rest = []; parted = record { are = tt; parted = none_first }; awaits = few (lit< tt); all = refl };
  reports = inl (refl, refl);
}

pub returns-clause-failed : goal.returns-clause-failed
returns-clause-failed c = record {
  ending = endings.HostFailed;
  ends = in_order;
  run = (Read 0 [] Failed ∷ [], record { whole = 0; done = []; last = Read 0 [] Failed ∷ []; are = refl; ends = (lit< tt, inl refl); all = refl }, refl);
  words = [];
  last = record { messages = []; rest = []; parted = record { are = tt; parted = none_first }; awaits = few (lit< tt); all = refl };
  reports = inl (refl, refl);
}

pub returns-clause-all_done : goal.returns-clause-all_done
returns-clause-all_done c = record {
  ending = endings.RoundsDone;
  ends = (in_order, (tt, tt), refl);
  run = (
    Read 0 [] NotYet ∷ Write 0 hail (Done 16) ∷ [],
    record { whole = 1; done = Read 0 [] NotYet ∷ Write 0 hail (Done 16) ∷ []; last = []; are = one_round; ends = (refl, refl); all = refl },
    refl,
  );
  words = [];
  last = record { messages = []; rest = []; parted = record { are = tt; parted = none_first }; awaits = few (lit< tt); all = refl };
  reports = inl (refl, refl);
}

pub returns-clause-words : goal.returns-clause-words
returns-clause-words c calls ends run all = record { ending = endings.HostFailed; ends = ends; run = (calls, run, refl); words = codes "b"; last = all; reports = inl (refl, refl) }

pub returns-clause-untold : goal.returns-clause-untold
returns-clause-untold c = record { ending = endings.PeerEnded; ends = tt; run = tt; words = codes "b"; last = tt; reports = inl (refl, refl) }

-- where no round was whole, the calls are those of the one in which the run ended
none_whole : (n : ℕ) (done : List Call) → n < 1 → AreRounds (λ _. IsAfter) IsEmpty 0 4096 n done → done ≡ []
none_whole zero done below a = a
none_whole (suc n) done below a = absurd (omega (arith, below))

pub returns-clause-most_read : goal.returns-clause-most_read
returns-clause-most_read c t h =
    by (subst (λ (e : Ending). IsRun (λ _. IsAfter) IsEmpty 0 4096 e 1 h.run.0) (not_authenticated h.words h.ending (Some []) (Some []) h.reports) h.run.1)
  where
    behind : {d : Call} {xs ys : List Call} → d ∷ xs ≡ d ∷ ys → ys ≡ xs
    behind h = cc

    by : IsRun (λ _. IsAfter) IsEmpty 0 4096 endings.NotAuthenticated 1 h.run.0 → length t ≤ 4096
    by r =
        let none = none_whole r.whole r.done r.ends.0 r.are in
        let o = read_opens 0 4096 r.last r.ends.1 in
        few_read 0 4096 [] t (Done 4096) (o.0, o.1, o.2, o.3, o.4, sym (behind h.run.2) ∙ r.all ∙ ap (λ (w : List Call). w ++ r.last) none ∙ o.5)

pub returns-clause-not_connected : goal.returns-clause-not_connected
returns-clause-not_connected c h = by h.run.0 h.run.2
  where
    by : (calls : List Call) → Read 0 [] Failed ∷ [] ≡ Connect (codes "/p") (Done 0) ∷ calls → ⊥
    by calls h = cc

pub returns-clause-other_path : goal.returns-clause-other_path
returns-clause-other_path c h = by (first_is (tail_is (path_is h.run.2)))
  where
    path_is : {p q : List ℕ} {d e : Did} {xs ys : List Call} → Connect p d ∷ xs ≡ Connect q e ∷ ys → p ≡ q
    path_is h = cc

    by : ◌≡◌ {A = ℕ} 112 113 → ⊥
    by h = omega (arith, h)

pub returns-clause-other_link : goal.returns-clause-other_link
returns-clause-other_link c h = by h.run.0 h.run.2
  where
    by : (calls : List Call) → Connect (codes "/p") (Done 1) ∷ Read 0 [] Failed ∷ [] ≡ Connect (codes "/p") (Done 0) ∷ calls → ⊥
    by calls h = cc

-- the calls behind the first
behind_first : {d : Call} {xs ys : List Call} → d ∷ xs ≡ d ∷ ys → ys ≡ xs
behind_first h = cc

pub returns-clause-no_call : goal.returns-clause-no_call
returns-clause-no_call c h = omega (arith, (none_made 0 4096 1 h.ending (subst (λ (cs : List Call). IsRun (λ _. IsAfter) IsEmpty 0 4096 h.ending 1 cs) (behind_first h.run.2) h.run.1)).1)

pub returns-clause-no_round : goal.returns-clause-no_round
returns-clause-no_round c h = by (subst (λ (e : Ending). IsRun (λ _. IsAfter) IsEmpty 0 4096 e 0 h.run.0) (host_failed h.words h.ending (Some []) (Some []) h.reports).0 h.run.1)
  where
    by : IsRun (λ _. IsAfter) IsEmpty 0 4096 endings.HostFailed 0 h.run.0 → ⊥
    by r = omega (arith, r.ends.0)

pub returns-clause-not_failed : goal.returns-clause-not_failed
returns-clause-not_failed c h =
    by (subst (λ (e : Ending). Ends IsAfter IsSpent 0 e 1 (Some (Connect (codes "/p") (Done 0) ∷ Read 0 [] Failed ∷ []))) (peer_ended h.words h.ending (Some []) (Some []) h.reports) h.ends)
  where
    none : (before : List Did) → Failed ∷ [] ≡ before ++ End ∷ [] → ⊥
    none [] h = cc
    none (d ∷ []) h = cc
    none (d ∷ e ∷ before) h = cc

    by : Ends IsAfter IsSpent 0 endings.PeerEnded 1 (Some (Connect (codes "/p") (Done 0) ∷ Read 0 [] Failed ∷ [])) → ⊥
    by e = none e.1.0 e.1.1

-- of nothing that was taken nothing is spoken
all_words : (spoken words : List ℕ) (ending : Ending) → ending ≡ endings.HostFailed → AreLast 0 (Some (Connect (codes "/p") (Done 0) ∷ Read 0 [] Failed ∷ [])) spoken words ending → spoken ++ words ≡ []
all_words spoken words ending is last = nothing_spoken (spoken ++ words) (subst (λ (e : Ending). AreLast 0 (Some (Connect (codes "/p") (Done 0) ∷ Read 0 [] Failed ∷ [])) spoken words e) is last)

pub returns-clause-not_spoken : goal.returns-clause-not_spoken
returns-clause-not_spoken c h = by h.words (all_words (codes "s") h.words h.ending (host_failed h.words h.ending (Some []) (Some []) h.reports).0 h.last)
  where
    by : (words : List ℕ) → codes "s" ++ words ≡ [] → ⊥
    by words h = cc

pub returns-clause-other_words : goal.returns-clause-other_words
returns-clause-other_words c h =
    let r = host_failed h.words h.ending (Some []) (Some (codes "s")) h.reports in
    by h.words r.1 (all_words [] h.words h.ending r.0 h.last)
  where
    by : (words : List ℕ) → codes "s" ≡ words → words ≡ [] → ⊥
    by words h none = cc

pub returns-clause-other_status : goal.returns-clause-other_status
returns-clause-other_status c h = no_status h.words h.ending (Some []) (Some []) h.reports
