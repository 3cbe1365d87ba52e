use Rattle.std.proofs.Common.{◌≡◌, ◌⊎◌, List, ℕ, [], ◌∷◌, ◌++◌, Option, None, Some, refl, ap, subst, ◌∙◌, inl, inr, append_assoc, arith, lit<, lit≤}
use Rattle.std.specs.Prelude.{codes}
use Rattle.std.specs.Io.KnownBytes.{Appends}
use Rattle.atspi_live_host.specs.declared.call.Call.{Call}
use Rattle.atspi_live_host.specs.declared.call.Call.TheVariants.{Connect, Read}
use Rattle.atspi_live_host.specs.declared.call.Did.TheVariants.{Done, Failed}
use Rattle.atspi_stream.specs.Stream.{few}
use Rattle.atspi_live_conversation.specs.Rounds.{IsRun}
use Rattle.atspi_live_conversation.specs.declared.ending.Ending.TheVariants as endings
use Rattle.atspi_live_reader.specs.Runs.{EndsOn, EndsSo, IsCutOff}
use Rattle.atspi_live_reader.specs.Spoken.{IsAfter, IsEmpty, IsSpoken}
use Rattle.atspi_live_examples.specs.reader.Started.{hello}
use Rattle.atspi_live_examples.proofs.OfReader.Started.{first_is, none_first, none_spoken}
use Rattle.atspi_live_examples.proofs.OfReader.FirstRounds.{in_order, no_status, none_made, reported}
use Rattle.atspi_protocol.specs.following.ReaderState.{sends}
use Rattle.atspi_live_examples.proofs.reader.runs.runs_on_links.Goals as goal

nothing : IsSpoken [] []
nothing = record { messages = []; rest = []; parted = record { are = tt; parted = none_first }; done = []; more = sends hello ∷ []; all = refl; left = []; front = refl }

pub returns-clause-ended : goal.returns-clause-ended
returns-clause-ended c = record {
  spoken = codes "b";
  speaks_up = tt;
  mid = Some (codes "ab");
  wrote = refl;
  so = inl (record { ending = endings.PeerEnded; ends = tt; run = tt; words = codes "c"; last = tt; reports = inl (refl, refl) });
}

pub returns-clause-failed : goal.returns-clause-failed
returns-clause-failed c = record {
  spoken = [];
  speaks_up = nothing;
  mid = Some (codes "a");
  wrote = refl;
  so = inl
      (record {
        ending = endings.HostFailed;
        ends = in_order;
        run = (Read 0 [] Failed ∷ [], record { whole = 0; done = []; last = Read 0 [] Failed ∷ []; are = refl; ends = (lit< tt, inl refl); all = refl }, refl);
        words = [];
        last = record { messages = []; rest = []; parted = record { are = tt; parted = none_first }; awaits = few (lit< tt); all = refl };
        reports = inl (refl, refl);
      });
}

cut_off : IsCutOff (codes "/p") 0 4 5 (Some (Connect (codes "/p") (Done 0) ∷ [])) (Some (codes "a")) (Some (codes "a"))
cut_off = record { status_is = refl; none = refl; run = ([], (0, lit≤ tt, refl), refl) }

ends_on : EndsOn (codes "/p") 0 4 5 (Some (Connect (codes "/p") (Done 0) ∷ [])) (Some (codes "a")) (Some (codes "a"))
ends_on = record { spoken = []; speaks_up = nothing; mid = Some (codes "a"); wrote = refl; so = inr cut_off }

pub returns-clause-cut : goal.returns-clause-cut
returns-clause-cut c = ends_on

pub returns-clause-cut_behind : goal.returns-clause-cut_behind
returns-clause-cut_behind c = record { spoken = codes "b"; speaks_up = tt; mid = Some (codes "ab"); wrote = refl; so = inr (record { status_is = refl; none = refl; run = tt }) }

-- the calls behind the first
behind_first : {d : Call} {xs ys : List Call} → d ∷ xs ≡ d ∷ ys → ys ≡ xs
behind_first h = cc

-- a link on which no call was made behind the connection ended in none of five rounds
no_end : (spoken : List ℕ) (w v : Option (List ℕ)) → EndsSo (codes "/p") 0 4 5 spoken (Some (Connect (codes "/p") (Done 0) ∷ [])) w v → ⊥
no_end spoken w v h = omega (arith, (none_made 0 4096 5 h.ending (subst (λ (cs : List Call). IsRun (λ _. IsAfter) IsEmpty 0 4096 h.ending 5 cs) (behind_first h.run.2) h.run.1)).1)

pub returns-clause-words : goal.returns-clause-words
returns-clause-words c cs spoken so = record { spoken = codes "a"; speaks_up = spoken; mid = Some (codes "a"); wrote = refl; so = inl so }

pub returns-clause-words_cut : goal.returns-clause-words_cut
returns-clause-words_cut c cs spoken so = record { spoken = codes "a"; speaks_up = spoken; mid = Some (codes "a"); wrote = refl; so = inr so }

pub returns-clause-too_soon : goal.returns-clause-too_soon
returns-clause-too_soon c h = by h.spoken h.mid (none_spoken [] h.spoken none_first h.speaks_up) h.wrote h.so
  where
    by : (spoken : List ℕ) (mid : Option (List ℕ)) → spoken ≡ [] → Appends (Some []) mid spoken
        → EndsSo (codes "/p") 0 4 5 spoken (Some (Connect (codes "/p") (Done 0) ∷ [])) mid (Some (codes "s")) ⊎ IsCutOff (codes "/p") 0 4 5 (Some (Connect (codes "/p") (Done 0) ∷ [])) mid (Some (codes "s")) → ⊥
    by spoken None none wrote so = wrote
    by spoken (Some m) none wrote (inl so) = no_end spoken (Some m) (Some (codes "s")) so
    by spoken (Some m) none wrote (inr so) =
        let same : Some (codes "s") ≡ Some m = so.none in
        let is : m ≡ spoken = wrote in cc

pub returns-clause-other : goal.returns-clause-other
returns-clause-other c h = by h.spoken h.mid h.wrote h.so
  where
    differ : ◌≡◌ {A = ℕ} 98 97 → ⊥
    differ h = omega (arith, h)

    never : {x : List ℕ} → codes "b" ≡ codes "a" ++ x → ⊥
    never h = differ (first_is h)

    some_is : {v w : List ℕ} → Some v ≡ Some w → v ≡ w
    some_is h = cc

    by : (spoken : List ℕ) (mid : Option (List ℕ)) → Appends (Some (codes "a")) mid spoken → EndsSo (codes "/p") 0 4 5 spoken None mid (Some (codes "b")) ⊎ IsCutOff (codes "/p") 0 4 5 None mid (Some (codes "b")) → ⊥
    by spoken None wrote so = wrote
    by spoken (Some m) wrote (inl so) =
        let r = reported so.words so.ending 4 m (codes "b") so.reports in
        never {x = spoken ++ r.0} (r.1 ∙ ap (λ (w : List ℕ). w ++ r.0) wrote ∙ append_assoc (codes "a") spoken r.0)
    by spoken (Some m) wrote (inr so) = never {x = spoken} (some_is so.none ∙ wrote)

pub returns-clause-other_status : goal.returns-clause-other_status
returns-clause-other_status c h = by h.spoken h.mid h.so
  where
    by : (spoken : List ℕ) (mid : Option (List ℕ)) → EndsSo (codes "/p") 0 1 5 spoken None mid (Some []) ⊎ IsCutOff (codes "/p") 0 1 5 None mid (Some []) → ⊥
    by spoken mid (inl so) = no_status so.words so.ending mid (Some []) so.reports
    by spoken mid (inr so) = omega (arith, so.status_is)

pub returns-clause-one_link : goal.returns-clause-one_link
returns-clause-one_link c = (ends_on, refl)

pub returns-clause-any_run : goal.returns-clause-any_run
returns-clause-any_run c calls e = (e, refl)

pub returns-clause-other_link : goal.returns-clause-other_link
returns-clause-other_link c h = by h.0.spoken h.0.mid h.0.so
  where
    other : {calls : List Call} → Connect (codes "/p") (Done 0) ∷ [] ≡ Connect (codes "/p") (Done 1) ∷ calls → ⊥
    other h = cc

    by : (spoken : List ℕ) (mid : Option (List ℕ))
        → EndsSo (codes "/p") 1 4 5 spoken (Some (Connect (codes "/p") (Done 0) ∷ [])) mid (Some []) ⊎ IsCutOff (codes "/p") 1 4 5 (Some (Connect (codes "/p") (Done 0) ∷ [])) mid (Some []) → ⊥
    by spoken mid (inl so) = other {calls = so.run.0} so.run.2
    by spoken mid (inr so) = other {calls = so.run.0} so.run.2

pub returns-clause-two_links : goal.returns-clause-two_links
returns-clause-two_links c h = by h.1
  where
    by : {x : ℕ} {xs : List ℕ} → x ∷ xs ≡ [] → ⊥
    by h = cc

pub returns-clause-none_given : goal.returns-clause-none_given
returns-clause-none_given c = (inl refl, refl)

pub returns-clause-none_given_other : goal.returns-clause-none_given_other
returns-clause-none_given_other c h = by h.0
  where
    by : (◌≡◌ {A = ℕ} 8 7) ⊎ (◌≡◌ {A = ℕ} 8 5) → ⊥
    by (inl h) = omega (arith, h)
    by (inr h) = omega (arith, h)

pub returns-clause-none_given_wrote : goal.returns-clause-none_given_wrote
returns-clause-none_given_wrote c h = by h.1
  where
    by : {b : ℕ} {bytes : List ℕ} → Some (b ∷ bytes) ≡ Some [] → ⊥
    by h = cc

pub returns-clause-wanting : goal.returns-clause-wanting
returns-clause-wanting c = (inr refl, refl)
