use Rattle.std.proofs.Common.{ℕ, inl, inr, map, string_bytes, refl, subst, sym, ◌∙◌}
use Rattle.atspi_run_live.specs.Complete.{PeerDoes}
use Rattle.atspi_run_live.specs.declared.words.Service.TheVariants as services
use Rattle.atspi_run_replay.proofs.Completing.{ends_full, ends_well}
use Rattle.atspi_run.specs.declared.words.Task.TheVariants.{Replay, Make}
use Rattle.atspi_run.proofs.CommandLemmas.{causes_of_check, causes_of_hit, check_is_not_2, hit_is_not_2}
use Rattle.atspi_run.proofs.LiveLemmas.{not_check_and_live, not_hit_and_live, not_task_and_live, not_told_and_live, path_of}
use Rattle.atspi_run_live.proofs.OfServing.{serving_is_not_2}
use Rattle.atspi_run_live.proofs.OfWords.{same_live}
use Rattle.atspi_run.proofs.MakeLemmas.{makes_well}
use Rattle.atspi_run.proofs.TaskLemmas.{may_do, not_make, not_replay, task_is_command, task_is_not_2, task_is_not_check, task_is_not_hit, task_is_not_told, task_made, task_replayed}
use Rattle.atspi_run.proofs.WordLemmas.{check_is_not_told, hit_is_not_told, no_command, not_check_and_hit, not_if, not_make_and_check, not_make_and_hit, not_replay_and_check, not_replay_and_hit}
use Rattle.atspi_run.proofs.commands.run.Goals as goal

pub do_task-requires : goal.do_task-requires
do_task-requires g c = record { may = may_do (map string_bytes c.args.words.now) c.in-Some.task c.in-Some.ensures }

pub returns-in-Some : goal.returns-in-Some
returns-in-Some g c =
    let words = map string_bytes c.args.words.now in
    let task = c.in-Some.task in
    let is = c.in-Some.ensures in
    let did = c.do_task.ensures.does in
    record {
      replayed = task_replayed words task _ _ _ _ _ is did;
      made = task_made words task _ _ _ _ _ is did;
      checked = λ also. absurd (task_is_not_check words task is also);
      hit = λ also. absurd (task_is_not_hit words task is also);
      bus = λ path rounds also. absurd (not_task_and_live words task services.Bus path rounds is also);
      registry = λ path rounds also. absurd (not_task_and_live words task services.Registry path rounds is also);
      app = λ path rounds also. absurd (not_task_and_live words task services.App path rounds is also);
      read = λ path rounds also. absurd (not_task_and_live words task services.Read path rounds is also);
      uncalled = λ none. refl;
      told = λ text asks. absurd (task_is_not_told words task text is asks);
      usage = λ none. absurd (none (task_is_command words task is));
      words = λ two command. task_is_not_2 task _ _ _ _ _ did two;
      causes = c.do_task.ensures.causes;
      complete = λ options also unread unwritten.
          ends_well options _ _ _ _ _ _ _ _ _ _ (task_replayed words task _ _ _ _ _ is did options also) c.do_task.ensures.causes unread unwritten;
      full = λ options also unread unwritten.
          ends_full options _ _ _ _ _ _ _ _ _ _ (task_replayed words task _ _ _ _ _ is did options also) c.do_task.ensures.causes unread unwritten;
      check_complete = λ also. absurd (task_is_not_check words task is also);
      make_complete = λ count seed also unfailed.
          makes_well count seed _ _ _ _ _ _ _ (task_made words task _ _ _ _ _ is did count seed also) c.do_task.ensures.causes unfailed;
      bus_complete = λ path rounds also. absurd (not_task_and_live words task services.Bus path rounds is also);
      end_complete = λ service path rounds also. absurd (not_task_and_live words task service path rounds is also);
    }

pub returns-then-is_alone : goal.returns-then-is_alone
returns-then-is_alone g c =
    let words = map string_bytes c.args.words.now in
    let is = c.is_alone.ensures.0 c.if-is_alone.true in
    record {
      replayed = λ options also. absurd (not_replay_and_check words options also is);
      made = λ count seed also. absurd (not_make_and_check words count seed also is);
      checked = λ also. c.check.ensures.checked;
      hit = λ also. absurd (not_check_and_hit words is also);
      bus = λ path rounds also. absurd (not_check_and_live words services.Bus path rounds is also);
      registry = λ path rounds also. absurd (not_check_and_live words services.Registry path rounds is also);
      app = λ path rounds also. absurd (not_check_and_live words services.App path rounds is also);
      read = λ path rounds also. absurd (not_check_and_live words services.Read path rounds is also);
      uncalled = λ none. refl;
      told = λ text asks. absurd (check_is_not_told words text is asks);
      usage = λ none. absurd (none (inr (inr (inl is))));
      words = λ two command. check_is_not_2 _ _ _ _ _ _ c.check.ensures.checked two;
      causes = causes_of_check _ _ _ _ _ c.check.ensures.causes;
      complete = λ options also. absurd (not_replay_and_check words options also is);
      full = λ options also. absurd (not_replay_and_check words options also is);
      check_complete = λ also. c.check.ensures.complete;
      make_complete = λ count seed also. absurd (not_make_and_check words count seed also is);
      bus_complete = λ path rounds also. absurd (not_check_and_live words services.Bus path rounds is also);
      end_complete = λ service path rounds also. absurd (not_check_and_live words service path rounds is also);
    }

pub returns-then-is_alone-2 : goal.returns-then-is_alone-2
returns-then-is_alone-2 g c =
    let words = map string_bytes c.args.words.now in
    let is = c.is_alone-2.ensures.0 c.if-is_alone-2.true in
    record {
      replayed = λ options also. absurd (not_replay_and_hit words options also is);
      made = λ count seed also. absurd (not_make_and_hit words count seed also is);
      checked = λ also. absurd (not_check_and_hit words also is);
      hit = λ also. c.hit.ensures.done;
      bus = λ path rounds also. absurd (not_hit_and_live words services.Bus path rounds is also);
      registry = λ path rounds also. absurd (not_hit_and_live words services.Registry path rounds is also);
      app = λ path rounds also. absurd (not_hit_and_live words services.App path rounds is also);
      read = λ path rounds also. absurd (not_hit_and_live words services.Read path rounds is also);
      uncalled = λ none. refl;
      told = λ text asks. absurd (hit_is_not_told words text is asks);
      usage = λ none. absurd (none (inr (inr (inr (inr (inr is))))));
      words = λ two command. hit_is_not_2 _ _ _ _ _ _ c.hit.ensures.done two;
      causes = causes_of_hit _ _ _ _ _ c.hit.ensures.causes;
      complete = λ options also. absurd (not_replay_and_hit words options also is);
      full = λ options also. absurd (not_replay_and_hit words options also is);
      check_complete = λ also. absurd (not_check_and_hit words also is);
      make_complete = λ count seed also. absurd (not_make_and_hit words count seed also is);
      bus_complete = λ path rounds also. absurd (not_hit_and_live words services.Bus path rounds is also);
      end_complete = λ service path rounds also. absurd (not_hit_and_live words service path rounds is also);
    }

pub serve-requires : goal.serve-requires
serve-requires g c =
    let live = c.in-Some-live_in.live in
    record {
      path = path_of (map string_bytes c.args.words.now) live.service live.path.now live.rounds c.in-Some-live_in.ensures;
      begins = c.requires.begins;
      links = c.requires.links;
    }

pub returns-in-Some-live_in : goal.returns-in-Some-live_in
returns-in-Some-live_in g c =
    let words = map string_bytes c.args.words.now in
    let live = c.in-Some-live_in.live in
    let is = c.in-Some-live_in.ensures in
    let did = c.serve.ensures in
    record {
      replayed = λ options also. absurd (not_task_and_live words (Replay options) live.service live.path.now live.rounds also is);
      made = λ count seed also. absurd (not_task_and_live words (Make record { count = count; seed = seed }) live.service live.path.now live.rounds also is);
      checked = λ also. absurd (not_check_and_live words live.service live.path.now live.rounds also is);
      hit = λ also. absurd (not_hit_and_live words live.service live.path.now live.rounds also is);
      bus = λ path rounds also.
          let same = same_live words live.service services.Bus live.path.now path live.rounds rounds is also in
          rw (sym same.1, sym same.2) (did.bus same.0);
      registry = λ path rounds also.
          let same = same_live words live.service services.Registry live.path.now path live.rounds rounds is also in
          rw (sym same.1, sym same.2) (did.registry same.0);
      app = λ path rounds also.
          let same = same_live words live.service services.App live.path.now path live.rounds rounds is also in
          rw (sym same.1, sym same.2) (did.app same.0);
      read = λ path rounds also.
          let same = same_live words live.service services.Read live.path.now path live.rounds rounds is also in
          rw (sym same.1, sym same.2) (did.read same.0);
      uncalled = λ none. absurd (none (live.service, live.path.now, live.rounds, is));
      told = λ text asks. absurd (not_told_and_live words text live.service live.path.now live.rounds asks is);
      usage = λ none. absurd (none (inr (inr (inr (inr (inl (live.service, live.path.now, live.rounds, is)))))));
      words = λ two command. serving_is_not_2 _ did.known two;
      causes = causes_of_check _ _ _ _ _ did.causes;
      complete = λ options also. absurd (not_task_and_live words (Replay options) live.service live.path.now live.rounds also is);
      full = λ options also. absurd (not_task_and_live words (Replay options) live.service live.path.now live.rounds also is);
      check_complete = λ also. absurd (not_check_and_live words live.service live.path.now live.rounds also is);
      make_complete = λ count seed also. absurd (not_task_and_live words (Make record { count = count; seed = seed }) live.service live.path.now live.rounds also is);
      bus_complete = λ path rounds also.
          did.bus_complete (same_live words live.service services.Bus live.path.now path live.rounds rounds is also).0;
      end_complete = λ service path rounds also no_bus no_app written done no_link part.
          let same = same_live words live.service service live.path.now path live.rounds rounds is also in
          did.complete (λ e. no_bus (sym same.0 ∙ e)) (λ e. no_app (sym same.0 ∙ e)) written done no_link
          (subst (λ (n : ℕ). PeerDoes (g.H.Host.links c.serve.new.host) n (g.H.Host.calls c.serve.new.host)) (sym same.2) part);
    }

pub returns : goal.returns
returns g c =
    let words = map string_bytes c.args.words.now in
    let no_check = not_if c.is_alone.result c.if-is_alone.false c.is_alone.ensures.1 in
    let no_hit = not_if c.is_alone-2.result c.if-is_alone-2.false c.is_alone-2.ensures.1 in
    let no_replay = not_replay words c.in_default.ensures in
    let no_make = not_make words c.in_default.ensures in
    let no_live = c.in_default-live_in.ensures in
    record {
      replayed = λ options also. absurd (no_replay options also);
      made = λ count seed also. absurd (no_make count seed also);
      checked = λ also. absurd (no_check also);
      hit = λ also. absurd (no_hit also);
      bus = λ path rounds also. absurd (no_live services.Bus path rounds also);
      registry = λ path rounds also. absurd (no_live services.Registry path rounds also);
      app = λ path rounds also. absurd (no_live services.App path rounds also);
      read = λ path rounds also. absurd (no_live services.Read path rounds also);
      uncalled = λ none. refl;
      told = c.tell.ensures.told;
      usage = λ none. c.tell.ensures.usage (λ told. none (inr (inr (inr (inl told)))));
      words = λ two command. no_command _ words _ _ no_replay no_make no_check no_live no_hit c.tell.ensures.told two command;
      causes = c.tell.ensures.causes (g.S.Source.faults c.args.source.now);
      complete = λ options also. absurd (no_replay options also);
      full = λ options also. absurd (no_replay options also);
      check_complete = λ also. absurd (no_check also);
      make_complete = λ count seed also. absurd (no_make count seed also);
      bus_complete = λ path rounds also. absurd (no_live services.Bus path rounds also);
      end_complete = λ service path rounds also. absurd (no_live service path rounds also);
    }
