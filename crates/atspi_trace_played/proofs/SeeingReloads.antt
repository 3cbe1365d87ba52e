-- No message of an application asks for it to be loaded anew: a child that was added is one that the reader has.
use Rattle.std.proofs.Common.{◌≡◌, ◌⊎◌, inl, inr, ℕ, suc, false, List, [], ◌∷◌, ◌++◌, length, map, Option, None, Some, refl, sym, ap, ◌∙◌, subst}
use Rattle.std.specs.Prelude.{not}
use Rattle.std.specs.List.{AllByRecursion, fold}
use Rattle.std.proofs.lemmas.List.{append_assoc}
use Rattle.atspi_tree_model.specs.declared.news.News.{News}
use Rattle.atspi_tree_model.specs.declared.news.News.TheVariants.{Item as NewItem, Removed, ChildAdded, ChildRemoved, Name, Description, Role, State, Inserted, Deleted, Caret as CaretNews, TextIs, CaretIs, ColumnsIs, Nothing}
use Rattle.atspi_tree_model.specs.declared.step.Step.{Step}
use Rattle.atspi_tree_model.specs.declared.step.Step.TheVariants.{Add, Remove, Move, SetName, SetDescription, SetRole, SetState, Insert, Delete, Caret, TextSelect, Relate}
use Rattle.atspi_tree_model.specs.declared.view.Row.{Row}
use Rattle.atspi_tree_model.specs.Forest.{Forest, find, children_at, width}
use Rattle.atspi_tree_model.specs.Tree.{is_node, after, seat_of}
use Rattle.atspi_tree_model.specs.RowRules.{rows}
use Rattle.atspi_tree_model.specs.News.{is_path, marks_reload}
use Rattle.atspi_tree_model.specs.Announce.{announcement, echoes, item_news, removed_news, Idle}
use Rattle.atspi_tree_model.specs.Laws.{UntoldOfNew}
use Rattle.atspi_tree_model.specs.Path.{path_of}
use Rattle.atspi_tree_model.specs.Row.{TreeRow}
use Rattle.atspi_tree_model.specs.View.{Told, nothing_told, shown, view}
use Rattle.atspi_tree_model.proofs.Relabel.{has-relabel}
use Rattle.atspi_protocol.specs.announcing.Signals.{Signal}
use Rattle.atspi_protocol.specs.announcing.Announced.{announced}
use Rattle.atspi_protocol.specs.announcing.Laws.{told}
use Rattle.atspi_protocol.specs.news.NewsOf.{news_of}
use Rattle.atspi_message.specs.Envelope.{Envelope}
use Rattle.atspi_script_lines.specs.declared.line.Party.TheVariants.{App}
use Rattle.atspi_trace.specs.Entry.{Entry, changed, sent}
use Rattle.atspi_trace_laws.specs.laws.Words.{tree_after, live_tree, messages, heard_pairs}
use Rattle.atspi_trace_laws.specs.heard.Laws.{signals_under}
use Rattle.atspi_trace_laws.specs.views.Laws.{IsCarried}
use Rattle.atspi_trace_laws.proofs.OfOrder.Parties.{all_back, all_front}
use Rattle.atspi_trace_laws.proofs.OfSteps.Trees.{tree_more}
use Rattle.atspi_trace_laws.proofs.OfSigned.Between.{OfMessage, asked_all, sent_each, telling, IsSilent, signal_messages}
use Rattle.atspi_protocol.specs.exporting.Telling.{asked_for}

-- news that add no child
removed_quiet : (v : Forest Row) (n : ℕ) (s : Option (Option ℕ × ℕ)) → marks_reload v (removed_news n s) ≡ false
removed_quiet v n None = refl
removed_quiet v n (Some (None, i)) = refl
removed_quiet v n (Some (Some p, i)) = refl

item_quiet : (v : Forest Row) (name : List ℕ) (p i k : ℕ) (o : Option TreeRow) → marks_reload v (item_news name p i k o) ≡ false
item_quiet v name p i k None = refl
item_quiet v name p i k (Some row) = refl

announcement_quiet : (v : Forest Row) (name : List ℕ) (f : Forest TreeRow) (step : Step) → marks_reload v (announcement name f step) ≡ false
announcement_quiet v name f (Add n p i seed) = refl
announcement_quiet v name f (Remove n) = removed_quiet v n (seat_of rows n f)
announcement_quiet v name f (Move n p i) =
    let g : Forest TreeRow = after rows f (Move n p i) in item_quiet v name p i (width (children_at (is_node n) g)) (find (is_node n) g)
announcement_quiet v name f (SetName n x) = refl
announcement_quiet v name f (SetDescription n x) = refl
announcement_quiet v name f (SetRole n role) = refl
announcement_quiet v name f (SetState n state on) = refl
announcement_quiet v name f (Insert n at x) = refl
announcement_quiet v name f (Delete n at x) = refl
announcement_quiet v name f (Caret n at) = refl
announcement_quiet v name f (TextSelect n marks) = refl
announcement_quiet v name f (Relate n kind targets) = refl

idle_quiet : (name : List ℕ) (v : Forest Row) (ns : List News) → Idle (path_of 0) name v ns → AllByRecursion (λ n. marks_reload v n ≡ false) ns
idle_quiet name v [] i = tt
idle_quiet name v (n ∷ ns) i = (i.1, idle_quiet name v ns i.2)

untold : (step : Step) → UntoldOfNew nothing_told step
untold (Add n p i seed) = (refl, refl, refl)
untold (Remove n) = tt
untold (Move n p i) = tt
untold (SetName n x) = tt
untold (SetDescription n x) = tt
untold (SetRole n role) = tt
untold (SetState n state on) = tt
untold (Insert n at x) = tt
untold (Delete n at x) = tt
untold (Caret n at) = tt
untold (TextSelect n marks) = tt
untold (Relate n kind targets) = tt

-- which parts were told is no matter
marks_same : (parts others : List ℕ → Told) (f : Forest TreeRow) (n : News) → marks_reload (view parts f) n ≡ marks_reload (view others f) n
marks_same parts others f (ChildAdded child) =
    ap not (has-relabel (shown parts) (is_path child) (λ (row : TreeRow). is_path child (shown nothing_told row)) (λ row. refl) f
    ∙ sym (has-relabel (shown others) (is_path child) (λ (row : TreeRow). is_path child (shown nothing_told row)) (λ row. refl) f))
marks_same parts others f (NewItem item) = refl
marks_same parts others f (Removed path) = refl
marks_same parts others f (ChildRemoved p i child) = refl
marks_same parts others f (Name p x) = refl
marks_same parts others f (Description p x) = refl
marks_same parts others f (Role p x) = refl
marks_same parts others f (State p s on) = refl
marks_same parts others f (Inserted p at x) = refl
marks_same parts others f (Deleted p at k x) = refl
marks_same parts others f (CaretNews p at) = refl
marks_same parts others f (TextIs p x) = refl
marks_same parts others f (CaretIs p at) = refl
marks_same parts others f (ColumnsIs p k) = refl
marks_same parts others f Nothing = refl

-- OF EACH SIGNAL of a step
module _ (early : List Entry) (b : ℕ) (x : List ℕ) (step : Step) (c : IsCarried early b step) where
  abbrev pub tree : Forest TreeRow
  tree = live_tree (early ++ changed b step ∷ []) b

  abbrev Quiet : News → Type 0
  Quiet n = marks_reload (view nothing_told tree) n ≡ false

  all_told : AllByRecursion Quiet (told x (live_tree early b) step)
  all_told = by (telling x (live_tree early b) step)
    where
      by : (IsSilent x (live_tree early b) step ⊎ (told x (live_tree early b) step ≡ announcement x (live_tree early b) step ∷ echoes x (live_tree early b) step)) → AllByRecursion Quiet (told x (live_tree early b) step)
      by (inl s) = subst (AllByRecursion Quiet) (sym s.none) tt
      by (inr h) =
          subst (AllByRecursion Quiet) (sym h)
          (announcement_quiet (view nothing_told tree) x (live_tree early b) step, idle_quiet x (view nothing_told tree) (echoes x (live_tree early b) step) (c.echoes x nothing_told (untold step)))

  each_signal : (xs : List Signal) → AllByRecursion Quiet (map (λ (s : Signal). news_of x (record s.message { serial = 0; sender = Some x })) xs)
      → AllByRecursion (λ (s : Signal). (k : ℕ) → Quiet (news_of x (record s.message { serial = k }))) xs
  each_signal [] a = tt
  each_signal (y ∷ ys) a = ((λ k. a.0), each_signal ys a.1)

  all_signals : AllByRecursion (OfMessage (λ e. Quiet (news_of x e)) b) (signals_under x early b step)
  all_signals =
      sent_each (λ e. Quiet (news_of x e)) b (suc (length (messages early (App b)))) (asked_for (heard_pairs early b) (announced x (live_tree early b) step))
      (asked_all (λ (s : Signal). (k : ℕ) → Quiet (news_of x (record s.message { serial = k }))) (heard_pairs early b) (announced x (live_tree early b) step)
      (each_signal (announced x (live_tree early b) step) (subst (AllByRecursion Quiet) (sym (c.news x 0)) all_told)))

  pub one_signal : (front back : List Entry) (e : Envelope) → signals_under x early b step ≡ front ++ sent (App b) e ∷ back → (parts : List ℕ → Told) → marks_reload (view parts tree) (news_of x e) ≡ false
  one_signal front back e listed parts =
      marks_same parts nothing_told tree (news_of x e)
      ∙ (all_back (OfMessage (λ y. Quiet (news_of x y)) b) front (sent (App b) e ∷ back) (subst (AllByRecursion (OfMessage (λ y. Quiet (news_of x y)) b)) listed all_signals)).0.1

  -- and those in front of it change no tree
  still : (f : Forest TreeRow) (es : List Entry) → AllByRecursion (OfMessage (λ e. e.kind ≡ 4) b) es → fold (tree_after b) f es ≡ f
  still f [] a = refl
  still f (sent (App n) e ∷ es) a = still f es a.1
  still f (y ∷ es) a = absurd a.0

  pub tree_behind : (front back : List Entry) (e : Envelope) → signals_under x early b step ≡ front ++ sent (App b) e ∷ back → live_tree (early ++ changed b step ∷ front) b ≡ tree
  tree_behind front back e listed =
      ap (λ l. live_tree l b) (sym (append_assoc early (changed b step ∷ []) front)) ∙ tree_more b (early ++ changed b step ∷ []) front
      ∙ still tree front (all_front (OfMessage (λ y. y.kind ≡ 4) b) front (sent (App b) e ∷ back) (subst (AllByRecursion (OfMessage (λ y. y.kind ≡ 4) b)) listed (signal_messages early b x step)))
