-- Each step of a lawful trace applies to its application's tree, which is the fold of its steps.
use Rattle.std.proofs.Common.{◌≡◌, ◌⊎◌, inl, inr, ℕ, ◌≤◌, true, false, List, [], ◌∷◌, ◌++◌, map, Some, refl, sym, ap, ◌∙◌, subst}
use Rattle.std.specs.List.{AllByRecursion, fold, list_any}
use Rattle.std.proofs.lemmas.Bool.{ne_eqb}
use Rattle.atspi_script_lines.specs.declared.line.Party.{Party}
use Rattle.atspi_script_lines.specs.declared.line.Party.TheVariants.{App}
use Rattle.atspi_message.specs.Envelope.{Envelope}
use Rattle.atspi_match.specs.declared.routing.closing.Closing.{Closing}
use Rattle.atspi_protocol.specs.exporting.Exporter.{Exporter}
use Rattle.atspi_protocol.specs.exporting.Laws.{HasTree}
use Rattle.atspi_trace.specs.Entry.{Entry, sent, dropped}
use Rattle.atspi_trace.specs.World.{Role, here, an_application, End, World}
use Rattle.atspi_trace.specs.Ends.{number_of, party_at, end_at, app_count}
use Rattle.atspi_trace.specs.Carrying.{bus_entries}
use Rattle.atspi_trace.specs.Causes.{Done, did}
use Rattle.atspi_trace_laws.specs.laws.Words.{tree_after, live_tree, count_after, added, is_live}
use Rattle.atspi_trace_laws.specs.laws.NineLaws.{StepIsOne}
use Rattle.atspi_trace_laws.proofs.OfOrder.Parties.{all_append}
use Rattle.atspi_trace_laws.proofs.OfOrder.BusWords.{all_any, bus_all}
use Rattle.atspi_trace_laws.proofs.OfOrder.Frame.{Over, IsOrder}
use Rattle.atspi_trace_laws.specs.laws.Words.{stops_it}
use Rattle.atspi_trace_laws.proofs.OfOrder.Shape.{Shape}
use Rattle.atspi_trace_laws.proofs.OfOrder.Each.{Each, each_more, each_of, all_map}
use Rattle.atspi_trace_laws.proofs.OfSteps.Doings.{AllDone, tree_by, count_by, Did}
use Rattle.atspi_trace_laws.proofs.OfSteps.Trees.{fold_append, tree_more, count_more, NotOn, trees_same, counts_same, NoStep, no_step_on, no_step_law, did_other, did_tree, did_count, live_more, steps_law}

-- the state of an application is what the trace tells of it
pub record TreeIs (es : List Entry) (app : ℕ) (s : Exporter) : Type 0 where
  pub tree : s.tree ≡ live_tree es app
  pub count : s.added ≡ added es app
  pub is : HasTree s
  pub empty : s.out ≡ []

-- an end is of the same party, and where it is an application now it was the same before
pub record SameApp (e d : End) : Type 0 where
  pub whose : d.who ≡ e.who
  pub role : (s : Exporter) → d.role ≡ an_application s → e.role ≡ an_application s

pub same_app : IsOrder SameApp
same_app = record {
  same = λ e. record { whose = refl; role = λ s h. h };
  both = λ e d c f g. record { whose = g.whose ∙ f.whose; role = λ s h. f.role s (g.role s h) };
}

-- what the bus writes is no step
pub bus_still : (ends : List End) (own : List Envelope) (closings : List Closing) → AllByRecursion NoStep (bus_entries ends own closings)
bus_still ends own closings =
    bus_all NoStep (λ e. tt) ends own closings (all_any (λ (x : Closing). (queued len : ℕ) → NoStep (dropped (party_at ends x.conn) queued len)) (λ x queued len. tt) closings)

pub sent_still : (who : Party) (es : List Envelope) → AllByRecursion NoStep (map (sent who) es)
sent_still who [] = tt
sent_still who (e ∷ es) = (tt, sent_still who es)

abbrev pub Trees : List Entry → World → Type 0
Trees es w = (k a : ℕ) (e : End) (s : Exporter) → end_at w.ends k ≡ Some e → e.who ≡ App a → e.role ≡ an_application s → TreeIs es a s

-- nobody has stepped who did not join yet
abbrev pub Unborn : List Entry → World → Type 0
Unborn es w = (a : ℕ) → app_count w.ends ≤ a → added es a ≡ 0

-- the tree of an application that an entry list leaves alone
pub tree_alone : (es ys : List Entry) (a : ℕ) (s : Exporter) → AllByRecursion (NotOn a) ys → TreeIs es a s → TreeIs (es ++ ys) a s
tree_alone es ys a s n t = record {
  tree = t.tree ∙ sym (tree_more a es ys ∙ trees_same a (live_tree es a) ys n);
  count = t.count ∙ sym (count_more a es ys ∙ counts_same a (added es a) ys n);
  is = t.is;
  empty = t.empty;
}

pub still_trees : (es ys : List Entry) (a b : List End) → Over SameApp a b → AllByRecursion NoStep ys
    → ((k app : ℕ) (e : End) (s : Exporter) → end_at a k ≡ Some e → e.who ≡ App app → e.role ≡ an_application s → TreeIs es app s)
    → (k app : ℕ) (e : End) (s : Exporter) → end_at b k ≡ Some e → e.who ≡ App app → e.role ≡ an_application s → TreeIs (es ++ ys) app s
still_trees es ys a b o n f k app e s h who role =
    let x = o.back k e h in
    tree_alone es ys app s (all_map NoStep (NotOn app) ys (no_step_on app) n) (f k app x.0 s x.1 (sym x.2.whose ∙ who) (x.2.role s role))

-- an application acts
pub record ActsApp (w : World) (d : Done) : Type 0 where
  pub conn : ℕ
  pub app : ℕ
  pub e : End
  pub before : Exporter
  pub after : Exporter
  pub front : List Entry
  pub there : end_at w.ends conn ≡ Some e
  pub whose : e.who ≡ App app
  pub role : e.role ≡ an_application before
  pub did_ : Did before after
  pub has : HasTree after
  pub ends : (k : ℕ) (x : End) → end_at d.world.ends k ≡ Some x
      → ((k ≡ conn) × (x.who ≡ e.who) × (x.role ≡ an_application (record after { out = [] }))) ⊎ ((k ≡ conn → ⊥) × (y : End) × (end_at w.ends k ≡ Some y) × SameApp y x)
  pub is_here : e.standing ≡ here
  pub entries : d.entries ≡ front ++ map (did app) after.out
  pub quiet : AllByRecursion NoStep front
  pub no_stop : list_any (stops_it (App app)) front ≡ false

abbrev app_of : Role → Exporter → Exporter
app_of (an_application s) t = s
app_of role t = t

pub same_app_of : (s t : Exporter) → an_application s ≡ an_application t → s ≡ t
same_app_of s t h = ap (λ r. app_of r s) h

module _ (es : List Entry) (w : World) (d : Done) (s : Shape w) (f : Trees es w) (b : ActsApp w d) where
  old : TreeIs es b.app b.before
  old = f b.conn b.app b.e b.before b.there b.whose b.role

  doings : b.did_.doings ≡ b.after.out
  doings = sym (b.did_.out ∙ ap (λ l. l ++ b.did_.doings) old.empty)

  quiet_on : (a : ℕ) → AllByRecursion (NotOn a) b.front
  quiet_on a = all_map NoStep (NotOn a) b.front (no_step_on a) b.quiet

  new_tree : TreeIs (es ++ d.entries) b.app (record b.after { out = [] })
  new_tree = record {
    tree = b.did_.tree ∙ ap (tree_by b.before.tree) doings ∙ ap (λ t. tree_by t b.after.out) old.tree
        ∙ sym (ap (λ ys. live_tree (es ++ ys) b.app) b.entries ∙ tree_more b.app es (b.front ++ map (did b.app) b.after.out)
        ∙ fold_append (tree_after b.app) (live_tree es b.app) b.front (map (did b.app) b.after.out)
        ∙ ap (λ t. fold (tree_after b.app) t (map (did b.app) b.after.out)) (trees_same b.app (live_tree es b.app) b.front (quiet_on b.app))
        ∙ did_tree b.app (live_tree es b.app) b.after.out);
    count = b.did_.added ∙ ap (count_by b.before.added) doings ∙ ap (λ n. count_by n b.after.out) old.count
        ∙ sym (ap (λ ys. added (es ++ ys) b.app) b.entries ∙ count_more b.app es (b.front ++ map (did b.app) b.after.out)
        ∙ fold_append (count_after b.app) (added es b.app) b.front (map (did b.app) b.after.out)
        ∙ ap (λ t. fold (count_after b.app) t (map (did b.app) b.after.out)) (counts_same b.app (added es b.app) b.front (quiet_on b.app))
        ∙ did_count b.app (added es b.app) b.after.out);
    is = b.has;
    empty = refl;
  }

  pub other_on : (a : ℕ) → (b.app ≡ a → ⊥) → AllByRecursion (NotOn a) d.entries
  other_on a differ =
      subst (AllByRecursion (NotOn a)) (sym b.entries)
      (all_append (NotOn a) b.front (map (did b.app) b.after.out) (quiet_on a) (did_other a b.app b.after.out (ne_eqb b.app a differ)))

  pub acted_trees : Trees (es ++ d.entries) d.world
  acted_trees k a x t h who role = by (b.ends k x h)
    where
      by : (((k ≡ b.conn) × (x.who ≡ b.e.who) × (x.role ≡ an_application (record b.after { out = [] }))) ⊎ ((k ≡ b.conn → ⊥) × (y : End) × (end_at w.ends k ≡ Some y) × SameApp y x)) → TreeIs (es ++ d.entries) a t
      by (inl g) =
          let number : b.app ≡ a = ap number_of (sym b.whose ∙ sym g.1 ∙ who) in
          let state : record b.after { out = [] } ≡ t = same_app_of (record b.after { out = [] }) t (sym g.2 ∙ role) in
          subst (λ n. TreeIs (es ++ d.entries) n t) number (subst (TreeIs (es ++ d.entries) b.app) state new_tree)
      by (inr g) =
          let whose : g.1.who ≡ App a = sym g.3.whose ∙ who in
          tree_alone es d.entries a t
          (other_on a (λ same. g.0 (s.one k b.conn g.1 b.e g.2 b.there (whose ∙ ap App (sym same) ∙ sym b.whose))))
          (f k a g.1 t g.2 whose (g.3.role t role))

  pub acted_law : is_live es (App b.app) ≡ true → Each StepIsOne es d.entries
  acted_law live =
      subst (Each StepIsOne es) (sym b.entries)
      (each_more StepIsOne es b.front (map (did b.app) b.after.out)
      (each_of NoStep (λ before entry behind. StepIsOne before entry (behind ++ map (did b.app) b.after.out)) es b.front
      (λ before entry behind n. no_step_law before entry (behind ++ map (did b.app) b.after.out) n) b.quiet)
      (steps_law b.app (es ++ b.front) b.before.tree b.before.added b.after.out
      (tree_more b.app es b.front ∙ trees_same b.app (live_tree es b.app) b.front (quiet_on b.app) ∙ sym old.tree)
      (count_more b.app es b.front ∙ counts_same b.app (added es b.app) b.front (quiet_on b.app) ∙ sym old.count)
      (live_more es b.front (App b.app) live b.no_stop)
      (subst (AllDone b.before.tree b.before.added) doings b.did_.apply)))
