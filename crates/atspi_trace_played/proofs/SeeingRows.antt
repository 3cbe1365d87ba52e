-- No index of the rows that a reader holds is so great that it is cut: a tree has few nodes.
use Rattle.std.proofs.Common.{◌≡◌, ℕ, suc, ◌+◌, ◌≤◌, Bool, true, false, List, [], ◌∷◌, ◌++◌, length, map, Option, None, Some, refl, sym, ap, ap₂, ◌∙◌, subst, arith}
use Rattle.std.specs.Prelude.{◌==◌, pos, min, if◌then◌else◌}
use Rattle.std.specs.List.{cons_option}
use Rattle.std.proofs.lemmas.Bool.{eqb-true}
use Rattle.std.proofs.lemmas.List.{append-nil, append_assoc, map-append}
use Rattle.atspi_cache_arena.specs.Sights.{sight, sights}
use Rattle.atspi_tree_model.specs.declared.limits.TheConstants.{NODE_LIMIT}
use Rattle.atspi_tree_model.specs.declared.view.Row.{Row}
use Rattle.atspi_tree_model.specs.Forest.{Forest, nil, tree, count, seats}
use Rattle.atspi_tree_model.specs.Row.{TreeRow}
use Rattle.atspi_tree_model.specs.RowRules.{rows}
use Rattle.atspi_tree_model.specs.Tree.{first_tree, after}
use Rattle.atspi_tree_model.specs.View.{Told, shown, view}
use Rattle.atspi_tree_model.proofs.Relabel.{count-relabel}
use Rattle.atspi_script_lines.specs.declared.line.Line.{Line}
use Rattle.atspi_script_lines.specs.declared.line.Party.TheVariants.{App}
use Rattle.atspi_message.specs.Envelope.{Envelope}
use Rattle.atspi_trace.specs.play.Playing.{shown_sight}
use Rattle.atspi_trace.specs.Entry.{Entry, started, changed, sent}
use Rattle.atspi_trace.specs.World.{World}
use Rattle.atspi_trace.specs.Causes.{shown_row, shown_rows}
use Rattle.atspi_trace_laws.specs.laws.Words.{tree_after, live_tree, message, messages, before_sent, as_of, name_in}
use Rattle.atspi_trace_laws.specs.views.Laws.{StepsOnTree}
use Rattle.atspi_trace_laws.proofs.OfOrder.Parties.{party-same}
use Rattle.atspi_trace_laws.proofs.OfOrder.Effects.{app_role}
use Rattle.atspi_trace_laws.proofs.OfOrder.Shape.{RoleFits}
use Rattle.atspi_trace_laws.proofs.OfSteps.Steps.{TreeIs}
use Rattle.atspi_trace_laws.proofs.OfSteps.Trees.{tree_more}
use Rattle.atspi_trace_laws.proofs.OfSerials.Serial.{messages_more}
use Rattle.atspi_trace_laws.proofs.OfTaken.Found.{sent_split}
use Rattle.atspi_trace_laws.proofs.OfViews.LawViews.{trees_stand}
use Rattle.atspi_trace_laws.proofs.OfSigned.Starts.{starts_anew}
use Rattle.atspi_trace_laws.proofs.OfNames.Places.{told_is}
use Rattle.atspi_trace_caches.proofs.OfSettled.Settling_ground as under
use Rattle.atspi_trace_played.proofs.Facts.{Ground}
use Rattle.atspi_trace_played.proofs.SeeingGround.{shape, its}

abbrev cut : ℕ
cut = 2147483648

-- AN INDEX THAT IS SMALL stays
least_of : (i : ℕ) → i + 1 ≤ cut → min i 2147483647 ≡ i
least_of i h = omega (arith, h)

one_row : (up : Option (List ℕ)) (i : ℕ) (a : Row) → i + 1 ≤ cut → shown_sight (sight (up, i, a)) ≡ shown_row (up, i, a)
one_row None i a h = refl
one_row (Some p) i a h = ap (λ k. record { parent = Some p; index = pos k; row = a }) (least_of i h)

all_rows : (name : Row → Option (List ℕ)) (up : Option (List ℕ)) (i : ℕ) (f : Forest Row) → i + count (λ (row : Row). true) f ≤ cut
    → map shown_sight (map sight (seats name up i f)) ≡ map shown_row (seats name up i f)
all_rows name up i nil h = refl
all_rows name up i (tree a c rest) h =
    let here : i + 1 ≤ cut = omega (arith, h) in
    let below : 0 + count (λ (row : Row). true) c ≤ cut = omega (arith, h) in
    let behind : suc i + count (λ (row : Row). true) rest ≤ cut = omega (arith, h) in
    ap₂ (λ x l. x ∷ l) (one_row up i a here)
    (ap (map shown_sight) (map-append sight (seats name (name a) 0 c) (seats name up (suc i) rest))
    ∙ map-append shown_sight (map sight (seats name (name a) 0 c)) (map sight (seats name up (suc i) rest))
    ∙ ap₂ (λ x y. x ++ y) (all_rows name (name a) 0 c below) (all_rows name up (suc i) rest behind)
    ∙ sym (map-append shown_row (seats name (name a) 0 c) (seats name up (suc i) rest)))

-- TREES ARE SMALL, behind each message of the application
abbrev IsSmall : Forest TreeRow → Type 0
IsSmall f = count (λ (row : TreeRow). true) f ≤ NODE_LIMIT

module _ (script : List Line) (es : List Entry) (w : World) (g : Ground script es w None) (a : ℕ) (x : List ℕ) (its_name : name_in es (App a) ≡ Some x) where
  now_small : IsSmall (live_tree es a)
  now_small =
      let e = under.is_at es w (shape script es w None g) (its script es w None g) (App a) x (sym (told_is es (App a)) ∙ its_name) in
      let role = app_role e.1.role a (subst (λ p. RoleFits p e.1.role) e.3 ((shape script es w None g).roles e.0 e.1 e.2)) in
      let t : TreeIs es a role.0 = (its script es w None g).trees e.0 a e.1 role.0 e.2 e.3 role.1 in
      subst IsSmall t.tree t.is.few

  abbrev HasSpoken : List Entry → Type 0
  HasSpoken front = messages front (App a) ≡ [] → ⊥

  spoke_more : (front : List Entry) (y : Entry) → HasSpoken front → HasSpoken (front ++ y ∷ [])
  spoke_more front y some h = some (none (messages front (App a)) (messages (y ∷ []) (App a)) (sym (messages_more front (y ∷ []) (App a)) ∙ h))
    where
      none : (xs ys : List Envelope) → xs ++ ys ≡ [] → xs ≡ []
      none [] ys e = refl
      none (z ∷ zs) ys e = absurd (omega (arith, ap length e))

  small : (front rest : List Entry) → es ≡ front ++ rest → HasSpoken front → IsSmall (live_tree front a)
  small front [] at some = subst IsSmall (ap (λ l. live_tree l a) (at ∙ append-nil front)) now_small
  small front (y ∷ rest) at some = by y refl (small (front ++ y ∷ []) rest (at ∙ sym (append_assoc front (y ∷ []) rest)) (spoke_more front y some))
    where
      same : (z : Entry) → y ≡ z → tree_after a (live_tree front a) z ≡ live_tree front a → IsSmall (live_tree (front ++ y ∷ []) a) → IsSmall (live_tree front a)
      same z is keeps ih = subst IsSmall (ap (λ l. live_tree (front ++ l ∷ []) a) is ∙ tree_more a front (z ∷ []) ∙ keeps) ih

      by : (z : Entry) → y ≡ z → IsSmall (live_tree (front ++ y ∷ []) a) → IsSmall (live_tree front a)
      by (changed n step) is ih = mine (n == a) refl
        where
          on_tree : StepsOnTree front (changed n step) rest
          on_tree = trees_stand script es g.can g.goes front (changed n step) rest (at ∙ ap (λ l. front ++ l ∷ rest) is)

          mine : (t : Bool) → (n == a) ≡ t → IsSmall (live_tree front a)
          mine true e = subst (λ k. IsSmall (live_tree front k)) (eqb-true n a e) on_tree.few
          mine false e = same (changed n step) is (ap (λ t. if t then after rows (live_tree front a) step else live_tree front a) e) ih
      by (started (App n) (Some name)) is ih = mine (n == a) refl
        where
          anew : messages front (App n) ≡ []
          anew = starts_anew script es g.can g.goes front (started (App n) (Some name)) rest (at ∙ ap (λ l. front ++ l ∷ rest) is)

          mine : (t : Bool) → (n == a) ≡ t → IsSmall (live_tree front a)
          mine true e = absurd (some (ap (λ k. messages front (App k)) (sym (eqb-true n a e)) ∙ anew))
          mine false e = same (started (App n) (Some name)) is (ap (λ t. if t then first_tree rows name else live_tree front a) e) ih
      by z is ih = same z is refl ih

  pub rows_shown : (parts : List ℕ → Told) (last : ℕ) (first : Envelope) → message es (App a) last ≡ Some first
      → map shown_sight (sights (view parts (as_of es a last))) ≡ shown_rows (view parts (as_of es a last))
  rows_shown parts last first was =
      let few : count (λ (row : TreeRow). true) (as_of es a last) ≤ 8192 = small_then in
      all_rows (λ (row : Row). Some row.path) None 0 (view parts (as_of es a last)) (under_cut (count (λ (row : Row). true) (view parts (as_of es a last))) (count (λ (row : TreeRow). true) (as_of es a last))
      (count-relabel (shown parts) (λ (row : Row). true) (λ (row : TreeRow). true) (λ row. refl) (as_of es a last)) few)
    where
      under_cut : (n k : ℕ) → n ≡ k → k ≤ 8192 → 0 + n ≤ cut
      under_cut n k e l = omega (arith, e, l)

      front : List Entry
      front = before_sent (App a) last es

      split : (post : List Entry) × (es ≡ front ++ sent (App a) first ∷ post)
      split = sent_split es (App a) last first was

      spoken : HasSpoken (front ++ sent (App a) first ∷ [])
      spoken h = some (messages front (App a)) (sym (messages_more front (sent (App a) first ∷ []) (App a) ∙ ap (λ t. messages front (App a) ++ cons_option (if t then Some first else None) []) (party-same (App a))) ∙ h)
        where
          some : (xs : List Envelope) → xs ++ first ∷ [] ≡ [] → ⊥
          some [] e = absurd (omega (arith, ap length e))
          some (z ∷ zs) e = absurd (omega (arith, ap length e))

      small_then : IsSmall (as_of es a last)
      small_then =
          subst IsSmall (tree_more a front (sent (App a) first ∷ []))
          (small (front ++ sent (App a) first ∷ []) split.0 (split.1 ∙ sym (append_assoc front (sent (App a) first ∷ []) split.0)) spoken)
