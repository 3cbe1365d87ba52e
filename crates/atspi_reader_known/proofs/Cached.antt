-- The one view in an application's own cache.
use Rattle.std.proofs.Common.{◌≡◌, ℕ, Bool, true, false, List, [], Option, Some, None, refl, ap, sym, subst, ◌∙◌}
use Rattle.std.specs.Prelude.{◌||◌, is_some}
use Rattle.std.specs.Option.{option_map}
use Rattle.std.specs.Cmp.{nat_cmp_total}
use Rattle.std.specs.Ordering.{nat_cmp}
use Rattle.std.specs.FinMap.{empty, get-empty, get-insert}
use Rattle.atspi_tree_model.specs.declared.view.Row.{Row}
use Rattle.atspi_tree_model.specs.declared.news.News.{News}
use Rattle.atspi_tree_model.specs.declared.news.Item.{Item}
use Rattle.atspi_tree_model.specs.Forest.{Forest}
use Rattle.atspi_tree_model.specs.News.{load}
use Rattle.atspi_cache_arena.specs.Sights.{sights}
use Rattle.atspi_cache.specs.Cache.{View, Views, folded, loaded, reloads, told, with_view}
use Rattle.atspi_cache.specs.Spoken as spoken
use Rattle.atspi_protocol.specs.declared.news.part.PartName.{PartName}
use Rattle.atspi_protocol.specs.following.ReaderState.{Followed}
use Rattle.atspi_protocol.specs.following.Replied as replied
use Rattle.atspi_protocol.specs.following.Takes as takes
use Rattle.atspi_reader_known.specs.Kept.{kept, rows_of, IsKept, lines_in, closing_in}

pub kept_folded : (news : News) (views : Views) → kept (folded 0 news views) ≡ option_map (told news) (kept views)
kept_folded news views = by (kept views) refl
  where
    by : (o : Option View) → kept views ≡ o → kept (with_view 0 (option_map (told news) o) views) ≡ option_map (told news) o
    by None e = e
    by (Some v) e = get-insert nat_cmp_total views 0 (told news v) 0

pub kept_loaded : (bus root : List ℕ) (items : List Item) (views : Views)
    → kept (loaded 0 bus root items views) ≡ Some (record { bus = bus; root = root; rows = load root bus items })
kept_loaded bus root items views = get-insert nat_cmp_total views 0 (record { bus = bus; root = root; rows = load root bus items }) 0

-- an application of these parts
abbrev pub app_of : List ℕ → List ℕ → Option View → Bool → ℕ → List (List ℕ × PartName) → Followed
app_of name root o reload last refused = record { name = name; root = root; view = rows_of o; reload = reload; last = last; refused = refused }

module _ (name root : List ℕ) (last : ℕ) (refused : List (List ℕ × PartName)) (news : News) where
  -- what stays refused
  abbrev pub still_of : Option View → List (List ℕ × PartName)
  still_of None = refused
  still_of (Some v) = takes.still_refused v.rows news refused

  pub still_there : (o : Option View) (v : Forest Row) → rows_of o ≡ Some v → takes.still_refused v news refused ≡ still_of o
  still_there None v e = absurd cc
  still_there (Some w) v e = let same : w.rows ≡ v = cc in ap (λ (f : Forest Row). takes.still_refused f news refused) (sym same)

  pub folded_app : (o : Option View) (reload : Bool) → IsKept name root o → is_some o ≡ true
      → app_of name root (option_map (told news) o) (reload || reloads news o) last (still_of o) ≡ takes.folded news (app_of name root o reload last refused)
  folded_app None reload k h = absurd cc
  folded_app (Some v) reload k h = rw (k.0, k.1) refl

  pub told_app : (o : Option View) (reload : Bool) → IsKept name root o → is_some o ≡ true
      → app_of name root (option_map (told news) o) reload last refused ≡ replied.told_part news (app_of name root o reload last refused)
  told_app None reload k h = absurd cc
  told_app (Some v) reload k h = rw (k.0, k.1) refl

  pub unheld_folded : (o : Option View) (reload : Bool) → is_some o ≡ false
      → app_of name root o reload last refused ≡ takes.folded news (app_of name root o reload last refused)
  unheld_folded None reload h = refl
  unheld_folded (Some v) reload h = absurd cc

  pub unheld_told : (o : Option View) (reload : Bool) → is_some o ≡ false
      → app_of name root o reload last refused ≡ replied.told_part news (app_of name root o reload last refused)
  unheld_told None reload h = refl
  unheld_told (Some v) reload h = absurd cc

  pub spoken_lines : (o : Option View) (reload : Bool) → IsKept name root o → spoken.lines_of news o ≡ lines_in news (app_of name root o reload last refused)
  spoken_lines None reload k = refl
  spoken_lines (Some v) reload k = rw (k.0, k.1) refl

  pub still_kept : (o : Option View) → IsKept name root o → IsKept name root (option_map (told news) o)
  still_kept None k = k
  still_kept (Some v) k = k

pub spoken_closing : (name root : List ℕ) (o : Option View) (reload : Bool) (last : ℕ) (refused : List (List ℕ × PartName))
    → spoken.closing_in o ≡ closing_in (app_of name root o reload last refused)
spoken_closing name root None reload last refused = refl
spoken_closing name root (Some v) reload last refused = refl

-- what is read off an application
pub held_rows : (o : Option View) → is_some o ≡ is_some (rows_of o)
held_rows None = refl
held_rows (Some v) = refl

pub rows_shown_of : (o : Option View) → option_map (λ (v : View). sights v.rows) o ≡ option_map (λ (view : Forest Row). sights view) (rows_of o)
rows_shown_of None = refl
rows_shown_of (Some v) = refl

pub last_held : (name root : List ℕ) (o : Option View) (reload : Bool) (last : ℕ) (refused : List (List ℕ × PartName)) → is_some o ≡ true
    → Some last ≡ takes.last_of (Some (app_of name root o reload last refused))
last_held name root None reload last refused h = absurd cc
last_held name root (Some v) reload last refused h = refl

pub last_unheld : (name root : List ℕ) (o : Option View) (reload : Bool) (last : ℕ) (refused : List (List ℕ × PartName)) → is_some o ≡ false
    → None ≡ takes.last_of (Some (app_of name root o reload last refused))
last_unheld name root None reload last refused h = refl
last_unheld name root (Some v) reload last refused h = absurd cc

-- a view that was loaded under an application's name
pub told_as : (o : Option View) (bus root name : List ℕ) (items : List Item) → o ≡ Some (record { bus = bus; root = root; rows = load root bus items }) → bus ≡ name
    → o ≡ Some (record { bus = name; root = root; rows = load root name items })
told_as o bus root name items e same = e ∙ ap {B = Option View} (λ (b : List ℕ). Some (record { bus = b; root = root; rows = load root b items })) same

pub kept_named : (o : Option View) (n r name root : List ℕ) (rows : Forest Row) → o ≡ Some (record { bus = n; root = r; rows = rows }) → name ≡ n → root ≡ r → IsKept name root o
kept_named None n r name root rows e a b = absurd cc
kept_named (Some v) n r name root rows e a b =
    let v_is : v ≡ record { bus = n; root = r; rows = rows } = cc in
    (ap (λ (w : View). w.bus) v_is ∙ sym a, ap (λ (w : View). w.root) v_is ∙ sym b)

pub loaded_app : (name root n r : List ℕ) (items : List Item) (last : ℕ) (refused : List (List ℕ × PartName)) (o : Option View) (before : Followed)
    → o ≡ Some (record { bus = n; root = r; rows = load r n items }) → name ≡ n → root ≡ r → refused ≡ [] → before.name ≡ n → before.root ≡ r → before.last ≡ last
    → app_of name root o false last refused ≡ replied.loaded items before
loaded_app name root n r items last refused o before e a b d x y z = rw (e, a, b, d, x, y, z) refl

-- at the beginning nothing is kept
pub nothing_kept : (name root : List ℕ) (w : Views) → w ≡ empty → IsKept name root (kept w)
nothing_kept name root w e = subst (IsKept name root) (sym (ap kept e ∙ get-empty nat_cmp 0)) tt

pub new_app : (name root : List ℕ) (w : Views) (refused : List (List ℕ × PartName)) → w ≡ empty → refused ≡ []
    → app_of name root (kept w) false 0 refused ≡ record { name = name; root = root; view = None; reload = false; last = 0; refused = [] }
new_app name root w refused e f =
    ap (λ (o : Option View). app_of name root o false 0 refused) (ap kept e ∙ get-empty nat_cmp 0)
    ∙ ap (λ (r : List (List ℕ × PartName)). app_of name root None false 0 r) f
