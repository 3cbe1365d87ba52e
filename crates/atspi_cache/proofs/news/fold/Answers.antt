use Rattle.std.proofs.Common.{◌≡◌, OnOk, rules, w32, to_z, of_z, SFits, sym, ap, subst, ◌∙◌}
use Rattle.std.specs.Prelude.{ℤ}
use Rattle.std.proofs.lemmas.Int.{to_z-of_z}
use Rattle.atspi_tree_model.specs.declared.view.Row.{Row}
use Rattle.atspi_tree_model.specs.Forest.{Forest, change}
use Rattle.atspi_tree_model.specs.Row.{delete_there, insert_there}
use Rattle.atspi_tree_model.specs.News.{effect, is_path, known_text_with}
use Rattle.atspi_cache_arena.specs.Change.{changed}
use Rattle.atspi_cache_arena.specs.declared.change.Change.TheVariants.{Caret, CaretIs, ColumnsIs}
use Rattle.atspi_cache.proofs.news.fold.Goals as goal

pub returns-in-Inserted-clause-ok : goal.returns-in-Inserted-clause-ok
returns-in-Inserted-clause-ok c =
    let fits_at : SFits w32 c.in-Inserted.at = search rules in
    subst (λ (v : Forest Row). OnOk c.insert.result (c.insert.new.rows ≡ v))
    (ap (λ (z : ℤ). change (is_path c.in-Inserted.path) (λ row. record row { text = known_text_with (insert_there z c.in-Inserted.text) row.text }) c.args.rows.now) (to_z-of_z w32 c.in-Inserted.at fits_at)
    ∙ sym (ap (effect c.args.root.now c.args.bus.now c.args.rows.now) c.in-Inserted.is))
    c.insert.ensures.ok

pub returns-in-Deleted-clause-ok : goal.returns-in-Deleted-clause-ok
returns-in-Deleted-clause-ok c =
    let fits_at : SFits w32 c.in-Deleted.at = search rules in
    let fits_len : SFits w32 c.in-Deleted.len = search rules in
    subst (λ (v : Forest Row). OnOk c.delete.result (c.delete.new.rows ≡ v))
    (ap (λ (z : ℤ). change (is_path c.in-Deleted.path) (λ row. record row { text = known_text_with (delete_there z (to_z w32 (of_z w32 c.in-Deleted.len))) row.text }) c.args.rows.now) (to_z-of_z w32 c.in-Deleted.at fits_at)
    ∙ ap (λ (z : ℤ). change (is_path c.in-Deleted.path) (λ row. record row { text = known_text_with (delete_there c.in-Deleted.at z) row.text }) c.args.rows.now) (to_z-of_z w32 c.in-Deleted.len fits_len)
    ∙ sym (ap (effect c.args.root.now c.args.bus.now c.args.rows.now) c.in-Deleted.is))
    c.delete.ensures.ok

pub returns-in-Caret-clause-ok : goal.returns-in-Caret-clause-ok
returns-in-Caret-clause-ok c =
    let fits_at : SFits w32 c.in-Caret.at = search rules in
    subst (λ (v : Forest Row). OnOk c.put-in-Caret.result (c.put-in-Caret.new.rows ≡ v))
    (ap (λ (z : ℤ). change (is_path c.in-Caret.path) (changed (Caret z)) c.args.rows.now) (to_z-of_z w32 c.in-Caret.at fits_at)
    ∙ sym (ap (effect c.args.root.now c.args.bus.now c.args.rows.now) c.in-Caret.is))
    c.put-in-Caret.ensures.ok

pub returns-in-CaretIs-clause-ok : goal.returns-in-CaretIs-clause-ok
returns-in-CaretIs-clause-ok c =
    let fits_at : SFits w32 c.in-CaretIs.at = search rules in
    subst (λ (v : Forest Row). OnOk c.put-in-CaretIs.result (c.put-in-CaretIs.new.rows ≡ v))
    (ap (λ (z : ℤ). change (is_path c.in-CaretIs.path) (changed (CaretIs z)) c.args.rows.now) (to_z-of_z w32 c.in-CaretIs.at fits_at)
    ∙ sym (ap (effect c.args.root.now c.args.bus.now c.args.rows.now) c.in-CaretIs.is))
    c.put-in-CaretIs.ensures.ok

pub returns-in-ColumnsIs-clause-ok : goal.returns-in-ColumnsIs-clause-ok
returns-in-ColumnsIs-clause-ok c =
    let fits_count : SFits w32 c.in-ColumnsIs.count = search rules in
    subst (λ (v : Forest Row). OnOk c.put-in-ColumnsIs.result (c.put-in-ColumnsIs.new.rows ≡ v))
    (ap (λ (z : ℤ). change (is_path c.in-ColumnsIs.path) (changed (ColumnsIs z)) c.args.rows.now) (to_z-of_z w32 c.in-ColumnsIs.count fits_count)
    ∙ sym (ap (effect c.args.root.now c.args.bus.now c.args.rows.now) c.in-ColumnsIs.is))
    c.put-in-ColumnsIs.ensures.ok
