use Rattle.std.proofs.Common.{◌∙◌, ◌++◌}
use Rattle.atspi_types.specs.DataView.{data_of, all_pairs}
use Rattle.atspi_marshal.specs.Reading.{structs_in}
use Rattle.atspi_marshal_in_place.specs.Items.{item_data, entries_data}
use Rattle.atspi_marshal_in_place.proofs.Owns.{pairs_come}
use Rattle.atspi_marshal_in_place.proofs.cursor.+build.Goals as goal

pub Entries::put_all-loop-entry-preserved : goal.Entries::put_all-loop-entry-preserved
Entries::put_all-loop-entry-preserved t c = (
  c.in-Some.ensures.levels.2 ∙ c.loop-entry.invariant.0,
  pairs_come (all_pairs c.loop-entry.pairs) (all_pairs c.push.new.self) (data_of c.in_ok-key.key) (data_of c.in_ok-key.value) (item_data c.in-Some.entry.key) (item_data c.in-Some.entry.value) (entries_data c.loop-entry.self) (entries_data c.next.new.self) (structs_in (all_pairs c.args.pairs.now) ++ entries_data c.args.self.now) c.in_ok-push.ensures.ok c.in_ok-key.ensures.key c.in_ok-key.ensures.value c.in-Some.ensures.comes c.loop-entry.invariant.1,
)

pub Entries::dictionary-returns : goal.Entries::dictionary-returns
Entries::dictionary-returns t c = rw (← c.in_ok-pairs.ensures, ← c.key_type-key.ensures, ← c.value_type-value.ensures) c.dictionary_of.ensures
