-- What is answered has the signature that the table names.
use Rattle.std.proofs.Common.{◌≡◌, ℕ, Bool, true, false, Option, Some, None, refl}
use Rattle.std.specs.Prelude.{ℤ, pos, negsuc, ◌*◌, ◌/◌, ◌%◌, nat_lt, List, [], ◌∷◌, codes, if◌then◌else◌}
use Rattle.atspi_types.specs.Data.{Data, type_of}
use Rattle.atspi_types.specs.Signatures.{type_bytes}
use Rattle.atspi_units.specs.Pieces.{Piece}
use Rattle.atspi_tree_model.specs.declared.edit.Edit.TheVariants as edits
use Rattle.atspi_tree_model.specs.declared.step.Step.{Step}
use Rattle.atspi_tree_model.specs.Row.{TreeRow}
use Rattle.atspi_tree_model.specs.RowRules.{rows}
use Rattle.atspi_tree_model.specs.Tree.{seat_of}
use Rattle.atspi_protocol.specs.members.Arguments.{signed_at, text_at, unsigned_at}
use Rattle.atspi_protocol.specs.members.Asked.{signature_of}
use Rattle.atspi_protocol.specs.members.Granularity.{grain_of}
use Rattle.atspi_protocol.specs.objects.Application.{Application}
use Rattle.atspi_protocol.specs.objects.Values.{count_data, reference_or_null}
use Rattle.atspi_protocol.specs.objects.Children.{at, children_of, selected_children, parent_data, index_data}
use Rattle.atspi_protocol.specs.objects.Texts.{text_of, character_data, piece_data, piece_there, selection_data}
use Rattle.atspi_protocol.specs.objects.Tables.{cell_at, cell_index, index_or_none, in_cells, columns_of, rows_of}
use Rattle.atspi_protocol.specs.objects.Answers.{changes, name_data}
use Rattle.atspi_protocol.specs.objects.Changes as changing
use Rattle.atspi_protocol.specs.exporting.Laws.{HasSignature, SignaturesAreKept}

to_node : (a : Application) (o : Option TreeRow) → signature_of (reference_or_null a o ∷ []) ≡ codes "(so)"
to_node a None = refl
to_node a (Some row) = refl

change : (a : Application) (o : Option (List Step)) → HasSignature (codes "b") (changes a o).reply
change a None = refl
change a (Some steps) = refl

named : (o : Option (List ℕ)) → signature_of (name_data o ∷ []) ≡ codes "s"
named None = refl
named (Some name) = refl

character : (o : Option ℕ) → signature_of (character_data o ∷ []) ≡ codes "i"
character None = refl
character (Some c) = refl

piece : (o : Option Piece) → signature_of (piece_data o) ≡ codes "sii"
piece None = refl
piece (Some found) = refl

range : (o : Option (ℕ × ℕ)) → signature_of (selection_data o) ≡ codes "ii"
range None = refl
range (Some s) = refl

index : (o : Option ℕ) → signature_of (index_or_none o ∷ []) ≡ codes "i"
index None = refl
index (Some i) = refl

if_number : (b : Bool) (x y : Data) → type_bytes (type_of x) ≡ codes "i" → type_bytes (type_of y) ≡ codes "i" → signature_of ((if b then x else y) ∷ []) ≡ codes "i"
if_number true x y hx hy = rw hx refl
if_number false x y hx hy = rw hy refl

in_cell : (a : Application) (row : TreeRow) (f : ℕ → ℕ → ℕ) (z : ℤ) → signature_of (in_cells a row f z ∷ []) ≡ codes "i"
in_cell a row f (negsuc i) = refl
in_cell a row f (pos i) = if_number (nat_lt i (rows_of a row * columns_of row)) (count_data (f i (columns_of row))) _ refl refl

seat_parent : (a : Application) (row : TreeRow) → type_bytes (type_of (parent_data a row)) ≡ codes "(so)"
seat_parent a row = at_seat (seat_of rows row.shape.node a.tree) refl
  where
    at_seat : (o : Option (Option ℕ × ℕ)) → seat_of rows row.shape.node a.tree ≡ o → type_bytes (type_of (parent_data a row)) ≡ codes "(so)"
    at_seat None h = rw h refl
    at_seat (Some (None, i)) h = rw h refl
    at_seat (Some (Some p, i)) h = rw h refl

seat_index : (a : Application) (row : TreeRow) → signature_of (index_data a row ∷ []) ≡ codes "i"
seat_index a row = at_seat (seat_of rows row.shape.node a.tree) refl
  where
    at_seat : (o : Option (Option ℕ × ℕ)) → seat_of rows row.shape.node a.tree ≡ o → signature_of (index_data a row ∷ []) ≡ codes "i"
    at_seat None h = rw h refl
    at_seat (Some (None, i)) h = rw h refl
    at_seat (Some (Some p, i)) h = rw h refl

pub signatures_are_kept : SignaturesAreKept
signatures_are_kept = record {
  members = (
    (λ a row body. to_node a (at (signed_at 0 body) (children_of a row))),
    (
      (λ a row body. refl),
      (
        (λ a row body. seat_index a row),
        (
          (λ a row body. refl),
          (
            (λ a row body. refl),
            (
              (λ a row body. refl),
              (
                (λ a row body. refl),
                (
                  (λ a row body. refl),
                  (
                    (λ a row body. refl),
                    (
                      (λ a row body. refl),
                      (
                        (λ a row body. refl),
                        (
                          (λ a row body. refl),
                          (
                            (λ a row body. refl),
                            (
                              (λ a row body. change a (changing.edited_at a (edits.Caret row.shape.node) (signed_at 0 body))),
                              (
                                (λ a row body. character (at (signed_at 0 body) (text_of row).characters)),
                                (
                                  (λ a row body. piece (piece_there (grain_of (unsigned_at 1 body)) (text_of row).characters (signed_at 0 body))),
                                  (
                                    (λ a row body. refl),
                                    (
                                      (λ a row body. range (at (signed_at 0 body) (text_of row).selections)),
                                      (
                                        (λ a row body. change a (changing.edited_between a (edits.Mark row.shape.node) (signed_at 0 body) (signed_at 1 body))),
                                        (
                                          (λ a row body. change a (changing.selection_removed row (signed_at 0 body))),
                                          (
                                            (λ a row body. change a (changing.selection_set row (signed_at 0 body) (signed_at 1 body) (signed_at 2 body))),
                                            (
                                              (λ a row body. change a (changing.text_exchanged a row (text_at 0 body))),
                                              (
                                                (λ a row body. change a (changing.edited_at a (λ place. edits.Put row.shape.node place (text_at 1 body)) (signed_at 0 body))),
                                                (
                                                  (λ a row body. change a (changing.edited_between a (edits.Cut row.shape.node) (signed_at 0 body) (signed_at 1 body))),
                                                  (
                                                    (λ a row body. to_node a (at (signed_at 0 body) (selected_children a row))),
                                                    (
                                                      (λ a row body. change a (changing.edited_at a (edits.Select row.shape.node) (signed_at 0 body))),
                                                      (
                                                        (λ a row body. change a (changing.edited_at a (edits.Deselect row.shape.node) (signed_at 0 body))),
                                                        (
                                                          (λ a row body. change a (changing.selected_child_off a row (signed_at 0 body))),
                                                          (
                                                            (λ a row body. refl),
                                                            (
                                                              (λ a row body. change a (changing.all_selected a row)),
                                                              (
                                                                (λ a row body. refl),
                                                                (
                                                                  (λ a row body. to_node a (cell_at a row (signed_at 0 body) (signed_at 1 body))),
                                                                  (
                                                                    (λ a row body. index (cell_index a row (signed_at 0 body) (signed_at 1 body))),
                                                                    (
                                                                      (λ a row body. in_cell a row (λ i columns. i / columns) (signed_at 0 body)),
                                                                      (
                                                                        (λ a row body. in_cell a row (λ i columns. i % columns) (signed_at 0 body)),
                                                                        (
                                                                          (λ a row body. refl),
                                                                          (
                                                                            (λ a row body. refl),
                                                                            (
                                                                              (λ a row body. refl),
                                                                              (
                                                                                (λ a row body. named (at (signed_at 0 body) row.contents.actions)),
                                                                                (
                                                                                  (λ a row body. refl),
                                                                                  (
                                                                                    (λ a row body. refl),
                                                                                    (
                                                                                      (λ a row body. refl),
                                                                                      (
                                                                                        (λ a row body. change a (changing.edited_at a (edits.Press row.shape.node) (signed_at 0 body))),
                                                                                        tt,
                                                                                      ),
                                                                                    ),
                                                                                  ),
                                                                                ),
                                                                              ),
                                                                            ),
                                                                          ),
                                                                        ),
                                                                      ),
                                                                    ),
                                                                  ),
                                                                ),
                                                              ),
                                                            ),
                                                          ),
                                                        ),
                                                      ),
                                                    ),
                                                  ),
                                                ),
                                              ),
                                            ),
                                          ),
                                        ),
                                      ),
                                    ),
                                  ),
                                ),
                              ),
                            ),
                          ),
                        ),
                      ),
                    ),
                  ),
                ),
              ),
            ),
          ),
        ),
      ),
    ),
  );
  properties = (
    (λ a row. refl),
    (
      (λ a row. refl),
      (
        (λ a row. seat_parent a row),
        (
          (λ a row. refl),
          (
            (λ a row. refl),
            (
              (λ a row. refl),
              (
                (λ a row. refl),
                (
                  (λ a row. refl),
                  (
                    (λ a row. refl),
                    (
                      (λ a row. refl),
                      (
                        (λ a row. refl),
                        (
                          (λ a row. refl),
                          (
                            (λ a row. refl),
                            (
                              (λ a row. refl),
                              (
                                (λ a row. refl),
                                (
                                  (λ a row. refl),
                                  tt,
                                ),
                              ),
                            ),
                          ),
                        ),
                      ),
                    ),
                  ),
                ),
              ),
            ),
          ),
        ),
      ),
    ),
  );
  got = λ a row property. refl;
  got_all = λ a row lines. refl;
  items = λ a body. refl;
}
