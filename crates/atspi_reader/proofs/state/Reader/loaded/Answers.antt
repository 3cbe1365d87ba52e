use Rattle.std.proofs.Common.{List, ℕ, ap, sym, ◌∙◌}
use Rattle.std.specs.Prelude.{Option}
use Rattle.std.specs.Option.{option_copied}
use Rattle.atspi_tree_model.specs.declared.news.Item.{Item}
use Rattle.atspi_protocol.specs.following.ReaderState.{Followed}
use Rattle.atspi_protocol.specs.following.Replied.{with_items}
use Rattle.atspi_protocol.specs.following.Takes.{found_in}
use Rattle.atspi_reader.specs.ReaderOf.{reader_of}
use Rattle.atspi_reader.proofs.Changed.{found_name}
use Rattle.atspi_reader.proofs.Replies.{put_loaded, not_loaded}
use Rattle.atspi_reader.proofs.state.Reader.loaded.Goals as goal

pub returns-in_ok-loaded-in-Some-found-clause-apps : goal.returns-in_ok-loaded-in-Some-found-clause-apps
returns-in_ok-loaded-in-Some-found-clause-apps c =
    let s = reader_of c.args.self.now in
    let found = sym (ap (λ (n : List ℕ). found_in n s.apps) c.as_str.ensures.bytes) ∙ sym c.found.ensures ∙ ap option_copied c.in-Some-found.is in
    put_loaded c.in-Some.items c.args.name.now s.apps c.in-Some-found.app.now _ c.requires.unique found c.in_ok-loaded-in-Some-found.ensures
    ∙ ap (λ (o : Option (List Item)). (with_items s c.args.name.now o).apps) (sym c.in-Some.is ∙ c.in_ok-items.ensures)

pub returns-in_ok-loaded-in-Some-found-clause-named : goal.returns-in_ok-loaded-in-Some-found-clause-named
returns-in_ok-loaded-in-Some-found-clause-named c =
    let s = reader_of c.args.self.now in
    let found = sym (ap (λ (n : List ℕ). found_in n s.apps) c.as_str.ensures.bytes) ∙ sym c.found.ensures ∙ ap option_copied c.in-Some-found.is in
    ap (λ (a : Followed). a.name) c.in_ok-loaded-in-Some-found.ensures ∙ found_name c.args.name.now s.apps c.in-Some-found.app.now found

pub returns-in-None-clause-apps : goal.returns-in-None-clause-apps
returns-in-None-clause-apps c =
    let s = reader_of c.args.self.now in
    let found = sym (ap (λ (n : List ℕ). found_in n s.apps) c.as_str.ensures.bytes) ∙ sym c.found.ensures ∙ ap option_copied c.in-None.is in
    not_loaded c.in-Some.items c.args.name.now s.apps found
    ∙ ap (λ (o : Option (List Item)). (with_items s c.args.name.now o).apps) (sym c.in-Some.is ∙ c.in_ok-items.ensures)
